-- Arguments behind an opening byte, and in brackets.
use Rattle.std.proofs.Common.{◌≡◌, ℕ, suc, ◌+◌, ◌<◌, ◌≤◌, true, cond, not, List, [], ◌∷◌, ◌++◌, length, map, take, drop, Some, None, Option, refl, sym, ap, ◌∙◌, subst, arith, append_assoc}
use Rattle.std.specs.Prelude.{⊤, codes}
use Rattle.std.specs.List.{flat_map, zip, list_all, position_or_len}
use Rattle.std.proofs.lemmas.List.{take_at, drop_at, take-append-drop, length-map}
use Rattle.golog_tree.specs.declared.agent.Agent.{Agent}
use Rattle.golog_tree.specs.Ground.{AreWithin, sizes, sort_size}
use Rattle.golog_semantics.specs.Text.{Text, constant_text, args_text}
use Rattle.golog_semantics.proofs.Words.{and-left, and-right}
use Rattle.golog_ground.specs.Texts.{IsTheOne, IsUnmarked, WritesArgs, WritesConstant, WritesEnclosed, enclosed, is_mark}
use Rattle.golog_ground.proofs.Answers.{none-fits, only-fits, some-same}

-- the text ends, or goes on with a bracket or a comma
abbrev pub StartsMarked : Text → Type 0
StartsMarked [] = ⊤
StartsMarked (byte ∷ text) = is_mark byte ≡ true

-- how many bytes stand before the first bracket or comma
abbrev pub front : Text → ℕ
front text = position_or_len is_mark text

pub front-unmarked : (word rest : Text) → IsUnmarked word → StartsMarked rest → front (word ++ rest) ≡ length word
front-unmarked [] [] h k = refl
front-unmarked [] (byte ∷ rest) h k = ap (λ m. cond (not m) (1 + front rest) 0) k
front-unmarked (byte ∷ word) rest h k =
    let here : not (is_mark byte) ≡ true = and-left (not (is_mark byte)) (list_all (λ b. not (is_mark b)) word) h in
    let later : front (word ++ rest) ≡ length word = front-unmarked word rest (and-right (not (is_mark byte)) (list_all (λ b. not (is_mark b)) word) h) k in
    let more : 1 + front (word ++ rest) ≡ suc (length word) = omega arith in
    ap (λ m. cond m (1 + front (word ++ rest)) 0) here ∙ more

module _ (word rest text : Text) (same : word ++ rest ≡ text) (unmarked : IsUnmarked word) (marked : StartsMarked rest) where
  pub take-front : take (front text) text ≡ word
  take-front = ap (λ t. take (front t) t) (sym same) ∙ take_at word rest (front (word ++ rest)) (sym (front-unmarked word rest unmarked marked))

  pub drop-front : drop (front text) text ≡ rest
  drop-front = ap (λ t. drop (front t) t) (sym same) ∙ drop_at word rest (front (word ++ rest)) (sym (front-unmarked word rest unmarked marked))

length-within : (ns args : List ℕ) → AreWithin ns args → length args ≡ length ns
length-within [] [] w = refl
length-within [] (a ∷ args) w = absurd w
length-within (n ∷ ns) [] w = absurd w
length-within (n ∷ ns) (a ∷ args) w = ap (λ k. suc k) (length-within ns args w.1)

module _ (agent : Agent) where
  starts-marked : (sorts args : List ℕ) → StartsMarked (enclosed agent 44 sorts args)
  starts-marked [] args = refl
  starts-marked (s ∷ sorts) [] = refl
  starts-marked (s ∷ sorts) (a ∷ args) = refl

  pub few-read : (opening sort : ℕ) (sorts later args : List ℕ) (bytes : Text) → sorts ≡ sort ∷ later → length sorts ≤ 3
      → IsTheOne (Some args) (WritesEnclosed agent opening later bytes) → length args < 3
  few-read opening sort sorts later args bytes e few h =
      let w : WritesEnclosed agent opening later bytes args = (h args).0 refl in
      let l = length-within (sizes agent later) args w.0 in
      let m = length-map later (sort_size agent) in
      let k : length sorts ≡ suc (length later) = ap length e in
      omega (arith, l, m, k)

  closed : (opening : ℕ) (bytes : Text) → bytes ≡ 41 ∷ [] → IsTheOne (Some []) (WritesEnclosed agent opening [] bytes)
  closed opening bytes e = only-fits (WritesEnclosed agent opening [] bytes) [] (tt, sym e) (λ args w. alone args w.0)
    where
      alone : (args : List ℕ) → AreWithin [] args → [] ≡ args
      alone [] w = refl
      alone (a ∷ args) w = absurd w

  empty : (sorts : List ℕ) → length sorts ≡ 0 → sorts ≡ []
  empty [] e = refl
  empty (s ∷ sorts) e = absurd (omega arith)

  pub none-left : (opening : ℕ) (sorts args : List ℕ) (bytes : Text) → length sorts ≡ 0 → args ≡ [] → bytes ≡ 41 ∷ [] → IsTheOne (Some args) (WritesEnclosed agent opening sorts bytes)
  none-left opening sorts args bytes e k h =
      subst (λ xs. IsTheOne (Some xs) (WritesEnclosed agent opening sorts bytes)) (sym k)
      (subst (λ xs. IsTheOne (Some []) (WritesEnclosed agent opening xs bytes)) (sym (empty sorts e)) (closed opening bytes h))

  module _ (opening sort byte : ℕ) (sorts : List ℕ) (rest constant behind : Text)
      (before : constant ≡ take (front rest) rest) (after : behind ≡ drop (front rest) rest)
      (unmarked : (v : ℕ) → v < sort_size agent sort → IsUnmarked (constant_text agent sort v)) where
    -- the first argument, and those after it
    record AreParts (args : List ℕ) : Type 0 where
      arg : ℕ
      later : List ℕ
      is : args ≡ arg ∷ later
      first : WritesConstant agent sort constant arg
      others : WritesEnclosed agent 44 sorts behind later

    parts : (args : List ℕ) → WritesEnclosed agent opening (sort ∷ sorts) (byte ∷ rest) args → AreParts args
    parts [] w = absurd w.0
    parts (a ∷ args) w =
        let h : AreWithin (sizes agent (sort ∷ sorts)) (a ∷ args) = w.0 in
        let e : opening ∷ (constant_text agent sort a ++ enclosed agent 44 sorts args) ≡ byte ∷ rest = w.1 in
        let same : constant_text agent sort a ++ enclosed agent 44 sorts args ≡ rest = cc in
        let front_is = take-front (constant_text agent sort a) (enclosed agent 44 sorts args) rest same (unmarked a h.0) (starts-marked sorts args) in
        let back_is = drop-front (constant_text agent sort a) (enclosed agent 44 sorts args) rest same (unmarked a h.0) (starts-marked sorts args) in
        record { arg = a; later = args; is = refl; first = (h.0, sym front_is ∙ sym before); others = (h.1, sym back_is ∙ sym after) }

    pub no-constant : IsTheOne None (WritesConstant agent sort constant) → IsTheOne None (WritesEnclosed agent opening (sort ∷ sorts) (byte ∷ rest))
    no-constant h = none-fits (WritesEnclosed agent opening (sort ∷ sorts) (byte ∷ rest)) (λ args w.
        let p = parts args w in let e : None ≡ Some p.arg = (h p.arg).1 p.first in absurd (cc))

    pub no-more : IsTheOne None (WritesEnclosed agent 44 sorts behind) → IsTheOne None (WritesEnclosed agent opening (sort ∷ sorts) (byte ∷ rest))
    no-more h = none-fits (WritesEnclosed agent opening (sort ∷ sorts) (byte ∷ rest)) (λ args w.
        let p = parts args w in let e : None ≡ Some p.later = (h p.later).1 p.others in absurd (cc))

    pub more : byte ≡ opening → (a : ℕ) (args : List ℕ) → IsTheOne (Some a) (WritesConstant agent sort constant)
        → IsTheOne (Some args) (WritesEnclosed agent 44 sorts behind) → IsTheOne (Some (a ∷ args)) (WritesEnclosed agent opening (sort ∷ sorts) (byte ∷ rest))
    more e a args h k =
        let one : WritesConstant agent sort constant a = (h a).0 refl in
        let others : WritesEnclosed agent 44 sorts behind args = (k args).0 refl in
        let text : constant_text agent sort a ++ enclosed agent 44 sorts args ≡ rest =
        (λ i. (one.1 ∙ before) i ++ (others.1 ∙ after) i) ∙ take-append-drop (front rest) rest in
        only-fits (WritesEnclosed agent opening (sort ∷ sorts) (byte ∷ rest)) (a ∷ args)
        ((one.0, others.0), (λ i. sym e i ∷ text i))
        (λ found w.
        let p = parts found w in
        let f : a ≡ p.arg = some-same a p.arg ((h p.arg).1 p.first) in
        let g : args ≡ p.later = some-same args p.later ((k p.later).1 p.others) in
        (λ i. f i ∷ g i) ∙ sym p.is)

  pub split : (opening sort byte : ℕ) (sorts later : List ℕ) (bytes rest : Text) (answer : Option (List ℕ)) → sorts ≡ sort ∷ later → bytes ≡ byte ∷ rest
      → IsTheOne answer (WritesEnclosed agent opening (sort ∷ later) (byte ∷ rest)) → IsTheOne answer (WritesEnclosed agent opening sorts bytes)
  split opening sort byte sorts later bytes rest answer e k h =
      subst (λ xs. IsTheOne answer (WritesEnclosed agent opening xs bytes)) (sym e)
      (subst (λ bs. IsTheOne answer (WritesEnclosed agent opening (sort ∷ later) bs)) (sym k) h)

  abbrev texts : List ℕ → List ℕ → List Text
  texts sorts args = map (λ at. constant_text agent at.0 at.1) (zip sorts args)

  commas : (sorts args : List ℕ) → flat_map (λ y. codes "," ++ y) (texts sorts args) ++ 41 ∷ [] ≡ enclosed agent 44 sorts args
  commas [] args = refl
  commas (s ∷ sorts) [] = refl
  commas (s ∷ sorts) (a ∷ args) =
      ap (λ t. 44 ∷ t) (append_assoc (constant_text agent s a) (flat_map (λ y. codes "," ++ y) (texts sorts args)) (41 ∷ [])
      ∙ ap (λ t. constant_text agent s a ++ t) (commas sorts args))

  pub brackets : (s : ℕ) (sorts : List ℕ) (a : ℕ) (args : List ℕ) → args_text agent (s ∷ sorts) (a ∷ args) ≡ enclosed agent 40 (s ∷ sorts) (a ∷ args)
  brackets s sorts a args =
      ap (λ t. 40 ∷ t) (append_assoc (constant_text agent s a) (flat_map (λ y. codes "," ++ y) (texts sorts args)) (41 ∷ [])
      ∙ ap (λ t. constant_text agent s a ++ t) (commas sorts args))

  pub in-brackets : (sorts args : List ℕ) → 0 < length sorts → AreWithin (sizes agent sorts) args → args_text agent sorts args ≡ enclosed agent 40 sorts args
  in-brackets [] args l w = absurd (omega arith)
  in-brackets (s ∷ sorts) [] l w = absurd w
  in-brackets (s ∷ sorts) (a ∷ args) l w = brackets s sorts a args

  pub read-brackets : (sorts : List ℕ) (bytes : Text) (answer : Option (List ℕ)) → 0 < length sorts
      → IsTheOne answer (WritesEnclosed agent 40 sorts bytes) → IsTheOne answer (WritesArgs agent sorts bytes)
  read-brackets sorts bytes answer l h args = (
    λ e. let w : WritesEnclosed agent 40 sorts bytes args = (h args).0 e in (w.0, in-brackets sorts args l w.0 ∙ w.1),
    λ w. (h args).1 (w.0, sym (in-brackets sorts args l w.0) ∙ w.1),
  )
