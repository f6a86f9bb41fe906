-- One argument less of a head, and the numbers of the ground things that are left.
use Rattle.std.proofs.Common.{◌≡◌, ℕ, suc, ◌+◌, ◌*◌, ◌/◌, ◌<◌, ◌≤◌, true, false, List, [], ◌∷◌, ◌++◌, length, refl, sym, ap, ◌∙◌, subst, arith, add-zero}
use Rattle.std.proofs.Math.Arith.{digits_div}
use Rattle.std.proofs.Math.Nat.{mul_comm}
use Rattle.golog_tree.specs.declared.agent.Agent.{Agent}
use Rattle.golog_tree.specs.declared.agent.CauseItem.{CauseItem}
use Rattle.golog_tree.specs.declared.cond.Arg.{Arg}
use Rattle.golog_tree.specs.Ground.{product, sizes, sort_size}
use Rattle.golog_semantics.specs.Truth.{Values, arg_value}
use Rattle.golog_semantics.proofs.GroundNumbers.{factors}
use Rattle.golog_progress.specs.Effects.{is_next, effect_of, HeadFits, IsSpread, IsRanged}
use Rattle.golog_progress.proofs.Heads.{fixed, next, Fixed, no_more_args}
use Rattle.golog_progress.proofs.Spread.{at_fixed, ranged-all, part-behind}

module _ (agent : Agent) (cause : CauseItem) (sorts : List ℕ) (args : List Arg) (found : List ℕ) (sort : ℕ) (later : List ℕ) (arg : Arg) (others : List Arg) (count size : ℕ)
    (es : sorts ≡ sort ∷ later) (ea : args ≡ arg ∷ others) (size_is : size ≡ sort_size agent sort) (count_is : count ≡ product (sizes agent sorts)) (some : 0 < count) (head : HeadFits agent cause sorts args found) where
  abbrev pub w : ℕ
  w = product (sizes agent later)

  pub whole : count ≡ size * w
  whole = count_is ∙ ap (λ ss. product (sizes agent ss)) es ∙ ap (λ n. n * w) (sym size_is)

  pub both_some : (0 < size) × (0 < w)
  both_some = factors size w (subst (λ n. 0 < n) whole some)

  pub width : count / size ≡ w
  width = ap (λ n. n / size) (whole ∙ mul_comm size w ∙ sym (add-zero (w * size))) ∙ digits_div w both_some.0

  pub head_of : HeadFits agent cause (sort ∷ later) (arg ∷ others) found
  head_of = subst (λ xs. HeadFits agent cause (sort ∷ later) xs found) ea (subst (λ ss. HeadFits agent cause ss args found) es head)

  pub longer : length sorts ≡ length later + 1
  longer = ap length es ∙ (let k : suc (length later) ≡ length later + 1 = omega arith in k)

  pub room : length found < 6
  room = let few : length found + suc (length others) ≤ 6 = head_of.few in omega arith

  pub nexts : is_next found arg ≡ true → (c : ℕ) → c < size → HeadFits agent cause later others (found ++ c ∷ [])
  nexts free c below = next agent cause sort later arg others found c free (subst (λ n. c < n) size_is below) head_of

  pub fixed_of : is_next found arg ≡ false → Fixed agent cause sort later arg others found
  fixed_of taken = fixed agent cause sort later arg others found taken head_of

  module _ (values : Values) (first : ℕ) (old new : Values) where
    pub spread_next : is_next found arg ≡ true → IsRanged (effect_of agent values cause) (sizes agent later) others found first old size new
        → IsSpread (effect_of agent values cause) (sizes agent sorts) args found first old new
    spread_next free r =
        let s = ranged-all agent values cause (sizes agent later) others found first old size arg new free both_some.1 r in
        let t : IsSpread (effect_of agent values cause) (sizes agent (sort ∷ later)) (arg ∷ others) found first old new =
        subst (λ n. IsSpread (effect_of agent values cause) (n ∷ sizes agent later) (arg ∷ others) found first old new) size_is s in
        subst (λ ss. IsSpread (effect_of agent values cause) (sizes agent ss) args found first old new) (sym es)
        (subst (λ xs. IsSpread (effect_of agent values cause) (sizes agent (sort ∷ later)) xs found first old new) (sym ea) t)

    pub spread_fixed : is_next found arg ≡ false → (v start : ℕ) → v ≡ arg_value found arg → start ≡ first + v * w
        → IsSpread (effect_of agent values cause) (sizes agent later) others found start old new
        → IsSpread (effect_of agent values cause) (sizes agent sorts) args found first old new
    spread_fixed taken v start is there r =
        let below : v < sort_size agent sort = subst (λ x. x < sort_size agent sort) (sym is) (fixed_of taken).below in
        let t : IsSpread (effect_of agent values cause) (sizes agent (sort ∷ later)) (arg ∷ others) found first old new =
        at_fixed agent values cause (sort_size agent sort) (sizes agent later) arg others found first old new taken v is below both_some.1
        (subst (λ f. IsSpread (effect_of agent values cause) (sizes agent later) others found f old new) there r) in
        subst (λ ss. IsSpread (effect_of agent values cause) (sizes agent ss) args found first old new) (sym es)
        (subst (λ xs. IsSpread (effect_of agent values cause) (sizes agent (sort ∷ later)) xs found first old new) (sym ea) t)

  -- a part lies within the whole
  pub part_within : is_next found arg ≡ false → (v : ℕ) → v ≡ arg_value found arg → v * w + w ≤ count
  part_within taken v is =
      let below : v < size = subst (λ n. v < n) (sym size_is) (subst (λ x. x < sort_size agent sort) (sym is) (fixed_of taken).below) in
      let r : v * w + w ≤ size * w = part-behind v size w below both_some.1 in
      omega (arith, whole)

-- what is known where the head has one argument more
pub record Narrowed (agent : Agent) (cause : CauseItem) (sorts : List ℕ) (args : List Arg) (found : List ℕ) (later : List ℕ) (arg : Arg) (others : List Arg) (count size : ℕ) : Type 0 where
  pub size_some : 0 < size
  pub some : 0 < product (sizes agent later)
  pub width : count / size ≡ product (sizes agent later)
  pub whole : count ≡ size * product (sizes agent later)
  pub longer : length sorts ≡ length later + 1
  pub room : length found < 6
  pub nexts : is_next found arg ≡ true → (c : ℕ) → c < size → HeadFits agent cause later others (found ++ c ∷ [])
  pub rest : is_next found arg ≡ false → HeadFits agent cause later others found
  pub part : is_next found arg ≡ false → (v : ℕ) → v ≡ arg_value found arg → v * product (sizes agent later) + product (sizes agent later) ≤ count
  pub all : (values : Values) (first : ℕ) (old new : Values) → is_next found arg ≡ true → IsRanged (effect_of agent values cause) (sizes agent later) others found first old size new
      → IsSpread (effect_of agent values cause) (sizes agent sorts) args found first old new
  pub one : (values : Values) (first : ℕ) (old new : Values) → is_next found arg ≡ false → (v start : ℕ) → v ≡ arg_value found arg → start ≡ first + v * product (sizes agent later)
      → IsSpread (effect_of agent values cause) (sizes agent later) others found start old new
      → IsSpread (effect_of agent values cause) (sizes agent sorts) args found first old new

pub narrow : {agent : Agent} {cause : CauseItem} {sorts : List ℕ} {args : List Arg} {found : List ℕ} {sort : ℕ} {later : List ℕ} {arg : Arg} {others : List Arg} {count size : ℕ}
    → HeadFits agent cause sorts args found → sorts ≡ sort ∷ later → args ≡ arg ∷ others → size ≡ sort_size agent sort → count ≡ product (sizes agent sorts) → 0 < count
    → Narrowed agent cause sorts args found later arg others count size
narrow {agent} {cause} {sorts} {args} {found} {sort} {later} {arg} {others} {count} {size} head es ea size_is count_is some = record {
  size_some = (both_some agent cause sorts args found sort later arg others count size es ea size_is count_is some head).0;
  some = (both_some agent cause sorts args found sort later arg others count size es ea size_is count_is some head).1;
  width = width agent cause sorts args found sort later arg others count size es ea size_is count_is some head;
  whole = whole agent cause sorts args found sort later arg others count size es ea size_is count_is some head;
  longer = longer agent cause sorts args found sort later arg others count size es ea size_is count_is some head;
  room = room agent cause sorts args found sort later arg others count size es ea size_is count_is some head;
  nexts = nexts agent cause sorts args found sort later arg others count size es ea size_is count_is some head;
  rest = λ taken. (fixed_of agent cause sorts args found sort later arg others count size es ea size_is count_is some head taken).rest;
  part = part_within agent cause sorts args found sort later arg others count size es ea size_is count_is some head;
  all = spread_next agent cause sorts args found sort later arg others count size es ea size_is count_is some head;
  one = spread_fixed agent cause sorts args found sort later arg others count size es ea size_is count_is some head;
}

none-of : (xs : List ℕ) → length xs ≡ 0 → xs ≡ []
none-of [] h = refl
none-of (x ∷ xs) h = absurd (omega arith)

-- no sort is left: no argument is
pub ended : {agent : Agent} {cause : CauseItem} {sorts : List ℕ} {args : List Arg} {found : List ℕ} → HeadFits agent cause sorts args found → length sorts ≡ 0 → HeadFits agent cause [] [] found
ended {agent} {cause} {sorts} {args} {found} head h =
    let e : sorts ≡ [] = none-of sorts h in
    let k : HeadFits agent cause [] args found = subst (λ ss. HeadFits agent cause ss args found) e head in
    subst (λ xs. HeadFits agent cause [] xs found) (no_more_args agent cause args found k) k

pub both_ended : {agent : Agent} {cause : CauseItem} {sorts : List ℕ} {args : List Arg} {found : List ℕ} → HeadFits agent cause sorts args found → length sorts ≡ 0
    → (values : Values) (first : ℕ) (old new : Values) → IsSpread (effect_of agent values cause) [] [] found first old new → IsSpread (effect_of agent values cause) (sizes agent sorts) args found first old new
both_ended {agent} {cause} {sorts} {args} {found} head h values first old new s =
    let e : sorts ≡ [] = none-of sorts h in
    let k : HeadFits agent cause [] args found = subst (λ ss. HeadFits agent cause ss args found) e head in
    subst (λ ss. IsSpread (effect_of agent values cause) (sizes agent ss) args found first old new) (sym e)
    (subst (λ xs. IsSpread (effect_of agent values cause) [] xs found first old new) (sym (no_more_args agent cause args found k)) s)
