-- States by numbers, and the states that they stand for.
use Rattle.std.proofs.Common.{◌≡◌, ℕ, zero, suc, ◌+◌, ◌<◌, ◌==◌, ◌&&◌, ◌||◌, Bool, true, false, if◌then◌else◌, List, [], ◌∷◌, ◌++◌, length, drop, map, Option, Some, inl, inr, refl, sym, ap, ◌∙◌, subst, get_or, arith}
use Rattle.std.specs.Prelude.{◌↔◌, All, IsTrue, fold, slice_get, unwrap_or}
use Rattle.std.specs.Cmp.{both_ways}
use Rattle.std.specs.List.{list_any, position_from}
use Rattle.std.specs.Option.{option_map}
use Rattle.std.proofs.lemmas.Bool.{eqb-true, eq-eqb}
use Rattle.std.proofs.lemmas.List.{drop_more, length-map, length_push}
use Rattle.std.proofs.lemmas.List.Elements.{All-cons, All-get_or, All-head, All-nil, All-push, All-tail, All-weaker}
use Rattle.std.proofs.lemmas.Option.{slice_get-get_or, slice_get-map, slice_get_read, slice_get_within}
use Rattle.golog_tree.specs.declared.agent.Agent.{Agent}
use Rattle.golog_tree.specs.declared.prog.Label.{Label}
use Rattle.golog_tree.specs.declared.prog.Label.TheVariants.{Quiet}
use Rattle.golog_tree.specs.declared.prog.Prog.{Prog}
use Rattle.golog_tree.specs.declared.prog.Prog.TheVariants.{Nil}
use Rattle.golog_tree.specs.declared.prog.Way.{Way}
use Rattle.golog_semantics.specs.declared.Mode.{Mode}
use Rattle.golog_semantics.specs.Blocks.{same_state}
use Rattle.golog_semantics.specs.InSorts.{AreInSorts}
use Rattle.golog_semantics.specs.Same.{same_prog, same_values}
use Rattle.golog_semantics.specs.Search.{final, is_followed, plain_ways}
use Rattle.golog_semantics.specs.Truth.{Values}
use Rattle.golog_semantics.specs.Values.{after}
use Rattle.golog_semantics.specs.Ways.{is_empty}
use Rattle.golog_semantics.proofs.ByParts.{OfEach}
use Rattle.golog_semantics.proofs.GroundNumbers.{slice_get-left, some-same}
use Rattle.golog_semantics.proofs.SameLaws.{same_prog-eq, same_prog-same}
use Rattle.golog_ways.specs.Searched.{IsSearched}
use Rattle.golog_memo.specs.Numbered.{AreOnce, IsAddedTo}
use Rattle.golog_find.specs.declared.level.Level.{Level as AnyLevel}
use Rattle.golog_find.specs.declared.numbered.Numbered.{Numbered}
use Rattle.golog_find.specs.Levels.{AreSearched, Level, Looked, Reached, is_stored, is_there, reached_by, start_of, state_of, stored_steps, with_state, with_stored, with_way}
use Rattle.golog_find.specs.Numbers.{GoesOn, HaveNumbers, IsLevel, Sees, all_meant, is_pair, led, level_of, meant, with_numbered}
use Rattle.golog_find.proofs.LevelParts.{map-append}

pub goes_on-same : (progs : List Prog) → GoesOn progs progs
goes_on-same progs = record { longer = omega arith; same = λ i l. refl }

pub goes_on-further : (progs more most : List Prog) → GoesOn progs more → GoesOn more most → GoesOn progs most
goes_on-further progs more most h k =
    let one = h.longer in
    let other = k.longer in
    record { longer = omega arith; same = λ i l. k.same i (omega arith) ∙ h.same i l }

goes_on-push : (progs : List Prog) (prog : Prog) → GoesOn progs (progs ++ prog ∷ [])
goes_on-push progs prog =
    let count = length_push progs prog in
    record { longer = omega arith; same = λ i l. slice_get-left progs (prog ∷ []) i l }

pub goes_on-added : (progs more : List Prog) (prog : Prog) → IsAddedTo progs prog more → GoesOn progs more
goes_on-added progs more prog h = elim h [
  | inl e ↦ subst (GoesOn progs) (sym e) (goes_on-same progs)
  | inr e ↦ subst (GoesOn progs) (sym e) (goes_on-push progs prog)
]

pub numbers-stay : (progs more : List Prog) (states : List Numbered) → GoesOn progs more → HaveNumbers progs states → HaveNumbers more states
numbers-stay progs more states h k =
    let longer = h.longer in
    All-weaker (λ (n : Numbered). n.left < length progs) (λ (n : Numbered). n.left < length more) (λ n l. omega arith) states k

pub numbers-with : (progs : List Prog) (states : List Numbered) (n : Numbered) → HaveNumbers progs states → n.left < length progs → HaveNumbers progs (with_numbered states n)
numbers-with progs states n h l = go (list_any (is_pair n.left n.state) states)
  where
    go : (b : Bool) → HaveNumbers progs (if b then states else states ++ n ∷ [])
    go true = h
    go false = All-push (λ (m : Numbered). m.left < length progs) states n h l

-- the state that stands for one with a number, by its program
abbrev standing : Numbered → Option Prog → Reached
standing n prog = record { way = record { label = n.label; left = unwrap_or prog Nil }; state = n.state; from = n.from }

pub meant-stays : (progs more : List Prog) (n : Numbered) → GoesOn progs more → n.left < length progs → meant more n ≡ meant progs n
meant-stays progs more n h l = ap (standing n) (h.same n.left l)

pub all_meant-stay : (progs more : List Prog) (states : List Numbered) → GoesOn progs more → HaveNumbers progs states → all_meant more states ≡ all_meant progs states
all_meant-stay progs more [] h k = refl
all_meant-stay progs more (n ∷ states) h k =
    let one = meant-stays progs more n h (All-head (λ (m : Numbered). m.left < length progs) n states k) in
    let rest = all_meant-stay progs more states h (All-tail (λ (m : Numbered). m.left < length progs) n states k) in
    (λ i. one i ∷ rest i)

and-swap : (a b : Bool) → (a && b) ≡ (b && a)
and-swap true true = refl
and-swap true false = refl
and-swap false true = refl
and-swap false false = refl

module _ (progs : List Prog) (once : AreOnce progs) (prog : Prog) (number : ℕ) (values : Values) (named : slice_get progs number ≡ Some prog) where
  same-number : (other : ℕ) (q : Prog) → slice_get progs other ≡ Some q → (number == other) ≡ same_prog prog q
  same-number other q e = both_ways (number == other) (same_prog prog q) forth back
    where
      forth : (number == other) ≡ true → same_prog prog q ≡ true
      forth t =
          let same : prog ≡ q = some-same prog q (sym named ∙ ap (slice_get progs) (eqb-true number other t) ∙ e) in
          subst (λ (p : Prog). same_prog prog p ≡ true) same (same_prog-same prog)

      back : same_prog prog q ≡ true → (number == other) ≡ true
      back t = eq-eqb number other (once.place number other prog named (e ∙ ap Some (sym (same_prog-eq prog q t))))

  there-one : (n : Numbered) → n.left < length progs → is_pair number values n ≡ same_state (prog, values) (state_of (meant progs n))
  there-one n l =
      let q = get_or progs n.left Nil in
      let some : slice_get progs n.left ≡ Some q = slice_get-get_or progs n.left Nil l in
      let left : q ≡ unwrap_or (slice_get progs n.left) Nil = sym (ap (λ (o : Option Prog). unwrap_or o Nil) some) in
      ap (λ b. b && same_values values n.state) (same-number n.left q some ∙ ap (same_prog prog) left)
      ∙ and-swap (same_prog prog (unwrap_or (slice_get progs n.left) Nil)) (same_values values n.state)

  -- the states have a number and values exactly where those that they stand for have the program and these
  pub there : (states : List Numbered) → HaveNumbers progs states → list_any (is_pair number values) states ≡ is_there (all_meant progs states) (prog, values)
  there [] h = refl
  there (n ∷ states) h =
      let one = there-one n (All-head (λ (m : Numbered). m.left < length progs) n states h) in
      let rest = there states (All-tail (λ (m : Numbered). m.left < length progs) n states h) in
      (λ i. one i || rest i)

abbrev pub level_with : Bool → List Reached → Level
level_with cut states = record { states = states; cut = cut }

named-again : (o : Option Prog) (p : Prog) → o ≡ Some p → o ≡ Some (unwrap_or o Nil)
named-again o p e = e ∙ ap (λ (q : Option Prog). Some (unwrap_or q Nil)) (sym e)

-- one more state, where it is not there yet
module _ (progs more : List Prog) (states : List Numbered) (cut : Bool) (n : Numbered) (prog : Prog) (h : GoesOn progs more) (once : AreOnce more)
    (k : HaveNumbers progs states) (named : slice_get more n.left ≡ Some prog) where
  stay : all_meant more states ≡ all_meant progs states
  stay = all_meant-stay progs more states h k

  same-there : list_any (is_pair n.left n.state) states ≡ is_there (all_meant progs states) (state_of (meant more n))
  same-there =
      there more once (unwrap_or (slice_get more n.left) Nil) n.left n.state (named-again (slice_get more n.left) prog named) states (numbers-stay progs more states h k)
      ∙ ap (λ (rs : List Reached). is_there rs (state_of (meant more n))) stay

  with-either : (b c : Bool) → b ≡ c → level_with cut (all_meant more (if b then states else states ++ n ∷ []))
      ≡ (if c then level_with cut (all_meant progs states) else level_with cut (all_meant progs states ++ meant more n ∷ []))
  with-either true true e = ap (level_with cut) stay
  with-either true false e = absurd (cc)
  with-either false true e = absurd (cc)
  with-either false false e = ap (level_with cut) (map-append (meant more) states (n ∷ []) ∙ ap (λ (rs : List Reached). rs ++ meant more n ∷ []) stay)

  pub with_numbered-is : level_with cut (all_meant more (with_numbered states n)) ≡ with_state (level_with cut (all_meant progs states)) (meant more n)
  with_numbered-is = with-either (list_any (is_pair n.left n.state) states) (is_there (all_meant progs states) (state_of (meant more n))) same-there

-- what is so of each that is mapped is so of the one at a place
pub at-mapped : {A B : Type 0} (P : B → Type 0) (f : A → B) (xs : List A) (i : ℕ) (d : A) → i < length xs → All P (map f xs) → P (f (get_or xs i d))
at-mapped P f [] i d l h = absurd (omega arith)
at-mapped P f (x ∷ xs) zero d l h = All-head P (f x) (map f xs) h
at-mapped P f (x ∷ xs) (suc i) d l h = at-mapped P f xs i d (omega arith) (All-tail P (f x) (map f xs) h)

-- the state at a place
module _ (progs : List Prog) (states : List Numbered) (place : ℕ) (n : Numbered) (l : place < length states) (e : n ≡ get_or states place n) where
  pub number-at : HaveNumbers progs states → n.left < length progs
  number-at h = subst (λ (m : Numbered). m.left < length progs) (sym e) (All-get_or (λ (m : Numbered). m.left < length progs) states place n l h)

  pub meant-at : (P : Reached → Type 0) → All P (all_meant progs states) → P (meant progs n)
  meant-at P h = subst (λ (m : Numbered). P (meant progs m)) (sym e) (at-mapped P (meant progs) states place n l h)

  -- what is so of the states is so of it, once more programs have numbers
  pub searched-at : (agent : Agent) (more : List Prog) → GoesOn progs more → HaveNumbers progs states → AreSearched agent (all_meant progs states)
      → IsSearched agent (meant more n).way.left n.state
  searched-at agent more h k searched =
      subst (λ (r : Reached). IsSearched agent r.way.left r.state) (sym (meant-stays progs more n h (number-at k))) (meant-at (λ (r : Reached). IsSearched agent r.way.left r.state) searched)

  pub drop-at : all_meant progs (drop place states) ≡ meant progs n ∷ all_meant progs (drop (place + 1) states)
  drop-at = ap (all_meant progs) (drop_more states place n l ∙ ap (λ (m : Numbered). m ∷ drop (place + 1) states) (sym e))

  pub get-at : slice_get (all_meant progs states) place ≡ Some (meant progs n)
  get-at = slice_get-map (meant progs) states place ∙ ap (option_map (meant progs)) (slice_get_read states (length states) place n refl l e)

  -- it decides, or those behind it do
  pub end-at : (ends : Reached → Bool) (b : Bool) → ends (meant progs n) ≡ b → position_from ends place (all_meant progs (drop place states))
      ≡ (if b then Some place else position_from ends (place + 1) (all_meant progs (drop (place + 1) states)))
  end-at ends b is =
      ap (position_from ends place) drop-at
      ∙ ap (λ (c : Bool). if c then Some place else position_from ends (place + 1) (all_meant progs (drop (place + 1) states))) is

  -- the steps from it, and then those from the states behind it
  pub steps-at : (agent : Agent) (m : Mode) (room : Option ℕ) (more : List Prog) (level next : Level) → GoesOn progs more → HaveNumbers progs states
      → next ≡ fold (with_stored agent m room place n.state) level (plain_ways agent n.state m (meant more n).way.left)
      → stored_steps agent m room place level (all_meant progs (drop place states)) ≡ stored_steps agent m room (place + 1) next (all_meant progs (drop (place + 1) states))
  steps-at agent m room more level next h k is =
      let stays : meant more n ≡ meant progs n = meant-stays progs more n h (number-at k) in
      let further : suc place ≡ place + 1 = omega arith in
      ap (stored_steps agent m room place level) drop-at
      ∙ ap (λ (r : Reached). stored_steps agent m room (suc place) (fold (with_stored agent m room place n.state) level (plain_ways agent n.state m r.way.left)) (all_meant progs (drop (place + 1) states))) (sym stays)
      ∙ (λ i. stored_steps agent m room (further i) (sym is i) (all_meant progs (drop (place + 1) states)))

-- the way at a place of a list, and those behind it
pub fold-at : {A B : Type 0} (f : A → B → A) (a : A) (xs : List B) (i : ℕ) (x : B) → i < length xs → x ≡ get_or xs i x → fold f a (drop i xs) ≡ fold f (f a x) (drop (i + 1) xs)
fold-at f a xs i x l e = ap (fold f a) (drop_more xs i x l ∙ ap (λ y. y ∷ drop (i + 1) xs) (sym e))

pub each-at : {A : Type 0} (P : A → Type 0) (xs : List A) (i : ℕ) (x : A) → i < length xs → x ≡ get_or xs i x → OfEach P (drop i xs) → P x × OfEach P (drop (i + 1) xs)
each-at P xs i x l e h = subst (OfEach P) (drop_more xs i x l ∙ ap (λ y. y ∷ drop (i + 1) xs) (sym e)) h

-- the levels before, once more programs have numbers
pub before-stays : (progs more : List Prog) (before : List (List Numbered)) → GoesOn progs more → All (HaveNumbers progs) before → map (all_meant more) before ≡ map (all_meant progs) before
before-stays progs more [] h k = refl
before-stays progs more (states ∷ before) h k =
    let one = all_meant-stay progs more states h (All-head (HaveNumbers progs) states before k) in
    let rest = before-stays progs more before h (All-tail (HaveNumbers progs) states before k) in
    (λ i. one i ∷ rest i)

-- one more level behind them
pub before-further : (progs more : List Prog) (before : List (List Numbered)) (last : List Numbered) → GoesOn progs more → All (HaveNumbers progs) before → HaveNumbers progs last
    → map (all_meant more) (before ++ last ∷ []) ≡ map (all_meant progs) before ++ all_meant progs last ∷ []
before-further progs more before last h k l =
    let one = before-stays progs more before h k in
    let other = all_meant-stay progs more last h l in
    map-append (all_meant more) before (last ∷ []) ∙ (λ i. one i ++ other i ∷ [])

pub before-numbers : (progs more : List Prog) (before : List (List Numbered)) (last : List Numbered) → GoesOn progs more → All (HaveNumbers progs) before → HaveNumbers progs last
    → All (HaveNumbers more) (before ++ last ∷ [])
before-numbers progs more before last h k l =
    All-push (HaveNumbers more) before last (All-weaker (HaveNumbers progs) (HaveNumbers more) (λ states s. numbers-stay progs more states h s) before k) (numbers-stay progs more last h l)

-- a level with the state that a way leads to
module _ (agent : Agent) (old more : List Prog) (level next : AnyLevel) (n : Numbered) (w : Way) (h : GoesOn old more) (k : IsLevel agent old level) (named : slice_get more n.left ≡ Some w.left)
    (states : next.states ≡ with_numbered level.states n) where
  pub added-level : AreOnce more → Sees next.seen next.states → AreInSorts agent next.next.state → IsLevel agent more next
  added-level once seen sorts = record {
    once = once;
    numbers = subst (HaveNumbers more) (sym states) (numbers-with more level.states n (numbers-stay old more level.states h k.numbers) (slice_get_within more n.left w.left named));
    seen = seen;
    next = sorts;
  }

  pub added-is : (from : ℕ) (values : Values) → is_followed w ≡ true → AreOnce more → meant more n ≡ reached_by agent from values w → next.cut ≡ level.cut
      → level_of more next ≡ with_way agent from values (level_of old level) w
  added-is from values followed once means cut =
      (λ i. level_with (cut i) (all_meant more (states i)))
      ∙ with_numbered-is old more level.states level.cut n w.left h once k.numbers named
      ∙ ap (with_state (level_of old level)) means
      ∙ ap (λ (b : Bool). if b then with_state (level_of old level) (reached_by agent from values w) else level_with true (all_meant old level.states)) (sym followed)

-- a number below the count is that of a program
pub named-at : (progs : List Prog) (number : ℕ) → number < length progs → slice_get progs number ≡ Some (unwrap_or (slice_get progs number) Nil)
named-at progs number l = named-again (slice_get progs number) (get_or progs number Nil) (slice_get-get_or progs number Nil l)

-- a state by the parts of the step that led there
abbrev stepped : ℕ → Label → Values → Prog → Reached
stepped from label values left = record { way = record { label = label; left = left }; state = values; from = from }

pub start-meant : (progs : List Prog) (left : ℕ) (p : Prog) (state values : Values) → slice_get progs left ≡ Some p → state ≡ values
    → meant progs (record { label = Quiet; left = left; state = state; from = 0 }) ≡ start_of p values
start-meant progs left p state values named same =
    ap (λ (o : Option Prog). stepped 0 Quiet state (unwrap_or o Nil)) named ∙ ap (start_of p) same

pub led-meant : (progs : List Prog) (agent : Agent) (from left : ℕ) (values : Values) (w : Way) → slice_get progs left ≡ Some w.left
    → meant progs (led agent from values w.label left) ≡ reached_by agent from values w
led-meant progs agent from left values w named = ap (λ (o : Option Prog). stepped from w.label (after agent values w.label) (unwrap_or o Nil)) named

-- with the number of what is left
abbrev pub numbered_as : ℕ → Numbered → Numbered
numbered_as left n = record { label = n.label; left = left; state = n.state; from = n.from }

pub led-numbered : (progs : List Prog) (agent : Agent) (from left before : ℕ) (values : Values) (w : Way) (n : Numbered) → n ≡ led agent from values w.label before → slice_get progs left ≡ Some w.left
    → meant progs (numbered_as left n) ≡ reached_by agent from values w
led-numbered progs agent from left before values w n e named = ap (λ (m : Numbered). meant progs (numbered_as left m)) e ∙ led-meant progs agent from left values w named

-- whether it is to be stored
pub wanted-is : (agent : Agent) (m : Mode) (room : Option ℕ) (progs : List Prog) (states : List Numbered) (from before : ℕ) (values : Values) (label : Label) (p q : Prog) (n : Numbered) (b : Bool)
    → n ≡ led agent from values label before → q ≡ p → b ≡ is_stored room (length states) (final agent n.state m p)
    → is_stored room (length (all_meant progs states)) (final agent (after agent values label) m q) ≡ b
wanted-is agent m room progs states from before values label p q n b e same h =
    (λ i. is_stored room (length-map states (meant progs) i) (final agent (sym e i).state m (same i))) ∙ sym h

-- the state that stands at a place
pub at-place : {A : Type 0} (xs : List A) (i : ℕ) (x : A) → slice_get xs i ≡ Some x → x ≡ get_or xs i x
at-place [] i x e = absurd (cc)
at-place (y ∷ xs) zero x e = sym (some-same y x e)
at-place (y ∷ xs) (suc i) x e = at-place xs i x e

-- what a search with these states stands for
abbrev looked_with : List Prog → List (List Numbered) → List Numbered → Looked
looked_with progs before last = record { before = map (all_meant progs) before; last = all_meant progs last; cut = false }

abbrev begun_at : Reached → Looked
begun_at r = record { before = []; last = r ∷ []; cut = false }

pub begun-looked : (progs : List Prog) (before : List (List Numbered)) (last : List Numbered) (start : Numbered) (r : Reached) → before ≡ [] → last ≡ start ∷ [] → meant progs start ≡ r
    → looked_with progs before last ≡ begun_at r
begun-looked progs before last start r none one is = (λ i. looked_with progs (none i) (one i)) ∙ ap begun_at is

pub begun-numbers : (progs : List Prog) (last : List Numbered) (start : Numbered) (p : Prog) → last ≡ start ∷ [] → slice_get progs start.left ≡ Some p → HaveNumbers progs last
begun-numbers progs last start p one named =
    subst (HaveNumbers progs) (sym one)
    (All-cons (λ (n : Numbered). n.left < length progs) start [] (slice_get_within progs start.left p named) (All-nil (λ (n : Numbered). n.left < length progs)))

-- there is a state exactly where one stands for it
pub meant-empty : (progs : List Prog) (states : List Numbered) (b : Bool) → IsTrue b ↔ (states ≡ []) → b ≡ is_empty (all_meant progs states)
meant-empty progs [] b h = h.1 refl
meant-empty progs (n ∷ states) true h = let e : n ∷ states ≡ [] = h.0 refl in absurd (cc)
meant-empty progs (n ∷ states) false h = refl

-- a step that is not followed is cut off
pub cut-is : (agent : Agent) (from : ℕ) (values : Values) (l : Level) (w : Way) → is_followed w ≡ false → level_with true l.states ≡ with_way agent from values l w
cut-is agent from values l w e = sym (ap (λ (b : Bool). if b then with_state l (reached_by agent from values w) else level_with true l.states) e)
