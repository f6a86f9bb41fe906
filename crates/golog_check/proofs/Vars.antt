-- The variables that the head of an effect binds are those that its draft counts.
use Rattle.std.proofs.Common.{◌≡◌, ℕ, zero, suc, ◌+◌, Bool, true, false, not, ◌&&◌, ◌||◌, cond, List, [], ◌∷◌, ◌++◌, length, map, get_or, Option, Ok, Some, None, refl, sym, ap, ◌∙◌, arith}
use Rattle.std.specs.Prelude.{nat_lt, nat_le, slice_get, is_none, if◌then◌else◌, option_map, option_and_then, position}
use Rattle.std.specs.List.{list_any, enumerate_from, position_or_len}
use Rattle.std.specs.Option.{option_map_or}
use Rattle.std.proofs.lemmas.Bool.{lt-ltb}
use Rattle.std.proofs.lemmas.Bool.Decides.{nat_tests}
use Rattle.std.proofs.lemmas.List.{length-append}
use Rattle.std.proofs.lemmas.List.Folds.{list_any-append}
use Rattle.std.proofs.lemmas.List.Quantifiers.{position-Some}
use Rattle.std.proofs.lemmas.Option.{slice_get-get_or, slice_get-map}
use Rattle.golog_base.proofs.Bools.{and-false}
use Rattle.golog_tree.specs.declared.agent.SortItem.{SortItem}
use Rattle.golog_tree.specs.declared.agent.SortItem.TheVariants as sort
use Rattle.golog_tree.specs.declared.cond.Arg.{Arg}
use Rattle.golog_tree.specs.declared.cond.Arg.TheVariants.{Const, Var}
use Rattle.golog_tree.specs.declared.draft.DraftTheory.{DraftTheory}
use Rattle.golog_tree.specs.declared.draft.DraftProgram.{DraftProgram}
use Rattle.golog_tree.specs.declared.draft.DraftSort.{DraftSort}
use Rattle.golog_tree.specs.declared.draft.DraftSort.TheVariants.{Range, Listed}
use Rattle.golog_tree.specs.declared.draft_cond.DraftArg.{DraftArg}
use Rattle.golog_tree.specs.declared.draft_cond.DraftArg.TheVariants.{Word, Number}
use Rattle.golog_rows.specs.Reading.{Reading, gives, ◌>>=◌}
use Rattle.golog_semantics.specs.Text.{Text}
use Rattle.golog_semantics.specs.BuiltIn.{same_text}
use Rattle.golog_draft.specs.Drafts.{lists_before, is_constant_at, var_after, vars_after}
use Rattle.golog_semantics.proofs.Tests.{and_cases, or_first, or_second}
use Rattle.golog_check.specs.declared.heads.Head.{Head}
use Rattle.golog_check.specs.declared.scope.Meant.{Meant}
use Rattle.golog_check.specs.declared.scope.Variable.{Variable}
use Rattle.golog_draft.specs.DraftPlaces.{sort_place}
use Rattle.golog_check.specs.DeclaredItems.{Declared, sort_item}
use Rattle.golog_check.specs.Sorts as sorts
use Rattle.golog_check.specs.Sorts.{same, constants_of, lists, place_of_word, listing, constant_of, constant}
use Rattle.golog_check.specs.Scope.{Scope, variable_no, innermost, or_else, meaning}
use Rattle.golog_check.specs.Terms.{arg_in}
use Rattle.golog_check.specs.Heads.{binds, binding, head_after, head_from}
use Rattle.golog_check.specs.Check.{names_of}
use Rattle.golog_check.proofs.Readings.{both, ok-same}
use Rattle.golog_check.proofs.ArgLaws.{some-same}

-- what variables in scope have, the outermost first
abbrev pub outermost : {A : Type 0} → (Variable → A) → Scope → List A
outermost f [] = []
outermost f (variable ∷ outer) = outermost f outer ++ f variable ∷ []

pub outermost-long : {A : Type 0} (f : Variable → A) (scope : Scope) → length (outermost f scope) ≡ length scope
outermost-long f [] = refl
outermost-long f (variable ∷ outer) =
    let more = length-append (outermost f outer) (f variable ∷ []) in
    let rest = outermost-long f outer in omega (arith, more, rest)

-- their words
abbrev pub words_of : Scope → List Text
words_of = outermost (λ variable. variable.word)

pub words-long : (scope : Scope) → length (words_of scope) ≡ length scope
words-long = outermost-long (λ variable. variable.word)

or-none : (b : Bool) → (b || (false || false)) ≡ b
or-none true = refl
or-none false = refl

-- an item that stands for none
no_sort : SortItem
no_sort = sort.Listed [] []

hidden : (outer : Scope) (variable : Variable) (word : Text) (b : Bool) → same word variable.word ≡ b
    → is_none (innermost outer word) ≡ not (list_any (same_text word) (words_of outer))
    → is_none (innermost (variable ∷ outer) word) ≡ not (list_any (same_text word) (words_of outer ++ variable.word ∷ []))
hidden outer variable word true e h =
    let here : Meant = record { arg = Var (variable_no outer); sort = variable.sort } in
    ap (λ (t : Bool). is_none (if t then Some here else innermost outer word)) e
    ∙ sym (ap not (list_any-append (same_text word) (words_of outer) (variable.word ∷ [])
    ∙ or_second (list_any (same_text word) (words_of outer)) (same_text word variable.word || false)
    (or_first (same_text word variable.word) false e)))
hidden outer variable word false e h =
    let here : Meant = record { arg = Var (variable_no outer); sort = variable.sort } in
    ap (λ (t : Bool). is_none (if t then Some here else innermost outer word)) e ∙ h
    ∙ sym (ap not (list_any-append (same_text word) (words_of outer) (variable.word ∷ [])
    ∙ ap (λ t. list_any (same_text word) (words_of outer) || (t || false)) e
    ∙ or-none (list_any (same_text word) (words_of outer))))

innermost-none : (scope : Scope) (word : Text) → is_none (innermost scope word) ≡ not (list_any (same_text word) (words_of scope))
innermost-none [] word = refl
innermost-none (variable ∷ outer) word = hidden outer variable word (same word variable.word) refl (innermost-none outer word)

suc-less : (m n : ℕ) → nat_lt (1 + m) (suc n) ≡ nat_lt m n
suc-less m n = grind (arith, nat_tests)

module _ {X : Type 0} (p : X → Bool) where
  position-step : (x : X) (xs : List X) (b : Bool) → p x ≡ b → nat_lt (position_or_len p xs) (length xs) ≡ list_any p xs
      → nat_lt (position_or_len p (x ∷ xs)) (suc (length xs)) ≡ (p x || list_any p xs)
  position-step x xs true e h =
      ap (λ t. nat_lt (cond (not t) (1 + position_or_len p xs) 0) (suc (length xs))) e
      ∙ lt-ltb 0 (suc (length xs)) (omega arith) ∙ sym (or_first (p x) (list_any p xs) e)
  position-step x xs false e h =
      ap (λ t. nat_lt (cond (not t) (1 + position_or_len p xs) 0) (suc (length xs))) e
      ∙ suc-less (position_or_len p xs) (length xs) ∙ h ∙ sym (ap (λ t. t || list_any p xs) e)

  any-position : (xs : List X) → nat_lt (position_or_len p xs) (length xs) ≡ list_any p xs
  any-position [] = refl
  any-position (x ∷ xs) = position-step x xs (p x) refl (any-position xs)

  -- a position is found exactly where an item passes
  position-none : (xs : List X) → is_none (position p xs) ≡ not (list_any p xs)
  position-none xs = by-test (nat_lt (position_or_len p xs) (length xs)) (position_or_len p xs) ∙ ap not (any-position xs)
    where
      by-test : (b : Bool) (n : ℕ) → is_none (cond b (Some n) None) ≡ not b
      by-test true n = refl
      by-test false n = refl

  position-some : (xs : List X) → list_any p xs ≡ true → (i : ℕ) × (position p xs ≡ Some i)
  position-some xs h = (position_or_len p xs, ap (λ b. cond b (Some (position_or_len p xs)) None) (any-position xs ∙ h))

enumerate-get : {A : Type 0} (first : ℕ) (xs : List A) (i : ℕ) (n : ℕ) (x : A) → slice_get (enumerate_from first xs) i ≡ Some (n, x)
    → (n ≡ first + i) × (slice_get xs i ≡ Some x)
enumerate-get first [] i n x e = absurd (cc)
enumerate-get {A} first (y ∷ ys) zero n x e =
    let same = some-same (first, y) (n, x) e in
    (sym (ap (λ (p : ℕ × A). p.0) same) ∙ (let z : first ≡ first + 0 = omega arith in z), ap (λ (p : ℕ × A). Some p.1) same)
enumerate-get first (y ∷ ys) (suc i) n x e =
    let rest = enumerate-get (first + 1) ys i n x e in
    (rest.0 ∙ (let z : (first + 1) + i ≡ first + suc i = omega arith in z), rest.1)

module _ (names : Declared) where
  -- a word that some sort lists before the place is a constant
  constant-some : (word : Text) (at : ℕ) → list_any (sorts.lists_before names word at) (enumerate_from 0 names.sorts) ≡ true
      → is_none (constant names word at) ≡ false
  unfolding constant
  constant-some word at h =
      let test = sorts.lists_before names word at in
      let found = position-some test (enumerate_from 0 names.sorts) h in
      let there = position-Some test (enumerate_from 0 names.sorts) found.0 (0, no_sort) found.1 in
      let at-it = slice_get-get_or (enumerate_from 0 names.sorts) found.0 (0, no_sort) there.0 in
      let pair = get_or (enumerate_from 0 names.sorts) found.0 (0, no_sort) in
      let get = enumerate-get 0 names.sorts found.0 pair.0 pair.1 at-it in
      let place = position-some (same word) (constants_of pair.1) (and_cases (sorts.is_declared names at pair.0) (lists word pair.1) there.1).1 in
      let meant : ℕ → Meant = λ n. record { arg = Const n; sort = found.0 } in
      ap (λ (o : Option ℕ). is_none (option_and_then (constant_of names word) o)) found.1
      ∙ ap (λ (o : Option SortItem). is_none (option_map meant (option_and_then (place_of_word word) o))) get.1
      ∙ ap (λ (o : Option ℕ). is_none (option_map meant o)) place.1

  constant-none : (word : Text) (at : ℕ) → list_any (sorts.lists_before names word at) (enumerate_from 0 names.sorts) ≡ false
      → is_none (constant names word at) ≡ true
  unfolding constant
  constant-none word at h =
      none-then (constant_of names word) (listing names word at)
      (position-none (sorts.lists_before names word at) (enumerate_from 0 names.sorts) ∙ ap not h)
    where
      none-then : (f : ℕ → Option Meant) (o : Option ℕ) → is_none o ≡ true → is_none (option_and_then f o) ≡ true
      none-then f None e = refl
      none-then f (Some n) e = absurd (cc)

  constant-is : (word : Text) (at : ℕ) (b : Bool) → list_any (sorts.lists_before names word at) (enumerate_from 0 names.sorts) ≡ b
      → is_none (constant names word at) ≡ not b
  constant-is word at true h = constant-some word at h
  constant-is word at false h = constant-none word at h

  -- the sorts from one on, of which each has its place
  listed-same : (word : Text) (at first : ℕ) (xs : List DraftSort)
      → ((i : ℕ) (s : DraftSort) → slice_get xs i ≡ Some s → slice_get names.places (first + i) ≡ Some (sort_place s))
      → list_any (sorts.lists_before names word at) (enumerate_from first (map sort_item xs)) ≡ list_any (lists_before word at) xs
  listed-same word at first [] places = refl
  listed-same word at first (s ∷ xs) places =
      let here : slice_get names.places first ≡ Some (sort_place s) =
      ap (slice_get names.places) (let z : first ≡ first + 0 = omega arith in z) ∙ places 0 s refl in
      let rest = listed-same word at (first + 1) xs (λ i x e.
      ap (slice_get names.places) (let z : (first + 1) + i ≡ first + suc i = omega arith in z) ∙ places (suc i) x e) in
      ap (λ b. b || list_any (sorts.lists_before names word at) (enumerate_from (first + 1) (map sort_item xs))) (one s here)
      ∙ ap (λ b. lists_before word at s || b) rest
    where
      one : (s : DraftSort) → slice_get names.places first ≡ Some (sort_place s)
          → sorts.lists_before names word at (first, sort_item s) ≡ lists_before word at s
      one (Range name low high place) e = and-false (sorts.is_declared names at first)
      one (Listed name constants place) e =
          ap (λ (o : Option ℕ). option_map_or (λ p. nat_le p at) o true && list_any (same word) constants) e

module _ (theory : DraftTheory) (program : DraftProgram) where
  abbrev all_names : Declared
  all_names = names_of theory program

  constant-at : (word : Text) (at : ℕ) → is_none (constant (names_of theory program) word at) ≡ not (is_constant_at theory word at)
  constant-at word at =
      constant-is (names_of theory program) word at _ refl
      ∙ ap not (listed-same (names_of theory program) word at 0 theory.sorts (λ i s e.
      ap (slice_get (map sort_place theory.sorts)) (let z : 0 + i ≡ i = omega arith in z)
      ∙ slice_get-map sort_place theory.sorts i ∙ ap (λ o. option_map sort_place o) e))

  meaning-none : (scope : Scope) (word : Text) (at : ℕ) → is_none (meaning (names_of theory program) scope word at)
      ≡ (not (list_any (same_text word) (words_of scope)) && not (is_constant_at theory word at))
  meaning-none scope word at =
      either (innermost scope word) (constant (names_of theory program) word at)
      ∙ ap (λ b. b && is_none (constant (names_of theory program) word at)) (innermost-none scope word)
      ∙ ap (λ b. not (list_any (same_text word) (words_of scope)) && b) (constant-at word at)
    where
      either : (a b : Option Meant) → is_none (or_else a b) ≡ (is_none a && is_none b)
      either None b = refl
      either (Some x) b = refl

  not-either : (v c b : Bool) → (not v && not c) ≡ b → (c || v) ≡ not b
  not-either true true b h = ap not h
  not-either true false b h = ap not h
  not-either false true b h = ap not h
  not-either false false b h = ap not h

  bound-vars : (head : Head) (sort : ℕ) (arg : DraftArg) → binds (names_of theory program) head.scope arg ≡ true
      → words_of (binding head sort arg).scope ≡ var_after theory (words_of head.scope) arg
  bound-vars head sort (Word word at) h =
      let t = not-either (list_any (same_text word) (words_of head.scope)) (is_constant_at theory word at) true
      (sym (meaning-none head.scope word at) ∙ h) in
      sym (ap (λ (b : Bool). if b then words_of head.scope else words_of head.scope ++ word ∷ []) t)
  bound-vars head sort (Number number at) h = absurd (cc)

  free-vars : (head : Head) (arg : DraftArg) → binds (names_of theory program) head.scope arg ≡ false
      → words_of head.scope ≡ var_after theory (words_of head.scope) arg
  free-vars head (Word word at) h =
      let t = not-either (list_any (same_text word) (words_of head.scope)) (is_constant_at theory word at) false
      (sym (meaning-none head.scope word at) ∙ h) in
      sym (ap (λ (b : Bool). if b then words_of head.scope else words_of head.scope ++ word ∷ []) t)
  free-vars head (Number number at) h = refl

  step-vars : (b : Bool) (head : Head) (sort : ℕ) (arg : DraftArg) (after : Head) → binds (names_of theory program) head.scope arg ≡ b
      → (if b then gives (binding head sort arg)
      else (arg_in (names_of theory program) head.scope sort arg >>= λ a. gives (record head { args = head.args ++ a ∷ [] }))).outcome ≡ Ok after
      → words_of after.scope ≡ var_after theory (words_of head.scope) arg
  step-vars true head sort arg after e h =
      ap (λ (g : Head). words_of g.scope) (sym (ok-same (binding head sort arg) after h)) ∙ bound-vars head sort arg e
  step-vars false head sort arg after e h =
      let next : Arg → Reading Head = λ a. gives (record head { args = head.args ++ a ∷ [] }) in
      let b = both (arg_in (names_of theory program) head.scope sort arg) next after h in
      ap (λ (g : Head). words_of g.scope) (sym (ok-same (record head { args = head.args ++ b.value ∷ [] }) after b.other)) ∙ free-vars head arg e

  step-is : (head : Head) (sort : ℕ) (arg : DraftArg) (after : Head) → (head_after (names_of theory program) head sort arg).outcome ≡ Ok after
      → words_of after.scope ≡ var_after theory (words_of head.scope) arg
  unfolding head_after
  step-is head sort arg after h = step-vars (binds (names_of theory program) head.scope arg) head sort arg after refl h

  -- the variables of a head are those that are counted
  pub head-vars : (sorts : List ℕ) (args : List DraftArg) (head after : Head) → length args ≡ length sorts
      → (head_from (names_of theory program) head sorts args).outcome ≡ Ok after
      → words_of after.scope ≡ vars_after theory (words_of head.scope) args
  head-vars [] [] head after l h = ap (λ (g : Head). words_of g.scope) (sym (ok-same head after h))
  head-vars [] (arg ∷ args) head after l h = absurd (omega (arith, l))
  head-vars (sort ∷ sorts) [] head after l h = absurd (omega (arith, l))
  head-vars (sort ∷ sorts) (arg ∷ args) head after l h =
      let b = both (head_after (names_of theory program) head sort arg) (λ (g : Head). head_from (names_of theory program) g sorts args) after h in
      head-vars sorts args b.value after (omega (arith, l)) b.other
      ∙ ap (λ vars. vars_after theory vars args) (step-is head sort arg b.value b.one)

  pub vars-append : (args more : List DraftArg) (vars : List Text)
      → vars_after theory vars (args ++ more) ≡ vars_after theory (vars_after theory vars args) more
  vars-append [] more vars = refl
  vars-append (arg ∷ args) more vars = vars-append args more (var_after theory vars arg)
