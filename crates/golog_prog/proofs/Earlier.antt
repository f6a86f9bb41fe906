-- What is declared before a place is declared in the theory, under the same number.
use Rattle.std.proofs.Common.{◌≡◌, ℕ, ◌≤◌, zero, suc, Bool, true, false, ◌&&◌, ◌==◌, List, [], ◌∷◌, length, map, refl, sym, ap, ◌∙◌, arith, cond}
use Rattle.std.specs.Prelude.{nat_lt, slice_get}
use Rattle.std.specs.List.{take_while}
use Rattle.std.specs.Option.{option_map_or}
use Rattle.std.proofs.lemmas.List.Sums.{take_while-cons}
use Rattle.golog_tree.specs.declared.draft.DraftTheory.{DraftTheory}
use Rattle.golog_tree.specs.declared.draft.DraftFluent.{DraftFluent}
use Rattle.golog_tree.specs.declared.draft.DraftAction.{DraftAction}
use Rattle.golog_tree.specs.declared.draft_cond.DraftArg.{DraftArg}
use Rattle.golog_draft.specs.DraftPlaces.{sort_place}
use Rattle.golog_theory.specs.Before.{before}
use Rattle.golog_theory.proofs.KeptStill.{DeclaresMore, more}
use Rattle.golog_draft.specs.Drafts.{is_draft_sort, draft_action_at}

module _ {X : Type 0} (p : X → Bool) where
  longer : (x : X) (xs : List X) (b : Bool) (ys : List X) → ys ≡ cond b (x ∷ take_while p xs) [] → length (take_while p xs) ≤ length xs → length ys ≤ length (x ∷ xs)
  longer x xs true ys e le = let n = ap length e in omega (arith, n, le)
  longer x xs false ys e le = let n = ap length e in omega (arith, n)

  prefix-length : (xs : List X) → length (take_while p xs) ≤ length xs
  prefix-length [] = omega arith
  prefix-length (x ∷ xs) = longer x xs (p x) (take_while p (x ∷ xs)) (take_while-cons p x xs) (prefix-length xs)

  passes : (holds : X → Bool) (x : X) (xs : List X) (b : Bool) (n : ℕ)
      → ((m : ℕ) → option_map_or holds (slice_get (take_while p xs) m) false ≡ true → option_map_or holds (slice_get xs m) false ≡ true)
      → option_map_or holds (slice_get (cond b (x ∷ take_while p xs) []) n) false ≡ true → option_map_or holds (slice_get (x ∷ xs) n) false ≡ true
  passes holds x xs true zero k h = h
  passes holds x xs true (suc n) k h = k n h
  passes holds x xs false n k h = absurd cc

  -- what an element of the prefix passes, the one with its number passes
  prefix-get : (holds : X → Bool) (xs : List X) (n : ℕ) → option_map_or holds (slice_get (take_while p xs) n) false ≡ true → option_map_or holds (slice_get xs n) false ≡ true
  prefix-get holds [] n e = e
  prefix-get holds (x ∷ xs) n e =
      passes holds x xs (p x) n (prefix-get holds xs) (sym (ap (λ ys. option_map_or holds (slice_get ys n) false) (take_while-cons p x xs)) ∙ e)

-- a test of what is made of an element
pub through : {X Y : Type 0} (f : X → Y) (holds : Y → Bool) (xs : List X) (n : ℕ) → option_map_or holds (slice_get (map f xs) n) false ≡ option_map_or (λ x. holds (f x)) (slice_get xs n) false
through f holds [] n = refl
through f holds (x ∷ xs) zero = refl
through f holds (x ∷ xs) (suc n) = through f holds xs n

-- the theory declares what the other does
pub record Knows (known theory : DraftTheory) : Type 0 where
  pub declares : DeclaresMore known theory
  pub actions : (n count : ℕ) (holds : DraftAction → Bool) → draft_action_at known n count holds ≡ true → draft_action_at theory n count holds ≡ true

pub knows-sort : (known theory : DraftTheory) → Knows known theory → (sort : ℕ) → is_draft_sort known sort ≡ true → is_draft_sort theory sort ≡ true
knows-sort known theory knows sort e = more sort (length known.sorts) (length theory.sorts) knows.declares.sorts e

pub before-knows : (at : ℕ) (theory : DraftTheory) → Knows (before at theory) theory
unfolding before
before-knows at theory = record {
  declares = record {
    sorts = prefix-length (λ sort. nat_lt (sort_place sort) at) theory.sorts;
    fluents = λ n args e.
        let arities = λ (item : DraftFluent). length item.args in
        let holds = λ (arity : ℕ). arity == length args in
        through arities holds theory.fluents n
        ∙ prefix-get (λ (fluent : DraftFluent). nat_lt fluent.at at) (λ (item : DraftFluent). holds (arities item)) theory.fluents n
        (sym (through arities holds (take_while (λ (fluent : DraftFluent). nat_lt fluent.at at) theory.fluents) n) ∙ e);
  };
  actions = λ n count holds e. prefix-get (λ (action : DraftAction). nat_lt action.at at) (λ (item : DraftAction). length item.args == count && holds item) theory.actions n e;
}

pub ruleset laws = (before-knows)
