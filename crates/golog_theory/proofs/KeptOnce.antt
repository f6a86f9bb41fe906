-- No action has two preconditions.
use Rattle.std.proofs.Common.{◌≡◌, ℕ, Bool, true, false, ◌&&◌, ◌==◌, Option, length, List, [], ◌∷◌, ◌++◌, map, refl, arith}
use Rattle.std.specs.Prelude.{nat_eq, nat_lt}
use Rattle.std.specs.Cmp.Lexicographic.{pointwise}
use Rattle.std.specs.List.{list_any, list_all, AllByRecursion, IsDistinct}
use Rattle.golog_tree.specs.declared.draft.DraftPoss.{DraftPoss}
use Rattle.golog_tree.specs.declared.draft.DraftTheory.{DraftTheory}
use Rattle.golog_tree.specs.declared.draft.DraftStart.{DraftStart}
use Rattle.golog_tree.specs.declared.draft.DraftStart.TheVariants.{Each, One}
use Rattle.golog_tree.specs.declared.draft_cond.DraftArg.{DraftArg}
use Rattle.golog_theory.specs.Effects.{has_poss}
use Rattle.golog_theory.specs.Fluents as fluents
use Rattle.golog_draft.specs.Drafts as drafts
use Rattle.golog_semantics.proofs.Words.{and-left, and-right}
use Rattle.golog_semantics.proofs.Tests.{neither_first, neither_second}

all_push : {X : Type 0} (f : X → ℕ) (P : ℕ → Type 0) (xs : List X) (x : X) → AllByRecursion P (map f xs) → P (f x) → AllByRecursion P (map f (xs ++ x ∷ []))
all_push f P [] x a p = (p, tt)
all_push f P (y ∷ xs) x a p = (a.0, all_push f P xs x a.1 p)

pub once-push : (items : List DraftPoss) (item : DraftPoss) → has_poss items item.action ≡ false → IsDistinct nat_eq (map (λ (item : DraftPoss). item.action) items)
    → IsDistinct nat_eq (map (λ (item : DraftPoss). item.action) (items ++ item ∷ []))
unfolding IsDistinct
once-push [] item new d = (tt, tt)
once-push (first ∷ items) item new d = (
  all_push (λ (item : DraftPoss). item.action) (λ y. nat_eq first.action y ≡ false) items item d.0 (neither_first (nat_eq first.action item.action) (has_poss items item.action) new),
  once-push items item (neither_second (nat_eq first.action item.action) (has_poss items item.action) new) d.1,
)

all_more : {X : Type 0} (P : X → Type 0) (xs : List X) (x : X) → AllByRecursion P xs → P x → AllByRecursion P (xs ++ x ∷ [])
all_more P [] x a p = (p, tt)
all_more P (y ∷ xs) x a p = (a.0, all_more P xs x a.1 p)

pub distinct-push : {X : Type 0} (e : X → X → Bool) (xs : List X) (x : X) → AllByRecursion (λ y. e y x ≡ false) xs → IsDistinct e xs → IsDistinct e (xs ++ x ∷ [])
unfolding IsDistinct
distinct-push e [] x new d = (tt, tt)
distinct-push e (y ∷ xs) x new d = (all_more (λ z. e y z ≡ false) xs x d.0 new.0, distinct-push e xs x new.1 d.1)

-- no start value before is the same
abbrev pub Fresh : DraftStart → List DraftStart → Type 0
Fresh start items = AllByRecursion (λ item. drafts.same_start item start ≡ false) items

pub fresh-one : (items : List DraftStart) (fluent : ℕ) (args : List DraftArg) (value : Option DraftArg) (at : ℕ)
    → list_any (fluents.starts fluent args) items ≡ false → Fresh (One fluent args value at) items
fresh-one [] fluent args value at e = tt
fresh-one (Each own value' at' ∷ items) fluent args value at e = (refl, fresh-one items fluent args value at e)
fresh-one (One own constants value' at' ∷ items) fluent args value at e = (
  neither_first (nat_eq own fluent && pointwise drafts.same_arg constants args) (list_any (fluents.starts fluent args) items) e,
  fresh-one items fluent args value at (neither_second (nat_eq own fluent && pointwise drafts.same_arg constants args) (list_any (fluents.starts fluent args) items) e),
)

other_number : (m n : ℕ) → nat_lt m n ≡ true → (m == n) ≡ false
other_number m n e = grind arith

pub fresh-each : (theory : DraftTheory) (items : List DraftStart) (value : Option DraftArg) (at : ℕ)
    → list_all (drafts.draft_start_keeps theory) items ≡ true → Fresh (Each (length theory.fluents) value at) items
fresh-each theory [] value at e = tt
fresh-each theory (Each own value' at' ∷ items) value at e = (
  other_number own (length theory.fluents) (and-left (nat_lt own (length theory.fluents)) (list_all (drafts.draft_start_keeps theory) items) e),
  fresh-each theory items value at (and-right (nat_lt own (length theory.fluents)) (list_all (drafts.draft_start_keeps theory) items) e),
)
fresh-each theory (One own constants value' at' ∷ items) value at e =
    (refl, fresh-each theory items value at (and-right (drafts.draft_start_keeps theory (One own constants value' at')) (list_all (drafts.draft_start_keeps theory) items) e))

pub ruleset laws = (once-push, fresh-one, fresh-each)
