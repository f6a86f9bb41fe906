-- A theory that is being read, and what is looked up while it is.
use Rattle.std.specs.Prelude.{◌≡◌, ℕ}
use Rattle.std.specs.BTreeSet.{contains}
use Rattle.std.specs.List.{list_any}
use Rattle.std.specs.Ordering.{nat_cmp}
use Rattle.golog_tree.specs.declared.draft.DraftTheory.{DraftTheory}
use Rattle.golog_theory.specs.declared.draft.Draft.{Draft}
use Rattle.golog_theory.specs.Effects.{has_poss}
use Rattle.golog_theory.specs.Index.{IsIndexOf}
use Rattle.golog_theory.specs.declared.started.Ground.{Ground}
use Rattle.golog_theory.specs.Started.{ground_cmp, starts_at}

-- the index, the actions that have a precondition and the ground fluents that have a start value of their own
-- agree with the lists
pub record IsDraft (draft : Draft) : Type 0 where
  pub index : IsIndexOf draft.index draft.theory
  pub restricted : (action : ℕ) → contains nat_cmp draft.restricted action ≡ has_poss draft.theory.poss action
  pub started : (cell : Ground) →
      contains ground_cmp draft.started cell ≡ list_any (starts_at cell) draft.theory.starts

-- the draft is of this theory
pub record IsDraftOf (draft : Draft) (theory : DraftTheory) : Type 0 where
  pub same : draft.theory ≡ theory
  pub kept : IsDraft draft
