-- Drafts whose places stand in order, as those of a file that was read do.
use Rattle.std.specs.Prelude.{ℕ, ◌+◌, ◌≤◌, ⊤, List, [], ◌∷◌, map}
use Rattle.golog_tree.specs.declared.draft.DraftTheory.{DraftTheory}
use Rattle.golog_tree.specs.declared.draft.DraftProgram.{DraftProgram}
use Rattle.golog_tree.specs.declared.draft.DraftFluent.{DraftFluent}
use Rattle.golog_tree.specs.declared.draft.DraftAction.{DraftAction}
use Rattle.golog_draft.specs.DraftPlaces.{start_places, poss_places, cause_places, sense_places, proc_places, main_places}

-- the places ascend, from one on and before another
abbrev pub Ascend : ℕ → List ℕ → ℕ → Type 0
Ascend from [] to = from ≤ to
Ascend from (at ∷ places) to = (from ≤ at) × Ascend (at + 1) places to

-- each is greater than the one before
abbrev pub IsAscending : List ℕ → Type 0
IsAscending places = (to : ℕ) × Ascend 0 places to

abbrev pub AreAscending : List (List ℕ) → Type 0
AreAscending [] = ⊤
AreAscending (places ∷ items) = IsAscending places × AreAscending items

-- the places stand in order, where several may be the same
abbrev pub Rise : ℕ → List ℕ → Type 0
Rise from [] = ⊤
Rise from (at ∷ places) = (from ≤ at) × Rise at places

-- The places of the fluents and of the actions stand in order, and those in each other item ascend.
pub record TheoryInOrder (theory : DraftTheory) : Type 0 where
  pub fluents : Rise 0 (map (λ (fluent : DraftFluent). fluent.at) theory.fluents)
  pub actions : Rise 0 (map (λ (action : DraftAction). action.at) theory.actions)
  pub starts : AreAscending (map start_places theory.starts)
  pub poss : AreAscending (map poss_places theory.poss)
  pub causes : AreAscending (map cause_places theory.causes)
  pub senses : AreAscending (map sense_places theory.senses)

-- The places in each procedure and in the program ascend.
pub record ProgramInOrder (program : DraftProgram) : Type 0 where
  pub procs : AreAscending (map proc_places program.procs)
  pub main : IsAscending (main_places program.main)
