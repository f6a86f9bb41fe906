-- Entries that speak of an agent's things, and laws of the values after entries.
use Rattle.std.specs.Prelude.{◌≡◌, ℕ, ◌<◌, ⊤, IsTrue, [], ◌∷◌, ◌++◌, length, fold}
use Rattle.golog_tree.specs.declared.agent.Agent.{Agent}
use Rattle.golog_tree.specs.Ground.{ground_actions}
use Rattle.golog_semantics.specs.declared.journal.Entry.{Entry}
use Rattle.golog_semantics.specs.declared.journal.Entry.TheVariants.{Do, Exo, Sense}
use Rattle.golog_semantics.specs.Truth.{Values}
use Rattle.golog_semantics.specs.Reports.{is_value}
use Rattle.golog_semantics.specs.Journal.{Journal}
use Rattle.golog_semantics.specs.Progress.{values_after, after_entry}

module _ (agent : Agent) where
  -- an action of the agent, or a value of one of its fluents
  abbrev pub EntryFits : Entry → Type 0
  EntryFits (Do action) = action < length (ground_actions agent)
  EntryFits (Exo poster action) = action < length (ground_actions agent)
  EntryFits (Sense poster place fluent value) = IsTrue (is_value agent fluent value)
  EntryFits _ = ⊤

  abbrev pub EntriesFit : Journal → Type 0
  EntriesFit [] = ⊤
  EntriesFit (entry ∷ entries) = EntryFits entry × EntriesFit entries

-- the values after a journal and further entries are those after the journal, and then after these entries
abbrev pub ValuesGoOn : Type 0
ValuesGoOn =
    (agent : Agent) (journal entries : Journal)
    → values_after agent (journal ++ entries) ≡ fold (after_entry agent) (values_after agent journal) entries

-- an action that happens leaves the values that it leaves when it is done
abbrev pub HappeningIsDoing : Type 0
HappeningIsDoing =
    (agent : Agent) (values : Values) (poster action : ℕ)
    → after_entry agent values (Exo poster action) ≡ after_entry agent values (Do action)
