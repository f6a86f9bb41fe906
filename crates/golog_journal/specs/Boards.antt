-- The lists of entries that a board stands for. (This project's own.)
use Rattle.std.specs.Prelude.{◌≤◌, Bool, IsTrue, ◌&&◌, [], ◌∷◌, ◌++◌}
use Rattle.std.specs.List.{list_all}
use Rattle.golog_tree.specs.declared.agent.Agent.{Agent}
use Rattle.golog_semantics.specs.declared.journal.Entry.{Entry}
use Rattle.golog_semantics.specs.Journal.{Journal, count, limit}
use Rattle.golog_semantics.specs.Text.{at_each}
use Rattle.golog_semantics.specs.Online.{keeps_after, keeps_poster, keeps_place, keeps_taken, keeps_close}
use Rattle.golog_semantics.specs.Reports.{fits_entry}

-- an agent and a journal of it
pub record AgentJournal : Type 0 where
  pub agent : Agent
  pub entries : Journal

module _ (agent : Agent) where
  -- The entry is of the agent, and keeps the rules that speak of devices: after the end only devices are
  -- closed; a device posts what is declared for it, while it is open; results, and numbers of commands
  -- taken, are right; a device is closed for a reason that may be.
  abbrev pub is_lawful : Journal → Entry → Bool
  is_lawful before e =
      fits_entry agent before e
      && keeps_after agent before e
      && keeps_poster agent before e
      && keeps_place agent before e
      && keeps_taken agent before e
      && keeps_close agent before e

  -- each entry is lawful, and no more are counted than a journal takes
  pub record IsBoardList (journal : Journal) : Type 0 where
    pub lawful : IsTrue (list_all (λ keeps. keeps) (at_each is_lawful [] journal))
    pub room : count journal ≤ limit

-- with this entry too, the journal's entries are a list that a board stands for
abbrev pub IsBoardWith : AgentJournal → Entry → Type 0
IsBoardWith journal e = IsBoardList journal.agent (journal.entries ++ e ∷ [])

-- the journal with one more entry
abbrev pub journal_with : AgentJournal → Entry → AgentJournal
journal_with journal e = record { agent = journal.agent; entries = journal.entries ++ e ∷ [] }
