-- Laws of sorts: values stay in the sorts of their fluents along a journal.
use Rattle.std.specs.Prelude.{◌≡◌, ℕ, IsTrue, ⊤, Some, List, [], ◌∷◌, Contains, slice_get}
use Rattle.golog_tree.specs.declared.agent.Agent.{Agent}
use Rattle.golog_tree.specs.declared.agent.CauseItem.{CauseItem}
use Rattle.golog_tree.specs.declared.prog.Label.{Label}
use Rattle.golog_tree.specs.Ground.{Ground, ground_actions, ground_fluents}
use Rattle.golog_semantics.specs.declared.journal.Entry.TheVariants.{Sense}
use Rattle.golog_semantics.specs.declared.journal.Report.{Report}
use Rattle.golog_semantics.specs.Truth.{Values, env_of, value_of}
use Rattle.golog_semantics.specs.Values.{fluent_sort, cause_for, after}
use Rattle.golog_semantics.specs.InSorts.{IsOf, AreInSorts}
use Rattle.golog_semantics.specs.Journal.{Journal}
use Rattle.golog_semantics.specs.Progress.{values_after}
use Rattle.golog_semantics.specs.Online.{IsOnlineSoFar}
use Rattle.golog_semantics.specs.Reports.{is_value}
use Rattle.golog_semantics.specs.WellFormed.{WellFormed}

module _ (agent : Agent) where
  -- where a cause speaks of a ground fluent, its term is of the fluent's sort
  abbrev pub KeepsSorts : CauseItem → Type 0
  KeepsSorts cause =
      (values : Values) → AreInSorts agent values
      → (action : ℕ) (at : Ground) → slice_get (ground_actions agent) action ≡ Some at
      → (f : ℕ) (fluent : Ground) → slice_get (ground_fluents agent) f ≡ Some fluent
      → (found : List ℕ) → cause_for cause at fluent ≡ Some found
      → IsOf agent (fluent_sort agent f) (value_of agent values cause.term (env_of found))

  -- each result in the journal is a value of its fluent
  abbrev pub ResultsFit : Journal → Type 0
  ResultsFit [] = ⊤
  ResultsFit (Sense poster place fluent value ∷ entries) = IsTrue (is_value agent fluent value)
      × ResultsFit entries
  ResultsFit (e ∷ entries) = ResultsFit entries

-- from start values in their sorts, with causes that keep the sorts, values stay in them
abbrev pub SortsStay : Type 0
SortsStay =
    (agent : Agent) → ((cause : CauseItem) → Contains agent.causes cause → KeepsSorts agent cause)
    → AreInSorts agent agent.starts
    → (journal : Journal) → ResultsFit agent journal → AreInSorts agent (values_after agent journal)

-- the start values of a well-formed agent are in their sorts
abbrev pub StartsAreInSorts : Type 0
StartsAreInSorts = (agent : Agent) → WellFormed agent → AreInSorts agent agent.starts

-- the values of a well-formed agent stay in their sorts along a journal
abbrev pub ValuesStayInSorts : Type 0
ValuesStayInSorts =
    (agent : Agent) → WellFormed agent
    → (journal : Journal) → ResultsFit agent journal → AreInSorts agent (values_after agent journal)

-- and so they do along the steps of a search
abbrev pub StepsStayInSorts : Type 0
StepsStayInSorts =
    (agent : Agent) → WellFormed agent
    → (values : Values) (label : Label) → AreInSorts agent values
    → AreInSorts agent (after agent values label)

-- the values of a well-formed agent are in their sorts after each online execution so far
abbrev pub OnlineStaysInSorts : Type 0
OnlineStaysInSorts =
    (agent : Agent) → WellFormed agent
    → (report : Report) → IsOnlineSoFar agent report → AreInSorts agent (values_after agent report.entries)
