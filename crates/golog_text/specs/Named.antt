-- Entries and runs that name an agent's things, and runs from a place on.
use Rattle.std.specs.Prelude.{ℕ, ◌<◌, IsTrue, ⊤, All, List, length, map}
use Rattle.std.specs.List.{list_all}
use Rattle.golog_tree.specs.declared.agent.Agent.{Agent}
use Rattle.golog_tree.specs.declared.prog.Label.{Label}
use Rattle.golog_tree.specs.Ground.{action_args, ground_count}
use Rattle.golog_semantics.specs.declared.journal.Entry.{Entry}
use Rattle.golog_semantics.specs.declared.journal.Entry.TheVariants.{Do, Test, Exo, Sense, Rest, Close, End}
use Rattle.golog_semantics.specs.declared.journal.PlacedRun.{PlacedRun}
use Rattle.golog_semantics.specs.Reports.{fits_label, grow_from, is_value}

module _ (agent : Agent) where
  -- the number of a ground action
  abbrev pub IsAction : ℕ → Type 0
  IsAction action = action < ground_count agent (action_args agent)

  -- the number of a device
  abbrev pub IsDevice : ℕ → Type 0
  IsDevice device = device < length agent.devices

  -- the actions, the devices and the values of an entry are the agent's
  abbrev pub IsNamed : Entry → Type 0
  IsNamed (Do action) = IsAction action
  IsNamed Test = ⊤
  IsNamed (Exo poster action) = IsDevice poster × IsAction action
  IsNamed (Sense poster place fluent value) = IsDevice poster × IsTrue (is_value agent fluent value)
  IsNamed (Rest poster taken) = IsDevice poster
  IsNamed (Close poster reason taken) = IsDevice poster
  IsNamed (End answer) = ⊤

  -- the actions of the labels are the program's
  abbrev pub AreLabels : List Label → Type 0
  AreLabels labels = IsTrue (list_all (fits_label agent) labels)

  -- the actions of all runs are the program's
  abbrev pub AreNamed : List PlacedRun → Type 0
  AreNamed runs = All (λ r. AreLabels r.labels) runs

-- runs that begin at this place or behind it, in the order of their places
abbrev pub AreFrom : ℕ → List PlacedRun → Type 0
AreFrom place runs = IsTrue (grow_from place (map (λ r. r.place) runs))
