-- Configurations: what is known of an agent, and the program left.
use Rattle.std.specs.Prelude.{IsTrue, Option, unwrap_or}
use Rattle.golog_tree.specs.declared.agent.Agent.{Agent}
use Rattle.golog_tree.specs.declared.prog.Prog.{Prog}
use Rattle.golog_semantics.specs.declared.journal.Entry.{Entry}
use Rattle.golog_semantics.specs.Truth.{Values}
use Rattle.golog_semantics.specs.Journal.{Journal}
use Rattle.golog_semantics.specs.Progress.{after_entry, values_after, left_after}
use Rattle.golog_semantics.specs.ProgFits.{fits}
use Rattle.golog_semantics.specs.InSorts.{AreInSorts}
use Rattle.golog_semantics.specs.WellFormed.{WellFormed}

-- an agent, the values that are known, and the program left
pub record Configuration : Type 0 where
  pub agent : Agent
  pub values : Values
  pub left : Prog

-- of a well-formed agent: the values are of their sorts, and the program is one of the agent
pub record IsSound (known : Configuration) : Type 0 where
  pub formed : WellFormed known.agent
  pub sorted : AreInSorts known.agent known.values
  pub fitting : IsTrue (fits known.agent known.left)

-- with one more entry, which leaves this program, if it leaves another
abbrev pub with_entry : Configuration → Entry → Option Prog → Configuration
with_entry known e new =
    record { agent = known.agent; values = after_entry known.agent known.values e; left = unwrap_or new known.left }

-- after these entries
abbrev pub configuration_after : Agent → Journal → Configuration
configuration_after agent journal =
    record { agent = agent; values = values_after agent journal; left = left_after agent journal }
