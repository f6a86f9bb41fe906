-- What records the entries of a program under way.
use Rattle.std.specs.Prelude.{◌≡◌, Option, List}
use Rattle.golog_tree.specs.declared.agent.Agent.{Agent}
use Rattle.golog_semantics.specs.declared.journal.PlacedRun.{PlacedRun}
use Rattle.golog_semantics.specs.InlineText.{begun_runs}
use Rattle.golog_semantics.specs.Journal.{Journal}
use Rattle.golog_journal.specs.Leading.{Outlet}
use Rattle.golog_lead.specs.Courses.{Course}

-- it writes to the same, and if it stood for the entries before, it stands for those now
pub record Records {R : Type 0} (outlet : R → Option Outlet) (stands : Agent → Journal → R → Type 0)
    (before : Course) (was : R) (now : Course) (is : R) : Type 0 where
  pub same_outlet : outlet is ≡ outlet was
  pub stands_still : stands before.agent before.list was → stands now.agent now.list is

-- these are the entries, and the runs that they begin
pub record IsKept (agent : Agent) (journal entries : Journal) (runs : List PlacedRun) : Type 0 where
  pub entries_so : entries ≡ journal
  pub runs_so : runs ≡ begun_runs agent journal
