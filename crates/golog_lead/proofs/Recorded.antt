-- What records the entries, from call to call.
use Rattle.std.proofs.Common.{None, ◌≡◌, List, Option, refl, sym, ◌∙◌, subst}
use Rattle.golog_tree.specs.declared.agent.Agent.{Agent}
use Rattle.golog_semantics.specs.declared.journal.PlacedRun.{PlacedRun}
use Rattle.golog_semantics.specs.declared.journal.Report.{Report}
use Rattle.golog_semantics.specs.InlineText.{report_of}
use Rattle.golog_semantics.specs.Journal.{Journal}
use Rattle.golog_journal.specs.Leading.{Outlet}
use Rattle.golog_lead.specs.Recording.{IsKept, Records}
use Rattle.golog_lead.specs.Courses.{Course}

module _ {R : Type 0} (outlet : R → Option Outlet) (stands : Agent → Journal → R → Type 0) where
  -- nothing is recorded
  pub records-same : (before now : Course) (was : R) → now ≡ before → Records outlet stands before was now was
  records-same before now was same = record {
    same_outlet = refl;
    stands_still = λ stood. subst (λ (c : Course). stands c.agent c.list was) (sym same) stood;
  }

  -- one call after the other
  pub records-then : (first then last : Course) (a b c : R) → Records outlet stands first a then b → Records outlet stands then b last c
      → Records outlet stands first a last c
  records-then first then last a b c one other = record {
    same_outlet = other.same_outlet ∙ one.same_outlet;
    stands_still = λ stood. other.stands_still (one.stands_still stood);
  }

  -- the same program under way
  pub records-as : (first same then last : Course) (a b : R) → same ≡ first → last ≡ then → Records outlet stands first a then b → Records outlet stands same a last b
  records-as first same then last a b s l one =
      subst (λ (c : Course). Records outlet stands c a last b) (sym s) (subst (λ (c : Course). Records outlet stands first a c b) (sym l) one)

-- what was kept is the report
pub reported : (agent : Agent) (journal entries : Journal) (runs : List PlacedRun) → IsKept agent journal entries runs
    → ◌≡◌ {A = Report} (record { entries = entries; runs = runs; start = None }) (report_of agent journal)
reported agent journal entries runs kept = λ i. record { entries = kept.entries_so i; runs = kept.runs_so i; start = None }
