use Rattle.std.proofs.Common.{◌≡◌, [], None, Ok, subst}
use Rattle.std.specs.Prelude.{IfOk}
use Rattle.golog_semantics.specs.Progress.{values_after}
use Rattle.golog_semantics.specs.Truth.{Values}
use Rattle.golog_journal.specs.Boards.{AgentJournal}
use Rattle.golog_branch.specs.declared.following.Kept.{Kept}
use Rattle.golog_plan.proofs.Following.{keeps-first}
use Rattle.golog_plan.proofs.plan_core.PlanCore.new.Goals as goal

pub invariant_of-result : goal.invariant_of-result
invariant_of-result c =
    let agent = c.args.agent.now in
    let outer = c.in_ok-counts.ensures.parts in
    let inner =
    subst (λ r. IfOk r (λ (pair : AgentJournal × Values). (c.new.result ≡ Ok pair.0) × (c.start.result ≡ Ok pair.1))) outer.0 c.both-known.ensures.parts in
    keeps-first agent c.args.depth c.args.fuel c.in_ok-counts.counts c.in_ok-counts.state c.in_ok-counts.kept c.requires.agent c.requires.blockless c.requires.depth c.requires.fuel
    (subst (λ r. IfOk r (λ (j : AgentJournal). j ≡ record { agent = agent; entries = [] })) inner.0 c.new.ensures)
    (subst (λ r. IfOk r (λ (v : Values). v ≡ values_after agent [])) inner.1 c.start.ensures.values)
    (subst (λ r. IfOk r (λ (k : Kept). k ≡ record { left = agent.main; plan = None })) outer.1 c.new-2.ensures)
