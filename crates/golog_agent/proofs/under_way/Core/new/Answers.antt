use Rattle.std.proofs.Common.{◌≡◌, [], subst}
use Rattle.std.specs.Prelude.{IfOk}
use Rattle.golog_journal.specs.Boards.{AgentJournal}
use Rattle.golog_agent.specs.Configuration.{Configuration, configuration_after}
use Rattle.golog_agent.proofs.Growth.{kept-first}
use Rattle.golog_agent.proofs.under_way.Core.new.Goals as goal

pub invariant_of-result : goal.invariant_of-result
invariant_of-result c =
    let agent = c.args.agent.now in
    let both = c.in_ok-counts.ensures.parts in
    kept-first agent c.in_ok-counts.counts c.in_ok-counts.decider c.requires
    (subst (λ r. IfOk r (λ (j : AgentJournal). j ≡ record { agent = agent; entries = [] })) both.0 c.new.ensures)
    (subst (λ r. IfOk r (λ (known : Configuration). known ≡ configuration_after agent [])) both.1 c.new-2.ensures)
