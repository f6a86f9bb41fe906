use Rattle.std.proofs.Common.{◌≡◌, [], subst}
use Rattle.std.specs.Prelude.{IfOk}
use Rattle.golog_tree.specs.declared.agent.Agent.{Agent}
use Rattle.golog_journal.specs.Boards.{AgentJournal}
use Rattle.golog_team.proofs.pair.Kit.new.Goals as goal

pub returns : goal.returns
returns c =
    let parts = c.in_ok-journal.ensures.parts in (
      subst (λ r. IfOk r (λ (j : AgentJournal). j ≡ record { agent = c.args.agent.now; entries = [] })) parts.0 c.new.ensures,
      subst (λ r. IfOk r (λ (a : Agent). a ≡ c.args.agent.now)) parts.1 c.of.ensures,
    )
