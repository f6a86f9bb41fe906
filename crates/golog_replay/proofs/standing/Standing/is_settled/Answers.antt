use Rattle.std.proofs.Common.{sym, ◌∙◌}
use Rattle.std.specs.Prelude.{is_some}
use Rattle.golog_replay.proofs.Awaiting.{settled-by}
use Rattle.golog_replay.proofs.Noting.{flipped}
use Rattle.golog_replay.proofs.standing.Standing.is_settled.Goals as goal

pub returns : goal.returns
returns c =
    flipped (is_some c.args.self.now.held) c.is_none.result c.is_none.ensures
    ∙ sym (settled-by c.args.agent.now c.args.before.now c.args.self.now.held c.requires.holds)
