use Rattle.std.proofs.Common.{sym, ◌∙◌}
use Rattle.golog_replay.proofs.Noting.{has-end-by}
use Rattle.golog_replay.proofs.standing.Standing.has_end.Goals as goal

pub returns : goal.returns
returns c = c.is_some.ensures ∙ sym (has-end-by c.args.before.now c.args.self.now.ended c.requires.ends)
