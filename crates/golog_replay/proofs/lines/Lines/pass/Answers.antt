use Rattle.std.proofs.Common.{◌∙◌, drop, ap}
use Rattle.golog_replay.proofs.Along.{drop-more}
use Rattle.golog_replay.proofs.Passing.{next-dropped}
use Rattle.golog_replay.proofs.lines.Lines.pass.Goals as goal

pub loop-preserved : goal.loop-preserved
loop-preserved c =
    next-dropped c.next.result c.loop.self c.next.new.self c.next.ensures
    ∙ ap (drop 1) c.loop.invariant ∙ drop-more c.loop.counter c.args.self.now
