use Rattle.golog_plan.proofs.Writing.{pieces-prefix}
use Rattle.golog_plan.proofs.printed.write_pieces.Goals as goal

pub returns-clause-prefix : goal.returns-clause-prefix
returns-clause-prefix g c =
    pieces-prefix (g.K.Sink.taken c.args.out.now) (g.K.Sink.taken c.write_all.new.out) (g.K.Sink.taken c.write_all-2.new.out) c.args.line.now c.args.tail.now
    c.in_ok-write_all.ensures.added c.write_all-2.result c.write_all-2.ensures.prefix
