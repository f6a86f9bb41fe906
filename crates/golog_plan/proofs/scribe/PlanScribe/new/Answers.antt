use Rattle.std.proofs.Common.{sym, ap}
use Rattle.golog_plan.proofs.Writing.{first-written}
use Rattle.golog_plan.proofs.scribe.PlanScribe.new.Goals as goal

pub returns-clause-stands : goal.returns-clause-stands
returns-clause-stands g c = λ none.
    first-written c.args.pen.core (g.K.Sink.taken c.of-base.result.value) (g.K.Sink.taken c.args.out.now) (g.K.Sink.taken c.args.out.now)
    (g.K.Sink.faults c.of-base.result.value) (g.K.Sink.faults c.args.out.now) (g.K.Sink.faults c.args.out.now)
    c.args.pen.core.list (sym (ap g.K.Sink.taken c.of-base.ensures)) (sym (ap g.K.Sink.faults c.of-base.ensures)) none
