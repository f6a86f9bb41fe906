use Rattle.golog_fronts.proofs.Acting.{closed_cond}
use Rattle.golog_ways.proofs.here.Here.truth.Goals as goal

pub value-requires-clause-fits : goal.value-requires-clause-fits
value-requires-clause-fits c = closed_cond c.args.self.now.agent.now c.args.cond.now c.new.result c.requires
