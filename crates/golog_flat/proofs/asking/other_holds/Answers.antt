use Rattle.golog_flat.proofs.Parts.{closed_fits}
use Rattle.golog_flat.proofs.asking.other_holds.Goals as goal

pub value-requires-clause-fits : goal.value-requires-clause-fits
value-requires-clause-fits c = closed_fits c.args.agent.now c.args.cond.now c.new.result c.requires.closed
