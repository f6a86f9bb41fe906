use Rattle.golog_known.proofs.InWorlds.{value_in_each}
use Rattle.golog_known.proofs.answer.term.Goals as goal

pub returns : goal.returns
returns c = record {
  value = c.term.ensures;
  known = value_in_each c.args.agent.now c.args.values.now c.args.term.now c.args.env.now c.term.result c.term.ensures;
}
