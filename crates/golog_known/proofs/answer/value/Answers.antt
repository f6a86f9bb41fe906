use Rattle.golog_known.proofs.InWorlds.{no_in_each, yes_in_each}
use Rattle.golog_known.proofs.answer.value.Goals as goal

pub returns : goal.returns
returns c =
    let agent = c.args.agent.now in
    let values = c.args.values.now in
    record {
      truth = c.value.ensures;
      yes = yes_in_each agent values c.args.cond.now c.args.env.now c.value.result c.value.ensures;
      no = no_in_each agent values c.args.cond.now c.args.env.now c.value.result c.value.ensures;
    }
