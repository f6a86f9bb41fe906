use Rattle.golog_text.proofs.Things.{fluent_below}
use Rattle.golog_text.proofs.names.add_value.Goals as goal

pub fluent_sort-requires-clause-number : goal.fluent_sort-requires-clause-number
fluent_sort-requires-clause-number c = fluent_below c.args.agent.now c.args.fluent c.args.value c.requires.value
