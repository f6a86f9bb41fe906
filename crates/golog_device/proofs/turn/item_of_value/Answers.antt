use Rattle.std.proofs.Common.{Some, None, sym, ◌∙◌}
use Rattle.golog_semantics.specs.Journal.{fluent_sensed}
use Rattle.golog_device.proofs.Reading.{sensed-read}
use Rattle.golog_device.proofs.turn.item_of_value.Goals as goal

pub returns-in-Some-read_constant : goal.returns-in-Some-read_constant
returns-in-Some-read_constant c = λ device.
    sym (sensed-read c.args.agent.now device (fluent_sensed c.args.agent.now c.args.action) c.in-Some.sort c.args.bytes.now (Some c.in-Some-read_constant.value)
    (sym c.sort_sensed.ensures ∙ c.in-Some.is) c.in-Some-read_constant.ensures.the_one)

pub returns-in-None : goal.returns-in-None
returns-in-None c = λ device.
    sym (sensed-read c.args.agent.now device (fluent_sensed c.args.agent.now c.args.action) c.in-Some.sort c.args.bytes.now None
    (sym c.sort_sensed.ensures ∙ c.in-Some.is) c.in-None.ensures.the_one)
