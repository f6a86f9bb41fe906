use Rattle.std.proofs.Common.{Some, sym, ap, ◌∙◌}
use Rattle.golog_semantics.specs.Journal.{fluent_sensed}
use Rattle.golog_semantics.specs.Dealt.{value_item}
use Rattle.golog_device.specs.declared.device.Served.TheVariants.{Value}
use Rattle.golog_device.specs.Turns.{answer_item}
use Rattle.golog_device.proofs.turn.item_of_answer.Goals as goal

pub returns-in-Value : goal.returns-in-Value
returns-in-Value c = λ device.
    ap Some (c.item_of_value.ensures device ∙ ap (value_item c.args.agent.now device (fluent_sensed c.args.agent.now c.args.action)) c.as_slice.ensures)
    ∙ ap (λ asked. answer_item c.args.agent.now device c.args.action asked (Value c.in-Value.bytes)) (sym c.if-asked.true)
    ∙ ap (answer_item c.args.agent.now device c.args.action c.args.asked) (sym c.in-Value.is)
