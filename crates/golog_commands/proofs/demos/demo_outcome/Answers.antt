use Rattle.std.proofs.Common.{◌≡◌, IfOk, subst}
use Rattle.golog_commands.specs.declared.outcome.Outcome.TheVariants.{Demonstrated}
use Rattle.golog_commands.specs.Demos.{demo_text}
use Rattle.golog_commands.proofs.DemoLemmas.{says-demo}
use Rattle.golog_commands.proofs.demos.demo_outcome.Goals as goal

pub returns : goal.returns
returns c =
    says-demo c.args.size c.args.report c.answer_in-answer.result c.said_of-outcome.result c.answer_in-answer.ensures c.said_of-outcome.ensures.whole
    (subst (λ entries. IfOk c.said_of-outcome.result (λ outcome. outcome ≡ Demonstrated (demo_text c.args.size entries c.answer_in-answer.result)))
    c.as_slice.ensures c.said_of-outcome.ensures.said)
