use Rattle.std.proofs.Common.{◌≡◌, sym, ap, ◌∙◌, subst}
use Rattle.std.specs.Prelude.{IfOk}
use Rattle.golog_semantics.specs.declared.journal.Answer.{Answer}
use Rattle.golog_semantics.specs.Online.{same_answer}
use Rattle.golog_replay.proofs.Ends.{ends_with, other-answer}
use Rattle.golog_replay.proofs.course.Course.may_end.Goals as goal

pub returns-in-Memory : goal.returns-in-Memory
returns-in-Memory c = ap (ends_with c.args.agent.now c.args.before.now) (sym c.in-Memory.is)

pub returns-in-Fuel : goal.returns-in-Fuel
returns-in-Fuel c =
    subst (λ (a : Answer). IfOk c.may_lack_fuel.result (λ b. b ≡ ends_with c.args.agent.now c.args.before.now a)) (sym c.in-Fuel.is)
    c.may_lack_fuel.ensures

pub returns-in_ok-found-in_default : goal.returns-in_ok-found-in_default
returns-in_ok-found-in_default c =
    c.is_answer.ensures ∙ ap (λ o. same_answer o c.args.answer) c.in_ok-found-in_default.ensures
    ∙ sym (other-answer c.args.agent.now c.args.before.now c.args.answer c.in_default.not-Memory c.in_default.not-Fuel)
