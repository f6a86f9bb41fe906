use Rattle.std.proofs.Common.{sym, ap, ◌∙◌}
use Rattle.golog_semantics.specs.Online.{same_answer}
use Rattle.golog_replay.proofs.Answered.{same-answers}
use Rattle.golog_replay.proofs.course.is_answer.Goals as goal

pub returns-in-Some : goal.returns-in-Some
returns-in-Some c =
    c.eq.ensures ∙ same-answers c.in-Some.found c.args.answer ∙ ap (λ o. same_answer o c.args.answer) (sym c.in-Some.is)
