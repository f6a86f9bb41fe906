use Rattle.std.proofs.Common.{◌≡◌, sym, subst}
use Rattle.std.specs.Prelude.{IfOk}
use Rattle.golog_semantics.specs.Online.{keeps_answer}
use Rattle.golog_semantics.specs.Progress.{left_after, values_after}
use Rattle.golog_semantics.specs.declared.journal.Entry.{Entry}
use Rattle.golog_replay.proofs.course.Course.keeps_answer.Goals as goal

pub returns-in-End : goal.returns-in-End
returns-in-End c =
    let agent = c.args.agent.now in
    let before = c.args.before.now in
    subst (λ (e : Entry). IfOk c.may_end.result (λ b. b ≡ keeps_answer agent before (values_after agent before) (left_after agent before) e))
    (sym c.in-End.is) c.may_end.ensures
