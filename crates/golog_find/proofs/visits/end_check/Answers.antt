use Rattle.std.proofs.Common.{ap, false, ◌∙◌}
use Rattle.std.proofs.lemmas.Result.{IfOk-weaker}
use Rattle.golog_semantics.specs.Modes.{holds}
use Rattle.golog_flat.specs.Checks.{IsCheckOf}
use Rattle.golog_find.specs.Visits.{IsEndCheck}
use Rattle.golog_find.proofs.visits.end_check.Goals as goal

pub end_cond-requires-clause-program : goal.end_cond-requires-clause-program
end_cond-requires-clause-program c = record { in_block = false; fits = c.requires.program }

pub returns : goal.returns
returns c =
    let cond = c.in_ok-cond.cond in
    let end = c.in_ok-cond.ensures.end in
    IfOk-weaker c.of-check.result (IsCheckOf c.args.agent.now cond) (IsEndCheck c.args.agent.now c.args.prog.now)
    (λ check is. record { fits = is.fits; ends = λ m values. ap (holds m) (is.same values) ∙ end.final m values })
    c.of-check.ensures
