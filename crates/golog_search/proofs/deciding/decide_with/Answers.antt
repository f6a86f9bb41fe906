use Rattle.std.proofs.Common.{◌≡◌, true, false, sym, subst}
use Rattle.std.proofs.lemmas.Result.{IfOk-weaker}
use Rattle.golog_semantics.specs.declared.search.Move.{Move}
use Rattle.golog_semantics.specs.Certain.{EndIsCertain, StepIsCertain, StuckIsCertain}
use Rattle.golog_search.specs.declared.decision.Blocked.TheVariants.{Stuck}
use Rattle.golog_search.specs.declared.decision.Decision.TheVariants.{Final, Step, Blocked as Blocking}
use Rattle.golog_search.specs.Decided.{IsDecided}
use Rattle.golog_search.specs.Kept.{KeepsRun}
use Rattle.golog_search.specs.Told.{AreTold}
use Rattle.golog_search.proofs.InWorlds.{ends_so, steps_so, stuck_so}
use Rattle.golog_search.proofs.RunsKept.{keeps_run}
use Rattle.golog_search.proofs.deciding.decide_with.Goals as goal

pub told_of-requires-clause-closed : goal.told_of-requires-clause-closed
told_of-requires-clause-closed g c = record { in_block = false; fits = c.requires.program }

pub look-requires-clause-told : goal.look-requires-clause-told
look-requires-clause-told g c = subst (AreTold c.args.agent.now c.args.state.now) (sym c.as_slice-runs.ensures) c.in_ok-told.ensures.told

pub returns-clause-ends : goal.returns-clause-ends
returns-clause-ends g c =
    let agent = c.args.agent.now in
    let values = c.args.state.now in
    let p = c.args.prog.now in
    IfOk-weaker c.look.result (IsDecided agent values p true) (λ d. d ≡ Final → EndIsCertain agent values p)
    (λ d told. ends_so agent values p c.requires.agent c.requires.program d true told) c.look.ensures

pub returns-clause-steps : goal.returns-clause-steps
returns-clause-steps g c =
    let agent = c.args.agent.now in
    let values = c.args.state.now in
    let p = c.args.prog.now in
    IfOk-weaker c.look.result (IsDecided agent values p true) (λ d. (m : Move) → d ≡ Step m → StepIsCertain agent values p m.label m.left)
    (λ d told. steps_so agent values p c.requires.agent c.requires.program d true told) c.look.ensures

pub returns-clause-stuck : goal.returns-clause-stuck
returns-clause-stuck g c =
    let agent = c.args.agent.now in
    let values = c.args.state.now in
    let p = c.args.prog.now in
    IfOk-weaker c.look.result (IsDecided agent values p true) (λ d. d ≡ Blocking Stuck → StuckIsCertain agent values p)
    (λ d told. stuck_so agent values p c.requires.agent c.requires.program d true told) c.look.ensures

pub returns-clause-kept : goal.returns-clause-kept
returns-clause-kept g c =
    let agent = c.args.agent.now in
    let values = c.args.state.now in
    let p = c.args.prog.now in
    IfOk-weaker c.look.result (IsDecided agent values p true) (KeepsRun agent values p)
    (λ d told. keeps_run agent c.requires.agent.programs.guarded values p true d told) c.look.ensures
