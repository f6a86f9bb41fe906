use Rattle.std.proofs.Common.{rules, List, All, subst}
use Rattle.std.proofs.lemmas.List.Elements.{All-tail}
use Rattle.golog_turn.specs.Seats.{IsSeatOf}
use Rattle.golog_device_tests.specs.declared.turns.Worker.{Worker}
use Rattle.golog_device_tests.proofs.turns.join_all.Goals as goal

pub loop-worker-preserved : goal.loop-worker-preserved
loop-worker-preserved c =
    let P : Worker → Type 0 = λ worker. IsSeatOf c.args.lock.now worker.seat in
    (tt, tt, All-tail P _ _ (subst (λ (l : List Worker). All P l) c.in-Some.ensures.steps.0 c.loop-worker.invariant.2), search rules)
