use Rattle.std.proofs.Common.{sym, subst}
use Rattle.std.specs.Prelude.{IfOk}
use Rattle.golog_semantics.specs.Search.{Run}
use Rattle.golog_watch.specs.Watched.{AreTold}
use Rattle.golog_watch.proofs.Telling.{empty-run, none-told}
use Rattle.golog_watch.proofs.conditions.+conditions.Goals as goal

pub returns-in_default : goal.returns-in_default
returns-in_default t c =
    subst (λ (run : Run). IfOk c.last_of.result (AreTold c.args.agent.now c.args.prog.now run)) (empty-run c.args.run.now c.in_default.ensures.cases) c.last_of.ensures

pub returns-in_default-2 : goal.returns-in_default-2
returns-in_default-2 t c =
    subst (AreTold c.args.agent.now c.args.prog.now c.args.run.now) (sym c.new.ensures) (none-told c.args.agent.now c.args.prog.now c.args.run.now)

pub returns-in-Ok : goal.returns-in-Ok
returns-in-Ok t c =
    subst (λ (run : Run). IfOk c.with_first.result (AreTold c.args.agent.now c.args.prog.now run)) (sym c.in-Some.ensures.cases.0) c.with_first.ensures
