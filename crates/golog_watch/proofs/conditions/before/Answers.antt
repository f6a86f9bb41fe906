use Rattle.std.proofs.Common.{◌≡◌, [], sym, subst}
use Rattle.std.specs.Prelude.{IfOk}
use Rattle.std.proofs.lemmas.Result.{IfOk-weaker}
use Rattle.golog_tree.specs.declared.prog.Label.{Label}
use Rattle.golog_regress.specs.Regression.{IsRegressed}
use Rattle.golog_watch.specs.Watched.{events_of}
use Rattle.golog_watch.proofs.Telling.{before-none}
use Rattle.golog_watch.proofs.conditions.before.Goals as goal

pub returns-in-Quiet : goal.returns-in-Quiet
returns-in-Quiet c =
    let agent = c.args.agent.now in
    subst (λ (l : Label). IfOk c.copy_cond.result (IsRegressed agent (events_of l) c.args.cond.now)) (sym c.in-Quiet.is)
    (IfOk-weaker c.copy_cond.result (λ a. a ≡ c.args.cond.now) (IsRegressed agent [] c.args.cond.now) (λ a same. before-none agent c.args.cond.now a same) c.copy_cond.ensures)

pub returns-in-Do : goal.returns-in-Do
returns-in-Do c =
    subst (λ (l : Label). IfOk c.regress.result (IsRegressed c.args.agent.now (events_of l) c.args.cond.now)) (sym c.in-Do.is) c.regress.ensures
