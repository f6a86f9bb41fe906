use Rattle.std.proofs.Common.{List, [], ◌∷◌, ◌++◌, ap, ◌∙◌}
use Rattle.golog_find.specs.declared.numbered.Numbered.{Numbered}
use Rattle.golog_find.proofs.RowStates.{on-err}
use Rattle.golog_find.proofs.states.States.push.Goals as goal

pub returns-in_err-push_row-clause-err : goal.returns-in_err-push_row-clause-err
returns-in_err-push_row-clause-err c = on-err c.from_residual.result (c.in_err-push_row.ensures.err ∙ c.self.view_is)

pub returns-clause-ok : goal.returns-clause-ok
returns-clause-ok c = c.in_ok-push_row.ensures.ok ∙ ap (λ (states : List Numbered). states ++ c.args.reached.now ∷ []) c.self.view_is
