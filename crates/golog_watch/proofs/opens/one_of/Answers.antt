use Rattle.std.proofs.Common.{sym, ap, ◌∙◌}
use Rattle.std.specs.Prelude.{None, Some, if◌then◌else◌}
use Rattle.golog_tree.specs.declared.cond.Cond.TheVariants as cond
use Rattle.golog_watch.proofs.Opening.{empty-by}
use Rattle.golog_watch.proofs.opens.one_of.Goals as goal

pub returns-then-is_empty : goal.returns-then-is_empty
returns-then-is_empty c =
    ap (λ b. if b then None else Some (cond.Or c.args.conds)) (sym c.if-is_empty.true ∙ empty-by c.is_empty.result c.args.conds c.is_empty.ensures)

pub returns-else-is_empty : goal.returns-else-is_empty
returns-else-is_empty c =
    ap (λ b. if b then None else Some (cond.Or c.args.conds)) (sym c.if-is_empty.false ∙ empty-by c.is_empty.result c.args.conds c.is_empty.ensures)
