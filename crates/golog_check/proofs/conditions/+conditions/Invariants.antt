use Rattle.std.proofs.Common.{◌≡◌, List, map, drop}
use Rattle.golog_tree.specs.declared.cond.Cond.{Cond}
use Rattle.golog_rows.specs.Reading.{each}
use Rattle.golog_check.specs.Conditions.{InScope, cond_in}
use Rattle.golog_check.proofs.conditions.+conditions.Given as goal

abbrev pub invariant-add_conds-loop-draft : goal.invariant-add_conds-loop-draft
invariant-add_conds-loop-draft l =
    (each (λ (_ : List Cond) (cond : InScope). cond l.scope) l.conds (map (cond_in l.names) (drop l.draft-index l.drafts))).outcome
    ≡ (each (λ (_ : List Cond) (cond : InScope). cond l.scope) l.fn.conds (map (cond_in l.names) l.drafts)).outcome
