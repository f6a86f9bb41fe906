use Rattle.std.proofs.Common.{◌≡◌, Bool, true, subst, sym}
use Rattle.std.specs.Prelude.{IfOk, nat_lt}
use Rattle.golog_tree.specs.declared.agent.Agent.{Agent}
use Rattle.golog_semantics.specs.Truth.{comparison_of}
use Rattle.golog_flat.specs.declared.check.Check.{Check}
use Rattle.golog_flat.specs.declared.sides.Side.{Side}
use Rattle.golog_flat.specs.declared.sides.Side.TheVariants.{Value}
use Rattle.golog_flat.specs.Checks.{Tells, turned}
use Rattle.golog_flat.specs.Making.{side_fits, side_value}
use Rattle.golog_flat.proofs.sides.order_check.Goals as goal

-- the check tells whether the one side is below the other
abbrev TellsBelow : Side → Side → Bool → Check → Type 0
TellsBelow one other negated check =
    (agent : Agent) → side_fits agent one ≡ true → side_fits agent other ≡ true
    → Tells agent (λ values. turned negated (comparison_of nat_lt (side_value values one) (side_value values other))) check

pub returns-in-Value-Value : goal.returns-in-Value-Value
returns-in-Value-Value c =
    subst (λ s. IfOk c.values_order.result (TellsBelow s c.args.other c.args.negated)) (sym c.in-Value-Value.is-0)
    (subst (λ s. IfOk c.values_order.result (TellsBelow (Value c.in-Value-Value.one) s c.args.negated)) (sym c.in-Value-Value.is-1) c.values_order.ensures)
