use Rattle.std.proofs.Common.{◌≡◌, ℕ, length, false, sym, ◌∙◌, arith}
use Rattle.std.specs.Prelude.{is_some}
use borrow.Author.Count.{below_more}
use Rattle.golog_reports.specs.Reads.{constant_named, is_agents_constant}
use Rattle.golog_reports.proofs.FirstNamed.{any-below, none-below}
use Rattle.golog_reports.proofs.lookups.is_agents_constant.Goals as goal

pub loop-sort-preserved : goal.loop-sort-preserved
loop-sort-preserved c =
    below_more (λ k. is_some (constant_named c.args.agent.now k c.args.text.now) ≡ false) c.loop-sort.sort c.loop-sort.invariant
    (sym c.is_constant_of.ensures ∙ c.if-is_constant_of.false)

pub returns-then-is_constant_of : goal.returns-then-is_constant_of
unfolding is_agents_constant
returns-then-is_constant_of c =
    sym (any-below (λ (sort : ℕ). is_some (constant_named c.args.agent.now sort c.args.text.now)) (length c.args.agent.now.sorts) c.loop-sort.sort (omega arith)
    (sym c.is_constant_of.ensures ∙ c.if-is_constant_of.true))

pub returns : goal.returns
unfolding is_agents_constant
returns c =
    sym (none-below (λ (sort : ℕ). is_some (constant_named c.args.agent.now sort c.args.text.now)) (length c.args.agent.now.sorts)
    (λ n less. c.loop-sort.invariant n (omega (arith, less))))
