use Rattle.std.proofs.Common.{◌∙◌, ap, sym}
use Rattle.golog_branch.specs.Following.{tree_in}
use Rattle.golog_plan.proofs.Decisions.{found-plan, fuel-next, large-next, planless}
use Rattle.golog_plan.proofs.plan_core.PlanCore.by_plan.Goals as goal

pub begin_new-next-requires-clause-ahead : goal.begin_new-next-requires-clause-ahead
begin_new-next-requires-clause-ahead c = ap tree_in (sym c.requires.found ∙ c.in-Found.is)

pub begin_new-next-requires-clause-goes : goal.begin_new-next-requires-clause-goes
begin_new-next-requires-clause-goes c = (found-plan c.args.self.now c.args.found c.in-Found.tree c.in-Found.is c.requires.so).goes_through

pub begin_new-next-requires-clause-told : goal.begin_new-next-requires-clause-told
begin_new-next-requires-clause-told c = (found-plan c.args.self.now c.args.found c.in-Found.tree c.in-Found.is c.requires.so).told

pub without_plan-requires-clause-none : goal.without_plan-requires-clause-none
without_plan-requires-clause-none c = planless c.args.self.now (sym c.in-Absent.is ∙ c.requires.found)

pub returns-in-Fuel : goal.returns-in-Fuel
returns-in-Fuel c = fuel-next c.args.self.now c.requires.settled (sym c.in-Fuel.is ∙ c.requires.found)

pub returns-in-Large : goal.returns-in-Large
returns-in-Large c = large-next c.args.self.now c.requires.settled (sym c.in-Large.is ∙ c.requires.found)
