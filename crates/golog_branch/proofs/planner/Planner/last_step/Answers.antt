use Rattle.std.proofs.Common.{◌≡◌, List, Option, IfOk, map, refl, ap, ◌∙◌, subst}
use Rattle.golog_branch.specs.declared.cases.Case.{Case}
use Rattle.golog_branch.specs.declared.tree.Branch.{Branch}
use Rattle.golog_branch.specs.declared.tree.Tree.{Tree}
use Rattle.golog_branch.specs.Levels.{case_of, step_with}
use Rattle.golog_branch.specs.Plans.{all_some, branch_for, first_plan}
use Rattle.golog_branch.proofs.CasesKeep.{cases-searched}
use Rattle.golog_branch.proofs.TablePlans.{map-through}
use Rattle.golog_branch.proofs.planner.Planner.last_step.Goals as goal

pub done_branches-next-requires-clause-cases : goal.done_branches-next-requires-clause-cases
done_branches-next-requires-clause-cases c =
    let way = c.requires.way in
    cases-searched c.args.self.now.agent.now c.requires.agent c.args.way.now.left way.program way.blockless c.args.state.now c.requires.sorts
    c.args.way.now.label way.label c.as_slice.result.now (ap (map case_of) c.as_slice.ensures ∙ c.in_ok-cases.ensures)

pub returns : goal.returns
returns c =
    let way = c.args.way.now in
    let f = branch_for (first_plan c.args.self.now.agent.now 0) way.left in
    subst (λ (o : Option (List Branch)). IfOk c.step_of.result (λ (plan : Option Tree). plan ≡ step_with way o))
    (c.in_ok-next.ensures
    ∙ ap all_some (map-through (λ (x : Case). f (case_of x)) f case_of (λ x. refl) c.as_slice.result.now
    ∙ ap (map f) (ap (map case_of) c.as_slice.ensures ∙ c.in_ok-cases.ensures)))
    c.step_of.ensures
