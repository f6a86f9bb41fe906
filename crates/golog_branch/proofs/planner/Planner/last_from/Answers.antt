use Rattle.std.proofs.Common.{◌≡◌, Option, IfOk, List, map, sym, ap, ◌∙◌, subst}
use Rattle.golog_tree.specs.declared.prog.Way.{Way}
use Rattle.golog_semantics.specs.declared.Mode.TheVariants.{Must}
use Rattle.golog_semantics.specs.Online.{first_some}
use Rattle.golog_semantics.specs.Search.{is_followed}
use Rattle.golog_branch.specs.declared.tree.Tree.{Tree}
use Rattle.golog_branch.specs.Levels.{followed_step}
use Rattle.golog_branch.specs.Plans.{first_plan, step_for}
use Rattle.golog_branch.proofs.CasesKeep.{ways-are}
use Rattle.golog_branch.proofs.Somes.{passing}
use Rattle.golog_branch.proofs.TablePlans.{first-goes}
use Rattle.golog_branch.proofs.planner.Planner.last_from.Goals as goal

pub first_last-plan-requires-clause-ways : goal.first_last-plan-requires-clause-ways
first_last-plan-requires-clause-ways c =
    ways-are c.args.self.now.agent.now c.requires.agent c.args.left.now c.args.state.now c.requires.searched Must c.as_slice.result.now (c.as_slice.ensures ∙ c.in_ok-ways.ensures)

pub returns : goal.returns
returns c =
    let agent = c.args.self.now.agent.now in
    let state = c.args.state.now in
    let f = step_for agent (first_plan agent 0) state in
    let first = first-goes agent 0 (c.args.left.now, state) c.requires.unended in
    let ways = c.as_slice.ensures ∙ c.in_ok-ways.ensures in
    subst (λ (o : Option Tree). IfOk c.first_last-plan.result (λ plan. plan ≡ o))
    (ap (λ (ws : List Way). first_some (map (followed_step agent (first_plan agent 0) state) ws)) ways ∙ sym (first ∙ passing f is_followed _)) c.first_last-plan.ensures
