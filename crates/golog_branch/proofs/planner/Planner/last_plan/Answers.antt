use Rattle.std.proofs.Common.{◌≡◌, Option, IfOk, sym, ap, ◌∙◌, subst}
use Rattle.golog_semantics.specs.declared.Mode.TheVariants.{Must}
use Rattle.golog_semantics.specs.Search.{final}
use Rattle.golog_semantics.specs.Truth.{Values}
use Rattle.golog_ways.specs.Searched.{IsSearched}
use Rattle.golog_branch.specs.declared.tree.Tree.{Tree}
use Rattle.golog_branch.specs.Levels.{state_of}
use Rattle.golog_branch.specs.Plans.{first_plan}
use Rattle.golog_branch.proofs.TablePlans.{first-ends}
use Rattle.golog_branch.proofs.planner.Planner.last_plan.Goals as goal

pub returns-then-spot : goal.returns-then-spot
returns-then-spot c =
    let agent = c.args.self.now.agent.now in
    let spot = c.args.spot.now in
    subst (λ (o : Option Tree). IfOk c.done.result (λ plan. plan ≡ o))
    (sym (first-ends agent 1 (state_of spot) (sym c.requires.spot.ends ∙ c.if-spot.true))) c.done.ensures

pub last_from-plan-requires-clause-searched : goal.last_from-plan-requires-clause-searched
last_from-plan-requires-clause-searched c =
    subst (IsSearched c.args.self.now.agent.now c.args.spot.now.left) (sym c.in_ok-state.ensures) c.requires.spot.searched

pub last_from-plan-requires-clause-unended : goal.last_from-plan-requires-clause-unended
last_from-plan-requires-clause-unended c =
    ap (λ (vs : Values). final c.args.self.now.agent.now vs Must c.args.spot.now.left) c.in_ok-state.ensures ∙ sym c.requires.spot.ends ∙ c.if-spot.false

pub returns : goal.returns
returns c =
    subst (λ (o : Option Tree). IfOk c.last_from-plan.result (λ plan. plan ≡ o))
    (ap (λ (vs : Values). first_plan c.args.self.now.agent.now 1 c.args.spot.now.left vs) c.in_ok-state.ensures) c.last_from-plan.ensures
