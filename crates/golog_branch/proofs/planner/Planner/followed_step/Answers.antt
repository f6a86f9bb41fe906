use Rattle.std.proofs.Common.{◌≡◌, if◌then◌else◌, IfOk, Option, None, sym, ap, subst, arith}
use Rattle.std.proofs.lemmas.Bool.{le-leb, lt-leb}
use Rattle.golog_tree.specs.Nest.{nest}
use Rattle.golog_branch.specs.declared.tree.Tree.{Tree}
use Rattle.golog_branch.specs.Plans.{first_plan, step_for}
use Rattle.golog_branch.proofs.planner.Planner.followed_step.Goals as goal

pub returns-then-nest-gt-NEST_LIMIT : goal.returns-then-nest-gt-NEST_LIMIT
returns-then-nest-gt-NEST_LIMIT c =
    let way = c.args.way.now in
    let is = c.nest.ensures in
    sym (ap (λ b. if b then step_for c.args.self.now.agent.now (first_plan c.args.self.now.agent.now 0) c.args.state.now way else None) (lt-leb (nest way.left) 2048 (omega arith)))

pub returns : goal.returns
returns c =
    let way = c.args.way.now in
    let is = c.nest.ensures in
    let f = step_for c.args.self.now.agent.now (first_plan c.args.self.now.agent.now 0) c.args.state.now way in
    subst (λ (o : Option Tree). IfOk c.last_step.result (λ (plan : Option Tree). plan ≡ o))
    (sym (ap (λ b. if b then f else None) (le-leb (nest way.left) 2048 (omega arith)))) c.last_step.ensures
