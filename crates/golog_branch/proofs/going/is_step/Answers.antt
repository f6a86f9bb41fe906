use Rattle.std.proofs.Common.{◌≡◌, Bool, IfOk, ap, subst}
use Rattle.golog_tree.specs.declared.prog.Prog.{Prog}
use Rattle.golog_branch.specs.Going.{is_step}
use Rattle.golog_branch.proofs.going.is_step.Goals as goal

pub returns : goal.returns
returns c =
    let agent = c.args.planner.now.agent.now in
    subst (λ (b : Bool). IfOk c.is_certain-is.result (λ (r : Bool). r ≡ b))
    (ap (λ (q : Prog). is_step agent c.args.label q c.args.prog.now c.args.state.now) c.in_ok-left.ensures) c.is_certain-is.ensures
