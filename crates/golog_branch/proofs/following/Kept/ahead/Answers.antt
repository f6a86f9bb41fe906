use Rattle.std.proofs.Common.{◌≡◌, IfOk, sym, ◌∙◌, subst}
use Rattle.golog_branch.specs.declared.tree.Planned.{Planned}
use Rattle.golog_branch.proofs.KeptPlans.{ahead-kept, ahead-new}
use Rattle.golog_branch.proofs.following.Kept.ahead.Goals as goal

pub returns-in-Some : goal.returns-in-Some
returns-in-Some c =
    ahead-kept c.args.agent.now c.args.depth c.args.fuel c.args.state.now c.args.self.now c.in-Some.tree (sym c.in_ok-tree.ensures ∙ c.in-Some.is)

pub returns-in-None : goal.returns-in-None
returns-in-None c =
    subst (λ (p : Planned). IfOk c.plan.result (λ (found : Planned). found ≡ p))
    (ahead-new c.args.agent.now c.args.depth c.args.fuel c.args.state.now c.args.self.now (sym c.in_ok-tree.ensures ∙ c.in-None.is)) c.plan.ensures.found
