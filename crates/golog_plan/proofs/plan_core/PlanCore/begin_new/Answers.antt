use Rattle.std.proofs.Common.{Some, ap, ◌∙◌}
use Rattle.golog_branch.specs.declared.tree.Tree.{Tree}
use Rattle.golog_plan.specs.Next.{kept_of, values_of}
use Rattle.golog_plan.specs.PlanTexts.{ended_line, plan_tail}
use Rattle.golog_plan.proofs.Decisions.{begins-so, new-tail, settles}
use Rattle.golog_plan.proofs.plan_core.PlanCore.begin_new.Goals as goal

pub begin-requires-clause-step : goal.begin-requires-clause-step
begin-requires-clause-step c =
    let core = c.args.self.now in
    begins-so core.agent (kept_of core).left (values_of core) c.args.tree.now c.requires.goes (settles core c.requires.settled).unended

pub begin-requires-clause-tail : goal.begin-requires-clause-tail
begin-requires-clause-tail c =
    let core = c.args.self.now in
    ap Some (c.in_ok-tail.ensures ∙ ap (λ (t : Tree). ended_line (plan_tail core.agent (Some t))) c.get.ensures) ∙ new-tail core c.requires.new c.args.tree.now c.requires.ahead
