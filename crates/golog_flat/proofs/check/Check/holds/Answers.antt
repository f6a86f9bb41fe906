use Rattle.std.proofs.Common.{Bool, ap, ◌∙◌}
use Rattle.golog_semantics.specs.Modes.{holds}
use Rattle.golog_flat.specs.Checks.{check_truth, holds_by}
use Rattle.golog_flat.proofs.Parts.{holds-mode}
use Rattle.golog_flat.proofs.check.Check.holds.Goals as goal

pub returns-clause-so : goal.returns-clause-so
returns-clause-so c = λ cond is.
    let truth = check_truth c.args.agent.now c.args.values.now c.args.self.now in
    c.check_holds.ensures ∙ ap (λ (lenient : Bool). holds_by lenient truth) c.unknown_holds.ensures ∙ holds-mode c.args.mode truth
    ∙ ap (holds c.args.mode) (is.same c.args.values.now)
