use Rattle.std.proofs.Common.{◌≡◌, true, subst}
use Rattle.golog_semantics.specs.Reports.{fits_label}
use Rattle.golog_text.proofs.Things.{label_action}
use Rattle.golog_branch.proofs.telling.add_label.Goals as goal

pub action_text-requires-clause-number : goal.action_text-requires-clause-number
action_text-requires-clause-number c =
    label_action c.args.agent.now c.in-Do.action (subst (λ l. fits_label c.args.agent.now l ≡ true) c.in-Do.is c.requires.label)
