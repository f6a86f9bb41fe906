use Rattle.std.proofs.Common.{ℕ, sym, ap, subst}
use Rattle.golog_tree.specs.declared.prog.Label.{Label}
use Rattle.golog_semantics.specs.InSorts.{AreInSorts}
use Rattle.golog_semantics.specs.Truth.{Values}
use Rattle.golog_semantics.proofs.CausesKeep.{steps_stay_in_sorts}
use Rattle.golog_find.specs.declared.numbered.Numbered.{Numbered}
use Rattle.golog_find.proofs.numbered.Numbered.lead.Goals as goal

abbrev with_state : Label → ℕ → ℕ → Values → Numbered
with_state label left from values = record { label = label; left = left; state = values; from = from }

pub returns-clause-reached : goal.returns-clause-reached
returns-clause-reached c = ap (with_state c.args.label c.args.self.now.left c.args.from) c.follow.ensures

pub returns-clause-sorts : goal.returns-clause-sorts
returns-clause-sorts c =
    let agent = c.args.agent.now in
    subst (AreInSorts agent) (sym c.follow.ensures) (steps_stay_in_sorts agent c.requires.agent c.args.values.now c.args.label c.requires.sorts)
