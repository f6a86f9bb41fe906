use Rattle.std.proofs.Common.{ap, ◌∙◌}
use Rattle.std.specs.Prelude.{slice_set}
use Rattle.golog_semantics.specs.InSorts.{AreInSorts}
use Rattle.golog_ask.proofs.Reported.{reported}
use Rattle.golog_commands.proofs.FromStarts.{after-start, copied-so, has-first, may-be-false}
use Rattle.golog_commands.proofs.starts.values_left.Goals as goal

pub roll-requires-clause-entries : goal.roll-requires-clause-entries
roll-requires-clause-entries c = rw c.as_slice.ensures (reported c.args.agent.now c.args.report.now c.requires.fits)

pub after_sense-requires : goal.after_sense-requires
after_sense-requires c = has-first c.args.agent.now c.requires.formed c.roll.new.self c.roll.ensures.sorts

pub returns-clause-left : goal.returns-clause-left
returns-clause-left c =
    let rolled = rw (c.as_slice.ensures, c.in_ok-state.ensures.values) at c.roll.ensures.values in
    let left = rolled ∙ after-start c.args.agent.now c.args.report.now.start c.args.report.now.entries in
    let set = c.after_sense.ensures.values ∙ ap (λ values. slice_set values 0 0) left in
    rw (c.values.ensures ∙ set) at c.copy_of-values.ensures

pub returns-clause-sorts : goal.returns-clause-sorts
returns-clause-sorts c =
    let agent = c.args.agent.now in
    copied-so (AreInSorts agent) c.after_sense.new.self c.copy_of-values.result
    (c.after_sense.ensures.sorts agent c.roll.ensures.sorts (may-be-false agent c.requires.formed)) (rw c.values.ensures at c.copy_of-values.ensures)
