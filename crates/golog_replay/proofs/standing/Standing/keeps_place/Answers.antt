use Rattle.std.proofs.Common.{refl, sym, ap, ◌∙◌}
use Rattle.golog_semantics.specs.declared.journal.Entry.TheVariants.{Sense}
use Rattle.golog_semantics.specs.Online.{keeps_place}
use Rattle.golog_semantics.specs.Reports.{fits_entry}
use Rattle.golog_replay.proofs.Awaiting.{place-by}
use Rattle.golog_replay.proofs.Noting.{poster-within, value-within}
use Rattle.golog_replay.proofs.standing.Standing.keeps_place.Goals as goal

pub tracked-requires-clause-device : goal.tracked-requires-clause-device
tracked-requires-clause-device c =
    let agent = c.args.agent.now in
    let before = c.args.before.now in
    let s = c.in-Sense in
    poster-within agent before (Sense s.poster s.place s.fluent s.value) s.poster refl (sym (ap (fits_entry agent before) s.is) ∙ c.requires.fits)

pub returns-in-Sense : goal.returns-in-Sense
returns-in-Sense c =
    let agent = c.args.agent.now in
    let before = c.args.before.now in
    let s = c.in-Sense in
    c.tells.ensures
    ∙ sym
    (ap (keeps_place agent before) s.is
    ∙ place-by agent before s.poster c.tracked.result.first c.tracked.ensures.awaits s.place s.fluent s.value
    (value-within agent before s.poster s.place s.fluent s.value (sym (ap (fits_entry agent before) s.is) ∙ c.requires.fits)))
