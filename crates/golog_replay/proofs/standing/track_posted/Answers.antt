use Rattle.std.proofs.Common.{◌∷◌, [], ◌++◌, refl, sym, subst, arith}
use Rattle.golog_replay.specs.Standings.{AreTracked, AwaitsFrom}
use Rattle.golog_replay.proofs.Tracking.{one-posts, tracked-here}
use Rattle.golog_replay.proofs.standing.track_posted.Goals as goal

pub first_after-first-requires-clause-awaits : goal.first_after-first-requires-clause-awaits
first_after-first-requires-clause-awaits c =
    (tracked-here c.args.facts.now c.args.before.now c.args.devices.now c.args.devices.now c.requires.tracked refl c.args.poster c.requires.device
    c.tracked_at-tracked.result c.tracked_at-tracked.ensures).awaits

pub returns : goal.returns
returns c =
    let agent = c.args.facts.now in
    let new = c.after.result in
    let one = c.requires.tracked.one_each in
    let low = c.requires.device in
    subst (AreTracked agent (c.args.before.now ++ c.args.entry ∷ [])) (sym c.put.ensures)
    (one-posts agent c.args.before.now c.requires.results c.args.entry c.args.poster c.requires.poster c.requires.place c.args.devices.now c.tracked_at-tracked.result new
    (omega (arith, one, low)) (c.tracked_at-tracked.ensures new) c.after.ensures.opened c.after.ensures.silent c.after.ensures.commands c.after.ensures.told c.after.ensures.rested
    (subst (AwaitsFrom agent (c.args.before.now ++ c.args.entry ∷ []) c.args.poster) (sym c.after.ensures.first) c.first_after-first.ensures)
    c.requires.tracked)
