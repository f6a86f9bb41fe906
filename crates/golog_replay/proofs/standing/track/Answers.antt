use Rattle.std.proofs.Common.{sym, ◌∙◌}
use Rattle.golog_replay.proofs.Noting.{not-some, poster-within}
use Rattle.golog_replay.proofs.Tracking.{nobody-so}
use Rattle.golog_replay.proofs.standing.track.Goals as goal

pub track_posted-requires-clause-device : goal.track_posted-requires-clause-device
track_posted-requires-clause-device c =
    poster-within c.args.facts.now c.args.before.now c.args.entry c.in-Some.poster (sym c.poster_of.ensures ∙ c.in-Some.is) c.requires.fits

pub returns : goal.returns
returns c = c.track_posted.ensures

pub returns-in_default-poster_of : goal.returns-in_default-poster_of
returns-in_default-poster_of c =
    nobody-so c.args.facts.now c.args.before.now c.requires.results c.args.entry
    (sym c.poster_of.ensures ∙ not-some c.poster_of.result c.in_default-poster_of.not-Some) c.in_default.not-Do c.args.devices.now
    c.requires.tracked
