use Rattle.std.proofs.Common.{true, sym, ap, ◌∙◌}
use Rattle.std.specs.Option.{option_map_or}
use Rattle.golog_semantics.specs.Journal.{is_open}
use Rattle.golog_replay.proofs.Noting.{poster-within}
use Rattle.golog_replay.proofs.standing.Standing.is_of_open.Goals as goal

pub is_open-requires-clause-device : goal.is_open-requires-clause-device
is_open-requires-clause-device c =
    poster-within c.args.agent.now c.args.before.now c.args.entry c.in-Some.poster (sym c.poster_of.ensures ∙ c.in-Some.is) c.requires.fits

pub returns-in-Some : goal.returns-in-Some
returns-in-Some c =
    c.is_open.ensures ∙ ap (λ o. option_map_or (λ d. is_open d c.args.before.now) o true) (sym c.in-Some.is ∙ c.poster_of.ensures)

pub returns-in-None : goal.returns-in-None
returns-in-None c = ap (λ o. option_map_or (λ d. is_open d c.args.before.now) o true) (sym c.in-None.is ∙ c.poster_of.ensures)
