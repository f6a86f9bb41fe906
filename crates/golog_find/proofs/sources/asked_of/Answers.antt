use Rattle.std.proofs.Common.{[], sym, ap, ◌∙◌}
use Rattle.std.specs.Option.{option_copied, option_map_or}
use Rattle.golog_find.specs.declared.visits.Opened.{Opened}
use Rattle.golog_find.proofs.sources.asked_of.Goals as goal

pub returns-in-Some-clause-fronts : goal.returns-in-Some-clause-fronts
returns-in-Some-clause-fronts c = c.as_slice.ensures ∙ ap (λ o. option_map_or (λ (z : Opened). z.fronts) (option_copied o) []) (sym c.in-Some.is)

pub returns-in-None-clause-fronts : goal.returns-in-None-clause-fronts
returns-in-None-clause-fronts c = ap (λ o. option_map_or (λ (z : Opened). z.fronts) (option_copied o) []) (sym c.in-None.is)
