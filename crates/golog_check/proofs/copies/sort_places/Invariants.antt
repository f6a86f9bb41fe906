use Rattle.std.proofs.Common.{◌≡◌, map, take}
use Rattle.golog_draft.specs.DraftPlaces.{sort_place}
use Rattle.golog_check.proofs.copies.sort_places.Given as goal

abbrev pub invariant-loop-sort : goal.invariant-loop-sort
invariant-loop-sort l = l.places ≡ map sort_place (take l.sort-index l.sorts)
