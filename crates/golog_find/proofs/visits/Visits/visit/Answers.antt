use Rattle.std.proofs.Common.{refl, sym}
use Rattle.golog_find.specs.declared.visits.Visits.{Visits}
use Rattle.golog_find.specs.Visits.{nothing}
use Rattle.golog_find.proofs.VisitPlaces.{placed-first, visited-first, visited-still}
use Rattle.golog_find.proofs.visits.Visits.visit.Goals as goal

abbrev after : goal.In_ok-insert-in-None → Visits
after c = record { places = c.insert.new.self; opened = c.args.self.now.opened; count = c.args.self.now.count; effects = c.args.self.now.effects }

pub returns-in_ok-insert-in-None-clause-kept : goal.returns-in_ok-insert-in-None-clause-kept
returns-in_ok-insert-in-None-clause-kept c = record {
  opened = c.requires.kept.opened;
  placed = placed-first c.args.self.now (after c) c.args.number nothing (c.in_ok-insert-in-None.ensures.updates).0 refl refl refl (sym c.in-None.ensures.value) c.requires.kept.placed;
  effects = c.requires.kept.effects;
}

pub returns-in_ok-insert-in-None-clause-visited : goal.returns-in_ok-insert-in-None-clause-visited
returns-in_ok-insert-in-None-clause-visited c =
    visited-first c.args.self.now (after c) c.args.number nothing (c.in_ok-insert-in-None.ensures.updates).0 refl refl refl (sym c.in-None.ensures.value)

pub returns-in-Some-2-2-clause-visited : goal.returns-in-Some-2-2-clause-visited
returns-in-Some-2-2-clause-visited c =
    visited-still c.args.self.now c.args.number c.in-Some.place.now c.requires.kept.placed (sym c.in-Some.ensures.value) (λ n room. c.if-place.false n)
