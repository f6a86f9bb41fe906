use Rattle.std.proofs.Common.{rules, ◌+◌, ◌≤◌, length, arith}
use Rattle.golog_find.specs.declared.visits.Visits.{Visits}
use Rattle.golog_find.specs.Visits.{nothing}
use Rattle.golog_find.proofs.Visiting.{kept-more}
use Rattle.golog_find.proofs.VisitPlaces.{kept-now, placed-more, visited-more}
use Rattle.golog_find.proofs.visits.Visits.keep.Goals as goal

few : (c : goal.In_ok-push) → c.len.result ≤ nothing
few c = search rules

counted : (c : goal.In_ok-push) → c.saturating_add-self.result ≤ c.args.self.now.count + length c.in_ok-opened.opened.fronts
counted c =
    let sum = c.saturating_add-self.ensures in
    let fronts = c.len-2.ensures in
    omega arith

abbrev after : goal.In_ok-push → Visits
after c = record { places = c.insert.new.self; opened = c.push.new.self; count = c.saturating_add-self.result; effects = c.with_effects.new.effects }

pub returns-clause-kept : goal.returns-clause-kept
returns-clause-kept c =
    let made = c.in_ok-opened.ensures in
    record {
      opened = kept-more c.args.nodes.now c.with_effects.new.nodes made.goes_on c.args.agent.now c.args.self.now.opened c.push.new.self c.in_ok-opened.opened c.requires.kept.opened made.opened.opened
          c.in_ok-push.ensures.ok;
      placed = placed-more c.args.self.now (after c) c.args.number c.len.result (c.in_ok-insert.ensures.updates).0 c.in_ok-opened.opened c.in_ok-push.ensures.ok c.len.ensures (few c) made.opened.same
          c.requires.asked (counted c) c.requires.kept.placed;
      effects = made.effects;
    }

pub returns-clause-visited : goal.returns-clause-visited
returns-clause-visited c =
    let made = c.in_ok-opened.ensures in
    visited-more c.args.self.now (after c) c.args.number c.len.result (c.in_ok-insert.ensures.updates).0 c.in_ok-opened.opened c.in_ok-push.ensures.ok c.len.ensures (few c) made.opened.same
    c.requires.asked (counted c)

pub returns-clause-keeps : goal.returns-clause-keeps
returns-clause-keeps c =
    let made = c.in_ok-opened.ensures in
    kept-now c.args.self.now (after c) c.args.number c.len.result (c.in_ok-insert.ensures.updates).0 c.in_ok-opened.opened c.in_ok-push.ensures.ok c.len.ensures (few c) made.opened.same
    c.requires.asked (counted c)
