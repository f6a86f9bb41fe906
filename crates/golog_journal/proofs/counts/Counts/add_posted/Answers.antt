use Rattle.std.proofs.Common.{◌≡◌, ◌<◌, not, ◌&&◌, length, set, get_or, sym, ap, ◌∙◌, subst, arith}
use Rattle.std.proofs.lemmas.List.{get_or_default}
use Rattle.golog_semantics.specs.Journal.{is_close}
use Rattle.golog_journal.specs.declared.standing.Standing.{Standing}
use Rattle.golog_journal.specs.Tallies.{outstanding_after, IsCounted}
use Rattle.golog_journal.proofs.Views.{lawful-inside}
use Rattle.golog_journal.proofs.Beginning.{poster-inside}
use Rattle.golog_journal.proofs.Pushing.{room-for, counted-posted}
use Rattle.golog_journal.proofs.counts.Counts.add_posted.Goals as goal

pub index_mut-requires : goal.index_mut-requires
index_mut-requires c =
    let j = c.self.inside in
    let lawful = lawful-inside j.facts j.totals c.args.self.now c.args.entry c.self.view_is c.requires.lawful in
    let inside = poster-inside j.facts j.totals c.args.entry c.args.poster c.requires.poster lawful in
    let one = c.self.invariant.tallied.one_each in
    let ok = j.standings.ok.0 in
    omega (arith, inside, one, ok)

pub add-requires : goal.add-requires
add-requires c =
    let j = c.self.inside in
    let lawful = lawful-inside j.facts j.totals c.args.self.now c.args.entry c.self.view_is c.requires.lawful in
    room-for j.facts j.totals j.standings.items c.self.invariant c.args.entry lawful

pub invariant_of-self : goal.invariant_of-self
invariant_of-self c =
    let j = c.self.inside in
    let ts = j.standings.items in
    let new = c.note.new.self in
    let lawful = lawful-inside j.facts j.totals c.args.self.now c.args.entry c.self.view_is c.requires.lawful in
    let number = poster-inside j.facts j.totals c.args.entry c.args.poster c.requires.poster lawful in
    let inside : c.args.poster < length ts = (let one = c.self.invariant.tallied.one_each in omega (arith, number, one)) in
    let was : c.index_mut.result.now ≡ get_or ts c.args.poster new =
    c.index_mut.ensures.value ∙ get_or_default ts c.args.poster c.index_mut.result.now new inside in
    subst (λ entries. IsCounted j.facts entries (set ts c.args.poster new)) (sym c.add.ensures)
    (counted-posted j.facts j.totals ts c.self.invariant c.args.poster new inside c.args.entry c.requires.poster
    (c.note.ensures.commands ∙ ap (λ (t : Standing). t.commands) was)
    (c.note.ensures.outstanding ∙ ap (λ (t : Standing). outstanding_after t.outstanding c.args.entry) was) c.note.ensures.rested
    (c.note.ensures.is_open ∙ ap (λ (t : Standing). t.is_open && not (is_close c.args.entry)) was) lawful)
