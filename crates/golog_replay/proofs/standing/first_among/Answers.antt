use Rattle.std.proofs.Common.{◌+◌, refl, sym, ap, ◌∙◌, arith}
use Rattle.std.specs.Prelude.{if◌then◌else◌}
use Rattle.golog_semantics.specs.declared.journal.Entry.TheVariants.{Do}
use Rattle.golog_replay.specs.Standings.{commands_from, first_awaited}
use Rattle.golog_replay.proofs.Noting.{as-number}
use Rattle.golog_replay.proofs.Scanning.{goes-on, is-found, none-found}
use Rattle.golog_replay.proofs.standing.first_among.Goals as goal

pub loop-entry-init : goal.loop-entry-init
loop-entry-init c = record {
  found = refl;
  few = c.requires.few;
  room = let r = c.requires.room in omega (arith, r);
}

pub loop-entry-preserved : goal.loop-entry-preserved
loop-entry-preserved c =
    let l = c.loop-entry in
    goes-on c.args.facts.now c.args.device c.args.rest.now
    (first_awaited c.args.facts.now c.args.sent (commands_from c.args.facts.now c.args.device (c.args.place + 1) c.args.rest.now))
    l.number l.at l.entry-index l.invariant (Do 0) c.loop-entry-test.true
    c.command_of-command.result c.command_of-command.ensures c.awaited_if-found.result c.awaited_if-found.ensures
    (sym c.is_some.ensures ∙ c.if-is_some.false) c.from-number.result
    (c.from-number.ensures ∙ as-number c.is_some-in-loop-entry.result ∙ ap (λ b. if b then 1 else 0) c.is_some-in-loop-entry.ensures)

pub returns-then-is_some : goal.returns-then-is_some
returns-then-is_some c =
    let l = c.loop-entry in
    is-found c.args.facts.now c.args.device c.args.rest.now
    (first_awaited c.args.facts.now c.args.sent (commands_from c.args.facts.now c.args.device (c.args.place + 1) c.args.rest.now))
    l.number l.at l.entry-index l.invariant (Do 0) c.loop-entry-test.true
    c.command_of-command.result c.command_of-command.ensures c.awaited_if-found.result c.awaited_if-found.ensures
    (sym c.is_some.ensures ∙ c.if-is_some.true)

pub returns : goal.returns
returns c =
    let l = c.loop-entry in
    none-found c.args.facts.now c.args.device c.args.rest.now
    (first_awaited c.args.facts.now c.args.sent (commands_from c.args.facts.now c.args.device (c.args.place + 1) c.args.rest.now))
    l.number l.at l.entry-index l.invariant c.loop-entry-test.false
