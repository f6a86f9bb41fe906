use Rattle.std.proofs.Common.{◌∷◌, [], ◌++◌, length, refl, sym, ap, ◌∙◌, subst, arith}
use Rattle.std.specs.Option.{option_or}
use Rattle.golog_semantics.specs.declared.journal.Entry.TheVariants.{Do}
use Rattle.golog_journal.proofs.Beginning.{carrier-inside}
use Rattle.golog_replay.specs.Standings.{AreTracked, awaited_by}
use Rattle.golog_replay.proofs.Noting.{not-some}
use Rattle.golog_replay.proofs.Tracking.{nobody-sent, one-sent, tracked-here}
use Rattle.golog_replay.proofs.standing.track_action.Goals as goal

pub tracked_at-tracked-requires : goal.tracked_at-tracked-requires
tracked_at-tracked-requires c =
    let sent = sym c.device_of.ensures ∙ c.in-Some.is in
    let low = carrier-inside c.args.facts.now c.requires.serves c.args.action c.in-Some.device sent in
    let one = c.requires.tracked.one_each in omega (arith, low, one)

pub sent-requires : goal.sent-requires
sent-requires c =
    let sent = sym c.device_of.ensures ∙ c.in-Some.is in
    let low = carrier-inside c.args.facts.now c.requires.serves c.args.action c.in-Some.device sent in
    let t =
    tracked-here c.args.facts.now c.args.before.now c.args.devices.now c.args.devices.now c.requires.tracked refl c.in-Some.device low
    c.tracked_at-tracked.result c.tracked_at-tracked.ensures in
    let few = t.few in
    let short = c.requires.short in omega (arith, few, short)

pub number-requires : goal.number-requires
number-requires c =
    let sent = sym c.device_of.ensures ∙ c.in-Some.is in
    let low = carrier-inside c.args.facts.now c.requires.serves c.args.action c.in-Some.device sent in
    let t =
    tracked-here c.args.facts.now c.args.before.now c.args.devices.now c.args.devices.now c.requires.tracked refl c.in-Some.device low
    c.tracked_at-tracked.result c.tracked_at-tracked.ensures in
    let few = t.few in
    let short = c.requires.short in omega (arith, few, short)

pub put-requires : goal.put-requires
put-requires c =
    let sent = sym c.device_of.ensures ∙ c.in-Some.is in
    let low = carrier-inside c.args.facts.now c.requires.serves c.args.action c.in-Some.device sent in
    let one = c.requires.tracked.one_each in omega (arith, low, one)

pub returns : goal.returns
returns c =
    let agent = c.args.facts.now in
    let before = c.args.before.now in
    let device = c.in-Some.device in
    let sent = sym c.device_of.ensures ∙ c.in-Some.is in
    let low = carrier-inside agent c.requires.serves c.args.action device sent in
    let one = c.requires.tracked.one_each in
    let was = c.tracked_at-tracked.result in
    let new = c.sent.result in
    let first =
    c.or-first.ensures
    ∙ ap (option_or was.first) (c.awaited_by-new.ensures ∙ ap (awaited_by agent (length before) c.args.action) c.number.ensures) in
    subst (AreTracked agent (before ++ Do c.args.action ∷ [])) (sym c.put.ensures)
    (one-sent agent before c.args.action c.requires.results device sent c.args.devices.now was new (omega (arith, low, one))
    (c.tracked_at-tracked.ensures new) c.sent.ensures.opened c.sent.ensures.silent c.sent.ensures.commands c.sent.ensures.told c.sent.ensures.rested
    (c.sent.ensures.first ∙ first) c.requires.tracked)

pub returns-in_default : goal.returns-in_default
returns-in_default c =
    nobody-sent c.args.facts.now c.args.before.now c.args.action c.requires.results
    (sym c.device_of.ensures ∙ not-some c.device_of.result c.in_default.not-Some) c.args.devices.now c.requires.tracked
