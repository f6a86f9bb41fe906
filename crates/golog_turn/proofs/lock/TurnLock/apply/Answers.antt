use Rattle.std.proofs.Common.{List, ◌∷◌, rules, subst}
use Rattle.atomic_table.specs.Table.{rest}
use Rattle.golog_turn.proofs.Acts.{stands, goes_on_whole, holds_after, announced, acts}
use Rattle.golog_turn.proofs.TurnSteps.{announces_as}
use Rattle.golog_turn.proofs.lock.TurnLock.apply.Goals as goal

pub fetch_add-requires : goal.fetch_add-requires
fetch_add-requires g c =
    let object = c.slot_mut-object.result.now in
    let applied = c.apply_counted-reply.ensures in
    let goes_on = goes_on_whole g.O.Object.list g.O.Object.party c.args.ticket c.args.token.now.me object c.requires.served c.slot_mut-object.ensures.value in
    let held = holds_after g.O.Object.list c.args.ticket c.args.token.now.me object c.apply_counted-reply.new.object applied.0 c.requires.served c.slot_mut-object.ensures.value applied.1.0 in
    (search rules, search rules, announces_as g.O.Object.party g.O.Object.list _ _ c.args.ticket _ applied.0 _ held ((c.requires.allowed object goes_on).1 _ _ applied.1.2) applied.2)

pub returns-clause-applied : goal.returns-clause-applied
returns-clause-applied g c =
    let list = g.O.Object.list in
    let object = c.slot_mut-object.result.now in
    let me = c.args.token.now.me in
    let applied = c.apply_counted-reply.ensures in
    let whole = stands list c.args.ticket me object c.requires.served c.slot_mut-object.ensures.value in
    let goes_on = goes_on_whole list g.O.Object.party c.args.ticket me object c.requires.served c.slot_mut-object.ensures.value in
    let held = holds_after list c.args.ticket me object c.apply_counted-reply.new.object applied.0 c.requires.served c.slot_mut-object.ensures.value applied.1.0 in
    let told = announced list c.args.ticket (me.0, (0, c.apply_counted-reply.new.object) ∷ rest me.1) c.fetch_add.new.seat.me applied.0 held c.fetch_add.ensures.2 in
    let answer = subst (λ (l : List g.row.O-Entry.Denot). g.O.Object.answers l c.args.op c.apply_counted-reply.result.0 applied.0) whole applied.1.2 in
    acts g.O.Object.party list g.O.Object.answers me.0.seen me.0.parties c.args.op c.apply_counted-reply.result.0 applied.0 c.fetch_add.new.seat.me.0.seen object whole told.0 applied.1.1 answer ((c.requires.allowed object goes_on).1 _ _ applied.1.2)
