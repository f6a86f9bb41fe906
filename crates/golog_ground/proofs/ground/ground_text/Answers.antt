use Rattle.std.proofs.Common.{◌≡◌, ◌∙◌, ◌<◌, length, arith}
use Rattle.golog_ground.proofs.GroundTexts.{first-written, room, written, written-alone}
use Rattle.golog_ground.proofs.ground.ground_text.Goals as goal

pub push_enclosed-requires-clause-room : goal.push_enclosed-requires-clause-room
push_enclosed-requires-clause-room c =
    room c.args.agent.now c.args.name.now c.push_all.new.self
    (first-written _ _ _ _ c.push_all.ensures c.new-text.ensures c.as_bytes.ensures.same)
    c.args.sorts.now c.args.args.now c.as_bytes.ensures.word.short c.requires.few

pub returns-then-not-is_empty : goal.returns-then-not-is_empty
returns-then-not-is_empty c =
    let some : 0 < length c.args.sorts.now = grind (arith, c.is_empty.ensures, c.if-not-is_empty.true) in
    c.push_enclosed.ensures
    ∙ written c.args.agent.now c.args.name.now c.push_all.new.self
    (first-written _ _ _ _ c.push_all.ensures c.new-text.ensures c.as_bytes.ensures.same)
    c.args.sorts.now c.args.args.now c.requires.fits some

pub returns-else-not-is_empty : goal.returns-else-not-is_empty
returns-else-not-is_empty c =
    let none : length c.args.sorts.now ≡ 0 = grind (arith, c.is_empty.ensures, c.if-not-is_empty.false) in
    written-alone c.args.agent.now c.args.name.now c.push_all.new.self
    (first-written _ _ _ _ c.push_all.ensures c.new-text.ensures c.as_bytes.ensures.same)
    c.args.sorts.now c.args.args.now none
