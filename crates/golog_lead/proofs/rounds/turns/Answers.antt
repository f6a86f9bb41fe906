use Rattle.std.proofs.Common.{◌≡◌, ◌<◌, true, length, length-set, set, refl, sym, ap, ◌∙◌, arith}
use Rattle.golog_semantics.specs.Journal.{is_open}
use Rattle.golog_device.specs.Slots.{standings}
use Rattle.golog_lead.specs.Moments.{moment}
use Rattle.golog_lead.proofs.Serving.{open-still, turns-none, turns-next, turns-skip}
use Rattle.golog_lead.proofs.rounds.turns.Goals.{then-is_open, else-is_open}
use Rattle.golog_lead.proofs.rounds.turns.Goals as goal

pub loop-slot-init : goal.loop-slot-init
loop-slot-init g c = record {
  same = record { same_agent = refl; same_alone = refl; same_holds = refl };
  lawful = c.requires.lawful;
  room = c.told-taken;
  made =
      turns-none c.args.agent.now
      (moment (g.B.Board.sight c.args.board.now).seen c.args.taken.now (standings g.D.Device.fresh g.D.Device.meaning c.args.devices.now)) c.requires.on;
}

pub turn_at-requires : goal.turn_at-requires
turn_at-requires g c =
    let first = c.loop-slot.invariant in
    let slot = c.loop-slot.slot in
    let old = moment (g.B.Board.sight c.args.board.now).seen c.args.taken.now (standings g.D.Device.fresh g.D.Device.meaning c.args.devices.now) in
    let mid = moment (g.B.Board.sight c.loop-slot.board).seen c.loop-slot.taken (standings g.D.Device.fresh g.D.Device.meaning c.loop-slot.devices) in
    let many = c.len-slot-end.ensures in
    let below = c.loop-slot-test.true in
    let inside : slot < length c.args.agent.now.devices = omega (arith, many, below) in
    let boxes = c.requires.boxes in
    let kept = c.loop-slot.auto.devices in
    let opened : is_open slot (g.B.Board.sight c.args.board.now).seen ≡ true = ap (is_open slot) (sym c.requires.whole) ∙ sym c.is_open.ensures ∙ c.if-is_open.true in
    record {
      well_formed = c.requires.well_formed;
      board = (first.same).same_agent ∙ c.requires.board;
      alone = (first.same).same_alone ∙ c.requires.alone;
      lawful = first.lawful;
      within = omega (arith, inside, boxes, kept);
      ready = ((first.made).on).ready slot inside (open-still c.args.agent.now slot old mid first.made ∙ opened);
    }

pub loop-slot-preserved : goal.loop-slot-preserved
loop-slot-preserved g c =
    let first = c.loop-slot.invariant in
    let slot = c.loop-slot.slot in
    let old = moment (g.B.Board.sight c.args.board.now).seen c.args.taken.now (standings g.D.Device.fresh g.D.Device.meaning c.args.devices.now) in
    let mid = moment (g.B.Board.sight c.loop-slot.board).seen c.loop-slot.taken (standings g.D.Device.fresh g.D.Device.meaning c.loop-slot.devices) in
    let many = c.len-slot-end.ensures in
    let below = c.loop-slot-test.true in
    let inside : slot < length c.args.agent.now.devices = omega (arith, many, below) in
    let few = c.requires.well_formed.small.devices in
    let long = first.room in
    let room : slot < length c.loop-slot.taken = omega (arith, inside, few, long) in
    elim c.if-is_open.branch [
      | then-is_open w ↦
          rw (w.devices-is, w.taken-is, w.board-is) (record {
            same = record {
              same_agent = (w.turn_at.ensures.same_board).same_agent ∙ (first.same).same_agent;
              same_alone = (w.turn_at.ensures.same_board).same_alone ∙ (first.same).same_alone;
              same_holds = (w.turn_at.ensures.same_board).same_holds ∙ (first.same).same_holds;
            };
            lawful = w.turn_at.ensures.lawful;
            room = length-set c.loop-slot.taken slot w.turn_at.new.taken ∙ long;
            made =
                turns-next c.args.agent.now slot old mid
                (moment (g.B.Board.sight w.turn_at.new.board).seen (set c.loop-slot.taken slot w.turn_at.new.taken)
                (standings g.D.Device.fresh g.D.Device.meaning w.turn_at.new.devices))
                w.turn_at.new.taken inside room (ap (is_open slot) (sym c.requires.whole) ∙ sym c.is_open.ensures ∙ w.if-is_open.true) first.lawful refl
                w.turn_at.ensures.made w.turn_at.ensures.device first.made;
          })
      | else-is_open w ↦
          rw (w.devices-is, w.taken-is, w.board-is) (record {
            same = first.same;
            lawful = first.lawful;
            room = long;
            made =
                turns-skip c.args.agent.now slot old mid inside (ap (is_open slot) (sym c.requires.whole) ∙ sym c.is_open.ensures ∙ w.if-is_open.false)
                first.made;
          })
    ]
