use Rattle.std.proofs.Common.{◌≡◌, Bool, true, false, ◌++◌, get_or, sym, ap, ◌∙◌, subst}
use Rattle.std.proofs.lemmas.List.{append-nil}
use Rattle.golog_semantics.specs.Dealt.{Meaning}
use Rattle.golog_device.specs.Devices.{HasBegun}
use Rattle.golog_device.specs.Slots.{Standing, BeginsUnless, name_at}
use Rattle.golog_device.proofs.Standings.{named-at, OnlySlot-set, stands-set, HasAt-get}
use Rattle.golog_device.proofs.begin.begin_at.Goals as goal

standing : (a b : Meaning) (x y : Bool) → x ≡ y → a ≡ b → ◌≡◌ {A = Standing} (record { fresh = x; meaning = a }) (record { fresh = y; meaning = b })
standing a b x y same also = ap (λ z. record { fresh = z; meaning = a }) same ∙ ap (λ m. record { fresh = y; meaning = m }) also

pub returns-in-Ready-clause-begun : goal.returns-in-Ready-clause-begun
returns-in-Ready-clause-begun g c =
    let name = name_at c.args.agent.now.devices c.args.slot in
    let old = g.D.Device.meaning (get_or c.args.devices.now c.args.slot c.index-devices-slot.result) in
    let new = g.D.Device.meaning c.begin.new.self in
    let named : c.as_bytes.result.now ≡ name =
    c.as_bytes.ensures.same
    ∙ named-at c.args.agent.now.devices c.as_slice.result.now c.args.slot c.index-as_slice-slot.result c.as_slice.ensures c.requires.slot c.index-as_slice-slot.is in
    record {
      refused = false;
      closed = sym (append-nil (g.B.Board.sight c.args.board.now).seen);
      begun =
          OnlySlot-set (λ d. record { fresh = g.D.Device.fresh d; meaning = g.D.Device.meaning d }) (BeginsUnless false name c.args.script.now) c.args.devices.now c.args.slot
          c.index-devices-slot.result c.begin.new.self c.requires.within
          (c.in-Ready.ensures.fresh, subst (λ n. HasBegun old new n c.args.script.now) named c.in-Ready.ensures.begins);
    }

pub returns-in-Refused-clause-begun : goal.returns-in-Refused-clause-begun
returns-in-Refused-clause-begun g c =
    let alone = c.requires.alone in
    let none = c.post.ensures.are_others.none alone in
    let old : (g.D.Device.fresh (get_or c.args.devices.now c.args.slot c.index-devices-slot.result)) ≡ true =
    HasAt-get (λ d. record { fresh = g.D.Device.fresh d; meaning = g.D.Device.meaning d }) (λ s. s.fresh ≡ true) c.args.devices.now c.args.slot
    c.index-devices-slot.result c.requires.within c.requires.fresh in
    record {
      refused = true;
      closed =
          c.post.ensures.grows
          ∙ ap (λ o. ((g.B.Board.sight c.args.board.now).seen ++ o) ++ c.post.ensures.added) none
          ∙ ap (λ j. j ++ c.post.ensures.added) (append-nil (g.B.Board.sight c.args.board.now).seen)
          ∙ ap (λ a. (g.B.Board.sight c.args.board.now).seen ++ a) c.post.ensures.answered.one;
      begun =
          OnlySlot-set (λ d. record { fresh = g.D.Device.fresh d; meaning = g.D.Device.meaning d }) (BeginsUnless true (name_at c.args.agent.now.devices c.args.slot) c.args.script.now) c.args.devices.now c.args.slot
          c.index-devices-slot.result c.begin.new.self c.requires.within
          (standing _ _ _ _ (c.in-Refused.ensures.fresh ∙ sym old) c.in-Refused.ensures.begins.0, c.in-Refused.ensures.begins.1 c.requires.spelled);
    }

pub returns-in-Memory-clause-unchanged : goal.returns-in-Memory-clause-unchanged
returns-in-Memory-clause-unchanged g c =
    let old : (g.D.Device.fresh (get_or c.args.devices.now c.args.slot c.index-devices-slot.result)) ≡ true =
    HasAt-get (λ d. record { fresh = g.D.Device.fresh d; meaning = g.D.Device.meaning d }) (λ s. s.fresh ≡ true) c.args.devices.now c.args.slot
    c.index-devices-slot.result c.requires.within c.requires.fresh in
    stands-set (λ d. record { fresh = g.D.Device.fresh d; meaning = g.D.Device.meaning d }) c.args.devices.now c.args.slot c.index-devices-slot.result
    c.begin.new.self c.requires.within (standing _ _ _ _ (c.in-Memory.ensures.fresh ∙ sym old) c.in-Memory.ensures.begins)
