use Rattle.std.proofs.Common.{◌≡◌, ◌<◌, true, length, [], get_or, refl, sym, ap, ◌∙◌, subst, arith, IsSome}
use Rattle.std.specs.List.{list_all}
use Rattle.std.proofs.lemmas.List.{get_or_default}
use Rattle.golog_semantics.specs.declared.journal.Item.TheVariants as item
use Rattle.golog_semantics.specs.Journal.{is_close}
use Rattle.golog_journal.specs.Boards.{IsBoardList}
use Rattle.golog_journal.specs.Posting.{MayPost}
use Rattle.golog_device.specs.Scripts.{script_spelled}
use Rattle.golog_device.specs.Slots.{refusals}
use Rattle.golog_device.proofs.Standings.{begun-none, begun-next, begun-has, HasAt-within}
use Rattle.golog_device.proofs.Refused.{may-refuse, ready-first, refusals-close, refusals-later}
use Rattle.golog_device.proofs.begin.begin_all.Goals as goal

pub loop-slot-init : goal.loop-slot-init
loop-slot-init g c = record {
  same = record { same_agent = refl; same_alone = refl; same_holds = refl };
  lawful = subst (IsBoardList c.args.agent.now) (sym c.requires.empty) (record { lawful = refl; room = omega arith });
  begun = begun-none c.args.agent.now.devices c.args.scripts.now (g.B.Board.sight c.args.board.now).seen _ c.requires.empty;
}

pub begin_at-requires : goal.begin_at-requires
begin_at-requires g c =
    let slot = c.loop-slot.slot in
    let begun = c.loop-slot.invariant.begun in
    let in_range : slot < length c.args.scripts.now = rw (← c.as_slice-script-items.ensures) c.loop-slot-test.true in
    let long = begun.one_each in
    let inside : slot < length c.args.agent.now.devices = subst (λ n. slot < n) c.requires.one_each in_range in
    let text : c.as_slice.result.now ≡ get_or c.args.scripts.now slot [] =
    c.as_slice.ensures ∙ (rw c.as_slice-script-items.ensures at c.script-item.is) ∙ get_or_default c.args.scripts.now slot c.script-item.result [] in_range in
    let fresh = begun-has slot (λ s. s.fresh ≡ true) c.args.agent.now.devices c.args.scripts.now (g.B.Board.sight c.loop-slot.board).seen _ _ begun (c.requires.fresh slot in_range) in
    record {
      agent = c.loop-slot.invariant.same.same_agent ∙ c.requires.agent;
      alone = c.loop-slot.invariant.same.same_alone ∙ c.requires.alone;
      slot = inside;
      few = c.requires.well_formed.small.devices;
      allowed =
          subst (λ j. MayPost c.args.agent.now j slot 0 item.Refused) (sym begun.closed)
          (may-refuse c.args.agent.now slot (refusals begun.refused) inside (refusals-later begun.refused slot (omega (arith, long))) (refusals-close begun.refused));
      lawful = c.loop-slot.invariant.lawful;
      within = HasAt-within (λ d. record { fresh = g.D.Device.fresh d; meaning = g.D.Device.meaning d }) _ c.loop-slot.devices slot fresh;
      spelled = subst (λ t. IsSome (script_spelled t)) (sym text) (c.requires.spelled slot [] in_range);
      fresh = fresh;
    }

pub loop-slot-preserved : goal.loop-slot-preserved
loop-slot-preserved g c =
    let slot = c.loop-slot.slot in
    let in_range : slot < length c.args.scripts.now = rw (← c.as_slice-script-items.ensures) c.loop-slot-test.true in
    let text : c.as_slice.result.now ≡ get_or c.args.scripts.now slot [] =
    c.as_slice.ensures ∙ (rw c.as_slice-script-items.ensures at c.script-item.is) ∙ get_or_default c.args.scripts.now slot c.script-item.result [] in_range in
    let first = c.loop-slot.invariant.same in
    let then = c.begin_at.ensures.board in
    record {
      same = record {
        same_agent = then.same_agent ∙ first.same_agent;
        same_alone = then.same_alone ∙ first.same_alone;
        same_holds = then.same_holds ∙ first.same_holds;
      };
      lawful = c.begin_at.ensures.lawful;
      begun =
          begun-next slot c.args.agent.now.devices c.args.scripts.now (g.B.Board.sight c.loop-slot.board).seen (g.B.Board.sight c.begin_at.new.board).seen _ _ _ c.as_slice.result.now text
          c.loop-slot.invariant.begun c.in_ok-begin_at.ensures.begun;
    }

pub returns-clause-ready : goal.returns-clause-ready
returns-clause-ready g c =
    let begun = c.loop-slot.invariant.begun in
    λ device inside open_still.
    ready-first c.args.agent.now device (g.B.Board.sight c.loop-slot.board).seen inside
    (ap (list_all is_close) begun.closed ∙ refusals-close begun.refused) open_still
