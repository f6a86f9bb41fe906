use Rattle.std.proofs.Common.{◌≡◌, ◌≤◌, true, false, [], ◌∷◌, ◌++◌, length, take, drop, not, refl, sym, ap, ◌∙◌, subst, arith}
use Rattle.golog_semantics.specs.declared.journal.Item.TheVariants as item
use Rattle.golog_semantics.specs.Journal.{has_end, is_open}
use Rattle.golog_journal.specs.Posting.{MayPost}
use Rattle.golog_device.proofs.Commanded.{may-plain}
use Rattle.golog_device.proofs.DealtTurn.{all-taken}
use Rattle.golog_team.specs.declared.did.Did.TheVariants.{Busy, Idle, Over}
use Rattle.golog_team.specs.Notes.{ends, has_waited, across}
use Rattle.golog_team.specs.Links.{MayPut}
use Rattle.golog_team.specs.Steps.{took, sent, led, rested, idled, stopped, over}
use Rattle.golog_team.specs.Sides.{at_read, IsToldOf}
use Rattle.golog_team.specs.Standing.{station_of, IsSide}
use Rattle.golog_team.proofs.ReadOn.{same-station}
use Rattle.golog_team.proofs.Acting.{loud, none-of-open}
use Rattle.golog_team.proofs.Held.{GoesFrom, side-on, all-read, says-waiting, says-ended, ends-later, both-from, not-both-from, mind-same, posts-on, IsPosted}
use Rattle.golog_team.proofs.side.Side.rest.Goals as goal

pub post-requires : goal.post-requires
post-requires g c =
    let m = g.L.Lead.mind in
    let v = g.W.Wire.view in
    let s = c.args.self.now in
    let h = c.requires.side.held in
    let o = loud s.agent.now s.other.now s.side (m s.lead).waits h.may s.journal.entries c.requires.waits.waiting in
    subst (λ a. MayPost a s.journal.entries 0 s.taken item.Rest) (sym h.of_agent.0)
    (may-plain s.agent.now s.journal.entries 0 s.taken item.Rest tt (c.requires.side.keeps.ready o.0).driven)

pub returns-then-other-clause-acts : goal.returns-then-other-clause-acts
returns-then-other-clause-acts g c =
    let m = g.L.Lead.mind in
    let v = g.W.Wire.view in
    let s = c.args.self.now in
    let h = c.requires.side.held in
    let p = posts-on s.journal c.post.new.journal s.agent.now s.taken item.Rest (m s.lead).list s.ended h.of_agent.0 c.post.ensures h.behind h.ended_is in
    (rested c.requires.waits
    (both-from s.side (take s.told.read (v s.wire).seen) h.may.one_of_two (sym h.told_is.own ∙ c.requires.said) (sym h.told_is.other ∙ c.if-other.true))
    (same-station refl c.requires.waits.clear.all_read p.entries_are refl))

pub returns-then-other-clause-side : goal.returns-then-other-clause-side
returns-then-other-clause-side g c =
    let m = g.L.Lead.mind in
    let v = g.W.Wire.view in
    let s = c.args.self.now in
    let h = c.requires.side.held in
    let p = posts-on s.journal c.post.new.journal s.agent.now s.taken item.Rest (m s.lead).list s.ended h.of_agent.0 c.post.ensures h.behind h.ended_is in
    side-on m v _ _ Busy c.requires.side
    (record {
      same = record { same_side = refl; same_agent = refl; same_other = refl; same_mind = mind-same (m s.lead) };
      facts_same = refl;
      journal_agent = p.agent_is;
      of_side = h.of_side;
      within = h.within;
      told_is = h.told_is;
      behind = p.behind;
      ended_is = p.ended_is;
    })
    (rested c.requires.waits
    (both-from s.side (take s.told.read (v s.wire).seen) h.may.one_of_two (sym h.told_is.own ∙ c.requires.said) (sym h.told_is.other ∙ c.if-other.true))
    (same-station refl c.requires.waits.clear.all_read p.entries_are refl))

pub returns-else-other-clause-acts : goal.returns-else-other-clause-acts
returns-else-other-clause-acts g c =
    let v = g.W.Wire.view in
    let s = c.args.self.now in
    let h = c.requires.side.held in
    idled c.requires.waits
    (not-both-from s.side (take s.told.read (v s.wire).seen) h.may.one_of_two (sym h.told_is.other ∙ c.if-other.false))
    (sym h.told_is.own ∙ c.requires.said) refl
