use Rattle.std.proofs.Common.{◌≡◌, ◌≤◌, true, false, [], ◌∷◌, ◌++◌, length, take, drop, not, refl, sym, ap, ◌∙◌, subst, arith}
use Rattle.golog_semantics.specs.declared.journal.Item.TheVariants as item
use Rattle.golog_semantics.specs.Journal.{has_end, is_open}
use Rattle.golog_journal.specs.Posting.{MayPost}
use Rattle.golog_device.proofs.Commanded.{may-plain}
use Rattle.golog_device.proofs.DealtTurn.{all-taken}
use Rattle.golog_team.specs.declared.did.Did.TheVariants.{Busy, Idle, Over}
use Rattle.golog_team.specs.Notes.{ends, has_waited, across}
use Rattle.golog_team.specs.Links.{MayPut}
use Rattle.golog_team.specs.Steps.{took, sent, led, rested, idled, stopped, over}
use Rattle.golog_team.specs.Sides.{at_read, IsToldOf}
use Rattle.golog_team.specs.Standing.{station_of, IsSide}
use Rattle.golog_team.proofs.ReadOn.{same-station}
use Rattle.golog_team.proofs.Acting.{loud, none-of-open}
use Rattle.golog_team.proofs.Held.{GoesFrom, side-on, all-read, says-waiting, says-ended, ends-later, both-from, not-both-from, mind-same, posts-on, IsPosted}
use Rattle.golog_team.proofs.side.Side.stop.Goals as goal

pub post-requires : goal.post-requires
post-requires g c =
    let m = g.L.Lead.mind in
    let v = g.W.Wire.view in
    let s = c.args.self.now in
    let h = c.requires.side.held in
    let o = sym c.is_open-open.ensures ∙ c.if-open.true in
    let r = c.requires.side.keeps.ready o in
    let none = none-of-open s.agent.now s.other.now s.side (m s.lead).waits h.may (station_of m v s) o c.requires.clear.no_command in
    subst (λ a. MayPost a s.journal.entries 0 s.taken item.Stop) (sym h.of_agent.0)
    (record { driven = r.driven; in_time = (c.requires.finished, sym (all-taken s.agent.now s.journal.entries 0 s.taken r.driven none)) })

pub returns-then-open-clause-acts : goal.returns-then-open-clause-acts
returns-then-open-clause-acts g c =
    let m = g.L.Lead.mind in
    let v = g.W.Wire.view in
    let s = c.args.self.now in
    let h = c.requires.side.held in
    let p = posts-on s.journal c.post.new.journal s.agent.now s.taken item.Stop (m s.lead).list s.ended h.of_agent.0 c.post.ensures h.behind h.ended_is in
    (stopped c.requires.clear c.requires.finished (sym c.is_open-open.ensures ∙ c.if-open.true)
    (same-station refl c.requires.clear.all_read p.entries_are refl))

pub returns-then-open-clause-side : goal.returns-then-open-clause-side
returns-then-open-clause-side g c =
    let m = g.L.Lead.mind in
    let v = g.W.Wire.view in
    let s = c.args.self.now in
    let h = c.requires.side.held in
    let p = posts-on s.journal c.post.new.journal s.agent.now s.taken item.Stop (m s.lead).list s.ended h.of_agent.0 c.post.ensures h.behind h.ended_is in
    side-on m v _ _ Busy c.requires.side
    (record {
      same = record { same_side = refl; same_agent = refl; same_other = refl; same_mind = mind-same (m s.lead) };
      facts_same = refl;
      journal_agent = p.agent_is;
      of_side = h.of_side;
      within = h.within;
      told_is = h.told_is;
      behind = p.behind;
      ended_is = p.ended_is;
    })
    (stopped c.requires.clear c.requires.finished (sym c.is_open-open.ensures ∙ c.if-open.true)
    (same-station refl c.requires.clear.all_read p.entries_are refl))

pub end-requires-clause-done : goal.end-requires-clause-done
end-requires-clause-done g c = record {
  clear = c.requires.clear;
  finished = c.requires.finished;
  shut = sym c.is_open-open.ensures ∙ c.if-open.false;
}
