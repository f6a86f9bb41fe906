use Rattle.std.proofs.Common.{ℕ, ◌<◌}
use Rattle.golog_journal.specs.Taken.{IsReady}
use Rattle.golog_team.specs.Steps.{Station, Steps}
use Rattle.golog_team.proofs.Held.{one-device, side-reads, side-steps, takes-up, taken-up}
use Rattle.std.proofs.Common.{◌≡◌, ◌≤◌, true, false, [], ◌∷◌, ◌++◌, length, take, drop, not, refl, sym, ap, ◌∙◌, subst, arith}
use Rattle.golog_semantics.specs.declared.journal.Item.TheVariants as item
use Rattle.golog_semantics.specs.Journal.{has_end, is_open}
use Rattle.golog_journal.specs.Posting.{MayPost}
use Rattle.golog_device.proofs.Commanded.{may-plain}
use Rattle.golog_device.proofs.DealtTurn.{all-taken}
use Rattle.golog_team.specs.declared.did.Did.TheVariants.{Busy, Idle, Over}
use Rattle.golog_team.specs.Notes.{ends, has_waited, across}
use Rattle.golog_team.specs.Links.{MayPut}
use Rattle.golog_team.specs.Steps.{took, sent, led, rested, idled, stopped, over}
use Rattle.golog_team.specs.Sides.{at_read, IsToldOf}
use Rattle.golog_team.specs.Standing.{station_of, IsSide}
use Rattle.golog_team.proofs.ReadOn.{same-station}
use Rattle.golog_team.proofs.Acting.{loud, none-of-open}
use Rattle.golog_team.proofs.Held.{GoesFrom, side-on, all-read, says-waiting, says-ended, ends-later, both-from, not-both-from, mind-same, posts-on, IsPosted}
use Rattle.golog_team.proofs.side.Side.step.Goals as goal

pub read_on-requires-clause-side : goal.read_on-requires-clause-side
read_on-requires-clause-side g c = (c.requires.held.may.one_of_two, c.requires.held.of_side)

pub take_up-requires-clause-device : goal.take_up-requires-clause-device
take_up-requires-clause-device g c = one-device c.args.self.now.agent.now c.requires.held.may.matched.shape

pub take_up-requires-clause-ready : goal.take_up-requires-clause-ready
take_up-requires-clause-ready g c = c.requires.keeps.ready

pub returns-in-Some-clause-steps : goal.returns-in-Some-clause-steps
returns-in-Some-clause-steps g c =
    let m = g.L.Lead.mind in
    let v = g.W.Wire.view in
    let s = c.args.self.now in
    let h = c.requires.held in
    let x = c.in-Some.ensures.reads s.journal.entries s.taken in
    let e = c.take_up.ensures in
    let new = c.take_up.new.journal in
    let w = (m s.lead).waits in
    (record {
      read = x.mid;
      reads = x.reads;
      acts = took x.n x.later x.next x.news
          (same-station (ap (λ (t : Station). t.told) x.now) (ap (λ (t : Station). t.unread) x.now)
          (takes-up s.agent.now s.other.now s.side w s.journal new s.taken c.in-Some.note e x.mid x.n
          (ap (λ (t : Station). t.journal) x.reads.now) (ap (λ (t : Station). t.taken) x.reads.now) x.note_is)
          (ap (λ (t : Station). t.taken) x.now));
    })

pub returns-in-Some-clause-side : goal.returns-in-Some-clause-side
returns-in-Some-clause-side g c =
    let m = g.L.Lead.mind in
    let v = g.W.Wire.view in
    let s = c.args.self.now in
    let h = c.requires.held in
    let x = c.in-Some.ensures.reads s.journal.entries s.taken in
    let e = c.take_up.ensures in
    let new = c.take_up.new.journal in
    let w = (m s.lead).waits in
    let u = taken-up s.agent.now s.other.now s.side w s.journal new s.taken c.in-Some.note e (m s.lead).list s.ended h.of_agent.0 h.behind h.ended_is in
    side-steps m v _ _ Busy c.requires
    (record {
      same = record { same_side = refl; same_agent = refl; same_other = refl; same_mind = mind-same (m s.lead) };
      facts_same = refl;
      journal_agent = u.agent_is;
      of_side = c.in-Some.ensures.side;
      within = c.in-Some.ensures.within;
      told_is = c.in-Some.ensures.told;
      behind = u.behind;
      ended_is = u.ended_is;
    })
    (record {
      read = x.mid;
      reads = x.reads;
      acts = took x.n x.later x.next x.news
          (same-station (ap (λ (t : Station). t.told) x.now) (ap (λ (t : Station). t.unread) x.now)
          (takes-up s.agent.now s.other.now s.side w s.journal new s.taken c.in-Some.note e x.mid x.n
          (ap (λ (t : Station). t.journal) x.reads.now) (ap (λ (t : Station). t.taken) x.reads.now) x.note_is)
          (ap (λ (t : Station). t.taken) x.now));
    })

pub act-requires-clause-side : goal.act-requires-clause-side
act-requires-clause-side g c =
    let m = g.L.Lead.mind in
    let v = g.W.Wire.view in
    let s = c.args.self.now in
    let h = c.requires.held in
    side-reads m v _ _ c.requires
    (record {
      same = record { same_side = refl; same_agent = refl; same_other = refl; same_mind = mind-same (m s.lead) };
      facts_same = refl;
      journal_agent = refl;
      of_side = c.in-None.ensures.side;
      within = c.in-None.ensures.within;
      told_is = c.in-None.ensures.told;
      behind = h.behind;
      ended_is = h.ended_is;
    })
    (c.in-None.ensures.reads s.journal.entries s.taken).0

pub act-requires-clause-read : goal.act-requires-clause-read
act-requires-clause-read g c = (c.in-None.ensures.reads c.args.self.now.journal.entries c.args.self.now.taken).1

pub returns-in-None-clause-steps : goal.returns-in-None-clause-steps
returns-in-None-clause-steps g c =
    let s = c.args.self.now in
    record {
      read = _;
      reads = (c.in-None.ensures.reads s.journal.entries s.taken).0;
      acts = c.act.ensures.acts;
    }
