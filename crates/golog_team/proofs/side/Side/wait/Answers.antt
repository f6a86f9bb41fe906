use Rattle.std.proofs.lemmas.List.{take_all}
use Rattle.golog_team.specs.declared.note.Note.TheVariants.{Waiting, Ended}
use Rattle.golog_team.specs.Sides.{HasSaid}
use Rattle.std.proofs.Common.{◌≡◌, ◌≤◌, true, false, [], ◌∷◌, ◌++◌, length, take, drop, not, refl, sym, ap, ◌∙◌, subst, arith}
use Rattle.golog_semantics.specs.declared.journal.Item.TheVariants as item
use Rattle.golog_semantics.specs.Journal.{has_end, is_open}
use Rattle.golog_journal.specs.Posting.{MayPost}
use Rattle.golog_device.proofs.Commanded.{may-plain}
use Rattle.golog_device.proofs.DealtTurn.{all-taken}
use Rattle.golog_team.specs.declared.did.Did.TheVariants.{Busy, Idle, Over}
use Rattle.golog_team.specs.Notes.{ends, has_waited, across}
use Rattle.golog_team.specs.Links.{MayPut}
use Rattle.golog_team.specs.Steps.{took, sent, led, rested, idled, stopped, over}
use Rattle.golog_team.specs.Sides.{at_read, IsToldOf}
use Rattle.golog_team.specs.Standing.{station_of, IsSide}
use Rattle.golog_team.proofs.ReadOn.{same-station}
use Rattle.golog_team.proofs.Acting.{loud, none-of-open}
use Rattle.golog_team.proofs.Held.{GoesFrom, side-on, all-read, says-waiting, says-ended, ends-later, both-from, not-both-from, mind-same, posts-on, IsPosted}
use Rattle.golog_team.proofs.side.Side.wait.Goals as goal

pub say-put-requires-clause-whole : goal.say-put-requires-clause-whole
say-put-requires-clause-whole g c =
    let m = g.L.Lead.mind in
    let v = g.W.Wire.view in
    let s = c.args.self.now in
    let h = c.requires.side.held in
    let whole = all-read s.told.read (v s.wire).seen h.within.0 c.requires.waits.clear.all_read in
    whole

pub say-put-requires-clause-told : goal.say-put-requires-clause-told
say-put-requires-clause-told g c =
    let m = g.L.Lead.mind in
    let v = g.W.Wire.view in
    let s = c.args.self.now in
    let h = c.requires.side.held in
    let whole = all-read s.told.read (v s.wire).seen h.within.0 c.requires.waits.clear.all_read in
    subst (λ l. IsToldOf s.side l s.told) (take_all s.told.read (v s.wire).seen (omega (arith, whole))) h.told_is

pub say-put-requires-clause-allowed : goal.say-put-requires-clause-allowed
say-put-requires-clause-allowed g c =
    let m = g.L.Lead.mind in
    let v = g.W.Wire.view in
    let s = c.args.self.now in
    let h = c.requires.side.held in
    let whole = all-read s.told.read (v s.wire).seen h.within.0 c.requires.waits.clear.all_read in
    sym (ap (has_waited s.side) (take_all s.told.read (v s.wire).seen (omega (arith, whole)))) ∙ sym h.told_is.own ∙ c.if-own.false

pub returns-else-own-clause-acts : goal.returns-else-own-clause-acts
returns-else-own-clause-acts g c =
    let m = g.L.Lead.mind in
    let v = g.W.Wire.view in
    let s = c.args.self.now in
    let h = c.requires.side.held in
    let whole = all-read s.told.read (v s.wire).seen h.within.0 c.requires.waits.clear.all_read in
    (says-waiting (v s.wire) (v c.say-put.new.wire) s.told.read s.journal.entries s.taken whole s.agent.now s.other.now s.side (m s.lead).waits
    c.say-put.new.told.read c.requires.waits (sym h.told_is.own ∙ c.if-own.false) c.say-put.result
    (subst (λ n. HasSaid s.side (Waiting n) (v s.wire).seen (v c.say-put.new.wire).seen c.say-put.result) c.requires.entries c.say-put.ensures.said)
    c.say-put.ensures.read c.say-put.ensures.unread)

pub returns-else-own-clause-side : goal.returns-else-own-clause-side
returns-else-own-clause-side g c =
    let m = g.L.Lead.mind in
    let v = g.W.Wire.view in
    let s = c.args.self.now in
    let h = c.requires.side.held in
    let whole = all-read s.told.read (v s.wire).seen h.within.0 c.requires.waits.clear.all_read in
    side-on m v _ _ Busy c.requires.side
    (record {
      same = record { same_side = refl; same_agent = refl; same_other = refl; same_mind = mind-same (m s.lead) };
      facts_same = refl;
      journal_agent = refl;
      of_side = c.say-put.ensures.side;
      within = c.say-put.ensures.within;
      told_is = c.say-put.ensures.told;
      behind = h.behind;
      ended_is = h.ended_is;
    })
    (says-waiting (v s.wire) (v c.say-put.new.wire) s.told.read s.journal.entries s.taken whole s.agent.now s.other.now s.side (m s.lead).waits
    c.say-put.new.told.read c.requires.waits (sym h.told_is.own ∙ c.if-own.false) c.say-put.result
    (subst (λ n. HasSaid s.side (Waiting n) (v s.wire).seen (v c.say-put.new.wire).seen c.say-put.result) c.requires.entries c.say-put.ensures.said)
    c.say-put.ensures.read c.say-put.ensures.unread)
