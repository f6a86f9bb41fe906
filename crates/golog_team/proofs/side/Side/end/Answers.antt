use Rattle.std.proofs.lemmas.List.{take_all}
use Rattle.golog_team.specs.declared.note.Note.TheVariants.{Waiting, Ended}
use Rattle.golog_team.specs.Sides.{HasSaid}
use Rattle.std.proofs.Common.{◌≡◌, ◌≤◌, true, false, [], ◌∷◌, ◌++◌, length, take, drop, not, refl, sym, ap, ◌∙◌, subst, arith}
use Rattle.golog_semantics.specs.declared.journal.Item.TheVariants as item
use Rattle.golog_semantics.specs.Journal.{has_end, is_open}
use Rattle.golog_journal.specs.Posting.{MayPost}
use Rattle.golog_device.proofs.Commanded.{may-plain}
use Rattle.golog_device.proofs.DealtTurn.{all-taken}
use Rattle.golog_team.specs.declared.did.Did.TheVariants.{Busy, Idle, Over}
use Rattle.golog_team.specs.Notes.{ends, has_waited, across}
use Rattle.golog_team.specs.Links.{MayPut}
use Rattle.golog_team.specs.Steps.{took, sent, led, rested, idled, stopped, over}
use Rattle.golog_team.specs.Sides.{at_read, IsToldOf}
use Rattle.golog_team.specs.Standing.{station_of, IsSide}
use Rattle.golog_team.proofs.ReadOn.{same-station}
use Rattle.golog_team.proofs.Acting.{loud, none-of-open}
use Rattle.golog_team.proofs.Held.{GoesFrom, side-on, all-read, says-waiting, says-ended, ends-later, both-from, not-both-from, mind-same, posts-on, IsPosted, no-ends, some-ends}
use Rattle.golog_team.proofs.side.Side.end.Goals as goal

pub say-requires-clause-whole : goal.say-requires-clause-whole
say-requires-clause-whole g c =
    let m = g.L.Lead.mind in
    let v = g.W.Wire.view in
    let s = c.args.self.now in
    let h = c.requires.side.held in
    let whole = all-read s.told.read (v s.wire).seen h.within.0 c.requires.done.clear.all_read in
    whole

pub say-requires-clause-told : goal.say-requires-clause-told
say-requires-clause-told g c =
    let m = g.L.Lead.mind in
    let v = g.W.Wire.view in
    let s = c.args.self.now in
    let h = c.requires.side.held in
    let whole = all-read s.told.read (v s.wire).seen h.within.0 c.requires.done.clear.all_read in
    subst (λ l. IsToldOf s.side l s.told) (take_all s.told.read (v s.wire).seen (omega (arith, whole))) h.told_is

pub say-requires-clause-allowed : goal.say-requires-clause-allowed
say-requires-clause-allowed g c =
    let m = g.L.Lead.mind in
    let v = g.W.Wire.view in
    let s = c.args.self.now in
    let h = c.requires.side.held in
    let whole = all-read s.told.read (v s.wire).seen h.within.0 c.requires.done.clear.all_read in
    sym (ap (ends s.side) (take_all s.told.read (v s.wire).seen (omega (arith, whole)))) ∙ (no-ends (ends s.side (take s.told.read (v s.wire).seen)) (sym h.told_is.over ∙ c.if-over.false))

pub returns-then-over-clause-acts : goal.returns-then-over-clause-acts
returns-then-over-clause-acts g c =
    let v = g.W.Wire.view in
    let s = c.args.self.now in
    let h = c.requires.side.held in
    over c.requires.done (some-ends (ends s.side (take s.told.read (v s.wire).seen)) (sym h.told_is.over ∙ c.if-over.true)) refl

pub returns-then-say-clause-acts : goal.returns-then-say-clause-acts
returns-then-say-clause-acts g c =
    let m = g.L.Lead.mind in
    let v = g.W.Wire.view in
    let s = c.args.self.now in
    let h = c.requires.side.held in
    let whole = all-read s.told.read (v s.wire).seen h.within.0 c.requires.done.clear.all_read in
    (says-ended (v s.wire) (v c.say.new.wire) s.told.read s.journal.entries s.taken whole s.agent.now s.other.now s.side (m s.lead).waits
    c.say.new.told.read c.requires.done (no-ends (ends s.side (take s.told.read (v s.wire).seen)) (sym h.told_is.over ∙ c.if-over.false))
    (subst (HasSaid s.side Ended (v s.wire).seen (v c.say.new.wire).seen) c.if-say.true c.say.ensures.said) (c.say.ensures.read c.if-say.true))

pub returns-then-say-clause-side : goal.returns-then-say-clause-side
returns-then-say-clause-side g c =
    let m = g.L.Lead.mind in
    let v = g.W.Wire.view in
    let s = c.args.self.now in
    let h = c.requires.side.held in
    let whole = all-read s.told.read (v s.wire).seen h.within.0 c.requires.done.clear.all_read in
    side-on m v _ _ Over c.requires.side
    (record {
      same = record { same_side = refl; same_agent = refl; same_other = refl; same_mind = mind-same (m s.lead) };
      facts_same = refl;
      journal_agent = refl;
      of_side = c.say.ensures.side;
      within = c.say.ensures.within;
      told_is = c.say.ensures.told;
      behind = h.behind;
      ended_is = h.ended_is;
    })
    (says-ended (v s.wire) (v c.say.new.wire) s.told.read s.journal.entries s.taken whole s.agent.now s.other.now s.side (m s.lead).waits
    c.say.new.told.read c.requires.done (no-ends (ends s.side (take s.told.read (v s.wire).seen)) (sym h.told_is.over ∙ c.if-over.false))
    (subst (HasSaid s.side Ended (v s.wire).seen (v c.say.new.wire).seen) c.if-say.true c.say.ensures.said) (c.say.ensures.read c.if-say.true))

pub returns-else-say-clause-acts : goal.returns-else-say-clause-acts
returns-else-say-clause-acts g c =
    let m = g.L.Lead.mind in
    let v = g.W.Wire.view in
    let s = c.args.self.now in
    let h = c.requires.side.held in
    let whole = all-read s.told.read (v s.wire).seen h.within.0 c.requires.done.clear.all_read in
    (ends-later (v s.wire) (v c.say.new.wire) s.told.read s.journal.entries s.taken whole s.agent.now s.other.now s.side (m s.lead).waits
    c.say.new.told.read c.requires.done (no-ends (ends s.side (take s.told.read (v s.wire).seen)) (sym h.told_is.over ∙ c.if-over.false))
    (subst (HasSaid s.side Ended (v s.wire).seen (v c.say.new.wire).seen) c.if-say.false c.say.ensures.said) (c.say.ensures.unread c.if-say.false))

pub returns-else-say-clause-side : goal.returns-else-say-clause-side
returns-else-say-clause-side g c =
    let m = g.L.Lead.mind in
    let v = g.W.Wire.view in
    let s = c.args.self.now in
    let h = c.requires.side.held in
    let whole = all-read s.told.read (v s.wire).seen h.within.0 c.requires.done.clear.all_read in
    side-on m v _ _ Busy c.requires.side
    (record {
      same = record { same_side = refl; same_agent = refl; same_other = refl; same_mind = mind-same (m s.lead) };
      facts_same = refl;
      journal_agent = refl;
      of_side = c.say.ensures.side;
      within = c.say.ensures.within;
      told_is = c.say.ensures.told;
      behind = h.behind;
      ended_is = h.ended_is;
    })
    (ends-later (v s.wire) (v c.say.new.wire) s.told.read s.journal.entries s.taken whole s.agent.now s.other.now s.side (m s.lead).waits
    c.say.new.told.read c.requires.done (no-ends (ends s.side (take s.told.read (v s.wire).seen)) (sym h.told_is.over ∙ c.if-over.false))
    (subst (HasSaid s.side Ended (v s.wire).seen (v c.say.new.wire).seen) c.if-say.false c.say.ensures.said) (c.say.ensures.unread c.if-say.false))
