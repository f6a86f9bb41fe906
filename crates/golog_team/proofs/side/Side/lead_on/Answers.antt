use Rattle.std.proofs.Common.{None, if◌then◌else◌, ◌≢◌}
use Rattle.std.specs.Prelude.{slice_get}
use Rattle.golog_semantics.specs.Journal.{commands}
use Rattle.golog_team.specs.Steps.{Acts}
use Rattle.golog_team.specs.Sides.{HasLed, HasAdded}
use Rattle.golog_team.proofs.Held.{side-same, led-same, led-more, mind-then}
use Rattle.std.proofs.Common.{◌≡◌, ◌≤◌, true, false, [], ◌∷◌, ◌++◌, length, take, drop, not, refl, sym, ap, ◌∙◌, subst, arith}
use Rattle.golog_semantics.specs.declared.journal.Item.TheVariants as item
use Rattle.golog_semantics.specs.Journal.{has_end, is_open}
use Rattle.golog_journal.specs.Posting.{MayPost}
use Rattle.golog_device.proofs.Commanded.{may-plain}
use Rattle.golog_device.proofs.DealtTurn.{all-taken}
use Rattle.golog_team.specs.declared.did.Did.TheVariants.{Busy, Idle, Over}
use Rattle.golog_team.specs.Notes.{ends, has_waited, across}
use Rattle.golog_team.specs.Links.{MayPut}
use Rattle.golog_team.specs.Steps.{took, sent, led, rested, idled, stopped, over}
use Rattle.golog_team.specs.Sides.{at_read, IsToldOf}
use Rattle.golog_team.specs.Standing.{station_of, IsSide}
use Rattle.golog_team.proofs.ReadOn.{same-station}
use Rattle.golog_team.proofs.Acting.{loud, none-of-open}
use Rattle.golog_team.proofs.Held.{GoesFrom, side-on, all-read, says-waiting, says-ended, ends-later, both-from, not-both-from, mind-same, posts-on, IsPosted}
use Rattle.golog_team.proofs.side.Side.lead_on.Goals as goal

pub wait-requires-clause-side : goal.wait-requires-clause-side
wait-requires-clause-side g c =
    let m = g.L.Lead.mind in
    let v = g.W.Wire.view in
    let s = c.args.self.now in
    let h = c.requires.side.held in
    let new = c.lead_turn-self.new in
    let t = c.lead_turn-self.ensures in
    let long : length new.journal.entries ≡ length s.journal.entries = sym c.len-after.ensures.number ∙ c.if-after-before.true ∙ c.len-before.ensures.number in
    let stays = led-same s.journal.agent (m s.lead).waits s.journal.entries new.journal.entries t.led long in
    side-same m v _ _ c.requires.side
    (record {
      same = record { same_side = refl; same_agent = refl; same_other = refl; same_mind = t.same };
      facts_same = refl;
      journal_agent = t.agent;
      of_side = h.of_side;
      within = h.within;
      told_is = h.told_is;
      behind = t.behind;
      ended_is = t.ended;
    })
    (same-station refl refl stays.0 refl)

pub wait-requires-clause-waits : goal.wait-requires-clause-waits
wait-requires-clause-waits g c =
    let m = g.L.Lead.mind in
    let v = g.W.Wire.view in
    let s = c.args.self.now in
    let h = c.requires.side.held in
    let new = c.lead_turn-self.new in
    let t = c.lead_turn-self.ensures in
    let long : length new.journal.entries ≡ length s.journal.entries = sym c.len-after.ensures.number ∙ c.if-after-before.true ∙ c.len-before.ensures.number in
    let stays = led-same s.journal.agent (m s.lead).waits s.journal.entries new.journal.entries t.led long in
    record {
      clear = record {
        all_read = c.requires.clear.all_read;
        no_command = subst (λ j. (if is_open 0 j then slice_get (commands s.agent.now 0 j) s.taken else None) ≡ None) (sym stays.0) c.requires.clear.no_command;
      };
      goes_on = ap has_end stays.0 ∙ c.requires.goes_on;
      waiting = ap (λ f. f new.journal.entries) t.same.same_waits ∙ ap (m s.lead).waits stays.0 ∙ stays.1;
    }

pub wait-requires-clause-entries : goal.wait-requires-clause-entries
wait-requires-clause-entries g c =
    let m = g.L.Lead.mind in
    let v = g.W.Wire.view in
    let s = c.args.self.now in
    let h = c.requires.side.held in
    let new = c.lead_turn-self.new in
    let t = c.lead_turn-self.ensures in
    let long : length new.journal.entries ≡ length s.journal.entries = sym c.len-after.ensures.number ∙ c.if-after-before.true ∙ c.len-before.ensures.number in
    let stays = led-same s.journal.agent (m s.lead).waits s.journal.entries new.journal.entries t.led long in
    c.len-before.ensures.number ∙ sym long

pub returns-then-after-before-clause-acts : goal.returns-then-after-before-clause-acts
returns-then-after-before-clause-acts g c =
    let m = g.L.Lead.mind in
    let v = g.W.Wire.view in
    let s = c.args.self.now in
    let h = c.requires.side.held in
    let new = c.lead_turn-self.new in
    let t = c.lead_turn-self.ensures in
    let long : length new.journal.entries ≡ length s.journal.entries = sym c.len-after.ensures.number ∙ c.if-after-before.true ∙ c.len-before.ensures.number in
    let stays = led-same s.journal.agent (m s.lead).waits s.journal.entries new.journal.entries t.led long in
    subst (λ w. Acts s.agent.now s.other.now s.side w (station_of m v s) (station_of m v c.wait.new.self) c.wait.result) t.same.same_waits
    (subst (λ st. Acts s.agent.now s.other.now s.side (m new.lead).waits st (station_of m v c.wait.new.self) c.wait.result)
    (same-station refl refl stays.0 refl) c.wait.ensures.acts)

pub returns-then-after-before-clause-same : goal.returns-then-after-before-clause-same
returns-then-after-before-clause-same g c =
    let m = g.L.Lead.mind in
    let x = c.wait.ensures.same in
    record {
      same_side = x.same_side;
      same_agent = x.same_agent;
      same_other = x.same_other;
      same_mind = mind-then (m c.args.self.now.lead) (m c.lead_turn-self.new.lead) (m c.wait.new.self.lead) c.lead_turn-self.ensures.same x.same_mind;
    }

pub returns-else-after-before-clause-acts : goal.returns-else-after-before-clause-acts
returns-else-after-before-clause-acts g c =
    let m = g.L.Lead.mind in
    let v = g.W.Wire.view in
    let s = c.args.self.now in
    let h = c.requires.side.held in
    let new = c.lead_turn-self.new in
    let t = c.lead_turn-self.ensures in
    let a = led-more s.agent.now (m s.lead).waits s.journal.entries new.journal.entries
    (subst (λ x. HasLed x (m s.lead).waits s.journal.entries new.journal.entries) h.of_agent.0 t.led)
    (λ e. c.if-after-before.false (c.len-after.ensures.number ∙ e ∙ sym c.len-before.ensures.number)) in
    (led a.e c.requires.clear c.requires.goes_on a.of_program a.lawful a.waiting (same-station refl c.requires.clear.all_read a.is refl))

pub returns-else-after-before-clause-side : goal.returns-else-after-before-clause-side
returns-else-after-before-clause-side g c =
    let m = g.L.Lead.mind in
    let v = g.W.Wire.view in
    let s = c.args.self.now in
    let h = c.requires.side.held in
    let new = c.lead_turn-self.new in
    let t = c.lead_turn-self.ensures in
    let a = led-more s.agent.now (m s.lead).waits s.journal.entries new.journal.entries
    (subst (λ x. HasLed x (m s.lead).waits s.journal.entries new.journal.entries) h.of_agent.0 t.led)
    (λ e. c.if-after-before.false (c.len-after.ensures.number ∙ e ∙ sym c.len-before.ensures.number)) in
    side-on m v _ _ Busy c.requires.side
    (record {
      same = record { same_side = refl; same_agent = refl; same_other = refl; same_mind = t.same };
      facts_same = refl;
      journal_agent = t.agent;
      of_side = h.of_side;
      within = h.within;
      told_is = h.told_is;
      behind = t.behind;
      ended_is = t.ended;
    })
    (led a.e c.requires.clear c.requires.goes_on a.of_program a.lawful a.waiting (same-station refl c.requires.clear.all_read a.is refl))
