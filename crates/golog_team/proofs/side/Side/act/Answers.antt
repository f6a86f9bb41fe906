use Rattle.std.proofs.Common.{ℕ, Some, None, ◌+◌, ◌<◌, if◌then◌else◌, length-append, append_assoc}
use Rattle.std.specs.Prelude.{option_map, slice_get}
use Rattle.std.specs.List.{list_any}
use Rattle.std.proofs.lemmas.List.{take-append-le}
use Rattle.golog_semantics.specs.Journal.{Command, commands}
use Rattle.golog_journal.specs.Taken.{IsReady}
use Rattle.golog_journal.specs.Boards.{AgentJournal}
use Rattle.golog_team.specs.declared.note.Note.TheVariants.{Send}
use Rattle.golog_team.specs.Notes.{Notes, put_by, is_own}
use Rattle.golog_team.specs.Links.{MayPutAnywhere}
use Rattle.golog_team.specs.Steps.{Acts, station}
use Rattle.golog_team.proofs.Held.{one-device, next-is, next-none, send-room, more-station}
use Rattle.golog_journal.specs.Leading.{IsBehind}
use Rattle.std.proofs.Common.{◌≡◌, ◌≤◌, true, false, [], ◌∷◌, ◌++◌, length, take, drop, not, refl, sym, ap, ◌∙◌, subst, arith}
use Rattle.golog_semantics.specs.declared.journal.Item.TheVariants as item
use Rattle.golog_semantics.specs.Journal.{has_end, is_open}
use Rattle.golog_journal.specs.Posting.{MayPost}
use Rattle.golog_device.proofs.Commanded.{may-plain}
use Rattle.golog_device.proofs.DealtTurn.{all-taken}
use Rattle.golog_team.specs.declared.did.Did.TheVariants.{Busy, Idle, Over}
use Rattle.golog_team.specs.Notes.{ends, has_waited, across}
use Rattle.golog_team.specs.Links.{MayPut}
use Rattle.golog_team.specs.Steps.{took, sent, led, rested, idled, stopped, over}
use Rattle.golog_team.specs.Sides.{at_read, IsToldOf}
use Rattle.golog_team.specs.Standing.{station_of, IsSide}
use Rattle.golog_team.proofs.ReadOn.{same-station}
use Rattle.golog_team.proofs.Acting.{loud, none-of-open}
use Rattle.golog_team.proofs.Held.{GoesFrom, side-on, all-read, says-waiting, says-ended, ends-later, both-from, not-both-from, mind-same, posts-on, IsPosted}
use Rattle.golog_team.proofs.side.Side.act.Goals as goal

pub untaken-requires-clause-device : goal.untaken-requires-clause-device
untaken-requires-clause-device g c =
    let h = c.requires.side.held in
    subst (λ a. 0 < length a.devices) (sym h.of_agent.0) (one-device c.args.self.now.agent.now h.may.matched.shape)

pub untaken-requires-clause-ready : goal.untaken-requires-clause-ready
untaken-requires-clause-ready g c o =
    let s = c.args.self.now in
    subst (λ a. IsReady a s.journal.entries 0 s.taken) (sym c.requires.side.held.of_agent.0) (c.requires.side.keeps.ready o)

pub put-requires : goal.put-requires
put-requires g c =
    let m = g.L.Lead.mind in
    let v = g.W.Wire.view in
    let s = c.args.self.now in
    let h = c.requires.side.held in
    let n = next-is (if is_open 0 s.journal.entries then slice_get (commands s.agent.now 0 s.journal.entries) s.taken else None) c.in-Some.action
    (subst (λ a. Some c.in-Some.action ≡ option_map (λ (x : Command). x.action) (if is_open 0 s.journal.entries then slice_get (commands a 0 s.journal.entries) s.taken else None)) h.of_agent.0 c.in-Some.ensures.next) in
    let room = send-room s.agent.now s.other.now s.side (m s.lead).waits (v s.wire) s.told.read s.journal.entries s.taken h.may n.command c.requires.side.keeps n.is in
    subst (λ x. MayPutAnywhere (v s.wire).seen x (Send c.in-Some.action)) (sym h.of_side) room.0

pub returns-in-Some-clause-acts : goal.returns-in-Some-clause-acts
returns-in-Some-clause-acts g c =
    let m = g.L.Lead.mind in
    let v = g.W.Wire.view in
    let s = c.args.self.now in
    let h = c.requires.side.held in
    let n = next-is (if is_open 0 s.journal.entries then slice_get (commands s.agent.now 0 s.journal.entries) s.taken else None) c.in-Some.action
    (subst (λ a. Some c.in-Some.action ≡ option_map (λ (x : Command). x.action) (if is_open 0 s.journal.entries then slice_get (commands a 0 s.journal.entries) s.taken else None)) h.of_agent.0 c.in-Some.ensures.next) in
    let room = send-room s.agent.now s.other.now s.side (m s.lead).waits (v s.wire) s.told.read s.journal.entries s.taken h.may n.command c.requires.side.keeps n.is in
    let whole = all-read s.told.read (v s.wire).seen h.within.0 c.requires.read in
    let new = v c.put.new.self in
    let p = c.put.ensures in
    let note = put_by s.side (Send n.command.action) in
    let grown : new.seen ≡ (v s.wire).seen ++ (p.others ++ note ∷ []) =
    p.grows ∙ ap (λ l. ((v s.wire).seen ++ p.others) ++ l) (p.answered ∙ ap (λ x. put_by x (Send c.in-Some.action) ∷ []) h.of_side ∙ ap (λ a. put_by s.side (Send a) ∷ []) (sym n.action_is))
    ∙ append_assoc (v s.wire).seen p.others (note ∷ []) in
    let foreign = subst (λ x. list_any (is_own x) p.others ≡ false) h.of_side p.foreign in
    (sent n.command p.others c.requires.read n.is foreign
    (ap (λ (j : AgentJournal). at_read new s.told.read j.entries (s.taken + 1)) c.in-Some.ensures.same
    ∙ more-station (v s.wire) new s.told.read s.journal.entries (s.taken + 1) whole (p.others ++ note ∷ []) grown))

pub returns-in-Some-clause-side : goal.returns-in-Some-clause-side
returns-in-Some-clause-side g c =
    let m = g.L.Lead.mind in
    let v = g.W.Wire.view in
    let s = c.args.self.now in
    let h = c.requires.side.held in
    let n = next-is (if is_open 0 s.journal.entries then slice_get (commands s.agent.now 0 s.journal.entries) s.taken else None) c.in-Some.action
    (subst (λ a. Some c.in-Some.action ≡ option_map (λ (x : Command). x.action) (if is_open 0 s.journal.entries then slice_get (commands a 0 s.journal.entries) s.taken else None)) h.of_agent.0 c.in-Some.ensures.next) in
    let room = send-room s.agent.now s.other.now s.side (m s.lead).waits (v s.wire) s.told.read s.journal.entries s.taken h.may n.command c.requires.side.keeps n.is in
    let whole = all-read s.told.read (v s.wire).seen h.within.0 c.requires.read in
    let new = v c.put.new.self in
    let p = c.put.ensures in
    let note = put_by s.side (Send n.command.action) in
    let grown : new.seen ≡ (v s.wire).seen ++ (p.others ++ note ∷ []) =
    p.grows ∙ ap (λ l. ((v s.wire).seen ++ p.others) ++ l) (p.answered ∙ ap (λ x. put_by x (Send c.in-Some.action) ∷ []) h.of_side ∙ ap (λ a. put_by s.side (Send a) ∷ []) (sym n.action_is))
    ∙ append_assoc (v s.wire).seen p.others (note ∷ []) in
    let foreign = subst (λ x. list_any (is_own x) p.others ≡ false) h.of_side p.foreign in
    let long = ap (λ (l : Notes). length l) grown in
    let more = length-append (v s.wire).seen (p.others ++ note ∷ []) in
    side-on m v _ _ Busy c.requires.side
    (record {
      same = record { same_side = refl; same_agent = refl; same_other = refl; same_mind = mind-same (m s.lead) };
      facts_same = refl;
      journal_agent = ap (λ (j : AgentJournal). j.agent) c.in-Some.ensures.same;
      of_side = p.same_side ∙ h.of_side;
      within = (omega (arith, long, more, whole), p.short);
      told_is = subst (λ l. IsToldOf s.side l s.told) (sym (ap (take s.told.read) grown ∙ take-append-le s.told.read (v s.wire).seen (p.others ++ note ∷ []) h.within.0)) h.told_is;
      behind = subst (λ (j : AgentJournal). IsBehind (m s.lead).list j.entries) (sym c.in-Some.ensures.same) h.behind;
      ended_is = h.ended_is ∙ sym (ap (λ (j : AgentJournal). has_end j.entries) c.in-Some.ensures.same);
    })
    (sent n.command p.others c.requires.read n.is foreign
    (ap (λ (j : AgentJournal). at_read new s.told.read j.entries (s.taken + 1)) c.in-Some.ensures.same
    ∙ more-station (v s.wire) new s.told.read s.journal.entries (s.taken + 1) whole (p.others ++ note ∷ []) grown))

pub go_on-requires-clause-side : goal.go_on-requires-clause-side
go_on-requires-clause-side g c =
    let s = c.args.self.now in
    subst (λ j. IsSide g.L.Lead.mind g.W.Wire.view (record s { journal = j })) (sym c.in-None.ensures.same) c.requires.side

pub go_on-requires-clause-clear : goal.go_on-requires-clause-clear
go_on-requires-clause-clear g c =
    let s = c.args.self.now in
    let h = c.requires.side.held in
    record {
      all_read = c.requires.read;
      no_command =
          ap (λ (j : AgentJournal). if is_open 0 j.entries then slice_get (commands s.agent.now 0 j.entries) s.taken else None) c.in-None.ensures.same
          ∙ next-none (if is_open 0 s.journal.entries then slice_get (commands s.agent.now 0 s.journal.entries) s.taken else None)
          (subst (λ a. None ≡ option_map (λ (x : Command). x.action) (if is_open 0 s.journal.entries then slice_get (commands a 0 s.journal.entries) s.taken else None)) h.of_agent.0 c.in-None.ensures.next);
    }

pub returns-in-None-clause-acts : goal.returns-in-None-clause-acts
returns-in-None-clause-acts g c =
    let m = g.L.Lead.mind in
    let v = g.W.Wire.view in
    let s = c.args.self.now in
    subst (λ (j : AgentJournal). Acts s.agent.now s.other.now s.side (m s.lead).waits (at_read (v s.wire) s.told.read j.entries s.taken) (station_of m v c.go_on.new.self) c.go_on.result)
    c.in-None.ensures.same c.go_on.ensures.acts

pub overflow_add-self : goal.overflow_add-self
overflow_add-self g c =
    let s = c.args.self.now in
    let h = c.requires.side.held in
    let n = next-is (if is_open 0 s.journal.entries then slice_get (commands s.agent.now 0 s.journal.entries) s.taken else None) c.in-Some.action
    (subst (λ a. Some c.in-Some.action ≡ option_map (λ (x : Command). x.action) (if is_open 0 s.journal.entries then slice_get (commands a 0 s.journal.entries) s.taken else None)) h.of_agent.0 c.in-Some.ensures.next) in
    let room = send-room s.agent.now s.other.now s.side (g.L.Lead.mind s.lead).waits (g.W.Wire.view s.wire) s.told.read s.journal.entries s.taken h.may n.command c.requires.side.keeps n.is in
    let less = room.1 in
    omega (arith, less)
