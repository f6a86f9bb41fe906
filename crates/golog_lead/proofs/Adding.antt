-- Turns and rounds add entries, and take none away.
use Rattle.std.proofs.Common.{◌≡◌, ℕ, zero, suc, ◌+◌, Bool, true, false, if◌then◌else◌, Option, Some, None, List, [], ◌∷◌, ◌++◌, length, refl, sym, ap, ◌∙◌, arith, zero-add, append_assoc}
use Rattle.std.specs.Prelude.{slice_get}
use Rattle.std.proofs.lemmas.List.{append-nil}
use Rattle.golog_tree.specs.declared.agent.Agent.{Agent}
use Rattle.golog_semantics.specs.declared.journal.Item.TheVariants as item
use Rattle.golog_semantics.specs.Journal.{Journal, Command, commands, has_end, is_at_rest, is_open, fluent_sensed}
use Rattle.golog_semantics.specs.Text.{Text}
use Rattle.golog_semantics.specs.Inline.{Scripted, Stage, answering, idling, after_lead, posting, round, rounds, after_service, turn, turn_by, turns_from}
use Rattle.golog_lead.specs.Rounds.{Adds}

pub adds_none : (journal : Journal) → Adds journal journal
adds_none journal = ([], sym (append-nil journal))

pub adds_both : (a b c : Journal) → Adds a b → Adds b c → Adds a c
adds_both a b c f g = (f.0 ++ g.0, g.1 ∙ ap (λ j. j ++ g.0) f.1 ∙ append_assoc a f.0 g.0)

either-turn : (journal : Journal) (b : Bool) (x y : Journal × Scripted) → Adds journal x.0 → Adds journal y.0 → Adds journal (if b then x else y).0
either-turn journal true x y f g = f
either-turn journal false x y f g = g

module _ (agent : Agent) where
  module _ (journal : Journal) (device : ℕ) where
    answering-adds : (d : Scripted) (fluent : ℕ) (answers : List Text) → Adds journal (answering agent journal device d fluent answers).0
    answering-adds d fluent [] = (_, refl)
    answering-adds d fluent (a ∷ answers) = (_, refl)

    served-adds : (d : Scripted) (o : Option ℕ) → Adds journal (after_service agent journal device d o).0
    served-adds d None = adds_none journal
    served-adds d (Some fluent) = answering-adds d fluent d.answers

    idling-adds : (d : Scripted) (idle : List Text) → Adds journal (idling agent journal device d idle).0
    idling-adds d [] = (_, refl)
    idling-adds d (t ∷ idle) = (_, refl)

    turn_by-adds : (d : Scripted) (o : Option Command) → Adds journal (turn_by agent journal device d o).0
    turn_by-adds d (Some c) = served-adds (record d { taken = d.taken + 1 }) (fluent_sensed agent c.action)
    turn_by-adds d None =
        either-turn journal (has_end journal) (posting agent journal device d item.Stop)
        (if is_at_rest agent journal device then (journal, d) else idling agent journal device d d.idle) (_, refl)
        (either-turn journal (is_at_rest agent journal device) (journal, d) (idling agent journal device d d.idle) (adds_none journal) (idling-adds d d.idle))

    pub turn_adds : (d : Scripted) → Adds journal (turn agent journal device d).0
    turn_adds d = turn_by-adds d (slice_get (commands agent device journal) d.taken)

  -- the turn that an open device has, and none otherwise
  abbrev pub turn_if_open : ℕ → Journal → Scripted → Journal × Scripted
  turn_if_open device journal d = if is_open device journal then turn agent journal device d else (journal, d)

  pub open_adds : (device : ℕ) (journal : Journal) (d : Scripted) → Adds journal (turn_if_open device journal d).0
  open_adds device journal d =
      either-turn journal (is_open device journal) (turn agent journal device d) (journal, d) (turn_adds journal device d) (adds_none journal)

  pub turns_add : (device : ℕ) (journal : Journal) (ds : List Scripted) → Adds journal (turns_from agent device journal ds).0
  turns_add device journal [] = adds_none journal
  turns_add device journal (d ∷ ds) =
      let now = turn_if_open device journal d in
      adds_both journal now.0 (turns_from agent (device + 1) now.0 ds).0 (open_adds device journal d) (turns_add (device + 1) now.0 ds)

  pub turns_keep : (device : ℕ) (journal : Journal) (ds : List Scripted) → length (turns_from agent device journal ds).1 ≡ length ds
  turns_keep device journal [] = refl
  turns_keep device journal (d ∷ ds) = ap suc (turns_keep (device + 1) (turn_if_open device journal d).0 ds)

  -- one more device has its turn after the others
  pub turns_push : (device : ℕ) (journal : Journal) (ds : List Scripted) (d : Scripted)
      → turns_from agent device journal (ds ++ d ∷ [])
      ≡ (let made = turns_from agent device journal ds in
      let now = if is_open (device + length ds) made.0 then turn agent made.0 (device + length ds) d else (made.0, d) in
      (now.0, made.1 ++ now.1 ∷ []))
  turns_push device journal [] d =
      ap (λ k. ((turn_if_open k journal d).0, (turn_if_open k journal d).1 ∷ [])) (let k : device ≡ device + 0 = omega arith in k)
  turns_push device journal (e ∷ ds) d =
      ap (λ (others : Journal × List Scripted). (others.0, (turn_if_open device journal e).1 ∷ others.1)) (turns_push (device + 1) (turn_if_open device journal e).0 ds d)
      ∙ ap (λ k. after k (turns_from agent device journal (e ∷ ds))) (let k : (device + 1) + length ds ≡ device + suc (length ds) = omega arith in k)
    where
      after : ℕ → Journal × List Scripted → Journal × List Scripted
      after k made = ((turn_if_open k made.0 d).0, made.1 ++ (turn_if_open k made.0 d).1 ∷ [])

module _ (agent : Agent) (made : Journal → Journal) where
  led-keeps : (after : Journal × List Scripted) → (after_lead made after).devices ≡ after.1
  led-keeps (journal, ds) = refl

  pub round_keeps : (s : Stage) → length (round agent made s).devices ≡ length s.devices
  round_keeps s = ap (λ ds. length ds) (led-keeps (turns_from agent 0 s.journal s.devices)) ∙ turns_keep agent 0 s.journal s.devices

  pub rounds_keep : (n : ℕ) (s : Stage) → length (rounds agent made n s).devices ≡ length s.devices
  rounds_keep zero s = refl
  rounds_keep (suc n) s = rounds_keep n (round agent made s) ∙ round_keeps s

  pub more_rounds : (m n : ℕ) (s : Stage) → rounds agent made (m + n) s ≡ rounds agent made n (rounds agent made m s)
  more_rounds zero n s = ap (λ k. rounds agent made k s) (zero-add n)
  more_rounds (suc m) n s = ap (λ k. rounds agent made k s) (let k : suc m + n ≡ suc (m + n) = omega arith in k) ∙ more_rounds m n (round agent made s)

  pub one_round_more : (n : ℕ) (s : Stage) → rounds agent made (n + 1) s ≡ round agent made (rounds agent made n s)
  one_round_more n s = more_rounds n 1 s

  module _ (adds : (journal : Journal) → Adds journal (made journal)) where
    led_adds : (after : Journal × List Scripted) → Adds after.0 (after_lead made after).journal
    led_adds (journal, ds) = adds journal

    round_adds : (s : Stage) → Adds s.journal (round agent made s).journal
    round_adds s =
        let after = turns_from agent 0 s.journal s.devices in
        adds_both s.journal after.0 (after_lead made after).journal (turns_add agent 0 s.journal s.devices) (led_adds after)

    rounds_add : (n : ℕ) (s : Stage) → Adds s.journal (rounds agent made n s).journal
    rounds_add zero s = adds_none s.journal
    rounds_add (suc n) s = adds_both s.journal (round agent made s).journal (rounds agent made n (round agent made s)).journal (round_adds s) (rounds_add n (round agent made s))

    -- after the devices' turns of one more round, at least that round's entries are added
    pub turns_then_add : (n : ℕ) (s : Stage) → Adds (turns_from agent 0 s.journal s.devices).0 (rounds agent made (suc n) s).journal
    turns_then_add n s =
        let after = turns_from agent 0 s.journal s.devices in
        adds_both after.0 (round agent made s).journal (rounds agent made n (round agent made s)).journal (led_adds after) (rounds_add n (round agent made s))
