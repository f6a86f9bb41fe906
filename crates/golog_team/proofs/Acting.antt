-- What a side keeps where it acts.
use Rattle.std.proofs.Common.{◌≡◌, ◌≢◌, ℕ, zero, suc, ◌+◌, ◌-◌, ◌≤◌, ◌<◌, Bool, true, false, not, ◌&&◌, ◌||◌, ◌==◌, if◌then◌else◌, Option, Some, None, List, [], ◌∷◌, ◌++◌, length, length-append, take, refl, sym, ap, ◌∙◌, subst, arith, append_assoc, ◌⊎◌, inl, inr}
use Rattle.std.specs.Prelude.{map, is_some, slice_get, option_map, Contains}
use Rattle.std.specs.List.{list_any, cons_option}
use Rattle.std.specs.Option.{option_map_or, option_to_list}
use Rattle.std.proofs.lemmas.Bool.{or_parts, or_from, or_right, or_left, and_parts, and_from, not_from_false, not-true, eqb-true, eq-eqb}
use Rattle.std.proofs.lemmas.Option.{same_Some, slice_get_within, slice_get-map}
use Rattle.std.proofs.lemmas.List.{append-nil, map-append, take-append-le, take_all, length-take-le, length-map}
use Rattle.std.proofs.lemmas.List.Elements.{Contains-push_cases, Contains-push}
use Rattle.golog_base.proofs.Bools.{or-false}
use Rattle.golog_tree.specs.declared.agent.Agent.{Agent}
use Rattle.golog_semantics.specs.declared.journal.Entry.{Entry}
use Rattle.golog_semantics.specs.declared.journal.Entry.TheVariants.{Do, Test, Exo, Sense, Rest, Close, End}
use Rattle.golog_semantics.specs.declared.journal.Item.{Item}
use Rattle.golog_semantics.specs.declared.journal.Item.TheVariants as item
use Rattle.golog_semantics.specs.declared.journal.Reason.{Reason}
use Rattle.golog_semantics.specs.declared.journal.Reason.TheVariants as why
use Rattle.golog_semantics.specs.Inline.{posted_action}
use Rattle.golog_semantics.specs.Journal.{Journal, Command, commands, is_carried_by, is_sensing, is_posted_by, entries_by, is_close, is_open, is_end, has_end, is_full, is_at_rest, is_rest_after, is_quiet, may_post, last_of}
use Rattle.golog_semantics.specs.OneMore.{new_command}
use Rattle.golog_semantics.specs.Posts.{awaited_command, is_bad, later_reason, closing, entry_of, posted_entry}
use Rattle.golog_semantics.specs.Text.{Text, action_text}
use Rattle.golog_semantics.proofs.Grown.{commands_grow, entries_grow, commands-push}
use Rattle.golog_journal.specs.Boards.{IsBoardList}
use Rattle.golog_journal.specs.Taken.{IsDriven, IsReady}
use Rattle.golog_journal.specs.Posting.{MayPost}
use Rattle.golog_journal.specs.Leading.{is_of_program}
use Rattle.golog_journal.proofs.Sensing.{sensed-inside}
use Rattle.golog_journal.proofs.Serving.{well_formed_serves}
use Rattle.golog_journal.proofs.PostsLawful.{post-list}
use Rattle.golog_device.proofs.Places.{stands}
use Rattle.golog_device.proofs.Reading.{action-told}
use Rattle.golog_device.proofs.Taking.{take-next, ready-next, ready-posted}
use Rattle.golog_device.proofs.DealtTurn.{few-of, all-taken}
use Rattle.golog_device.proofs.Asked.{closed-shut}
use Rattle.golog_device.proofs.Commanded.{IsPlain, may-plain}
use Rattle.golog_team.specs.declared.note.Note.{Note}
use Rattle.golog_team.specs.declared.note.Note.TheVariants.{Send, Waiting, Ended}
use Rattle.golog_team.specs.declared.note.SideNote.{SideNote}
use Rattle.golog_team.specs.declared.did.Did.{Did}
use Rattle.golog_team.specs.Notes.{Notes, put_by, across, is_own, is_news, is_send, is_waiting, is_ended_of, action_sent, sent_by, sends, ends, waited, has_waited, both_wait}
use Rattle.golog_team.specs.Shapes.{has_shape, may_hear, AreMatched}
use Rattle.golog_team.specs.Steps.{Station, station, seen_at, Reads, item_of, journal_with, journal_after, untaken, IsClear, Waits, HasDone, IsToSay, Acts, Steps, took, sent, led, rested, idled, waited as waited_now, stopped, ended, over, overtaken}
use Rattle.golog_team.specs.Linked.{commanded, exo_of, posted, is_sense, texts, Begins, WaitsAt, BothWaitAt, HasEnded}
use Rattle.golog_team.specs.Keeping.{heard_in, has_stranger, CameToEnd, IsClosedFor, ClosedSo, IsOver, RestedSo, WaitedSo, StillSo, MayTeam, Keeps}
use Rattle.golog_team.proofs.Rooms.{nothing, no-action}
use Rattle.golog_team.proofs.NoteLists.{any-there, none-left, none-right, none-both, sends-append, ends-append, foreign-sends, foreign-ends, SendsAlone, foreign-alone, at-the-end, where-it-stands, StandsLeft, StandsRight, waited-append, news-said, said, Said, said-with}
use Rattle.golog_team.proofs.JournalGrown.{none-closed, close-shuts, posted-more, posted-same, senseless-more, rested-more, commanded-more, commanded-same, waited-longer, open-still, rest-still, no-exo, no-sense, no-rest, ready-still, closed-still}
use Rattle.golog_team.proofs.Matched.{no-sensing, awake, all-heard}
use Rattle.golog_team.proofs.Further.{heard-append, begins-further, rested-further, over-further, stranger-further, closed-further, waited-with-more, waited-further, still-further, reads-keep}

-- why an item is refused later than at once
why-later : (agent : Agent) (journal : Journal) (taken : ℕ) (i : Item) (r : Reason) → later_reason agent journal 0 taken i ≡ Some r
    → ((r ≢ why.Bad) × (r ≢ why.Refused) × (r ≢ why.Ended)) ⊎ ((r ≡ why.Bad) × (is_bad agent journal 0 taken i ≡ true))
why-later agent journal taken i r h = go (has_end journal) (is_full journal) (is_bad agent journal 0 taken i) refl h
  where
    is-late : (s : Reason) → Some s ≡ Some r → (s ≢ why.Bad) × (s ≢ why.Refused) × (s ≢ why.Ended) → (r ≢ why.Bad) × (r ≢ why.Refused) × (r ≢ why.Ended)
    is-late s e o = subst (λ x. (x ≢ why.Bad) × (x ≢ why.Refused) × (x ≢ why.Ended)) (same_Some s r e) o

    go : (b c d : Bool) → is_bad agent journal 0 taken i ≡ d → (if b then Some why.Late else (if c then Some why.Full else (if d then Some why.Bad else None))) ≡ Some r
        → ((r ≢ why.Bad) × (r ≢ why.Refused) × (r ≢ why.Ended)) ⊎ ((r ≡ why.Bad) × (is_bad agent journal 0 taken i ≡ true))
    go true c d is e = inl (is-late why.Late e (λ h. absurd (cc), λ h. absurd (cc), λ h. absurd (cc)))
    go false true d is e = inl (is-late why.Full e (λ h. absurd (cc), λ h. absurd (cc), λ h. absurd (cc)))
    go false false true is e = inr (sym (same_Some why.Bad r e), is)
    go false false false is e = absurd (cc)

module _ (agent other : Agent) (side : ℕ) (waits : Journal → Bool) where
  -- from a station of a side whose device is open
  module _ (told unread : Notes) (journal : Journal) (taken : ℕ) (k : Keeps agent other side waits (station told unread journal taken)) (still : is_open 0 journal ≡ true) where
    pub none-yet : (ends side (told ++ unread) ≡ 0)
    none-yet = go k.over
      where
        go : (ends side (told ++ unread) ≡ 0) ⊎ IsOver side (told ++ unread) journal → ends side (told ++ unread) ≡ 0
        go (inl none) = none
        go (inr o) = absurd (let s = o.shut in let h = sym still ∙ s in cc)

    its : IsReady agent journal 0 taken
    its = k.ready still

    -- the device is closed
    pub shuts : (told' unread' : Notes) (r : Reason) → IsBoardList agent (journal ++ Close 0 r taken ∷ []) → sends side (told' ++ unread') ≡ sends side (told ++ unread)
        → Begins (texts agent (posted journal)) (heard_in other side told') → SendsAlone side unread' → WaitedSo agent other side waits told' journal
        → RestedSo side told' journal → ends side (told' ++ unread') ≡ 0
        → IsClosedFor agent other side told' (journal ++ Close 0 r taken ∷ []) taken r taken
        → Keeps agent other side waits (station told' unread' (journal ++ Close 0 r taken ∷ []) taken)
    shuts told' unread' r list same came alone waited_so rested_so none for = record {
      lawful = list;
      few = subst (λ (l : List ℕ). taken ≤ length l) (sym commanded_is) k.few;
      ready = λ o. absurd (let h = sym o ∙ shut in cc);
      sent = same ∙ k.sent ∙ ap (take taken) (sym commanded_is);
      came = subst (λ l. Begins (texts agent l) (heard_in other side told')) (sym posted_is) came;
      all_came = λ o. absurd (let h = sym o ∙ shut in cc);
      closed = λ reason count there. closed_now reason count (Contains-push_cases journal (Close 0 r taken) (Close 0 reason count) there);
      senseless = senseless-more journal (Close 0 r taken) refl k.senseless;
      unread_sends = alone;
      waited_so = waited-longer agent journal (Close 0 r taken) other side waits told' waited_so;
      rested_so = rested-more journal (Close 0 r taken) side told' (λ n e. absurd (cc)) rested_so;
      still = λ n says goes o loud all. absurd (let h = sym o ∙ shut in cc);
      over = inl none;
    }
      where
        shut : is_open 0 (journal ++ Close 0 r taken ∷ []) ≡ false
        shut = closed-shut agent 0 journal r taken

        commanded_is : commanded agent (journal ++ Close 0 r taken ∷ []) ≡ commanded agent journal
        commanded_is = commanded-same agent journal (Close 0 r taken) refl

        posted_is : posted (journal ++ Close 0 r taken ∷ []) ≡ posted journal
        posted_is = posted-same journal (Close 0 r taken) refl

        closed_now : (reason : Reason) (count : ℕ) → Contains journal (Close 0 reason count) ⊎ (Close 0 r taken ≡ Close 0 reason count)
            → IsClosedFor agent other side told' (journal ++ Close 0 r taken ∷ []) taken reason count
        closed_now reason count (inl there) = none-closed journal reason count still there
        closed_now reason count (inr is) =
            let a : r ≡ reason = cc in
            let b : taken ≡ count = cc in
            subst (λ x. IsClosedFor agent other side told' (journal ++ Close 0 r taken ∷ []) taken x count) a
            (subst (λ x. IsClosedFor agent other side told' (journal ++ Close 0 r taken ∷ []) taken r x) b for)

    -- it is closed for a reason of its own
    pub plainly : (told' : Notes) (r : Reason) → r ≢ why.Bad → r ≢ why.Refused → r ≢ why.Ended
        → IsClosedFor agent other side told' (journal ++ Close 0 r taken ∷ []) taken r taken
    plainly told' r a b c = record { same_taken = refl; unrefused = b; bad = λ h. absurd (a h); at_end = λ h. absurd (c h) }

    -- all commands are sent, where there is none to take
    pub all-sent : unread ≡ [] → slice_get (commands agent 0 journal) taken ≡ None → (sends side told ≡ commanded agent journal) × (length (commands agent 0 journal) ≡ taken)
    all-sent read none = (
      ap (sends side) (sym (ap (λ l. told ++ l) read ∙ append-nil told)) ∙ k.sent
          ∙ take_all taken (commanded agent journal) (let e = length-map (commands agent 0 journal) (λ (c : Command). c.action) in omega (arith, e, all)),
      all,
    )
      where
        all : length (commands agent 0 journal) ≡ taken
        all = all-taken agent journal 0 taken (its).driven none

  abbrev pub K : Station → Type 0
  K s = Keeps agent other side waits s

  module _ (may : MayTeam agent other side waits) where
    pub lists : (journal : Journal) (taken : ℕ) → IsBoardList agent journal → (ready : IsReady agent journal 0 taken) → (i : Item) → MayPost agent journal 0 taken i
        → IsBoardList agent (journal ++ posted_entry agent journal 0 taken i ∷ [])
    lists journal taken list ready i may_post = post-list agent journal 0 taken list ready.driven (sensed-inside agent (well_formed_serves agent may.formed)) i may_post

    -- where the program waits its device is open and may still post
    pub loud : (journal : Journal) → waits journal ≡ true → (is_open 0 journal ≡ true) × (is_at_rest agent journal 0 ≡ false)
    loud journal waiting = awake agent may.matched.shape journal (go (is_quiet agent journal) refl)
      where
        go : (b : Bool) → is_quiet agent journal ≡ b → is_quiet agent journal ≡ false
        go true is = absurd (let no = may.goes_on journal is in let h = sym waiting ∙ no in cc)
        go false is = is

    -- the next command is one of an open device
    pub next-of : (s : Station) (c : Command) → untaken agent other side waits s ≡ Some c → (is_open 0 s.journal ≡ true) × (slice_get (commands agent 0 s.journal) s.taken ≡ Some c)
    next-of s c h = go (is_open 0 s.journal) refl h
      where
        go : (b : Bool) → is_open 0 s.journal ≡ b → (if b then slice_get (commands agent 0 s.journal) s.taken else None) ≡ Some c
            → (is_open 0 s.journal ≡ true) × (slice_get (commands agent 0 s.journal) s.taken ≡ Some c)
        go true is h = (is, h)
        go false is h = absurd (cc)

    pub none-of-open : (s : Station) → is_open 0 s.journal ≡ true → untaken agent other side waits s ≡ None → slice_get (commands agent 0 s.journal) s.taken ≡ None
    none-of-open s still h = sym (ap (λ b. if b then slice_get (commands agent 0 s.journal) s.taken else None) still) ∙ h

    module _ (old : Station) (k : K old) where
      -- an item of a device that is open, which is not refused at once
      pub by-item : is_open 0 old.journal ≡ true → (told' unread' : Notes) (i : Item) → IsPlain i
          → closing agent old.journal 0 old.taken i ≡ later_reason agent old.journal 0 old.taken i
          → sends side (told' ++ unread') ≡ sends side (seen_at old) → Begins (texts agent (posted old.journal)) (heard_in other side told')
          → SendsAlone side unread' → WaitedSo agent other side waits told' old.journal → RestedSo side told' old.journal → ends side (told' ++ unread') ≡ 0
          → (is_bad agent old.journal 0 old.taken i ≡ true → has_stranger agent other side told' ≡ true)
          → (closing agent old.journal 0 old.taken i ≡ None → K (station told' unread' (old.journal ++ entry_of agent old.journal 0 old.taken i ∷ []) old.taken))
          → K (station told' unread' (old.journal ++ posted_entry agent old.journal 0 old.taken i ∷ []) old.taken)
      by-item still told' unread' i plain later same came alone waited_so rested_so none bad good = go (closing agent old.journal 0 old.taken i) refl
        where
          with_reason : Option Reason → Station
          with_reason o = station told' unread' (old.journal ++ option_map_or (λ r. Close 0 r old.taken) o (entry_of agent old.journal 0 old.taken i) ∷ []) old.taken

          list : IsBoardList agent (old.journal ++ posted_entry agent old.journal 0 old.taken i ∷ [])
          list = lists old.journal old.taken k.lawful (k.ready still) i (may-plain agent old.journal 0 old.taken i plain (k.ready still).driven)

          for : (r : Reason) → closing agent old.journal 0 old.taken i ≡ Some r → IsClosedFor agent other side told' (old.journal ++ Close 0 r old.taken ∷ []) old.taken r old.taken
          for r is = by (why-later agent old.journal old.taken i r (sym later ∙ is))
            where
              by : ((r ≢ why.Bad) × (r ≢ why.Refused) × (r ≢ why.Ended)) ⊎ ((r ≡ why.Bad) × (is_bad agent old.journal 0 old.taken i ≡ true))
                  → IsClosedFor agent other side told' (old.journal ++ Close 0 r old.taken ∷ []) old.taken r old.taken
              by (inl o) = plainly old.told old.unread old.journal old.taken k still told' r o.0 o.1 o.2
              by (inr o) = record {
                same_taken = refl;
                unrefused = λ h. let j = sym o.0 ∙ h in absurd (cc);
                bad = λ h. bad o.1;
                at_end = λ h. let j = sym o.0 ∙ h in absurd (cc);
              }

          go : (o : Option Reason) → closing agent old.journal 0 old.taken i ≡ o → K (with_reason (closing agent old.journal 0 old.taken i))
          go None is = subst (λ o. K (with_reason o)) (sym is) (good is)
          go (Some r) is =
              subst (λ o. K (with_reason o)) (sym is)
              (shuts old.told old.unread old.journal old.taken k still told' unread' r
              (subst (λ o. IsBoardList agent (old.journal ++ option_map_or (λ r. Close 0 r old.taken) o (entry_of agent old.journal 0 old.taken i) ∷ [])) is list)
              same came alone waited_so rested_so none (for r is))
