-- What a side keeps where it takes up what the other side sends, or that it has ended.
use Rattle.std.proofs.Common.{◌≡◌, ◌≢◌, ℕ, zero, suc, ◌+◌, ◌-◌, ◌≤◌, ◌<◌, Bool, true, false, not, ◌&&◌, ◌||◌, ◌==◌, if◌then◌else◌, Option, Some, None, List, [], ◌∷◌, ◌++◌, length, length-append, take, refl, sym, ap, ◌∙◌, subst, arith, append_assoc, ◌⊎◌, inl, inr}
use Rattle.std.specs.Prelude.{map, is_some, slice_get, option_map, Contains}
use Rattle.std.specs.List.{list_any, cons_option}
use Rattle.std.specs.Option.{option_map_or, option_to_list}
use Rattle.std.proofs.lemmas.Bool.{or_parts, or_from, or_right, or_left, and_parts, and_from, not_from_false, not-true, eqb-true, eq-eqb}
use Rattle.std.proofs.lemmas.Option.{same_Some, slice_get_within, slice_get-map}
use Rattle.std.proofs.lemmas.List.{append-nil, map-append, take-append-le, take_all, length-take-le, length-map}
use Rattle.std.proofs.lemmas.List.Elements.{Contains-push_cases, Contains-push}
use Rattle.golog_base.proofs.Bools.{or-false}
use Rattle.golog_tree.specs.declared.agent.Agent.{Agent}
use Rattle.golog_semantics.specs.declared.journal.Entry.{Entry}
use Rattle.golog_semantics.specs.declared.journal.Entry.TheVariants.{Do, Test, Exo, Sense, Rest, Close, End}
use Rattle.golog_semantics.specs.declared.journal.Item.{Item}
use Rattle.golog_semantics.specs.declared.journal.Item.TheVariants as item
use Rattle.golog_semantics.specs.declared.journal.Reason.{Reason}
use Rattle.golog_semantics.specs.declared.journal.Reason.TheVariants as why
use Rattle.golog_semantics.specs.Inline.{posted_action}
use Rattle.golog_semantics.specs.Journal.{Journal, Command, commands, is_carried_by, is_sensing, is_posted_by, entries_by, is_close, is_open, is_end, has_end, is_full, is_at_rest, is_rest_after, is_quiet, may_post, last_of}
use Rattle.golog_semantics.specs.OneMore.{new_command}
use Rattle.golog_semantics.specs.Posts.{awaited_command, is_bad, later_reason, closing, entry_of, posted_entry}
use Rattle.golog_semantics.specs.Text.{Text, action_text}
use Rattle.golog_semantics.proofs.Grown.{commands_grow, entries_grow, commands-push}
use Rattle.golog_journal.specs.Boards.{IsBoardList}
use Rattle.golog_journal.specs.Taken.{IsDriven, IsReady}
use Rattle.golog_journal.specs.Posting.{MayPost}
use Rattle.golog_journal.specs.Leading.{is_of_program}
use Rattle.golog_journal.proofs.Sensing.{sensed-inside}
use Rattle.golog_journal.proofs.Serving.{well_formed_serves}
use Rattle.golog_journal.proofs.PostsLawful.{post-list}
use Rattle.golog_device.proofs.Places.{stands}
use Rattle.golog_device.proofs.Reading.{action-told}
use Rattle.golog_device.proofs.Taking.{take-next, ready-next, ready-posted}
use Rattle.golog_device.proofs.DealtTurn.{few-of, all-taken}
use Rattle.golog_device.proofs.Asked.{closed-shut}
use Rattle.golog_device.proofs.Commanded.{IsPlain, may-plain}
use Rattle.golog_team.specs.declared.note.Note.{Note}
use Rattle.golog_team.specs.declared.note.Note.TheVariants.{Send, Waiting, Ended}
use Rattle.golog_team.specs.declared.note.SideNote.{SideNote}
use Rattle.golog_team.specs.declared.did.Did.{Did}
use Rattle.golog_team.specs.Notes.{Notes, put_by, across, is_own, is_news, is_send, is_waiting, is_ended_of, action_sent, sent_by, sends, ends, waited, has_waited, both_wait}
use Rattle.golog_team.specs.Shapes.{has_shape, may_hear, AreMatched}
use Rattle.golog_team.specs.Steps.{Station, station, seen_at, Reads, item_of, journal_with, journal_after, untaken, IsClear, Waits, HasDone, IsToSay, Acts, Steps, took, sent, led, rested, idled, waited as waited_now, stopped, ended, over, overtaken}
use Rattle.golog_team.specs.Linked.{commanded, exo_of, posted, is_sense, texts, Begins, WaitsAt, BothWaitAt, HasEnded}
use Rattle.golog_team.specs.Keeping.{heard_in, has_stranger, CameToEnd, IsClosedFor, ClosedSo, IsOver, RestedSo, WaitedSo, StillSo, MayTeam, Keeps}
use Rattle.golog_team.proofs.Rooms.{nothing, no-action}
use Rattle.golog_team.proofs.NoteLists.{any-there, none-left, none-right, none-both, sends-append, ends-append, foreign-sends, foreign-ends, SendsAlone, foreign-alone, at-the-end, where-it-stands, StandsLeft, StandsRight, waited-append, news-said, said, Said, said-with}
use Rattle.golog_team.proofs.JournalGrown.{none-closed, close-shuts, posted-more, posted-same, senseless-more, rested-more, commanded-more, commanded-same, waited-longer, open-still, rest-still, no-exo, no-sense, no-rest, ready-still, closed-still}
use Rattle.golog_team.proofs.Matched.{no-sensing, awake, all-heard}
use Rattle.golog_team.proofs.Further.{heard-append, begins-further, rested-further, over-further, stranger-further, closed-further, waited-with-more, waited-further, still-further, reads-keep}
use Rattle.golog_team.proofs.Acting.{K, shuts, plainly, all-sent, none-yet, lists, loud, next-of, none-of-open, by-item}

module _ (agent other : Agent) (side : ℕ) (waits : Journal → Bool) (may : MayTeam agent other side waits) where
  module _ (old : Station) (n : SideNote) (later : Notes) (k : K agent other side waits old) (is : old.unread ≡ n ∷ later) (news : is_news side n ≡ true) where
    abbrev told' : Notes
    told' = old.told ++ n ∷ []

    abbrev P : Journal → Type 0
    P journal = K agent other side waits (station told' later journal old.taken)

    seen : told' ++ later ≡ seen_at old
    seen = append_assoc old.told (n ∷ []) later ∙ ap (λ l. old.told ++ l) (sym is)

    abbrev own_other : SideNote → Bool
    own_other = λ x. is_own side x && not (is_send x.note)

    alone : SendsAlone side (n ∷ later)
    alone = sym (ap (list_any own_other) is) ∙ k.unread_sends

    later_alone : SendsAlone side later
    later_alone = none-right own_other (n ∷ []) later alone

    one_alone : SendsAlone side (n ∷ [])
    one_alone = none-left own_other (n ∷ []) later alone

    same : sends side (told' ++ later) ≡ sends side (seen_at old)
    same = ap (sends side) seen

    came : Begins (texts agent (posted old.journal)) (heard_in other side told')
    came = subst (Begins (texts agent (posted old.journal))) (sym (heard-append other side old.told (n ∷ [])))
        (begins-further (texts agent (posted old.journal)) (heard_in other side old.told) (heard_in other side (n ∷ [])) k.came)

    waited_so : WaitedSo agent other side waits told' old.journal
    waited_so = waited-further agent other side waits old.told (n ∷ []) old.journal one_alone k.waited_so

    rested_so : RestedSo side told' old.journal
    rested_so = rested-further side old.told (n ∷ []) old.journal k.rested_so

    -- it has said nothing since
    unsaid : waited side told' ≡ None
    unsaid = waited-append side old.told (n ∷ []) ∙ news-said side (waited side old.told) n news

    its_side : n.side ≡ across side
    its_side = eqb-true n.side (across side) (and_parts (n.side == across side) (not (is_waiting n.note)) news).0

    -- nothing is posted
    unposted : is_open 0 old.journal ≡ false → P old.journal
    unposted shut = record {
      lawful = k.lawful;
      few = k.few;
      ready = k.ready;
      sent = same ∙ k.sent;
      came = came;
      all_came = λ o. absurd (let h = sym o ∙ shut in cc);
      closed = closed-further agent other side old.told (n ∷ []) old.journal old.taken k.closed;
      senseless = k.senseless;
      unread_sends = later_alone;
      waited_so = waited_so;
      rested_so = rested_so;
      still = λ m says goes o rest all. absurd (let h = sym o ∙ shut in cc);
      over = subst (λ s. (ends side s ≡ 0) ⊎ IsOver side s old.journal) (sym seen) k.over;
    }

    module _ (open_now : is_open 0 old.journal ≡ true) where
      none : ends side (told' ++ later) ≡ 0
      none = ap (ends side) seen ∙ none-yet agent other side waits old.told old.unread old.journal old.taken k open_now

      -- the Ended of the other side
      ended-posted : n.note ≡ Ended → P (journal_with agent other side waits old item.Close)
      ended-posted note_is =
          shuts agent other side waits old.told old.unread old.journal old.taken k open_now told' later why.Ended
          (lists agent other side waits may old.journal old.taken k.lawful (k.ready open_now) item.Close (may-plain agent old.journal 0 old.taken item.Close tt (k.ready open_now).driven))
          same came later_alone waited_so rested_so none
          (record {
            same_taken = refl;
            unrefused = λ h. absurd (cc);
            bad = λ h. absurd (cc);
            at_end = λ h. record {
              before = old.told;
              later = [];
              stands = ap (λ x. old.told ++ x ∷ []) (ap (λ s. put_by s n.note) its_side ∙ ap (put_by (across side)) note_is);
              whole = ap (texts agent) (posted-same old.journal (Close 0 why.Ended old.taken) refl) ∙ k.all_came open_now;
            };
          })

      module _ (a : ℕ) (note_is : n.note ≡ Send a) where
        sends_it : sends (across side) (n ∷ []) ≡ a ∷ []
        sends_it = ap (λ o. cons_option o []) (ap (λ b. if b then action_sent n.note else None) (ap (λ s. s == across side) its_side ∙ eq-eqb (across side) (across side) refl) ∙ ap action_sent note_is)

        heard : heard_in other side told' ≡ heard_in other side old.told ++ action_text other a ∷ []
        heard = heard-append other side old.told (n ∷ []) ∙ ap (λ l. heard_in other side old.told ++ texts other l) sends_it

        -- an action that the other agent's device does not carry out
        stranger : is_carried_by other 0 a ≡ false → has_stranger agent other side told' ≡ true
        stranger strange =
            ap (list_any (λ x. not (is_carried_by other 0 x))) (sends-append (across side) old.told (n ∷ []) ∙ ap (λ l. sends (across side) old.told ++ l) sends_it)
            ∙ any-there (λ x. not (is_carried_by other 0 x)) (sends (across side) old.told) [] a (not_from_false (is_carried_by other 0 a) strange)

        -- it is posted as an action of the same text
        exo-posted : (b : ℕ) → action_text agent b ≡ action_text other a → closing agent old.journal 0 old.taken (item.Exo b) ≡ None
            → P (old.journal ++ Exo 0 b ∷ [])
        exo-posted b text taken_in = record {
          lawful = subst (λ e. IsBoardList agent (old.journal ++ e ∷ [])) entry
              (lists agent other side waits may old.journal old.taken k.lawful (k.ready open_now) (item.Exo b) (may-plain agent old.journal 0 old.taken (item.Exo b) tt (k.ready open_now).driven));
          few = subst (λ (l : List ℕ). old.taken ≤ length l) (sym commanded_is) k.few;
          ready = λ o. subst (λ e. IsReady agent (old.journal ++ e ∷ []) 0 old.taken) entry
              (ready-posted agent old.journal 0 old.taken k.lawful (k.ready open_now).driven (item.Exo b) taken_in);
          sent = same ∙ k.sent ∙ ap (take old.taken) (sym commanded_is);
          came = ([], sym (append-nil (texts agent (posted (old.journal ++ Exo 0 b ∷ []))) ∙ all));
          all_came = λ o. all;
          closed = λ reason count there. closed_now reason count (Contains-push_cases old.journal (Exo 0 b) (Close 0 reason count) there);
          senseless = senseless-more old.journal (Exo 0 b) refl k.senseless;
          unread_sends = later_alone;
          waited_so = waited-longer agent old.journal (Exo 0 b) other side waits told' waited_so;
          rested_so = rested-more old.journal (Exo 0 b) side told' (λ m e. absurd (cc)) rested_so;
          still = λ m says goes o rest all. absurd (let h = sym unsaid ∙ says in cc);
          over = inl none;
        }
          where
            entry : posted_entry agent old.journal 0 old.taken (item.Exo b) ≡ Exo 0 b
            entry = ap (λ o. option_map_or (λ r. Close 0 r old.taken) o (Exo 0 b)) taken_in

            commanded_is : commanded agent (old.journal ++ Exo 0 b ∷ []) ≡ commanded agent old.journal
            commanded_is = commanded-same agent old.journal (Exo 0 b) refl

            all : texts agent (posted (old.journal ++ Exo 0 b ∷ [])) ≡ heard_in other side told'
            all =
                ap (texts agent) (posted-more old.journal (Exo 0 b) (Some b) refl)
                ∙ map-append (action_text agent) (posted old.journal) (b ∷ [])
                ∙ ap (λ l. l ++ action_text agent b ∷ []) (k.all_came open_now)
                ∙ ap (λ t. heard_in other side old.told ++ t ∷ []) text
                ∙ sym heard

            closed_now : (reason : Reason) (count : ℕ) → Contains old.journal (Close 0 reason count) ⊎ (Exo 0 b ≡ Close 0 reason count)
                → IsClosedFor agent other side told' (old.journal ++ Exo 0 b ∷ []) old.taken reason count
            closed_now reason count (inl there) = none-closed old.journal reason count open_now there
            closed_now reason count (inr h) = absurd (cc)

        -- what can't be read
        unread-posted : is_carried_by other 0 a ≡ false → P (journal_with agent other side waits old item.Unreadable)
        unread-posted strange =
            by-item agent other side waits may old k open_now told' later item.Unreadable tt refl same came later_alone waited_so rested_so none
            (λ h. stranger strange) (λ h. late-if-unread h)
          where
            late-if-unread : {Q : Type 0} → closing agent old.journal 0 old.taken item.Unreadable ≡ None → Q
            late-if-unread {Q} h = go (has_end old.journal) (is_full old.journal) h
              where
                go : (b c : Bool) → (if b then Some why.Late else (if c then Some why.Full else Some why.Bad)) ≡ None → Q
                go true c h = absurd (cc)
                go false true h = absurd (cc)
                go false false h = absurd (cc)

        -- an action that it does is read
        read-posted : is_carried_by other 0 a ≡ true → (i : Item) → posted_action agent (action_text other a) ≡ i → P (journal_with agent other side waits old i)
        read-posted carried i is = by i is (subst (λ x. may_hear agent x ≡ true) is (all-heard agent other may.matched.hears a carried))
          where
            by : (i : Item) → posted_action agent (action_text other a) ≡ i → may_hear agent i ≡ true → P (journal_with agent other side waits old i)
            by (item.Exo b) is heard_it =
                by-item agent other side waits may old k open_now told' later (item.Exo b) tt refl same came later_alone waited_so rested_so none
                (λ bad. absurd (let r = (k.ready open_now).answered in
                let h : (not (may_post agent 0 b) || is_some (awaited_command agent old.journal 0 old.taken)) ≡ false = ap (λ x. not x || is_some (awaited_command agent old.journal 0 old.taken)) heard_it ∙ ap is_some r in
                let j = sym bad ∙ h in cc))
                (exo-posted b (sym (action-told agent (action_text other a) b is)))
            by (item.Value v) is h = absurd (cc)
            by item.Rest is h = absurd (cc)
            by item.Close is h = absurd (cc)
            by item.Unreadable is h = absurd (cc)
            by item.Silent is h = absurd (cc)
            by item.Stop is h = absurd (cc)
            by item.Refused is h = absurd (cc)

        send-posted : P (journal_with agent other side waits old (item_of agent other side waits (Send a)))
        send-posted = go (is_carried_by other 0 a) refl
          where
            go : (b : Bool) → is_carried_by other 0 a ≡ b → P (journal_with agent other side waits old (if b then posted_action agent (action_text other a) else item.Unreadable))
            go true carried = read-posted carried (posted_action agent (action_text other a)) refl
            go false strange = unread-posted strange

    -- the news are taken up
    pub took-keep : P (journal_after agent other side waits old n.note)
    took-keep = go (is_open 0 old.journal) refl
      where
        by-note : is_open 0 old.journal ≡ true → (note : Note) → n.note ≡ note → not (is_waiting note) ≡ true
            → P (journal_with agent other side waits old (item_of agent other side waits note))
        by-note still (Send a) note_is h = send-posted still a note_is
        by-note still Ended note_is h = ended-posted still note_is
        by-note still (Waiting m) note_is h = absurd (cc)

        go : (b : Bool) → is_open 0 old.journal ≡ b
            → P (if b then journal_with agent other side waits old (item_of agent other side waits n.note) else old.journal)
        go true still = by-note still n.note refl (and_parts (n.side == across side) (not (is_waiting n.note)) news).1
        go false shut = unposted shut
