-- What a side keeps where it says that it waits or that it has ended, or is overtaken.
use Rattle.std.proofs.Common.{◌≡◌, ◌≢◌, ℕ, zero, suc, ◌+◌, ◌-◌, ◌≤◌, ◌<◌, Bool, true, false, not, ◌&&◌, ◌||◌, ◌==◌, if◌then◌else◌, Option, Some, None, List, [], ◌∷◌, ◌++◌, length, length-append, take, refl, sym, ap, ◌∙◌, subst, arith, append_assoc, ◌⊎◌, inl, inr}
use Rattle.std.specs.Prelude.{map, is_some, slice_get, option_map, Contains}
use Rattle.std.specs.List.{list_any, cons_option}
use Rattle.std.specs.Option.{option_map_or, option_to_list}
use Rattle.std.proofs.lemmas.Bool.{or_parts, or_from, or_right, or_left, and_parts, and_from, not_from_false, not-true, eqb-true, eq-eqb}
use Rattle.std.proofs.lemmas.Option.{same_Some, slice_get_within, slice_get-map}
use Rattle.std.proofs.lemmas.List.{append-nil, map-append, take-append-le, take_all, length-take-le, length-map}
use Rattle.std.proofs.lemmas.List.Elements.{Contains-push_cases, Contains-push}
use Rattle.golog_base.proofs.Bools.{or-false}
use Rattle.golog_tree.specs.declared.agent.Agent.{Agent}
use Rattle.golog_semantics.specs.declared.journal.Entry.{Entry}
use Rattle.golog_semantics.specs.declared.journal.Entry.TheVariants.{Do, Test, Exo, Sense, Rest, Close, End}
use Rattle.golog_semantics.specs.declared.journal.Item.{Item}
use Rattle.golog_semantics.specs.declared.journal.Item.TheVariants as item
use Rattle.golog_semantics.specs.declared.journal.Reason.{Reason}
use Rattle.golog_semantics.specs.declared.journal.Reason.TheVariants as why
use Rattle.golog_semantics.specs.Inline.{posted_action}
use Rattle.golog_semantics.specs.Journal.{Journal, Command, commands, is_carried_by, is_sensing, is_posted_by, entries_by, is_close, is_open, is_end, has_end, is_full, is_at_rest, is_rest_after, is_quiet, may_post, last_of}
use Rattle.golog_semantics.specs.OneMore.{new_command}
use Rattle.golog_semantics.specs.Posts.{awaited_command, is_bad, later_reason, closing, entry_of, posted_entry}
use Rattle.golog_semantics.specs.Text.{Text, action_text}
use Rattle.golog_semantics.proofs.Grown.{commands_grow, entries_grow, commands-push}
use Rattle.golog_journal.specs.Boards.{IsBoardList}
use Rattle.golog_journal.specs.Taken.{IsDriven, IsReady}
use Rattle.golog_journal.specs.Posting.{MayPost}
use Rattle.golog_journal.specs.Leading.{is_of_program}
use Rattle.golog_journal.proofs.Sensing.{sensed-inside}
use Rattle.golog_journal.proofs.Serving.{well_formed_serves}
use Rattle.golog_journal.proofs.PostsLawful.{post-list}
use Rattle.golog_device.proofs.Places.{stands}
use Rattle.golog_device.proofs.Reading.{action-told}
use Rattle.golog_device.proofs.Taking.{take-next, ready-next, ready-posted}
use Rattle.golog_device.proofs.DealtTurn.{few-of, all-taken}
use Rattle.golog_device.proofs.Asked.{closed-shut}
use Rattle.golog_device.proofs.Commanded.{IsPlain, may-plain}
use Rattle.golog_team.specs.declared.note.Note.{Note}
use Rattle.golog_team.specs.declared.note.Note.TheVariants.{Send, Waiting, Ended}
use Rattle.golog_team.specs.declared.note.SideNote.{SideNote}
use Rattle.golog_team.specs.declared.did.Did.{Did}
use Rattle.golog_team.specs.Notes.{Notes, put_by, across, is_own, is_news, is_send, is_waiting, is_ended_of, action_sent, sent_by, sends, ends, waited, has_waited, both_wait}
use Rattle.golog_team.specs.Shapes.{has_shape, may_hear, AreMatched}
use Rattle.golog_team.specs.Steps.{Station, station, seen_at, Reads, item_of, journal_with, journal_after, untaken, IsClear, Waits, HasDone, IsToSay, Acts, Steps, took, sent, led, rested, idled, waited as waited_now, stopped, ended, over, overtaken}
use Rattle.golog_team.specs.Linked.{commanded, exo_of, posted, is_sense, texts, Begins, WaitsAt, BothWaitAt, HasEnded}
use Rattle.golog_team.specs.Keeping.{heard_in, has_stranger, CameToEnd, IsClosedFor, ClosedSo, IsOver, RestedSo, WaitedSo, StillSo, MayTeam, Keeps}
use Rattle.golog_team.proofs.Rooms.{nothing, no-action}
use Rattle.golog_team.proofs.NoteLists.{any-there, none-left, none-right, none-both, sends-append, ends-append, foreign-sends, foreign-ends, SendsAlone, foreign-alone, same-length, ended-is-none, at-the-end, where-it-stands, StandsLeft, StandsRight, waited-append, news-said, said, Said, said-with}
use Rattle.golog_team.proofs.JournalGrown.{none-closed, close-shuts, posted-more, posted-same, senseless-more, rested-more, commanded-more, commanded-same, waited-longer, open-still, rest-still, no-exo, no-sense, no-rest, ready-still, closed-still}
use Rattle.golog_team.proofs.Matched.{no-sensing, awake, all-heard}
use Rattle.golog_team.proofs.Further.{heard-append, begins-further, rested-further, over-further, stranger-further, closed-further, waited-with-more, waited-further, still-further, reads-keep}
use Rattle.golog_team.proofs.Acting.{K, shuts, plainly, all-sent, none-yet, lists, loud, next-of, none-of-open, by-item}

module _ (agent other : Agent) (side : ℕ) (waits : Journal → Bool) (may : MayTeam agent other side waits) (old : Station) (k : K agent other side waits old) where
  -- what it says of itself is nothing that it sends
  module _ (note : Note) (unsent : action_sent note ≡ None) where
    abbrev said' : Notes
    said' = old.told ++ put_by side note ∷ []

    no-sends : (s : ℕ) → sends s (put_by side note ∷ []) ≡ []
    no-sends s = ap (λ o. cons_option (if side == s then o else None) []) unsent ∙ ap (λ o. cons_option o []) (no-action (side == s))

    told-sends : (s : ℕ) → sends s said' ≡ sends s old.told
    told-sends s = sends-append s old.told (put_by side note ∷ []) ∙ ap (λ l. sends s old.told ++ l) (no-sends s) ∙ append-nil (sends s old.told)

    told-all : old.unread ≡ [] → sends side (said' ++ []) ≡ sends side (seen_at old)
    told-all read =
        ap (sends side) (append-nil said') ∙ told-sends side ∙ ap (sends side) (sym (append-nil old.told) ∙ ap (λ l. old.told ++ l) (sym read))

    told-heard : heard_in other side said' ≡ heard_in other side old.told
    told-heard = ap (texts other) (told-sends (across side))

  read-ends : old.unread ≡ [] → ends side (seen_at old) ≡ 0 → ends side old.told ≡ 0
  read-ends read none = ap (ends side) (sym (append-nil old.told) ∙ ap (λ l. old.told ++ l) (sym read)) ∙ none

  module _ (w : Waits agent other side waits old) where
    abbrev note : Note
    note = Waiting (length old.journal)

    awake-now : (is_open 0 old.journal ≡ true) × (is_at_rest agent old.journal 0 ≡ false)
    awake-now = loud agent other side waits may old.journal w.waiting

    read : old.unread ≡ []
    read = w.clear.all_read

    sent-all : (sends side old.told ≡ commanded agent old.journal) × (length (commands agent 0 old.journal) ≡ old.taken)
    sent-all = all-sent agent other side waits old.told old.unread old.journal old.taken k awake-now.0 read (none-of-open agent other side waits may old awake-now.0 w.clear.no_command)

    here : take (length old.journal) old.journal ≡ old.journal
    here = take_all (length old.journal) old.journal (omega arith)

    waits-here : WaitsAt agent side waits old.told old.journal (length old.journal)
    waits-here = record {
      within = omega arith;
      came = ap (λ j. length (posted j)) here ∙ sym (length-map (posted old.journal) (action_text agent))
          ∙ ap (λ (l : List Text). length l) (k.all_came awake-now.0) ∙ length-map (sends (across side) old.told) (action_text other);
      went = ap (λ j. length (commanded agent j)) here ∙ ap (λ (l : List ℕ). length l) (sym sent-all.0);
      still_open = ap (is_open 0) here ∙ awake-now.0;
      waiting = ap waits here ∙ w.waiting;
    }

    pub waited-keep : K agent other side waits (station (old.told ++ put_by side (Waiting (length old.journal)) ∷ []) [] old.journal old.taken)
    waited-keep = record {
      lawful = k.lawful;
      few = k.few;
      ready = k.ready;
      sent = told-all note refl read ∙ k.sent;
      came = subst (Begins (texts agent (posted old.journal))) (sym (told-heard note refl)) k.came;
      all_came = λ o. k.all_came o ∙ sym (told-heard note refl);
      closed = closed-further agent other side old.told (put_by side note ∷ []) old.journal old.taken k.closed;
      senseless = k.senseless;
      unread_sends = refl;
      waited_so = waited-with-more agent other side waits old.told (put_by side note ∷ []) old.journal new k.waited_so;
      rested_so = rested-further side old.told (put_by side note ∷ []) old.journal k.rested_so;
      still = λ n says goes o rest all. sym (same_Some (length old.journal) n (sym says_so ∙ says));
      over = inl (ap (ends side) (append-nil (old.told ++ put_by side note ∷ [])) ∙ ended-none);
    }
      where
        new : (mid later : Notes) (n : ℕ) → put_by side note ∷ [] ≡ mid ++ put_by side (Waiting n) ∷ later → WaitsAt agent side waits (old.told ++ mid) old.journal n
        new mid later n is =
            let e = at-the-end (put_by side note) (put_by side (Waiting n)) mid later is in
            let m = same-length side (length old.journal) n e.1 in
            subst (λ l. WaitsAt agent side waits (old.told ++ l) old.journal n) (sym e.0)
            (subst (λ l. WaitsAt agent side waits l old.journal n) (sym (append-nil old.told))
            (subst (WaitsAt agent side waits old.told old.journal) m waits-here))

        says_so : waited side (old.told ++ put_by side note ∷ []) ≡ Some (length old.journal)
        says_so = waited-append side old.told (put_by side note ∷ []) ∙ ap (λ b. if b then Some (length old.journal) else waited side old.told) (eq-eqb side side refl)

        ended-none : ends side (old.told ++ put_by side note ∷ []) ≡ 0
        ended-none =
            let a = ends-append side old.told (put_by side note ∷ []) in
            let b : ends side (put_by side note ∷ []) ≡ 0 = ap (λ b. 0 + (if b then 1 else 0)) (nothing (side == side)) in
            let c = read-ends read (none-yet agent other side waits old.told old.unread old.journal old.taken k awake-now.0) in
            omega (arith, a, b, c)

    -- both wait, this side with the length that its journal has
    pub both-here : both_wait old.told ≡ true → BothWaitAt side old.told (length old.journal)
    both-here both = said-with (waited side old.told) own (λ n says. record {
      front = old.told;
      later = [];
      cut = sym (append-nil old.told);
      both = both;
      with_length = says ∙ ap (λ x. Some x) (k.still n says w.goes_on awake-now.0 awake-now.1 (ap (λ (l : List ℕ). length l) sent-all.0));
    })
      where
        parts : (has_waited 0 old.told ≡ true) × (has_waited 1 old.told ≡ true)
        parts = and_parts (has_waited 0 old.told) (has_waited 1 old.told) both

        of-side : (s : ℕ) → s ≤ 1 → has_waited s old.told ≡ true
        of-side zero small = parts.0
        of-side (suc zero) small = parts.1
        of-side (suc (suc s)) small = absurd (omega arith)

        own : has_waited side old.told ≡ true
        own = of-side side may.one_of_two

    rest-plain : closing agent old.journal 0 old.taken item.Rest ≡ later_reason agent old.journal 0 old.taken item.Rest
    rest-plain = refl

    pub rested-keep : both_wait old.told ≡ true → K agent other side waits (station old.told [] (journal_with agent other side waits old item.Rest) old.taken)
    rested-keep both =
        by-item agent other side waits may old k awake-now.0 old.told [] item.Rest tt refl
        (ap (λ l. sends side (old.told ++ l)) (sym read)) k.came refl k.waited_so k.rested_so
        (ap (λ l. ends side (old.told ++ l)) (sym read) ∙ none-yet agent other side waits old.told old.unread old.journal old.taken k awake-now.0)
        (λ bad. absurd (let r = (k.ready awake-now.0).answered in let h : is_some (awaited_command agent old.journal 0 old.taken) ≡ false = ap is_some r in let j = sym bad ∙ h in cc))
        (λ none. record {
          lawful = subst (λ e. IsBoardList agent (old.journal ++ e ∷ [])) (entry none)
              (lists agent other side waits may old.journal old.taken k.lawful (k.ready awake-now.0) item.Rest (may-plain agent old.journal 0 old.taken item.Rest tt (k.ready awake-now.0).driven));
          few = subst (λ (l : List ℕ). old.taken ≤ length l) (sym commanded_is) k.few;
          ready = λ o. subst (λ e. IsReady agent (old.journal ++ e ∷ []) 0 old.taken) (entry none)
              (ready-posted agent old.journal 0 old.taken k.lawful (k.ready awake-now.0).driven item.Rest none);
          sent = ap (λ l. sends side (old.told ++ l)) (sym read) ∙ k.sent ∙ ap (take old.taken) (sym commanded_is);
          came = subst (λ l. Begins (texts agent l) (heard_in other side old.told)) (sym posted_is) k.came;
          all_came = λ o. ap (texts agent) posted_is ∙ k.all_came awake-now.0;
          closed = λ reason count there. closed_now reason count (Contains-push_cases old.journal (Rest 0 old.taken) (Close 0 reason count) there);
          senseless = senseless-more old.journal (Rest 0 old.taken) refl k.senseless;
          unread_sends = refl;
          waited_so = waited-longer agent old.journal (Rest 0 old.taken) other side waits old.told k.waited_so;
          rested_so = rested_now;
          still = λ n says goes o rest all. absurd (let h = sym at_rest ∙ rest in cc);
          over = inl (ap (λ l. ends side (old.told ++ l)) (sym read) ∙ none-yet agent other side waits old.told old.unread old.journal old.taken k awake-now.0);
        })
      where
        entry : closing agent old.journal 0 old.taken item.Rest ≡ None → posted_entry agent old.journal 0 old.taken item.Rest ≡ Rest 0 old.taken
        entry none = ap (λ o. option_map_or (λ r. Close 0 r old.taken) o (Rest 0 old.taken)) none

        commanded_is : commanded agent (old.journal ++ Rest 0 old.taken ∷ []) ≡ commanded agent old.journal
        commanded_is = commanded-same agent old.journal (Rest 0 old.taken) refl

        posted_is : posted (old.journal ++ Rest 0 old.taken ∷ []) ≡ posted old.journal
        posted_is = posted-same old.journal (Rest 0 old.taken) refl

        at_rest : is_at_rest agent (old.journal ++ Rest 0 old.taken ∷ []) 0 ≡ true
        at_rest =
            (commands_grow agent old.journal (Rest 0 old.taken) 0).rest
            ∙ eq-eqb old.taken (length (commands agent 0 (old.journal ++ Rest 0 old.taken ∷ [])))
            (sym (ap (λ (cs : List Command). length cs) (commands-push agent old.journal (Rest 0 old.taken) 0 ∙ append-nil (commands agent 0 old.journal)) ∙ sent-all.1))

        rested_now : RestedSo side old.told (old.journal ++ Rest 0 old.taken ∷ [])
        rested_now before later n is = go (where-it-stands old.journal (Rest 0 old.taken ∷ []) before later (Rest 0 n) is)
          where
            go : StandsLeft old.journal before (Rest 0 n) ⊎ StandsRight old.journal (Rest 0 old.taken ∷ []) before later (Rest 0 n) → BothWaitAt side old.told (length before)
            go (inl l) = k.rested_so before l.mid n l.is
            go (inr r) =
                let e = at-the-end (Rest 0 old.taken) (Rest 0 n) r.mid later r.is in
                subst (λ b. BothWaitAt side old.told (length b)) (sym (r.front ∙ ap (λ l. old.journal ++ l) e.0 ∙ append-nil old.journal)) (both-here both)

        closed_now : (reason : Reason) (count : ℕ) → Contains old.journal (Close 0 reason count) ⊎ (Rest 0 old.taken ≡ Close 0 reason count)
            → IsClosedFor agent other side old.told (old.journal ++ Rest 0 old.taken ∷ []) old.taken reason count
        closed_now reason count (inl there) = none-closed old.journal reason count awake-now.0 there
        closed_now reason count (inr h) = absurd (cc)

  -- its device is stopped
  pub stopped-keep : IsClear agent other side waits old → has_end old.journal ≡ true → is_open 0 old.journal ≡ true
      → K agent other side waits (station old.told [] (journal_with agent other side waits old item.Stop) old.taken)
  stopped-keep clear ends_now still =
      shuts agent other side waits old.told old.unread old.journal old.taken k still old.told [] why.Stopped
      (lists agent other side waits may old.journal old.taken k.lawful (k.ready still) item.Stop
      (record { driven = (k.ready still).driven; in_time = (ends_now, sym all.1) }))
      (ap (λ l. sends side (old.told ++ l)) (sym clear.all_read)) k.came refl k.waited_so k.rested_so
      (ap (λ l. ends side (old.told ++ l)) (sym clear.all_read) ∙ none-yet agent other side waits old.told old.unread old.journal old.taken k still)
      (plainly agent other side waits old.told old.unread old.journal old.taken k still old.told why.Stopped (λ h. absurd (cc)) (λ h. absurd (cc)) (λ h. absurd (cc)))
    where
      all : (sends side old.told ≡ commanded agent old.journal) × (length (commands agent 0 old.journal) ≡ old.taken)
      all = all-sent agent other side waits old.told old.unread old.journal old.taken k still clear.all_read (none-of-open agent other side waits may old still clear.no_command)

  -- it says that it has ended
  pub ended-keep : HasDone agent other side waits old → ends side old.told ≡ 0
      → K agent other side waits (station (old.told ++ put_by side Ended ∷ []) [] old.journal old.taken)
  ended-keep d none = record {
    lawful = k.lawful;
    few = k.few;
    ready = k.ready;
    sent = told-all Ended refl d.clear.all_read ∙ k.sent;
    came = subst (Begins (texts agent (posted old.journal))) (sym (told-heard Ended refl)) k.came;
    all_came = λ o. absurd (let h = sym o ∙ d.shut in cc);
    closed = closed-further agent other side old.told (put_by side Ended ∷ []) old.journal old.taken k.closed;
    senseless = k.senseless;
    unread_sends = refl;
    waited_so = waited-with-more agent other side waits old.told (put_by side Ended ∷ []) old.journal
        (λ mid later n is. ended-is-none side n (at-the-end (put_by side Ended) (put_by side (Waiting n)) mid later is).1) k.waited_so;
    rested_so = rested-further side old.told (put_by side Ended ∷ []) old.journal k.rested_so;
    still = λ n says goes o rest all. absurd (let h = sym d.finished ∙ goes in cc);
    over = inr (record {
      finished = d.finished;
      shut = d.shut;
      ended = record {
        before = old.told;
        later = [];
        stands = append-nil (old.told ++ put_by side Ended ∷ []);
        first = none;
        last = refl;
        behind = λ taken there. by ((k.closed why.Ended taken there).at_end refl);
      };
    });
  }
    where
      by : CameToEnd agent other side old.told old.journal → list_any (is_ended_of (across side)) old.told ≡ true
      by c = ap (list_any (is_ended_of (across side))) c.stands
          ∙ any-there (is_ended_of (across side)) c.before c.later (put_by (across side) Ended) (and_from (across side == across side) true (eq-eqb (across side) (across side) refl) refl)

  -- others came first
  pub overtaken-keep : old.unread ≡ [] → (more : Notes) → list_any (is_own side) more ≡ false
      → K agent other side waits (station old.told more old.journal old.taken)
  overtaken-keep read more foreign =
      reads-keep agent other side waits old (station old.told more old.journal old.taken) k (record {
        others = more;
        foreign = foreign;
        passed = [];
        rest = more;
        come = ap (λ l. l ++ more) read;
        no_news = refl;
        now = ap (λ l. station l more old.journal old.taken) (sym (append-nil old.told));
      })
