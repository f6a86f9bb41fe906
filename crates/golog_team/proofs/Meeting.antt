-- What two sides that are over keep of each other, where both have seen the same notes.
use Rattle.std.proofs.Common.{◌≡◌, ◌≢◌, ℕ, zero, suc, ◌+◌, ◌≤◌, ◌<◌, Bool, true, false, not, ◌&&◌, ◌||◌, ◌==◌, if◌then◌else◌, Option, Some, None, List, [], ◌∷◌, ◌++◌, length, take, drop, refl, sym, ap, ◌∙◌, subst, arith, append_assoc, ◌⊎◌, inl, inr}
use Rattle.std.specs.Prelude.{map, Contains, get_or}
use Rattle.std.specs.List.{list_any, cons_option}
use Rattle.std.proofs.lemmas.Bool.{or_parts, or_from, or_cases, and_from, and_parts, eqb-true, eq-eqb, not_from_true, not-false}
use Rattle.std.proofs.lemmas.List.{append-nil, append_cancel_left, take-append-drop}
use Rattle.std.proofs.lemmas.List.Elements.{Contains-append_right}
use Rattle.golog_tree.specs.declared.agent.Agent.{Agent}
use Rattle.golog_semantics.specs.declared.journal.Entry.{Entry}
use Rattle.golog_semantics.specs.declared.journal.Entry.TheVariants.{Do, Test, Exo, Sense, Rest, Close, End}
use Rattle.golog_semantics.specs.declared.journal.Reason.{Reason}
use Rattle.golog_semantics.specs.declared.journal.Reason.TheVariants as why
use Rattle.golog_semantics.specs.Journal.{Journal, Command, commands, command_at, is_carried_by, is_posted_by, entries_by, is_close, is_open}
use Rattle.golog_semantics.specs.Text.{action_text}
use Rattle.golog_journal.proofs.Staying.{from}
use Rattle.golog_team.specs.declared.note.Note.TheVariants.{Send, Waiting, Ended}
use Rattle.golog_team.specs.declared.note.SideNote.{SideNote}
use Rattle.golog_team.specs.Notes.{Notes, put_by, across, is_own, is_ended_of, action_sent, sends, ends}
use Rattle.golog_team.specs.Steps.{Station, station, seen_at}
use Rattle.golog_team.specs.Linked.{commanded, posted, texts, Begins, WaitsAt, HasEnded, IsLinked}
use Rattle.golog_team.specs.Keeping.{heard_in, has_stranger, CameToEnd, IsClosedFor, IsOver, Keeps}
use Rattle.golog_team.proofs.Rooms.{no-action}
use Rattle.golog_team.proofs.NoteLists.{StandsLeft, StandsRight, where-it-stands, any-there, none-left, sends-append, ends-append, foreign-sends, no-own-waiting}
use Rattle.golog_team.proofs.Further.{heard-append, begins-further, rested-further}

-- a device that is closed has its Close
record ItsClose (journal : Journal) : Type 0 where
  pub reason : Reason
  pub taken : ℕ
  pub there : Contains journal (Close 0 reason taken)

its-close : (journal : Journal) → list_any is_close (entries_by 0 journal) ≡ true → ItsClose journal
its-close [] h = absurd (cc)
its-close (e ∷ es) h = go (is_posted_by 0 e) refl h (λ c. later (its-close es c))
  where
    later : ItsClose es → ItsClose (e ∷ es)
    later c = record { reason = c.reason; taken = c.taken; there = Contains-append_right (e ∷ []) es (Close 0 c.reason c.taken) c.there }

    first : (x : Entry) → x ≡ e → is_posted_by 0 x ≡ true → is_close x ≡ true → ItsClose (e ∷ es)
    first (Close p r t) same own close =
        let z = eqb-true p 0 own in
        record { reason = r; taken = t; there = (0, omega arith, sym same ∙ ap (λ q. Close q r t) z) }
    first (Do a) same own close = absurd (cc)
    first Test same own close = absurd (cc)
    first (Exo p a) same own close = absurd (cc)
    first (Sense p at f v) same own close = absurd (cc)
    first (Rest p t) same own close = absurd (cc)
    first (End a) same own close = absurd (cc)

    either : is_posted_by 0 e ≡ true → (is_close e ≡ true) ⊎ (list_any is_close (entries_by 0 es) ≡ true)
        → (list_any is_close (entries_by 0 es) ≡ true → ItsClose (e ∷ es)) → ItsClose (e ∷ es)
    either own (inl c) there = first e refl own c
    either own (inr c) there = there c

    go : (b : Bool) → is_posted_by 0 e ≡ b → list_any is_close (if b then e ∷ entries_by 0 es else entries_by 0 es) ≡ true
        → (list_any is_close (entries_by 0 es) ≡ true → ItsClose (e ∷ es)) → ItsClose (e ∷ es)
    go true own h there = either own (or_cases (is_close e) (list_any is_close (entries_by 0 es)) h) there
    go false other h there = there h

-- all commands are of the device
none-strange : (agent : Agent) (n : ℕ) (journal : Journal) → list_any (λ a. not (is_carried_by agent 0 a)) (map (λ (c : Command). c.action) (from agent 0 n journal)) ≡ false
none-strange agent n [] = refl
none-strange agent n (e ∷ es) = by e (none-strange agent (n + 1) es)
  where
    strange : ℕ → Bool
    strange a = not (is_carried_by agent 0 a)

    rest : List Command
    rest = from agent 0 (n + 1) es

    by-do : (a : ℕ) (b : Bool) → is_carried_by agent 0 a ≡ b → list_any strange (map (λ (c : Command). c.action) rest) ≡ false
        → list_any strange (map (λ (c : Command). c.action) (cons_option (if b then Some (record { place = n; action = a }) else None) rest)) ≡ false
    by-do a true is h = or_from (strange a) (list_any strange (map (λ (c : Command). c.action) rest)) (not_from_true (is_carried_by agent 0 a) is) h
    by-do a false is h = h

    by : (x : Entry) → list_any strange (map (λ (c : Command). c.action) rest) ≡ false
        → list_any strange (map (λ (c : Command). c.action) (cons_option (command_at agent 0 (n, x)) rest)) ≡ false
    by (Do a) h = by-do a (is_carried_by agent 0 a) refl h
    by Test h = h
    by (Exo p a) h = h
    by (Sense p at f v) h = h
    by (Rest p t) h = h
    by (Close p r t) h = h
    by (End a) h = h

-- no note of a side stands behind its Ended
behind-ended : (side : ℕ) (notes before rest : Notes) (journal : Journal) → HasEnded side notes journal → notes ≡ before ++ put_by side Ended ∷ rest
    → list_any (is_own side) rest ≡ false
behind-ended side notes before rest journal h is = go (where-it-stands before (put_by side Ended ∷ rest) h.before h.later (put_by side Ended) (sym is ∙ h.stands))
  where
    own-ended : (side == side) ≡ true
    own-ended = eq-eqb side side refl

    ends-there : (xs ys : Notes) → ends side (xs ++ put_by side Ended ∷ ys) ≡ 0 → ⊥
    ends-there xs ys none = absurd (
        let a = ends-append side xs (put_by side Ended ∷ ys) in
        let b = ends-append side (put_by side Ended ∷ []) ys in
        let c : ends side (put_by side Ended ∷ []) ≡ 1 = ap (λ b. 0 + (if b && true then 1 else 0)) own-ended in
        omega (arith, a, b, c, none))

    go : StandsLeft before h.before (put_by side Ended) ⊎ StandsRight before (put_by side Ended ∷ rest) h.before h.later (put_by side Ended)
        → list_any (is_own side) rest ≡ false
    go (inl l) = absurd (
        let e : h.before ++ put_by side Ended ∷ h.later ≡ h.before ++ (put_by side Ended ∷ (l.mid ++ put_by side Ended ∷ rest)) =
        sym h.stands ∙ is ∙ ap (λ x. x ++ put_by side Ended ∷ rest) l.is ∙ append_assoc h.before (put_by side Ended ∷ l.mid) (put_by side Ended ∷ rest) in
        let t = append_cancel_left h.before _ _ e in
        let u : h.later ≡ l.mid ++ put_by side Ended ∷ rest = cc in
        let v = any-there (is_own side) l.mid rest (put_by side Ended) own-ended in
        let w = sym (ap (list_any (is_own side)) u) ∙ h.last in
        let x = sym v ∙ w in cc)
    go (inr r) = at r.mid r.is r.front
      where
        at : (mid : Notes) → put_by side Ended ∷ rest ≡ mid ++ put_by side Ended ∷ h.later → h.before ≡ before ++ mid → list_any (is_own side) rest ≡ false
        at [] e front = let u : rest ≡ h.later = cc in ap (list_any (is_own side)) u ∙ h.last
        at (m ∷ mid) e front = absurd (
            let u : put_by side Ended ≡ m = cc in
            ends-there before mid (ap (λ x. ends side (before ++ x ∷ mid)) u ∙ ap (ends side) (sym front) ∙ h.first))

module _ (agent other : Agent) (side : ℕ) (waits their_waits : Journal → Bool) (s t : Station) (k : Keeps agent other side waits s) (their : Keeps other agent (across side) their_waits t)
    (o : IsOver side (seen_at s) s.journal) (theirs : IsOver (across side) (seen_at t) t.journal) (same : seen_at t ≡ seen_at s) where
  -- what the other has sent are commands of its own device
  no-stranger : has_stranger agent other side s.told ≡ true → ⊥
  no-stranger h = absurd (
      let all = none-strange other 0 t.journal in
      let some = none-left strange (take t.taken (commanded other t.journal)) (drop t.taken (commanded other t.journal))
      (ap (list_any strange) (take-append-drop t.taken (commanded other t.journal)) ∙ all) in
      let sent = ap (list_any strange) (sym (ap (sends (across side)) same) ∙ their.sent) ∙ some in
      let front = none-left strange (sends (across side) s.told) (sends (across side) s.unread) (ap (list_any strange) (sym (sends-append (across side) s.told s.unread)) ∙ sent) in
      let j = sym h ∙ front in cc)
    where
      strange : ℕ → Bool
      strange a = not (is_carried_by other 0 a)

  whole-at-end : CameToEnd agent other side s.told s.journal → texts agent (posted s.journal) ≡ heard_in other side (seen_at s)
  whole-at-end c = c.whole ∙ sym (ap (texts other) sends_all)
    where
      rest : Notes
      rest = c.later ++ s.unread

      split : seen_at s ≡ c.before ++ put_by (across side) Ended ∷ rest
      split = ap (λ l. l ++ s.unread) c.stands ∙ append_assoc c.before (put_by (across side) Ended ∷ c.later) s.unread

      none : list_any (is_own (across side)) rest ≡ false
      none = behind-ended (across side) (seen_at t) c.before rest t.journal theirs.ended (same ∙ split)

      sends_all : sends (across side) (seen_at s) ≡ sends (across side) c.before
      sends_all =
          ap (sends (across side)) split ∙ sends-append (across side) c.before (put_by (across side) Ended ∷ rest)
          ∙ ap (λ l. sends (across side) c.before ++ l)
          (ap (λ o. cons_option o (sends (across side) rest)) (no-action (across side == across side)) ∙ foreign-sends (across side) rest none)
          ∙ append-nil (sends (across side) c.before)

  pub linked : IsLinked agent other side waits (seen_at s) s.journal
  linked = go (its-close s.journal (not-false (list_any is_close (entries_by 0 s.journal)) o.shut))
    where
      go : ItsClose s.journal → IsLinked agent other side waits (seen_at s) s.journal
      go c =
          let why = k.closed c.reason c.taken c.there in
          record {
            reason = c.reason;
            taken = c.taken;
            closed = c.there;
            sent = k.sent ∙ ap (λ n. take n (commanded agent s.journal)) (sym why.same_taken);
            came = subst (Begins (texts agent (posted s.journal))) (sym (heard-append other side s.told s.unread))
                (begins-further (texts agent (posted s.journal)) (heard_in other side s.told) (heard_in other side s.unread) k.came);
            all_came = λ h. whole-at-end (why.at_end h);
            senseless = k.senseless;
            fair = (λ h. no-stranger (why.bad h), why.unrefused);
            ended = o.ended;
            waited_so = λ before later n is. waited_at before later n (where-it-stands s.told s.unread before later (put_by side (Waiting n)) is);
            rested_so = rested-further side s.told s.unread s.journal k.rested_so;
          }
        where
          waited_at : (before later : Notes) (n : ℕ) → StandsLeft s.told before (put_by side (Waiting n)) ⊎ StandsRight s.told s.unread before later (put_by side (Waiting n))
              → WaitsAt agent side waits before s.journal n
          waited_at before later n (inl l) = k.waited_so before l.mid n l.is
          waited_at before later n (inr r) = no-own-waiting side n s.unread r.mid later k.unread_sends r.is
