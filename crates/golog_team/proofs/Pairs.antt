-- The two sides of a team, and what they have where both have seen the same.
use Rattle.std.proofs.Common.{◌≡◌, ◌≢◌, ℕ, zero, suc, ◌+◌, ◌≤◌, ◌==◌, Bool, true, false, not, ◌&&◌, if◌then◌else◌, List, [], ◌∷◌, ◌++◌, length, length-append, take, drop, append_assoc, refl, sym, ap, ◌∙◌, subst, arith, ◌⊎◌, inl, inr}
use Rattle.std.specs.List.{list_any}
use Rattle.std.proofs.lemmas.Bool.{or_parts}
use Rattle.std.proofs.lemmas.List.{append-nil, take-append-drop, take-append-le, drop-append-le}
use Rattle.golog_tree.specs.declared.agent.Agent.{Agent}
use Rattle.golog_semantics.specs.Journal.{Journal}
use Rattle.golog_journal.specs.Boards.{AgentJournal}
use Rattle.golog_journal.specs.Leading.{Mind, SameMind}
use Rattle.golog_team.specs.declared.note.Note.{Note}
use Rattle.golog_team.specs.declared.note.Note.TheVariants.{Send, Waiting, Ended}
use Rattle.golog_team.specs.declared.side.Side.{Side}
use Rattle.golog_team.specs.Notes.{Notes, put_by, across, is_own, is_send, is_ended, is_ended_of, ends}
use Rattle.golog_team.specs.Links.{room}
use Rattle.golog_team.specs.Steps.{Station, station, seen_at, Reads}
use Rattle.golog_team.specs.Linked.{IsLinked}
use Rattle.golog_team.specs.Keeping.{Keeps, IsOver}
use Rattle.golog_team.specs.Wires.{View, HasMet}
use Rattle.golog_team.specs.Sides.{at_read, IsToldOf}
use Rattle.golog_team.specs.Rounds.{Hears}
use Rattle.golog_team.specs.Standing.{station_of, IsHeld, IsSide, SameSide, IsSameBut, HasGone, ArePair}
use Rattle.golog_team.proofs.Rooms.{nothing}
use Rattle.golog_team.proofs.NoteLists.{none-both, ends-append, SendsAlone}
use Rattle.golog_team.proofs.ReadOn.{same-station, reads-first, reads-more}
use Rattle.golog_team.proofs.Held.{GoesFrom, side-reads, mind-same, mind-then, no-ends, some-ends}
use Rattle.golog_team.proofs.Meeting.{linked}

-- ---- whether a side is over

-- a side whose notes are sends has not ended by them
sends-no-end : (side : ℕ) (ys : Notes) → SendsAlone side ys → ends side ys ≡ 0
sends-no-end side [] alone = refl
sends-no-end side (n ∷ ys) alone =
    let parts = or_parts (is_own side n && not (is_send n.note)) (list_any (λ x. is_own side x && not (is_send x.note)) ys) alone in
    let one : ends side (n ∷ []) ≡ 0 = ap (λ b. 0 + (if b then 1 else 0)) (by n.note (is_own side n) parts.0) in
    let more = sends-no-end side ys parts.1 in
    let all = ends-append side (n ∷ []) ys in
    omega (arith, one, more, all)
  where
    by : (note : Note) (own : Bool) → (own && not (is_send note)) ≡ false → (own && is_ended note) ≡ false
    by (Send a) own h = nothing own
    by (Waiting k) own h = nothing own
    by Ended own h = h

module _ {L W : Type 0} (mind : L → Mind) (view : W → View) (s : Side L W) where
  -- all that it has seen
  pub all-seen : seen_at (station_of mind view s) ≡ (view s.wire).seen
  all-seen = take-append-drop s.told.read (view s.wire).seen

  module _ (is : IsSide mind view s) where
    both-ends : ends s.side (view s.wire).seen ≡ ends s.side (take s.told.read (view s.wire).seen) + ends s.side (drop s.told.read (view s.wire).seen)
    both-ends = ap (ends s.side) (sym all-seen) ∙ ends-append s.side (take s.told.read (view s.wire).seen) (drop s.told.read (view s.wire).seen)

    pub goes-on : s.told.over ≡ false → ends s.side (view s.wire).seen ≡ 0
    goes-on told =
        let a = both-ends in
        let b = no-ends (ends s.side (take s.told.read (view s.wire).seen)) (sym is.held.told_is.over ∙ told) in
        let d = sends-no-end s.side (drop s.told.read (view s.wire).seen) is.keeps.unread_sends in
        omega (arith, a, b, d)

    pub has-ended : s.told.over ≡ true → ends s.side (view s.wire).seen ≢ 0
    has-ended told none =
        some-ends (ends s.side (take s.told.read (view s.wire).seen)) (sym is.held.told_is.over ∙ told) (let a = both-ends in omega (arith, a, none))

    pub is-over : s.told.over ≡ true → IsOver s.side (view s.wire).seen s.journal.entries
    is-over told = by is.keeps.over
      where
        by : (ends s.side (seen_at (station_of mind view s)) ≡ 0) ⊎ IsOver s.side (seen_at (station_of mind view s)) s.journal.entries
            → IsOver s.side (view s.wire).seen s.journal.entries
        by (inl none) = absurd (has-ended told (ap (ends s.side) (sym all-seen) ∙ none))
        by (inr over) = subst (λ l. IsOver s.side l s.journal.entries) all-seen over

-- it stays so where notes of the other side come
pub over-met : (old new : View) (side : ℕ) (journal : Journal) → old.side ≡ side → HasMet old new → IsOver side old.seen journal → IsOver side new.seen journal
over-met old new side journal same met o =
    let h = o.ended in
    record {
      finished = o.finished;
      shut = o.shut;
      ended = record {
        before = h.before;
        later = h.later ++ met.others;
        stands = met.grows ∙ ap (λ l. l ++ met.others) h.stands ∙ append_assoc h.before (put_by side Ended ∷ h.later) met.others;
        first = h.first;
        last = none-both (is_own side) h.later met.others h.last (subst (λ n. list_any (is_own n) met.others ≡ false) same met.foreign);
        behind = h.behind;
      };
    }

-- ---- a side to which notes have come

module _ (old new : View) (r : ℕ) (journal : Journal) (taken : ℕ) (within : r ≤ length old.seen) (met : HasMet old new) where
  pub met-reads : (side : ℕ) → old.side ≡ side → Reads side (at_read old r journal taken) (at_read new r journal taken)
  met-reads side same =
      reads-more side journal taken (at_read old r journal taken) old r (reads-first side journal taken old r) new met.others within
      (subst (λ n. list_any (is_own n) met.others ≡ false) same met.foreign) met.grows

  pub met-hears : Hears (at_read old r journal taken) (at_read new r journal taken) new.seen
  met-hears = record {
    more = met.others;
    now = same-station (ap (take r) met.grows ∙ take-append-le r old.seen met.others within) (ap (drop r) met.grows ∙ drop-append-le r old.seen met.others within) refl refl;
    all = take-append-drop r new.seen;
  }

module _ {L W : Type 0} (mind : L → Mind) (view : W → View) (s : Side L W) (w : W) (met : HasMet (view s.wire) (view w)) (short : length (view w).seen ≤ room) where
  met-goes : IsSide mind view s → GoesFrom mind view s (record s { wire = w })
  met-goes is =
      let h = is.held in
      let e = ap (λ (l : Notes). length l) met.grows in
      let l = length-append (view s.wire).seen met.others in
      let few = h.within.0 in
      record {
        same = record { same_side = refl; same_agent = refl; same_other = refl; same_mind = mind-same (mind s.lead) };
        facts_same = refl;
        journal_agent = refl;
        of_side = met.same_side ∙ h.of_side;
        within = (omega (arith, e, l, few), short);
        told_is = subst (λ n. IsToldOf s.side n s.told) (sym (ap (take s.told.read) met.grows ∙ take-append-le s.told.read (view s.wire).seen met.others few)) h.told_is;
        behind = h.behind;
        ended_is = h.ended_is;
      }

  pub met-side : IsSide mind view s → IsSide mind view (record s { wire = w })
  met-side is =
      side-reads mind view s (record s { wire = w }) is (met-goes is)
      (met-reads (view s.wire) (view w) s.told.read s.journal.entries s.taken is.held.within.0 met s.side is.held.of_side)

pub room-met : (one other all : Notes) → length one ≤ room → length other ≤ room → (all ≡ one) ⊎ (all ≡ other) → length all ≤ room
room-met one other all few many (inl is) = subst (λ (l : Notes). length l ≤ room) (sym is) few
room-met one other all few many (inr is) = subst (λ (l : Notes). length l ≤ room) (sym is) many

-- ---- the same side

module _ {L W : Type 0} (mind : L → Mind) (view : W → View) where
  pub same-side : (s : Side L W) → SameSide mind view s s
  same-side s = record { same_side = refl; same_agent = refl; same_other = refl; same_mind = mind-same (mind s.lead) }

  pub same-then : (first now later : Side L W) → SameSide mind view first now → SameSide mind view now later → SameSide mind view first later
  same-then first now later same more = record {
    same_side = more.same_side ∙ same.same_side;
    same_agent = more.same_agent ∙ same.same_agent;
    same_other = more.same_other ∙ same.same_other;
    same_mind = mind-then (mind first.lead) (mind now.lead) (mind later.lead) same.same_mind more.same_mind;
  }

  pub same-but : (old new : Side L W) → IsSameBut mind view old new → SameSide mind view old new
  same-but old new is =
      subst (SameSide mind view old) (sym is)
      (record { same_side = refl; same_agent = refl; same_other = refl; same_mind = mind-same (mind old.lead) })

  -- a side that has gone on, and to which notes have come
  pub gone-met : (stands : L → Type 0) (first old new : Side L W) → HasGone mind view stands first old → IsSameBut mind view old new
      → HasMet (view old.wire) (view new.wire) → IsSide mind view new → HasGone mind view stands first new
  gone-met stands first old new gone is met new_is = record {
    is_side = new_is;
    same = same-then first old new gone.same (same-but old new is);
    stood = λ h. subst (λ (x : Side L W). stands x.lead) (sym is) (gone.stood h);
    over = subst (λ (x : Side L W). IsOver x.side (view new.wire).seen x.journal.entries) (sym is)
        (over-met (view old.wire) (view new.wire) old.side old.journal.entries gone.is_side.held.of_side met gone.over);
  }

  -- and one whose program has copied its journal
  pub gone-gathered : (stands : L → Type 0) (first old new : Side L W) → HasGone mind view stands first old → IsSide mind view new → SameSide mind view old new
      → (stands old.lead → stands new.lead) → new.journal ≡ old.journal → new.wire ≡ old.wire → HasGone mind view stands first new
  gone-gathered stands first old new gone new_is same stood journal_is wire_is = record {
    is_side = new_is;
    same = same-then first old new gone.same same;
    stood = λ h. stood (gone.stood h);
    over = subst (λ n. IsOver n (view new.wire).seen new.journal.entries) (sym same.same_side)
        (subst (λ w. IsOver old.side (view w).seen new.journal.entries) (sym wire_is)
        (subst (λ (j : AgentJournal). IsOver old.side (view old.wire).seen j.entries) (sym journal_is) gone.over));
  }

  -- what is said of its journal by a side of the same agents
  pub linked-from : (first old new : Side L W) → SameSide mind view first old → new.journal ≡ old.journal → new.wire ≡ old.wire
      → IsLinked old.agent.now old.other.now old.side (mind old.lead).waits (view old.wire).seen old.journal.entries
      → IsLinked first.agent.now first.other.now first.side (mind first.lead).waits (view new.wire).seen new.journal.entries
  linked-from first old new same journal_is wire_is l =
      subst (λ (j : AgentJournal). IsLinked first.agent.now first.other.now first.side (mind first.lead).waits (view new.wire).seen j.entries) (sym journal_is)
      (subst (λ w. IsLinked first.agent.now first.other.now first.side (mind first.lead).waits (view w).seen old.journal.entries) (sym wire_is)
      (subst (λ a. IsLinked a first.other.now first.side (mind first.lead).waits (view old.wire).seen old.journal.entries) same.same_agent
      (subst (λ o. IsLinked old.agent.now o first.side (mind first.lead).waits (view old.wire).seen old.journal.entries) same.same_other
      (subst (λ n. IsLinked old.agent.now old.other.now n (mind first.lead).waits (view old.wire).seen old.journal.entries) same.same_side
      (subst (λ w. IsLinked old.agent.now old.other.now old.side w (view old.wire).seen old.journal.entries) same.same_mind.same_waits l)))))

-- ---- both

pub across-twice : (n : ℕ) → n ≤ 1 → across (across n) ≡ n
across-twice zero small = refl
across-twice (suc zero) small = refl
across-twice (suc (suc n)) small = absurd (omega (arith, small))

pub no-fixed : (n : ℕ) → n ≤ 1 → n ≢ across n
no-fixed zero small e = absurd (omega (arith, e))
no-fixed (suc zero) small e = absurd (omega (arith, e))
no-fixed (suc (suc n)) small e = absurd (omega (arith, small))

module _ {L M W : Type 0} (mind : L → Mind) (their_mind : M → Mind) (view : W → View) where
  module _ (one : Side L W) (other : Side M W) (p : ArePair mind their_mind view one other) where
    pub pair-across : ArePair their_mind mind view other one
    pair-across = record {
      one_is = p.other_is;
      other_is = p.one_is;
      opposite = sym (ap across p.opposite ∙ across-twice one.side p.one_is.held.may.one_of_two);
      their_agent = sym p.their_other;
      their_other = sym p.their_agent;
    }

    pub apart : (view one.wire).side ≢ (view other.wire).side
    apart e = no-fixed one.side p.one_is.held.may.one_of_two (sym p.one_is.held.of_side ∙ e ∙ p.other_is.held.of_side ∙ p.opposite)

    pub pair-on : (new : Side L W) (their_new : Side M W) → IsSide mind view new → IsSide their_mind view their_new → SameSide mind view one new
        → SameSide their_mind view other their_new → ArePair mind their_mind view new their_new
    pair-on new their_new is their_is same their_same = record {
      one_is = is;
      other_is = their_is;
      opposite = their_same.same_side ∙ p.opposite ∙ ap across (sym same.same_side);
      their_agent = their_same.same_agent ∙ p.their_agent ∙ sym same.same_other;
      their_other = their_same.same_other ∙ p.their_other ∙ sym same.same_agent;
    }

    -- both where they have met
    pub pair-met : (new : Side L W) (their_new : Side M W) → IsSameBut mind view one new → IsSameBut their_mind view other their_new
        → HasMet (view one.wire) (view new.wire) → HasMet (view other.wire) (view their_new.wire) → (view their_new.wire).seen ≡ (view new.wire).seen
        → ((view new.wire).seen ≡ (view one.wire).seen) ⊎ ((view new.wire).seen ≡ (view other.wire).seen) → ArePair mind their_mind view new their_new
    pair-met new their_new is their_is met their_met same all =
        let short = room-met (view one.wire).seen (view other.wire).seen (view new.wire).seen p.one_is.held.within.1 p.other_is.held.within.1 all in
        pair-on new their_new (subst (IsSide mind view) (sym is) (met-side mind view one new.wire met short p.one_is))
        (subst (IsSide their_mind view) (sym their_is)
        (met-side their_mind view other their_new.wire their_met (subst (λ (l : Notes). length l ≤ room) (sym same) short) p.other_is))
        (same-but mind view one new is) (same-but their_mind view other their_new their_is)

    -- and the journals fit, where both are over
    pub linked-one : IsOver one.side (view one.wire).seen one.journal.entries → IsOver other.side (view other.wire).seen other.journal.entries
        → (view other.wire).seen ≡ (view one.wire).seen
        → IsLinked one.agent.now one.other.now one.side (mind one.lead).waits (view one.wire).seen one.journal.entries
    linked-one over their_over same =
        subst (λ l. IsLinked one.agent.now one.other.now one.side (mind one.lead).waits l one.journal.entries) (all-seen mind view one)
        (linked one.agent.now one.other.now one.side (mind one.lead).waits (their_mind other.lead).waits (station_of mind view one) (station_of their_mind view other)
        p.one_is.keeps theirs (subst (λ l. IsOver one.side l one.journal.entries) (sym (all-seen mind view one)) over)
        (subst (λ l. IsOver (across one.side) l other.journal.entries) (sym (all-seen their_mind view other))
        (subst (λ n. IsOver n (view other.wire).seen other.journal.entries) p.opposite their_over))
        (all-seen their_mind view other ∙ same ∙ sym (all-seen mind view one)))
      where
        Theirs : Agent → Agent → ℕ → Type 0
        Theirs a o n = Keeps a o n (their_mind other.lead).waits (station_of their_mind view other)

        theirs : Theirs one.other.now one.agent.now (across one.side)
        theirs =
            subst (λ a. Theirs a one.agent.now (across one.side)) p.their_agent
            (subst (λ o. Theirs other.agent.now o (across one.side)) p.their_other
            (subst (λ n. Theirs other.agent.now other.other.now n) p.opposite p.other_is.keeps))
