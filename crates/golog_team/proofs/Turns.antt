-- Sides that have their steps in turn.
use Rattle.std.proofs.Common.{◌≡◌, ◌≢◌, ℕ, ◌+◌, ◌≤◌, Bool, true, false, List, [], ◌∷◌, ◌++◌, length, length-append, take, drop, append_assoc, append-nil, refl, sym, ap, ◌∙◌, subst, arith, ◌⊎◌, inl, inr}
use Rattle.std.specs.List.{list_any}
use Rattle.golog_tree.specs.declared.agent.Agent.{Agent}
use Rattle.golog_semantics.specs.Journal.{Journal}
use Rattle.golog_journal.specs.Leading.{Mind, SameMind}
use Rattle.golog_team.specs.declared.did.Did.{Did}
use Rattle.golog_team.specs.declared.side.Side.{Side}
use Rattle.golog_team.specs.Notes.{Notes, across, is_own, ends}
use Rattle.golog_team.specs.Steps.{Station, station, seen_at, Reads, Acts, Steps, IsToSay, took, sent, led, rested, idled, waited, stopped, ended, over, overtaken}
use Rattle.golog_team.specs.Wires.{View, HasMet}
use Rattle.golog_team.specs.Rounds.{Hears, StepsAlone, HasTurn, stepped, rested as rested_turn, Round, Rounds, begun, further}
use Rattle.golog_team.specs.Standing.{station_of, IsSide, SameSide, IsSameBut, ArePair}
use Rattle.golog_team.proofs.Pairs.{all-seen, met-hears}

-- ---- what is seen goes on

abbrev pub GoesOn : Station → Station → Type 0
GoesOn old new = (more : Notes) × (seen_at new ≡ seen_at old ++ more)

-- with what it has of the link as it was
stays : (old new : Station) → seen_at new ≡ seen_at old → GoesOn old new
stays old new same = ([], same ∙ sym (append-nil (seen_at old)))

read-goes : (side : ℕ) (old new : Station) → Reads side old new → GoesOn old new
read-goes side old new r = (
  r.others,
  ap seen_at r.now ∙ append_assoc old.told r.passed r.rest ∙ ap (λ l. old.told ++ l) (sym r.come) ∙ sym (append_assoc old.told old.unread r.others),
)

-- from where all was read
module _ (old new : Station) (all : old.unread ≡ []) where
  told-all : seen_at old ≡ old.told
  told-all = ap (λ l. old.told ++ l) all ∙ append-nil old.told

  with-none : (journal : Journal) (taken : ℕ) → new ≡ station old.told [] journal taken → GoesOn old new
  with-none journal taken now = stays old new (ap seen_at now ∙ append-nil old.told ∙ sym told-all)

  with-more : (more : Notes) (journal : Journal) (taken : ℕ) → new ≡ station old.told more journal taken → GoesOn old new
  with-more more journal taken now = (more, ap seen_at now ∙ ap (λ l. l ++ more) (sym told-all))

  with-told : (more : Notes) (journal : Journal) (taken : ℕ) → new ≡ station (old.told ++ more) [] journal taken → GoesOn old new
  with-told more journal taken now = (more, ap seen_at now ∙ append-nil (old.told ++ more) ∙ ap (λ l. l ++ more) (sym told-all))

module _ (agent other : Agent) (side : ℕ) (waits : Journal → Bool) where
  said-all : (s : Station) → IsToSay agent other side waits s → s.unread ≡ []
  said-all s (inl w) = w.0.clear.all_read
  said-all s (inr d) = d.0.clear.all_read

  acts-go : (old new : Station) (did : Did) → Acts agent other side waits old new did → GoesOn old new
  acts-go old new _ (took n later is news now) =
      stays old new (ap seen_at now ∙ append_assoc old.told (n ∷ []) later ∙ ap (λ l. old.told ++ l) (sym is))
  acts-go old new _ (sent c more all next foreign now) = with-more old new all _ _ _ now
  acts-go old new _ (led e clear goes own list w now) = with-none old new clear.all_read _ _ now
  acts-go old new _ (rested w both now) = with-none old new w.clear.all_read _ _ now
  acts-go old new _ (idled w one both now) = stays old new (ap seen_at now)
  acts-go old new _ (waited w unsaid now) = with-told old new w.clear.all_read _ _ _ now
  acts-go old new _ (stopped clear ends_now still now) = with-none old new clear.all_read _ _ now
  acts-go old new _ (ended d none now) = with-told old new d.clear.all_read _ _ _ now
  acts-go old new _ (over d some now) = stays old new (ap seen_at now)
  acts-go old new _ (overtaken more some foreign say now) = with-more old new (said-all old say) _ _ _ now

  pub steps-go : (old new : Station) (did : Did) → Steps agent other side waits old new did → GoesOn old new
  steps-go old new did s =
      let a = read-goes side old s.read s.reads in
      let b = acts-go s.read new did s.acts in
      (a.0 ++ b.0, b.1 ∙ ap (λ l. l ++ b.0) a.1 ∙ append_assoc (seen_at old) a.0 b.0)

-- ---- a step, and a meeting behind it

no-more : (xs : Notes) → length xs ≡ 0 → xs ≡ []
no-more [] none = refl
no-more (x ∷ xs) none = absurd (omega (arith, none))

-- the side that has had its step has seen all then
pub saw-all : (before after all more rest : Notes) → after ≡ before ++ more → all ≡ after ++ rest → (all ≡ after) ⊎ (all ≡ before) → all ≡ after
saw-all before after all more rest went met (inl is) = is
saw-all before after all more rest went met (inr is) =
    let a = ap (λ (l : Notes). length l) went in
    let b = length-append before more in
    let c = ap (λ (l : Notes). length l) met in
    let d = length-append after rest in
    let e = ap (λ (l : Notes). length l) is in
    met ∙ ap (λ l. after ++ l) (no-more rest (omega (arith, a, b, c, d, e))) ∙ append-nil after

module _ {L M W : Type 0} (mind : L → Mind) (their_mind : M → Mind) (view : W → View) (one mid new : Side L W) (other their_new : Side M W)
    (pair : ArePair mind their_mind view one other) (met : (view other.wire).seen ≡ (view one.wire).seen) where
  abbrev Alone : Side L W → Did → Type 0
  Alone x did = StepsAlone one.agent.now one.other.now one.side (mind one.lead).waits (station_of mind view one) (station_of mind view x) did

  pub steps-alone : (did : Did)
      → Steps one.agent.now one.other.now one.side (mind one.lead).waits (station_of mind view one) (station_of mind view mid) did
      → IsSameBut mind view mid new → HasMet (view mid.wire) (view new.wire) → HasMet (view other.wire) (view their_new.wire)
      → (view their_new.wire).seen ≡ (view new.wire).seen
      → ((view new.wire).seen ≡ (view mid.wire).seen) ⊎ ((view new.wire).seen ≡ (view other.wire).seen)
      → Alone new did
  steps-alone did steps but mine theirs same all = subst (λ (x : Side L W). Alone x did) (sym but) (record {
    steps = subst (λ x. Steps one.agent.now one.other.now one.side (mind one.lead).waits (station_of mind view one) x did) same-place steps;
    own = theirs.others;
    adds = adds;
    alone = subst (λ n. list_any (is_own n) theirs.others ≡ false) (pair.other_is.held.of_side ∙ pair.opposite) theirs.foreign;
  })
    where
      put : Side L W
      put = record mid { wire = new.wire }

      goes : GoesOn (station_of mind view one) (station_of mind view mid)
      goes = steps-go one.agent.now one.other.now one.side (mind one.lead).waits (station_of mind view one) (station_of mind view mid) did steps

      before : Notes
      before = (view one.wire).seen

      stepped_on : (view mid.wire).seen ≡ before ++ goes.0
      stepped_on = sym (all-seen mind view mid) ∙ goes.1 ∙ ap (λ l. l ++ goes.0) (all-seen mind view one)

      either : ((view new.wire).seen ≡ (view mid.wire).seen) ⊎ ((view new.wire).seen ≡ (view other.wire).seen)
          → ((view new.wire).seen ≡ (view mid.wire).seen) ⊎ ((view new.wire).seen ≡ before)
      either (inl is) = inl is
      either (inr is) = inr (is ∙ met)

      seen_same : (view new.wire).seen ≡ (view mid.wire).seen
      seen_same = saw-all before (view mid.wire).seen (view new.wire).seen goes.0 mine.others stepped_on mine.grows (either all)

      same-place : station_of mind view mid ≡ station_of mind view put
      same-place = ap (λ (l : Notes). station (take mid.told.read l) (drop mid.told.read l) mid.journal.entries mid.taken) (sym seen_same)

      adds : seen_at (station_of mind view put) ≡ seen_at (station_of mind view one) ++ theirs.others
      adds =
          all-seen mind view put ∙ sym same ∙ theirs.grows ∙ ap (λ l. l ++ theirs.others) met
          ∙ ap (λ l. l ++ theirs.others) (sym (all-seen mind view one))

  pub has-turn : (did : Did) → ends one.side (view one.wire).seen ≡ 0 → Alone new did
      → HasTurn one.agent.now one.other.now one.side (mind one.lead).waits (station_of mind view one) (station_of mind view new)
  has-turn did goes alone = stepped did (ap (ends one.side) (all-seen mind view one) ∙ goes) alone

-- one that is over has none
pub no-turn : {L W : Type 0} (mind : L → Mind) (view : W → View) (one : Side L W) → ends one.side (view one.wire).seen ≢ 0
    → HasTurn one.agent.now one.other.now one.side (mind one.lead).waits (station_of mind view one) (station_of mind view one)
no-turn mind view one some = rested_turn (λ none. some (sym (ap (ends one.side) (all-seen mind view one)) ∙ none)) refl

module _ {M W : Type 0} (their_mind : M → Mind) (view : W → View) (other new : Side M W) where
  -- the other side has seen what has come
  pub hears-all : IsSide their_mind view other → IsSameBut their_mind view other new → HasMet (view other.wire) (view new.wire) → (notes : Notes)
      → (view new.wire).seen ≡ notes → Hears (station_of their_mind view other) (station_of their_mind view new) notes
  hears-all is but met notes same =
      subst (Hears (station_of their_mind view other) (station_of their_mind view new)) same
      (subst (λ (x : Side M W). Hears (station_of their_mind view other) (station_of their_mind view x) (view new.wire).seen) (sym but)
      (met-hears (view other.wire) (view new.wire) other.told.read other.journal.entries other.taken is.held.within.0 met))

  -- nothing has come
  pub hears-none : (notes : Notes) → (view other.wire).seen ≡ notes → Hears (station_of their_mind view other) (station_of their_mind view other) notes
  hears-none notes same = record {
    more = [];
    now = ap (λ l. station (station_of their_mind view other).told l other.journal.entries other.taken) (sym (append-nil (station_of their_mind view other).unread));
    all = all-seen their_mind view other ∙ same;
  }

-- ---- a round

-- the turn of a side that was the other's
pub turn-of : (agent other agent' other' : Agent) (side side' : ℕ) (waits waits' : Journal → Bool) (old new : Station)
    → agent' ≡ agent → other' ≡ other → side' ≡ side → waits' ≡ waits → HasTurn agent' other' side' waits' old new → HasTurn agent other side waits old new
turn-of agent other agent' other' side side' waits waits' old new a o n w t =
    subst (λ x. HasTurn x other side waits old new) a
    (subst (λ x. HasTurn agent' x side waits old new) o
    (subst (λ x. HasTurn agent' other' x waits old new) n
    (subst (λ x. HasTurn agent' other' side' x old new) w t)))

module _ {L M W : Type 0} (mind : L → Mind) (their_mind : M → Mind) (view : W → View) (one mid new : Side L W) (other their_mid their_new : Side M W) where
  pub makes-round : ArePair mind their_mind view one other → SameSide their_mind view other their_mid
      → HasTurn one.agent.now one.other.now one.side (mind one.lead).waits (station_of mind view one) (station_of mind view mid)
      → Hears (station_of their_mind view other) (station_of their_mind view their_mid) (view mid.wire).seen
      → HasTurn their_mid.agent.now their_mid.other.now their_mid.side (their_mind their_mid.lead).waits
      (station_of their_mind view their_mid) (station_of their_mind view their_new)
      → Hears (station_of mind view mid) (station_of mind view new) (view their_new.wire).seen
      → Round one.agent.now one.other.now one.side (mind one.lead).waits (their_mind other.lead).waits (station_of mind view one)
      (station_of their_mind view other) (station_of mind view new) (station_of their_mind view their_new)
  makes-round pair same turn hears their_turn heard = record {
    mid_s = station_of mind view mid;
    mid_t = station_of their_mind view their_mid;
    turn = turn;
    hears = subst (Hears (station_of their_mind view other) (station_of their_mind view their_mid)) (sym (all-seen mind view mid)) hears;
    their_turn =
        turn-of one.other.now one.agent.now their_mid.agent.now their_mid.other.now (across one.side) their_mid.side (their_mind other.lead).waits
        (their_mind their_mid.lead).waits (station_of their_mind view their_mid) (station_of their_mind view their_new)
        (same.same_agent ∙ pair.their_agent) (same.same_other ∙ pair.their_other) (same.same_side ∙ pair.opposite) same.same_mind.same_waits their_turn;
    heard = subst (Hears (station_of mind view mid) (station_of mind view new)) (sym (all-seen their_mind view their_new)) heard;
  }

-- a round of the same sides
pub round-of : (agent other agent' other' : Agent) (side side' : ℕ) (waits waits' theirs theirs' : Journal → Bool) (s t new_s new_t : Station)
    → agent' ≡ agent → other' ≡ other → side' ≡ side → waits' ≡ waits → theirs' ≡ theirs
    → Round agent' other' side' waits' theirs' s t new_s new_t → Round agent other side waits theirs s t new_s new_t
round-of agent other agent' other' side side' waits waits' theirs theirs' s t new_s new_t a o n w v r =
    subst (λ x. Round x other side waits theirs s t new_s new_t) a
    (subst (λ x. Round agent' x side waits theirs s t new_s new_t) o
    (subst (λ x. Round agent' other' x waits theirs s t new_s new_t) n
    (subst (λ x. Round agent' other' side' x theirs s t new_s new_t) w
    (subst (λ x. Round agent' other' side' waits' x s t new_s new_t) v r))))

module _ {L M W : Type 0} (mind : L → Mind) (their_mind : M → Mind) (view : W → View) (first : Side L W) (second : Side M W) where
  abbrev pub RoundsTo : Side L W → Side M W → Type 0
  RoundsTo one other = Rounds first.agent.now first.other.now first.side (mind first.lead).waits (their_mind second.lead).waits
      (station_of mind view first) (station_of their_mind view second) (station_of mind view one) (station_of their_mind view other)

  pub rounds-further : (one new : Side L W) (other their_new : Side M W) → SameSide mind view first one → SameSide their_mind view second other
      → RoundsTo one other
      → Round one.agent.now one.other.now one.side (mind one.lead).waits (their_mind other.lead).waits (station_of mind view one)
      (station_of their_mind view other) (station_of mind view new) (station_of their_mind view their_new)
      → RoundsTo new their_new
  rounds-further one new other their_new same their_same rounds r =
      further (station_of mind view one) (station_of their_mind view other) (station_of mind view new) (station_of their_mind view their_new) rounds
      (round-of first.agent.now first.other.now one.agent.now one.other.now first.side one.side (mind first.lead).waits (mind one.lead).waits
      (their_mind second.lead).waits (their_mind other.lead).waits (station_of mind view one) (station_of their_mind view other)
      (station_of mind view new) (station_of their_mind view their_new)
      same.same_agent same.same_other same.same_side same.same_mind.same_waits their_same.same_mind.same_waits r)

  -- where they have met
  pub rounds-begun : (one : Side L W) (other : Side M W) → IsSide mind view first → IsSide their_mind view second → IsSameBut mind view first one
      → IsSameBut their_mind view second other → HasMet (view first.wire) (view one.wire) → HasMet (view second.wire) (view other.wire)
      → (view other.wire).seen ≡ (view one.wire).seen
      → ((view one.wire).seen ≡ (view first.wire).seen) ⊎ ((view one.wire).seen ≡ (view second.wire).seen)
      → RoundsTo one other
  rounds-begun one other is their_is but their_but met their_met same all =
      begun (station_of mind view one) (station_of their_mind view other)
      (hears-all mind view first one is but met (seen_at (station_of mind view one)) (sym (all-seen mind view one)))
      (hears-all their_mind view second other their_is their_but their_met (seen_at (station_of mind view one)) (same ∙ sym (all-seen mind view one)))
      (had all)
    where
      had : ((view one.wire).seen ≡ (view first.wire).seen) ⊎ ((view one.wire).seen ≡ (view second.wire).seen)
          → (seen_at (station_of mind view one) ≡ seen_at (station_of mind view first))
          ⊎ (seen_at (station_of mind view one) ≡ seen_at (station_of their_mind view second))
      had (inl is) = inl (all-seen mind view one ∙ is ∙ sym (all-seen mind view first))
      had (inr is) = inr (all-seen mind view one ∙ is ∙ sym (all-seen their_mind view second))

  -- and where both have copied their journals
  pub rounds-to : (one new : Side L W) (other their_new : Side M W) → station_of mind view new ≡ station_of mind view one
      → station_of their_mind view their_new ≡ station_of their_mind view other → RoundsTo one other → RoundsTo new their_new
  rounds-to one new other their_new same their_same r =
      subst (λ s. Rounds first.agent.now first.other.now first.side (mind first.lead).waits (their_mind second.lead).waits
      (station_of mind view first) (station_of their_mind view second) s (station_of their_mind view their_new)) (sym same)
      (subst (λ t. Rounds first.agent.now first.other.now first.side (mind first.lead).waits (their_mind second.lead).waits
      (station_of mind view first) (station_of their_mind view second) (station_of mind view one) t) (sym their_same) r)
