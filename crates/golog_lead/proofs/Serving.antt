-- The devices' turns of a round, one after the other.
use Rattle.std.proofs.Common.{◌≡◌, ◌≢◌, ℕ, zero, suc, ◌+◌, ◌<◌, ◌≤◌, Bool, true, false, not, ◌==◌, ◌⊎◌, if◌then◌else◌, Option, Some, None, List, [], ◌∷◌, ◌++◌, length, length-append, take, drop, set, get_or, get_or-set_same, refl, sym, ap, ◌∙◌, subst, append_assoc, inl, inr, arith, nat_lt}
use Rattle.std.specs.Prelude.{slice_get, is_some, option_map, option_and_then}
use Rattle.std.specs.List.{list_all, list_any, sum}
use Rattle.std.specs.Option.{option_map_or}
use Rattle.std.proofs.lemmas.Bool.{and_from, and_parts, or_from, lt-ltb, eq-eqb, eqb-true, ne_eqb}
use Rattle.std.proofs.lemmas.Bool.Decides.{eqb_tells, leb_tells}
use Rattle.std.proofs.lemmas.Option.{slice_get_within, slice_get-get_or}
use Rattle.std.proofs.lemmas.List.{append-nil, length-take-le, get_or-set_other, set-get_or}
use Rattle.std.proofs.lemmas.List.Folds.{list_all-append, list_any-append}
use Rattle.std.proofs.lemmas.List.Sums.{sum_by-set}
use Rattle.golog_tree.specs.declared.agent.Agent.{Agent}
use Rattle.golog_semantics.specs.Journal.{Journal, commands, poster_of, is_posted_by, is_close, is_open}
use Rattle.golog_semantics.specs.Inline.{Scripted, Stage, turn, turns_from}
use Rattle.golog_semantics.specs.Dealt.{Script}
use Rattle.golog_semantics.proofs.GroundNumbers.{slice_get-right}
use Rattle.golog_journal.specs.Boards.{IsBoardList}
use Rattle.golog_journal.specs.Laws.{AreNotOf}
use Rattle.golog_journal.specs.Leading.{is_of_program}
use Rattle.golog_journal.specs.Taken.{IsReady}
use Rattle.golog_journal.proofs.Staying.{posted-same, ready_stays}
use Rattle.golog_device.specs.Dealing.{scripted, LeftAfter, DealtNow}
use Rattle.golog_device.specs.Slots.{Standing, Both, ChangesIf, OnlySlot}
use Rattle.golog_device.proofs.Taking.{all-more, take-next}
use Rattle.golog_device.proofs.Standings.{EachSlot-then, EachSlot-same}
use Rattle.golog_device.proofs.DealtFirst.{dealt_stays}
use Rattle.golog_lead.specs.Rounds.{is_refusal}
use Rattle.golog_lead.specs.Moments.{Moment, taken_by, progress, is_of_first, told_at, MayGoOn, RestsAt, LeavesAll, TurnMade, DeviceMade, StaysDealt, DealsOn, AreScripted, IsStage, turned, LeaveAll, TurnsMade}
use Rattle.golog_lead.proofs.Adding.{turns_keep, turns_push, turn_if_open}
use Rattle.golog_lead.proofs.OneTurn.{few-more}

-- entries of the first devices are none of a later one's
not-first : (k d : ℕ) (es : Journal) → list_all (is_of_first k) es ≡ true → k ≤ d → AreNotOf d es
not-first k d [] all past = refl
not-first k d (e ∷ es) all past =
    let parts = and_parts (is_of_first k e) (list_all (is_of_first k) es) all in
    or_from _ _ (one (poster_of e) parts.0) (not-first k d es parts.1 past)
  where
    one : (o : Option ℕ) → option_map_or (λ p. nat_lt p k) o false ≡ true → option_map_or (λ p. p == d) o false ≡ false
    one None h = refl
    one (Some p) h = by (eqb_tells p d) (leb_tells (suc p) k)
      where
        by : ((p == d) ≡ true) × (p ≡ d) ⊎ ((p == d) ≡ false) × (p ≢ d) → (nat_lt p k ≡ true) × (p < k) ⊎ (nat_lt p k ≡ false) × (k < suc p) → (p == d) ≡ false
        by (inr (not_it, other)) below = not_it
        by (inl (is_it, same)) (inl (below, less)) = absurd (omega (arith, same, less, past))
        by (inl (is_it, same)) (inr (not_it, more)) = absurd (let k = sym not_it ∙ h in cc)

-- and none of the program's
pub no-program : (k : ℕ) (es : Journal) → list_all (is_of_first k) es ≡ true → list_any is_of_program es ≡ false
no-program k [] all = refl
no-program k (e ∷ es) all =
    let parts = and_parts (is_of_first k e) (list_all (is_of_first k) es) all in
    or_from _ _ (one (poster_of e) refl parts.0) (no-program k es parts.1)
  where
    one : (o : Option ℕ) → poster_of e ≡ o → option_map_or (λ p. nat_lt p k) o false ≡ true → is_of_program e ≡ false
    one None is h = absurd (cc)
    one (Some p) is h = ap (λ o. not (is_some o)) is

-- a device of the first ones is one of more
first-more : (k : ℕ) (es : Journal) → list_all (is_of_first k) es ≡ true → list_all (is_of_first (k + 1)) es ≡ true
first-more k es all = all-more (is_of_first k) (is_of_first (k + 1)) (λ e h. one (poster_of e) h) es all
  where
    one : (o : Option ℕ) → option_map_or (λ p. nat_lt p k) o false ≡ true → option_map_or (λ p. nat_lt p (k + 1)) o false ≡ true
    one None h = absurd (cc)
    one (Some p) h = by (leb_tells (suc p) k)
      where
        by : (nat_lt p k ≡ true) × (p < k) ⊎ (nat_lt p k ≡ false) × (k < suc p) → nat_lt p (k + 1) ≡ true
        by (inl (below, less)) = lt-ltb p (k + 1) (omega (arith, less))
        by (inr (not_it, more)) = absurd (let k = sym not_it ∙ h in cc)

-- and so is this one
own-first : (k : ℕ) (es : Journal) → list_all (is_posted_by k) es ≡ true → list_all (is_of_first (k + 1)) es ≡ true
own-first k es all = all-more (is_posted_by k) (is_of_first (k + 1)) (λ e h. one (poster_of e) h) es all
  where
    one : (o : Option ℕ) → option_map_or (λ p. p == k) o false ≡ true → option_map_or (λ p. nat_lt p (k + 1)) o false ≡ true
    one None h = absurd (cc)
    one (Some p) h = let same = eqb-true p k h in lt-ltb p (k + 1) (omega (arith, same))

-- entries of one device are none of another's
not-own : (k d : ℕ) (es : Journal) → d ≢ k → list_all (is_posted_by k) es ≡ true → AreNotOf d es
not-own k d [] other all = refl
not-own k d (e ∷ es) other all =
    let parts = and_parts (is_posted_by k e) (list_all (is_posted_by k) es) all in
    or_from _ _ (one (poster_of e) parts.0) (not-own k d es other parts.1)
  where
    one : (o : Option ℕ) → option_map_or (λ p. p == k) o false ≡ true → option_map_or (λ p. p == d) o false ≡ false
    one None h = refl
    one (Some p) h = by (eqb_tells p d)
      where
        by : ((p == d) ≡ true) × (p ≡ d) ⊎ ((p == d) ≡ false) × (p ≢ d) → (p == d) ≡ false
        by (inr (not_it, not_d)) = not_it
        by (inl (is_it, same)) = absurd (other (sym same ∙ eqb-true p k h))

-- others' entries do not close a device
pub open-same : (agent : Agent) (journal others : Journal) (d : ℕ) → AreNotOf d others → is_open d (journal ++ others) ≡ is_open d journal
open-same agent journal others d foreign = ap (λ es. not (list_any is_close es)) (posted-same agent journal others d foreign)

-- lists that differ at one place
other-place : {A : Type 0} (xs ys : List A) (a b : A) (j : ℕ) → j ≢ length xs → slice_get (xs ++ a ∷ ys) j ≡ slice_get (xs ++ b ∷ ys) j
other-place [] ys a b zero other = absurd (other refl)
other-place [] ys a b (suc j) other = refl
other-place (x ∷ xs) ys a b zero other = refl
other-place (x ∷ xs) ys a b (suc j) other = other-place xs ys a b j (λ e. other (ap suc e))

at-place : {A : Type 0} (xs ys : List A) (a : A) (k : ℕ) → length xs ≡ k → slice_get (xs ++ a ∷ ys) k ≡ Some a
at-place xs ys a k long = slice_get-right xs (a ∷ ys) k 0 (omega (arith, long))

drop-suc : {A : Type 0} (k : ℕ) (xs : List A) (x : A) → slice_get xs k ≡ Some x → drop k xs ≡ x ∷ drop (suc k) xs
drop-suc k [] x is = absurd (cc)
drop-suc zero (y ∷ xs) x is = let same : y ≡ x = cc in ap (λ z. z ∷ xs) same
drop-suc (suc k) (y ∷ xs) x is = drop-suc k xs x is

drop-next : {A : Type 0} (k : ℕ) (xs : List A) (x : A) → slice_get xs k ≡ Some x → drop k xs ≡ x ∷ drop (k + 1) xs
drop-next k xs x is = drop-suc k xs x is ∙ ap (λ n. x ∷ drop n xs) (let e : suc k ≡ k + 1 = omega arith in e)

module _ (agent : Agent) where
  abbrev after : List Scripted → Journal × Scripted → Journal × List Scripted
  after made t = (t.0, made ++ t.1 ∷ [])

  -- the turns of one more of these devices
  turned-next : (k : ℕ) (journal : Journal) (ds : List Scripted) (d : Scripted) → slice_get ds k ≡ Some d
      → (let made = turns_from agent 0 journal (take k ds) in let t = turn_if_open agent k made.0 d in
      ◌≡◌ {A = Stage} (turned agent (k + 1) journal ds) (record { journal = t.0; devices = (made.1 ++ t.1 ∷ []) ++ drop (k + 1) ds }))
  turned-next k journal ds d is =
      let within = slice_get_within ds k d is in
      let long : k ≡ 0 + length (take k ds) = (let l = length-take-le k ds (omega (arith, within)) in omega (arith, l)) in
      ap (λ (made : Journal × List Scripted). record { journal = made.0; devices = made.1 ++ drop (k + 1) ds })
      (ap (turns_from agent 0 journal) (take-next ds k d is) ∙ turns_push agent 0 journal (take k ds) d
      ∙ ap (λ n. (let made = turns_from agent 0 journal (take k ds) in after made.1 (turn_if_open agent n made.0 d))) (sym long))

  module _ (k : ℕ) (mid new : Moment) (count : ℕ) where
    -- another device is as it was
    pub record Same (j : ℕ) : Type 0 where
      pub stands : slice_get new.standings j ≡ slice_get mid.standings j
      pub taken : taken_by new.taken j ≡ taken_by mid.taken j

    same-both : (P : Standing → Standing → Type 0) (b : Bool) (x y : Option Standing) → b ≡ false → Both (ChangesIf b P) x y → y ≡ x
    same-both P b None None not_it both = refl
    same-both P b None (Some s) not_it both = absurd both
    same-both P b (Some s) None not_it both = absurd both
    same-both P b (Some s) (Some t) not_it both = let same : t ≡ s = rw not_it at both in ap Some same

    pub others-same : (P : Standing → Standing → Type 0) → new.taken ≡ set mid.taken k count → OnlySlot k P mid.standings new.standings → (j : ℕ) → j ≢ k → Same j
    others-same P is only j other = record {
      stands = same-both P (j == k) _ _ (ne_eqb j k other) (only.at j);
      taken = ap (λ l. taken_by l j) is ∙ get_or-set_other mid.taken k j count 0 other;
    }

    pub told-same : (j : ℕ) → Same j → told_at new j ≡ told_at mid j
    told-same j same =
        ap (λ n. option_and_then (λ (s : Standing). option_map (λ left. scripted left n) s.meaning.left) (slice_get new.standings j)) same.taken
        ∙ ap (option_and_then (λ (s : Standing). option_map (λ left. scripted left (taken_by mid.taken j)) s.meaning.left)) same.stands

    -- a scripted device had the turn of one
    pub record OneTold (d : Scripted) : Type 0 where
      pub now : Scripted
      pub told : told_at new k ≡ Some now
      pub turns : turn agent mid.journal k d ≡ (new.journal, now)

    told-left : (n : ℕ) (left later : Option Script) (d : Scripted) → option_map (λ left. scripted left n) left ≡ Some d
        → LeftAfter agent k left mid.journal n later new.journal count
        → (now : Scripted) × (option_map (λ left. scripted left count) later ≡ Some now) × (turn agent mid.journal k d ≡ (new.journal, now))
    told-left n None later d is goes = absurd (cc)
    told-left n (Some left) None d is goes = absurd goes
    told-left n (Some left) (Some later) d is goes =
        let same : scripted left n ≡ d = cc in
        (scripted later count, refl, ap (turn agent mid.journal k) (sym same) ∙ goes)

    told-both : (n : ℕ) (x y : Option Standing) (d : Scripted)
        → option_and_then (λ (s : Standing). option_map (λ left. scripted left n) s.meaning.left) x ≡ Some d
        → Both (DeviceMade agent k mid.journal n new.journal count) x y
        → (now : Scripted) × (option_and_then (λ (s : Standing). option_map (λ left. scripted left count) s.meaning.left) y ≡ Some now)
        × (turn agent mid.journal k d ≡ (new.journal, now))
    told-both n None y d is both = absurd (cc)
    told-both n (Some s) None d is both = absurd both
    told-both n (Some s) (Some t) d is both = told-left n s.meaning.left t.meaning.left d is both.scripted

    changed-both : (P : Standing → Standing → Type 0) (b : Bool) (x y : Option Standing) → b ≡ true → Both (ChangesIf b P) x y → Both P x y
    changed-both P b None None is_it both = tt
    changed-both P b None (Some s) is_it both = absurd both
    changed-both P b (Some s) None is_it both = absurd both
    changed-both P b (Some s) (Some t) is_it both = rw is_it at both

    pub one-told : (d : Scripted) → told_at mid k ≡ Some d → k < length mid.taken → new.taken ≡ set mid.taken k count
        → OnlySlot k (DeviceMade agent k mid.journal (taken_by mid.taken k) new.journal count) mid.standings new.standings → OneTold d
    one-told d is within made only =
        let P = DeviceMade agent k mid.journal (taken_by mid.taken k) new.journal count in
        let mine : taken_by new.taken k ≡ count = ap (λ l. taken_by l k) made ∙ get_or-set_same mid.taken k count 0 within in
        let r = told-both (taken_by mid.taken k) (slice_get mid.standings k) (slice_get new.standings k) d is
        (changed-both P (k == k) _ _ (eq-eqb k k refl) (only.at k)) in
        record {
          now = r.0;
          told =
              ap (λ n. option_and_then (λ (s : Standing). option_map (λ left. scripted left n) s.meaning.left) (slice_get new.standings k)) mine
              ∙ r.1;
          turns = r.2;
        }

  length-made : (k : ℕ) (journal : Journal) (ds : List Scripted) → k ≤ length ds → length (turns_from agent 0 journal (take k ds)).1 ≡ k
  length-made k journal ds within = turns_keep agent 0 journal (take k ds) ∙ length-take-le k ds within

  -- what the first devices of so many left, and the others
  split-at : (k : ℕ) (ds : List Scripted) (d : Scripted) (made : List Scripted) → slice_get ds k ≡ Some d → made ++ drop k ds ≡ (made ++ d ∷ []) ++ drop (k + 1) ds
  split-at k ds d made is = ap (λ l. made ++ l) (drop-next k ds d is) ∙ sym (append_assoc made (d ∷ []) (drop (k + 1) ds))

  one-of : (k : ℕ) (ds : List Scripted) → k < length ds → (d : Scripted) × (slice_get ds k ≡ Some d)
  one-of k ds within = let none : Scripted = record { answers = []; idle = []; taken = 0 } in (get_or ds k none, slice_get-get_or ds k none within)

  -- a closed device has no turn
  stage-skip : (k : ℕ) (old mid : Moment) (ds : List Scripted) → AreScripted agent old ds → k < length agent.devices → is_open k mid.journal ≡ false
      → IsStage agent mid (turned agent k old.journal ds) → IsStage agent mid (turned agent (k + 1) old.journal ds)
  stage-skip k old mid ds are within shut stage =
      let many = are.one_each in
      let d = one-of k ds (omega (arith, within, many)) in
      let made = turns_from agent 0 old.journal (take k ds) in
      let closed : is_open k made.0 ≡ false = ap (is_open k) (sym stage.entries) ∙ shut in
      let t : turn_if_open agent k made.0 d.0 ≡ (made.0, d.0) = ap (λ b. if b then turn agent made.0 k d.0 else (made.0, d.0)) closed in
      subst (IsStage agent mid)
      (ap (λ l. record { journal = made.0; devices = l }) (split-at k ds d.0 made.1 d.1)
      ∙ sym (turned-next k old.journal ds d.0 d.1
      ∙ ap (λ (t : Journal × Scripted). record { journal = t.0; devices = (made.1 ++ t.1 ∷ []) ++ drop (k + 1) ds }) t))
      stage

  -- a scripted one has its turn
  stage-next : (k : ℕ) (old mid new : Moment) (count : ℕ) (ds : List Scripted) → AreScripted agent old ds → k < length agent.devices
      → is_open k mid.journal ≡ true → k < length mid.taken → new.taken ≡ set mid.taken k count
      → OnlySlot k (DeviceMade agent k mid.journal (taken_by mid.taken k) new.journal count) mid.standings new.standings
      → IsStage agent mid (turned agent k old.journal ds) → IsStage agent new (turned agent (k + 1) old.journal ds)
  stage-next k old mid new count ds are within open_still room is only stage =
      let many = are.one_each in
      let inside : k < length ds = omega (arith, within, many) in
      let d = one-of k ds inside in
      let made = turns_from agent 0 old.journal (take k ds) in
      let long = length-made k old.journal ds (omega (arith, inside)) in
      let rest = drop (k + 1) ds in
      let split : made.1 ++ drop k ds ≡ made.1 ++ d.0 ∷ rest = ap (λ l. made.1 ++ l) (drop-next k ds d.0 d.1) in
      let mine : told_at mid k ≡ Some d.0 =
      (stage.devices).told k (let l = length-append made.1 (drop k ds) in let m = (stage.devices).one_each in omega (arith, m, within))
      ∙ ap (λ l. slice_get l k) split ∙ at-place made.1 rest d.0 k long in
      let one = one-told k mid new count d.0 mine room is only in
      let opened : is_open k made.0 ≡ true = ap (is_open k) (sym stage.entries) ∙ open_still in
      let t : turn_if_open agent k made.0 d.0 ≡ (new.journal, one.now) =
      ap (λ b. if b then turn agent made.0 k d.0 else (made.0, d.0)) opened ∙ ap (λ j. turn agent j k d.0) (sym stage.entries) ∙ one.turns in
      let same : turned agent (k + 1) old.journal ds ≡ record { journal = new.journal; devices = (made.1 ++ one.now ∷ []) ++ rest } =
      turned-next k old.journal ds d.0 d.1
      ∙ ap (λ (t : Journal × Scripted). record { journal = t.0; devices = (made.1 ++ t.1 ∷ []) ++ rest }) t in
      subst (IsStage agent new) (sym same ∙ refl)
      (record {
        entries = refl;
        devices = subst (AreScripted agent new) (sym (append_assoc made.1 (one.now ∷ []) rest)) (are-next made.1 rest d.0 one long split one.told);
      })
    where
      are-next : (made rest : List Scripted) (d : Scripted) (one : OneTold k mid new count d) → length made ≡ k
          → (turns_from agent 0 old.journal (take k ds)).1 ++ drop k ds ≡ made ++ d ∷ rest → told_at new k ≡ Some (one.now)
          → AreScripted agent new (made ++ one.now ∷ rest)
      are-next made rest d one long split told = record {
        one_each =
            length-append made (one.now ∷ rest) ∙ sym (length-append made (d ∷ rest)) ∙ ap (λ l. length l) (sym split) ∙ (stage.devices).one_each;
        told = λ j below. by j below (eqb_tells j k);
      }
        where
          by : (j : ℕ) → j < length (made ++ one.now ∷ rest) → ((j == k) ≡ true) × (j ≡ k) ⊎ ((j == k) ≡ false) × (j ≢ k)
              → told_at new j ≡ slice_get (made ++ one.now ∷ rest) j
          by j below (inl (is_it, here)) =
              ap (told_at new) here ∙ told ∙ sym (at-place made rest one.now k long) ∙ ap (slice_get (made ++ one.now ∷ rest)) (sym here)
          by j below (inr (not_it, other)) =
              let l = length-append made (one.now ∷ rest) in
              let m = length-append made (d ∷ rest) in
              let s = ap (λ l. length l) split in
              told-same k mid new count j (others-same k mid new count _ is only j other)
              ∙ (stage.devices).told j (omega (arith, below, l, m, s))
              ∙ ap (λ l. slice_get l j) split
              ∙ other-place made rest d one.now j (λ e. other (e ∙ long))

  -- the devices are dealt with on
  deals-next : (k : ℕ) (old mid new : Moment) (count : ℕ) (since : Journal) → is_open k old.journal ≡ true → k < length agent.devices → k < length mid.taken
      → MayGoOn agent mid.journal mid.taken → new.taken ≡ set mid.taken k count → new.journal ≡ mid.journal ++ since → list_all (is_posted_by k) since ≡ true
      → OnlySlot k (DeviceMade agent k mid.journal (taken_by mid.taken k) new.journal count) mid.standings new.standings
      → DealsOn agent old mid → DealsOn agent old new
  deals-next k old mid new count since opened within room on is grows own only deals =
      EachSlot-then _ _ _ old.standings mid.standings new.standings step deals only
    where
      one : (j : ℕ) → ((j == k) ≡ true) × (j ≡ k) ⊎ ((j == k) ≡ false) × (j ≢ k) → (a b c : Standing) → StaysDealt agent old mid j a b
          → ChangesIf (j == k) (DeviceMade agent k mid.journal (taken_by mid.taken k) new.journal count) b c → StaysDealt agent old new j a c
      one j (inl (is_it, here)) a b c before now =
          subst (λ i. StaysDealt agent old new i a c) (sym here)
          (record {
            dealt = λ script far.
                subst (λ n. DealtNow agent k new.journal n script c.meaning) (sym (ap (λ l. taken_by l k) is ∙ get_or-set_same mid.taken k count 0 room))
                ((made.dealt) script (mine.dealt script far));
            shut = λ closed. absurd (let k = sym opened ∙ closed in cc);
          })
        where
          mine : StaysDealt agent old mid k a b
          mine = subst (λ i. StaysDealt agent old mid i a b) here before

          made : DeviceMade agent k mid.journal (taken_by mid.taken k) new.journal count b c
          made = rw is_it at now
      one j (inr (not_it, other)) a b c before now =
          subst (StaysDealt agent old new j a) (sym same)
          (record {
            dealt = λ script far.
                subst (λ n. DealtNow agent j new.journal n script b.meaning) (sym kept.taken)
                (subst (λ l. DealtNow agent j l (taken_by mid.taken j) script b.meaning) (sym grows)
                (dealt_stays agent mid.journal since j (taken_by mid.taken j) script b.meaning (not-own k j since other own) (on.few j) (before.dealt script far)));
            shut = before.shut;
          })
        where
          same : c ≡ b
          same = rw not_it at now

          kept : Same k mid new count j
          kept = others-same k mid new count _ is only j other

      step : (j : ℕ) (a b c : Standing) → ChangesIf (nat_lt j (length agent.devices)) (StaysDealt agent old mid j) a b
          → ChangesIf (j == k) (DeviceMade agent k mid.journal (taken_by mid.taken k) new.journal count) b c
          → ChangesIf (nat_lt j (length agent.devices)) (StaysDealt agent old new j) a c
      step j a b c before now = by (leb_tells (suc j) (length agent.devices))
        where
          by : (nat_lt j (length agent.devices) ≡ true) × (j < length agent.devices) ⊎ (nat_lt j (length agent.devices) ≡ false) × (length agent.devices < suc j)
              → ChangesIf (nat_lt j (length agent.devices)) (StaysDealt agent old new j) a c
          by (inl (below, less)) = rw below (one j (eqb_tells j k) a b c (rw below at before) now)
          by (inr (past, more)) =
              let b_is : b ≡ a = rw past at before in
              let c_is : c ≡ b = rw (ne_eqb j k (λ e. omega (arith, e, more, within))) at now in
              rw past (c_is ∙ b_is)

  -- each device may go on
  on-next : (k : ℕ) (mid new : Moment) (count : ℕ) → k < length mid.taken → IsBoardList agent mid.journal → MayGoOn agent mid.journal mid.taken
      → new.taken ≡ set mid.taken k count → TurnMade agent k mid.journal (taken_by mid.taken k) new.journal count → MayGoOn agent new.journal new.taken
  on-next k mid new count room list on is made = record {
    few = λ j. few j (eqb_tells j k);
    ready = λ j below open_still. ready j below open_still (eqb_tells j k);
  }
    where
      mine : taken_by new.taken k ≡ count
      mine = ap (λ l. taken_by l k) is ∙ get_or-set_same mid.taken k count 0 room

      others : (j : ℕ) → j ≢ k → taken_by new.taken j ≡ taken_by mid.taken j
      others j other = ap (λ l. taken_by l j) is ∙ get_or-set_other mid.taken k j count 0 other

      few : (j : ℕ) → ((j == k) ≡ true) × (j ≡ k) ⊎ ((j == k) ≡ false) × (j ≢ k) → taken_by new.taken j ≤ length (commands agent j new.journal)
      few j (inl (is_it, here)) =
          subst (λ i. taken_by new.taken i ≤ length (commands agent i new.journal)) (sym here)
          (subst (λ n. n ≤ length (commands agent k new.journal)) (sym mine) made.few)
      few j (inr (not_it, other)) =
          subst (λ n. n ≤ length (commands agent j new.journal)) (sym (others j other))
          (subst (λ l. taken_by mid.taken j ≤ length (commands agent j l)) (sym made.grows)
          (few-more agent j (taken_by mid.taken j) mid.journal made.since (on.few j)))

      ready : (j : ℕ) → j < length agent.devices → is_open j new.journal ≡ true → ((j == k) ≡ true) × (j ≡ k) ⊎ ((j == k) ≡ false) × (j ≢ k)
          → IsReady agent new.journal j (taken_by new.taken j)
      ready j below open_still (inl (is_it, here)) =
          subst (λ i. IsReady agent new.journal i (taken_by new.taken i)) (sym here)
          (subst (λ n. IsReady agent new.journal k n) (sym mine) (made.ready (ap (λ i. is_open i new.journal) (sym here) ∙ open_still)))
      ready j below open_still (inr (not_it, other)) =
          let foreign = not-own k j made.since other made.own in
          subst (λ n. IsReady agent new.journal j n) (sym (others j other))
          (subst (λ l. IsReady agent l j (taken_by mid.taken j)) (sym made.grows)
          (ready_stays agent mid.journal made.since j (taken_by mid.taken j) list foreign
          (on.ready j below (sym (open-same agent mid.journal made.since j foreign) ∙ ap (is_open j) (sym made.grows) ∙ open_still))))

  -- nothing was done to a device
  pub deals-same : (m : Moment) → DealsOn agent m m
  deals-same m = EachSlot-same _ m.standings same
    where
      by : (b : Bool) (j : ℕ) (s : Standing) → ChangesIf b (StaysDealt agent m m j) s s
      by true j s = record { dealt = λ script far. far; shut = λ closed. refl }
      by false j s = refl

      same : (j : ℕ) (s : Standing) → ChangesIf (nat_lt j (length agent.devices)) (StaysDealt agent m m j) s s
      same j s = by (nat_lt j (length agent.devices)) j s

  -- no device had a turn yet
  pub turns-none : (m : Moment) → MayGoOn agent m.journal m.taken → TurnsMade agent 0 m m
  turns-none m on = record {
    since = [];
    grows = sym (append-nil m.journal);
    own = refl;
    unrefused = refl;
    on = on;
    deals = deals-same m;
    scripted = λ ds are. record { entries = refl; devices = are };
    goes = inr (record { same = refl; same_taken = refl; rest = λ device below. absurd (omega (arith, below)) });
  }

  pub open-still : (k : ℕ) (old mid : Moment) → TurnsMade agent k old mid → is_open k mid.journal ≡ is_open k old.journal
  open-still k old mid made =
      ap (is_open k) made.grows ∙ open-same agent old.journal made.since k (not-first k k made.since made.own (omega arith))

  -- a closed device has none
  pub turns-skip : (k : ℕ) (old mid : Moment) → k < length agent.devices → is_open k old.journal ≡ false → TurnsMade agent k old mid → TurnsMade agent (k + 1) old mid
  turns-skip k old mid within shut made = record {
    since = made.since;
    grows = made.grows;
    own = first-more k made.since made.own;
    unrefused = made.unrefused;
    on = made.on;
    deals = made.deals;
    scripted = λ ds are. stage-skip k old mid ds are within (open-still k old mid made ∙ shut) (made.scripted ds are);
    goes = goes made.goes;
  }
    where
      rest : LeaveAll agent k old mid → (device : ℕ) → device < k + 1 → is_open device old.journal ≡ true → RestsAt agent old.journal device
      rest leave device below open_now = by (eqb_tells device k)
        where
          by : ((device == k) ≡ true) × (device ≡ k) ⊎ ((device == k) ≡ false) × (device ≢ k) → RestsAt agent old.journal device
          by (inl (is_it, here)) = absurd (let o = sym (ap (λ i. is_open i old.journal) here ∙ shut) ∙ open_now in cc)
          by (inr (not_it, other)) = leave.rest device (omega (arith, below, other)) open_now

      goes : (progress old < progress mid) ⊎ LeaveAll agent k old mid → (progress old < progress mid) ⊎ LeaveAll agent (k + 1) old mid
      goes (inl more) = inl more
      goes (inr leave) = inr (record { same = leave.same; same_taken = leave.same_taken; rest = rest leave })

  -- an open one has its turn
  pub turns-next : (k : ℕ) (old mid new : Moment) (count : ℕ) → k < length agent.devices → k < length mid.taken → is_open k old.journal ≡ true
      → IsBoardList agent mid.journal → new.taken ≡ set mid.taken k count
      → TurnMade agent k mid.journal (taken_by mid.taken k) new.journal count
      → OnlySlot k (DeviceMade agent k mid.journal (taken_by mid.taken k) new.journal count) mid.standings new.standings
      → TurnsMade agent k old mid → TurnsMade agent (k + 1) old new
  turns-next k old mid new count within room open_now list is one only made = record {
    since = made.since ++ one.since;
    grows = one.grows ∙ ap (λ j. j ++ one.since) made.grows ∙ append_assoc old.journal made.since one.since;
    own = list_all-append (is_of_first (k + 1)) made.since one.since ∙ and_from _ _ (first-more k made.since made.own) (own-first k one.since one.own);
    unrefused = list_any-append is_refusal made.since one.since ∙ or_from _ _ made.unrefused one.unrefused;
    on = on-next k mid new count room list made.on is one;
    deals = deals-next k old mid new count one.since open_now within room made.on is one.grows one.own only made.deals;
    scripted = λ ds are. stage-next k old mid new count ds are within (open-still k old mid made ∙ open_now) room is only (made.scripted ds are);
    goes = goes made.goes one.goes;
  }
    where
      total : sum new.taken + taken_by mid.taken k ≡ sum mid.taken + count
      total = ap (λ l. sum l + taken_by mid.taken k) is ∙ sum_by-set (λ x. x) mid.taken k count 0 room

      grew : length mid.journal + taken_by mid.taken k < length new.journal + count → progress mid < progress new
      grew more = let t = total in omega (arith, more, t)

      left : LeavesAll agent k mid.journal (taken_by mid.taken k) new.journal count → progress new ≡ progress mid
      left leaves =
          let t = total in
          let n = leaves.same_taken in
          let l : length new.journal ≡ length mid.journal = ap (λ j. length j) leaves.same in
          omega (arith, t, n, l)

      kept : LeaveAll agent k old mid → progress mid ≡ progress old
      kept leave = ap (λ j. length j + sum mid.taken) leave.same ∙ ap (λ l. length old.journal + sum l) leave.same_taken

      rest : LeaveAll agent k old mid → RestsAt agent mid.journal k → (device : ℕ) → device < k + 1 → is_open device old.journal ≡ true → RestsAt agent old.journal device
      rest leave here device below opened = by (eqb_tells device k)
        where
          by : ((device == k) ≡ true) × (device ≡ k) ⊎ ((device == k) ≡ false) × (device ≢ k) → RestsAt agent old.journal device
          by (inl (is_it, same)) = subst (λ i. RestsAt agent old.journal i) (sym same) (subst (λ j. RestsAt agent j k) leave.same here)
          by (inr (not_it, other)) = leave.rest device (omega (arith, below, other)) opened

      goes : (progress old < progress mid) ⊎ LeaveAll agent k old mid
          → (length mid.journal + taken_by mid.taken k < length new.journal + count) ⊎ LeavesAll agent k mid.journal (taken_by mid.taken k) new.journal count
          → (progress old < progress new) ⊎ LeaveAll agent (k + 1) old new
      goes (inl more) (inl later) = let g = grew later in inl (omega (arith, more, g))
      goes (inl more) (inr leaves) = let g = left leaves in inl (omega (arith, more, g))
      goes (inr leave) (inl later) = let g = grew later in let s = kept leave in inl (omega (arith, g, s))
      goes (inr leave) (inr leaves) =
          inr (record {
            same = leaves.same ∙ leave.same;
            same_taken = is ∙ ap (set mid.taken k) leaves.same_taken ∙ set-get_or mid.taken k 0 ∙ leave.same_taken;
            rest = rest leave leaves.rests;
          })
