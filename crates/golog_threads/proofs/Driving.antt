-- Devices that have served, behind more entries, and beside each other.
use Rattle.std.proofs.Common.{◌≡◌, ⊎_elim, ℕ, zero, suc, ◌+◌, ◌≤◌, ◌<◌, ◌||◌, Bool, true, false, List, [], ◌∷◌, ◌++◌, length, length-append, set, get_or, append-nil, append_assoc, refl, sym, ap, ◌∙◌, subst, arith}
use Rattle.std.specs.Prelude.{Some, slice_get, slice_index_or}
use Rattle.golog_journal.specs.Taken.{IsReady}
use Rattle.std.proofs.lemmas.Bool.{eq-eqb, or_right}
use Rattle.std.proofs.lemmas.Option.{same_Some}
use Rattle.golog_tree.specs.declared.agent.Agent.{Agent}
use Rattle.golog_semantics.specs.declared.journal.Entry.TheVariants.{Close}
use Rattle.golog_semantics.specs.Journal.{Journal, is_open}
use Rattle.golog_semantics.specs.Dealt.{Meaning}
use Rattle.golog_journal.specs.Boards.{IsBoardList}
use Rattle.golog_journal.specs.Laws.{AreNotOf}
use Rattle.golog_journal.specs.Growing.{party_of}
use Rattle.golog_journal.proofs.Staying.{open-same}
use Rattle.golog_device.specs.Dealing.{DealtIf}
use Rattle.golog_turn.specs.Parties.{contains, without, parties_below, own, GoesOn, KeepsLonger}
use Rattle.golog_turn.proofs.Parties.{contains-append, contains_below, contains_first, contains_other}
use Rattle.golog_threads.specs.Driving.{HoldsFrom, GoesFrom, HasServed, HaveServed, MayDrive, HasDriven}
use Rattle.golog_threads.proofs.Lists.{foreign, not-device}
use Rattle.golog_threads.proofs.Refusals.{refused-later}
use Rattle.golog_threads.proofs.Turning.{goes-nowhere, goes-then}

-- ---- parties in a row

pub contains-behind : (ps qs : List ℕ) (p : ℕ) → contains qs p ≡ true → contains (ps ++ qs) p ≡ true
contains-behind ps qs p has = contains-append ps qs p ∙ or_right (contains ps p) (contains qs p) has

pub holds-rest : (first rest : ℕ) (ps : List ℕ) → HoldsFrom first (rest + 1) ps → HoldsFrom (first + 1) rest (without first ps)
holds-rest first rest ps holds i less =
    let further : first + (1 + i) ≡ first + 1 + i = omega arith in
    let has = subst (λ (k : ℕ). contains ps k ≡ true) further (holds (1 + i) (omega arith)) in
    contains_other first (first + 1 + i) ps (λ e. omega arith) has

pub holds-first : (first rest : ℕ) (ps : List ℕ) → HoldsFrom first (rest + 1) ps → contains ps first ≡ true
holds-first first rest ps holds = let same : first + 0 ≡ first = omega arith in subst (λ (k : ℕ). contains ps k ≡ true) same (holds 0 (omega arith))

-- the parties of the devices, and that of the lead above them
pub holds-all : (count : ℕ) (ps : List ℕ) → ps ≡ parties_below 17 → count ≤ 16 → HoldsFrom 0 count (without 16 ps)
holds-all count ps are few i less =
    let has : contains ps (0 + i) ≡ true = rw are (contains_below 17 (0 + i) (omega arith)) in
    contains_other 16 (0 + i) ps (λ e. omega arith) has

pub holds-lead : (ps : List ℕ) → ps ≡ parties_below 17 → contains ps 16 ≡ true
holds-lead ps are = rw are refl

-- ---- joined seats

-- what both have seen then goes on from what each had seen, with no entry of its parties
pub joined-goes : (one other kept : Journal) (ps qs : List ℕ) → KeepsLonger party_of one ps other qs kept → GoesOn party_of kept one ps × GoesOn party_of kept other qs
joined-goes one other kept ps qs joined =
    ⊎_elim
    (λ (t : (kept ≡ other) × GoesOn party_of other one ps). ((t.1.0, t.0 ∙ t.1.1, t.1.2), ([], t.0 ∙ sym (append-nil other), refl)))
    (λ (t : (kept ≡ one) × GoesOn party_of one other qs). (([], t.0 ∙ sym (append-nil one), refl), (t.1.0, t.0 ∙ t.1.1, t.1.2)))
    joined

pub goes-from : (old new : Journal) (ps : List ℕ) → GoesOn party_of new old ps → GoesFrom old new
goes-from old new ps goes = record { since = goes.0; is = goes.1 }

pub lawful-joined : (agent : Agent) (one other kept : Journal) (ps qs : List ℕ) → KeepsLonger party_of one ps other qs kept → IsBoardList agent one → IsBoardList agent other
    → IsBoardList agent kept
lawful-joined agent one other kept ps qs joined first second =
    ⊎_elim
    (λ (t : (kept ≡ other) × GoesOn party_of other one ps). subst (IsBoardList agent) (sym t.0) second)
    (λ (t : (kept ≡ one) × GoesOn party_of one other qs). subst (IsBoardList agent) (sym t.0) first)
    joined

-- ---- devices that have served

module _ {D : Type 0} (agent : Agent) (meaning : D → Meaning) (old new : Journal) where
  -- with entries of others behind
  pub more-served : (later : Journal) (device : ℕ) (d e : D) → AreNotOf device later → HasServed agent meaning old new device d e
      → HasServed agent meaning old (new ++ later) device d e
  more-served later device d e none served = record {
    shut = open-same agent new later device none ∙ served.shut;
    dealt = λ script far.
        (let deal = served.dealt script far in
        record {
          before = deal.before;
          later = deal.later ++ later;
          reason = deal.reason;
          taken = deal.taken;
          closed = ap (λ j. j ++ later) deal.closed ∙ append_assoc deal.before (Close device deal.reason deal.taken ∷ deal.later) later;
          fits = deal.fits;
        });
    same = served.same;
    refused = λ yes. served.refused (sym (refused-later device new later none) ∙ yes);
  }

  later-served : (kept : Journal) (ps : List ℕ) (device : ℕ) (d e : D) → GoesOn party_of kept new ps → contains ps device ≡ true
      → HasServed agent meaning old new device d e → HasServed agent meaning old kept device d e
  later-served kept ps device d e goes held served =
      subst (λ j. HasServed agent meaning old j device d e) (sym goes.1)
      (more-served goes.0 device d e (not-device (contains ps) device held goes.0 (foreign ps goes.0 goes.2)) served)

  module _ (kept : Journal) (ps : List ℕ) (goes : GoesOn party_of kept new ps) where
    pub all-later : (first : ℕ) (ds es : List D) → HoldsFrom first (length ds) ps → HaveServed agent meaning old new first ds es → HaveServed agent meaning old kept first ds es
    all-later first [] [] holds served = tt
    all-later first [] (e ∷ es) holds served = absurd served
    all-later first (d ∷ ds) [] holds served = absurd served
    all-later first (d ∷ ds) (e ∷ es) holds served = (
      later-served kept ps first d e goes
          (let same : first + 0 ≡ first = omega arith in subst (λ (k : ℕ). contains ps k ≡ true) same (holds 0 (omega arith)))
          served.0,
      all-later (first + 1) ds es
          (λ i less. (let further : first + (1 + i) ≡ first + 1 + i = omega arith in subst (λ (k : ℕ). contains ps k ≡ true) further (holds (1 + i) (omega arith))))
          served.1,
    )

-- one device beside the others
pub served-beside : {D : Type 0} (agent : Agent) (meaning : D → Meaning) (old new : Journal) (first : ℕ) (ds ds' es es' : List D) → length ds ≡ 1
    → HaveServed agent meaning old new first ds ds' → HaveServed agent meaning old new (first + 1) es es'
    → HaveServed agent meaning old new first (ds ++ es) (ds' ++ es')
served-beside agent meaning old new first [] ds' es es' one a b = absurd (omega (arith, one))
served-beside agent meaning old new first (d ∷ []) [] es es' one a b = absurd a
served-beside agent meaning old new first (d ∷ []) (d' ∷ []) es es' one a b = (a.0, b)
served-beside agent meaning old new first (d ∷ []) (d' ∷ x ∷ ds') es es' one a b = absurd a.1
served-beside agent meaning old new first (d ∷ x ∷ ds) ds' es es' one a b = absurd (omega (arith, one))

-- ---- what drivers find and make

module _ (agent : Agent) (first rest : ℕ) (seen : Journal) (ps : List ℕ) (opens : List Bool) (may : MayDrive agent first (rest + 1) seen ps opens) where
  pub may-first : MayDrive agent first 1 seen (first ∷ []) opens
  may-first = record {
    holds = λ i less. (let same : first ≡ first + i = omega (arith, less) in ap (λ b. b || false) (eq-eqb first (first + i) same));
    few = let f = may.few in omega (arith, f);
    lawful = may.lawful;
    told = λ i less. may.told i (omega (arith, less));
    ready = λ i less opened. may.ready i (omega (arith, less)) opened;
  }

  further : (i : ℕ) → first + (1 + i) ≡ first + 1 + i
  further i = omega arith

  pub may-rest : MayDrive agent (first + 1) rest seen (without first ps) opens
  may-rest = record {
    holds = holds-rest first rest ps may.holds;
    few = let f = may.few in omega (arith, f);
    lawful = may.lawful;
    told = λ i less. subst (λ (k : ℕ). slice_index_or opens k false ≡ is_open k seen) (further i) (may.told (1 + i) (omega (arith, less)));
    ready = λ i less. subst (λ (k : ℕ). is_open k seen ≡ true → IsReady agent seen k 0) (further i) (may.ready (1 + i) (omega (arith, less)));
  }

module _ {D : Type 0} (agent : Agent) (meaning : D → Meaning) (first : ℕ) where
  pub driven-none : (seen : Journal) (ps : List ℕ) (opens : List Bool) (ds : List D) → length ds ≡ 0 → MayDrive agent first (length ds) seen ps opens
      → HasDriven agent meaning first seen seen ps ds ds
  driven-none seen ps opens [] none may = record { holds = may.holds; goes = goes-nowhere seen; lawful = may.lawful; served = tt }
  driven-none seen ps opens (d ∷ ds) none may = absurd (omega (arith, none))

  one-served : (old new : Journal) (ds : List D) (r e : D) → length ds ≡ 1 → HasServed agent meaning old new first (get_or ds 0 r) e
      → HaveServed agent meaning old new first ds (set ds 0 e)
  one-served old new [] r e one served = absurd (omega (arith, one))
  one-served old new (x ∷ []) r e one served = (served, tt)
  one-served old new (x ∷ y ∷ ds) r e one served = absurd (omega (arith, one))

  holds-one : (ds : List D) (ps : List ℕ) → length ds ≡ 1 → contains ps first ≡ true → HoldsFrom first (length ds) ps
  holds-one ds ps one held i less = let same : first ≡ first + i = omega (arith, one, less) in subst (λ (k : ℕ). contains ps k ≡ true) same held

  pub driven-one : (old new : Journal) (ps : List ℕ) (ds : List D) (r e : D) → length ds ≡ 1 → contains ps first ≡ true
      → GoesFrom old new → IsBoardList agent new → HasServed agent meaning old new first (get_or ds 0 r) e
      → HasDriven agent meaning first old new ps ds (set ds 0 e)
  driven-one old new ps ds r e one held goes list served = record {
    holds = holds-one ds ps one held;
    goes = goes;
    lawful = list;
    served = one-served old new ds r e one served;
  }

  shut-served : (old : Journal) (d : D) → is_open first old ≡ false → HasServed agent meaning old old first d d
  shut-served old d shut = record {
    shut = shut;
    dealt = λ script far. subst (λ b. DealtIf agent first b old 0 script (meaning d)) shut far;
    same = λ s. refl;
    refused = λ yes. yes;
  }

  pub driven-shut : (old : Journal) (ps : List ℕ) (opens : List Bool) (ds : List D) → length ds ≡ 1 → MayDrive agent first (length ds) old ps opens → is_open first old ≡ false
      → HasDriven agent meaning first old old ps ds ds
  driven-shut old ps opens [] one may shut = absurd (omega (arith, one))
  driven-shut old ps opens (d ∷ []) one may shut = record {
    holds = may.holds;
    goes = goes-nowhere old;
    lawful = may.lawful;
    served = (shut-served old d shut, tt);
  }
  driven-shut old ps opens (d ∷ x ∷ ds) one may shut = absurd (omega (arith, one))

  -- one device beside the others
  pub driven-both : (old own others kept : Journal) (ps qs : List ℕ) (ds ds' es es' : List D) → length ds ≡ 1
      → HasDriven agent meaning first old own ps ds ds' → HasDriven agent meaning (first + 1) old others qs es es'
      → KeepsLonger party_of others qs own ps kept
      → HasDriven agent meaning first old kept (qs ++ ps) (ds ++ es) (ds' ++ es')
  driven-both old own others kept ps qs ds ds' es es' one a b joined =
      let goes = joined-goes others own kept qs ps joined in
      record {
        holds = λ i less. held i less;
        goes = goes-then old others kept b.goes (goes-from others kept qs goes.0);
        lawful = lawful-joined agent others own kept qs ps joined b.lawful a.lawful;
        served =
            served-beside agent meaning old kept first ds ds' es es' one
            (all-later agent meaning old own kept ps goes.1 first ds ds' a.holds a.served)
            (all-later agent meaning old others kept qs goes.0 (first + 1) es es' b.holds b.served);
      }
    where
      held : (i : ℕ) → i < length (ds ++ es) → contains (qs ++ ps) (first + i) ≡ true
      held zero less = contains-behind qs ps (first + 0) (a.holds 0 (omega (arith, one)))
      held (suc i) less =
          let long = length-append ds es in
          let next : first + 1 + i ≡ first + suc i = omega arith in
          contains_first qs ps (first + suc i) (subst (λ (k : ℕ). contains qs k ≡ true) next (b.holds i (omega (arith, one, long, less))))

-- the same of a whole slice, of which the first and the others began at what one seat had seen
pub driven-split : {D : Type 0} (agent : Agent) (meaning : D → Meaning) (first : ℕ) (old one two own others kept : Journal) (ps qs all : List ℕ) (whole ds ds' es es' : List D)
    → whole ≡ ds ++ es → length ds ≡ 1 → one ≡ old → two ≡ old
    → HasDriven agent meaning first one own ps ds ds' → HasDriven agent meaning (first + 1) two others qs es es'
    → KeepsLonger party_of others qs own ps kept → all ≡ qs ++ ps
    → HasDriven agent meaning first old kept all whole (ds' ++ es')
driven-split agent meaning first old one two own others kept ps qs all whole ds ds' es es' parts long was was' a b joined held =
    subst (λ ws. HasDriven agent meaning first old kept all ws (ds' ++ es')) (sym parts)
    (subst (λ hs. HasDriven agent meaning first old kept hs (ds ++ es) (ds' ++ es')) (sym held)
    (driven-both agent meaning first old own others kept ps qs ds ds' es es' long
    (subst (λ j. HasDriven agent meaning first j own ps ds ds') was a)
    (subst (λ j. HasDriven agent meaning (first + 1) j others qs es es') was' b)
    joined))

-- ---- the first of the devices

module _ (agent : Agent) (first count : ℕ) (seen : Journal) (ps : List ℕ) (opens : List Bool) (may : MayDrive agent first count seen ps opens) (some : 0 < count) where
  at-first : first + 0 ≡ first
  at-first = omega arith

  pub first-held : contains ps first ≡ true
  first-held = subst (λ (k : ℕ). contains ps k ≡ true) at-first (may.holds 0 some)

  first-told : slice_index_or opens first false ≡ is_open first seen
  first-told = subst (λ (k : ℕ). slice_index_or opens k false ≡ is_open k seen) at-first (may.told 0 some)

  pub first-shut : slice_index_or opens first false ≡ false → is_open first seen ≡ false
  first-shut test = sym first-told ∙ test

  pub first-ready : slice_index_or opens first false ≡ true → IsReady agent seen first 0
  first-ready test = subst (λ (k : ℕ). is_open k seen ≡ true → IsReady agent seen k 0) at-first (may.ready 0 some) (sym first-told ∙ test)

-- ---- each of the devices

module _ {D : Type 0} (agent : Agent) (meaning : D → Meaning) (old new : Journal) where
  pub served-length : (first : ℕ) (ds es : List D) → HaveServed agent meaning old new first ds es → length es ≡ length ds
  served-length first [] [] served = refl
  served-length first [] (y ∷ es) served = absurd served
  served-length first (x ∷ ds) [] served = absurd served
  served-length first (x ∷ ds) (y ∷ es) served = ap suc (served-length (first + 1) ds es served.1)

  -- the device at a place of the slice has served
  pub served-at : (first : ℕ) (ds es : List D) → HaveServed agent meaning old new first ds es → (i : ℕ) (d e : D)
      → slice_get ds i ≡ Some d → slice_get es i ≡ Some e → HasServed agent meaning old new (first + i) d e
  served-at first [] [] served i d e at at' = absurd (cc)
  served-at first [] (y ∷ es) served i d e at at' = absurd served
  served-at first (x ∷ ds) [] served i d e at at' = absurd served
  served-at first (x ∷ ds) (y ∷ es) served zero d e at at' =
      let here : first ≡ first + 0 = omega arith in
      subst (λ (k : ℕ). HasServed agent meaning old new k d e) here
      (subst (λ a. HasServed agent meaning old new first a e) (same_Some x d at)
      (subst (λ b. HasServed agent meaning old new first x b) (same_Some y e at') served.0))
  served-at first (x ∷ ds) (y ∷ es) served (suc i) d e at at' =
      let next : first + 1 + i ≡ first + suc i = omega arith in
      subst (λ (k : ℕ). HasServed agent meaning old new k d e) next (served-at (first + 1) ds es served.1 i d e at at')
