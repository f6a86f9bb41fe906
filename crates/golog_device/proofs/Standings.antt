-- Devices that change one by one.
use Rattle.std.proofs.Common.{◌≡◌, ◌≢◌, ℕ, ◌<◌, List, [], ◌∷◌, ◌++◌, Option, None, Some, Bool, true, false, length, map, set, get_or, slice_get, refl, ap, sym, ◌∙◌, subst, arith, inl, inr, ◌+◌, nat_lt, IsSomeAnd, suc, ◌==◌, ◌⊎◌, length-set, length-append, get_or-set_same, add-zero, zero-add, zero}
use Rattle.std.proofs.lemmas.Grind.{common_steps, flat_map-append}
use Rattle.std.proofs.lemmas.Option.{slice_get-get_or, slice_get_read, slice_get_past, slice_get_cases, slice_get-map}
use Rattle.std.proofs.lemmas.Bool.Decides.{eqb_tells, leb_tells}
use Rattle.std.proofs.lemmas.Bool.{lt-ltb, le-ltb}
use Rattle.std.specs.Prelude.{unwrap_or}
use Rattle.std.specs.List.{enumerate_from, flat_map}
use Rattle.std.proofs.lemmas.List.{length-map, append-nil, set-get_or, get_or-map}
use Rattle.std.proofs.Math.ListN.{get_or-append}
use Rattle.std.proofs.Math.Seq.{get_or-append_seam}
use Rattle.golog_semantics.specs.Text.{Text}
use Rattle.golog_semantics.specs.Journal.{Journal}
use Rattle.golog_device.specs.Slots.{Standing, Both, EachSlot, ChangesIf, OnlySlot, HasAt, BeginsUnless, BeginsBelow, name_at, refusal, refusals, HaveBegun, BeginsAt}

pub slice_get-set_same : {A : Type 0} (xs : List A) (i : ℕ) (y : A) → i < length xs → slice_get (set xs i y) i ≡ Some y
slice_get-set_same xs i y within =
    slice_get_read (set xs i y) (length xs) i y (sym (length-set xs i y)) within (sym (get_or-set_same xs i y y within))

pub slice_get-set_other : {A : Type 0} (xs : List A) (i k : ℕ) (y : A) → k ≢ i → slice_get (set xs i y) k ≡ slice_get xs k
slice_get-set_other xs i k y other =
    elim (slice_get_cases xs k).1 [
      | inl (x, within, is, at) ↦ grind (arith, common_steps, slice_get-get_or)
      | inr (past, is) ↦ grind (arith, common_steps, slice_get_past)
    ]

-- the name that was read at a slot
pub named-at : (names read : List Text) (slot : ℕ) (name : Text) → read ≡ names → slot < length names → name ≡ get_or read slot name → name ≡ name_at names slot
named-at names read slot name same within is =
    let long : length read ≡ length names = ap (λ xs. length xs) same in
    ap (λ o. unwrap_or o []) (sym (slice_get_read read (length read) slot name refl (omega (arith, within, long)) is)) ∙ ap (λ xs. name_at xs slot) same

pub Both-same : (P : Standing → Standing → Type 0) (x : Option Standing) → ((m : Standing) → P m m) → Both P x x
Both-same P None same = tt
Both-same P (Some m) same = same m

-- a write to one slot changes that slot's device alone
pub OnlySlot-set : {A : Type 0} (stand : A → Standing) (P : Standing → Standing → Type 0) (devices : List A) (slot : ℕ) (d new : A)
    → slot < length devices → P (stand (get_or devices slot d)) (stand new)
    → OnlySlot slot P (map stand devices) (map stand (set devices slot new))
OnlySlot-set stand P devices slot d new within change = record { at = λ k. at k (eqb_tells k slot) } where
  at : (k : ℕ) → ((k == slot) ≡ true) × (k ≡ slot) ⊎ ((k == slot) ≡ false) × (k ≢ slot)
      → Both (ChangesIf (k == slot) P) (slice_get (map stand devices) k) (slice_get (map stand (set devices slot new)) k)
  at k (inl (test, here)) =
      rw (
        test,
        here,
        slice_get-map stand devices slot,
        slice_get-map stand (set devices slot new) slot,
        slice_get-get_or devices slot d within,
        slice_get-set_same devices slot new within,
      )
      change
  at k (inr (test, other)) =
      rw (test, slice_get-map stand devices k, slice_get-map stand (set devices slot new) k, slice_get-set_other devices slot k new other)
      (Both-same (ChangesIf false P) _ (λ m. refl))

pub HasAt-within : {A : Type 0} (stand : A → Standing) (P : Standing → Type 0) (devices : List A) (slot : ℕ)
    → HasAt (map stand devices) slot P → slot < length devices
HasAt-within stand P devices slot has =
    elim (slice_get_cases (map stand devices) slot).1 [
      | inl (m, within, is, at) ↦ rw length-map at within
      | inr (past, is) ↦ absurd (rw is at has)
    ]

-- the device of a slot that is known to be there
pub HasAt-get : {A : Type 0} (stand : A → Standing) (P : Standing → Type 0) (devices : List A) (slot : ℕ) (d : A)
    → slot < length devices → HasAt (map stand devices) slot P → P (stand (get_or devices slot d))
HasAt-get stand P devices slot d within has =
    rw (slice_get-map stand devices slot, slice_get-get_or devices slot d within) at has

pub Both-then : (P Q R : Standing → Standing → Type 0) (x y z : Option Standing)
    → ((a b c : Standing) → P a b → Q b c → R a c) → Both P x y → Both Q y z → Both R x z
Both-then P Q R None None None step first second = tt
Both-then P Q R (Some a) (Some b) (Some c) step first second = step a b c first second
Both-then P Q R None (Some b) z step first second = absurd first
Both-then P Q R (Some a) None z step first second = absurd first
Both-then P Q R None None (Some c) step first second = absurd second
Both-then P Q R (Some a) (Some b) None step first second = absurd second

-- two changes, one after the other
pub EachSlot-then : (P Q R : ℕ → Standing → Standing → Type 0) (olds mids news : List Standing)
    → ((slot : ℕ) (a b c : Standing) → P slot a b → Q slot b c → R slot a c)
    → EachSlot P olds mids → EachSlot Q mids news → EachSlot R olds news
EachSlot-then P Q R olds mids news step first second = record {
  at = λ slot. Both-then (P slot) (Q slot) (R slot) _ _ _ (step slot) (first.at slot) (second.at slot);
}

pub EachSlot-same : (P : ℕ → Standing → Standing → Type 0) (standings : List Standing) → ((slot : ℕ) (m : Standing) → P slot m m) → EachSlot P standings standings
EachSlot-same P standings same = record { at = λ slot. Both-same (P slot) _ (same slot) }

map-set : {A B : Type 0} (f : A → B) (xs : List A) (i : ℕ) (y : A) → map f (set xs i y) ≡ set (map f xs) i (f y)
map-set f [] i y = refl
map-set f (x ∷ xs) zero y = refl
map-set f (x ∷ xs) (suc i) y = ap (λ l. f x ∷ l) (map-set f xs i y)

-- the standing of one slot is as it was
pub stands-set : {A : Type 0} (stand : A → Standing) (devices : List A) (slot : ℕ) (d new : A) → slot < length devices
    → stand new ≡ stand (get_or devices slot d) → map stand (set devices slot new) ≡ map stand devices
stands-set stand devices slot d new within same =
    map-set stand devices slot new
    ∙ ap (set (map stand devices) slot) (same ∙ sym (get_or-map stand devices slot d (stand d) within))
    ∙ set-get_or (map stand devices) slot (stand d)

-- with one more slot
pub enumerate-push : {A : Type 0} (n : ℕ) (xs : List A) (x : A) → enumerate_from n (xs ++ x ∷ []) ≡ enumerate_from n xs ++ (n + length xs, x) ∷ []
enumerate-push n [] x = ap (λ k. (k, x) ∷ []) (sym (add-zero n))
enumerate-push n (y ∷ xs) x =
    let k : n + 1 + length xs ≡ n + length (y ∷ xs) = omega arith in
    ap (λ es. (n, y) ∷ es) (enumerate-push (n + 1) xs x) ∙ ap (λ i. (n, y) ∷ (enumerate_from (n + 1) xs ++ (i, x) ∷ [])) k

refusals-push : (refused : List Bool) (b : Bool) → refusals (refused ++ b ∷ []) ≡ refusals refused ++ refusal (length refused, b)
refusals-push refused b =
    ap (flat_map refusal) (enumerate-push 0 refused b ∙ ap (λ n. enumerate_from 0 refused ++ (n, b) ∷ []) (zero-add (length refused)))
    ∙ flat_map-append refusal (enumerate_from 0 refused) ((length refused, b) ∷ [])
    ∙ ap (λ l. refusals refused ++ l) (append-nil (refusal (length refused, b)))

pub begun-none : (names texts : List Text) (journal : Journal) (standings : List Standing) → journal ≡ [] → HaveBegun 0 names texts journal standings standings
begun-none names texts journal standings empty = record {
  refused = [];
  one_each = refl;
  closed = empty;
  begun = EachSlot-same _ standings (λ slot m. below slot m (le-ltb slot 0 (omega arith)));
}
  where
    below : (slot : ℕ) (m : Standing) → nat_lt slot 0 ≡ false
        → ChangesIf (nat_lt slot 0) (BeginsUnless false (name_at names slot) (get_or texts slot [])) m m
    below slot m not_below = rw not_below refl

-- the device of one more slot has begun
pub begun-next : (n : ℕ) (names texts : List Text) (before after : Journal) (olds mids news : List Standing) (text : Text) → text ≡ get_or texts n []
    → HaveBegun n names texts before olds mids → BeginsAt n (name_at names n) text before after mids news → HaveBegun (n + 1) names texts after olds news
begun-next n names texts before after olds mids news text text_is first second = record {
  refused = first.refused ++ second.refused ∷ [];
  one_each = let l = length-append first.refused (second.refused ∷ []) in let k = first.one_each in omega (arith, l, k);
  closed =
      second.closed ∙ ap (λ j. j ++ refusal (n, second.refused)) first.closed
      ∙ ap (λ k. refusals first.refused ++ refusal (k, second.refused)) (sym first.one_each)
      ∙ sym (refusals-push first.refused second.refused);
  begun = EachSlot-then _ _ _ olds mids news step first.begun second.begun;
}
  where
    step : (slot : ℕ) (a b c : Standing)
        → ChangesIf (nat_lt slot n) (BeginsUnless (get_or first.refused slot false) (name_at names slot) (get_or texts slot [])) a b
        → ChangesIf (slot == n) (BeginsUnless second.refused (name_at names n) text) b c
        → ChangesIf (nat_lt slot (n + 1)) (BeginsUnless (get_or (first.refused ++ second.refused ∷ []) slot false) (name_at names slot) (get_or texts slot [])) a c
    step slot a b c before now = cases (eqb_tells slot n) (leb_tells (suc slot) n) before now
      where
        cases : ((slot == n) ≡ true) × (slot ≡ n) ⊎ ((slot == n) ≡ false) × (slot ≢ n)
            → (nat_lt slot n ≡ true) × (slot < n) ⊎ (nat_lt slot n ≡ false) × (n < suc slot)
            → ChangesIf (nat_lt slot n) (BeginsUnless (get_or first.refused slot false) (name_at names slot) (get_or texts slot [])) a b
            → ChangesIf (slot == n) (BeginsUnless second.refused (name_at names n) text) b c
            → ChangesIf (nat_lt slot (n + 1)) (BeginsUnless (get_or (first.refused ++ second.refused ∷ []) slot false) (name_at names slot) (get_or texts slot [])) a c
        cases (inl (here, is)) (inl (below, lt)) before now = absurd (omega arith)
        cases (inl (here, is)) (inr (past, gt)) before now =
            let long = first.one_each in
            let own : get_or (first.refused ++ second.refused ∷ []) slot false ≡ second.refused = ap (λ k. get_or (first.refused ++ second.refused ∷ []) k false) (is ∙ sym long) ∙ get_or-append_seam first.refused second.refused [] false in
            rw (lt-ltb slot (n + 1) (omega arith), own, is, ← text_is)
            (subst (λ m. BeginsUnless second.refused (name_at names n) text m c) (rw past at before) (rw here at now))
        cases (inr (elsewhere, is)) (inl (below, lt)) before now =
            let b_is : c ≡ b = rw elsewhere at now in
            let long = first.one_each in
            let own : get_or (first.refused ++ second.refused ∷ []) slot false ≡ get_or first.refused slot false = get_or-append first.refused (second.refused ∷ []) false slot (omega (arith, lt, long)) in
            rw (lt-ltb slot (n + 1) (omega arith), b_is, own) (rw below at before)
        cases (inr (elsewhere, is)) (inr (past, gt)) before now =
            let c_is : c ≡ b = rw elsewhere at now in
            let b_is : b ≡ a = rw past at before in
            rw (le-ltb slot (n + 1) (omega arith)) (c_is ∙ b_is)

-- a slot that has not begun still has what it had
pub begun-has : (n : ℕ) (P : Standing → Type 0) (names texts : List Text) (journal : Journal) (olds news : List Standing)
    → HaveBegun n names texts journal olds news → HasAt olds n P → HasAt news n P
begun-has n P names texts journal olds news begun has = has_after (slice_get olds n) (slice_get news n) kept has where
  has_after : (x y : Option Standing) → Both (λ old new. new ≡ old) x y → IsSomeAnd x P → IsSomeAnd y P
  has_after None y same none = absurd none
  has_after (Some old) None same none = absurd same
  has_after (Some old) (Some new) same has = rw same has

  unchanged : (x y : Option Standing) → Both (BeginsBelow n names texts begun.refused n) x y → Both (λ old new. new ≡ old) x y
  unchanged None None both = tt
  unchanged None (Some new) both = absurd both
  unchanged (Some old) None both = absurd both
  unchanged (Some old) (Some new) both =
      subst (λ b. ChangesIf b (BeginsUnless (get_or begun.refused n false) (name_at names n) (get_or texts n [])) old new) (le-ltb n n (omega arith)) both

  kept : Both (λ old new. new ≡ old) (slice_get olds n) (slice_get news n)
  kept = unchanged (slice_get olds n) (slice_get news n) ((begun.begun).at n)
