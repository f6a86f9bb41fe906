-- Parties, and the entries that are theirs.
use Rattle.std.proofs.Common.{◌≡◌, ◌≢◌, ◌⊎◌, inl, inr, ℕ, zero, suc, ◌+◌, ◌<◌, ◌≤◌, ◌==◌, ◌||◌, Bool, true, false, true≢false, List, [], ◌∷◌, ◌++◌, length, refl, sym, ap, subst, ⊎_elim, ◌∙◌, arith}
use Rattle.std.specs.Prelude.{MatchBool}
use Rattle.std.proofs.Math.Bool.{or_assoc}
use Rattle.std.proofs.lemmas.List.Elements.{filter-append}
use Rattle.std.proofs.lemmas.Bool.{eq-eqb}
use Rattle.std.proofs.lemmas.Bool.Decides.{nat_tests}
use Rattle.golog_turn.specs.Parties.{contains, without, parties_below, own, AreOf}

pub contains-append : (ps qs : List ℕ) (p : ℕ) → contains (ps ++ qs) p ≡ (contains ps p || contains qs p)
contains-append [] qs p = refl
contains-append (x ∷ ps) qs p = ap (λ b. (x == p) || b) (contains-append ps qs p) ∙ sym (or_assoc (x == p) (contains ps p) (contains qs p))

module _ {E : Type 0} (party : E → ℕ) where
  pub own-append : (ps : List ℕ) (xs ys : List E) → own party ps (xs ++ ys) ≡ own party ps xs ++ own party ps ys
  own-append ps xs ys = filter-append (λ e. contains ps (party e)) xs ys

  pub own_all : (ps : List ℕ) (es : List E) → AreOf party ps es → own party ps es ≡ es
  own_all ps [] are = refl
  own_all ps (e ∷ es) are = rw are.0 (ap (λ l. e ∷ l) (own_all ps es are.1))

  -- entries of other parties
  own_none_step : (qs : List ℕ) (e : E) (es : List E) (b : Bool) → contains qs (party e) ≡ b → (b ≡ true → ⊥) → own party qs es ≡ [] → own party qs (e ∷ es) ≡ []
  own_none_step qs e es true is other rest = absurd (other refl)
  own_none_step qs e es false is other rest = rw is rest

  pub own_none : (ps qs : List ℕ) (es : List E) → ((p : ℕ) → contains ps p ≡ true → contains qs p ≡ true → ⊥) → AreOf party ps es → own party qs es ≡ []
  own_none ps qs [] apart are = refl
  own_none ps qs (e ∷ es) apart are = own_none_step qs e es (contains qs (party e)) refl (apart (party e) are.0) (own_none ps qs es apart are.1)

  head_is_other : (ps : List ℕ) (e : E) (es : List E) (b : Bool) → contains ps (party e) ≡ b → own party ps (e ∷ es) ≡ [] → (contains ps (party e) ≡ false) × (own party ps es ≡ [])
  head_is_other ps e es true is none = let bad : (e ∷ own party ps es) ≡ [] = sym (rw is refl) ∙ none in absurd (cc)
  head_is_other ps e es false is none = (is, sym (rw is refl) ∙ none)

  -- fewer parties have no more entries
  pub own_fewer : (ps qs : List ℕ) (es : List E) → ((p : ℕ) → contains qs p ≡ true → contains ps p ≡ true) → own party ps es ≡ [] → own party qs es ≡ []
  own_fewer ps qs [] fewer none = refl
  own_fewer ps qs (e ∷ es) fewer none =
      let head = head_is_other ps e es (contains ps (party e)) refl none in
      own_none_step qs e es (contains qs (party e)) refl (λ is. true≢false (sym (fewer (party e) is) ∙ head.0)) (own_fewer ps qs es fewer head.1)

module _ {E : Type 0} (party : E → ℕ) where
  pub own_nobody : (es : List E) → own party [] es ≡ []
  own_nobody [] = refl
  own_nobody (e ∷ es) = own_nobody es

  pub own_both : (ps qs : List ℕ) (es : List E) → own party ps es ≡ [] → own party qs es ≡ [] → own party (ps ++ qs) es ≡ []
  own_both ps qs [] none empty' = refl
  own_both ps qs (e ∷ es) none empty' =
      let a = head_is_other party ps e es (contains ps (party e)) refl none in
      let b = head_is_other party qs e es (contains qs (party e)) refl empty' in
      own_none_step party (ps ++ qs) e es (contains (ps ++ qs) (party e)) refl
      (λ is. true≢false (sym is ∙ (contains-append ps qs (party e) ∙ rw (a.0, b.0) refl))) (own_both ps qs es a.1 b.1)

  -- what has none of them at all has none of them at its end
  pub own_end : (ps : List ℕ) (xs ys : List E) → own party ps (xs ++ ys) ≡ [] → own party ps ys ≡ []
  own_end ps [] ys none = none
  own_end ps (x ∷ xs) ys none = own_end ps xs ys (head_is_other party ps x (xs ++ ys) (contains ps (party x)) refl none).1

module _ {E : Type 0} (party : E → ℕ) where
  pub own_start : (ps : List ℕ) (xs ys : List E) → own party ps (xs ++ ys) ≡ [] → own party ps xs ≡ []
  own_start ps xs ys empty = front (own party ps xs) (own party ps ys) (sym (own-append party ps xs ys) ∙ empty)
    where
      front : (as' bs : List E) → as' ++ bs ≡ [] → as' ≡ []
      front [] bs e = refl
      front (x ∷ as') bs e = absurd (cc)

pub contains_either : (ps qs : List ℕ) (p : ℕ) → contains (ps ++ qs) p ≡ true → (contains ps p ≡ true) ⊎ (contains qs p ≡ true)
contains_either ps qs p has = go (contains ps p) refl (sym (contains-append ps qs p) ∙ has)
  where
    go : (b : Bool) → contains ps p ≡ b → (contains ps p || contains qs p) ≡ true → (contains ps p ≡ true) ⊎ (contains qs p ≡ true)
    go true is or = inl is
    go false is or = inr (sym (rw is refl) ∙ or)

pub only : (p q : ℕ) → contains (p ∷ []) q ≡ true → q ≡ p
only p q has = grind (arith, nat_tests)

without_step : (p x : ℕ) (xs : List ℕ) (q : ℕ) → (contains (without p xs) q ≡ true → (contains xs q ≡ true) × (q ≢ p)) → contains (without p (x ∷ xs)) q ≡ true → (contains (x ∷ xs) q ≡ true) × (q ≢ p)
without_step p x xs q rest has = go (x == p) refl (x == q) refl
  where
    go : (b : Bool) → (x == p) ≡ b → (c : Bool) → (x == q) ≡ c → (contains (x ∷ xs) q ≡ true) × (q ≢ p)
    go true is true at = let r = rest (sym (rw is refl) ∙ has) in (rw at refl, r.1)
    go true is false at = let r = rest (sym (rw is refl) ∙ has) in (rw at r.0, r.1)
    go false is true at = (rw at refl, λ e. true≢false (sym at ∙ ap (λ k. x == k) e ∙ is))
    go false is false at = let r = rest (sym (rw (is, at) refl) ∙ has) in (rw at r.0, r.1)

pub contains-without : (p : ℕ) (ps : List ℕ) (q : ℕ) → contains (without p ps) q ≡ true → (contains ps q ≡ true) × (q ≢ p)
contains-without p [] q has = absurd (true≢false (sym has))
contains-without p (x ∷ ps) q has = without_step p x ps q (contains-without p ps q) has

length_step : (p x : ℕ) (xs : List ℕ) (b : Bool) → (x == p) ≡ b → length (without p xs) ≤ length xs → length (without p (x ∷ xs)) ≤ length (x ∷ xs)
length_step p x xs true is le = rw is (omega arith)
length_step p x xs false is le = rw is (omega arith)

pub length-without_le : (p : ℕ) (ps : List ℕ) → length (without p ps) ≤ length ps
length-without_le p [] = omega arith
length-without_le p (x ∷ ps) = length_step p x ps (x == p) refl (length-without_le p ps)

length_less : (p x : ℕ) (xs : List ℕ) (b : Bool) → (x == p) ≡ b → contains (x ∷ xs) p ≡ true → (contains xs p ≡ true → length (without p xs) + 1 ≤ length xs) → length (without p (x ∷ xs)) + 1 ≤ length (x ∷ xs)
length_less p x xs true is has less = let le = length-without_le p xs in rw is (omega arith)
length_less p x xs false is has less = let l = less (sym (rw is refl) ∙ has) in rw is (omega arith)

pub length-without : (p : ℕ) (ps : List ℕ) → contains ps p ≡ true → length (without p ps) + 1 ≤ length ps
length-without p [] has = absurd (true≢false (sym has))
length-without p (x ∷ ps) has = length_less p x ps (x == p) refl has (length-without p ps)

pub length-parties_below : (n : ℕ) → length (parties_below n) ≡ n
length-parties_below zero = refl
length-parties_below (suc n) = ap suc (length-parties_below n)

module _ {E : Type 0} (party : E → ℕ) (ps : List ℕ) where
  pub are_none : (added : List E) → added ≡ [] → AreOf party ps added
  are_none added none = subst (λ l. AreOf party ps l) (sym none) tt

  pub are_one : (e : E) (added : List E) → contains ps (party e) ≡ true → added ≡ e ∷ [] → AreOf party ps added
  are_one e added has one = subst (λ l. AreOf party ps l) (sym one) (has, tt)

  -- one entry where the test holds, and else none
  pub are_at_most_one : (A B : Type 0) (test : Bool) (e : E) (added : List E) → contains ps (party e) ≡ true → MatchBool test ((added ≡ e ∷ []) × A) ((added ≡ []) × B) → AreOf party ps added
  are_at_most_one A B true e added has m = are_one e added has m.0
  are_at_most_one A B false e added has m = are_none added m.0

-- another party stays
pub contains_other : (p q : ℕ) (ps : List ℕ) → q ≢ p → contains ps q ≡ true → contains (without p ps) q ≡ true
contains_other p q [] ne has = absurd (true≢false (sym has))
contains_other p q (x ∷ xs) ne has = step p q x xs (x == p) refl (x == q) refl ne has (contains_other p q xs ne)
  where
    step : (p q x : ℕ) (xs : List ℕ) (b : Bool) → (x == p) ≡ b → (c : Bool) → (x == q) ≡ c → q ≢ p → contains (x ∷ xs) q ≡ true → (contains xs q ≡ true → contains (without p xs) q ≡ true) → contains (without p (x ∷ xs)) q ≡ true
    step p q x xs true is true at ne has rest = absurd (ne (grind (arith, nat_tests)))
    step p q x xs true is false at ne has rest = rw is (rest (sym (rw at refl) ∙ has))
    step p q x xs false is true at ne has rest = rw is (rw at refl)
    step p q x xs false is false at ne has rest = rw is (rw at (rest (sym (rw at refl) ∙ has)))

below_step : (n p : ℕ) → p < suc n → (b : Bool) → (n == p) ≡ b → (p < n → contains (parties_below n) p ≡ true) → contains (parties_below (suc n)) p ≡ true
below_step n p less true is rest = rw is refl
below_step n p less false is rest = let ne : n ≢ p = λ e. true≢false (sym (eq-eqb n p e) ∙ is) in rw is (rest (omega arith))

pub contains_below : (n p : ℕ) → p < n → contains (parties_below n) p ≡ true
contains_below zero p less = absurd (omega arith)
contains_below (suc n) p less = below_step n p less (n == p) refl (contains_below n p)

pub contains_first : (ps qs : List ℕ) (p : ℕ) → contains ps p ≡ true → contains (ps ++ qs) p ≡ true
contains_first ps qs p has = contains-append ps qs p ∙ rw has refl

-- party 0 and those from `next` on, where `next` is given away
pub held_after_next : (next n : ℕ) (ps : List ℕ) → 0 < next → ((p : ℕ) → p < n → (p ≡ 0) ⊎ (next ≤ p) → contains ps p ≡ true) → (p : ℕ) → p < n → (p ≡ 0) ⊎ (next + 1 ≤ p) → contains (without next ps) p ≡ true
held_after_next next n ps some held p less which =
    contains_other next p ps (λ e. ⊎_elim (λ z. omega arith) (λ l. omega arith) which) (held p less (⊎_elim (λ z. inl z) (λ l. inr (omega arith)) which))
