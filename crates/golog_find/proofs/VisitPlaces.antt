-- Where what is kept of programs stands, after one more was visited.
use Rattle.std.proofs.Common.{◌≡◌, ◌≢◌, ℕ, zero, suc, ◌+◌, ◌-◌, ◌<◌, ◌≤◌, ◌^◌, Bool, true, false, ◌||◌, Option, Some, None, List, [], ◌∷◌, ◌++◌, length, inl, inr, refl, sym, ap, ◌∙◌, subst, arith}
use Rattle.std.specs.Prelude.{◌==◌, cond, slice_get}
use Rattle.std.specs.List.{All, list_any, sum_by}
use Rattle.std.specs.Option.{is_some, option_map}
use Rattle.std.proofs.lemmas.Bool.{cases_lt, eq-eqb, eqb-true, ne_eqb}
use Rattle.std.proofs.lemmas.List.Elements.{All-head, All-tail}
use Rattle.std.proofs.lemmas.List.Folds.{list_any-append}
use Rattle.std.proofs.lemmas.List.Sums.{sum_by-append}
use Rattle.golog_semantics.proofs.GroundNumbers.{slice_get-left, slice_get-right, some-same}
use Rattle.golog_find.specs.declared.visits.Opened.{Opened}
use Rattle.golog_find.specs.declared.visits.Visits.{Visits}
use Rattle.golog_find.specs.Visits.{ArePlaced, IsVisited, fronts_kept, keeps, most_kept, nothing, place_in, was_asked}

pub all-at : {A : Type 0} (P : A → Type 0) (xs : List A) (i : ℕ) (x : A) → All P xs → slice_get xs i ≡ Some x → P x
all-at P [] i x h e = absurd (cc)
all-at P (y ∷ xs) zero x h e = subst P (some-same y x e) (All-head P y xs h)
all-at P (y ∷ xs) (suc i) x h e = all-at P xs i x (All-tail P y xs h) e

abbrev number_of : Opened → ℕ
number_of o = o.prog

module _ (number : ℕ) where
  -- a program is kept where one has its number, and is not where none has
  some-such : (os : List Opened) (i : ℕ) → option_map number_of (slice_get os i) ≡ Some number → list_any (λ (o : Opened). number == o.prog) os ≡ true
  some-such [] i e = absurd (cc)
  some-such (o ∷ os) zero e = ap (λ b. b || list_any (λ (z : Opened). number == z.prog) os) (eq-eqb number o.prog (sym (some-same o.prog number e)))
  some-such (o ∷ os) (suc i) e = either (number == o.prog) (some-such os i e)
    where
      either : (b : Bool) → list_any (λ (z : Opened). number == z.prog) os ≡ true → (b || list_any (λ (z : Opened). number == z.prog) os) ≡ true
      either true h = refl
      either false h = h

  none-such : (os : List Opened) → ((i : ℕ) (o : Opened) → slice_get os i ≡ Some o → number ≡ o.prog → ⊥) → list_any (λ (o : Opened). number == o.prog) os ≡ false
  none-such [] h = refl
  none-such (o ∷ os) h =
      ap (λ b. b || list_any (λ (z : Opened). number == z.prog) os) (ne_eqb number o.prog (h 0 o refl))
      ∙ none-such os (λ i z e. h (suc i) z e)

  -- where nothing stands, or another program, it is not kept
  pub unasked : (visits : Visits) → ArePlaced visits → place_in visits number ≡ None → keeps visits number ≡ false
  unasked visits h e = none-such visits.opened (λ i o at n. let there = h.place i o at in let same = ap (place_in visits) n in absurd (cc (there, same, e)))

  pub unplaced : (visits : Visits) (place : ℕ) → ArePlaced visits → place_in visits number ≡ Some place → slice_get visits.opened place ≡ None → keeps visits number ≡ false
  unplaced visits place h e none = none-such visits.opened (λ i o at n.
      let same : place ≡ i = some-same place i (sym e ∙ ap (place_in visits) n ∙ h.place i o at) in
      let absent : slice_get visits.opened i ≡ None = ap (slice_get visits.opened) (sym same) ∙ none in
      absurd (cc (at, absent)))

  pub another : (visits : Visits) (place : ℕ) (other : Opened) → ArePlaced visits → place_in visits number ≡ Some place → slice_get visits.opened place ≡ Some other
      → (other.prog ≡ number → ⊥) → keeps visits number ≡ false
  another visits place other h e stands is_other = none-such visits.opened (λ i o at n.
      let same : place ≡ i = some-same place i (sym e ∙ ap (place_in visits) n ∙ h.place i o at) in
      let it : other ≡ o = some-same other o (sym stands ∙ ap (slice_get visits.opened) same ∙ at) in
      absurd (is_other (ap number_of it ∙ sym n)))

-- nothing changes where a program is visited again of which all is kept, or for which there is no room
module _ (visits : Visits) (number place : ℕ) (h : ArePlaced visits) (stands : place_in visits number ≡ Some place) where
  asked-still : (n : ℕ) → was_asked visits n ≡ (number == n || was_asked visits n)
  asked-still n = go (number == n) refl
    where
      go : (b : Bool) → (number == n) ≡ b → was_asked visits n ≡ (b || was_asked visits n)
      go true t = ap is_some (ap (place_in visits) (sym (eqb-true number n t)) ∙ stands)
      go false t = refl

  pub visited-still : (place ≡ nothing → visits.count < most_kept → ⊥) → IsVisited number visits visits
  visited-still full = record {
    asked = asked-still;
    stays = λ n e. e;
    again = λ t room.
        let few = h.counted in
        some-such number visits.opened place (h.there number place stands (λ n. full n (omega arith)));
  }

-- a place is told of one more number
module _ (old new : Visits) (number place : ℕ) (updates : (q : ℕ) → place_in new q ≡ cond (number == q) (Some place) (place_in old q)) where
  here : place_in new number ≡ Some place
  here = updates number ∙ ap (λ b. cond b (Some place) (place_in old number)) (eq-eqb number number refl)

  other : (q : ℕ) → (number == q) ≡ false → place_in new q ≡ place_in old q
  other q n = updates q ∙ ap (λ b. cond b (Some place) (place_in old q)) n

  asked-more : (n : ℕ) → was_asked new n ≡ (number == n || was_asked old n)
  asked-more n = ap is_some (updates n) ∙ go (number == n)
    where
      go : (b : Bool) → is_some (cond b (Some place) (place_in old n)) ≡ (b || is_some (place_in old n))
      go true = refl
      go false = refl

  -- it is the first time
  module _ (same : new.opened ≡ old.opened) (count : new.count ≡ old.count) (is : place ≡ nothing) (absent : place_in old number ≡ None) where
    pub placed-first : ArePlaced old → ArePlaced new
    placed-first h = record {
      place = λ i o e.
          let before = h.place i o (ap (λ os. slice_get os i) (sym same) ∙ e) in
          other o.prog (ne_eqb number o.prog (λ n. let k = ap (place_in old) n in absurd (cc (k, absent, before)))) ∙ before;
      there = λ q i e n. go q i e n (number == q) refl;
      counted = subst (λ (c : ℕ). c ≤ fronts_kept new) (sym count) (subst (λ (os : List Opened). old.count ≤ sum_by (λ o. length o.fronts) os) (sym same) h.counted);
    }
      where
        go : (q i : ℕ) → place_in new q ≡ Some i → i ≢ nothing → (b : Bool) → (number == q) ≡ b → option_map number_of (slice_get new.opened i) ≡ Some q
        go q i e n true t = absurd (n (sym (some-same place i (sym here ∙ ap (place_in new) (eqb-true number q t) ∙ e)) ∙ is))
        go q i e n false t = ap (λ os. option_map number_of (slice_get os i)) same ∙ h.there q i (sym (other q t) ∙ e) n

    pub visited-first : IsVisited number old new
    visited-first = record {
      asked = asked-more;
      stays = λ n e. ap (list_any (λ (o : Opened). n == o.prog)) same ∙ e;
      again = λ t room. let none = ap is_some absent in absurd (cc (none, t));
    }

  -- its program is kept now
  module _ (o : Opened) (more : new.opened ≡ old.opened ++ o ∷ []) (is : place ≡ length old.opened) (few : place ≤ nothing) (same : o.prog ≡ number) (asked : place_in old number ≡ Some nothing)
      (count : new.count ≤ old.count + length o.fronts) where
    last : slice_get new.opened place ≡ Some o
    last = ap (λ os. slice_get os place) more ∙ slice_get-right old.opened (o ∷ []) place 0 (omega arith)

    stays-at : (os : List Opened) (i q : ℕ) → option_map number_of (slice_get os i) ≡ Some q → option_map number_of (slice_get (os ++ o ∷ []) i) ≡ Some q
    stays-at [] i q e = absurd (cc)
    stays-at (z ∷ os) zero q e = e
    stays-at (z ∷ os) (suc i) q e = stays-at os i q e

    pub kept-now : keeps new number ≡ true
    kept-now = some-such number new.opened place (ap (option_map number_of) last ∙ ap Some same)

    pub placed-more : ArePlaced old → ArePlaced new
    placed-more h = record {
      place = λ i z e. at i z (ap (λ os. slice_get os i) (sym more) ∙ e);
      there = λ q i e n. go q i e n (number == q) refl;
      counted =
          let before = h.counted in
          let kept : fronts_kept new ≡ fronts_kept old + length o.fronts =
          ap (sum_by (λ (z : Opened). length z.fronts)) more ∙ sum_by-append (λ (z : Opened). length z.fronts) old.opened (o ∷ []) ∙ omega arith in
          omega arith;
    }
      where
        at : (i : ℕ) (z : Opened) → slice_get (old.opened ++ o ∷ []) i ≡ Some z → place_in new z.prog ≡ Some i
        at i z e = elim (cases_lt i (length old.opened)) [ inl l ↦ before l | inr l ↦ behind (i - length old.opened) (omega arith) ]
          where
            before : i < length old.opened → place_in new z.prog ≡ Some i
            before l =
                let there = h.place i z (sym (slice_get-left old.opened (o ∷ []) i l) ∙ e) in
                other z.prog (ne_eqb number z.prog (λ n. let k : i ≡ nothing = some-same i nothing (sym there ∙ ap (place_in old) (sym n) ∙ asked) in omega arith)) ∙ there

            behind : (j : ℕ) → i ≡ length old.opened + j → place_in new z.prog ≡ Some i
            behind zero k =
                let it : o ≡ z = some-same o z (sym (slice_get-right old.opened (o ∷ []) i 0 k) ∙ e) in
                ap (place_in new) (ap number_of (sym it) ∙ same) ∙ here ∙ ap Some (let n : place ≡ i = omega arith in n)
            behind (suc j) k = absurd (let none = sym (slice_get-right old.opened (o ∷ []) i (suc j) k) ∙ e in cc)

        go : (q i : ℕ) → place_in new q ≡ Some i → i ≢ nothing → (b : Bool) → (number == q) ≡ b → option_map number_of (slice_get new.opened i) ≡ Some q
        go q i e n true t =
            let it = eqb-true number q t in
            let at : place ≡ i = some-same place i (sym here ∙ ap (place_in new) it ∙ e) in
            ap (λ (k : ℕ). option_map number_of (slice_get new.opened k)) (sym at) ∙ ap (option_map number_of) last ∙ ap Some (same ∙ it)
        go q i e n false t = ap (λ os. option_map number_of (slice_get os i)) more ∙ stays-at old.opened i q (h.there q i (sym (other q t) ∙ e) n)

    pub visited-more : IsVisited number old new
    visited-more = record {
      asked = asked-more;
      stays = λ n e.
          ap (list_any (λ (z : Opened). n == z.prog)) more ∙ list_any-append (λ (z : Opened). n == z.prog) old.opened (o ∷ [])
          ∙ ap (λ b. b || list_any (λ (z : Opened). n == z.prog) (o ∷ [])) e;
      again = λ t room. kept-now;
    }
