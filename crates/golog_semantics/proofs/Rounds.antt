-- Tests that grow round by round settle after as many rounds as there are tests.
use Rattle.std.proofs.Common.{◌≡◌, ◌⊎◌, inl, inr, ℕ, zero, suc, ◌+◌, ◌≤◌, Bool, true, false, List, [], ◌∷◌, length, map, Option, Some, refl, sym, ap, subst, ◌∙◌, arith}
use Rattle.std.specs.Prelude.{⊤, slice_get}
use Rattle.std.proofs.lemmas.List.{length-map}

-- of two lists as long as each other, what is true in the first is true in the second
abbrev pub Below : List Bool → List Bool → Type 0
Below [] [] = ⊤
Below [] (c ∷ cs) = ⊥
Below (b ∷ bs) [] = ⊥
Below (b ∷ bs) (c ∷ cs) = (b ≡ true → c ≡ true) × Below bs cs

pub below-map : {A : Type 0} (f g : A → Bool) → ((x : A) → f x ≡ true → g x ≡ true) → (xs : List A) → Below (map f xs) (map g xs)
below-map f g h [] = tt
below-map f g h (x ∷ xs) = (h x, below-map f g h xs)

-- what a test, which is `read` of the one of a number, finds true stays true
pub below-at : (read : Option Bool → Bool) → ((b : Bool) → read (Some b) ≡ b) → (bs cs : List Bool) → Below bs cs → (item : ℕ)
    → read (slice_get bs item) ≡ true → read (slice_get cs item) ≡ true
below-at read is [] [] h item e = e
below-at read is [] (c ∷ cs) h item e = absurd h
below-at read is (b ∷ bs) [] h item e = absurd h
below-at read is (b ∷ bs) (c ∷ cs) h zero e = is c ∙ h.0 (sym (is b) ∙ e)
below-at read is (b ∷ bs) (c ∷ cs) h (suc item) e = below-at read is bs cs h.1 item e

trues : List Bool → ℕ
trues [] = 0
trues (true ∷ bs) = suc (trues bs)
trues (false ∷ bs) = trues bs

trues-length : (bs : List Bool) → trues bs ≤ length bs
unfolding trues
trues-length [] = omega arith
trues-length (true ∷ bs) = let h = trues-length bs in omega arith
trues-length (false ∷ bs) = let h = trues-length bs in omega arith

below-more : (bs cs : List Bool) → Below bs cs → (bs ≡ cs) ⊎ (suc (trues bs) ≤ trues cs)
unfolding trues
below-more [] [] h = inl refl
below-more [] (c ∷ cs) h = absurd h
below-more (b ∷ bs) [] h = absurd h
below-more (true ∷ bs) (true ∷ cs) h = elim (below-more bs cs h.1) [ inl e ↦ inl (ap (λ ds. true ∷ ds) e) | inr l ↦ inr (omega arith) ]
below-more (true ∷ bs) (false ∷ cs) h = absurd (cc (h.0 refl))
below-more (false ∷ bs) (true ∷ cs) h = inr (elim (below-more bs cs h.1) [ inl e ↦ (let k = ap trues e in omega arith) | inr l ↦ omega arith ])
below-more (false ∷ bs) (false ∷ cs) h = elim (below-more bs cs h.1) [ inl e ↦ inl (ap (λ ds. false ∷ ds) e) | inr l ↦ inr (omega arith) ]

-- rounds of tests: what was true stays, each is as long as the first, and a round depends on the one before alone
pub record Rounds (rounds : ℕ → List Bool) (size : ℕ) : Type 0 where
  pub rises : (k : ℕ) → Below (rounds k) (rounds (suc k))
  pub lengths : (k : ℕ) → length (rounds k) ≡ size
  pub next : (k j : ℕ) → rounds k ≡ rounds j → rounds (suc k) ≡ rounds (suc j)

module _ (rounds : ℕ → List Bool) (size : ℕ) (r : Rounds rounds size) where
  -- a round is the last one, or more tests than rounds are true
  round : (k : ℕ) → (rounds k ≡ rounds (suc k)) ⊎ (suc k ≤ trues (rounds (suc k)))
  round zero = elim (below-more (rounds 0) (rounds 1) (r.rises 0)) [ inl e ↦ inl e | inr l ↦ inr (omega arith) ]
  round (suc k) =
      elim (round k) [
        | inl e ↦ inl (r.next k (suc k) e)
        | inr l ↦ elim (below-more (rounds (suc k)) (rounds (suc (suc k))) (r.rises (suc k))) [ inl e ↦ inl e | inr h ↦ inr (omega arith) ]
      ]

  pub last_round : rounds size ≡ rounds (suc size)
  last_round =
      elim (round size) [
        | inl e ↦ e
        | inr l ↦ absurd (let h = trues-length (rounds (suc size)) in let k = r.lengths (suc size) in omega arith)
      ]

  -- no later round says anything else
  pub rounds-settled : (more k : ℕ) → k ≡ more + size → rounds k ≡ rounds size
  rounds-settled zero k e = ap rounds (omega arith)
  rounds-settled (suc more) k e =
      ap rounds (let h : k ≡ suc (more + size) = omega arith in h) ∙ r.next (more + size) size (rounds-settled more (more + size) refl) ∙ sym last_round

-- a test of each item by what the round before found of all, which stays true where more was found
module _ {A : Type 0} (items : List A) (test : List Bool → A → Bool) (to : ℕ → List Bool) (first : to 0 ≡ map (λ x. false) items)
    (next : (k : ℕ) → to (suc k) ≡ map (test (to k)) items) (more : (bs cs : List Bool) → Below bs cs → (x : A) → test bs x ≡ true → test cs x ≡ true) where
  rising : (k : ℕ) → Below (to k) (to (suc k))
  rising zero =
      subst (λ bs. Below bs (to 1)) (sym first)
      (subst (λ bs. Below (map (λ x. false) items) bs) (sym (next 0)) (below-map (λ x. false) (test (to 0)) (λ x e. cc) items))
  rising (suc k) =
      subst (λ bs. Below bs (to (suc (suc k)))) (sym (next k))
      (subst (λ bs. Below (map (test (to k)) items) bs) (sym (next (suc k))) (below-map (test (to k)) (test (to (suc k))) (more (to k) (to (suc k)) (rising k)) items))

  sizes : (k : ℕ) → length (to k) ≡ length items
  sizes zero = ap length first ∙ length-map items (λ x. false)
  sizes (suc k) = ap length (next k) ∙ length-map items (test (to k))

  pub tested-rounds : Rounds to (length items)
  tested-rounds = record { rises = rising; lengths = sizes; next = λ k j e. next k ∙ ap (λ bs. map (test bs) items) e ∙ sym (next j) }
