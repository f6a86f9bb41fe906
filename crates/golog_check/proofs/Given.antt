-- What is given by readings, one item after another.
use Rattle.std.proofs.Common.{◌≡◌, ℕ, Bool, true, false, List, [], ◌∷◌, ◌++◌, map, Result, Ok, Err, refl, sym, ap, subst, ◌∙◌}
use Rattle.std.specs.Prelude.{nat_eq, ◌==◌}
use Rattle.std.specs.List.{list_all, IsDistinct, AllByRecursion}
use Rattle.std.proofs.lemmas.Bool.{false_from_ne_true, eqb-true, eq-eqb}
use Rattle.std.proofs.lemmas.List.Folds.{list_any-append}
use Rattle.golog_tree.specs.declared.draft.DraftSense.{DraftSense}
use Rattle.golog_tree.specs.declared.agent.SenseItem.{SenseItem}
use Rattle.golog_rows.specs.Reading.{Reading}
use Rattle.golog_semantics.proofs.Tests.{and_both, and_cases, or_first, or_second}
use Rattle.golog_check.specs.DeclaredItems.{Declared}
use Rattle.golog_check.specs.Effects.{is_sensed, sense_by, senses_in}
use Rattle.golog_rows.specs.Least.{CodeAt}
use Rattle.golog_check.specs.Least.{value_of, given}

module _ {B : Type 0} where
  one-all : (q : B → Bool) (o : Result B CodeAt) (rest : List B) → ((y : B) → o ≡ Ok y → q y ≡ true)
      → list_all q rest ≡ true → list_all q (value_of o ++ rest) ≡ true
  one-all q (Ok y) rest holds h = and_both (q y) (list_all q rest) (holds y refl) h
  one-all q (Err refusal) rest holds h = h

  one-away : (f : B → ℕ) (n : ℕ) (o : Result B CodeAt) (rest : List B) → ((y : B) → o ≡ Ok y → nat_eq n (f y) ≡ false)
      → AllByRecursion (λ m. nat_eq n m ≡ false) (map f rest)
      → AllByRecursion (λ m. nat_eq n m ≡ false) (map f (value_of o ++ rest))
  one-away f n (Ok y) rest away h = (away y refl, h)
  one-away f n (Err refusal) rest away h = h

  one-once : (f : B → ℕ) (o : Result B CodeAt) (rest : List B)
      → ((y : B) → o ≡ Ok y → AllByRecursion (λ m. nat_eq (f y) m ≡ false) (map f rest))
      → IsDistinct nat_eq (map f rest) → IsDistinct nat_eq (map f (value_of o ++ rest))
  unfolding IsDistinct
  one-once f (Ok y) rest away h = (away y refl, h)
  one-once f (Err refusal) rest away h = h

module _ {A B : Type 0} (read : A → Reading B) where
  -- what holds of each that is given
  pub given-all : (q : B → Bool) (keep : A → Bool)
      → ((x : A) → keep x ≡ true → (y : B) → (read x).outcome ≡ Ok y → q y ≡ true)
      → (xs : List A) → list_all keep xs ≡ true → list_all q (given (map read xs)) ≡ true
  given-all q keep holds [] h = refl
  given-all q keep holds (x ∷ xs) h =
      let t = and_cases (keep x) (list_all keep xs) h in
      one-all q (read x).outcome (given (map read xs)) (λ y e. holds x t.0 y e) (given-all q keep holds xs t.1)

  module _ (f : B → ℕ) (g : A → ℕ) (same : (x : A) (y : B) → (read x).outcome ≡ Ok y → f y ≡ g x) where
    given-away : (n : ℕ) (xs : List A) → AllByRecursion (λ m. nat_eq n m ≡ false) (map g xs)
        → AllByRecursion (λ m. nat_eq n m ≡ false) (map f (given (map read xs)))
    given-away n [] h = tt
    given-away n (x ∷ xs) h =
        one-away f n (read x).outcome (given (map read xs)) (λ y e. ap (λ m. nat_eq n m) (same x y e) ∙ h.0) (given-away n xs h.1)

    -- numbers that stand once stand once in what is given
    pub given-once : (xs : List A) → IsDistinct nat_eq (map g xs) → IsDistinct nat_eq (map f (given (map read xs)))
    unfolding IsDistinct
    given-once [] h = tt
    given-once (x ∷ xs) h =
        one-once f (read x).outcome (given (map read xs))
        (λ y e. subst (λ n. AllByRecursion (λ m. nat_eq n m ≡ false) (map f (given (map read xs)))) (sym (same x y e))
        (given-away (g x) xs h.0)) (given-once xs h.1)

abbrev pub action_of : SenseItem → ℕ
action_of item = item.action

module _ (names : Declared) where
  -- what holds of each that senses
  pub senses-all : (q : SenseItem → Bool) (keep : DraftSense → Bool)
      → ((again : Bool) (x : DraftSense) → keep x ≡ true → (y : SenseItem) → (sense_by names again x).outcome ≡ Ok y → q y ≡ true)
      → (before xs : List DraftSense) → list_all keep xs ≡ true → list_all q (given (senses_in names before xs)) ≡ true
  senses-all q keep holds before [] h = refl
  senses-all q keep holds before (x ∷ xs) h =
      let t = and_cases (keep x) (list_all keep xs) h in
      one-all q (sense_by names (is_sensed before x.action) x).outcome (given (senses_in names (before ++ x ∷ []) xs))
      (λ y e. holds (is_sensed before x.action) x t.0 y e) (senses-all q keep holds (before ++ x ∷ []) xs t.1)

  sensed-more : (before : List DraftSense) (x : DraftSense) (action : ℕ) → is_sensed before action ≡ true
      → is_sensed (before ++ x ∷ []) action ≡ true
  sensed-more before x action h =
      list_any-append (λ (i : DraftSense). i.action == action) before (x ∷ [])
      ∙ or_first (is_sensed before action) (is_sensed (x ∷ []) action) h

  sensed-last : (before : List DraftSense) (x : DraftSense) → is_sensed (before ++ x ∷ []) x.action ≡ true
  sensed-last before x =
      list_any-append (λ (i : DraftSense). i.action == x.action) before (x ∷ [])
      ∙ or_second (is_sensed before x.action) (is_sensed (x ∷ []) x.action)
      (or_first (x.action == x.action) false (eq-eqb x.action x.action refl))

  module _ (is : (again : Bool) (x : DraftSense) (y : SenseItem) → (sense_by names again x).outcome ≡ Ok y → (again ≡ false) × (y.action ≡ x.action)) where
    senses-away : (n : ℕ) (before xs : List DraftSense) → is_sensed before n ≡ true
        → AllByRecursion (λ m. nat_eq n m ≡ false) (map action_of (given (senses_in names before xs)))
    senses-away n before [] h = tt
    senses-away n before (x ∷ xs) h =
        one-away action_of n (sense_by names (is_sensed before x.action) x).outcome (given (senses_in names (before ++ x ∷ []) xs))
        (λ y e.
        let t = is (is_sensed before x.action) x y e in
        false_from_ne_true (nat_eq n y.action) (λ hit.
        let same : n ≡ x.action = eqb-true n y.action hit ∙ t.1 in
        let both : true ≡ false = sym h ∙ ap (is_sensed before) same ∙ t.0 in
        absurd (cc)))
        (senses-away n (before ++ x ∷ []) xs (sensed-more before x n h))

    -- no action senses twice
    pub senses-once : (before xs : List DraftSense)
        → IsDistinct nat_eq (map action_of (given (senses_in names before xs)))
    unfolding IsDistinct
    senses-once before [] = tt
    senses-once before (x ∷ xs) =
        one-once action_of (sense_by names (is_sensed before x.action) x).outcome (given (senses_in names (before ++ x ∷ []) xs))
        (λ y e. subst (λ n. AllByRecursion (λ m. nat_eq n m ≡ false) (map action_of (given (senses_in names (before ++ x ∷ []) xs))))
        (sym (is (is_sensed before x.action) x y e).1) (senses-away x.action (before ++ x ∷ []) xs (sensed-last before x)))
        (senses-once (before ++ x ∷ []) xs)
