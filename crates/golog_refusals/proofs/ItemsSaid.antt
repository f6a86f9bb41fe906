-- Items that drafts say, one after another: they are what is taken, and what is taken is said.
use Rattle.std.proofs.Common.{◌≡◌, Bool, true, List, [], ◌∷◌, ◌++◌, map, Result, Ok, Err, refl, ap, ◌∙◌}
use Rattle.std.specs.List.{list_all}
use Rattle.golog_rows.specs.Reading.{Reading}
use Rattle.golog_rows.specs.Least.{CodeAt}
use Rattle.golog_semantics.proofs.Tests.{and_cases}
use Rattle.golog_check.specs.Least.{refusal_of, refusals, value_of, given}
use Rattle.golog_refusals.specs.SaysAgent.{AreSaid}

-- of these readings none is refused, and they give the items
abbrev pub Give : {A : Type 0} → List (Reading A) → List A → Type 0
Give readings items = (refusals readings ≡ []) × (given readings ≡ items)

-- one more reading that gives its item
pub one-more : {A : Type 0} (reading : Reading A) (readings : List (Reading A)) (item : A) (items : List A)
    → reading.outcome ≡ Ok item → Give readings items → Give (reading ∷ readings) (item ∷ items)
one-more {A} reading readings item items e rest = (
  ap (λ (o : Result A CodeAt). refusal_of o ++ refusals readings) e ∙ rest.0,
  ap (λ (o : Result A CodeAt). value_of o ++ given readings) e ∙ ap (λ (xs : List A). item ∷ xs) rest.1,
)

-- a draft that is not refused says what it gives, and so do those behind it
pub one-said : {D A : Type 0} (says : D → A → Bool) (d : D) (o : Result A CodeAt) (rest : List CodeAt)
    (ds : List D) (xs : List A) → ((x : A) → o ≡ Ok x → says d x ≡ true) → (rest ≡ [] → AreSaid says ds xs)
    → refusal_of o ++ rest ≡ [] → AreSaid says (d ∷ ds) (value_of o ++ xs)
one-said says d (Ok x) rest ds xs said more none = (said x refl, more none)
one-said says d (Err refusal) rest ds xs said more none = absurd (cc)

module _ {D A : Type 0} (read : D → Reading A) (says : D → A → Bool) (keep : D → Bool) where
  -- where each draft is taken for the item that it says, none is refused, and they give these items
  pub all-taken : (fit : A → Bool)
      → ((d : D) (x : A) → keep d ≡ true → fit x ≡ true → says d x ≡ true → (read d).outcome ≡ Ok x)
      → (ds : List D) (xs : List A) → list_all keep ds ≡ true → list_all fit xs ≡ true → AreSaid says ds xs
      → Give (map read ds) xs
  all-taken fit taken [] [] h k s = (refl, refl)
  all-taken fit taken [] (x ∷ xs) h k s = absurd s
  all-taken fit taken (d ∷ ds) [] h k s = absurd s
  all-taken fit taken (d ∷ ds) (x ∷ xs) h k s =
      let t = and_cases (keep d) (list_all keep ds) h in
      let u = and_cases (fit x) (list_all fit xs) k in
      one-more (read d) (map read ds) x xs (taken d x t.0 u.0 s.0) (all-taken fit taken ds xs t.1 u.1 s.1)

  -- where each draft says the item that it is taken for, and none is refused, they say what is given
  pub all-of : ((d : D) (x : A) → keep d ≡ true → (read d).outcome ≡ Ok x → says d x ≡ true)
      → (ds : List D) → list_all keep ds ≡ true → refusals (map read ds) ≡ [] → AreSaid says ds (given (map read ds))
  all-of said [] h none = tt
  all-of said (d ∷ ds) h none =
      let t = and_cases (keep d) (list_all keep ds) h in
      one-said says d (read d).outcome (refusals (map read ds)) ds (given (map read ds)) (λ x e. said d x t.0 e)
      (all-of said ds t.1) none
