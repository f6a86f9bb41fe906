-- What holds of each element of a list, and that they differ, also with more elements put into its middle.
use Rattle.std.proofs.Common.{◌≡◌, Bool, false, List, [], ◌∷◌, ◌++◌, ◌∙◌}
use Rattle.std.specs.List.{list_any, AllByRecursion, IsDistinct}
use Rattle.golog_semantics.proofs.Tests.{neither_first, neither_second}

module _ {X : Type 0} (P : X → Type 0) where
  pub all-append : (xs ys : List X) → AllByRecursion P xs → AllByRecursion P ys → AllByRecursion P (xs ++ ys)
  all-append [] ys a b = b
  all-append (x ∷ xs) ys a b = (a.0, all-append xs ys a.1 b)

  pub all-amid : (xs new ys : List X) → AllByRecursion P (xs ++ ys) → AllByRecursion P new → AllByRecursion P (xs ++ (new ++ ys))
  all-amid [] new ys a b = all-append new ys b a
  all-amid (x ∷ xs) new ys a b = (a.0, all-amid xs new ys a.1 b)

pub all-weaker : {X : Type 0} (P Q : X → Type 0) (xs : List X) → ((x : X) → P x → Q x) → AllByRecursion P xs → AllByRecursion Q xs
all-weaker P Q [] h a = tt
all-weaker P Q (x ∷ xs) h a = (h x a.0, all-weaker P Q xs h a.1)

module _ {X : Type 0} (same : X → X → Bool) where
  -- none of these is the same
  abbrev pub Absent : X → List X → Type 0
  Absent x xs = AllByRecursion (λ y. same x y ≡ false) xs

  pub any-absent : (x : X) (xs : List X) → list_any (same x) xs ≡ false → Absent x xs
  any-absent x [] e = tt
  any-absent x (y ∷ xs) e = (neither_first (same x y) (list_any (same x) xs) e, any-absent x xs (neither_second (same x y) (list_any (same x) xs) e))

  module _ (symm : (x y : X) → same x y ≡ same y x) where
    -- Elements that differ from each other and from those of a list may stand anywhere in it.
    pub distinct-amid : (xs new ys : List X) → IsDistinct same (xs ++ ys) → IsDistinct same new → AllByRecursion (λ x. Absent x (xs ++ ys)) new
        → IsDistinct same (xs ++ (new ++ ys))
    unfolding IsDistinct
    distinct-amid [] [] ys d e a = d
    distinct-amid [] (x ∷ new) ys d e a = (all-append (λ y. same x y ≡ false) new ys e.0 a.0, distinct-amid [] new ys d e.1 a.1)
    distinct-amid (x ∷ xs) new ys d e a = (
      all-amid (λ y. same x y ≡ false) xs new ys d.0 (all-weaker (λ y. Absent y (x ∷ (xs ++ ys))) (λ y. same x y ≡ false) new (λ y b. symm x y ∙ b.0) a),
      distinct-amid xs new ys d.1 e (all-weaker (λ y. Absent y (x ∷ (xs ++ ys))) (λ y. Absent y (xs ++ ys)) new (λ y b. b.1) a),
    )

pub ruleset laws = (distinct-amid)
