-- All of a list, where each is there, and the first that is there, item by item.
use Rattle.std.proofs.Common.{◌≡◌, ℕ, ◌+◌, ◌<◌, ◌≤◌, Bool, true, false, List, [], ◌∷◌, ◌++◌, length, map, drop, get_or, Option, Some, None, refl, sym, ap, ◌∙◌, append_assoc}
use Rattle.std.specs.Prelude.{filter, cond, if◌then◌else◌, is_some}
use Rattle.std.specs.Option.{option_map, option_or, option_and_then}
use Rattle.std.proofs.lemmas.List.{append-nil, at_drop_all, at_drop_more}
use Rattle.std.proofs.lemmas.Option.{same_Some}
use Rattle.golog_semantics.specs.Online.{first_some}
use Rattle.golog_branch.specs.Plans.{all_some}

module _ {A B : Type 0} (f : A → Option B) where
  -- these, and behind them all that come of others, where each is there
  abbrev pub with_all : List B → List A → Option (List B)
  with_all before xs = option_map (λ ys. before ++ ys) (all_some (map f xs))

  pub all-begin : (xs : List A) → all_some (map f xs) ≡ with_all [] xs
  all-begin xs = go (all_some (map f xs))
    where
      go : (o : Option (List B)) → o ≡ option_map (λ ys. [] ++ ys) o
      go None = refl
      go (Some ys) = refl

  with-one : (before : List B) (y : B) (o : Option (List B))
      → option_map (λ ys. before ++ ys) (option_map (λ ys. y ∷ ys) o) ≡ option_map (λ ys. (before ++ y ∷ []) ++ ys) o
  with-one before y None = refl
  with-one before y (Some ys) = ap Some (sym (append_assoc before (y ∷ []) ys))

  at-head : (before : List B) (x : A) (xs : List A) → with_all before (x ∷ xs)
      ≡ option_map (λ ys. before ++ ys) (option_and_then (λ y. option_map (λ ys. y ∷ ys) (all_some (map f xs))) (f x))
  at-head before x xs = refl

  pub all-more : (before : List B) (xs : List A) (i : ℕ) (x : A) (y : B) → i < length xs → x ≡ get_or xs i x → f x ≡ Some y
      → with_all before (drop i xs) ≡ with_all (before ++ y ∷ []) (drop (i + 1) xs)
  all-more before xs i x y less e is =
      at_drop_more (with_all before) xs i x less
      ∙ ap (λ z. with_all before (z ∷ drop (i + 1) xs)) (sym e)
      ∙ ap (λ o. option_map (λ ys. before ++ ys) (option_and_then (λ y. option_map (λ ys. y ∷ ys) (all_some (map f (drop (i + 1) xs)))) o)) is
      ∙ with-one before y (all_some (map f (drop (i + 1) xs)))

  pub all-added : (before more : List B) (xs : List A) (i : ℕ) (x : A) → i < length xs → x ≡ get_or xs i x
      → option_map (λ y. before ++ y ∷ []) (f x) ≡ Some more → with_all before (drop i xs) ≡ with_all more (drop (i + 1) xs)
  all-added before more xs i x less e is = go (f x) refl is
    where
      go : (o : Option B) → f x ≡ o → option_map (λ y. before ++ y ∷ []) o ≡ Some more → with_all before (drop i xs) ≡ with_all more (drop (i + 1) xs)
      go None k h = absurd (cc)
      go (Some y) k h = all-more before xs i x y less e k ∙ ap (λ bs. with_all bs (drop (i + 1) xs)) (same_Some (before ++ y ∷ []) more h)

  pub all-none : (before : List B) (xs : List A) (i : ℕ) (x : A) → i < length xs → x ≡ get_or xs i x → f x ≡ None
      → with_all before (drop i xs) ≡ None
  all-none before xs i x less e is =
      at_drop_more (with_all before) xs i x less
      ∙ ap (λ z. with_all before (z ∷ drop (i + 1) xs)) (sym e)
      ∙ ap (λ o. option_map (λ ys. before ++ ys) (option_and_then (λ y. option_map (λ ys. y ∷ ys) (all_some (map f (drop (i + 1) xs)))) o)) is

  pub all-end : (before : List B) (xs : List A) (i : ℕ) → length xs ≤ i → with_all before (drop i xs) ≡ Some before
  all-end before xs i more = at_drop_all (with_all before) xs i more ∙ ap Some (append-nil before)

  -- the first that is there
  abbrev pub first_by : List A → Option B
  first_by xs = first_some (map f xs)

  pub first-next : (xs : List A) (i : ℕ) (x : A) → i < length xs → x ≡ get_or xs i x → first_by (drop i xs) ≡ option_or (f x) (first_by (drop (i + 1) xs))
  first-next xs i x less e = at_drop_more first_by xs i x less ∙ ap (λ z. first_by (z ∷ drop (i + 1) xs)) (sym e)

  -- the same among those that pass a test
  pub passing : (test : A → Bool) (xs : List A) → first_some (map f (filter test xs)) ≡ first_some (map (λ x. if test x then f x else None) xs)
  passing test [] = refl
  passing test (x ∷ xs) = go (test x) (passing test xs)
    where
      go : (b : Bool) → first_some (map f (filter test xs)) ≡ first_some (map (λ x. if test x then f x else None) xs)
          → first_some (map f (cond b (x ∷ filter test xs) (filter test xs)))
          ≡ option_or (if b then f x else None) (first_some (map (λ x. if test x then f x else None) xs))
      go true h = ap (option_or (f x)) h
      go false h = h

-- what is there is the first, and what is not there is passed over
pub some-or : {A : Type 0} (o r : Option A) → is_some o ≡ true → option_or o r ≡ o
some-or None r e = absurd (cc)
some-or (Some x) r e = refl

pub none-or : {A : Type 0} (o r : Option A) → is_some o ≡ false → option_or o r ≡ r
none-or None r e = refl
none-or (Some x) r e = absurd (cc)
