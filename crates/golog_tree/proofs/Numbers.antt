-- The ground thing that a number names: those of the items before it come first.
use Rattle.std.proofs.Common.{◌≡◌, ℕ, zero, suc, ◌+◌, ◌<◌, ◌≤◌, List, [], ◌∷◌, ◌++◌, length, map, take, Option, Some, refl, sym, ap, ◌∙◌, subst, arith}
use Rattle.std.specs.Prelude.{slice_get, sum_by}
use Rattle.std.specs.List.{range_with_len}
use Rattle.std.proofs.lemmas.List.{length-append, length-map}
use Rattle.std.proofs.lemmas.List.Sums.{sum_by-cons}
use Rattle.std.proofs.lemmas.Option.{slice_get_within}
use Rattle.std.proofs.lemmas.List.FromFn.{length-map-range_with_len}
use Rattle.golog_tree.specs.declared.agent.Agent.{Agent}
use Rattle.golog_tree.specs.Ground.{Ground, product, sizes, place_of, args_of, args_at, all_from, number_of, ground_count, AreWithin}
use Rattle.golog_tree.proofs.Places.{place-below, args_of-place_of}

get_front : {A : Type 0} (xs ys : List A) (i : ℕ) → i < length xs → slice_get (xs ++ ys) i ≡ slice_get xs i
get_front [] ys i h = absurd (omega (arith, h))
get_front (x ∷ xs) ys zero h = refl
get_front (x ∷ xs) ys (suc i) h = get_front xs ys i (omega (arith, h))

get_behind : {A : Type 0} (xs ys : List A) (i j : ℕ) → j ≡ length xs + i → slice_get (xs ++ ys) j ≡ slice_get ys i
get_behind [] ys i j e = ap (slice_get ys) (omega (arith, e))
get_behind (x ∷ xs) ys i zero e = absurd (omega (arith, e))
get_behind (x ∷ xs) ys i (suc j) e = get_behind xs ys i j (omega (arith, e))

get_mapped : {A : Type 0} (f : ℕ → A) (a n i : ℕ) → i < n → slice_get (map f (range_with_len a n)) i ≡ Some (f (a + i))
get_mapped f a zero i h = absurd (omega (arith, h))
get_mapped f a (suc n) zero h = ap (λ k. Some (f k)) (omega arith)
get_mapped f a (suc n) (suc i) h = get_mapped f (a + 1) n i (omega (arith, h)) ∙ ap (λ k. Some (f k)) (omega arith)

pub below-map : {A : Type 0} (items : List A) (f : A → List ℕ) (item : ℕ) → item < length items → item < length (map f items)
below-map items f item lt = omega (arith, lt, length-map items f)

module _ (agent : Agent) where
  abbrev count : List ℕ → ℕ
  count sorts = product (sizes agent sorts)

  -- the thing of an item at a place, by its number
  pub get-at-place : (items : List (List ℕ)) (k item place : ℕ) → item < length items → place < count (args_at items item)
      → slice_get (all_from agent k items) (sum_by count (take item items) + place)
      ≡ Some (k + item, args_of (sizes agent (args_at items item)) place)
  get-at-place [] k item place h p = absurd (omega (arith, h))
  get-at-place (sorts ∷ items) k zero place h p =
      let here = map (λ place. (k, args_of (sizes agent sorts) place)) (range_with_len 0 (count sorts)) in
      let l : length here ≡ count sorts = length-map-range_with_len _ 0 (count sorts) in
      let e : 0 + place ≡ place = omega arith in
      ap (slice_get (here ++ all_from agent (k + 1) items)) e
      ∙ get_front here (all_from agent (k + 1) items) place (omega (arith, l, p))
      ∙ get_mapped (λ place. (k, args_of (sizes agent sorts) place)) 0 (count sorts) place p
      ∙ ap (λ n. Some (k, args_of (sizes agent sorts) n)) e
      ∙ ap (λ n. Some (n, args_of (sizes agent sorts) place)) (omega arith)
  get-at-place (sorts ∷ items) k (suc item) place h p =
      let here = map (λ place. (k, args_of (sizes agent sorts) place)) (range_with_len 0 (count sorts)) in
      let l : length here ≡ count sorts = length-map-range_with_len _ 0 (count sorts) in
      let before = sum_by count (take item items) in
      let s : sum_by count (sorts ∷ take item items) ≡ count sorts + before = sum_by-cons count sorts (take item items) in
      get_behind here (all_from agent (k + 1) items) (before + place) _ (omega (arith, s, l))
      ∙ get-at-place items (k + 1) item place (omega (arith, h)) p
      ∙ ap (λ n. Some (n, args_of (sizes agent (args_at items item)) place)) (omega arith)

  -- there are as many ground things as are counted
  pub length-all_from : (items : List (List ℕ)) (k : ℕ) → length (all_from agent k items) ≡ ground_count agent items
  length-all_from [] k = refl
  length-all_from (sorts ∷ items) k =
      let here = map (λ place. (k, args_of (sizes agent sorts) place)) (range_with_len 0 (count sorts)) in
      length-append here (all_from agent (k + 1) items)
      ∙ ap (λ n. n + length (all_from agent (k + 1) items)) (length-map-range_with_len _ 0 (count sorts))
      ∙ ap (λ n. count sorts + n) (length-all_from items (k + 1))
      ∙ sym (sum_by-cons count sorts items)

  -- the number of arguments that fit names these
  pub get-number_of : (items : List (List ℕ)) (item : ℕ) (args : List ℕ) → item < length items
      → AreWithin (sizes agent (args_at items item)) args
      → slice_get (all_from agent 0 items) (number_of agent items item args) ≡ Some (item, args)
  get-number_of items item args h fits =
      let ns = sizes agent (args_at items item) in
      get-at-place items 0 item (place_of ns args) h (place-below ns args fits)
      ∙ ap (λ given. Some (0 + item, given)) (args_of-place_of ns args fits)
      ∙ ap (λ n. Some (n, args)) (omega arith)

  -- the number of arguments that fit is one of the numbers
  pub number_of-below : (items : List (List ℕ)) (item : ℕ) (args : List ℕ) → item < length items
      → AreWithin (sizes agent (args_at items item)) args
      → number_of agent items item args < ground_count agent items
  number_of-below items item args h fits =
      let e = length-all_from items 0 in
      let k = slice_get_within (all_from agent 0 items) (number_of agent items item args) (item, args)
      (get-number_of items item args h fits) in
      omega (arith, e, k)
