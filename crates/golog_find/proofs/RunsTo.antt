-- The run that led to a state, through the levels before.
use Rattle.std.proofs.Common.{◌≡◌, ℕ, zero, suc, ◌+◌, List, [], ◌∷◌, ◌++◌, length, map, take, get_or, Some, None, refl, sym, ap, ◌∙◌, arith}
use Rattle.std.specs.Prelude.{reverse, slice_get}
use Rattle.std.specs.Option.{option_map_or}
use Rattle.std.proofs.lemmas.List.{reverse-append}
use Rattle.golog_semantics.specs.Search.{Run}
use Rattle.golog_find.specs.Levels.{Reached, run_to}
use Rattle.golog_find.proofs.LevelParts.{map-append}

-- what a level goes on from: the run so far and its last step
abbrev pub with_step : List (List Reached) → List Reached → Reached → Run
with_step earlier nearer r = run_to earlier nearer r.from ++ r.way ∷ []

pub run_to-none : (before : List (List Reached)) (states : List Reached) (place : ℕ) → slice_get states place ≡ None → run_to before states place ≡ []
run_to-none [] states place e = refl
run_to-none (nearer ∷ earlier) states place e = ap (λ o. option_map_or (with_step earlier nearer) o []) e

pub run_to-some : (earlier : List (List Reached)) (nearer states : List Reached) (place : ℕ) (r : Reached) → slice_get states place ≡ Some r
    → run_to (nearer ∷ earlier) states place ≡ with_step earlier nearer r
run_to-some earlier nearer states place r e = ap (λ o. option_map_or (with_step earlier nearer) o []) e

-- a list is its first items and then the last one
split-last : {A : Type 0} (xs : List A) (n : ℕ) (x d : A) → length xs ≡ n + 1 → x ≡ get_or xs n d → xs ≡ take n xs ++ x ∷ []
split-last [] n x d h e = absurd (omega arith)
split-last (y ∷ []) zero x d h e = ap (λ z. z ∷ []) (sym e)
split-last (y ∷ []) (suc n) x d h e = absurd (omega arith)
split-last (y ∷ z ∷ zs) zero x d h e = absurd (omega arith)
split-last (y ∷ z ∷ zs) (suc n) x d h e = ap (λ ws. y ∷ ws) (split-last (z ∷ zs) n x d (omega arith) e)

-- what stands for a list, backwards, is what stands for its last item and then for those before it, backwards
pub mapped-last : {A B : Type 0} (f : A → B) (xs : List A) (n : ℕ) (x d : A) → length xs ≡ n + 1 → x ≡ get_or xs n d → reverse (map f xs) ≡ f x ∷ reverse (map f (take n xs))
mapped-last f xs n x d h e =
    ap (λ ys. reverse (map f ys)) (split-last xs n x d h e)
    ∙ ap reverse (map-append f (take n xs) (x ∷ []))
    ∙ reverse-append (map f (take n xs)) (f x ∷ [])
