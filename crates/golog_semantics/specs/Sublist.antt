-- The elements of one list stand in another, in the same order.
use Rattle.std.specs.Prelude.{◌≡◌, ◌⊎◌, ⊤, List, [], ◌∷◌}

-- the first list is the second with some elements left out
abbrev pub IsSublist : {A : Type 0} → List A → List A → Type 0
IsSublist [] ys = ⊤
IsSublist (x ∷ xs) [] = ⊥
IsSublist (x ∷ xs) (y ∷ ys) = ((x ≡ y) × IsSublist xs ys) ⊎ IsSublist (x ∷ xs) ys
