-- What is joined of the parts of a list is what a function gives of the whole, where each part has what it gives there.
use Rattle.std.proofs.Common.{◌≡◌, ◌+◌, ℕ, List, ◌++◌, All, IfOk, Result, Ok, Err, sym, ap, ap₂, ◌∙◌, subst, drop, map, take}
use Rattle.std.proofs.lemmas.List.{drop-drop, map-append, take-append-drop}
use Rattle.std.proofs.lemmas.List.Elements.{All-drop, All-take}
use Rattle.golog_par.specs.Parts.{IsJoined}

-- what is so of all items is so of those of a part
pub all_in_part : {X : Type 0} (P : X → Type 0) (xs part : List X) (from many : ℕ) → part ≡ take many (drop from xs) → All P xs → All P part
all_in_part P xs part from many is all = subst (All P) (sym is) (All-take P many (drop from xs) (All-drop P from xs all))

-- a part of the rest is a part of the whole
pub part_of_rest : {X : Type 0} (size : ℕ) (xs rest part : List X) (from many : ℕ) → rest ≡ drop size xs → part ≡ take many (drop from rest) → part ≡ take many (drop (size + from) xs)
part_of_rest size xs rest part from many behind is = is ∙ ap (λ ys. take many (drop from ys)) behind ∙ ap (take many) (drop-drop from size xs)

pub joined-whole : {X Y E : Type 0} (g : X → Y) (one other : Result (List Y) E) (size : ℕ) (xs first rest : List X) (whole : List Y) → first ≡ take size xs → rest ≡ drop size xs → IfOk one (λ ys. ys ≡ map g first) → IfOk other (λ ys. ys ≡ map g rest) → IsJoined one other whole → whole ≡ map g xs
joined-whole g (Ok ys) (Ok zs) size xs first rest whole front back f r is =
    is ∙ ap₂ ◌++◌ f r ∙ sym (map-append g first rest) ∙ ap (map g) (ap₂ ◌++◌ front back ∙ take-append-drop size xs)
joined-whole g (Ok ys) (Err e) size xs first rest whole front back f r is = absurd is
joined-whole g (Err e) other size xs first rest whole front back f r is = absurd is
