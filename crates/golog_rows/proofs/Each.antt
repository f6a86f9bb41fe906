-- Parts that are read one after another, one part further.
use Rattle.std.proofs.Common.{◌≡◌, ℕ, suc, ◌+◌, ◌<◌, List, [], ◌∷◌, ◌++◌, length, get_or, drop, sym, ap, ◌∙◌, add-one, drop-cons}
use Rattle.golog_rows.specs.Reading.{Reading, ◌>>=◌, each}

pub drop-item : {P : Type 0} (parts : List P) (i : ℕ) (part : P) → i < length parts → part ≡ get_or parts i part → drop i parts ≡ part ∷ drop (i + 1) parts
drop-item parts i part lt is = drop-cons parts i part lt ∙ ap (λ p. p ∷ drop (suc i) parts) (sym is) ∙ ap (λ n. part ∷ drop n parts) (sym (add-one i))

pub each-drop : {A P : Type 0} (read : List A → P → Reading A) (done : List A) (parts : List P) (i : ℕ) (part : P) → i < length parts → part ≡ get_or parts i part
    → each read done (drop i parts) ≡ (read done part >>= λ y. each read (done ++ y ∷ []) (drop (i + 1) parts))
each-drop read done parts i part lt is = ap (each read done) (drop-item parts i part lt is)

pub ruleset laws = (each-drop)
