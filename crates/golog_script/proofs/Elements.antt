-- The elements of an array, read one after another.
use Rattle.std.proofs.Common.{◌≡◌, ℕ, suc, ◌+◌, ◌<◌, List, [], ◌∷◌, ◌++◌, length, get_or, drop, map, Ok, refl, sym, ap, ◌∙◌, add-one, drop-cons}
use Rattle.serde_json.specs.Data.{Data}
use Rattle.serde_json.specs.declared.value.Value.{Value}
use Rattle.serde_json.specs.View.{view, items_view}
use Rattle.golog_rows.proofs.Each.{drop-item}
use Rattle.golog_script.specs.Reading.{Reading, ◌>>=◌, outcome_behind, each}
use Rattle.golog_script.specs.DevicesFile.{listed}

pub listed-view : (vs : List Value) → listed (items_view vs) ≡ map view vs
listed-view [] = refl
listed-view (v ∷ vs) = ap (λ ds. view v ∷ ds) (listed-view vs)

pub each-drop : {A : Type 0} (read : List A → Data → Reading A) (done : List A) (vs : List Value) (i : ℕ) (v : Value) → i < length vs → v ≡ get_or vs i v
    → each read done (map view (drop i vs)) ≡ (read done (view v) >>= λ y. each read (done ++ y ∷ []) (map view (drop (i + 1) vs)))
each-drop read done vs i v lt is = ap (λ ds. each read done (map view ds)) (drop-item vs i v lt is)

-- where an element is read, the others are read behind its value
pub next-element : {A : Type 0} (read : List A → Data → Reading A) (done : List A) (vs : List Value) (i : ℕ) (v : Value) (x : A) → i < length vs → v ≡ get_or vs i v → (read done (view v)).outcome ≡ Ok x
    → (each read (done ++ x ∷ []) (map view (drop (i + 1) vs))).outcome ≡ (each read done (map view (drop i vs))).outcome
next-element {A} read done vs i v x lt is ok =
    let next : A → Reading (List A) = λ y. each read (done ++ y ∷ []) (map view (drop (i + 1) vs)) in
    sym (ap (λ r. r.outcome) (each-drop read done vs i v lt is) ∙ ap (λ o. outcome_behind o next) ok)

pub ruleset laws = (listed-view, each-drop)
