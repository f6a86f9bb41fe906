-- States whose values stand in one list, and one state more.
use Rattle.std.proofs.Common.{◌≡◌, ℕ, ◌+◌, ◌-◌, ◌≤◌, Bool, List, [], ◌∷◌, ◌++◌, length, drop, take, refl, sym, ap, ◌∙◌, subst, arith}
use Rattle.std.specs.Prelude.{◌↔◌, All, IsTrue, Err, Ok, OnErr, Result}
use Rattle.std.proofs.Math.Seq.{drop-append_seam, take-length}
use Rattle.std.proofs.lemmas.List.{drop-append-le, length-append, length-drop, map-append, take-append-le}
use Rattle.std.proofs.lemmas.List.Elements.{All-head, All-push, All-tail, All-weaker}
use Rattle.golog_find.specs.declared.numbered.Numbered.{Numbered}
use Rattle.golog_find.specs.declared.states.Row.{Row}
use Rattle.golog_find.specs.Rows.{IsWithin, row_state, row_states}

-- what stands inside a list stands there still once more is behind it
part-stays : (xs ys : List ℕ) (start end : ℕ) → start ≤ end → end ≤ length xs → take (end - start) (drop start (xs ++ ys)) ≡ take (end - start) (drop start xs)
part-stays xs ys start end l k =
    let count = length-drop start xs in
    ap (take (end - start)) (drop-append-le start xs ys (omega arith)) ∙ take-append-le (end - start) (drop start xs) ys (omega arith)

-- what is put behind a list is the part behind it
part-last : (xs ys : List ℕ) (start end : ℕ) → start ≡ length xs → end ≡ length (xs ++ ys) → take (end - start) (drop start (xs ++ ys)) ≡ ys
part-last xs ys start end e k =
    let count : end - start ≡ length ys = let sum = length-append xs ys in omega arith in
    (λ i. take (count i) (drop (e i) (xs ++ ys))) ∙ ap (take (length ys)) (drop-append_seam xs ys) ∙ take-length ys

-- a state by its parts
abbrev with_values : Row → List ℕ → Numbered
with_values row values = record { label = row.label; left = row.left; state = values; from = row.from }

pub rows-stay : (xs ys : List ℕ) (rows : List Row) → All (IsWithin (length xs)) rows → row_states (xs ++ ys) rows ≡ row_states xs rows
rows-stay xs ys [] h = refl
rows-stay xs ys (row ∷ rows) h =
    let within = All-head (IsWithin (length xs)) row rows h in
    let one = ap (with_values row) (part-stays xs ys row.start row.end within.ordered within.inside) in
    let rest = rows-stay xs ys rows (All-tail (IsWithin (length xs)) row rows h) in
    (λ i. one i ∷ rest i)

pub within-longer : (count more : ℕ) (rows : List Row) → count ≤ more → All (IsWithin count) rows → All (IsWithin more) rows
within-longer count more rows l h =
    All-weaker (IsWithin count) (IsWithin more) (λ row k. let inside = k.inside in record { ordered = k.ordered; inside = omega arith }) rows h

-- one state more
module _ (xs ys new : List ℕ) (rows more : List Row) (row : Row) (h : All (IsWithin (length xs)) rows) (values : new ≡ xs ++ ys) (added : more ≡ rows ++ row ∷ [])
    (start : row.start ≡ length xs) (end : row.end ≡ length new) where
  pub within-more : All (IsWithin (length new)) more
  within-more =
      let count = ap (λ (vs : List ℕ). length vs) values ∙ length-append xs ys in
      let longer : length xs ≤ length new = omega arith in
      subst (All (IsWithin (length new))) (sym added)
      (All-push (IsWithin (length new)) rows row (within-longer (length xs) (length new) rows longer h) (record { ordered = omega arith; inside = omega arith }))

  pub rows-more : row_states new more ≡ row_states xs rows ++ with_values row ys ∷ []
  rows-more =
      (λ i. row_states (values i) (added i))
      ∙ map-append (row_state (xs ++ ys)) rows (row ∷ [])
      ∙ (λ i. rows-stay xs ys rows h i ++ with_values row (part-last xs ys row.start row.end start (end ∙ ap (λ (vs : List ℕ). length vs) values) i) ∷ [])

-- there is a state exactly where there is a row
pub no-rows : (values : List ℕ) (rows : List Row) (b : Bool) → IsTrue b ↔ (rows ≡ []) → IsTrue b ↔ (row_states values rows ≡ [])
no-rows values [] b h = (λ e. refl, λ e. h.1 refl)
no-rows values (row ∷ rows) b h = (λ e. let none = h.0 e in absurd (cc), λ e. absurd (cc))

-- what is so is so where there is an error
pub on-err : {A E P : Type 0} (r : Result A E) → P → OnErr r P
on-err (Ok a) p = tt
on-err (Err e) p = p
