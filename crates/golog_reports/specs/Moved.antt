-- What is read of lines that stand further on in a text.
use Rattle.std.specs.Prelude.{◌≡◌, ℕ, ◌+◌, true, false, List, [], ◌∷◌, Option, Result, Ok, Err, map, option_map}
use Rattle.std.proofs.Common.{refl, ap, ◌∙◌}
use Rattle.golog_rows.specs.Reading.{Reading, Row, first, refusal_in}

-- the row of a line that stands so many lines further on
abbrev pub moved_row : ℕ → Row → Row
moved_row n (fits, code, at) = (fits, code, n + at)

abbrev pub moved_outcome : {A : Type 0} → ℕ → Result A (ℕ × ℕ) → Result A (ℕ × ℕ)
moved_outcome n (Ok x) = Ok x
moved_outcome n (Err (code, at)) = Err (code, n + at)

-- the code and the place of a refusal, likewise
abbrev pub moved_place : ℕ → Option (ℕ × ℕ) → Option (ℕ × ℕ)
moved_place n refusal = option_map (λ (r : ℕ × ℕ). (r.0, n + r.1)) refusal

first-moved : (n : ℕ) (rows : List Row) → first (map (moved_row n) rows) ≡ moved_place n (first rows)
first-moved n [] = refl
first-moved n ((true, code, at) ∷ rows) = refl
first-moved n ((false, code, at) ∷ rows) = first-moved n rows

outcome-moved : {A : Type 0} (n : ℕ) (outcome : Result A (ℕ × ℕ)) → moved_place n (refusal_in outcome) ≡ refusal_in (moved_outcome n outcome)
outcome-moved n (Ok x) = refl
outcome-moved n (Err (code, at)) = refl

pub moved-agrees : {A : Type 0} (n : ℕ) (rows : List Row) (outcome : Result A (ℕ × ℕ)) → first rows ≡ refusal_in outcome
    → first (map (moved_row n) rows) ≡ refusal_in (moved_outcome n outcome)
moved-agrees n rows outcome e = first-moved n rows ∙ ap (moved_place n) e ∙ outcome-moved n outcome

-- what is read where the lines stand so many lines further on
abbrev pub moved : {A : Type 0} → ℕ → Reading A → Reading A
moved n reading = record {
  rows = map (moved_row n) reading.rows;
  outcome = moved_outcome n reading.outcome;
  agrees = moved-agrees n reading.rows reading.outcome reading.agrees;
}
