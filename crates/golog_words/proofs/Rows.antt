-- What `clap` holds for an argument, by its name.
use Rattle.std.proofs.Common.{◌≡◌, ◌∙◌, ap, refl, Bool, true, false, List, [], ◌∷◌, ◌++◌, Option, Some, None, option_map, cond, bytes_eq}
use Rattle.std.specs.Prelude.{◌||◌, find, option_and_then, slice_get}
use Rattle.std.specs.Option.{option_or}
use Rattle.std.proofs.lemmas.List.{append-nil}
use Rattle.std.proofs.lemmas.List.Folds.{find-append}
use Rattle.clap.specs.Walk.{Row, Rule, Text, at_row, default_rows, has_row, more_values, reading_by, with_default, with_values, without}
use Rattle.clap.specs.declared.parser.matches.ValueSource.{ValueSource}
use Rattle.clap.specs.declared.parser.matches.ValueSource.TheVariants.{CommandLine}

-- the row of this name
abbrev pub row_by : Text → List Row → Option Row
row_by id rows = find (λ r. bytes_eq r.id id) rows

-- the row of an argument that was used once
abbrev pub row_with : Rule → ValueSource → List Text → Row
row_with a source values =
    record { id = a.id; values = values; count = None; source = Some source; reading = reading_by a }

-- the row of an argument that the words give these values
abbrev pub given : Rule → List Text → Row
given a values = row_with a CommandLine values

-- the row of an argument that takes a value, where it was given one
abbrev pub row_for : Rule → Option Text → Option Row
row_for a value = option_map (λ (text : Text). given a (text ∷ [])) value

-- Where no row has the name, a change of its row puts what stands for a missing one behind the rows.
pub at_end : (id : Text) (change : Row → List Row) (missing rows : List Row) → row_by id rows ≡ None
    → at_row id change missing rows ≡ rows ++ missing
at_end id change missing [] none = refl
at_end id change missing (row ∷ rows) none =
    go (bytes_eq row.id id) none (at_end id change missing rows)
  where
    go : (same : Bool) → cond same (Some row) (row_by id rows) ≡ None
        → (row_by id rows ≡ None → at_row id change missing rows ≡ rows ++ missing)
        → cond same (change row ++ rows) (row ∷ at_row id change missing rows) ≡ row ∷ (rows ++ missing)
    go true none rest = absurd (cc)
    go false none rest = ap (λ more. row ∷ more) (rest none)

pub absent : (id : Text) (rows : List Row) → row_by id rows ≡ None → has_row id rows ≡ false
absent id [] none = refl
absent id (row ∷ rows) none = go (bytes_eq row.id id) none (absent id rows)
  where
    go : (same : Bool) → cond same (Some row) (row_by id rows) ≡ None → (row_by id rows ≡ None → has_row id rows ≡ false)
        → (same || has_row id rows) ≡ false
    go true none rest = absurd (cc)
    go false none rest = rest none

pub present : (id : Text) (found : Row) (rows : List Row) → row_by id rows ≡ Some found → has_row id rows ≡ true
present id found [] is = absurd (cc)
present id found (row ∷ rows) is = go (bytes_eq row.id id) is (present id found rows)
  where
    go : (same : Bool) → cond same (Some row) (row_by id rows) ≡ Some found
        → (row_by id rows ≡ Some found → has_row id rows ≡ true) → (same || has_row id rows) ≡ true
    go true is rest = refl
    go false is rest = rest is

-- A first use puts its row behind the others.
pub used_once : (a : Rule) (source : ValueSource) (values : List Text) (rows : List Row) → row_by a.id rows ≡ None
    → with_values a.id (reading_by a) source values (without a.id rows) ≡ rows ++ row_with a source values ∷ []
used_once a source values rows none =
    ap (with_values a.id (reading_by a) source values) (at_end a.id (λ _. []) [] rows none ∙ append-nil rows)
    ∙ at_end a.id (more_values source values) (row_with a source values ∷ []) rows none

pub added : (a : Rule) (source : ValueSource) (values : List Text) (rows : List Row) → row_by a.id rows ≡ None
    → with_values a.id (reading_by a) source values rows ≡ rows ++ row_with a source values ∷ []
added a source values rows none = at_end a.id (more_values source values) (row_with a source values ∷ []) rows none

or_none : (row : Option Row) → option_or row None ≡ row
or_none None = refl
or_none (Some row) = refl

-- Behind rows without its name stands the row that was put there.
pub newest : (id : Text) (row : Row) (rows : List Row) → row_by id rows ≡ None → row_by id (row ∷ []) ≡ Some row
    → row_by id (rows ++ row ∷ []) ≡ Some row
newest id row rows none is =
    find-append (λ r. bytes_eq r.id id) rows (row ∷ []) ∙ ap (λ o. option_or o (row_by id (row ∷ []))) none ∙ is

-- A row of another name changes nothing.
pub beside : (id : Text) (row : Row) (rows : List Row) → row_by id (row ∷ []) ≡ None
    → row_by id (rows ++ row ∷ []) ≡ row_by id rows
beside id row rows none =
    find-append (λ r. bytes_eq r.id id) rows (row ∷ []) ∙ ap (λ o. option_or (row_by id rows) o) none
    ∙ or_none (row_by id rows)

same_rows : (held : Bool) (rows : List Row) → cond held rows rows ≡ rows
same_rows true rows = refl
same_rows false rows = refl

pub no_default : (a : Rule) (rows : List Row) → a.defaults ≡ [] → with_default rows a ≡ rows
no_default a rows none =
    ap (λ defaults. cond (has_row a.id rows) rows (default_rows a.id (reading_by a) defaults rows)) none
    ∙ same_rows (has_row a.id rows) rows

pub first_given : (a : Rule) (value : Option Text)
    → option_and_then (λ (r : Row). slice_get r.values 0) (row_for a value) ≡ value
first_given a None = refl
first_given a (Some text) = refl
