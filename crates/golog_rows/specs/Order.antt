-- In which order the rows of a table stand, and which of the rows that fit is the least.
use Rattle.std.specs.Prelude.{◌≡◌, ◌<◌, ◌≤◌, ◌⊎◌, ℕ, true, List, AllPairs, Contains}
use Rattle.golog_rows.specs.Reading.{Row}

-- A code at a place is no later than another: its place is less, or the same and its code no greater.
abbrev pub IsNoLater : ℕ → ℕ → ℕ → ℕ → Type 0
IsNoLater code at other place = (at < place) ⊎ ((at ≡ place) × (code ≤ other))

-- The code fits at the place, and none fits at a lesser place, or there with a lesser number.
pub record IsLeast (Fits : ℕ → ℕ → Type 0) (code at : ℕ) : Type 0 where
  pub fits : Fits code at
  pub least : (other place : ℕ) → Fits other place → IsNoLater code at other place

-- The rows stand by their places, and those at one place by their codes, whether they fit or not.
abbrev pub IsOrdered : List Row → Type 0
IsOrdered rows = AllPairs (λ (row other : Row). IsNoLater row.1 row.2 other.1 other.2) rows

-- a row of the table with the code fits at the place
abbrev pub Fits : List Row → ℕ → ℕ → Type 0
Fits rows code at = Contains rows (true, code, at)
