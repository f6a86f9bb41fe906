-- The least of refusals that are gathered: that of the least place, and there the least code.
use Rattle.std.specs.Prelude.{◌≡◌, ℕ, Option, Some, None, List, [], Contains}
use Rattle.golog_rows.specs.declared.least.Refusal.{Refusal}
use Rattle.golog_rows.specs.Order.{IsLeast}

-- a code and its place
abbrev pub CodeAt : Type 0
CodeAt = ℕ × ℕ

-- one of the refusals has the code and the place
abbrev pub IsAmong : List CodeAt → ℕ → ℕ → Type 0
IsAmong refusals code at = Contains refusals (code, at)

-- the least, or nothing where there is none
abbrev pub IsLeastOf : Option Refusal → List CodeAt → Type 0
IsLeastOf None refusals = refusals ≡ []
IsLeastOf (Some refusal) refusals = IsLeast (IsAmong refusals) refusal.code refusal.at
