-- Bytes that an object may tell or leave untold.
use Rattle.std.specs.Prelude.{◌≡◌, ℕ, List, ◌++◌, Option, None, Some, ◌≤◌, length, take}

-- the told bytes, and then these; untold where they are untold
abbrev pub and_then_bytes : Option (List ℕ) → List ℕ → Option (List ℕ)
and_then_bytes None bytes = None
and_then_bytes (Some told) bytes = Some (told ++ bytes)

-- these bytes, and then the told ones; untold where they are untold
abbrev pub bytes_and_then : List ℕ → Option (List ℕ) → Option (List ℕ)
bytes_and_then bytes None = None
bytes_and_then bytes (Some told) = Some (bytes ++ told)

-- at most so many bytes were taken from the front of those that were left, where they are told
abbrev pub TakesAtMost : ℕ → Option (List ℕ) → Option (List ℕ) → Type 0
TakesAtMost most old new = (taken : List ℕ) × (length taken ≤ most) × (old ≡ bytes_and_then taken new)

-- a prefix of these bytes was added
abbrev pub AddsPrefix : Option (List ℕ) → Option (List ℕ) → List ℕ → Type 0
AddsPrefix old new bytes = (n : ℕ) × (n ≤ length bytes) × (new ≡ and_then_bytes old (take n bytes))
