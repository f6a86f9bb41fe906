-- What the objects of the tests answer.
use Rattle.std.specs.Prelude.{◌≡◌, ℕ, ◌+◌, ◌<◌, ◌≤◌, List, [], ◌∷◌, length}

-- a counter has room for 4,096 entries: it adds one of the party and replies the new count, or none and
-- replies 0
abbrev pub Counts : List ℕ → ℕ → ℕ → List ℕ → Type 0
Counts list party reply added =
    (length list < 4096 → (reply ≡ length list + 1) × (added ≡ party ∷ []))
    × (4096 ≤ length list → (reply ≡ 0) × (added ≡ []))
