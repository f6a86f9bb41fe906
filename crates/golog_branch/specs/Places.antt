-- The states of a level by their places.
use Rattle.std.specs.Prelude.{◌≡◌, ℕ, Bool, ◌==◌, ◌&&◌, false, Some, All, List, fold, slice_get}
use Rattle.std.specs.Hash.{u64 as number_input}
use Rattle.std.specs.Hash.FoldHasher.{finish, initial, write}
use Rattle.std.specs.Option.{option_map_or}
use Rattle.golog_semantics.specs.Same.{same_values}
use Rattle.golog_semantics.specs.Truth.{Values}
use Rattle.golog_memo.specs.Numbered.{AreOnce}
use Rattle.golog_memo.specs.Placed.{is_placed}
use Rattle.golog_memo.specs.declared.places.Places.{Places}
use Rattle.golog_branch.specs.declared.places.Reached.{Reached}
use Rattle.golog_branch.specs.declared.spot.Spot.{Spot}

-- the hash of a program's number and values
unfoldable pub spot_hash : ℕ → Values → ℕ
spot_hash prog values = finish (write (fold write initial (number_input prog)) values)

-- the state is of this program and of these values
abbrev pub is_spot : ℕ → Values → Spot → Bool
is_spot prog values spot = prog == spot.number && same_values values spot.state

-- a state of this hash stands at the place
abbrev pub stands : List Spot → ℕ → ℕ → Bool
stands spots hash place = option_map_or (λ (spot : Spot). hash == spot_hash spot.number spot.state) (slice_get spots place) false

-- the places that were seen are those of these states, by their hashes
pub record Sees (seen : Places) (spots : List Spot) : Type 0 where
  pub placed : (hash place : ℕ) → is_placed seen hash place ≡ stands spots hash place

-- equal programs have one number, those of the states are theirs, and the places that were seen are those of the states
pub record ArePlaces (r : Reached) : Type 0 where
  pub once : AreOnce r.nodes
  pub numbers : All (λ (spot : Spot). slice_get r.nodes spot.number ≡ Some spot.left) r.spots
  pub seen : Sees r.seen r.spots
