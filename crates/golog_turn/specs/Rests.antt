-- A seat at rest.
use Rattle.std.specs.Prelude.{◌≡◌}
use Rattle.golog_turn.specs.declared.lock.Seat.{Seat}
use Rattle.golog_turn.specs.declared.rest.Rest.{Rest}
use Rattle.golog_turn.specs.declared.object.Object.{Ghosts}

module _ {O Op Reply E : Type 0} {object : Ghosts O Op Reply E} where
  -- the seat is the one that rests: it is of the same lock, has seen the same and holds the same parties
  abbrev pub IsRestOf : Rest O Op Reply E object → Seat O Op Reply E object → Type 0
  IsRestOf rest seat = (seat.token.table_id ≡ rest.perch.table_id) × (seat.token.me.0 ≡ rest.perch.view)
