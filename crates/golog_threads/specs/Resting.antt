-- What a seat at rest has seen and holds.
use Rattle.std.specs.Prelude.{◌≡◌, ℕ, List}
use Rattle.golog_turn.specs.declared.lock.TurnLock.{TurnLock}
use Rattle.golog_turn.specs.declared.rest.Rest.{Rest}
use Rattle.golog_turn.specs.declared.object.Object.{Ghosts}

module _ {O Op Reply E : Type 0} {object : Ghosts O Op Reply E} where
  -- the seat that rests is one of this lock
  abbrev pub RestsAt : TurnLock O Op Reply E → Rest O Op Reply E object → Type 0
  RestsAt lock rest = rest.perch.table_id ≡ lock.table.shared.table_id

  -- the prefix of the history that it has seen
  abbrev pub rest_seen : Rest O Op Reply E object → List E
  rest_seen rest = rest.perch.view.seen

  -- the parties that it holds
  abbrev pub rest_parties : Rest O Op Reply E object → List ℕ
  rest_parties rest = rest.perch.view.parties
