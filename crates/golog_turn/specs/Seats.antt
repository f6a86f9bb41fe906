-- What the calls of a lock say of its seats, each of which has seen a prefix of the one history of its
-- object.
use Rattle.std.specs.Prelude.{◌≡◌, ℕ, ◌<◌, List, ◌++◌, length}
use Rattle.golog_turn.specs.Parties.{own, KeepsLonger}
use Rattle.golog_turn.specs.Acts.{MayAct, Applied}
use Rattle.golog_turn.specs.declared.lock.Seat.{Seat}
use Rattle.golog_turn.specs.declared.lock.TurnLock.{TurnLock}
use Rattle.golog_turn.specs.declared.object.Object.{Ghosts}

module _ {O Op Reply E : Type 0} {object : Ghosts O Op Reply E} where
  -- the seat came from the making of this lock, or was split off from such a seat
  abbrev pub IsSeatOf : TurnLock O Op Reply E → Seat O Op Reply E object → Type 0
  IsSeatOf lock seat = seat.token.table_id ≡ lock.table.shared.table_id

  -- the prefix of the history that the seat has seen
  abbrev pub seen : Seat O Op Reply E object → List E
  seen seat = seat.token.me.0.seen

  -- the parties that the seat holds, and no other seat of the lock
  abbrev pub parties_of : Seat O Op Reply E object → List ℕ
  parties_of seat = seat.token.me.0.parties

  -- the entries of the seat's parties, all of which it has seen
  abbrev pub mine : Seat O Op Reply E object → List E
  mine seat = own object.party (parties_of seat) (seen seat)

  -- the seat holds a party
  abbrev pub HoldsParty : Seat O Op Reply E object → Type 0
  HoldsParty seat = 0 < length (parties_of seat)

  -- whatever others have added since, the op is allowed, and what it adds is of the seat's parties
  abbrev pub CanAct : Seat O Op Reply E object → Op → Type 0
  CanAct seat op =
      MayAct object.list object.party object.allows object.answers (seen seat) (parties_of seat) op

  -- the op was applied at one point of the history, which the seat has then seen, with the op's entry at
  -- its end; the seat's parties are the same
  abbrev pub Acted : Seat O Op Reply E object → Op → Reply → Seat O Op Reply E object → Type 0
  Acted before op reply after =
      (parties_of after ≡ parties_of before)
      × Applied object.list object.party object.answers (seen before) (parties_of before)
      op reply (seen after)

  -- the seat has the parties of both and the longer of what both had seen
  abbrev pub Joined : Seat O Op Reply E object → Seat O Op Reply E object → Seat O Op Reply E object → Type 0
  Joined before other after =
      (parties_of after ≡ parties_of before ++ parties_of other)
      × KeepsLonger object.party (seen before) (parties_of before)
      (seen other) (parties_of other) (seen after)
