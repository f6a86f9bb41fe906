use Rattle.std.proofs.Common.{◌≡◌, ◌⊎◌, ◌<◌, ◌≤◌, ℕ, [], All, true}
use Rattle.golog_turn.specs.Parties.{contains}
use Rattle.golog_turn.specs.Seats.{IsSeatOf, seen, parties_of}
use Rattle.golog_device_tests.proofs.turns.deal.Given as goal

-- the seat still holds party 0 and those to come
abbrev pub invariant-loop-party : goal.invariant-loop-party
invariant-loop-party l =
    IsSeatOf l.lock l.seat × (seen l.seat ≡ []) × All (λ worker. IsSeatOf l.lock worker.seat) l.workers.items
    × ((p : ℕ) → p < l.parties → (p ≡ 0) ⊎ (l.party ≤ p) → contains (parties_of l.seat) p ≡ true)
