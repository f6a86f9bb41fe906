use Rattle.std.proofs.Common.{refl}
use Rattle.golog_turn.specs.Seats.{parties_of}
use Rattle.golog_turn.proofs.Parties.{are_none}
use Rattle.golog_device_tests.proofs.turns.read.Goals as goal

pub act-requires-clause-allowed : goal.act-requires-clause-allowed
act-requires-clause-allowed g c o goes = (tt, λ reply added answers. are_none (λ item. item.party) (parties_of c.args.seat.now) added (answers.1 _ refl).0)
