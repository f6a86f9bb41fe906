use Rattle.std.proofs.Common.{refl}
use Rattle.golog_turn.specs.Seats.{parties_of}
use Rattle.golog_turn.proofs.Parties.{are_at_most_one}
use Rattle.golog_device_tests.proofs.turns.put.Goals as goal

pub act-requires-clause-allowed : goal.act-requires-clause-allowed
act-requires-clause-allowed g c o goes = (tt, λ reply added answers. are_at_most_one (λ item. item.party) (parties_of c.args.seat.now) _ _ _ _ added c.requires.party (answers.0 _ refl))
