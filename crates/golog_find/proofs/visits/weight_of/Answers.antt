use Rattle.golog_find.proofs.visits.weight_of.Goals as goal

pub parts_of-requires : goal.parts_of-requires
parts_of-requires c = c.requires.countable
