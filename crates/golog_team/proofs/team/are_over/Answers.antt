use Rattle.golog_team.proofs.team.are_over.Goals as goal

pub is_over-first-requires : goal.is_over-first-requires
is_over-first-requires g c = c.requires.one_is

pub is_over-second-requires : goal.is_over-second-requires
is_over-second-requires g c = c.requires.other_is

pub returns-then-first : goal.returns-then-first
returns-then-first g c both = (c.is_over-first.ensures.over c.if-first.true, c.is_over-second.ensures.over both)
