use Rattle.std.proofs.Common.{◌≡◌, true, false, sym, ◌∙◌}
use Rattle.golog_team.proofs.team.go_both.Goals as goal

pub returns-then-beside-clause-in_turn : goal.returns-then-beside-clause-in_turn
returns-then-beside-clause-in_turn g c one = absurd (let t = c.if-beside.true in let h = sym t ∙ one in cc)

pub returns-else-beside-clause-in_turn : goal.returns-else-beside-clause-in_turn
returns-else-beside-clause-in_turn g c one = c.go_in_turn.ensures.rounds
