use Rattle.std.proofs.Common.{sym, subst}
use Rattle.golog_commands.specs.Outcome.{IfEnded, Nothing, TeamBy}
use Rattle.golog_commands.proofs.teams.unrefused.Goals as goal

pub returns-in-Ok-None-clause-unrefused : goal.returns-in-Ok-None-clause-unrefused
returns-in-Ok-None-clause-unrefused c = sym (rw c.in-Ok-None.field-0-is at c.in-Ok-None.ensures)

pub returns-in-Ok-Some-clause-unready : goal.returns-in-Ok-Some-clause-unready
returns-in-Ok-Some-clause-unready c =
    subst (λ o. IfEnded c.refused_team.result (TeamBy o Nothing)) (rw c.in-Ok-Some.field-0-is at c.in-Ok-Some.ensures) c.refused_team.ensures
