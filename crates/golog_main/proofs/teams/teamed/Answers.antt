use Rattle.golog_commands.specs.Outcome.{Nothing, OfTeam, TeamOf}
use Rattle.golog_commands.proofs.OutcomeLemmas.{ends-so}
use Rattle.golog_commands.proofs.TeamLemmas.{team-comes, team-so}
use Rattle.golog_main.proofs.teams.teamed.Goals as goal

pub returns-in-Ok : goal.returns-in-Ok
returns-in-Ok g c =
    team-comes (g.F.Files.held c.args.files.now) (g.F.Files.faults c.args.files.now) (g.F.Files.faults c.pair_in.new.files) c.args.first.now c.args.second.now
    (λ a b. TeamOf a b c.args.inline) c.in-Ok.pair c.teamed_of-outcome.result c.in-Ok.ensures.holds c.teamed_of-outcome.ensures

pub returns-in-Err : goal.returns-in-Err
returns-in-Err g c =
    let held = g.F.Files.held c.args.files.now in
    let first = g.F.Files.faults c.args.files.now in
    let now = g.F.Files.faults c.pair_in.new.files in
    ends-so c.ended.result c.in-Err.unready (OfTeam held first now c.args.first.now c.args.second.now (λ a b. Nothing))
    (OfTeam held first now c.args.first.now c.args.second.now (λ a b. TeamOf a b c.args.inline)) c.ended.ensures.outcome
    (λ outcome. team-so held first now c.args.first.now c.args.second.now (λ a b. Nothing) (λ a b. TeamOf a b c.args.inline) outcome (λ a b none. absurd none))
    c.in-Err.ensures.unready
