use Rattle.std.proofs.lemmas.Result.{IfErr-weaker}
use Rattle.golog_file.specs.Spelled.{SpellsAgent, IsFirstRefusal}
use Rattle.golog_team.specs.Shapes.{team_refusal}
use Rattle.golog_commands.specs.declared.outcome.Input.TheVariants.{First, Second}
use Rattle.golog_commands.specs.Outcome.{FileFails, IfEnded, Nothing, OfFile, OfTeam, TeamBy}
use Rattle.golog_commands.proofs.OutcomeLemmas.{ended-so, file-comes}
use Rattle.golog_commands.proofs.TeamLemmas.{behind-first, team-held}
use Rattle.golog_commands.proofs.teams.pair_in.Goals as goal

pub returns-in-Ok-clause-holds : goal.returns-in-Ok-clause-holds
returns-in-Ok-clause-holds g c =
    let e = c.pair_with.ensures in
    team-held (g.F.Files.held c.args.files.now) c.args.first.now c.args.second.now c.in-Ok.first c.pair_with.result c.in-Ok.ensures.formed c.in-Ok.ensures.reads
    e.same e.formed (rw c.in-Ok.ensures.held at e.reads) e.unrefused

pub returns-in-Ok-clause-unready : goal.returns-in-Ok-clause-unready
returns-in-Ok-clause-unready g c =
    let held = g.F.Files.held c.args.files.now in
    let first = g.F.Files.faults c.args.files.now in
    let later = g.F.Files.faults c.agent_as.new.files in
    let now = g.F.Files.faults c.pair_with.new.files in
    let own = c.in-Ok.first in
    IfErr-weaker c.pair_with.result
    (λ fault. IfEnded fault (OfFile held later now Second c.args.second.now IsFirstRefusal SpellsAgent (λ b. TeamBy (team_refusal own b) Nothing)))
    (λ fault. IfEnded fault (OfTeam held first now c.args.first.now c.args.second.now (λ a b. Nothing)))
    (λ fault. ended-so fault (OfFile held later now Second c.args.second.now IsFirstRefusal SpellsAgent (λ b. TeamBy (team_refusal own b) Nothing))
    (OfTeam held first now c.args.first.now c.args.second.now (λ a b. Nothing))
    (behind-first held first now later c.in-Ok.ensures.faults c.args.first.now c.args.second.now own c.in-Ok.ensures.reads))
    (rw c.in-Ok.ensures.held at c.pair_with.ensures.unready)

pub returns-in-Err-clause-unready : goal.returns-in-Err-clause-unready
returns-in-Err-clause-unready g c =
    let held = g.F.Files.held c.args.files.now in
    let first = g.F.Files.faults c.args.files.now in
    let now = g.F.Files.faults c.agent_as.new.files in
    ended-so c.in-Err.unready (FileFails First IsFirstRefusal held c.args.first.now first now)
    (OfTeam held first now c.args.first.now c.args.second.now (λ a b. Nothing))
    (file-comes First held c.args.first.now first now IsFirstRefusal SpellsAgent
    (λ a. OfFile held first now Second c.args.second.now IsFirstRefusal SpellsAgent (λ b. TeamBy (team_refusal a b) Nothing)))
    c.in-Err.ensures.unready
