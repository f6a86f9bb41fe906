use Rattle.std.proofs.Common.{◌≡◌, refl}
use Rattle.std.proofs.lemmas.Result.{IfErr-weaker}
use Rattle.golog_semantics.specs.WellFormed.{WellFormed}
use Rattle.golog_file.specs.Spelled.{SpellsAgent, IsFirstRefusal}
use Rattle.golog_team.specs.Shapes.{team_refusal}
use Rattle.golog_commands.specs.declared.outcome.Input.TheVariants.{Second}
use Rattle.golog_commands.specs.declared.teams.Pair.{Pair}
use Rattle.golog_commands.specs.Inputs.{ReadsAgent}
use Rattle.golog_commands.specs.Outcome.{FileFails, IfEnded, Nothing, OfFile, TeamBy, holds}
use Rattle.golog_commands.proofs.FromStarts.{copied-so}
use Rattle.golog_commands.proofs.OutcomeLemmas.{ended-so, file-comes}
use Rattle.golog_commands.proofs.TeamLemmas.{same-unrefused}
use Rattle.golog_commands.proofs.teams.pair_with.Goals as goal

pub returns-in-Ok-clause-same : goal.returns-in-Ok-clause-same
returns-in-Ok-clause-same g c = copied-so (λ (p : Pair). p.first ≡ c.args.first) _ c.unrefused.result refl c.unrefused.ensures.same

pub returns-in-Ok-clause-formed : goal.returns-in-Ok-clause-formed
returns-in-Ok-clause-formed g c = copied-so (λ (p : Pair). WellFormed p.second) _ c.unrefused.result c.in-Ok.ensures.formed c.unrefused.ensures.same

pub returns-in-Ok-clause-reads : goal.returns-in-Ok-clause-reads
returns-in-Ok-clause-reads g c =
    copied-so (λ (p : Pair). ReadsAgent (g.F.Files.held c.args.files.now) c.args.second.now p.second) _ c.unrefused.result c.in-Ok.ensures.reads c.unrefused.ensures.same

pub returns-in-Ok-clause-unrefused : goal.returns-in-Ok-clause-unrefused
returns-in-Ok-clause-unrefused g c = same-unrefused _ c.unrefused.result c.unrefused.ensures.same c.unrefused.ensures.unrefused

pub returns-in-Ok-clause-unready : goal.returns-in-Ok-clause-unready
returns-in-Ok-clause-unready g c =
    let held = g.F.Files.held c.args.files.now in
    let first = g.F.Files.faults c.args.files.now in
    let now = g.F.Files.faults c.agent_as.new.files in
    let own = c.args.first in
    IfErr-weaker c.unrefused.result (λ fault. IfEnded fault (TeamBy (team_refusal own c.in-Ok.second) Nothing))
    (λ fault. IfEnded fault (OfFile held first now Second c.args.second.now IsFirstRefusal SpellsAgent (λ b. TeamBy (team_refusal own b) Nothing)))
    (λ fault. ended-so fault (TeamBy (team_refusal own c.in-Ok.second) Nothing)
    (OfFile held first now Second c.args.second.now IsFirstRefusal SpellsAgent (λ b. TeamBy (team_refusal own b) Nothing))
    (λ outcome t. holds c.in-Ok.second c.in-Ok.ensures.reads t)) c.unrefused.ensures.unready

pub returns-in-Err-clause-unready : goal.returns-in-Err-clause-unready
returns-in-Err-clause-unready g c =
    let held = g.F.Files.held c.args.files.now in
    let first = g.F.Files.faults c.args.files.now in
    let now = g.F.Files.faults c.agent_as.new.files in
    ended-so c.in-Err.unready (FileFails Second IsFirstRefusal held c.args.second.now first now)
    (OfFile held first now Second c.args.second.now IsFirstRefusal SpellsAgent (λ b. TeamBy (team_refusal c.args.first b) Nothing))
    (file-comes Second held c.args.second.now first now IsFirstRefusal SpellsAgent (λ b. TeamBy (team_refusal c.args.first b) Nothing))
    c.in-Err.ensures.unready
