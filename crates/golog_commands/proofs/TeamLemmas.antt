-- What comes of the two agents of a team.
use Rattle.std.proofs.Common.{◌≡◌, ℕ, zero, suc, ◌+◌, ◌≤◌, ◌==◌, Bool, true, false, if◌then◌else◌, List, Option, Some, None, Result, Ok, Err, IfOk, refl, sym, ap, ◌∙◌, subst, arith}
use Rattle.golog_base.specs.declared.mem_files.HeldFile.{HeldFile}
use Rattle.golog_tree.specs.declared.agent.Agent.{Agent}
use Rattle.golog_semantics.specs.declared.journal.Report.{Report}
use Rattle.golog_semantics.specs.Certain.{JournalIsSo}
use Rattle.golog_semantics.specs.Online.{IsOnline}
use Rattle.golog_semantics.specs.Text.{Text}
use Rattle.golog_semantics.specs.WellFormed.{WellFormed}
use Rattle.golog_certain.proofs.JournalSo.{journal_so}
use Rattle.golog_file.specs.Spelled.{SpellsAgent, IsFirstRefusal}
use Rattle.golog_team.specs.declared.shape.TeamRefusal.{TeamRefusal}
use Rattle.golog_team.specs.Shapes.{team_refusal}
use Rattle.golog_commands.specs.declared.outcome.Input.{Input}
use Rattle.golog_commands.specs.declared.outcome.Input.TheVariants.{First, Second}
use Rattle.golog_commands.specs.declared.outcome.Outcome.{Outcome}
use Rattle.golog_commands.specs.declared.teams.Pair.{Pair}
use Rattle.golog_commands.specs.Inputs.{Reads, ReadsAgent, Tells, IsUnread}
use Rattle.golog_commands.specs.Outcome.{ComesOf, unread, refused, holds, OfFile, OfTeam, TeamBy, Nothing, HoldsTeam}
use Rattle.golog_commands.proofs.OutcomeLemmas.{comes-so, file-since}

by-so : (r : Option TeamRefusal) (P Q : Outcome → Type 0) (outcome : Outcome) → (P outcome → Q outcome) → TeamBy r P outcome → TeamBy r Q outcome
by-so None P Q outcome so t = so t
by-so (Some r) P Q outcome so t = t

module _ (held : Option (List HeldFile)) (first now : ℕ) where
  agent-so : (input : Input) (name : Text) (P Q : Agent → Outcome → Type 0) (outcome : Outcome) → ((a : Agent) → P a outcome → Q a outcome)
      → OfFile held first now input name IsFirstRefusal SpellsAgent P outcome → OfFile held first now input name IsFirstRefusal SpellsAgent Q outcome
  agent-so input name P Q outcome so comes =
      comes-so input (IsUnread held name first now) (λ text. Reads held name (λ bytes. Tells input (IsFirstRefusal bytes) text))
      (λ a. Reads held name (λ bytes. SpellsAgent bytes a)) P Q outcome so comes

  -- what follows of the same agents
  pub team-so : (one other : Text) (P Q : Agent → Agent → Outcome → Type 0) (outcome : Outcome) → ((a b : Agent) → P a b outcome → Q a b outcome)
      → OfTeam held first now one other P outcome → OfTeam held first now one other Q outcome
  team-so one other P Q outcome so comes =
      agent-so First one (λ a. OfFile held first now Second other IsFirstRefusal SpellsAgent (λ b. TeamBy (team_refusal a b) (P a b)))
      (λ a. OfFile held first now Second other IsFirstRefusal SpellsAgent (λ b. TeamBy (team_refusal a b) (Q a b))) outcome
      (λ a. agent-so Second other (λ b. TeamBy (team_refusal a b) (P a b)) (λ b. TeamBy (team_refusal a b) (Q a b)) outcome
      (λ b. by-so (team_refusal a b) (P a b) (Q a b) outcome (so a b))) comes

  -- behind a first agent that was read
  pub behind-first : (later : ℕ) → first ≤ later → (one other : Text) (agent : Agent) → ReadsAgent held one agent → (outcome : Outcome)
      → OfFile held later now Second other IsFirstRefusal SpellsAgent (λ b. TeamBy (team_refusal agent b) Nothing) outcome
      → OfTeam held first now one other (λ a b. Nothing) outcome
  behind-first later grows one other agent reads outcome comes =
      holds agent reads (file-since Second held other first later now IsFirstRefusal SpellsAgent (λ b. TeamBy (team_refusal agent b) Nothing) outcome grows comes)

  -- what comes of two that are a team
  pub team-comes : {E : Type 0} (one other : Text) (Next : Agent → Agent → Outcome → Type 0) (pair : Pair) (r : Result Outcome E)
      → HoldsTeam held one other pair → IfOk r (Next pair.first pair.second) → IfOk r (OfTeam held first now one other Next)
  team-comes one other Next pair (Ok outcome) has next =
      holds pair.first has.first_so
      (holds pair.second has.second_so (subst (λ o. TeamBy o (Next pair.first pair.second) outcome) (sym has.unrefused) next))
  team-comes one other Next pair (Err e) has next = next

pub team-held : {E : Type 0} (held : Option (List HeldFile)) (first second : Text) (own : Agent) (r : Result Pair E) → WellFormed own → ReadsAgent held first own
    → IfOk r (λ p. p.first ≡ own) → IfOk r (λ p. WellFormed p.second) → IfOk r (λ p. ReadsAgent held second p.second)
    → IfOk r (λ p. team_refusal p.first p.second ≡ None) → IfOk r (HoldsTeam held first second)
team-held held first second own (Ok p) formed reads same their_formed their_reads unrefused = record {
  formed = (subst WellFormed (sym same) formed, their_formed);
  first_so = subst (ReadsAgent held first) (sym same) reads;
  second_so = their_reads;
  unrefused = unrefused;
}
team-held held first second own (Err e) formed reads same their_formed their_reads unrefused = tt

-- what is so of a pair is so of the same
pub same-unrefused : {E : Type 0} (pair : Pair) (r : Result Pair E) → IfOk r (λ p. p ≡ pair) → IfOk r (λ p. team_refusal pair.first pair.second ≡ None)
    → IfOk r (λ p. team_refusal p.first p.second ≡ None)
same-unrefused pair (Ok p) same so = subst (λ (q : Pair). team_refusal q.first q.second ≡ None) (sym same) so
same-unrefused pair (Err e) same so = tt

-- what an online execution says is so in each world
pub online-so : (agent : Agent) (report : Report) → WellFormed agent → IsOnline agent report → JournalIsSo agent report.entries
online-so agent report formed online = journal_so agent formed report (record { entries = online.entries })
