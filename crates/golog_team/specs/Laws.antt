-- Laws of the sides of a team.
use Rattle.std.specs.Prelude.{◌≡◌, ℕ, Bool, None}
use Rattle.golog_tree.specs.declared.agent.Agent.{Agent}
use Rattle.golog_semantics.specs.Journal.{Journal}
use Rattle.golog_team.specs.declared.did.Did.{Did}
use Rattle.golog_team.specs.Shapes.{team_refusal, AreMatched}
use Rattle.golog_team.specs.Steps.{Station, seen_at, Steps}
use Rattle.golog_team.specs.Linked.{IsLinked}
use Rattle.golog_team.specs.Keeping.{MayTeam, IsOver, Keeps}

-- two agents that are not refused may be a team, whichever is the first
abbrev pub UnrefusedMatch : Type 0
UnrefusedMatch =
    (first second : Agent) → team_refusal first second ≡ None → AreMatched first second × AreMatched second first

-- whatever notes come, each step of a side keeps what is so of it
abbrev pub StepsKeep : Type 0
StepsKeep =
    (agent other : Agent) (side : ℕ) (waits : Journal → Bool) → MayTeam agent other side waits
    → (old new : Station) (did : Did)
    → Keeps agent other side waits old → Steps agent other side waits old new did → Keeps agent other side waits new

-- two sides that are over, and have seen the same notes, are linked
abbrev pub TeamsAreLinked : Type 0
TeamsAreLinked =
    (first second : Agent) (waits their_waits : Journal → Bool) (s t : Station)
    → Keeps first second 0 waits s → Keeps second first 1 their_waits t
    → IsOver 0 (seen_at s) s.journal → IsOver 1 (seen_at t) t.journal → seen_at t ≡ seen_at s
    → IsLinked first second 0 waits (seen_at s) s.journal × IsLinked second first 1 their_waits (seen_at t) t.journal
