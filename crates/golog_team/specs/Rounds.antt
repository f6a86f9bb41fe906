-- Two sides that have their steps in turn. (This project's own.)
use Rattle.std.specs.Prelude.{◌≡◌, ◌≢◌, ◌⊎◌, ℕ, Bool, false, ◌++◌}
use Rattle.std.specs.List.{list_any}
use Rattle.golog_tree.specs.declared.agent.Agent.{Agent}
use Rattle.golog_semantics.specs.Journal.{Journal}
use Rattle.golog_team.specs.declared.did.Did.{Did}
use Rattle.golog_team.specs.Notes.{Notes, across, is_own, ends}
use Rattle.golog_team.specs.Steps.{Station, station, seen_at, Steps}

-- more notes have come, which it has not read: it has then seen these
pub record Hears (old new : Station) (notes : Notes) : Type 0 where
  pub more : Notes
  pub now : new ≡ station old.told (old.unread ++ more) old.journal old.taken
  pub all : seen_at new ≡ notes

module _ (agent other : Agent) (side : ℕ) (waits : Journal → Bool) where
  -- a step to which no note of the other side comes
  pub record StepsAlone (old new : Station) (did : Did) : Type 0 where
    pub steps : Steps agent other side waits old new did
    pub own : Notes
    pub adds : seen_at new ≡ seen_at old ++ own
    pub alone : list_any (is_own (across side)) own ≡ false

  -- a side that has ended has none
  pub data HasTurn (old new : Station) : Type 0 where
    stepped : (did : Did) → ends side (seen_at old) ≡ 0 → StepsAlone old new did → HasTurn old new
    rested : ends side (seen_at old) ≢ 0 → new ≡ old → HasTurn old new

module _ (agent other : Agent) (side : ℕ) (waits their_waits : Journal → Bool) where
  -- a round: a side has its turn, then the other has, and after each both have seen the same
  pub record Round (s t new_s new_t : Station) : Type 0 where
    pub mid_s : Station
    pub mid_t : Station
    pub turn : HasTurn agent other side waits s mid_s
    pub hears : Hears t mid_t (seen_at mid_s)
    pub their_turn : HasTurn other agent (across side) their_waits mid_t new_t
    pub heard : Hears mid_s new_s (seen_at new_t)

  -- rounds, from where both have seen the same: what one of them had
  pub data Rounds (s t : Station) : Station → Station → Type 0 where
    begun : (s' t' : Station) → Hears s s' (seen_at s') → Hears t t' (seen_at s') → (seen_at s' ≡ seen_at s) ⊎ (seen_at s' ≡ seen_at t) → Rounds s t s' t'
    further : (s' t' s'' t'' : Station) → Rounds s t s' t' → Round s' t' s'' t'' → Rounds s t s'' t''
