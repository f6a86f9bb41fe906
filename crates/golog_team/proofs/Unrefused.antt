-- Two agents that are not refused may be a team.
use Rattle.std.proofs.Common.{◌≡◌, ℕ, Bool, true, false, not, if◌then◌else◌, Option, Some, None, refl}
use Rattle.std.specs.Prelude.{option_map}
use Rattle.std.specs.Option.{option_or}
use Rattle.golog_tree.specs.declared.agent.Agent.{Agent}
use Rattle.golog_team.specs.Shapes.{has_shape, unheard, refused, team_refusal, AreMatched}
use Rattle.golog_team.specs.Laws.{UnrefusedMatch}

module _ (first second : Agent) where
  by : (b c : Bool) (o p : Option ℕ) → has_shape first ≡ b → has_shape second ≡ c → unheard first second ≡ o → unheard second first ≡ p
      → (if not b then Some (refused 0 45 0) else (if not c then Some (refused 1 45 0) else option_or (option_map (refused 0 46) o) (option_map (refused 1 46) p))) ≡ None
      → AreMatched first second × AreMatched second first
  by true true None None b c o p h =
      (record { shape = b; other_shape = c; heard = o; hears = p }, record { shape = c; other_shape = b; heard = p; hears = o })
  by true true None (Some n) b c o p h = absurd (cc)
  by true true (Some n) p b c o q h = absurd (cc)
  by true false o p b c q r h = absurd (cc)
  by false c o p b d q r h = absurd (cc)

pub unrefused-match : UnrefusedMatch
unrefused-match first second h = by first second (has_shape first) (has_shape second) (unheard first second) (unheard second first) refl refl refl refl h
