-- Which agents may be the two sides of a team. (This project's own.)
use Rattle.std.specs.Prelude.{◌≡◌, ℕ, Bool, true, false, not, ◌==◌, ◌&&◌, if◌then◌else◌, Option, None, Some, List, find, length, option_map}
use Rattle.std.specs.List.{list_any, range_with_len}
use Rattle.std.specs.Option.{option_or}
use Rattle.golog_tree.specs.declared.agent.Agent.{Agent}
use Rattle.golog_semantics.specs.declared.journal.Item.{Item}
use Rattle.golog_semantics.specs.declared.journal.Item.TheVariants.{Exo}
use Rattle.golog_semantics.specs.Inline.{posted_action}
use Rattle.golog_semantics.specs.Journal.{is_carried_by, is_sensing, may_post}
use Rattle.golog_semantics.specs.Text.{action_text}
use Rattle.golog_semantics.specs.Values.{ground_actions}
use Rattle.golog_team.specs.declared.shape.TeamRefusal.{TeamRefusal}

-- the numbers of the ground actions
abbrev pub numbers : Agent → List ℕ
numbers agent = range_with_len 0 (length (ground_actions agent))

-- it has one device, and no action of that senses
abbrev pub has_shape : Agent → Bool
has_shape agent =
    length agent.devices == 1
    && not (list_any (λ a. is_carried_by agent 0 a && is_sensing agent a) (numbers agent))

-- an action that the one device may post
abbrev pub may_hear : Agent → Item → Bool
may_hear agent (Exo action) = may_post agent 0 action
may_hear agent i = false

-- the text of the action is that of an action that the other agent's device may post
abbrev pub is_heard : Agent → Agent → ℕ → Bool
is_heard agent other a = may_hear other (posted_action other (action_text agent a))

-- the least action of its device that the other does not hear
abbrev pub unheard : Agent → Agent → Option ℕ
unheard agent other = find (λ a. is_carried_by agent 0 a && not (is_heard agent other a)) (numbers agent)

-- two agents that may be a team
pub record AreMatched (agent other : Agent) : Type 0 where
  pub shape : has_shape agent ≡ true
  pub other_shape : has_shape other ≡ true
  pub heard : unheard agent other ≡ None
  pub hears : unheard other agent ≡ None

-- which of two agents is refused, the first or the second, with the code and the place
abbrev pub refused : ℕ → ℕ → ℕ → TeamRefusal
refused side code at = record { side = side; code = code; at = at }

-- The shapes come first. The word of the first comes before that of the second.
abbrev pub team_refusal : Agent → Agent → Option TeamRefusal
team_refusal first second =
    if not (has_shape first) then Some (refused 0 45 0)
    else (if not (has_shape second) then Some (refused 1 45 0)
    else option_or (option_map (refused 0 46) (unheard first second)) (option_map (refused 1 46) (unheard second first)))
