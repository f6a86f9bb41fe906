-- By which effect an action gave a ground fluent its value.
use Rattle.std.specs.Prelude.{◌≡◌, ℕ, suc, Option, Some, None, List, [], ◌∷◌, option_map, option_and_then, slice_get}
use Rattle.golog_tree.specs.declared.agent.Agent.{Agent}
use Rattle.golog_tree.specs.declared.agent.CauseItem.{CauseItem}
use Rattle.golog_tree.specs.declared.cond.Truth.{Truth}
use Rattle.golog_tree.specs.declared.cond.Truth.TheVariants.{Yes, No, Unknown}
use Rattle.golog_tree.specs.Ground.{Ground, ground_actions, ground_fluents}
use Rattle.golog_semantics.specs.Truth.{Values, env_of, truth_of}
use Rattle.golog_semantics.specs.Values.{cause_for, value_by_causes}
use Rattle.golog_trace.specs.declared.effects.Effect.{Effect}

-- an effect of this number that applies for certain, or may apply
abbrev pub effect_if : ℕ → Option Truth → Option Effect
effect_if number None = None
effect_if number (Some No) = None
effect_if number (Some Yes) = Some (record { number = number; truth = Yes })
effect_if number (Some Unknown) = Some (record { number = number; truth = Unknown })

-- the first effect, where there is one
abbrev pub first_of : Option Effect → Option Effect → Option Effect
first_of None later = later
first_of (Some effect) later = Some effect

module _ (agent : Agent) (values : Values) where
  -- the truth of the condition of a cause, where it speaks of the action and the fluent
  abbrev pub truth_for : CauseItem → Ground → Ground → Option Truth
  truth_for cause action fluent =
      option_map (λ found. truth_of agent values cause.cond (env_of found)) (cause_for cause action fluent)

  -- the first of these causes, which are numbered from this number on, that speaks of both and whose condition isn't
  -- false
  abbrev pub first_effect : ℕ → List CauseItem → Ground → Ground → Option Effect
  first_effect number [] action fluent = None
  first_effect number (cause ∷ causes) action fluent =
      first_of (effect_if number (truth_for cause action fluent)) (first_effect (suc number) causes action fluent)

  -- the first effect of a ground action on a ground fluent, by their numbers
  abbrev pub effect_on : ℕ → ℕ → Option Effect
  effect_on action fluent =
      option_and_then
      (λ a. option_and_then (λ f. first_effect 0 agent.causes a f) (slice_get (ground_fluents agent) fluent))
      (slice_get (ground_actions agent) action)

-- where no effect applies, the value stays as it was
abbrev pub UntoldStays : Type 0
UntoldStays =
    (agent : Agent) (values : Values) (action fluent : Ground) (old number : ℕ) (causes : List CauseItem)
    → first_effect agent values number causes action fluent ≡ None
    → value_by_causes agent values causes action fluent old ≡ old
