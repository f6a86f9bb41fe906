-- The values of the ground fluents after a step.
--
-- The rule of causes is a successor state axiom for each fluent (Reiter 2001, with effects that are
-- computed); a precondition is an action precondition axiom. What is made of unknown conditions is this
-- project's own.
use Rattle.std.specs.Prelude.{ℕ, Bool, true, ◌==◌, ◌&&◌, if◌then◌else◌, Option, Some, None, List, [], ◌∷◌, ◌++◌, length, map, slice_get, slice_index, option_map, option_and_then, unwrap_or}
use Rattle.std.specs.List.{enumerate_from}
use Rattle.golog_tree.specs.declared.agent.Agent.{Agent}
use Rattle.golog_tree.specs.declared.agent.CauseItem.{CauseItem}
use Rattle.golog_tree.specs.declared.agent.PossItem.{PossItem}
use Rattle.golog_tree.specs.declared.cond.Arg.{Arg}
use Rattle.golog_tree.specs.declared.cond.Arg.TheVariants.{Const, Var}
use Rattle.golog_tree.specs.declared.prog.Label.{Label}
use Rattle.golog_tree.specs.declared.prog.Label.TheVariants.{Quiet, Do}
use Rattle.golog_semantics.specs.declared.Mode.{Mode}
use Rattle.golog_semantics.specs.Modes.{holds}
pub use Rattle.golog_tree.specs.Ground.{Ground, args_of, all_from, ground_fluents, ground_actions}
use Rattle.golog_semantics.specs.Truth.{Values, env_of, chosen, truth_of, value_of}

-- the sort of a ground fluent
abbrev pub fluent_sort : Agent → ℕ → ℕ
fluent_sort agent fluent =
    let sort_at = λ (at : Ground). option_map (λ item. item.sort) (slice_get agent.fluents at.0) in
    unwrap_or (option_and_then sort_at (slice_get (ground_fluents agent) fluent)) 0

-- the values of the variables of these arguments, which are numbered in the order of their first occurrence;
-- none where a constant, or a variable that stood before, has another value
abbrev pub matched_values : List Arg → List ℕ → List ℕ → Option (List ℕ)
matched_values [] vs found = Some found
matched_values (arg ∷ args) [] found = None
matched_values (Const c ∷ args) (v ∷ vs) found = if c == v then matched_values args vs found else None
matched_values (Var x ∷ args) (v ∷ vs) found =
    if x == length found then matched_values args vs (found ++ v ∷ [])
    else (if slice_index found x == v then matched_values args vs found else None)

-- the values of a cause's variables for an action and a fluent, where it speaks of them
abbrev pub cause_for : CauseItem → Ground → Ground → Option (List ℕ)
cause_for cause (action, args) (fluent, at) =
    if cause.action == action && cause.fluent == fluent
    then matched_values (cause.action_args ++ cause.fluent_args) (args ++ at) []
    else None

-- What one cause makes of a value, given what the causes after it make of it. Where it is not known whether
-- the cause applies, the value is known only if it is the same either way.
abbrev pub value_caused : Agent → Values → CauseItem → Option (List ℕ) → ℕ → ℕ
value_caused agent values cause None later = later
value_caused agent values cause (Some found) later =
    let env = env_of found in
    chosen (truth_of agent values cause.cond env) (value_of agent values cause.term env) later

-- the value of a ground fluent after an action, by the first cause whose condition is true
abbrev pub value_by_causes : Agent → Values → List CauseItem → Ground → Ground → ℕ → ℕ
value_by_causes agent values [] action fluent old = old
value_by_causes agent values (cause ∷ causes) action fluent old =
    value_caused agent values cause (cause_for cause action fluent) (value_by_causes agent values causes action fluent old)

-- the values after an action, all taken from the values before
abbrev pub after_ground : Agent → Values → Ground → Values
after_ground agent values action =
    map
    (λ f. value_by_causes agent values agent.causes action f.1 (slice_index values f.0))
    (enumerate_from 0 (ground_fluents agent))

-- the values after an action, where there is one of the number
abbrev pub after_if : Agent → Values → Option Ground → Values
after_if agent values None = values
after_if agent values (Some action) = after_ground agent values action

-- the values after a ground action, by its number
abbrev pub after_do : Agent → Values → ℕ → Values
after_do agent values action = after_if agent values (slice_get (ground_actions agent) action)

-- the values after a step
abbrev pub after : Agent → Values → Label → Values
after agent values Quiet = values
after agent values (Do action) = after_do agent values action

-- the precondition that these items give an action holds in the mode; without an item it is true
abbrev pub possible_by : Agent → Values → Mode → ℕ → List ℕ → List PossItem → Bool
possible_by agent values mode action args [] = true
possible_by agent values mode action args (item ∷ items) =
    if item.action == action then holds mode (truth_of agent values item.cond (env_of args))
    else possible_by agent values mode action args items

-- the precondition of a ground action holds in the mode
abbrev pub is_possible : Agent → Values → Mode → ℕ → List ℕ → Bool
is_possible agent values mode action args = possible_by agent values mode action args agent.poss
