-- Steps that write the same values wherever they are taken.
use Rattle.std.specs.Prelude.{◌≡◌, ℕ, ◌<◌, Bool, true, false, not, ◌==◌, ◌&&◌, ◌||◌, if◌then◌else◌, Option, Some, None, List, [], ◌∷◌, ◌++◌, All, fold, length, replicate, slice_get, slice_index, slice_set}
use Rattle.std.specs.List.{list_all}
use Rattle.golog_tree.specs.declared.agent.Agent.{Agent}
use Rattle.golog_tree.specs.declared.agent.CauseItem.{CauseItem}
use Rattle.golog_tree.specs.declared.cond.Term.{Term}
use Rattle.golog_tree.specs.declared.cond.Cond.{Cond}
use Rattle.golog_tree.specs.declared.cond.Cond.TheOpen.{Term-F, Arg as ArgTerm, Fluent, Shift, Ite}
use Rattle.golog_tree.specs.declared.cond.Cond.TheOpen.{Cond-F, Truth, Is, Equal, Less, AtMost, Not, And, Or, ForSome, ForAll}
use Rattle.golog_tree.specs.declared.cond.Cond.TheFolds.{fold-Cond, fold-Term}
use Rattle.golog_tree.specs.declared.prog.Label.{Label}
use Rattle.golog_tree.specs.declared.prog.Label.TheVariants.{Quiet, Do}
use Rattle.golog_semantics.specs.Truth.{Values}
use Rattle.golog_semantics.specs.Values.{Ground, after, after_do, ground_actions, ground_fluents}
use Rattle.golog_flat.specs.declared.writes.Write.{Write}
use Rattle.golog_flat.specs.declared.effect.Effect.{Effect}

-- a condition that is `true` as it stands
abbrev pub always_step : Cond-F Bool Bool → Bool
always_step (Truth plain) = plain
always_step _ = false

-- a constant or a variable
abbrev pub argument_step : Term-F Bool Bool → Bool
argument_step (ArgTerm arg) = true
argument_step _ = false

abbrev pub is_always : Cond → Bool
is_always = fold-Cond Bool Bool always_step argument_step

abbrev pub is_argument : Term → Bool
is_argument = fold-Term Bool Bool always_step argument_step

-- a cause that gives a constant, or the value of a variable of its head, under no condition
abbrev pub is_plain : CauseItem → Bool
is_plain cause = is_always cause.cond && is_argument cause.term

-- such a cause, or one of another action
abbrev pub is_plain_for : ℕ → CauseItem → Bool
is_plain_for action cause = not (cause.action == action) || is_plain cause

-- the causes of the action are such
abbrev pub are_plain : List CauseItem → ℕ → Bool
are_plain causes action = list_all (is_plain_for action) causes

abbrev pub is_plain_action : Agent → Option Ground → Bool
is_plain_action agent None = true
is_plain_action agent (Some action) = are_plain agent.causes action.0

-- the causes of the step's action, where it has one, are such
abbrev pub is_plain_step : Agent → Label → Bool
is_plain_step agent Quiet = true
is_plain_step agent (Do action) = is_plain_action agent (slice_get (ground_actions agent) action)

-- the values with one of them written
abbrev pub with_write : Values → Write → Values
with_write values w = slice_set values w.place w.value

-- the values with these written, in order
abbrev pub with_writes : Values → List Write → Values
with_writes values writes = fold with_write values writes

-- the values with an effect written
abbrev pub written : Values → Effect → Values
written values effect = with_writes values effect.writes

-- the effect speaks of the agent's ground fluents, and makes of any values those after the step
pub record IsEffectOf (agent : Agent) (label : Label) (effect : Effect) : Type 0 where
  pub inside : All (λ w. w.place < length (ground_fluents agent)) effect.writes
  pub same : (values : Values) → length values ≡ length (ground_fluents agent) → written values effect ≡ after agent values label

-- the values after an action, where all were the same before
abbrev pub ends_all : Agent → ℕ → ℕ → Values
ends_all agent action value = after_do agent (replicate (length (ground_fluents agent)) value) action

-- what two lists have at a place, where they agree, and else what a third one has
abbrev pub agreed : Values → Values → Values → ℕ → ℕ
agreed lows highs values f =
    if slice_index lows f == slice_index highs f then slice_index lows f else slice_index values f

-- the writes, and one more where a place has the same value in both
abbrev pub with_place : List Write → ℕ → ℕ → ℕ → List Write
with_place writes place low high =
    if low == high then writes ++ record { place = place; value = low } ∷ [] else writes

-- what is written stands where both agree
pub record Agree (lows highs : Values) (writes : List Write) : Type 0 where
  pub inside : All (λ w. w.place < length lows) writes
  pub at : (values : Values) (f : ℕ) → length values ≡ length lows → f < length lows
      → slice_index (with_writes values writes) f ≡ agreed lows highs values f
