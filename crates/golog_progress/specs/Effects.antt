-- What a cause makes of the ground fluents that it speaks of.
use Rattle.std.specs.Prelude.{◌≡◌, ℕ, Bool, false, IsTrue, ◌+◌, ◌*◌, ◌<◌, ◌≤◌, ◌==◌, ◌⊎◌, Option, Some, List, [], ◌∷◌, ◌++◌, length, slice_get, slice_index, sum_by, take}
use Rattle.golog_tree.specs.declared.agent.Agent.{Agent}
use Rattle.golog_tree.specs.declared.agent.CauseItem.{CauseItem}
use Rattle.golog_tree.specs.declared.cond.Arg.{Arg}
use Rattle.golog_tree.specs.declared.cond.Arg.TheVariants.{Const, Var}
use Rattle.golog_tree.specs.Ground.{Ground, AreWithin, args_of, ground_fluents, args_at, fluent_args, product, sizes}
use Rattle.golog_semantics.specs.Truth.{Values}
use Rattle.golog_semantics.specs.Values.{matched_values, cause_for, value_caused, value_by_causes}
use Rattle.golog_semantics.specs.Fits.{bound_from, cond_fits, term_fits}
use Rattle.golog_semantics.specs.WellFormed.{head_sorts}
use Rattle.golog_progress.specs.declared.causing.Causing.{Causing}

-- the argument is the next variable after those that are bound
abbrev pub is_next : List ℕ → Arg → Bool
is_next found (Const c) = false
is_next found (Var x) = x == length found

-- A cause whose head is bound so far: these arguments of it are left, of these sorts, and the variables
-- before them have these values; its term and its condition fit within the variables of the whole head.
pub record HeadFits
    (agent : Agent) (cause : CauseItem) (sorts : List ℕ) (args : List Arg) (found : List ℕ) : Type 0 where
  pub sort : ℕ
  pub bound : List ℕ
  pub all : List ℕ
  pub few : length found + length args ≤ 6
  pub within : AreWithin (sizes agent bound) found
  pub head : head_sorts agent sorts args bound ≡ Some all
  pub term : IsTrue (term_fits agent cause.term (bound_from 0 all) sort)
  pub cond : IsTrue (cond_fits agent cause.cond (bound_from 0 all))

-- a cause of an agent, and the values before the action, which its effect is taken from
pub record Effect : Type 0 where
  pub agent : Agent
  pub values : Values
  pub cause : CauseItem

-- the effect of these
abbrev pub effect_of : Agent → Values → CauseItem → Effect
effect_of agent values cause = record { agent = agent; values = values; cause = cause }

-- the effect of a cause as code has it
abbrev pub effect_in : Causing → Effect
effect_in causing = effect_of causing.agent.now causing.values.now causing.cause.now

-- what the cause makes of a value, where its variables have values, or where it does not speak of the fluent
abbrev pub caused : Effect → Option (List ℕ) → ℕ → ℕ
caused effect found later = value_caused effect.agent effect.values effect.cause found later

-- The ground things whose arguments have these sizes stand together, from a number on: the cause, whose
-- variables before these arguments have these values, has been put into their values, and the others are as
-- before.
pub record IsSpread
    (effect : Effect) (ns : List ℕ) (args : List Arg) (found : List ℕ) (start : ℕ) (old new : Values) : Type 0 where
  pub inside : (place : ℕ) → place < product ns
      → slice_index new (start + place)
      ≡ caused effect (matched_values args (args_of ns place) found) (slice_index old (start + place))
  pub outside : (f : ℕ) → (f < start) ⊎ (start + product ns ≤ f) → slice_index new f ≡ slice_index old f

-- The next variable of the cause has been given its first values, so many of them: for each, a part of the
-- values, in order from a number on, is changed, and the other values are as before.
pub record IsRanged
    (effect : Effect) (ns : List ℕ) (args : List Arg) (found : List ℕ) (start : ℕ) (old : Values) (given : ℕ)
    (new : Values) : Type 0 where
  pub inside : (c place : ℕ) → c < given → place < product ns
      → slice_index new (start + (c * product ns + place))
      ≡ caused effect (matched_values args (args_of ns place) (found ++ c ∷ []))
      (slice_index old (start + (c * product ns + place)))
  pub outside : (f : ℕ) → (f < start) ⊎ (start + given * product ns ≤ f)
      → slice_index new f ≡ slice_index old f

-- the ground fluents of a fluent stand together, so many of them, from a number on
pub record ArePlaces (agent : Agent) (fluent first count : ℕ) : Type 0 where
  pub first_is : first ≡ sum_by (λ sorts. product (sizes agent sorts)) (take fluent (fluent_args agent))
  pub count_is : count ≡ product (sizes agent (args_at (fluent_args agent) fluent))
  pub some : 0 < count
  pub within : first + count ≤ length (ground_fluents agent)

-- a cause of the action has been put into the value of each ground fluent
pub record IsAffected
    (agent : Agent) (values : Values) (cause : CauseItem) (action : Ground) (old new : Values) : Type 0 where
  pub changed : (f : ℕ) (fluent : Ground) → slice_get (ground_fluents agent) f ≡ Some fluent
      → slice_index new f ≡ value_caused agent values cause (cause_for cause action fluent) (slice_index old f)

-- the rule of these causes has been put into the value of each ground fluent
pub record AreRuled
    (agent : Agent) (values : Values) (causes : List CauseItem) (action : Ground) (old new : Values) : Type 0 where
  pub changed : (f : ℕ) (fluent : Ground) → slice_get (ground_fluents agent) f ≡ Some fluent
      → slice_index new f ≡ value_by_causes agent values causes action fluent (slice_index old f)
