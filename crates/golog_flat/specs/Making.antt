-- How a check is made of a condition: by its parts, with a value for each variable that is bound outside.
use Rattle.std.specs.Prelude.{◌≡◌, ℕ, Bool, true, false, not, List, [], map, slice_index}
use Rattle.std.specs.List.{list_all}
use Rattle.golog_tree.specs.declared.agent.Agent.{Agent}
use Rattle.golog_tree.specs.declared.cond.Term.{Term}
use Rattle.golog_tree.specs.declared.cond.Cond.{Cond}
use Rattle.golog_tree.specs.declared.cond.Cond.TheVariants as cond
use Rattle.golog_tree.specs.declared.cond.Truth.{Truth}
use Rattle.golog_semantics.specs.Fits.{cond_fits, nothing_bound}
use Rattle.golog_semantics.specs.Truth.{Env, Values, and_of, env_of, or_of, truth_of, value_of}
use Rattle.golog_known.specs.Fits.{CondFitsAt, TermFitsAt}
use Rattle.golog_flat.specs.declared.check.Check.{Check}
use Rattle.golog_flat.specs.declared.check.Check.TheVariants as check
use Rattle.golog_flat.specs.declared.sides.Side.{Side}
use Rattle.golog_flat.specs.declared.sides.Side.TheVariants.{Value, At}
use Rattle.golog_flat.specs.Checks.{Tells, check_fits, check_truth, is_place, turned}

-- the value of a side
abbrev pub side_value : Values → Side → ℕ
side_value values (Value value) = value
side_value values (At place) = slice_index values place

-- the fluent of a side is of the agent
abbrev pub side_fits : Agent → Side → Bool
side_fits agent (Value value) = true
side_fits agent (At place) = is_place agent place

-- at all values the side has the value of the term
pub record IsSide (agent : Agent) (term : Term) (env : Env) (side : Side) : Type 0 where
  pub fits : side_fits agent side ≡ true
  pub same : (values : Values) → value_of agent values term env ≡ side_value values side

-- all of these checks, or one of them
abbrev pub joined : Bool → List Check → Check
joined true parts = check.Both parts
joined false parts = check.Either parts

-- all of these truths, or one of them
abbrev pub all_or_one : Bool → List Truth → Truth
all_or_one true ts = and_of ts
all_or_one false ts = or_of ts

-- the parts fit, and at all values all of them, or one, are as true as this says
pub record TellJoined (agent : Agent) (all : Bool) (told : Values → Truth) (parts : List Check) : Type 0 where
  pub fits : list_all (check_fits agent) parts ≡ true
  pub same : (values : Values) → all_or_one all (map (check_truth agent values) parts) ≡ told values

-- all of these conditions, or one of them
abbrev pub cond_joined : Bool → List Cond → Cond
cond_joined true conds = cond.And conds
cond_joined false conds = cond.Or conds

-- that one term is below the other, or at most the other
abbrev pub cond_order : Bool → ℕ → Term → Term → Cond
cond_order true sort one other = cond.Less sort one other
cond_order false sort one other = cond.AtMost sort one other

-- the condition with each constant of the sort for the variable, or with some one
abbrev pub cond_over : Bool → ℕ → ℕ → Cond → Cond
cond_over true var sort body = cond.ForAll var sort body
cond_over false var sort body = cond.ForSome var sort body

-- The condition can be evaluated where its variables have these values. Where none is bound outside it, it has no
-- free variable, and none has a value.
pub record Stands (agent : Agent) (c : Cond) (env : Env) (bound : Bool) : Type 0 where
  pub fits : CondFitsAt agent c env
  pub closed : bound ≡ false → cond_fits agent c nothing_bound ≡ true
  pub empty : bound ≡ false → env ≡ env_of []

-- at all values the check is as true as the condition, or as its negation, where the variables have these values
abbrev pub IsMadeOf : Agent → Cond → Env → Bool → Check → Type 0
IsMadeOf agent c env negated = Tells agent (λ values. turned negated (truth_of agent values c env))

-- all parts are to hold, of a conjunction or of the negation of a disjunction
abbrev pub joins_all : Bool → Bool → Bool
joins_all conjunction true = not conjunction
joins_all conjunction false = conjunction

-- a condition, or its negation
abbrev pub cond_turned : Bool → Cond → Cond
cond_turned true c = cond.Not c
cond_turned false c = c

-- both sides of a comparison can be evaluated
pub record EqualFits (agent : Agent) (one other : Term) (env : Env) : Type 0 where
  pub one_fits : TermFitsAt agent one env
  pub other_fits : TermFitsAt agent other env
