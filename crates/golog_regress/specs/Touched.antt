-- Which events may change a fluent that a condition reads.
use Rattle.std.specs.Prelude.{ℕ, Bool, false, ◌==◌, ◌&&◌, ◌||◌, List, slice_get}
use Rattle.std.specs.List.{list_any}
use Rattle.std.specs.Option.{option_map_or}
use Rattle.golog_tree.specs.declared.agent.Agent.{Agent}
use Rattle.golog_tree.specs.declared.agent.CauseItem.{CauseItem}
use Rattle.golog_tree.specs.declared.cond.Term.{Term}
use Rattle.golog_tree.specs.declared.cond.Cond.{Cond}
use Rattle.golog_tree.specs.declared.cond.Cond.TheOpen.{Term-F, Arg, Fluent, Shift, Ite}
use Rattle.golog_tree.specs.declared.cond.Cond.TheOpen.{Cond-F, Truth, Is, Equal, Less, AtMost, Not, And, Or, ForSome, ForAll}
use Rattle.golog_tree.specs.declared.cond.Cond.TheFolds.{fold-Cond, fold-Term}
use Rattle.golog_tree.specs.Ground.{ground_actions, ground_fluents}
use Rattle.golog_regress.specs.declared.event.Event.{Event}
use Rattle.golog_regress.specs.declared.event.Event.TheVariants.{Did, Sensed}

module _ (fluent : ℕ) where
  -- the fluent stands in a term, given whether it stands in its parts
  abbrev pub term_step : Term-F Bool Bool → Bool
  term_step (Arg arg) = false
  term_step (Fluent f args) = f == fluent
  term_step (Shift sort t by) = t
  term_step (Ite c t u) = c || t || u

  -- the fluent stands in a condition, given whether it stands in its parts
  abbrev pub cond_step : Cond-F Bool Bool → Bool
  cond_step (Truth b) = false
  cond_step (Is f args) = f == fluent
  cond_step (Equal sort t u) = t || u
  cond_step (Less sort t u) = t || u
  cond_step (AtMost sort t u) = t || u
  cond_step (Not c) = c
  cond_step (And cs) = list_any (λ c. c) cs
  cond_step (Or cs) = list_any (λ c. c) cs
  cond_step (ForSome var sort c) = c
  cond_step (ForAll var sort c) = c

  -- the fluent, at whatever arguments, stands in the term
  abbrev pub term_reads : Term → Bool
  term_reads = fold-Term Bool Bool cond_step term_step

  -- the fluent, at whatever arguments, stands in the condition
  abbrev pub reads : Cond → Bool
  reads = fold-Cond Bool Bool cond_step term_step

-- one of the causes is of the action and of a fluent that stands in the condition
abbrev pub is_touched : List CauseItem → ℕ → Cond → Bool
is_touched causes action c = list_any (λ cause. cause.action == action && reads cause.fluent c) causes

-- an event may change a fluent that the condition reads: by a cause of the action, or as what is sensed
abbrev pub touches : Agent → Event → Cond → Bool
touches agent (Did action) c = option_map_or (λ at. is_touched agent.causes at.0 c) (slice_get (ground_actions agent) action) false
touches agent (Sensed fluent value) c = option_map_or (λ at. reads at.0 c) (slice_get (ground_fluents agent) fluent) false
