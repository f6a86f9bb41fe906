-- What a regressed condition says: before the events, what the condition says after them.
use Rattle.std.specs.Prelude.{◌≡◌, ◌<◌, IsTrue, List, length, fold, slice_set}
use Rattle.golog_tree.specs.declared.agent.Agent.{Agent}
use Rattle.golog_tree.specs.declared.cond.Cond.{Cond}
use Rattle.golog_tree.specs.Ground.{ground_actions, ground_fluents}
use Rattle.golog_semantics.specs.Truth.{Env, Values, truth_of}
use Rattle.golog_semantics.specs.Values.{after_do}
use Rattle.golog_semantics.specs.Fits.{Scope, cond_fits}
use Rattle.golog_semantics.specs.Reports.{is_value}
use Rattle.golog_known.specs.Fits.{CondFitsAt}
use Rattle.golog_regress.specs.declared.event.Event.{Event}
use Rattle.golog_regress.specs.declared.event.Event.TheVariants.{Did, Sensed}

module _ (agent : Agent) where
  -- the values after an event
  abbrev pub after_event : Values → Event → Values
  after_event values (Did action) = after_do agent values action
  after_event values (Sensed fluent value) = slice_set values fluent value

  -- an action of the agent, or a value of one of its fluents
  abbrev pub EventFits : Event → Type 0
  EventFits (Did action) = action < length (ground_actions agent)
  EventFits (Sensed fluent value) = IsTrue (is_value agent fluent value)

  -- The answer fits wherever the condition does, and so has its free variables alone, and binders below 32. At
  -- all values its truth before the events is the condition's after them.
  pub record IsRegressed (events : List Event) (cond answer : Cond) : Type 0 where
    pub fits : (scope : Scope) → IsTrue (cond_fits agent cond scope) → IsTrue (cond_fits agent answer scope)
    pub truth : (values : Values) (env : Env) → length values ≡ length (ground_fluents agent) → length env ≡ 32
        → CondFitsAt agent cond env
        → truth_of agent values answer env ≡ truth_of agent (fold after_event values events) cond env
