-- What is kept of each ground action.
use Rattle.std.specs.Prelude.{◌≡◌, ℕ, ◌<◌, false, Some, List, length, slice_index_or}
use Rattle.golog_tree.specs.declared.agent.Agent.{Agent}
use Rattle.golog_tree.specs.Ground.{ground_actions, sort_size}
use Rattle.golog_semantics.specs.Values.{fluent_sort}
use Rattle.golog_semantics.specs.Journal.{device_of, may_post, fluent_sensed, is_held, device_limit}
use Rattle.golog_journal.specs.declared.facts.ActionFact.{ActionFact}

module _ (agent : Agent) where
  -- its device, the devices that may post it, the fluent whose value its result tells, how many values that
  -- fluent has, and whether the program goes on only after the result
  pub record IsFactOf (action : ℕ) (fact : ActionFact) : Type 0 where
    pub device : fact.device ≡ device_of agent action
    pub posters : (d : ℕ) → d < device_limit → slice_index_or fact.posters d false ≡ may_post agent d action
    pub sensed : fact.sensed ≡ fluent_sensed agent action
    pub values : (fluent : ℕ) → fluent_sensed agent action ≡ Some fluent
        → fact.values ≡ sort_size agent (fluent_sort agent fluent)
    pub held : fact.held ≡ is_held agent action

  -- the first ground actions
  pub record AreFacts (facts : List ActionFact) : Type 0 where
    pub each : (action : ℕ) (d : ActionFact) → action < length facts
        → IsFactOf action (slice_index_or facts action d)

  -- all of them
  pub record AreAllFacts (facts : List ActionFact) : Type 0 where
    pub first : AreFacts facts
    pub whole : length facts ≡ length (ground_actions agent)
