-- The sort of the fluent that an action's result tells.
use Rattle.std.proofs.Common.{◌≡◌, ℕ, ◌<◌, ◌==◌, Option, Some, List, length, map, get_or, sym, ap, ◌∙◌, subst}
use Rattle.std.specs.Prelude.{find, slice_get, option_map, option_and_then, unwrap_or}
use Rattle.std.proofs.lemmas.List.{length-map}
use Rattle.std.proofs.lemmas.Option.{slice_get-get_or}
use Rattle.golog_tree.specs.declared.agent.Agent.{Agent}
use Rattle.golog_tree.specs.declared.agent.FluentItem.{FluentItem}
use Rattle.golog_tree.specs.declared.agent.SenseItem.{SenseItem}
use Rattle.golog_tree.specs.Ground.{Ground, fluent_args, ground_actions, ground_fluents}
use Rattle.golog_tree.proofs.Numbers.{get-number_of}
use Rattle.golog_semantics.specs.Truth.{env_of, arg_value}
use Rattle.golog_semantics.specs.Values.{fluent_sort}
use Rattle.golog_semantics.specs.Journal.{fluent_sensed, sensed_by}
use Rattle.golog_semantics.proofs.GroundNumbers.{action_is}
use Rattle.golog_journal.specs.Agents.{ServesDevices}
use Rattle.golog_journal.proofs.Sensing.{Names, found-names}

module _ (agent : Agent) (serves : ServesDevices agent) (action item : ℕ) (args : List ℕ) (sense : SenseItem)
    (is : slice_get (ground_actions agent) action ≡ Some (item, args)) (found : find (λ s. s.action == item) agent.senses ≡ Some sense) where
  names : Names agent sense args
  names = found-names agent serves item args sense (action_is agent action item args is).within found

  -- it is a fluent of the agent
  pub sensed-declared : sense.fluent < length agent.fluents
  sensed-declared = names.declared

  stands : slice_get (ground_fluents agent) (sensed_by agent (item, args) sense) ≡ Some (sense.fluent, map (arg_value (env_of args)) sense.args)
  stands =
      get-number_of agent (fluent_args agent) sense.fluent (map (arg_value (env_of args)) sense.args)
      (subst (λ n. sense.fluent < n) (sym (length-map agent.fluents (λ item. item.args))) names.declared) names.within

  sensed-is : fluent_sensed agent action ≡ Some (sensed_by agent (item, args) sense)
  sensed-is =
      ap (option_and_then (λ (at : Ground). option_map (sensed_by agent at) (find (λ s. s.action == at.0) agent.senses))) is
      ∙ ap (option_map (sensed_by agent (item, args))) found

  -- and has its sort
  pub sensed-sort : (d : FluentItem) → Some ((get_or agent.fluents sense.fluent d).sort) ≡ option_map (fluent_sort agent) (fluent_sensed agent action)
  sensed-sort d =
      sym (ap (option_map (fluent_sort agent)) sensed-is
      ∙ ap (λ (o : Option Ground). Some (unwrap_or (option_and_then (λ (at : Ground). option_map (λ (f : FluentItem). f.sort) (slice_get agent.fluents at.0)) o) 0)) stands
      ∙ ap (λ (o : Option FluentItem). Some (unwrap_or (option_map (λ (f : FluentItem). f.sort) o) 0)) (slice_get-get_or agent.fluents sense.fluent d names.declared))
