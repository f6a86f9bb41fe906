-- Well-formed agents: what the checker grants of an agent, and every call above it asks for.
use Rattle.std.specs.Prelude.{◌≡◌, ℕ, ◌+◌, ◌≤◌, Bool, true, false, not, IsTrue, ◌==◌, nat_eq, nat_lt, nat_le, ◌&&◌, ◌||◌, if◌then◌else◌, Option, Some, None, is_some, List, [], ◌∷◌, ◌++◌, length, map, All, slice_get}
use Rattle.std.specs.List.{list_all, IsDistinct, enumerate_from}
use Rattle.std.specs.Option.{option_map_or}
use Rattle.golog_tree.specs.declared.agent.Agent.{Agent}
use Rattle.golog_tree.specs.declared.agent.SortItem.{SortItem}
use Rattle.golog_tree.specs.declared.agent.FluentItem.{FluentItem}
use Rattle.golog_tree.specs.declared.agent.ActionItem.{ActionItem}
use Rattle.golog_tree.specs.declared.agent.PossItem.{PossItem}
use Rattle.golog_tree.specs.declared.agent.CauseItem.{CauseItem}
use Rattle.golog_tree.specs.declared.agent.SenseItem.{SenseItem}
use Rattle.golog_tree.specs.declared.agent.ProcItem.{ProcItem}
use Rattle.golog_tree.specs.declared.cond.Arg.{Arg}
use Rattle.golog_tree.specs.declared.cond.Arg.TheVariants.{Const, Var}
use Rattle.golog_tree.specs.Nest.{nest}
use Rattle.golog_tree.specs.Ground.{item_size, sort_size, ground_fluents, IsCountable}
use Rattle.golog_semantics.specs.Truth.{unknown}
use Rattle.golog_semantics.specs.Values.{fluent_sort}
use Rattle.golog_semantics.specs.Ways.{is_empty}
use Rattle.golog_semantics.specs.Journal.{device_limit}
use Rattle.golog_semantics.specs.Guarded.{IsGuarded}
use Rattle.golog_semantics.specs.FrontCalls.{front_nests}
use Rattle.golog_semantics.specs.BuiltIn.{HasBuiltIn, NamesFit}
use Rattle.golog_semantics.specs.Fits.{bound_from, is_sort, args_fit, term_fits, cond_fits}
use Rattle.golog_semantics.specs.ProgFits.{outermost, prog_fits, fits}
use Rattle.golog_semantics.specs.Written.{is_written_term, is_written_cond, is_written_prog}

-- how many items of each kind an agent has at most; of causes, two are built in
pub record IsSmall (agent : Agent) : Type 0 where
  pub sorts : length agent.sorts ≤ 64
  pub devices : length agent.devices ≤ device_limit
  pub causes : length agent.causes ≤ 1024 + 2
  pub procs : length agent.procs ≤ 256

-- a sort has a constant
abbrev pub sort_fits : SortItem → Bool
sort_fits item = nat_lt 0 (item_size item)

module _ (agent : Agent) where
  abbrev pub is_device_no : ℕ → Bool
  is_device_no device = nat_lt device (length agent.devices)

  abbrev pub are_sorts : List ℕ → Bool
  are_sorts sorts = list_all (is_sort agent) sorts

  abbrev pub fluent_item_fits : FluentItem → Bool
  fluent_item_fits item = are_sorts item.args && is_sort agent item.sort

  -- the device of an action, and those that may post it, are devices; an exogenous action has no device
  -- of its own
  abbrev pub action_item_fits : ActionItem → Bool
  action_item_fits item =
      are_sorts item.args
      && option_map_or is_device_no item.device true
      && list_all is_device_no item.posters
      && (is_empty item.posters || not (is_some item.device))

  -- an action of the program that is not built in
  abbrev pub is_plain_action : ℕ → ActionItem → Bool
  is_plain_action action item = nat_le 2 action && is_empty item.posters

  -- a precondition speaks of such an action, and of its arguments
  abbrev pub poss_fits_for : PossItem → ActionItem → Bool
  poss_fits_for item action =
      is_plain_action item.action action
      && cond_fits agent item.cond (bound_from 0 action.args)
      && is_written_cond agent item.cond (length action.args)

  abbrev pub poss_fits : PossItem → Bool
  poss_fits item = option_map_or (poss_fits_for item) (slice_get agent.actions item.action) false

  -- The sorts of the variables of these arguments, in the order of their numbers: a variable has the
  -- sort of the place where it first stands, and the next number. None where an argument is not of its
  -- place's sort.
  abbrev pub head_sorts : List ℕ → List Arg → List ℕ → Option (List ℕ)
  head_sorts [] [] found = Some found
  head_sorts [] (arg ∷ args) found = None
  head_sorts (sort ∷ sorts) [] found = None
  head_sorts (sort ∷ sorts) (Const c ∷ args) found =
      if nat_lt c (sort_size agent sort) then head_sorts sorts args found else None
  head_sorts (sort ∷ sorts) (Var x ∷ args) found =
      if x == length found then head_sorts sorts args (found ++ sort ∷ [])
      else (if option_map_or (λ own. own == sort) (slice_get found x) false then head_sorts sorts args found
      else None)

  -- the term of a cause is of the fluent's sort, and its condition fits, within the variables of its head
  abbrev pub effect_fits : CauseItem → ℕ → List ℕ → Bool
  effect_fits item sort vars =
      term_fits agent item.term (bound_from 0 vars) sort
      && cond_fits agent item.cond (bound_from 0 vars)
      && is_written_term agent item.term
      && is_written_cond agent item.cond (length vars)

  abbrev pub cause_fits_for : CauseItem → ActionItem → FluentItem → Bool
  cause_fits_for item action fluent =
      option_map_or (effect_fits item fluent.sort)
      (head_sorts (action.args ++ fluent.args) (item.action_args ++ item.fluent_args) []) false

  abbrev pub cause_fits : CauseItem → Bool
  cause_fits item =
      option_map_or
      (λ action. option_map_or (cause_fits_for item action) (slice_get agent.fluents item.fluent) false)
      (slice_get agent.actions item.action) false

  -- an action that senses has a device and is not exogenous; the fluent's arguments speak of the action's
  abbrev pub sense_fits_for : SenseItem → ActionItem → FluentItem → Bool
  sense_fits_for item action fluent =
      is_some action.device && is_empty action.posters
      && args_fit agent (bound_from 0 action.args) fluent.args item.args

  abbrev pub sense_fits : SenseItem → Bool
  sense_fits item =
      option_map_or
      (λ action. option_map_or (sense_fits_for item action) (slice_get agent.fluents item.fluent) false)
      (slice_get agent.actions item.action) false

  -- a procedure's body fits within its parameters
  abbrev pub proc_fits : ProcItem → Bool
  proc_fits item =
      are_sorts item.params && nat_le (length item.params) 3
      && prog_fits agent item.body (record outermost { scope = bound_from 0 item.params })
      && is_written_prog agent item.body (length item.params)

  -- a start value is a constant of its fluent's sort, or unknown
  abbrev pub start_fits : ℕ × ℕ → Bool
  start_fits (fluent, value) = nat_lt value (sort_size agent (fluent_sort agent fluent)) || value == unknown

-- the preconditions, effects and sensing of an agent's actions
pub record ActionsFit (agent : Agent) : Type 0 where
  pub poss : IsTrue (list_all (poss_fits agent) agent.poss)
  pub poss_once : IsDistinct nat_eq (map (λ item. item.action) agent.poss)
  pub causes : IsTrue (list_all (cause_fits agent) agent.causes)
  pub senses : IsTrue (list_all (sense_fits agent) agent.senses)
  pub senses_once : IsDistinct nat_eq (map (λ item. item.action) agent.senses)

-- one start value for each ground fluent
pub record StartsFit (agent : Agent) : Type 0 where
  pub whole : length agent.starts ≡ length (ground_fluents agent)
  pub sorted : IsTrue (list_all (start_fits agent) (enumerate_from 0 agent.starts))

-- the procedures and the program of an agent, and how deep they nest
pub record ProgramsFit (agent : Agent) : Type 0 where
  pub procs : IsTrue (list_all (proc_fits agent) agent.procs)
  pub main : IsTrue (fits agent agent.main)
  pub main_written : IsTrue (is_written_prog agent agent.main 0)
  pub guarded : IsGuarded agent
  pub front_nests : All (λ n. n ≤ 1024) (front_nests agent)
  pub main_nest : nest agent.main ≤ 3072

-- An agent that was read from a file and checked: what is built in stands first, names are words and
-- declared once, items are in their limits, ground things can be numbered, all numbers are in range,
-- arguments and terms are of their sorts, variables are bound, and programs are guarded, in their
-- limits, and without a block in a block.
pub record WellFormed (agent : Agent) : Type 0 where
  pub built_in : HasBuiltIn agent
  pub names : NamesFit agent
  pub small : IsSmall agent
  pub sorts : IsTrue (list_all sort_fits agent.sorts)
  pub countable : IsCountable agent
  pub fluents : IsTrue (list_all (fluent_item_fits agent) agent.fluents)
  pub actions : IsTrue (list_all (action_item_fits agent) agent.actions)
  pub actions_fit : ActionsFit agent
  pub starts : StartsFit agent
  pub programs : ProgramsFit agent
