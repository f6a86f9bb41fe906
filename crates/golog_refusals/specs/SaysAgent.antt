-- Which agent a draft says, item by item. (This project's own.)
use Rattle.std.specs.Prelude.{◌≡◌, ℕ, Bool, true, false, IsTrue, ◌==◌, nat_eq, not, ◌&&◌, if◌then◌else◌, Option, Some, None, List, [], ◌∷◌, map}
use Rattle.std.specs.Cmp.Lexicographic.{pointwise}
use Rattle.golog_tree.specs.declared.agent.Agent.{Agent}
use Rattle.golog_tree.specs.declared.agent.PossItem.{PossItem}
use Rattle.golog_tree.specs.declared.agent.CauseItem.{CauseItem}
use Rattle.golog_tree.specs.declared.agent.SenseItem.{SenseItem}
use Rattle.golog_tree.specs.declared.agent.ProcItem.{ProcItem}
use Rattle.golog_tree.specs.declared.cond.Arg.{Arg}
use Rattle.golog_tree.specs.declared.cond.Arg.TheVariants.{Const, Var}
use Rattle.golog_tree.specs.declared.draft.DraftTheory.{DraftTheory}
use Rattle.golog_tree.specs.declared.draft.DraftProgram.{DraftProgram}
use Rattle.golog_tree.specs.declared.draft.DraftDevice.{DraftDevice}
use Rattle.golog_tree.specs.declared.draft.DraftPoss.{DraftPoss}
use Rattle.golog_tree.specs.declared.draft.DraftCause.{DraftCause}
use Rattle.golog_tree.specs.declared.draft.DraftSense.{DraftSense}
use Rattle.golog_tree.specs.declared.draft.DraftStart.{DraftStart}
use Rattle.golog_tree.specs.declared.draft.DraftStart.TheVariants as drafted
use Rattle.golog_tree.specs.declared.draft.DraftProc.{DraftProc}
use Rattle.golog_tree.specs.declared.draft_cond.DraftArg.{DraftArg}
use Rattle.golog_tree.specs.declared.draft_cond.DraftArg.TheVariants.{Word, Number}
use Rattle.golog_tree.specs.Ground.{ground_fluents}
use Rattle.golog_semantics.specs.Truth.{unknown}
use Rattle.golog_semantics.specs.BuiltIn.{same_text}
use Rattle.golog_check.specs.declared.starts.Start.{Start}
use Rattle.golog_check.specs.declared.starts.Start.TheVariants as start
use Rattle.golog_check.specs.DeclaredItems.{Declared, sort_item, fluent_item, action_item, param_sorts}
use Rattle.golog_check.specs.Sorts.{fluent_sorts, action_sorts}
use Rattle.golog_check.specs.Scope.{Scope, variable_no, within, scope_of_vars}
use Rattle.golog_check.specs.Heads.{binds}
use Rattle.golog_check.specs.Procs.{params_of}
use Rattle.golog_check.specs.Starts.{own_sort, start_value}
use Rattle.golog_check.specs.Check.{names_of}
use Rattle.golog_refusals.specs.Says.{arg_says, args_say, term_says, cond_says, prog_says}

-- as many items as drafts, each said by its own
abbrev pub AreSaid : {D A : Type 0} → (D → A → Bool) → List D → List A → Type 0
AreSaid says [] [] = Unit {0}
AreSaid says [] (item ∷ items) = ⊥
AreSaid says (draft ∷ drafts) [] = ⊥
AreSaid says (draft ∷ drafts) (item ∷ items) = IsTrue (says draft item) × AreSaid says drafts items

-- the variable with the number
abbrev pub is_var : ℕ → Arg → Bool
is_var number (Const c) = false
is_var number (Var x) = x == number

-- the same truth
abbrev pub same_truth : Bool → Bool → Bool
same_truth true other = other
same_truth false other = not other

-- one more variable, where the argument is a word
abbrev pub binding : Scope → ℕ → DraftArg → Scope
binding scope sort (Word word at) = within word sort scope
binding scope sort (Number number at) = scope

module _ (names : Declared) where
  -- what is in scope behind the argument of a head
  abbrev pub scope_after : Scope → ℕ → DraftArg → Scope
  scope_after scope sort arg = if binds names scope arg then binding scope sort arg else scope

  -- what is in scope behind the arguments of a head, in places of these sorts: a word that means nothing in
  -- its place is a variable of the place's sort from there on
  abbrev pub scope_behind : Scope → List ℕ → List DraftArg → Scope
  scope_behind scope (sort ∷ sorts) (arg ∷ args) = scope_behind (scope_after scope sort arg) sorts args
  scope_behind scope _ _ = scope

  -- an argument of a head says the variable that it binds, or else what it means
  abbrev pub head_arg_says : Scope → ℕ → DraftArg → Arg → Bool
  head_arg_says scope sort draft arg =
      if binds names scope draft then is_var (variable_no scope) arg else arg_says names scope sort draft arg

  abbrev pub head_says : Scope → List ℕ → List DraftArg → List Arg → Bool
  head_says scope [] [] [] = true
  head_says scope (sort ∷ sorts) (draft ∷ drafts) (arg ∷ args) =
      head_arg_says scope sort draft arg && head_says (scope_after scope sort draft) sorts drafts args
  head_says scope _ _ _ = false

  abbrev pub poss_says : DraftPoss → PossItem → Bool
  poss_says draft item =
      item.action == draft.action
      && cond_says names draft.cond (scope_of_vars draft.vars (action_sorts names draft.action)) item.cond

  -- what is in scope behind the two heads of an effect
  abbrev pub action_scope : DraftCause → Scope
  action_scope draft = scope_behind [] (action_sorts names draft.action) draft.action_args

  abbrev pub cause_scope : DraftCause → Scope
  cause_scope draft = scope_behind (action_scope draft) (fluent_sorts names draft.fluent) draft.fluent_args

  -- an effect with its two heads, of which the fluent's stands behind the action's
  abbrev pub cause_says : DraftCause → CauseItem → Bool
  cause_says draft item =
      item.action == draft.action && item.fluent == draft.fluent
      && head_says [] (action_sorts names draft.action) draft.action_args item.action_args
      && head_says (action_scope draft) (fluent_sorts names draft.fluent) draft.fluent_args item.fluent_args
      && term_says names (cause_scope draft) draft.term (own_sort names draft.fluent) item.term
      && cond_says names draft.cond (cause_scope draft) item.cond

  -- what the result of an action tells, with its arguments, and whether it may come later
  abbrev pub sense_says : DraftSense → SenseItem → Bool
  sense_says draft item =
      item.action == draft.action && item.fluent == draft.fluent && same_truth item.later draft.later
      && args_say names (scope_of_vars draft.vars (action_sorts names draft.action))
      (fluent_sorts names draft.fluent) draft.args item.args

  -- a start value of the sort, or unknown
  abbrev pub value_says : ℕ → Option DraftArg → ℕ → Bool
  value_says sort None value = value == unknown
  value_says sort (Some arg) value = arg_says names [] sort arg (Const value)

  abbrev pub start_says : DraftStart → Start → Bool
  start_says (drafted.Each fluent given at) (start.Each item value) =
      item == fluent && value_says (own_sort names fluent) given value
  start_says (drafted.One fluent drafts given at) (start.One item args value) =
      item == fluent && args_say names [] (fluent_sorts names fluent) drafts (map Const args)
      && value_says (own_sort names fluent) given value
  start_says _ _ = false

  abbrev pub proc_says : DraftProc → ProcItem → Bool
  proc_says draft item =
      same_text item.name draft.name && pointwise nat_eq item.params (param_sorts draft)
      && prog_says names draft.body (params_of draft) item.body

module _ (theory : DraftTheory) where
  -- What the agent declares is what the theory declares.
  pub record SaysDeclared (agent : Agent) : Type 0 where
    pub sorts : agent.sorts ≡ map sort_item theory.sorts
    pub fluents : agent.fluents ≡ map fluent_item theory.fluents
    pub actions : agent.actions ≡ map action_item theory.actions
    pub devices : agent.devices ≡ map (λ (device : DraftDevice). device.name) theory.devices

  module _ (names : Declared) where
    -- the start values of the ground fluents are those that the items say
    pub record SaysStarts (agent : Agent) : Type 0 where
      pub items : List Start
      pub said : AreSaid (start_says names) theory.starts items
      pub values : agent.starts ≡ map (start_value items) (ground_fluents agent)

    pub record SaysActions (agent : Agent) : Type 0 where
      pub poss : AreSaid (poss_says names) theory.poss agent.poss
      pub causes : AreSaid (cause_says names) theory.causes agent.causes
      pub senses : AreSaid (sense_says names) theory.senses agent.senses

-- The draft says the agent: each of its items says the agent's, in file order.
pub record Says (theory : DraftTheory) (program : DraftProgram) (agent : Agent) : Type 0 where
  pub declared : SaysDeclared theory agent
  pub actions : SaysActions theory (names_of theory program) agent
  pub starts : SaysStarts theory (names_of theory program) agent
  pub procs : AreSaid (proc_says (names_of theory program)) program.procs agent.procs
  pub main : IsTrue (prog_says (names_of theory program) program.main.body [] agent.main)
