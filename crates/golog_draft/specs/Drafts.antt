-- What a draft that was read keeps of the rules of its notation: what is built in, names, limits, numbers in
-- range, as many arguments as declared. Sorts of terms and the words in them are not looked at here.
use Rattle.std.specs.Prelude.{◌≡◌, ℕ, ◌+◌, ◌≤◌, pos, ◌+ℤ◌, Bool, true, false, not, IsTrue, ◌==◌, nat_eq, nat_lt, nat_le, ◌&&◌, ◌||◌, if◌then◌else◌, int_lt, Some, None, is_some, List, [], ◌∷◌, ◌++◌, codes, length, map, take, All, slice_get}
use Rattle.std.specs.List.{list_all, list_any, flat_map, IsDistinct}
use Rattle.std.specs.Option.{option_map_or}
use Rattle.std.specs.Ordering.{int_eq}
use Rattle.std.specs.Cmp.Lexicographic.{pointwise}
use Rattle.golog_base.specs.Names.{IsWord}
use Rattle.golog_tree.specs.declared.agent.Agent.{Agent}
use Rattle.golog_tree.specs.declared.draft.DraftTheory.{DraftTheory}
use Rattle.golog_tree.specs.declared.draft.DraftProgram.{DraftProgram}
use Rattle.golog_tree.specs.declared.draft.DraftSort.{DraftSort}
use Rattle.golog_tree.specs.declared.draft.DraftSort.TheVariants.{Range, Listed}
use Rattle.golog_tree.specs.declared.draft.DraftFluent.{DraftFluent}
use Rattle.golog_tree.specs.declared.draft.DraftAction.{DraftAction}
use Rattle.golog_tree.specs.declared.draft.DraftDevice.{DraftDevice}
use Rattle.golog_tree.specs.declared.draft.DraftPoss.{DraftPoss}
use Rattle.golog_tree.specs.declared.draft.DraftCause.{DraftCause}
use Rattle.golog_tree.specs.declared.draft.DraftSense.{DraftSense}
use Rattle.golog_tree.specs.declared.draft.DraftStart.{DraftStart}
use Rattle.golog_tree.specs.declared.draft.DraftStart.TheVariants.{Each, One}
use Rattle.golog_tree.specs.declared.draft.DraftParam.{DraftParam}
use Rattle.golog_tree.specs.declared.draft.DraftProc.{DraftProc}
use Rattle.golog_tree.specs.declared.draft_cond.DraftArg.{DraftArg}
use Rattle.golog_tree.specs.declared.draft_cond.DraftArg.TheVariants.{Word, Number}
use Rattle.golog_tree.specs.declared.draft_cond.DraftTerm.{DraftTerm}
use Rattle.golog_tree.specs.declared.draft_cond.DraftTerm.TheVariants as term
use Rattle.golog_tree.specs.declared.draft_cond.DraftTerm.TheOpen.{DraftTerm-F, Arg, Fluent, Shift}
use Rattle.golog_tree.specs.declared.draft_cond.DraftTerm.TheFolds.{fold-DraftTerm}
use Rattle.golog_tree.specs.declared.draft_cond.DraftCond.{DraftCond}
use Rattle.golog_tree.specs.declared.draft_cond.DraftCond.TheVariants as cond
use Rattle.golog_tree.specs.declared.draft_cond.DraftCond.TheOpen.{DraftCond-F, Truth, Is, Equal, Less, AtMost, Not, And, Or, ForSome, ForAll}
use Rattle.golog_tree.specs.declared.draft_cond.DraftCond.TheFolds.{fold-DraftCond}
use Rattle.golog_tree.specs.declared.draft_prog.DraftProg.{DraftProg}
use Rattle.golog_tree.specs.declared.draft_prog.DraftProg.TheOpen.{DraftProg-F, Nil, Act, Test, Seq, Choice, Pick, Star, If, While, Conc, Prio, Cstar, Call, Search}
use Rattle.golog_tree.specs.declared.draft_prog.DraftProg.TheFolds.{fold-DraftProg}
use Rattle.golog_semantics.specs.Text.{Text}
use Rattle.golog_semantics.specs.Ways.{is_empty}
use Rattle.golog_semantics.specs.BuiltIn.{is_keyword, same_text}
use Rattle.golog_semantics.specs.Fits.{variables}
use Rattle.golog_semantics.specs.Written.{is_amount}

-- each of these names is a word, no keyword, and stands once
pub record AreNames (names : List Text) : Type 0 where
  pub words : All IsWord names
  pub free : IsTrue (list_all (λ name. not (is_keyword name)) names)
  pub once : IsDistinct same_text names

-- a sort's name, and its constants where they are names
abbrev pub draft_sort_names : DraftSort → List Text
draft_sort_names (Range name low high at) = name ∷ []
draft_sort_names (Listed name constants at) = name ∷ constants

-- the names that a theory declares
abbrev pub theory_names : DraftTheory → List Text
theory_names theory =
    flat_map draft_sort_names theory.sorts
    ++ map (λ (item : DraftDevice). item.name) theory.devices
    ++ map (λ (item : DraftFluent). item.name) theory.fluents
    ++ map (λ (item : DraftAction). item.name) theory.actions

-- what is built in, at place 0
abbrev pub draft_bool : DraftSort
draft_bool = Listed (codes "bool") (codes "false" ∷ codes "true" ∷ []) 0

abbrev pub draft_running : DraftFluent
draft_running = record { name = codes "interrupts_running"; args = []; sort = 0; at = 0 }

abbrev pub draft_own_action : Text → DraftAction
draft_own_action name = record { name = name; args = []; device = None; posters = []; at = 0 }

abbrev pub draft_sets_running : ℕ → Text → DraftCause
draft_sets_running action value = record {
  action = action;
  action_args = [];
  fluent = 0;
  fluent_args = [];
  term = term.Arg (Word value 0);
  cond = cond.Truth true 0;
  at = 0;
}

-- what is built in stands first in each list
pub record BeginsBuiltIn (theory : DraftTheory) : Type 0 where
  pub sorts : take 1 theory.sorts ≡ draft_bool ∷ []
  pub fluents : take 1 theory.fluents ≡ draft_running ∷ []
  pub actions : take 2 theory.actions
      ≡ draft_own_action (codes "start_interrupts") ∷ draft_own_action (codes "stop_interrupts") ∷ []
  pub causes : take 2 theory.causes
      ≡ draft_sets_running 0 (codes "true") ∷ draft_sets_running 1 (codes "false") ∷ []
  pub starts : take 1 theory.starts ≡ Each 0 (Some (Word (codes "false") 0)) 0 ∷ []

-- how many sorts there are, and how many arguments each fluent has
pub record Signature : Type 0 where
  pub sorts : ℕ
  pub arities : List ℕ

abbrev pub signature : DraftTheory → Signature
signature theory = record {
  sorts = length theory.sorts;
  arities = map (λ (item : DraftFluent). length item.args) theory.fluents;
}

abbrev pub agent_signature : Agent → Signature
agent_signature agent = record {
  sorts = length agent.sorts;
  arities = map (λ item. length item.args) agent.fluents;
}

module _ (declared : Signature) where
  -- a fluent, with as many arguments as it has
  abbrev pub fluent_keeps : ℕ → List DraftArg → Bool
  fluent_keeps fluent args =
      option_map_or (λ arity. arity == length args) (slice_get declared.arities fluent) false

  abbrev pub term_keeps_step : DraftTerm-F Bool → Bool
  term_keeps_step (Arg arg) = true
  term_keeps_step (Fluent fluent args at) = fluent_keeps fluent args
  term_keeps_step (Shift term by at) = term && is_amount by

  -- a sort, and one more variable in scope, where these are not too many
  abbrev pub binder_keeps : ℕ → ℕ → Bool
  binder_keeps scope sort = nat_lt scope variables && nat_lt sort declared.sorts

  abbrev pub term_keeps : DraftTerm → Bool
  term_keeps = fold-DraftTerm Bool term_keeps_step

  -- a condition within so many variables, given its parts
  abbrev pub cond_keeps_step : DraftCond-F (ℕ → Bool) → ℕ → Bool
  cond_keeps_step (Truth b at) scope = true
  cond_keeps_step (Is fluent args at) scope = fluent_keeps fluent args
  cond_keeps_step (Equal one other at) scope = term_keeps one && term_keeps other
  cond_keeps_step (Less one other at) scope = term_keeps one && term_keeps other
  cond_keeps_step (AtMost one other at) scope = term_keeps one && term_keeps other
  cond_keeps_step (Not c at) scope = c scope
  cond_keeps_step (And cs at) scope = list_all (λ c. c scope) cs
  cond_keeps_step (Or cs at) scope = list_all (λ c. c scope) cs
  cond_keeps_step (ForSome var sort c at) scope = binder_keeps scope sort && c (scope + 1)
  cond_keeps_step (ForAll var sort c at) scope = binder_keeps scope sort && c (scope + 1)

  -- Fluents and sorts are declared, fluents have as many arguments as declared, and no more than 32 variables
  -- are in scope, so many of them from outside.
  abbrev pub cond_keeps : DraftCond → ℕ → Bool
  cond_keeps = fold-DraftCond (ℕ → Bool) cond_keeps_step

-- a condition over a theory, and one over an agent, with no variable from outside
abbrev pub CondKeeps : DraftTheory → DraftCond → Type 0
CondKeeps theory c = IsTrue (cond_keeps (signature theory) c 0)

abbrev pub AgentCondKeeps : Agent → DraftCond → Type 0
AgentCondKeeps agent c = IsTrue (cond_keeps (agent_signature agent) c 0)

-- A sort that is declared before the place lists the word.
abbrev pub lists_before : Text → ℕ → DraftSort → Bool
lists_before word at (Range name low high place) = false
lists_before word at (Listed name constants place) = nat_le place at && list_any (same_text word) constants

-- The word at the place is a constant there.
abbrev pub is_constant_at : DraftTheory → Text → ℕ → Bool
is_constant_at theory word at = list_any (lists_before word at) theory.sorts

-- the variables so far, and the word where it is no constant and none of them
abbrev pub var_after : DraftTheory → List Text → DraftArg → List Text
var_after theory vars (Word word at) =
    if is_constant_at theory word at || list_any (same_text word) vars then vars else vars ++ word ∷ []
var_after theory vars (Number number at) = vars

-- the variables so far, and those among the arguments, each once, in the order of their first occurrence
abbrev pub vars_after : DraftTheory → List Text → List DraftArg → List Text
vars_after theory vars [] = vars
vars_after theory vars (arg ∷ args) = vars_after theory (var_after theory vars arg) args

-- the variables of an effect: those of its action's and its fluent's arguments
abbrev pub cause_vars : DraftTheory → DraftCause → List Text
cause_vars theory cause = vars_after theory [] (cause.action_args ++ cause.fluent_args)

-- from 1 to 255 constants
abbrev pub draft_sort_keeps : DraftSort → Bool
draft_sort_keeps (Range name low high at) = not (int_lt high low) && int_lt high (low +ℤ pos 255)
draft_sort_keeps (Listed name constants at) = nat_lt 0 (length constants) && nat_le (length constants) 255

module _ (theory : DraftTheory) where
  abbrev pub is_draft_sort : ℕ → Bool
  is_draft_sort sort = nat_lt sort (length theory.sorts)

  abbrev pub is_draft_device : ℕ → Bool
  is_draft_device device = nat_lt device (length theory.devices)

  -- the sorts of at most three arguments
  abbrev pub draft_args_keep : List ℕ → Bool
  draft_args_keep sorts = nat_le (length sorts) 3 && list_all is_draft_sort sorts

  abbrev pub draft_fluent_keeps : DraftFluent → Bool
  draft_fluent_keeps item = draft_args_keep item.args && is_draft_sort item.sort

  -- An exogenous action, which some device posts, has no device of its own.
  abbrev pub draft_action_keeps : DraftAction → Bool
  draft_action_keeps item =
      draft_args_keep item.args
      && option_map_or is_draft_device item.device true
      && list_all is_draft_device item.posters
      && (is_empty item.posters || not (is_some item.device))

  -- an action with so many arguments, and this being so of it
  abbrev pub draft_action_at : ℕ → ℕ → (DraftAction → Bool) → Bool
  draft_action_at action count holds =
      option_map_or
      (λ (item : DraftAction). length item.args == count && holds item)
      (slice_get theory.actions action) false

  -- A precondition is one of an action of the program that is not built in.
  abbrev pub draft_poss_keeps : DraftPoss → Bool
  draft_poss_keeps item =
      draft_action_at item.action (length item.vars) (λ action. is_empty action.posters)
      && nat_le 2 item.action
      && cond_keeps (signature theory) item.cond (length item.vars)

  abbrev pub draft_cause_keeps : DraftCause → Bool
  draft_cause_keeps item =
      draft_action_at item.action (length item.action_args) (λ _. true)
      && fluent_keeps (signature theory) item.fluent item.fluent_args
      && term_keeps (signature theory) item.term
      && cond_keeps (signature theory) item.cond (length (cause_vars theory item))

  abbrev pub draft_sense_keeps : DraftSense → Bool
  draft_sense_keeps item =
      draft_action_at item.action (length item.vars) (λ _. true)
      && fluent_keeps (signature theory) item.fluent item.args

  abbrev pub draft_start_keeps : DraftStart → Bool
  draft_start_keeps (Each fluent value at) = nat_lt fluent (length theory.fluents)
  draft_start_keeps (One fluent args value at) = fluent_keeps (signature theory) fluent args

-- the same word or number, at any place
abbrev pub same_arg : DraftArg → DraftArg → Bool
same_arg (Word one at) (Word other at') = same_text one other
same_arg (Number one at) (Number other at') = int_eq one other
same_arg (Word one at) (Number other at') = false
same_arg (Number one at) (Word other at') = false

-- start values of one fluent at the same constants as written, or two of all its ground fluents
abbrev pub same_start : DraftStart → DraftStart → Bool
same_start (Each fluent value at) (Each fluent' value' at') = fluent == fluent'
same_start (One fluent args value at) (One fluent' args' value' at') =
    fluent == fluent' && pointwise same_arg args args'
same_start (Each fluent value at) (One fluent' args value' at') = false
same_start (One fluent args value at) (Each fluent' value' at') = false

-- how many items of each kind a theory has at most; of effects, two are built in
pub record IsFew (theory : DraftTheory) : Type 0 where
  pub sorts : length theory.sorts ≤ 64
  pub devices : length theory.devices ≤ 16
  pub causes : length theory.causes ≤ 1024 + 2

-- A theory that was read.
pub record TheoryKeeps (theory : DraftTheory) : Type 0 where
  pub built_in : BeginsBuiltIn theory
  pub names : AreNames (theory_names theory)
  pub few : IsFew theory
  pub sorts : IsTrue (list_all draft_sort_keeps theory.sorts)
  pub fluents : IsTrue (list_all (draft_fluent_keeps theory) theory.fluents)
  pub actions : IsTrue (list_all (draft_action_keeps theory) theory.actions)
  pub poss : IsTrue (list_all (draft_poss_keeps theory) theory.poss)
  pub poss_once : IsDistinct nat_eq (map (λ (item : DraftPoss). item.action) theory.poss)
  pub poss_vars : All (λ (item : DraftPoss). IsDistinct same_text item.vars) theory.poss
  pub causes : IsTrue (list_all (draft_cause_keeps theory) theory.causes)
  pub senses : IsTrue (list_all (draft_sense_keeps theory) theory.senses)
  pub sense_vars : All (λ (item : DraftSense). IsDistinct same_text item.vars) theory.senses
  pub starts : IsTrue (list_all (draft_start_keeps theory) theory.starts)
  pub starts_once : IsDistinct same_start theory.starts

module _ (theory : DraftTheory) (procs : List DraftProc) where
  -- an action of the program or a built-in one, with as many arguments as it has
  abbrev pub act_keeps : ℕ → List DraftArg → Bool
  act_keeps action args = draft_action_at theory action (length args) (λ item. is_empty item.posters)

  -- a procedure, with as many arguments as it has
  abbrev pub call_keeps : ℕ → List DraftArg → Bool
  call_keeps item args =
      option_map_or (λ (proc : DraftProc). length proc.params == length args) (slice_get procs item) false

  -- a program within so many variables, given its parts
  abbrev pub prog_keeps_step : DraftProg-F (ℕ → Bool) → ℕ → Bool
  prog_keeps_step (Nil at) scope = true
  prog_keeps_step (Act action args at) scope = act_keeps action args
  prog_keeps_step (Test c at) scope = cond_keeps (signature theory) c scope
  prog_keeps_step (Seq ps at) scope = list_all (λ p. p scope) ps
  prog_keeps_step (Choice ps at) scope = list_all (λ p. p scope) ps
  prog_keeps_step (Pick var sort p at) scope = binder_keeps (signature theory) scope sort && p (scope + 1)
  prog_keeps_step (Star p at) scope = p scope
  prog_keeps_step (If c p q at) scope = cond_keeps (signature theory) c scope && p scope && q scope
  prog_keeps_step (While c p at) scope = cond_keeps (signature theory) c scope && p scope
  prog_keeps_step (Conc ps at) scope = list_all (λ p. p scope) ps
  prog_keeps_step (Prio ps at) scope = list_all (λ p. p scope) ps
  prog_keeps_step (Cstar p at) scope = p scope
  prog_keeps_step (Call item args at) scope = call_keeps item args
  prog_keeps_step (Search depth fuel p at) scope = p scope

  -- Actions, procedures, fluents and sorts are declared and have as many arguments as declared, and no more
  -- than 32 variables are in scope, so many of them from outside.
  abbrev pub prog_keeps : DraftProg → ℕ → Bool
  prog_keeps = fold-DraftProg (ℕ → Bool) prog_keeps_step

  -- a procedure with the sorts of at most three parameters, and its body within these
  abbrev pub draft_proc_keeps : DraftProc → Bool
  draft_proc_keeps item =
      draft_args_keep theory (map (λ (param : DraftParam). param.sort) item.params)
      && prog_keeps item.body (length item.params)

-- the names of procedures
abbrev pub proc_names : List DraftProc → List Text
proc_names procs = map (λ (item : DraftProc). item.name) procs

-- the words of a procedure's parameters
abbrev pub param_words : DraftProc → List Text
param_words item = map (λ (param : DraftParam). param.var) item.params

-- The procedures and the program of an agent that were read with the theory.
pub record ProgramKeeps (theory : DraftTheory) (program : DraftProgram) : Type 0 where
  pub names : AreNames (theory_names theory ++ proc_names program.procs)
  pub few : length program.procs ≤ 256
  pub procs : IsTrue (list_all (draft_proc_keeps theory program.procs) program.procs)
  pub proc_vars : All (λ item. IsDistinct same_text (param_words item)) program.procs
  pub main : IsTrue (prog_keeps theory program.procs program.main.body 0)
