-- Preconditions, effects and sensing of a draft, item by item.
use Rattle.std.specs.Prelude.{ℕ, ◌==◌, ◌&&◌, ◌||◌, not, Bool, false, List, [], ◌∷◌, ◌++◌, slice_get, is_some, unwrap_or}
use Rattle.std.specs.List.{list_any}
use Rattle.std.specs.Option.{option_map_or}
use Rattle.golog_tree.specs.declared.cond.Arg.{Arg}
use Rattle.golog_tree.specs.declared.cond.Term.{Term}
use Rattle.golog_tree.specs.declared.cond.Cond.{Cond}
use Rattle.golog_tree.specs.declared.agent.ActionItem.{ActionItem}
use Rattle.golog_tree.specs.declared.agent.PossItem.{PossItem}
use Rattle.golog_tree.specs.declared.agent.CauseItem.{CauseItem}
use Rattle.golog_tree.specs.declared.agent.SenseItem.{SenseItem}
use Rattle.golog_tree.specs.declared.draft.DraftPoss.{DraftPoss}
use Rattle.golog_tree.specs.declared.draft.DraftCause.{DraftCause}
use Rattle.golog_tree.specs.declared.draft.DraftSense.{DraftSense}
use Rattle.golog_rows.specs.Reading.{Reading, gives, row, ◌>>=◌}
use Rattle.golog_semantics.specs.Ways.{is_empty}
use Rattle.golog_check.specs.declared.heads.Head.{Head}
use Rattle.golog_check.specs.Codes.{SENSE_CLASH}
use Rattle.golog_check.specs.DeclaredItems.{Declared}
use Rattle.golog_check.specs.Sorts.{fluent_sort, fluent_sorts, action_sorts}
use Rattle.golog_check.specs.Scope.{Scope, scope_of_vars}
use Rattle.golog_check.specs.Terms.{args_in, term_in}
use Rattle.golog_check.specs.Conditions.{cond_in}
use Rattle.golog_check.specs.Heads.{head_from}

-- a head with no argument yet, within these variables
abbrev pub head_within : Scope → Head
head_within scope = record { args = []; scope = scope }

-- an action with a device of its own, which no device posts
abbrev pub may_sense : List ActionItem → ℕ → Bool
may_sense actions action =
    option_map_or (λ (item : ActionItem). is_some item.device && is_empty item.posters)
    (slice_get actions action) false

-- one of these items tells what the action senses
abbrev pub is_sensed : List DraftSense → ℕ → Bool
is_sensed items action = list_any (λ (item : DraftSense). item.action == action) items

-- an effect by its condition
abbrev pub effect_with : DraftCause → List Arg → List Arg → Term → Reading Cond → Reading CauseItem
effect_with item args fluent_args term cond = cond >>= λ cond.
    gives (record {
      action = item.action;
      action_args = args;
      fluent = item.fluent;
      fluent_args = fluent_args;
      term = term;
      cond = cond;
    })

module _ (names : Declared) where
  -- an effect behind its heads, the last of which binds these variables
  abbrev pub effect_in : DraftCause → List Arg → List Arg → Scope → Reading CauseItem
  effect_in item args fluent_args scope =
      term_in names scope (unwrap_or (fluent_sort names item.fluent) 0) item.term >>= λ term.
      effect_with item args fluent_args term (cond_in names item.cond scope)

  -- the precondition of an action, whose arguments are its variables
  unfoldable pub poss_in : DraftPoss → Reading PossItem
  poss_in item =
      cond_in names item.cond (scope_of_vars item.vars (action_sorts names item.action)) >>= λ cond.
      gives (record { action = item.action; cond = cond })

  -- An effect: the arguments of its action bind its variables, and those of its fluent bind more.
  unfoldable pub cause_in : DraftCause → Reading CauseItem
  cause_in item =
      head_from names (head_within []) (action_sorts names item.action) item.action_args >>= λ (action : Head).
      head_from names (head_within action.scope) (fluent_sorts names item.fluent) item.fluent_args >>=
      λ (fluent : Head). effect_in item action.args fluent.args fluent.scope

  -- What an action senses, where it has a device and is not exogenous, and no item before tells it.
  unfoldable pub sense_by : Bool → DraftSense → Reading SenseItem
  sense_by again item =
      row (again || not (may_sense names.actions item.action)) SENSE_CLASH item.at
      (args_in names (scope_of_vars item.vars (action_sorts names item.action)) (fluent_sorts names item.fluent) item.args
      >>= λ args. gives (record { action = item.action; fluent = item.fluent; args = args; later = item.later }))

  -- the items behind others, in file order
  abbrev pub senses_in : List DraftSense → List DraftSense → List (Reading SenseItem)
  senses_in before [] = []
  senses_in before (item ∷ items) =
      sense_by (is_sensed before item.action) item ∷ senses_in (before ++ item ∷ []) items
