-- The items that say when an action is possible, what it causes and what its result tells.
use Rattle.std.specs.Prelude.{ℕ, ◌+◌, ◌||◌, nat_eq, nat_le, not, Bool, false, true, if◌then◌else◌, List, [], ◌∷◌, ◌++◌, length, codes, Option, Some, None}
use Rattle.std.specs.List.{list_any}
use Rattle.golog_form.specs.declared.form.Form.{Form}
use Rattle.golog_tree.specs.declared.draft.DraftTheory.{DraftTheory}
use Rattle.golog_tree.specs.declared.draft.DraftPoss.{DraftPoss}
use Rattle.golog_tree.specs.declared.draft.DraftCause.{DraftCause}
use Rattle.golog_tree.specs.declared.draft.DraftSense.{DraftSense}
use Rattle.golog_tree.specs.declared.draft_cond.DraftArg.{DraftArg}
use Rattle.golog_tree.specs.declared.draft_cond.DraftArg.TheVariants.{Word, Number}
use Rattle.golog_tree.specs.declared.draft_cond.DraftCond.{DraftCond}
use Rattle.golog_tree.specs.declared.draft_cond.DraftCond.TheVariants.{Truth}
use Rattle.golog_theory.specs.declared.names.Actions.TheVariants.{OfProgram, All}
use Rattle.golog_theory.specs.declared.effects.Effect.{Effect}
use Rattle.golog_theory.specs.Codes.{UNKNOWN_FORM, DUPLICATE, COUNT}
use Rattle.golog_theory.specs.Limits.{BUILT_IN, CAUSES}
use Rattle.golog_theory.specs.Reading.{Reading, gives, refused, row, ◌>>=◌}
use Rattle.golog_theory.specs.Names.{same, is_constant, action_no}
use Rattle.golog_theory.specs.Parts.{word}
use Rattle.golog_theory.specs.Heads.{head_word, fluent_called, action_called, schema_of}
use Rattle.golog_theory.specs.Terms.{term_of}
use Rattle.golog_theory.specs.Conditions.{cond_of}

-- a precondition of the action with the number stands already
abbrev pub has_poss : List DraftPoss → ℕ → Bool
has_poss items action = list_any (λ (item : DraftPoss). nat_eq item.action action) items

abbrev pub has_poss_at : List DraftPoss → Option ℕ → Bool
has_poss_at items None = false
has_poss_at items (Some action) = has_poss items action

-- a precondition of the action with the name stands already
unfoldable pub is_restricted : DraftTheory → List ℕ → Bool
is_restricted theory name = has_poss_at theory.poss (action_no theory name)

-- `(poss (ACTION VARS) COND)`
unfoldable pub poss_item : DraftTheory → ℕ → List Form → Reading DraftPoss
poss_item theory at (schema ∷ cond ∷ []) =
    row (is_restricted theory (head_word schema)) DUPLICATE at
    (schema_of theory OfProgram schema >>= λ schema.
    cond_of theory cond (length schema.vars) >>= λ cond.
    gives (record { action = schema.action; vars = schema.vars; cond = cond; at = at }))
poss_item theory at _ = refused UNKNOWN_FORM at

-- a word that is no constant, and none of these variables
unfoldable pub is_new_variable : DraftTheory → List (List ℕ) → List ℕ → Bool
is_new_variable theory vars word = not (is_constant theory word || list_any (same word) vars)

-- the variables so far, and the words among the arguments that are no constants, each once
abbrev pub variable_after : DraftTheory → List (List ℕ) → DraftArg → List (List ℕ)
variable_after theory vars (Word word at) =
    if is_new_variable theory vars word then vars ++ word ∷ [] else vars
variable_after theory vars (Number number at) = vars

abbrev pub variables_after : DraftTheory → List (List ℕ) → List DraftArg → List (List ℕ)
variables_after theory vars [] = vars
variables_after theory vars (arg ∷ args) = variables_after theory (variable_after theory vars arg) args

-- how many variables an effect has: words among the arguments of its action and its fluent
unfoldable pub variable_count : DraftTheory → Effect → ℕ
variable_count theory effect =
    length (variables_after theory (variables_after theory [] effect.action.args) effect.fluent.args)

-- `(ACTION ARGS) (FLUENT ARGS) TERM`
unfoldable pub effect_of : DraftTheory → Form → Form → Form → Reading Effect
effect_of theory action fluent term =
    action_called theory action >>= λ action.
    fluent_called theory fluent >>= λ fluent.
    term_of theory term >>= λ term.
    gives (record { action = action; fluent = fluent; term = term })

abbrev pub cause_of : ℕ → Effect → DraftCond → DraftCause
cause_of at effect cond = record {
  action = effect.action.item;
  action_args = effect.action.args;
  fluent = effect.fluent.item;
  fluent_args = effect.fluent.args;
  term = effect.term;
  cond = cond;
  at = at;
}

-- `(ACTION ARGS) (FLUENT ARGS) TERM COND`
abbrev pub conditional_of : DraftTheory → ℕ → Form → Form → Form → Form → Reading DraftCause
conditional_of theory at action fluent term cond =
    effect_of theory action fluent term >>= λ effect.
    cond_of theory cond (variable_count theory effect) >>= λ cond.
    gives (cause_of at effect cond)

-- `(causes (ACTION ARGS) (FLUENT ARGS) TERM)`, or with a COND last; without one the condition is `true`
unfoldable pub causes_item : DraftTheory → ℕ → List Form → Reading DraftCause
causes_item theory at (action ∷ fluent ∷ term ∷ []) =
    row (nat_le (BUILT_IN + CAUSES) (length theory.causes)) COUNT at
    (effect_of theory action fluent term >>= λ effect. gives (cause_of at effect (Truth true at)))
causes_item theory at (action ∷ fluent ∷ term ∷ cond ∷ []) =
    row (nat_le (BUILT_IN + CAUSES) (length theory.causes)) COUNT at (conditional_of theory at action fluent term cond)
causes_item theory at _ = refused UNKNOWN_FORM at

-- what the result of an action tells, and whether it may come later
abbrev pub sense_of : DraftTheory → ℕ → Bool → Form → Form → Reading DraftSense
sense_of theory at later schema fluent =
    schema_of theory All schema >>= λ schema.
    fluent_called theory fluent >>= λ fluent.
    gives (record {
      action = schema.action;
      vars = schema.vars;
      fluent = fluent.item;
      args = fluent.args;
      later = later;
      at = at;
    })

-- `(senses (ACTION VARS) (FLUENT ARGS))`, or with the word `later` last
unfoldable pub senses_item : DraftTheory → ℕ → List Form → Reading DraftSense
senses_item theory at (schema ∷ fluent ∷ []) = sense_of theory at false schema fluent
senses_item theory at (schema ∷ fluent ∷ late ∷ []) =
    row (not (same (word late) (codes "later"))) UNKNOWN_FORM at (sense_of theory at true schema fluent)
senses_item theory at _ = refused UNKNOWN_FORM at
