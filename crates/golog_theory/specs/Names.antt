-- Names, and what is declared under them.
use Rattle.std.specs.Prelude.{ℕ, ◌||◌, ◌&&◌, not, nat_eq, nat_lt, nat_le, Bool, true, false, List, [], ◌∷◌, length, slice_get, Option, Some, None, is_some, position, codes}
use Rattle.std.specs.List.{list_any}
use lib.Pointwise.{pointwise}
use Rattle.golog_tree.specs.declared.draft.DraftSort.{DraftSort}
use Rattle.golog_tree.specs.declared.draft.DraftSort.TheVariants.{Range, Listed}
use Rattle.golog_tree.specs.declared.draft.DraftFluent.{DraftFluent}
use Rattle.golog_tree.specs.declared.draft.DraftAction.{DraftAction}
use Rattle.golog_tree.specs.declared.draft.DraftDevice.{DraftDevice}
use Rattle.golog_tree.specs.declared.draft.DraftTheory.{DraftTheory}
use Rattle.golog_semantics.specs.BuiltIn.{is_keyword}
use Rattle.golog_theory.specs.declared.names.Actions.{Actions}
use Rattle.golog_theory.specs.declared.names.Actions.TheVariants.{OfProgram, All}
use Rattle.golog_theory.specs.Limits.{BUILT_IN}

abbrev pub same : List ℕ → List ℕ → Bool
same one other = pointwise nat_eq one other

-- the names of what is built in
abbrev pub built_in_names : List (List ℕ)
built_in_names =
    codes "bool" ∷ codes "true" ∷ codes "false"
    ∷ codes "interrupts_running" ∷ codes "start_interrupts" ∷ codes "stop_interrupts"
    ∷ []

-- the words that no item declares: those of the grammar, and the names of what is built in
unfoldable pub is_reserved : List ℕ → Bool
is_reserved name = is_keyword name || list_any (same name) built_in_names

abbrev pub sort_name : DraftSort → List ℕ
sort_name (Range name low high at) = name
sort_name (Listed name constants at) = name

-- the sort lists the word among its constants
abbrev pub lists : List ℕ → DraftSort → Bool
lists word (Range name low high at) = false
lists word (Listed name constants at) = list_any (same word) constants

-- some sort lists the word
abbrev pub is_constant : DraftTheory → List ℕ → Bool
is_constant theory word = list_any (lists word) theory.sorts

-- the number of the sort, device, fluent or action with the name
abbrev pub sort_no : DraftTheory → List ℕ → Option ℕ
sort_no theory name = position (λ sort. same name (sort_name sort)) theory.sorts

abbrev pub device_no : DraftTheory → List ℕ → Option ℕ
device_no theory name = position (λ (device : DraftDevice). same name device.name) theory.devices

abbrev pub fluent_no : DraftTheory → List ℕ → Option ℕ
fluent_no theory name = position (λ (fluent : DraftFluent). same name fluent.name) theory.fluents

abbrev pub action_no : DraftTheory → List ℕ → Option ℕ
action_no theory name = position (λ (action : DraftAction). same name action.name) theory.actions

-- the name is reserved, or an item declares it
unfoldable pub is_taken : DraftTheory → List ℕ → Bool
is_taken theory name =
    is_reserved name || is_some (sort_no theory name) || is_constant theory name
    || is_some (device_no theory name)
    || is_some (fluent_no theory name) || is_some (action_no theory name)

-- how many arguments a fluent or an action has
abbrev pub fluent_args : Option DraftFluent → ℕ
fluent_args None = 0
fluent_args (Some fluent) = length fluent.args

abbrev pub action_args : Option DraftAction → ℕ
action_args None = 0
action_args (Some action) = length action.args

abbrev pub fluent_arity : DraftTheory → ℕ → ℕ
fluent_arity theory fluent = fluent_args (slice_get theory.fluents fluent)

abbrev pub action_arity : DraftTheory → ℕ → ℕ
action_arity theory action = action_args (slice_get theory.actions action)

-- some device posts the action
abbrev pub is_posted : Option DraftAction → Bool
is_posted None = false
is_posted (Some action) = nat_lt 0 (length action.posters)

-- An action of the program is not built in, and no device posts it.
unfoldable pub is_of_program : DraftTheory → ℕ → Bool
is_of_program theory action = nat_le BUILT_IN action && not (is_posted (slice_get theory.actions action))

-- the action may stand there
abbrev pub allows : DraftTheory → Actions → ℕ → Bool
allows theory OfProgram action = is_of_program theory action
allows theory All action = true
