-- What the causes of an action make of a fluent, as a term over the situation before the action.
use Rattle.std.specs.Prelude.{ℕ, Bool, false, ◌==◌, ◌&&◌, if◌then◌else◌, Option, Some, None, List, [], ◌∷◌, ◌++◌, length, slice_get, option_and_then}
use Rattle.golog_tree.specs.declared.agent.Agent.{Agent}
use Rattle.golog_tree.specs.declared.agent.ActionItem.{ActionItem}
use Rattle.golog_tree.specs.declared.agent.FluentItem.{FluentItem}
use Rattle.golog_tree.specs.declared.agent.CauseItem.{CauseItem}
use Rattle.golog_tree.specs.declared.cond.Arg.{Arg}
use Rattle.golog_tree.specs.declared.cond.Arg.TheVariants.{Const, Var}
use Rattle.golog_tree.specs.declared.cond.Term.{Term}
use Rattle.golog_tree.specs.declared.cond.Term.TheVariants as term
use Rattle.golog_tree.specs.declared.cond.Cond.{Cond}
use Rattle.golog_tree.specs.declared.cond.Cond.TheVariants as cond
use Rattle.golog_tree.specs.declared.cond.Cond.TheOpen.{Cond-F, Truth}
use Rattle.golog_tree.specs.declared.cond.Cond.TheFolds.{fold-Cond}
use Rattle.golog_regress.specs.declared.happened.Happened.{Happened}
use Rattle.golog_regress.specs.declared.matching.Matched.{Matched}
use Rattle.golog_regress.specs.Images.{Images, image, cond_image, term_image}

-- the argument is the next variable behind those that have images
abbrev pub is_next : Images → Arg → Bool
is_next found (Const c) = false
is_next found (Var x) = x == length found

-- the tests with one more, that two arguments of the sort are equal; none where they are constants that differ
abbrev pub tested : ℕ → Arg → Arg → List Cond → Option (List Cond)
tested sort (Const c) (Const d) tests = if c == d then Some tests else None
tested sort one other tests = Some (tests ++ cond.Equal sort (term.Arg one) (term.Arg other) ∷ [])

-- The images of the variables of a head, and the tests under which it is the given arguments; none where it
-- never is.
abbrev pub matching : List ℕ → List Arg → List Arg → Images → List Cond → Option Matched
matching sorts [] given found tests = Some (record { found = found; tests = tests })
matching [] (arg ∷ head) given found tests = None
matching (sort ∷ sorts) (arg ∷ head) [] found tests = None
matching (sort ∷ sorts) (arg ∷ head) (to ∷ given) found tests =
    if is_next found arg then matching sorts head given (found ++ to ∷ []) tests
    else option_and_then (matching sorts head given found) (tested sort (image found arg) to tests)

-- the condition, where the tests hold
abbrev pub guarded : List Cond → Cond → Cond
guarded [] c = c
guarded (test ∷ tests) c = cond.And ((test ∷ tests) ++ c ∷ [])

-- the condition is plainly true, given its parts
abbrev pub plainly : Cond-F Bool Bool → Bool
plainly (Truth b) = b
plainly _ = false

abbrev pub is_plainly_true : Cond → Bool
is_plainly_true = fold-Cond Bool Bool plainly (λ t. false)

-- one term where the condition is true, the other where it is false
abbrev pub choice : Cond → Term → Term → Term
choice c one other = if is_plainly_true c then one else term.Ite c one other

-- a cause put before what the causes after it make of a fluent, where its head is matched
abbrev pub layered : CauseItem → Option Matched → Term → Term
layered cause None later = later
layered cause (Some m) later = choice (guarded m.tests (cond_image cause.cond m.found)) (term_image cause.term m.found) later

abbrev pub layer : CauseItem → List ℕ → List Arg → Term → Term
layer cause sorts given later = layered cause (matching sorts (cause.action_args ++ cause.fluent_args) given [] []) later

-- the sorts of an action's arguments
abbrev pub action_sorts : Option ActionItem → List ℕ
action_sorts None = []
action_sorts (Some item) = item.args

-- the sorts of a fluent's arguments
abbrev pub sorts_at : Option FluentItem → List ℕ
sorts_at None = []
sorts_at (Some item) = item.args

module _ (agent : Agent) (happened : Happened) where
  -- the sorts of the arguments of the action and of the fluent
  abbrev pub sorts_of : ℕ → List ℕ
  sorts_of fluent = happened.sorts ++ sorts_at (slice_get agent.fluents fluent)

  -- what these causes make of a fluent, the first of them that applies
  abbrev pub chain : List CauseItem → ℕ → List Arg → Term
  chain [] fluent args = term.Fluent fluent args
  chain (cause ∷ causes) fluent args =
      if cause.action == happened.action && cause.fluent == fluent
      then layer cause (sorts_of fluent) (happened.args ++ args) (chain causes fluent args)
      else chain causes fluent args
