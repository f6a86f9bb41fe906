-- What is kept of a plan, by its first layer.
use Rattle.std.proofs.Common.{◌≡◌, ℕ, ◌+◌, ◌<◌, Bool, true, false, cond, ◌==◌, Option, Some, None, List, ◌∷◌, length, drop, find, get_or, sym, ap, ◌∙◌}
use Rattle.std.specs.Option.{option_map_or}
use Rattle.std.proofs.lemmas.List.{at_drop_more}
use Rattle.golog_tree.specs.declared.agent.Agent.{Agent}
use Rattle.golog_tree.specs.declared.prog.Label.{Label}
use Rattle.golog_tree.specs.declared.prog.Prog.{Prog}
use Rattle.golog_semantics.specs.Truth.{Values}
use Rattle.golog_branch.specs.declared.following.Kept.{Kept}
use Rattle.golog_branch.specs.declared.tree.Branch.{Branch}
use Rattle.golog_branch.specs.declared.tree.Planned.TheVariants.{Found}
use Rattle.golog_branch.specs.declared.tree.Tree.{Tree}
use Rattle.golog_branch.specs.declared.tree.Tree.TheVariants as tree
use Rattle.golog_branch.specs.declared.tree.Tree.TheViews.{out-Tree}
use Rattle.golog_branch.specs.Following.{after_layer, after_step, ahead, begins_with_step, branches_in, is_step_layer, plan_behind, plan_for, plan_kept, plan_of}
use Rattle.golog_branch.specs.Plans.{planned}

pub begins-not : (t : Tree) → t ≡ tree.Done → begins_with_step t ≡ false
begins-not t e = ap begins_with_step e ∙ ap is_step_layer tree.outs-Done

pub begins : (t : Tree) (label : Label) (left : Prog) (next : List Branch) → t ≡ tree.Step label left next → begins_with_step t ≡ true
begins t label left next e = ap begins_with_step e ∙ ap is_step_layer (tree.outs-Step label left next)

pub plan-not : (value : ℕ) (t : Tree) → t ≡ tree.Done → plan_for value t ≡ None
plan-not value t e = ap (plan_for value) e ∙ ap (λ l. plan_of (find (λ (b : Branch). b.value == value) (branches_in l))) tree.outs-Done

pub plan-of-step : (value : ℕ) (t : Tree) (label : Label) (left : Prog) (next : List Branch) → t ≡ tree.Step label left next
    → plan_for value t ≡ plan_of (find (λ (b : Branch). b.value == value) next)
plan-of-step value t label left next e =
    ap (plan_for value) e ∙ ap (λ l. plan_of (find (λ (b : Branch). b.value == value) (branches_in l))) (tree.outs-Step label left next)

-- one more item was looked at
pub find-next : {A : Type 0} (test : A → Bool) (xs : List A) (i : ℕ) (x : A) → i < length xs → x ≡ get_or xs i x
    → find test (drop i xs) ≡ cond (test x) (Some x) (find test (drop (i + 1) xs))
find-next test xs i x less e = at_drop_more (find test) xs i x less ∙ ap (λ y. find test (y ∷ drop (i + 1) xs)) (sym e)

module _ (agent : Agent) where
  pub step-kept : (t : Tree) (label : Label) (left : Prog) (next : List Branch) → t ≡ tree.Step label left next → (k : Kept)
      → after_step agent k t ≡ record { left = left; plan = plan_behind agent t label next }
  step-kept t label left next e k = ap (after_layer agent t k) (ap out-Tree e ∙ tree.outs-Step label left next)

  module _ (depth fuel : ℕ) (values : Values) (k : Kept) where
    pub ahead-kept : (t : Tree) → plan_kept agent values k ≡ Some t → Found t ≡ ahead agent depth fuel values k
    unfolding ahead
    ahead-kept t e = sym (ap (λ (o : Option Tree). option_map_or Found o (planned agent depth fuel k.left values)) e)

    pub ahead-new : plan_kept agent values k ≡ None → planned agent depth fuel k.left values ≡ ahead agent depth fuel values k
    unfolding ahead
    ahead-new e = sym (ap (λ (o : Option Tree). option_map_or Found o (planned agent depth fuel k.left values)) e)
