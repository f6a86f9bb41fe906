-- The number of a ground action that was read is a place in their list.
use Rattle.std.proofs.Common.{◌≡◌, ℕ, ◌<◌, Option, Some, length, sym, subst}
use Rattle.golog_tree.specs.declared.agent.Agent.{Agent}
use Rattle.golog_tree.specs.Ground.{action_args, ground_actions, ground_count}
use Rattle.golog_semantics.specs.Text.{Text}
use Rattle.golog_ground.specs.Texts.{IsTheOne, WritesAction}
use Rattle.golog_progress.proofs.Ruled.{count-actions}

-- the number is below their count
pub counted : (agent : Agent) (bytes : Text) (found : Option ℕ) (number : ℕ) → IsTheOne found (WritesAction agent bytes)
    → found ≡ Some number → number < ground_count agent (action_args agent)
counted agent bytes found number h e = let w : WritesAction agent bytes number = (h number).0 e in w.0

-- the number is below the length of their list
pub listed : (agent : Agent) (bytes : Text) (found : Option ℕ) (number : ℕ) → IsTheOne found (WritesAction agent bytes)
    → found ≡ Some number → number < length (ground_actions agent)
listed agent bytes found number h e =
    subst (λ count. number < count) (sym (count-actions agent)) (counted agent bytes found number h e)
