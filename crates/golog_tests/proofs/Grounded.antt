-- What holds of the ground thing of a number.
use Rattle.std.proofs.Common.{ℕ, ◌<◌, ◌≤◌, List, [], length, sym, ap, ◌∙◌, subst}
use Rattle.std.specs.Prelude.{All}
use Rattle.std.proofs.lemmas.List.{length-map}
use Rattle.golog_tree.specs.declared.agent.Agent.{Agent}
use Rattle.golog_tree.specs.declared.ground.Ground.{Ground}
use Rattle.golog_tree.specs.Ground.{action_args, fluent_args, ground_count}
use Rattle.golog_tree.specs.Numbered.{IsGround}
use Rattle.golog_tree.proofs.Numbers.{length-all_from}
use Rattle.golog_tree.proofs.Decoded.{args_at-get_or}
use Rattle.golog_semantics.specs.WellFormed.{WellFormed}

-- it has three arguments at most
pub few : (agent : Agent) (items : List (List ℕ)) (number : ℕ) (ground : Ground) → All (λ args. length args ≤ 3) items
    → IsGround agent items number ground → ground.count ≤ 3
few agent items number ground small is =
    let same = args_at-get_or items ground.item in
    subst (λ n. n ≤ 3) (sym (is.count ∙ ap length same)) (small ground.item [] is.declared)

-- its action is declared
pub action_declared : (agent : Agent) (number : ℕ) (ground : Ground) → IsGround agent (action_args agent) number ground
    → ground.item < length agent.actions
action_declared agent number ground is =
    subst (λ n. ground.item < n) (length-map agent.actions (λ item. item.args)) is.declared

-- its fluent is declared
pub fluent_declared : (agent : Agent) (number : ℕ) (ground : Ground) → IsGround agent (fluent_args agent) number ground
    → ground.item < length agent.fluents
fluent_declared agent number ground is =
    subst (λ n. ground.item < n) (length-map agent.fluents (λ item. item.args)) is.declared

-- a ground fluent that has a start value is one of all
pub started : (agent : Agent) (number : ℕ) → WellFormed agent → number < length agent.starts
    → number < ground_count agent (fluent_args agent)
started agent number formed below =
    subst (λ n. number < n) (formed.starts.whole ∙ length-all_from agent (fluent_args agent) 0) below
