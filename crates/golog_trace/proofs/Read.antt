-- A fluent that one of some conditions may read, and the arguments of a ground fluent.
use Rattle.std.proofs.Common.{◌≡◌, ℕ, zero, suc, ◌<◌, ◌≤◌, true, List, [], ◌∷◌, map, get_or, length, sym, ap, ◌∙◌, subst, arith}
use Rattle.std.specs.List.{list_any}
use Rattle.golog_tree.specs.declared.agent.Agent.{Agent}
use Rattle.golog_tree.specs.declared.cond.Cond.{Cond}
use Rattle.golog_tree.specs.declared.ground.Ground.{Ground}
use Rattle.golog_tree.specs.Ground.{IsCountable, action_args, args_at, fluent_args}
use Rattle.golog_tree.specs.Numbered.{IsGround}
use Rattle.golog_tree.proofs.Decoded.{args_at-get_or}
use Rattle.golog_semantics.proofs.Tests.{or_first, or_second}
use Rattle.golog_trace.specs.Reading.{reads}

pub one-reads : (f : ℕ) (given : List ℕ) (cs : List Cond) (i : ℕ) (d : Cond) → i < length cs → reads f given (get_or cs i d) ≡ true → list_any (λ b. b) (map (reads f given) cs) ≡ true
one-reads f given [] i d h e = absurd (omega arith)
one-reads f given (c ∷ cs) zero d h e = or_first (reads f given c) (list_any (λ b. b) (map (reads f given) cs)) e
one-reads f given (c ∷ cs) (suc i) d h e = or_second (reads f given c) (list_any (λ b. b) (map (reads f given) cs)) (one-reads f given cs i d (omega arith) e)

-- a ground fluent has at most three arguments
pub few-at : (agent : Agent) (number : ℕ) (ground : Ground) → IsCountable agent → IsGround agent (fluent_args agent) number ground → ground.count ≤ 3
few-at agent number ground countable is =
    let few : length (get_or (fluent_args agent) ground.item []) ≤ 3 = countable.fluent_arities ground.item [] is.declared in
    let same : ground.count ≡ length (get_or (fluent_args agent) ground.item []) = is.count ∙ ap length (args_at-get_or (fluent_args agent) ground.item) in
    subst (λ n. n ≤ 3) (sym same) few

-- and so has a ground action
pub few-action-at : (agent : Agent) (number : ℕ) (ground : Ground) → IsCountable agent → IsGround agent (action_args agent) number ground → ground.count ≤ 3
few-action-at agent number ground countable is =
    let few : length (get_or (action_args agent) ground.item []) ≤ 3 = countable.action_arities ground.item [] is.declared in
    let same : ground.count ≡ length (get_or (action_args agent) ground.item []) = is.count ∙ ap length (args_at-get_or (action_args agent) ground.item) in
    subst (λ n. n ≤ 3) (sym same) few
