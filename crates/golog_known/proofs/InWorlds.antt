-- What is known of conditions and terms is so in each world.
use Rattle.std.proofs.Common.{◌≡◌, ℕ, sym, ◌∙◌, subst}
use Rattle.std.specs.Prelude.{IsTrue}
use Rattle.golog_tree.specs.declared.agent.Agent.{Agent}
use Rattle.golog_tree.specs.declared.cond.Cond.{Cond}
use Rattle.golog_tree.specs.declared.cond.Term.{Term}
use Rattle.golog_tree.specs.declared.cond.Truth.{Truth}
use Rattle.golog_tree.specs.declared.cond.Truth.TheVariants.{Yes, No}
use Rattle.golog_semantics.specs.Truth.{Env, Values, is_known, truth_of, value_of}
use Rattle.golog_semantics.proofs.Known.{known_is_so}
use Rattle.golog_known.specs.InWorlds.{IsTruthInEach, IsValueInEach}

module _ (agent : Agent) (values : Values) where
  module _ (c : Cond) (env : Env) (answer : Truth) (same : answer ≡ truth_of agent values c env) where
    pub yes_in_each : IsTruthInEach agent values c env Yes answer
    yes_in_each h world r = (known_is_so agent values world r).yes c env (sym same ∙ h)

    pub no_in_each : IsTruthInEach agent values c env No answer
    no_in_each h world r = (known_is_so agent values world r).no c env (sym same ∙ h)

  pub value_in_each : (t : Term) (env : Env) (answer : ℕ) → answer ≡ value_of agent values t env → IsValueInEach agent values t env answer
  value_in_each t env answer same known world r =
      (known_is_so agent values world r).value t env (subst (λ v. IsTrue (is_known v)) same known) ∙ sym same
