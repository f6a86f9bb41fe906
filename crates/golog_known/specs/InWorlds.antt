-- What an answer says of each world in which all is so that is known.
use Rattle.std.specs.Prelude.{◌≡◌, ℕ, IsTrue}
use Rattle.golog_tree.specs.declared.agent.Agent.{Agent}
use Rattle.golog_tree.specs.declared.cond.Cond.{Cond}
use Rattle.golog_tree.specs.declared.cond.Term.{Term}
use Rattle.golog_tree.specs.declared.cond.Truth.{Truth}
use Rattle.golog_semantics.specs.Truth.{Env, Values, is_known, truth_of, value_of}
use Rattle.golog_semantics.specs.World.{Refines}

module _ (agent : Agent) (values : Values) where
  -- where this is the answer, it is the truth of the condition in each world in which all is so that is known
  abbrev pub IsTruthInEach : Cond → Env → Truth → Truth → Type 0
  IsTruthInEach c env truth answer =
      answer ≡ truth → (world : Values) → Refines values world → truth_of agent world c env ≡ truth

  -- a value that is known is the term's in each world in which all is so that is known
  abbrev pub IsValueInEach : Term → Env → ℕ → Type 0
  IsValueInEach t env answer =
      IsTrue (is_known answer) → (world : Values) → Refines values world → value_of agent world t env ≡ answer
