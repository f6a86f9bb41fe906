-- The published axioms of Trans as laws: what a step of a program is, by its one construct.
use Rattle.std.specs.Prelude.{◌↔◌}
use Rattle.golog_tree.specs.declared.agent.Agent.{Agent}
use Rattle.golog_tree.specs.declared.prog.Label.{Label}
use Rattle.golog_tree.specs.declared.prog.Prog.{Prog}
use Rattle.golog_tree.specs.declared.prog.Prog.TheViews.{out-Prog}
use Rattle.golog_semantics.specs.Truth.{Values}
use Rattle.golog_semantics.specs.Guarded.{IsGuarded}
use Rattle.golog_semantics.specs.Trans.{PlainTrans, TransW, block_trans, no_steps, trans_step}

-- A program has a step exactly where the axiom of its one construct gives it, by the steps of the parts and of
-- the bodies that are called. Without blocks it is so as well.
pub record StepUnfolds
    (agent : Agent) (world : Values) (p : Prog) (label : Label) (left : Prog) : Type 0 where
  pub step : TransW agent world p label left
      ↔ trans_step agent world (block_trans agent world) (TransW agent world) (out-Prog p) label left
  pub plain_step : PlainTrans agent world p label left
      ↔ trans_step agent world no_steps (PlainTrans agent world) (out-Prog p) label left

-- For a guarded agent the steps satisfy the axioms, though they are defined by looking only as deep as the
-- program leads without a step.
abbrev pub TransUnfolds : Type 0
TransUnfolds =
    (agent : Agent) → IsGuarded agent → (world : Values) (p : Prog) (label : Label) (left : Prog)
    → StepUnfolds agent world p label left
