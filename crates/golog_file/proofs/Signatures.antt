-- An agent has the signature of the theory that it was made of.
use Rattle.std.proofs.Common.{◌≡◌, IsTrue, sym, ap, subst, ◌∙◌}
use Rattle.golog_tree.specs.declared.agent.Agent.{Agent}
use Rattle.golog_tree.specs.declared.agent.FluentItem.{FluentItem}
use Rattle.golog_tree.specs.declared.draft.DraftFluent.{DraftFluent}
use Rattle.golog_tree.specs.declared.draft.DraftTheory.{DraftTheory}
use Rattle.golog_tree.specs.declared.draft.DraftProgram.{DraftProgram}
use Rattle.golog_tree.specs.declared.draft_cond.DraftCond.{DraftCond}
use Rattle.golog_draft.specs.Drafts.{CondKeeps, AgentCondKeeps, Signature, signature, agent_signature, cond_keeps}
use Rattle.golog_check.specs.Check.{agent_of}
use Rattle.golog_check.proofs.Signatures.{declared-signature}
use Rattle.golog_file.specs.Laws.{SignatureStays, ConditionsStayKept}

module _ (theory : DraftTheory) (program : DraftProgram) (agent : Agent) (made : agent ≡ agent_of theory program) where
  pub signature-stays : agent_signature agent ≡ signature theory
  signature-stays = ap agent_signature made ∙ declared-signature theory program.procs

  pub stays-kept : (cond : DraftCond) → CondKeeps theory cond → AgentCondKeeps agent cond
  stays-kept cond kept = subst (λ (declared : Signature). IsTrue (cond_keeps declared cond 0)) (sym signature-stays) kept

pub stays : SignatureStays
stays theory program agent checked = signature-stays theory program agent checked.1

pub keeps : ConditionsStayKept
keeps theory program agent checked = stays-kept theory program agent checked.1
