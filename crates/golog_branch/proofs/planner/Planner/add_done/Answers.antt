use Rattle.std.proofs.Common.{◌≡◌, [], ◌∷◌, ◌++◌, true, false, if◌then◌else◌, Some, None, sym, ap, ◌∙◌}
use Rattle.std.specs.Option.{option_map}
use Rattle.golog_tree.specs.declared.agent.Agent.{Agent}
use Rattle.golog_tree.specs.declared.prog.Prog.{Prog}
use Rattle.golog_semantics.specs.declared.Mode.TheVariants.{Must}
use Rattle.golog_semantics.specs.Search.{final}
use Rattle.golog_branch.specs.declared.tree.Branch.{Branch}
use Rattle.golog_branch.specs.declared.tree.Tree.{Tree}
use Rattle.golog_branch.specs.declared.tree.Tree.TheVariants as tree
use Rattle.golog_branch.specs.declared.cases.Case.{Case}
use Rattle.golog_branch.specs.Levels.{case_of}
use Rattle.golog_branch.specs.Plans.{branch_for, branch_to, first_plan}
use Rattle.golog_branch.proofs.planner.Planner.add_done.Goals as goal

module _ (agent : Agent) (left : Prog) (c : Case) where
  ended : final agent c.state Must left ≡ true → branch_for (first_plan agent 0) left (case_of c) ≡ Some (branch_to c.value tree.Done)
  unfolding first_plan
  ended e = ap (λ b. option_map (branch_to c.value) (if b then Some tree.Done else None)) e

  not-ended : final agent c.state Must left ≡ false → branch_for (first_plan agent 0) left (case_of c) ≡ None
  unfolding first_plan
  not-ended e = ap (λ b. option_map (branch_to c.value) (if b then Some tree.Done else None)) e

pub is_final-requires-clause-program : goal.is_final-requires-clause-program
is_final-requires-clause-program c = record { in_block = false; fits = c.requires.searched.program }

pub is_final-requires-clause-sorts : goal.is_final-requires-clause-sorts
is_final-requires-clause-sorts c = c.requires.searched.sorts

pub returns-then-not-branch : goal.returns-then-not-branch
returns-then-not-branch c =
    not-ended c.args.self.now.agent.now c.args.left.now c.args.case.now (sym c.in_ok-is_final.ensures.end ∙ c.if-not-branch.true)

pub returns : goal.returns
returns c =
    let some = ended c.args.self.now.agent.now c.args.left.now c.args.case.now (sym c.in_ok-is_final.ensures.end ∙ c.if-not-branch.false) in
    ap (option_map (λ (b : Branch). c.args.next.now ++ b ∷ [])) some
    ∙ ap Some (sym (c.in_ok-push.ensures.ok ∙ ap (λ (t : Tree). c.args.next.now ++ branch_to c.args.case.now.value t ∷ []) c.in_ok-tree.ensures))
