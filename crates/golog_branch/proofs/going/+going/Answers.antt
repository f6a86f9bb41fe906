use Rattle.std.proofs.Common.{◌≡◌, ◌&&◌, Bool, false, List, map, IfOk, sym, ap, ◌∙◌, subst, arith, rules}
use Rattle.std.specs.Prelude.{All}
use Rattle.std.proofs.lemmas.Bool.{eq-eqb}
use Rattle.std.proofs.lemmas.Grind.{common_steps}
use Rattle.golog_ways.specs.Searched.{IsSearched}
use Rattle.golog_branch.specs.declared.cases.Case.{Case as AnyCase}
use Rattle.golog_branch.specs.declared.tree.Branch.{Branch}
use Rattle.golog_branch.specs.declared.tree.Tree.{Tree}
use Rattle.golog_branch.specs.declared.tree.Tree.TheViews.{the_lemmas}
use Rattle.golog_branch.specs.Going.{all_go, branch_going, goes}
use Rattle.golog_branch.specs.Levels.{case_of}
use Rattle.golog_branch.proofs.CasesKeep.{cases-searched}
use Rattle.golog_branch.proofs.GoingOn.{from-end, from-more, from-none, goes-by, goes-done, goes-nowhere, goes-uneven, way-there}
use Rattle.golog_branch.proofs.going.+going.Goals as goal

pub tree_goes-is_final-requires-clause-program : goal.tree_goes-is_final-requires-clause-program
tree_goes-is_final-requires-clause-program t c = record { in_block = false; fits = c.requires.searched.program }

pub tree_goes-is_final-requires-clause-sorts : goal.tree_goes-is_final-requires-clause-sorts
tree_goes-is_final-requires-clause-sorts t c = c.requires.searched.sorts

pub tree_goes-returns-in-Done : goal.tree_goes-returns-in-Done
tree_goes-returns-in-Done t c =
    let agent = c.args.planner.now.agent.now in
    let p = c.args.prog.now in
    let values = c.args.state.now in
    subst (λ (b : Bool). IfOk c.is_final.result (λ (r : Bool). r ≡ b))
    (sym (ap (λ (u : Tree). goes agent u p values) c.in-Done.is ∙ goes-done agent p values)) c.is_final.ensures.end

pub tree_goes-returns-then-not-branch : goal.tree_goes-returns-then-not-branch
tree_goes-returns-then-not-branch t c =
    goes-nowhere c.args.planner.now.agent.now c.args.tree.now c.in-Step.label c.in-Step.left c.in-Step.next c.in-Step.is c.args.prog.now c.args.state.now
    (sym c.if-not-branch.true ∙ c.in_ok-is_step-in-Step.ensures)

pub tree_goes-cases-requires-clause-label : goal.tree_goes-cases-requires-clause-label
tree_goes-cases-requires-clause-label t c =
    let agent = c.args.planner.now.agent.now in
    (way-there agent c.requires.agent c.args.prog.now c.args.state.now c.requires.searched c.in-Step.label c.in-Step.left (sym c.if-not-branch.false ∙ c.in_ok-is_step-in-Step.ensures)).label

pub tree_goes-cases-requires-clause-sorts : goal.tree_goes-cases-requires-clause-sorts
tree_goes-cases-requires-clause-sorts t c = c.requires.searched.sorts

pub tree_goes-branches_go-go-requires : goal.tree_goes-branches_go-go-requires
tree_goes-branches_go-go-requires t c =
    let agent = c.args.planner.now.agent.now in
    let values = c.args.state.now in
    let left = c.in-Step.left in
    let way = way-there agent c.requires.agent c.args.prog.now values c.requires.searched c.in-Step.label left (sym c.if-not-branch.false ∙ c.in_ok-is_step-in-Step.ensures) in
    let searched : All (λ (x : AnyCase). IsSearched agent left x.state) c.as_slice-in-Step.result.now =
    cases-searched agent c.requires.agent left way.program way.blockless values c.requires.searched.sorts c.in-Step.label way.label c.as_slice-in-Step.result.now
    (ap (map case_of) c.as_slice-in-Step.ensures ∙ c.in_ok-cases-in-Step.ensures) in
    (first_of (search (rules, the_lemmas), grind (arith, common_steps, the_lemmas)), (c.requires.agent, (c.requires.facts, searched)))

pub tree_goes-returns-in_ok-cases-in-Step : goal.tree_goes-returns-in_ok-cases-in-Step
tree_goes-returns-in_ok-cases-in-Step t c =
    let agent = c.args.planner.now.agent.now in
    let p = c.args.prog.now in
    let values = c.args.state.now in
    let label = c.in-Step.label in
    let left = c.in-Step.left in
    let next = c.in-Step.next in
    subst (λ (b : Bool). IfOk c.branches_go-go.result (λ (r : Bool). r ≡ b))
    (ap (λ (bs : List Branch). all_go (map (branch_going agent) bs) left (map case_of c.as_slice-in-Step.result.now)) c.as_slice.ensures
    ∙ ap (all_go (map (branch_going agent) next) left) (ap (map case_of) c.as_slice-in-Step.ensures ∙ c.in_ok-cases-in-Step.ensures)
    ∙ goes-by agent c.args.tree.now label left next c.in-Step.is p values (sym c.if-not-branch.false ∙ c.in_ok-is_step-in-Step.ensures))
    c.branches_go-go.ensures

pub branches_go-returns-then-next-cases : goal.branches_go-returns-then-next-cases
branches_go-returns-then-next-cases t c = goes-uneven c.args.planner.now.agent.now c.args.next.now c.args.cases.now c.args.left.now (λ e. omega arith)

pub branches_go-returns-then-not-branch : goal.branches_go-returns-then-not-branch
branches_go-returns-then-not-branch t c =
    sym (c.loop-index.invariant
    ∙ from-none c.args.planner.now.agent.now c.args.next.now c.args.cases.now c.args.left.now c.loop-index.index c.index-next-index.result c.index-cases-index.result
    (omega arith) c.index-next-index.is (omega arith) c.index-cases-index.is (sym c.if-not-branch.true ∙ c.in_ok-branch_goes.ensures))

pub branches_go-loop-index-preserved : goal.branches_go-loop-index-preserved
branches_go-loop-index-preserved t c =
    c.loop-index.invariant
    ∙ from-more c.args.planner.now.agent.now c.args.next.now c.args.cases.now c.args.left.now c.loop-index.index c.index-next-index.result c.index-cases-index.result
    (omega arith) c.index-next-index.is (omega arith) c.index-cases-index.is (sym c.if-not-branch.false ∙ c.in_ok-branch_goes.ensures)

pub branches_go-returns : goal.branches_go-returns
branches_go-returns t c =
    sym (c.loop-index.invariant ∙ from-end c.args.planner.now.agent.now c.args.next.now c.args.cases.now c.args.left.now c.loop-index.index (omega arith) (omega arith))

pub branch_goes-returns : goal.branch_goes-returns
branch_goes-returns t c =
    let agent = c.args.planner.now.agent.now in
    let b = c.args.branch.now in
    let case = c.args.case.now in
    let left = c.args.left.now in
    subst (λ (u : Bool). IfOk c.tree_goes.result (λ (r : Bool). r ≡ u))
    (ap (λ (u : Tree). goes agent u left case.state) c.get.ensures
    ∙ sym (ap (λ (u : Bool). u && goes agent b.tree left case.state) (eq-eqb b.value case.value (omega arith))))
    c.tree_goes.ensures
