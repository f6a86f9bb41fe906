use Rattle.std.proofs.Common.{sym, ap, ◌∙◌, subst, arith}
use Rattle.golog_ways.specs.Searched.{IsSearched}
use Rattle.golog_branch.specs.declared.cases.Case.{Case}
use Rattle.golog_branch.specs.Levels.{Adds, case_of}
use Rattle.golog_branch.specs.Plans.{branch_for, first_plan}
use Rattle.golog_branch.proofs.CasesKeep.{all-at}
use Rattle.golog_branch.proofs.Somes.{all-added, all-begin, all-end, all-none, with_all}
use Rattle.golog_branch.proofs.planner.Planner.done_branches.Goals as goal

pub loop-case-init : goal.loop-case-init
loop-case-init c =
    let f = λ (x : Case). branch_for (first_plan c.args.self.now.agent.now 0) c.args.left.now (case_of x) in
    all-begin f c.args.cases.now ∙ ap (λ bs. with_all f bs c.args.cases.now) (sym c.new-next.ensures)

pub add_done-requires-clause-searched : goal.add_done-requires-clause-searched
add_done-requires-clause-searched c =
    all-at (λ (x : Case). IsSearched c.args.self.now.agent.now c.args.left.now x.state) c.args.cases.now c.loop-case.case-index c.case-item.result (omega arith) c.case-item.is c.requires.cases

pub returns-then-not-branch : goal.returns-then-not-branch
returns-then-not-branch c =
    let f = λ (x : Case). branch_for (first_plan c.args.self.now.agent.now 0) c.args.left.now (case_of x) in
    let case = c.case-item.result in
    let none = subst (Adds (f case) c.loop-case.next c.add_done.new.next) c.if-not-branch.true c.in_ok-add_done.ensures in
    sym (c.loop-case.invariant ∙ all-none f c.loop-case.next c.args.cases.now c.loop-case.case-index case (omega arith) c.case-item.is none)

pub loop-case-preserved : goal.loop-case-preserved
loop-case-preserved c =
    let f = λ (x : Case). branch_for (first_plan c.args.self.now.agent.now 0) c.args.left.now (case_of x) in
    let case = c.case-item.result in
    let added = subst (Adds (f case) c.loop-case.next c.add_done.new.next) c.if-not-branch.false c.in_ok-add_done.ensures in
    c.loop-case.invariant
    ∙ all-added f c.loop-case.next c.add_done.new.next c.args.cases.now c.loop-case.case-index case (omega arith) c.case-item.is added

pub returns : goal.returns
returns c =
    let f = λ (x : Case). branch_for (first_plan c.args.self.now.agent.now 0) c.args.left.now (case_of x) in
    sym (c.loop-case.invariant ∙ all-end f c.loop-case.next c.args.cases.now c.loop-case.case-index (omega arith))
