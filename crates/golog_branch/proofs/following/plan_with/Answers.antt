use Rattle.std.proofs.Common.{◌==◌, ◌+◌, Bool, cond, Some, drop, find, sym, ap, ◌∙◌, arith}
use Rattle.std.proofs.lemmas.Bool.{eq-eqb, ne_eqb}
use Rattle.std.proofs.lemmas.List.{at_drop_all}
use Rattle.golog_branch.specs.declared.tree.Branch.{Branch}
use Rattle.golog_branch.specs.declared.tree.Tree.{Tree}
use Rattle.golog_branch.specs.Following.{plan_of}
use Rattle.golog_branch.proofs.KeptPlans.{find-next}
use Rattle.golog_branch.proofs.following.plan_with.Goals as goal

pub returns-then-branch-value : goal.returns-then-branch-value
returns-then-branch-value c =
    let test = λ (b : Branch). b.value == c.args.value in
    let next = c.args.next.now in
    let i = c.loop-branch.branch-index in
    let b = c.branch-item.result in
    ap (λ (t : Tree). Some t) c.in_ok-share.ensures
    ∙ sym (ap plan_of (c.loop-branch.invariant ∙ find-next test next i b (omega arith) c.branch-item.is
    ∙ ap (λ (u : Bool). cond u (Some b) (find test (drop (i + 1) next))) (eq-eqb b.value c.args.value (omega arith))))

pub loop-branch-preserved : goal.loop-branch-preserved
loop-branch-preserved c =
    let test = λ (b : Branch). b.value == c.args.value in
    let next = c.args.next.now in
    let i = c.loop-branch.branch-index in
    let b = c.branch-item.result in
    c.loop-branch.invariant ∙ find-next test next i b (omega arith) c.branch-item.is
    ∙ ap (λ (u : Bool). cond u (Some b) (find test (drop (i + 1) next))) (ne_eqb b.value c.args.value (λ e. omega arith))

pub returns : goal.returns
returns c =
    let test = λ (b : Branch). b.value == c.args.value in
    sym (ap plan_of (c.loop-branch.invariant ∙ at_drop_all (find test) c.args.next.now c.loop-branch.branch-index (omega arith)))
