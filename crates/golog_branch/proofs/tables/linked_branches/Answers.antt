use Rattle.std.proofs.Common.{get_or, sym, ap, ◌∙◌, subst, arith}
use Rattle.std.proofs.lemmas.List.{get_or_default}
use Rattle.golog_branch.specs.declared.spot.Jump.{Jump}
use Rattle.golog_branch.specs.Levels.{Adds, branch_in}
use Rattle.golog_branch.proofs.Somes.{all-added, all-begin, all-end, all-none, with_all}
use Rattle.golog_branch.proofs.tables.linked_branches.Goals as goal

-- the jump that stands where there is none
abbrev nowhere : Jump
nowhere = record { value = 0; place = 0 }

pub loop-jump-init : goal.loop-jump-init
loop-jump-init c =
    all-begin (branch_in c.args.table.now) c.args.next.now ∙ ap (λ bs. with_all (branch_in c.args.table.now) bs c.args.next.now) (sym c.new-branches.ensures)

pub returns-then-not-branch : goal.returns-then-not-branch
returns-then-not-branch c =
    let f = branch_in c.args.table.now in
    let i = c.loop-jump.jump-index in
    let jump = get_or c.args.next.now i nowhere in
    let none = subst (Adds (f jump) c.loop-jump.branches c.add_branch.new.branches) c.if-not-branch.true c.in_ok-add_branch.ensures in
    sym (c.loop-jump.invariant
    ∙ all-none f c.loop-jump.branches c.args.next.now i jump (omega arith) (get_or_default c.args.next.now i nowhere jump (omega arith)) none)

pub loop-jump-preserved : goal.loop-jump-preserved
loop-jump-preserved c =
    let f = branch_in c.args.table.now in
    let i = c.loop-jump.jump-index in
    let jump = get_or c.args.next.now i nowhere in
    let added = subst (Adds (f jump) c.loop-jump.branches c.add_branch.new.branches) c.if-not-branch.false c.in_ok-add_branch.ensures in
    c.loop-jump.invariant
    ∙ all-added f c.loop-jump.branches c.add_branch.new.branches c.args.next.now i jump (omega arith) (get_or_default c.args.next.now i nowhere jump (omega arith)) added

pub returns : goal.returns
returns c =
    sym (c.loop-jump.invariant ∙ all-end (branch_in c.args.table.now) c.loop-jump.branches c.args.next.now c.loop-jump.jump-index (omega arith))
