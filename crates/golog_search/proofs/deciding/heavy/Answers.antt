use Rattle.std.proofs.Common.{◌≡◌, true, false, sym, ◌∙◌}
use Rattle.std.specs.List.{list_any}
use Rattle.golog_semantics.specs.Heavy.{front_blocks}
use Rattle.golog_search.specs.Weighing.{weighs_by}
use Rattle.golog_search.proofs.Choosing.{heavy-so}
use Rattle.golog_search.proofs.HeavyPrograms.{ended_light, heavy_weighs}
use Rattle.golog_search.proofs.Weighs.{ok_as}
use Rattle.golog_search.proofs.deciding.heavy.Goals as goal

pub is_final-requires-clause-program : goal.is_final-requires-clause-program
is_final-requires-clause-program c = record { in_block = false; fits = c.requires.program }

pub returns-then-branch : goal.returns-then-branch
returns-then-branch c = ended_light c.args.agent.now c.args.state.now c.args.prog.now (sym c.in_ok-is_final.ensures.end ∙ c.if-branch.true)

pub returns-then-branch-2 : goal.returns-then-branch-2
returns-then-branch-2 c =
    sym (heavy-so c.args.agent.now c.args.state.now c.args.prog.now (sym c.in_ok-is_final.ensures.end ∙ c.if-branch.false) false (λ e. absurd (cc))
    (sym c.in_ok-some_block_weighs.ensures ∙ c.if-branch-2.true))

pub is_stepless-requires-clause-unended : goal.is_stepless-requires-clause-unended
is_stepless-requires-clause-unended c = sym c.in_ok-is_final.ensures.end ∙ c.if-branch.false

pub returns-then-branch-3 : goal.returns-then-branch-3
returns-then-branch-3 c =
    ok_as c.some_block_weighs-then-branch-3.result _ _
    (heavy_weighs c.args.agent.now c.args.state.now c.args.prog.now true (sym c.if-branch-3.true ∙ c.in_ok-is_stepless.ensures) (sym c.in_ok-is_final.ensures.end ∙ c.if-branch.false))
    c.some_block_weighs-then-branch-3.ensures

pub returns-else-branch-3 : goal.returns-else-branch-3
returns-else-branch-3 c =
    let none : list_any (weighs_by c.args.agent.now c.args.state.now false) (front_blocks c.args.agent.now c.args.state.now c.args.prog.now) ≡ false =
    sym c.in_ok-some_block_weighs.ensures ∙ c.if-branch-2.false in
    sym none
    ∙ heavy_weighs c.args.agent.now c.args.state.now c.args.prog.now false (sym c.if-branch-3.false ∙ c.in_ok-is_stepless.ensures) (sym c.in_ok-is_final.ensures.end ∙ c.if-branch.false)
