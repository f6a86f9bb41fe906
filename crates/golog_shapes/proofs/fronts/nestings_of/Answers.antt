use Rattle.std.proofs.Common.{◌≡◌, map, take, ◌∙◌, arith}
use Rattle.std.proofs.lemmas.Grind.{common_steps}
use Rattle.golog_tree.specs.declared.draft.DraftProc.{DraftProc}
use Rattle.golog_shapes.specs.Told.{nesting, nesting_by}
use Rattle.golog_shapes.proofs.RoundLaws.{map-pushed}
use Rattle.golog_shapes.proofs.FrontRounds.{nestings-told}
use Rattle.golog_shapes.proofs.fronts.nestings_of.Goals as goal

pub loop-item-preserved : goal.loop-item-preserved
loop-item-preserved c =
    map-pushed nesting (λ (item : DraftProc). nesting_by c.as_slice-skips.result.now item.body) c.loop-item.items _ c.in_ok-told.told c.args.procs.now
    c.loop-item.item-index c.item-item.result c.in_ok-push.ensures.ok c.loop-item.invariant c.in_ok-told.ensures (omega arith) c.item-item.is

pub returns : goal.returns
returns c =
    let all : map (λ (item : DraftProc). nesting_by c.as_slice-skips.result.now item.body) (take c.loop-item.item-index c.args.procs.now)
    ≡ map (λ (item : DraftProc). nesting_by c.as_slice-skips.result.now item.body) c.args.procs.now = grind (arith, common_steps) in
    c.loop-item.invariant ∙ all ∙ nestings-told c.args.procs.now c.as_slice-skips.result.now (c.as_slice-skips.ensures ∙ c.in_ok-settled.ensures)
