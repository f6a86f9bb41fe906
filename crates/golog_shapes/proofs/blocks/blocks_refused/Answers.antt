use Rattle.std.proofs.Common.{◌≡◌, List, Bool, ◌++◌, take, sym, subst, ◌∙◌, arith}
use Rattle.std.specs.List.{flat_map}
use Rattle.std.proofs.lemmas.Grind.{common_steps}
use Rattle.golog_tree.specs.declared.draft.DraftProc.{DraftProc}
use Rattle.golog_semantics.specs.BlockFree.{proc_blocks}
use Rattle.golog_rows.specs.Least.{IsLeastOf}
use Rattle.golog_shapes.specs.Shapes.{shapes}
use Rattle.golog_shapes.specs.DraftBlocks.{block_refusals}
use Rattle.golog_shapes.proofs.RoundLaws.{blocks-rounds}
use Rattle.golog_shapes.proofs.blocks.blocks_refused.Goals as goal

pub returns : goal.returns
returns c =
    let procs = c.args.procs.now in
    let main = c.args.main.now in
    let all : take c.loop-item.item-index procs ≡ procs = grind (arith, common_steps) in
    let said = c.as_slice-said.result.now in
    let is : said ≡ proc_blocks (shapes procs) = c.as_slice-said.ensures ∙ c.in_ok-settled.ensures ∙ sym (blocks-rounds procs) in
    subst (λ (bs : List Bool). IsLeastOf c.blocks_in-2.new.least (flat_map (λ (item : DraftProc). block_refusals bs item.body) procs ++ block_refusals bs main)) is
    (c.blocks_in-2.ensures.least _
    (subst (λ (ps : List DraftProc). IsLeastOf c.loop-item.least (flat_map (λ (item : DraftProc). block_refusals said item.body) ps)) all c.loop-item.invariant))
