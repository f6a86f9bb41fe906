-- What is told of the blocks of a draft is told of its shape.
use Rattle.std.proofs.Common.{◌≡◌, Bool, List, [], ◌∷◌, map, refl, sym, ap, subst, ◌∙◌}
use Rattle.golog_tree.specs.declared.draft_prog.DraftProg.{DraftProg}
use Rattle.golog_tree.specs.declared.draft_prog.DraftProg.TheOpen as draft
use Rattle.golog_tree.specs.declared.draft_prog.DraftProg.TheOpen.{DraftProg-F}
use Rattle.golog_tree.specs.declared.draft_prog.DraftProg.TheViews.{roll-DraftProg}
use Rattle.golog_tree.specs.declared.draft_prog.DraftProg.TheFolds.{fold-roll-DraftProg, ind-DraftProg, map-DraftProg}
use Rattle.golog_tree.specs.declared.prog.Prog.{Prog}
use Rattle.golog_tree.specs.declared.prog.Prog.TheVariants as prog
use Rattle.golog_tree.specs.declared.join.Join.TheVariants.{Seq as InSeq, Choice as InChoice, Conc as InConc, Prio as InPrio}
use Rattle.golog_tree.specs.Ground.{to_count}
use Rattle.golog_semantics.specs.BlockFree.{has_block_by}
use Rattle.golog_shapes.specs.Nested.{nested}
use Rattle.golog_shapes.specs.Shapes.{no_cond, shape, shape_step}
use Rattle.golog_shapes.specs.DraftBlocks.{Blocks, blocks_step, blocks_of}
use Rattle.golog_shapes.specs.Fronts.{draft_has}
use Rattle.golog_shapes.proofs.Fores.{has-same}

module _ (bs : List Bool) where
  abbrev Same : DraftProg → Type 0
  Same d = (blocks_of bs d).shape ≡ shape d

  abbrev One : Type 0
  One = (d : DraftProg) × Same d

  abbrev drafts_of : DraftProg-F One → DraftProg-F DraftProg
  drafts_of y = map-DraftProg One DraftProg (λ d. d.0) y

  abbrev all_of : List One → List DraftProg
  all_of ds = map (λ d. d.0) ds

  abbrev blocks_in : DraftProg-F One → DraftProg-F Blocks
  blocks_in y = map-DraftProg DraftProg Blocks (blocks_of bs) (drafts_of y)

  abbrev shape_in : Blocks → Prog
  shape_in b = b.shape

  all-shapes : (ds : List One) → map shape_in (map (blocks_of bs) (all_of ds)) ≡ map shape (all_of ds)
  all-shapes [] = refl
  all-shapes (d ∷ ds) = ap (λ p. p ∷ map shape_in (map (blocks_of bs) (all_of ds))) d.1 ∙ ap (λ ps. shape d.0 ∷ ps) (all-shapes ds)

  same-layer : (y : DraftProg-F One) → shape_step (map-DraftProg Blocks Prog shape_in (blocks_in y)) ≡ shape_step (map-DraftProg DraftProg Prog shape (drafts_of y))
  same-layer (draft.Nil at) = refl
  same-layer (draft.Act action args at) = refl
  same-layer (draft.Test c at) = refl
  same-layer (draft.Seq ds at) = ap (nested InSeq) (all-shapes ds)
  same-layer (draft.Choice ds at) = ap (nested InChoice) (all-shapes ds)
  same-layer (draft.Pick word sort d at) = ap (λ p. prog.Pick 0 sort p) d.1
  same-layer (draft.Star d at) = ap (λ p. prog.Star p) d.1
  same-layer (draft.If c d e at) = ap (λ p. prog.If no_cond p (blocks_of bs e.0).shape) d.1 ∙ ap (λ p. prog.If no_cond (shape d.0) p) e.1
  same-layer (draft.While c d at) = ap (λ p. prog.While no_cond p) d.1
  same-layer (draft.Conc ds at) = ap (nested InConc) (all-shapes ds)
  same-layer (draft.Prio ds at) = ap (nested InPrio) (all-shapes ds)
  same-layer (draft.Cstar d at) = ap (λ p. prog.Cstar p) d.1
  same-layer (draft.Call item args at) = refl
  same-layer (draft.Search depth fuel d at) = ap (λ p. prog.Search (to_count depth) (to_count fuel) p) d.1

  facts : (y : DraftProg-F One) → Same (roll-DraftProg (drafts_of y))
  facts y =
      ap shape_in (fold-roll-DraftProg Blocks (blocks_step bs) (drafts_of y)) ∙ same-layer y
      ∙ sym (fold-roll-DraftProg Prog shape_step (drafts_of y))

  -- the program without conditions and arguments is the shape
  pub same-shape : (d : DraftProg) → (blocks_of bs d).shape ≡ shape d
  same-shape = ind-DraftProg Same (λ x y is. subst (λ l. Same (roll-DraftProg l)) is (facts y))

  -- whether there is a block, as is told of the draft itself
  pub told-has : (d : DraftProg) → has_block_by bs (blocks_of bs d).shape ≡ draft_has bs d
  told-has d = ap (has_block_by bs) (same-shape d) ∙ has-same bs d
