-- Where nothing is refused of the blocks of a program, they keep their limits.
use Rattle.std.proofs.Common.{◌≡◌, Bool, true, false, not, ◌&&◌, ◌||◌, List, [], ◌∷◌, ◌++◌, map, refl, sym, ap, subst, ◌∙◌}
use Rattle.std.specs.Prelude.{⊤}
use Rattle.std.specs.List.{list_all}
use Rattle.golog_tree.specs.declared.draft.DraftProc.{DraftProc}
use Rattle.golog_tree.specs.declared.draft_prog.DraftProg.{DraftProg}
use Rattle.golog_tree.specs.declared.draft_prog.DraftProg.TheOpen as draft
use Rattle.golog_tree.specs.declared.draft_prog.DraftProg.TheOpen.{DraftProg-F}
use Rattle.golog_tree.specs.declared.draft_prog.DraftProg.TheViews.{roll-DraftProg}
use Rattle.golog_tree.specs.declared.draft_prog.DraftProg.TheFolds.{fold-roll-DraftProg, ind-DraftProg, map-DraftProg}
use Rattle.golog_tree.specs.declared.prog.Prog.{Prog}
use Rattle.golog_tree.specs.declared.prog.Prog.TheVariants as prog
use Rattle.golog_tree.specs.declared.prog.Prog.TheOpen.{Pick, Star, If, While, Cstar, Call, Search}
use Rattle.golog_tree.specs.Ground.{to_count}
use Rattle.golog_semantics.specs.BlockFree.{block_at, has_block_by, has_block_step}
use Rattle.golog_semantics.specs.ProgFits.{is_between, depth_limit, fuel_limit}
use Rattle.golog_semantics.proofs.Tests.{and_both, and_cases, neither_first, neither_second}
use Rattle.golog_tree.specs.declared.join.Join.{Join}
use Rattle.golog_tree.specs.declared.join.Join.TheVariants.{Seq as InSeq, Choice as InChoice, Conc as InConc, Prio as InPrio}
use Rattle.golog_rows.specs.Least.{CodeAt}
use Rattle.golog_check.specs.Programs.{nested}
use Rattle.golog_check.specs.ProgramLaws as keeping
use Rattle.golog_check.specs.ProgramLaws.{blocks_keep}
use Rattle.golog_shapes.specs.Shapes.{no_cond, shape, shape_step}
use Rattle.golog_shapes.specs.Unguarded.{refused_where}
use Rattle.golog_shapes.specs.DraftBlocks.{Blocks, blocks_step, blocks_of, block_refusals, refused_step, numbers_fit, of_each}
use Rattle.golog_check.proofs.TermLaws.{not-false}
use Rattle.golog_shapes.proofs.BlockShapes.{same-shape}
use Rattle.golog_check.proofs.PartLaws.{none-before, none-behind}
use Rattle.golog_shapes.proofs.Shaped.{by-layer, join_step, nest_by, nested-by}

pub none-where : (b : Bool) (refusal : CodeAt) → refused_where b refusal ≡ [] → b ≡ false
none-where true refusal h = absurd (cc)
none-where false refusal h = refl

module _ (bs : List Bool) where
  abbrev has : Prog → Bool
  has = has_block_by bs

  abbrev keep : DraftProg → Bool → Bool
  keep = blocks_keep (block_at bs)

  abbrev AllFree : List Bool → Type 0
  AllFree [] = ⊤
  AllFree (x ∷ xs) = (x ≡ false) × AllFree xs

  either : (join : Join) (x y : Bool) → join_step Bool (has_block_step bs) (λ w. false) join x y ≡ (x || y)
  either InSeq x y = refl
  either _ x y = refl

  all-free : (join : Join) (xs : List Bool) → nest_by Bool (has_block_step bs) (λ w. false) join xs ≡ false → AllFree xs
  all-free join [] h = tt
  all-free join (x ∷ []) h = (h, tt)
  all-free join (x ∷ y ∷ xs) h =
      let rest = nest_by Bool (has_block_step bs) (λ w. false) join (y ∷ xs) in
      let none = sym (either join x rest) ∙ h in
      (neither_first x rest none, all-free join (y ∷ xs) (neither_second x rest none))

  nested-free : (join : Join) (ps : List Prog) → has (nested join ps) ≡ false → AllFree (map has ps)
  nested-free join ps h = all-free join (map has ps) (sym (nested-by Bool (has_block_step bs) (λ w. false) join ps) ∙ h)

  record Facts (d : DraftProg) : Type 0 where
    outside : block_refusals bs d ≡ [] → blocks_keep (block_at bs) d false ≡ true
    inside : block_refusals bs d ≡ [] → has_block_by bs (shape d) ≡ false → blocks_keep (block_at bs) d true ≡ true

  abbrev One : Type 0
  One = (d : DraftProg) × Facts d

  abbrev drafts_of : DraftProg-F One → DraftProg-F DraftProg
  drafts_of y = map-DraftProg One DraftProg (λ d. d.0) y

  abbrev all_of : List One → List DraftProg
  all_of ds = map (λ d. d.0) ds

  abbrev blocks_in : DraftProg-F One → DraftProg-F Blocks
  blocks_in y = map-DraftProg DraftProg Blocks (blocks_of bs) (drafts_of y)

  all-outside : (ds : List One) → of_each (map (blocks_of bs) (all_of ds)) ≡ [] → list_all (λ p. p false) (map keep (all_of ds)) ≡ true
  all-outside [] h = refl
  all-outside (d ∷ ds) h =
      let rest = of_each (map (blocks_of bs) (all_of ds)) in
      and_both (keep d.0 false) (list_all (λ p. p false) (map keep (all_of ds)))
      (d.1.outside (none-before (block_refusals bs d.0) rest h)) (all-outside ds (none-behind (block_refusals bs d.0) rest h))

  all-inside : (ds : List One) → of_each (map (blocks_of bs) (all_of ds)) ≡ [] → AllFree (map has (map shape (all_of ds)))
      → list_all (λ p. p true) (map keep (all_of ds)) ≡ true
  all-inside [] h free = refl
  all-inside (d ∷ ds) h free =
      let rest = of_each (map (blocks_of bs) (all_of ds)) in
      and_both (keep d.0 true) (list_all (λ p. p true) (map keep (all_of ds)))
      (d.1.inside (none-before (block_refusals bs d.0) rest h) free.0) (all-inside ds (none-behind (block_refusals bs d.0) rest h) free.1)

  outside-layer : (y : DraftProg-F One) → refused_step bs (blocks_in y) ≡ []
      → keeping.blocks_step (block_at bs) (map-DraftProg DraftProg (Bool → Bool) keep (drafts_of y)) false ≡ true
  outside-layer (draft.Nil at) h = refl
  outside-layer (draft.Act action args at) h = refl
  outside-layer (draft.Test c at) h = refl
  outside-layer (draft.Seq ds at) h = all-outside ds h
  outside-layer (draft.Choice ds at) h = all-outside ds h
  outside-layer (draft.Pick word sort d at) h = d.1.outside h
  outside-layer (draft.Star d at) h = d.1.outside h
  outside-layer (draft.If c d e at) h =
      and_both (keep d.0 false) (keep e.0 false) (d.1.outside (none-before (block_refusals bs d.0) (block_refusals bs e.0) h))
      (e.1.outside (none-behind (block_refusals bs d.0) (block_refusals bs e.0) h))
  outside-layer (draft.While c d at) h = d.1.outside h
  outside-layer (draft.Conc ds at) h = all-outside ds h
  outside-layer (draft.Prio ds at) h = all-outside ds h
  outside-layer (draft.Cstar d at) h = d.1.outside h
  outside-layer (draft.Call item args at) h = refl
  outside-layer (draft.Search depth fuel d at) h =
      let nested_row = refused_where (has (blocks_of bs d.0).shape) (33, at) in
      let number_row = refused_where (not (numbers_fit depth fuel)) (37, at) in
      let rows = none-before (nested_row ++ number_row) (block_refusals bs d.0) h in
      let free = none-where (has (blocks_of bs d.0).shape) (33, at) (none-before nested_row number_row rows) in
      let fit = not-false (numbers_fit depth fuel) (none-where (not (numbers_fit depth fuel)) (37, at) (none-behind nested_row number_row rows)) in
      let t = and_cases (is_between 1 depth_limit (to_count depth)) (is_between 1 fuel_limit (to_count fuel)) fit in
      and_both (is_between 1 depth_limit (to_count depth) && is_between 1 fuel_limit (to_count fuel)) (keep d.0 true)
      (and_both (is_between 1 depth_limit (to_count depth)) (is_between 1 fuel_limit (to_count fuel)) t.0 t.1)
      (d.1.inside (none-behind (nested_row ++ number_row) (block_refusals bs d.0) h) (ap has (sym (same-shape bs d.0)) ∙ free))

  inside-layer : (y : DraftProg-F One) → refused_step bs (blocks_in y) ≡ [] → has (shape_step (map-DraftProg DraftProg Prog shape (drafts_of y))) ≡ false
      → keeping.blocks_step (block_at bs) (map-DraftProg DraftProg (Bool → Bool) keep (drafts_of y)) true ≡ true
  inside-layer (draft.Nil at) h free = refl
  inside-layer (draft.Act action args at) h free = refl
  inside-layer (draft.Test c at) h free = refl
  inside-layer (draft.Seq ds at) h free = all-inside ds h (nested-free InSeq (map shape (all_of ds)) free)
  inside-layer (draft.Choice ds at) h free = all-inside ds h (nested-free InChoice (map shape (all_of ds)) free)
  inside-layer (draft.Pick word sort d at) h free =
      d.1.inside h (sym (by-layer Bool (has_block_step bs) (λ w. false) (Pick 0 sort (shape d.0)) (prog.Pick 0 sort (shape d.0)) (prog.rolls-Pick 0 sort (shape d.0))) ∙ free)
  inside-layer (draft.Star d at) h free =
      d.1.inside h (sym (by-layer Bool (has_block_step bs) (λ w. false) (Star (shape d.0)) (prog.Star (shape d.0)) (prog.rolls-Star (shape d.0))) ∙ free)
  inside-layer (draft.If c d e at) h free =
      let none = sym (by-layer Bool (has_block_step bs) (λ w. false) (If no_cond (shape d.0) (shape e.0)) (prog.If no_cond (shape d.0) (shape e.0)) (prog.rolls-If no_cond (shape d.0) (shape e.0))) ∙ free in
      and_both (keep d.0 true) (keep e.0 true)
      (d.1.inside (none-before (block_refusals bs d.0) (block_refusals bs e.0) h) (neither_first (has (shape d.0)) (has (shape e.0)) none))
      (e.1.inside (none-behind (block_refusals bs d.0) (block_refusals bs e.0) h) (neither_second (has (shape d.0)) (has (shape e.0)) none))
  inside-layer (draft.While c d at) h free =
      d.1.inside h (sym (by-layer Bool (has_block_step bs) (λ w. false) (While no_cond (shape d.0)) (prog.While no_cond (shape d.0)) (prog.rolls-While no_cond (shape d.0))) ∙ free)
  inside-layer (draft.Conc ds at) h free = all-inside ds h (nested-free InConc (map shape (all_of ds)) free)
  inside-layer (draft.Prio ds at) h free = all-inside ds h (nested-free InPrio (map shape (all_of ds)) free)
  inside-layer (draft.Cstar d at) h free =
      d.1.inside h (sym (by-layer Bool (has_block_step bs) (λ w. false) (Cstar (shape d.0)) (prog.Cstar (shape d.0)) (prog.rolls-Cstar (shape d.0))) ∙ free)
  inside-layer (draft.Call item args at) h free =
      ap not (sym (by-layer Bool (has_block_step bs) (λ w. false) (Call item []) (prog.Call item []) (prog.rolls-Call item [])) ∙ free)
  inside-layer (draft.Search depth fuel d at) h free =
      absurd (let none = sym (by-layer Bool (has_block_step bs) (λ w. false) (Search (to_count depth) (to_count fuel) (shape d.0)) (prog.Search (to_count depth) (to_count fuel) (shape d.0)) (prog.rolls-Search (to_count depth) (to_count fuel) (shape d.0))) ∙ free in cc)

  facts : (y : DraftProg-F One) → Facts (roll-DraftProg (drafts_of y))
  facts y =
      let rolled = fold-roll-DraftProg Blocks (blocks_step bs) (drafts_of y) in
      let shaped = fold-roll-DraftProg Prog shape_step (drafts_of y) in
      let kept = fold-roll-DraftProg (Bool → Bool) (keeping.blocks_step (block_at bs)) (drafts_of y) in
      let refused = ap (λ (b : Blocks). b.refused) rolled in
      record {
        outside = λ h. ap (λ g. g false) kept ∙ outside-layer y (sym refused ∙ h);
        inside = λ h free. ap (λ g. g true) kept ∙ inside-layer y (sym refused ∙ h) (ap has (sym shaped) ∙ free);
      }

  all-facts : (d : DraftProg) → Facts d
  all-facts = ind-DraftProg Facts (λ x y is. subst (λ l. Facts (roll-DraftProg l)) is (facts y))

  -- blocks of which nothing is refused keep their limits
  pub blocks-kept : (d : DraftProg) → block_refusals bs d ≡ [] → blocks_keep (block_at bs) d false ≡ true
  blocks-kept d = (all-facts d).outside
