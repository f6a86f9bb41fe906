-- Search blocks of a draft: none in another, and none that is reached from another; depth and fuel in their limits.
use Rattle.std.specs.Prelude.{ℤ, not, Bool, ◌&&◌, List, [], ◌++◌, map}
use Rattle.std.specs.List.{flat_map}
use Rattle.golog_tree.specs.declared.draft.DraftProc.{DraftProc}
use Rattle.golog_tree.specs.declared.draft_prog.DraftProg.{DraftProg}
use Rattle.golog_tree.specs.declared.draft_prog.DraftProg.TheOpen.{DraftProg-F, Nil, Act, Test, Seq, Choice, Pick, Star, If, While, Conc, Prio, Cstar, Call, Search}
use Rattle.golog_tree.specs.declared.draft_prog.DraftProg.TheFolds.{fold-DraftProg, map-DraftProg}
use Rattle.golog_tree.specs.declared.prog.Prog.{Prog}
use Rattle.golog_tree.specs.Ground.{to_count}
use Rattle.golog_semantics.specs.BlockFree.{has_block_by, proc_blocks}
use Rattle.golog_semantics.specs.ProgFits.{is_between, depth_limit, fuel_limit}
use Rattle.golog_shapes.specs.Codes.{NESTED_SEARCH, SEARCH_NUMBERS}
use Rattle.golog_rows.specs.Least.{CodeAt}
use Rattle.golog_shapes.specs.Shapes.{shape_step, shapes}
use Rattle.golog_shapes.specs.Unguarded.{refused_where}

-- a program without conditions and arguments, and what is refused of its blocks
pub record Blocks : Type 0 where
  pub shape : Prog
  pub refused : List CodeAt

-- depth and fuel are in their limits
abbrev pub numbers_fit : ℤ → ℤ → Bool
numbers_fit depth fuel = is_between 1 depth_limit (to_count depth) && is_between 1 fuel_limit (to_count fuel)

-- what is refused of each part
abbrev pub of_each : List Blocks → List CodeAt
of_each parts = flat_map (λ (part : Blocks). part.refused) parts

-- by which procedures have a block, or call one that has one
module _ (blocks : List Bool) where
  -- what is refused, given what is refused of the parts
  abbrev pub refused_step : DraftProg-F Blocks → List CodeAt
  refused_step (Nil at) = []
  refused_step (Act action args at) = []
  refused_step (Test c at) = []
  refused_step (Seq parts at) = of_each parts
  refused_step (Choice parts at) = of_each parts
  refused_step (Pick var sort p at) = p.refused
  refused_step (Star p at) = p.refused
  refused_step (If c p q at) = p.refused ++ q.refused
  refused_step (While c p at) = p.refused
  refused_step (Conc parts at) = of_each parts
  refused_step (Prio parts at) = of_each parts
  refused_step (Cstar p at) = p.refused
  refused_step (Call item args at) = []
  refused_step (Search depth fuel p at) =
      refused_where (has_block_by blocks p.shape) (NESTED_SEARCH, at)
      ++ refused_where (not (numbers_fit depth fuel)) (SEARCH_NUMBERS, at)
      ++ p.refused

  abbrev pub blocks_step : DraftProg-F Blocks → Blocks
  blocks_step l = record {
    shape = shape_step (map-DraftProg Blocks Prog (λ p. p.shape) l);
    refused = refused_step l;
  }

  abbrev pub blocks_of : DraftProg → Blocks
  blocks_of = fold-DraftProg Blocks blocks_step

  -- what is refused of the blocks of a program
  abbrev pub block_refusals : DraftProg → List CodeAt
  block_refusals p = (blocks_of p).refused

-- the refusals of the blocks of a draft: those of the procedures, and those of `main`
abbrev pub all_block_refusals : List DraftProc → DraftProg → List CodeAt
all_block_refusals procs main =
    let blocks = proc_blocks (shapes procs) in
    flat_map (λ (item : DraftProc). block_refusals blocks item.body) procs ++ block_refusals blocks main
