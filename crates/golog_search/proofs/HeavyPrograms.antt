-- When a program is heavy, by the blocks that weigh; and when a block's search wants more than its fuel.
use Rattle.std.proofs.Common.{◌≡◌, Bool, true, false, ◌&&◌, if◌then◌else◌, Option, Some, None, refl, sym, ap, ◌∙◌}
use Rattle.std.specs.Prelude.{not, nat_lt}
use Rattle.std.specs.List.{list_any}
use Rattle.golog_tree.specs.declared.agent.Agent.{Agent}
use Rattle.golog_tree.specs.declared.prog.Prog.{Prog}
use Rattle.golog_semantics.specs.declared.Mode.{Mode}
use Rattle.golog_semantics.specs.declared.Mode.TheVariants.{Must}
use Rattle.golog_semantics.specs.declared.search.Block.{Block}
use Rattle.golog_semantics.specs.Truth.{Values}
use Rattle.golog_semantics.specs.Ways.{is_empty}
use Rattle.golog_semantics.specs.Search.{Run, best, final}
use Rattle.golog_semantics.specs.Blocks.{is_cut, moves, work}
use Rattle.golog_semantics.specs.Heavy.{front_blocks, heavy, is_above, weighs}
use Rattle.golog_find.specs.declared.found.Found.TheVariants.{Fuel}
use Rattle.golog_find.specs.Finding.{found, found_by, run_or}
use Rattle.golog_search.specs.Weighing.{lacks_fuel, weighs_by}

lacks-if : (b cut : Bool) (run : Option Run) → lacks_fuel (if b then Fuel else run_or cut run) ≡ b
lacks-if true cut run = refl
lacks-if false cut None = refl
lacks-if false cut (Some run) = refl

-- a search lacks fuel where its work is above it
pub lacks-found : (agent : Agent) (values : Values) (m : Mode) (block : Block) → lacks_fuel (found agent values m block) ≡ is_above agent values m block
unfolding found_by
lacks-found agent values m block =
    lacks-if (nat_lt block.fuel (work agent m block.depth block.body values)) (is_cut agent m block.depth block.body values) (best agent m block.depth block.body values)

module _ (agent : Agent) (values : Values) (p : Prog) where
  -- a program that may end is not heavy
  pub ended_light : final agent values Must p ≡ true → false ≡ heavy agent values p
  unfolding heavy
  ended_light e = sym (ap (λ b. not b && list_any (weighs agent values p) (front_blocks agent values p)) e)

  -- another is, where some block weighs
  pub heavy_weighs : (stepless : Bool) → stepless ≡ is_empty (moves agent values Must p) → final agent values Must p ≡ false
      → list_any (weighs_by agent values stepless) (front_blocks agent values p) ≡ heavy agent values p
  unfolding heavy
  heavy_weighs stepless s e =
      ap (λ b. list_any (weighs_by agent values b) (front_blocks agent values p)) s
      ∙ sym (ap (λ b. not b && list_any (weighs agent values p) (front_blocks agent values p)) e)
