-- What the search of a block tells of its steps.
use Rattle.std.proofs.Common.{◌≡◌, ℕ, ◌≤◌, Bool, true, false, if◌then◌else◌, List, Option, Some, None, refl, sym, ap, ◌∙◌}
use Rattle.std.specs.Prelude.{not, ◌&&◌, ◌||◌}
use Rattle.std.specs.Option.{is_some}
use Rattle.golog_tree.specs.declared.agent.Agent.{Agent}
use Rattle.golog_semantics.specs.declared.Mode.TheVariants.{Must, May, Near}
use Rattle.golog_semantics.specs.declared.search.Block.{Block}
use Rattle.golog_semantics.specs.declared.search.Move.{Move}
use Rattle.golog_semantics.specs.Truth.{Values}
use Rattle.golog_semantics.specs.Search.{Run, best}
use Rattle.golog_semantics.specs.Blocks.{beginning, going_on, is_cut, is_kept}
use Rattle.golog_semantics.specs.Heavy.{is_above}
use Rattle.golog_ways.specs.First.{head_of}
use Rattle.golog_find.specs.declared.found.Found.{Found}
use Rattle.golog_find.specs.declared.found.Found.TheVariants as finds
use Rattle.golog_search.specs.declared.reach.FirstStep.{FirstStep}
use Rattle.golog_search.specs.declared.reach.FirstStep.TheVariants as first
use Rattle.golog_search.specs.declared.reach.NearStep.{NearStep}
use Rattle.golog_search.specs.declared.reach.NearStep.TheVariants as near
use Rattle.golog_search.specs.BlockSteps.{first_of_block, has_step, near_of_block}
use Rattle.golog_find.specs.Finding.{found_by, run_or}
use Rattle.golog_search.proofs.BlockSteps.{may-steps, near-steps}

-- the steps, as a search in mode Near finds
abbrev pub near_found : Found → NearStep
near_found (finds.Run run) = near.Steps true true
near_found (finds.Absent cut) = near.Steps false cut
near_found finds.Fuel = near.Fuel

near-run : (cut : Bool) (run : Option Run) → near_found (run_or cut run) ≡ near.Steps (is_some run) (is_some run || cut)
near-run cut (Some run) = refl
near-run cut None = refl

-- the first step, as a search in mode Must finds
abbrev pub first_found : ℕ → ℕ → Found → FirstStep
first_found depth fuel (finds.Run run) = first.Step (head_of (beginning depth fuel (Some run)))
first_found depth fuel (finds.Absent cut) = first.Step None
first_found depth fuel finds.Fuel = first.Fuel

first-run : (depth fuel : ℕ) (cut : Bool) (run : Option Run) → first_found depth fuel (run_or cut run) ≡ first.Step (head_of (beginning depth fuel run))
first-run depth fuel cut (Some run) = refl
first-run depth fuel cut None = refl

module _ (bounded : Bool) (agent : Agent) (values : Values) (block : Block) (rest : Run) where
  pub near-found : 1 ≤ block.depth → near_found (found_by bounded agent values Near block) ≡ near_of_block bounded agent values block rest
  unfolding found_by near_of_block
  near-found some = go (bounded && is_above agent values Near block)
    where
      cut : Bool
      cut = is_cut agent Near block.depth block.body values

      run : Option Run
      run = best agent Near block.depth block.body values

      go : (more : Bool) → near_found (if more then finds.Fuel else run_or cut run)
          ≡ (if more then near.Fuel else near.Steps (has_step agent values Near block rest) (has_step agent values May block rest))
      go true = refl
      go false =
          near-run cut run
          ∙ ap (λ b. near.Steps b (is_some run || cut)) (sym (near-steps agent values block.body block.depth block.fuel rest))
          ∙ ap (near.Steps (has_step agent values Near block rest)) (sym (may-steps agent values block.body block.depth block.fuel rest some))

  pub first-kept : is_kept agent values block.body rest ≡ true → first.Step (head_of (going_on block.depth block.fuel rest)) ≡ first_of_block bounded agent values block rest
  unfolding first_of_block
  first-kept h = sym (ap (λ b. if not b && more then first.Fuel else first.Step (head_of (if b then going_on block.depth block.fuel rest else begun))) h)
    where
      more : Bool
      more = bounded && is_above agent values Must block

      begun : List Move
      begun = beginning block.depth block.fuel (best agent Must block.depth block.body values)

  pub first-searched : is_kept agent values block.body rest ≡ false → first_found block.depth block.fuel (found_by bounded agent values Must block) ≡ first_of_block bounded agent values block rest
  unfolding found_by first_of_block
  first-searched h =
      go (bounded && is_above agent values Must block)
      ∙ sym (ap (λ b. if not b && (bounded && is_above agent values Must block) then first.Fuel
      else first.Step (head_of (if b then going_on block.depth block.fuel rest else begun))) h)
    where
      begun : List Move
      begun = beginning block.depth block.fuel (best agent Must block.depth block.body values)

      go : (more : Bool) → first_found block.depth block.fuel (if more then finds.Fuel else run_or (is_cut agent Must block.depth block.body values) (best agent Must block.depth block.body values))
          ≡ (if more then first.Fuel else first.Step (head_of begun))
      go true = refl
      go false = first-run block.depth block.fuel (is_cut agent Must block.depth block.body values) (best agent Must block.depth block.body values)
