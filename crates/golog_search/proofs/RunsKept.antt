-- A block whose run went through from less knowledge follows it.
use Rattle.std.proofs.Common.{◌≡◌, ℕ, Bool, true, false, ◌&&◌, if◌then◌else◌, List, [], ◌∷◌, inl, inr, refl, sym, ap, ◌∙◌, subst}
use Rattle.std.specs.Prelude.{not}
use Rattle.std.specs.List.{list_any}
use Rattle.golog_base.proofs.Bools.{and-false}
use Rattle.golog_tree.specs.declared.agent.Agent.{Agent}
use Rattle.golog_tree.specs.declared.prog.Prog.{Prog}
use Rattle.golog_tree.specs.declared.prog.Prog.TheOpen.{Follow}
use Rattle.golog_tree.specs.declared.prog.Prog.TheVariants as prog
use Rattle.golog_tree.specs.declared.prog.Prog.TheViews.{out-Prog}
use Rattle.golog_tree.specs.declared.prog.Way.{Way}
use Rattle.golog_semantics.specs.declared.Mode.TheVariants.{Must}
use Rattle.golog_semantics.specs.Truth.{Values}
use Rattle.golog_semantics.specs.Search.{Run, best, final}
use Rattle.golog_semantics.specs.Ways.{final_step, moves_step}
use Rattle.golog_semantics.specs.Blocks.{beginning, block_moves, going_on, goes_through, moves}
use Rattle.golog_semantics.specs.Guarded.{IsGuarded}
use Rattle.golog_semantics.specs.Heavy.{blocks_step, front_blocks, heavy, block_reached, weighs}
use Rattle.golog_semantics.specs.World.{Refines}
use Rattle.golog_semantics.proofs.Unfolded.{block_moves-out, final-out}
use Rattle.golog_certain.proofs.RunsStay.{runs_stay}
use Rattle.golog_search.specs.declared.decision.Decision.{Decision}
use Rattle.golog_search.specs.declared.decision.Decision.TheVariants.{Final}
use Rattle.golog_search.specs.Decided.{IsDecided, along, decision}
use Rattle.golog_search.specs.Kept.{KeepsRun, following}
use Rattle.golog_search.specs.Weighing.{blocks_at}
use Rattle.golog_search.proofs.FrontBlocksUnfold.{front_blocks-out}

module _ (agent : Agent) (g : IsGuarded agent) (values : Values) (depth fuel : ℕ) (body : Prog) (w : Way) (rest : Run) (kept : goes_through agent body (w ∷ rest) values ≡ true) where
  abbrev p : Prog
  p = prog.Follow depth fuel body (w ∷ rest)

  layer : out-Prog p ≡ Follow depth fuel body (w ∷ rest)
  layer = prog.outs-Follow depth fuel body (w ∷ rest)

  ends : final agent values Must p ≡ final agent values Must body
  ends = final-out agent values g Must p ∙ ap (final_step agent values (final agent values) Must) layer

  steps : moves agent values Must p ≡ going_on depth fuel (w ∷ rest)
  steps =
      block_moves-out agent values g Must p
      ∙ ap (moves_step agent values (block_moves agent values) (final agent values) (moves agent values) Must) layer
      ∙ ap (λ b. if b then going_on depth fuel (w ∷ rest) else beginning depth fuel (best agent Must depth body values)) kept

  decides : decision agent values p ≡ following agent values depth fuel body w rest
  unfolding decision
  decides =
      ap (λ b. if b then Final else along agent values p (moves agent values Must p)) ends
      ∙ ap (λ ms. if final agent values Must body then Final else along agent values p ms) steps

  no_block : front_blocks agent values p ≡ []
  no_block =
      front_blocks-out agent values g false p
      ∙ ap (blocks_step agent values (blocks_at agent values) false) layer
      ∙ ap (λ b. if b then [] else block_reached depth fuel body false) kept

  light : heavy agent values p ≡ false
  unfolding heavy
  light =
      ap (λ blocks. not (final agent values Must p) && list_any (weighs agent values p) blocks) no_block
      ∙ and-false (not (final agent values Must p))

  pub follows : (bounded : Bool) (d : Decision) → IsDecided agent values p bounded d → d ≡ following agent values depth fuel body w rest
  follows bounded d (inl h) = h ∙ decides
  follows bounded d (inr (bound, lacks, weighs)) = absurd (let l = light in cc)

pub keeps_run : (agent : Agent) → IsGuarded agent → (values : Values) (p : Prog) (bounded : Bool) (d : Decision) → IsDecided agent values p bounded d → KeepsRun agent values p d
keeps_run agent g values p bounded d told depth fuel body w rest e old more through =
    follows agent g values depth fuel body w rest (runs_stay agent body (w ∷ rest) old values more through) bounded d
    (subst (λ q. IsDecided agent values q bounded d) e told)
