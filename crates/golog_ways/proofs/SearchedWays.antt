-- The ways of programs that a search reaches, and where they lead.
use Rattle.std.proofs.Common.{◌≡◌, Bool, true, false, List, [], ◌∷◌, map, refl, ap, subst}
use Rattle.std.specs.Prelude.{not}
use Rattle.std.specs.List.{list_all}
use Rattle.golog_tree.specs.declared.agent.Agent.{Agent}
use Rattle.golog_tree.specs.declared.prog.Prog.{Prog}
use Rattle.golog_tree.specs.declared.prog.Way.{Way}
use Rattle.golog_semantics.specs.declared.Mode.{Mode}
use Rattle.golog_semantics.specs.declared.search.Move.{Move}
use Rattle.golog_semantics.specs.Truth.{Values}
use Rattle.golog_semantics.specs.Ways.{way_of}
use Rattle.golog_semantics.specs.Search.{plain_ways}
use Rattle.golog_semantics.specs.Moves.{plain_moves}
use Rattle.golog_semantics.specs.Blocks.{moves}
use Rattle.golog_semantics.specs.BlockFree.{has_block}
use Rattle.golog_semantics.specs.Reports.{fits_label}
use Rattle.golog_semantics.specs.ProgFits.{fits}
use Rattle.golog_semantics.specs.WellFormed.{WellFormed}
use Rattle.golog_semantics.proofs.BlocksFit.{moves-fit}
use Rattle.golog_semantics.proofs.ByParts.{OfEach}
use Rattle.golog_semantics.proofs.LeftFits.{procs_fit}
use Rattle.golog_semantics.proofs.NoBlocks.{blockless_steps, blockless, not_so}
use Rattle.golog_semantics.proofs.StepsFit.{AllFit}
use Rattle.golog_semantics.proofs.StepsKeep.{OfLefts}
use Rattle.golog_semantics.proofs.Tests.{and_both}
use Rattle.golog_fronts.specs.FrontBlock.{has_front_block}
use Rattle.golog_fronts.proofs.FrontBlocks.{block-held}
use Rattle.golog_ways.specs.Searched.{IsSearched}
use Rattle.golog_ways.proofs.Blockless.{lefts_blockless}

-- no block stands at the front of a program without blocks
pub free-of : (agent : Agent) (p : Prog) (values : Values) → IsSearched agent p values → has_front_block agent p ≡ false
free-of agent p values h = go (has_front_block agent p) refl
  where
    go : (b : Bool) → has_front_block agent p ≡ b → has_front_block agent p ≡ false
    go false e = e
    go true e = absurd (cc (block-held agent p e, not_so _ h.blockless))

module _ (agent : Agent) where
  -- a way of the agent's, whose left fits and has no block
  pub record WayStays (w : Way) : Type 0 where
    pub left_fits : fits agent w.left ≡ true
    pub label_fits : fits_label agent w.label ≡ true
    pub left_free : not (has_block agent w.left) ≡ true

  stay : (steps : List Move) → AllFit agent false steps → OfLefts agent (blockless agent) steps → OfEach WayStays (map way_of steps)
  stay [] h k = tt
  stay (step ∷ steps) h k =
      (record { left_fits = h.0.left_fits; label_fits = h.0.label_fits; left_free = ap not k.0 }, stay steps h.1 k.1)

  pub ways_stay : WellFormed agent → (p : Prog) (values : Values) → IsSearched agent p values → (m : Mode) → OfEach WayStays (plain_ways agent values m p)
  unfolding plain_ways plain_moves
  ways_stay w p values h m =
      subst (OfEach WayStays) (ap (map way_of) (blockless_steps agent values m p h.blockless))
      (stay (moves agent values m p) (moves-fit agent (procs_fit agent w) values m p h.program)
      (lefts_blockless agent values m p (not_so (has_block agent p) h.blockless)))

  abbrev pub label_is : Way → Bool
  label_is w = fits_label agent w.label

  labels : (ws : List Way) → OfEach WayStays ws → list_all label_is ws ≡ true
  labels [] h = refl
  labels (w ∷ ws) h = and_both (label_is w) (list_all label_is ws) h.0.label_fits (labels ws h.1)

  pub labels_fit : WellFormed agent → (p : Prog) (values : Values) → IsSearched agent p values → (m : Mode) → list_all label_is (plain_ways agent values m p) ≡ true
  labels_fit w p values h m = labels (plain_ways agent values m p) (ways_stay w p values h m)
