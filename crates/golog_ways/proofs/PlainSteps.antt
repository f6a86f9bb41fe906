-- The first certain step and whether there is a step, where no block has one.
use Rattle.std.proofs.Common.{◌≡◌, List, [], ◌∷◌, map, refl}
use Rattle.std.specs.Prelude.{not}
use Rattle.std.specs.Option.{option_map}
use Rattle.golog_tree.specs.declared.agent.Agent.{Agent}
use Rattle.golog_tree.specs.declared.prog.Prog.{Prog}
use Rattle.golog_semantics.specs.declared.Mode.{Mode}
use Rattle.golog_semantics.specs.declared.Mode.TheVariants.{Must}
use Rattle.golog_semantics.specs.declared.search.Move.{Move}
use Rattle.golog_semantics.specs.Truth.{Values}
use Rattle.golog_semantics.specs.Ways.{is_empty, way_of}
use Rattle.golog_semantics.specs.Search.{moves_with, no_blocks, plain_ways}
use Rattle.golog_ways.specs.First.{first_way, has_way, head_of}
use Rattle.golog_ways.specs.FirstMove.{first_move}
use Rattle.golog_ways.specs.Reach.{has_move}

head-map : (ms : List Move) → option_map way_of (head_of ms) ≡ head_of (map way_of ms)
head-map [] = refl
head-map (m ∷ ms) = refl

empty-map : (ms : List Move) → not (is_empty ms) ≡ not (is_empty (map way_of ms))
empty-map [] = refl
empty-map (m ∷ ms) = refl

module _ (agent : Agent) (values : Values) where
  pub first-without : (p : Prog) → option_map way_of (first_move agent no_blocks values p) ≡ first_way agent values p
  unfolding first_move first_way plain_ways
  first-without p = head-map (moves_with agent no_blocks values Must p)

  pub any-without : (m : Mode) (p : Prog) → has_move agent no_blocks values m p ≡ has_way agent values m p
  unfolding has_move has_way plain_ways
  any-without m p = empty-map (moves_with agent no_blocks values m p)
