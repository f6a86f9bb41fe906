-- Without a block at its front, a program's steps are all its steps, and so are its fronts.
use Rattle.std.proofs.Common.{◌≡◌, false, List, map, sym, ap, ◌∙◌}
use Rattle.std.specs.Prelude.{Result, Ok, Err, IfOk, not}
use Rattle.golog_tree.specs.declared.agent.Agent.{Agent}
use Rattle.golog_tree.specs.declared.prog.Prog.{Prog}
use Rattle.golog_semantics.specs.declared.Mode.{Mode}
use Rattle.golog_semantics.specs.declared.search.Move.{Move}
use Rattle.golog_semantics.specs.Truth.{Values}
use Rattle.golog_semantics.specs.Ways.{way_of}
use Rattle.golog_semantics.specs.Search.{plain_ways}
use Rattle.golog_semantics.specs.Moves.{plain_moves}
use Rattle.golog_semantics.specs.Blocks.{ways}
use Rattle.golog_semantics.specs.Guarded.{IsGuarded}
use Rattle.golog_semantics.specs.Fronts.{AreFronts, Guarded}
use Rattle.golog_fronts.specs.declared.front_lists.Front.{Front}
use Rattle.golog_fronts.specs.FrontBlock.{has_front_block}
use Rattle.golog_fronts.specs.FrontLists.{AreAllFronts, AreClosedFronts, guarded}
use Rattle.golog_fronts.proofs.FrontBlocks.{free_steps}

module _ (agent : Agent) (g : IsGuarded agent) (p : Prog) (free : has_front_block agent p ≡ false) where
  pub plain-all : (m : Mode) (v : Values) → plain_ways agent v m p ≡ ways agent v m p
  unfolding plain_ways plain_moves
  plain-all m v = ap (λ (ms : List Move). map way_of ms) (sym (free_steps agent g v m p (ap not free)))

  all_fronts : (fs : List Guarded) → AreFronts agent p fs → AreAllFronts agent p fs
  all_fronts fs h = record { ways = λ m v. h.ways m v ∙ plain-all m v }

pub all_given : {E : Type 0} (agent : Agent) → IsGuarded agent → (p : Prog) → has_front_block agent p ≡ false → (result : Result (List Front) E)
    → IfOk result (AreClosedFronts agent p) → IfOk result (λ fs. AreAllFronts agent p (guarded fs))
all_given agent g p free (Ok fs) h = all_fronts agent g p free (guarded fs) h.fronts
all_given agent g p free (Err e) h = h
