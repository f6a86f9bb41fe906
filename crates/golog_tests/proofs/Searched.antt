-- A block around the program of an agent that was read may be searched.
use Rattle.std.proofs.Common.{◌≡◌, IsTrue, sym, subst}
use Rattle.std.specs.Prelude.{not}
use Rattle.golog_tree.specs.declared.agent.Agent.{Agent}
use Rattle.golog_tree.specs.declared.prog.Prog.{Prog}
use Rattle.golog_semantics.specs.BlockFree.{has_block}
use Rattle.golog_semantics.specs.ProgFits.{fits}
use Rattle.golog_semantics.specs.WellFormed.{WellFormed}
use Rattle.golog_tests.specs.Blockless.{IsBlockless}

-- its body fits the agent
pub body_fits : (agent : Agent) (body : Prog) → WellFormed agent → body ≡ agent.main → IsTrue (fits agent body)
body_fits agent body formed is = subst (λ (p : Prog). IsTrue (fits agent p)) (sym is) formed.programs.main

-- its body has no block
pub body_free : (agent : Agent) (body : Prog) → IsBlockless agent → body ≡ agent.main → IsTrue (not (has_block agent body))
body_free agent body free is = subst (λ (p : Prog). IsTrue (not (has_block agent p))) (sym is) free
