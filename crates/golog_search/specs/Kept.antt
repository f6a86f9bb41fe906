-- More knowledge keeps a run: a block goes on along its run where all is still so that was known when the run
-- went through. (This project's own.)
use Rattle.std.specs.Prelude.{◌≡◌, ℕ, if◌then◌else◌, IsTrue, ◌∷◌}
use Rattle.golog_tree.specs.declared.agent.Agent.{Agent}
use Rattle.golog_tree.specs.declared.prog.Prog.{Prog}
use Rattle.golog_tree.specs.declared.prog.Prog.TheVariants as prog
use Rattle.golog_tree.specs.declared.prog.Way.{Way}
use Rattle.golog_semantics.specs.declared.Mode.TheVariants.{Must}
use Rattle.golog_semantics.specs.Truth.{Values}
use Rattle.golog_semantics.specs.Ways.{plain_move}
use Rattle.golog_semantics.specs.Search.{Run, final}
use Rattle.golog_semantics.specs.Blocks.{goes_through}
use Rattle.golog_semantics.specs.World.{Refines}
use Rattle.golog_search.specs.declared.decision.Decision.{Decision}
use Rattle.golog_search.specs.declared.decision.Decision.TheVariants.{Final}
use Rattle.golog_search.specs.Decided.{stepping}

-- the block ends where that is certain, and else takes the first step of its run, and no search is begun
abbrev pub following : Agent → Values → ℕ → ℕ → Prog → Way → Run → Decision
following agent values depth fuel body w rest =
    if final agent values Must body then Final
    else stepping (plain_move w.label (prog.Follow depth fuel w.left rest))

-- a block whose run went through from values that these refine follows it
abbrev pub KeepsRun : Agent → Values → Prog → Decision → Type 0
KeepsRun agent values p d =
    (depth fuel : ℕ) (body : Prog) (w : Way) (rest : Run) → p ≡ prog.Follow depth fuel body (w ∷ rest)
    → (old : Values) → Refines old values → IsTrue (goes_through agent body (w ∷ rest) old)
    → d ≡ following agent values depth fuel body w rest
