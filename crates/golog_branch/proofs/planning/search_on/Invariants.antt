use Rattle.std.proofs.Common.{◌≡◌, ◌<◌, ◌≤◌, false, length}
use Rattle.std.specs.Prelude.{All}
use Rattle.golog_tree.specs.declared.prog.Prog.{Prog}
use Rattle.golog_semantics.specs.declared.Mode.TheVariants.{Must}
use Rattle.golog_semantics.specs.Search.{final}
use Rattle.golog_semantics.specs.Truth.{Values}
use Rattle.golog_branch.specs.Levels.{IsSpot}
use Rattle.golog_branch.specs.Searching.{IsSearch}
use Rattle.golog_branch.proofs.Least.{IsLooking}
use Rattle.golog_branch.proofs.planning.search_on.Given as goal

-- no plan is of so few steps; the search has looked as far, and there is room for its last level
abbrev pub invariant-loop-step : goal.invariant-loop-step
invariant-loop-step l = record {
  spots : All (IsSpot l.planner.agent.now) l.search.last;
  width : l.step < l.depth → length l.search.last ≤ l.room;
  looking : (p : Prog) (values : Values) → IsSearch l.planner.agent.now p values 0 l.initial.search → final l.planner.agent.now values Must p ≡ false
      → IsLooking l.planner.agent.now p values l.depth l.fuel l.step l.room × (l.step < l.depth → IsSearch l.planner.agent.now p values l.step l.search);
}
