-- Searches and worlds: where a world's steps lead to an end, a search finds a near run, or is cut.
use Rattle.std.specs.Prelude.{◌≡◌, ℕ, ◌≤◌, ◌⊎◌, IsTrue, Contains, not, []}
use Rattle.golog_tree.specs.declared.agent.Agent.{Agent}
use Rattle.golog_tree.specs.declared.prog.Label.{Label}
use Rattle.golog_tree.specs.declared.prog.Prog.{Prog}
use Rattle.golog_tree.specs.declared.prog.Prog.TheVariants as prog
use Rattle.golog_semantics.specs.declared.Mode.{Mode}
use Rattle.golog_semantics.specs.declared.Mode.TheVariants.{Near, May}
use Rattle.golog_semantics.specs.declared.search.Move.{Move}
use Rattle.golog_semantics.specs.Truth.{Values}
use Rattle.golog_semantics.specs.Values.{after}
use Rattle.golog_semantics.specs.Ways.{is_empty}
use Rattle.golog_semantics.specs.Guarded.{IsGuarded}
use Rattle.golog_semantics.specs.Search.{Run, runs}
use Rattle.golog_semantics.specs.Moves.{plain_moves}
use Rattle.golog_semantics.specs.Blocks.{block_moves, is_cut}
use Rattle.golog_semantics.specs.Plain.{plain}
use Rattle.golog_semantics.specs.Trans.{Leads, LeadsIn, PlainTrans}
use Rattle.golog_semantics.specs.World.{Refines}
use Rattle.golog_semantics.specs.ProgFits.{Position, outermost, prog_fits, within_block}
use Rattle.golog_semantics.specs.FitLaws.{ProcsFit}

module _ (agent : Agent) (values : Values) where
  -- there is a near run of at most so many ways
  pub record HasNearRun (most : ℕ) (p : Prog) : Type 0 where
    pub size : ℕ
    pub within : size ≤ most
    pub found : IsTrue (not (is_empty (runs agent Near size p values)))

  -- there is a near run of at most so many ways, or a search within them leaves something unseen
  abbrev pub IsFoundOrCut : ℕ → Prog → Type 0
  IsFoundOrCut most p = HasNearRun most p ⊎ IsTrue (is_cut agent Near most p values)

  -- a step of a search block that may be taken, with this label and this program left of its body
  pub record BlockMayStep
      (depth fuel : ℕ) (body : Prog) (rest : Run) (label : Label) (left : Prog) : Type 0 where
    pub step : Move
    pub among : Contains (block_moves agent values May depth fuel body rest) step
    pub label_same : step.label ≡ label
    pub left_same : step.left ≡ prog.Follow depth fuel left []

-- where steps of a world, of any number, lead to an end, each search finds a run or is cut
abbrev pub EndsAreFoundOrCut : Type 0
EndsAreFoundOrCut =
    (agent : Agent) → IsGuarded agent → (values world : Values) → Refines values world
    → (p : Prog) (steps most : ℕ) → LeadsIn agent steps p world → IsFoundOrCut agent values most p

-- a step of a body after which it can still end in the world may be a step of its search block
abbrev pub WorldBlocksArePossible : Type 0
WorldBlocksArePossible =
    (agent : Agent) → IsGuarded agent → (values world : Values) → Refines values world
    → (depth fuel : ℕ) → 1 ≤ depth → (body : Prog) (rest : Run) (label : Label) (left : Prog)
    → PlainTrans agent world body label left → Leads agent left (after agent world label)
    → BlockMayStep agent values depth fuel body rest label left

-- no run is under way in a program that stands within a search block
abbrev pub BodiesArePlain : Type 0
BodiesArePlain =
    (agent : Agent) (p : Prog) (at : Position) → IsTrue at.in_block → IsTrue (prog_fits agent p at)
    → plain p ≡ p

-- a program with no free variable that stands within a search block
abbrev pub FitsWithin : Agent → Prog → Type 0
FitsWithin agent p = IsTrue (prog_fits agent p (within_block outermost))

-- what a step leaves of a body may stand within a search block too
abbrev pub BodiesStayWithin : Type 0
BodiesStayWithin =
    (agent : Agent) → ProcsFit agent → (values : Values) (m : Mode) (p : Prog) → FitsWithin agent p
    → (step : Move) → Contains (plain_moves agent values m p) step → FitsWithin agent step.left
