-- Laws of programs without search blocks, and of what a program does next.
use Rattle.std.specs.Prelude.{◌≡◌, Bool, true, false, not, IsTrue, None, Some, Option, if◌then◌else◌, Contains}
use Rattle.golog_tree.specs.declared.agent.Agent.{Agent}
use Rattle.golog_tree.specs.declared.prog.Prog.{Prog}
use Rattle.golog_semantics.specs.declared.Mode.{Mode}
use Rattle.golog_semantics.specs.declared.search.Move.{Move}
use Rattle.golog_semantics.specs.declared.journal.Answer.{Answer}
use Rattle.golog_semantics.specs.declared.journal.Answer.TheVariants as answer
use Rattle.golog_semantics.specs.Truth.{Values}
use Rattle.golog_semantics.specs.Blocks.{moves}
use Rattle.golog_semantics.specs.BlockFree.{has_block}
use Rattle.golog_semantics.specs.Journal.{Journal, is_full, is_settled, is_quiet, lacks_results, may_be_answered}
use Rattle.golog_semantics.specs.Progress.{left_after}
use Rattle.golog_semantics.specs.Answer.{is_unanswered, answer_at}
use Rattle.golog_search.specs.declared.decision.Blocked.{Blocked}
use Rattle.golog_search.specs.declared.decision.Blocked.TheVariants.{Unknown, Depth, Stuck}
use Rattle.golog_search.specs.declared.decision.Decision.{Decision}
use Rattle.golog_search.specs.declared.decision.Decision.TheVariants.{Final, Step, Blocked as Blocking, Fuel, Deep}
use Rattle.golog_search.specs.Decided.{decision}

-- the answer of a program that is blocked
abbrev pub blocked_answer : Blocked → Answer
blocked_answer Unknown = answer.Unknown
blocked_answer Depth = answer.Depth
blocked_answer Stuck = answer.Stuck

-- The answer of a program that does this next, where it waits for no result. Where a result may still come, a
-- program that may end waits for it. While a device may still post, a blocked program waits for it, and where none
-- may but a result is lacking, that will not come.
abbrev pub answer_of : Bool → Bool → Bool → Decision → Option Answer
answer_of comes quiet lacks Final = if comes then None else Some answer.Done
answer_of comes quiet lacks (Step m) = None
answer_of comes quiet lacks (Blocking b) =
    if quiet then (if lacks then Some answer.Unanswered else Some (blocked_answer b)) else None
answer_of comes quiet lacks Fuel = Some answer.Fuel
answer_of comes quiet lacks Deep = Some answer.Deep

-- where the journal is not full and the program waits for no result, the answer is that of what the program does next
abbrev pub DecidedIsAnswered : Type 0
DecidedIsAnswered =
    (agent : Agent) (journal : Journal) (values : Values) (p : Prog) → is_full journal ≡ false
    → is_unanswered agent journal ≡ false → is_settled agent journal ≡ true
    → answer_at agent journal values p
    ≡ answer_of (may_be_answered agent journal) (is_quiet agent journal) (lacks_results agent journal)
    (decision agent values p)

-- a step of a program without blocks begins no run, and leaves one without blocks
pub record IsBlocklessStep (agent : Agent) (step : Move) : Type 0 where
  pub no_run : step.run ≡ None
  pub left : IsTrue (not (has_block agent step.left))

abbrev pub BlocklessSteps : Type 0
BlocklessSteps =
    (agent : Agent) (values : Values) (m : Mode) (p : Prog) → IsTrue (not (has_block agent p))
    → (step : Move) → Contains (moves agent values m p) step → IsBlocklessStep agent step

-- the program left along a journal has no blocks, where `main` has none
abbrev pub BlocklessLeft : Type 0
BlocklessLeft =
    (agent : Agent) → IsTrue (not (has_block agent agent.main)) → (journal : Journal)
    → IsTrue (not (has_block agent (left_after agent journal)))
