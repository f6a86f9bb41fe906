-- How a program ends after the entries of a journal.
use Rattle.std.specs.Prelude.{Bool, false, not, ◌&&◌, ◌||◌, nat_lt, if◌then◌else◌, Option, Some, None, List, [], ◌∷◌}
use Rattle.std.specs.List.{list_any}
use Rattle.golog_tree.specs.declared.agent.Agent.{Agent}
use Rattle.golog_tree.specs.declared.prog.Prog.{Prog}
use Rattle.golog_tree.specs.Nest.{nest}
use Rattle.golog_semantics.specs.declared.Mode.TheVariants.{Must, May, Near}
use Rattle.golog_semantics.specs.declared.search.Move.{Move}
use Rattle.golog_semantics.specs.declared.journal.Answer.{Answer}
use Rattle.golog_semantics.specs.declared.journal.Answer.TheVariants.{Done, Stuck, Unknown, Depth, Unanswered, Full, Deep}
use Rattle.golog_semantics.specs.Truth.{Values}
use Rattle.golog_semantics.specs.Ways.{is_empty}
use Rattle.golog_semantics.specs.Search.{final, nest_limit}
use Rattle.golog_semantics.specs.Blocks.{moves}
use Rattle.golog_semantics.specs.Journal.{Journal, devices, is_open, is_full, is_waiting_for, is_settled, lacks_results, may_be_answered, is_quiet}
use Rattle.golog_semantics.specs.Progress.{values_after, left_after}

-- what stands beside the first test that holds
abbrev pub first_that_fits : {A : Type 0} → List (Bool × A) → A → A
first_that_fits [] last = last
first_that_fits ((test, a) ∷ cases) last = if test then a else first_that_fits cases last

-- the first step leaves a program that nests too deep
abbrev pub is_deep : List Move → Bool
is_deep [] = false
is_deep (m ∷ ms) = nat_lt nest_limit (nest m.left)

-- the program waits for the result of a device that is closed, so it will not come
abbrev pub is_unanswered : Agent → Journal → Bool
is_unanswered agent journal =
    list_any (λ d. not (is_open d journal) && is_waiting_for agent journal d) (devices agent)

-- The answer, given the values and the program left, is the first that fits; there is none while the program
-- has a step or waits. The program goes on with a step that is certain. It is done where it is certain that
-- it may end, and no open device has a result of it still to tell. It ends as unanswered where a result that will
-- not come might have let it go on; as unknown where it might step or end, were more known; as depth where a
-- step is possible only beyond what the searches looked at; and else as stuck. (This project's own.)
abbrev pub answer_at : Agent → Journal → Values → Prog → Option Answer
answer_at agent journal values p =
    first_that_fits
    ((is_full journal, Some Full)
    ∷ (is_unanswered agent journal, Some Unanswered)
    ∷ (not (is_settled agent journal), None)
    ∷ (final agent values Must p && may_be_answered agent journal, None)
    ∷ (final agent values Must p, Some Done)
    ∷ (is_deep (moves agent values Must p), Some Deep)
    ∷ (not (is_empty (moves agent values Must p)), None)
    ∷ (not (is_quiet agent journal), None)
    ∷ (lacks_results agent journal, Some Unanswered)
    ∷ (not (is_empty (moves agent values Near p)) || final agent values Near p, Some Unknown)
    ∷ (not (is_empty (moves agent values May p)), Some Depth)
    ∷ [])
    (Some Stuck)

-- the answer after these entries
unfoldable pub answer_after : Agent → Journal → Option Answer
answer_after agent journal = answer_at agent journal (values_after agent journal) (left_after agent journal)
