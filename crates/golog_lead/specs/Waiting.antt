-- When a program goes no further until a device has posted.
use Rattle.std.specs.Prelude.{Bool, not, ◌&&◌, ◌||◌, is_none}
use Rattle.golog_tree.specs.declared.agent.Agent.{Agent}
use Rattle.golog_semantics.specs.declared.Mode.TheVariants.{Must}
use Rattle.golog_semantics.specs.Ways.{is_empty}
use Rattle.golog_semantics.specs.Search.{final}
use Rattle.golog_semantics.specs.Blocks.{moves}
use Rattle.golog_semantics.specs.Journal.{Journal, is_settled, is_quiet}
use Rattle.golog_semantics.specs.Progress.{values_after, left_after}
use Rattle.golog_semantics.specs.Answer.{answer_after}

module _ (agent : Agent) (journal : Journal) where
  -- no step of the program left is certain
  abbrev pub has_no_step : Bool
  has_no_step = is_empty (moves agent (values_after agent journal) Must (left_after agent journal))

  -- and none is to be taken where it is certain that the program may end
  abbrev pub takes_no_step : Bool
  takes_no_step = has_no_step || final agent (values_after agent journal) Must (left_after agent journal)

  -- The program has no answer yet, and some device may still post: the program waits for a result, or has no
  -- step to take.
  unfoldable pub waits : Bool
  waits =
      not (is_quiet agent journal) && is_none (answer_after agent journal)
      && (not (is_settled agent journal) || takes_no_step)
