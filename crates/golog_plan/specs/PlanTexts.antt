-- The text of the journal of a program that follows plans: each new plan stands in the line of its first step.
-- (This project's own.)
use Rattle.std.specs.Prelude.{ℕ, ◌-◌, Bool, Option, None, [], ◌∷◌, ◌++◌, length, take, codes, decimal}
use Rattle.std.specs.List.{flat_map}
use Rattle.std.specs.Option.{option_map_or}
use Rattle.golog_lead.specs.Written.{IsWritten}
use Rattle.golog_tree.specs.declared.agent.Agent.{Agent}
use Rattle.golog_semantics.specs.declared.journal.Entry.{Entry}
use Rattle.golog_semantics.specs.Journal.{Journal}
use Rattle.golog_semantics.specs.Progress.{values_after}
use Rattle.golog_semantics.specs.Text.{Text, at_each, body_text, with_line_feed}
use Rattle.golog_branch.specs.declared.tree.Tree.{Tree}
use Rattle.golog_branch.specs.PlanJournals.{plan_begun}
use Rattle.golog_branch.specs.TreeTexts.{tree_text}

-- a line, with this in place of its line feed
abbrev pub with_end : Text → Text → Text
with_end line tail = take (length line - 1) line ++ tail

-- a line, with its own end in place of its line feed, where it has one
abbrev pub with_tail : Text → Option Text → Text
with_tail line tail = option_map_or (with_end line) tail line

-- a piece that ends a line, with its line feed
abbrev pub ended_line : Text → Text
ended_line text = text ++ 10 ∷ []

module _ (agent : Agent) where
  -- a plan at the end of a line, where there is one
  abbrev pub plan_tail : Option Tree → Text
  plan_tail plan = option_map_or (λ (t : Tree). codes " tree " ++ tree_text agent t) plan []

  module _ (depth fuel : ℕ) where
    -- the line of an entry, without its line feed
    abbrev pub plan_line : Journal → Entry → Text
    plan_line before e =
        decimal (length before) ++ codes " " ++ body_text agent (values_after agent before) None e
        ++ plan_tail (plan_begun agent depth fuel before e)

    -- the text of a journal
    unfoldable pub plan_text : Journal → Text
    plan_text journal = flat_map (with_line_feed agent) (at_each plan_line [] journal)

    -- the lines of the entries were written, or those before a write that failed
    abbrev pub HasPlanned : Journal → Option Text → Option Text → ℕ → ℕ → Bool → Type 0
    HasPlanned journal was is before after faulted = IsWritten (plan_text journal) was is before after faulted
