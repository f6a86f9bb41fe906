-- What is said of a condition: how it reads, its truth, and each ground fluent that it may read of which no value is
-- known.
use Rattle.std.specs.Prelude.{ℕ, Bool, ◌==◌, ◌&&◌, if◌then◌else◌, List, [], ◌∷◌, ◌++◌, codes}
use Rattle.std.specs.List.{enumerate_from, flat_map}
use Rattle.golog_tree.specs.declared.agent.Agent.{Agent}
use Rattle.golog_tree.specs.declared.cond.Cond.{Cond}
use Rattle.golog_tree.specs.declared.cond.Truth.{Truth}
use Rattle.golog_tree.specs.declared.cond.Truth.TheVariants.{Yes, No, Unknown}
use Rattle.golog_semantics.specs.Text.{Text, fluent_text}
use Rattle.golog_semantics.specs.Truth.{Values, env_of, truth_of, unknown}
use Rattle.golog_print.specs.Printing.{text_of_cond}
use Rattle.golog_trace.specs.Reading.{may_read}

-- the word for a truth
abbrev pub truth_word : Truth → Text
truth_word Yes = codes "true"
truth_word No = codes "false"
truth_word Unknown = codes "unknown"

module _ (agent : Agent) (c : Cond) where
  -- no value is known of a ground fluent that the condition may read
  abbrev pub is_open : ℕ → ℕ → Bool
  is_open fluent value = value == unknown && may_read agent c fluent

  -- such a ground fluent has a line
  abbrev pub open_line : ℕ × ℕ → Text
  open_line (fluent, value) =
      if is_open fluent value then codes "  " ++ fluent_text agent fluent ++ codes " is unknown" ++ 10 ∷ [] else []

  -- the lines of all of them
  unfoldable pub open_lines : Values → Text
  open_lines values = flat_map open_line (enumerate_from 0 values)

  -- the condition, its truth, and these lines
  abbrev pub judged_text : Values → Text
  judged_text values =
      text_of_cond agent c ++ codes ": " ++ truth_word (truth_of agent values c (env_of [])) ++ 10 ∷ open_lines values
