-- What is said of the ground fluents whose value an entry changed.
use Rattle.std.specs.Prelude.{ℕ, ◌-◌, ◌==◌, if◌then◌else◌, Option, Some, None, List, [], ◌∷◌, ◌++◌, codes, decimal, slice_index}
use Rattle.std.specs.List.{enumerate_from, flat_map}
use Rattle.golog_tree.specs.declared.agent.Agent.{Agent}
use Rattle.golog_tree.specs.declared.cond.Truth.{Truth}
use Rattle.golog_tree.specs.declared.cond.Truth.TheVariants.{Yes, No, Unknown}
use Rattle.golog_semantics.specs.declared.journal.Entry.{Entry}
use Rattle.golog_semantics.specs.declared.journal.Entry.TheVariants.{Do, Exo, Sense}
use Rattle.golog_semantics.specs.Text.{Text, fluent_text, start_text}
use Rattle.golog_semantics.specs.Truth.{Values}
use Rattle.golog_trace.specs.declared.effects.Effect.{Effect}
use Rattle.golog_trace.specs.Effects.{effect_on}

-- how sure it is that an effect applied
abbrev pub by_word : Truth → Text
by_word Yes = codes ", by effect "
by_word _ = codes ", perhaps by effect "

-- The effect, by its place among those of the agent's file, from 1 on. Two effects are built in and stand before
-- these: they have the number 0.
abbrev pub effect_text : Option Effect → Text
effect_text None = []
effect_text (Some effect) = by_word effect.truth ++ decimal (effect.number - 1)

module _ (agent : Agent) (values : Values) where
  -- how an entry changed a ground fluent, given the values before it
  abbrev pub how_text : Entry → ℕ → Text
  how_text (Do action) fluent = effect_text (effect_on agent values action fluent)
  how_text (Exo poster action) fluent = effect_text (effect_on agent values action fluent)
  how_text (Sense poster place sensed value) fluent = codes ", sensed"
  how_text _ fluent = []

  -- a ground fluent that had one value, and has another one after the entry
  abbrev pub changed_line : Entry → ℕ → ℕ → ℕ → Text
  changed_line entry fluent old value =
      codes "  " ++ fluent_text agent fluent ++ codes ": " ++ start_text agent fluent old ++ codes " -> "
      ++ start_text agent fluent value ++ how_text entry fluent ++ 10 ∷ []

  -- a ground fluent and its value after the entry have a line, where it was another one before
  abbrev pub change_line : Entry → ℕ × ℕ → Text
  change_line entry (fluent, value) =
      if slice_index values fluent == value then []
      else changed_line entry fluent (slice_index values fluent) value

  -- the lines of all of them, given the values after the entry
  unfoldable pub change_lines : Entry → Values → Text
  change_lines entry after = flat_map (change_line entry) (enumerate_from 0 after)
