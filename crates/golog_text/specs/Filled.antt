-- What the room for a line is filled with, and how much of it that takes.
use Rattle.std.specs.Prelude.{◌≡◌, ◌<◌, ◌≤◌, ℕ, ◌+◌, ◌*◌, OnOk, OnErr, Option, Result, List, ◌++◌, length, codes, decimal}
use Rattle.std.specs.Option.{option_map_or}
use Rattle.golog_tree.specs.declared.agent.Agent.{Agent}
use Rattle.golog_tree.specs.declared.prog.Label.{Label}
use Rattle.golog_semantics.specs.declared.journal.Entry.{Entry}
use Rattle.golog_semantics.specs.declared.journal.PlacedRun.{PlacedRun}
use Rattle.golog_semantics.specs.Journal.{Journal}
use Rattle.golog_semantics.specs.Progress.{values_after}
use Rattle.golog_semantics.specs.Text.{Text, body_text, line_text, run_at, with_line_feed}
use Rattle.golog_semantics.specs.Truth.{Values}

-- how many bytes are reserved for a line
abbrev pub reserved : ℕ
reserved = 16384

-- a text took so many bytes at most, and it failed only where the room had not so many left
abbrev pub Takes : {A E : Type 0} → ℕ → Result A E → Text → Text → Type 0
Takes most result old new =
    OnOk result (length new ≤ length old + most) × OnErr result (reserved < length old + most)

-- how many bytes a command takes at most: `do `, an action of 128, ` @`, and a device of 31
abbrev pub command_most : ℕ
command_most = 164

-- how many bytes a word, a device of 31 and a space take at most
abbrev pub poster_most : ℕ
poster_most = 38

-- how many bytes the value known before takes at most: ` against `, and a constant of 128
abbrev pub against_most : ℕ
against_most = 137

-- how many bytes a result takes at most: a number of 40, a space, a constant of 128, and the value known before
abbrev pub result_most : ℕ
result_most = 306

-- how many bytes an entry takes at most without its run: those of a result and of its device
abbrev pub body_most : ℕ
body_most = 344

-- how many bytes a run takes at most
abbrev pub run_most : Option (List Label) → ℕ
run_most run = option_map_or (λ labels. 130 * length labels + 5) run 0

module _ (agent : Agent) (place : ℕ) (values : Values) (run : Option (List Label)) (e : Entry) where
  -- the line of an entry at this place, with these values before it and this run, and its line feed
  abbrev pub full_line : Text
  full_line = with_line_feed agent (decimal place ++ codes " " ++ body_text agent values run e)

  -- the line of the entry in each report in which it stands so
  abbrev pub IsLineOf : Text → Type 0
  IsLineOf text =
      (before : Journal) (runs : List PlacedRun)
      → length before ≡ place → values_after agent before ≡ values → run_at runs place ≡ run
      → text ≡ with_line_feed agent (line_text agent runs before e)
