-- Which actions are sensed by items so far.
use Rattle.std.specs.Prelude.{◌≡◌, ℕ, ◌<◌, Bool, false, List, length, slice_index_or}
use Rattle.golog_tree.specs.declared.draft.DraftSense.{DraftSense}
use Rattle.golog_check.specs.Effects.{is_sensed}

-- for each action, whether one of these items tells what it senses
abbrev pub TellsSensed : List Bool → List DraftSense → Type 0
TellsSensed sensed items =
    (action : ℕ) → action < length sensed → slice_index_or sensed action false ≡ is_sensed items action
