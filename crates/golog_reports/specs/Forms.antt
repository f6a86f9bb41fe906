-- The forms of the words of a line: names, numbers, constants, actions and runs.
use Rattle.std.specs.Prelude.{ℕ, ◌+◌, ◌==◌, ◌||◌, ◌&&◌, Bool, true, false, List, [], ◌∷◌, Option, None, Some, codes, bytes_eq, length, position, take, drop}
use Rattle.std.specs.List.{list_all, slice_split}
use Rattle.std.specs.Option.{option_map_or}
use Rattle.golog_base.specs.Names.{is_name}
pub use Rattle.golog_base.specs.Numbers.{is_natural}
use Rattle.golog_base.specs.Numbers.{is_number}
use Rattle.golog_semantics.specs.Text.{Text}
use Rattle.golog_semantics.specs.Ways.{is_empty}

abbrev pub cut_at : Option ℕ → Text → Text × Option Text
cut_at None bytes = (bytes, None)
cut_at (Some place) bytes = (take place bytes, Some (drop (place + 1) bytes))

-- the bytes before the first of these marks, and those behind it, where there is one
unfoldable pub cut : ℕ → Text → Text × Option Text
cut mark bytes = cut_at (position (λ byte. byte == mark) bytes) bytes

-- the parts between the marks
abbrev pub parts : ℕ → Text → List Text
parts mark bytes = slice_split (λ byte. byte == mark) bytes

-- the parts of what stands behind a mark
abbrev pub parts_behind : ℕ → Option Text → List Text
parts_behind mark None = []
parts_behind mark (Some rest) = parts mark rest

-- how much stands behind a mark, with the mark
abbrev pub length_behind : Option Text → ℕ
length_behind None = 0
length_behind (Some rest) = length rest + 1

-- a name, or a number
abbrev pub is_constant : Text → Bool
is_constant word = is_name word || is_number word

-- constants with commas between them, and a `)` at the end
unfoldable pub is_closed : Text → Bool
is_closed text = option_map_or is_empty (cut 41 text).1 false && list_all is_constant (parts 44 (cut 41 text).0)

-- a name, or a name and constants in brackets
unfoldable pub is_action : Text → Bool
is_action word = is_name (cut 40 word).0 && option_map_or is_closed (cut 40 word).1 true

-- a `-`, or an action
abbrev pub is_label : Text → Bool
is_label word = bytes_eq word (codes "-") || is_action word

-- a space and a label
abbrev pub is_step : Text → Bool
is_step [] = false
is_step (byte ∷ label) = byte == 32 && is_label label

-- steps with semicolons between them
unfoldable pub is_run : Text → Bool
is_run text = list_all is_step (parts 59 text)
