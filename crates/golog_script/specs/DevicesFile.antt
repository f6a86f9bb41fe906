-- The scripts that a devices file spells: a JSON array with an object for each device that has a script.
use Rattle.std.specs.Prelude.{nat_le, if◌then◌else◌, Option, Some, None, option_and_then, List, [], ◌∷◌, length, find, codes}
use Rattle.std.specs.List.{list_any}
use Rattle.std.specs.Option.{option_map_or}
use Rattle.std.specs.Str.{is_utf8}
use Rattle.serde_json.specs.Data.{Data, Items, no_items, item}
use Rattle.serde_json.specs.Find.{get, as_str, as_array}
use Rattle.serde_json.specs.Read.{read}
use Rattle.golog_semantics.specs.Text.{Text}
use Rattle.golog_semantics.specs.Same.{same_values}
use Rattle.golog_script.specs.Codes.{NOT_JSON, SHAPE, TOO_MANY, NO_DEVICE, SAME_NAME}
use Rattle.golog_script.specs.Limits.{DEVICES}
use Rattle.golog_script.specs.declared.scripts.Script.{Script}
use Rattle.golog_script.specs.Reading.{Reading, gives, row, found, each, ◌>>=◌}
use Rattle.golog_device.specs.Scripts.{strings_in}

-- the value that the bytes spell (RFC 8259), as `serde_json` reads it: of equal keys the last counts
unfoldable pub value_in : Text → Option Data
value_in bytes = if is_utf8 bytes then read bytes else None

-- the elements of an array
abbrev pub listed : Items → List Data
listed no_items = []
listed (item d ds) = d ∷ listed ds

-- the string under a key
abbrev pub string_at : Text → Data → Option Text
string_at key d = option_and_then as_str (get key d)

-- the strings of the array under a key, none where the key is absent
abbrev pub strings_at : Text → Data → Option (List Text)
strings_at key d = option_map_or strings_in (get key d) (Some [])

module _ (names : List Text) where
  -- The name of the device of an element behind these scripts. Its position is their number.
  unfoldable pub new_name : List Script → Text → Reading Text
  new_name before name =
      row (nat_le DEVICES (length before)) TOO_MANY DEVICES
      (found NO_DEVICE (length before) (find (same_values name) names) >>= λ device.
      row (list_any (λ (s : Script). same_values name s.name) before) SAME_NAME (length before)
      (gives device))

  -- the script of an element behind these scripts
  unfoldable pub element_of : List Script → Data → Reading Script
  element_of before d =
      let at = length before in
      found SHAPE at (string_at (codes "name") d) >>= λ name.
      found SHAPE at (strings_at (codes "answers") d) >>= λ answers.
      found SHAPE at (strings_at (codes "idle") d) >>= λ idle.
      new_name before name >>= λ name.
      gives (record { name = name; answers = answers; idle = idle })

  -- the scripts of the elements of an array
  unfoldable pub scripts_in : Data → Reading (List Script)
  scripts_in d = found SHAPE 0 (as_array d) >>= λ elements. each element_of [] (listed elements)

  -- the scripts that the bytes of the file spell, for devices with these names
  unfoldable pub scripts_of : Text → Reading (List Script)
  scripts_of bytes = found NOT_JSON 0 (value_in bytes) >>= scripts_in
