-- The text of a script: a JSON object with two arrays of strings.
use Rattle.std.specs.Prelude.{Option, None, Some, [], ◌∷◌, List, codes, option_map, option_and_then, if◌then◌else◌}
use Rattle.std.specs.Str.{is_utf8}
use Rattle.serde_json.specs.Data.{Data, Items, no_items, item}
use Rattle.serde_json.specs.Find.{get, as_str, as_array}
use Rattle.serde_json.specs.Read.{read}
use Rattle.golog_semantics.specs.Text.{Text}
use Rattle.golog_semantics.specs.Dealt.{Script}

-- the strings, where all of these are strings
abbrev pub strings_of : Items → Option (List Text)
strings_of no_items = Some []
strings_of (item d ds) = option_and_then (λ s. option_map (λ rest. s ∷ rest) (strings_of ds)) (as_str d)

-- the strings of an array of strings
abbrev pub strings_in : Data → Option (List Text)
strings_in d = option_and_then strings_of (as_array d)

-- the script that an object with arrays of strings `answers` and `idle` is
abbrev pub script_of : Data → Option Script
script_of d =
    option_and_then (λ answers. option_map (λ idle. record { answers = answers; idle = idle })
    (option_and_then strings_in (get (codes "idle") d)))
    (option_and_then strings_in (get (codes "answers") d))

-- the script that bytes spell
abbrev pub script_spelled : Text → Option Script
script_spelled bytes = if is_utf8 bytes then option_and_then script_of (read bytes) else None
