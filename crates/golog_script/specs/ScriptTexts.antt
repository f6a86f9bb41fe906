-- The text of a script, as a value.
use Rattle.std.specs.Prelude.{List, All, IsUtf8, map, codes}
use Rattle.serde_json.specs.Data.{Data, string, array, object, member, no_members}
use Rattle.serde_json.specs.View.{items_of}
use Rattle.golog_semantics.specs.Text.{Text}
use Rattle.golog_semantics.specs.Dealt.{Script}
use Rattle.golog_script.specs.declared.lists.ScriptLists.{ScriptLists}
use Rattle.golog_script.specs.declared.scripts.Script.{Script as Named}

-- an array of these strings
abbrev pub array_of : List Text → Data
array_of texts = array (items_of (map string texts))

-- the object with the answers and the idle items of a script, in this order
abbrev pub object_of : Script → Data
object_of script =
    object (member (codes "answers") (array_of script.answers)
    (member (codes "idle") (array_of script.idle) no_members))

-- the script of these two lists
abbrev pub script_of_lists : ScriptLists → Script
script_of_lists lists = record { answers = lists.answers; idle = lists.idle }

-- the script without the name of its device
abbrev pub script_of_named : Named → Script
script_of_named named = record { answers = named.answers; idle = named.idle }

-- its answers and its idle items are texts
pub record HasTexts (named : Named) : Type 0 where
  pub answers : All IsUtf8 named.answers
  pub idle : All IsUtf8 named.idle
