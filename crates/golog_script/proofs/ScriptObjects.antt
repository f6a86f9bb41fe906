-- The object with the lists of a script reads as the script.
use Rattle.std.proofs.Common.{◌≡◌, ◌≤◌, ℕ, List, [], ◌∷◌, Some, false, map, max, refl, ap, ◌∙◌, arith}
use Rattle.std.specs.Option.{option_map}
use Rattle.std.specs.Str.{IsUtf8}
use Rattle.serde_json.specs.Data.{Data, string, depth, items_depth}
use Rattle.serde_json.specs.View.{items_of}
use Rattle.serde_json.specs.Read.{read, max_depth}
use Rattle.serde_json.specs.Written.{has_float, items_have_float, compact_text}
use Rattle.golog_semantics.specs.Text.{Text}
use Rattle.golog_semantics.specs.Dealt.{Script}
use Rattle.golog_device.specs.Scripts.{strings_of, script_of, script_spelled}
use Rattle.golog_script.specs.ScriptTexts.{object_of}
use Rattle.golog_script.proofs.Values.{spelled-some}

strings-back : (texts : List Text) → strings_of (items_of (map string texts)) ≡ Some texts
strings-back [] = refl
strings-back (t ∷ ts) = ap (option_map (λ rest. t ∷ rest)) (strings-back ts)

-- the object has the lists of the script
pub script-back : (script : Script) → script_of (object_of script) ≡ Some script
script-back script = rw (strings-back script.answers, strings-back script.idle) refl

flat : (texts : List Text) → items_depth (items_of (map string texts)) ≡ 0
flat [] = refl
flat (t ∷ ts) = ap (λ n. max 0 n) (flat ts)

pub shallow : (script : Script) → depth (object_of script) ≤ max_depth
shallow script = rw (flat script.answers, flat script.idle) (omega arith)

no_float : (texts : List Text) → items_have_float (items_of (map string texts)) ≡ false
no_float [] = refl
no_float (t ∷ ts) = no_float ts

whole : (script : Script) → has_float (object_of script) ≡ false
whole script = rw (no_float script.answers, no_float script.idle) refl

-- its text is compact, and reads as the script
pub compact : (script : Script) (d : Data) (text : List ℕ) → d ≡ object_of script → (has_float d ≡ false → text ≡ compact_text d) → text ≡ compact_text (object_of script)
compact script d text is written = written (ap has_float is ∙ whole script) ∙ ap compact_text is

pub reads-back : (script : Script) (d : Data) (text : List ℕ) → d ≡ object_of script → IsUtf8 text → (depth d ≤ max_depth → read text ≡ Some d) → script_spelled text ≡ Some script
reads-back script d text is utf8 reads =
    let flat_enough : depth d ≤ max_depth = rw is (shallow script) in
    spelled-some text d utf8 (reads flat_enough) ∙ ap script_of is ∙ script-back script
