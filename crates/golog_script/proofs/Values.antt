-- The value that bytes spell, and the scripts in it.
use Rattle.std.proofs.Common.{◌≡◌, ℕ, List, Bool, true, false, Some, None, option_and_then, Result, Ok, Err, refl, ap, ◌∙◌, if◌then◌else◌}
use Rattle.std.specs.Str.{is_utf8, IsUtf8}
use Rattle.std.proofs.lemmas.Str.{IsUtf8-from_is_utf8, is_utf8-from_IsUtf8}
use Rattle.serde_json.specs.Data.{Data}
use Rattle.serde_json.specs.Read.{read}
use Rattle.golog_device.specs.Scripts.{script_of, script_spelled}
use Rattle.golog_script.specs.declared.fault.ScriptFault.{ScriptFault}
use Rattle.golog_script.specs.declared.fault.ScriptFault.TheVariants.{Refused, Memory}
use Rattle.golog_script.specs.Reading.{Reading, Answers}
use Rattle.golog_script.specs.DevicesFile.{value_in, scripts_in, scripts_of}

pub value-some : (bytes : List ℕ) (d : Data) → IsUtf8 bytes → read bytes ≡ Some d → value_in bytes ≡ Some d
unfolding value_in
value-some bytes d utf8 is = rw (is_utf8-from_IsUtf8 bytes utf8) is

pub value-none : (bytes : List ℕ) → (IsUtf8 bytes → read bytes ≡ None) → value_in bytes ≡ None
unfolding value_in
value-none bytes no_value = go (is_utf8 bytes) refl where
  go : (b : Bool) → is_utf8 bytes ≡ b → (if b then read bytes else None) ≡ None
  go true is = no_value (IsUtf8-from_is_utf8 bytes is)
  go false is = refl

pub spelled-some : (bytes : List ℕ) (d : Data) → IsUtf8 bytes → read bytes ≡ Some d → script_spelled bytes ≡ script_of d
spelled-some bytes d utf8 is = rw (is_utf8-from_IsUtf8 bytes utf8, is) refl

pub spelled-none : (bytes : List ℕ) → (IsUtf8 bytes → read bytes ≡ None) → script_spelled bytes ≡ None
spelled-none bytes no_value = go (is_utf8 bytes) refl where
  go : (b : Bool) → is_utf8 bytes ≡ b → (if b then option_and_then script_of (read bytes) else None) ≡ None
  go true is = rw (no_value (IsUtf8-from_is_utf8 bytes is)) refl
  go false is = refl

pub scripts-some : (names : List (List ℕ)) (bytes : List ℕ) (d : Data) → value_in bytes ≡ Some d → (scripts_of names bytes).outcome ≡ (scripts_in names d).outcome
unfolding scripts_of
scripts-some names bytes d is = rw is refl

pub scripts-none : (names : List (List ℕ)) (bytes : List ℕ) → value_in bytes ≡ None → (scripts_of names bytes).outcome ≡ Err (40, 0)
unfolding scripts_of
scripts-none names bytes is = rw is refl

pub answers-same : {A : Type 0} (result : Result A ScriptFault) (reading other : Reading A) → other.outcome ≡ reading.outcome → Answers result reading → Answers result other
answers-same (Ok x) reading other same h = same ∙ h
answers-same (Err (Refused code at)) reading other same h = same ∙ h
answers-same (Err Memory) reading other same h = tt
