-- What a device means that follows a script.
use Rattle.std.specs.Prelude.{◌≡◌, Bool, false, Option, Some, None, IsSome, [], reverse}
use Rattle.golog_semantics.specs.Dealt.{Script, Meaning}
use Rattle.golog_device.specs.declared.device.Begun.{Begun}
use Rattle.golog_device.specs.declared.device.Begun.TheVariants.{Ready, Refused, Memory}
use Rattle.golog_device.specs.Logs.{told_by, given_by, is_cut}
use Rattle.golog_script.specs.declared.device.ScriptDevice.{ScriptDevice}

-- it has not begun
abbrev pub is_fresh : ScriptDevice → Bool
is_fresh device = device.fresh

-- what is left of the script
abbrev pub left_of : ScriptDevice → Script
left_of device = record { answers = reverse device.answers.items; idle = reverse device.idle.items }

abbrev pub meaning_of : ScriptDevice → Meaning
meaning_of device = record {
  name = None;
  cut = is_cut device.served;
  given = Some (given_by device.served);
  told = Some (told_by device.told);
  left = Some (left_of device);
}

-- a device that was given and told nothing and has the whole script before it
abbrev pub following : Script → Meaning
following script = record { name = None; cut = false; given = Some []; told = Some []; left = Some script }

-- it is ready only for the text of a script, and refuses only what is none
abbrev pub TakesScript : Begun → Option Script → Type 0
TakesScript Ready script = IsSome script
TakesScript Refused script = script ≡ None
TakesScript Memory script = Unit {0}
