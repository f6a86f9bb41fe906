-- Texts of scripts by which devices do nothing.
use Rattle.std.specs.Prelude.{◌≡◌, Some, All, List, []}
use Rattle.golog_semantics.specs.Text.{Text}
use Rattle.golog_semantics.specs.Dealt.{Script}
use Rattle.golog_device.specs.Scripts.{script_spelled}

-- nothing is answered, and nothing done without a command
abbrev pub empty_script : Script
empty_script = record { answers = []; idle = [] }

-- each spells that script
abbrev pub AreEmpty : List Text → Type 0
AreEmpty texts = All (λ text. script_spelled text ≡ Some empty_script) texts
