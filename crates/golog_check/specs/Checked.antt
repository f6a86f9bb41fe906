-- Items that are checked one after another.
use Rattle.std.specs.Prelude.{◌≡◌, Option, Result, List, [], ◌∷◌, ◌++◌}
use Rattle.golog_rows.specs.Reading.{Reading}
use Rattle.golog_check.specs.declared.checked.Checked.{Checked}
use Rattle.golog_check.specs.declared.fault.CheckFault.{CheckFault}
use Rattle.golog_check.specs.declared.fault.CheckFault.TheVariants.{Refused, Memory}
use Rattle.golog_rows.specs.declared.least.Refusal.{Refusal}
use Rattle.golog_check.specs.Faults.{Answers}
use Rattle.golog_rows.specs.Least.{CodeAt, IsLeastOf}
use Rattle.golog_check.specs.Least.{refusals, given}

-- what these give, and their least refusal
pub record IsChecked {A : Type 0} (checked : Checked A) (readings : List (Reading A)) : Type 0 where
  pub items : checked.items ≡ given readings
  pub least : IsLeastOf checked.least (refusals readings)

-- one more, whichever these and it were
abbrev pub AddsTo : {A : Type 0} → Result A CheckFault → Checked A → Checked A → Type 0
AddsTo {A} answer old new =
    (readings : List (Reading A)) (reading : Reading A) → Answers answer reading → IsChecked old readings
    → IsChecked new (readings ++ reading ∷ [])

-- the least of some refusals, and of these and one more
abbrev pub Lowers : CheckFault → Option Refusal → Option Refusal → Type 0
Lowers (Refused code at) old new =
    (before : List CodeAt) → IsLeastOf old before → IsLeastOf new (before ++ (code, at) ∷ [])
Lowers Memory old new = ⊥
