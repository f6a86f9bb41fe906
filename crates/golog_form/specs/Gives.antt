-- What a reader answered is what is right, unless memory ran out.
use Rattle.std.specs.Prelude.{◌≡◌, ℕ, Result, Ok, Err}
use Rattle.golog_form.specs.declared.fault.FormFault.{FormFault}
use Rattle.golog_form.specs.declared.fault.FormFault.TheVariants.{Refused, Memory}

-- a code and its place
abbrev pub Fault : Type 0
Fault = ℕ × ℕ

abbrev pub Gives : {A : Type 0} → Result A FormFault → Result A Fault → Type 0
Gives (Ok x) right = right ≡ Ok x
Gives (Err (Refused why at)) right = right ≡ Err (why, at)
Gives (Err Memory) right = Unit {0}
