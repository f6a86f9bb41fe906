-- What a line that was read says.
use Rattle.std.specs.Prelude.{ℕ, Option, List, option_map}
use denote.Ref.{Bor}
use Rattle.golog_semantics.specs.Text.{Text}
use Rattle.golog_reports.specs.declared.said.Body.{Body as LentBody}
use Rattle.golog_reports.specs.declared.said.Body.TheVariants.{Do, Test, Exo, Sense, Rest, Close, End}
use Rattle.golog_reports.specs.declared.said.Said.{Said as LentSaid}
use Rattle.golog_reports.specs.declared.named.Named.{Named as LentNamed}
use Rattle.golog_reports.specs.declared.named.Named.TheVariants.{Told as LentTold, Result as LentResult}
use Rattle.golog_reports.specs.Reads.{Named, Told, Result}
use Rattle.golog_reports.specs.Said.{Said, Body, SaysDo, SaysTest, SaysExo, SaysSense, SaysRest, SaysClose, SaysEnd}

-- a text that is lent, if there is one
abbrev pub lent : Option (Bor (List ℕ)) → Option Text
lent text = option_map (λ t. t.now) text

-- a value, and a text that is lent
abbrev pub start_of : ℕ × Bor (List ℕ) → ℕ × Text
start_of (value, rest) = (value, rest.now)

-- what a body says
abbrev pub body_of : LentBody → Body
body_of (Do action device run) = SaysDo action.now (lent device) (lent run)
body_of (Test run) = SaysTest (lent run)
body_of (Exo device action) = SaysExo device.now action.now
body_of (Sense device place value old) = SaysSense device.now place.now value.now (lent old)
body_of (Rest device taken) = SaysRest device.now taken.now
body_of (Close device reason taken) = SaysClose device.now reason taken.now
body_of (End answer) = SaysEnd answer

-- what a line says
abbrev pub said_of : LentSaid → Said
said_of said = record { number = said.number.now; body = body_of said.body }

-- what is named
abbrev pub named_of : LentNamed → Named
named_of (LentTold entry run) = Told entry run
named_of (LentResult device place value old) = Result device place value.now (lent old)
