-- What is said round by round.
use Rattle.std.specs.Prelude.{ℕ, zero, suc}

-- after so many rounds
abbrev pub rounds_of : {A : Type 0} → (A → A) → ℕ → A → A
rounds_of round zero said = said
rounds_of round (suc count) said = round (rounds_of round count said)
