-- What two results come to.
use Rattle.std.specs.Prelude.{Result, Ok, Err}

-- both values, or the first error
abbrev pub both : {A B E : Type 0} → Result A E → Result B E → Result (A × B) E
both (Ok one) (Ok other) = Ok (one, other)
both (Ok one) (Err error) = Err error
both (Err error) other = Err error
