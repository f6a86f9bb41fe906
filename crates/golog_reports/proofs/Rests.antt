-- What stands from a place on is the whole rest.
use Rattle.std.proofs.Common.{◌≡◌, ℕ, ◌-◌, length, take, drop, length-drop, arith}
use Rattle.std.proofs.lemmas.List.{take_all}
use Rattle.golog_semantics.specs.Text.{Text}

pub rest-whole : (n : ℕ) (bytes : Text) → take (length bytes - n) (drop n bytes) ≡ drop n bytes
rest-whole n bytes = take_all (length bytes - n) (drop n bytes) (omega (arith, length-drop n bytes))
