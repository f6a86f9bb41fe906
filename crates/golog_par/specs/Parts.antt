-- Lists that are made in parts.
use Rattle.std.specs.Prelude.{◌≡◌, List, ◌++◌, Result, Ok, Err}

-- no part was refused, and what they have stands in the whole, one part behind the other
abbrev pub IsJoined : {Y E : Type 0} → Result (List Y) E → Result (List Y) E → List Y → Type 0
IsJoined (Ok xs) (Ok ys) whole = whole ≡ xs ++ ys
IsJoined (Ok xs) (Err e) whole = ⊥
IsJoined (Err e) rest whole = ⊥
