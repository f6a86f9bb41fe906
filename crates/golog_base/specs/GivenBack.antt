-- A word is given back by its bytes: what copies words rests on it.
use Rattle.std.proofs.Common.{◌≡◌, ℕ, ◌-◌, List, ◌++◌, length, take, replicate, take-append-drop, length-take-le, arith}
use Rattle.golog_base.specs.Names.{HoldsWord}

pub length-back : (bytes : List ℕ) (count : ℕ) → HoldsWord bytes count → length (take count bytes) ≡ count
length-back bytes count holds = length-take-le count bytes (omega (arith, holds.fits, holds.full))

pub bytes-back : (bytes : List ℕ) (count : ℕ) → HoldsWord bytes count
    → take count bytes ++ replicate (31 - length (take count bytes)) 0 ≡ bytes
bytes-back bytes count holds =
    rw (length-back bytes count holds, ← holds.padded) (take-append-drop count bytes)
