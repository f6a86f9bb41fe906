-- What a file owes of programs, and how many procedures it may declare.
use Rattle.std.specs.Prelude.{ℕ}

-- the code of a file of which no item is `main`
abbrev pub NO_MAIN : ℕ
NO_MAIN = 27

-- the most procedures
abbrev pub PROCEDURES : ℕ
PROCEDURES = 256
