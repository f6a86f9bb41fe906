-- How deep programs nest.
use Rattle.std.specs.Prelude.{ℕ}

-- the deepest front nest of a procedure
abbrev pub PROC_NEST : ℕ
PROC_NEST = 1024

-- nests of procedures are told up to this one, which is too deep
abbrev pub told_nest : ℕ
told_nest = 1025

-- the deepest nest of the program of `main`
abbrev pub MAIN_NEST : ℕ
MAIN_NEST = 3072
