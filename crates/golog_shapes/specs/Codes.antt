-- The codes of refusals of a program by its shape: 32, 33, 37 and 38.
use Rattle.std.specs.Prelude.{ℕ}

-- a procedure reaches itself without a step
abbrev pub UNGUARDED : ℕ
UNGUARDED = 32

-- the program of a search block has a search block, or calls a procedure that has one
abbrev pub NESTED_SEARCH : ℕ
NESTED_SEARCH = 33

-- the depth or the fuel of a search block is out of its range
abbrev pub SEARCH_NUMBERS : ℕ
SEARCH_NUMBERS = 37

-- the program of `main`, or a procedure with what it calls without a step, nests too deep
abbrev pub FRONT_DEEP : ℕ
FRONT_DEEP = 38
