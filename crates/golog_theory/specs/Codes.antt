-- The codes of refusals of theories, conditions and programs, 20 to 26.
use Rattle.std.specs.Prelude.{ℕ}

-- a form has not a shape of the grammar for its place
abbrev pub UNKNOWN_FORM : ℕ
UNKNOWN_FORM = 20

-- a name is reserved or declared already, a word is repeated, or an item stands a second time
abbrev pub DUPLICATE : ℕ
DUPLICATE = 21

-- the name of a sort is not declared
abbrev pub UNKNOWN_SORT : ℕ
UNKNOWN_SORT = 22

-- a name is not declared as what its place needs
abbrev pub UNKNOWN_NAME : ℕ
UNKNOWN_NAME = 23

-- the number of arguments differs from the declared one
abbrev pub ARITY : ℕ
ARITY = 24

-- a limit on a number of things is passed
abbrev pub COUNT : ℕ
COUNT = 25

-- a number is no `i32`, or the least number of a sort is above its greatest
abbrev pub NUMBER_RANGE : ℕ
NUMBER_RANGE = 26
