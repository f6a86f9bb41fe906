-- How many things of each kind a file may declare.
use Rattle.std.specs.Prelude.{ℕ}

-- the most sorts, `bool` among them
abbrev pub SORTS : ℕ
SORTS = 64

-- the most constants of a sort
abbrev pub CONSTANTS : ℕ
CONSTANTS = 255

-- the most arguments of a fluent, an action or a procedure
abbrev pub ARGUMENTS : ℕ
ARGUMENTS = 3

-- the most variables in scope
abbrev pub VARIABLES : ℕ
VARIABLES = 32

-- the most `causes` items of a file
abbrev pub CAUSES : ℕ
CAUSES = 1024

-- the most devices
abbrev pub DEVICES : ℕ
DEVICES = 16

-- the most bytes of a name
abbrev pub NAME_BYTES : ℕ
NAME_BYTES = 31

-- how many actions are built in, and how many effects, one of each
abbrev pub BUILT_IN : ℕ
BUILT_IN = 2
