-- The codes of refusals of a draft that aren't for its programs' shape alone: 30, 31 and 34 to 36.
use Rattle.std.specs.Prelude.{ℕ}

-- a term is not of the sort that its place needs
abbrev pub SORT_CLASH : ℕ
SORT_CLASH = 30

-- a word in the place of a term is neither a variable nor a constant
abbrev pub UNBOUND : ℕ
UNBOUND = 31

-- the sum of ground fluents or of ground actions passes its limit
abbrev pub GROUND_TOO_MANY : ℕ
GROUND_TOO_MANY = 34

-- a start value is not of its fluent's sort
abbrev pub BAD_START : ℕ
BAD_START = 35

-- an action senses a second time, or has no device, or is exogenous
abbrev pub SENSE_CLASH : ℕ
SENSE_CLASH = 36
