-- The codes of refusals of a journal's text, 50 to 54.
use Rattle.std.specs.Prelude.{ℕ}

-- the line has no body of the table, names and numbers left open, or lacks its line feed
abbrev pub NO_BODY : ℕ
NO_BODY = 50

-- the line's number is not its place, or a number in it is above the greatest
abbrev pub MISPLACED : ℕ
MISPLACED = 51

-- a name, a constant or an action is not the agent's, or not for its place
abbrev pub NOT_OWN : ℕ
NOT_OWN = 52

-- a result is of no earlier command of its device, or a value not of the fluent's sort
abbrev pub NO_RESULT : ℕ
NO_RESULT = 53

-- a line of the head is missing, or is not the one that stands there
abbrev pub HEAD : ℕ
HEAD = 54
