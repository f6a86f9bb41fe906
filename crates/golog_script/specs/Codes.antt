-- The codes of refusals of a devices file, 40 to 44.
use Rattle.std.specs.Prelude.{ℕ}

-- the bytes are no JSON
abbrev pub NOT_JSON : ℕ
NOT_JSON = 40

-- the value is no array, or an element is no object with a string `name` and, where present, arrays of strings
-- `answers` and `idle`
abbrev pub SHAPE : ℕ
SHAPE = 41

-- there are more elements than an agent has devices
abbrev pub TOO_MANY : ℕ
TOO_MANY = 42

-- the name is no device of the agent
abbrev pub NO_DEVICE : ℕ
NO_DEVICE = 43

-- an earlier element has the name
abbrev pub SAME_NAME : ℕ
SAME_NAME = 44
