-- How many devices there are.
use Rattle.std.specs.Prelude.{ℕ}

-- the most devices of an agent
abbrev pub DEVICES : ℕ
DEVICES = 16
