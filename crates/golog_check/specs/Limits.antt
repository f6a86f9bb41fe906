-- How many ground things there are.
use Rattle.std.specs.Prelude.{ℕ}

-- the most ground fluents, those built in among them
abbrev pub GROUND_FLUENTS : ℕ
GROUND_FLUENTS = 4096

-- the most ground actions, those built in among them
abbrev pub GROUND_ACTIONS : ℕ
GROUND_ACTIONS = 65536
