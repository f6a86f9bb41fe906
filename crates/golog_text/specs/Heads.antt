-- The lines of a head.
use Rattle.std.specs.Prelude.{ℕ, List, map}
use Rattle.std.specs.List.{enumerate_from, flat_map}
use Rattle.golog_tree.specs.declared.agent.Agent.{Agent}
use Rattle.golog_semantics.specs.Text.{Text, start_line, with_line_feed}
use Rattle.golog_semantics.specs.Truth.{Values}

-- the lines of these values, each with its line feed
unfoldable pub start_lines : Agent → Values → Text
start_lines agent values = flat_map (with_line_feed agent) (map (start_line agent) (enumerate_from 0 values))
