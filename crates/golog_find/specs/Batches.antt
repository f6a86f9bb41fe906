-- What a search is told of the states of a batch: the steps of those of whose programs nothing is kept, and of each the
-- kept steps that may be taken. All of it is this project's own.
use Rattle.std.specs.Prelude.{◌≡◌, ℕ, ◌<◌, List, [], IfSome, length, MatchOption, Some, filter, is_none, map, slice_get}
use Rattle.std.specs.Option.{option_copied, option_map_or}
use Rattle.golog_tree.specs.declared.agent.Agent.{Agent}
use Rattle.golog_tree.specs.declared.prog.Prog.{Prog}
use Rattle.golog_tree.specs.declared.prog.Way.{Way}
use Rattle.golog_semantics.specs.declared.Mode.{Mode}
use Rattle.golog_semantics.specs.Search.{plain_ways}
use Rattle.golog_ways.specs.declared.expand.Node.{Node}
use Rattle.golog_ways.specs.declared.expand.NumberedFront.{NumberedFront}
use Rattle.golog_ways.specs.Open.{open_places}
use Rattle.golog_ways.specs.Searched.{IsSearched}
use Rattle.golog_find.specs.declared.numbered.Numbered.{Numbered}
use Rattle.golog_find.specs.declared.sources.Source.{Source}
use Rattle.golog_find.specs.declared.sources.Told.{Told}
use Rattle.golog_find.specs.declared.sources.Turn.{Turn}
use Rattle.golog_find.specs.declared.visits.Opened.{Opened}
use Rattle.golog_find.specs.Levels.{Reached}
use Rattle.golog_find.specs.Numbers.{meant}
use Rattle.golog_find.specs.Rows.{lent}
use Rattle.golog_find.specs.Visits.{IsKeptOf, prog_at}

-- the state
abbrev pub reached_of : Source → Numbered
reached_of s = lent s.reached

-- the state that stands for it
abbrev pub source_meant : List Prog → Source → Reached
source_meant progs s = meant progs (reached_of s)

-- those of whose programs nothing is kept
abbrev pub handed : List Source → List Source
handed sources = filter (λ s. is_none s.opened) sources

-- the steps that are kept of its program
abbrev pub fronts_of : Source → List NumberedFront
fronts_of s = option_map_or (λ (o : Opened). o.fronts) (option_copied s.opened) []

-- its program and its values
abbrev pub node_at : List Prog → Source → Node
node_at progs s = record { left = prog_at progs s.reached.left; state = s.reached.values.now }

module _ (agent : Agent) (m : Mode) where
  -- the steps of its program at its values
  abbrev pub ways_at : List Prog → Source → List Way
  ways_at progs s = plain_ways agent s.reached.values.now m (prog_at progs s.reached.left)

  -- the places of the kept steps that may be taken at its values
  abbrev pub places_at : Source → List ℕ
  places_at s = open_places agent s.reached.values.now m (map (λ f. f.cond) (fronts_of s))

  -- where something is kept of its program, the places of the steps that may be taken stand where it has its turn, and
  -- else the steps
  abbrev pub IsToldOf : List Prog → Source → Told → Turn → Type 0
  IsToldOf progs s told turn = MatchOption s.opened (slice_get told.listed turn.used ≡ Some (ways_at progs s))
      (λ o. slice_get told.places turn.at ≡ Some (open_places agent s.reached.values.now m (map (λ f. f.cond) o.now.fronts)))

-- the state has the number of a program, which a search may reach with its values, and what is kept is of that program
pub record IsSource (agent : Agent) (progs : List Prog) (s : Source) : Type 0 where
  pub number : s.reached.left < length progs
  pub searched : IsSearched agent (prog_at progs s.reached.left) s.reached.values.now
  pub kept : IfSome s.opened (λ o. IsKeptOf agent progs s.reached.left o.now)
