-- Worlds, in which every ground fluent has a constant of its sort.
use Rattle.std.specs.Prelude.{◌≡◌, ℕ, ◌<◌, IsTrue, ⊤, [], ◌∷◌, length, fold, slice_index}
use Rattle.golog_tree.specs.declared.agent.Agent.{Agent}
use Rattle.golog_semantics.specs.declared.journal.Entry.{Entry}
use Rattle.golog_semantics.specs.declared.journal.Entry.TheVariants.{Sense}
use Rattle.golog_tree.specs.Ground.{sort_size}
use Rattle.golog_semantics.specs.Truth.{Values, is_known}
use Rattle.golog_semantics.specs.Values.{ground_fluents, fluent_sort}
use Rattle.golog_semantics.specs.Journal.{Journal}
use Rattle.golog_semantics.specs.Progress.{after_entry}

-- each ground fluent has a constant of its sort
pub record IsComplete (agent : Agent) (values : Values) : Type 0 where
  pub whole : length values ≡ length (ground_fluents agent)
  pub known : (f : ℕ) → f < length values → slice_index values f < sort_size agent (fluent_sort agent f)

-- the new values equal the old ones wherever those are known
pub record Refines (old new : Values) : Type 0 where
  pub whole : length new ≡ length old
  pub same : (f : ℕ) → IsTrue (is_known (slice_index old f)) → slice_index new f ≡ slice_index old f

-- a world in which all is so that is known
pub record Completes (agent : Agent) (values world : Values) : Type 0 where
  pub complete : IsComplete agent world
  pub refines : Refines values world

-- a world by its values at the start, the known ones among them
abbrev pub IsWorld : Agent → Values → Type 0
IsWorld agent world = Completes agent agent.starts world

module _ (agent : Agent) where
  -- a result changes nothing in a world
  abbrev pub world_entry : Values → Entry → Values
  world_entry world (Sense poster place fluent value) = world
  world_entry world e = after_entry agent world e

  -- the world after these entries
  abbrev pub world_after : Values → Journal → Values
  world_after world journal = fold world_entry world journal

  -- a result shows the world's value
  abbrev pub Shows : Values → Entry → Type 0
  Shows world (Sense poster place fluent value) = slice_index world fluent ≡ value
  Shows world e = ⊤

  -- each result shows the world's value at its place
  abbrev pub Agrees : Values → Journal → Type 0
  Agrees world [] = ⊤
  Agrees world (e ∷ entries) = Shows world e × Agrees (world_entry world e) entries
