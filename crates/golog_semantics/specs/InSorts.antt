-- Values in their sorts.
use Rattle.std.specs.Prelude.{◌≡◌, ℕ, ◌<◌, IsTrue, nat_lt, ◌==◌, ◌||◌, length, slice_index}
use Rattle.golog_tree.specs.declared.agent.Agent.{Agent}
use Rattle.golog_tree.specs.Ground.{sort_size, ground_fluents}
use Rattle.golog_semantics.specs.Truth.{Values, unknown}
use Rattle.golog_semantics.specs.Values.{fluent_sort}

module _ (agent : Agent) where
  -- a constant of the sort, or unknown
  abbrev pub IsOf : ℕ → ℕ → Type 0
  IsOf sort v = IsTrue (nat_lt v (sort_size agent sort) || v == unknown)

  -- one value for each ground fluent, of its sort or unknown
  pub record AreInSorts (values : Values) : Type 0 where
    pub whole : length values ≡ length (ground_fluents agent)
    pub sorted : (f : ℕ) → f < length values → IsOf (fluent_sort agent f) (slice_index values f)
