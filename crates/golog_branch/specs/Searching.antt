-- What a search for a plan has seen.
use Rattle.std.specs.Prelude.{◌≡◌, ◌<◌, ℕ, suc, Bool, true, false, [], ◌∷◌, length}
use Rattle.golog_tree.specs.declared.agent.Agent.{Agent}
use Rattle.golog_tree.specs.declared.prog.Prog.{Prog}
use Rattle.golog_semantics.specs.Truth.{Values}
use Rattle.golog_branch.specs.declared.search.Search.{Search}
use Rattle.golog_branch.specs.Levels.{AreLevels, states_of}
use Rattle.golog_branch.specs.Plans.{plan_level}

module _ (agent : Agent) (p : Prog) (values : Values) where
  -- the search has looked as far as so many steps
  pub record IsSearch (n : ℕ) (search : Search) : Type 0 where
    pub levels : AreLevels agent ((p, values) ∷ []) search.levels search.last
    pub count : length search.levels ≡ n
    pub last : states_of search.last ≡ plan_level agent p values n

  -- it has looked one step further, or that level has more states than there is room for
  abbrev pub LooksFurther : ℕ → ℕ → Search → Bool → Type 0
  LooksFurther n room search true = IsSearch (suc n) search
  LooksFurther n room search false = room < length (plan_level agent p values (suc n))
