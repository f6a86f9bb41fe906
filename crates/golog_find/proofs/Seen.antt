-- The levels of a search in one go, and what a search has seen that looked as far as one of them.
use Rattle.std.proofs.Common.{◌≡◌, ℕ, zero, suc, ◌+◌, Bool, false, ◌||◌, List, [], ◌∷◌, length}
use Rattle.std.specs.Prelude.{reverse}
use Rattle.golog_tree.specs.declared.agent.Agent.{Agent}
use Rattle.golog_tree.specs.declared.prog.Prog.{Prog}
use Rattle.golog_semantics.specs.declared.Mode.{Mode}
use Rattle.golog_semantics.specs.Truth.{Values}
use Rattle.golog_find.specs.Levels.{Looked, Reached, next_level, start_of}

module _ (agent : Agent) (m : Mode) (p : Prog) (values : Values) where
  -- the states that so many steps lead to
  abbrev pub level_at : ℕ → List Reached
  level_at zero = start_of p values ∷ []
  level_at (suc n) = (next_level agent m (level_at n)).states

  -- the levels before this one, the last of them first
  abbrev pub levels_before : ℕ → List (List Reached)
  levels_before zero = []
  levels_before (suc n) = level_at n ∷ levels_before n

  -- some step of the levels before this one is not followed
  abbrev pub cut_before : ℕ → Bool
  cut_before zero = false
  cut_before (suc n) = cut_before n || (next_level agent m (level_at n)).cut

  -- how many states stand in the levels before this one
  abbrev pub count_before : ℕ → ℕ
  count_before zero = 0
  count_before (suc n) = count_before n + length (level_at n)

  -- what a search has seen that looked as far as so many steps
  pub record HasSeen (n : ℕ) (search : Looked) : Type 0 where
    pub before : reverse search.before ≡ levels_before n
    pub last : search.last ≡ level_at n
    pub cut : search.cut ≡ cut_before n
