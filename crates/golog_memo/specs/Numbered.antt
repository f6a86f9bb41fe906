-- Programs by their numbers.
use Rattle.std.specs.Prelude.{◌≡◌, ℕ, Bool, ◌⊎◌, ◌++◌, [], ◌∷◌, List, Option, Some, slice_get}
use Rattle.std.specs.HashMap.{HashMap, get_by}
use Rattle.golog_tree.specs.declared.prog.Prog.{Prog}
use Rattle.golog_tree.specs.contracts.prog.ProgPartialEq.TheImpl as derived

-- each program stands at one place: equal numbers are those of equal programs, and others of others
pub record AreOnce (progs : List Prog) : Type 0 where
  pub place : (i j : ℕ) (prog : Prog) → slice_get progs i ≡ Some prog → slice_get progs j ≡ Some prog → i ≡ j

-- the same programs, or this one behind them
abbrev pub IsAddedTo : List Prog → Prog → List Prog → Type 0
IsAddedTo progs prog more = (more ≡ progs) ⊎ (more ≡ progs ++ prog ∷ [])

-- `==` of programs
abbrev pub same : Prog → Prog → Bool
same = (derived.ghosts).eq

-- the number of a program, where it has one
abbrev pub number_in : {S : Type 0} → HashMap Prog ℕ S → Prog → Option ℕ
number_in numbers prog = get_by (same prog) numbers

-- the number of each program is its place, and no other program has a number
pub record AreNumbered {S : Type 0} (progs : List Prog) (numbers : HashMap Prog ℕ S) : Type 0 where
  pub has : (prog : Prog) (i : ℕ) → slice_get progs i ≡ Some prog → number_in numbers prog ≡ Some i
  pub only : (prog : Prog) (i : ℕ) → number_in numbers prog ≡ Some i → slice_get progs i ≡ Some prog
