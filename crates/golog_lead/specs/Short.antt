-- Ends that come early: for want of memory, or of fuel.
use Rattle.std.specs.Prelude.{◌≡◌, ◌⊎◌, [], ◌∷◌, ◌++◌}
use Rattle.golog_semantics.specs.declared.journal.Entry.TheVariants.{End}
use Rattle.golog_semantics.specs.declared.journal.Answer.{Answer}
use Rattle.golog_semantics.specs.declared.journal.Answer.TheVariants.{Fuel, Memory}
use Rattle.golog_semantics.specs.Journal.{Journal}

-- memory was wanted, or the fuel of a search block
abbrev pub IsShort : Answer → Type 0
IsShort answer = (answer ≡ Memory) ⊎ (answer ≡ Fuel)

-- the program has ended early behind these entries, with such an answer
pub record EndsShort (early : Answer → Type 0) (old new : Journal) : Type 0 where
  pub answer : Answer
  pub short : early answer
  pub is : new ≡ old ++ End answer ∷ []
