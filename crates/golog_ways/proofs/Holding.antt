-- What is not even possible is false.
use Rattle.std.proofs.Common.{◌≡◌, false, refl}
use Rattle.golog_tree.specs.declared.cond.Truth.{Truth}
use Rattle.golog_tree.specs.declared.cond.Truth.TheVariants.{Yes, No, Unknown}
use Rattle.golog_semantics.specs.declared.Mode.TheVariants.{May}
use Rattle.golog_semantics.specs.Modes.{holds}

pub is-No : (t : Truth) → holds May t ≡ false → t ≡ No
is-No Yes e = absurd (cc)
is-No No e = refl
is-No Unknown e = absurd (cc)
