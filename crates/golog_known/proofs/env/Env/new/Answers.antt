use Rattle.std.proofs.Common.{refl}
use Rattle.golog_semantics.specs.Truth.{env_of}
use Rattle.golog_known.proofs.env.Env.new.Goals as goal

pub returns : goal.returns
unfolding env_of
returns c = refl
