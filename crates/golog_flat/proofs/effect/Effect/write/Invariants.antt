use Rattle.std.proofs.Common.{◌≡◌, length, take}
use Rattle.golog_flat.specs.Effects.{with_writes}
use Rattle.golog_flat.proofs.effect.Effect.write.Given as goal

abbrev pub invariant-loop-write : goal.invariant-loop-write
invariant-loop-write l = record {
  values : l.state ≡ with_writes l.fn.state (take l.write-index l.writes);
  whole : length l.state ≡ length l.fn.state;
}
