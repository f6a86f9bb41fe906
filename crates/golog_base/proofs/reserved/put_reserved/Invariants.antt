use Rattle.std.proofs.Common.{◌≡◌, ◌++◌, take, vec_capacity}
use Rattle.golog_base.proofs.reserved.put_reserved.Given as goal

abbrev pub invariant-loop-byte : goal.invariant-loop-byte
invariant-loop-byte l =
    (l.buffer.items ≡ l.initial.buffer.items ++ take l.byte-index l.bytes)
    × (vec_capacity l.buffer ≡ vec_capacity l.initial.buffer)
