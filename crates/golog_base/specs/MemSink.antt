-- A sink in memory.
use Rattle.std.specs.Prelude.{◌-◌, ℕ, List, length}
use Rattle.golog_base.specs.declared.failures.Failures.{Failures}
use Rattle.golog_base.specs.declared.mem_sink.MemSink.{MemSink}

-- the bytes taken, the room for bytes in all, the faults so far, and the calls that are to fail
abbrev pub taken_of : MemSink → List ℕ
taken_of sink = sink.taken.items

abbrev pub room_of : MemSink → ℕ
room_of sink = sink.room

abbrev pub faults_of : MemSink → ℕ
faults_of sink = sink.faults

abbrev pub failures_of : MemSink → Failures
failures_of sink = sink.failures

-- how many more bytes fit
abbrev pub room_left : MemSink → ℕ
room_left sink = room_of sink - length (taken_of sink)
