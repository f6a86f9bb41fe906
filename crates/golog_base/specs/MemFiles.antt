-- Files in memory.
use Rattle.std.specs.Prelude.{ℕ, Bool, List, [], Option, None, Some, is_some, drop, slice_get}
use Rattle.golog_base.specs.declared.failures.Failures.{Failures}
use Rattle.golog_base.specs.declared.mem_files.HeldFile.{HeldFile}
use Rattle.golog_base.specs.declared.mem_files.Reading.{Reading}
use Rattle.golog_base.specs.declared.mem_files.MemFiles.{MemFiles}

-- the bytes of the file of this number
abbrev pub bytes_at : List HeldFile → ℕ → List ℕ
bytes_at files n = elim (slice_get files n) [ Some file ↦ file.bytes | None ↦ [] ]

-- the bytes from a place on
abbrev pub bytes_left : List HeldFile → Option Reading → Option (List ℕ)
bytes_left files None = None
bytes_left files (Some reading) = Some (drop reading.at (bytes_at files reading.file))

-- The files held, the unread bytes of the selected one, whether one is selected, the faults so far, and the calls
-- that are to fail.
abbrev pub held_of : MemFiles → List HeldFile
held_of files = files.held

abbrev pub rest_of : MemFiles → Option (List ℕ)
rest_of files = bytes_left files.held files.reading

abbrev pub selects : MemFiles → Bool
selects files = is_some files.reading

abbrev pub faults_of : MemFiles → ℕ
faults_of files = files.faults

abbrev pub failures_of : MemFiles → Failures
failures_of files = files.failures
