use Rattle.std.proofs.Common.{◌≡◌, ◌-◌, ◌≤◌, true, length}
use Rattle.golog_base.specs.Known.{bytes_and_then}
use Rattle.golog_base.proofs.files.read_rest.Given as goal

abbrev pub invariant-loop-files : goal.invariant-loop-files
invariant-loop-files g l =
    (bytes_and_then l.bytes (g.F.Files.rest l.files) ≡ g.F.Files.rest l.initial.files)
    × (length l.bytes ≤ l.most)
    × (g.F.Files.held l.files ≡ g.F.Files.held l.initial.files)
    × (g.F.Files.faults l.initial.files ≤ g.F.Files.faults l.files)
    × (g.F.Files.selected l.files ≡ true)

abbrev pub decreases-loop-files : goal.decreases-loop-files
decreases-loop-files g l = l.most - length l.bytes
