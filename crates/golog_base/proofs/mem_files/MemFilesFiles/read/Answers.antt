use Rattle.std.proofs.Common.{arith, ◌≡◌, ap, Some, length, drop}
use Rattle.std.proofs.lemmas.Grind.{common_steps}
use Rattle.golog_base.specs.MemFiles.{bytes_at}
use Rattle.golog_base.proofs.MemFilesLemmas.{moved}
use Rattle.golog_base.proofs.mem_files.MemFilesFiles.read.Goals as goal

pub returns-clause-moved : goal.returns-clause-moved
returns-clause-moved c =
    let held = c.args.self.now.held in
    let left : drop c.in-Some.reading.at (bytes_at held c.in-Some.reading.file) ≡ c.unread-left.result.now = grind (arith, common_steps) in
    let full : length c.copy_from_slice.new.self ≡ c.min-count.result = grind (arith, common_steps) in
    rw c.in-Some.is
    (ap Some (moved c.in-Some.reading.at c.min-count.result c.unread-left.result.now _ c.copy_from_slice.new.self _ left c.copy_from_slice.ensures.after full))
