use Rattle.std.proofs.lemmas.List.{take_rest, drop_min}
use Rattle.golog_base.proofs.MemFilesLemmas.{bytes_at-found}
use Rattle.golog_base.proofs.mem_files.unread.Goals as goal

pub returns-in-Some-clause-left : goal.returns-in-Some-clause-left
returns-in-Some-clause-left c =
    let found = c.in-Some.ensures.lookup in
    rw (take_rest, c.min.ensures, c.as_slice-bytes.ensures, drop_min, bytes_at-found c.args.held.now c.args.reading.file c.in-Some.file.now found.3.0 found.1)
