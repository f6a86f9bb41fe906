use Rattle.golog_certain.proofs.JournalSo.{journal_so}
use Rattle.golog_certain.proofs.worlds.journals_are_so.Goals as goal

pub returns : goal.returns
returns c = λ agent w report h. journal_so agent w report h
