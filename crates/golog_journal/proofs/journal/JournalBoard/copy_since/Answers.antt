use Rattle.std.proofs.Common.{[], refl, sym}
use Rattle.std.proofs.lemmas.List.{append-nil}
use Rattle.golog_journal.proofs.Alone.{called}
use Rattle.golog_journal.proofs.journal.JournalBoard.copy_since.Goals as goal

pub returns : goal.returns
returns c =
    called _ _ _ [] refl refl refl (sym (append-nil c.args.self.now.entries))
    (record { none = refl; count = c.batch.ensures.count; entries = c.batch.ensures.entries; length = c.batch.ensures.length })
    c.keeps_rules.ensures.lawful c.keeps_rules.ensures.short
