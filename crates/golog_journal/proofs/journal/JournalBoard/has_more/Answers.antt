use Rattle.std.proofs.Common.{[], refl, sym, ap}
use Rattle.std.specs.Prelude.{nat_lt}
use Rattle.std.proofs.lemmas.List.{append-nil}
use Rattle.golog_journal.proofs.Alone.{called}
use Rattle.golog_journal.proofs.journal.JournalBoard.has_more.Goals as goal

pub returns : goal.returns
returns c =
    called _ _ _ [] refl refl refl (sym (append-nil c.args.self.now.entries))
    (record { none = refl; answer = ap (nat_lt c.args.since) c.len.ensures.number })
    c.keeps_rules.ensures.lawful c.keeps_rules.ensures.short
