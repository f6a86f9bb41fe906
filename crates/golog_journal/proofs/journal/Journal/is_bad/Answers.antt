use Rattle.std.proofs.Common.{arith}
use Rattle.golog_journal.proofs.journal.Journal.is_bad.Goals as goal

pub may_post-requires : goal.may_post-requires
may_post-requires c =
    let few = c.keeps_rules.ensures.serves.few in
    let own = c.requires in
    omega (arith, few, own)
