use Rattle.std.proofs.Common.{string_bytes}
use Rattle.golog_words.proofs.Orders.{names_one}
use Rattle.golog_words.proofs.reading.read.Goals as goal

pub unreachable-requires-in_default-as_str : goal.unreachable-requires-in_default-as_str
unreachable-requires-in_default-as_str c =
    let no = c.in_default-as_str in
    names_one string_bytes c.args.words.now c.first-item.result c.as_str.result.now c.in-len1-up.len_at_least c.first-item.is
    c.as_str.ensures.value c.requires no.not-run no.not-check no.not-replay no.not-ask
    no.not-migrate no.not-demo no.not-team no.not-plan
