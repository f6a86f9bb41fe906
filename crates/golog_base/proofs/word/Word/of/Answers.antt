use Rattle.std.proofs.Common.{rules, IsTrue, ◌≤◌, length, arith}
use Rattle.golog_base.specs.Names.{is_name}
use Rattle.golog_base.proofs.WordLemmas.{padded-name}
use Rattle.golog_base.proofs.word.Word.of.Goals as goal

pub invariant_of-result : goal.invariant_of-result
invariant_of-result c =
    let short : length c.args.bytes.now ≤ 31 = omega arith in
    let named : IsTrue (is_name c.args.bytes.now) = search rules in
    rw c.copy_from_slice.ensures.after (padded-name c.args.bytes.now named short)
