use Rattle.std.proofs.Common.{◌+◌}
use Rattle.std.proofs.lemmas.Result.{err_from_is_err_and}
use Rattle.golog_base.proofs.KnownLemmas.{takes-more, by-fault}
use Rattle.golog_base.proofs.files.read_rest.Goals as goal

pub returns-in_err-read_some-clause-at_most : goal.returns-in_err-read_some-clause-at_most
returns-in_err-read_some-clause-at_most g c =
    let p = err_from_is_err_and c.from_residual.result c.from_residual.ensures.1 in
    let so_far = c.loop-files.invariant in
    let more = takes-more (c.args.limit + 1) c.loop-files.bytes _ _ (g.F.Files.rest c.read_some.new.files) so_far.0 so_far.1 in
    rw (p.1, p.2) (by-fault c.in_err-read_some.field-0.0 _ c.in_err-read_some.ensures.not_long (λ e. more (c.in_err-read_some.ensures.at_most e)))
