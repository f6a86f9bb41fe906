use Rattle.std.proofs.Common.{refl, inl}
use Rattle.golog_commands.proofs.OutcomeLemmas.{too-long}
use Rattle.golog_commands.proofs.ready.bytes_in.Goals as goal

pub returns-in-Err-Failed-clause-unready : goal.returns-in-Err-Failed-clause-unready
returns-in-Err-Failed-clause-unready g c = inl (refl, c.in-Err-Failed.ensures.failed (cc))

pub returns-in-Err-TooLong-clause-unready : goal.returns-in-Err-TooLong-clause-unready
returns-in-Err-TooLong-clause-unready g c =
    too-long c.args.input (g.F.Files.held c.args.files.now) c.args.name.now (g.F.Files.faults c.args.files.now) (g.F.Files.faults c.read_all.new.files)
    c.limit-limit.result c.refused.result c.limit-limit.ensures (c.in-Err-TooLong.ensures.too_long (cc)) c.refused.ensures
