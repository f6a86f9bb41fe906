use Rattle.std.proofs.Common.{Err, subst}
use Rattle.golog_file.specs.declared.fault.AgentFault.{AgentFault}
use Rattle.golog_file.specs.Spelled.{ReadsWith, IsFirstRefusal}
use Rattle.golog_commands.proofs.OutcomeLemmas.{agent-bytes, refused-so}
use Rattle.golog_commands.proofs.ready.understood_as.Goals as goal

pub returns-in-Ok-read_theory_and_agent-clause-reads : goal.returns-in-Ok-read_theory_and_agent-clause-reads
returns-in-Ok-read_theory_and_agent-clause-reads g c =
    record { bytes = c.in-Ok.bytes; has = c.in-Ok.ensures.read; so = rw c.as_slice.ensures at c.in-Ok-read_theory_and_agent.ensures.answer }

pub returns-in-Err-Refused-clause-unready : goal.returns-in-Err-Refused-clause-unready
returns-in-Err-Refused-clause-unready g c =
    refused-so c.args.input (g.F.Files.held c.args.files.now) c.args.name.now (g.F.Files.faults c.args.files.now) (g.F.Files.faults c.bytes_in.new.files) IsFirstRefusal
    c.refused.result c.in-Ok.bytes c.in-Err-Refused.code c.in-Err-Refused.at c.in-Ok.ensures.read
    (rw c.as_slice.ensures at (subst {A = AgentFault} (λ fault. ReadsWith (Err fault) c.as_slice.result.now) c.in-Err-Refused.field-0-is c.in-Err-Refused.ensures.answer))
    c.refused.ensures

pub returns-in-Err-clause-unready : goal.returns-in-Err-clause-unready
returns-in-Err-clause-unready g c =
    agent-bytes c.args.input (g.F.Files.held c.args.files.now) c.args.name.now (g.F.Files.faults c.args.files.now) (g.F.Files.faults c.bytes_in.new.files) c.in-Err.unready c.requires
    c.in-Err.ensures.unready
