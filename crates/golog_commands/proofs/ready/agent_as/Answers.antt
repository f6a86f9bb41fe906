use Rattle.std.proofs.Common.{sym, subst}
use Rattle.golog_semantics.specs.WellFormed.{WellFormed}
use Rattle.golog_file.proofs.Answers.{without-theory}
use Rattle.golog_commands.specs.Inputs.{ReadsAgent}
use Rattle.golog_commands.proofs.ready.agent_as.Goals as goal

pub returns-in-Ok-clause-formed : goal.returns-in-Ok-clause-formed
returns-in-Ok-clause-formed g c = subst WellFormed (sym c.without_theory.ensures) c.in-Ok.ensures.formed

pub returns-in-Ok-clause-reads : goal.returns-in-Ok-clause-reads
returns-in-Ok-clause-reads g c =
    let u = c.in-Ok.understood in
    let reads = c.in-Ok.ensures.reads in
    subst (ReadsAgent (g.F.Files.held c.args.files.now) c.args.name.now) (sym c.without_theory.ensures)
    (record { bytes = reads.bytes; has = reads.has; so = without-theory reads.bytes u.theory u.agent reads.so })
