use Rattle.std.proofs.Common.{◌∙◌, sym, subst}
use Rattle.golog_semantics.specs.Reports.{IsReport}
use Rattle.golog_commands.proofs.FromStarts.{migrated-first, migrated-same, written-out}
use Rattle.golog_commands.proofs.starts.put_start.Goals as goal

pub returns-then-is_some-clause-start : goal.returns-then-is_some-clause-start
returns-then-is_some-clause-start c = migrated-same c.args.agent.now c.args.report.now (sym c.is_some.ensures ∙ c.if-is_some.true)

pub returns-clause-start : goal.returns-clause-start
returns-clause-start c =
    migrated-first c.args.agent.now c.args.report.now c.in_ok-values.values (sym c.is_some.ensures ∙ c.if-is_some.false)
    (rw c.as_slice.ensures at c.in_ok-values.ensures)

pub returns-clause-fits : goal.returns-clause-fits
returns-clause-fits c =
    subst (IsReport c.args.agent.now) (sym (returns-clause-start c)) (written-out c.args.agent.now c.requires.formed c.args.report.now c.requires.fits)
