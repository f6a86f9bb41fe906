use Rattle.std.proofs.Common.{sym, subst}
use Rattle.std.specs.Prelude.{IfSome}
use Rattle.golog_text.specs.Named.{AreLabels}
use Rattle.golog_text.proofs.Things.{run_named}
use Rattle.golog_trace.proofs.entries.add_line.Goals as goal

pub try_fill-requires-clause-labels : goal.try_fill-requires-clause-labels
try_fill-requires-clause-labels c =
    let agent = c.args.agent.now in
    subst (λ run. IfSome run (AreLabels agent)) (sym c.run_here-run.ensures) (run_named agent c.args.here.now.runs.now c.requires.runs c.args.here.now.place)
