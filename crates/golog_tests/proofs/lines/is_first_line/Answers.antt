use Rattle.std.proofs.Common.{◌≡◌, Some, sym, ap, ◌∙◌, subst}
use Rattle.std.specs.Prelude.{IfSome, slice_get}
use Rattle.std.proofs.lemmas.Option.{slice_get_within, get_or_from_slice_get}
use Rattle.golog_semantics.specs.Text.{run_at}
use Rattle.golog_text.specs.Named.{AreFrom, AreLabels, IsNamed}
use Rattle.golog_text.proofs.Things.{entries_named, run_named, runs_named}
use Rattle.golog_tests.proofs.lines.is_first_line.Goals as goal

pub run_here-run-requires : goal.run_here-run-requires
run_here-run-requires c = subst (AreFrom 0) (sym c.as_slice-runs.ensures) c.requires.report.in_order

pub fill-requires-clause-entry : goal.fill-requires-clause-entry
fill-requires-clause-entry c =
    let report = c.args.report.now in
    let entry = c.in-Some.entry.now in
    let at : slice_get report.entries 0 ≡ Some entry = sym (c.in-Some.ensures.value ∙ ap (λ es. slice_get es 0) c.as_slice-entries.ensures) in
    subst (IsNamed c.args.agent.now) (get_or_from_slice_get report.entries 0 entry entry at)
    (entries_named c.args.agent.now report c.requires.report 0 entry (slice_get_within report.entries 0 entry at))

pub fill-requires-clause-labels : goal.fill-requires-clause-labels
fill-requires-clause-labels c =
    let agent = c.args.agent.now in
    let report = c.args.report.now in
    subst (λ run. IfSome run (AreLabels agent))
    (sym (c.run_here-run.ensures ∙ ap (λ runs. run_at runs 0) c.as_slice-runs.ensures))
    (run_named agent report.runs (runs_named agent report c.requires.report) 0)
