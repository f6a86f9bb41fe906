use Rattle.std.proofs.Common.{◌++◌, sym, ap, ◌∙◌, subst}
use Rattle.golog_semantics.specs.Progress.{values_after}
use Rattle.golog_progress.specs.Entries.{EntriesFit}
use Rattle.golog_text.proofs.Things.{entries_named}
use Rattle.golog_trace.specs.Followed.{followed}
use Rattle.golog_trace.specs.Traced.{TellsEnd, entries_text}
use Rattle.golog_trace.proofs.Lines.{entries-fit}
use Rattle.golog_trace.proofs.tracing.add_trace.Goals as goal

pub followed-requires-clause-entries : goal.followed-requires-clause-entries
followed-requires-clause-entries c =
    let agent = c.args.agent.now in
    let report = c.args.report.now in
    subst (EntriesFit agent) (sym c.as_slice.ensures) (entries-fit agent report.entries (entries_named agent report c.requires.report))

pub returns : goal.returns
returns c =
    let agent = c.args.agent.now in
    let report = c.args.report.now in
    let end = c.in_ok-end.end in
    let whole = entries_text agent report.runs 0 agent.starts report.entries in
    record {
      end = end;
      is_end =
          subst (λ left. TellsEnd agent (values_after agent report.entries) left end)
          (c.in_ok-left.ensures.followed ∙ ap (followed agent agent.starts agent.main) c.as_slice.ensures)
          (subst (λ vs. TellsEnd agent vs c.in_ok-left.left end) c.in_ok-add_entries.ensures.values c.in_ok-end.ensures);
      text_is =
          c.in_ok-extend.ensures.added
          ∙ ap (λ t. t ++ c.as_slice-2.result.now) (c.in_ok-add_entries.ensures.text ∙ ap (λ t. t ++ whole) c.requires.empty)
          ∙ ap (λ t. whole ++ t) c.as_slice-2.ensures;
    }
