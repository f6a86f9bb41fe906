use Rattle.std.proofs.Common.{◌≡◌, ◌+◌, ◌++◌, ◌<◌, ◌≤◌, length, get_or, refl, sym, ap, ◌∙◌, subst, arith}
use Rattle.std.specs.Prelude.{nat_le}
use Rattle.std.proofs.lemmas.Bool.{leb-true}
use Rattle.std.proofs.lemmas.List.Elements.{All-filter}
use Rattle.golog_semantics.specs.declared.journal.Entry.TheVariants.{Do}
use Rattle.golog_semantics.specs.Progress.{after_entry}
use Rattle.golog_semantics.specs.Reports.{place_limit}
use Rattle.golog_semantics.specs.Text.{report_text, run_at}
use Rattle.golog_text.specs.Filled.{full_line}
use Rattle.golog_text.specs.Named.{AreFrom, AreLabels, AreNamed, IsNamed}
use Rattle.golog_text.proofs.Lines.{lines_from, lines_go_on, next_values, no_lines, whole_text}
use Rattle.golog_text.proofs.RunsBehind.{behind_place, from_grows, from_next, from_start}
use Rattle.golog_text.proofs.Things.{entries_named, named_fits, runs_named}
use Rattle.golog_text.proofs.journal.add_lines.Goals as goal

pub loop-place-init : goal.loop-place-init
loop-place-init c =
    let report = c.args.report.now in
    record {
      text = refl;
      values = c.requires.values;
      sorts = c.requires.sorts;
      runs = c.as_slice-runs.ensures ∙ from_start report.runs;
    }

pub add_line-requires-clause-sorts : goal.add_line-requires-clause-sorts
add_line-requires-clause-sorts c = c.loop-place.invariant.sorts

pub add_line-requires-clause-place : goal.add_line-requires-clause-place
add_line-requires-clause-place c =
    let report = c.args.report.now in
    let inside : c.loop-place.place < length report.entries = subst (λ es. c.loop-place.place < length es) c.as_slice-entry-items.ensures c.loop-place-test.true in
    let most : length report.entries ≤ place_limit + 1 = leb-true (length report.entries) (place_limit + 1) c.requires.report.in_bounds in
    omega (arith, inside, most)

pub add_line-requires-clause-in_order : goal.add_line-requires-clause-in_order
add_line-requires-clause-in_order c =
    subst (AreFrom c.loop-place.place) (sym c.loop-place.invariant.runs)
    (from_grows c.loop-place.place 0 c.args.report.now.runs c.requires.report.in_order)

pub add_line-requires-clause-runs : goal.add_line-requires-clause-runs
add_line-requires-clause-runs c =
    let agent = c.args.agent.now in
    let report = c.args.report.now in
    subst (AreNamed agent) (sym c.loop-place.invariant.runs)
    (All-filter (λ r. nat_le c.loop-place.place r.place) (λ r. AreLabels agent r.labels) report.runs (runs_named agent report c.requires.report))

pub add_line-requires-clause-entry : goal.add_line-requires-clause-entry
add_line-requires-clause-entry c =
    let place = c.loop-place.place in
    let items = c.as_slice-entry-items.result.now in
    let same : items ≡ c.args.report.now.entries = c.as_slice-entry-items.ensures in
    let inside : place < length c.args.report.now.entries = subst (λ es. place < length es) same c.loop-place-test.true in
    subst (λ es. IsNamed c.args.agent.now (get_or es place (Do 0))) (sym same)
    (entries_named c.args.agent.now c.args.report.now c.requires.report place (Do 0) inside)

pub roll-requires-clause-sorts : goal.roll-requires-clause-sorts
roll-requires-clause-sorts c = c.loop-place.invariant.sorts

pub roll-requires-clause-entries : goal.roll-requires-clause-entries
roll-requires-clause-entries c =
    let place = c.loop-place.place in
    let items = c.as_slice-entry-items.result.now in
    let same : items ≡ c.args.report.now.entries = c.as_slice-entry-items.ensures in
    let inside : place < length c.args.report.now.entries = subst (λ es. place < length es) same c.loop-place-test.true in
    let named = entries_named c.args.agent.now c.args.report.now c.requires.report place (Do 0) inside in
    let own : IsNamed c.args.agent.now (get_or items place (Do 0)) = subst (λ es. IsNamed c.args.agent.now (get_or es place (Do 0))) (sym same) named in
    (named_fits c.args.agent.now (get_or items place (Do 0)) own, tt)

pub runs_behind-runs-requires : goal.runs_behind-runs-requires
runs_behind-runs-requires c =
    subst (AreFrom c.loop-place.place) (sym c.loop-place.invariant.runs)
    (from_grows c.loop-place.place 0 c.args.report.now.runs c.requires.report.in_order)

pub loop-place-preserved : goal.loop-place-preserved
loop-place-preserved c =
    let agent = c.args.agent.now in
    let report = c.args.report.now in
    let place = c.loop-place.place in
    let here = c.loop-place.runs.now in
    let text = c.loop-place.text in
    let values = c.loop-place.state in
    let items = c.as_slice-entry-items.result.now in
    let same : items ≡ report.entries = c.as_slice-entry-items.ensures in
    let inside : place < length report.entries = subst (λ es. place < length es) same c.loop-place-test.true in
    record {
      text =
          lines_go_on agent report.start report.runs report.entries place (Do 0) inside here values text c.add_line.new.text
          (c.args.text.now ++ lines_from agent report.start report.runs report.entries 0) c.loop-place.invariant.runs c.loop-place.invariant.values c.loop-place.invariant.text
          (c.in_ok-add_line.ensures
          ∙ ap (λ es. text ++ full_line agent place values (run_at here place) (get_or es place (Do 0))) same);
      values =
          c.roll.ensures.values
          ∙ ap (λ es. after_entry agent c.loop-place.state (get_or es place (Do 0))) same
          ∙ next_values agent report.start report.runs report.entries place (Do 0) inside c.loop-place.state c.loop-place.invariant.values;
      sorts = c.roll.ensures.sorts;
      runs = c.runs_behind-runs.ensures ∙ ap (behind_place place) c.loop-place.invariant.runs ∙ from_next place report.runs;
    }

pub returns : goal.returns
unfolding report_text
returns c =
    let agent = c.args.agent.now in
    let report = c.args.report.now in
    let place = c.loop-place.place in
    let same : c.as_slice-entry-items.result.now ≡ report.entries = c.as_slice-entry-items.ensures in
    let all : length report.entries ≤ place = subst (λ es. length es ≤ place) same c.loop-place-test.false in
    whole_text c.loop-place.text (lines_from agent report.start report.runs report.entries place)
    (c.args.text.now ++ lines_from agent report.start report.runs report.entries 0)
    c.loop-place.invariant.text (no_lines agent report.start report.runs report.entries place all)
