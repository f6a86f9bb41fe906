use Rattle.std.proofs.Common.{◌≡◌, ◌+◌, ◌++◌, ◌<◌, ◌≤◌, length, take, get_or, refl, sym, ap, ◌∙◌, subst, arith}
use Rattle.std.specs.Prelude.{nat_le}
use Rattle.std.proofs.lemmas.Bool.{leb-true}
use Rattle.std.proofs.lemmas.List.{take_all}
use Rattle.std.proofs.lemmas.List.Elements.{All-filter}
use Rattle.golog_semantics.specs.declared.journal.Entry.TheVariants.{Do}
use Rattle.golog_semantics.specs.Progress.{after_entry, values_after}
use Rattle.golog_semantics.specs.Reports.{place_limit}
use Rattle.golog_text.specs.Named.{AreFrom, AreLabels, AreNamed, IsNamed}
use Rattle.golog_text.proofs.RunsBehind.{behind_place, from_grows, from_next, from_start}
use Rattle.golog_text.proofs.Things.{entries_named, runs_named}
use Rattle.golog_trace.specs.Traced.{entry_text}
use Rattle.golog_trace.proofs.Lines.{all_told, more-values, rest, told_on}
use Rattle.golog_trace.proofs.entries.add_entries.Goals as goal

pub loop-place-init : goal.loop-place-init
loop-place-init c =
    let report = c.args.report.now in
    record {
      text = ap (λ vs. c.args.text.now ++ rest c.args.agent.now report.runs report.entries 0 vs) c.requires.values;
      values = c.requires.values;
      sorts = c.requires.sorts;
      runs = c.as_slice-runs.ensures ∙ from_start report.runs;
    }

pub add_entry-requires-clause-sorts : goal.add_entry-requires-clause-sorts
add_entry-requires-clause-sorts c = c.loop-place.invariant.sorts

pub add_entry-requires-clause-place : goal.add_entry-requires-clause-place
add_entry-requires-clause-place c =
    let report = c.args.report.now in
    let inside : c.loop-place.place < length report.entries = subst (λ es. c.loop-place.place < length es) c.as_slice-entry-items.ensures c.loop-place-test.true in
    let most : length report.entries ≤ place_limit + 1 = leb-true (length report.entries) (place_limit + 1) c.requires.report.in_bounds in
    omega (arith, inside, most)

pub add_entry-requires-clause-in_order : goal.add_entry-requires-clause-in_order
add_entry-requires-clause-in_order c =
    subst (AreFrom c.loop-place.place) (sym c.loop-place.invariant.runs)
    (from_grows c.loop-place.place 0 c.args.report.now.runs c.requires.report.in_order)

pub add_entry-requires-clause-runs : goal.add_entry-requires-clause-runs
add_entry-requires-clause-runs c =
    let agent = c.args.agent.now in
    let report = c.args.report.now in
    subst (AreNamed agent) (sym c.loop-place.invariant.runs)
    (All-filter (λ r. nat_le c.loop-place.place r.place) (λ r. AreLabels agent r.labels) report.runs (runs_named agent report c.requires.report))

pub add_entry-requires-clause-entry : goal.add_entry-requires-clause-entry
add_entry-requires-clause-entry c =
    let place = c.loop-place.place in
    let items = c.as_slice-entry-items.result.now in
    let same : items ≡ c.args.report.now.entries = c.as_slice-entry-items.ensures in
    let inside : place < length c.args.report.now.entries = subst (λ es. place < length es) same c.loop-place-test.true in
    subst (λ es. IsNamed c.args.agent.now (get_or es place (Do 0))) (sym same)
    (entries_named c.args.agent.now c.args.report.now c.requires.report place (Do 0) inside)

pub runs_behind-runs-requires : goal.runs_behind-runs-requires
runs_behind-runs-requires c =
    subst (AreFrom c.loop-place.place) (sym c.loop-place.invariant.runs)
    (from_grows c.loop-place.place 0 c.args.report.now.runs c.requires.report.in_order)

pub loop-place-preserved : goal.loop-place-preserved
loop-place-preserved c =
    let agent = c.args.agent.now in
    let report = c.args.report.now in
    let place = c.loop-place.place in
    let here = c.loop-place.runs.now in
    let text = c.loop-place.text in
    let values = c.loop-place.state in
    let items = c.as_slice-entry-items.result.now in
    let same : items ≡ report.entries = c.as_slice-entry-items.ensures in
    let inside : place < length report.entries = subst (λ es. place < length es) same c.loop-place-test.true in
    let after = c.in_ok-add_entry.ensures.values ∙ ap (λ es. after_entry agent values (get_or es place (Do 0))) same in
    record {
      text =
          ap (λ vs. c.add_entry.new.text ++ rest agent report.runs report.entries (place + 1) vs) after
          ∙ told_on agent report.runs report.entries place (Do 0) inside values here text c.add_entry.new.text
          (c.args.text.now ++ rest agent report.runs report.entries 0 agent.starts) c.loop-place.invariant.runs c.loop-place.invariant.text
          (c.in_ok-add_entry.ensures.text ∙ ap (λ es. text ++ entry_text agent here place values (get_or es place (Do 0))) same);
      values = after ∙ more-values agent report.entries place (Do 0) values inside c.loop-place.invariant.values;
      sorts = c.in_ok-add_entry.ensures.sorts;
      runs = c.runs_behind-runs.ensures ∙ ap (behind_place place) c.loop-place.invariant.runs ∙ from_next place report.runs;
    }

pub returns-clause-text : goal.returns-clause-text
returns-clause-text c =
    let agent = c.args.agent.now in
    let report = c.args.report.now in
    let place = c.loop-place.place in
    let same : c.as_slice-entry-items.result.now ≡ report.entries = c.as_slice-entry-items.ensures in
    let all : length report.entries ≤ place = subst (λ es. length es ≤ place) same c.loop-place-test.false in
    all_told agent report.runs report.entries place c.loop-place.state c.loop-place.text (c.args.text.now ++ rest agent report.runs report.entries 0 agent.starts) all c.loop-place.invariant.text

pub returns-clause-values : goal.returns-clause-values
returns-clause-values c =
    let agent = c.args.agent.now in
    let report = c.args.report.now in
    let place = c.loop-place.place in
    let same : c.as_slice-entry-items.result.now ≡ report.entries = c.as_slice-entry-items.ensures in
    let all : length report.entries ≤ place = subst (λ es. length es ≤ place) same c.loop-place-test.false in
    c.loop-place.invariant.values ∙ ap (values_after agent) (take_all place report.entries all)

pub returns-clause-sorts : goal.returns-clause-sorts
returns-clause-sorts c = c.loop-place.invariant.sorts
