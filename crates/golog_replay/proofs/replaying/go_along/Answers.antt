use Rattle.std.proofs.Common.{◌≡◌, ◌≤◌, length, take, sym, ap, ◌∙◌, subst}
use Rattle.std.proofs.lemmas.Bool.{leb-true}
use Rattle.std.proofs.lemmas.List.{take_all}
use Rattle.golog_semantics.specs.declared.journal.Entry.TheVariants.{Do}
use Rattle.golog_semantics.specs.Reports.{entry_limit}
use Rattle.golog_text.specs.Named.{AreFrom}
use Rattle.golog_text.proofs.RunsBehind.{behind_place, from_grows, from_next, from_start}
use Rattle.golog_replay.specs.Courses.{Follows}
use Rattle.golog_semantics.specs.Verdicts.{entry_lines}
use Rattle.golog_replay.proofs.Along.{from-end, from-start, lent-broken, lent-fits, lent-in-order, lent-kept, lent-named, lent-runs-named, lent-short, not-online}
use Rattle.golog_replay.proofs.Noting.{not-some}
use Rattle.golog_replay.proofs.replaying.go_along.Goals as goal

pub loop-place-init : goal.loop-place-init
loop-place-init c = record {
  follows = c.requires.follows;
  so_far = from-start c.args.agent.now (entry_lines c.args.agent.now c.args.bytes.now c.args.report.now.start) c.args.report.now;
  runs = c.as_slice-runs.ensures ∙ from_start c.args.report.now.runs;
  lines = c.requires.lines;
}

pub take-requires : goal.take-requires
take-requires c =
    let agent = c.args.agent.now in
    let report = c.args.report.now in
    let is = c.requires.report in
    let items = c.as_slice-entries.result.now in
    let same : items ≡ report.entries = c.as_slice-entries.ensures in
    let place = c.loop-place.place in
    let low = c.loop-place-test.true in
    let runs = c.loop-place.runs.now in
    let are = c.loop-place.invariant.runs in
    record {
      follows = subst (λ es. Follows agent (take place es) c.loop-place.course) (sym same) c.loop-place.invariant.follows;
      fits = lent-fits agent report is items same place low (Do 0);
      in_order = lent-in-order agent report is items same place low runs are;
      runs = lent-runs-named agent report is items same place low runs are;
      entry = lent-named agent report is items same place low (Do 0);
      short = lent-short agent report is items same place low;
    }

pub runs_behind-runs-requires : goal.runs_behind-runs-requires
runs_behind-runs-requires c =
    subst (AreFrom c.loop-place.place) (sym c.loop-place.invariant.runs)
    (from_grows c.loop-place.place 0 c.args.report.now.runs c.requires.report.in_order)

pub returns-in-Some : goal.returns-in-Some
returns-in-Some c =
    let l = c.loop-place in
    not-online c.args.agent.now c.args.bytes.now c.args.report.now l.place c.in-Some.why
    (lent-broken c.args.agent.now c.args.report.now c.requires.report c.as_slice-entries.result.now c.as_slice-entries.ensures l.place
    c.loop-place-test.true l.runs.now l.invariant.runs (entry_lines c.args.agent.now c.args.bytes.now c.args.report.now.start) l.lines c.take.new.lines l.invariant.lines
    c.take.new.course (Do 0) c.in_ok-broken.broken c.in_ok-broken.ensures l.invariant.so_far c.in-Some.why c.in-Some.is)

pub loop-place-preserved : goal.loop-place-preserved
loop-place-preserved c =
    let l = c.loop-place in
    let goes =
    lent-kept c.args.agent.now c.args.report.now c.requires.report c.as_slice-entries.result.now c.as_slice-entries.ensures l.place
    c.loop-place-test.true l.runs.now l.invariant.runs (entry_lines c.args.agent.now c.args.bytes.now c.args.report.now.start) l.lines c.take.new.lines l.invariant.lines
    c.take.new.course (Do 0) c.in_ok-broken.broken c.in_ok-broken.ensures l.invariant.so_far
    (not-some c.in_ok-broken.broken c.in_default.not-Some) in
    record {
      follows = goes.follows;
      so_far = goes.faults;
      runs = c.runs_behind-runs.ensures ∙ ap (behind_place l.place) l.invariant.runs ∙ from_next l.place c.args.report.now.runs;
      lines = goes.behind;
    }

pub last_verdict-requires-clause-follows : goal.last_verdict-requires-clause-follows
last_verdict-requires-clause-follows c =
    let same : c.as_slice-entries.result.now ≡ c.args.report.now.entries = c.as_slice-entries.ensures in
    let all = subst (λ es. length es ≤ c.loop-place.place) same c.loop-place-test.false in
    subst (λ es. Follows c.args.agent.now es c.loop-place.course)
    (take_all c.loop-place.place c.args.report.now.entries all ∙ sym same) c.loop-place.invariant.follows

pub last_verdict-requires-clause-short : goal.last_verdict-requires-clause-short
last_verdict-requires-clause-short c =
    subst (λ es. length es ≤ entry_limit) (sym c.as_slice-entries.ensures)
    (leb-true (length c.args.report.now.entries) entry_limit c.requires.report.in_bounds)

pub returns : goal.returns
returns c =
    let agent = c.args.agent.now in
    let report = c.args.report.now in
    let bytes = c.args.bytes.now in
    let same : c.as_slice-entries.result.now ≡ c.args.report.now.entries = c.as_slice-entries.ensures in
    let all = subst (λ es. length es ≤ c.loop-place.place) same c.loop-place-test.false in
    c.last_verdict.ensures bytes report (sym same) (c.loop-place.invariant.so_far ∙ from-end agent (entry_lines agent bytes report.start) report c.loop-place.place all)
