use Rattle.std.proofs.Common.{◌≡◌, ◌<◌, Err, Ok, List, [], ◌∷◌, ◌++◌, length, length-append, sym, ap, ◌∙◌, subst, arith}
use Rattle.golog_semantics.specs.declared.journal.Entry.{Entry}
use Rattle.golog_reports.specs.declared.reading.Line.{Line}
use Rattle.golog_reports.specs.Answers.{Answers, code_at}
use Rattle.golog_reports.specs.Forms.{parts_behind}
use Rattle.golog_reports.specs.Reads.{journal_from, line_of, lines_in}
use Rattle.golog_reports.specs.Views.{lent}
use Rattle.golog_reports.proofs.JournalSteps.{begun, line_goes_on, line_is_refused, no_line_feed, nothing_behind, passed_on}
use Rattle.golog_reports.proofs.reading.Reader.read_lines.Goals as goal

pub loop-behind-init : goal.loop-behind-init
loop-behind-init c =
    let agent = c.args.self.now.agent.now in
    let first = c.cut.result.0.now in
    let others = parts_behind 10 (lent c.cut.result.1) in
    record {
      same = begun agent c.args.report.now c.args.bytes.now first others c.cut.ensures.parts;
      few = omega (arith, ap length c.requires.empty);
    }

pub returns-in_err-line : goal.returns-in_err-line
returns-in_err-line c =
    let agent = c.args.self.now.agent.now in
    let report = c.loop-behind.report in
    let text = c.loop-behind.text.now in
    let fault = c.in_err-line.field-0.0 in
    let whole = journal_from agent c.args.report.now (lines_in c.args.bytes.now) in
    let so_far = subst (λ b. (journal_from agent report (text ∷ parts_behind 10 (lent b))).outcome ≡ whole.outcome) c.in-Some.is c.loop-behind.invariant.same in
    let here = subst (λ (es : List Entry). Answers {A = Line} (Err fault) (line_of agent es text)) c.as_slice.ensures c.in_err-line.ensures.said in
    passed_on c.from_residual.result fault report whole c.from_residual.ensures.1
    (line_is_refused agent report text c.in-Some.rest.now whole.outcome so_far (code_at fault) here)

pub loop-behind-preserved : goal.loop-behind-preserved
loop-behind-preserved c =
    let agent = c.args.self.now.agent.now in
    let report = c.loop-behind.report in
    let text = c.loop-behind.text.now in
    let rest = c.in-Some.rest.now in
    let whole = (journal_from agent c.args.report.now (lines_in c.args.bytes.now)).outcome in
    let next = c.cut-in-Some.result.0.now in
    let others = parts_behind 10 (lent c.cut-in-Some.result.1) in
    let line = c.in_ok-line.line in
    let so_far = subst (λ b. (journal_from agent report (text ∷ parts_behind 10 (lent b))).outcome ≡ whole) c.in-Some.is c.loop-behind.invariant.same in
    let here : (line_of agent report.entries text).outcome ≡ Ok line = subst (λ (es : List Entry). (line_of agent es text).outcome ≡ Ok line) c.as_slice.ensures c.in_ok-line.ensures.said in
    let few : length report.entries < 2097152 = subst (λ (es : List Entry). length es < 2097152) c.as_slice.ensures c.in_ok-line.ensures.few in
    let new : c.add_line.new.report.entries ≡ report.entries ++ line.entry ∷ [] = ap (λ r. r.entries) c.in_ok-add_line.ensures in
    record {
      same =
          ap (λ r. (journal_from agent r (next ∷ others)).outcome) c.in_ok-add_line.ensures
          ∙ line_goes_on agent report text rest whole so_far next others c.cut-in-Some.ensures.parts line here;
      few = omega (arith, few, ap length new, length-append report.entries (line.entry ∷ []));
    }

pub returns-then-not-is_empty : goal.returns-then-not-is_empty
returns-then-not-is_empty c =
    let agent = c.args.self.now.agent.now in
    let report = c.loop-behind.report in
    let text = c.loop-behind.text.now in
    let whole = (journal_from agent c.args.report.now (lines_in c.args.bytes.now)).outcome in
    let so_far = subst (λ b. (journal_from agent report (text ∷ parts_behind 10 (lent b))).outcome ≡ whole) c.in_default.is c.loop-behind.invariant.same in
    let some : 0 < length text = grind (arith, c.is_empty.ensures, c.if-not-is_empty.true) in
    no_line_feed agent report text whole so_far some ∙ ap (λ n. Err (50, n)) (sym c.len.ensures)

pub returns : goal.returns
returns c =
    let agent = c.args.self.now.agent.now in
    let report = c.loop-behind.report in
    let text = c.loop-behind.text.now in
    let whole = (journal_from agent c.args.report.now (lines_in c.args.bytes.now)).outcome in
    let so_far = subst (λ b. (journal_from agent report (text ∷ parts_behind 10 (lent b))).outcome ≡ whole) c.in_default.is c.loop-behind.invariant.same in
    let none : length text ≡ 0 = grind (arith, c.is_empty.ensures, c.if-not-is_empty.false) in
    nothing_behind agent report text whole so_far none
