-- A text that is read is the head of the report's start, where it has one, and the lines behind it.
use Rattle.std.proofs.Common.{◌≡◌, ℕ, suc, Option, Some, None, Result, Ok, Err, List, [], ◌∷◌, ◌++◌, length, drop, refl, sym, ap, ◌∙◌, subst, arith}
use Rattle.std.specs.Prelude.{IfSome, codes}
use Rattle.std.specs.Option.{option_map_or}
use Rattle.golog_rows.specs.Reading.{Reading, gives}
use Rattle.golog_tree.specs.declared.agent.Agent.{Agent}
use Rattle.golog_tree.specs.Ground.{ground_fluents}
use Rattle.golog_semantics.specs.declared.journal.Report.{Report}
use Rattle.golog_semantics.specs.InSorts.{AreInSorts}
use Rattle.golog_semantics.specs.Text.{Text, head_text}
use Rattle.golog_semantics.specs.Truth.{Values}
use Rattle.golog_semantics.specs.Verdicts.{entry_lines, head_length}
use Rattle.golog_semantics.specs.Ways.{is_empty}
use Rattle.golog_semantics.specs.WellFormed.{WellFormed}
use Rattle.golog_semantics.proofs.StartValues.{head_is, in-sorts, lines_of_values}
use Rattle.golog_reports.specs.Codes.{NO_BODY}
use Rattle.golog_reports.specs.Forms.{parts}
use Rattle.golog_reports.specs.Moved.{moved_outcome}
use Rattle.golog_reports.specs.Reads.{begin_line, empty_report, entries_read, head_from, headed_report, journal_from, journal_of, line_of, lines_in, plain_report, version_line, with_line}
use Rattle.golog_reports.specs.Said.{behind}
use Rattle.golog_reports.proofs.HeadOnly.{head-only}
use Rattle.golog_reports.proofs.Marks.{parts-first}
use Rattle.golog_reports.proofs.SaidOnly.{behind-only}
use Rattle.golog_reports.proofs.Says.{row-ok, then-ok}

moved-ok : {A : Type 0} (n : ℕ) (outcome : Result A (ℕ × ℕ)) (x : A) → moved_outcome n outcome ≡ Ok x → outcome ≡ Ok x
moved-ok n (Ok y) x e = e
moved-ok n (Err (code, at)) x e = absurd (cc)

module _ (agent : Agent) where
  -- the start stays as it was while lines are read
  start-kept : (report : Report) (texts : List Text) (whole : Report) → (journal_from agent report texts).outcome ≡ Ok whole → whole.start ≡ report.start
  unfolding journal_from
  start-kept report [] whole e = let same : report ≡ whole = cc in ap (λ (r : Report). r.start) (sym same)
  start-kept report (last ∷ []) whole e =
      let r = row-ok (is_empty last) NO_BODY (length report.entries) (gives report) whole e in
      let same : report ≡ whole = let k = r.1 in cc in
      ap (λ (r : Report). r.start) (sym same)
  start-kept report (text ∷ next ∷ texts) whole e =
      let r = then-ok (line_of agent report.entries text) (λ line. journal_from agent (with_line report line) (next ∷ texts)) whole e in
      start-kept (with_line report r.0) (next ∷ texts) whole r.2

  -- what a text says that was read: the head of a start, and the lines of the report behind it
  pub record IsHeaded (bytes : Text) (report : Report) (start : Option Values) : Type 0 where
    pub rest : Text
    pub head : bytes ≡ option_map_or (head_text agent) start [] ++ rest
    pub sorts : IfSome start (AreInSorts agent)
    pub lines : entry_lines agent bytes start ≡ lines_in rest
    pub says : (journal_from agent (empty_report start) (lines_in rest)).outcome ≡ Ok report

  module _ (well : WellFormed agent) where
    module _ (bytes : Text) (report : Report) where
      of-plain : (plain_report agent bytes).outcome ≡ Ok report → IsHeaded bytes report report.start
      of-plain e =
          let own : report.start ≡ None = start-kept (empty_report None) (lines_in bytes) report e in
          subst (IsHeaded bytes report) (sym own) (record { rest = bytes; head = refl; sorts = tt; lines = refl; says = e })

      of-headed : (text : Text) → bytes ≡ version_line ++ text → (headed_report agent text).outcome ≡ Ok report → IsHeaded bytes report report.start
      unfolding headed_report entries_read
      of-headed text whole e =
          let many = length (ground_fluents agent) in
          let next : Values × Text → Reading Report = λ head. entries_read agent head.0 head.1 in
          let r = then-ok (head_from agent many [] text) next report e in
          let rest = r.0.1 in
          let head = head-only agent well many [] text r.0.0 rest r.1 in
          let says = moved-ok (head_length agent) (journal_from agent (empty_report (Some r.0.0)) (lines_in rest)).outcome report r.2 in
          let own : report.start ≡ Some r.0.0 = start-kept (empty_report (Some r.0.0)) (lines_in rest) report says in
          let values = head.new_so in
          let first : parts 10 bytes ≡ codes "golog 2" ∷ parts 10 text = ap (parts 10) whole ∙ parts-first 10 (codes "golog 2") text refl in
          let count : head_length agent ≡ suc (suc many) = omega arith in
          subst (IsHeaded bytes report) (sym own) (record {
            rest = rest;
            head =
                whole ∙ ap (λ t. version_line ++ t) (head.text_so ∙ ap (λ vs. lines_of_values agent 0 vs ++ (begin_line ++ rest)) (sym values))
                ∙ head_is agent r.0.0 rest;
            sorts = subst (AreInSorts agent) (sym values) (in-sorts agent head.added head.many head.each);
            lines = (λ i. drop (count i) (first i)) ∙ head.parts_so;
            says = says;
          })

      by-version : (o : Option Text) → behind version_line bytes ≡ o → (option_map_or (headed_report agent) o (plain_report agent bytes)).outcome ≡ Ok report → IsHeaded bytes report report.start
      by-version None h e = of-plain e
      by-version (Some text) h e = of-headed text (behind-only version_line bytes text h) e

    pub read-head : (bytes : Text) (report : Report) → (journal_of agent bytes).outcome ≡ Ok report → IsHeaded bytes report report.start
    unfolding journal_of
    read-head bytes report e = by-version bytes report (behind version_line bytes) refl e
