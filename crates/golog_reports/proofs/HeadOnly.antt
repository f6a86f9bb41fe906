-- A head that is read is the one that its values have.
use Rattle.std.proofs.Common.{◌≡◌, ℕ, zero, suc, ◌+◌, ◌==◌, Option, Some, None, Ok, List, [], ◌∷◌, ◌++◌, length, length-append, drop, refl, sym, ap, ◌∙◌, subst, arith, append-nil}
use Rattle.std.specs.Prelude.{codes, position, option_map, option_and_then}
use Rattle.std.proofs.lemmas.List.{append_assoc}
use Rattle.std.proofs.lemmas.Option.{same_Some}
use Rattle.golog_rows.specs.Reading.{Reading}
use Rattle.golog_tree.specs.declared.agent.Agent.{Agent}
use Rattle.golog_semantics.specs.InSorts.{IsOf}
use Rattle.golog_semantics.specs.Text.{Text, fluent_text, start_line, with_line_feed}
use Rattle.golog_semantics.specs.Truth.{Values}
use Rattle.golog_semantics.specs.Values.{fluent_sort}
use Rattle.golog_semantics.specs.WellFormed.{WellFormed}
use Rattle.golog_semantics.proofs.StartValues.{AreOf, lines_of_values}
use Rattle.golog_reports.specs.Codes.{HEAD}
use Rattle.golog_reports.specs.Forms.{cut, cut_at, parts}
use Rattle.golog_reports.specs.Reads.{begin_line, begin_read, head_from, start_in, start_named, start_read, start_said}
use Rattle.golog_reports.specs.Said.{behind}
use Rattle.golog_reports.proofs.Cuts.{parts-some}
use Rattle.golog_reports.proofs.HeadWords.{start-named-only}
use Rattle.golog_reports.proofs.Marks.{cut-whole, marked, parts-first}
use Rattle.golog_reports.proofs.Results.{and-then}
use Rattle.golog_reports.proofs.SaidOnly.{behind-only}
use Rattle.golog_reports.proofs.Says.{found-ok, mapped, then-ok}

abbrev Head : Type 0
Head = Values × Text

-- the parts of what is cut: what stands in front, and the parts behind the mark
pub cut-parts : (mark : ℕ) (text rest : Text) → (cut mark text).1 ≡ Some rest → parts mark text ≡ (cut mark text).0 ∷ parts mark rest
unfolding cut
cut-parts mark text rest e = go (position (λ byte. byte == mark) text) refl e
  where
    go : (o : Option ℕ) → position (λ byte. byte == mark) text ≡ o → (cut_at o text).1 ≡ Some rest → parts mark text ≡ (cut_at o text).0 ∷ parts mark rest
    go None h e = absurd (cc)
    go (Some place) h e = parts-some mark text place (sym h) ∙ ap (λ t. (cut_at (Some place) text).0 ∷ parts mark t) (same_Some (drop (place + 1) text) rest e)

module _ (agent : Agent) (well : WellFormed agent) where
  -- a line that says a value is its line
  start-said-only : (fluent v : ℕ) (line : Text) → start_said agent fluent line ≡ Some v → IsOf agent (fluent_sort agent fluent) v × (line ≡ start_line agent (fluent, v))
  unfolding start_said
  start-said-only fluent v line e =
      let name = fluent_text agent fluent in
      let word = behind (codes "start ") line in
      let rest = option_and_then (behind name) word in
      let value = and-then (start_named agent fluent) (option_and_then (behind (codes " ")) rest) v e in
      let space = and-then (behind (codes " ")) rest value.0 value.1 in
      let named = and-then (behind name) word space.0 space.1 in
      let own = start-named-only agent well fluent value.0 v value.2 in (
        own.0,
        behind-only (codes "start ") line named.0 named.1
            ∙ ap (λ t. codes "start " ++ t) (behind-only name named.0 space.0 named.2 ∙ ap (λ t. name ++ t) (behind-only (codes " ") space.0 value.0 space.2))
            ∙ sym (append_assoc (codes "start ") name (codes " " ++ value.0)) ∙ sym (append_assoc (codes "start " ++ name) (codes " ") value.0)
            ∙ ap (λ t. ((codes "start " ++ name) ++ codes " ") ++ t) own.1,
      )

  -- one more line of a head
  record OneStart (values : Values) (text : Text) (new : Values) (rest : Text) : Type 0 where
    value : ℕ
    new_so : new ≡ values ++ value ∷ []
    is_of : IsOf agent (fluent_sort agent (length values)) value
    text_so : text ≡ with_line_feed agent (start_line agent (length values, value)) ++ rest
    parts_so : drop 1 (parts 10 text) ≡ parts 10 rest

  one-start-only : (values : Values) (text : Text) (new : Values) (rest : Text) → (start_read agent values text).outcome ≡ Ok (new, rest) → OneStart values text new rest
  unfolding start_read start_in
  one-start-only values text new rest e =
      let n = length values in
      let add : ℕ × Text → Head = λ said. (values ++ said.0 ∷ [], said.1) in
      let said = mapped add (start_in agent n text) (new, rest) (found-ok HEAD (n + 1) (option_map add (start_in agent n text)) (new, rest) e) in
      let pair : Text → ℕ → ℕ × Text = λ t v. (v, t) in
      let line = (cut 10 text).0 in
      let cuts = and-then (λ t. option_map (pair t) (start_said agent n line)) (cut 10 text).1 said.0 said.1 in
      let told = mapped (pair cuts.0) (start_said agent n line) said.0 cuts.2 in
      let own = start-said-only n told.0 line told.1 in
      let same : cuts.0 ≡ rest = ap (λ (p : ℕ × Text). p.1) told.2 ∙ ap (λ (h : Head). h.1) said.2 in
      record {
        value = told.0;
        new_so = sym (ap (λ (h : Head). h.0) said.2) ∙ ap (λ (p : ℕ × Text). values ++ p.0 ∷ []) (sym told.2);
        is_of = own.0;
        text_so =
            sym (cut-whole 10 text) ∙ ap (λ o. line ++ marked 10 o) cuts.1
            ∙ (λ i. own.1 i ++ 10 ∷ same i)
            ∙ sym (append_assoc (start_line agent (n, told.0)) (10 ∷ []) rest);
        parts_so = ap (drop 1) (cut-parts 10 text cuts.0 cuts.1) ∙ ap (parts 10) same;
      }

  -- the lines of a head, and the last one
  pub record HeadSays (more : ℕ) (values : Values) (text : Text) (new : Values) (rest : Text) : Type 0 where
    pub added : Values
    pub new_so : new ≡ values ++ added
    pub many : length added ≡ more
    pub each : AreOf agent (length values) added
    pub text_so : text ≡ lines_of_values agent (length values) added ++ (begin_line ++ rest)
    pub parts_so : drop (suc more) (parts 10 text) ≡ parts 10 rest

  begin-only : (values : Values) (text : Text) (new : Values) (rest : Text) → (begin_read values text).outcome ≡ Ok (new, rest) → HeadSays 0 values text new rest
  unfolding begin_read
  begin-only values text new rest e =
      let add : Text → Head = λ t. (values, t) in
      let said = mapped add (behind begin_line text) (new, rest) (found-ok HEAD (length values + 1) (option_map add (behind begin_line text)) (new, rest) e) in
      let whole = behind-only begin_line text said.0 said.1 ∙ ap (λ t. begin_line ++ t) (ap (λ (h : Head). h.1) said.2) in
      record {
        added = [];
        new_so = sym (ap (λ (h : Head). h.0) said.2) ∙ sym (append-nil values);
        many = refl;
        each = tt;
        text_so = whole;
        parts_so = ap (drop 1) (ap (parts 10) whole ∙ parts-first 10 (codes "begin") rest refl);
      }

  -- the first line is dropped, and then the others
  dropped : (more : ℕ) (texts others : List Text) (rest : List Text) → drop 1 texts ≡ others → drop (suc more) others ≡ rest → drop (suc (suc more)) texts ≡ rest
  dropped more [] others rest e h = ap (drop (suc more)) e ∙ h
  dropped more (t ∷ texts) others rest e h = ap (drop (suc more)) e ∙ h

  pub head-only : (more : ℕ) (values : Values) (text : Text) (new : Values) (rest : Text) → (head_from agent more values text).outcome ≡ Ok (new, rest) → HeadSays more values text new rest
  unfolding head_from
  head-only zero values text new rest e = begin-only values text new rest e
  head-only (suc more) values text new rest e =
      let next : Head → Reading Head = λ said. head_from agent more said.0 said.1 in
      let r = then-ok (start_read agent values text) next (new, rest) e in
      let one = one-start-only values text r.0.0 r.0.1 r.1 in
      let later = head-only more r.0.0 r.0.1 new rest r.2 in
      let n = length values in
      let count : length r.0.0 ≡ n + 1 = ap length one.new_so ∙ length-append values (one.value ∷ []) in
      record {
        added = one.value ∷ later.added;
        new_so = later.new_so ∙ ap (λ vs. vs ++ later.added) one.new_so ∙ append_assoc values (one.value ∷ []) later.added;
        many = let k = later.many in omega (arith, k);
        each = (one.is_of, subst (λ m. AreOf agent m later.added) count later.each);
        text_so =
            one.text_so ∙ ap (λ t. with_line_feed agent (start_line agent (n, one.value)) ++ t) (later.text_so ∙ ap (λ m. lines_of_values agent m later.added ++ (begin_line ++ rest)) count)
            ∙ sym (append_assoc (with_line_feed agent (start_line agent (n, one.value))) (lines_of_values agent (n + 1) later.added) (begin_line ++ rest));
        parts_so = dropped more (parts 10 text) (parts 10 r.0.1) (parts 10 rest) one.parts_so later.parts_so;
      }
