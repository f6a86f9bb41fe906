-- The head of a report's start is read as that start.
use Rattle.std.proofs.Common.{◌≡◌, ℕ, ◌+◌, ◌<◌, ◌≤◌, Option, Some, None, Result, Ok, List, [], ◌∷◌, ◌++◌, length, length-append, take, drop, refl, sym, ap, ◌∙◌, subst, arith, append-nil}
use Rattle.std.specs.Prelude.{bytes_eq, codes, decimal, option_map, option_and_then}
use Rattle.std.proofs.lemmas.Fmt.{decimal_digit}
use Rattle.std.proofs.lemmas.List.{append_assoc}
use Rattle.golog_rows.specs.Reading.{Reading, found, outcome_behind}
use Rattle.golog_tree.specs.declared.agent.Agent.{Agent}
use Rattle.golog_tree.specs.Ground.{ground_fluents}
use Rattle.golog_semantics.specs.declared.journal.PlacedRun.{PlacedRun}
use Rattle.golog_semantics.specs.InSorts.{IsOf}
use Rattle.golog_semantics.specs.Journal.{Journal}
use Rattle.golog_semantics.specs.ReportLaws.{TellsApart}
use Rattle.golog_semantics.specs.Text.{Text, fluent_text, run_at, start_line, start_text, with_line_feed}
use Rattle.golog_semantics.specs.Truth.{Values}
use Rattle.golog_semantics.specs.Values.{fluent_sort}
use Rattle.golog_semantics.specs.WellFormed.{WellFormed}
use Rattle.golog_semantics.proofs.Levels.{same_values-same}
use Rattle.golog_semantics.proofs.StartValues.{AreOf, lines_of_values}
use Rattle.golog_reports.specs.Codes.{HEAD}
use Rattle.golog_reports.specs.Forms.{cut}
use Rattle.golog_reports.specs.Reads.{begin_line, begin_read, head_from, start_in, start_named, start_read, start_said, version_line}
use Rattle.golog_reports.specs.ReadsAs.{AreLines, said_body}
use Rattle.golog_reports.specs.Said.{behind, if_so}
use Rattle.golog_reports.proofs.HeadWords.{start-line-lacks, start-named-back}
use Rattle.golog_reports.proofs.Marks.{cut-marked}

front : (xs ys : Text) → take (length xs) (xs ++ ys) ≡ xs
front [] ys = refl
front (x ∷ xs) ys = ap (λ zs. x ∷ zs) (front xs ys)

back : (xs ys : Text) → drop (length xs) (xs ++ ys) ≡ ys
back [] ys = refl
back (x ∷ xs) ys = back xs ys

-- what stands behind a prefix that stands in front
pub behind-back : (prefix rest : Text) → behind prefix (prefix ++ rest) ≡ Some rest
unfolding behind
behind-back prefix rest =
    ap (λ t. if_so (bytes_eq t prefix) (Some (drop (length prefix) (prefix ++ rest)))) (front prefix rest)
    ∙ ap (λ b. if_so b (Some (drop (length prefix) (prefix ++ rest)))) (same_values-same prefix)
    ∙ ap Some (back prefix rest)

-- these values were read, and this is to be read still
abbrev told : Text → Values → Result (Values × Text) (ℕ × ℕ)
told rest values = Ok (values, rest)

module _ (agent : Agent) where
  -- lines of entries don't begin as a head does
  pub no-version : (runs : List PlacedRun) (entries : Journal) (bytes : Text) → AreLines agent runs 0 entries bytes → behind version_line bytes ≡ None
  unfolding behind
  no-version runs [] bytes lines = ap (behind version_line) lines
  no-version runs (e ∷ entries) bytes lines =
      let zero_is : decimal 0 ≡ 48 ∷ [] = decimal_digit 0 (omega arith) in
      ap (behind version_line) (lines.3 ∙ ap (λ d. with_line_feed agent (d ++ codes " " ++ said_body agent (run_at runs 0) lines.0 e) ++ lines.1) zero_is)

  module _ (well : WellFormed agent) (apart : TellsApart agent) where
    start-said-back : (fluent v : ℕ) → IsOf agent (fluent_sort agent fluent) v → start_said agent fluent (start_line agent (fluent, v)) ≡ Some v
    unfolding start_said
    start-said-back fluent v of =
        let name = fluent_text agent fluent in
        let text = start_text agent fluent v in
        let named = start_named agent fluent in
        ap (λ l. option_and_then named (option_and_then (behind (codes " ")) (option_and_then (behind name) (behind (codes "start ") l))))
        (append_assoc (codes "start " ++ name) (codes " ") text ∙ append_assoc (codes "start ") name (codes " " ++ text))
        ∙ ap (λ o. option_and_then named (option_and_then (behind (codes " ")) (option_and_then (behind name) o))) (behind-back (codes "start ") (name ++ (codes " " ++ text)))
        ∙ ap (λ o. option_and_then named (option_and_then (behind (codes " ")) o)) (behind-back name (codes " " ++ text))
        ∙ ap (option_and_then named) (behind-back (codes " ") text)
        ∙ start-named-back agent well apart fluent v of

    one-start-back : (values : Values) (v : ℕ) (more : Text) → length values < length (ground_fluents agent) → IsOf agent (fluent_sort agent (length values)) v
        → (start_read agent values (with_line_feed agent (start_line agent (length values, v)) ++ more)).outcome ≡ Ok (values ++ v ∷ [], more)
    unfolding start_read start_in
    one-start-back values v more less of =
        let n = length values in
        let line = start_line agent (n, v) in
        let add : ℕ × Text → Values × Text = λ said. (values ++ said.0 ∷ [], said.1) in
        let at : Text × Option Text → Option (ℕ × Text) = λ c. option_and_then (λ rest. option_map (λ value. (value, rest)) (start_said agent n c.0)) c.1 in
        let and_more : ℕ → ℕ × Text = λ value. (value, more) in
        ap (λ t. (found HEAD (n + 1) (option_map add (at (cut 10 t)))).outcome) (append_assoc line (10 ∷ []) more)
        ∙ ap (λ c. (found HEAD (n + 1) (option_map add (at c))).outcome) (cut-marked 10 line (Some more) (start-line-lacks agent well apart n v less of))
        ∙ ap (λ o. (found HEAD (n + 1) (option_map add (option_map and_more o))).outcome) (start-said-back n v of)

    pub head-back : (vs before : Values) (rest : Text) → length before + length vs ≤ length (ground_fluents agent) → AreOf agent (length before) vs
        → (head_from agent (length vs) before (lines_of_values agent (length before) vs ++ (begin_line ++ rest))).outcome ≡ Ok (before ++ vs, rest)
    unfolding head_from begin_read
    head-back [] before rest few of =
        let add : Text → Values × Text = λ t. (before, t) in
        ap (λ o. (found HEAD (length before + 1) (option_map add o)).outcome) (behind-back begin_line rest)
        ∙ ap (told rest) (sym (append-nil before))
    head-back (v ∷ vs) before rest few of =
        let n = length before in
        let more = lines_of_values agent (n + 1) vs ++ (begin_line ++ rest) in
        let next : Values × Text → Reading (Values × Text) = λ said. head_from agent (length vs) said.0 said.1 in
        let line = with_line_feed agent (start_line agent (n, v)) in
        let count : length (before ++ v ∷ []) ≡ n + 1 = length-append before (v ∷ []) in
        ap (λ t. outcome_behind (start_read agent before t).outcome next) (append_assoc line (lines_of_values agent (n + 1) vs) (begin_line ++ rest))
        ∙ ap (λ o. outcome_behind o next) (one-start-back before v more (omega (arith, few)) of.0)
        ∙ ap (λ m. (head_from agent (length vs) (before ++ v ∷ []) (lines_of_values agent m vs ++ (begin_line ++ rest))).outcome) (sym count)
        ∙ head-back vs (before ++ v ∷ []) rest (omega (arith, few, count)) (subst (λ m. AreOf agent m vs) (sym count) of.1)
        ∙ ap (told rest) (append_assoc before (v ∷ []) vs)
