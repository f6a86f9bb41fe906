-- The lines of a head, those so far and those to come.
use Rattle.std.proofs.Common.{◌≡◌, ℕ, ◌+◌, ◌<◌, ◌≤◌, List, [], ◌∷◌, ◌++◌, drop, length, get_or, sym, ap, ◌∙◌, add-one}
use Rattle.std.specs.Prelude.{codes, map}
use Rattle.std.specs.List.{enumerate_from, flat_map}
use Rattle.std.proofs.Math.Seq.{drop-cons}
use Rattle.std.proofs.lemmas.List.{append_assoc, drop_all}
use Rattle.std.proofs.lemmas.Grind.{flat_map-append}
use Rattle.golog_tree.specs.declared.agent.Agent.{Agent}
use Rattle.golog_semantics.specs.Text.{Text, head_text, start_line, with_line_feed}
use Rattle.golog_semantics.specs.Truth.{Values}
use Rattle.golog_text.specs.Heads.{start_lines}

module _ (agent : Agent) (values : Values) where
  -- the line of a ground fluent, with its line feed
  abbrev full_start : ℕ → ℕ → Text
  full_start fluent value = with_line_feed agent (start_line agent (fluent, value))

  -- the lines of these values, the first of which is that of the ground fluent of this number
  abbrev of_values : ℕ → List ℕ → Text
  of_values fluent vs = flat_map (with_line_feed agent) (map (start_line agent) (enumerate_from fluent vs))

  -- the lines from a ground fluent on
  abbrev pub starts_from : ℕ → Text
  starts_from fluent = of_values fluent (drop fluent values)

  pub no_starts : (fluent : ℕ) → length values ≤ fluent → starts_from fluent ≡ []
  no_starts fluent h = ap (of_values fluent) (drop_all fluent values h)

  module _ (fluent : ℕ) (inside : fluent < length values) where
    split : starts_from fluent ≡ full_start fluent (get_or values fluent 0) ++ starts_from (fluent + 1)
    split =
        ap (of_values fluent) (drop-cons values fluent 0 inside)
        ∙ ap (λ n. full_start fluent (get_or values fluent 0) ++ of_values (fluent + 1) (drop n values)) (sym (add-one fluent))

    -- the text so far and the lines to come are the whole text still
    pub starts_go_on : (text new whole : Text) → text ++ starts_from fluent ≡ whole
        → new ≡ text ++ with_line_feed agent (start_line agent (fluent, get_or values fluent 0)) → new ++ starts_from (fluent + 1) ≡ whole
    starts_go_on text new whole w n =
        let line = full_start fluent (get_or values fluent 0) in
        ap (λ t. t ++ starts_from (fluent + 1)) n ∙ append_assoc text line (starts_from (fluent + 1)) ∙ ap (λ t. text ++ t) (sym split) ∙ w

  -- a head is its first line, those of the values, and its last
  pub head_parts : (text : Text) → ((text ++ (codes "golog 2" ++ 10 ∷ [])) ++ start_lines agent values) ++ (codes "begin" ++ 10 ∷ []) ≡ text ++ head_text agent values
  unfolding head_text start_lines
  head_parts text =
      let first = codes "golog 2" ++ 10 ∷ [] in
      let last = codes "begin" ++ 10 ∷ [] in
      let lines = of_values 0 values in
      append_assoc (text ++ first) lines last ∙ append_assoc text first (lines ++ last)
      ∙ ap (λ t. text ++ (first ++ t)) (sym (flat_map-append (with_line_feed agent) (map (start_line agent) (enumerate_from 0 values)) (codes "begin" ∷ [])))
