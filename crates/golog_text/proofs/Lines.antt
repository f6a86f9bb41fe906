-- The lines of a report, those so far and those to come.
use Rattle.std.proofs.Common.{◌≡◌, ℕ, suc, ◌+◌, ◌<◌, ◌≤◌, Option, Some, None, List, [], ◌∷◌, ◌++◌, take, drop, length, get_or, refl, sym, ap, ◌∙◌, arith, add-one}
use Rattle.std.specs.Prelude.{codes, decimal}
use Rattle.std.specs.List.{flat_map}
use Rattle.std.proofs.Math.Seq.{drop-cons, take-suc}
use Rattle.std.proofs.lemmas.List.{append_assoc, append-nil, drop_all, length-take-le}
use Rattle.golog_tree.specs.declared.agent.Agent.{Agent}
use Rattle.golog_semantics.specs.declared.journal.Entry.{Entry}
use Rattle.golog_semantics.specs.declared.journal.PlacedRun.{PlacedRun}
use Rattle.golog_tree.specs.declared.prog.Label.{Label}
use Rattle.golog_semantics.specs.Journal.{Journal}
use Rattle.golog_semantics.specs.Progress.{after_entry, values_after}
use Rattle.golog_semantics.specs.Restart.{started}
use Rattle.golog_semantics.specs.Text.{Text, at_each, body_text, line_text, run_at, with_line_feed}
use Rattle.golog_semantics.specs.Truth.{Values}
use Rattle.golog_progress.proofs.Rolled.{fold-more}
use Rattle.golog_text.specs.Filled.{full_line}
use Rattle.golog_text.proofs.RunsBehind.{from_place, same_run}

-- the agent's start values are not asked for what an entry says, nor for the values after it
same-body : (agent : Agent) (start : Option Values) (values : Values) (run : Option (List Label)) (e : Entry)
    → body_text agent values run e ≡ body_text (started agent start) values run e
same-body agent None values run e = refl
same-body agent (Some own) values run e = refl

same-after : (agent : Agent) (start : Option Values) (values : Values) (e : Entry) → after_entry agent values e ≡ after_entry (started agent start) values e
same-after agent None values e = refl
same-after agent (Some own) values e = refl

-- the lines are those of the agent that starts from this start
module _ (agent : Agent) (start : Option Values) (runs : List PlacedRun) (entries : Journal) where
  abbrev own : Agent
  own = started agent start

  -- the lines from a place on
  abbrev pub lines_from : ℕ → Text
  lines_from place =
      flat_map (with_line_feed own) (at_each (line_text own runs) (take place entries) (drop place entries))

  pub no_lines : (place : ℕ) → length entries ≤ place → lines_from place ≡ []
  no_lines place h = ap (λ es. flat_map (with_line_feed own) (at_each (line_text own runs) (take place entries) es)) (drop_all place entries h)

  module _ (place : ℕ) (default : Entry) (inside : place < length entries) where
    abbrev e : Entry
    e = get_or entries place default

    -- the values after one more entry
    pub next_values : (values : Values) → values ≡ values_after own (take place entries) → after_entry agent values e ≡ values_after own (take (place + 1) entries)
    next_values values h =
        same-after agent start values e ∙ ap (λ vs. after_entry own vs e) h ∙ sym (fold-more (after_entry own) own.starts entries place default inside)

    split : lines_from place ≡ (line_text own runs (take place entries) e ++ 10 ∷ []) ++ lines_from (place + 1)
    split =
        let more : take (suc place) entries ≡ take place entries ++ e ∷ [] = take-suc entries place default inside in
        ap (λ es. flat_map (with_line_feed own) (at_each (line_text own runs) (take place entries) es)) (drop-cons entries place default inside)
        ∙ ap (λ es. (line_text own runs (take place entries) e ++ 10 ∷ []) ++ flat_map (with_line_feed own) (at_each (line_text own runs) es (drop (suc place) entries))) (sym more)
        ∙ ap (λ n. (line_text own runs (take place entries) e ++ 10 ∷ []) ++ lines_from n) (sym (add-one place))

    -- the line of the entry, by the values before it and the runs from its place on
    line-is : (here : List PlacedRun) (values : Values) → here ≡ from_place place runs → values ≡ values_after own (take place entries)
        → decimal place ++ codes " " ++ body_text agent values (run_at here place) e ≡ line_text own runs (take place entries) e
    line-is here values k h =
        let at : length (take place entries) ≡ place = length-take-le place entries (omega (arith, inside)) in
        let run = ap (λ rs. run_at rs place) k ∙ same_run place runs in
        ap (λ b. decimal place ++ codes " " ++ b) (same-body agent start values (run_at here place) e)
        ∙ (λ i. decimal place ++ codes " " ++ body_text own (h i) (run i) e)
        ∙ ap (λ n. decimal n ++ codes " " ++ body_text own (values_after own (take place entries)) (run_at runs n) e) (sym at)

    -- the text so far and the lines to come are the whole text still
    pub lines_go_on : (here : List PlacedRun) (values : Values) (text new whole : Text)
        → here ≡ from_place place runs → values ≡ values_after own (take place entries)
        → text ++ lines_from place ≡ whole
        → new ≡ text ++ full_line agent place values (run_at here place) e
        → new ++ lines_from (place + 1) ≡ whole
    lines_go_on here values text new whole k h w n =
        let line = line_text own runs (take place entries) e in
        ap (λ t. t ++ lines_from (place + 1)) (n ∙ ap (λ l. text ++ (l ++ 10 ∷ [])) (line-is here values k h))
        ∙ append_assoc text (line ++ 10 ∷ []) (lines_from (place + 1))
        ∙ ap (λ t. text ++ t) (sym split)
        ∙ w

-- the whole text, once no line is to come
pub whole_text : (text lines whole : Text) → text ++ lines ≡ whole → lines ≡ [] → text ≡ whole
whole_text text lines whole w h = sym (append-nil text) ∙ ap (λ t. text ++ t) (sym h) ∙ w
