-- The lines of a trace, those so far and those to come.
use Rattle.std.proofs.Common.{◌≡◌, ℕ, suc, ◌+◌, ◌<◌, ◌≤◌, List, [], ◌∷◌, ◌++◌, take, drop, length, get_or, refl, sym, ap, ◌∙◌, add-one, arith}
use Rattle.std.specs.Prelude.{All}
use Rattle.std.proofs.Math.Seq.{drop-cons}
use Rattle.std.proofs.lemmas.List.{append_assoc, append-nil, drop_all}
use Rattle.golog_tree.specs.declared.agent.Agent.{Agent}
use Rattle.golog_semantics.specs.declared.journal.Entry.{Entry}
use Rattle.golog_semantics.specs.declared.journal.PlacedRun.{PlacedRun}
use Rattle.golog_semantics.specs.Journal.{Journal}
use Rattle.golog_semantics.specs.Progress.{after_entry, values_after}
use Rattle.golog_semantics.specs.Text.{Text, run_at}
use Rattle.golog_semantics.specs.Truth.{Values}
use Rattle.golog_progress.specs.Entries.{EntriesFit}
use Rattle.golog_progress.proofs.Rolled.{fold-more}
use Rattle.golog_text.specs.Filled.{full_line}
use Rattle.golog_text.specs.Named.{IsNamed}
use Rattle.golog_text.proofs.RunsBehind.{from_place, same_run}
use Rattle.golog_text.proofs.Things.{named_fits}
use Rattle.golog_trace.specs.Changes.{change_lines}
use Rattle.golog_trace.specs.Traced.{entries_text, entry_text}

module _ (agent : Agent) (runs : List PlacedRun) (entries : Journal) where
  -- the lines of the entries from this place on, given the values before them
  abbrev pub rest : ℕ → Values → Text
  rest place values = entries_text agent runs place values (drop place entries)

  -- the whole is told, once no entry is to come
  pub all_told : (place : ℕ) (values : Values) (text whole : Text) → length entries ≤ place → text ++ rest place values ≡ whole → text ≡ whole
  all_told place values text whole h w =
      sym (append-nil text) ∙ ap (λ t. text ++ t) (sym (ap (entries_text agent runs place values) (drop_all place entries h))) ∙ w

  module _ (place : ℕ) (d : Entry) (inside : place < length entries) (values : Values) where
    abbrev e : Entry
    e = get_or entries place d

    split : rest place values ≡ entry_text agent runs place values e ++ rest (place + 1) (after_entry agent values e)
    split =
        ap (entries_text agent runs place values) (drop-cons entries place d inside)
        ∙ ap (λ n. entry_text agent runs place values e ++ entries_text agent runs n (after_entry agent values e) (drop n entries)) (sym (add-one place))

    line-is : (here : List PlacedRun) → here ≡ from_place place runs → entry_text agent here place values e ≡ entry_text agent runs place values e
    line-is here k =
        ap (λ run. full_line agent place values run e ++ change_lines agent values e (after_entry agent values e)) (ap (λ rs. run_at rs place) k ∙ same_run place runs)

    -- the text so far and the lines to come are the whole text still
    pub told_on : (here : List PlacedRun) (text new whole : Text) → here ≡ from_place place runs → text ++ rest place values ≡ whole → new ≡ text ++ entry_text agent here place values e
        → new ++ rest (place + 1) (after_entry agent values e) ≡ whole
    told_on here text new whole k w n =
        ap (λ t. t ++ rest (place + 1) (after_entry agent values e)) (n ∙ ap (λ t. text ++ t) (line-is here k))
        ∙ append_assoc text (entry_text agent runs place values e) (rest (place + 1) (after_entry agent values e))
        ∙ ap (λ t. text ++ t) (sym split) ∙ w

-- the values after one more entry
pub more-values : (agent : Agent) (entries : Journal) (place : ℕ) (d : Entry) (values : Values) → place < length entries → values ≡ values_after agent (take place entries)
    → after_entry agent values (get_or entries place d) ≡ values_after agent (take (place + 1) entries)
more-values agent entries place d values inside h =
    ap (λ vs. after_entry agent vs (get_or entries place d)) h ∙ sym (fold-more (after_entry agent) agent.starts entries place d inside)

-- entries that name the agent's things have values after them
pub entries-fit : (agent : Agent) (entries : Journal) → All (IsNamed agent) entries → EntriesFit agent entries
entries-fit agent [] h = tt
entries-fit agent (e ∷ entries) h = (named_fits agent e (h 0 e (omega arith)), entries-fit agent entries (λ k d inside. h (suc k) d (omega (arith, inside))))
