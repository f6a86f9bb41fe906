-- The text of the rounds, and of what goes only a part of that way.
use Rattle.std.proofs.Common.{◌≡◌, ℕ, suc, List, [], ◌∷◌, ◌++◌, Option, length, map, refl, sym, ap, ◌∙◌, subst, append_assoc, arith}
use Rattle.std.specs.Prelude.{codes, decimal}
use Rattle.std.specs.List.{flat_map}
use Rattle.golog_tree.specs.declared.agent.Agent.{Agent}
use Rattle.golog_semantics.specs.declared.journal.Entry.{Entry}
use Rattle.golog_semantics.specs.declared.journal.Entry.TheVariants.{End}
use Rattle.golog_semantics.specs.declared.journal.Answer.{Answer}
use Rattle.golog_semantics.specs.declared.journal.PlacedRun.{PlacedRun}
use Rattle.golog_semantics.specs.Journal.{Journal}
use Rattle.golog_semantics.specs.Inline.{inline_journal}
use Rattle.golog_semantics.specs.InlineText.{begun_runs, report_of, new_scripted}
use Rattle.golog_semantics.specs.Dealt.{Script}
use Rattle.golog_semantics.specs.Restart.{started}
use Rattle.golog_semantics.specs.Text.{Text, answer_text, at_each, line_text, report_text, with_line_feed}
use Rattle.golog_semantics.specs.Truth.{Values}
use Rattle.golog_semantics.specs.Execution.{Ends, status_of}
use Rattle.golog_semantics.proofs.LaterRuns.{at_each-same}
use Rattle.golog_lead.specs.Short.{IsShort}
use Rattle.golog_lead.proofs.WrittenLines.{at_each-append, line-same}
use Rattle.golog_commands.specs.Runs.{IsInline, IsCutShort, head_of}

-- ---- lines

length-each : {A : Type 0} (say : Journal → Entry → A) (before xs : Journal) → length (at_each say before xs) ≡ length xs
length-each say before [] = refl
length-each say before (x ∷ xs) = ap suc (length-each say (before ++ x ∷ []) xs)

module _ (agent : Agent) where
  -- the lines of these entries, as they stand in the text of a whole journal
  abbrev lines : Journal → Journal → Journal → List Text
  lines whole before journal = at_each (line_text agent (begun_runs agent whole)) before journal

  -- a line depends on the runs before it alone
  lines-same : (xs ys : Journal) → lines (xs ++ ys) [] xs ≡ lines xs [] xs
  lines-same xs ys =
      at_each-same (line_text agent (begun_runs agent (xs ++ ys))) (line_text agent (begun_runs agent xs)) (length xs) (line-same agent xs ys) [] xs (omega arith)

  text-of-lines : (journal : Journal) → report_text agent (report_of agent journal) ≡ flat_map (with_line_feed agent) (lines journal [] journal)
  unfolding report_text
  text-of-lines journal = refl

  end-line : (runs : List PlacedRun) (before : Journal) (a : Answer)
      → line_text agent runs before (End a) ≡ decimal (length (lines before [] before)) ++ (codes " end " ++ answer_text a)
  end-line runs before a =
      append_assoc (decimal (length before)) (codes " ") (codes "end " ++ answer_text a)
      ∙ ap (λ n. decimal n ++ (codes " end " ++ answer_text a)) (sym (length-each (line_text agent (begun_runs agent before)) [] before))

  text-of-both : (before later : Journal)
      → report_text agent (report_of agent (before ++ later)) ≡ flat_map (with_line_feed agent) (lines before [] before ++ lines (before ++ later) before later)
  text-of-both before later =
      text-of-lines (before ++ later)
      ∙ ap (flat_map (with_line_feed agent))
      (at_each-append (line_text agent (begun_runs agent (before ++ later))) [] before later
      ∙ ap (λ ls. ls ++ lines (before ++ later) before later) (lines-same before later))

-- The same behind the head of a journal with this start.
module _ (own : Agent) (start : Option Values) where
  abbrev again : Agent
  again = started own start

  -- a journal that goes the first part of the way and then ends for want of memory or of fuel
  pub cut-short : (scripts : List Script) (before later closings : Journal) (text : Text) (a : Answer)
      → inline_journal again (map new_scripted scripts) ≡ before ++ later → IsShort a
      → text ≡ head_of own start ++ report_text again (report_of again (before ++ End a ∷ closings))
      → IsCutShort own start scripts text (status_of a)
  cut-short scripts before later closings text a whole short is = record {
    before = lines again before [] before;
    later = lines again (before ++ later) before later;
    closings = lines again (before ++ End a ∷ closings) (before ++ End a ∷ []) closings;
    whole = ap (λ j. report_text again (report_of again j)) whole ∙ text-of-both again before later;
    answer = a;
    short = short;
    is =
        is
        ∙ ap (λ t. head_of own start ++ t)
        (text-of-both again before (End a ∷ closings)
        ∙ ap (λ l. flat_map (with_line_feed own) (lines again before [] before ++ l ∷ lines again (before ++ End a ∷ closings) (before ++ End a ∷ []) closings))
        (end-line again (begun_runs again (before ++ End a ∷ closings)) before a));
    shown = refl;
  }

  -- a journal that goes all the way
  pub all-the-way : (scripts : List Script) (journal : Journal) (text : Text) (status : ℕ)
      → journal ≡ inline_journal again (map new_scripted scripts) → text ≡ head_of own start ++ report_text again (report_of again journal)
      → Ends journal status → IsInline own start scripts text status
  all-the-way scripts journal text status all is ends = record {
    is = is ∙ ap (λ j. head_of own start ++ report_text again (report_of again j)) all;
    ended = subst (λ j. Ends j status) all ends;
  }
