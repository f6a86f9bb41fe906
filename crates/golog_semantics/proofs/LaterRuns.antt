-- Runs that begin past the entries of a journal change neither its text nor its faults; and programs without devices.
use Rattle.std.proofs.Common.{◌≡◌, ℕ, suc, ◌+◌, ◌≤◌, ◌<◌, Bool, true, false, not, if◌then◌else◌, ◌==◌, List, [], ◌∷◌, ◌++◌, length, refl, ap, ◌∙◌, Some, None, arith}
use Rattle.std.specs.Prelude.{find, option_map, decimal, codes}
use Rattle.std.specs.List.{flat_map, range_with_len, list_any, list_all}
use Rattle.std.specs.Option.{option_or}
use Rattle.std.proofs.lemmas.Bool.{eqb-true, eq-eqb}
use Rattle.std.proofs.lemmas.List.{length-append}
use Rattle.std.proofs.lemmas.List.Folds.{find-append}
use Rattle.golog_tree.specs.declared.agent.Agent.{Agent}
use Rattle.golog_semantics.specs.declared.journal.Entry.{Entry}
use Rattle.golog_semantics.specs.declared.journal.PlacedRun.{PlacedRun}
use Rattle.golog_semantics.specs.declared.journal.Report.{Report}
use Rattle.golog_semantics.specs.Journal.{Journal, devices, is_waiting_for}
use Rattle.golog_semantics.specs.Progress.{values_after}
use Rattle.golog_semantics.specs.Text.{at_each, run_at, body_text, line_text, with_line_feed, report_text}
use Rattle.golog_semantics.specs.Online.{first_some, fault_at, first_fault}
use Rattle.golog_semantics.specs.OneMore.{WaitsForNothing, BeginFrom, LaterRuns, BeginBefore, RunsFound, WholeIsOnline}
use Rattle.golog_semantics.proofs.Pushed.{or-none}

-- what is said at each place, where it is the same before this place
module _ {A : Type 0} (say other : Journal → Entry → A) (n : ℕ) (same : (before : Journal) (e : Entry) → length before < n → say before e ≡ other before e) where
  pub at_each-same : (before journal : Journal) → length before + length journal ≤ n → at_each say before journal ≡ at_each other before journal
  at_each-same before [] h = refl
  at_each-same before (e ∷ journal) h =
      let k : length before < n = omega arith in
      let l : length (before ++ e ∷ []) + length journal ≤ n = omega (arith, length-append before (e ∷ [])) in
      (λ i. same before e k i ∷ at_each-same (before ++ e ∷ []) journal l i)

find-later : (later : List PlacedRun) (n k : ℕ) → BeginFrom n later → k < n → find (λ r. r.place == k) later ≡ None
find-later [] n k all h = refl
find-later (r ∷ later) n k all h = go (r.place == k) refl (find-later later n k (λ i d l. all (suc i) d (omega arith)) h)
  where
    go : (b : Bool) → (r.place == k) ≡ b → find (λ r. r.place == k) later ≡ None → find (λ r. r.place == k) (r ∷ later) ≡ None
    go true e none = absurd (let x : r.place ≡ k = eqb-true r.place k e in let y : n ≤ r.place = all 0 r (omega arith) in omega arith)
    go false e none = rw e none

pub run_at-later : (runs later : List PlacedRun) (n k : ℕ) → BeginFrom n later → k < n → run_at (runs ++ later) k ≡ run_at runs k
run_at-later runs later n k all h =
    ap (option_map (λ r. r.labels))
    (find-append (λ r. r.place == k) runs later ∙ ap (λ o. option_or (find (λ r. r.place == k) runs) o) (find-later later n k all h) ∙ or-none (find (λ r. r.place == k) runs))

module _ (agent : Agent) (journal : Journal) (runs later : List PlacedRun) (past : BeginFrom (length journal) later) where
  pub later_runs : LaterRuns agent journal runs later
  unfolding report_text first_fault
  later_runs = record {
    same_text = ap (flat_map (with_line_feed agent)) (at_each-same (line_text agent (runs ++ later)) (line_text agent runs) (length journal) line-same [] journal (omega arith));
    same_fault = ap first_some (at_each-same (fault_at agent None (runs ++ later)) (fault_at agent None runs) (length journal) fault-same [] journal (omega arith));
  }
    where
      line-same : (before : Journal) (e : Entry) → length before < length journal → line_text agent (runs ++ later) before e ≡ line_text agent runs before e
      line-same before e h = ap (λ run. decimal (length before) ++ codes " " ++ body_text agent (values_after agent before) run e) (run_at-later runs later (length journal) (length before) past h)

      fault-same : (before : Journal) (e : Entry) → length before < length journal → fault_at agent None (runs ++ later) before e ≡ fault_at agent None runs before e
      fault-same before e h = rw (run_at-later runs later (length journal) (length before) past h) refl

no_devices : (agent : Agent) → length agent.devices ≡ 0 → devices agent ≡ []
no_devices agent h = ap (range_with_len 0) h

pub waits_for_nothing : (agent : Agent) → length agent.devices ≡ 0 → (journal : Journal) → WaitsForNothing agent journal
waits_for_nothing agent h journal = record {
  settled = ap (λ ds. not (list_any (is_waiting_for agent journal) ds)) (no_devices agent h);
  quiet = ap (list_all _) (no_devices agent h);
  answered = ap (list_any _) (no_devices agent h);
}

find-earlier : (runs : List PlacedRun) (n : ℕ) → BeginBefore n runs → find (λ r. r.place == n) runs ≡ None
find-earlier [] n all = refl
find-earlier (r ∷ runs) n all = go (r.place == n) refl (find-earlier runs n (λ i d l. all (suc i) d (omega arith)))
  where
    go : (b : Bool) → (r.place == n) ≡ b → find (λ r. r.place == n) runs ≡ None → find (λ r. r.place == n) (r ∷ runs) ≡ None
    go true e none = absurd (let x : r.place ≡ n = eqb-true r.place n e in let y : r.place < n = all 0 r (omega arith) in omega arith)
    go false e none = rw e none

pub runs_found : (runs : List PlacedRun) (place : ℕ) → BeginBefore place runs → RunsFound runs place
runs_found runs place all = record {
  none = ap (option_map (λ r. r.labels)) (find-earlier runs place all);
  new = λ labels. let new : PlacedRun = record { place = place; labels = labels } in
      ap (option_map (λ r. r.labels))
      (find-append (λ r. r.place == place) runs (new ∷ [])
      ∙ ap (λ o. option_or o (find (λ r. r.place == place) (new ∷ []))) (find-earlier runs place all)
      ∙ ap (λ b. if b then Some new else None) (eq-eqb place place refl));
}

-- an online execution is one so far that is whole
pub whole_is_online : (agent : Agent) (report : Report) → WholeIsOnline agent report
whole_is_online agent report = record {
  whole = λ h k. record { entries = h.entries; whole = k };
  so_far = λ h. record { entries = h.entries };
  ended = λ h. h.whole;
}
