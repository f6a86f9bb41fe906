-- The facts of a journal with one more entry.
use Rattle.std.proofs.Common.{◌≡◌, ℕ, ◌+◌, ◌≤◌, Bool, true, false, not, IsTrue, ◌&&◌, ◌||◌, if◌then◌else◌, List, [], ◌∷◌, ◌++◌, length, filter, refl, sym, ap, ◌∙◌, Option, Some, None, arith, subst, suc, add-zero, zero-add}
use Rattle.std.specs.Prelude.{filter_map, nat_le}
use Rattle.std.specs.List.{list_any, enumerate_from, flat_map, cons_option}
use Rattle.std.proofs.lemmas.Bool.{leb-true, le-leb}
use Rattle.std.specs.Option.{option_map_or, option_or, option_to_list}
use Rattle.std.proofs.lemmas.List.Elements.{filter-append, filter_map-append}
use Rattle.std.proofs.lemmas.List.Folds.{list_any-append}
use Rattle.std.proofs.lemmas.Grind.{flat_map-append}
use Rattle.std.proofs.lemmas.List.{append-nil}
use Rattle.golog_base.proofs.Bools.{and-true, or-false}
use Rattle.golog_tree.specs.declared.agent.Agent.{Agent}
use Rattle.golog_semantics.specs.declared.journal.Entry.{Entry}
use Rattle.golog_semantics.specs.declared.journal.PlacedRun.{PlacedRun}
use Rattle.golog_semantics.specs.Journal.{Journal, Command, command_at, commands, is_posted_by, entries_by, is_close, is_end, is_counted, count, limit, last_of, is_result_of, is_outstanding, outstanding_commands, is_rest_after, is_sensing}
use Rattle.golog_semantics.specs.Text.{at_each, line_text, with_line_feed, report_text}
use Rattle.golog_semantics.specs.Online.{fault_at, first_fault, IsOnlineSoFar}
use Rattle.golog_semantics.specs.OneMore.{and_then, with_runs, EntriesGrow, PostsGrow, ProgressGrows, new_command, CommandsGrow, ReportGrows}
use Rattle.golog_semantics.proofs.Pushed.{fold-push, values_after-push, left_after-push, at_each-push, first_fault-push, or-left, or-right}
use Rattle.golog_semantics.proofs.NoFaults.{no-fault-so_far, so_far-no-fault}

any-push : {A : Type 0} (p : A → Bool) (xs : List A) (x : A) → list_any p (xs ++ x ∷ []) ≡ (list_any p xs || p x)
any-push p xs x = list_any-append p xs (x ∷ []) ∙ ap (λ b. list_any p xs || b) (or-false (p x))

filter-one : {A : Type 0} (p : A → Bool) (x : A) → filter p (x ∷ []) ≡ (if p x then x ∷ [] else [])
filter-one p x = go (p x) refl
  where
    go : (b : Bool) → p x ≡ b → filter p (x ∷ []) ≡ (if p x then x ∷ [] else [])
    go true e = refl
    go false e = refl

de_morgan : (a b : Bool) → not (a || b) ≡ (not a && not b)
de_morgan true b = refl
de_morgan false b = refl

and_not_or : (a b c : Bool) → (a && not (b || c)) ≡ ((a && not b) && not c)
and_not_or true b c = de_morgan b c
and_not_or false b c = refl

enumerate-push : {A : Type 0} (n : ℕ) (xs : List A) (x : A) → enumerate_from n (xs ++ x ∷ []) ≡ enumerate_from n xs ++ (n + length xs, x) ∷ []
enumerate-push n [] x = ap (λ k. (k, x) ∷ []) (sym (add-zero n))
enumerate-push n (y ∷ xs) x =
    ap (λ es. (n, y) ∷ es) (enumerate-push (n + 1) xs x)
    ∙ ap (λ k. (n, y) ∷ (enumerate_from (n + 1) xs ++ (k, x) ∷ [])) (let k : (n + 1) + length xs ≡ n + suc (length xs) = omega arith in k)

filter_map-one : {A B : Type 0} (f : A → Option B) (x : A) → filter_map f (x ∷ []) ≡ option_to_list (f x)
filter_map-one {B = B} f x = go (f x) refl
  where
    go : (o : Option B) → f x ≡ o → cons_option (f x) [] ≡ option_to_list (f x)
    go None e = rw e refl
    go (Some y) e = rw e refl

filter-both : {A : Type 0} (p q r : A → Bool) → ((x : A) → p x ≡ (q x && r x)) → (xs : List A) → filter p xs ≡ filter r (filter q xs)
filter-both p q r h [] = refl
filter-both p q r h (x ∷ xs) = go (q x) (r x) refl refl (filter-both p q r h xs)
  where
    go : (b c : Bool) → q x ≡ b → r x ≡ c → filter p xs ≡ filter r (filter q xs) → filter p (x ∷ xs) ≡ filter r (filter q (x ∷ xs))
    go true true e k same = rw (h x, e, k) (ap (λ ys. x ∷ ys) same)
    go true false e k same = rw (h x, e, k) same
    go false c e k same = rw (h x, e) same

le-trans : (a b c : ℕ) → IsTrue (nat_le a b) → IsTrue (nat_le a (b + c))
le-trans a b c h = le-leb a (b + c) (let k : a ≤ b = leb-true a b h in omega arith)

module _ (journal : Journal) (e : Entry) where
  count-push : count (and_then journal e) ≡ count journal + (if is_counted e then 1 else 0)
  count-push = fold-push _ 0 journal e

  pub entries_grow : EntriesGrow journal e
  entries_grow = record {
    end = any-push is_end journal e;
    counted = count-push;
    full = λ h. subst (λ n. IsTrue (nat_le limit n)) (sym count-push) (le-trans limit (count journal) _ h);
    last = fold-push _ None journal e;
  }

  module _ (device : ℕ) where
    pub posted-push : entries_by device (and_then journal e) ≡ entries_by device journal ++ (if is_posted_by device e then e ∷ [] else [])
    posted-push = filter-append (is_posted_by device) journal (e ∷ []) ∙ ap (λ es. entries_by device journal ++ es) (filter-one (is_posted_by device) e)

    any-if : {A : Type 0} (p : A → Bool) (xs : List A) (b : Bool) (x : A) → not (list_any p (xs ++ (if b then x ∷ [] else []))) ≡ (not (list_any p xs) && not (b && p x))
    any-if p xs true x = ap not (any-push p xs x) ∙ de_morgan (list_any p xs) (p x)
    any-if p xs false x = ap (λ ys. not (list_any p ys)) (append-nil xs) ∙ sym (and-true (not (list_any p xs)))

    pub posts_grow : PostsGrow journal e device
    posts_grow = record {
      all = posted-push;
      open_still = ap (λ es. not (list_any is_close es)) posted-push ∙ any-if is_close (entries_by device journal) (is_posted_by device e) e;
    }

module _ (agent : Agent) (journal : Journal) (e : Entry) where
  pub progress_grows : ProgressGrows agent journal e
  progress_grows = record { values = values_after-push agent journal e; left = left_after-push agent journal e }

  module _ (device : ℕ) where
    pub commands-push : commands agent device (and_then journal e) ≡ commands agent device journal ++ new_command agent journal e device
    commands-push =
        ap (filter_map (command_at agent device)) (enumerate-push 0 journal e ∙ ap (λ n. enumerate_from 0 journal ++ (n, e) ∷ []) (zero-add (length journal)))
        ∙ filter_map-append (command_at agent device) (enumerate_from 0 journal) ((length journal, e) ∷ [])
        ∙ ap (λ cs. commands agent device journal ++ cs) (filter_map-one (command_at agent device) (length journal, e))

    outstanding-each : (c : Command) → is_outstanding agent (and_then journal e) c ≡ (is_outstanding agent journal c && not (is_result_of c.place e))
    outstanding-each c =
        ap (λ b. is_sensing agent c.action && not b) (any-push (is_result_of c.place) journal e)
        ∙ and_not_or (is_sensing agent c.action) (list_any (is_result_of c.place) journal) (is_result_of c.place e)

    outstanding-push : outstanding_commands agent device (and_then journal e)
        ≡ filter (λ c. not (is_result_of c.place e)) (outstanding_commands agent device journal) ++ filter (is_outstanding agent (and_then journal e)) (new_command agent journal e device)
    outstanding-push =
        ap (filter (is_outstanding agent (and_then journal e))) commands-push
        ∙ filter-append (is_outstanding agent (and_then journal e)) (commands agent device journal) (new_command agent journal e device)
        ∙ ap (λ cs. cs ++ filter (is_outstanding agent (and_then journal e)) (new_command agent journal e device))
        (filter-both (is_outstanding agent (and_then journal e)) (is_outstanding agent journal) (λ c. not (is_result_of c.place e)) outstanding-each (commands agent device journal))

    last-if : (f : Entry → Bool) (xs : Journal) (b : Bool) → option_map_or f (last_of (xs ++ (if b then e ∷ [] else []))) false ≡ (if b then f e else option_map_or f (last_of xs) false)
    last-if f xs true = ap (λ o. option_map_or f o false) (fold-push _ None xs e)
    last-if f xs false = ap (λ ys. option_map_or f (last_of ys) false) (append-nil xs)

    pub commands_grow : CommandsGrow agent journal e device
    commands_grow = record {
      all = commands-push;
      each = outstanding-each;
      waiting = outstanding-push;
      rest = ap (λ es. option_map_or (is_rest_after (length (commands agent device (and_then journal e)))) (last_of es) false) (posted-push journal e device)
          ∙ last-if (is_rest_after (length (commands agent device (and_then journal e)))) (entries_by device journal) (is_posted_by device e);
    }

  module _ (runs : List PlacedRun) where
    text-push : report_text agent (with_runs runs (and_then journal e)) ≡ report_text agent (with_runs runs journal) ++ with_line_feed agent (line_text agent runs journal e)
    unfolding report_text
    text-push =
        ap (flat_map (with_line_feed agent)) (at_each-push (line_text agent runs) journal e)
        ∙ flat_map-append (with_line_feed agent) (at_each (line_text agent runs) [] journal) (line_text agent runs journal e ∷ [])
        ∙ ap (λ ys. report_text agent (with_runs runs journal) ++ ys) (append-nil (with_line_feed agent (line_text agent runs journal e)))

    was-none : IsOnlineSoFar agent (with_runs runs (and_then journal e))
        → option_or (first_fault agent None (with_runs runs journal)) (fault_at agent None runs journal e) ≡ None
    was-none h = sym (first_fault-push agent None runs journal e) ∙ no-fault-so_far agent (with_runs runs (and_then journal e)) h

    still-none : first_fault agent None (with_runs runs journal) ≡ None → fault_at agent None runs journal e ≡ None
        → first_fault agent None (with_runs runs (and_then journal e)) ≡ None
    still-none h k = first_fault-push agent None runs journal e ∙ ap (λ o. option_or o (fault_at agent None runs journal e)) h ∙ k

    pub report_grows : ReportGrows agent journal e runs
    report_grows = record {
      online = λ h k. so_far-no-fault agent (with_runs runs (and_then journal e)) (still-none (no-fault-so_far agent (with_runs runs journal) h) k);
      was_online = λ h. so_far-no-fault agent (with_runs runs journal)
          (or-left (first_fault agent None (with_runs runs journal)) (fault_at agent None runs journal e) (was-none h));
      keeps_rules = λ h. or-right (first_fault agent None (with_runs runs journal)) (fault_at agent None runs journal e) (was-none h);
      text = text-push;
    }
