-- Boards' lists: one more entry, and what each of them is so of.
use Rattle.std.proofs.Common.{◌≡◌, ℕ, ◌+◌, ◌≤◌, Bool, true, false, ◌&&◌, if◌then◌else◌, List, [], ◌∷◌, ◌++◌, length, length-append, refl, sym, ap, ◌∙◌, Some, None, arith}
use Rattle.std.specs.Prelude.{filter_map}
use Rattle.std.specs.List.{list_any, list_all, enumerate_from, cons_option}
use Rattle.std.proofs.lemmas.Bool.{and_parts, and_from, or_from, ne_eqb}
use Rattle.std.proofs.lemmas.List.Folds.{list_all-append}
use Rattle.std.proofs.lemmas.List.Sums.{sum_by-cons, sum_by_push}
use Rattle.golog_tree.specs.declared.agent.Agent.{Agent}
use Rattle.golog_semantics.specs.declared.journal.Entry.{Entry}
use Rattle.golog_semantics.specs.declared.journal.Entry.TheVariants.{Do, Test, Exo, Sense, Rest, Close, End}
use Rattle.golog_semantics.specs.Journal.{Journal, command_at, commands, is_carried_by, is_counted, count, limit, is_result_of}
use Rattle.golog_semantics.specs.Text.{at_each}
use Rattle.golog_semantics.specs.Online.{is_result, keeps_after, keeps_poster, keeps_place, keeps_taken, keeps_close}
use Rattle.golog_semantics.specs.Reports.{fits_entry, is_device, is_value}
use Rattle.golog_semantics.proofs.Pushed.{at_each-push}
use Rattle.golog_semantics.proofs.Fits.{answers}
use Rattle.golog_journal.specs.Boards.{is_lawful, IsBoardList}

-- one more in a count
pub count-push : (journal : Journal) (e : Entry) → count (journal ++ e ∷ []) ≡ count journal + (if is_counted e then 1 else 0)
count-push journal e = sum_by_push (λ x. if is_counted x then 1 else 0) journal e

module _ (agent : Agent) where
  abbrev all : List Bool → Bool
  all bs = list_all (λ b. b) bs

  all-push : (journal : Journal) (e : Entry)
      → all (at_each (is_lawful agent) [] (journal ++ e ∷ [])) ≡ (all (at_each (is_lawful agent) [] journal) && (is_lawful agent journal e && true))
  all-push journal e =
      ap all (at_each-push (is_lawful agent) journal e)
      ∙ list_all-append (λ b. b) (at_each (is_lawful agent) [] journal) (is_lawful agent journal e ∷ [])

  -- a lawful entry, where it is not one too many
  pub lawful-push : (journal : Journal) (e : Entry) → IsBoardList agent journal → is_lawful agent journal e ≡ true → count (journal ++ e ∷ []) ≤ limit
      → IsBoardList agent (journal ++ e ∷ [])
  lawful-push journal e is lawful room = record {
    lawful = all-push journal e ∙ and_from _ _ is.lawful (and_from _ _ lawful refl);
    room = room;
  }

  -- the last entry was lawful
  pub lawful-last : (journal : Journal) (e : Entry) → IsBoardList agent (journal ++ e ∷ []) → is_lawful agent journal e ≡ true
  lawful-last journal e is =
      let h : (all (at_each (is_lawful agent) [] journal) && (is_lawful agent journal e && true)) ≡ true = sym (all-push journal e) ∙ is.lawful in
      (and_parts (is_lawful agent journal e) true (and_parts (all (at_each (is_lawful agent) [] journal)) (is_lawful agent journal e && true) h).1).0

  -- and so were those before it
  pub lawful-front : (journal : Journal) (e : Entry) → IsBoardList agent (journal ++ e ∷ []) → IsBoardList agent journal
  lawful-front journal e is = record {
    lawful =
        let h : (all (at_each (is_lawful agent) [] journal) && (is_lawful agent journal e && true)) ≡ true = sym (all-push journal e) ∙ is.lawful in
        (and_parts (all (at_each (is_lawful agent) [] journal)) (is_lawful agent journal e && true) h).0;
    room = let k = count-push journal e in let r = is.room in omega (arith, k, r);
  }

  -- what it says of an entry that it is lawful
  pub record Lawful (before : Journal) (e : Entry) : Type 0 where
    pub of_agent : fits_entry agent before e ≡ true
    pub after : keeps_after agent before e ≡ true
    pub poster : keeps_poster agent before e ≡ true
    pub place : keeps_place agent before e ≡ true
    pub taken : keeps_taken agent before e ≡ true
    pub close : keeps_close agent before e ≡ true

  pub lawful-parts : (before : Journal) (e : Entry) → is_lawful agent before e ≡ true → Lawful before e
  lawful-parts before e h =
      let five = and_parts (fits_entry agent before e && keeps_after agent before e && keeps_poster agent before e && keeps_place agent before e && keeps_taken agent before e) (keeps_close agent before e) h in
      let four = and_parts (fits_entry agent before e && keeps_after agent before e && keeps_poster agent before e && keeps_place agent before e) (keeps_taken agent before e) five.0 in
      let three = and_parts (fits_entry agent before e && keeps_after agent before e && keeps_poster agent before e) (keeps_place agent before e) four.0 in
      let two = and_parts (fits_entry agent before e && keeps_after agent before e) (keeps_poster agent before e) three.0 in
      let one = and_parts (fits_entry agent before e) (keeps_after agent before e) two.0 in
      record { of_agent = one.0; after = one.1; poster = two.1; place = three.1; taken = four.1; close = five.1 }

  pub lawful-from : (before : Journal) (e : Entry) → Lawful before e → is_lawful agent before e ≡ true
  lawful-from before e l =
      and_from _ (keeps_close agent before e)
      (and_from _ (keeps_taken agent before e)
      (and_from _ (keeps_place agent before e)
      (and_from _ (keeps_poster agent before e) (and_from (fits_entry agent before e) (keeps_after agent before e) l.of_agent l.after) l.poster)
      l.place)
      l.taken)
      l.close

  -- a result is of an earlier command
  pub result-before : (before : Journal) (e : Entry) (place : ℕ) → is_lawful agent before e ≡ true → length before ≤ place → is_result_of place e ≡ false
  result-before before (Sense poster at fluent value) place h past =
      let fitting = (lawful-parts before (Sense poster at fluent value) h).of_agent in
      let a = answers agent poster at fluent before (and_parts (is_device agent poster && is_value agent fluent value) (list_any (is_result agent before at fluent) (commands agent poster before)) fitting).1 in
      let is = a.place_is in
      let inside = a.inside in
      ne_eqb at place (λ same. omega (arith, is, inside, same, past))
  result-before before (Do action) place h past = refl
  result-before before Test place h past = refl
  result-before before (Exo poster action) place h past = refl
  result-before before (Rest poster taken) place h past = refl
  result-before before (Close poster reason taken) place h past = refl
  result-before before (End answer) place h past = refl

  results-from : (before journal : Journal) → all (at_each (is_lawful agent) before journal) ≡ true
      → (place : ℕ) → length before + length journal ≤ place → list_any (is_result_of place) journal ≡ false
  results-from before [] h place past = refl
  results-from before (e ∷ journal) h place past =
      let parts = and_parts (is_lawful agent before e) (all (at_each (is_lawful agent) (before ++ e ∷ []) journal)) h in
      let longer = length-append before (e ∷ []) in
      or_from _ _ (result-before before e place parts.0 (omega (arith, past)))
      (results-from (before ++ e ∷ []) journal parts.1 place (omega (arith, past, longer)))

  -- no result is of a place where no entry stands yet
  pub results-within : (journal : Journal) → IsBoardList agent journal → (place : ℕ) → length journal ≤ place → list_any (is_result_of place) journal ≡ false
  results-within journal is place past = results-from [] journal is.lawful place (omega (arith, past))

  module _ (device : ℕ) where
    few-from : (n : ℕ) (journal : Journal) → length (filter_map (command_at agent device) (enumerate_from n journal)) ≤ count journal
    few-from n [] = omega arith
    few-from n (Do action ∷ journal) =
        let few = few-from (n + 1) journal in
        let more = sum_by-cons (λ x. if is_counted x then 1 else 0) (Do action) journal in
        go (is_carried_by agent device action) few more
      where
        go : (b : Bool) → length (filter_map (command_at agent device) (enumerate_from (n + 1) journal)) ≤ count journal
            → count (Do action ∷ journal) ≡ 1 + count journal
            → length (cons_option (if b then Some (record { place = n; action = action }) else None) (filter_map (command_at agent device) (enumerate_from (n + 1) journal))) ≤ count (Do action ∷ journal)
        go true few more = omega (arith, few, more)
        go false few more = omega (arith, few, more)
    few-from n (Test ∷ journal) =
        let few = few-from (n + 1) journal in let more = sum_by-cons (λ x. if is_counted x then 1 else 0) Test journal in omega (arith, few, more)
    few-from n (Exo poster action ∷ journal) =
        let few = few-from (n + 1) journal in let more = sum_by-cons (λ x. if is_counted x then 1 else 0) (Exo poster action) journal in omega (arith, few, more)
    few-from n (Sense poster place fluent value ∷ journal) =
        let few = few-from (n + 1) journal in let more = sum_by-cons (λ x. if is_counted x then 1 else 0) (Sense poster place fluent value) journal in omega (arith, few, more)
    few-from n (Rest poster taken ∷ journal) =
        let few = few-from (n + 1) journal in let more = sum_by-cons (λ x. if is_counted x then 1 else 0) (Rest poster taken) journal in omega (arith, few, more)
    few-from n (Close poster reason taken ∷ journal) =
        let few = few-from (n + 1) journal in let more = sum_by-cons (λ x. if is_counted x then 1 else 0) (Close poster reason taken) journal in omega (arith, few, more)
    few-from n (End answer ∷ journal) =
        let few = few-from (n + 1) journal in let more = sum_by-cons (λ x. if is_counted x then 1 else 0) (End answer) journal in omega (arith, few, more)

    -- a device has no more commands than entries are counted
    pub commands-few : (journal : Journal) → length (commands agent device journal) ≤ count journal
    commands-few journal = few-from 0 journal
