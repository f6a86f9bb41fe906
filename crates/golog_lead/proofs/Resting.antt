-- A device at rest has no result outstanding: its Rest told that the results of all its commands had come.
use Rattle.std.proofs.Common.{◌≡◌, ℕ, ◌+◌, ◌≤◌, Bool, true, false, not, ◌&&◌, ◌==◌, if◌then◌else◌, Option, Some, None, List, [], ◌∷◌, ◌++◌, length, length-append, take, refl, sym, ap, ◌∙◌, subst, arith, append_assoc}
use Rattle.std.specs.Prelude.{nat_le}
use Rattle.std.specs.List.{list_any, list_all}
use Rattle.std.specs.Option.{option_map_or}
use Rattle.std.proofs.lemmas.Bool.{and_parts, or_parts, or_from, not-true, leb-true, eqb-true}
use Rattle.std.proofs.lemmas.List.{append-nil, take-append-le, take_all}
use Rattle.golog_tree.specs.declared.agent.Agent.{Agent}
use Rattle.golog_semantics.specs.declared.journal.Entry.{Entry}
use Rattle.golog_semantics.specs.declared.journal.Entry.TheVariants.{Do, Test, Exo, Sense, Rest, Close, End}
use Rattle.golog_semantics.specs.Journal.{Journal, Command, commands, is_outstanding, is_posted_by, is_rest_after, is_at_rest, is_result_of, last_of, outstanding_commands, entries_by}
use Rattle.golog_semantics.specs.Text.{at_each}
use Rattle.golog_semantics.specs.Online.{may_have_taken}
use Rattle.golog_semantics.specs.OneMore.{new_command}
use Rattle.golog_semantics.proofs.Pushed.{fold-push}
use Rattle.golog_semantics.proofs.Grown.{commands_grow, posted-push, commands-push}
use Rattle.golog_journal.specs.Boards.{is_lawful, IsBoardList}
use Rattle.golog_journal.proofs.Lawful.{Lawful, lawful-parts}
use Rattle.golog_journal.proofs.Staying.{filter-none}

module _ (agent : Agent) (device : ℕ) where
  -- the first so many commands are there, and their results have come
  record Answered (journal : Journal) (taken : ℕ) : Type 0 where
    pub few : taken ≤ length (commands agent device journal)
    pub come : list_any (is_outstanding agent journal) (take taken (commands agent device journal)) ≡ false

  -- and so it is of those that the last entry of the device tells of, where that is a Rest
  abbrev ByLast : Journal → Option Entry → Type 0
  ByLast journal (Some (Rest p taken)) = Answered journal taken
  ByLast journal _ = Unit {0}

  -- what has come has come for good
  come-still : (journal : Journal) (e : Entry) (cs : List Command) → list_any (is_outstanding agent journal) cs ≡ false
      → list_any (is_outstanding agent (journal ++ e ∷ [])) cs ≡ false
  come-still journal e [] h = refl
  come-still journal e (c ∷ cs) h =
      let parts = or_parts (is_outstanding agent journal c) (list_any (is_outstanding agent journal) cs) h in
      or_from _ _ ((commands_grow agent journal e device).each c ∙ ap (λ b. b && not (is_result_of c.place e)) parts.0) (come-still journal e cs parts.1)

  answered-still : (journal : Journal) (e : Entry) (taken : ℕ) → Answered journal taken → Answered (journal ++ e ∷ []) taken
  answered-still journal e taken a = record {
    few =
        let more : length (commands agent device (journal ++ e ∷ [])) ≡ length (commands agent device journal) + length (new_command agent journal e device)
        = ap (λ cs. length cs) (commands-push agent journal e device) ∙ length-append (commands agent device journal) (new_command agent journal e device) in
        let low = a.few in
        omega (arith, more, low);
    come =
        ap (λ cs. list_any (is_outstanding agent (journal ++ e ∷ [])) (take taken cs)) (commands-push agent journal e device)
        ∙ ap (list_any (is_outstanding agent (journal ++ e ∷ []))) (take-append-le taken (commands agent device journal) (new_command agent journal e device) a.few)
        ∙ come-still journal e (take taken (commands agent device journal)) a.come;
  }

  last-still : (journal : Journal) (e : Entry) (o : Option Entry) → ByLast journal o → ByLast (journal ++ e ∷ []) o
  last-still journal e None h = tt
  last-still journal e (Some (Rest p taken)) h = answered-still journal e taken h
  last-still journal e (Some (Do a)) h = tt
  last-still journal e (Some Test) h = tt
  last-still journal e (Some (Exo p a)) h = tt
  last-still journal e (Some (Sense p at f v)) h = tt
  last-still journal e (Some (Close p r t)) h = tt
  last-still journal e (Some (End a)) h = tt

  -- a Rest of the device tells so
  rests-so : (journal : Journal) (p taken : ℕ) → (p == device) ≡ true → Lawful agent journal (Rest p taken) → Answered journal taken
  rests-so journal p taken own l =
      let same = eqb-true p device own in
      let keeps = and_parts (may_have_taken agent journal p taken) (not (list_any (is_outstanding agent journal) (take taken (commands agent p journal)))) l.taken in
      let low = (and_parts (nat_le taken (length (commands agent p journal))) _ keeps.0).0 in
      record {
        few = subst (λ d. taken ≤ length (commands agent d journal)) same (leb-true taken (length (commands agent p journal)) low);
        come = subst (λ d. list_any (is_outstanding agent journal) (take taken (commands agent d journal)) ≡ false) same
            (not-true (list_any (is_outstanding agent journal) (take taken (commands agent p journal))) keeps.1);
      }

  own-entry : (journal : Journal) (e : Entry) → is_posted_by device e ≡ true → Lawful agent journal e → ByLast (journal ++ e ∷ []) (Some e)
  own-entry journal (Rest p taken) own l = answered-still journal (Rest p taken) taken (rests-so journal p taken own l)
  own-entry journal (Do a) own l = tt
  own-entry journal Test own l = tt
  own-entry journal (Exo p a) own l = tt
  own-entry journal (Sense p at f v) own l = tt
  own-entry journal (Close p r t) own l = tt
  own-entry journal (End a) own l = tt

  last-after : (journal : Journal) (e : Entry) (b : Bool) → is_posted_by device e ≡ b
      → last_of (entries_by device (journal ++ e ∷ [])) ≡ (if b then Some e else last_of (entries_by device journal))
  last-after journal e true own =
      ap last_of (posted-push journal e device ∙ ap (λ b. entries_by device journal ++ (if b then e ∷ [] else [])) own)
      ∙ fold-push (λ last x. Some x) None (entries_by device journal) e
  last-after journal e false own =
      ap last_of (posted-push journal e device ∙ ap (λ b. entries_by device journal ++ (if b then e ∷ [] else [])) own ∙ append-nil (entries_by device journal))

  abbrev Told : Journal → Type 0
  Told journal = ByLast journal (last_of (entries_by device journal))

  told-push : (journal : Journal) (e : Entry) (b : Bool) → is_posted_by device e ≡ b → Lawful agent journal e → Told journal → Told (journal ++ e ∷ [])
  told-push journal e true own l told = subst (ByLast (journal ++ e ∷ [])) (sym (last-after journal e true own)) (own-entry journal e own l)
  told-push journal e false own l told = subst (ByLast (journal ++ e ∷ [])) (sym (last-after journal e false own)) (last-still journal e (last_of (entries_by device journal)) told)

  told-from : (before rest : Journal) → list_all (λ b. b) (at_each (is_lawful agent) before rest) ≡ true → Told before → Told (before ++ rest)
  told-from before [] h told = subst Told (sym (append-nil before)) told
  told-from before (e ∷ rest) h told =
      let parts = and_parts (is_lawful agent before e) (list_all (λ b. b) (at_each (is_lawful agent) (before ++ e ∷ []) rest)) h in
      subst Told (append_assoc before (e ∷ []) rest)
      (told-from (before ++ e ∷ []) rest parts.1 (told-push before e (is_posted_by device e) refl (lawful-parts agent before e parts.0) told))

  by-last : (journal : Journal) (o : Option Entry) → ByLast journal o → option_map_or (is_rest_after (length (commands agent device journal))) o false ≡ true
      → outstanding_commands agent device journal ≡ []
  by-last journal (Some (Rest p taken)) a h =
      filter-none (is_outstanding agent journal) (commands agent device journal)
      (ap (list_any (is_outstanding agent journal)) (sym (take_all taken (commands agent device journal) whole)) ∙ a.come)
    where
      whole : length (commands agent device journal) ≤ taken
      whole = let e = eqb-true taken (length (commands agent device journal)) h in omega (arith, e)
  by-last journal None a h = absurd (cc)
  by-last journal (Some (Do x)) a h = absurd (cc)
  by-last journal (Some Test) a h = absurd (cc)
  by-last journal (Some (Exo p x)) a h = absurd (cc)
  by-last journal (Some (Sense p at f v)) a h = absurd (cc)
  by-last journal (Some (Close p r t)) a h = absurd (cc)
  by-last journal (Some (End x)) a h = absurd (cc)

  pub rest-is-answered : (journal : Journal) → IsBoardList agent journal → is_at_rest agent journal device ≡ true → outstanding_commands agent device journal ≡ []
  rest-is-answered journal list h = by-last journal (last_of (entries_by device journal)) (told-from [] journal list.lawful tt) h
