-- A device that is not at rest may be asked: each Rest of it told of fewer commands than it has.
use Rattle.std.proofs.Common.{◌≡◌, ℕ, zero, suc, ◌+◌, ◌≤◌, ◌<◌, Bool, true, false, not, ◌&&◌, if◌then◌else◌, Some, None, List, [], ◌∷◌, ◌++◌, length, length-append, refl, sym, ap, ◌∙◌, subst, arith, append_assoc, ◌⊎◌, inl, inr}
use Rattle.std.specs.Prelude.{filter, take, slice_get, nat_lt, nat_le}
use Rattle.std.specs.List.{list_any, list_all}
use Rattle.std.specs.Option.{option_map_or}
use Rattle.std.proofs.lemmas.Bool.{and_parts, and_from, or_parts, or_from, not-true, leb-true, le-leb, ltb-true, lt-ltb, eq-eqb, eqb-true, cases_lt}
use Rattle.std.proofs.lemmas.List.{append-nil}
use Rattle.std.proofs.lemmas.List.Folds.{list_all-append, list_any-append}
use Rattle.golog_tree.specs.declared.agent.Agent.{Agent}
use Rattle.golog_semantics.specs.declared.journal.Entry.{Entry}
use Rattle.golog_semantics.specs.declared.journal.Entry.TheVariants.{Do, Test, Exo, Sense, Rest, Close, End}
use Rattle.golog_semantics.specs.Journal.{Journal, Command, is_sensing, commands, is_outstanding, outstanding_commands, is_posted_by, entries_by, is_close, is_open, is_result_of, last_of, is_rest_after, is_at_rest}
use Rattle.golog_semantics.specs.Text.{at_each}
use Rattle.golog_semantics.specs.Online.{is_result}
use Rattle.golog_semantics.specs.OneMore.{new_command}
use Rattle.golog_semantics.specs.Dealt.{rests_before, wakes}
use Rattle.golog_semantics.proofs.Pushed.{fold-push}
use Rattle.golog_semantics.proofs.Grown.{posted-push, commands-push}
use Rattle.golog_journal.specs.Boards.{is_lawful, IsBoardList}
use Rattle.golog_journal.proofs.Lawful.{Lawful, lawful-parts}
use Rattle.golog_device.proofs.Taking.{all-more, still-none}

-- an entry tells of no more commands than there are
abbrev tells_within : ℕ → Entry → Bool
tells_within count (Rest poster taken) = nat_le taken count
tells_within count _ = true

-- a Rest tells of fewer
abbrev tells_below : ℕ → Entry → Bool
tells_below count (Rest poster taken) = nat_lt taken count
tells_below count _ = true

below-more : (n k : ℕ) → n ≤ k → (e : Entry) → tells_below n e ≡ true → tells_below k e ≡ true
below-more n k more (Rest p t) h = let low = ltb-true t n h in lt-ltb t k (omega (arith, more, low))
below-more n k more (Do a) h = refl
below-more n k more Test h = refl
below-more n k more (Exo p a) h = refl
below-more n k more (Sense p at f v) h = refl
below-more n k more (Close p r t) h = refl
below-more n k more (End a) h = refl

within-more : (n k : ℕ) → n ≤ k → (e : Entry) → tells_within n e ≡ true → tells_within k e ≡ true
within-more n k more (Rest p t) h = let low = leb-true t n h in le-leb t k (omega (arith, more, low))
within-more n k more (Do a) h = refl
within-more n k more Test h = refl
within-more n k more (Exo p a) h = refl
within-more n k more (Sense p at f v) h = refl
within-more n k more (Close p r t) h = refl
within-more n k more (End a) h = refl

below-within : (n : ℕ) (e : Entry) → tells_within n e ≡ true → tells_below (n + 1) e ≡ true
below-within n (Rest p t) h = let low = leb-true t n h in lt-ltb t (n + 1) (omega (arith, low))
below-within n (Do a) h = refl
below-within n Test h = refl
below-within n (Exo p a) h = refl
below-within n (Sense p at f v) h = refl
below-within n (Close p r t) h = refl
below-within n (End a) h = refl

-- the first of none
first-none : {A : Type 0} (p : A → Bool) (q : A → Bool) (xs : List A) → list_any p xs ≡ false → option_map_or q (slice_get (filter p xs) 0) false ≡ false
first-none p q [] none = refl
first-none p q (x ∷ xs) none =
    let parts = or_parts (p x) (list_any p xs) none in
    ap (λ b. option_map_or q (slice_get (if b then x ∷ filter p xs else filter p xs) 0) false) parts.0 ∙ first-none p q xs parts.1

take-whole : {A : Type 0} (n : ℕ) (xs : List A) → length xs ≤ n → take n xs ≡ xs
take-whole zero [] all = refl
take-whole (suc n) [] all = refl
take-whole zero (x ∷ xs) all = absurd (omega (arith, all))
take-whole (suc n) (x ∷ xs) all = ap (λ l. x ∷ l) (take-whole n xs (omega (arith, all)))

module _ (agent : Agent) (device : ℕ) where
  abbrev many : Journal → ℕ
  many journal = length (commands agent device journal)

  abbrev all_below : Journal → Bool
  all_below journal = list_all (tells_below (many journal)) (entries_by device journal)

  -- its last entry is a Rest with all its commands taken, and no result is awaited
  record AtRest (journal : Journal) : Type 0 where
    pub rest : is_at_rest agent journal device ≡ true
    pub settled : list_any (is_outstanding agent journal) (commands agent device journal) ≡ false

  -- each Rest told of no more commands than there are; they told of fewer, or the device is at rest
  record Rests (journal : Journal) : Type 0 where
    pub within : list_all (tells_within (many journal)) (entries_by device journal) ≡ true
    pub either : (all_below journal ≡ true) ⊎ AtRest journal

  many-more : (journal : Journal) (e : Entry) → many (journal ++ e ∷ []) ≡ many journal + length (new_command agent journal e device)
  many-more journal e = ap (λ cs. length cs) (commands-push agent journal e device) ∙ length-append (commands agent device journal) (new_command agent journal e device)

  posted-other : (journal : Journal) (e : Entry) → is_posted_by device e ≡ false → entries_by device (journal ++ e ∷ []) ≡ entries_by device journal
  posted-other journal e other =
      posted-push journal e device ∙ ap (λ b. entries_by device journal ++ (if b then e ∷ [] else [])) other ∙ append-nil (entries_by device journal)

  posted-own : (journal : Journal) (e : Entry) → is_posted_by device e ≡ true → entries_by device (journal ++ e ∷ []) ≡ entries_by device journal ++ e ∷ []
  posted-own journal e own = posted-push journal e device ∙ ap (λ b. entries_by device journal ++ (if b then e ∷ [] else [])) own

  -- what awaits no result awaits none with one more entry
  shrinks : (journal : Journal) (e : Entry) (cs : List Command) → list_any (is_outstanding agent journal) cs ≡ false
      → list_any (is_outstanding agent (journal ++ e ∷ [])) cs ≡ false
  shrinks journal e [] h = refl
  shrinks journal e (c ∷ cs) h =
      let parts = or_parts (is_outstanding agent journal c) (list_any (is_outstanding agent journal) cs) h in
      or_from _ _
      (ap (λ b. is_sensing agent c.action && not b) (list_any-append (is_result_of c.place) journal (e ∷ []))
      ∙ still-none (is_sensing agent c.action) (list_any (is_result_of c.place) journal) (list_any (is_result_of c.place) (e ∷ [])) parts.0)
      (shrinks journal e cs parts.1)

  -- with an entry of another
  other-step : (journal : Journal) (e : Entry) → is_posted_by device e ≡ false → (cs : List Command) → new_command agent journal e device ≡ cs
      → Rests journal → Rests (journal ++ e ∷ [])
  other-step journal e other cs new rests = record { within = within; either = go cs new rests.either }
    where
      count : many (journal ++ e ∷ []) ≡ many journal + length cs
      count = many-more journal e ∙ ap (λ l. many journal + length l) new

      within : list_all (tells_within (many (journal ++ e ∷ []))) (entries_by device (journal ++ e ∷ [])) ≡ true
      within =
          ap (list_all (tells_within (many (journal ++ e ∷ [])))) (posted-other journal e other)
          ∙ all-more (tells_within (many journal)) (tells_within (many (journal ++ e ∷ [])))
          (within-more (many journal) (many (journal ++ e ∷ [])) (omega (arith, count))) (entries_by device journal) rests.within

      below : (n : ℕ) → n ≤ many (journal ++ e ∷ []) → list_all (tells_below n) (entries_by device journal) ≡ true → all_below (journal ++ e ∷ []) ≡ true
      below n low h =
          ap (list_all (tells_below (many (journal ++ e ∷ [])))) (posted-other journal e other)
          ∙ all-more (tells_below n) (tells_below (many (journal ++ e ∷ []))) (below-more n (many (journal ++ e ∷ [])) low) (entries_by device journal) h

      go : (l : List Command) → new_command agent journal e device ≡ l → (all_below journal ≡ true) ⊎ AtRest journal
          → (all_below (journal ++ e ∷ []) ≡ true) ⊎ AtRest (journal ++ e ∷ [])
      go l new (inl h) = inl (below (many journal) (omega (arith, count)) h)
      go [] new (inr rest) = inr (record {
        rest =
            ap (λ es. option_map_or (is_rest_after (many (journal ++ e ∷ []))) (last_of es) false) (posted-other journal e other)
            ∙ ap (λ n. option_map_or (is_rest_after n) (last_of (entries_by device journal)) false)
            (many-more journal e ∙ ap (λ l. many journal + length l) new ∙ (let k : many journal + 0 ≡ many journal = omega arith in k))
            ∙ rest.rest;
        settled =
            ap (list_any (is_outstanding agent (journal ++ e ∷ [])))
            (commands-push agent journal e device ∙ ap (λ l. commands agent device journal ++ l) new ∙ append-nil (commands agent device journal))
            ∙ shrinks journal e (commands agent device journal) rest.settled;
      })
      go (c ∷ l) new (inr rest) =
          inl (below (many journal + 1)
          (let k = many-more journal e ∙ ap (λ x. many journal + length x) new in omega (arith, k))
          (all-more (tells_within (many journal)) (tells_below (many journal + 1)) (below-within (many journal)) (entries_by device journal) rests.within))

  -- with an entry of its own that is not a Rest, where all told of fewer
  own-below : (journal : Journal) (e : Entry) → is_posted_by device e ≡ true → new_command agent journal e device ≡ []
      → tells_below (many journal) e ≡ true → tells_within (many journal) e ≡ true → all_below journal ≡ true → Rests journal → Rests (journal ++ e ∷ [])
  own-below journal e own none below within all rests = record { within = w; either = inl b }
    where
      same : many (journal ++ e ∷ []) ≡ many journal
      same = let k = many-more journal e ∙ ap (λ l. many journal + length l) none in omega (arith, k)

      w : list_all (tells_within (many (journal ++ e ∷ []))) (entries_by device (journal ++ e ∷ [])) ≡ true
      w =
          ap (λ n. list_all (tells_within n) (entries_by device (journal ++ e ∷ []))) same
          ∙ ap (list_all (tells_within (many journal))) (posted-own journal e own)
          ∙ list_all-append (tells_within (many journal)) (entries_by device journal) (e ∷ [])
          ∙ and_from _ _ rests.within (and_from _ _ within refl)

      b : all_below (journal ++ e ∷ []) ≡ true
      b =
          ap (λ n. list_all (tells_below n) (entries_by device (journal ++ e ∷ []))) same
          ∙ ap (list_all (tells_below (many journal))) (posted-own journal e own)
          ∙ list_all-append (tells_below (many journal)) (entries_by device journal) (e ∷ [])
          ∙ and_from _ _ all (and_from _ _ below refl)

  -- with a Rest
  own-rest : (journal : Journal) (p t : ℕ) → is_posted_by device (Rest p t) ≡ true → Lawful agent journal (Rest p t) → all_below journal ≡ true
      → Rests journal → Rests (journal ++ Rest p t ∷ [])
  own-rest journal p t own lawful all rests = go (cases_lt t (many journal))
    where
      mine : p ≡ device
      mine = eqb-true p device own

      parts : (nat_le t (many journal) ≡ true) × (list_any (is_outstanding agent journal) (take t (commands agent device journal)) ≡ false)
      parts =
          let keeps = and_parts _ (not (list_any (is_outstanding agent journal) (take t (commands agent p journal)))) lawful.taken in (
            ap (λ q. nat_le t (length (commands agent q journal))) (sym mine) ∙ (and_parts (nat_le t (length (commands agent p journal))) _ keeps.0).0,
            ap (λ q. list_any (is_outstanding agent journal) (take t (commands agent q journal))) (sym mine)
                ∙ not-true (list_any (is_outstanding agent journal) (take t (commands agent p journal))) keeps.1,
          )

      same : many (journal ++ Rest p t ∷ []) ≡ many journal
      same = let k = many-more journal (Rest p t) in omega (arith, k)

      go : (t < many journal) ⊎ (many journal ≤ t) → Rests (journal ++ Rest p t ∷ [])
      go (inl less) = own-below journal (Rest p t) own refl (lt-ltb t (many journal) less) parts.0 all rests
      go (inr more) =
          let low = leb-true t (many journal) parts.0 in
          let is : t ≡ many journal = omega (arith, low, more) in
          record {
            within =
                ap (λ n. list_all (tells_within n) (entries_by device (journal ++ Rest p t ∷ []))) same
                ∙ ap (list_all (tells_within (many journal))) (posted-own journal (Rest p t) own)
                ∙ list_all-append (tells_within (many journal)) (entries_by device journal) (Rest p t ∷ [])
                ∙ and_from _ _ rests.within (and_from _ _ parts.0 refl);
            either = inr (record {
              rest =
                  ap (λ es. option_map_or (is_rest_after (many (journal ++ Rest p t ∷ []))) (last_of es) false) (posted-own journal (Rest p t) own)
                  ∙ ap (λ o. option_map_or (is_rest_after (many (journal ++ Rest p t ∷ []))) o false) (fold-push (λ last e. Some e) None (entries_by device journal) (Rest p t))
                  ∙ eq-eqb t (many (journal ++ Rest p t ∷ [])) (is ∙ sym same);
              settled =
                  ap (list_any (is_outstanding agent (journal ++ Rest p t ∷ [])))
                  (commands-push agent journal (Rest p t) device ∙ append-nil (commands agent device journal))
                  ∙ shrinks journal (Rest p t) (commands agent device journal)
                  (ap (list_any (is_outstanding agent journal)) (sym (take-whole t (commands agent device journal) more)) ∙ parts.1);
            });
          }

  -- no result comes while the device is at rest
  no-sense : (journal : Journal) (p at f v : ℕ) → is_posted_by device (Sense p at f v) ≡ true → Lawful agent journal (Sense p at f v) → AtRest journal → ⊥
  no-sense journal p at f v own lawful rest =
      let mine = eqb-true p device own in
      let first = (and_parts (option_map_or (is_result agent journal at f) (slice_get (outstanding_commands agent p journal) 0) false) _ lawful.place).0 in
      let none = ap (λ q. option_map_or (is_result agent journal at f) (slice_get (outstanding_commands agent q journal) 0) false) mine
      ∙ first-none (is_outstanding agent journal) (is_result agent journal at f) (commands agent device journal) rest.settled in
      absurd (cc)

  wakes-parts : (journal : Journal) (b : Bool) → list_all (rests_before agent device journal) (entries_by device journal) ≡ b
      → all_below journal ≡ b
  wakes-parts journal b h = same (entries_by device journal) ∙ h
    where
      each : (e : Entry) → tells_below (many journal) e ≡ rests_before agent device journal e
      each (Rest p t) = refl
      each (Do a) = refl
      each Test = refl
      each (Exo p a) = refl
      each (Sense p at f v) = refl
      each (Close p r t) = refl
      each (End a) = refl

      same : (es : Journal) → list_all (tells_below (many journal)) es ≡ list_all (rests_before agent device journal) es
      same [] = refl
      same (e ∷ es) = ap (λ b. b && list_all (tells_below (many journal)) es) (each e) ∙ ap (λ b. rests_before agent device journal e && b) (same es)

  -- an entry of its own
  own-step : (journal : Journal) (e : Entry) → is_posted_by device e ≡ true → Lawful agent journal e → wakes agent device journal e ≡ true
      → is_close e ≡ false → Rests journal → Rests (journal ++ e ∷ [])
  own-step journal (Exo p a) own lawful woken open_still rests =
      own-below journal (Exo p a) own refl refl refl
      (wakes-parts journal true (sym (ap (λ b. if b then list_all (rests_before agent device journal) (entries_by device journal) else true) own) ∙ woken)) rests
  own-step journal (Rest p t) own lawful woken open_still rests =
      own-rest journal p t own lawful
      (wakes-parts journal true (sym (ap (λ b. if b then list_all (rests_before agent device journal) (entries_by device journal) else true) own) ∙ woken)) rests
  own-step journal (Sense p at f v) own lawful woken open_still rests = go rests.either
    where
      go : (all_below journal ≡ true) ⊎ AtRest journal → Rests (journal ++ Sense p at f v ∷ [])
      go (inl h) = own-below journal (Sense p at f v) own refl refl refl h rests
      go (inr rest) = absurd (no-sense journal p at f v own lawful rest)
  own-step journal (Close p r t) own lawful woken open_still rests = absurd (cc)
  own-step journal (Do a) own lawful woken open_still rests = absurd (cc)
  own-step journal Test own lawful woken open_still rests = absurd (cc)
  own-step journal (End a) own lawful woken open_still rests = absurd (cc)

  step : (journal : Journal) (e : Entry) (b : Bool) → is_posted_by device e ≡ b → Lawful agent journal e → wakes agent device journal e ≡ true
      → (if b then is_close e else false) ≡ false → Rests journal → Rests (journal ++ e ∷ [])
  step journal e true own lawful woken open_still rests = own-step journal e own lawful woken open_still rests
  step journal e false other lawful woken open_still rests = other-step journal e other (new_command agent journal e device) refl rests

  all-from : (before rest : Journal) → list_all (λ b. b) (at_each (is_lawful agent) before rest) ≡ true
      → list_all (λ b. b) (at_each (wakes agent device) before rest) ≡ true
      → list_any is_close (filter (is_posted_by device) rest) ≡ false → Rests before → Rests (before ++ rest)
  all-from before [] lawful woken open_still rests = subst Rests (sym (append-nil before)) rests
  all-from before (e ∷ rest) lawful woken open_still rests =
      let l = and_parts (is_lawful agent before e) (list_all (λ b. b) (at_each (is_lawful agent) (before ++ e ∷ []) rest)) lawful in
      let w = and_parts (wakes agent device before e) (list_all (λ b. b) (at_each (wakes agent device) (before ++ e ∷ []) rest)) woken in
      let o = split (is_posted_by device e) refl in
      subst Rests (append_assoc before (e ∷ []) rest)
      (all-from (before ++ e ∷ []) rest l.1 w.1 o.1 (step before e (is_posted_by device e) refl (lawful-parts agent before e l.0) w.0 o.0 rests))
    where
      split : (b : Bool) → is_posted_by device e ≡ b
          → ((if is_posted_by device e then is_close e else false) ≡ false) × (list_any is_close (filter (is_posted_by device) rest) ≡ false)
      split true is =
          let parts = or_parts (is_close e) (list_any is_close (filter (is_posted_by device) rest))
          (sym (ap (λ b. list_any is_close (if b then e ∷ filter (is_posted_by device) rest else filter (is_posted_by device) rest)) is) ∙ open_still) in
          (ap (λ b. if b then is_close e else false) is ∙ parts.0, parts.1)
      split false is = (
        ap (λ b. if b then is_close e else false) is,
        sym (ap (λ b. list_any is_close (if b then e ∷ filter (is_posted_by device) rest else filter (is_posted_by device) rest)) is) ∙ open_still,
      )

  -- where an open device is not at rest, each of its Rests told of fewer commands than it has
  pub may-wake : (journal : Journal) → IsBoardList agent journal → list_all (λ b. b) (at_each (wakes agent device) [] journal) ≡ true
      → is_open device journal ≡ true → is_at_rest agent journal device ≡ false
      → list_all (rests_before agent device journal) (entries_by device journal) ≡ true
  may-wake journal list woken open_still awake = go rests.either
    where
      rests : Rests journal
      rests =
          all-from [] journal list.lawful woken (not-true (list_any is_close (entries_by device journal)) open_still)
          (record { within = refl; either = inl refl })

      back : (b : Bool) → list_all (rests_before agent device journal) (entries_by device journal) ≡ b → all_below journal ≡ true → b ≡ true
      back b is h = sym (wakes-parts journal b is) ∙ h

      go : (all_below journal ≡ true) ⊎ AtRest journal → list_all (rests_before agent device journal) (entries_by device journal) ≡ true
      go (inl h) = back (list_all (rests_before agent device journal) (entries_by device journal)) refl h
      go (inr rest) = absurd (let k = sym (rest.rest) ∙ awake in cc)

  -- and so it is, when others have added entries
  pub may-wake-later : (journal later : Journal) → many journal ≤ many later → entries_by device later ≡ entries_by device journal
      → list_all (rests_before agent device journal) (entries_by device journal) ≡ true
      → list_all (rests_before agent device later) (entries_by device later) ≡ true
  may-wake-later journal later more same h =
      let low : list_all (tells_below (many journal)) (entries_by device journal) ≡ true = wakes-parts journal true h in
      let high : all_below later ≡ true = ap (list_all (tells_below (many later))) same
      ∙ all-more (tells_below (many journal)) (tells_below (many later)) (below-more (many journal) (many later) more) (entries_by device journal) low in
      back (list_all (rests_before agent device later) (entries_by device later)) refl high
    where
      back : (b : Bool) → list_all (rests_before agent device later) (entries_by device later) ≡ b → all_below later ≡ true → b ≡ true
      back b is h = sym (wakes-parts later b is) ∙ h
