-- What others add changes nothing of what a device may say.
use Rattle.std.proofs.Common.{◌≡◌, ℕ, zero, suc, ◌+◌, ◌-◌, ◌≤◌, ◌<◌, Bool, true, false, not, ◌&&◌, ◌||◌, ◌==◌, if◌then◌else◌, Option, Some, None, List, [], ◌∷◌, ◌++◌, length, length-append, take, refl, sym, ap, ◌∙◌, arith, add-zero, ◌⊎◌, inl, inr}
use Rattle.std.specs.Prelude.{filter, filter_map, slice_get, nat_le, nat_lt}
use Rattle.std.specs.List.{list_any, list_all, enumerate_from, cons_option}
use Rattle.std.proofs.lemmas.Bool.{and_parts, and_from, or_parts, or_from, not-true, not_from_false, leb-true, le-leb, le-ltb, eq-eqb, eqb-false, cases_lt}
use Rattle.std.proofs.lemmas.Option.{same_Some}
use Rattle.std.proofs.lemmas.List.{append-nil, take-append-le}
use Rattle.std.proofs.lemmas.List.Elements.{filter-append}
use Rattle.std.proofs.lemmas.List.Folds.{list_any-append}
use Rattle.golog_tree.specs.declared.agent.Agent.{Agent}
use Rattle.golog_semantics.specs.declared.journal.Entry.{Entry}
use Rattle.golog_semantics.specs.declared.journal.Entry.TheVariants.{Do, Test, Exo, Sense, Rest, Close, End}
use Rattle.golog_semantics.specs.Journal.{Journal, Command, command_at, commands, is_carried_by, is_sensing, is_posted_by, entries_by, is_close, is_open, is_result_of, is_outstanding}
use Rattle.golog_semantics.specs.Posts.{awaited_command, awaited_by}
use Rattle.golog_semantics.specs.Online.{told_taken}
use Rattle.golog_semantics.proofs.GroundNumbers.{slice_get-left}
use Rattle.golog_journal.specs.Boards.{IsBoardList}
use Rattle.golog_journal.specs.Taken.{fits}
use Rattle.golog_journal.specs.Laws.{AreNotOf, FittingStays, DrivenStays, ReadyStays}
use Rattle.golog_journal.proofs.Lawful.{results-within}

-- none passes
pub filter-none : {A : Type 0} (p : A → Bool) (xs : List A) → list_any p xs ≡ false → filter p xs ≡ []
filter-none p [] none = refl
filter-none p (x ∷ xs) none =
    let parts = or_parts (p x) (list_any p xs) none in
    ap (λ b. if b then x ∷ filter p xs else filter p xs) parts.0 ∙ filter-none p xs parts.1

module _ (agent : Agent) where
  module _ (device : ℕ) where
    -- the commands among entries of which the first stands at this place
    abbrev pub from : ℕ → Journal → List Command
    from n journal = filter_map (command_at agent device) (enumerate_from n journal)

    cons-append : {A : Type 0} (o : Option A) (xs ys zs : List A) → zs ≡ xs ++ ys → cons_option o zs ≡ cons_option o xs ++ ys
    cons-append None xs ys zs e = e
    cons-append (Some x) xs ys zs e = ap (λ l. x ∷ l) e

    from-append : (n : ℕ) (journal others : Journal) → from n (journal ++ others) ≡ from n journal ++ from (n + length journal) others
    from-append n [] others = ap (λ k. from k others) (sym (add-zero n))
    from-append n (e ∷ journal) others =
        cons-append (command_at agent device (n, e)) (from (n + 1) journal) (from (n + length (e ∷ journal)) others) (from (n + 1) (journal ++ others))
        (from-append (n + 1) journal others
        ∙ ap (λ k. from (n + 1) journal ++ from k others) (let k : n + 1 + length journal ≡ n + length (e ∷ journal) = omega arith in k))

    -- none of them stands before that place
    skip : (n place : ℕ) (o : Option Command) (rest : List Command) → ((c : Command) → o ≡ Some c → c.place ≡ n) → place ≤ n
        → filter (λ c. nat_lt c.place place) rest ≡ [] → filter (λ c. nat_lt c.place place) (cons_option o rest) ≡ []
    skip n place None rest at low none = none
    skip n place (Some c) rest at low none =
        let is = at c refl in
        ap (λ b. if b then c ∷ filter (λ c. nat_lt c.place place) rest else filter (λ c. nat_lt c.place place) rest) (le-ltb c.place place (omega (arith, is, low)))
        ∙ none

    pub at-place : (n : ℕ) (e : Entry) (c : Command) → command_at agent device (n, e) ≡ Some c → c.place ≡ n
    at-place n (Do action) c h = go (is_carried_by agent device action) h
      where
        go : (b : Bool) → (if b then Some (record { place = n; action = action }) else None) ≡ Some c → c.place ≡ n
        go true h = cc
        go false h = absurd (cc)
    at-place n Test c h = absurd (cc)
    at-place n (Exo p a) c h = absurd (cc)
    at-place n (Sense p at f v) c h = absurd (cc)
    at-place n (Rest p t) c h = absurd (cc)
    at-place n (Close p r t) c h = absurd (cc)
    at-place n (End a) c h = absurd (cc)

    -- a command stands before the end
    place-in : (n k : ℕ) (journal : Journal) (c : Command) → slice_get (from n journal) k ≡ Some c → c.place < n + length journal
    place-in n k [] c h = absurd (cc)
    place-in n k (e ∷ journal) c h = go (command_at agent device (n, e)) refl k h (λ i later. place-in (n + 1) i journal c later)
      where
        go : (o : Option Command) → command_at agent device (n, e) ≡ o → (i : ℕ) → slice_get (cons_option o (from (n + 1) journal)) i ≡ Some c
            → ((j : ℕ) → slice_get (from (n + 1) journal) j ≡ Some c → c.place < n + 1 + length journal) → c.place < n + length (e ∷ journal)
        go None is i h rest = let low = rest i h in omega (arith, low)
        go (Some x) is zero h rest =
            let here = at-place n e x is in
            let same : x.place ≡ c.place = ap (λ (o : Command). o.place) (same_Some x c h) in
            omega (arith, here, same)
        go (Some x) is (suc i) h rest = let low = rest i h in omega (arith, low)

    pub place-below : (k : ℕ) (journal : Journal) (c : Command) → slice_get (commands agent device journal) k ≡ Some c → c.place < length journal
    place-below k journal c h = let low = place-in 0 k journal c h in omega (arith, low)

    pub from-later : (n place : ℕ) (others : Journal) → place ≤ n → filter (λ c. nat_lt c.place place) (from n others) ≡ []
    from-later n place [] low = refl
    from-later n place (e ∷ others) low =
        skip n place (command_at agent device (n, e)) (from (n + 1) others) (at-place n e) low (from-later (n + 1) place others (omega (arith, low)))

  module _ (journal others : Journal) where
    -- a device's commands are those that it had, and more behind them
    pub commands-append : (d : ℕ) → commands agent d (journal ++ others) ≡ commands agent d journal ++ from d (0 + length journal) others
    commands-append d = from-append d 0 journal others

    pub before-same : (d place : ℕ) → place ≤ length journal
        → filter (λ c. nat_lt c.place place) (commands agent d (journal ++ others)) ≡ filter (λ c. nat_lt c.place place) (commands agent d journal)
    before-same d place low =
        ap (filter (λ c. nat_lt c.place place)) (commands-append d)
        ∙ filter-append (λ c. nat_lt c.place place) (commands agent d journal) (from d (0 + length journal) others)
        ∙ ap (λ cs. filter (λ c. nat_lt c.place place) (commands agent d journal) ++ cs) (from-later d (0 + length journal) place others (omega (arith, low)))
        ∙ append-nil (filter (λ c. nat_lt c.place place) (commands agent d journal))

    -- an entry tells of as many commands taken
    pub told-same : (e : Entry) → ((place : ℕ) → length journal ≤ place → is_result_of place e ≡ false) → told_taken agent (journal ++ others) e ≡ told_taken agent journal e
    told-same (Sense p at f v) h = go (cases_lt at (length journal))
      where
        go : (at < length journal) ⊎ (length journal ≤ at) → told_taken agent (journal ++ others) (Sense p at f v) ≡ told_taken agent journal (Sense p at f v)
        go (inl low) = ap (λ cs. 1 + length cs) (before-same p at (omega (arith, low)))
        go (inr high) = absurd (let absent = h at high in let present = eq-eqb at at refl in cc)
    told-same (Do action) h = refl
    told-same Test h = refl
    told-same (Exo p a) h = refl
    told-same (Rest p t) h = refl
    told-same (Close p r t) h = refl
    told-same (End a) h = refl

    pub told-all : (taken : ℕ) (q : Entry → Bool) (es : Journal) → ((place : ℕ) → length journal ≤ place → list_any (is_result_of place) es ≡ false)
        → list_all (λ e. nat_le (told_taken agent (journal ++ others) e) taken) (filter q es) ≡ list_all (λ e. nat_le (told_taken agent journal e) taken) (filter q es)
    told-all taken q [] h = refl
    told-all taken q (e ∷ es) h = go (q e) (told-all taken q es (λ place high. (or_parts (is_result_of place e) (list_any (is_result_of place) es) (h place high)).1))
      where
        first : told_taken agent (journal ++ others) e ≡ told_taken agent journal e
        first = told-same e (λ place high. (or_parts (is_result_of place e) (list_any (is_result_of place) es) (h place high)).0)

        go : (b : Bool)
            → list_all (λ e. nat_le (told_taken agent (journal ++ others) e) taken) (filter q es) ≡ list_all (λ e. nat_le (told_taken agent journal e) taken) (filter q es)
            → list_all (λ e. nat_le (told_taken agent (journal ++ others) e) taken) (if b then e ∷ filter q es else filter q es)
            ≡ list_all (λ e. nat_le (told_taken agent journal e) taken) (if b then e ∷ filter q es else filter q es)
        go true rest = ap (λ t. nat_le t taken && list_all (λ e. nat_le (told_taken agent (journal ++ others) e) taken) (filter q es)) first ∙ ap (λ b. nat_le (told_taken agent journal e) taken && b) rest
        go false rest = rest

    -- what awaits no result awaits none later
    pub still-answered : (c : Command) → is_outstanding agent journal c ≡ false → is_outstanding agent (journal ++ others) c ≡ false
    still-answered c none =
        ap (λ b. is_sensing agent c.action && not b) (list_any-append (is_result_of c.place) journal others)
        ∙ go (is_sensing agent c.action) (list_any (is_result_of c.place) journal) (list_any (is_result_of c.place) others) none
      where
        go : (s a b : Bool) → (s && not a) ≡ false → (s && not (a || b)) ≡ false
        go true true b h = refl
        go true false b h = absurd (cc)
        go false a b h = refl

    pub none-later : (cs : List Command) → list_any (is_outstanding agent journal) cs ≡ false → list_any (is_outstanding agent (journal ++ others)) cs ≡ false
    none-later [] h = refl
    none-later (c ∷ cs) h =
        let parts = or_parts (is_outstanding agent journal c) (list_any (is_outstanding agent journal) cs) h in
        or_from _ _ (still-answered c parts.0) (none-later cs parts.1)

    module _ (device : ℕ) (foreign : AreNotOf device others) where
      pub posted-same : entries_by device (journal ++ others) ≡ entries_by device journal
      posted-same =
          filter-append (is_posted_by device) journal others
          ∙ ap (λ es. entries_by device journal ++ es) (filter-none (is_posted_by device) others foreign)
          ∙ append-nil (entries_by device journal)

      pub open-same : is_open device (journal ++ others) ≡ is_open device journal
      open-same = ap (λ es. not (list_any is_close es)) posted-same

      module _ (taken : ℕ) (list : IsBoardList agent journal) (fitting : fits agent journal device taken ≡ true) where
        abbrev mine : List Command
        mine = commands agent device journal

        abbrev few : Bool
        few = nat_le taken (length mine)

        abbrev told : Bool
        told = list_all (λ e. nat_le (told_taken agent journal e) taken) (entries_by device journal)

        abbrev pending : Bool
        pending = list_any (is_outstanding agent journal) (take (taken - 1) mine)

        parts : ((few && told) ≡ true) × (not pending ≡ true)
        parts = and_parts (few && told) (not pending) fitting

        taken-few : taken ≤ length mine
        taken-few = leb-true taken (length mine) (and_parts few told parts.0).0

        few-later : nat_le taken (length (commands agent device (journal ++ others))) ≡ true
        few-later =
            let low = taken-few in
            let l = length-append mine (from device (0 + length journal) others) in
            ap (λ cs. nat_le taken (length cs)) (commands-append device)
            ∙ le-leb taken (length (mine ++ from device (0 + length journal) others)) (omega (arith, low, l))

        told-later : list_all (λ e. nat_le (told_taken agent (journal ++ others) e) taken) (entries_by device (journal ++ others)) ≡ true
        told-later =
            ap (list_all (λ e. nat_le (told_taken agent (journal ++ others) e) taken)) posted-same
            ∙ told-all taken (is_posted_by device) journal (results-within agent journal list)
            ∙ (and_parts few told parts.0).1

        pending-later : list_any (is_outstanding agent (journal ++ others)) (take (taken - 1) (commands agent device (journal ++ others))) ≡ false
        pending-later =
            let low = taken-few in
            ap (λ cs. list_any (is_outstanding agent (journal ++ others)) (take (taken - 1) cs)) (commands-append device)
            ∙ ap (list_any (is_outstanding agent (journal ++ others))) (take-append-le (taken - 1) mine (from device (0 + length journal) others) (omega (arith, low)))
            ∙ none-later (take (taken - 1) mine) (not-true pending parts.1)

        pub fits-later : fits agent (journal ++ others) device taken ≡ true
        fits-later = and_from _ _ (and_from _ _ few-later told-later) (not_from_false _ pending-later)

        awaited-later : awaited_command agent journal device taken ≡ None → awaited_command agent (journal ++ others) device taken ≡ None
        awaited-later none = go (taken == 0) refl none
          where
            by-one : (o : Option Command) → awaited_by agent journal device taken o ≡ None → awaited_by agent (journal ++ others) device taken o ≡ None
            by-one None h = refl
            by-one (Some c) h = cases (is_outstanding agent journal c) refl h
              where
                cases : (b : Bool) → is_outstanding agent journal c ≡ b → (if b then Some c else None) ≡ None
                    → awaited_by agent (journal ++ others) device taken (Some c) ≡ None
                cases true e h = absurd (cc)
                cases false e h = ap (λ b. if b then Some c else None) (still-answered c e)

            go : (b : Bool) → (taken == 0) ≡ b → (if b then None else awaited_by agent journal device taken (slice_get mine (taken - 1))) ≡ None
                → (if b then None else awaited_by agent (journal ++ others) device taken (slice_get (commands agent device (journal ++ others)) (taken - 1))) ≡ None
            go true e h = refl
            go false e h =
                let not_none = eqb-false taken 0 e in
                let low = taken-few in
                let inside : taken - 1 < length mine = omega (arith, not_none, low) in
                ap (awaited_by agent (journal ++ others) device taken)
                (ap (λ cs. slice_get cs (taken - 1)) (commands-append device) ∙ slice_get-left mine (from device (0 + length journal) others) (taken - 1) inside)
                ∙ by-one (slice_get mine (taken - 1)) h

pub fitting_stays : FittingStays
fitting_stays agent journal others device taken list foreign fitting = fits-later agent journal others device foreign taken list fitting

pub driven_stays : DrivenStays
driven_stays agent journal others device taken list foreign driven = record {
  is_device = driven.is_device;
  still_open = open-same agent journal others device foreign ∙ driven.still_open;
  fitting = fits-later agent journal others device foreign taken list driven.fitting;
}

pub ready_stays : ReadyStays
ready_stays agent journal others device taken list foreign ready = record {
  driven = driven_stays agent journal others device taken list foreign ready.driven;
  answered = awaited-later agent journal others device foreign taken list ready.driven.fitting ready.answered;
}
