-- A device may go on after a turn in which it was not closed.
use Rattle.std.proofs.Common.{◌≡◌, ℕ, zero, suc, ◌+◌, ◌-◌, Bool, true, false, not, ◌&&◌, ◌||◌, ◌==◌, if◌then◌else◌, Option, Some, None, List, [], ◌∷◌, ◌++◌, length, take, refl, sym, ap, ◌∙◌, subst, arith}
use Rattle.std.specs.Prelude.{filter, slice_get, is_some, nat_lt, nat_le}
use Rattle.std.specs.List.{list_any, list_all}
use Rattle.std.specs.Option.{option_map_or}
use Rattle.std.proofs.lemmas.Bool.{and_parts, and_from, and_right, or_parts, or_from, or_right, not-true, not_from_false, not-false, leb-true, le-leb, eq-eqb, eqb-false}
use Rattle.std.proofs.lemmas.Option.{same_Some, slice_get_within}
use Rattle.std.proofs.lemmas.List.{append-nil}
use Rattle.std.proofs.lemmas.List.Folds.{list_all-append, list_any-append}
use Rattle.golog_tree.specs.declared.agent.Agent.{Agent}
use Rattle.golog_semantics.specs.declared.journal.Entry.{Entry}
use Rattle.golog_semantics.specs.declared.journal.Entry.TheVariants.{Do, Test, Exo, Sense, Rest, Close, End}
use Rattle.golog_semantics.specs.declared.journal.Item.{Item}
use Rattle.golog_semantics.specs.declared.journal.Item.TheVariants as item
use Rattle.golog_semantics.specs.declared.journal.Reason.TheVariants as reason
use Rattle.golog_semantics.specs.Journal.{Journal, Command, fluent_sensed, is_sensing, commands, is_outstanding, is_posted_by, entries_by, is_close, is_open, has_end, is_full, is_result_of}
use Rattle.golog_semantics.specs.Posts.{awaited_command, awaited_by, is_value_for, is_bad, later_reason, closing, result_of, entry_of, posted_entry}
use Rattle.golog_semantics.specs.Online.{told_taken, may_have_taken}
use Rattle.golog_semantics.specs.OneMore.{new_command}
use Rattle.golog_semantics.proofs.Grown.{posted-push, commands-push}
use Rattle.golog_semantics.proofs.CausesKeep.{has}
use Rattle.golog_journal.specs.Boards.{IsBoardList}
use Rattle.golog_journal.specs.Taken.{IsDriven, IsReady}
use Rattle.golog_journal.proofs.CommandsKept.{awaited-some}
use Rattle.golog_journal.proofs.PostsLawful.{IsAwaited, is-awaited, may-taken, none-awaited, firsts}
use Rattle.golog_device.proofs.Places.{no-result, commands-before}

pub all-more : {A : Type 0} (f g : A → Bool) → ((x : A) → f x ≡ true → g x ≡ true) → (xs : List A) → list_all f xs ≡ true → list_all g xs ≡ true
all-more f g h [] all = refl
all-more f g h (x ∷ xs) all = let parts = and_parts (f x) (list_all f xs) all in and_from _ _ (h x parts.0) (all-more f g h xs parts.1)

-- what is taken, with one more
pub take-next : {A : Type 0} (xs : List A) (k : ℕ) (x : A) → slice_get xs k ≡ Some x → take (k + 1) xs ≡ take k xs ++ x ∷ []
take-next [] k x h = absurd (cc)
take-next (y ∷ ys) zero x h = ap (λ z. z ∷ []) (same_Some y x h)
take-next (y ∷ ys) (suc k) x h =
    let more : suc k + 1 ≡ suc (k + 1) = omega arith in
    ap (λ n. take n (y ∷ ys)) more ∙ ap (λ l. y ∷ l) (take-next ys k x h)

-- a sensing command that has its result has it with more entries
pub still-none : (s a b : Bool) → (s && not a) ≡ false → (s && not (a || b)) ≡ false
still-none true true b h = refl
still-none true false b h = absurd (cc)
still-none false a b h = refl

module _ (agent : Agent) (journal : Journal) (device taken : ℕ) where
  -- why an item that is not refused is fine
  pub record IsFine (i : Item) : Type 0 where
    pub goes_on : has_end journal ≡ false
    pub room : is_full journal ≡ false
    pub good : is_bad agent journal device taken i ≡ false

  -- what is true where an item is not refused
  pub fine : (i : Item) → later_reason agent journal device taken i ≡ None → IsFine i
  fine i h = go (has_end journal) (is_full journal) (is_bad agent journal device taken i) refl refl refl h
    where
      go : (a b c : Bool) → has_end journal ≡ a → is_full journal ≡ b → is_bad agent journal device taken i ≡ c
          → (if a then Some reason.Late else (if b then Some reason.Full else (if c then Some reason.Bad else None))) ≡ None → IsFine i
      go true b c x y z h = absurd (cc)
      go false true c x y z h = absurd (cc)
      go false false true x y z h = absurd (cc)
      go false false false x y z h = record { goes_on = x; room = y; good = z }

  abbrev mine : List Command
  mine = commands agent device journal

  none-some : {A : Type 0} (o : Option A) → o ≡ None → is_some o ≡ false
  none-some o e = ap is_some e

  pub some-none : {A : Type 0} (o : Option A) → is_some o ≡ false → o ≡ None
  some-none None h = refl
  some-none (Some x) h = absurd (cc)

  module _ (list : IsBoardList agent journal) where
    module _ (ready : IsReady agent journal device taken) (c : Command) (next : slice_get mine taken ≡ Some c) where
      less : taken + 1 - 1 ≡ taken
      less = omega arith

      more : nat_le (taken + 1) (length mine) ≡ true
      more = let inside = slice_get_within mine taken c next in le-leb (taken + 1) (length mine) (omega (arith, inside))

      told : list_all (λ e. nat_le (told_taken agent journal e) (taken + 1)) (entries_by device journal) ≡ true
      told =
          all-more (λ e. nat_le (told_taken agent journal e) taken) (λ e. nat_le (told_taken agent journal e) (taken + 1))
          (λ e h. let k = leb-true (told_taken agent journal e) taken h in le-leb (told_taken agent journal e) (taken + 1) (omega (arith, k)))
          (entries_by device journal)
          (and_parts (nat_le taken (length mine)) _ (may-taken agent journal device taken list ready.driven)).1

      pending : list_any (is_outstanding agent journal) (take (taken + 1 - 1) mine) ≡ false
      pending =
          ap (λ n. list_any (is_outstanding agent journal) (take n mine)) less
          ∙ none-awaited agent journal device taken list ready.driven (none-some (awaited_command agent journal device taken) ready.answered)

      -- a device may take its next command
      pub driven-next : IsDriven agent journal device (taken + 1)
      driven-next = record {
        is_device = ready.driven.is_device;
        still_open = ready.driven.still_open;
        fitting = and_from _ _ (and_from _ _ more told) (not_from_false _ pending);
      }

      last : slice_get mine (taken + 1 - 1) ≡ Some c
      last = ap (λ n. slice_get mine n) less ∙ next

      next-awaited : (b : Bool) → is_outstanding agent journal c ≡ b → awaited_command agent journal device (taken + 1) ≡ (if b then Some c else None)
      next-awaited b is =
          awaited-some agent journal device (taken + 1) c (λ e. omega (arith, e)) last ∙ ap (λ x. if x then Some c else None) is

      -- no result of it is awaited, unless it senses
      pub ready-next : is_sensing agent c.action ≡ false → IsReady agent journal device (taken + 1)
      ready-next not_sensing = record {
        driven = driven-next;
        answered = next-awaited false (ap (λ b. b && not (list_any (is_result_of c.place) journal)) not_sensing);
      }

      -- the result of a sensing command is awaited
      pub awaited-next : is_sensing agent c.action ≡ true → awaited_command agent journal device (taken + 1) ≡ Some c
      awaited-next senses =
          next-awaited true
          (and_from _ _ senses
          (not_from_false _ (no-result agent device journal taken c next list (may-taken agent journal device taken list ready.driven))))

  settled : (c : Command) (b : Bool) → is_outstanding agent journal c ≡ b → (if is_outstanding agent journal c then Some c else None) ≡ None
      → is_outstanding agent journal c ≡ false
  settled c true is h = absurd (let k = sym (ap (λ x. if x then Some c else None) is) ∙ h in cc)
  settled c false is h = is

  -- An entry of the device that neither closes it nor is a command.
  module _ (e : Entry) (own : is_posted_by device e ≡ true) (goes : is_close e ≡ false) (plain : (d : ℕ) → new_command agent journal e d ≡ []) where
    abbrev after : Journal
    after = journal ++ e ∷ []

    pub commands-same : (d : ℕ) → commands agent d after ≡ commands agent d journal
    commands-same d = commands-push agent journal e d ∙ ap (λ cs. commands agent d journal ++ cs) (plain d) ∙ append-nil (commands agent d journal)

    told-same : (x : Entry) → told_taken agent after x ≡ told_taken agent journal x
    told-same (Sense p at f v) = ap (λ cs. 1 + length (filter (λ y. nat_lt y.place at) cs)) (commands-same p)
    told-same (Do a) = refl
    told-same Test = refl
    told-same (Exo p a) = refl
    told-same (Rest p t) = refl
    told-same (Close p r t) = refl
    told-same (End a) = refl

    pub posted-more : entries_by device after ≡ entries_by device journal ++ e ∷ []
    posted-more = posted-push journal e device ∙ ap (λ b. entries_by device journal ++ (if b then e ∷ [] else [])) own

    open-more : (open_before : is_open device journal ≡ true) → is_open device after ≡ true
    open-more open_before =
        let none = not-true (list_any is_close (entries_by device journal)) open_before in
        ap (λ es. not (list_any is_close es)) posted-more
        ∙ ap not (list_any-append is_close (entries_by device journal) (e ∷ []) ∙ or_from _ _ none (or_from _ _ goes refl))

    -- a command without an outstanding result has none outstanding
    shrinks : (c : Command) → is_outstanding agent journal c ≡ false → is_outstanding agent after c ≡ false
    shrinks c none =
        ap (λ b. is_sensing agent c.action && not b) (list_any-append (is_result_of c.place) journal (e ∷ []))
        ∙ still-none (is_sensing agent c.action) (list_any (is_result_of c.place) journal) (list_any (is_result_of c.place) (e ∷ [])) none

    none-shrinks : (cs : List Command) → list_any (is_outstanding agent journal) cs ≡ false → list_any (is_outstanding agent after) cs ≡ false
    none-shrinks [] h = refl
    none-shrinks (c ∷ cs) h =
        let parts = or_parts (is_outstanding agent journal c) (list_any (is_outstanding agent journal) cs) h in
        or_from _ _ (shrinks c parts.0) (none-shrinks cs parts.1)

    told-all : (xs : Journal) → list_all (λ x. nat_le (told_taken agent journal x) taken) xs ≡ true → list_all (λ x. nat_le (told_taken agent after x) taken) xs ≡ true
    told-all xs h =
        all-more (λ x. nat_le (told_taken agent journal x) taken) (λ x. nat_le (told_taken agent after x) taken) (λ x k. ap (λ n. nat_le n taken) (told-same x) ∙ k) xs h

    -- it fits as many commands taken as before, where it tells of no more
    pub driven-push : IsBoardList agent journal → IsDriven agent journal device taken → nat_le (told_taken agent journal e) taken ≡ true
        → IsDriven agent after device taken
    driven-push list driven few = record {
      is_device = driven.is_device;
      still_open = open-more driven.still_open;
      fitting = and_from _ _ (and_from _ _ count told) (not_from_false _ pending);
    }
      where
        may : may_have_taken agent journal device taken ≡ true
        may = may-taken agent journal device taken list driven

        count : nat_le taken (length (commands agent device after)) ≡ true
        count = ap (λ cs. nat_le taken (length cs)) (commands-same device) ∙ (and_parts (nat_le taken (length mine)) _ may).0

        told : list_all (λ x. nat_le (told_taken agent after x) taken) (entries_by device after) ≡ true
        told =
            ap (list_all (λ x. nat_le (told_taken agent after x) taken)) posted-more
            ∙ list_all-append (λ x. nat_le (told_taken agent after x) taken) (entries_by device journal) (e ∷ [])
            ∙ and_from _ _ (told-all (entries_by device journal) (and_parts (nat_le taken (length mine)) _ may).1)
            (and_from _ _ (ap (λ n. nat_le n taken) (told-same e) ∙ few) refl)

        pending : list_any (is_outstanding agent after) (take (taken - 1) (commands agent device after)) ≡ false
        pending =
            ap (λ cs. list_any (is_outstanding agent after) (take (taken - 1) cs)) (commands-same device)
            ∙ none-shrinks (take (taken - 1) mine) (firsts agent journal device taken list driven)

    awaited-after : (b : Bool) → (taken == 0) ≡ b
        → ((taken ≡ 0 → ⊥) → (c : Command) → slice_get mine (taken - 1) ≡ Some c → is_outstanding agent after c ≡ false)
        → awaited_command agent after device taken ≡ None
    awaited-after true is none = ap (λ b. if b then None else awaited_by agent after device taken (slice_get (commands agent device after) (taken - 1))) is
    awaited-after false is none =
        ap (λ b. if b then None else awaited_by agent after device taken (slice_get (commands agent device after) (taken - 1))) is
        ∙ ap (λ cs. awaited_by agent after device taken (slice_get cs (taken - 1))) (commands-same device)
        ∙ by (slice_get mine (taken - 1)) refl
      where
        by : (o : Option Command) → slice_get mine (taken - 1) ≡ o → awaited_by agent after device taken o ≡ None
        by None at = refl
        by (Some c) at = ap (λ b. if b then Some c else None) (none (eqb-false taken 0 is) c at)

    -- where none was awaited, none is
    pub unawaited-push : awaited_command agent journal device taken ≡ None → awaited_command agent after device taken ≡ None
    unawaited-push none =
        awaited-after (taken == 0) refl
        (λ some c at. shrinks c (settled c (is_outstanding agent journal c) refl (sym (awaited-some agent journal device taken c some at) ∙ none)))

    -- and none is, where the entry is the result that was awaited
    pub answered-push : (c : Command) → slice_get mine (taken - 1) ≡ Some c → is_result_of c.place e ≡ true → awaited_command agent after device taken ≡ None
    answered-push c at result = awaited-after (taken == 0) refl (λ some x there. its x (same_Some c x (sym at ∙ there)))
      where
        gone : is_outstanding agent after c ≡ false
        gone =
            ap (λ b. is_sensing agent c.action && not b)
            (list_any-append (is_result_of c.place) journal (e ∷ []) ∙ ap (λ b. list_any (is_result_of c.place) journal || (b || false)) result
            ∙ or_right (list_any (is_result_of c.place) journal) true refl)
            ∙ and_right (is_sensing agent c.action) false refl

        its : (x : Command) → c ≡ x → is_outstanding agent after x ≡ false
        its x same = ap (is_outstanding agent after) (sym same) ∙ gone

module _ (agent : Agent) (journal : Journal) (device taken : ℕ) (list : IsBoardList agent journal) (driven : IsDriven agent journal device taken) where
  -- the device may go on after this entry
  goes-on : (e : Entry) → is_posted_by device e ≡ true → is_close e ≡ false → ((d : ℕ) → new_command agent journal e d ≡ [])
      → nat_le (told_taken agent journal e) taken ≡ true → awaited_command agent (journal ++ e ∷ []) device taken ≡ None
      → IsReady agent (journal ++ e ∷ []) device taken
  goes-on e own open_still plain few none = record {
    driven = driven-push agent journal device taken e own open_still plain list driven few;
    answered = none;
  }

  itself : (device == device) ≡ true
  itself = eq-eqb device device refl

  ready-exo : (action : ℕ) → awaited_command agent journal device taken ≡ None → IsReady agent (journal ++ Exo device action ∷ []) device taken
  ready-exo action none =
      goes-on (Exo device action) itself refl (λ d. refl) (le-leb 0 taken (omega arith))
      (unawaited-push agent journal device taken (Exo device action) itself refl (λ d. refl) none)

  ready-rest : awaited_command agent journal device taken ≡ None → IsReady agent (journal ++ Rest device taken ∷ []) device taken
  ready-rest none =
      goes-on (Rest device taken) itself refl (λ d. refl) (le-leb taken taken (omega arith))
      (unawaited-push agent journal device taken (Rest device taken) itself refl (λ d. refl) none)

  ready-sense : (c : Command) (fluent value : ℕ) → IsAwaited agent journal device taken c
      → IsReady agent (journal ++ Sense device c.place fluent value ∷ []) device taken
  ready-sense c fluent value is =
      let some = is.some in
      let before = commands-before agent device journal (taken - 1) c is.at in
      goes-on (Sense device c.place fluent value) itself refl (λ d. refl)
      (le-leb (told_taken agent journal (Sense device c.place fluent value)) taken (omega (arith, some, before)))
      (answered-push agent journal device taken (Sense device c.place fluent value) itself refl (λ d. refl) c is.at (eq-eqb c.place c.place refl))

  abbrev May : Item → Type 0
  May i = IsReady agent (journal ++ posted_entry agent journal device taken i ∷ []) device taken

  -- the item's own entry stands, where it is not refused
  stands-for : (i : Item) → closing agent journal device taken i ≡ None → posted_entry agent journal device taken i ≡ entry_of agent journal device taken i
  stands-for i none = ap (λ o. option_map_or (λ r. Close device r taken) o (entry_of agent journal device taken i)) none

  -- after an item that was not refused the device may go on
  pub ready-posted : (i : Item) → closing agent journal device taken i ≡ None → May i
  ready-posted (item.Exo action) none =
      let good = (fine agent journal device taken (item.Exo action) none).good in
      subst (λ e. IsReady agent (journal ++ e ∷ []) device taken) (sym (stands-for (item.Exo action) none))
      (ready-exo action (some-none agent journal device taken (awaited_command agent journal device taken) (or_parts _ (is_some (awaited_command agent journal device taken)) good).1))
  ready-posted item.Rest none =
      let good = (fine agent journal device taken item.Rest none).good in
      subst (λ e. IsReady agent (journal ++ e ∷ []) device taken) (sym (stands-for item.Rest none))
      (ready-rest (some-none agent journal device taken (awaited_command agent journal device taken) good))
  ready-posted (item.Value value) none =
      let good = (fine agent journal device taken (item.Value value) none).good in
      let one = has (is_value_for agent journal device taken value) (awaited_command agent journal device taken)
      (not-false (option_map_or (is_value_for agent journal device taken value) (awaited_command agent journal device taken) false) good) in
      let entry : posted_entry agent journal device taken (item.Value value) ≡ result_of agent journal device taken value one.item
      = stands-for (item.Value value) none ∙ ap (λ o. option_map_or (result_of agent journal device taken value) o (Rest device taken)) one.is in
      subst (λ e. IsReady agent (journal ++ e ∷ []) device taken) (sym entry)
      (ready-sense one.item (option_map_or (λ f. f) (fluent_sensed agent (one.item).action) 0) value (is-awaited agent journal device taken one.item one.is))
  ready-posted item.Unreadable none = absurd (let k = (fine agent journal device taken item.Unreadable none).good in cc)
  ready-posted item.Silent none = absurd (let k = (fine agent journal device taken item.Silent none).good in cc)
  ready-posted item.Close none = absurd (cc)
  ready-posted item.Stop none = absurd (cc)
  ready-posted item.Refused none = absurd (cc)
