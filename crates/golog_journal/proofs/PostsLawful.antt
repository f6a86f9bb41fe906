-- What a device posts, and what the program commits, is lawful.
use Rattle.std.proofs.Common.{◌≡◌, ℕ, zero, suc, ◌+◌, ◌-◌, ◌≤◌, ◌<◌, Bool, true, false, not, ◌==◌, if◌then◌else◌, Option, Some, None, List, [], ◌∷◌, ◌++◌, length, take, get_or, refl, sym, ap, ◌∙◌, subst, arith}
use Rattle.std.specs.Prelude.{filter, slice_get, is_some, nat_le, nat_lt}
use Rattle.std.specs.List.{list_any}
use Rattle.std.specs.Option.{option_map_or}
use Rattle.std.proofs.lemmas.Bool.{and_parts, and_from, or_parts, or_left, or_right, not-true, not-false, not_from_false, lt-ltb, leb-true, leb-false, le-leb, eq-eqb, eqb-true, eqb-false, or_from, cond_both}
use Rattle.std.proofs.lemmas.Option.{same_Some, slice_get-get_or, slice_get_within, get_or_from_slice_get, cond_some}
use Rattle.std.proofs.lemmas.List.Folds.{list_any_at, list_any_more}
use Rattle.golog_tree.specs.declared.agent.Agent.{Agent}
use Rattle.golog_tree.specs.declared.agent.ActionItem.{ActionItem}
use Rattle.golog_semantics.specs.declared.journal.Entry.{Entry}
use Rattle.golog_semantics.specs.declared.journal.Entry.TheVariants.{Do, Test, Exo, Sense, Rest, Close, End}
use Rattle.golog_semantics.specs.declared.journal.Item.{Item}
use Rattle.golog_semantics.specs.declared.journal.Item.TheVariants as item
use Rattle.golog_semantics.specs.declared.journal.Reason.{Reason}
use Rattle.golog_semantics.specs.declared.journal.Reason.TheVariants as reason
use Rattle.golog_tree.specs.Ground.{sort_size, ground_fluents}
use Rattle.golog_semantics.specs.Values.{fluent_sort}
use Rattle.golog_semantics.specs.Ways.{is_empty}
use Rattle.golog_semantics.specs.Journal.{Journal, Command, action_item, may_post, fluent_sensed, commands, is_outstanding, outstanding_commands, has_end, is_counted, is_full, count, limit}
use Rattle.golog_semantics.specs.Posts.{awaited_command, awaited_by, is_value_for, is_bad, later_reason, result_of, entry_of, posted_entry}
use Rattle.golog_semantics.specs.Online.{may_have_taken, may_close, is_result}
use Rattle.golog_semantics.specs.Reports.{place_limit, is_device}
use Rattle.golog_semantics.proofs.CausesKeep.{has}
use Rattle.golog_journal.specs.Boards.{IsBoardList}
use Rattle.golog_journal.specs.Taken.{IsDriven}
use Rattle.golog_journal.specs.Posting.{MayPost}
use Rattle.golog_journal.specs.Commits.{MayCommit, IsOfProgram}
use Rattle.golog_journal.proofs.Lawful.{count-push, lawful-push, lawful-from, commands-few}

-- the first that passes, where those before it do not
filter-first : {A : Type 0} (p : A → Bool) (xs : List A) (k : ℕ) (c : A) → list_any p (take k xs) ≡ false → slice_get xs k ≡ Some c → p c ≡ true
    → slice_get (filter p xs) 0 ≡ Some c
filter-first p [] k c none at passes = absurd (cc)
filter-first p (x ∷ xs) zero c none at passes =
    let same = same_Some x c at in
    let here : p x ≡ true = ap p same ∙ passes in
    ap (λ b. slice_get (if b then x ∷ filter p xs else filter p xs) 0) here ∙ ap Some same
filter-first p (x ∷ xs) (suc k) c none at passes =
    let parts = or_parts (p x) (list_any p (take k xs)) none in
    ap (λ b. slice_get (if b then x ∷ filter p xs else filter p xs) 0) parts.0 ∙ filter-first p xs k c parts.1 at passes

-- an action that a device may post is exogenous
some-poster : (device : ℕ) (o : Option ActionItem) → option_map_or (λ item. list_any (λ p. p == device) item.posters) o false ≡ true
    → option_map_or (λ item. not (is_empty item.posters)) o false ≡ true
some-poster device None h = h
some-poster device (Some item) h = go item.posters h
  where
    go : (ps : List ℕ) → list_any (λ p. p == device) ps ≡ true → not (is_empty ps) ≡ true
    go [] h = absurd (cc)
    go (p ∷ ps) h = refl

module _ (agent : Agent) (journal : Journal) (device taken : ℕ) where
  abbrev mine : List Command
  mine = commands agent device journal

  -- the last command taken, whose result is still to come
  pub record IsAwaited (c : Command) : Type 0 where
    pub some : 0 < taken
    pub at : slice_get mine (taken - 1) ≡ Some c
    pub open_still : is_outstanding agent journal c ≡ true

  pub is-awaited : (c : Command) → awaited_command agent journal device taken ≡ Some c → IsAwaited c
  is-awaited c h = go (taken == 0) refl h
    where
      by-some : (o : Option Command) → slice_get mine (taken - 1) ≡ o → 0 < taken → awaited_by agent journal device taken o ≡ Some c → IsAwaited c
      by-some None at some h = absurd (cc)
      by-some (Some x) at some h =
          let parts = cond_some (is_outstanding agent journal x) x c h in
          record { some = some; at = at ∙ ap Some parts.1; open_still = ap (is_outstanding agent journal) (sym parts.1) ∙ parts.0 }

      go : (b : Bool) → (taken == 0) ≡ b → (if b then None else awaited_by agent journal device taken (slice_get mine (taken - 1))) ≡ Some c → IsAwaited c
      go true is h = absurd (cc)
      go false is h = let not_none = eqb-false taken 0 is in by-some (slice_get mine (taken - 1)) refl (omega (arith, not_none)) h

  module _ (list : IsBoardList agent journal) (driven : IsDriven agent journal device taken) where
    pub may-taken : may_have_taken agent journal device taken ≡ true
    may-taken =
        (and_parts (may_have_taken agent journal device taken) (not (list_any (is_outstanding agent journal) (take (taken - 1) mine))) driven.fitting).0

    pub firsts : list_any (is_outstanding agent journal) (take (taken - 1) mine) ≡ false
    firsts =
        not-true (list_any (is_outstanding agent journal) (take (taken - 1) mine))
        (and_parts (may_have_taken agent journal device taken) (not (list_any (is_outstanding agent journal) (take (taken - 1) mine))) driven.fitting).1

    pub taken-few : taken ≤ length mine
    taken-few = leb-true taken (length mine) (and_parts (nat_le taken (length mine)) _ may-taken).0

    bounded : nat_le taken place_limit ≡ true
    bounded =
        let few = taken-few in
        let all = commands-few agent device journal in
        let room = list.room in
        le-leb taken place_limit (omega (arith, few, all, room))

    is-number : is_device agent device ≡ true
    is-number = lt-ltb device (length agent.devices) driven.is_device

    close-list : (r : Reason) → may_close agent journal device taken r ≡ true → IsBoardList agent (journal ++ Close device r taken ∷ [])
    close-list r may =
        lawful-push agent journal (Close device r taken) list
        (lawful-from agent journal (Close device r taken) (record {
          of_agent = and_from _ _ is-number bounded;
          after = or_right (not (has_end journal)) true refl;
          poster = driven.still_open;
          place = refl;
          taken = may-taken;
          close = may;
        }))
        (let c = count-push journal (Close device r taken) in let room = list.room in omega (arith, c, room))

    -- an entry that is counted, before the end, where there is room
    counted-room : (e : Entry) → is_counted e ≡ true → is_full journal ≡ false → count (journal ++ e ∷ []) ≤ limit
    counted-room e counts room =
        let c : count (journal ++ e ∷ []) ≡ count journal + 1 = count-push journal e ∙ ap (λ b. count journal + (if b then 1 else 0)) counts in
        let less = leb-false limit (count journal) room in
        omega (arith, c, less)

    exo-list : (action : ℕ) → has_end journal ≡ false → is_full journal ≡ false → is_bad agent journal device taken (item.Exo action) ≡ false
        → IsBoardList agent (journal ++ Exo device action ∷ [])
    exo-list action goes_on room good =
        let may : may_post agent device action ≡ true = not-false (may_post agent device action)
        (or_parts (not (may_post agent device action)) (is_some (awaited_command agent journal device taken)) good).0 in
        lawful-push agent journal (Exo device action) list
        (lawful-from agent journal (Exo device action) (record {
          of_agent = and_from _ _ is-number (some-poster device (action_item agent action) may);
          after = or_left (not (has_end journal)) false (not_from_false (has_end journal) goes_on);
          poster = and_from _ _ may driven.still_open;
          place = refl;
          taken = refl;
          close = refl;
        }))
        (counted-room (Exo device action) refl room)

    -- no result is awaited of the commands taken
    by-last : (c : Command) → is_some (awaited_by agent journal device taken (Some c)) ≡ false → is_outstanding agent journal c ≡ false
    by-last c h = go (is_outstanding agent journal c) h
      where
        go : (b : Bool) → is_some (if b then Some c else None) ≡ false → b ≡ false
        go true h = absurd (cc)
        go false h = refl

    pub none-awaited : is_some (awaited_command agent journal device taken) ≡ false → list_any (is_outstanding agent journal) (take taken mine) ≡ false
    none-awaited none = go (taken == 0) refl none
      where
        go : (b : Bool) → (taken == 0) ≡ b → is_some (if b then None else awaited_by agent journal device taken (slice_get mine (taken - 1))) ≡ false
            → list_any (is_outstanding agent journal) (take taken mine) ≡ false
        go true is none = ap (λ n. list_any (is_outstanding agent journal) (take n mine)) (eqb-true taken 0 is)
        go false is none =
            let some : 0 < taken = let not_none = eqb-false taken 0 is in omega (arith, not_none) in
            let few = taken-few in
            let inside : taken - 1 < length mine = omega (arith, some, few) in
            let d : Command = record { place = 0; action = 0 } in
            let last = slice_get-get_or mine (taken - 1) d inside in
            let done = by-last (get_or mine (taken - 1) d) (ap (λ o. is_some (awaited_by agent journal device taken o)) (sym last) ∙ none) in
            let next : taken - 1 + 1 ≡ taken = omega (arith, some) in
            ap (λ n. list_any (is_outstanding agent journal) (take n mine)) (sym next)
            ∙ list_any_more (is_outstanding agent journal) mine (taken - 1) d inside
            ∙ or_from _ _ firsts done

    rest-list : has_end journal ≡ false → is_full journal ≡ false → is_some (awaited_command agent journal device taken) ≡ false
        → IsBoardList agent (journal ++ Rest device taken ∷ [])
    rest-list goes_on room good =
        lawful-push agent journal (Rest device taken) list
        (lawful-from agent journal (Rest device taken) (record {
          of_agent = and_from _ _ is-number bounded;
          after = or_left (not (has_end journal)) false (not_from_false (has_end journal) goes_on);
          poster = driven.still_open;
          place = refl;
          taken = and_from _ _ may-taken (not_from_false (list_any (is_outstanding agent journal) (take taken mine)) (none-awaited good));
          close = refl;
        }))
        (counted-room (Rest device taken) refl room)

    module _ (inside : (action fluent : ℕ) → fluent_sensed agent action ≡ Some fluent → fluent < length (ground_fluents agent)) where
      sense-list : (value : ℕ) (c : Command) (fluent : ℕ) → has_end journal ≡ false → is_full journal ≡ false → IsAwaited c
          → fluent_sensed agent c.action ≡ Some fluent → nat_lt value (sort_size agent (fluent_sort agent fluent)) ≡ true
          → IsBoardList agent (journal ++ Sense device c.place fluent value ∷ [])
      sense-list value c fluent goes_on room is senses fitting =
          lawful-push agent journal (Sense device c.place fluent value) list
          (lawful-from agent journal (Sense device c.place fluent value) (record {
            of_agent = and_from _ _ (and_from _ _ is-number (and_from _ _ (lt-ltb fluent _ (inside c.action fluent senses)) fitting)) found;
            after = or_left (not (has_end journal)) false (not_from_false (has_end journal) goes_on);
            poster = driven.still_open;
            place = and_from _ _ first fitting;
            taken = refl;
            close = refl;
          }))
          (counted-room (Sense device c.place fluent value) refl room)
        where
          itself : is_result agent journal c.place fluent c ≡ true
          itself =
              and_from _ _ (eq-eqb c.place c.place refl)
              (ap (λ o. option_map_or (λ f. f == fluent) o false) senses ∙ eq-eqb fluent fluent refl)

          found : list_any (is_result agent journal c.place fluent) mine ≡ true
          found =
              list_any_at (is_result agent journal c.place fluent) mine (taken - 1) c (slice_get_within mine (taken - 1) c is.at)
              (ap (is_result agent journal c.place fluent) (get_or_from_slice_get mine (taken - 1) c c is.at) ∙ itself)

          first : option_map_or (is_result agent journal c.place fluent) (slice_get (outstanding_commands agent device journal) 0) false ≡ true
          first =
              ap (λ o. option_map_or (is_result agent journal c.place fluent) o false)
              (filter-first (is_outstanding agent journal) mine (taken - 1) c firsts is.at is.open_still)
              ∙ itself

      value-list : (value : ℕ) → has_end journal ≡ false → is_full journal ≡ false → is_bad agent journal device taken (item.Value value) ≡ false
          → IsBoardList agent (journal ++ entry_of agent journal device taken (item.Value value) ∷ [])
      value-list value goes_on room good =
          let one = has (is_value_for agent journal device taken value) (awaited_command agent journal device taken)
          (not-false (option_map_or (is_value_for agent journal device taken value) (awaited_command agent journal device taken) false) good) in
          let c : Command = one.item in
          let two = has (λ f. nat_lt value (sort_size agent (fluent_sort agent f))) (fluent_sensed agent c.action) one.passes in
          let entry : Sense device c.place two.item value ≡ entry_of agent journal device taken (item.Value value)
          = sym (ap (λ o. option_map_or (result_of agent journal device taken value) o (Rest device taken)) one.is
          ∙ ap (λ o. Sense device c.place (option_map_or (λ f. f) o 0) value) two.is) in
          subst (λ e. IsBoardList agent (journal ++ e ∷ [])) entry
          (sense-list value c two.item goes_on room (is-awaited c one.is) two.is two.passes)

      abbrev Posts : Item → Option Reason → Type 0
      Posts i o = IsBoardList agent (journal ++ option_map_or (λ r. Close device r taken) o (entry_of agent journal device taken i) ∷ [])

      later-list : (i : Item)
          → (has_end journal ≡ false → is_full journal ≡ false → is_bad agent journal device taken i ≡ false → IsBoardList agent (journal ++ entry_of agent journal device taken i ∷ []))
          → Posts i (later_reason agent journal device taken i)
      later-list i good =
          let last : Option Reason = if is_bad agent journal device taken i then Some reason.Bad else None in
          cond_both (has_end journal) (Some reason.Late) (if is_full journal then Some reason.Full else last) (Posts i) (λ late. close-list reason.Late late)
          (λ goes_on. cond_both (is_full journal) (Some reason.Full) last (Posts i)
          (λ full. close-list reason.Full (and_from _ _ full (not_from_false (has_end journal) goes_on)))
          (λ room. cond_both (is_bad agent journal device taken i) (Some reason.Bad) None (Posts i)
          (λ bad. close-list reason.Bad (not_from_false (has_end journal) goes_on)) (λ fine. good goes_on room fine)))

      -- what a device posts is lawful
      pub post-list : (i : Item) → MayPost agent journal device taken i → IsBoardList agent (journal ++ posted_entry agent journal device taken i ∷ [])
      post-list (item.Exo action) may = later-list (item.Exo action) (λ a b c. exo-list action a b c)
      post-list (item.Value value) may = later-list (item.Value value) (λ a b c. value-list value a b c)
      post-list item.Rest may = later-list item.Rest (λ a b c. rest-list a b c)
      post-list item.Close may = close-list reason.Ended refl
      post-list item.Unreadable may = later-list item.Unreadable (λ a b c. absurd (cc))
      post-list item.Silent may = later-list item.Silent (λ a b c. absurd (cc))
      post-list item.Stop may =
          let when = may.in_time in close-list reason.Stopped (and_from _ _ when.0 (eq-eqb taken (length mine) when.1))
      post-list item.Refused may =
          let when = may.in_time in
          close-list reason.Refused
          (and_from _ _ (and_from _ _ (eq-eqb taken 0 when.0) (ap is_empty when.1)) (ap is_empty when.2))

-- what the program commits at the end of the list is lawful
pub commit-list : (agent : Agent) (journal : Journal) (place : ℕ) (e : Entry) → IsBoardList agent journal → MayCommit agent journal place e
    → length journal ≡ place → IsBoardList agent (journal ++ e ∷ [])
commit-list agent journal place e list may at_end = go e may.of_program may.room
  where
    on : not (has_end journal) ≡ true
    on = not_from_false (has_end journal) may.goes_on

    go : (x : Entry) → IsOfProgram agent journal place e x → (is_counted x ≡ true → place ≡ length journal → count journal < limit)
        → IsBoardList agent (journal ++ x ∷ [])
    go (Do action) own room =
        lawful-push agent journal (Do action) list
        (lawful-from agent journal (Do action) (record {
          of_agent = own;
          after = or_left (not (has_end journal)) false on;
          poster = refl;
          place = refl;
          taken = refl;
          close = refl;
        }))
        (let c = count-push journal (Do action) in let less = room refl (sym at_end) in omega (arith, c, less))
    go Test own room =
        lawful-push agent journal Test list
        (lawful-from agent journal Test (record {
          of_agent = refl;
          after = or_left (not (has_end journal)) false on;
          poster = refl;
          place = refl;
          taken = refl;
          close = refl;
        }))
        (let c = count-push journal Test in let less = room refl (sym at_end) in omega (arith, c, less))
    go (End answer) own room =
        lawful-push agent journal (End answer) list
        (lawful-from agent journal (End answer) (record {
          of_agent = refl;
          after = or_left (not (has_end journal)) false on;
          poster = refl;
          place = refl;
          taken = refl;
          close = refl;
        }))
        (let c = count-push journal (End answer) in let full = list.room in omega (arith, c, full))
    go (Exo p action) own room = absurd own
    go (Sense p at f v) own room = absurd own
    go (Rest p t) own room = absurd own
    go (Close p r t) own room = absurd own
