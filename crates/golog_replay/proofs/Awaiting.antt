-- Whose result is still to come, and which one the program waits for: one command's at most.
use Rattle.std.proofs.Common.{◌≡◌, ◌≢◌, ℕ, zero, suc, ◌+◌, ◌≤◌, ◌<◌, Bool, true, false, not, ◌&&◌, ◌||◌, ◌==◌, if◌then◌else◌, List, [], ◌∷◌, ◌++◌, length, length-append, drop, take, append_assoc, add-one, Option, Some, None, ◌⊎◌, inl, inr, refl, sym, ap, ◌∙◌, subst, arith}
use Rattle.std.specs.Prelude.{filter, is_none, is_some, nat_le, nat_lt, option_map, option_and_then, slice_get}
use Rattle.std.specs.List.{cons_option, list_any, range_with_len}
use Rattle.std.specs.Option.{option_map_or, option_or, option_to_list}
use Rattle.std.proofs.lemmas.Bool.{and_from, and_parts, cases_eq, cases_lt, eq-eqb, eqb-false, eqb-true, le-leb, le-ltb, lt-leb, lt-ltb, ne_eqb, or_from, or_parts}
use Rattle.std.proofs.lemmas.List.{append-nil, take-append-le}
use Rattle.std.proofs.lemmas.List.Elements.{filter-append}
use Rattle.std.proofs.lemmas.List.Folds.{list_any-append}
use Rattle.golog_base.proofs.Bools.{and-false, and-true, or-true}
use Rattle.golog_tree.specs.declared.agent.Agent.{Agent}
use Rattle.golog_tree.specs.declared.agent.SenseItem.{SenseItem}
use Rattle.golog_tree.specs.Ground.{sort_size}
use Rattle.golog_semantics.specs.declared.journal.Entry.{Entry}
use Rattle.golog_semantics.specs.declared.journal.Entry.TheVariants.{Do, Test, Exo, Sense, Rest, Close, End}
use Rattle.golog_semantics.specs.Values.{Ground, fluent_sort, ground_actions}
use Rattle.golog_semantics.specs.Ways.{is_empty}
use Rattle.golog_semantics.specs.Journal.{Journal, Command, command_at, commands, device_of, fluent_sensed, held_commands, is_carried_by, is_held, is_open, is_outstanding, is_result_of, is_sensing, is_settled, is_waiting_for, lacks_result, outstanding_commands, sense_item, sensed_by}
use Rattle.golog_semantics.specs.Online.{is_result, keeps_place, told_taken}
use Rattle.golog_semantics.specs.Answer.{is_unanswered}
use Rattle.golog_semantics.specs.OneMore.{and_then, new_command}
use Rattle.golog_semantics.proofs.Grown.{commands_grow}
use Rattle.golog_journal.specs.Agents.{ServesDevices}
use Rattle.golog_journal.proofs.Beginning.{carrier-inside}
use Rattle.golog_journal.proofs.Staying.{at-place, filter-none, from, from-later, none-later}
use Rattle.golog_replay.specs.declared.standing.Held.{Held}
use Rattle.golog_replay.specs.declared.tracked.Awaited.{Awaited}
use Rattle.golog_replay.specs.Standings.{AreEarlier, AwaitsFrom, HoldsBy, IsHeld, awaited_by, awaits_among, commands_from, first_awaited, has_result, tells, told_by, unless_at}

-- ---- lists

and-swap : (a b : Bool) → (a && b) ≡ (b && a)
and-swap true true = refl
and-swap true false = refl
and-swap false true = refl
and-swap false false = refl

or-none : {A : Type 0} (o : Option A) → option_or o None ≡ o
or-none None = refl
or-none (Some x) = refl

or-assoc : {A : Type 0} (a b c : Option A) → option_or a (option_or b c) ≡ option_or (option_or a b) c
or-assoc None b c = refl
or-assoc (Some x) b c = refl

pub none-any : {A : Type 0} (f : A → Bool) (ds : List A) → ((d : A) → f d ≡ false) → list_any f ds ≡ false
none-any f [] h = refl
none-any f (d ∷ ds) h = ap (λ b. b || list_any f ds) (h d) ∙ none-any f ds h

one-any : (f : ℕ → Bool) (d : ℕ) → f d ≡ true → (a n : ℕ) → a ≤ d → d < a + n → list_any f (range_with_len a n) ≡ true
one-any f d h a zero low high = absurd (omega (arith, low, high))
one-any f d h a (suc n) low high = go (cases_eq a d) (λ (k : a ≢ d). one-any f d h (a + 1) n (omega (arith, low, k)) (omega (arith, high)))
  where
    later : (b : Bool) → list_any f (range_with_len (a + 1) n) ≡ true → (b || list_any f (range_with_len (a + 1) n)) ≡ true
    later true e = refl
    later false e = e

    go : (a ≡ d) ⊎ (a ≡ d → ⊥) → (a ≢ d → list_any f (range_with_len (a + 1) n) ≡ true) → (f a || list_any f (range_with_len (a + 1) n)) ≡ true
    go (inl e) rest = ap (λ k. f k || list_any f (range_with_len (a + 1) n)) e ∙ ap (λ b. b || list_any f (range_with_len (a + 1) n)) h
    go (inr k) rest = later (f a) (rest k)

filter-one : {A : Type 0} (p : A → Bool) (x : A) (b : Bool) → p x ≡ b → filter p (x ∷ []) ≡ (if b then x ∷ [] else [])
filter-one p x b e = ap (λ c. if c then x ∷ [] else []) e

filter-twice : {A : Type 0} (p q : A → Bool) (xs : List A) → filter p (filter q xs) ≡ filter (λ x. q x && p x) xs
filter-twice p q [] = refl
filter-twice p q (x ∷ xs) = go (q x) refl (filter-twice p q xs)
  where
    go : (b : Bool) → q x ≡ b → filter p (filter q xs) ≡ filter (λ x. q x && p x) xs → filter p (filter q (x ∷ xs)) ≡ filter (λ x. q x && p x) (x ∷ xs)
    go true e same =
        ap (λ b. filter p (if b then x ∷ filter q xs else filter q xs)) e
        ∙ ap (λ ys. if p x then x ∷ ys else ys) same
        ∙ sym (ap (λ b. if b && p x then x ∷ filter (λ x. q x && p x) xs else filter (λ x. q x && p x) xs) e)
    go false e same =
        ap (λ b. filter p (if b then x ∷ filter q xs else filter q xs)) e
        ∙ same
        ∙ sym (ap (λ b. if b && p x then x ∷ filter (λ x. q x && p x) xs else filter (λ x. q x && p x) xs) e)

filter-swap : {A : Type 0} (p q : A → Bool) (xs : List A) → filter p (filter q xs) ≡ filter q (filter p xs)
filter-swap p q xs =
    filter-twice p q xs ∙ ap (λ f. filter f xs) (λ i x. and-swap (q x) (p x) i) ∙ sym (filter-twice q p xs)

any-take : {A : Type 0} (p : A → Bool) (n : ℕ) (xs : List A) → list_any p xs ≡ false → list_any p (take n xs) ≡ false
any-take p zero xs h = refl
any-take p (suc n) [] h = refl
any-take p (suc n) (x ∷ xs) h =
    let parts = or_parts (p x) (list_any p xs) h in
    ap (λ b. b || list_any p (take n xs)) parts.0 ∙ any-take p n xs parts.1

any-taken : {A : Type 0} (p : A → Bool) (xs : List A) (c : A) (ys : List A) (n : ℕ) → length xs < n → p c ≡ true → list_any p (take n (xs ++ c ∷ ys)) ≡ true
any-taken p xs c ys zero low h = absurd (omega (arith, low))
any-taken p [] c ys (suc n) low h = ap (λ b. b || list_any p (take n ys)) h
any-taken p (x ∷ xs) c ys (suc n) low h =
    ap (λ b. p x || b) (any-taken p xs c ys n (omega (arith, low)) h) ∙ or-true (p x)

none-of-filter : {A : Type 0} (p : A → Bool) (xs : List A) → filter p xs ≡ [] → list_any p xs ≡ false
none-of-filter p [] h = refl
none-of-filter p (x ∷ xs) h = go (p x) refl (none-of-filter p xs)
  where
    go : (b : Bool) → p x ≡ b → (filter p xs ≡ [] → list_any p xs ≡ false) → (p x || list_any p xs) ≡ false
    go true e rest = absurd (let k = sym (ap (λ b. if b then x ∷ filter p xs else filter p xs) e) ∙ h in cc)
    go false e rest =
        ap (λ b. b || list_any p xs) e ∙ rest (sym (ap (λ b. if b then x ∷ filter p xs else filter p xs) e) ∙ h)

no-nil : {A : Type 0} (xs : List A) (c : A) (ys : List A) → [] ≡ xs ++ c ∷ ys → ⊥
no-nil [] c ys h = cc
no-nil (x ∷ xs) c ys h = cc

-- ---- the commands of a device, by their places

abbrev pub placed : ℕ → ℕ → Command
placed place action = record { place = place; action = action }

module _ (agent : Agent) where
  -- whether an action has a result
  abbrev senses-at : Command → Bool
  senses-at c = is_sensing agent c.action

  pub held-senses : (action : ℕ) → is_held agent action ≡ true → is_sensing agent action ≡ true
  held-senses action h = go (slice_get (ground_actions agent) action) h
    where
      by : (at : Ground) (s : Option SenseItem) → option_map_or (λ item. not item.later) s false ≡ true → is_some (option_map (sensed_by agent at) s) ≡ true
      by at None h = absurd (cc)
      by at (Some item) h = refl

      go : (o : Option Ground) → option_map_or (λ item. not item.later) (option_and_then (sense_item agent) o) false ≡ true
          → is_some (option_and_then (λ at. option_map (sensed_by agent at) (sense_item agent at)) o) ≡ true
      go None h = absurd (cc)
      go (Some at) h = by at (sense_item agent at) h

  carried-apart : (p d action : ℕ) → p ≢ d → is_carried_by agent p action ≡ true → is_carried_by agent d action ≡ false
  carried-apart p d action other h = go (device_of agent action) h
    where
      go : (o : Option ℕ) → option_map_or (λ k. k == p) o false ≡ true → option_map_or (λ k. k == d) o false ≡ false
      go None h = refl
      go (Some k) h = ne_eqb k d (λ e. other (sym (eqb-true k p h) ∙ e))

  one-carrier : (p d n : ℕ) → p ≢ d → (e : Entry) (x : Command) → command_at agent p (n, e) ≡ Some x → command_at agent d (n, e) ≡ None
  one-carrier p d n other (Do action) x h = go (is_carried_by agent p action) refl h
    where
      go : (b : Bool) → is_carried_by agent p action ≡ b → (if b then Some (placed n action) else None) ≡ Some x
          → (if is_carried_by agent d action then Some (placed n action) else None) ≡ None
      go true e h = ap (λ b. if b then Some (placed n action) else None) (carried-apart p d action other e)
      go false e h = absurd (cc)
  one-carrier p d n other Test x h = absurd (cc)
  one-carrier p d n other (Exo q a) x h = absurd (cc)
  one-carrier p d n other (Sense q at f v) x h = absurd (cc)
  one-carrier p d n other (Rest q t) x h = absurd (cc)
  one-carrier p d n other (Close q r t) x h = absurd (cc)
  one-carrier p d n other (End a) x h = absurd (cc)

  module _ (d : ℕ) where
    -- no command stands before the entries among which it is
    reach : (n : ℕ) (es : Journal) (xs : List Command) (c : Command) (ys : List Command) → from agent d n es ≡ xs ++ c ∷ ys → n ≤ c.place
    reach n [] xs c ys h = absurd (no-nil xs c ys h)
    reach n (e ∷ es) xs c ys h = go (command_at agent d (n, e)) (at-place agent d n e) xs h (λ zs same. reach (n + 1) es zs c ys same)
      where
        go : (o : Option Command) → ((x : Command) → o ≡ Some x → x.place ≡ n) → (xs : List Command) → cons_option o (from agent d (n + 1) es) ≡ xs ++ c ∷ ys
            → ((zs : List Command) → from agent d (n + 1) es ≡ zs ++ c ∷ ys → n + 1 ≤ c.place) → n ≤ c.place
        go None at xs h rest = let low = rest xs h in omega (arith, low)
        go (Some x) at [] h rest =
            let both : x ∷ from agent d (n + 1) es ≡ c ∷ ys = h in
            let here : x ≡ c = cc in
            let same : x.place ≡ c.place = ap (λ (k : Command). k.place) here in
            let place = at x refl in omega (arith, same, place)
        go (Some x) at (z ∷ zs) h rest =
            let both : x ∷ from agent d (n + 1) es ≡ z ∷ (zs ++ c ∷ ys) = h in
            let tail : from agent d (n + 1) es ≡ zs ++ c ∷ ys = cc in
            let low = rest zs tail in omega (arith, low)

    -- nor behind them
    within : (n : ℕ) (es : Journal) (xs : List Command) (c : Command) (ys : List Command) → from agent d n es ≡ xs ++ c ∷ ys → c.place < n + length es
    within n [] xs c ys h = absurd (no-nil xs c ys h)
    within n (e ∷ es) xs c ys h = go (command_at agent d (n, e)) (at-place agent d n e) xs h (λ zs same. within (n + 1) es zs c ys same)
      where
        go : (o : Option Command) → ((x : Command) → o ≡ Some x → x.place ≡ n) → (xs : List Command) → cons_option o (from agent d (n + 1) es) ≡ xs ++ c ∷ ys
            → ((zs : List Command) → from agent d (n + 1) es ≡ zs ++ c ∷ ys → c.place < n + 1 + length es) → c.place < n + length (e ∷ es)
        go None at xs h rest = let low = rest xs h in omega (arith, low)
        go (Some x) at [] h rest =
            let both : x ∷ from agent d (n + 1) es ≡ c ∷ ys = h in
            let here : x ≡ c = cc in
            let same : x.place ≡ c.place = ap (λ (k : Command). k.place) here in
            let place = at x refl in omega (arith, same, place)
        go (Some x) at (z ∷ zs) h rest =
            let both : x ∷ from agent d (n + 1) es ≡ z ∷ (zs ++ c ∷ ys) = h in
            let tail : from agent d (n + 1) es ≡ zs ++ c ∷ ys = cc in
            let low = rest zs tail in omega (arith, low)

    -- there are no more commands than entries
    few-from : (n : ℕ) (es : Journal) → length (from agent d n es) ≤ length es
    few-from n [] = omega arith
    few-from n (e ∷ es) = go (command_at agent d (n, e)) (few-from (n + 1) es)
      where
        go : (o : Option Command) → length (from agent d (n + 1) es) ≤ length es → length (cons_option o (from agent d (n + 1) es)) ≤ length (e ∷ es)
        go None few = omega (arith, few)
        go (Some x) few = omega (arith, few)

    -- those that stand before a command are those in front of it
    before-it : (n : ℕ) (es : Journal) (xs : List Command) (c : Command) (ys : List Command) → from agent d n es ≡ xs ++ c ∷ ys
        → filter (λ x. nat_lt x.place c.place) (from agent d n es) ≡ xs
    before-it n [] xs c ys h = absurd (no-nil xs c ys h)
    before-it n (e ∷ es) xs c ys h =
        go (command_at agent d (n, e)) (at-place agent d n e) xs h (λ zs same. before-it (n + 1) es zs c ys same)
      where
        go : (o : Option Command) → ((x : Command) → o ≡ Some x → x.place ≡ n) → (xs : List Command) → cons_option o (from agent d (n + 1) es) ≡ xs ++ c ∷ ys
            → ((zs : List Command) → from agent d (n + 1) es ≡ zs ++ c ∷ ys → filter (λ x. nat_lt x.place c.place) (from agent d (n + 1) es) ≡ zs)
            → filter (λ x. nat_lt x.place c.place) (cons_option o (from agent d (n + 1) es)) ≡ xs
        go None at xs h rest = rest xs h
        go (Some x) at [] h rest =
            let both : x ∷ from agent d (n + 1) es ≡ c ∷ ys = h in
            let here : x ≡ c = cc in
            let same : x.place ≡ c.place = ap (λ (k : Command). k.place) here in
            let place = at x refl in
            ap (λ b. if b then x ∷ filter (λ x. nat_lt x.place c.place) (from agent d (n + 1) es) else filter (λ x. nat_lt x.place c.place) (from agent d (n + 1) es))
            (le-ltb x.place c.place (omega (arith, same)))
            ∙ from-later agent d (n + 1) c.place es (omega (arith, same, place))
        go (Some x) at (z ∷ zs) h rest =
            let both : x ∷ from agent d (n + 1) es ≡ z ∷ (zs ++ c ∷ ys) = h in
            let tail : from agent d (n + 1) es ≡ zs ++ c ∷ ys = cc in
            let here : x ≡ z = cc in
            let low = reach (n + 1) es zs c ys tail in
            let place = at x refl in
            ap (λ b. if b then x ∷ filter (λ x. nat_lt x.place c.place) (from agent d (n + 1) es) else filter (λ x. nat_lt x.place c.place) (from agent d (n + 1) es))
            (lt-ltb x.place c.place (omega (arith, low, place)))
            ∙ (λ i. here i ∷ rest zs tail i)

    -- those among the entries behind a command are those behind it
    behind-it : (n : ℕ) (es : Journal) (xs : List Command) (c : Command) (ys : List Command) → from agent d n es ≡ xs ++ c ∷ ys
        → (m k : ℕ) → n + m ≡ c.place → k ≡ c.place + 1 → from agent d k (drop (suc m) es) ≡ ys
    behind-it n [] xs c ys h m k at past = absurd (no-nil xs c ys h)
    behind-it n (e ∷ es) xs c ys h m k at past =
        go (command_at agent d (n, e)) (at-place agent d n e) xs h m at (λ zs same i there. behind-it (n + 1) es zs c ys same i k there past)
      where
        go : (o : Option Command) → ((x : Command) → o ≡ Some x → x.place ≡ n) → (xs : List Command) → cons_option o (from agent d (n + 1) es) ≡ xs ++ c ∷ ys
            → (m : ℕ) → n + m ≡ c.place
            → ((zs : List Command) → from agent d (n + 1) es ≡ zs ++ c ∷ ys → (i : ℕ) → n + 1 + i ≡ c.place → from agent d k (drop (suc i) es) ≡ ys)
            → from agent d k (drop m es) ≡ ys
        go None at xs h zero there rest = absurd (let low = reach (n + 1) es xs c ys h in omega (arith, low, there))
        go None at xs h (suc m) there rest = rest xs h m (omega (arith, there))
        go (Some x) at [] h zero there rest =
            let both : x ∷ from agent d (n + 1) es ≡ c ∷ ys = h in
            let tail : from agent d (n + 1) es ≡ ys = cc in
            ap (λ j. from agent d j es) (let k : k ≡ n + 1 = omega (arith, there, past) in k) ∙ tail
        go (Some x) at [] h (suc m) there rest =
            absurd
            (let both : x ∷ from agent d (n + 1) es ≡ c ∷ ys = h in
            let here : x ≡ c = cc in
            let same : x.place ≡ c.place = ap (λ (k : Command). k.place) here in
            let place = at x refl in omega (arith, same, place, there))
        go (Some x) at (z ∷ zs) h zero there rest =
            absurd
            (let both : x ∷ from agent d (n + 1) es ≡ z ∷ (zs ++ c ∷ ys) = h in
            let tail : from agent d (n + 1) es ≡ zs ++ c ∷ ys = cc in
            let low = reach (n + 1) es zs c ys tail in omega (arith, low, there))
        go (Some x) at (z ∷ zs) h (suc m) there rest =
            let both : x ∷ from agent d (n + 1) es ≡ z ∷ (zs ++ c ∷ ys) = h in
            let tail : from agent d (n + 1) es ≡ zs ++ c ∷ ys = cc in rest zs tail m (omega (arith, there))

    -- none of them stands at an earlier place
    none-at : (k n : ℕ) → k < n → (es : Journal) → list_any (λ x. k == x.place) (from agent d n es) ≡ false
    none-at k n low [] = refl
    none-at k n low (e ∷ es) = go (command_at agent d (n, e)) (at-place agent d n e) (none-at k (n + 1) (omega (arith, low)) es)
      where
        go : (o : Option Command) → ((x : Command) → o ≡ Some x → x.place ≡ n) → list_any (λ x. k == x.place) (from agent d (n + 1) es) ≡ false
            → list_any (λ x. k == x.place) (cons_option o (from agent d (n + 1) es)) ≡ false
        go None at rest = rest
        go (Some x) at rest =
            let place = at x refl in
            or_from (k == x.place) (list_any (λ x. k == x.place) (from agent d (n + 1) es)) (ne_eqb k x.place (λ e. omega (arith, e, place, low))) rest

    -- those behind a command stand at other places
    later-apart : (journal : Journal) (xs : List Command) (c : Command) (ys : List Command) → commands agent d journal ≡ xs ++ c ∷ ys
        → (k : ℕ) → k ≡ c.place → list_any (λ x. k == x.place) ys ≡ false
    later-apart journal xs c ys h k at =
        ap (list_any (λ x. k == x.place)) (sym (behind-it 0 journal xs c ys h c.place (c.place + 1) (omega arith) refl))
        ∙ none-at k (c.place + 1) (omega (arith, at)) (drop (suc c.place) journal)

    pub behind-place : (journal : Journal) (xs : List Command) (c : Command) (ys : List Command) → commands agent d journal ≡ xs ++ c ∷ ys
        → (k : ℕ) → k ≡ c.place → commands_from agent d (k + 1) (drop (k + 1) journal) ≡ ys
    behind-place journal xs c ys h k at =
        ap (λ j. from agent d (k + 1) (drop j journal)) (let j : k + 1 ≡ suc k = add-one k in j)
        ∙ behind-it 0 journal xs c ys h k (k + 1) (omega (arith, at)) (omega (arith, at))

  -- the commands of another device stand at other places
  apart : (p d n : ℕ) → p ≢ d → (es : Journal) (xs : List Command) (c : Command) (ys : List Command) → from agent p n es ≡ xs ++ c ∷ ys
      → (k : ℕ) → k ≡ c.place → list_any (λ x. k == x.place) (from agent d n es) ≡ false
  apart p d n other [] xs c ys h k at = refl
  apart p d n other (e ∷ es) xs c ys h k at =
      go (command_at agent p (n, e)) refl (at-place agent p n e) xs h (λ zs same. apart p d (n + 1) other es zs c ys same k at)
    where
      past : (o : Option Command) → ((x : Command) → o ≡ Some x → x.place ≡ n) → n < k → list_any (λ x. k == x.place) (from agent d (n + 1) es) ≡ false
          → list_any (λ x. k == x.place) (cons_option o (from agent d (n + 1) es)) ≡ false
      past None is low rest = rest
      past (Some x) is low rest =
          let place = is x refl in
          or_from (k == x.place) (list_any (λ x. k == x.place) (from agent d (n + 1) es)) (ne_eqb k x.place (λ e. omega (arith, e, place, low))) rest

      go : (o : Option Command) → command_at agent p (n, e) ≡ o → ((x : Command) → command_at agent p (n, e) ≡ Some x → x.place ≡ n)
          → (xs : List Command) → cons_option o (from agent p (n + 1) es) ≡ xs ++ c ∷ ys
          → ((zs : List Command) → from agent p (n + 1) es ≡ zs ++ c ∷ ys → list_any (λ x. k == x.place) (from agent d (n + 1) es) ≡ false)
          → list_any (λ x. k == x.place) (cons_option (command_at agent d (n, e)) (from agent d (n + 1) es)) ≡ false
      go None is at-p xs h rest =
          let low = reach p (n + 1) es xs c ys h in
          past (command_at agent d (n, e)) (at-place agent d n e) (omega (arith, low, at)) (rest xs h)
      go (Some x) is at-p [] h rest =
          let both : x ∷ from agent p (n + 1) es ≡ c ∷ ys = h in
          let here : x ≡ c = cc in
          let same : x.place ≡ c.place = ap (λ (k : Command). k.place) here in
          let place = at-p x is in
          ap (λ o. list_any (λ x. k == x.place) (cons_option o (from agent d (n + 1) es))) (one-carrier p d n other e x is)
          ∙ none-at d k (n + 1) (omega (arith, same, place, at)) es
      go (Some x) is at-p (z ∷ zs) h rest =
          let both : x ∷ from agent p (n + 1) es ≡ z ∷ (zs ++ c ∷ ys) = h in
          let tail : from agent p (n + 1) es ≡ zs ++ c ∷ ys = cc in
          ap (λ o. list_any (λ x. k == x.place) (cons_option o (from agent d (n + 1) es))) (one-carrier p d n other e x is) ∙ rest zs tail

  -- ---- the first of some commands that senses

  -- it, and what stands beside it
  record Found (n : ℕ) (cs : List Command) (a : Awaited) : Type 0 where
    pub skipped : List Command
    pub command : Command
    pub rest : List Command
    pub split : cs ≡ skipped ++ command ∷ rest
    pub quiet : list_any senses-at skipped ≡ false
    pub place_so : command.place ≡ a.place
    pub senses : fluent_sensed agent command.action ≡ Some a.fluent
    pub number_so : a.number ≡ n + length skipped + 1

  abbrev FoundIn : ℕ → List Command → Option Awaited → Type 0
  FoundIn n cs None = list_any senses-at cs ≡ false
  FoundIn n cs (Some a) = Found n cs a

  found : (n : ℕ) (cs : List Command) → FoundIn n cs (first_awaited agent n cs)
  found n [] = refl
  found n (c ∷ cs) = go (fluent_sensed agent c.action) refl (first_awaited agent (n + 1) cs) (found (n + 1) cs)
    where
      go : (o : Option ℕ) → fluent_sensed agent c.action ≡ o → (r : Option Awaited) → FoundIn (n + 1) cs r
          → FoundIn n (c ∷ cs) (option_or (option_map (λ f. record { place = c.place; fluent = f; number = n + 1 }) o) r)
      go (Some f) e r v = record {
        skipped = [];
        command = c;
        rest = cs;
        split = refl;
        quiet = refl;
        place_so = refl;
        senses = e;
        number_so = omega arith;
      }
      go None e None v = ap (λ o. is_some o || list_any senses-at cs) e ∙ v
      go None e (Some a) v = record {
        skipped = c ∷ v.skipped;
        command = v.command;
        rest = v.rest;
        split = ap (λ l. c ∷ l) v.split;
        quiet = ap (λ o. is_some o || list_any senses-at v.skipped) e ∙ v.quiet;
        place_so = v.place_so;
        senses = v.senses;
        number_so = let k = v.number_so in omega (arith, k);
      }

  pub first-more : (n : ℕ) (cs : List Command) (c : Command) (k : ℕ) → k ≡ n + length cs + 1
      → first_awaited agent n (cs ++ c ∷ []) ≡ option_or (first_awaited agent n cs) (awaited_by agent c.place c.action k)
  first-more n [] c k last =
      or-none (awaited_by agent c.place c.action (n + 1))
      ∙ ap (awaited_by agent c.place c.action) (let same : n + 1 ≡ k = omega (arith, last) in same)
  first-more n (x ∷ cs) c k last =
      ap (option_or (awaited_by agent x.place x.action (n + 1))) (first-more (n + 1) cs c k (omega (arith, last)))
      ∙ or-assoc (awaited_by agent x.place x.action (n + 1)) (first_awaited agent (n + 1) cs) (awaited_by agent c.place c.action k)

module _ (agent : Agent) (journal : Journal) where
  abbrev out : Command → Bool
  out = is_outstanding agent journal

  none-out : (cs : List Command) → list_any (λ (c : Command). is_sensing agent c.action) cs ≡ false → list_any out cs ≡ false
  none-out [] h = refl
  none-out (c ∷ cs) h =
      let parts = or_parts (is_sensing agent c.action) (list_any (λ (c : Command). is_sensing agent c.action) cs) h in
      or_from (out c) (list_any out cs) (ap (λ b. b && not (has_result agent journal c)) parts.0) (none-out cs parts.1)

  out-there : (c : Command) (f : ℕ) → has_result agent journal c ≡ false → fluent_sensed agent c.action ≡ Some f → out c ≡ true
  out-there c f none senses = ap (λ b. is_sensing agent c.action && not b) none ∙ ap (λ o. is_some o && true) senses

  -- ---- the first command of a device whose result is to come

  -- it, and what stands beside it
  pub record IsFirst (d : ℕ) (a : Awaited) : Type 0 where
    pub earlier : List Command
    pub command : Command
    pub later : List Command
    pub all : commands agent d journal ≡ earlier ++ command ∷ later
    pub come : list_any (is_outstanding agent journal) earlier ≡ false
    pub is_out : is_outstanding agent journal command ≡ true
    pub own : outstanding_commands agent d journal ≡ command ∷ filter (is_outstanding agent journal) later
    pub to_come : list_any (has_result agent journal) later ≡ false
    pub place_so : command.place ≡ a.place
    pub senses : fluent_sensed agent command.action ≡ Some a.fluent
    pub number_so : a.number ≡ length earlier + 1

  abbrev pub OutBy : ℕ → Option Awaited → Type 0
  OutBy d None = outstanding_commands agent d journal ≡ []
  OutBy d (Some a) = IsFirst d a

  pub out-by : (d : ℕ) (o : Option Awaited) → AwaitsFrom agent journal d o → OutBy d o
  out-by d o is = subst (OutBy d) (sym is.first_so) (go (first_awaited agent (length is.answered) is.coming) (found agent (length is.answered) is.coming))
    where
      behind : outstanding_commands agent d journal ≡ filter out is.coming
      behind =
          ap (filter out) is.split ∙ filter-append out is.answered is.coming
          ∙ ap (λ cs. cs ++ filter out is.coming) (filter-none out is.answered is.come)

      go : (r : Option Awaited) → FoundIn agent (length is.answered) is.coming r → OutBy d r
      go None none = behind ∙ filter-none out is.coming (none-out is.coming none)
      go (Some a) v =
          let parts =
          or_parts (list_any (has_result agent journal) v.skipped) (list_any (has_result agent journal) (v.command ∷ v.rest))
          (sym (list_any-append (has_result agent journal) v.skipped (v.command ∷ v.rest)) ∙ ap (list_any (has_result agent journal)) (sym v.split) ∙ is.to_come) in
          let here = or_parts (has_result agent journal v.command) (list_any (has_result agent journal) v.rest) parts.1 in
          let stands = out-there v.command a.fluent here.0 v.senses in
          let quiet = none-out v.skipped v.quiet in
          record {
            earlier = is.answered ++ v.skipped;
            command = v.command;
            later = v.rest;
            all = is.split ∙ ap (λ cs. is.answered ++ cs) v.split ∙ sym (append_assoc is.answered v.skipped (v.command ∷ v.rest));
            come = list_any-append out is.answered v.skipped ∙ or_from (list_any out is.answered) (list_any out v.skipped) is.come quiet;
            is_out = stands;
            own =
                behind ∙ ap (filter out) v.split ∙ filter-append out v.skipped (v.command ∷ v.rest)
                ∙ ap (λ cs. cs ++ filter out (v.command ∷ v.rest)) (filter-none out v.skipped quiet)
                ∙ ap (λ b. if b then v.command ∷ filter out v.rest else filter out v.rest) stands;
            to_come = here.1;
            place_so = v.place_so;
            senses = v.senses;
            number_so = let k = v.number_so in let l = length-append is.answered v.skipped in omega (arith, k, l);
          }

  pub lacks-by : (d : ℕ) (o : Option Awaited) → AwaitsFrom agent journal d o → is_some o ≡ lacks_result agent journal d
  lacks-by d o is = by o (out-by d o is)
    where
      by : (o : Option Awaited) → OutBy d o → is_some o ≡ lacks_result agent journal d
      by None none = sym (ap (λ cs. not (is_empty cs)) none)
      by (Some a) one = sym (ap (λ cs. not (is_empty cs)) one.own)

  -- ---- a result

  abbrev firsts : ℕ → ℕ → ℕ → Bool
  firsts p at f = option_map_or (is_result agent journal at f) (slice_get (outstanding_commands agent p journal) 0) false

  firsts-by : (p at f : ℕ) (o : Option Awaited) → OutBy p o → firsts p at f ≡ tells o at f
  firsts-by p at f None none = ap (λ cs. option_map_or (is_result agent journal at f) (slice_get cs 0) false) none
  firsts-by p at f (Some a) one =
      ap (λ cs. option_map_or (is_result agent journal at f) (slice_get cs 0) false) one.own
      ∙ ap (λ n. (n == at) && option_map_or (λ g. g == f) (fluent_sensed agent one.command.action) false) one.place_so
      ∙ ap (λ o. (a.place == at) && option_map_or (λ g. g == f) o false) one.senses

  pub place-by : (p : ℕ) (o : Option Awaited) → AwaitsFrom agent journal p o → (at f v : ℕ) → nat_lt v (sort_size agent (fluent_sort agent f)) ≡ true
      → keeps_place agent journal (Sense p at f v) ≡ tells o at f
  place-by p o awaits at f v value =
      ap (λ b. firsts p at f && b) value ∙ and-true (firsts p at f) ∙ firsts-by p at f o (out-by p o awaits)

  -- the command whose result an entry is
  pub record ItsResult (p at : ℕ) (o : Option Awaited) : Type 0 where
    pub a : Awaited
    pub is : IsFirst p a
    pub first_so : o ≡ Some a
    pub at_so : at ≡ is.command.place

  pub its-result : (p : ℕ) (o : Option Awaited) → AwaitsFrom agent journal p o → (at f v : ℕ) → keeps_place agent journal (Sense p at f v) ≡ true → ItsResult p at o
  its-result p o awaits at f v keeps = by o (out-by p o awaits) (firsts-by p at f o (out-by p o awaits))
    where
      first : firsts p at f ≡ true
      first = (and_parts (firsts p at f) (nat_lt v (sort_size agent (fluent_sort agent f))) keeps).0

      by : (o : Option Awaited) → OutBy p o → firsts p at f ≡ tells o at f → ItsResult p at o
      by None none told = absurd (let k = sym told ∙ first in cc)
      by (Some a) one told =
          let both = and_parts (a.place == at) (a.fluent == f) (sym told ∙ first) in
          record { a = a; is = one; first_so = refl; at_so = sym (one.place_so ∙ eqb-true a.place at both.0) }

  pub tells-number : (p at f v : ℕ) (o : Option Awaited) → ItsResult p at o → told_taken agent journal (Sense p at f v) ≡ told_by (Sense p at f v) o
  tells-number p at f v o r =
      let same : filter (λ c. nat_lt c.place at) (commands agent p journal) ≡ r.is.earlier =
      ap (λ k. filter (λ c. nat_lt c.place k) (commands agent p journal)) r.at_so
      ∙ before-it agent p 0 journal r.is.earlier r.is.command r.is.later r.is.all in
      let less = ap (λ (cs : List Command). length cs) same in
      let number = r.is.number_so in
      (let told : 1 + length (filter (λ c. nat_lt c.place at) (commands agent p journal)) ≡ r.a.number = omega (arith, less, number) in told)
      ∙ sym (ap (λ o. option_map_or (λ (a : Awaited). a.number) o 0) r.first_so)

  pub earlier-place : (p at : ℕ) (o : Option Awaited) → ItsResult p at o → at < length journal
  earlier-place p at o r =
      let low = within agent p 0 journal r.is.earlier r.is.command r.is.later r.is.all in
      let same = r.at_so in omega (arith, low, same)

  -- what is gone through behind its command
  pub number-below : (p at : ℕ) (o : Option Awaited) → ItsResult p at o
      → option_map_or (λ (a : Awaited). a.number) o 0 + length (commands_from agent p (at + 1) (drop (at + 1) journal)) ≤ length journal
  number-below p at o r =
      let same = ap (λ o. option_map_or (λ (a : Awaited). a.number) o 0) r.first_so in
      let number = r.is.number_so in
      let rest = ap (λ (cs : List Command). length cs) (behind-place agent p journal r.is.earlier r.is.command r.is.later r.is.all at r.at_so) in
      let all = ap (λ (cs : List Command). length cs) r.is.all ∙ length-append r.is.earlier (r.is.command ∷ r.is.later) in
      let few : length (commands agent p journal) ≤ length journal = few-from agent p 0 journal in
      omega (arith, same, number, rest, all, few)

  -- ---- the first commands of a device

  pub among-by : (d : ℕ) (o : Option Awaited) → AwaitsFrom agent journal d o → (n : ℕ)
      → awaits_among o n ≡ list_any (is_outstanding agent journal) (take n (commands agent d journal))
  among-by d o awaits n = by o (out-by d o awaits)
    where
      by : (o : Option Awaited) → OutBy d o → awaits_among o n ≡ list_any (is_outstanding agent journal) (take n (commands agent d journal))
      by None none = sym (any-take out n (commands agent d journal) (none-of-filter out (commands agent d journal) none))
      by (Some a) one = go (cases_lt n a.number)
        where
          all : list_any out (take n (commands agent d journal)) ≡ list_any out (take n (one.earlier ++ one.command ∷ one.later))
          all = ap (λ cs. list_any out (take n cs)) one.all

          go : (n < a.number) ⊎ (a.number ≤ n) → nat_le a.number n ≡ list_any out (take n (commands agent d journal))
          go (inl few) =
              lt-leb a.number n few
              ∙ sym
              (all
              ∙ ap (list_any out) (take-append-le n one.earlier (one.command ∷ one.later) (let k = one.number_so in omega (arith, few, k)))
              ∙ any-take out n one.earlier one.come)
          go (inr enough) =
              le-leb a.number n enough
              ∙ sym (all ∙ any-taken out one.earlier one.command one.later n (let k = one.number_so in omega (arith, enough, k)) one.is_out)

  -- ---- what the program waits for

  none-waited : (d : ℕ) → held_commands agent d journal ≡ [] → is_waiting_for agent journal d ≡ false
  none-waited d none = ap (λ cs. not (is_empty cs)) none

  waited : (h : Held) → IsHeld agent journal h → is_waiting_for agent journal h.device ≡ true
  waited h one = ap (λ cs. not (is_empty cs)) one.own

  pub settled-by : (o : Option Held) → HoldsBy agent journal o → is_settled agent journal ≡ is_none o
  settled-by None none = ap not (none-any (is_waiting_for agent journal) _ (λ d. none-waited d (none d)))
  settled-by (Some h) one =
      ap not
      (one-any (is_waiting_for agent journal) h.device (waited h one) 0 (length agent.devices) (omega arith)
      (let k = one.is_device in omega (arith, k)))

  pub none-held : (o : Option Held) → HoldsBy agent journal o → is_settled agent journal ≡ true → (d : ℕ) → held_commands agent d journal ≡ []
  none-held None none s d = none d
  none-held (Some h) one s d = absurd (let k = sym s ∙ settled-by (Some h) one in cc)

  pub unanswered-none : ((d : ℕ) → held_commands agent d journal ≡ []) → is_unanswered agent journal ≡ false
  unanswered-none none =
      none-any (λ d. not (is_open d journal) && is_waiting_for agent journal d) _
      (λ d. ap (λ b. not (is_open d journal) && b) (none-waited d (none d)) ∙ and-false (not (is_open d journal)))

  pub unanswered-one : (h : Held) → IsHeld agent journal h → (b : Bool) → is_open h.device journal ≡ b → is_unanswered agent journal ≡ not b
  unanswered-one h one true still_open = none-any (λ d. not (is_open d journal) && is_waiting_for agent journal d) _ each
    where
      each : (d : ℕ) → (not (is_open d journal) && is_waiting_for agent journal d) ≡ false
      each d = go (cases_eq d h.device)
        where
          go : (d ≡ h.device) ⊎ (d ≡ h.device → ⊥) → (not (is_open d journal) && is_waiting_for agent journal d) ≡ false
          go (inl e) = ap (λ b. not b && is_waiting_for agent journal d) (ap (λ k. is_open k journal) e ∙ still_open)
          go (inr k) = ap (λ b. not (is_open d journal) && b) (none-waited d (one.others d k)) ∙ and-false (not (is_open d journal))
  unanswered-one h one false shut =
      one-any (λ d. not (is_open d journal) && is_waiting_for agent journal d) h.device
      (and_from (not (is_open h.device journal)) (is_waiting_for agent journal h.device) (ap not shut) (waited h one)) 0 (length agent.devices)
      (omega arith) (let k = one.is_device in omega (arith, k))

-- ---- one more entry

-- no result of these stands, and the entry is none
pub neither : (agent : Agent) (journal : Journal) (e : Entry) (cs : List Command) → list_any (has_result agent journal) cs ≡ false → list_any (λ c. is_result_of c.place e) cs ≡ false
    → list_any (has_result agent (and_then journal e)) cs ≡ false
neither agent journal e [] h k = refl
neither agent journal e (c ∷ cs) h k =
    let was = or_parts (has_result agent journal c) (list_any (has_result agent journal) cs) h in
    let new = or_parts (is_result_of c.place e) (list_any (λ (c : Command). is_result_of c.place e) cs) k in
    or_from (has_result agent (and_then journal e) c) (list_any (has_result agent (and_then journal e)) cs)
    (list_any-append (is_result_of c.place) journal (e ∷ [])
    ∙ or_from (list_any (is_result_of c.place) journal) (is_result_of c.place e || false) was.0 (or_from (is_result_of c.place e) false new.0 refl))
    (neither agent journal e cs was.1 new.1)

module _ (agent : Agent) (journal : Journal) (e : Entry) where
  abbrev after : Journal
  after = and_then journal e

  abbrev holds : Command → Bool
  holds c = is_held agent c.action

  abbrev untold : Command → Bool
  untold c = not (is_result_of c.place e)

  -- those that the program waits for, and the new one if it is such
  held-grows : (d : ℕ) → held_commands agent d after
      ≡ filter untold (held_commands agent d journal) ++ filter holds (filter (is_outstanding agent after) (new_command agent journal e d))
  held-grows d =
      ap (filter holds) (commands_grow agent journal e d).waiting
      ∙ filter-append holds (filter untold (outstanding_commands agent d journal)) (filter (is_outstanding agent after) (new_command agent journal e d))
      ∙ ap (λ cs. cs ++ filter holds (filter (is_outstanding agent after) (new_command agent journal e d)))
      (filter-swap holds untold (outstanding_commands agent d journal))

  held-same : (d : ℕ) → new_command agent journal e d ≡ [] → held_commands agent d after ≡ filter untold (held_commands agent d journal)
  held-same d none =
      held-grows d
      ∙ ap (λ cs. filter untold (held_commands agent d journal) ++ filter holds (filter (is_outstanding agent after) cs)) none
      ∙ append-nil (filter untold (held_commands agent d journal))

  module _ (no_result : (c : Command) → is_result_of c.place e ≡ false) (none : (d : ℕ) → new_command agent journal e d ≡ []) where
    kept : (cs : List Command) → filter untold cs ≡ cs
    kept [] = refl
    kept (c ∷ cs) = ap (λ b. if not b then c ∷ filter untold cs else filter untold cs) (no_result c) ∙ ap (λ ys. c ∷ ys) (kept cs)

    still : (d : ℕ) → held_commands agent d after ≡ held_commands agent d journal
    still d = held-same d (none d) ∙ kept (held_commands agent d journal)

    pub holds-still : (o : Option Held) → HoldsBy agent journal o → HoldsBy agent after o
    holds-still None h = λ d. still d ∙ h d
    holds-still (Some h) one = record {
      is_device = one.is_device;
      command = one.command;
      place_so = one.place_so;
      own = still h.device ∙ one.own;
      others = λ d other. still d ∙ one.others d other;
    }

  -- the device's commands are the same, and none of those to come has its result now
  pub awaits-same : (d : ℕ) → new_command agent journal e d ≡ [] → (o : Option Awaited) → (is : AwaitsFrom agent journal d o)
      → list_any (λ c. is_result_of c.place e) is.coming ≡ false → AwaitsFrom agent after d o
  awaits-same d none o is untouched = record {
    answered = is.answered;
    coming = is.coming;
    split = (commands_grow agent journal e d).all ∙ ap (λ cs. commands agent d journal ++ cs) none ∙ append-nil (commands agent d journal) ∙ is.split;
    come = none-later agent journal (e ∷ []) is.answered is.come;
    to_come = neither agent journal e is.coming is.to_come untouched;
    first_so = is.first_so;
  }

-- ---- a result

module _ (agent : Agent) (journal : Journal) (p at f v : ℕ) where
  abbrev told : Journal
  told = and_then journal (Sense p at f v)

  pub holds-unless : (o : Option Held) → HoldsBy agent journal o → HoldsBy agent told (unless_at o at)
  holds-unless None none = λ d. held-same agent journal (Sense p at f v) d refl ∙ ap (filter (λ (c : Command). not (at == c.place))) (none d)
  holds-unless (Some h) one = go (h.place == at) refl
    where
      elsewhere : (d : ℕ) → d ≢ h.device → held_commands agent d told ≡ []
      elsewhere d other = held-same agent journal (Sense p at f v) d refl ∙ ap (filter (λ (c : Command). not (at == c.place))) (one.others d other)

      here : (b : Bool) → (at == one.command.place) ≡ b → held_commands agent h.device told ≡ (if not b then one.command ∷ [] else [])
      here b e =
          held-same agent journal (Sense p at f v) h.device refl
          ∙ ap (filter (λ (c : Command). not (at == c.place))) one.own
          ∙ filter-one (λ (c : Command). not (at == c.place)) one.command (not b) (ap not e)

      go : (b : Bool) → (h.place == at) ≡ b → HoldsBy agent told (if b then None else Some h)
      go true e = λ d. by d (cases_eq d h.device)
        where
          by : (d : ℕ) → (d ≡ h.device) ⊎ (d ≡ h.device → ⊥) → held_commands agent d told ≡ []
          by d (inl same) =
              ap (λ k. held_commands agent k told) same
              ∙ here true (eq-eqb at one.command.place (sym (one.place_so ∙ eqb-true h.place at e)))
          by d (inr other) = elsewhere d other
      go false e = record {
        is_device = one.is_device;
        command = one.command;
        place_so = one.place_so;
        own = here false (ne_eqb at one.command.place (λ same. eqb-false h.place at e (sym one.place_so ∙ sym same)));
        others = elsewhere;
      }

  -- for its device the next sensing command is the first then
  pub awaits-next : (o : Option Awaited) → AwaitsFrom agent journal p o → ItsResult agent journal p at o → (new : Option Awaited)
      → new ≡ first_awaited agent (option_map_or (λ (a : Awaited). a.number) o 0) (commands_from agent p (at + 1) (drop (at + 1) journal)) → AwaitsFrom agent told p new
  awaits-next o is r new so =
      let one = r.is in
      let number : option_map_or (λ (a : Awaited). a.number) o 0 ≡ length (one.earlier ++ one.command ∷ []) =
      ap (λ o. option_map_or (λ (a : Awaited). a.number) o 0) r.first_so ∙ one.number_so ∙ sym (length-append one.earlier (one.command ∷ [])) in
      record {
        answered = one.earlier ++ one.command ∷ [];
        coming = one.later;
        split =
            (commands_grow agent journal (Sense p at f v) p).all ∙ append-nil (commands agent p journal) ∙ one.all
            ∙ sym (append_assoc one.earlier (one.command ∷ []) one.later);
        come =
            list_any-append (is_outstanding agent told) one.earlier (one.command ∷ [])
            ∙ or_from (list_any (is_outstanding agent told) one.earlier) (is_outstanding agent told one.command || false)
            (none-later agent journal (Sense p at f v ∷ []) one.earlier one.come)
            (or_from (is_outstanding agent told one.command) false
            ((commands_grow agent journal (Sense p at f v) p).each one.command
            ∙ ap (λ b. is_outstanding agent journal one.command && not b) (eq-eqb at one.command.place r.at_so)
            ∙ and-false (is_outstanding agent journal one.command))
            refl);
        to_come =
            neither agent journal (Sense p at f v) one.later one.to_come
            (later-apart agent p journal one.earlier one.command one.later one.all at r.at_so);
        first_so = so ∙ (λ i. first_awaited agent (number i) (behind-place agent p journal one.earlier one.command one.later one.all at r.at_so i));
      }

  -- of another device none of those to come has its result now
  pub others-untold : (d : ℕ) → p ≢ d → (o : Option Awaited) → ItsResult agent journal p at o → (first : Option Awaited) → (is : AwaitsFrom agent journal d first)
      → list_any (λ c. is_result_of c.place (Sense p at f v)) is.coming ≡ false
  others-untold d other o r first is =
      (or_parts (list_any (λ (c : Command). at == c.place) is.answered) (list_any (λ (c : Command). at == c.place) is.coming)
      (sym (list_any-append (λ (c : Command). at == c.place) is.answered is.coming)
      ∙ ap (list_any (λ (c : Command). at == c.place)) (sym is.split)
      ∙ apart agent p d 0 other journal r.is.earlier r.is.command r.is.later r.is.all at r.at_so)).1

-- ---- an action

module _ (agent : Agent) (journal : Journal) (action : ℕ) where
  abbrev c : Command
  c = record { place = length journal; action = action }

  abbrev next : Journal
  next = and_then journal (Do action)

  new-if : (d : ℕ) (b : Bool) → is_carried_by agent d action ≡ b → new_command agent journal (Do action) d ≡ (if b then c ∷ [] else [])
  new-if d true e = ap (λ k. option_to_list (if k then Some c else None)) e
  new-if d false e = ap (λ k. option_to_list (if k then Some c else None)) e

  carried : (d : ℕ) (o : Option ℕ) → device_of agent action ≡ o → is_carried_by agent d action ≡ option_map_or (λ k. k == d) o false
  carried d o h = ap (λ o. option_map_or (λ k. k == d) o false) h

  -- the device that carries it out was sent one more
  pub awaits-more : AreEarlier journal → (d : ℕ) → new_command agent journal (Do action) d ≡ c ∷ [] → (o : Option Awaited) → AwaitsFrom agent journal d o
      → (n : ℕ) → n ≡ length (commands agent d journal) → AwaitsFrom agent next d (option_or o (awaited_by agent (length journal) action (n + 1)))
  awaits-more results d new o is n all = record {
    answered = is.answered;
    coming = is.coming ++ c ∷ [];
    split =
        (commands_grow agent journal (Do action) d).all ∙ (λ i. is.split i ++ new i) ∙ append_assoc is.answered is.coming (c ∷ []);
    come = none-later agent journal (Do action ∷ []) is.answered is.come;
    to_come =
        list_any-append (has_result agent next) is.coming (c ∷ [])
        ∙ or_from (list_any (has_result agent next) is.coming) (has_result agent next c || false)
        (neither agent journal (Do action) is.coming is.to_come (none-any (λ (c : Command). is_result_of c.place (Do action)) is.coming (λ c. refl)))
        (or_from (has_result agent next c) false
        (list_any-append (is_result_of (length journal)) journal (Do action ∷ [])
        ∙ ap (λ b. b || (false || false)) (results (length journal) (omega arith)))
        refl);
    first_so =
        ap (λ o. option_or o (awaited_by agent (length journal) action (n + 1))) is.first_so
        ∙ sym
        (first-more agent (length is.answered) is.coming c (n + 1)
        (let k = ap (λ (cs : List Command). length cs) is.split ∙ length-append is.answered is.coming in omega (arith, all, k)));
  }

  module _ (none : (d : ℕ) → held_commands agent d journal ≡ []) where
    only-new : (d : ℕ) → held_commands agent d next
        ≡ filter (λ x. is_held agent x.action) (filter (is_outstanding agent next) (new_command agent journal (Do action) d))
    only-new d =
        held-grows agent journal (Do action) d
        ∙ ap
        (λ cs. filter (λ (x : Command). not false) cs ++ filter (λ (x : Command). is_held agent x.action) (filter (is_outstanding agent next) (new_command agent journal (Do action) d)))
        (none d)

    unsent : (d : ℕ) → is_carried_by agent d action ≡ false → held_commands agent d next ≡ []
    unsent d h = only-new d ∙ ap (λ cs. filter (λ (x : Command). is_held agent x.action) (filter (is_outstanding agent next) cs)) (new-if d false h)

    pub holds-none : device_of agent action ≡ None → (d : ℕ) → held_commands agent d next ≡ []
    holds-none h d = unsent d (carried d None h)

    pub holds-nothing : is_held agent action ≡ false → (d : ℕ) → held_commands agent d next ≡ []
    holds-nothing h d = go (is_carried_by agent d action) refl
      where
        if-out : (b : Bool) → filter (λ (x : Command). is_held agent x.action) (if b then c ∷ [] else []) ≡ []
        if-out true = filter-one (λ (x : Command). is_held agent x.action) c false h
        if-out false = refl

        go : (b : Bool) → is_carried_by agent d action ≡ b → held_commands agent d next ≡ []
        go true e =
            only-new d
            ∙ ap (λ cs. filter (λ (x : Command). is_held agent x.action) (filter (is_outstanding agent next) cs)) (new-if d true e)
            ∙ ap (filter (λ (x : Command). is_held agent x.action)) (filter-one (is_outstanding agent next) c (is_outstanding agent next c) refl)
            ∙ if-out (is_outstanding agent next c)
        go false e = unsent d e

    pub holds-new : ServesDevices agent → AreEarlier journal → (device : ℕ) → device_of agent action ≡ Some device → is_held agent action ≡ true
        → (h : Held) → h.device ≡ device → h.place ≡ length journal → IsHeld agent next h
    holds-new serves results device sent held h d p = record {
      is_device = let k = carrier-inside agent serves action device sent in omega (arith, k, d);
      command = c;
      place_so = sym p;
      own =
          ap (λ k. held_commands agent k next) d ∙ only-new device
          ∙ ap (λ cs. filter (λ (x : Command). is_held agent x.action) (filter (is_outstanding agent next) cs))
          (new-if device true (carried device (Some device) sent ∙ eq-eqb device device refl))
          ∙ ap (filter (λ (x : Command). is_held agent x.action)) (filter-one (is_outstanding agent next) c true is-out)
          ∙ filter-one (λ (x : Command). is_held agent x.action) c true held;
      others = λ k other. unsent k (carried k (Some device) sent ∙ ne_eqb device k (λ same. other (sym (d ∙ same))));
    }
      where
        is-out : is_outstanding agent next c ≡ true
        is-out =
            (commands_grow agent journal (Do action) device).each c
            ∙ and-true (is_outstanding agent journal c)
            ∙ ap (λ b. is_sensing agent action && not b) (results (length journal) (omega arith))
            ∙ and-true (is_sensing agent action)
            ∙ held-senses agent action held

-- ---- results of earlier entries

pub earlier-still : (journal : Journal) (e : Entry) → AreEarlier journal → ((place : ℕ) → length journal + 1 ≤ place → is_result_of place e ≡ false)
    → AreEarlier (and_then journal e)
earlier-still journal e h own place high =
    let l = length-append journal (e ∷ []) in
    list_any-append (is_result_of place) journal (e ∷ [])
    ∙ ap (λ b. b || (is_result_of place e || false)) (h place (omega (arith, high, l)))
    ∙ ap (λ b. b || false) (own place (omega (arith, high, l)))
