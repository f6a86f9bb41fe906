-- The command whose result the program waits for: there is one at most, since the program goes on only after it.
use Rattle.std.proofs.Common.{◌≡◌, ◌≢◌, ℕ, suc, zero, ◌+◌, ◌≤◌, ◌<◌, Bool, true, false, not, ◌&&◌, ◌||◌, ◌==◌, if◌then◌else◌, List, [], ◌∷◌, ◌++◌, length, filter, Option, Some, None, ◌⊎◌, inl, inr, refl, sym, ap, ◌∙◌, arith}
use Rattle.std.specs.Prelude.{slice_get, is_some, option_and_then, option_map}
use Rattle.std.specs.List.{list_any, range_with_len}
use Rattle.std.specs.Option.{option_map_or}
use Rattle.std.proofs.lemmas.Bool.{and_from, cases_eq, eq-eqb, eqb-true, eqb-false, ne_eqb, or_from, or_parts}
use Rattle.std.proofs.lemmas.List.{append-nil}
use Rattle.std.proofs.lemmas.List.Elements.{filter-append}
use Rattle.golog_tree.specs.declared.agent.Agent.{Agent}
use Rattle.golog_tree.specs.declared.agent.SenseItem.{SenseItem}
use Rattle.golog_tree.specs.Ground.{Ground, ground_actions}
use Rattle.golog_semantics.specs.declared.journal.Entry.{Entry}
use Rattle.golog_semantics.specs.declared.journal.Entry.TheVariants.{Do, Test, Exo, Sense, Rest, Close, End}
use Rattle.golog_semantics.specs.Journal.{Journal, Command, command_at, device_of, held_commands, is_held, is_open, is_result_of, is_sensing, is_settled, is_waiting_for, outstanding_commands, sense_item, sensed_by}
use Rattle.golog_semantics.specs.Answer.{is_unanswered}
use Rattle.golog_semantics.specs.OneMore.{and_then}
use Rattle.golog_semantics.specs.Ways.{is_empty}
use Rattle.golog_semantics.proofs.Grown.{commands_grow}
use Rattle.golog_journal.specs.Boards.{IsBoardList}
use Rattle.golog_journal.specs.Agents.{ServesDevices}
use Rattle.golog_journal.specs.Quiet.{held_of}
use Rattle.golog_journal.proofs.Beginning.{carrier-inside}
use Rattle.golog_journal.proofs.Outstanding.{out-same, out-sent}
use Rattle.golog_journal.proofs.Tallied.{no-carrier, other-carrier, own-carrier}
use Rattle.golog_agent.specs.declared.held.Held.{Held}
use Rattle.golog_agent.specs.Keeping.{AwaitsOne, AwaitsFrom, held_at, held_by, unless_told}

-- ---- lists

filter-if : {A : Type 0} (p : A → Bool) (x : A) (b : Bool) → p x ≡ b → filter p (x ∷ []) ≡ (if b then x ∷ [] else [])
filter-if p x b e = ap (λ c. if c then x ∷ [] else []) e

-- two tests pass the same, in either order
filter-both : {A : Type 0} (p q : A → Bool) (xs : List A) → filter p (filter q xs) ≡ filter q (filter p xs)
filter-both p q [] = refl
filter-both p q (x ∷ xs) = go (p x) (q x) refl refl (filter-both p q xs)
  where
    go : (b c : Bool) → p x ≡ b → q x ≡ c → filter p (filter q xs) ≡ filter q (filter p xs)
        → filter p (if c then x ∷ filter q xs else filter q xs) ≡ filter q (if b then x ∷ filter p xs else filter p xs)
    go true true e k same =
        ap (λ t. if t then x ∷ filter p (filter q xs) else filter p (filter q xs)) e ∙ ap (λ ys. x ∷ ys) same
        ∙ sym (ap (λ t. if t then x ∷ filter q (filter p xs) else filter q (filter p xs)) k)
    go true false e k same = same ∙ sym (ap (λ t. if t then x ∷ filter q (filter p xs) else filter q (filter p xs)) k)
    go false true e k same = ap (λ t. if t then x ∷ filter p (filter q xs) else filter p (filter q xs)) e ∙ same
    go false false e k same = same

none-any : (f : ℕ → Bool) → ((d : ℕ) → f d ≡ false) → (a n : ℕ) → list_any f (range_with_len a n) ≡ false
none-any f h a zero = refl
none-any f h a (suc n) = rw (h a) (none-any f h (a + 1) n)

one-any : (f : ℕ → Bool) (d : ℕ) → f d ≡ true → (a n : ℕ) → a ≤ d → d < a + n → list_any f (range_with_len a n) ≡ true
one-any f d h a zero low high = absurd (omega (arith, low, high))
one-any f d h a (suc n) low high = go (cases_eq a d) (λ (k : a ≢ d). one-any f d h (a + 1) n (omega (arith, low, k)) (omega (arith, high)))
  where
    later : (b : Bool) → list_any f (range_with_len (a + 1) n) ≡ true → (b || list_any f (range_with_len (a + 1) n)) ≡ true
    later true e = refl
    later false e = e

    go : (a ≡ d) ⊎ (a ≡ d → ⊥) → (a ≢ d → list_any f (range_with_len (a + 1) n) ≡ true) → (f a || list_any f (range_with_len (a + 1) n)) ≡ true
    go (inl e) rest = ap (λ k. f k || list_any f (range_with_len (a + 1) n)) e ∙ ap (λ b. b || list_any f (range_with_len (a + 1) n)) h
    go (inr k) rest = later (f a) (rest k)

pub and-false : (a b : Bool) → b ≡ false → (a && b) ≡ false
and-false true b h = h
and-false false b h = refl

pub any-and : (p q : ℕ → Bool) (xs : List ℕ) → list_any q xs ≡ false → list_any (λ d. p d && q d) xs ≡ false
any-and p q [] h = refl
any-and p q (x ∷ xs) h =
    let parts = or_parts (q x) (list_any q xs) h in
    or_from _ _ (and-false (p x) (q x) parts.0) (any-and p q xs parts.1)

module _ (agent : Agent) (journal : Journal) where
  -- ---- what is waited for

  none-waited : (d : ℕ) → held_commands agent d journal ≡ [] → is_waiting_for agent journal d ≡ false
  none-waited d none = ap (λ (cs : List Command). not (is_empty cs)) none

  waited : (d : ℕ) (c : Command) → held_commands agent d journal ≡ c ∷ [] → is_waiting_for agent journal d ≡ true
  waited d c own = ap (λ (cs : List Command). not (is_empty cs)) own

  pub settled-none : ((d : ℕ) → held_commands agent d journal ≡ []) → is_settled agent journal ≡ true
  settled-none none = ap not (none-any (is_waiting_for agent journal) (λ d. none-waited d (none d)) 0 (length agent.devices))

  pub unanswered-none : ((d : ℕ) → held_commands agent d journal ≡ []) → is_unanswered agent journal ≡ false
  unanswered-none none =
      none-any (λ d. not (is_open d journal) && is_waiting_for agent journal d)
      (λ d. and-false (not (is_open d journal)) (is_waiting_for agent journal d) (none-waited d (none d))) 0 (length agent.devices)

  module _ (held : Held) (one : AwaitsOne agent journal held) where
    other-waits : (d : ℕ) → (d ≡ held.device → ⊥) → is_waiting_for agent journal d ≡ false
    other-waits d other = none-waited d (one.others d other)

    pub settled-one : is_settled agent journal ≡ false
    settled-one =
        ap not
        (one-any (is_waiting_for agent journal) held.device (waited held.device one.command one.own) 0 (length agent.devices) (omega arith)
        (let k = one.is_device in omega (arith, k)))

    pub unanswered-open : is_open held.device journal ≡ true → is_unanswered agent journal ≡ false
    unanswered-open still_open =
        none-any (λ d. not (is_open d journal) && is_waiting_for agent journal d) each 0 (length agent.devices)
      where
        each : (d : ℕ) → (not (is_open d journal) && is_waiting_for agent journal d) ≡ false
        each d = go (cases_eq d held.device)
          where
            go : (d ≡ held.device) ⊎ (d ≡ held.device → ⊥) → (not (is_open d journal) && is_waiting_for agent journal d) ≡ false
            go (inl e) = ap (λ b. not b && is_waiting_for agent journal d) (ap (λ k. is_open k journal) e ∙ still_open)
            go (inr k) = and-false (not (is_open d journal)) (is_waiting_for agent journal d) (other-waits d k)

    pub unanswered-closed : is_open held.device journal ≡ false → is_unanswered agent journal ≡ true
    unanswered-closed shut =
        one-any (λ d. not (is_open d journal) && is_waiting_for agent journal d) held.device
        (and_from (not (is_open held.device journal)) (is_waiting_for agent journal held.device) (ap not shut) (waited held.device one.command one.own)) 0
        (length agent.devices) (omega arith) (let k = one.is_device in omega (arith, k))

  -- ---- one more entry

  -- where the same results are to come, the same are waited for
  held-as : (e : Entry) (d : ℕ) → outstanding_commands agent d (and_then journal e) ≡ outstanding_commands agent d journal
      → held_commands agent d (and_then journal e) ≡ held_commands agent d journal
  held-as e d same = ap (filter (λ (c : Command). is_held agent c.action)) same

  stays-so : (e : Entry) → ((d : ℕ) → held_commands agent d (and_then journal e) ≡ held_commands agent d journal) → (awaited : Option Held)
      → AwaitsFrom agent journal awaited → AwaitsFrom agent (and_then journal e) awaited
  stays-so e same None none = λ d. same d ∙ none d
  stays-so e same (Some held) one = record {
    is_device = one.is_device;
    command = one.command;
    at_place = one.at_place;
    own = same held.device ∙ one.own;
    others = λ d other. same d ∙ one.others d other;
  }

  -- an entry that is no result and no command
  stays : (e : Entry) → ((c : Command) → is_result_of c.place e ≡ false) → ((d : ℕ) → command_at agent d (length journal, e) ≡ None)
      → (awaited : Option Held) → AwaitsFrom agent journal awaited → AwaitsFrom agent (and_then journal e) awaited
  stays e no_result none = stays-so e (λ d. held-as e d (out-same agent journal e no_result d (none d)))

  -- a result: its command is no longer waited for, and each other is as before
  module _ (p at f v : ℕ) where
    told : (d : ℕ) → held_commands agent d (and_then journal (Sense p at f v)) ≡ filter (λ (c : Command). not (at == c.place)) (held_commands agent d journal)
    told d =
        ap (filter (λ (c : Command). is_held agent c.action))
        ((commands_grow agent journal (Sense p at f v) d).waiting
        ∙ append-nil (filter (λ (c : Command). not (at == c.place)) (outstanding_commands agent d journal)))
        ∙ filter-both (λ (c : Command). is_held agent c.action) (λ (c : Command). not (at == c.place)) (outstanding_commands agent d journal)

    none-told : (d : ℕ) → held_commands agent d journal ≡ [] → held_commands agent d (and_then journal (Sense p at f v)) ≡ []
    none-told d none = told d ∙ ap (filter (λ (c : Command). not (at == c.place))) none

    sensed : (awaited : Option Held) → AwaitsFrom agent journal awaited → AwaitsFrom agent (and_then journal (Sense p at f v)) (unless_told at awaited)
    sensed None none = λ d. none-told d (none d)
    sensed (Some held) one = go (held.place == at) refl
      where
        own : (b : Bool) → (held.place == at) ≡ b → held_commands agent held.device (and_then journal (Sense p at f v)) ≡ (if b then [] else one.command ∷ [])
        own true e =
            told held.device ∙ ap (filter (λ (c : Command). not (at == c.place))) one.own
            ∙ filter-if (λ (c : Command). not (at == c.place)) one.command false
            (ap not (eq-eqb at one.command.place (sym (one.at_place ∙ eqb-true held.place at e))))
        own false e =
            told held.device ∙ ap (filter (λ (c : Command). not (at == c.place))) one.own
            ∙ filter-if (λ (c : Command). not (at == c.place)) one.command true
            (ap not (ne_eqb at one.command.place (λ same. eqb-false held.place at e (sym one.at_place ∙ sym same))))

        none : (held.place == at) ≡ true → (d : ℕ) → held_commands agent d (and_then journal (Sense p at f v)) ≡ []
        none e d = by (cases_eq d held.device)
          where
            by : (d ≡ held.device) ⊎ (d ≡ held.device → ⊥) → held_commands agent d (and_then journal (Sense p at f v)) ≡ []
            by (inl same) = ap (λ k. held_commands agent k (and_then journal (Sense p at f v))) same ∙ own true e
            by (inr other) = none-told d (one.others d other)

        go : (b : Bool) → (held.place == at) ≡ b → AwaitsFrom agent (and_then journal (Sense p at f v)) (if b then None else Some held)
        go true e = none e
        go false e = record {
          is_device = one.is_device;
          command = one.command;
          at_place = one.at_place;
          own = own false e;
          others = λ d other. none-told d (one.others d other);
        }

  -- an action: its result is waited for where it has one that may not come later
  module _ (action : ℕ) (serves : ServesDevices agent) (lawful : IsBoardList agent journal) (none : (d : ℕ) → held_commands agent d journal ≡ []) where
    abbrev c : Command
    c = record { place = length journal; action = action }

    -- what is held is answered with a value
    held-senses : is_held agent action ≡ true → is_sensing agent action ≡ true
    held-senses h = by-ground (slice_get (ground_actions agent) action) refl h
      where
        by-item : (at : Ground) (o : Option SenseItem) → sense_item agent at ≡ o → slice_get (ground_actions agent) action ≡ Some at
            → option_map_or (λ (item : SenseItem). not item.later) o false ≡ true → is_sensing agent action ≡ true
        by-item at None found is h = absurd (cc)
        by-item at (Some item) found is h =
            ap (λ (o : Option Ground). is_some (option_and_then (λ (g : Ground). option_map (sensed_by agent g) (sense_item agent g)) o)) is
            ∙ ap (λ (o : Option SenseItem). is_some (option_map (sensed_by agent at) o)) found

        by-ground : (o : Option Ground) → slice_get (ground_actions agent) action ≡ o
            → option_map_or (λ (item : SenseItem). not item.later) (option_and_then (sense_item agent) o) false ≡ true → is_sensing agent action ≡ true
        by-ground None is h = absurd (cc)
        by-ground (Some at) is h = by-item at (sense_item agent at) refl is h

    not-mine : (d : ℕ) → command_at agent d (length journal, Do action) ≡ None → held_commands agent d (and_then journal (Do action)) ≡ []
    not-mine d other = held-as (Do action) d (out-same agent journal (Do action) (λ x. refl) d other) ∙ none d

    mine : (d : ℕ) → command_at agent d (length journal, Do action) ≡ Some c → (h : Bool) → is_held agent action ≡ h
        → held_commands agent d (and_then journal (Do action)) ≡ (if h then c ∷ [] else [])
    mine d own h is =
        ap (filter (λ (x : Command). is_held agent x.action)) (out-sent agent journal action d lawful own)
        ∙ filter-append (λ (x : Command). is_held agent x.action) (outstanding_commands agent d journal) (if is_sensing agent action then c ∷ [] else [])
        ∙ ap (λ (cs : List Command). cs ++ filter (λ (x : Command). is_held agent x.action) (if is_sensing agent action then c ∷ [] else [])) (none d)
        ∙ by h is
      where
        unheld : (s : Bool) → is_held agent action ≡ false → filter (λ (x : Command). is_held agent x.action) (if s then c ∷ [] else []) ≡ []
        unheld true e = filter-if (λ (x : Command). is_held agent x.action) c false e
        unheld false e = refl

        by : (h : Bool) → is_held agent action ≡ h → filter (λ (x : Command). is_held agent x.action) (if is_sensing agent action then c ∷ [] else []) ≡ (if h then c ∷ [] else [])
        by true e =
            ap (λ s. filter (λ (x : Command). is_held agent x.action) (if s then c ∷ [] else [])) (held-senses e)
            ∙ filter-if (λ (x : Command). is_held agent x.action) c true e
        by false e = unheld (is_sensing agent action) e

    -- by the device that carries it out
    by-device : (h : Bool) (o : Option ℕ) → is_held agent action ≡ h → device_of agent action ≡ o
        → AwaitsFrom agent (and_then journal (Do action)) (option_map (held_at (length journal)) (if h then o else None))
    by-device true None e k = λ d. not-mine d (no-carrier agent journal action k d)
    by-device true (Some device) e k = record {
      is_device = carrier-inside agent serves action device k;
      command = c;
      at_place = refl;
      own = mine device (own-carrier agent journal action device k) true e;
      others = λ d other. not-mine d (other-carrier agent journal action device k d other);
    }
    by-device false None e k = λ d. not-mine d (no-carrier agent journal action k d)
    by-device false (Some device) e k = λ d. go d (cases_eq d device)
      where
        go : (d : ℕ) → (d ≡ device) ⊎ (d ≡ device → ⊥) → held_commands agent d (and_then journal (Do action)) ≡ []
        go d (inl same) = ap (λ n. held_commands agent n (and_then journal (Do action))) same ∙ mine device (own-carrier agent journal action device k) false e
        go d (inr other) = not-mine d (other-carrier agent journal action device k d other)

    asks : AwaitsFrom agent (and_then journal (Do action)) (option_map (held_at (length journal)) (held_of agent action))
    asks = by-device (is_held agent action) (device_of agent action) refl refl

  -- any entry
  pub awaits-after : (awaited : Option Held) (e : Entry) → ServesDevices agent → IsBoardList agent journal
      → ((action : ℕ) → e ≡ Do action → is_settled agent journal ≡ true)
      → AwaitsFrom agent journal awaited → AwaitsFrom agent (and_then journal e) (held_by agent (length journal) awaited e)
  awaits-after awaited (Do action) serves lawful settled awaits = asks action serves lawful (none awaited awaits)
    where
      none : (awaited : Option Held) → AwaitsFrom agent journal awaited → (d : ℕ) → held_commands agent d journal ≡ []
      none None h = h
      none (Some held) one = absurd (let k = sym (settled action refl) ∙ settled-one held one in cc)
  awaits-after awaited (Sense p at f v) serves lawful settled awaits = sensed p at f v awaited awaits
  awaits-after awaited Test serves lawful settled awaits = stays Test (λ c. refl) (λ d. refl) awaited awaits
  awaits-after awaited (Exo p a) serves lawful settled awaits = stays (Exo p a) (λ c. refl) (λ d. refl) awaited awaits
  awaits-after awaited (Rest p t) serves lawful settled awaits = stays (Rest p t) (λ c. refl) (λ d. refl) awaited awaits
  awaits-after awaited (Close p r t) serves lawful settled awaits = stays (Close p r t) (λ c. refl) (λ d. refl) awaited awaits
  awaits-after awaited (End a) serves lawful settled awaits = stays (End a) (λ c. refl) (λ d. refl) awaited awaits
