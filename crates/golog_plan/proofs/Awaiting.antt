-- One device at most lacks a result: a program that follows plans takes a step only where none does. So the result that
-- it waits for may still come exactly where none was abandoned.
use Rattle.std.proofs.Common.{◌≡◌, ℕ, zero, suc, ◌+◌, ◌≤◌, ◌<◌, Bool, true, false, not, ◌&&◌, ◌||◌, List, [], ◌∷◌, ◌++◌, length, Option, Some, None, ◌⊎◌, inl, inr, refl, sym, ap, ◌∙◌, arith}
use Rattle.std.specs.Prelude.{filter}
use Rattle.std.specs.List.{list_all, list_any, range_with_len}
use Rattle.std.proofs.lemmas.Bool.{and_parts, cases_eq, or_from, or_parts}
use Rattle.std.proofs.lemmas.List.{append-nil}
use Rattle.golog_tree.specs.declared.agent.Agent.{Agent}
use Rattle.golog_semantics.specs.declared.journal.Entry.{Entry}
use Rattle.golog_semantics.specs.declared.journal.Entry.TheVariants.{Do, Test, Exo, Sense, Rest, Close, End}
use Rattle.golog_semantics.specs.Journal.{Command, Journal, command_at, device_of, is_at_rest, is_open, is_quiet, is_result_of, lacks_result, lacks_results, may_be_answered, outstanding_commands}
use Rattle.golog_semantics.specs.Ways.{is_empty}
use Rattle.golog_semantics.proofs.Grown.{commands_grow}
use Rattle.golog_journal.specs.Agents.{ServesDevices}
use Rattle.golog_journal.specs.Boards.{IsBoardList}
use Rattle.golog_journal.proofs.Outstanding.{out-same}
use Rattle.golog_journal.proofs.Tallied.{no-carrier, other-carrier}
use Rattle.golog_lead.proofs.Resting.{rest-is-answered}
use Rattle.golog_branch.specs.PlanJournals.{is_abandoned}
use Rattle.golog_plan.specs.Keeping.{LacksOne}

-- ---- tests of numbers in a row

contrary : (b : Bool) → b ≡ true → b ≡ false → ⊥
contrary b h k = absurd (let j = sym h ∙ k in cc)

later-or : (b c : Bool) → c ≡ true → (b || c) ≡ true
later-or true c h = refl
later-or false c h = h

later-and : (b c : Bool) → c ≡ false → (b && c) ≡ false
later-and true c h = h
later-and false c h = refl

-- none of them passes
none-any : (f : ℕ → Bool) (a n : ℕ) → ((d : ℕ) → d < a + n → f d ≡ false) → list_any f (range_with_len a n) ≡ false
none-any f a zero h = refl
none-any f a (suc n) h = or_from (f a) (list_any f (range_with_len (a + 1) n)) (h a (omega arith)) (none-any f (a + 1) n (λ d less. h d (omega (arith, less))))

-- this one passes
one-any : (f : ℕ → Bool) (d : ℕ) → f d ≡ true → (a n : ℕ) → a ≤ d → d < a + n → list_any f (range_with_len a n) ≡ true
one-any f d h a zero low high = absurd (omega (arith, low, high))
one-any f d h a (suc n) low high = go (cases_eq a d) (λ (k : a ≡ d → ⊥). one-any f d h (a + 1) n (omega (arith, low, k)) (omega (arith, high)))
  where
    go : (a ≡ d) ⊎ (a ≡ d → ⊥) → ((a ≡ d → ⊥) → list_any f (range_with_len (a + 1) n) ≡ true) → (f a || list_any f (range_with_len (a + 1) n)) ≡ true
    go (inl e) rest = ap (λ k. f k || list_any f (range_with_len (a + 1) n)) e ∙ ap (λ b. b || list_any f (range_with_len (a + 1) n)) h
    go (inr k) rest = later-or (f a) (list_any f (range_with_len (a + 1) n)) (rest k)

-- this one fails
all-but-one : (f : ℕ → Bool) (d : ℕ) → f d ≡ false → (a n : ℕ) → a ≤ d → d < a + n → list_all f (range_with_len a n) ≡ false
all-but-one f d h a zero low high = absurd (omega (arith, low, high))
all-but-one f d h a (suc n) low high = go (cases_eq a d) (λ (k : a ≡ d → ⊥). all-but-one f d h (a + 1) n (omega (arith, low, k)) (omega (arith, high)))
  where
    go : (a ≡ d) ⊎ (a ≡ d → ⊥) → ((a ≡ d → ⊥) → list_all f (range_with_len (a + 1) n) ≡ false) → (f a && list_all f (range_with_len (a + 1) n)) ≡ false
    go (inl e) rest = ap (λ k. f k && list_all f (range_with_len (a + 1) n)) e ∙ ap (λ b. b && list_all f (range_with_len (a + 1) n)) h
    go (inr k) rest = later-and (f a) (list_all f (range_with_len (a + 1) n)) (rest k)

-- one that passes, where one does
record Passes (f : ℕ → Bool) (n : ℕ) : Type 0 where
  pub item : ℕ
  pub below : item < n
  pub passes : f item ≡ true

some-any : (f : ℕ → Bool) (a n : ℕ) → list_any f (range_with_len a n) ≡ true → Passes f (a + n)
some-any f a zero h = absurd (cc)
some-any f a (suc n) h = go (f a) refl h (some-any f (a + 1) n)
  where
    go : (b : Bool) → f a ≡ b → (b || list_any f (range_with_len (a + 1) n)) ≡ true → (list_any f (range_with_len (a + 1) n) ≡ true → Passes f (a + 1 + n)) → Passes f (a + suc n)
    go true is k rest = record { item = a; below = omega arith; passes = is }
    go false is k rest = let more = rest k in record { item = more.item; below = (let b = more.below in omega (arith, b)); passes = more.passes }

-- of those that pass one test, some fail another where not all pass both
split-any : (p q : ℕ → Bool) (xs : List ℕ) → list_any q xs ≡ true → list_any (λ d. p d && q d) xs ≡ false → list_any (λ d. not (p d) && q d) xs ≡ true
split-any p q [] some none = absurd (cc)
split-any p q (x ∷ xs) some none =
    let parts = or_parts (p x && q x) (list_any (λ d. p d && q d) xs) none in
    go (p x) (q x) some parts.0 (λ h. split-any p q xs h parts.1)
  where
    go : (b c : Bool) → (c || list_any q xs) ≡ true → (b && c) ≡ false → (list_any q xs ≡ true → list_any (λ d. not (p d) && q d) xs ≡ true)
        → ((not b && c) || list_any (λ d. not (p d) && q d) xs) ≡ true
    go true true h k rest = absurd (cc)
    go false true h k rest = refl
    go true false h k rest = rest h
    go false false h k rest = rest h

module _ (agent : Agent) (journal : Journal) where
  abbrev all : ℕ
  all = length agent.devices

  -- ---- what is awaited

  -- a result may come, and none was abandoned
  pub unabandoned : LacksOne agent journal → may_be_answered agent journal ≡ true → is_abandoned agent journal ≡ false
  unabandoned one may = none-any (λ d. not (is_open d journal) && lacks_result agent journal d) 0 all each
    where
      awaited : Passes (λ d. is_open d journal && lacks_result agent journal d) (0 + all)
      awaited = some-any (λ d. is_open d journal && lacks_result agent journal d) 0 all may

      parts : (is_open awaited.item journal ≡ true) × (lacks_result agent journal awaited.item ≡ true)
      parts = and_parts (is_open awaited.item journal) (lacks_result agent journal awaited.item) awaited.passes

      shut : (d : ℕ) (b : Bool) → lacks_result agent journal d ≡ b → d < 0 + all → (not (is_open d journal) && b) ≡ false
      shut d true lacks below =
          let low = below in
          let less = awaited.below in
          let same = one d awaited.item (omega (arith, low)) (omega (arith, less)) lacks parts.1 in
          ap (λ x. not x && true) (ap (λ k. is_open k journal) same ∙ parts.0)
      shut d false lacks below = later-and (not (is_open d journal)) false refl

      each : (d : ℕ) → d < 0 + all → (not (is_open d journal) && lacks_result agent journal d) ≡ false
      each d below = shut d (lacks_result agent journal d) refl below

  -- none may come of those that are lacking
  pub abandoned : lacks_results agent journal ≡ true → may_be_answered agent journal ≡ false → is_abandoned agent journal ≡ true
  abandoned lacks none = split-any (λ d. is_open d journal) (lacks_result agent journal) (range_with_len 0 all) lacks none

  -- where none is lacking, none was abandoned
  pub none-abandoned : lacks_results agent journal ≡ false → is_abandoned agent journal ≡ false
  none-abandoned none = none-any (λ d. not (is_open d journal) && lacks_result agent journal d) 0 all each
    where
      each : (d : ℕ) → d < 0 + all → (not (is_open d journal) && lacks_result agent journal d) ≡ false
      each d below = go (lacks_result agent journal d) refl
        where
          go : (b : Bool) → lacks_result agent journal d ≡ b → (not (is_open d journal) && b) ≡ false
          go true h = absurd (contrary (lacks_results agent journal) (one-any (lacks_result agent journal) d h 0 all (omega arith) below) none)
          go false h = later-and (not (is_open d journal)) false refl

  -- a device that is to answer is not at rest
  pub unquiet : IsBoardList agent journal → may_be_answered agent journal ≡ true → is_quiet agent journal ≡ false
  unquiet list may =
      all-but-one (λ d. not (is_open d journal) || is_at_rest agent journal d) awaited.item
      (or_from (not (is_open awaited.item journal)) (is_at_rest agent journal awaited.item) (ap not parts.0) (unrested (is_at_rest agent journal awaited.item) refl))
      0 all (omega arith) awaited.below
    where
      awaited : Passes (λ d. is_open d journal && lacks_result agent journal d) (0 + all)
      awaited = some-any (λ d. is_open d journal && lacks_result agent journal d) 0 all may

      parts : (is_open awaited.item journal ≡ true) × (lacks_result agent journal awaited.item ≡ true)
      parts = and_parts (is_open awaited.item journal) (lacks_result agent journal awaited.item) awaited.passes

      unrested : (b : Bool) → is_at_rest agent journal awaited.item ≡ b → is_at_rest agent journal awaited.item ≡ false
      unrested true h =
          let none = ap (λ (cs : List Command). not (is_empty cs)) (rest-is-answered agent awaited.item journal list h) in
          absurd (contrary (lacks_result agent journal awaited.item) parts.1 none)
      unrested false h = h

  -- ---- one more entry

  -- none is lacking
  none-lacks : lacks_results agent journal ≡ false → (d : ℕ) → d < all → lacks_result agent journal d ≡ false
  none-lacks none d below = go (lacks_result agent journal d) refl
    where
      go : (b : Bool) → lacks_result agent journal d ≡ b → lacks_result agent journal d ≡ false
      go true h = absurd (contrary (lacks_results agent journal) (one-any (lacks_result agent journal) d h 0 all (omega arith) (omega (arith, below))) none)
      go false h = h

  abbrev and_then : Entry → Journal
  and_then e = journal ++ e ∷ []

  as-before : (e : Entry) (d : ℕ) → outstanding_commands agent d (and_then e) ≡ outstanding_commands agent d journal → lacks_result agent (and_then e) d ≡ lacks_result agent journal d
  as-before e d same = ap (λ (cs : List Command). not (is_empty cs)) same

  -- what lacks one lacked it before
  fewer-lack : (e : Entry) → ((d : ℕ) → lacks_result agent (and_then e) d ≡ true → lacks_result agent journal d ≡ true) → LacksOne agent journal → LacksOne agent (and_then e)
  fewer-lack e was one d k below within lacks too = one d k below within (was d lacks) (was k too)

  -- an entry that is no result and no command
  same-lack : (e : Entry) → ((c : Command) → is_result_of c.place e ≡ false) → ((d : ℕ) → command_at agent d (length journal, e) ≡ None) → LacksOne agent journal → LacksOne agent (and_then e)
  same-lack e no_result none = fewer-lack e (λ d lacks. sym (as-before e d (out-same agent journal e no_result d (none d))) ∙ lacks)

  -- a result
  told : (p at f v : ℕ) (d : ℕ) → lacks_result agent (and_then (Sense p at f v)) d ≡ true → lacks_result agent journal d ≡ true
  told p at f v d lacks =
      some (outstanding_commands agent d journal)
      (sym (ap (λ (cs : List Command). not (is_empty cs))
      ((commands_grow agent journal (Sense p at f v) d).waiting
      ∙ append-nil (filter (λ (c : Command). not (is_result_of c.place (Sense p at f v))) (outstanding_commands agent d journal)))) ∙ lacks)
    where
      some : (cs : List Command) → not (is_empty (filter (λ (c : Command). not (is_result_of c.place (Sense p at f v))) cs)) ≡ true → not (is_empty cs) ≡ true
      some [] h = absurd (cc)
      some (c ∷ cs) h = refl

  -- an action, where none was lacking
  acts : (action : ℕ) → ServesDevices agent → lacks_results agent journal ≡ false → LacksOne agent (and_then (Do action))
  acts action serves none = by (device_of agent action) refl
    where
      others : (d : ℕ) → command_at agent d (length journal, Do action) ≡ None → d < all → lacks_result agent (and_then (Do action)) d ≡ false
      others d other below = as-before (Do action) d (out-same agent journal (Do action) (λ c. refl) d other) ∙ none-lacks none d below

      by : (o : Option ℕ) → device_of agent action ≡ o → LacksOne agent (and_then (Do action))
      by None is d k below within lacks too = absurd (contrary (lacks_result agent (and_then (Do action)) d) lacks (others d (no-carrier agent journal action is d) below))
      by (Some device) is d k below within lacks too = here d below lacks ∙ sym (here k within too)
        where
          here : (x : ℕ) → x < all → lacks_result agent (and_then (Do action)) x ≡ true → x ≡ device
          here x less h = go (cases_eq x device)
            where
              go : (x ≡ device) ⊎ (x ≡ device → ⊥) → x ≡ device
              go (inl e) = e
              go (inr other) = absurd (contrary (lacks_result agent (and_then (Do action)) x) h (others x (other-carrier agent journal action device is x other) less))

  -- any entry
  pub lacks-one-more : (e : Entry) → ServesDevices agent → ((action : ℕ) → e ≡ Do action → lacks_results agent journal ≡ false) → LacksOne agent journal → LacksOne agent (journal ++ e ∷ [])
  lacks-one-more (Do action) serves none one = acts action serves (none action refl)
  lacks-one-more (Sense p at f v) serves none one = fewer-lack (Sense p at f v) (told p at f v) one
  lacks-one-more Test serves none one = same-lack Test (λ c. refl) (λ d. refl) one
  lacks-one-more (Exo p a) serves none one = same-lack (Exo p a) (λ c. refl) (λ d. refl) one
  lacks-one-more (Rest p t) serves none one = same-lack (Rest p t) (λ c. refl) (λ d. refl) one
  lacks-one-more (Close p r t) serves none one = same-lack (Close p r t) (λ c. refl) (λ d. refl) one
  lacks-one-more (End a) serves none one = same-lack (End a) (λ c. refl) (λ d. refl) one
