-- The results of a device that are still to come, with one more entry.
use Rattle.std.proofs.Common.{◌≡◌, ℕ, ◌+◌, ◌≤◌, ◌<◌, Bool, true, false, not, ◌&&◌, ◌||◌, ◌==◌, if◌then◌else◌, Option, Some, None, List, [], ◌∷◌, ◌++◌, length, length-append, refl, sym, ap, ◌∙◌, subst, arith}
use Rattle.std.specs.Prelude.{filter, slice_get, nat_lt}
use Rattle.std.specs.List.{list_any, cons_option}
use Rattle.std.specs.Option.{option_map_or, option_to_list}
use Rattle.std.proofs.lemmas.Bool.{and_parts, or_parts, or_from, or_left, or_right, eqb-true, eq-eqb, ne_eqb}
use Rattle.std.proofs.lemmas.List.{append-nil}
use Rattle.golog_base.proofs.Bools.{and-true}
use Rattle.golog_tree.specs.declared.agent.Agent.{Agent}
use Rattle.golog_tree.specs.Ground.{sort_size}
use Rattle.golog_semantics.specs.declared.journal.Entry.{Entry}
use Rattle.golog_semantics.specs.declared.journal.Entry.TheVariants.{Do, Test, Exo, Sense, Rest, Close, End}
use Rattle.golog_semantics.specs.Values.{fluent_sort}
use Rattle.golog_semantics.specs.Journal.{Journal, Command, command_at, commands, device_of, is_sensing, is_result_of, is_outstanding, outstanding_commands}
use Rattle.golog_semantics.specs.Online.{is_result, keeps_place}
use Rattle.golog_semantics.specs.OneMore.{and_then}
use Rattle.golog_semantics.proofs.Grown.{commands_grow}
use Rattle.golog_journal.specs.Boards.{IsBoardList}
use Rattle.golog_journal.proofs.Lawful.{results-within}
use Rattle.golog_journal.proofs.Staying.{from, at-place}

-- ---- lists of commands

-- the places go up, from this one on
abbrev Rising : ℕ → List Command → Type 0
Rising n [] = Unit {0}
Rising n (c ∷ cs) = (n ≤ c.place) × Rising (c.place + 1) cs

-- one of them stands at this place
abbrev stands : ℕ → List Command → Bool
stands at cs = list_any (λ (c : Command). at == c.place) cs

weaken : (n m : ℕ) (cs : List Command) → m ≤ n → Rising n cs → Rising m cs
weaken n m [] low h = tt
weaken n m (c ∷ cs) low h = (let k = h.0 in omega (arith, k, low), h.1)

rising-filter : (q : Command → Bool) (n : ℕ) (cs : List Command) → Rising n cs → Rising n (filter q cs)
rising-filter q n [] h = tt
rising-filter q n (c ∷ cs) h = go (q c) (rising-filter q (c.place + 1) cs h.1)
  where
    go : (b : Bool) → Rising (c.place + 1) (filter q cs) → Rising n (if b then c ∷ filter q cs else filter q cs)
    go true rest = (h.0, rest)
    go false rest = weaken (c.place + 1) n (filter q cs) (let k = h.0 in omega (arith, k)) rest

-- none of them stands before the first
none-before : (at n : ℕ) (cs : List Command) → Rising n cs → at < n → stands at cs ≡ false
none-before at n [] h low = refl
none-before at n (c ∷ cs) h low =
    or_from _ _ (ne_eqb at c.place (λ same. let k = h.0 in omega (arith, k, low, same)))
    (none-before at (c.place + 1) cs h.1 (let k = h.0 in omega (arith, k, low)))

none-filter : (at : ℕ) (q : Command → Bool) (cs : List Command) → stands at cs ≡ false → stands at (filter q cs) ≡ false
none-filter at q [] h = refl
none-filter at q (c ∷ cs) h =
    let parts = or_parts (at == c.place) (stands at cs) h in go (q c) parts.0 (none-filter at q cs parts.1)
  where
    go : (b : Bool) → (at == c.place) ≡ false → stands at (filter q cs) ≡ false → stands at (if b then c ∷ filter q cs else filter q cs) ≡ false
    go true here rest = or_from _ _ here rest
    go false here rest = rest

any-unfilter : (at : ℕ) (q : Command → Bool) (cs : List Command) → stands at (filter q cs) ≡ true → stands at cs ≡ true
any-unfilter at q [] h = h
any-unfilter at q (c ∷ cs) h = go (q c) h (any-unfilter at q cs)
  where
    here-or : (b : Bool) → (b || stands at (filter q cs)) ≡ true → (stands at (filter q cs) ≡ true → stands at cs ≡ true) → (b || stands at cs) ≡ true
    here-or true h rest = refl
    here-or false h rest = rest h

    go : (b : Bool) → stands at (if b then c ∷ filter q cs else filter q cs) ≡ true → (stands at (filter q cs) ≡ true → stands at cs ≡ true)
        → ((at == c.place) || stands at cs) ≡ true
    go true h rest = here-or (at == c.place) h rest
    go false h rest = or_right (at == c.place) (stands at cs) (rest h)

-- those that are not at a place where none stands are all
keep-all : (at : ℕ) (cs : List Command) → stands at cs ≡ false → filter (λ (c : Command). not (at == c.place)) cs ≡ cs
keep-all at [] h = refl
keep-all at (c ∷ cs) h =
    let parts = or_parts (at == c.place) (stands at cs) h in
    ap (λ b. if not b then c ∷ filter (λ (x : Command). not (at == x.place)) cs else filter (λ (x : Command). not (at == x.place)) cs) parts.0
    ∙ ap (λ (ys : List Command). c ∷ ys) (keep-all at cs parts.1)

filter-all : {A : Type 0} (xs : List A) → filter (λ x. true) xs ≡ xs
filter-all [] = refl
filter-all (x ∷ xs) = ap (λ ys. x ∷ ys) (filter-all xs)

module _ (agent : Agent) where
  -- ---- the commands of devices

  rising-from : (device n : ℕ) (journal : Journal) → Rising n (from agent device n journal)
  rising-from device n [] = tt
  rising-from device n (e ∷ journal) = go (command_at agent device (n, e)) (at-place agent device n e) (rising-from device (n + 1) journal)
    where
      go : (o : Option Command) → ((c : Command) → o ≡ Some c → c.place ≡ n) → Rising (n + 1) (from agent device (n + 1) journal)
          → Rising n (cons_option o (from agent device (n + 1) journal))
      go None at rest = weaken (n + 1) n (from agent device (n + 1) journal) (omega arith) rest
      go (Some c) at rest =
          let is = at c refl in
          (omega (arith, is), subst (λ k. Rising (k + 1) (from agent device (n + 1) journal)) (sym is) rest)

  module _ (p d : ℕ) (other : p ≡ d → ⊥) where
    -- an entry is a command of one device at most
    one-owner : (n : ℕ) (e : Entry) (c : Command) → command_at agent p (n, e) ≡ Some c → command_at agent d (n, e) ≡ None
    one-owner n (Do action) c h = by (device_of agent action) h
      where
        new : Command
        new = record { place = n; action = action }

        by : (o : Option ℕ) → (if option_map_or (λ x. x == p) o false then Some new else None) ≡ Some c
            → (if option_map_or (λ x. x == d) o false then Some new else None) ≡ None
        by None h = refl
        by (Some x) h = go (x == p) refl h
          where
            go : (b : Bool) → (x == p) ≡ b → (if b then Some new else None) ≡ Some c → (if x == d then Some new else None) ≡ None
            go true is h = ap (λ b. if b then Some new else None) (ne_eqb x d (λ same. other (sym (eqb-true x p is) ∙ same)))
            go false is h = absurd (cc)
    one-owner n Test c h = absurd (cc)
    one-owner n (Exo q a) c h = absurd (cc)
    one-owner n (Sense q at f v) c h = absurd (cc)
    one-owner n (Rest q t) c h = absurd (cc)
    one-owner n (Close q r t) c h = absurd (cc)
    one-owner n (End a) c h = absurd (cc)

    -- so no two devices have a command at one place
    none-of-other : (n at : ℕ) (journal : Journal) → stands at (from agent p n journal) ≡ true → stands at (from agent d n journal) ≡ false
    none-of-other n at [] h = absurd (cc)
    none-of-other n at (e ∷ journal) h =
        go (command_at agent p (n, e)) (command_at agent d (n, e)) refl refl h (none-of-other (n + 1) at journal)
      where
        mine : List Command
        mine = from agent p (n + 1) journal

        theirs : List Command
        theirs = from agent d (n + 1) journal

        go : (o s : Option Command) → command_at agent p (n, e) ≡ o → command_at agent d (n, e) ≡ s → stands at (cons_option o mine) ≡ true
            → (stands at mine ≡ true → stands at theirs ≡ false) → stands at (cons_option s theirs) ≡ false
        go None None ip is h rest = rest h
        go (Some c) (Some x) ip is h rest = absurd (let none : Some x ≡ None = sym is ∙ one-owner n e c ip in cc)
        go (Some c) None ip is h rest = by (at == c.place) refl h
          where
            by : (b : Bool) → (at == c.place) ≡ b → (b || stands at mine) ≡ true → stands at theirs ≡ false
            by true here h =
                let place = eqb-true at c.place here in
                let first = at-place agent p n e c ip in
                none-before at (n + 1) theirs (rising-from d (n + 1) journal) (omega (arith, place, first))
            by false here h = rest h
        go None (Some x) ip is h rest = by (at == x.place) refl
          where
            by : (b : Bool) → (at == x.place) ≡ b → (b || stands at theirs) ≡ false
            by true here =
                let place = eqb-true at x.place here in
                let first = at-place agent d n e x is in
                let none = none-before at (n + 1) mine (rising-from p (n + 1) journal) (omega (arith, place, first)) in
                absurd (let k : true ≡ false = sym h ∙ none in cc)
            by false here = rest h

  module _ (journal : Journal) where
    -- ---- one more entry

    -- an entry that is no result and no command of the device
    pub out-same : (e : Entry) → ((c : Command) → is_result_of c.place e ≡ false) → (d : ℕ) → command_at agent d (length journal, e) ≡ None
        → outstanding_commands agent d (and_then journal e) ≡ outstanding_commands agent d journal
    out-same e no_result d none =
        (commands_grow agent journal e d).waiting
        ∙ ap (λ o. filter (λ (c : Command). not (is_result_of c.place e)) (outstanding_commands agent d journal) ++ filter (is_outstanding agent (and_then journal e)) (option_to_list o)) none
        ∙ append-nil (filter (λ (c : Command). not (is_result_of c.place e)) (outstanding_commands agent d journal))
        ∙ kept (outstanding_commands agent d journal)
      where
        kept : (cs : List Command) → filter (λ (c : Command). not (is_result_of c.place e)) cs ≡ cs
        kept [] = refl
        kept (c ∷ cs) = rw (no_result c) (ap (λ (ys : List Command). c ∷ ys) (kept cs))

    -- a command of the device: its result is to come where it senses
    module _ (action d : ℕ) (lawful : IsBoardList agent journal) where
      abbrev sent : Command
      sent = record { place = length journal; action = action }

      asks-if : is_outstanding agent (and_then journal (Do action)) sent ≡ is_sensing agent action
      asks-if =
          (commands_grow agent journal (Do action) d).each sent
          ∙ and-true (is_outstanding agent journal sent)
          ∙ ap (λ b. is_sensing agent action && not b) (results-within agent journal lawful (length journal) (omega arith))
          ∙ and-true (is_sensing agent action)

      pub out-sent : command_at agent d (length journal, Do action) ≡ Some sent
          → outstanding_commands agent d (and_then journal (Do action))
          ≡ outstanding_commands agent d journal ++ (if is_sensing agent action then sent ∷ [] else [])
      out-sent own =
          (commands_grow agent journal (Do action) d).waiting
          ∙ ap (λ o. filter (λ (c : Command). true) (outstanding_commands agent d journal) ++ filter (is_outstanding agent (and_then journal (Do action))) (option_to_list o)) own
          ∙ ap (λ (cs : List Command). cs ++ (if is_outstanding agent (and_then journal (Do action)) sent then sent ∷ [] else [])) (filter-all (outstanding_commands agent d journal))
          ∙ ap (λ b. outstanding_commands agent d journal ++ (if b then sent ∷ [] else [])) asks-if

      pub more-out : command_at agent d (length journal, Do action) ≡ Some sent
          → length (outstanding_commands agent d (and_then journal (Do action)))
          ≡ length (outstanding_commands agent d journal) + (if is_sensing agent action then 1 else 0)
      more-out own = ap (λ (cs : List Command). length cs) (out-sent own) ∙ long (is_sensing agent action)
        where
          long : (b : Bool) → length (outstanding_commands agent d journal ++ (if b then sent ∷ [] else []))
              ≡ length (outstanding_commands agent d journal) + (if b then 1 else 0)
          long true = length-append (outstanding_commands agent d journal) (sent ∷ [])
          long false = length-append (outstanding_commands agent d journal) []

    -- a result
    module _ (p at f v : ℕ) (keeps : keeps_place agent journal (Sense p at f v) ≡ true) where
      first : option_map_or (is_result agent journal at f) (slice_get (outstanding_commands agent p journal) 0) false ≡ true
      first =
          (and_parts (option_map_or (is_result agent journal at f) (slice_get (outstanding_commands agent p journal) 0) false)
          (nat_lt v (sort_size agent (fluent_sort agent f))) keeps).0

      -- the first of such commands is the one at the place, and the others go on behind it
      pub record IsFirst (cs : List Command) : Type 0 where
        pub command : Command
        pub rest : List Command
        pub are : cs ≡ command ∷ rest
        pub at_place : command.place ≡ at
        pub left : filter (λ (c : Command). not (at == c.place)) cs ≡ rest

      is-first : (cs : List Command) → Rising 0 cs → option_map_or (is_result agent journal at f) (slice_get cs 0) false ≡ true → IsFirst cs
      is-first [] rising h = absurd (cc)
      is-first (c ∷ cs) rising h =
          let place : c.place ≡ at = eqb-true c.place at (and_parts (c.place == at) _ h).0 in
          let here : (at == c.place) ≡ true = eq-eqb at c.place (sym place) in
          record {
            command = c;
            rest = cs;
            are = refl;
            at_place = place;
            left =
                ap (λ b. if not b then c ∷ filter (λ (x : Command). not (at == x.place)) cs else filter (λ (x : Command). not (at == x.place)) cs) here
                ∙ keep-all at cs (none-before at (c.place + 1) cs rising.1 (omega (arith, place)));
          }

      pub first-out : IsFirst (outstanding_commands agent p journal)
      first-out =
          is-first (outstanding_commands agent p journal)
          (rising-filter (is_outstanding agent journal) 0 (commands agent p journal) (rising-from p 0 journal)) first

      -- it is no longer among those of its device
      pub out-told : outstanding_commands agent p (and_then journal (Sense p at f v)) ≡ first-out.rest
      out-told =
          (commands_grow agent journal (Sense p at f v) p).waiting
          ∙ append-nil (filter (λ (c : Command). not (at == c.place)) (outstanding_commands agent p journal))
          ∙ first-out.left

      pub fewer-out : length (outstanding_commands agent p (and_then journal (Sense p at f v))) + 1 ≡ length (outstanding_commands agent p journal)
      fewer-out =
          let less = ap (λ (cs : List Command). length cs) out-told in
          let all = ap (λ (cs : List Command). length cs) first-out.are in
          omega (arith, less, all)

      -- another device's stay
      pub out-other : (d : ℕ) → (p ≡ d → ⊥) → outstanding_commands agent d (and_then journal (Sense p at f v)) ≡ outstanding_commands agent d journal
      out-other d other =
          (commands_grow agent journal (Sense p at f v) d).waiting
          ∙ append-nil (filter (λ (c : Command). not (at == c.place)) (outstanding_commands agent d journal))
          ∙ keep-all at (outstanding_commands agent d journal)
          (none-filter at (is_outstanding agent journal) (commands agent d journal)
          (none-of-other p d other 0 at journal (any-unfilter at (is_outstanding agent journal) (commands agent p journal) some)))
        where
          some : stands at (outstanding_commands agent p journal) ≡ true
          some =
              ap (stands at) first-out.are
              ∙ or_left (at == first-out.command.place) (stands at first-out.rest) (eq-eqb at first-out.command.place (sym first-out.at_place))
