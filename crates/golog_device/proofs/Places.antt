-- Where a device's commands stand, and that one that was not taken yet has no result.
use Rattle.std.proofs.Common.{◌≡◌, ℕ, zero, suc, ◌+◌, ◌<◌, Bool, true, false, ◌==◌, if◌then◌else◌, Option, Some, None, List, [], ◌∷◌, ◌++◌, length, refl, sym, ap, ◌∙◌, subst, arith, append_assoc, add-zero}
use Rattle.std.specs.Prelude.{filter, slice_get, nat_lt, nat_le, option_and_then}
use Rattle.std.specs.List.{list_any, list_all, cons_option}
use Rattle.std.proofs.lemmas.Bool.{and_parts, or_from, eqb-true, eq-eqb, le-ltb, lt-ltb, leb-true}
use Rattle.std.proofs.lemmas.Option.{same_Some, slice_get_within}
use Rattle.golog_tree.specs.declared.agent.Agent.{Agent}
use Rattle.golog_tree.specs.declared.agent.ActionItem.{ActionItem}
use Rattle.golog_tree.specs.Ground.{Ground, action_args, ground_actions, ground_count}
use Rattle.golog_tree.proofs.Numbers.{length-all_from}
use Rattle.golog_semantics.specs.declared.journal.Entry.{Entry}
use Rattle.golog_semantics.specs.declared.journal.Entry.TheVariants.{Do, Test, Exo, Sense, Rest, Close, End}
use Rattle.golog_semantics.specs.Journal.{Journal, Command, device_of, is_carried_by, command_at, commands, is_outstanding, outstanding_commands, is_posted_by, is_result_of}
use Rattle.golog_semantics.specs.Text.{at_each}
use Rattle.golog_semantics.specs.Online.{told_taken, is_result, may_have_taken}
use Rattle.golog_semantics.proofs.CausesKeep.{has}
use Rattle.golog_semantics.proofs.GroundNumbers.{slice_get-left}
use Rattle.golog_journal.specs.Boards.{is_lawful, IsBoardList}
use Rattle.golog_journal.proofs.Lawful.{lawful-parts}
use Rattle.golog_journal.proofs.Staying.{from, at-place, from-later}

-- the first that passes is one of them
first-of : {A : Type 0} (p : A → Bool) (xs : List A) (c : A) → slice_get (filter p xs) 0 ≡ Some c → (k : ℕ) × (slice_get xs k ≡ Some c)
first-of p [] c h = absurd (cc)
first-of p (x ∷ xs) c h = go (p x) h (λ later. first-of p xs c later)
  where
    go : (b : Bool) → slice_get (if b then x ∷ filter p xs else filter p xs) 0 ≡ Some c
        → (slice_get (filter p xs) 0 ≡ Some c → (k : ℕ) × (slice_get xs k ≡ Some c)) → (k : ℕ) × (slice_get (x ∷ xs) k ≡ Some c)
    go true h rest = (0, h)
    go false h rest = let later = rest h in (suc later.0, later.1)

module _ (agent : Agent) (device : ℕ) where
  -- where a command stands, and who carries it out
  pub record Stands (first : ℕ) (journal : Journal) (c : Command) : Type 0 where
    pub at : ℕ
    pub place_is : c.place ≡ first + at
    pub is : slice_get journal at ≡ Some (Do c.action)
    pub carried : is_carried_by agent device c.action ≡ true

  command-is : (n : ℕ) (e : Entry) (c : Command) → command_at agent device (n, e) ≡ Some c → (c.place ≡ n) × (e ≡ Do c.action) × (is_carried_by agent device c.action ≡ true)
  command-is n (Do action) c h = go (is_carried_by agent device action) refl h
    where
      go : (b : Bool) → is_carried_by agent device action ≡ b → (if b then Some (record { place = n; action = action }) else None) ≡ Some c
          → (c.place ≡ n) × (Do action ≡ Do c.action) × (is_carried_by agent device c.action ≡ true)
      go true is h =
          let same : action ≡ c.action = ap (λ (x : Command). x.action) (same_Some (record { place = n; action = action }) c h) in
          (sym (ap (λ (x : Command). x.place) (same_Some (record { place = n; action = action }) c h)), ap Do same, ap (is_carried_by agent device) (sym same) ∙ is)
      go false is h = absurd (cc)
  command-is n Test c h = absurd (cc)
  command-is n (Exo p a) c h = absurd (cc)
  command-is n (Sense p at f v) c h = absurd (cc)
  command-is n (Rest p t) c h = absurd (cc)
  command-is n (Close p r t) c h = absurd (cc)
  command-is n (End a) c h = absurd (cc)

  stands-from : (n : ℕ) (journal : Journal) (k : ℕ) (c : Command) → slice_get (from agent device n journal) k ≡ Some c → Stands n journal c
  stands-from n [] k c h = absurd (cc)
  stands-from n (e ∷ journal) k c h = go (command_at agent device (n, e)) refl k h (λ i there. stands-from (n + 1) journal i c there)
    where
      later : Stands (n + 1) journal c → Stands n (e ∷ journal) c
      later s = record {
        at = suc s.at;
        place_is = let p = s.place_is in omega (arith, p);
        is = s.is;
        carried = s.carried;
      }

      go : (o : Option Command) → command_at agent device (n, e) ≡ o → (i : ℕ) → slice_get (cons_option o (from agent device (n + 1) journal)) i ≡ Some c
          → ((j : ℕ) → slice_get (from agent device (n + 1) journal) j ≡ Some c → Stands (n + 1) journal c) → Stands n (e ∷ journal) c
      go None is i h rest = later (rest i h)
      go (Some x) is zero h rest =
          let same = same_Some x c h in
          let parts = command-is n e c (is ∙ ap Some same) in
          record { at = 0; place_is = parts.0 ∙ sym (add-zero n); is = ap Some parts.1; carried = parts.2 }
      go (Some x) is (suc i) h rest = later (rest i h)

  pub stands : (journal : Journal) (k : ℕ) (c : Command) → slice_get (commands agent device journal) k ≡ Some c → Stands 0 journal c
  stands journal k c h = stands-from 0 journal k c h

  -- as many commands stand before a command as its number
  before-from : (n : ℕ) (journal : Journal) (k : ℕ) (c : Command) → slice_get (from agent device n journal) k ≡ Some c
      → length (filter (λ x. nat_lt x.place c.place) (from agent device n journal)) ≡ k
  before-from n [] k c h = absurd (cc)
  before-from n (e ∷ journal) k c h = go (command_at agent device (n, e)) refl k h (λ i there. before-from (n + 1) journal i c there)
    where
      go : (o : Option Command) → command_at agent device (n, e) ≡ o → (i : ℕ) → slice_get (cons_option o (from agent device (n + 1) journal)) i ≡ Some c
          → ((j : ℕ) → slice_get (from agent device (n + 1) journal) j ≡ Some c → length (filter (λ x. nat_lt x.place c.place) (from agent device (n + 1) journal)) ≡ j)
          → length (filter (λ x. nat_lt x.place c.place) (cons_option o (from agent device (n + 1) journal))) ≡ i
      go None is i h rest = rest i h
      go (Some x) is zero h rest =
          let same = same_Some x c h in
          let here = at-place agent device n e x is in
          let place : c.place ≡ n = ap (λ (y : Command). y.place) (sym same) ∙ here in
          ap (λ b. length (if b then x ∷ filter (λ x. nat_lt x.place c.place) (from agent device (n + 1) journal) else filter (λ x. nat_lt x.place c.place) (from agent device (n + 1) journal)))
          (le-ltb x.place c.place (omega (arith, here, place)))
          ∙ ap (λ cs. length cs) (from-later agent device (n + 1) c.place journal (omega (arith, place)))
      go (Some x) is (suc i) h rest =
          let here = at-place agent device n e x is in
          let s = stands-from (n + 1) journal i c h in
          let place = s.place_is in
          ap (λ b. length (if b then x ∷ filter (λ x. nat_lt x.place c.place) (from agent device (n + 1) journal) else filter (λ x. nat_lt x.place c.place) (from agent device (n + 1) journal)))
          (lt-ltb x.place c.place (omega (arith, here, place)))
          ∙ ap suc (rest i h)

  pub commands-before : (journal : Journal) (k : ℕ) (c : Command) → slice_get (commands agent device journal) k ≡ Some c
      → length (filter (λ x. nat_lt x.place c.place) (commands agent device journal)) ≡ k
  commands-before journal k c h = before-from 0 journal k c h

module _ (agent : Agent) where
  -- an action has one device
  one-device : (d p action : ℕ) → is_carried_by agent d action ≡ true → is_carried_by agent p action ≡ true → p ≡ d
  one-device d p action a b =
      let x = has (λ q. q == d) (device_of agent action) a in
      let y = has (λ q. q == p) (device_of agent action) b in
      let same : x.item ≡ y.item = same_Some x.item y.item (sym x.is ∙ y.is) in
      sym (eqb-true y.item p y.passes) ∙ sym same ∙ eqb-true x.item d x.passes

  module _ (device : ℕ) (journal : Journal) (taken : ℕ) (c : Command) (here : slice_get (commands agent device journal) taken ≡ Some c) where
    -- an entry that tells of no more than were taken is not the command's result
    not-its : (before rest : Journal) (e : Entry) → journal ≡ before ++ rest → is_lawful agent before e ≡ true
        → (is_posted_by device e ≡ true → nat_le (told_taken agent journal e) taken ≡ true) → is_result_of c.place e ≡ false
    not-its before rest (Do action) front lawful few = refl
    not-its before rest Test front lawful few = refl
    not-its before rest (Exo p a) front lawful few = refl
    not-its before rest (Rest p t) front lawful few = refl
    not-its before rest (Close p r t) front lawful few = refl
    not-its before rest (End a) front lawful few = refl
    not-its before rest (Sense p at f v) front lawful few = go (at == c.place) refl
      where
        own : at ≡ c.place → p ≡ device
        own same =
            let keeps = (lawful-parts agent before (Sense p at f v) lawful).place in
            let first = has (is_result agent before at f) (slice_get (outstanding_commands agent p before) 0) (and_parts _ _ keeps).0 in
            let x : Command = first.item in
            let place : x.place ≡ at = eqb-true x.place at (and_parts (x.place == at) _ first.passes).0 in
            let k = first-of (is_outstanding agent before) (commands agent p before) x first.is in
            let s = stands agent p before k.0 x k.1 in
            let t = stands agent device journal taken c here in
            let splace = s.place_is in
            let tplace = t.place_is in
            let there : s.at ≡ t.at = omega (arith, splace, tplace, place, same) in
            let inside = slice_get_within before s.at (Do x.action) s.is in
            let seen : slice_get journal t.at ≡ Some (Do x.action) =
            ap (λ n. slice_get journal n) (sym there) ∙ ap (λ j. slice_get j s.at) front ∙ slice_get-left before rest s.at inside ∙ s.is in
            let both : Do x.action ≡ Do c.action = same_Some (Do x.action) (Do c.action) (sym seen ∙ t.is) in
            let action : x.action ≡ c.action = cc in
            one-device device p c.action t.carried (ap (is_carried_by agent p) (sym action) ∙ s.carried)

        go : (b : Bool) → (at == c.place) ≡ b → b ≡ false
        go false is = refl
        go true is =
            let same = eqb-true at c.place is in
            let mine = own same in
            let told = leb-true (told_taken agent journal (Sense p at f v)) taken (few (eq-eqb p device mine)) in
            let count : told_taken agent journal (Sense p at f v) ≡ 1 + taken =
            ap (λ q. 1 + length (filter (λ x. nat_lt x.place at) (commands agent q journal))) mine
            ∙ ap (λ n. 1 + length (filter (λ x. nat_lt x.place n) (commands agent device journal))) same
            ∙ ap (λ n. 1 + n) (commands-before agent device journal taken c here) in
            absurd (omega (arith, told, count))

    none-from : (before rest : Journal) → journal ≡ before ++ rest → list_all (λ b. b) (at_each (is_lawful agent) before rest) ≡ true
        → list_all (λ e. nat_le (told_taken agent journal e) taken) (filter (is_posted_by device) rest) ≡ true
        → list_any (is_result_of c.place) rest ≡ false
    none-from before [] front lawful few = refl
    none-from before (e ∷ rest) front lawful few =
        let parts = and_parts (is_lawful agent before e) (list_all (λ b. b) (at_each (is_lawful agent) (before ++ e ∷ []) rest)) lawful in
        or_from _ _ (not-its before (e ∷ rest) e front parts.0 (λ own. (head own few).0))
        (none-from (before ++ e ∷ []) rest (front ∙ sym (append_assoc before (e ∷ []) rest)) parts.1 (tail (is_posted_by device e) refl few))
      where
        told : Entry → Bool
        told x = nat_le (told_taken agent journal x) taken

        tail : (b : Bool) → is_posted_by device e ≡ b
            → list_all (λ e. nat_le (told_taken agent journal e) taken) (if b then e ∷ filter (is_posted_by device) rest else filter (is_posted_by device) rest) ≡ true
            → list_all (λ e. nat_le (told_taken agent journal e) taken) (filter (is_posted_by device) rest) ≡ true
        tail true is h = (and_parts (nat_le (told_taken agent journal e) taken) _ h).1
        tail false is h = h

        head : is_posted_by device e ≡ true → list_all (λ e. nat_le (told_taken agent journal e) taken) (filter (is_posted_by device) (e ∷ rest)) ≡ true
            → (nat_le (told_taken agent journal e) taken ≡ true) × (list_all (λ e. nat_le (told_taken agent journal e) taken) (filter (is_posted_by device) rest) ≡ true)
        head own h =
            and_parts (nat_le (told_taken agent journal e) taken) _
            (sym (ap (λ b. list_all (λ e. nat_le (told_taken agent journal e) taken) (if b then e ∷ filter (is_posted_by device) rest else filter (is_posted_by device) rest)) own) ∙ h)

    -- a command that was not taken yet has no result
    pub no-result : IsBoardList agent journal → may_have_taken agent journal device taken ≡ true → list_any (is_result_of c.place) journal ≡ false
    no-result list may =
        none-from [] journal refl list.lawful (and_parts (nat_le taken (length (commands agent device journal))) _ may).1

  -- a command is a ground action of the agent
  pub command-number : (device : ℕ) (journal : Journal) (k : ℕ) (c : Command) → slice_get (commands agent device journal) k ≡ Some c
      → c.action < ground_count agent (action_args agent)
  command-number device journal k c h = go (slice_get (ground_actions agent) c.action) refl
    where
      carried : (d : ℕ) × (device_of agent c.action ≡ Some d)
      carried =
          let one = has (λ d. d == device) (device_of agent c.action) (stands agent device journal k c h).carried in
          (one.item, one.is)

      go : (o : Option Ground) → slice_get (ground_actions agent) c.action ≡ o → c.action < ground_count agent (action_args agent)
      go None none =
          let no : device_of agent c.action ≡ None =
          ap (λ o. option_and_then (λ (item : ActionItem). item.device) (option_and_then (λ (at : Ground). slice_get agent.actions at.0) o)) none in
          absurd (let k = sym no ∙ carried.1 in cc)
      go (Some at) is =
          subst (λ n. c.action < n) (length-all_from agent (action_args agent) 0) (slice_get_within (ground_actions agent) c.action at is)
