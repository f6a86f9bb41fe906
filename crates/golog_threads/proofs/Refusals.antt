-- A device that has begun refuses no script: neither what it posts is a refusal, nor what others post.
use Rattle.std.proofs.Common.{◌≡◌, ◌≢◌, ℕ, Bool, true, false, not, ◌||◌, if◌then◌else◌, Option, Some, None, [], ◌∷◌, ◌++◌, refl, sym, ap, ◌∙◌}
use Rattle.std.specs.List.{list_any}
use Rattle.std.specs.Option.{option_map_or}
use Rattle.std.proofs.lemmas.Bool.{or_parts, or_from}
use Rattle.std.proofs.lemmas.List.Folds.{list_any-append}
use Rattle.golog_tree.specs.declared.agent.Agent.{Agent}
use Rattle.golog_semantics.specs.declared.journal.Entry.{Entry}
use Rattle.golog_semantics.specs.declared.journal.Entry.TheVariants.{Do, Test, Exo, Sense, Rest, Close, End}
use Rattle.golog_semantics.specs.declared.journal.Item.{Item}
use Rattle.golog_semantics.specs.declared.journal.Item.TheVariants as item
use Rattle.golog_semantics.specs.declared.journal.Reason.TheVariants as reason
use Rattle.golog_semantics.specs.Journal.{Journal, Command, is_posted_by, entries_by, is_close, is_open, has_end, is_full}
use Rattle.golog_semantics.specs.Posts.{awaited_command, is_bad, result_of, entry_of, posted_entry}
use Rattle.golog_journal.specs.Laws.{AreNotOf}
use Rattle.golog_threads.specs.Driving.{is_refusal_of, has_refused}

or-none : (b c : Bool) → c ≡ false → (b || c) ≡ b
or-none true c none = refl
or-none false c none = none

not-true : (b : Bool) → not b ≡ true → b ≡ false
not-true true h = sym h
not-true false h = refl

module _ (device : ℕ) where
  -- ---- entries of others

  not-of-one : (e : Entry) → is_posted_by device e ≡ false → is_refusal_of device e ≡ false
  not-of-one (Close p reason.Refused t) h = h
  not-of-one (Close p reason.Ended t) h = refl
  not-of-one (Close p reason.Bad t) h = refl
  not-of-one (Close p reason.Full t) h = refl
  not-of-one (Close p reason.Late t) h = refl
  not-of-one (Close p reason.Stopped t) h = refl
  not-of-one (Do a) h = refl
  not-of-one Test h = refl
  not-of-one (Exo p a) h = refl
  not-of-one (Sense p at f v) h = refl
  not-of-one (Rest p t) h = refl
  not-of-one (End a) h = refl

  none-refused : (others : Journal) → AreNotOf device others → has_refused device others ≡ false
  none-refused [] h = refl
  none-refused (e ∷ others) h =
      let parts = or_parts (is_posted_by device e) (list_any (is_posted_by device) others) h in
      or_from _ _ (not-of-one e parts.0) (none-refused others parts.1)

  pub refused-more : (journal later : Journal) → has_refused device later ≡ false → has_refused device (journal ++ later) ≡ has_refused device journal
  refused-more journal later none =
      list_any-append (is_refusal_of device) journal later ∙ or-none (has_refused device journal) (has_refused device later) none

  pub refused-later : (journal later : Journal) → AreNotOf device later → has_refused device (journal ++ later) ≡ has_refused device journal
  refused-later journal later none = refused-more journal later (none-refused later none)

  -- ---- a device that is open

  not-closing : (e : Entry) → is_close e ≡ false → is_refusal_of device e ≡ false
  not-closing (Close p r t) h = absurd (cc)
  not-closing (Do a) h = refl
  not-closing Test h = refl
  not-closing (Exo p a) h = refl
  not-closing (Sense p at f v) h = refl
  not-closing (Rest p t) h = refl
  not-closing (End a) h = refl

  open-step : (e : Entry) (es : Journal) (b : Bool) → is_posted_by device e ≡ b
      → not (list_any is_close (if b then e ∷ entries_by device es else entries_by device es)) ≡ true
      → (is_open device es ≡ true → has_refused device es ≡ false) → (is_refusal_of device e || has_refused device es) ≡ false
  open-step e es true is opened rest =
      let parts = or_parts (is_close e) (list_any is_close (entries_by device es)) (not-true (is_close e || list_any is_close (entries_by device es)) opened) in
      or_from _ _ (not-closing e parts.0) (rest (ap not parts.1))
  open-step e es false is opened rest = or_from _ _ (not-of-one e is) (rest opened)

  -- has not refused its script
  pub open-unrefused : (journal : Journal) → is_open device journal ≡ true → has_refused device journal ≡ false
  open-unrefused [] opened = refl
  open-unrefused (e ∷ es) opened = open-step e es (is_posted_by device e) refl opened (open-unrefused es)

  -- ---- what it posts

  reason-unrefused : (n : ℕ) (b c d : Bool) (e : Entry) → is_refusal_of device e ≡ false
      → is_refusal_of device
      (option_map_or (λ r. Close device r n)
      (if b then Some reason.Late else (if c then Some reason.Full else (if d then Some reason.Bad else None))) e)
      ≡ false
  reason-unrefused n true c d e h = refl
  reason-unrefused n false true d e h = refl
  reason-unrefused n false false true e h = refl
  reason-unrefused n false false false e h = h

  module _ (agent : Agent) (journal : Journal) (n : ℕ) where
    result-plain : (value : ℕ) (o : Option Command) → is_refusal_of device (option_map_or (result_of agent journal device n value) o (Rest device n)) ≡ false
    result-plain value None = refl
    result-plain value (Some c) = refl

    later-plain : (x : Item) → is_refusal_of device (entry_of agent journal device n x) ≡ false
        → is_refusal_of device
        (option_map_or (λ r. Close device r n)
        (if has_end journal then Some reason.Late else (if is_full journal then Some reason.Full else (if is_bad agent journal device n x then Some reason.Bad else None)))
        (entry_of agent journal device n x))
        ≡ false
    later-plain x h = reason-unrefused n (has_end journal) (is_full journal) (is_bad agent journal device n x) (entry_of agent journal device n x) h

    pub entry-unrefused : (x : Item) → x ≢ item.Refused → is_refusal_of device (posted_entry agent journal device n x) ≡ false
    entry-unrefused (item.Exo action) h = later-plain (item.Exo action) refl
    entry-unrefused (item.Value value) h = later-plain (item.Value value) (result-plain value (awaited_command agent journal device n))
    entry-unrefused item.Rest h = later-plain item.Rest refl
    entry-unrefused item.Close h = refl
    entry-unrefused item.Unreadable h = later-plain item.Unreadable refl
    entry-unrefused item.Silent h = later-plain item.Silent refl
    entry-unrefused item.Stop h = refl
    entry-unrefused item.Refused h = absurd (h refl)
