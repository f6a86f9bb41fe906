-- A journal of which each entry closes a device.
use Rattle.std.proofs.Common.{◌≡◌, ℕ, ◌+◌, ◌≤◌, ◌<◌, Bool, true, false, not, ◌||◌, if◌then◌else◌, List, [], ◌∷◌, length, refl, sym, ap, ◌∙◌, arith}
use Rattle.std.specs.Prelude.{take, nat_le, ◌-◌}
use Rattle.std.specs.List.{list_any, list_all, flat_map, enumerate_from}
use Rattle.std.proofs.lemmas.Bool.{and_parts, and_from, not-true, ne_eqb, le-leb}
use Rattle.golog_tree.specs.declared.agent.Agent.{Agent}
use Rattle.golog_semantics.specs.declared.journal.Entry.TheVariants.{Do, Test, Exo, Sense, Rest, Close, End}
use Rattle.golog_semantics.specs.declared.journal.Item.TheVariants as item
use Rattle.golog_semantics.specs.declared.journal.Reason.TheVariants as reason
use Rattle.golog_semantics.specs.Journal.{Journal, commands, is_outstanding, is_posted_by, entries_by, is_close, is_open}
use Rattle.golog_semantics.specs.Online.{told_taken}
use Rattle.golog_journal.specs.Taken.{IsDriven, IsReady}
use Rattle.golog_journal.specs.Posting.{MayPost}
use Rattle.golog_journal.proofs.Staying.{from}
use Rattle.golog_device.specs.Slots.{refusal, refusals}

all-close : (n : ℕ) (refused : List Bool) → list_all is_close (flat_map refusal (enumerate_from n refused)) ≡ true
all-close n [] = refl
all-close n (true ∷ refused) = all-close (n + 1) refused
all-close n (false ∷ refused) = all-close (n + 1) refused

-- each closes a device
pub refusals-close : (refused : List Bool) → list_all is_close (refusals refused) ≡ true
refusals-close refused = all-close 0 refused

later-slot : (n : ℕ) (refused : List Bool) (slot : ℕ) → n + length refused ≤ slot → entries_by slot (flat_map refusal (enumerate_from n refused)) ≡ []
later-slot n [] slot past = refl
later-slot n (true ∷ refused) slot past =
    ap (λ b. if b then Close n reason.Refused 0 ∷ entries_by slot (flat_map refusal (enumerate_from (n + 1) refused)) else entries_by slot (flat_map refusal (enumerate_from (n + 1) refused)))
    (ne_eqb n slot (λ e. omega (arith, e, past)))
    ∙ later-slot (n + 1) refused slot (omega (arith, past))
later-slot n (false ∷ refused) slot past = later-slot (n + 1) refused slot (omega (arith, past))

-- none is of a device that has not begun
pub refusals-later : (refused : List Bool) (slot : ℕ) → length refused ≤ slot → entries_by slot (refusals refused) ≡ []
refusals-later refused slot past = later-slot 0 refused slot (omega (arith, past))

module _ (agent : Agent) (device : ℕ) where
  no-command : (n : ℕ) (journal : Journal) → list_all is_close journal ≡ true → from agent device n journal ≡ []
  no-command n [] all = refl
  no-command n (Close p r t ∷ journal) all = no-command (n + 1) journal all
  no-command n (Do a ∷ journal) all = absurd (cc)
  no-command n (Test ∷ journal) all = absurd (cc)
  no-command n (Exo p a ∷ journal) all = absurd (cc)
  no-command n (Sense p at f v ∷ journal) all = absurd (cc)
  no-command n (Rest p t ∷ journal) all = absurd (cc)
  no-command n (End a ∷ journal) all = absurd (cc)

  -- there is no command
  pub no-commands : (journal : Journal) → list_all is_close journal ≡ true → commands agent device journal ≡ []
  no-commands journal all = no-command 0 journal all

  none-open : (journal : Journal) → list_all is_close journal ≡ true → list_any is_close (entries_by device journal) ≡ false → entries_by device journal ≡ []
  none-open [] all none = refl
  none-open (e ∷ journal) all none =
      let parts = and_parts (is_close e) (list_all is_close journal) all in
      go (is_posted_by device e) none (none-open journal parts.1) parts.0
    where
      go : (b : Bool) → list_any is_close (if b then e ∷ entries_by device journal else entries_by device journal) ≡ false
          → (list_any is_close (entries_by device journal) ≡ false → entries_by device journal ≡ []) → is_close e ≡ true
          → (if b then e ∷ entries_by device journal else entries_by device journal) ≡ []
      go true none rest closes = absurd (let k = sym (ap (λ c. c || list_any is_close (entries_by device journal)) closes) ∙ none in cc)
      go false none rest closes = rest none

  -- a device without an entry may begin
  pub driven-first : (journal : Journal) → device < length agent.devices → entries_by device journal ≡ [] → commands agent device journal ≡ []
      → IsDriven agent journal device 0
  driven-first journal inside none no_commands = record {
    is_device = inside;
    still_open = ap (λ es. not (list_any is_close es)) none;
    fitting =
        and_from _ _ (and_from _ _ (le-leb 0 (length (commands agent device journal)) (omega arith)) (ap (list_all (λ e. nat_le (told_taken agent journal e) 0)) none))
        (ap (λ cs. not (list_any (is_outstanding agent journal) (take (0 - 1) cs))) no_commands);
  }

  -- and be refused
  pub may-refuse : (journal : Journal) → device < length agent.devices → entries_by device journal ≡ [] → list_all is_close journal ≡ true
      → MayPost agent journal device 0 item.Refused
  may-refuse journal inside none all = record {
    driven = driven-first journal inside none (no-commands journal all);
    in_time = (refl, none, no-commands journal all);
  }

  -- one that is open is ready
  pub ready-first : (journal : Journal) → device < length agent.devices → list_all is_close journal ≡ true → is_open device journal ≡ true
      → IsReady agent journal device 0
  ready-first journal inside all open_still = record {
    driven =
        driven-first journal inside (none-open journal all (not-true (list_any is_close (entries_by device journal)) open_still)) (no-commands journal all);
    answered = refl;
  }
