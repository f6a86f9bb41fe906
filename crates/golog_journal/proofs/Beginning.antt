-- What is kept of an empty journal; where the devices of entries and actions stand; what is posted.
use Rattle.std.proofs.Common.{◌≡◌, ℕ, ◌≤◌, ◌<◌, Bool, true, not, ◌&&◌, ◌||◌, if◌then◌else◌, Option, Some, None, List, [], ◌∷◌, ◌++◌, length, refl, sym, ap, ◌∙◌, subst, arith, ◌⊎◌, inl, inr}
use Rattle.std.specs.Prelude.{count_by, slice_get, option_and_then, All, is_some, nat_le}
use Rattle.std.specs.List.{list_all, list_any}
use Rattle.std.specs.Option.{option_map_or}
use Rattle.std.proofs.lemmas.Bool.{and_parts, ltb-true, cases_lt}
use Rattle.std.proofs.lemmas.Option.{same_Some, slice_get_within, get_or_from_slice_get}
use Rattle.std.proofs.lemmas.List.Sums.{sum_by-cons, AllPass-from_list_all}
use Rattle.std.proofs.lemmas.List.Elements.{All-head, All-tail}
use Rattle.golog_tree.specs.declared.agent.Agent.{Agent}
use Rattle.golog_tree.specs.declared.agent.ActionItem.{ActionItem}
use Rattle.golog_tree.specs.Ground.{Ground, ground_actions}
use Rattle.golog_semantics.specs.declared.journal.Entry.{Entry}
use Rattle.golog_semantics.specs.declared.journal.Entry.TheVariants.{Do, Test, Exo, Sense, Rest, Close, End}
use Rattle.golog_semantics.specs.declared.journal.Item.{Item}
use Rattle.golog_semantics.specs.declared.journal.Item.TheVariants as item
use Rattle.golog_semantics.specs.declared.journal.Reason.{Reason}
use Rattle.golog_semantics.specs.Ways.{is_empty}
use Rattle.golog_semantics.specs.Journal.{Journal, Command, device_of, commands, poster_of, is_result_of, limit}
use Rattle.golog_semantics.specs.Posts.{awaited_command, result_of, entry_of, closing, posted_entry}
use Rattle.golog_semantics.specs.Online.{is_result}
use Rattle.golog_semantics.specs.Reports.{is_device, is_value, is_exogenous, place_limit, fits_entry}
use Rattle.golog_semantics.specs.WellFormed.{is_device_no, are_sorts, action_item_fits}
use Rattle.golog_journal.specs.declared.reached.Reached.{Reached}
use Rattle.golog_journal.specs.declared.standing.Standing.{Standing}
use Rattle.golog_journal.specs.Agents.{ServesDevices}
use Rattle.golog_journal.specs.Boards.{IsBoardList}
use Rattle.golog_journal.specs.Reaching.{at_start, IsReached, AreReached}
use Rattle.golog_journal.specs.Tallies.{IsCounted}
use Rattle.golog_journal.proofs.Lawful.{count-push, lawful-last, lawful-parts, commands-few, result-before}

abbrev one_if : Bool → ℕ
one_if b = if b then 1 else 0

none-closed : (ts : List Standing) → All (λ standing. standing.is_open ≡ true) ts → count_by (λ (standing : Standing). not standing.is_open) ts ≡ 0
none-closed [] opens = refl
none-closed (t ∷ ts) opens =
    let first = sum_by-cons (λ (standing : Standing). if not standing.is_open then 1 else 0) t ts in
    let none : one_if (not t.is_open) ≡ 0 = ap (λ b. one_if (not b)) (All-head (λ (standing : Standing). standing.is_open ≡ true) t ts opens) in
    let rest = none-closed ts (All-tail (λ (standing : Standing). standing.is_open ≡ true) t ts opens) in
    omega (arith, first, none, rest)

-- nothing is counted of an empty journal
pub counted-new : (agent : Agent) (ts : List Standing) → ServesDevices agent → length ts ≡ length agent.devices
    → All (λ standing. standing.commands ≡ 0) ts → All (λ standing. standing.outstanding ≡ 0) ts → All (λ standing. standing.rested ≡ None) ts → All (λ standing. standing.is_open ≡ true) ts
    → IsCounted agent [] ts
counted-new agent ts serves long no_commands nothing_owed not_rested opens = record {
  serves = serves;
  lawful = record { lawful = refl; room = omega arith };
  tallied = record {
    one_each = long;
    each = λ d x below. record {
      has_commands = no_commands d x below;
      has_outstanding = nothing_owed d x below;
      has_rested = not_rested d x below;
      has_open = opens d x below;
    };
    in_all = let none = none-closed ts opens in omega (arith, none);
  };
}

-- where no entry was looked at
pub start-reached : (agent : Agent) (journal : Journal) (device : ℕ) → IsReached agent journal device at_start
start-reached agent journal device = record { within = omega arith; few = omega arith; number = refl; last = refl }

pub reached-new : (agent : Agent) (devices : List Reached) → length devices ≡ length agent.devices
    → All (λ (reached : Reached). reached ≡ at_start) devices → AreReached agent [] devices
reached-new agent devices long start = record {
  one_each = long;
  each = λ d x below. subst (IsReached agent [] d) (sym (start d x below)) (start-reached agent [] d);
}

module _ (agent : Agent) where
  -- a device of an action is one of the agent's
  pub carrier-inside : ServesDevices agent → (action device : ℕ) → device_of agent action ≡ Some device → device < length agent.devices
  carrier-inside serves action device is = by-ground (slice_get (ground_actions agent) action) is
    where
      by-device : (item : ActionItem) → action_item_fits agent item ≡ true → item.device ≡ Some device → device < length agent.devices
      by-device item fits own =
          let three = and_parts (are_sorts agent item.args && option_map_or (is_device_no agent) item.device true && list_all (is_device_no agent) item.posters)
          (is_empty item.posters || not (is_some item.device)) fits in
          let two = and_parts (are_sorts agent item.args && option_map_or (is_device_no agent) item.device true) (list_all (is_device_no agent) item.posters) three.0 in
          let one = (and_parts (are_sorts agent item.args) (option_map_or (is_device_no agent) item.device true) two.0).1 in
          ltb-true device (length agent.devices) (ap (λ o. option_map_or (is_device_no agent) o true) (sym own) ∙ one)

      by-item : (at : Ground) (o : Option ActionItem) → slice_get agent.actions at.0 ≡ o → option_and_then (λ (i : ActionItem). i.device) o ≡ Some device
          → device < length agent.devices
      by-item at None found h = absurd (cc)
      by-item at (Some item) found h =
          by-device item
          (ap (action_item_fits agent) (sym (get_or_from_slice_get agent.actions at.0 item item found))
          ∙ AllPass-from_list_all (action_item_fits agent) agent.actions serves.actions at.0 item (slice_get_within agent.actions at.0 item found))
          h

      by-ground : (o : Option Ground)
          → option_and_then (λ (i : ActionItem). i.device) (option_and_then (λ (at : Ground). slice_get agent.actions at.0) o) ≡ Some device → device < length agent.devices
      by-ground None h = absurd (cc)
      by-ground (Some at) h = by-item at (slice_get agent.actions at.0) refl h

  module _ (journal : Journal) where
    -- the device of a lawful entry is one of the agent's
    pub poster-inside : (e : Entry) (device : ℕ) → poster_of e ≡ Some device → IsBoardList agent (journal ++ e ∷ []) → device < length agent.devices
    poster-inside e device own is = go e own (lawful-parts agent journal e (lawful-last agent journal e is)).of_agent
      where
        number : (p : ℕ) → Some p ≡ Some device → is_device agent p ≡ true → device < length agent.devices
        number p own h = subst (λ d. d < length agent.devices) (same_Some p device own) (ltb-true p (length agent.devices) h)

        go : (x : Entry) → poster_of x ≡ Some device → fits_entry agent journal x ≡ true → device < length agent.devices
        go (Do action) own h = absurd (cc)
        go Test own h = absurd (cc)
        go (End answer) own h = absurd (cc)
        go (Exo p action) own h = number p own (and_parts (is_device agent p) (is_exogenous agent action) h).0
        go (Sense p place fluent value) own h =
            number p own
            (and_parts (is_device agent p) (is_value agent fluent value)
            (and_parts (is_device agent p && is_value agent fluent value) (list_any (is_result agent journal place fluent) (commands agent p journal)) h).0).0
        go (Rest p taken) own h = number p own (and_parts (is_device agent p) (nat_le taken place_limit) h).0
        go (Close p r taken) own h = number p own (and_parts (is_device agent p) (nat_le taken place_limit) h).0

    -- a result is of an earlier entry
    pub earlier : (e : Entry) → IsBoardList agent (journal ++ e ∷ []) → (place : ℕ) → is_result_of place e ≡ true → place < length journal
    earlier e is place result = go (cases_lt place (length journal))
      where
        go : (place < length journal) ⊎ (length journal ≤ place) → place < length journal
        go (inl low) = low
        go (inr high) = absurd (let none = result-before agent journal e place (lawful-last agent journal e is) high in cc)

    -- there is room for one more command
    pub command-room : (action device : ℕ) → IsBoardList agent (journal ++ Do action ∷ []) → length (commands agent device journal) < limit
    command-room action device is =
        let few = commands-few agent device journal in
        let more = count-push journal (Do action) in
        let room = is.room in
        omega (arith, few, more, room)

    -- what is posted is of the device
    pub posted-by : (device taken : ℕ) (i : Item) → poster_of (posted_entry agent journal device taken i) ≡ Some device
    posted-by device taken i = by-reason (closing agent journal device taken i)
      where
        by-awaited : (value : ℕ) (o : Option Command) → poster_of (option_map_or (result_of agent journal device taken value) o (Rest device taken)) ≡ Some device
        by-awaited value None = refl
        by-awaited value (Some c) = refl

        of-item : (i : Item) → poster_of (entry_of agent journal device taken i) ≡ Some device
        of-item (item.Exo action) = refl
        of-item (item.Value value) = by-awaited value (awaited_command agent journal device taken)
        of-item item.Rest = refl
        of-item item.Close = refl
        of-item item.Unreadable = refl
        of-item item.Silent = refl
        of-item item.Stop = refl
        of-item item.Refused = refl

        by-reason : (o : Option Reason) → poster_of (option_map_or (λ r. Close device r taken) o (entry_of agent journal device taken i)) ≡ Some device
        by-reason None = of-item i
        by-reason (Some r) = refl
