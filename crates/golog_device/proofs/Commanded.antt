-- What is so of a device that was told what to do.
use Rattle.std.proofs.Common.{◌≡◌, ◌≢◌, ℕ, ◌+◌, ◌≤◌, ◌<◌, Bool, true, false, if◌then◌else◌, Option, Some, None, length, refl, sym, subst, arith}
use Rattle.std.specs.Prelude.{slice_get, ⊤}
use Rattle.golog_tree.specs.declared.agent.Agent.{Agent}
use Rattle.golog_tree.specs.Ground.{sort_size, action_args, ground_actions, ground_count}
use Rattle.golog_semantics.specs.declared.journal.Item.{Item}
use Rattle.golog_semantics.specs.declared.journal.Item.TheVariants as item
use Rattle.golog_semantics.specs.Values.{fluent_sort}
use Rattle.golog_semantics.specs.Text.{Text, action_text, value_text}
use Rattle.golog_semantics.specs.Inline.{number_of_text}
use Rattle.golog_semantics.specs.Dealt.{value_item}
use Rattle.golog_semantics.specs.Journal.{Journal, Command, commands, fluent_sensed, has_end, limit}
use Rattle.golog_journal.specs.declared.board.Next.TheVariants.{Command as Commanded, Nothing, Ended}
use Rattle.golog_journal.specs.Boards.{IsBoardList}
use Rattle.golog_journal.specs.Taken.{IsDriven, IsReady}
use Rattle.golog_journal.specs.Commands.{is_resting, next_by, next_of}
use Rattle.golog_journal.specs.Posting.{IsItsTime, MayPost}
use Rattle.golog_journal.proofs.Lawful.{commands-few}
use Rattle.std.specs.Option.{option_map_or}
use Rattle.std.proofs.lemmas.Option.{same_Some}
use Rattle.golog_device.specs.declared.device.Served.{Served}
use Rattle.golog_device.specs.declared.device.Served.TheVariants.{Nothing as NoValue, Value}
use Rattle.golog_device.specs.declared.device.Idle.{Idle}
use Rattle.golog_device.specs.declared.device.Idle.TheVariants.{Post, Rest, Close}
use Rattle.golog_device.specs.Turns.{answer_item, idle_item}
use Rattle.golog_device.proofs.Places.{command-number}
use Rattle.golog_device.proofs.Taking.{driven-next}
use Rattle.golog_device.proofs.DealtTurn.{few-of, all-taken}

-- neither a stop nor a refusal
abbrev pub IsPlain : Item → Type 0
IsPlain item.Stop = ⊥
IsPlain item.Refused = ⊥
IsPlain other = ⊤

module _ (agent : Agent) (journal : Journal) (device taken : ℕ) where
  -- the command that was told
  pub record Tells (action : ℕ) : Type 0 where
    pub command : Command
    pub is : slice_get (commands agent device journal) taken ≡ Some command
    pub action_is : command.action ≡ action

  told-command : (o : Option Command) → slice_get (commands agent device journal) taken ≡ o → (place action : ℕ) (asked : Bool)
      → Commanded place action asked ≡ next_by agent journal device taken o → Tells action
  told-command (Some c) is place action asked told = record { command = c; is = is; action_is = let k : action ≡ c.action = cc in sym k }
  told-command None is place action asked told = go (has_end journal) told
    where
      go : (e : Bool) → Commanded place action asked ≡ (if e then Ended else Nothing (is_resting agent journal device taken)) → Tells action
      go true h = absurd (cc)
      go false h = absurd (cc)

  told-ended : (o : Option Command) → slice_get (commands agent device journal) taken ≡ o → Ended ≡ next_by agent journal device taken o
      → (slice_get (commands agent device journal) taken ≡ None) × (has_end journal ≡ true)
  told-ended (Some c) is told = absurd (cc)
  told-ended None is told = go (has_end journal) refl told
    where
      go : (e : Bool) → has_end journal ≡ e → Ended ≡ (if e then Ended else Nothing (is_resting agent journal device taken))
          → (slice_get (commands agent device journal) taken ≡ None) × (has_end journal ≡ true)
      go true e h = (is, e)
      go false e h = absurd (cc)

  module _ (list : IsBoardList agent journal) (ready : IsReady agent journal device taken) where
    -- there are not too many commands
    pub taken-small : taken ≤ limit
    taken-small =
        let few = few-of agent journal device taken ready.driven in
        let all = commands-few agent device journal in
        let room = list.room in
        omega (arith, few, all, room)

    pub told-number : (place action : ℕ) (asked : Bool) → Commanded place action asked ≡ next_of agent journal device taken
        → action < ground_count agent (action_args agent)
    told-number place action asked told =
        let t = told-command (slice_get (commands agent device journal) taken) refl place action asked told in
        subst (λ a. a < ground_count agent (action_args agent)) t.action_is (command-number agent device journal taken t.command t.is)

    pub told-driven : (place action : ℕ) (asked : Bool) → Commanded place action asked ≡ next_of agent journal device taken
        → IsDriven agent journal device (taken + 1)
    told-driven place action asked told =
        let t = told-command (slice_get (commands agent device journal) taken) refl place action asked told in
        driven-next agent journal device taken list ready t.command t.is

    pub told-stop : Ended ≡ next_of agent journal device taken → MayPost agent journal device taken item.Stop
    told-stop told =
        let t = told-ended (slice_get (commands agent device journal) taken) refl told in
        record { driven = ready.driven; in_time = (t.1, sym (all-taken agent journal device taken ready.driven t.0)) }

  -- what is neither a stop nor a refusal may be posted at any time
  pub may-plain : (i : Item) → IsPlain i → IsDriven agent journal device taken → MayPost agent journal device taken i
  may-plain i plain driven = record { driven = driven; in_time = go i plain }
    where
      go : (x : Item) → IsPlain x → IsItsTime agent journal device taken x
      go item.Stop plain = absurd plain
      go item.Refused plain = absurd plain
      go (item.Exo action) plain = tt
      go (item.Value value) plain = tt
      go item.Rest plain = tt
      go item.Close plain = tt
      go item.Unreadable plain = tt
      go item.Silent plain = tt

pub not-refused : (i : Item) → IsPlain i → i ≢ item.Refused
not-refused i plain e = subst IsPlain e plain

module _ (agent : Agent) where
  value-plain : (device : ℕ) (o : Option ℕ) (bytes : Text) → IsPlain (value_item agent device o bytes)
  value-plain device None bytes = tt
  value-plain device (Some f) bytes = go (number_of_text agent (value_text agent f) (sort_size agent (fluent_sort agent f)) bytes)
    where
      go : (x : Option ℕ) → IsPlain (option_map_or item.Value x item.Unreadable)
      go None = tt
      go (Some v) = tt

  -- no device answers with a stop or a refusal
  pub answer-plain : (device action : ℕ) (asked : Bool) (answer : Served) (i : Item) → answer_item agent device action asked answer ≡ Some i → IsPlain i
  answer-plain device action true NoValue i e = subst IsPlain (same_Some item.Silent i e) tt
  answer-plain device action false NoValue i e = absurd (cc)
  answer-plain device action true (Value bytes) i e =
      subst IsPlain (same_Some (value_item agent device (fluent_sensed agent action) bytes) i e) (value-plain device (fluent_sensed agent action) bytes)
  answer-plain device action false (Value bytes) i e = subst IsPlain (same_Some item.Unreadable i e) tt

  -- nor fills idle time with one
  pub idle-plain : (answer : Idle) → IsPlain (idle_item agent answer)
  idle-plain (Post bytes) = go (number_of_text agent (action_text agent) (length (ground_actions agent)) bytes)
    where
      go : (x : Option ℕ) → IsPlain (option_map_or item.Exo x item.Unreadable)
      go None = tt
      go (Some a) = tt
  idle-plain Rest = tt
  idle-plain Close = tt
