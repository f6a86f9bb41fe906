-- What a turn of an open device does: it asks the board what to do, asks the device, and posts the answer.
-- (This project's own.)
use Rattle.std.specs.Prelude.{◌≡◌, ℕ, ◌+◌, Bool, true, false, Option, Some, None}
use Rattle.golog_tree.specs.declared.agent.Agent.{Agent}
use Rattle.golog_semantics.specs.declared.journal.Item.{Item}
use Rattle.golog_semantics.specs.declared.journal.Item.TheVariants as item
use Rattle.golog_semantics.specs.Journal.{fluent_sensed}
use Rattle.golog_semantics.specs.Text.{action_text}
use Rattle.golog_semantics.specs.Inline.{posted_action}
use Rattle.golog_semantics.specs.Dealt.{Meaning, value_item}
use Rattle.golog_journal.specs.declared.board.Next.{Next}
use Rattle.golog_journal.specs.declared.board.Next.TheVariants.{Command, Nothing as NoCommand, Ended}
use Rattle.golog_journal.specs.declared.board.Posted.{Posted}
use Rattle.golog_journal.specs.declared.board.Posted.TheVariants.{At, Closed as ClosedAt}
use Rattle.golog_journal.specs.Commands.{NextIs}
use Rattle.golog_journal.specs.Posting.{PostIs}
use Rattle.golog_journal.specs.Growing.{Sight, Called}
use Rattle.golog_device.specs.declared.device.Served.{Served}
use Rattle.golog_device.specs.declared.device.Served.TheVariants.{Nothing, Value}
use Rattle.golog_device.specs.declared.device.Idle.{Idle}
use Rattle.golog_device.specs.declared.device.Idle.TheVariants.{Post, Rest, Close}
use Rattle.golog_device.specs.declared.turn.Turned.{Turned}
use Rattle.golog_device.specs.declared.turn.Turned.TheVariants as turned
use Rattle.golog_device.specs.Devices.{Serves, Idles}

-- the agent, the parties held and whether no one else adds entries stay
pub record SameBoard (old new : Sight) : Type 0 where
  pub same_agent : new.agent ≡ old.agent
  pub same_alone : new.alone ≡ old.alone
  pub same_holds : new.holds ≡ old.holds

-- a turn did this, unless the device was closed in the item's place
abbrev pub done_by : Posted → Turned → Turned
done_by (At place) done = done
done_by (ClosedAt place reason) done = turned.Closed

-- the item, where there is one, was posted for the device, which has taken so many commands; else nothing was
-- added
abbrev pub PostsItem : ℕ → ℕ → Option Item → Turned → Turned → Sight → Sight → Type 0
PostsItem device taken None done result old new = (result ≡ done) × (new ≡ old)
PostsItem device taken (Some i) done result old new =
    (reply : Posted)
    × (result ≡ done_by reply done)
    × Called (λ point. PostIs old.agent point device taken i reply) old new

-- what an answer to an action is posted as: silence where one was asked for, and nothing where none was
abbrev pub answer_item : Agent → ℕ → ℕ → Bool → Served → Option Item
answer_item agent device action true Nothing = Some item.Silent
answer_item agent device action false Nothing = None
answer_item agent device action true (Value bytes) =
    Some (value_item agent device (fluent_sensed agent action) bytes)
answer_item agent device action false (Value bytes) = Some item.Unreadable

-- what a device posts without a command
abbrev pub idle_item : Agent → Idle → Item
idle_item agent (Post bytes) = posted_action agent bytes
idle_item agent Rest = item.Rest
idle_item agent Close = item.Close

-- what a turn without a command is called
abbrev pub idle_turn : Idle → Turned
idle_turn Rest = turned.Rested
idle_turn (Post bytes) = turned.Posted
idle_turn Close = turned.Posted

-- the device was served a command with its text, and what it answered was posted
abbrev pub ServesCommand : Agent → ℕ → ℕ → ℕ → Bool → Turned → Sight → Sight → Meaning → Meaning → Type 0
ServesCommand agent device taken action asked result old new was is =
    (answer : Served)
    × Serves answer was is (record { text = action_text agent action; asked = asked })
    × PostsItem device taken (answer_item agent device action asked answer) turned.Served result old new

-- the device was asked without a command, and what it answered was posted
abbrev pub FillsTime : Agent → ℕ → ℕ → Turned → Sight → Sight → Meaning → Meaning → Type 0
FillsTime agent device taken result old new was is =
    (answer : Idle)
    × Idles answer was is
    × PostsItem device taken (Some (idle_item agent answer)) (idle_turn answer) result old new

-- A command is served, and counted as taken. After the end the device is stopped. One that is resting is not
-- asked; one that is not is asked.
abbrev pub TurnsBy : Agent → ℕ → ℕ → Next → Turned → ℕ → Sight → Sight → Meaning → Meaning → Type 0
TurnsBy agent device taken (Command place action asked) result count old new was is =
    (count ≡ taken + 1) × ServesCommand agent device (taken + 1) action asked result old new was is
TurnsBy agent device taken Ended result count old new was is =
    (count ≡ taken) × (is ≡ was) × PostsItem device taken (Some item.Stop) turned.Posted result old new
TurnsBy agent device taken (NoCommand true) result count old new was is =
    (count ≡ taken) × (is ≡ was) × PostsItem device taken None turned.Nothing result old new
TurnsBy agent device taken (NoCommand false) result count old new was is =
    (count ≡ taken) × FillsTime agent device taken result old new was is

-- the board told what to do, and that was done
pub record Turns
    (agent : Agent) (device taken : ℕ) (result : Turned) (count : ℕ) (old new : Sight) (was is : Meaning)
    : Type 0 where
  pub told : Next
  pub asked : Sight
  pub asks : Called (λ point. NextIs agent point device taken told) old asked
  pub does : TurnsBy agent device taken told result count asked new was is
