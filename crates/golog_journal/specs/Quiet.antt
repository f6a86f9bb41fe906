-- Devices that keep the program waiting: for a result, or by what they may still post.
use Rattle.std.specs.Prelude.{ℕ, ◌==◌, nat_lt, Bool, false, not, ◌&&◌, ◌||◌, if◌then◌else◌, Option, None}
use Rattle.std.specs.Option.{option_map_or}
use Rattle.golog_tree.specs.declared.agent.Agent.{Agent}
use Rattle.golog_semantics.specs.Journal.{device_of, is_held}
use Rattle.golog_journal.specs.declared.standing.Standing.{Standing}

-- by what is counted for it, a device is closed or at rest
abbrev pub is_quiet_by : Standing → Bool
is_quiet_by standing =
    not standing.is_open || option_map_or (λ rested. rested == standing.commands) standing.rested false

-- by what is counted for it, a result of the device is still to come
abbrev pub lacks_by : Standing → Bool
lacks_by standing = nat_lt 0 standing.outstanding

-- and the device is open
abbrev pub may_be_answered_by : Standing → Bool
may_be_answered_by standing = standing.is_open && lacks_by standing

-- the device for whose result the program waits behind the action
abbrev pub held_of : Agent → ℕ → Option ℕ
held_of agent action = if is_held agent action then device_of agent action else None
