-- What the words of a command are answered.
use Rattle.std.specs.Prelude.{◌≡◌, Option, None, Some, option_map, IsSome, Result, Ok, Err}
use Rattle.golog_words.specs.Commands.{CommandLine, run, check, replay, ask, migrate, demo, team, plan}
use Rattle.golog_words.specs.declared.order.Order.{Order}
use Rattle.golog_words.specs.declared.order.Order.TheVariants.{Run, Check, Replay, Ask, Migrate, Demo, Team, Plan}
use Rattle.golog_words.specs.declared.order.WordsFault.{WordsFault}
use Rattle.golog_words.specs.declared.order.WordsFault.TheVariants.{Refused, Memory}

-- the command of an order: the bytes of its texts
abbrev pub command_of : Order → CommandLine
command_of (Run agent devices inline from workers) =
    run agent.now (option_map (λ name. name.now) devices) inline (option_map (λ name. name.now) from) workers
command_of (Check agent) = check agent.now
command_of (Replay agent journal) = replay agent.now journal.now
command_of (Ask agent journal condition) = ask agent.now journal.now condition.now
command_of (Migrate agent journal) = migrate agent.now journal.now
command_of (Demo size) = demo size
command_of (Team first second inline) = team first.now second.now inline
command_of (Plan depth fuel agent devices inline) =
    plan depth fuel agent.now (option_map (λ name. name.now) devices) inline

-- An order is that of the command that the words spell, they are refused where they spell none, and memory runs out
-- only where they spell one.
abbrev pub Answers : Result Order WordsFault → Option CommandLine → Type 0
Answers (Ok order) spelled = spelled ≡ Some (command_of order)
Answers (Err Refused) spelled = spelled ≡ None
Answers (Err Memory) spelled = IsSome spelled
