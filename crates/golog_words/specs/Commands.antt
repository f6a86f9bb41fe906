-- The commands, and which words spell them.
use Rattle.std.specs.Prelude.{ℕ, ◌≤◌, ◌==◌, ◌&&◌, nat_le, Bool, true, false, not, if◌then◌else◌, List, [], ◌∷◌, Option, None, Some, IfSome, is_some, option_map, option_and_then, codes, bytes_eq, ⊤}
use Rattle.golog_base.specs.Numbers.{amount, is_natural}
use Rattle.golog_words.specs.declared.said.Awaited.{Awaited}
use Rattle.golog_words.specs.declared.said.Awaited.TheVariants.{Journal, Count}

-- the bytes of a word
abbrev pub Text : Type 0
Text = List ℕ

-- what a command asks for
pub data CommandLine : Type 0 where
  run : (agent : Text) (devices : Option Text) (is_inline : Bool) (from : Option Text) (workers : Option ℕ) → CommandLine
  check : (agent : Text) → CommandLine
  replay : (agent journal : Text) → CommandLine
  ask : (agent journal condition : Text) → CommandLine
  migrate : (agent journal : Text) → CommandLine
  demo : (size : ℕ) → CommandLine
  team : (first second : Text) (is_inline : Bool) → CommandLine
  plan : (depth fuel : ℕ) (agent : Text) (devices : Option Text) (is_inline : Bool) → CommandLine

-- Where a command says how many workers its searches have, these are from 1 to 16.
abbrev pub WorkersFit : CommandLine → Type 0
WorkersFit (run agent devices is_inline from workers) = IfSome workers (λ count. (1 ≤ count) × (count ≤ 16))
WorkersFit other = ⊤

-- The depth of a plan is from 1 to 16, and its fuel from 1 to 100,000.
abbrev pub PlanFits : CommandLine → Type 0
PlanFits (plan depth fuel agent devices is_inline) = (1 ≤ depth) × (depth ≤ 16) × (1 ≤ fuel) × (fuel ≤ 100000)
PlanFits other = ⊤

-- A file word is not empty and does not begin with `-`.
abbrev pub is_file_word : Text → Bool
is_file_word [] = false
is_file_word (byte ∷ bytes) = not (byte == 45)

abbrev pub is_inline : Text → Bool
is_inline word = bytes_eq word (codes "--inline")

abbrev pub is_from : Text → Bool
is_from word = bytes_eq word (codes "--from")

abbrev pub is_workers : Text → Bool
is_workers word = bytes_eq word (codes "--workers")

-- the digits of a number from 1 to this one, without leading zeros
abbrev pub is_up_to : ℕ → Text → Bool
is_up_to most word = nat_le (amount word) most && nat_le 1 (amount word) && is_natural word

-- the number that such digits spell
abbrev pub up_to : ℕ → Text → Option ℕ
up_to most word = if is_up_to most word then Some (amount word) else None

-- A search has from 1 to 16 workers.
abbrev pub is_count : Text → Bool
is_count word = is_up_to 16 word

abbrev pub count_in : Text → Option ℕ
count_in word = up_to 16 word

-- what words behind `run` have said
pub record Said : Type 0 where
  -- the file of the agent, and that of the devices' scripts
  pub agent : Option Text
  pub devices : Option Text
  pub is_inline : Bool
  -- the file of the journal from which it begins
  pub from : Option Text
  -- the digits of the number of workers
  pub workers : Option Text
  -- what the next word tells, where the last one was `--from` or `--workers`
  pub awaits : Option Awaited

abbrev pub nothing_said : Said
nothing_said =
    record { agent = None; devices = None; is_inline = false; from = None; workers = None; awaits = None }

-- One more file word names the agent, and behind it the devices' scripts.
abbrev pub with_file : Said → Text → Option Said
with_file said word =
    if not (is_some said.agent) then Some (record said { agent = Some word })
    else if not (is_some said.devices) then Some (record said { devices = Some word })
    else None

-- `--inline` stands there once.
abbrev pub with_inline : Said → Option Said
with_inline said = if said.is_inline then None else Some (record said { is_inline = true })

-- `--from` stands there once, before the word that names its file.
abbrev pub with_from : Said → Option Said
with_from said = if is_some said.from then None else Some (record said { awaits = Some Journal })

-- `--workers` stands there once, before the word that tells how many.
abbrev pub with_workers : Said → Option Said
with_workers said = if is_some said.workers then None else Some (record said { awaits = Some Count })

-- what is awaited: the file behind `--from`, the number behind `--workers`
abbrev pub with_awaited : Awaited → Said → Text → Option Said
with_awaited Journal said word = if is_file_word word then Some (record said { from = Some word; awaits = None }) else None
with_awaited Count said word = if is_count word then Some (record said { workers = Some word; awaits = None }) else None

-- a word where nothing is awaited
abbrev pub with_word : Said → Text → Option Said
with_word said word =
    if is_file_word word then with_file said word
    else if is_inline word then with_inline said
    else if is_from word then with_from said
    else if is_workers word then with_workers said
    else None

-- the same where this is awaited, or nothing
abbrev pub more_where : Option Awaited → Said → Text → Option Said
more_where None said word = with_word said word
more_where (Some awaited) said word = with_awaited awaited said word

-- what is said with one more word, if it may stand there
abbrev pub said_more : Said → Text → Option Said
said_more said word = more_where said.awaits said word

-- what the words say behind what was said
abbrev pub said_by : List Text → Said → Option Said
said_by [] said = Some said
said_by (word ∷ words) said = option_and_then (said_by words) (said_more said word)

-- the run that was asked for, where an agent was named and nothing is awaited
abbrev pub run_of : Said → Option CommandLine
run_of said =
    if is_some said.awaits then None
    else option_map (λ agent. run agent said.devices said.is_inline said.from (option_and_then count_in said.workers)) said.agent

-- Behind `run` stand one or two file words, `--inline` at most once, `--from` with a file word behind it at most once,
-- and `--workers` with a number from 1 to 16 behind it at most once, in any place among them.
abbrev pub run_in : List Text → Option CommandLine
run_in words = option_and_then run_of (said_by words nothing_said)

-- Behind `check` stands one file word.
abbrev pub check_in : List Text → Option CommandLine
check_in (agent ∷ []) = if is_file_word agent then Some (check agent) else None
check_in words = None

-- Behind `replay` stand two file words.
abbrev pub replay_in : List Text → Option CommandLine
replay_in (agent ∷ journal ∷ []) =
    if is_file_word agent && is_file_word journal then Some (replay agent journal) else None
replay_in words = None

-- Behind `ask` stand two file words and a condition, which is neither empty nor begins with `-`.
abbrev pub ask_in : List Text → Option CommandLine
ask_in (agent ∷ journal ∷ condition ∷ []) =
    if is_file_word agent && is_file_word journal && is_file_word condition
    then Some (ask agent journal condition)
    else None
ask_in words = None

-- Behind `migrate` stand two file words.
abbrev pub migrate_in : List Text → Option CommandLine
migrate_in (agent ∷ journal ∷ []) =
    if is_file_word agent && is_file_word journal then Some (migrate agent journal) else None
migrate_in words = None

-- A demo has from 1 to 200 levels.
abbrev pub is_size : Text → Bool
is_size word = is_up_to 200 word

abbrev pub size_in : Text → Option ℕ
size_in word = up_to 200 word

abbrev pub demo_of : Option ℕ → Option CommandLine
demo_of (Some size) = Some (demo size)
demo_of None = None

-- Behind `demo` stands a size.
abbrev pub demo_in : List Text → Option CommandLine
demo_in (word ∷ []) = demo_of (size_in word)
demo_in words = None

-- a run with two files that begins from no journal, and says no number of workers, as a team of these
abbrev pub team_of : CommandLine → Option CommandLine
team_of (run first (Some second) is_inline None None) = Some (team first second is_inline)
team_of command = None

-- Behind `team` stand two file words, and `--inline` at most once, in any place among them.
abbrev pub team_in : List Text → Option CommandLine
team_in words = option_and_then team_of (run_in words)

-- A plan has from 1 to 16 steps in a row.
abbrev pub is_depth : Text → Bool
is_depth word = is_up_to 16 word

abbrev pub depth_in : Text → Option ℕ
depth_in word = up_to 16 word

-- The search for a plan has a fuel from 1 to 100,000.
abbrev pub is_fuel : Text → Bool
is_fuel word = is_up_to 100000 word

abbrev pub fuel_in : Text → Option ℕ
fuel_in word = up_to 100000 word

-- a run that begins from no journal, and says no number of workers, as the plan of this depth and fuel
abbrev pub plan_of : ℕ → ℕ → CommandLine → Option CommandLine
plan_of depth fuel (run agent devices is_inline None None) = Some (plan depth fuel agent devices is_inline)
plan_of depth fuel command = None

-- Behind `plan` stand a depth and a fuel, and then one or two file words, and `--inline` at most once, in any place
-- among them.
abbrev pub plan_in : List Text → Option CommandLine
plan_in (depth ∷ fuel ∷ words) =
    if is_depth depth && is_fuel fuel
    then option_and_then (plan_of (amount depth) (amount fuel)) (run_in words)
    else None
plan_in words = None

-- The command that the words spell, if they spell one: the first word says what it does.
abbrev pub command_in : List Text → Option CommandLine
command_in [] = None
command_in (first ∷ words) =
    if bytes_eq first (codes "run") then run_in words
    else if bytes_eq first (codes "check") then check_in words
    else if bytes_eq first (codes "replay") then replay_in words
    else if bytes_eq first (codes "ask") then ask_in words
    else if bytes_eq first (codes "migrate") then migrate_in words
    else if bytes_eq first (codes "demo") then demo_in words
    else if bytes_eq first (codes "team") then team_in words
    else if bytes_eq first (codes "plan") then plan_in words
    else None
