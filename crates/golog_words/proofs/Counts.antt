-- The numbers that a command says lie within their bounds: its workers, the depth and the fuel of a plan.
use Rattle.std.proofs.Common.{◌≡◌, ℕ, ◌≤◌, Bool, true, false, List, [], ◌∷◌, Option, Some, None, refl, subst, codes, bytes_eq}
use Rattle.std.specs.Prelude.{◌&&◌, IfSome, if◌then◌else◌, is_some, option_and_then, option_map}
use Rattle.golog_base.specs.Numbers.{amount}
use Rattle.golog_words.specs.Commands.{CommandLine, PlanFits, Said, Text, WorkersFit, plan, run, ask_in, check_in, command_in, count_in, demo_in, is_count, is_depth, is_fuel, migrate_in, nothing_said, plan_in, plan_of, replay_in, run_in, run_of, said_by, team_in, team_of}
use Rattle.golog_words.proofs.Conditions.{first, second, holds_under}
use Rattle.golog_words.proofs.Digits.{within}
use Rattle.golog_words.proofs.Parts.{IsAsk, IsCheck, IsDemo, IsMigrate, IsReplay, IsRun, Spells, asks_in, checks_in, demos_in, migrates_in, replays_in, runs_in}

-- of two that fit the one that is taken fits
taken_fits : (Fits : CommandLine → Type 0) (test : Bool) (one other : Option CommandLine) → Spells Fits one
    → Spells Fits other → Spells Fits (if test then one else other)
taken_fits Fits true one other fits rest = fits
taken_fits Fits false one other fits rest = rest

-- where what may stand behind each first word fits, so does the command
any_fits : (Fits : CommandLine → Type 0) (word : Text) (words : List Text) → Spells Fits (run_in words)
    → Spells Fits (check_in words) → Spells Fits (replay_in words) → Spells Fits (ask_in words)
    → Spells Fits (migrate_in words) → Spells Fits (demo_in words) → Spells Fits (team_in words)
    → Spells Fits (plan_in words) → Spells Fits (command_in (word ∷ words))
any_fits Fits word words runs checks replays asks migrates demos teams plans =
    let plan = if bytes_eq word (codes "plan") then plan_in words else None in
    let team = if bytes_eq word (codes "team") then team_in words else plan in
    let demo = if bytes_eq word (codes "demo") then demo_in words else team in
    let migrate = if bytes_eq word (codes "migrate") then migrate_in words else demo in
    let ask = if bytes_eq word (codes "ask") then ask_in words else migrate in
    let replay = if bytes_eq word (codes "replay") then replay_in words else ask in
    let check = if bytes_eq word (codes "check") then check_in words else replay in
    taken_fits Fits (bytes_eq word (codes "run")) (run_in words) check runs
    (taken_fits Fits (bytes_eq word (codes "check")) (check_in words) replay checks
    (taken_fits Fits (bytes_eq word (codes "replay")) (replay_in words) ask replays
    (taken_fits Fits (bytes_eq word (codes "ask")) (ask_in words) migrate asks
    (taken_fits Fits (bytes_eq word (codes "migrate")) (migrate_in words) demo migrates
    (taken_fits Fits (bytes_eq word (codes "demo")) (demo_in words) team demos
    (taken_fits Fits (bytes_eq word (codes "team")) (team_in words) plan teams
    (taken_fits Fits (bytes_eq word (codes "plan")) (plan_in words) None plans tt)))))))

-- ---- the workers of a run

abbrev Few : Option ℕ → Type 0
Few workers = IfSome workers (λ count. (1 ≤ count) × (count ≤ 16))

number_fits : (word : Text) (test : Bool) → is_count word ≡ test → Few (if test then Some (amount word) else None)
number_fits word true is = within 16 word is
number_fits word false is = tt

count_fits : (word : Option Text) → Few (option_and_then count_in word)
count_fits None = tt
count_fits (Some word) = number_fits word (is_count word) refl

said_fits : (said : Said) (awaits : Bool) (agent : Option Text)
    → Spells WorkersFit (if awaits then None else option_map (λ file. run file said.devices said.is_inline said.from (option_and_then count_in said.workers)) agent)
said_fits said true agent = tt
said_fits said false None = tt
said_fits said false (Some agent) = count_fits said.workers

after_fits : (said : Option Said) → Spells WorkersFit (option_and_then run_of said)
after_fits None = tt
after_fits (Some said) = said_fits said (is_some said.awaits) said.agent

run_fits : (words : List Text) → Spells WorkersFit (run_in words)
run_fits words = after_fits (said_by words nothing_said)

-- the other commands say nothing of workers
other_fits : (Is : CommandLine → Type 0)
    → ((agent : Text) (devices : Option Text) (inline : Bool) (from : Option Text) (workers : Option ℕ) → Is (run agent devices inline from workers) → ⊥)
    → (spelled : Option CommandLine) → Spells Is spelled → Spells WorkersFit spelled
other_fits Is none None is = tt
other_fits Is none (Some (run agent devices inline from workers)) is = absurd (none agent devices inline from workers is)
other_fits Is none (Some other) is = tt

team_fits : (spelled : Option CommandLine) → Spells WorkersFit (option_and_then team_of spelled)
team_fits (Some (run agent (Some devices) inline None None)) = tt
team_fits other = tt

planned_fits : (depth fuel : ℕ) (spelled : Option CommandLine)
    → Spells WorkersFit (option_and_then (plan_of depth fuel) spelled)
planned_fits depth fuel (Some (run agent devices inline None None)) = tt
planned_fits depth fuel other = tt

plan_fits : (words : List Text) → Spells WorkersFit (plan_in words)
plan_fits [] = tt
plan_fits (depth ∷ []) = tt
plan_fits (depth ∷ fuel ∷ words) =
    holds_under (Spells WorkersFit) (is_depth depth && is_fuel fuel)
    (option_and_then (plan_of (amount depth) (amount fuel)) (run_in words)) tt
    (λ _. planned_fits (amount depth) (amount fuel) (run_in words))

all_fit : (words : List Text) → Spells WorkersFit (command_in words)
all_fit [] = tt
all_fit (word ∷ words) =
    any_fits WorkersFit word words (run_fits words)
    (other_fits IsCheck (λ _ _ _ _ _ none. none) (check_in words) (checks_in words))
    (other_fits IsReplay (λ _ _ _ _ _ none. none) (replay_in words) (replays_in words))
    (other_fits IsAsk (λ _ _ _ _ _ none. none) (ask_in words) (asks_in words))
    (other_fits IsMigrate (λ _ _ _ _ _ none. none) (migrate_in words) (migrates_in words))
    (other_fits IsDemo (λ _ _ _ _ _ none. none) (demo_in words) (demos_in words))
    (team_fits (run_in words)) (plan_fits words)

pub workers_fit : (words : List Text) (command : CommandLine) → command_in words ≡ Some command → WorkersFit command
workers_fit words command is = subst (Spells WorkersFit) is (all_fit words)

-- ---- the depth and the fuel of a plan

within_bounds : (depth fuel : Text) → (is_depth depth && is_fuel fuel) ≡ true → (spelled : Option CommandLine)
    → Spells PlanFits (option_and_then (plan_of (amount depth) (amount fuel)) spelled)
within_bounds depth fuel fit (Some (run agent devices inline None None)) =
    let steps = within 16 depth (first (is_depth depth) (is_fuel fuel) fit) in
    let work = within 100000 fuel (second (is_depth depth) (is_fuel fuel) fit) in
    (steps.0, steps.1, work.0, work.1)
within_bounds depth fuel fit other = tt

bounds_of : (words : List Text) → Spells PlanFits (plan_in words)
bounds_of [] = tt
bounds_of (depth ∷ []) = tt
bounds_of (depth ∷ fuel ∷ words) =
    holds_under (Spells PlanFits) (is_depth depth && is_fuel fuel)
    (option_and_then (plan_of (amount depth) (amount fuel)) (run_in words)) tt
    (λ fit. within_bounds depth fuel fit (run_in words))

-- the other commands are no plan
no_plan : (Is : CommandLine → Type 0)
    → ((depth fuel : ℕ) (agent : Text) (devices : Option Text) (inline : Bool)
    → Is (plan depth fuel agent devices inline) → ⊥)
    → (spelled : Option CommandLine) → Spells Is spelled → Spells PlanFits spelled
no_plan Is none None is = tt
no_plan Is none (Some (plan depth fuel agent devices inline)) is = absurd (none depth fuel agent devices inline is)
no_plan Is none (Some other) is = tt

no_plan_team : (spelled : Option CommandLine) → Spells PlanFits (option_and_then team_of spelled)
no_plan_team (Some (run agent (Some devices) inline None None)) = tt
no_plan_team other = tt

all_bounded : (words : List Text) → Spells PlanFits (command_in words)
all_bounded [] = tt
all_bounded (word ∷ words) =
    any_fits PlanFits word words (no_plan IsRun (λ _ _ _ _ _ none. none) (run_in words) (runs_in words))
    (no_plan IsCheck (λ _ _ _ _ _ none. none) (check_in words) (checks_in words))
    (no_plan IsReplay (λ _ _ _ _ _ none. none) (replay_in words) (replays_in words))
    (no_plan IsAsk (λ _ _ _ _ _ none. none) (ask_in words) (asks_in words))
    (no_plan IsMigrate (λ _ _ _ _ _ none. none) (migrate_in words) (migrates_in words))
    (no_plan IsDemo (λ _ _ _ _ _ none. none) (demo_in words) (demos_in words))
    (no_plan_team (run_in words)) (bounds_of words)

pub plan_within : (words : List Text) (command : CommandLine) → command_in words ≡ Some command → PlanFits command
plan_within words command is = subst (Spells PlanFits) is (all_bounded words)
