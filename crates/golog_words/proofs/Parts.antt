-- The parts of a command that words spell, in what `clap` found.
use Rattle.std.proofs.Common.{◌≡◌, ◌∙◌, ap, refl, sym, codes, ℕ, Bool, true, false, true≢false, List, [], ◌∷◌, Option, Some, None, option_map, Bor}
use Rattle.std.specs.Prelude.{⊤, ◌&&◌, if◌then◌else◌, IsSome, is_some, option_and_then}
use Rattle.clap.specs.Words.{found_of, one_text}
use Rattle.clap.specs.declared.parser.matches.ArgMatches.{ArgMatches}
use Rattle.golog_base.specs.Numbers.{amount}
use Rattle.golog_words.specs.Commands.{CommandLine, Text, Said, run, check, replay, ask, migrate, demo, team, plan, is_file_word, is_size, nothing_said, run_in, run_of, said_by, check_in, replay_in, ask_in, migrate_in, demo_of, demo_in, count_in, size_in, team_of, team_in, plan_of}
use Rattle.golog_words.specs.Found.{Finds, text_found}
use Rattle.golog_words.proofs.Conditions.{holds_under}

-- ---- a text that is found

pub is_there : (got : Option (Bor Text)) (text : Text) → option_map (λ s. s.now) got ≡ Some text → IsSome got
is_there None text e = absurd (cc)
is_there (Some s) text e = refl

pub is_text : (got : Option (Bor Text)) (text : Text) (s : Bor Text) → option_map (λ s. s.now) got ≡ Some text
    → got ≡ Some s → s.now ≡ text
is_text got text s e is =
    let same : Some s.now ≡ Some text = ap (option_map (λ (s : Bor Text). s.now)) (sym is) ∙ e in cc

pub flag_is : (text : Option Text) (flag : Bool) (is_set : Bool)
    → text ≡ Some (if is_set then codes "true" else codes "false")
    → (text ≡ Some (codes "true") → flag ≡ true) → (text ≡ Some (codes "false") → flag ≡ false) → flag ≡ is_set
flag_is text flag true is set unset = set is
flag_is text flag false is set unset = unset is

-- ---- each list of words spells a command of one kind, or none

abbrev pub Spells : (CommandLine → Type 0) → Option CommandLine → Type 0
Spells Is None = ⊤
Spells Is (Some command) = Is command

abbrev pub IsRun : CommandLine → Type 0
IsRun (run agent devices inline from workers) = ⊤
IsRun other = ⊥

abbrev pub IsCheck : CommandLine → Type 0
IsCheck (check agent) = ⊤
IsCheck other = ⊥

abbrev pub IsReplay : CommandLine → Type 0
IsReplay (replay agent journal) = ⊤
IsReplay other = ⊥

abbrev pub IsAsk : CommandLine → Type 0
IsAsk (ask agent journal condition) = ⊤
IsAsk other = ⊥

abbrev pub IsMigrate : CommandLine → Type 0
IsMigrate (migrate agent journal) = ⊤
IsMigrate other = ⊥

abbrev pub IsDemo : CommandLine → Type 0
IsDemo (demo size) = ⊤
IsDemo other = ⊥

runs_of : (said : Said) (awaits : Bool) (agent : Option Text)
    → Spells IsRun (if awaits then None else option_map (λ file. run file said.devices said.is_inline said.from (option_and_then count_in said.workers)) agent)
runs_of said true agent = tt
runs_of said false None = tt
runs_of said false (Some agent) = tt

runs_after : (said : Option Said) → Spells IsRun (option_and_then run_of said)
runs_after None = tt
runs_after (Some said) = runs_of said (is_some said.awaits) said.agent

pub runs_in : (words : List Text) → Spells IsRun (run_in words)
runs_in words = runs_after (said_by words nothing_said)

pub checks_in : (words : List Text) → Spells IsCheck (check_in words)
checks_in [] = tt
checks_in (agent ∷ []) = holds_under (Spells IsCheck) (is_file_word agent) (Some (check agent)) tt (λ _. tt)
checks_in (agent ∷ other ∷ more) = tt

pub replays_in : (words : List Text) → Spells IsReplay (replay_in words)
replays_in [] = tt
replays_in (agent ∷ []) = tt
replays_in (agent ∷ journal ∷ []) =
    holds_under (Spells IsReplay) (is_file_word agent && is_file_word journal) (Some (replay agent journal)) tt (λ _. tt)
replays_in (agent ∷ journal ∷ other ∷ more) = tt

pub asks_in : (words : List Text) → Spells IsAsk (ask_in words)
asks_in [] = tt
asks_in (agent ∷ []) = tt
asks_in (agent ∷ journal ∷ []) = tt
asks_in (agent ∷ journal ∷ condition ∷ []) =
    holds_under (Spells IsAsk) (is_file_word agent && is_file_word journal && is_file_word condition)
    (Some (ask agent journal condition)) tt (λ _. tt)
asks_in (agent ∷ journal ∷ condition ∷ other ∷ more) = tt

pub migrates_in : (words : List Text) → Spells IsMigrate (migrate_in words)
migrates_in [] = tt
migrates_in (agent ∷ []) = tt
migrates_in (agent ∷ journal ∷ []) =
    holds_under (Spells IsMigrate) (is_file_word agent && is_file_word journal) (Some (migrate agent journal)) tt (λ _. tt)
migrates_in (agent ∷ journal ∷ other ∷ more) = tt

pub demos_in : (words : List Text) → Spells IsDemo (demo_in words)
demos_in [] = tt
demos_in (word ∷ []) =
    holds_under (λ (size : Option ℕ). Spells IsDemo (demo_of size)) (is_size word) (Some (amount word)) tt (λ _. tt)
demos_in (word ∷ other ∷ more) = tt

-- ---- the parts

pub record RunParts (found : ArgMatches) (spelled : Option CommandLine) : Type 0 where
  pub agent : Text
  pub devices : Option Text
  pub is_inline : Bool
  pub from : Option Text
  pub workers : Option ℕ
  pub is : spelled ≡ Some (run agent devices is_inline from workers)
  pub agent_is : text_found found (codes "agent") ≡ Some agent
  pub devices_is : text_found found (codes "devices") ≡ devices
  pub inline_is : one_text (found_of found) (codes "inline") ≡ Some (if is_inline then codes "true" else codes "false")
  pub from_is : text_found found (codes "from") ≡ from
  pub workers_is : option_and_then count_in (text_found found (codes "workers")) ≡ workers

pub record CheckParts (found : ArgMatches) (spelled : Option CommandLine) : Type 0 where
  pub agent : Text
  pub is : spelled ≡ Some (check agent)
  pub agent_is : text_found found (codes "agent") ≡ Some agent

pub record ReplayParts (found : ArgMatches) (spelled : Option CommandLine) : Type 0 where
  pub agent : Text
  pub journal : Text
  pub is : spelled ≡ Some (replay agent journal)
  pub agent_is : text_found found (codes "agent") ≡ Some agent
  pub journal_is : text_found found (codes "journal") ≡ Some journal

pub record AskParts (found : ArgMatches) (spelled : Option CommandLine) : Type 0 where
  pub agent : Text
  pub journal : Text
  pub condition : Text
  pub is : spelled ≡ Some (ask agent journal condition)
  pub agent_is : text_found found (codes "agent") ≡ Some agent
  pub journal_is : text_found found (codes "journal") ≡ Some journal
  pub condition_is : text_found found (codes "condition") ≡ Some condition

pub record MigrateParts (found : ArgMatches) (spelled : Option CommandLine) : Type 0 where
  pub agent : Text
  pub journal : Text
  pub is : spelled ≡ Some (migrate agent journal)
  pub agent_is : text_found found (codes "agent") ≡ Some agent
  pub journal_is : text_found found (codes "journal") ≡ Some journal

pub record DemoParts (found : ArgMatches) (spelled : Option CommandLine) : Type 0 where
  pub word : Text
  pub size : ℕ
  pub is : spelled ≡ Some (demo size)
  pub word_is : text_found found (codes "size") ≡ Some word
  pub size_is : size_in word ≡ Some size

pub record TeamParts (found : ArgMatches) (spelled : Option CommandLine) : Type 0 where
  pub first : Text
  pub second : Text
  pub is_inline : Bool
  pub is : spelled ≡ Some (team first second is_inline)
  pub first_is : text_found found (codes "agent") ≡ Some first
  pub second_is : text_found found (codes "devices") ≡ Some second
  pub inline_is : one_text (found_of found) (codes "inline") ≡ Some (if is_inline then codes "true" else codes "false")

pub record PlanParts (depth fuel : ℕ) (found : ArgMatches) (spelled : Option CommandLine) : Type 0 where
  pub agent : Text
  pub devices : Option Text
  pub is_inline : Bool
  pub is : spelled ≡ Some (plan depth fuel agent devices is_inline)
  pub agent_is : text_found found (codes "agent") ≡ Some agent
  pub devices_is : text_found found (codes "devices") ≡ devices
  pub inline_is : one_text (found_of found) (codes "inline") ≡ Some (if is_inline then codes "true" else codes "false")

-- what is spelled was found
abbrev FindsIt : ArgMatches → Option CommandLine → Type 0
FindsIt found spelled = (command : CommandLine) → spelled ≡ Some command → Finds found command

module _ (found : ArgMatches) where
  -- what is made of the command that is spelled, which was found
  made : (Is : CommandLine → Type 0) (Made : Type 0) (spelled : Option CommandLine) → Spells Is spelled → IsSome spelled → FindsIt found spelled
      → ((command : CommandLine) → spelled ≡ Some command → Is command → Finds found command → Made) → Made
  made Is Made None kind some finds make = absurd (true≢false (sym some))
  made Is Made (Some command) kind some finds make = make command refl kind (finds command refl)

  run_parts_of : (spelled : Option CommandLine) (command : CommandLine) → spelled ≡ Some command → IsRun command → Finds found command → RunParts found spelled
  run_parts_of spelled (run a d i f w) is kind h = record {
    agent = a;
    devices = d;
    is_inline = i;
    from = f;
    workers = w;
    is = is;
    agent_is = h.0;
    devices_is = h.1;
    inline_is = h.2;
    from_is = h.3;
    workers_is = h.4;
  }
  run_parts_of spelled other is kind h = absurd kind

  check_parts_of : (spelled : Option CommandLine) (command : CommandLine) → spelled ≡ Some command → IsCheck command → Finds found command → CheckParts found spelled
  check_parts_of spelled (check a) is kind h = record { agent = a; is = is; agent_is = h }
  check_parts_of spelled other is kind h = absurd kind

  replay_parts_of : (spelled : Option CommandLine) (command : CommandLine) → spelled ≡ Some command → IsReplay command → Finds found command → ReplayParts found spelled
  replay_parts_of spelled (replay a j) is kind h = record { agent = a; journal = j; is = is; agent_is = h.0; journal_is = h.1 }
  replay_parts_of spelled other is kind h = absurd kind

  ask_parts_of : (spelled : Option CommandLine) (command : CommandLine) → spelled ≡ Some command → IsAsk command → Finds found command → AskParts found spelled
  ask_parts_of spelled (ask a j q) is kind h =
      record { agent = a; journal = j; condition = q; is = is; agent_is = h.0; journal_is = h.1; condition_is = h.2 }
  ask_parts_of spelled other is kind h = absurd kind

  migrate_parts_of : (spelled : Option CommandLine) (command : CommandLine) → spelled ≡ Some command → IsMigrate command → Finds found command → MigrateParts found spelled
  migrate_parts_of spelled (migrate a j) is kind h = record { agent = a; journal = j; is = is; agent_is = h.0; journal_is = h.1 }
  migrate_parts_of spelled other is kind h = absurd kind

  demo_parts_of : (spelled : Option CommandLine) (command : CommandLine) → spelled ≡ Some command → IsDemo command → Finds found command → DemoParts found spelled
  demo_parts_of spelled (demo n) is kind h = record { word = h.0; size = n; is = is; word_is = h.1; size_is = h.2 }
  demo_parts_of spelled other is kind h = absurd kind

  pub run_parts : (words : List Text) → IsSome (run_in words) → FindsIt found (run_in words) → RunParts found (run_in words)
  run_parts words some finds =
      made IsRun (RunParts found (run_in words)) (run_in words) (runs_in words) some finds (run_parts_of (run_in words))

  pub check_parts : (words : List Text) → IsSome (check_in words) → FindsIt found (check_in words) → CheckParts found (check_in words)
  check_parts words some finds =
      made IsCheck (CheckParts found (check_in words)) (check_in words) (checks_in words) some finds (check_parts_of (check_in words))

  pub replay_parts : (words : List Text) → IsSome (replay_in words) → FindsIt found (replay_in words) → ReplayParts found (replay_in words)
  replay_parts words some finds =
      made IsReplay (ReplayParts found (replay_in words)) (replay_in words) (replays_in words) some finds (replay_parts_of (replay_in words))

  pub ask_parts : (words : List Text) → IsSome (ask_in words) → FindsIt found (ask_in words) → AskParts found (ask_in words)
  ask_parts words some finds =
      made IsAsk (AskParts found (ask_in words)) (ask_in words) (asks_in words) some finds (ask_parts_of (ask_in words))

  pub migrate_parts : (words : List Text) → IsSome (migrate_in words) → FindsIt found (migrate_in words) → MigrateParts found (migrate_in words)
  migrate_parts words some finds =
      made IsMigrate (MigrateParts found (migrate_in words)) (migrate_in words) (migrates_in words) some finds (migrate_parts_of (migrate_in words))

  pub demo_parts : (words : List Text) → IsSome (demo_in words) → FindsIt found (demo_in words) → DemoParts found (demo_in words)
  demo_parts words some finds =
      made IsDemo (DemoParts found (demo_in words)) (demo_in words) (demos_in words) some finds (demo_parts_of (demo_in words))

  -- a team's words are those of a run
  team_parts_of : (spelled : Option CommandLine) → IsSome (option_and_then team_of spelled) → FindsIt found spelled
      → TeamParts found (option_and_then team_of spelled)
  team_parts_of (Some (run a (Some b) i None None)) some finds =
      let h = finds (run a (Some b) i None None) refl in
      record { first = a; second = b; is_inline = i; is = refl; first_is = h.0; second_is = h.1; inline_is = h.2 }
  team_parts_of other some finds = absurd (true≢false (sym some))

  pub team_parts : (words : List Text) → IsSome (team_in words) → FindsIt found (run_in words) → TeamParts found (team_in words)
  team_parts words some finds = team_parts_of (run_in words) some finds

  -- a plan's words behind its numbers are those of a run
  pub plan_parts : (depth fuel : ℕ) (spelled : Option CommandLine)
      → IsSome (option_and_then (plan_of depth fuel) spelled) → FindsIt found spelled
      → PlanParts depth fuel found (option_and_then (plan_of depth fuel) spelled)
  plan_parts depth fuel (Some (run a d i None None)) some finds =
      let h = finds (run a d i None None) refl in
      record { agent = a; devices = d; is_inline = i; is = refl; agent_is = h.0; devices_is = h.1; inline_is = h.2 }
  plan_parts depth fuel other some finds = absurd (true≢false (sym some))
