-- What `clap` gives for the words of a command, and how it comes to the caller.
use Rattle.std.proofs.Common.{◌≡◌, ◌∙◌, ap, sym, subst, codes, true, true≢false, List, Option, Some, None, Result}
use Rattle.std.specs.Prelude.{⊤, IfOk, IfErr, IsSome, if◌then◌else◌, option_and_then}
use Rattle.std.proofs.lemmas.Result.{IfErr-weaker, IfOk-weaker}
use Rattle.clap.proofs.WalkLemmas.{first_value-rows, one_text-rows}
use Rattle.clap.specs.Words.{App, HasMatchesOf, app_of, first_of, found_of, is_simple, kind_of, matches_of, one_of, rows_of, takes}
use Rattle.clap.specs.Walk.{Row}
use Rattle.clap.specs.declared.error.Error.{Error}
use Rattle.clap.specs.declared.error.ErrorKind.TheVariants.{OutOfMemory}
use Rattle.clap.specs.declared.builder.command.Command.{Command as Parser}
use Rattle.clap.specs.declared.parser.matches.ArgMatches.{ArgMatches}
use Rattle.golog_words.specs.Commands.{CommandLine, Text, run, check, replay, ask, migrate, demo, team, plan, count_in, size_in}
use Rattle.golog_words.specs.Found.{Finds}

-- what the rows of a run hold
abbrev pub run_rows : List Row → Option Text × Option Text × Option Text × Option Text × Option Text
run_rows rows = (
  first_of (codes "agent") rows,
  first_of (codes "devices") rows,
  one_of (codes "inline") rows,
  first_of (codes "from") rows,
  first_of (codes "workers") rows,
)

abbrev pub replay_rows : List Row → Option Text × Option Text
replay_rows rows = (first_of (codes "agent") rows, first_of (codes "journal") rows)

abbrev pub ask_rows : List Row → Option Text × Option Text × Option Text
ask_rows rows = (first_of (codes "agent") rows, first_of (codes "journal") rows, first_of (codes "condition") rows)

-- the rows hold what the command asks for
abbrev pub Holds : List Row → CommandLine → Type 0
Holds rows (run agent devices is_inline from workers) =
    (word : Option Text) × (run_rows rows ≡ (Some agent, devices, Some (if is_inline then codes "true" else codes "false"), from, word))
    × (option_and_then count_in word ≡ workers)
Holds rows (check agent) = first_of (codes "agent") rows ≡ Some agent
Holds rows (replay agent journal) = replay_rows rows ≡ (Some agent, Some journal)
Holds rows (ask agent journal condition) = ask_rows rows ≡ (Some agent, Some journal, Some condition)
Holds rows (migrate agent journal) = replay_rows rows ≡ (Some agent, Some journal)
Holds rows (demo size) = (word : Text) × (first_of (codes "size") rows ≡ Some word) × (size_in word ≡ Some size)
Holds rows (team first second is_inline) =
    run_rows rows ≡ (Some first, Some second, Some (if is_inline then codes "true" else codes "false"), None, None)
Holds rows (plan depth fuel agent devices is_inline) =
    run_rows rows ≡ (Some agent, devices, Some (if is_inline then codes "true" else codes "false"), None, None)

-- `clap` takes the words, and its rows hold what the command asks for
abbrev pub Meets : App → List Text → Option CommandLine → Type 0
Meets app words None = ⊤
Meets app words (Some command) = (Holds (matches_of app words) command) × (takes app words ≡ true)

found_by : (matches : ArgMatches) (command : CommandLine)
    → Holds (rows_of (found_of matches)) command → Finds matches command
found_by m (run agent devices is_inline from workers) h = (
  first_value-rows (found_of m) (codes "agent") ∙ ap (λ p. p.0) h.1,
  first_value-rows (found_of m) (codes "devices") ∙ ap (λ p. p.1) h.1,
  one_text-rows (found_of m) (codes "inline") ∙ ap (λ p. p.2) h.1,
  first_value-rows (found_of m) (codes "from") ∙ ap (λ p. p.3) h.1,
  ap (option_and_then count_in) (first_value-rows (found_of m) (codes "workers") ∙ ap (λ p. p.4) h.1) ∙ h.2,
)
found_by m (check agent) h = first_value-rows (found_of m) (codes "agent") ∙ h
found_by m (replay agent journal) h = (
  first_value-rows (found_of m) (codes "agent") ∙ ap (λ p. p.0) h,
  first_value-rows (found_of m) (codes "journal") ∙ ap (λ p. p.1) h,
)
found_by m (ask agent journal condition) h = (
  first_value-rows (found_of m) (codes "agent") ∙ ap (λ p. p.0) h,
  first_value-rows (found_of m) (codes "journal") ∙ ap (λ p. p.1) h,
  first_value-rows (found_of m) (codes "condition") ∙ ap (λ p. p.2) h,
)
found_by m (migrate agent journal) h = (
  first_value-rows (found_of m) (codes "agent") ∙ ap (λ p. p.0) h,
  first_value-rows (found_of m) (codes "journal") ∙ ap (λ p. p.1) h,
)
found_by m (demo size) h = (h.0, first_value-rows (found_of m) (codes "size") ∙ h.1, h.2)
found_by m (team first second is_inline) h = (
  first_value-rows (found_of m) (codes "agent") ∙ ap (λ p. p.0) h,
  first_value-rows (found_of m) (codes "devices") ∙ ap (λ p. p.1) h,
  one_text-rows (found_of m) (codes "inline") ∙ ap (λ p. p.2) h,
)
found_by m (plan depth fuel agent devices is_inline) h = (
  first_value-rows (found_of m) (codes "agent") ∙ ap (λ p. p.0) h,
  first_value-rows (found_of m) (codes "devices") ∙ ap (λ p. p.1) h,
  one_text-rows (found_of m) (codes "inline") ∙ ap (λ p. p.2) h,
)

module _ (app : App) (words : List Text) (spelled : Option CommandLine) (meets : Meets app words spelled) (parser : Parser)
    (same : app_of parser ≡ app) (simple : is_simple app ≡ true) (result : Result ArgMatches Error) where
  pub found : IfOk result (HasMatchesOf (app_of parser) words)
      → IfOk result (λ matches. (command : CommandLine) → spelled ≡ Some command → Finds matches command)
  found = IfOk-weaker result _ _ (λ matches has command named.
      let rows : rows_of (found_of matches) ≡ matches_of app words
      = (has (ap is_simple same ∙ simple)).0 ∙ ap (λ (a : App). matches_of a words) same in
      let met : Meets app words (Some command) = subst (Meets app words) named meets in
      found_by matches command (subst (λ (r : List Row). Holds r command) (sym rows) met.0))

  pub fails : IfErr result (λ error. takes (app_of parser) words ≡ true → kind_of error ≡ OutOfMemory)
      → IfErr result (λ error. IsSome spelled → kind_of error ≡ OutOfMemory)
  fails = IfErr-weaker result _ _ (λ error fault some.
      fault (ap (λ (a : App). takes a words) same ∙ taken spelled meets some))
    where
      taken : (named : Option CommandLine) → Meets app words named → IsSome named → takes app words ≡ true
      taken None met some = absurd (true≢false (sym some))
      taken (Some command) met some = met.1
