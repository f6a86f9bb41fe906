-- What `clap` finds in the words of a command.
use Rattle.std.specs.Prelude.{◌≡◌, if◌then◌else◌, Option, Some, codes, option_and_then}
use Rattle.clap.specs.Words.{first_value, found_of, one_text}
use Rattle.clap.specs.declared.parser.matches.ArgMatches.{ArgMatches}
use Rattle.golog_words.specs.Commands.{CommandLine, run, check, replay, ask, migrate, demo, team, plan, count_in, size_in, Text}

-- the text found under this name
abbrev pub text_found : ArgMatches → Text → Option Text
text_found matches name = first_value (found_of matches) name

-- The matches hold what the command asks for; the numbers of a plan stand before what they are made of.
abbrev pub Finds : ArgMatches → CommandLine → Type 0
Finds matches (run agent devices is_inline from workers) =
    (text_found matches (codes "agent") ≡ Some agent)
    × (text_found matches (codes "devices") ≡ devices)
    × (one_text (found_of matches) (codes "inline") ≡ Some (if is_inline then codes "true" else codes "false"))
    × (text_found matches (codes "from") ≡ from)
    × (option_and_then count_in (text_found matches (codes "workers")) ≡ workers)
Finds matches (check agent) = text_found matches (codes "agent") ≡ Some agent
Finds matches (replay agent journal) =
    (text_found matches (codes "agent") ≡ Some agent) × (text_found matches (codes "journal") ≡ Some journal)
Finds matches (ask agent journal condition) =
    (text_found matches (codes "agent") ≡ Some agent)
    × (text_found matches (codes "journal") ≡ Some journal)
    × (text_found matches (codes "condition") ≡ Some condition)
Finds matches (migrate agent journal) =
    (text_found matches (codes "agent") ≡ Some agent) × (text_found matches (codes "journal") ≡ Some journal)
Finds matches (demo size) = (word : Text) × (text_found matches (codes "size") ≡ Some word) × (size_in word ≡ Some size)
Finds matches (team first second is_inline) =
    (text_found matches (codes "agent") ≡ Some first)
    × (text_found matches (codes "devices") ≡ Some second)
    × (one_text (found_of matches) (codes "inline") ≡ Some (if is_inline then codes "true" else codes "false"))
Finds matches (plan depth fuel agent devices is_inline) =
    (text_found matches (codes "agent") ≡ Some agent)
    × (text_found matches (codes "devices") ≡ devices)
    × (one_text (found_of matches) (codes "inline") ≡ Some (if is_inline then codes "true" else codes "false"))
