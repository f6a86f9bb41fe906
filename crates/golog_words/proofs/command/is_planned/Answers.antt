use Rattle.std.proofs.Common.{◌≡◌, ◌∙◌, ap, sym, Some, Option, map, string_bytes, is_some, option_and_then, option_map}
use Rattle.golog_words.specs.Said.{said_of}
use Rattle.golog_words.specs.Commands.{Said, nothing_said, plan_of, run_of, said_by}
use Rattle.golog_words.proofs.command.is_planned.Goals as goal

pub returns-in-Some : goal.returns-in-Some
returns-in-Some c depth fuel =
    let said : Some (said_of c.in-Some.said) ≡ said_by (map string_bytes c.args.words.now) nothing_said
    = ap (option_map said_of) (sym c.in-Some.is) ∙ c.said_by.ensures in
    c.names_agent.ensures depth fuel
    ∙ ap (λ (s : Option Said). is_some (option_and_then (plan_of depth fuel) (option_and_then run_of s))) said
