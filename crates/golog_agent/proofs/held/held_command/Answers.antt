use Rattle.std.proofs.Common.{Some, length, ap, ◌∙◌}
use Rattle.std.specs.Prelude.{option_map}
use Rattle.golog_agent.specs.Keeping.{held_at}
use Rattle.golog_agent.proofs.held.held_command.Goals as goal

pub returns-in-Some : goal.returns-in-Some
returns-in-Some c =
    ap (λ n. Some (held_at n c.in-Some.device)) c.len-place.ensures.number
    ∙ ap (option_map (held_at (length c.args.counts.now.entries))) c.in-Some.ensures

pub returns-in-None : goal.returns-in-None
returns-in-None c = ap (option_map (held_at (length c.args.counts.now.entries))) c.in-None.ensures
