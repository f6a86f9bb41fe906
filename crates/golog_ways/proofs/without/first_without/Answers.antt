use Rattle.std.proofs.Common.{◌≡◌, Option, ap, ◌∙◌, subst}
use Rattle.std.specs.Prelude.{Result, IfOk}
use Rattle.std.specs.Option.{option_map}
use Rattle.golog_semantics.specs.declared.search.Move.{Move}
use Rattle.golog_semantics.specs.Search.{no_blocks}
use Rattle.golog_semantics.specs.Ways.{way_of}
use Rattle.golog_ways.specs.declared.answering.Stop.{Stop}
use Rattle.golog_ways.specs.FirstMove.{IsFirst, first_move}
use Rattle.golog_ways.proofs.PlainSteps.{first-without}
use Rattle.golog_ways.proofs.without.first_without.Goals as goal

pub returns-in-Ok : goal.returns-in-Ok
returns-in-Ok c =
    let agent = c.args.agent.now in
    let values = c.args.values.now in
    let p = c.args.prog.now in
    let found : c.in-Ok.found ≡ first_move agent no_blocks values p = subst (λ (r : Result (Option Move) Stop). IfOk r (IsFirst agent no_blocks values p)) c.in-Ok.is c.first_move.ensures.first in
    c.way.ensures ∙ ap (option_map way_of) found ∙ first-without agent values p
