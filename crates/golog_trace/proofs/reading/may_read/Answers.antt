use Rattle.std.proofs.Common.{false, take, sym, ap, ◌∙◌, subst, ◌≤◌}
use Rattle.std.specs.Option.{option_map_or}
use Rattle.golog_trace.specs.Reading.{reads}
use Rattle.golog_trace.proofs.Read.{few-at}
use Rattle.golog_trace.proofs.reading.may_read.Goals as goal

pub shared_ref_as_front-given : goal.shared_ref_as_front-given
shared_ref_as_front-given c =
    subst (λ n. n ≤ 3) (sym c.from.ensures) (few-at c.args.agent.now c.args.fluent c.fluent_of-ground.result c.requires.countable c.fluent_of-ground.ensures)

pub returns : goal.returns
returns c =
    let ground = c.fluent_of-ground.result in
    c.reads.ensures
    ∙ ap (λ n. reads ground.item (take n ground.args) c.args.cond.now) c.from.ensures
    ∙ sym (ap (λ o. option_map_or (λ at. reads at.0 at.1 c.args.cond.now) o false) c.fluent_of-ground.ensures.named)
