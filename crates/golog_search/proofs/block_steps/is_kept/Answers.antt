use Rattle.std.proofs.Common.{◌≡◌, false, sym, ◌∙◌, subst, arith}
use Rattle.std.proofs.lemmas.List.Elements.{All-get_or}
use Rattle.golog_semantics.specs.Ways.{is_empty}
use Rattle.golog_search.specs.declared.told.Told.{Told}
use Rattle.golog_search.specs.Told.{IsTold}
use Rattle.golog_search.proofs.ToldRuns.{empty-by, told-kept}
use Rattle.golog_search.proofs.block_steps.is_kept.Goals as goal

pub returns-then-is_of : goal.returns-then-is_of
returns-then-is_of c =
    let agent = c.args.agent.now in
    let values = c.args.state.now in
    let one = c.one-item.result in
    let rest = c.args.rest.now in
    let tells : IsTold agent values one =
    subst (IsTold agent values) (sym c.one-item.is) (All-get_or (IsTold agent values) c.args.told.now c.loop-one.one-index one (omega arith) c.requires.told) in
    let same = c.is_of.ensures.0 c.if-is_of.true in
    let some : is_empty rest ≡ false = sym (empty-by rest) ∙ sym c.is_empty.ensures ∙ c.if-is_empty.false in
    told-kept agent values c.args.body.now one.body rest one.rest one.through tells same.0 same.1 some
