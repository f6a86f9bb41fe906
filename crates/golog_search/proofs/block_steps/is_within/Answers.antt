use Rattle.std.proofs.Common.{sym, ◌∙◌, arith}
use Rattle.std.specs.List.{list_all}
use Rattle.std.proofs.lemmas.List.{at_drop_all}
use Rattle.golog_semantics.specs.Search.{is_followed}
use Rattle.golog_search.proofs.CertainNear.{followed-on, not-followed, short-enough, too-long}
use Rattle.golog_search.proofs.block_steps.is_within.Goals as goal

pub returns-then-run-depth : goal.returns-then-run-depth
returns-then-run-depth c = too-long c.args.depth c.args.run.now (omega arith)

pub returns-then-nest-gt-NEST_LIMIT : goal.returns-then-nest-gt-NEST_LIMIT
returns-then-nest-gt-NEST_LIMIT c =
    let run = c.args.run.now in
    sym (c.loop-way.invariant ∙ not-followed run c.loop-way.way-index c.way-item.result c.nest.result c.nest.ensures (omega arith) c.way-item.is (omega arith))
    ∙ short-enough c.args.depth run (omega arith)

pub loop-way-preserved : goal.loop-way-preserved
loop-way-preserved c =
    c.loop-way.invariant
    ∙ followed-on c.args.run.now c.loop-way.way-index c.way-item.result c.nest.result c.nest.ensures (omega arith) c.way-item.is (omega arith)

pub returns : goal.returns
returns c =
    let run = c.args.run.now in
    sym (c.loop-way.invariant ∙ at_drop_all (list_all is_followed) run c.loop-way.way-index (omega arith)) ∙ short-enough c.args.depth run (omega arith)
