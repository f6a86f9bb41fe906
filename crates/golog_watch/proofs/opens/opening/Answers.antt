use Rattle.std.proofs.Common.{◌≡◌, false, ap, ◌∙◌, subst}
use Rattle.std.specs.Prelude.{List, None, Some, if◌then◌else◌}
use Rattle.golog_tree.specs.declared.cond.Cond.{Cond}
use Rattle.golog_tree.specs.declared.cond.Cond.TheVariants as cond
use Rattle.golog_semantics.specs.Ways.{is_empty}
use Rattle.golog_watch.specs.Watched.{conds_for}
use Rattle.golog_watch.proofs.Opening.{front-free, opens-found}
use Rattle.golog_watch.proofs.opens.opening.Goals as goal

pub fronts-requires-clause-program : goal.fronts-requires-clause-program
fronts-requires-clause-program c = record { in_block = false; fits = c.requires.program }

pub fronts-requires-clause-free : goal.fronts-requires-clause-free
fronts-requires-clause-free c = front-free c.args.agent.now c.requires.formed c.args.prog.now c.requires.program c.requires.blockless

pub returns : goal.returns
returns c =
    let fronts = c.in_ok-fronts.ensures in
    opens-found c.args.agent.now c.args.way.now c.args.prog.now c.requires.program c.requires.blockless c.in_ok-fronts.fronts fronts.ways fronts.closed fronts.lefts c.one_of.result
    (subst (λ (conds : List Cond). c.one_of.result ≡ (if is_empty conds then None else Some (cond.Or conds)))
    (c.in_ok-conds.ensures ∙ ap (conds_for c.args.way.now) c.as_slice.ensures) c.one_of.ensures)
