use Rattle.std.proofs.Common.{◌==◌, find, sym, ap, ◌∙◌, arith}
use Rattle.golog_tree.specs.declared.agent.SenseItem.{SenseItem}
use Rattle.golog_tree.specs.Ground.{action_args}
use Rattle.golog_tree.specs.Numbered.{args}
use Rattle.golog_journal.proofs.Filling.{arity-few}
use Rattle.golog_journal.proofs.Sensing.{found-names}
use Rattle.golog_journal.proofs.table.sensed_in.Goals as goal

pub shared_ref_as_front-fluent_in : goal.shared_ref_as_front-fluent_in
shared_ref_as_front-fluent_in c =
    let few = arity-few (action_args c.args.agent.now) c.args.ground.now.item c.requires.serves.countable.action_arities c.requires.ground.declared in
    let is = c.requires.ground.count in
    omega (arith, few, is)

pub fluent_in-requires-clause-fluent : goal.fluent_in-requires-clause-fluent
fluent_in-requires-clause-fluent c =
    (found-names c.args.agent.now c.requires.serves c.args.ground.now.item (args c.args.ground.now) c.in-Some.sense.now c.requires.ground.fits
    (sym (c.in-Some.ensures ∙ ap (find (λ (s : SenseItem). s.action == c.args.ground.now.item)) c.as_slice.ensures))).declared

pub fluent_in-requires-clause-fits : goal.fluent_in-requires-clause-fits
fluent_in-requires-clause-fits c =
    (found-names c.args.agent.now c.requires.serves c.args.ground.now.item (args c.args.ground.now) c.in-Some.sense.now c.requires.ground.fits
    (sym (c.in-Some.ensures ∙ ap (find (λ (s : SenseItem). s.action == c.args.ground.now.item)) c.as_slice.ensures))).within
