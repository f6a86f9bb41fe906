use Rattle.std.proofs.Common.{[], map}
use Rattle.golog_check.specs.Checked.{IsChecked}
use Rattle.golog_check.specs.Effects.{cause_in, senses_in}
use Rattle.golog_check.proofs.PartLaws.{both-so}
use Rattle.golog_check.proofs.checking.effects_checked.Goals as goal

pub returns : goal.returns
returns c =
    let names = c.args.names.now in
    let theory = c.args.theory.now in
    both-so c.cause_items_in-causes.result c.sense_items_in-senses.result c.both.result
    (λ checked. IsChecked checked (map (cause_in names) theory.causes)) (λ checked. IsChecked checked (senses_in names [] theory.senses))
    c.both.ensures.parts (rw c.as_slice.ensures at c.cause_items_in-causes.ensures) (rw c.as_slice-2.ensures at c.sense_items_in-senses.ensures)
