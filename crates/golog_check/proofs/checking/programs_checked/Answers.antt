use Rattle.std.proofs.Common.{[], ◌∷◌, map}
use Rattle.golog_check.specs.Check.{main_in}
use Rattle.golog_check.specs.Checked.{IsChecked}
use Rattle.golog_check.specs.Procs.{proc_in}
use Rattle.golog_check.proofs.PartLaws.{both-so}
use Rattle.golog_check.proofs.checking.programs_checked.Goals as goal

pub returns : goal.returns
returns c =
    let names = c.args.names.now in
    let program = c.args.program.now in
    both-so c.proc_items_in-procs.result c.main_checked-main.result c.both.result
    (λ checked. IsChecked checked (map (proc_in names) program.procs)) (λ checked. IsChecked checked (main_in names program.main ∷ []))
    c.both.ensures.parts (rw c.as_slice.ensures at c.proc_items_in-procs.ensures) c.main_checked-main.ensures
