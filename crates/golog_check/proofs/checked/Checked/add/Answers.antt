use Rattle.golog_check.proofs.CheckedLaws.{adds-value, adds-refusal}
use Rattle.golog_check.proofs.checked.Checked.add.Goals as goal

pub returns-in_ok-push-in-Ok : goal.returns-in_ok-push-in-Ok
returns-in_ok-push-in-Ok g c =
    adds-value c.args.answer c.in-Ok.item c.args.self.now _ c.in-Ok.is c.in_ok-push-in-Ok.ensures.ok

pub returns-in_ok-self-in-Err : goal.returns-in_ok-self-in-Err
returns-in_ok-self-in-Err g c =
    adds-refusal c.args.answer c.in-Err.fault c.args.self.now _ c.in-Err.is c.in_ok-self-in-Err.ensures
