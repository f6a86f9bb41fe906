use Rattle.std.proofs.Common.{◌≡◌, ◌++◌, take}
use Rattle.std.specs.List.{flat_map}
use Rattle.golog_print.proofs.Spaces.{spaced_cond}
use Rattle.golog_print.proofs.cond_text.Writer.+add_cond.Given as goal

abbrev pub invariant-add_conds-loop-cond : goal.invariant-add_conds-loop-cond
invariant-add_conds-loop-cond l = l.text ≡ l.initial.text ++ flat_map (spaced_cond l.self.agent.now l.self.stem.now) (take l.cond-index l.conds)
