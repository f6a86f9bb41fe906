use Rattle.std.proofs.Common.{◌≡◌, true, take}
use Rattle.std.specs.List.{list_all}
use Rattle.golog_flat.specs.Effects.{is_plain_for}
use Rattle.golog_flat.proofs.plain.are_plain.Given as goal

abbrev pub invariant-loop-cause : goal.invariant-loop-cause
invariant-loop-cause l = list_all (is_plain_for l.action) (take l.cause-index l.causes) ≡ true
