-- Whether a program may end, by one level of it.
use Rattle.std.specs.Prelude.{◌≡◌, Bool}
use Rattle.std.proofs.Common.{ap, ◌∙◌}
use Rattle.golog_tree.specs.declared.agent.Agent.{Agent}
use Rattle.golog_tree.specs.declared.prog.Prog.{Prog}
use Rattle.golog_tree.specs.declared.prog.Prog.TheViews.{out-Prog}
use Rattle.golog_tree.specs.Tidy.{Layer}
use Rattle.golog_semantics.specs.declared.Mode.{Mode}
use Rattle.golog_semantics.specs.Truth.{Values}
use Rattle.golog_semantics.specs.Ways.{final_step}
use Rattle.golog_semantics.specs.Search.{final}
use Rattle.golog_semantics.specs.Guarded.{IsGuarded}
use Rattle.golog_semantics.proofs.Unfolded.{final-out}

module _ (agent : Agent) (values : Values) where
  pub final-by : IsGuarded agent → (m : Mode) (p : Prog) (l : Layer) → out-Prog p ≡ l → final agent values m p ≡ final_step agent values (final agent values) m l
  final-by g m p l e = final-out agent values g m p ∙ ap (final_step agent values (final agent values) m) e
