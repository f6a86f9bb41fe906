use Rattle.std.proofs.Common.{◌≡◌, [], List, subst}
use Rattle.std.specs.Prelude.{◌↔◌, IsTrue}
use Rattle.golog_find.specs.declared.numbered.Numbered.{Numbered}
use Rattle.golog_find.proofs.RowStates.{no-rows}
use Rattle.golog_find.proofs.states.States.is_empty.Goals as goal

pub returns : goal.returns
returns c =
    subst (λ (states : List Numbered). IsTrue c.is_empty.result ↔ (states ≡ [])) c.self.view_is
    (no-rows c.self.inside.values c.self.inside.rows c.is_empty.result c.is_empty.ensures)
