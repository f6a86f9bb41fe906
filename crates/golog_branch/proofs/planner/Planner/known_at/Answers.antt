use Rattle.std.proofs.Common.{◌≡◌, IfOk, sym, subst}
use Rattle.golog_semantics.specs.InSorts.{AreInSorts}
use Rattle.golog_semantics.specs.Truth.{Values}
use Rattle.golog_branch.proofs.planner.Planner.known_at.Goals as goal

pub of-requires : goal.of-requires
of-requires c = subst (AreInSorts c.args.self.now.agent.now) (sym c.as_slice.ensures) c.requires.searched.sorts

pub returns : goal.returns
returns c = subst (λ (vs : Values). IfOk c.of.result (λ (state : Values). state ≡ vs)) c.as_slice.ensures c.of.ensures.values
