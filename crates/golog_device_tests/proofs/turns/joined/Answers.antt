use Rattle.std.proofs.Common.{ℕ, List, ◌≡◌, true, sym, subst}
use Rattle.golog_turn.specs.Parties.{contains}
use Rattle.golog_turn.proofs.Parties.{contains_first}
use Rattle.golog_device_tests.proofs.turns.joined.Goals as goal

pub invariant_of-result-clause-holds : goal.invariant_of-result-clause-holds
invariant_of-result-clause-holds c = subst (λ (ps : List ℕ). contains ps c.in-Some.field-0.party ≡ true) (sym c.join.ensures.joined.0) (contains_first _ _ c.in-Some.field-0.party c.in-Some.field-0.holds)
