-- What the answers on steps and ends say of each world.
use Rattle.std.proofs.Common.{◌≡◌, inl, Bool, true, false, List, [], ◌∷◌, Option, Some, None, refl, sym, ◌∙◌}
use Rattle.std.specs.Prelude.{Contains, IfOk, IfSome, IsTrue, Result, Ok, Err, not}
use Rattle.golog_tree.specs.declared.agent.Agent.{Agent}
use Rattle.golog_tree.specs.declared.prog.Prog.{Prog}
use Rattle.golog_tree.specs.declared.prog.Way.{Way}
use Rattle.golog_semantics.specs.declared.Mode.{Mode}
use Rattle.golog_semantics.specs.declared.Mode.TheVariants.{Must, May, Near}
use Rattle.golog_semantics.specs.Truth.{Values}
use Rattle.golog_semantics.specs.Ways.{is_empty}
use Rattle.golog_semantics.specs.Blocks.{ways}
use Rattle.golog_semantics.specs.Search.{final}
use Rattle.golog_semantics.specs.Plain.{plain}
use Rattle.golog_semantics.specs.ProgFits.{fits}
use Rattle.golog_semantics.specs.WellFormed.{WellFormed}
use Rattle.golog_semantics.proofs.Among.{among-contains, contains-among}
use Rattle.golog_certain.proofs.StepsSo.{certain_is_trans, trans_is_possible}
use Rattle.golog_ways.specs.First.{head_of}
use Rattle.golog_ways.specs.InWorlds.{EndIsSo, StepIsSo, WayIsCertain}

some_way : (us : List Way) → true ≡ not (is_empty us) → (u : Way) × Contains us u
some_way [] e = absurd (cc)
some_way (u ∷ us) e = (u, contains-among (u ∷ us) u (inl refl))

no_way : (us : List Way) (u : Way) → Contains us u → false ≡ not (is_empty us) → ⊥
no_way [] u c e = among-contains [] u c
no_way (v ∷ us) u c e = cc

head_way : (us : List Way) (u : Way) → Some u ≡ head_of us → Contains us u
head_way [] u e = absurd (cc)
head_way (v ∷ us) u e = contains-among (v ∷ us) u (inl (let k : v ≡ u = cc in k))

module _ (agent : Agent) (w : WellFormed agent) (values : Values) (p : Prog) (h : IsTrue (fits agent p)) where
  end_is_so : (m : Mode) (b : Bool) → b ≡ final agent values m p → EndIsSo agent values p m b
  end_is_so Must true e = λ world c. (certain_is_trans agent w values world c.refines p h).ends (sym e)
  end_is_so Must false e = tt
  end_is_so May true e = tt
  end_is_so May false e = λ world c k. let o : false ≡ true = e ∙ (trans_is_possible agent w values world c.refines p h).ends k in cc
  end_is_so Near true e = tt
  end_is_so Near false e = tt

  step_is_so : (m : Mode) (b : Bool) → b ≡ not (is_empty (ways agent values m p)) → StepIsSo agent values p m b
  step_is_so Must true e = λ world c.
      let u = some_way (ways agent values Must p) e in
      (u.0.label, plain u.0.left, (certain_is_trans agent w values world c.refines p h).steps u.0 u.1)
  step_is_so Must false e = tt
  step_is_so May true e = tt
  step_is_so May false e = λ world c s.
      let m = (trans_is_possible agent w values world c.refines p h).steps s.0 s.1 s.2 in
      no_way (ways agent values May p) m.way m.among e
  step_is_so Near true e = tt
  step_is_so Near false e = tt

  first_is_so : (o : Option Way) → o ≡ head_of (ways agent values Must p) → IfSome o (WayIsCertain agent values p)
  first_is_so None e = tt
  first_is_so (Some u) e = λ world c. (certain_is_trans agent w values world c.refines p h).steps u (head_way (ways agent values Must p) u e)

  -- the same of what a call answers
  module _ {E : Type 0} where
    pub end_in_worlds : (m : Mode) (result : Result Bool E) → IfOk result (λ b. b ≡ final agent values m p) → IfOk result (EndIsSo agent values p m)
    end_in_worlds m (Ok b) e = end_is_so m b e
    end_in_worlds m (Err x) e = e

    pub steps_in_worlds : (m : Mode) (result : Result Bool E) → IfOk result (λ b. b ≡ not (is_empty (ways agent values m p))) → IfOk result (StepIsSo agent values p m)
    steps_in_worlds m (Ok b) e = step_is_so m b e
    steps_in_worlds m (Err x) e = e

    pub first_in_worlds : (result : Result (Option Way) E) → IfOk result (λ o. o ≡ head_of (ways agent values Must p)) → IfOk result (λ o. IfSome o (WayIsCertain agent values p))
    first_in_worlds (Ok o) e = first_is_so o e
    first_in_worlds (Err x) e = e
