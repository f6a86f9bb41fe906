-- What a program does next is so in each world in which all is so that is known.
use Rattle.std.proofs.Common.{◌≡◌, Bool, true, false, ◌||◌, if◌then◌else◌, List, [], ◌∷◌, map, inl, inr, refl, sym, ap, ◌∙◌, subst}
use Rattle.std.specs.Prelude.{◌≢◌, not, nat_lt}
use Rattle.golog_tree.specs.declared.agent.Agent.{Agent}
use Rattle.golog_tree.specs.declared.prog.Prog.{Prog}
use Rattle.golog_tree.specs.declared.prog.Way.{Way}
use Rattle.golog_tree.specs.Nest.{nest}
use Rattle.golog_semantics.specs.declared.Mode.TheVariants.{Must, May, Near}
use Rattle.golog_semantics.specs.declared.search.Move.{Move}
use Rattle.golog_semantics.specs.Truth.{Values}
use Rattle.golog_semantics.specs.Ways.{is_empty, way_of}
use Rattle.golog_semantics.specs.Search.{final, nest_limit}
use Rattle.golog_semantics.specs.Blocks.{moves, ways}
use Rattle.golog_semantics.specs.Certain.{EndIsCertain, StepIsCertain, StuckIsCertain, TransIsPossible}
use Rattle.golog_semantics.specs.ProgFits.{fits}
use Rattle.golog_semantics.specs.WellFormed.{WellFormed}
use Rattle.golog_semantics.proofs.Among.{Among, among-contains, among-map, contains-among, map-among}
use Rattle.golog_semantics.proofs.ModesOrdered.{final-may_near}
use Rattle.golog_semantics.proofs.Tests.{neither_second}
use Rattle.golog_certain.proofs.Members.{not_empty}
use Rattle.golog_certain.proofs.StepsSo.{certain_is_trans, trans_is_possible}
use Rattle.golog_search.specs.declared.decision.Blocked.{Blocked}
use Rattle.golog_search.specs.declared.decision.Blocked.TheVariants.{Unknown, Depth, Stuck}
use Rattle.golog_search.specs.declared.decision.Decision.{Decision}
use Rattle.golog_search.specs.declared.decision.Decision.TheVariants.{Final, Step, Blocked as Blocking, Fuel, Deep}
use Rattle.golog_search.specs.Decided.{IsDecided, along, blocked, decision}

abbrev by_depth : Bool → Move → Decision
by_depth deep step = if deep then Deep else Step step

not_final : (deep : Bool) (step : Move) → by_depth deep step ≡ Final → ⊥
not_final true step h = absurd (cc)
not_final false step h = absurd (let e : Step step ≡ Final = h in cc)

not_blocked : (deep : Bool) (step : Move) (b : Blocked) → by_depth deep step ≡ Blocking b → ⊥
not_blocked true step b h = absurd (cc)
not_blocked false step b h = absurd (let e : Step step ≡ Blocking b = h in cc)

same_step : (deep : Bool) (step m : Move) → by_depth deep step ≡ Step m → step ≡ m
same_step true step m h = absurd (cc)
same_step false step m h = let e : Step step ≡ Step m = h in cc

-- stuck tells that no end is near and no step possible
nothing : (near may : Bool) → (if near then Unknown else if may then Depth else Stuck) ≡ Stuck → (near ≡ false) × (may ≡ false)
nothing true may h = absurd (cc)
nothing false true h = absurd (cc)
nothing false false h = (refl, refl)

module _ (agent : Agent) (values : Values) (p : Prog) where
  abbrev by_steps : Bool → List Move → Decision
  by_steps ended steps = if ended then Final else along agent values p steps

  ended_told : (ended : Bool) (steps : List Move) → by_steps ended steps ≡ Final → ended ≡ true
  ended_told true steps h = refl
  ended_told false [] h = absurd (cc)
  ended_told false (step ∷ steps) h = absurd (not_final (nat_lt nest_limit (nest step.left)) step h)

  step_told : (ended : Bool) (steps : List Move) (m : Move) → by_steps ended steps ≡ Step m → Among steps m
  step_told true steps m h = absurd (cc)
  step_told false [] m h = absurd (cc)
  step_told false (step ∷ steps) m h = inl (same_step (nat_lt nest_limit (nest step.left)) step m h)

  blocked_told : (ended : Bool) (steps : List Move) (b : Blocked) → by_steps ended steps ≡ Blocking b → blocked agent values p ≡ b
  blocked_told true steps b h = absurd (cc)
  blocked_told false [] b h = cc
  blocked_told false (step ∷ steps) b h = absurd (not_blocked (nat_lt nest_limit (nest step.left)) step b h)

  -- a decision that no want of fuel makes is the one
  is_it : (d : Decision) (bounded : Bool) → IsDecided agent values p bounded d → d ≢ Fuel → d ≡ decision agent values p
  is_it d bounded (inl h) k = h
  is_it d bounded (inr h) k = absurd (k h.1)

  by_it : (d : Decision) → d ≡ decision agent values p → d ≡ by_steps (final agent values Must p) (moves agent values Must p)
  unfolding decision
  by_it d h = h

  module _ (w : WellFormed agent) (fit : fits agent p ≡ true) (d : Decision) (bounded : Bool) (told : IsDecided agent values p bounded d) where
    told_by : d ≢ Fuel → d ≡ by_steps (final agent values Must p) (moves agent values Must p)
    told_by k = by_it d (is_it d bounded told k)

    pub ends_so : d ≡ Final → EndIsCertain agent values p
    ends_so h world c =
        let e = sym (told_by (λ k. absurd (cc))) ∙ h in
        (certain_is_trans agent w values world c.refines p fit).ends
        (ended_told (final agent values Must p) (moves agent values Must p) e)

    pub steps_so : (m : Move) → d ≡ Step m → StepIsCertain agent values p m.label m.left
    steps_so m h world c =
        let e = sym (told_by (λ k. absurd (cc))) ∙ h in
        let a = step_told (final agent values Must p) (moves agent values Must p) m e in
        (certain_is_trans agent w values world c.refines p fit).steps (way_of m)
        (contains-among (ways agent values Must p) (way_of m) (map-among way_of (moves agent values Must p) m a))

    pub stuck_so : d ≡ Blocking Stuck → StuckIsCertain agent values p
    stuck_so h world c =
        let e = sym (told_by (λ k. absurd (cc))) ∙ h in
        let near = not (is_empty (moves agent values Near p)) || final agent values Near p in
        let none = nothing near (not (is_empty (moves agent values May p))) (blocked_told (final agent values Must p) (moves agent values Must p) Stuck e) in
        let possible : TransIsPossible agent values world p = trans_is_possible agent w values world c.refines p fit in
        record {
          no_step = λ s.
              let m = possible.steps s.0 s.1 s.2 in
              let a = among-map way_of (moves agent values May p) m.way (among-contains (ways agent values May p) m.way m.among) in
              let some = not_empty (moves agent values May p) a.0 a.1.0 in
              let no = none.1 in
              absurd (let e = ap not some in cc);
          no_end = λ f.
              let yes = possible.ends f in
              let no = neither_second (not (is_empty (moves agent values Near p))) (final agent values Near p) none.0 in
              let e = final-may_near agent values p in
              absurd (cc);
        }
