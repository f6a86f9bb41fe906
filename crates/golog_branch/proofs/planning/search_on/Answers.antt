use Rattle.std.proofs.Common.{◌≡◌, ◌+◌, ◌-◌, ◌<◌, ◌≤◌, ℕ, suc, Bool, List, Some, None, true, false, length, refl, sym, ap, ◌∙◌, subst, arith}
use Rattle.std.specs.Prelude.{nat_lt}
use Rattle.std.proofs.lemmas.Bool.{lt-ltb, ltb-true}
use Rattle.std.proofs.lemmas.List.{length-map}
use Rattle.golog_semantics.specs.Blocks.{State}
use Rattle.golog_branch.specs.declared.search.Search.{Search}
use Rattle.golog_branch.specs.Levels.{state_of}
use Rattle.golog_branch.specs.Plans.{first_plan, plan_level}
use Rattle.golog_branch.specs.Searching.{IsSearch, LooksFurther}
use Rattle.golog_tree.specs.declared.agent.Agent.{Agent}
use Rattle.golog_tree.specs.declared.prog.Prog.{Prog}
use Rattle.golog_semantics.specs.Truth.{Values}
use Rattle.golog_branch.proofs.Least.{finds, lacks, looks-further, looks-no-further, looks-on}
use Rattle.golog_branch.proofs.planning.search_on.Goals as goal

-- how many states the last level has
level-of : (agent : Agent) (p : Prog) (values : Values) (n : ℕ) (search : Search) → IsSearch agent p values n search → length search.last ≡ length (plan_level agent p values n)
level-of agent p values n search h = sym (length-map search.last state_of) ∙ ap (λ (ss : List State). length ss) h.last

pub loop-step-init : goal.loop-step-init
loop-step-init c = record {
  spots = c.requires.spots;
  width = λ _. c.requires.width;
  looking = λ p values h e. (looks-on c.args.planner.now.agent.now p values c.args.depth c.args.fuel 0 c.args.fuel e, λ _. h);
}

pub plan-requires-clause-spots : goal.plan-requires-clause-spots
plan-requires-clause-spots c = c.loop-step.invariant.spots

pub returns-in-Some : goal.returns-in-Some
returns-in-Some c = λ p values h e.
    let agent = c.args.planner.now.agent.now in
    let n = c.loop-step.step in
    let inside : n < c.args.depth = omega arith in
    let look = c.loop-step.invariant.looking p values h e in
    let search = look.1 inside in
    let first : first_plan agent (n + 1) p values ≡ Some c.in-Some.plan = sym (c.in_ok-plan.ensures p values n search) ∙ c.in-Some.is in
    c.sized.ensures
    ∙ sym (finds agent p values c.args.depth c.args.fuel n c.loop-step.room inside look.0 (length c.loop-step.search.last) (level-of agent p values n c.loop-step.search search)
    (c.loop-step.invariant.width inside) c.in-Some.plan first)

pub overflow_sub-room : goal.overflow_sub-room
overflow_sub-room c = let few = c.loop-step.invariant.width (omega arith) in omega arith

pub returns : goal.returns
returns c = λ p values h e.
    let look = c.loop-step.invariant.looking p values h e in
    sym (looks-no-further c.args.planner.now.agent.now p values c.args.depth c.args.fuel c.loop-step.step c.loop-step.room (omega arith) look.0)

wanted-is : (wanted is : Bool) → is ≡ false → (wanted ≡ false → is ≡ true) → wanted ≡ true
wanted-is true is e f = refl
wanted-is false is e f = let k = f refl in absurd (cc)

pub returns-then-not-branch : goal.returns-then-not-branch
returns-then-not-branch c = λ p values h e.
    let agent = c.args.planner.now.agent.now in
    let n = c.loop-step.step in
    let room = c.loop-step.room in
    let width = c.width.result in
    let inside : n < c.args.depth = omega arith in
    let look = c.loop-step.invariant.looking p values h e in
    let search = look.1 inside in
    let first : first_plan agent (n + 1) p values ≡ None = sym (c.in_ok-plan.ensures p values n search) ∙ c.in_default.is in
    let level : width ≡ length (plan_level agent p values n) = c.width.ensures ∙ level-of agent p values n c.loop-step.search search in
    let few : width ≤ room = let k = c.loop-step.invariant.width inside in omega arith in
    let made = c.in_ok-goes_on.ensures in
    let wanted : nat_lt (n + 1) c.args.depth ≡ true = wanted-is _ _ c.if-not-branch.true made.still in
    let many = subst (LooksFurther agent p values n (room - width) c.goes_on.new.self) c.if-not-branch.true (made.further wanted p values n search) in
    let next : suc n ≡ n + 1 = omega arith in
    sym (lacks agent p values c.args.depth c.args.fuel n room inside look.0 width level few first (ltb-true (n + 1) c.args.depth wanted)
    (subst (λ k. room - width < length (plan_level agent p values k)) next many))

pub loop-step-preserved : goal.loop-step-preserved
loop-step-preserved c =
    let agent = c.args.planner.now.agent.now in
    let n = c.loop-step.step in
    let room = c.loop-step.room in
    let width = c.width.result in
    let inside : n < c.args.depth = omega arith in
    let made = c.in_ok-goes_on.ensures in
    let few : width ≤ room = let k = c.loop-step.invariant.width inside in let w = c.width.ensures in omega arith in
    let next : suc n ≡ n + 1 = omega arith in
    record {
      spots = made.spots;
      width = λ l. made.few (lt-ltb (n + 1) c.args.depth l) c.if-not-branch.false;
      looking = λ p values h e.
          let look = c.loop-step.invariant.looking p values h e in
          let search = look.1 inside in
          let first : first_plan agent (n + 1) p values ≡ None = sym (c.in_ok-plan.ensures p values n search) ∙ c.in_default.is in
          let level : width ≡ length (plan_level agent p values n) = c.width.ensures ∙ level-of agent p values n c.loop-step.search search in (
            looks-further agent p values c.args.depth c.args.fuel n room inside look.0 width level few first,
            λ l. subst (λ k. IsSearch agent p values k c.goes_on.new.self) next
                (subst (LooksFurther agent p values n (room - width) c.goes_on.new.self) c.if-not-branch.false (made.further (lt-ltb (n + 1) c.args.depth l) p values n search)),
          );
    }
