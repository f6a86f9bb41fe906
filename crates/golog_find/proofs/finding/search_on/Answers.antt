use Rattle.std.proofs.Common.{◌≡◌, ◌+◌, ◌≤◌, ◌<◌, ℕ, Option, Some, None, true, sym, ap, ◌∙◌, subst, arith}
use Rattle.std.specs.Prelude.{length}
use Rattle.std.specs.List.{position_from}
use Rattle.golog_find.specs.declared.found.Found.TheVariants.{Absent, Run as Runs}
use Rattle.golog_find.specs.Levels.{AreStored, ends_at, next_level}
use Rattle.golog_find.specs.Numbers.{looked_of}
use Rattle.golog_find.proofs.LevelsStay.{next_level-stays}
use Rattle.golog_find.proofs.StoredSearch.{finds-stored, is-searching, lacks, looks-further, looks-no-further, looks-on}
use Rattle.golog_find.proofs.finding.search_on.Goals as goal

pub loop-step-init : goal.loop-step-init
loop-step-init g c = (
  c.requires.numbers,
  c.requires.kept,
  c.requires.searched,
  λ values fits begun. looks-on c.args.bounded c.args.agent.now c.args.mode c.args.block.now values (looked_of c.args.search.now) fits begun,
)

pub returns-in_default : goal.returns-in_default
returns-in_default g c = λ values fits begun.
    let search = looked_of c.loop-step.search in
    let few : c.loop-step.fuel < c.width.result = c.in_default.ensures.1 in
    let more : c.loop-step.fuel < length search.last = subst (λ k. c.loop-step.fuel < k) c.width.ensures few in
    lacks c.args.bounded c.args.agent.now c.args.mode c.args.block.now values c.loop-step._step c.loop-step.fuel search (c.loop-step.invariant.3 values fits begun) (omega arith) c.in_default.ensures.0 more

pub returns-in-Some-2 : goal.returns-in-Some-2
returns-in-Some-2 g c = λ values fits begun.
    let b = c.args.bounded in
    let agent = c.args.agent.now in
    let block = c.args.block.now in
    let m = c.args.mode in
    let n = c.loop-step._step in
    let fuel = c.loop-step.fuel in
    let old = looked_of c.loop-step.search in
    let new = looked_of c.deepen.new.self in
    let place = c.in-Some-2.place in
    let rest : b ≡ true → c.in-Some.rest + length old.last ≡ fuel = λ h. ap (λ k. c.in-Some.rest + k) (sym c.width.ensures) ∙ c.in-Some.ensures h in
    let few : b ≡ true → length old.last ≤ fuel = λ h. let paid = rest h in omega arith in
    let stored = subst (λ (r : Option ℕ). AreStored agent m r (next_level agent m old.last).states new.last) c.room_of.ensures c.in_ok-deepen.ensures.last in
    let ended : position_from (ends_at agent m) 0 new.last ≡ Some place = sym c.in_ok-place.ensures ∙ c.in-Some-2.is in
    ap Runs c.in_ok-run.ensures
    ∙ finds-stored b agent m block values n fuel c.in-Some.rest old new (is-searching b agent m block values n fuel old (c.loop-step.invariant.3 values fits begun) few) rest
    c.in_ok-deepen.ensures.before stored c.in_ok-deepen.ensures.cut place (omega arith) ended

pub loop-step-preserved : goal.loop-step-preserved
loop-step-preserved g c =
    let b = c.args.bounded in
    let agent = c.args.agent.now in
    let block = c.args.block.now in
    let m = c.args.mode in
    let n = c.loop-step._step in
    let fuel = c.loop-step.fuel in
    let old = looked_of c.loop-step.search in
    let new = looked_of c.deepen.new.self in
    let rest : b ≡ true → c.in-Some.rest + length old.last ≡ fuel = λ h. ap (λ k. c.in-Some.rest + k) (sym c.width.ensures) ∙ c.in-Some.ensures h in
    let few : b ≡ true → length old.last ≤ fuel = λ h. let paid = rest h in omega arith in
    let stored = subst (λ (r : Option ℕ). AreStored agent m r (next_level agent m old.last).states new.last) c.room_of.ensures c.in_ok-deepen.ensures.last in
    let none : position_from (ends_at agent m) 0 new.last ≡ None = sym c.in_ok-place.ensures ∙ c.in_default-2.is in (
      c.in_ok-deepen.ensures.numbers,
      c.in_ok-deepen.ensures.kept,
      c.in_ok-deepen.ensures.searched,
      λ values fits begun.
          let searching = is-searching b agent m block values n fuel old (c.loop-step.invariant.3 values fits begun) few in
          looks-further b agent m block values n fuel c.in-Some.rest old new searching rest
          c.in_ok-deepen.ensures.before stored c.in_ok-deepen.ensures.cut (next_level-stays agent c.requires.agent m old.last c.loop-step.invariant.2) none,
    )

pub returns : goal.returns
returns g c = λ values fits begun.
    let end : c.loop-step._step ≡ c.args.block.now.depth = omega arith in
    ap Absent c.is_cut.ensures
    ∙ looks-no-further c.args.bounded c.args.agent.now c.args.mode c.args.block.now values c.loop-step._step c.loop-step.fuel (looked_of c.loop-step.search) (c.loop-step.invariant.3 values fits begun) end
