use Rattle.std.proofs.Common.{◌≡◌, true, false, List, refl, sym, ◌∙◌, arith}
use Rattle.std.specs.List.{position_from}
use Rattle.std.proofs.lemmas.List.{at_drop_all}
use Rattle.golog_ways.specs.Searched.{IsSearched}
use Rattle.golog_find.specs.declared.numbered.Numbered.{Numbered}
use Rattle.golog_find.specs.Levels.{Reached, ends_at}
use Rattle.golog_find.specs.Numbers.{all_meant, meant}
use Rattle.golog_find.specs.Rows.{lent}
use Rattle.golog_find.proofs.Numbering.{at-place, end-at, meant-at, number-at}
use Rattle.golog_find.proofs.search.Search.first_end.Goals as goal

pub may_end-requires-clause-number : goal.may_end-requires-clause-number
may_end-requires-clause-number c =
    let last = c.args.self.now.last in
    let n = lent c.at.result in
    number-at c.args.self.now.nodes last c.loop-place.place n (omega (arith, c.len-place-end.ensures, c.loop-place-test.true)) (at-place last c.loop-place.place n c.at.ensures) c.requires.numbers.last

pub may_end-requires-clause-searched : goal.may_end-requires-clause-searched
may_end-requires-clause-searched c =
    let last = c.args.self.now.last in
    let n = lent c.at.result in
    meant-at c.args.self.now.nodes last c.loop-place.place n (omega (arith, c.len-place-end.ensures, c.loop-place-test.true)) (at-place last c.loop-place.place n c.at.ensures)
    (λ (r : Reached). IsSearched c.args.agent.now r.way.left r.state) c.requires.searched

pub loop-place-init : goal.loop-place-init
loop-place-init c = refl

pub returns-then-branch : goal.returns-then-branch
returns-then-branch c =
    let nodes = c.args.self.now.nodes in
    let last = c.args.self.now.last in
    let ends = ends_at c.args.agent.now c.args.mode in
    let n = lent c.at.result in
    let ended : ends (meant nodes n) ≡ true = sym c.in_ok-may_end.ensures ∙ c.if-branch.true in
    sym (c.loop-place.invariant ∙ end-at nodes last c.loop-place.place n (omega (arith, c.len-place-end.ensures, c.loop-place-test.true)) (at-place last c.loop-place.place n c.at.ensures) ends true ended)

pub loop-place-preserved : goal.loop-place-preserved
loop-place-preserved c =
    let nodes = c.args.self.now.nodes in
    let last = c.args.self.now.last in
    let ends = ends_at c.args.agent.now c.args.mode in
    let n = lent c.at.result in
    let goes_on : ends (meant nodes n) ≡ false = sym c.in_ok-may_end.ensures ∙ c.if-branch.false in
    c.loop-place.invariant ∙ end-at nodes last c.loop-place.place n (omega (arith, c.len-place-end.ensures, c.loop-place-test.true)) (at-place last c.loop-place.place n c.at.ensures) ends false goes_on

pub returns : goal.returns
returns c =
    let ends = ends_at c.args.agent.now c.args.mode in
    sym (c.loop-place.invariant
    ∙ at_drop_all (λ (ns : List Numbered). position_from ends c.loop-place.place (all_meant c.args.self.now.nodes ns)) c.args.self.now.last c.loop-place.place (omega (arith, c.len-place-end.ensures, c.loop-place-test.false)))
