use Rattle.std.proofs.Common.{List, [], ◌∷◌, ◌++◌, sym, ap, ◌∙◌, subst}
use Rattle.std.specs.Prelude.{All}
use Rattle.std.proofs.lemmas.List.Elements.{All-nil}
use Rattle.golog_find.specs.declared.numbered.Numbered.{Numbered}
use Rattle.golog_find.specs.Levels.{start_of}
use Rattle.golog_find.specs.Numbers.{HaveNumbers}
use Rattle.golog_find.proofs.Numbering.{begun-looked, begun-numbers}
use Rattle.golog_find.proofs.search.Search.new.Goals as goal

pub returns-clause-looked : goal.returns-clause-looked
returns-clause-looked c =
    let start = c.in_ok-start.start in
    let one = c.in_ok-push.ensures.ok ∙ ap (λ (ns : List Numbered). ns ++ start ∷ []) c.new-last.ensures in
    begun-looked c.start.new.nodes c.new-before.result c.push.new.self start (start_of c.args.prog.now c.args.state.now) c.new-before.ensures one c.in_ok-start.ensures.means

pub returns-clause-numbers : goal.returns-clause-numbers
returns-clause-numbers c =
    let nodes = c.start.new.nodes in
    let start = c.in_ok-start.start in
    let one = c.in_ok-push.ensures.ok ∙ ap (λ (ns : List Numbered). ns ++ start ∷ []) c.new-last.ensures in
    record {
      once = c.in_ok-start.ensures.once;
      before = subst (All (HaveNumbers nodes)) (sym c.new-before.ensures) (All-nil (HaveNumbers nodes));
      last = begun-numbers nodes c.push.new.self start c.args.prog.now one c.in_ok-start.ensures.program;
    }

pub returns-clause-kept : goal.returns-clause-kept
returns-clause-kept c agent = c.new-2.ensures agent c.start.new.nodes
