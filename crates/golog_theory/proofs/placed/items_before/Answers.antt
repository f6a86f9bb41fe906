use Rattle.std.proofs.Common.{rules, tests, nat_lt, length-take-le, take, ◌∙◌, ap}
use Rattle.std.proofs.lemmas.Iterator.{YieldsList-from_slice}
use Rattle.std.proofs.lemmas.Iterator.Search.{YieldsList-from_take_while}
use Rattle.std.proofs.lemmas.Iterator.Consumers.{count_from_yields_List}
use Rattle.std.proofs.lemmas.List.Sums.{prefix_len-le-length}
use Rattle.golog_theory.proofs.placed.items_before.Goals as goal

pub returns : goal.returns
returns g c =
    let items = c.args.items.now in
    ap (λ n. take n items) (count_from_yields_List c.take_while.result _ c.count-count.ensures.ran (YieldsList-from_take_while _ (λ item. nat_lt (g.T.Placed.place item) c.args.place) (YieldsList-from_slice items (cc)) c.take_while.ensures.closure c.take_while.ensures.done (λ x b q k. search (rules, tests)))
    ∙ length-take-le _ items (prefix_len-le-length _ items))
