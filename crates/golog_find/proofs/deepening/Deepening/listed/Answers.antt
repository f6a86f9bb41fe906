use Rattle.std.proofs.Common.{◌≡◌, List, sym, ap, ◌∙◌, subst, map}
use Rattle.std.specs.Prelude.{All}
use Rattle.std.proofs.lemmas.Result.{IfOk-weaker}
use Rattle.golog_tree.specs.declared.prog.Way.{Way}
use Rattle.golog_semantics.specs.Search.{plain_ways}
use Rattle.golog_known.proofs.Folds.{map-map}
use Rattle.golog_ways.specs.declared.expand.Node.{Node}
use Rattle.golog_ways.specs.Searched.{IsSearched}
use Rattle.golog_find.specs.Batches.{handed, node_at, ways_at}
use Rattle.golog_find.proofs.Batching.{nodes-searched}
use Rattle.golog_find.proofs.deepening.Deepening.listed.Goals as goal

pub ways-listed-requires-clause-searched : goal.ways-listed-requires-clause-searched
ways-listed-requires-clause-searched g c =
    let agent = c.args.self.now.agent.now in
    subst (All (λ (node : Node). IsSearched agent node.left node.state)) (sym (c.as_slice.ensures ∙ c.in_ok-handed.ensures))
    (nodes-searched agent c.args.nodes.now c.args.sources.now c.requires.sources)

pub returns : goal.returns
returns g c =
    let agent = c.args.self.now.agent.now in
    let m = c.args.self.now.mode in
    let nodes = c.args.nodes.now in
    let left = handed c.args.sources.now in
    let steps = λ (node : Node). plain_ways agent node.state m node.left in
    let items = c.as_slice.ensures ∙ c.in_ok-handed.ensures in
    IfOk-weaker c.ways-listed.result (λ (all : List (List Way)). all ≡ map steps c.as_slice.result.now) (λ (all : List (List Way)). all ≡ map (ways_at agent m nodes) left)
    (λ all e. e ∙ ap (map steps) items ∙ map-map (node_at nodes) steps left) c.ways-listed.ensures
