use Rattle.std.proofs.Common.{◌<◌, List, [], ◌∷◌, ◌++◌, if◌then◌else◌, sym, ap, ◌∙◌, subst, length, map, arith}
use Rattle.std.specs.Prelude.{is_none}
use Rattle.std.proofs.lemmas.List.{take_all}
use Rattle.std.proofs.lemmas.List.Elements.{All-get_or}
use Rattle.golog_ways.specs.declared.expand.Node.{Node}
use Rattle.golog_find.specs.declared.sources.Source.{Source}
use Rattle.golog_find.specs.Batches.{IsSource, handed, node_at}
use Rattle.golog_find.proofs.Batching.{handed-more}
use Rattle.golog_find.proofs.Numbering.{at-place}
use Rattle.golog_find.proofs.deepening.Deepening.nodes_of.Goals as goal

pub add_node-requires : goal.add_node-requires
add_node-requires c =
    let Is = IsSource c.args.self.now.agent.now c.args.nodes.now in
    let sources = c.args.sources.now in
    let at = c.loop-at.at in
    let s = c.source_at.result.now in
    let below : at < length sources = omega arith in
    subst Is (sym (at-place sources at s c.source_at.ensures)) (All-get_or Is sources at s below c.requires)

pub loop-at-init : goal.loop-at-init
loop-at-init c = c.new-list.ensures

pub loop-at-preserved : goal.loop-at-preserved
loop-at-preserved c =
    let sources = c.args.sources.now in
    let at = c.loop-at.at in
    let s = c.source_at.result.now in
    let below : at < length sources = omega arith in
    let node = node_at c.args.nodes.now in
    c.in_ok-add_node.ensures
    ∙ ap (λ (ns : List Node). ns ++ (if is_none s.opened then node s ∷ [] else [])) c.loop-at.invariant
    ∙ sym (handed-more node sources at s below (at-place sources at s c.source_at.ensures))

pub returns : goal.returns
returns c = c.loop-at.invariant ∙ ap (λ (ss : List Source). map (node_at c.args.nodes.now) (handed ss)) (take_all c.loop-at.at c.args.sources.now (omega arith))
