use Rattle.std.proofs.Common.{◌≡◌, Bool, true, false, List, [], ◌∷◌, ◌++◌, if◌then◌else◌, sym, ap, ◌∙◌}
use Rattle.std.specs.Prelude.{is_none, not}
use Rattle.std.proofs.lemmas.List.{append-nil}
use Rattle.std.proofs.lemmas.Result.{on_ok_weaker}
use Rattle.golog_ways.specs.declared.expand.Node.{Node}
use Rattle.golog_find.specs.Batches.{node_at}
use Rattle.golog_find.proofs.deepening.Deepening.add_node.Goals as goal

pub node_of-requires : goal.node_of-requires
node_of-requires c = c.requires

pub returns-in_ok-node : goal.returns-in_ok-node
returns-in_ok-node c =
    let list = c.args.list.now in
    let node = node_at c.args.nodes.now c.args.source.now in
    let none : is_none c.args.source.now.opened ≡ true = ap not (c.is_none.ensures ∙ ap not c.if-is_none.true) in
    on_ok_weaker c.push.result
    (λ (e : c.push.new.self ≡ list ++ c.in_ok-node.node ∷ []).
    e ∙ ap (λ (n : Node). list ++ n ∷ []) c.in_ok-node.ensures ∙ ap (λ (b : Bool). list ++ (if b then node ∷ [] else [])) (sym none))
    c.push.ensures.ok

pub returns-else-is_none : goal.returns-else-is_none
returns-else-is_none c =
    let list = c.args.list.now in
    let node = node_at c.args.nodes.now c.args.source.now in
    let some : is_none c.args.source.now.opened ≡ false = ap not (c.is_none.ensures ∙ ap not c.if-is_none.false) in
    sym (ap (λ (b : Bool). list ++ (if b then node ∷ [] else [])) some ∙ append-nil list)
