use Rattle.std.proofs.Common.{◌≡◌, List, ℕ, Option, sym, ap, ◌∙◌}
use Rattle.std.specs.Prelude.{unwrap_or}
use Rattle.golog_tree.specs.declared.prog.Prog.{Prog}
use Rattle.golog_tree.specs.declared.prog.Prog.TheVariants.{Nil}
use Rattle.golog_ways.specs.declared.expand.Node.{Node}
use Rattle.golog_find.specs.Visits.{prog_at}
use Rattle.golog_find.proofs.deepening.Deepening.node_of.Goals as goal

pub of-requires : goal.of-requires
of-requires c = c.requires.searched.sorts

pub prog-requires : goal.prog-requires
prog-requires c = c.requires.number

abbrev node : Prog → List ℕ → Node
node left state = record { left = left; state = state }

pub returns-in-Ok : goal.returns-in-Ok
returns-in-Ok c =
    let left : c.in-Ok.left ≡ prog_at c.args.nodes.now c.args.source.now.reached.left = c.in-Ok.ensures ∙ sym (ap (λ (o : Option Prog). unwrap_or o Nil) c.prog.ensures) in
    (λ i. node (left i) (c.in_ok-state.ensures.values i))
