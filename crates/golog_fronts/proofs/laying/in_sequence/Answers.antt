use Rattle.std.proofs.Common.{◌≡◌, IfOk, List, map, subst}
use Rattle.golog_tree.specs.Tidy.{tidy_seq}
use Rattle.golog_tree.specs.declared.cond.Cond.TheVariants as cond
use Rattle.golog_fronts.specs.declared.front_lists.Front.{Front}
use Rattle.golog_fronts.specs.FrontLists.{AreWhereEnds, front_in}
use Rattle.golog_fronts.proofs.Opened.{seq_given}
use Rattle.golog_fronts.proofs.laying.in_sequence.Goals as goal

pub returns : goal.returns
returns c =
    let first = subst (λ (zs : List Front). IfOk c.fronts_at-ones.result (λ (fs : List Front). fs ≡ map (front_in (λ l. tidy_seq l c.args.other.now)) zs)) c.as_slice.ensures c.fronts_at-ones.ensures in
    let second = subst (λ (zs : List Front). IfOk c.where_ends-others.result (AreWhereEnds c.args.agent.now c.args.one.now zs)) c.as_slice-2.ensures c.where_ends-others.ensures in
    seq_given c.args.agent.now c.requires.fit.guarded c.args.one.now c.args.other.now c.args.ones c.args.others c.requires.ones c.requires.others
    c.fronts_at-ones.result c.where_ends-others.result c.joined.result c.in_ok-ones.ones c.in_ok-ones.others c.in_ok-ones.ensures.parts.0 c.in_ok-ones.ensures.parts.1 first second c.joined.ensures
