use Rattle.std.proofs.Common.{◌≡◌, IfOk, List, map, subst}
use Rattle.golog_tree.specs.Tidy.{tidy_conc}
use Rattle.golog_tree.specs.declared.cond.Cond.TheVariants as cond
use Rattle.golog_fronts.specs.declared.front_lists.Front.{Front}
use Rattle.golog_fronts.specs.FrontLists.{front_in}
use Rattle.golog_fronts.proofs.FrontsGiven.{joined_given}
use Rattle.golog_fronts.proofs.laying.side_by_side.Goals as goal

pub returns : goal.returns
returns c =
    let first = subst (λ (zs : List Front). IfOk c.fronts_at-ones.result (λ (fs : List Front). fs ≡ map (front_in (λ l. tidy_conc l c.args.other.now)) zs)) c.as_slice.ensures c.fronts_at-ones.ensures in
    let second = subst (λ (zs : List Front). IfOk c.fronts_at-others.result (λ (fs : List Front). fs ≡ map (front_in (λ l. tidy_conc c.args.one.now l)) zs)) c.as_slice-2.ensures c.fronts_at-others.ensures in
    joined_given c.joined.result c.fronts_at-ones.result c.fronts_at-others.result c.in_ok-ones.ones c.in_ok-ones.others (map (front_in (λ l. tidy_conc l c.args.other.now)) c.args.ones) (map (front_in (λ l. tidy_conc c.args.one.now l)) c.args.others)
    c.in_ok-ones.ensures.parts.0 c.in_ok-ones.ensures.parts.1 first second c.joined.ensures
