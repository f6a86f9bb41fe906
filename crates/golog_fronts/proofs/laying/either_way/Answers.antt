use Rattle.std.proofs.Common.{◌≡◌, IfOk, List, map, subst}
use Rattle.golog_tree.specs.declared.cond.Cond.TheVariants as cond
use Rattle.golog_fronts.specs.declared.front_lists.Front.{Front}
use Rattle.golog_fronts.specs.FrontLists.{front_where}
use Rattle.golog_fronts.proofs.FrontsGiven.{joined_given}
use Rattle.golog_fronts.proofs.laying.either_way.Goals as goal

pub returns : goal.returns
returns c =
    let first = subst (λ (zs : List Front). IfOk c.fronts_where-yes.result (λ (fs : List Front). fs ≡ map (front_where c.args.cond.now) zs)) c.as_slice.ensures c.fronts_where-yes.ensures in
    let second = subst (λ (zs : List Front). IfOk c.where_not-no.result (λ (fs : List Front). fs ≡ map (front_where (cond.Not c.args.cond.now)) zs)) c.as_slice-2.ensures c.where_not-no.ensures in
    joined_given c.joined.result c.fronts_where-yes.result c.where_not-no.result c.in_ok-yes.yes c.in_ok-yes.no (map (front_where c.args.cond.now) c.args.yes) (map (front_where (cond.Not c.args.cond.now)) c.args.no)
    c.in_ok-yes.ensures.parts.0 c.in_ok-yes.ensures.parts.1 first second c.joined.ensures
