use Rattle.std.proofs.Common.{◌≡◌, IfOk, List, map, subst}
use Rattle.golog_tree.specs.Tidy.{tidy_prio}
use Rattle.golog_tree.specs.declared.cond.Cond.TheVariants as cond
use Rattle.golog_fronts.specs.declared.front_lists.Front.{Front}
use Rattle.golog_fronts.specs.FrontLists.{front_in, front_where, none_open}
use Rattle.golog_fronts.proofs.FrontsGiven.{joined_given}
use Rattle.golog_fronts.proofs.laying.one_over_other.Goals as goal

pub returns : goal.returns
returns c =
    let first = subst (λ (zs : List Front). IfOk c.fronts_at-over.result (λ (fs : List Front). fs ≡ map (front_in (λ l. tidy_prio l c.args.low.now)) zs)) c.as_slice.ensures c.fronts_at-over.ensures in
    let high = subst (λ (zs : List Front). IfOk c.lower-under.result (λ (fs : List Front). fs ≡ map (front_in (λ l. tidy_prio c.args.high.now l)) (map (front_where (none_open zs)) c.as_slice-3.result.now))) c.as_slice-2.ensures c.lower-under.ensures in
    let second = subst (λ (zs : List Front). IfOk c.lower-under.result (λ (fs : List Front). fs ≡ map (front_in (λ l. tidy_prio c.args.high.now l)) (map (front_where (none_open c.args.highs)) zs))) c.as_slice-3.ensures high in
    joined_given c.joined.result c.fronts_at-over.result c.lower-under.result c.in_ok-over.over c.in_ok-over.under (map (front_in (λ l. tidy_prio l c.args.low.now)) c.args.highs) (map (front_in (λ l. tidy_prio c.args.high.now l)) (map (front_where (none_open c.args.highs)) c.args.lows))
    c.in_ok-over.ensures.parts.0 c.in_ok-over.ensures.parts.1 first second c.joined.ensures
