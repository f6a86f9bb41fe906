use Rattle.std.proofs.Common.{◌≡◌, List, Option, sym, ap, subst}
use Rattle.std.specs.Prelude.{All, IfOk, IsTrue, Err, Ok, Result, unwrap_or}
use Rattle.std.proofs.lemmas.Result.{IfOk-weaker}
use Rattle.golog_tree.specs.declared.prog.Prog.{Prog}
use Rattle.golog_tree.specs.declared.prog.Prog.TheVariants.{Nil}
use Rattle.golog_semantics.specs.Fronts.{AreFronts, Guarded}
use Rattle.golog_fronts.specs.declared.front_lists.Front.{Front}
use Rattle.golog_fronts.specs.FrontLists.{are_closed, guarded}
use Rattle.golog_fronts.specs.Lefts.{LeavesClosed}
use Rattle.golog_ways.specs.Open.{AreChecked}
use Rattle.golog_find.specs.Visits.{AreFrontsOf, AreOpenedFronts, prog_at}
use Rattle.golog_find.proofs.Visiting.{opened-fronts}
use Rattle.golog_find.proofs.visits.fronts_at.Goals as goal

both-ok : {T E : Type 0} (r : Result T E) (P Q : T → Type 0) → IfOk r P → IfOk r Q → IfOk r (λ x. P x × Q x)
both-ok (Ok x) P Q p q = (p, q)
both-ok (Err e) P Q p q = tt

pub numbered-requires-clause-closed : goal.numbered-requires-clause-closed
numbered-requires-clause-closed c = subst (λ (hs : List Front). IsTrue (are_closed c.args.agent.now hs)) (sym c.as_slice.ensures) c.in_ok-steps.ensures.closed

pub returns-clause-fronts : goal.returns-clause-fronts
returns-clause-fronts c =
    let agent = c.args.agent.now in
    let new = c.numbered.new.nodes in
    let p = c.prog.result.now in
    let q = prog_at c.args.nodes.now c.args.number in
    let fs = c.as_slice.result.now in
    let same = sym c.as_slice.ensures in
    let made = c.in_ok-steps.ensures in
    let is : p ≡ q = sym (ap (λ (o : Option Prog). unwrap_or o Nil) c.prog.ensures) in
    IfOk-weaker c.numbered.result (λ ns. AreFrontsOf new (guarded fs) ns × AreChecked agent ns) (AreOpenedFronts agent new q)
    (λ ns by.
    opened-fronts agent new p q fs ns by.0
    (subst (λ (hs : List Front). AreFronts agent p (guarded hs)) same made.ways)
    (subst (λ (hs : List Front). IsTrue (are_closed agent hs)) same made.closed)
    (subst (λ (hs : List Front). All (λ (g : Guarded). LeavesClosed agent p g.way) (guarded hs)) same made.lefts) is by.1)
    (both-ok c.numbered.result (AreFrontsOf new (guarded fs)) (AreChecked agent) c.numbered.ensures.fronts c.numbered.ensures.checked)
