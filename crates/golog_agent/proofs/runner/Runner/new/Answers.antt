use Rattle.std.proofs.Common.{◌≡◌, [], sym, subst}
use Rattle.std.specs.Prelude.{IfOk}
use Rattle.golog_lead.specs.declared.kept.Kept.{Kept}
use Rattle.golog_lead.specs.Recording.{IsKept}
use Rattle.golog_lead.specs.Courses.{Course}
use Rattle.golog_agent.proofs.runner.Runner.new.Goals as goal

pub invariant_of-result : goal.invariant_of-result
invariant_of-result c =
    let kept = c.in_ok-record.record in
    let both = c.in_ok-record.ensures.parts in
    let core = subst (λ r. IfOk r (λ (v : Course). v ≡ record { agent = c.args.agent.now; list = [] })) both.1 c.new-2.ensures in
    subst (λ (v : Course). IsKept v.agent v.list kept.entries kept.runs) (sym core)
    (record {
      entries_so = subst (λ r. IfOk r (λ (k : Kept). k.entries ≡ [])) both.0 c.new.ensures.entries;
      runs_so = subst (λ r. IfOk r (λ (k : Kept). k.runs ≡ [])) both.0 c.new.ensures.runs;
    })
