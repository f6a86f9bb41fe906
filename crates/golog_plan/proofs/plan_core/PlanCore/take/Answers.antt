use Rattle.std.proofs.Common.{◌≡◌, ◌∷◌, [], ◌++◌, Option, Some, sym, ap, ◌∙◌, subst}
use Rattle.std.specs.Prelude.{IfSome}
use Rattle.golog_journal.specs.Boards.{AgentJournal, IsBoardList}
use Rattle.golog_branch.specs.declared.following.Kept.{Kept}
use Rattle.golog_plan.specs.Keeping.{KeepsPlan, PlanCourse, kept_by, with_list}
use Rattle.golog_plan.proofs.Following.{keeps-next, own-fits, own-formed, own-sorts, seen_as}
use Rattle.golog_plan.proofs.plan_core.PlanCore.take.Goals as goal

pub roll-requires-clause-agent : goal.roll-requires-clause-agent
roll-requires-clause-agent c =
    let r = c.self.inside in
    own-formed (seen_as r.counts r.depth r.fuel) r.agent.now r.state r.kept r.ended c.self.invariant

pub roll-requires-clause-sorts : goal.roll-requires-clause-sorts
roll-requires-clause-sorts c =
    let r = c.self.inside in
    own-sorts (seen_as r.counts r.depth r.fuel) r.agent.now r.state r.kept r.ended c.self.invariant

pub roll-requires-clause-entries : goal.roll-requires-clause-entries
roll-requires-clause-entries c =
    let r = c.self.inside in
    own-fits (seen_as r.counts r.depth r.fuel) r.agent.now r.state r.kept r.ended c.self.invariant c.args.self.now c.args.entry c.self.view_is c.requires.lawful

pub add-requires : goal.add-requires
add-requires c = subst (λ (v : PlanCourse). IsBoardList v.agent (v.list ++ c.args.entry ∷ [])) (sym c.self.view_is) c.requires.lawful

pub invariant_of-self : goal.invariant_of-self
invariant_of-self c =
    let r = c.self.inside in
    let kept = c.kept_next-kept.result in
    subst (λ (k : Option Kept). KeepsPlan (seen_as c.add.new.self r.depth r.fuel) r.agent.now c.roll.new.self k c.ended_after-ended.result) (sym c.replace.ensures.after)
    (keeps-next r.counts c.add.new.self r.depth r.fuel c.args.self.now c.args.entry r.agent.now r.state c.roll.new.self r.kept c.args.given kept r.ended c.ended_after-ended.result
    c.self.view_is c.self.invariant c.requires.lawful c.requires.planned c.requires.kept c.add.ensures c.roll.ensures.values
    (subst (λ (was : Option Kept). IfSome kept (λ (k : Kept). Some k ≡ kept_by was c.args.given c.args.entry)) c.replace-was.ensures.value c.kept_next-kept.ensures)
    c.ended_after-ended.ensures)

pub returns : goal.returns
returns c =
    let r = c.self.inside in
    ap (λ (j : AgentJournal). seen_as j r.depth r.fuel) c.add.ensures ∙ ap (λ (v : PlanCourse). with_list v (v.list ++ c.args.entry ∷ [])) c.self.view_is
