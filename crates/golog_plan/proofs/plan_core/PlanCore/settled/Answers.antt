use Rattle.std.proofs.Common.{false, ◌∙◌, sym}
use Rattle.golog_plan.proofs.Decisions.{done-next, given-final, given-searched, kept-given, settled-so}
use Rattle.golog_plan.proofs.Following.{own-formed, own-sorts, seen_as}
use Rattle.golog_plan.proofs.plan_core.PlanCore.settled.Goals as goal

pub is_final-requires-clause-program : goal.is_final-requires-clause-program
is_final-requires-clause-program c =
    let r = c.self.inside in
    let k = c.self.invariant in
    let given = kept-given (seen_as r.counts r.depth r.fuel) c.args.self.now r.agent.now r.state r.kept r.ended k c.self.view_is c.in-Some.kept c.in-Some.is in
    let searched = given-searched (seen_as r.counts r.depth r.fuel) c.args.self.now r.agent.now r.state r.kept r.ended k c.self.view_is c.in-Some.kept given in
    record { in_block = false; fits = searched.program }

pub is_final-requires-clause-agent : goal.is_final-requires-clause-agent
is_final-requires-clause-agent c =
    let r = c.self.inside in
    own-formed (seen_as r.counts r.depth r.fuel) r.agent.now r.state r.kept r.ended c.self.invariant

pub is_final-requires-clause-sorts : goal.is_final-requires-clause-sorts
is_final-requires-clause-sorts c =
    let r = c.self.inside in
    own-sorts (seen_as r.counts r.depth r.fuel) r.agent.now r.state r.kept r.ended c.self.invariant

pub returns-then-branch : goal.returns-then-branch
returns-then-branch c =
    let r = c.self.inside in
    let k = c.self.invariant in
    let given = kept-given (seen_as r.counts r.depth r.fuel) c.args.self.now r.agent.now r.state r.kept r.ended k c.self.view_is c.in-Some.kept c.in-Some.is in
    let ends = given-final (seen_as r.counts r.depth r.fuel) c.args.self.now r.agent.now r.state r.kept r.ended k c.self.view_is c.in-Some.kept given in
    done-next c.args.self.now c.requires.room c.requires.none (sym ends ∙ sym c.in_ok-is_final.ensures.end ∙ c.if-branch.true)

pub go_on-requires-clause-settled : goal.go_on-requires-clause-settled
go_on-requires-clause-settled c =
    let r = c.self.inside in
    let k = c.self.invariant in
    let given = kept-given (seen_as r.counts r.depth r.fuel) c.args.self.now r.agent.now r.state r.kept r.ended k c.self.view_is c.in-Some.kept c.in-Some.is in
    let ends = given-final (seen_as r.counts r.depth r.fuel) c.args.self.now r.agent.now r.state r.kept r.ended k c.self.view_is c.in-Some.kept given in
    settled-so c.args.self.now c.requires.goes_on c.requires.room c.requires.none (sym ends ∙ sym c.in_ok-is_final.ensures.end ∙ c.if-branch.false)

pub go_on-requires-clause-kept : goal.go_on-requires-clause-kept
go_on-requires-clause-kept c =
    let r = c.self.inside in
    kept-given (seen_as r.counts r.depth r.fuel) c.args.self.now r.agent.now r.state r.kept r.ended c.self.invariant c.self.view_is c.in-Some.kept c.in-Some.is
