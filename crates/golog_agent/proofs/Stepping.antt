-- What comes of a step, and of what was planned at all that was seen.
use Rattle.std.proofs.Common.{◌≡◌, ◌≤◌, ◌<◌, [], ◌∷◌, ◌++◌, false, Option, Some, None, sym, ap, ◌∙◌, subst, true}
use Rattle.std.specs.Prelude.{IfSome, IsTrue, unwrap_or}
use Rattle.golog_tree.specs.declared.agent.Agent.{Agent}
use Rattle.golog_tree.specs.Nest.{nest}
use Rattle.golog_semantics.specs.declared.search.Move.{Move}
use Rattle.golog_semantics.specs.declared.journal.Entry.{Entry}
use Rattle.golog_semantics.specs.declared.journal.Answer.{Answer}
use Rattle.golog_semantics.specs.Journal.{Journal, count, has_end, is_counted, limit}
use Rattle.golog_semantics.specs.Progress.{left_after}
use Rattle.golog_semantics.specs.Search.{nest_limit}
use Rattle.golog_journal.specs.Commits.{IsOfProgram}
use Rattle.golog_agent.specs.declared.plan.Plan.{Plan}
use Rattle.golog_agent.specs.declared.plan.Plan.TheVariants as plan
use Rattle.golog_lead.specs.Keeping.{KeepsRules, begun_by}
use Rattle.golog_agent.specs.Keeping.{IsUnderWay}
use Rattle.golog_agent.specs.Planned.{IsNextStep, PlanIs}
use Rattle.golog_lead.specs.Courses.{Course}
use Rattle.golog_agent.specs.Turns.{MayAnswer}
use Rattle.golog_semantics.specs.Inline.{entry_for}
use Rattle.golog_agent.specs.UnderWay.{left_of}
use Rattle.golog_lead.specs.Waiting.{waits}
use Rattle.golog_agent.proofs.Committing.{step-left, step-online, step-own, step-run}

-- ---- a step

module _ (agent : Agent) (list : Journal) (m : Move) (next : IsNextStep agent list m) (e : Entry) (is : e ≡ entry_for m.label) where
  pub entry-own : IsUnderWay agent list → IsOfProgram agent list 0 e e
  entry-own u = subst (λ x. IsOfProgram agent list 0 x x) (sym is) (step-own agent list m next u)

  pub entry-online : has_end list ≡ false → KeepsRules agent list e
  entry-online h = subst (KeepsRules agent list) (sym is) (step-online agent list m next h)

  pub entry-run : m.run ≡ begun_by agent list e
  entry-run = step-run agent list m next ∙ ap (begun_by agent list) (sym is)

  pub entry-left : left_after agent (list ++ e ∷ []) ≡ unwrap_or (Some m.left) (left_after agent list)
  entry-left = ap (λ x. left_after agent (list ++ x ∷ [])) is ∙ step-left agent list m next

  pub entry-room : IsTrue (is_counted e) → count list < limit
  entry-room counted = next.room

-- the program that a step leaves nests no deeper than it may
pub left-nests : (agent : Agent) (list : Journal) (step : Option Move) → IfSome step (IsNextStep agent list) → IfSome (left_of step) (λ p. nest p ≤ nest_limit)
left-nests agent list None h = tt
left-nests agent list (Some m) next = next.nests

-- ---- the plan

module _ (course : Course) (p : Plan) (planned : PlanIs course.agent course.list p) where
  pub plan-waits : p ≡ plan.Wait → waits course.agent course.list ≡ true
  plan-waits is = subst (PlanIs course.agent course.list) is planned

  pub plan-answers : (answer : Answer) → p ≡ plan.End answer → MayAnswer course.agent course.list answer
  plan-answers answer is = subst (PlanIs course.agent course.list) is planned

  pub plan-steps : (m : Move) → p ≡ plan.Step m → IsNextStep course.agent course.list m
  plan-steps m is = subst (PlanIs course.agent course.list) is planned
