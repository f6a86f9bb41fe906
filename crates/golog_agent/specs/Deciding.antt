-- What a program is to do that decides so.
use Rattle.std.specs.Prelude.{Bool, true, false, if◌then◌else◌, Option, Some, None}
use Rattle.golog_semantics.specs.declared.journal.Answer.TheVariants as answer
use Rattle.golog_search.specs.declared.decision.Decision.{Decision}
use Rattle.golog_search.specs.declared.decision.Decision.TheVariants.{Final, Step, Blocked, Fuel, Deep}
use Rattle.golog_search.specs.Laws.{blocked_answer}
use Rattle.golog_agent.specs.declared.plan.Plan.{Plan}
use Rattle.golog_agent.specs.declared.plan.Plan.TheVariants as plan

-- it ends with its answer, or takes its step; where it may end and a result may still come, it waits
abbrev pub plan_by : Bool → Decision → Plan
plan_by comes Final = if comes then plan.Wait else plan.End answer.Done
plan_by comes (Step m) = plan.Step m
plan_by comes (Blocked b) = plan.End (blocked_answer b)
plan_by comes Fuel = plan.End answer.Fuel
plan_by comes Deep = plan.End answer.Deep

-- what was decided stays so while the values do, and is handed out without being used up: that there is an end, or
-- neither an end nor a step, or that fuel is lacking
abbrev pub is_standing : Option Decision → Bool
is_standing None = true
is_standing (Some Final) = true
is_standing (Some Fuel) = true
is_standing (Some _) = false
