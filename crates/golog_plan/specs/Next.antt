-- What a program that follows plans does next.
use Rattle.std.specs.Prelude.{◌≡◌, Bool, not, ◌&&◌, false, nat_lt, IsTrue, Option, Some, [], ◌∷◌, ◌++◌}
use Rattle.std.specs.Option.{option_map}
use Rattle.golog_semantics.specs.declared.Mode.TheVariants.{Must}
use Rattle.golog_semantics.specs.declared.journal.Entry.{Entry}
use Rattle.golog_semantics.specs.Inline.{entry_for}
use Rattle.golog_semantics.specs.Journal.{count, has_end, lacks_results, limit}
use Rattle.golog_semantics.specs.Progress.{values_after}
use Rattle.golog_semantics.specs.Reports.{fits_label}
use Rattle.golog_semantics.specs.Search.{final}
use Rattle.golog_semantics.specs.Text.{Text}
use Rattle.golog_semantics.specs.Truth.{Values}
use Rattle.golog_branch.specs.declared.following.Kept.{Kept}
use Rattle.golog_branch.specs.declared.tree.Planned.{Planned}
use Rattle.golog_branch.specs.declared.tree.Tree.{Tree}
use Rattle.golog_branch.specs.Following.{ahead, kept_after, tree_in}
use Rattle.golog_branch.specs.PlanJournals.{has_no_plan, is_fuel, is_large, may_step_ahead, new_plan, plan_begun, plan_waits}
use Rattle.golog_plan.specs.declared.next.Begun.{Begun}
use Rattle.golog_plan.specs.declared.next.Next.{Next}
use Rattle.golog_plan.specs.declared.next.Next.TheVariants.{Wait, End, Step}
use Rattle.golog_plan.specs.Keeping.{PlanCourse}
use Rattle.golog_plan.specs.PlanTexts.{ended_line, plan_tail}
use Rattle.golog_plan.specs.Turns.{MayAnswer}

module _ (c : PlanCourse) where
  abbrev pub values_of : Values
  values_of = values_after c.agent c.list

  abbrev pub kept_of : Kept
  kept_of = kept_after c.agent c.depth c.fuel c.list

  -- what the program goes on with
  abbrev pub ahead_of : Planned
  ahead_of = ahead c.agent c.depth c.fuel values_of kept_of

  -- the program has not ended and waits for no result, there is room, and it may not end
  abbrev pub is_settled_at : Bool
  is_settled_at =
      not (has_end c.list) && not (lacks_results c.agent c.list) && nat_lt (count c.list) limit
      && not (final c.agent values_of Must kept_of.left)

  -- it goes on with this plan
  abbrev pub BeginsBy : Tree → Type 0
  BeginsBy t = tree_in ahead_of ≡ Some t

  -- it has no plan, and fuel and size forbid none
  pub record Planless : Type 0 where
    pub none : IsTrue (has_no_plan c.agent c.depth c.fuel c.list)
    pub fueled : is_fuel ahead_of ≡ false
    pub small : is_large ahead_of ≡ false

  -- the end of a line in which a plan begins
  abbrev pub tail_of : Option Tree → Option Text
  tail_of plan = option_map (λ (t : Tree). ended_line (plan_tail c.agent (Some t))) plan

  -- the end of the line of an entry, where that begins a plan
  abbrev pub tail_at : Entry → Option Text
  tail_at e = tail_of (plan_begun c.agent c.depth c.fuel c.list e)

  -- the end of the line of its next step
  abbrev pub tail_begun : Option Text
  tail_begun = tail_of (new_plan c.agent c.depth c.fuel c.list values_of kept_of)

  -- the step is the agent's and may be taken, and what is kept then and the end of its line are these
  pub record IsNextOf (begun : Begun) : Type 0 where
    pub own : IsTrue (fits_label c.agent begun.label)
    pub may : IsTrue (may_step_ahead c.agent c.depth c.fuel c.list values_of kept_of begun.label)
    pub kept_so : begun.kept ≡ kept_after c.agent c.depth c.fuel (c.list ++ entry_for begun.label ∷ [])
    pub tail_so : begun.tail ≡ tail_begun

  abbrev pub NextIs : Next → Type 0
  NextIs Wait = IsTrue (plan_waits c.agent c.depth c.fuel c.list)
  NextIs (End answer) = MayAnswer c.depth c.fuel c.agent c.list answer
  NextIs (Step begun) = IsNextOf begun
