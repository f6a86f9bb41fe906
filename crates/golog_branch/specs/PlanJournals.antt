-- Journals of a program that follows plans: the rules that each entry keeps, and how the program ends.
-- (This project's own; the rules on devices are those of every journal.)
use Rattle.std.specs.Prelude.{◌≡◌, ℕ, Bool, true, false, not, ◌&&◌, ◌||◌, nat_lt, if◌then◌else◌, IsTrue, Option, Some, None, is_none, is_some, [], ◌∷◌, ◌++◌}
use Rattle.std.specs.List.{list_any}
use Rattle.std.specs.Option.{option_map_or}
use Rattle.golog_tree.specs.declared.agent.Agent.{Agent}
use Rattle.golog_tree.specs.declared.prog.Label.{Label}
use Rattle.golog_semantics.specs.declared.Mode.TheVariants.{Must}
use Rattle.golog_semantics.specs.declared.journal.Entry.{Entry}
use Rattle.golog_semantics.specs.declared.journal.Entry.TheVariants.{End}
use Rattle.golog_semantics.specs.declared.journal.Answer.{Answer}
use Rattle.golog_semantics.specs.declared.journal.Answer.TheVariants.{Done, Depth, Fuel as NoFuel, Unanswered, Full, Deep, Memory}
use Rattle.golog_semantics.specs.Truth.{Values}
use Rattle.golog_semantics.specs.Search.{final}
use Rattle.golog_semantics.specs.Same.{same_label}
use Rattle.golog_semantics.specs.Journal.{Journal, count, devices, is_full, is_open, is_quiet, lacks_result, lacks_results, limit}
use Rattle.golog_semantics.specs.Progress.{values_after}
use Rattle.golog_semantics.specs.Answer.{first_that_fits}
use Rattle.golog_semantics.specs.Online.{is_whole, keeps_after, keeps_close, keeps_place, keeps_poster, keeps_taken, label_of, same_answer}
use Rattle.golog_branch.specs.declared.following.Kept.{Kept}
use Rattle.golog_branch.specs.declared.tree.Tree.{Tree}
use Rattle.golog_branch.specs.declared.tree.Planned.{Planned}
use Rattle.golog_branch.specs.declared.tree.Planned.TheVariants.{Found, Fuel, Large}
use Rattle.golog_branch.specs.Following.{ahead, first_label, kept_after, plan_kept, tree_in}

abbrev pub is_found : Planned → Bool
is_found (Found t) = true
is_found _ = false

abbrev pub is_fuel : Planned → Bool
is_fuel Fuel = true
is_fuel _ = false

abbrev pub is_large : Planned → Bool
is_large Large = true
is_large _ = false

-- the label of the first step of what is ahead
abbrev pub label_ahead : Planned → Option Label
label_ahead p = option_map_or first_label (tree_in p) None

-- this is the label
abbrev pub is_label : Label → Option Label → Bool
is_label label o = option_map_or (same_label label) o false

module _ (agent : Agent) where
  -- a result is to come of a device that is closed, so it will not
  abbrev pub is_abandoned : Journal → Bool
  is_abandoned journal = list_any (λ d. not (is_open d journal) && lacks_result agent journal d) (devices agent)

  module _ (depth fuel : ℕ) where
    -- The answer is the first that fits; there is none while the program has a plan to go on with, or waits.
    -- Without a plan it ends, once each device is closed or at rest, for the depth.
    abbrev pub plan_answer_at : Journal → Values → Kept → Option Answer
    plan_answer_at journal values k =
        first_that_fits
        ((is_full journal, Some Full)
        ∷ (is_abandoned journal, Some Unanswered)
        ∷ (lacks_results agent journal, None)
        ∷ (final agent values Must k.left, Some Done)
        ∷ (is_fuel (ahead agent depth fuel values k), Some NoFuel)
        ∷ (is_large (ahead agent depth fuel values k), Some Deep)
        ∷ (is_found (ahead agent depth fuel values k), None)
        ∷ (not (is_quiet agent journal), None)
        ∷ [])
        (Some Depth)

    -- the answer after these entries
    unfoldable pub plan_answer : Journal → Option Answer
    plan_answer journal = plan_answer_at journal (values_after agent journal) (kept_after agent depth fuel journal)

    -- no plan is there to go on with
    abbrev pub has_no_plan : Journal → Bool
    has_no_plan journal =
        not (is_found (ahead agent depth fuel (values_after agent journal) (kept_after agent depth fuel journal)))

    -- the program waits for a device: for a result, or since it has no plan
    unfoldable pub plan_waits : Journal → Bool
    plan_waits journal =
        not (is_quiet agent journal) && is_none (plan_answer journal)
        && (lacks_results agent journal || has_no_plan journal)

    module _ (before : Journal) where
      -- no result is to come, the program may not end, the journal takes one more entry, and this is the first step
      -- of what is ahead; a result that may come later is waited for all the same
      abbrev pub may_step_ahead : Values → Kept → Label → Bool
      may_step_ahead values k label =
          not (lacks_results agent before) && not (final agent values Must k.left) && nat_lt (count before) limit
          && is_label label (label_ahead (ahead agent depth fuel values k))

      abbrev pub keeps_plan_step : Values → Kept → Entry → Bool
      keeps_plan_step values k e = option_map_or (may_step_ahead values k) (label_of e) true

      -- the program ends with its answer, or for want of memory
      abbrev pub may_end_planned : Values → Kept → Answer → Bool
      may_end_planned values k Memory = true
      may_end_planned values k a = same_answer (plan_answer_at before values k) a

      abbrev pub keeps_plan_answer : Values → Kept → Entry → Bool
      keeps_plan_answer values k (End a) = may_end_planned values k a
      keeps_plan_answer values k _ = true

      -- the entry keeps the rules
      pub record KeepsPlanned (e : Entry) : Type 0 where
        pub after : IsTrue (keeps_after agent before e)
        pub poster : IsTrue (keeps_poster agent before e)
        pub place : IsTrue (keeps_place agent before e)
        pub taken : IsTrue (keeps_taken agent before e)
        pub step : IsTrue (keeps_plan_step (values_after agent before) (kept_after agent depth fuel before) e)
        pub answer : IsTrue (keeps_plan_answer (values_after agent before) (kept_after agent depth fuel before) e)
        pub close : IsTrue (keeps_close agent before e)

      -- the plan that a step begins: a new one, and not the one that was kept
      abbrev pub new_plan : Values → Kept → Option Tree
      new_plan values k = if is_some (plan_kept agent values k) then None else tree_in (ahead agent depth fuel values k)

      abbrev pub plan_begun : Entry → Option Tree
      plan_begun e =
          option_map_or
          (λ (label : Label). new_plan (values_after agent before) (kept_after agent depth fuel before)) (label_of e) None

    -- wherever an entry stands, it keeps the rules, given the entries before it
    pub record IsPlannedSoFar (journal : Journal) : Type 0 where
      pub entries : (before : Journal) (e : Entry) (later : Journal) → journal ≡ before ++ e ∷ later
          → KeepsPlanned before e

    -- the journal of a program that follows plans
    pub record IsPlannedJournal (journal : Journal) : Type 0 where
      pub entries : IsPlannedSoFar journal
      pub whole : IsTrue (is_whole agent journal)
