-- Taking what devices have posted, entry by entry.
use Rattle.std.proofs.Common.{◌≡◌, ℕ, ◌+◌, ◌<◌, true, false, [], ◌∷◌, ◌++◌, length, take, get_or, None, sym, ◌∙◌}
use Rattle.std.specs.List.{list_any}
use Rattle.golog_semantics.specs.Journal.{Journal, count, limit}
use Rattle.golog_semantics.specs.Progress.{left_after}
use Rattle.golog_semantics.specs.declared.journal.Entry.{Entry}
use Rattle.golog_journal.specs.Boards.{IsBoardList}
use Rattle.golog_journal.specs.Leading.{is_of_program}
use Rattle.golog_lead.specs.Keeping.{KeepsRules, begun_by}
use Rattle.golog_lead.specs.Run.{is_step_entry}
use Rattle.golog_lead.specs.Courses.{Course}
use Rattle.golog_agent.proofs.Committing.{device-left, device-online}
use Rattle.golog_lead.proofs.BegunRuns.{begun-none}
use Rattle.golog_lead.proofs.Taking.{no-step, taken-lawful, taken-of-device}

module _ (first : Course) (entries : Journal) (i : ℕ) (d : Entry) (inside : i < length entries) (course : Course)
    (so : course ≡ record { agent = first.agent; list = first.list ++ take i entries }) where
  pub taken-online : IsBoardList first.agent (first.list ++ entries) → list_any is_of_program entries ≡ false → KeepsRules course.agent course.list (get_or entries i d)
  taken-online h devices =
      device-online course.agent course.list (get_or entries i d) (taken-of-device first entries i d inside devices) (taken-lawful first entries i d inside course so h)

  pub taken-left : list_any is_of_program entries ≡ false → left_after course.agent (course.list ++ get_or entries i d ∷ []) ≡ left_after course.agent course.list
  taken-left devices = device-left course.agent course.list (get_or entries i d) (taken-of-device first entries i d inside devices)

  taken-no-step : list_any is_of_program entries ≡ false → is_step_entry (get_or entries i d) ≡ false
  taken-no-step devices = no-step (get_or entries i d) (taken-of-device first entries i d inside devices)

  pub taken-room : list_any is_of_program entries ≡ false → is_step_entry (get_or entries i d) ≡ true → count course.list < limit
  taken-room devices step = absurd (let k = sym (taken-no-step devices) ∙ step in cc)

  pub taken-run : list_any is_of_program entries ≡ false → None ≡ begun_by course.agent course.list (get_or entries i d)
  taken-run devices = sym (begun-none course.agent course.list (get_or entries i d) (taken-no-step devices))
