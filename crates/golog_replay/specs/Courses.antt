-- The course of a journal that is gone along, and what is found of its next entry.
use Rattle.std.specs.Prelude.{◌≡◌, true, false, Option, Some, None, List, [], ◌∷◌, ◌++◌, length, unwrap_or, slice_get, drop}
use Rattle.golog_tree.specs.declared.agent.Agent.{Agent}
use Rattle.golog_tree.specs.declared.prog.Label.{Label}
use Rattle.golog_semantics.specs.declared.Mode.TheVariants.{Must}
use Rattle.golog_semantics.specs.declared.search.Move.{Move}
use Rattle.golog_semantics.specs.declared.journal.Entry.{Entry}
use Rattle.golog_semantics.specs.declared.journal.PlacedRun.{PlacedRun}
use Rattle.golog_semantics.specs.declared.journal.Why.{Why}
use Rattle.golog_semantics.specs.Blocks.{moves}
use Rattle.golog_semantics.specs.Journal.{Journal}
use Rattle.golog_semantics.specs.Progress.{left_after, values_after}
use Rattle.golog_semantics.specs.InSorts.{AreInSorts}
use Rattle.golog_semantics.specs.Text.{Text}
use Rattle.golog_semantics.specs.WellFormed.{WellFormed}
use Rattle.golog_semantics.specs.Online.{Keeps, fault_at, keeps_after, keeps_place, keeps_poster, keeps_step, keeps_taken, label_of}
use Rattle.golog_replay.specs.declared.course.Course.{Course}
use Rattle.golog_replay.specs.declared.judged.Stepping.{Stepping}
use Rattle.golog_replay.specs.declared.judged.Stepping.TheVariants.{NoStep, Breaks, Steps}
use Rattle.golog_replay.specs.declared.judged.Judged.{Judged}
use Rattle.golog_replay.specs.declared.judged.Judged.TheVariants.{Broken, Kept}
use Rattle.golog_replay.specs.Standings.{IsStanding}

module _ (agent : Agent) (journal : Journal) where
  -- what stands, the values and the program left are those after the entries
  pub record Follows (c : Course) : Type 0 where
    pub formed : WellFormed agent
    pub standing : IsStanding agent journal c.standing
    pub values_so : c.state ≡ values_after agent journal
    pub sorts : AreInSorts agent c.state
    pub left_so : c.left ≡ left_after agent journal

  -- the step that an entry is, if it keeps the rule of steps
  pub record IsStep (e : Entry) (step : Move) : Type 0 where
    pub label : Label
    pub is_step : label_of e ≡ Some label
    pub kept : keeps_step agent journal (values_after agent journal) (left_after agent journal) e ≡ true
    pub later : List Move
    pub first : moves agent (values_after agent journal) Must (left_after agent journal) ≡ step ∷ later

  -- whether an entry is a step, and which
  abbrev pub SteppingIs : Entry → Stepping → Type 0
  SteppingIs e NoStep = label_of e ≡ None
  SteppingIs e Breaks = keeps_step agent journal (values_after agent journal) (left_after agent journal) e ≡ false
  SteppingIs e (Steps step) = IsStep e step

  -- the entry keeps the rules of what devices post
  pub record KeepsEarly (e : Entry) : Type 0 where
    pub after : keeps_after agent journal e ≡ true
    pub poster : keeps_poster agent journal e ≡ true
    pub place : keeps_place agent journal e ≡ true
    pub taken : keeps_taken agent journal e ≡ true

  -- an entry breaks this rule first, whatever lines and runs are given
  abbrev pub BreaksFirst : Entry → Why → Type 0
  BreaksFirst e why =
      (lines : Option (List Text)) (runs : List PlacedRun)
      → fault_at agent lines runs journal e ≡ Some (record { place = length journal; why = why })

  -- an entry breaks this rule first, whatever lines are given; or it keeps the rules but that of the text,
  -- and this program is left, if another than before
  abbrev pub JudgedIs : List PlacedRun → Entry → Judged → Type 0
  JudgedIs runs e (Broken why) =
      (lines : Option (List Text))
      → fault_at agent lines runs journal e ≡ Some (record { place = length journal; why = why })
  JudgedIs runs e (Kept left) =
      Keeps agent journal runs e
      × (left_after agent (journal ++ e ∷ []) ≡ unwrap_or left (left_after agent journal))

module _ (agent : Agent) (journal : Journal) where
  -- the entry breaks this rule first, with these lines from its place on; or it is taken, and the lines behind
  -- its own are to come
  abbrev pub TakenIs : List PlacedRun → List Text → Entry → List Text → Course → Option Why → Type 0
  TakenIs runs here e later course (Some why) =
      (lines : List Text) → slice_get lines (length journal) ≡ slice_get here 0
      → fault_at agent (Some lines) runs journal e ≡ Some (record { place = length journal; why = why })
  TakenIs runs here e later course None =
      ((lines : List Text) → slice_get lines (length journal) ≡ slice_get here 0
      → fault_at agent (Some lines) runs journal e ≡ None)
      × (later ≡ drop 1 here) × Follows agent (journal ++ e ∷ []) course
