-- In a well-formed agent the program left along a journal fits.
use Rattle.std.proofs.Common.{◌≡◌, Bool, true, false, ◌&&◌, List, [], ◌∷◌}
use Rattle.std.specs.Prelude.{nat_le, length}
use Rattle.std.specs.List.{list_all}
use Rattle.golog_tree.specs.declared.agent.Agent.{Agent}
use Rattle.golog_tree.specs.declared.agent.ProcItem.{ProcItem}
use Rattle.golog_tree.specs.declared.prog.Prog.{Prog}
use Rattle.golog_semantics.specs.declared.Mode.TheVariants.{Must}
use Rattle.golog_semantics.specs.declared.journal.Entry.{Entry}
use Rattle.golog_semantics.specs.declared.journal.Entry.TheVariants.{Do, Test, Exo, Sense, Rest, Close, End}
use Rattle.golog_semantics.specs.declared.search.Move.{Move}
use Rattle.golog_semantics.specs.Truth.{Values}
use Rattle.golog_semantics.specs.Fits.{bound_from}
use Rattle.golog_semantics.specs.ProgFits.{fits, outermost, prog_fits}
use Rattle.golog_semantics.specs.WellFormed.{WellFormed, are_sorts, proc_fits}
use Rattle.golog_semantics.specs.Written.{is_written_prog}
use Rattle.golog_semantics.specs.Journal.{Journal}
use Rattle.golog_semantics.specs.Progress.{after_entry, left_after, left_at, left_by, left_from}
use Rattle.golog_semantics.specs.Blocks.{moves}
use Rattle.golog_semantics.specs.FitLaws.{ProcsFit}
use Rattle.golog_semantics.proofs.BlocksFit.{moves-fit}
use Rattle.golog_semantics.proofs.StepsFit.{AllFit}
use Rattle.golog_semantics.proofs.Tests.{and_cases, and_more}

module _ (agent : Agent) where
  abbrev body_fits : ProcItem → Bool
  body_fits item = prog_fits agent item.body (record outermost { scope = bound_from 0 item.params })

  body_of_proc : (item : ProcItem) → proc_fits agent item ≡ true → body_fits item ≡ true
  body_of_proc item h =
      (and_cases (are_sorts agent item.params && nat_le (length item.params) 3) (body_fits item)
      (and_cases ((are_sorts agent item.params && nat_le (length item.params) 3) && body_fits item) (is_written_prog agent item.body (length item.params)) h).0).1

  bodies : (items : List ProcItem) → list_all (proc_fits agent) items ≡ true → list_all body_fits items ≡ true
  bodies [] h = h
  bodies (item ∷ items) h = and_more (proc_fits agent item) (body_fits item) (list_all (proc_fits agent) items) (list_all body_fits items) (body_of_proc item) (bodies items) h

  pub procs_fit : WellFormed agent → ProcsFit agent
  procs_fit w = record { bodies = bodies agent.procs w.programs.procs }

  left_by-fits : (p : Prog) (steps : List Move) → fits agent p ≡ true → AllFit agent false steps → fits agent (left_by agent p steps) ≡ true
  left_by-fits p [] h k = h
  left_by-fits p (step ∷ steps) h k = k.0.left_fits

  left_at-fits : ProcsFit agent → (values : Values) (p : Prog) (e : Entry) → fits agent p ≡ true → fits agent (left_at agent values p e) ≡ true
  left_at-fits f values p (Do action) h = left_by-fits p (moves agent values Must p) h (moves-fit agent f values Must p h)
  left_at-fits f values p Test h = left_by-fits p (moves agent values Must p) h (moves-fit agent f values Must p h)
  left_at-fits f values p _ h = h

  left_from-fits : ProcsFit agent → (values : Values) (p : Prog) (journal : Journal) → fits agent p ≡ true → fits agent (left_from agent values p journal) ≡ true
  left_from-fits f values p [] h = h
  left_from-fits f values p (e ∷ journal) h = left_from-fits f (after_entry agent values e) (left_at agent values p e) journal (left_at-fits f values p e h)

  pub left_after-fits : WellFormed agent → (journal : Journal) → fits agent (left_after agent journal) ≡ true
  left_after-fits w journal = left_from-fits (procs_fit w) agent.starts agent.main journal w.programs.main
