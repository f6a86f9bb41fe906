-- What is found of an entry, by the rules that it keeps.
use Rattle.std.proofs.Common.{◌≡◌, ℕ, Bool, true, false, List, length, Some, None, ap, ◌∙◌}
use Rattle.golog_tree.specs.declared.agent.Agent.{Agent}
use Rattle.golog_tree.specs.declared.prog.Prog.{Prog}
use Rattle.golog_semantics.specs.declared.search.Move.{Move}
use Rattle.golog_semantics.specs.declared.journal.Entry.{Entry}
use Rattle.golog_semantics.specs.declared.journal.PlacedRun.{PlacedRun}
use Rattle.golog_semantics.specs.declared.journal.Why.TheVariants as why
use Rattle.golog_semantics.specs.Journal.{Journal}
use Rattle.golog_semantics.specs.Progress.{left_after, values_after}
use Rattle.golog_semantics.specs.Same.{same_run}
use Rattle.golog_semantics.specs.Text.{Text, run_at}
use Rattle.golog_semantics.specs.Online.{run_begun, keeps_answer, keeps_close, keeps_step, label_of}
use Rattle.golog_replay.specs.declared.judged.Judged.TheVariants.{Broken, Kept}
use Rattle.golog_replay.specs.Courses.{IsStep, JudgedIs, KeepsEarly}
use Rattle.golog_replay.proofs.Faults.{breaks-answer, breaks-close, breaks-run, breaks-step}
use Rattle.golog_replay.proofs.Steps.{at-step, begins, begins-none, no-step-keeps, other-leaves, step-leaves}

module _ (agent : Agent) (journal : Journal) (runs : List PlacedRun) (e : Entry) (early : KeepsEarly agent journal e) where
  abbrev V : List ℕ
  V = values_after agent journal

  abbrev P : Prog
  P = left_after agent journal

  -- a step
  module _ (step : Move) (is : IsStep agent journal e step) where
    run-is : (b : Bool) → same_run (run_at runs (length journal)) step.run ≡ b → same_run (run_at runs (length journal)) (run_begun agent journal V P e) ≡ b
    run-is b h = ap (same_run (run_at runs (length journal))) (begins agent journal e step is) ∙ h

    pub step-keeps : same_run (run_at runs (length journal)) step.run ≡ true → JudgedIs agent journal runs e (Kept (Some step.left))
    step-keeps h = (
      record {
        after = early.after;
        poster = early.poster;
        place = early.place;
        taken = early.taken;
        step = is.kept;
        run = run-is true h;
        answer = (at-step agent journal e is.label is.is_step).0;
        close = (at-step agent journal e is.label is.is_step).1;
      },
      step-leaves agent journal e step is,
    )

    pub step-breaks : same_run (run_at runs (length journal)) step.run ≡ false → JudgedIs agent journal runs e (Broken why.Run)
    step-breaks h = λ lines. breaks-run agent journal e lines runs early is.kept (run-is false h)

  pub no-step-here : keeps_step agent journal V P e ≡ false → JudgedIs agent journal runs e (Broken why.Step)
  no-step-here h = λ lines. breaks-step agent journal e lines runs early h

  -- an entry that is no step
  module _ (none : label_of e ≡ None) where
    no-run : (b : Bool) → same_run (run_at runs (length journal)) None ≡ b → same_run (run_at runs (length journal)) (run_begun agent journal V P e) ≡ b
    no-run b h = ap (same_run (run_at runs (length journal))) (begins-none agent journal e none) ∙ h

    steps-so : keeps_step agent journal V P e ≡ true
    steps-so = no-step-keeps agent journal e none

    pub other-run : same_run (run_at runs (length journal)) None ≡ false → JudgedIs agent journal runs e (Broken why.Run)
    other-run h = λ lines. breaks-run agent journal e lines runs early steps-so (no-run false h)

    pub other-answer : same_run (run_at runs (length journal)) None ≡ true → keeps_answer agent journal V P e ≡ false → JudgedIs agent journal runs e (Broken why.Answer)
    other-answer h k = λ lines. breaks-answer agent journal e lines runs early steps-so (no-run true h) k

    pub other-close : same_run (run_at runs (length journal)) None ≡ true → keeps_answer agent journal V P e ≡ true → keeps_close agent journal e ≡ false
        → JudgedIs agent journal runs e (Broken why.Close)
    other-close h k m = λ lines. breaks-close agent journal e lines runs early steps-so (no-run true h) k m

    pub other-keeps : same_run (run_at runs (length journal)) None ≡ true → keeps_answer agent journal V P e ≡ true → keeps_close agent journal e ≡ true
        → JudgedIs agent journal runs e (Kept None)
    other-keeps h k m = (
      record {
        after = early.after;
        poster = early.poster;
        place = early.place;
        taken = early.taken;
        step = steps-so;
        run = no-run true h;
        answer = k;
        close = m;
      },
      other-leaves agent journal e none,
    )
