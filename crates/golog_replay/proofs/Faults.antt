-- The first rule that an entry breaks.
use Rattle.std.proofs.Common.{◌≡◌, ℕ, Bool, true, false, if◌then◌else◌, List, [], ◌∷◌, ◌++◌, length, Option, Some, None, refl, sym, ap, ◌∙◌}
use Rattle.golog_tree.specs.declared.agent.Agent.{Agent}
use Rattle.golog_tree.specs.declared.prog.Prog.{Prog}
use Rattle.golog_semantics.specs.declared.journal.Entry.{Entry}
use Rattle.golog_semantics.specs.declared.journal.PlacedRun.{PlacedRun}
use Rattle.golog_semantics.specs.declared.journal.Why.{Why}
use Rattle.golog_semantics.specs.declared.journal.Why.TheVariants as why
use Rattle.golog_semantics.specs.Journal.{Journal}
use Rattle.golog_semantics.specs.Progress.{values_after, left_after}
use Rattle.golog_semantics.specs.Text.{Text, run_at}
use Rattle.golog_semantics.specs.Online.{Fault, Keeps, fault_among, fault_at, keeps_after, keeps_answer, keeps_close, keeps_place, keeps_poster, keeps_run, keeps_step, keeps_taken, keeps_text}
use Rattle.golog_replay.specs.Courses.{BreaksFirst, KeepsEarly}

skip : (place : ℕ) (w : Why) (k : Bool) (rules : List (Why × Bool)) (f : Option Fault) → k ≡ true → fault_among place rules ≡ f → fault_among place ((w, k) ∷ rules) ≡ f
skip place w k rules f h n = ap (λ x. if x then fault_among place rules else Some (record { place = place; why = w })) h ∙ n

stop : (place : ℕ) (w : Why) (k : Bool) (rules : List (Why × Bool)) → k ≡ false → fault_among place ((w, k) ∷ rules) ≡ Some (record { place = place; why = w })
stop place w k rules h = ap (λ x. if x then fault_among place rules else Some (record { place = place; why = w })) h

module _ (agent : Agent) (journal : Journal) (e : Entry) where
  abbrev V : List ℕ
  V = values_after agent journal

  abbrev P : Prog
  P = left_after agent journal

  abbrev n : ℕ
  n = length journal

  abbrev found : Why → Option Fault
  found w = Some (record { place = n; why = w })

  module _ (lines : Option (List Text)) (runs : List PlacedRun) where
    abbrev from_text : List (Why × Bool)
    from_text = (why.Text, keeps_text agent journal runs lines e) ∷ []

    abbrev from_close : List (Why × Bool)
    from_close = (why.Close, keeps_close agent journal e) ∷ from_text

    abbrev from_answer : List (Why × Bool)
    from_answer = (why.Answer, keeps_answer agent journal V P e) ∷ from_close

    abbrev from_run : List (Why × Bool)
    from_run = (why.Run, keeps_run agent journal (run_at runs n) V P e) ∷ from_answer

    abbrev from_step : List (Why × Bool)
    from_step = (why.Step, keeps_step agent journal V P e) ∷ from_run

    abbrev from_taken : List (Why × Bool)
    from_taken = (why.Taken, keeps_taken agent journal e) ∷ from_step

    abbrev from_place : List (Why × Bool)
    from_place = (why.Place, keeps_place agent journal e) ∷ from_taken

    abbrev from_poster : List (Why × Bool)
    from_poster = (why.Poster, keeps_poster agent journal e) ∷ from_place

    past-after : (f : Option Fault) → keeps_after agent journal e ≡ true → fault_among n from_poster ≡ f → fault_at agent lines runs journal e ≡ f
    past-after f h k = skip n why.After (keeps_after agent journal e) from_poster f h k

    past-poster : (f : Option Fault) → keeps_poster agent journal e ≡ true → fault_among n from_place ≡ f → fault_among n from_poster ≡ f
    past-poster f h k = skip n why.Poster (keeps_poster agent journal e) from_place f h k

    past-place : (f : Option Fault) → keeps_place agent journal e ≡ true → fault_among n from_taken ≡ f → fault_among n from_place ≡ f
    past-place f h k = skip n why.Place (keeps_place agent journal e) from_taken f h k

    past-early : (f : Option Fault) → KeepsEarly agent journal e → fault_among n from_step ≡ f → fault_at agent lines runs journal e ≡ f
    past-early f early h =
        past-after f early.after
        (past-poster f early.poster (past-place f early.place (skip n why.Taken (keeps_taken agent journal e) from_step f early.taken h)))

    past-step : (f : Option Fault) → KeepsEarly agent journal e → keeps_step agent journal V P e ≡ true → fault_among n from_run ≡ f → fault_at agent lines runs journal e ≡ f
    past-step f early h k = past-early f early (skip n why.Step (keeps_step agent journal V P e) from_run f h k)

    past-run : (f : Option Fault) → KeepsEarly agent journal e → keeps_step agent journal V P e ≡ true → keeps_run agent journal (run_at runs n) V P e ≡ true
        → fault_among n from_answer ≡ f → fault_at agent lines runs journal e ≡ f
    past-run f early h k m = past-step f early h (skip n why.Run (keeps_run agent journal (run_at runs n) V P e) from_answer f k m)

    pub breaks-step : KeepsEarly agent journal e → keeps_step agent journal V P e ≡ false → fault_at agent lines runs journal e ≡ found why.Step
    breaks-step early h = past-early (found why.Step) early (stop n why.Step (keeps_step agent journal V P e) from_run h)

    pub breaks-run : KeepsEarly agent journal e → keeps_step agent journal V P e ≡ true → keeps_run agent journal (run_at runs n) V P e ≡ false
        → fault_at agent lines runs journal e ≡ found why.Run
    breaks-run early h k = past-step (found why.Run) early h (stop n why.Run (keeps_run agent journal (run_at runs n) V P e) from_answer k)

    pub breaks-answer : KeepsEarly agent journal e → keeps_step agent journal V P e ≡ true → keeps_run agent journal (run_at runs n) V P e ≡ true
        → keeps_answer agent journal V P e ≡ false → fault_at agent lines runs journal e ≡ found why.Answer
    breaks-answer early h k m = past-run (found why.Answer) early h k (stop n why.Answer (keeps_answer agent journal V P e) from_close m)

    pub breaks-close : KeepsEarly agent journal e → keeps_step agent journal V P e ≡ true → keeps_run agent journal (run_at runs n) V P e ≡ true
        → keeps_answer agent journal V P e ≡ true → keeps_close agent journal e ≡ false → fault_at agent lines runs journal e ≡ found why.Close
    breaks-close early h k m c =
        past-run (found why.Close) early h k
        (skip n why.Answer (keeps_answer agent journal V P e) from_close (found why.Close) m (stop n why.Close (keeps_close agent journal e) from_text c))

    early-of : Keeps agent journal runs e → KeepsEarly agent journal e
    early-of k = record { after = k.after; poster = k.poster; place = k.place; taken = k.taken }

    past-all : (f : Option Fault) → Keeps agent journal runs e → fault_among n from_text ≡ f → fault_at agent lines runs journal e ≡ f
    past-all f k h =
        past-run f (early-of k) k.step k.run
        (skip n why.Answer (keeps_answer agent journal V P e) from_close f k.answer (skip n why.Close (keeps_close agent journal e) from_text f k.close h))

    pub breaks-text : Keeps agent journal runs e → keeps_text agent journal runs lines e ≡ false → fault_at agent lines runs journal e ≡ found why.Text
    breaks-text k h = past-all (found why.Text) k (stop n why.Text (keeps_text agent journal runs lines e) [] h)

    pub breaks-none : Keeps agent journal runs e → keeps_text agent journal runs lines e ≡ true → fault_at agent lines runs journal e ≡ None
    breaks-none k h = past-all None k (skip n why.Text (keeps_text agent journal runs lines e) [] None h refl)

  pub breaks-after : keeps_after agent journal e ≡ false → BreaksFirst agent journal e why.After
  breaks-after h lines runs = stop n why.After (keeps_after agent journal e) (from_poster lines runs) h

  pub breaks-poster : keeps_after agent journal e ≡ true → keeps_poster agent journal e ≡ false → BreaksFirst agent journal e why.Poster
  breaks-poster h k lines runs = past-after lines runs (found why.Poster) h (stop n why.Poster (keeps_poster agent journal e) (from_place lines runs) k)

  pub breaks-place : keeps_after agent journal e ≡ true → keeps_poster agent journal e ≡ true → keeps_place agent journal e ≡ false → BreaksFirst agent journal e why.Place
  breaks-place h k m lines runs =
      past-after lines runs (found why.Place) h
      (past-poster lines runs (found why.Place) k (stop n why.Place (keeps_place agent journal e) (from_taken lines runs) m))

  pub breaks-taken : keeps_after agent journal e ≡ true → keeps_poster agent journal e ≡ true → keeps_place agent journal e ≡ true → keeps_taken agent journal e ≡ false
      → BreaksFirst agent journal e why.Taken
  breaks-taken h k m t lines runs =
      past-after lines runs (found why.Taken) h
      (past-poster lines runs (found why.Taken) k
      (past-place lines runs (found why.Taken) m (stop n why.Taken (keeps_taken agent journal e) (from_step lines runs) t)))
