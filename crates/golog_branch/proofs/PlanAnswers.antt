-- The answers with which a program that follows plans may end.
use Rattle.std.proofs.Common.{◌≡◌, ℕ, Bool, true, false, Option, Some, None, [], ◌∷◌, refl}
use Rattle.std.specs.Prelude.{not}
use Rattle.golog_tree.specs.declared.agent.Agent.{Agent}
use Rattle.golog_semantics.specs.declared.Mode.TheVariants.{Must}
use Rattle.golog_semantics.specs.declared.journal.Answer.{Answer}
use Rattle.golog_semantics.specs.declared.journal.Answer.TheVariants.{Done as AnswerDone, Stuck, Unknown, Depth, Fuel as NoFuel, Unanswered, Full, Deep, Memory}
use Rattle.golog_semantics.specs.declared.journal.Entry.TheVariants.{End}
use Rattle.golog_semantics.specs.Answer.{first_that_fits}
use Rattle.golog_semantics.specs.Journal.{Journal, is_full, is_quiet, lacks_results}
use Rattle.golog_semantics.specs.Online.{same_answer}
use Rattle.golog_semantics.specs.Progress.{values_after}
use Rattle.golog_semantics.specs.Search.{final}
use Rattle.golog_branch.specs.Following.{ahead, kept_after}
use Rattle.golog_branch.specs.PlanEnds.{EndsPlainly}
use Rattle.golog_branch.specs.PlanJournals.{KeepsPlanned, is_abandoned, is_found, is_fuel, is_large}

never : false ≡ true → ⊥
never h = cc

-- the answer of a program, by the tests that are asked for it
abbrev pub answer_by : (full abandoned lacks final fuel large found unquiet : Bool) → Option Answer
answer_by full abandoned lacks final fuel large found unquiet =
    first_that_fits
    ((full, Some Full) ∷ (abandoned, Some Unanswered) ∷ (lacks, None) ∷ (final, Some AnswerDone) ∷ (fuel, Some NoFuel) ∷ (large, Some Deep)
    ∷ (found, None) ∷ (unquiet, None) ∷ [])
    (Some Depth)

-- done tells of a certain end
pub done-told : (full abandoned lacks final fuel large found unquiet : Bool)
    → same_answer (answer_by full abandoned lacks final fuel large found unquiet) AnswerDone ≡ true → final ≡ true
done-told true a l f u g d q h = absurd (never h)
done-told false true l f u g d q h = absurd (never h)
done-told false false true f u g d q h = absurd (never h)
done-told false false false true u g d q h = refl
done-told false false false false true g d q h = absurd (never h)
done-told false false false false false true d q h = absurd (never h)
done-told false false false false false false true q h = absurd (never h)
done-told false false false false false false false true h = absurd (never h)
done-told false false false false false false false false h = absurd (never h)

-- no test tells of these two
not-stuck : (full abandoned lacks final fuel large found unquiet : Bool)
    → same_answer (answer_by full abandoned lacks final fuel large found unquiet) Stuck ≡ true → ⊥
not-stuck true a l f u g d q h = never h
not-stuck false true l f u g d q h = never h
not-stuck false false true f u g d q h = never h
not-stuck false false false true u g d q h = never h
not-stuck false false false false true g d q h = never h
not-stuck false false false false false true d q h = never h
not-stuck false false false false false false true q h = never h
not-stuck false false false false false false false true h = never h
not-stuck false false false false false false false false h = never h

not-unknown : (full abandoned lacks final fuel large found unquiet : Bool)
    → same_answer (answer_by full abandoned lacks final fuel large found unquiet) Unknown ≡ true → ⊥
not-unknown true a l f u g d q h = never h
not-unknown false true l f u g d q h = never h
not-unknown false false true f u g d q h = never h
not-unknown false false false true u g d q h = never h
not-unknown false false false false true g d q h = never h
not-unknown false false false false false true d q h = never h
not-unknown false false false false false false true q h = never h
not-unknown false false false false false false false true h = never h
not-unknown false false false false false false false false h = never h

module _ (agent : Agent) (depth fuel : ℕ) (before : Journal) where
  pub ends-plainly : (a : Answer) → KeepsPlanned agent depth fuel before (End a) → EndsPlainly a
  ends-plainly Stuck keeps =
      let values = values_after agent before in
      let k = kept_after agent depth fuel before in
      let x = ahead agent depth fuel values k in
      absurd (not-stuck (is_full before) (is_abandoned agent before) (lacks_results agent before) (final agent values Must k.left) (is_fuel x) (is_large x) (is_found x) (not (is_quiet agent before)) keeps.answer)
  ends-plainly Unknown keeps =
      let values = values_after agent before in
      let k = kept_after agent depth fuel before in
      let x = ahead agent depth fuel values k in
      absurd (not-unknown (is_full before) (is_abandoned agent before) (lacks_results agent before) (final agent values Must k.left) (is_fuel x) (is_large x) (is_found x) (not (is_quiet agent before)) keeps.answer)
  ends-plainly AnswerDone keeps = tt
  ends-plainly Depth keeps = tt
  ends-plainly NoFuel keeps = tt
  ends-plainly Unanswered keeps = tt
  ends-plainly Full keeps = tt
  ends-plainly Deep keeps = tt
  ends-plainly Memory keeps = tt
