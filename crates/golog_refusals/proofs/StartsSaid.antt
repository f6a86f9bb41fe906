-- Start values: a draft is taken for the items that it says, and says those that it is taken for.
use Rattle.std.proofs.Common.{◌≡◌, ℕ, true, List, [], ◌∷◌, map, Option, Result, Ok, Some, None, refl, sym, ap, subst, ◌∙◌, eqb-true, eq-eqb, arith}
use Rattle.std.specs.Prelude.{◌==◌}
use Rattle.golog_tree.specs.declared.agent.Agent.{Agent}
use Rattle.golog_tree.specs.declared.cond.Arg.{Arg}
use Rattle.golog_tree.specs.declared.cond.Arg.TheVariants.{Const, Var}
use Rattle.golog_tree.specs.declared.draft.DraftTheory.{DraftTheory}
use Rattle.golog_tree.specs.declared.draft.DraftProgram.{DraftProgram}
use Rattle.golog_tree.specs.declared.draft.DraftStart.{DraftStart}
use Rattle.golog_tree.specs.declared.draft.DraftStart.TheVariants.{Each, One}
use Rattle.golog_tree.specs.declared.draft_cond.DraftArg.{DraftArg}
use Rattle.golog_draft.specs.DraftPlaces.{arg_place}
use Rattle.golog_draft.specs.Drafts.{Signature, TheoryKeeps, ProgramKeeps, fluent_keeps, draft_start_keeps}
use Rattle.golog_rows.specs.Reading.{Reading, gives, ◌>>=◌, found}
use Rattle.golog_rows.specs.Least.{CodeAt}
use Rattle.golog_semantics.specs.Truth.{unknown}
use Rattle.golog_semantics.specs.Fits.{nothing_bound, arg_fits, args_fit}
use Rattle.golog_semantics.proofs.Tests.{and_both, and_cases}
use Rattle.golog_check.specs.declared.starts.Start.{Start}
use Rattle.golog_check.specs.declared.starts.Start.TheVariants as start
use Rattle.golog_check.specs.Codes.{BAD_START}
use Rattle.golog_check.specs.DeclaredItems.{Declared}
use Rattle.golog_check.specs.Sorts.{fluent_sorts}
use Rattle.golog_check.specs.Terms.{arg_in, args_in}
use Rattle.golog_check.specs.Starts.{constant, constant_in, own_sort, value_in, one_in, start_in}
use Rattle.golog_check.specs.Least.{refusals}
use Rattle.golog_check.specs.Check.{names_of, agent_of, starts_of}
use Rattle.golog_check.proofs.Readings.{both, found-it, ok-same}
use Rattle.golog_check.proofs.ArgLaws.{args-fit, same-number}
use Rattle.golog_check.proofs.MadeActions.{has-items, same-signature}
use Rattle.golog_check.proofs.MadePrograms.{all-true, const-in}
use Rattle.golog_refusals.specs.Says.{args_say}
use Rattle.golog_refusals.specs.SaysAgent.{AreSaid, value_says, start_says}
use Rattle.golog_refusals.proofs.Taking.{then-by}
use Rattle.golog_refusals.proofs.ArgsSaid.{arg-taken, arg-said, args-taken, args-said, arity}
use Rattle.golog_refusals.proofs.ItemsSaid.{Give, all-taken, all-of}

constants-same : (args : List ℕ) → map constant (map Const args) ≡ args
constants-same [] = refl
constants-same (c ∷ args) = ap (λ xs. c ∷ xs) (constants-same args)

-- arguments within no variable are constants
constants-again : (agent : Agent) (sorts : List ℕ) (args : List Arg) → args_fit agent nothing_bound sorts args ≡ true
    → map Const (map constant args) ≡ args
constants-again agent [] [] h = refl
constants-again agent [] (arg ∷ args) h = absurd (cc)
constants-again agent (sort ∷ sorts) [] h = absurd (cc)
constants-again agent (sort ∷ sorts) (Const c ∷ args) h =
    ap (λ xs. Const c ∷ xs) (constants-again agent sorts args
    (and_cases (arg_fits agent nothing_bound sort (Const c)) (args_fit agent nothing_bound sorts args) h).1)
constants-again agent (sort ∷ sorts) (Var x ∷ args) h = absurd (cc)

each-same : (item fluent value : ℕ) → item ≡ fluent
    → ◌≡◌ {A = Result Start CodeAt} (Ok (start.Each fluent value)) (Ok (start.Each item value))
each-same item fluent value e = ap (λ n. Ok (start.Each n value)) (sym e)

one-same : (item fluent : ℕ) (args : List ℕ) (value : ℕ) → item ≡ fluent
    → ◌≡◌ {A = Result Start CodeAt} (Ok (start.One fluent (map constant (map Const args)) value))
    (Ok (start.One item args value))
one-same item fluent args value e =
    ap {B = Result Start CodeAt} (λ n. Ok (start.One n (map constant (map Const args)) value)) (sym e)
    ∙ ap (λ xs. Ok (start.One item xs value)) (constants-same args)

module _ (names : Declared) where
  value-taken : (sort : ℕ) (given : Option DraftArg) (value : ℕ) → value_says names sort given value ≡ true
      → (value_in names sort given).outcome ≡ Ok value
  unfolding value_in
  value-taken sort None value h = ap (λ n. Ok n) (sym (eqb-true value unknown h))
  value-taken sort (Some arg) value h =
      ap (λ (o : Result Arg CodeAt). (found BAD_START (arg_place arg) (constant_in o)).outcome)
      (arg-taken names [] sort arg (Const value) h)

  value-said : (sort : ℕ) (given : Option DraftArg) (value : ℕ) → (value_in names sort given).outcome ≡ Ok value
      → value_says names sort given value ≡ true
  unfolding value_in
  value-said sort None value h = eq-eqb value unknown (sym (ok-same unknown value h))
  value-said sort (Some arg) value h =
      let o = (arg_in names [] sort arg).outcome in
      arg-said names [] sort arg (Const value)
      (const-in o value (found-it BAD_START (arg_place arg) (constant_in o) value h))

  start-taken : (draft : DraftStart) (item : Start) → start_says names draft item ≡ true
      → (start_in names draft).outcome ≡ Ok item
  unfolding one_in
  start-taken (Each fluent given at) (start.Each item value) h =
      let sort = own_sort names fluent in
      let t = and_cases (item == fluent) (value_says names sort given value) h in
      then-by (value_in names sort given) (λ (v : ℕ). gives (start.Each fluent v)) value
      (value-taken sort given value t.1)
      ∙ each-same item fluent value (eqb-true item fluent t.0)
  start-taken (Each fluent given at) (start.One item args value) h = absurd (cc)
  start-taken (One fluent drafts given at) (start.Each item value) h = absurd (cc)
  start-taken (One fluent drafts given at) (start.One item args value) h =
      let sort = own_sort names fluent in
      let sorts = fluent_sorts names fluent in
      let t = and_cases _ (value_says names sort given value) h in
      let u = and_cases (item == fluent) (args_say names [] sorts drafts (map Const args)) t.0 in
      let made : List Arg → ℕ → Reading Start = λ xs v. gives (start.One fluent (map constant xs) v) in
      then-by (args_in names [] sorts drafts) (λ (xs : List Arg). value_in names sort given >>= made xs)
      (map Const args) (args-taken names [] sorts drafts (map Const args) u.1)
      ∙ then-by (value_in names sort given) (made (map Const args)) value (value-taken sort given value t.1)
      ∙ one-same item fluent args value (eqb-true item fluent u.0)

module _ (theory : DraftTheory) (program : DraftProgram) (keeps : TheoryKeeps theory)
    (also : ProgramKeeps theory program) where
  abbrev names : Declared
  names = names_of theory program

  start-said : (draft : DraftStart) (item : Start) → draft_start_keeps theory draft ≡ true
      → (start_in (names_of theory program) draft).outcome ≡ Ok item
      → start_says (names_of theory program) draft item ≡ true
  unfolding one_in
  start-said (Each fluent given at) item keep h =
      let sort = own_sort names fluent in
      let b = both (value_in names sort given) (λ (v : ℕ). gives (start.Each fluent v)) item h in
      subst (λ (y : Start). start_says names (Each fluent given at) y ≡ true)
      (ok-same (start.Each fluent b.value) item b.other)
      (and_both _ _ (same-number fluent) (value-said names sort given b.value b.one))
  start-said (One fluent drafts given at) item keep h =
      let sort = own_sort names fluent in
      let sorts = fluent_sorts names fluent in
      let made : List Arg → ℕ → Reading Start = λ xs v. gives (start.One fluent (map constant xs) v) in
      let long = arity names fluent drafts
      (ap (λ (s : Signature). fluent_keeps s fluent drafts) (same-signature theory program keeps also) ∙ keep) in
      let a = both (args_in names [] sorts drafts) (λ (xs : List Arg). value_in names sort given >>= made xs) item h in
      let b = both (value_in names sort given) (made a.value) item a.other in
      let fit = args-fit (agent_of theory program) names (has-items theory program keeps also) nothing_bound [] tt
      (omega arith) sorts drafts long a.value a.one in
      let again = constants-again (agent_of theory program) sorts a.value fit in
      subst (λ (y : Start). start_says names (One fluent drafts given at) y ≡ true)
      (ok-same (start.One fluent (map constant a.value) b.value) item b.other)
      (and_both _ _ (and_both _ _ (same-number fluent)
      (ap (args_say names [] sorts drafts) again ∙ args-said names [] sorts drafts a.value long a.one))
      (value-said names sort given b.value b.one))

  pub starts-taken : (items : List Start) → AreSaid (start_says (names_of theory program)) theory.starts items
      → Give (map (start_in (names_of theory program)) theory.starts) items
  starts-taken items said =
      all-taken (start_in names) (start_says names) (λ _. true) (λ _. true)
      (λ draft item k fit says. start-taken names draft item says) theory.starts items
      (all-true theory.starts) (all-true items) said

  pub starts-said : refusals (map (start_in (names_of theory program)) theory.starts) ≡ []
      → AreSaid (start_says (names_of theory program)) theory.starts (starts_of theory (names_of theory program))
  starts-said none =
      all-of (start_in names) (start_says names) (draft_start_keeps theory) start-said theory.starts keeps.starts none
