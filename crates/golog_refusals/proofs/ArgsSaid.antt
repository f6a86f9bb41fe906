-- Arguments that drafts say are those that they are taken for, and what they are taken for they say.
use Rattle.std.proofs.Common.{◌≡◌, ℕ, zero, suc, true, false, IsTrue, ◌&&◌, ◌==◌, List, [], ◌∷◌, ◌++◌, length, map, refl, sym, ap, subst, ◌∙◌, append_assoc, append-nil, Option, Some, None, Ok, arith}
use Rattle.std.specs.Prelude.{not, slice_get, option_map}
use Rattle.std.specs.Option.{option_map_or}
use Rattle.std.proofs.lemmas.Bool.{eqb-true}
use Rattle.golog_tree.specs.declared.agent.FluentItem.{FluentItem}
use Rattle.golog_tree.specs.declared.cond.Arg.{Arg}
use Rattle.golog_tree.specs.declared.cond.Arg.TheVariants.{Const}
use Rattle.golog_tree.specs.declared.draft_cond.DraftArg.{DraftArg}
use Rattle.golog_tree.specs.declared.draft_cond.DraftArg.TheVariants.{Word, Number}
use Rattle.golog_rows.specs.Reading.{found, each}
use Rattle.golog_semantics.proofs.Tests.{and_both, and_cases}
use Rattle.golog_draft.specs.Drafts.{fluent_keeps}
use Rattle.golog_draft.specs.DraftPlaces.{arg_place}
use Rattle.golog_check.specs.declared.scope.Meant.{Meant}
use Rattle.golog_check.specs.Codes.{SORT_CLASH, UNBOUND}
use Rattle.golog_check.specs.DeclaredItems.{Declared}
use Rattle.golog_check.specs.Sorts.{number_in, fluent_sorts}
use Rattle.golog_check.specs.Scope.{Scope, meaning}
use Rattle.golog_check.specs.Terms.{is_other, arg_sort, arg_as, arg_in, next_arg, args_in}
use Rattle.golog_check.specs.CheckLaws.{signature_of}
use Rattle.golog_check.proofs.Readings.{both, past, found-it, ok-same}
use Rattle.golog_check.proofs.ArgLaws.{get-middle, some-same, none-not}
use Rattle.golog_check.proofs.TermLaws.{not-false}
use Rattle.golog_refusals.specs.Says.{same_arg, arg_says, args_say}
use Rattle.golog_refusals.proofs.Taking.{never, past-by, then-by, same-arg-is, same-arg-itself, longer}

-- what the draft says is of the sort, and is what it is taken for
word-taken : (sort at : ℕ) (o : Option Meant) (a : Arg)
    → option_map_or (λ (m : Meant). m.sort == sort && same_arg m.arg a) o false ≡ true
    → (is_other (option_map (λ (m : Meant). m.sort) o) sort ≡ false)
    × ((found UNBOUND at (option_map (λ (m : Meant). m.arg) o)).outcome ≡ Ok a)
word-taken sort at None a h = absurd (never h)
word-taken sort at (Some m) a h =
    let k = and_cases (m.sort == sort) (same_arg m.arg a) h in
    (ap not k.0, ap Ok (same-arg-is m.arg a k.1))

number-taken : (at : ℕ) (o : Option ℕ) (a : Arg)
    → option_map_or (λ (place : ℕ). same_arg (Const place) a) o false ≡ true
    → (found SORT_CLASH at (option_map Const o)).outcome ≡ Ok a
number-taken at None a h = absurd (never h)
number-taken at (Some place) a h = ap Ok (same-arg-is (Const place) a h)

word-said : (sort at : ℕ) (o : Option Meant) (a : Arg) → is_other (option_map (λ (m : Meant). m.sort) o) sort ≡ false
    → option_map (λ (m : Meant). m.arg) o ≡ Some a
    → option_map_or (λ (m : Meant). m.sort == sort && same_arg m.arg a) o false ≡ true
word-said sort at None a other h = absurd (none-not a h)
word-said sort at (Some m) a other h =
    and_both (m.sort == sort) (same_arg m.arg a) (not-false (m.sort == sort) other)
    (subst (λ (x : Arg). same_arg m.arg x ≡ true) (some-same m.arg a h) (same-arg-itself m.arg))

number-said : (o : Option ℕ) (a : Arg) → option_map Const o ≡ Some a
    → option_map_or (λ (place : ℕ). same_arg (Const place) a) o false ≡ true
number-said None a h = absurd (none-not a h)
number-said (Some place) a h =
    subst (λ (x : Arg). same_arg (Const place) x ≡ true) (some-same (Const place) a h) (same-arg-itself (Const place))

module _ (names : Declared) (scope : Scope) where
  pub arg-as-taken : (sort : ℕ) (draft : DraftArg) (a : Arg) → arg_says names scope sort draft a ≡ true
      → (is_other (arg_sort names scope draft) sort ≡ false) × ((arg_as names scope sort draft).outcome ≡ Ok a)
  arg-as-taken sort (Word word at) a h = word-taken sort at (meaning names scope word at) a h
  arg-as-taken sort (Number number at) a h = (refl, number-taken at (number_in names sort number) a h)

  pub arg-as-said : (sort : ℕ) (draft : DraftArg) (a : Arg) → is_other (arg_sort names scope draft) sort ≡ false
      → (arg_as names scope sort draft).outcome ≡ Ok a → arg_says names scope sort draft a ≡ true
  arg-as-said sort (Word word at) a other h =
      word-said sort at (meaning names scope word at) a other
      (found-it UNBOUND at (option_map (λ (m : Meant). m.arg) (meaning names scope word at)) a h)
  arg-as-said sort (Number number at) a other h =
      number-said (number_in names sort number) a
      (found-it SORT_CLASH at (option_map Const (number_in names sort number)) a h)

  -- an argument that the draft says, in a place of the sort
  pub arg-taken : (sort : ℕ) (draft : DraftArg) (a : Arg) → IsTrue (arg_says names scope sort draft a)
      → (arg_in names scope sort draft).outcome ≡ Ok a
  unfolding arg_in
  arg-taken sort draft a h =
      let k = arg-as-taken sort draft a h in
      past-by (is_other (arg_sort names scope draft) sort) SORT_CLASH (arg_place draft)
      (arg_as names scope sort draft) k.0 ∙ k.1

  pub arg-said : (sort : ℕ) (draft : DraftArg) (a : Arg) → (arg_in names scope sort draft).outcome ≡ Ok a
      → IsTrue (arg_says names scope sort draft a)
  unfolding arg_in
  arg-said sort draft a h =
      let p = past (is_other (arg_sort names scope draft) sort) SORT_CLASH (arg_place draft)
      (arg_as names scope sort draft) a h in
      arg-as-said sort draft a p.none p.rest

  next-taken : (front rest : List ℕ) (sort : ℕ) (done : List Arg) (draft : DraftArg) (a : Arg)
      → length done ≡ length front
      → arg_says names scope sort draft a ≡ true
      → (next_arg names scope (front ++ sort ∷ rest) done draft).outcome ≡ Ok a
  unfolding next_arg
  next-taken front rest sort done draft a long h =
      then-by (found SORT_CLASH (arg_place draft) (slice_get (front ++ sort ∷ rest) (length done)))
      (λ s. arg_in names scope s draft) sort
      (ap (λ (o : Option ℕ). (found SORT_CLASH (arg_place draft) o).outcome)
      (ap (slice_get (front ++ sort ∷ rest)) long ∙ get-middle front rest sort))
      ∙ arg-taken sort draft a h

  next-said : (front rest : List ℕ) (sort : ℕ) (done : List Arg) (draft : DraftArg) (a : Arg)
      → length done ≡ length front
      → (next_arg names scope (front ++ sort ∷ rest) done draft).outcome ≡ Ok a
      → arg_says names scope sort draft a ≡ true
  unfolding next_arg
  next-said front rest sort done draft a long h =
      let b = both (found SORT_CLASH (arg_place draft) (slice_get (front ++ sort ∷ rest) (length done)))
      (λ s. arg_in names scope s draft) a h in
      let e = found-it SORT_CLASH (arg_place draft) (slice_get (front ++ sort ∷ rest) (length done)) b.value b.one in
      let is : sort ≡ b.value =
      some-same sort b.value (sym (ap (slice_get (front ++ sort ∷ rest)) long ∙ get-middle front rest sort) ∙ e) in
      subst (λ (s : ℕ). arg_says names scope s draft a ≡ true) (sym is) (arg-said b.value draft a b.other)

  args-from : (drafts : List DraftArg) (front rest : List ℕ) (done args : List Arg) → length done ≡ length front
      → args_say names scope rest drafts args ≡ true
      → (each (next_arg names scope (front ++ rest)) done drafts).outcome ≡ Ok (done ++ args)
  args-from [] front [] done [] long h = ap Ok (sym (append-nil done))
  args-from [] front [] done (a ∷ args) long h = absurd (never h)
  args-from [] front (s ∷ rest) done [] long h = absurd (never h)
  args-from [] front (s ∷ rest) done (a ∷ args) long h = absurd (never h)
  args-from (d ∷ drafts) front [] done [] long h = absurd (never h)
  args-from (d ∷ drafts) front [] done (a ∷ args) long h = absurd (never h)
  args-from (d ∷ drafts) front (s ∷ rest) done [] long h = absurd (never h)
  args-from (d ∷ drafts) front (s ∷ rest) done (a ∷ args) long h =
      let k = and_cases (arg_says names scope s d a) (args_say names scope rest drafts args) h in
      then-by (next_arg names scope (front ++ s ∷ rest) done d)
      (λ x. each (next_arg names scope (front ++ s ∷ rest)) (done ++ x ∷ []) drafts) a
      (next-taken front rest s done d a long k.0)
      ∙ subst
      (λ (ss : List ℕ). (each (next_arg names scope ss) (done ++ a ∷ []) drafts).outcome ≡ Ok (done ++ a ∷ args))
      (append_assoc front (s ∷ []) rest)
      (subst
      (λ (xs : List Arg). (each (next_arg names scope ((front ++ s ∷ []) ++ rest)) (done ++ a ∷ []) drafts).outcome
      ≡ Ok xs)
      (append_assoc done (a ∷ []) args)
      (args-from drafts (front ++ s ∷ []) rest (done ++ a ∷ []) args (longer done front a s long) k.1))

  -- arguments that the drafts say, in places of these sorts
  pub args-taken : (sorts : List ℕ) (drafts : List DraftArg) (args : List Arg)
      → IsTrue (args_say names scope sorts drafts args)
      → (args_in names scope sorts drafts).outcome ≡ Ok args
  args-taken sorts drafts args h = args-from drafts [] sorts [] args refl h

  -- what drafts say behind what was said
  record Behind (rest : List ℕ) (drafts : List DraftArg) (done result : List Arg) : Type 0 where
    args : List Arg
    is : done ++ args ≡ result
    said : args_say names scope rest drafts args ≡ true

  said-from : (drafts : List DraftArg) (front rest : List ℕ) (done result : List Arg)
      → length drafts ≡ length rest → length done ≡ length front
      → (each (next_arg names scope (front ++ rest)) done drafts).outcome ≡ Ok result → Behind rest drafts done result
  said-from [] front [] done result many long h =
      record { args = []; is = append-nil done ∙ ok-same done result h; said = refl }
  said-from [] front (s ∷ rest) done result many long h = absurd (cc)
  said-from (d ∷ drafts) front [] done result many long h = absurd (cc)
  said-from (d ∷ drafts) front (s ∷ rest) done result many long h =
      let b = both (next_arg names scope (front ++ s ∷ rest) done d)
      (λ x. each (next_arg names scope (front ++ s ∷ rest)) (done ++ x ∷ []) drafts) result h in
      let more = said-from drafts (front ++ s ∷ []) rest (done ++ b.value ∷ []) result (omega (arith, many))
      (longer done front b.value s long)
      (subst (λ (ss : List ℕ). (each (next_arg names scope ss) (done ++ b.value ∷ []) drafts).outcome ≡ Ok result)
      (sym (append_assoc front (s ∷ []) rest)) b.other) in
      record {
        args = b.value ∷ more.args;
        is = sym (append_assoc done (b.value ∷ []) more.args) ∙ more.is;
        said = and_both (arg_says names scope s d b.value) (args_say names scope rest drafts more.args)
            (next-said front rest s done d b.value long b.one) more.said;
      }

  pub args-said : (sorts : List ℕ) (drafts : List DraftArg) (args : List Arg) → length drafts ≡ length sorts
      → (args_in names scope sorts drafts).outcome ≡ Ok args → IsTrue (args_say names scope sorts drafts args)
  args-said sorts drafts args many h =
      let r = said-from drafts [] sorts [] args many refl h in
      subst (λ (xs : List Arg). args_say names scope sorts drafts xs ≡ true) r.is r.said

-- a fluent has as many arguments as there are sorts for them
arity-of : (items : List FluentItem) (fluent : ℕ) (drafts : List DraftArg)
    → option_map_or (λ (n : ℕ). n == length drafts) (slice_get (map (λ (i : FluentItem). length i.args) items) fluent)
    false ≡ true
    → length drafts ≡ length (option_map_or (λ (i : FluentItem). i.args) (slice_get items fluent) [])
arity-of [] fluent drafts h = absurd (never h)
arity-of (i ∷ items) zero drafts h = sym (eqb-true (length i.args) (length drafts) h)
arity-of (i ∷ items) (suc fluent) drafts h = arity-of items fluent drafts h

pub arity : (names : Declared) (fluent : ℕ) (drafts : List DraftArg)
    → fluent_keeps (signature_of names) fluent drafts ≡ true
    → length drafts ≡ length (fluent_sorts names fluent)
arity names fluent drafts h = arity-of names.fluents fluent drafts h
