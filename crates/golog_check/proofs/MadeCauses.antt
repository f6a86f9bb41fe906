-- The agent that a draft makes: its effects, and what is built in.
use Rattle.std.proofs.Common.{◌≡◌, ℕ, zero, suc, ◌+◌, ◌<◌, ◌≤◌, Bool, true, false, List, [], ◌∷◌, ◌++◌, length, Option, Ok, Some, None, refl, sym, ap, subst, ◌∙◌, append_assoc, arith}
use Rattle.std.specs.Prelude.{◌==◌, nat_lt, slice_get, if◌then◌else◌}
use Rattle.std.specs.List.{list_all}
use Rattle.std.specs.Option.{option_map_or}
use Rattle.std.proofs.lemmas.Bool.{eq-eqb, ne_eqb}
use Rattle.std.proofs.lemmas.List.{append-nil}
use Rattle.std.proofs.lemmas.Option.{slice_get_within}
use Rattle.golog_tree.specs.declared.agent.Agent.{Agent}
use Rattle.golog_tree.specs.declared.cond.Arg.{Arg}
use Rattle.golog_tree.specs.declared.cond.Arg.TheVariants.{Const, Var}
use Rattle.golog_tree.specs.declared.draft_cond.DraftArg.{DraftArg}
use Rattle.golog_tree.specs.declared.draft_cond.DraftArg.TheVariants.{Word, Number}
use Rattle.golog_tree.specs.Ground.{sort_size}
use Rattle.golog_rows.specs.Reading.{Reading, gives, ◌>>=◌}
use Rattle.golog_semantics.specs.Text.{Text}
use Rattle.golog_semantics.specs.Fits as fits
use Rattle.golog_semantics.specs.Fits.{bound_from, is_sort, arg_fits}
use Rattle.golog_semantics.specs.WellFormed.{head_sorts}
use Rattle.golog_semantics.proofs.Tests.{and_both, and_cases}
use Rattle.golog_semantics.proofs.GroundNumbers.{slice_get-left, slice_get-right}
use Rattle.golog_check.specs.declared.heads.Head.{Head}
use Rattle.golog_check.specs.declared.scope.Variable.{Variable}
use Rattle.golog_check.specs.DeclaredItems.{Declared}
use Rattle.golog_check.specs.Scope.{Scope, variable_no, within}
use Rattle.golog_check.specs.Terms.{arg_in}
use Rattle.golog_check.specs.Heads.{binds, binding, head_after, head_from}
use Rattle.golog_check.specs.CheckLaws.{HasItems, Binds}
use Rattle.golog_check.proofs.Readings.{both, ok-same}
use Rattle.golog_check.proofs.ArgLaws.{arg-fits}
use Rattle.golog_check.proofs.Vars.{outermost, outermost-long}
use Rattle.golog_check.proofs.MadeActions.{bound-at}

-- the sorts of variables in scope, the outermost first
abbrev pub found_of : Scope → List ℕ
found_of = outermost (λ variable. variable.sort)

pub found-long : (scope : Scope) → length (found_of scope) ≡ length scope
found-long = outermost-long (λ variable. variable.sort)

-- what a variable is bound to is the sort at its number
bound-get : (first : ℕ) (sorts : List ℕ) (i sort : ℕ) → bound_from first sorts (first + i) ≡ Some sort → slice_get sorts i ≡ Some sort
bound-get first [] i sort h = absurd (cc)
bound-get first (own ∷ sorts) zero sort h =
    sym (ap (λ (b : Bool). if b then Some own else bound_from (suc first) sorts (first + 0)) (eq-eqb (first + 0) first (omega arith))) ∙ h
bound-get first (own ∷ sorts) (suc i) sort h =
    let next : first + suc i ≡ suc first + i = omega arith in
    bound-get (suc first) sorts i sort (ap (λ x. bound_from (suc first) sorts x) (sym next)
    ∙ sym (ap (λ (b : Bool). if b then Some own else bound_from (suc first) sorts (first + suc i)) (ne_eqb (first + suc i) first (λ s. omega arith))) ∙ h)

-- a scope binds its variables to their sorts
pub binds-found : (agent : Agent) (bound : fits.Scope) (scope : Scope)
    → ((i sort : ℕ) → slice_get (found_of scope) i ≡ Some sort → bound i ≡ Some sort)
    → list_all (λ (variable : Variable). is_sort agent variable.sort) scope ≡ true → Binds agent bound scope
binds-found agent bound [] at are = tt
binds-found agent bound (variable ∷ outer) at are =
    let t = and_cases (is_sort agent variable.sort) (list_all (λ (v : Variable). is_sort agent v.sort) outer) are in
    let long = found-long outer in
    let last : slice_get (found_of outer ++ variable.sort ∷ []) (length outer) ≡ Some variable.sort =
    slice_get-right (found_of outer) (variable.sort ∷ []) (length outer) 0 (omega (arith, long)) in (
      (at (length outer) variable.sort last, t.0),
      binds-found agent bound outer (λ i s e.
          at i s (slice_get-left (found_of outer) (variable.sort ∷ []) i (slice_get_within (found_of outer) i s e) ∙ e)) t.1,
    )

module _ (agent : Agent) (names : Declared) (has : HasItems agent names) where
  abbrev bound_in : Scope → fits.Scope
  bound_in scope = bound_from 0 (found_of scope)

  abbrev are_sorted : Scope → Bool
  are_sorted scope = list_all (λ (variable : Variable). is_sort agent variable.sort) scope

  pub scope-binds : (scope : Scope) → are_sorted scope ≡ true → Binds agent (bound_from 0 (found_of scope)) scope
  scope-binds scope are =
      binds-found agent (bound_from 0 (found_of scope)) scope (λ i s e.
      ap (bound_from 0 (found_of scope)) (let z : i ≡ 0 + i = omega arith in z) ∙ bound-at 0 (found_of scope) i s e) are

  -- a head behind another, and that its arguments fit
  pub record HeadFits (head after : Head) (sorts : List ℕ) : Type 0 where
    pub added : List Arg
    pub args : after.args ≡ head.args ++ added
    pub fit : (places : List ℕ) (more : List Arg)
        → head_sorts agent (sorts ++ places) (added ++ more) (found_of head.scope)
        ≡ head_sorts agent places more (found_of after.scope)
    pub sorted : list_all (λ (variable : Variable). is_sort agent variable.sort) after.scope ≡ true
    pub long : length after.scope ≤ length head.scope + length sorts

  -- one argument fits
  const-fits : (scope : Scope) (sort c : ℕ) → nat_lt c (sort_size agent sort) ≡ true → (places : List ℕ) (more : List Arg)
      → head_sorts agent (sort ∷ places) (Const c ∷ more) (found_of scope) ≡ head_sorts agent places more (found_of scope)
  const-fits scope sort c h places more = ap (λ (b : Bool). if b then head_sorts agent places more (found_of scope) else None) h

  var-fits : (scope : Scope) (sort x : ℕ) → option_map_or (λ s. s == sort) (bound_from 0 (found_of scope) x) false ≡ true
      → (places : List ℕ) (more : List Arg)
      → head_sorts agent (sort ∷ places) (Var x ∷ more) (found_of scope) ≡ head_sorts agent places more (found_of scope)
  var-fits scope sort x h places more = by (bound_from 0 (found_of scope) x) refl h
    where
      by : (o : Option ℕ) → bound_from 0 (found_of scope) x ≡ o → option_map_or (λ s. s == sort) o false ≡ true
          → head_sorts agent (sort ∷ places) (Var x ∷ more) (found_of scope) ≡ head_sorts agent places more (found_of scope)
      by None e k = absurd (cc)
      by (Some s) e k =
          let found = found_of scope in
          let there : slice_get found x ≡ Some s = bound-get 0 found x s (ap (bound_from 0 found) (let z : 0 + x ≡ x = omega arith in z) ∙ e) in
          let low : x < length found = slice_get_within found x s there in
          ap (λ (b : Bool). if b then head_sorts agent places more (found ++ sort ∷ []) else (if option_map_or (λ own. own == sort) (slice_get found x) false then head_sorts agent places more found else None)) (ne_eqb x (length found) (λ same. omega arith))
          ∙ ap (λ (b : Bool). if b then head_sorts agent places more found else None)
          (ap (λ (o : Option ℕ). option_map_or (λ own. own == sort) o false) there ∙ k)

  new-fits : (scope : Scope) (word : Text) (sort : ℕ) → length scope ≤ 255 → (places : List ℕ) (more : List Arg)
      → head_sorts agent (sort ∷ places) (Var (variable_no scope) ∷ more) (found_of scope)
      ≡ head_sorts agent places more (found_of (within word sort scope))
  new-fits scope word sort few places more =
      let found = found_of scope in
      let long = found-long scope in
      let no : variable_no scope ≡ length found = omega (arith, few, long) in
      ap (λ (b : Bool). if b then head_sorts agent places more (found ++ sort ∷ []) else (if option_map_or (λ own. own == sort) (slice_get found (variable_no scope)) false then head_sorts agent places more found else None))
      (eq-eqb (variable_no scope) (length found) no)

  arg-at : (scope : Scope) (sort : ℕ) (a : Arg) → arg_fits agent (bound_from 0 (found_of scope)) sort a ≡ true → (places : List ℕ) (more : List Arg)
      → head_sorts agent (sort ∷ places) (a ∷ more) (found_of scope) ≡ head_sorts agent places more (found_of scope)
  arg-at scope sort (Const c) h places more = const-fits scope sort c h places more
  arg-at scope sort (Var x) h places more = var-fits scope sort x h places more

  step-bound : (head : Head) (sort : ℕ) (arg : DraftArg) (after : Head) → is_sort agent sort ≡ true → are_sorted head.scope ≡ true
      → length head.scope ≤ 31 → binds names head.scope arg ≡ true → binding head sort arg ≡ after → HeadFits head after (sort ∷ [])
  step-bound head sort (Word word at) after is are few b e =
      subst (λ (h : Head). HeadFits head h (sort ∷ [])) e (record {
        added = Var (variable_no head.scope) ∷ [];
        args = refl;
        fit = λ places more. new-fits head.scope word sort (omega (arith, few)) places more;
        sorted = and_both (is_sort agent sort) (are_sorted head.scope) is are;
        long = omega arith;
      })
  step-bound head sort (Number number at) after is are few b e = absurd (cc)

  step-arg : (head : Head) (sort : ℕ) (arg : DraftArg) (after : Head) → are_sorted head.scope ≡ true → length head.scope ≤ 31
      → (arg_in names head.scope sort arg >>= λ a. gives (record head { args = head.args ++ a ∷ [] })).outcome ≡ Ok after
      → HeadFits head after (sort ∷ [])
  step-arg head sort arg after are few h =
      let next : Arg → Reading Head = λ a. gives (record head { args = head.args ++ a ∷ [] }) in
      let b = both (arg_in names head.scope sort arg) next after h in
      let fit = arg-fits agent names has (bound_from 0 (found_of head.scope)) head.scope (scope-binds head.scope are)
      (omega (arith, few)) sort arg b.value b.one in
      subst (λ (g : Head). HeadFits head g (sort ∷ [])) (ok-same (record head { args = head.args ++ b.value ∷ [] }) after b.other) (record {
        added = b.value ∷ [];
        args = refl;
        fit = λ places more. arg-at head.scope sort b.value fit places more;
        sorted = are;
        long = omega arith;
      })

  step : (b : Bool) (head : Head) (sort : ℕ) (arg : DraftArg) (after : Head) → is_sort agent sort ≡ true → are_sorted head.scope ≡ true
      → length head.scope ≤ 31 → binds names head.scope arg ≡ b
      → (if b then gives (binding head sort arg)
      else (arg_in names head.scope sort arg >>= λ a. gives (record head { args = head.args ++ a ∷ [] }))).outcome ≡ Ok after
      → HeadFits head after (sort ∷ [])
  step true head sort arg after is are few e h = step-bound head sort arg after is are few e (ok-same (binding head sort arg) after h)
  step false head sort arg after is are few e h = step-arg head sort arg after are few h

  step-of : (head : Head) (sort : ℕ) (arg : DraftArg) (after : Head) → is_sort agent sort ≡ true → are_sorted head.scope ≡ true
      → length head.scope ≤ 31 → (head_after names head sort arg).outcome ≡ Ok after → HeadFits head after (sort ∷ [])
  unfolding head_after
  step-of head sort arg after is are few h = step (binds names head.scope arg) head sort arg after is are few refl h

  -- the arguments of a head fit, one after another
  pub head-fits : (sorts : List ℕ) (args : List DraftArg) (head after : Head) → length args ≡ length sorts
      → list_all (is_sort agent) sorts ≡ true → are_sorted head.scope ≡ true → length head.scope + length sorts ≤ 32
      → (head_from names head sorts args).outcome ≡ Ok after → HeadFits head after sorts
  head-fits [] [] head after l is are few h =
      subst (λ (g : Head). HeadFits head g []) (ok-same head after h) (record {
        added = [];
        args = sym (append-nil head.args);
        fit = λ places more. refl;
        sorted = are;
        long = omega arith;
      })
  head-fits [] (arg ∷ args) head after l is are few h = absurd (omega (arith, l))
  head-fits (sort ∷ sorts) [] head after l is are few h = absurd (omega (arith, l))
  head-fits (sort ∷ sorts) (arg ∷ args) head after l is are few h =
      let b = both (head_after names head sort arg) (λ (g : Head). head_from names g sorts args) after h in
      let t = and_cases (is_sort agent sort) (list_all (is_sort agent) sorts) is in
      let one = step-of head sort arg b.value t.0 are (omega (arith, few)) b.one in
      let rest = head-fits sorts args b.value after (omega (arith, l)) t.1 one.sorted (omega (arith, one.long, few)) b.other in
      record {
        added = one.added ++ rest.added;
        args = rest.args ∙ ap (λ xs. xs ++ rest.added) one.args ∙ append_assoc head.args one.added rest.added;
        fit = λ places more.
            ap (λ xs. head_sorts agent (sort ∷ sorts ++ places) xs (found_of head.scope)) (append_assoc one.added rest.added more)
            ∙ one.fit (sorts ++ places) (rest.added ++ more) ∙ rest.fit places more;
        sorted = rest.sorted;
        long = omega (arith, one.long, rest.long);
      }
