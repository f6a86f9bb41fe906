-- A head is taken for the arguments that it says, and says those that it is taken for.
use Rattle.std.proofs.Common.{◌≡◌, ℕ, Bool, true, false, if◌then◌else◌, List, [], ◌∷◌, ◌++◌, length, Result, Ok, refl, sym, ap, ◌∙◌, append_assoc, append-nil, eqb-true, arith}
use Rattle.golog_tree.specs.declared.cond.Arg.{Arg}
use Rattle.golog_tree.specs.declared.cond.Arg.TheVariants.{Const, Var}
use Rattle.golog_tree.specs.declared.draft_cond.DraftArg.{DraftArg}
use Rattle.golog_tree.specs.declared.draft_cond.DraftArg.TheVariants.{Word, Number}
use Rattle.golog_rows.specs.Reading.{Reading, gives, outcome_behind, ◌>>=◌}
use Rattle.golog_rows.specs.Least.{CodeAt}
use Rattle.golog_semantics.proofs.Tests.{and_both, and_cases}
use Rattle.golog_check.specs.declared.heads.Head.{Head}
use Rattle.golog_check.specs.DeclaredItems.{Declared}
use Rattle.golog_check.specs.Scope.{Scope, variable_no, within}
use Rattle.golog_check.specs.Terms.{arg_in}
use Rattle.golog_check.specs.Heads as heads
use Rattle.golog_check.specs.Heads.{binds, head_after, head_from}
use Rattle.golog_check.proofs.Readings.{both, ok-same}
use Rattle.golog_check.proofs.ArgLaws.{same-number}
use Rattle.golog_refusals.specs.Says.{arg_says}
use Rattle.golog_refusals.specs.SaysAgent.{is_var, binding, scope_after, scope_behind, head_arg_says, head_says}
use Rattle.golog_refusals.proofs.ArgsSaid.{arg-taken, arg-said}

-- a head with these arguments, and these variables in scope
abbrev pub head_of : List Arg → Scope → Head
head_of args scope = record { args = args; scope = scope }

module _ (names : Declared) where
  -- an argument by whether it binds a variable: what is read, what is in scope behind it, and what it says
  abbrev reads : Bool → Head → ℕ → DraftArg → Reading Head
  reads b head sort draft =
      if b then gives (heads.binding head sort draft)
      else (arg_in names head.scope sort draft >>= λ arg. gives (record head { args = head.args ++ arg ∷ [] }))

  abbrev leaves : Bool → Scope → ℕ → DraftArg → Scope
  leaves b scope sort draft = if b then binding scope sort draft else scope

  abbrev says : Bool → Scope → ℕ → DraftArg → Arg → Bool
  says b scope sort draft arg = if b then is_var (variable_no scope) arg else arg_says names scope sort draft arg

  taken-by : (b : Bool) (head : Head) (sort : ℕ) (draft : DraftArg) (arg : Arg) → binds names head.scope draft ≡ b
      → says b head.scope sort draft arg ≡ true
      → (reads b head sort draft).outcome ≡ Ok (head_of (head.args ++ arg ∷ []) (leaves b head.scope sort draft))
  taken-by true head sort (Word word at) (Const c) e h = absurd (cc)
  taken-by true head sort (Word word at) (Var x) e h =
      ap (λ n. Ok (head_of (head.args ++ Var n ∷ []) (within word sort head.scope)))
      (sym (eqb-true x (variable_no head.scope) h))
  taken-by true head sort (Number number at) arg e h = absurd (cc)
  taken-by false head sort draft arg e h =
      ap (λ (o : Result Arg CodeAt). outcome_behind o (λ (a : Arg). gives (record head { args = head.args ++ a ∷ [] })))
      (arg-taken names head.scope sort draft arg h)

  arg-after : (head : Head) (sort : ℕ) (draft : DraftArg) (arg : Arg)
      → head_arg_says names head.scope sort draft arg ≡ true → (head_after names head sort draft).outcome
      ≡ Ok (head_of (head.args ++ arg ∷ []) (scope_after names head.scope sort draft))
  unfolding head_after
  arg-after head sort draft arg h = taken-by (binds names head.scope draft) head sort draft arg refl h

  -- the arguments of a head are taken, one after another
  pub head-taken : (sorts : List ℕ) (drafts : List DraftArg) (args : List Arg) (head : Head)
      → head_says names head.scope sorts drafts args ≡ true → (head_from names head sorts drafts).outcome
      ≡ Ok (head_of (head.args ++ args) (scope_behind names head.scope sorts drafts))
  head-taken [] [] [] head h = ap (λ args. Ok (head_of args head.scope)) (sym (append-nil head.args))
  head-taken [] [] (arg ∷ args) head h = absurd (cc)
  head-taken [] (draft ∷ drafts) args head h = absurd (cc)
  head-taken (sort ∷ sorts) [] args head h = absurd (cc)
  head-taken (sort ∷ sorts) (draft ∷ drafts) [] head h = absurd (cc)
  head-taken (sort ∷ sorts) (draft ∷ drafts) (arg ∷ args) head h =
      let after = scope_after names head.scope sort draft in
      let t = and_cases (head_arg_says names head.scope sort draft arg) (head_says names after sorts drafts args) h in
      ap (λ (o : Result Head CodeAt). outcome_behind o (λ (g : Head). head_from names g sorts drafts))
      (arg-after head sort draft arg t.0)
      ∙ head-taken sorts drafts args (head_of (head.args ++ arg ∷ []) after) t.1
      ∙ ap {B = Result Head CodeAt} (λ xs. Ok (head_of xs (scope_behind names after sorts drafts)))
      (append_assoc head.args (arg ∷ []) args)

  -- an argument that is read, and what it says
  record ArgSaid (b : Bool) (head : Head) (sort : ℕ) (draft : DraftArg) (after : Head) : Type 0 where
    arg : Arg
    is : ◌≡◌ {A = Head} (head_of (head.args ++ arg ∷ []) (leaves b head.scope sort draft)) after
    said : says b head.scope sort draft arg ≡ true

  said-by : (b : Bool) (head : Head) (sort : ℕ) (draft : DraftArg) (after : Head) → binds names head.scope draft ≡ b
      → (reads b head sort draft).outcome ≡ Ok after → ArgSaid b head sort draft after
  said-by true head sort (Word word at) after e h = record {
    arg = Var (variable_no head.scope);
    is = ok-same (heads.binding head sort (Word word at)) after h;
    said = same-number (variable_no head.scope);
  }
  said-by true head sort (Number number at) after e h = absurd (cc)
  said-by false head sort draft after e h =
      let b = both (arg_in names head.scope sort draft)
      (λ (a : Arg). gives (record head { args = head.args ++ a ∷ [] })) after h in
      record {
        arg = b.value;
        is = ok-same (record head { args = head.args ++ b.value ∷ [] }) after b.other;
        said = arg-said names head.scope sort draft b.value b.one;
      }

  arg-behind : (head : Head) (sort : ℕ) (draft : DraftArg) (after : Head)
      → (head_after names head sort draft).outcome ≡ Ok after
      → ArgSaid (binds names head.scope draft) head sort draft after
  unfolding head_after
  arg-behind head sort draft after h = said-by (binds names head.scope draft) head sort draft after refl h

  -- a head that is read behind another, and what its arguments say
  pub record HeadSaid (head : Head) (sorts : List ℕ) (drafts : List DraftArg) (after : Head) : Type 0 where
    pub added : List Arg
    pub args : after.args ≡ head.args ++ added
    pub scope : after.scope ≡ scope_behind names head.scope sorts drafts
    pub said : head_says names head.scope sorts drafts added ≡ true

  pub head-said : (sorts : List ℕ) (drafts : List DraftArg) (head after : Head) → length drafts ≡ length sorts
      → (head_from names head sorts drafts).outcome ≡ Ok after → HeadSaid head sorts drafts after
  head-said [] [] head after l h =
      let is = ok-same head after h in
      record {
        added = [];
        args = ap (λ (g : Head). g.args) (sym is) ∙ sym (append-nil head.args);
        scope = ap (λ (g : Head). g.scope) (sym is);
        said = refl;
      }
  head-said [] (draft ∷ drafts) head after l h = absurd (omega (arith, l))
  head-said (sort ∷ sorts) [] head after l h = absurd (omega (arith, l))
  head-said (sort ∷ sorts) (draft ∷ drafts) head after l h =
      let b = both (head_after names head sort draft) (λ (g : Head). head_from names g sorts drafts) after h in
      let one = arg-behind head sort draft b.value b.one in
      let scope : b.value.scope ≡ scope_after names head.scope sort draft = ap (λ (g : Head). g.scope) (sym one.is) in
      let args : b.value.args ≡ head.args ++ one.arg ∷ [] = ap (λ (g : Head). g.args) (sym one.is) in
      let rest = head-said sorts drafts b.value after (omega (arith, l)) b.other in
      record {
        added = one.arg ∷ rest.added;
        args = rest.args ∙ ap (λ xs. xs ++ rest.added) args ∙ append_assoc head.args (one.arg ∷ []) rest.added;
        scope = rest.scope ∙ ap (λ outer. scope_behind names outer sorts drafts) scope;
        said = and_both (head_arg_says names head.scope sort draft one.arg)
            (head_says names (scope_after names head.scope sort draft) sorts drafts rest.added) one.said
            (ap (λ outer. head_says names outer sorts drafts rest.added) (sym scope) ∙ rest.said);
      }
