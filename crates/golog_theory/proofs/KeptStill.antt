-- What a term, a condition or an item keeps, it keeps where more is declared.
use Rattle.std.proofs.Common.{◌≡◌, ℕ, ◌+◌, ◌≤◌, true, ◌&&◌, List, [], ◌∷◌, length, map, refl, sym, subst, ◌∙◌, arith}
use Rattle.std.specs.Prelude.{nat_lt}
use Rattle.std.specs.List.{list_all}
use Rattle.golog_tree.specs.declared.draft.DraftTheory.{DraftTheory}
use Rattle.golog_tree.specs.declared.draft.DraftFluent.{DraftFluent}
use Rattle.golog_tree.specs.declared.draft_cond.DraftArg.{DraftArg}
use Rattle.golog_tree.specs.declared.draft_cond.DraftTerm.{DraftTerm}
use Rattle.golog_tree.specs.declared.draft_cond.DraftTerm.TheVariants as term
use Rattle.golog_tree.specs.declared.draft_cond.DraftTerm.TheOpen.{DraftTerm-F, Arg, Fluent, Shift}
use Rattle.golog_tree.specs.declared.draft_cond.DraftTerm.TheViews.{roll-DraftTerm}
use Rattle.golog_tree.specs.declared.draft_cond.DraftTerm.TheFolds.{ind-DraftTerm, map-DraftTerm}
use Rattle.golog_tree.specs.declared.draft_cond.DraftCond.{DraftCond}
use Rattle.golog_tree.specs.declared.draft_cond.DraftCond.TheVariants as cond
use Rattle.golog_tree.specs.declared.draft_cond.DraftCond.TheOpen.{DraftCond-F, Truth, Is, Equal, Less, AtMost, Not, And, Or, ForSome, ForAll}
use Rattle.golog_tree.specs.declared.draft_cond.DraftCond.TheViews.{roll-DraftCond}
use Rattle.golog_tree.specs.declared.draft_cond.DraftCond.TheFolds.{ind-DraftCond, map-DraftCond}
use Rattle.golog_draft.specs.Drafts.{signature, fluent_keeps, term_keeps, binder_keeps, cond_keeps}
use Rattle.golog_semantics.specs.Written.{is_amount}
use Rattle.golog_theory.proofs.KeptTerms as terms
use Rattle.golog_theory.proofs.KeptConds as conds
use Rattle.golog_semantics.proofs.Tests.{and_more}

-- the other declares as much
pub record DeclaresMore (theory other : DraftTheory) : Type 0 where
  pub sorts : length theory.sorts ≤ length other.sorts
  pub fluents : (n : ℕ) (args : List DraftArg) → fluent_keeps (signature theory) n args ≡ true → fluent_keeps (signature other) n args ≡ true

pub more : (n m k : ℕ) → m ≤ k → nat_lt n m ≡ true → nat_lt n k ≡ true
more n m k le e = grind arith

module _ (theory other : DraftTheory) (grows : DeclaresMore theory other) where
  abbrev TermStill : DraftTerm → Type 0
  TermStill t = term_keeps (signature theory) t ≡ true → term_keeps (signature other) t ≡ true

  abbrev KnownTerm : Type 0
  KnownTerm = (t : DraftTerm) × TermStill t

  term_layer : (y : DraftTerm-F KnownTerm) → TermStill (roll-DraftTerm (map-DraftTerm KnownTerm DraftTerm (λ r. r.0) y))
  term_layer (Arg arg) = subst TermStill (sym (term.rolls-Arg arg)) (λ e. terms.keeps-Arg other arg)
  term_layer (Fluent item args at) =
      subst TermStill (sym (term.rolls-Fluent item args at))
      (λ e. terms.keeps-Fluent other item args at ∙ grows.fluents item args (sym (terms.keeps-Fluent theory item args at) ∙ e))
  term_layer (Shift r by at) =
      subst TermStill (sym (term.rolls-Shift r.0 by at))
      (λ e. terms.keeps-Shift other r.0 by at
      ∙ and_more (term_keeps (signature theory) r.0) (term_keeps (signature other) r.0) (is_amount by) (is_amount by) r.1 (λ h. h) (sym (terms.keeps-Shift theory r.0 by at) ∙ e))

  pub term-still : (t : DraftTerm) → TermStill t
  term-still = ind-DraftTerm TermStill (λ x y is. subst (λ z. TermStill (roll-DraftTerm z)) is (term_layer y))

  abbrev CondStill : DraftCond → Type 0
  CondStill c = (scope : ℕ) → cond_keeps (signature theory) c scope ≡ true → cond_keeps (signature other) c scope ≡ true

  abbrev KnownCond : Type 0
  KnownCond = (c : DraftCond) × CondStill c

  abbrev conds_of : List KnownCond → List DraftCond
  conds_of rs = map (λ (r : KnownCond). r.0) rs

  all_conds : (rs : List KnownCond) (scope : ℕ) → list_all (λ c. cond_keeps (signature theory) c scope) (conds_of rs) ≡ true
      → list_all (λ c. cond_keeps (signature other) c scope) (conds_of rs) ≡ true
  all_conds [] scope e = refl
  all_conds (r ∷ rs) scope e =
      and_more (cond_keeps (signature theory) r.0 scope) (cond_keeps (signature other) r.0 scope)
      (list_all (λ c. cond_keeps (signature theory) c scope) (conds_of rs)) (list_all (λ c. cond_keeps (signature other) c scope) (conds_of rs))
      (r.1 scope) (all_conds rs scope) e

  sides-still : (one other' : DraftTerm) → (term_keeps (signature theory) one && term_keeps (signature theory) other') ≡ true
      → (term_keeps (signature other) one && term_keeps (signature other) other') ≡ true
  sides-still one other' =
      and_more (term_keeps (signature theory) one) (term_keeps (signature other) one) (term_keeps (signature theory) other') (term_keeps (signature other) other')
      (term-still one) (term-still other')

  bound-still : (scope sort : ℕ) (r : KnownCond) → (binder_keeps (signature theory) scope sort && cond_keeps (signature theory) r.0 (scope + 1)) ≡ true
      → (binder_keeps (signature other) scope sort && cond_keeps (signature other) r.0 (scope + 1)) ≡ true
  bound-still scope sort r =
      and_more (binder_keeps (signature theory) scope sort) (binder_keeps (signature other) scope sort) (cond_keeps (signature theory) r.0 (scope + 1)) (cond_keeps (signature other) r.0 (scope + 1))
      (and_more (nat_lt scope 32) (nat_lt scope 32) (nat_lt sort (length theory.sorts)) (nat_lt sort (length other.sorts)) (λ h. h) (more sort (length theory.sorts) (length other.sorts) grows.sorts))
      (r.1 (scope + 1))

  cond_layer : (y : DraftCond-F KnownCond) → CondStill (roll-DraftCond (map-DraftCond KnownCond DraftCond (λ r. r.0) y))
  cond_layer (Truth b at) = subst CondStill (sym (cond.rolls-Truth b at)) (λ scope e. conds.keeps-Truth other b at scope)
  cond_layer (Is item args at) =
      subst CondStill (sym (cond.rolls-Is item args at))
      (λ scope e. conds.keeps-Is other item args at scope ∙ grows.fluents item args (sym (conds.keeps-Is theory item args at scope) ∙ e))
  cond_layer (Equal one other' at) =
      subst CondStill (sym (cond.rolls-Equal one other' at))
      (λ scope e. conds.keeps-Equal other one other' at scope ∙ sides-still one other' (sym (conds.keeps-Equal theory one other' at scope) ∙ e))
  cond_layer (Less one other' at) =
      subst CondStill (sym (cond.rolls-Less one other' at))
      (λ scope e. conds.keeps-Less other one other' at scope ∙ sides-still one other' (sym (conds.keeps-Less theory one other' at scope) ∙ e))
  cond_layer (AtMost one other' at) =
      subst CondStill (sym (cond.rolls-AtMost one other' at))
      (λ scope e. conds.keeps-AtMost other one other' at scope ∙ sides-still one other' (sym (conds.keeps-AtMost theory one other' at scope) ∙ e))
  cond_layer (Not r at) =
      subst CondStill (sym (cond.rolls-Not r.0 at)) (λ scope e. conds.keeps-Not other r.0 at scope ∙ r.1 scope (sym (conds.keeps-Not theory r.0 at scope) ∙ e))
  cond_layer (And rs at) =
      subst CondStill (sym (cond.rolls-And (conds_of rs) at))
      (λ scope e. conds.keeps-And other (conds_of rs) at scope ∙ all_conds rs scope (sym (conds.keeps-And theory (conds_of rs) at scope) ∙ e))
  cond_layer (Or rs at) =
      subst CondStill (sym (cond.rolls-Or (conds_of rs) at))
      (λ scope e. conds.keeps-Or other (conds_of rs) at scope ∙ all_conds rs scope (sym (conds.keeps-Or theory (conds_of rs) at scope) ∙ e))
  cond_layer (ForSome var sort r at) =
      subst CondStill (sym (cond.rolls-ForSome var sort r.0 at))
      (λ scope e. conds.keeps-ForSome other var sort r.0 at scope ∙ bound-still scope sort r (sym (conds.keeps-ForSome theory var sort r.0 at scope) ∙ e))
  cond_layer (ForAll var sort r at) =
      subst CondStill (sym (cond.rolls-ForAll var sort r.0 at))
      (λ scope e. conds.keeps-ForAll other var sort r.0 at scope ∙ bound-still scope sort r (sym (conds.keeps-ForAll theory var sort r.0 at scope) ∙ e))

  pub cond-still : (c : DraftCond) → CondStill c
  cond-still = ind-DraftCond CondStill (λ x y is. subst (λ z. CondStill (roll-DraftCond z)) is (cond_layer y))

pub ruleset laws = (term-still, cond-still)
