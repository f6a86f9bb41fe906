-- The equations of taking back, construct by construct.
use Rattle.std.proofs.Common.{◌≡◌, ℕ, ℤ, Bool, List, map}
use Rattle.golog_tree.specs.declared.agent.Agent.{Agent}
use Rattle.golog_tree.specs.declared.agent.CauseItem.{CauseItem}
use Rattle.golog_tree.specs.declared.cond.Arg.{Arg}
use Rattle.golog_tree.specs.declared.cond.Term.{Term}
use Rattle.golog_tree.specs.declared.cond.Cond.{Cond}
use Rattle.golog_tree.specs.declared.cond.Term.TheVariants as term
use Rattle.golog_tree.specs.declared.cond.Cond.TheVariants as cond
use Rattle.golog_semantics.proofs.CondByParts as conds
use Rattle.golog_regress.specs.declared.happened.Happened.{Happened}
use Rattle.golog_regress.specs.Causes.{chain}
use Rattle.golog_regress.specs.Regressed.{is_true, cond_step, term_step, cond_back, term_back}

module _ (agent : Agent) (happened : Happened) (causes : List CauseItem) where
  pub back-arg : (arg : Arg) → term_back agent happened causes (term.Arg arg) ≡ term.Arg arg
  back-arg arg = conds.fold-arg Cond Term (cond_step agent happened causes) (term_step agent happened causes) arg

  pub back-fluent : (fluent : ℕ) (args : List Arg) → term_back agent happened causes (term.Fluent fluent args) ≡ chain agent happened causes fluent args
  back-fluent fluent args = conds.fold-fluent Cond Term (cond_step agent happened causes) (term_step agent happened causes) fluent args

  pub back-shift : (sort : ℕ) (t : Term) (by : ℤ) → term_back agent happened causes (term.Shift sort t by) ≡ term.Shift sort (term_back agent happened causes t) by
  back-shift sort t by = conds.fold-shift Cond Term (cond_step agent happened causes) (term_step agent happened causes) sort t by

  pub back-ite : (c : Cond) (t u : Term) → term_back agent happened causes (term.Ite c t u) ≡ term.Ite (cond_back agent happened causes c) (term_back agent happened causes t) (term_back agent happened causes u)
  back-ite c t u = conds.fold-ite Cond Term (cond_step agent happened causes) (term_step agent happened causes) c t u

  pub back-truth : (b : Bool) → cond_back agent happened causes (cond.Truth b) ≡ cond.Truth b
  back-truth b = conds.fold-truth Cond Term (cond_step agent happened causes) (term_step agent happened causes) b

  pub back-is : (fluent : ℕ) (args : List Arg) → cond_back agent happened causes (cond.Is fluent args) ≡ is_true (chain agent happened causes fluent args)
  back-is fluent args = conds.fold-is Cond Term (cond_step agent happened causes) (term_step agent happened causes) fluent args

  pub back-equal : (sort : ℕ) (t u : Term) → cond_back agent happened causes (cond.Equal sort t u) ≡ cond.Equal sort (term_back agent happened causes t) (term_back agent happened causes u)
  back-equal sort t u = conds.fold-equal Cond Term (cond_step agent happened causes) (term_step agent happened causes) sort t u

  pub back-less : (sort : ℕ) (t u : Term) → cond_back agent happened causes (cond.Less sort t u) ≡ cond.Less sort (term_back agent happened causes t) (term_back agent happened causes u)
  back-less sort t u = conds.fold-less Cond Term (cond_step agent happened causes) (term_step agent happened causes) sort t u

  pub back-at_most : (sort : ℕ) (t u : Term) → cond_back agent happened causes (cond.AtMost sort t u) ≡ cond.AtMost sort (term_back agent happened causes t) (term_back agent happened causes u)
  back-at_most sort t u = conds.fold-at_most Cond Term (cond_step agent happened causes) (term_step agent happened causes) sort t u

  pub back-not : (c : Cond) → cond_back agent happened causes (cond.Not c) ≡ cond.Not (cond_back agent happened causes c)
  back-not c = conds.fold-not Cond Term (cond_step agent happened causes) (term_step agent happened causes) c

  pub back-and : (cs : List Cond) → cond_back agent happened causes (cond.And cs) ≡ cond.And (map (cond_back agent happened causes) cs)
  back-and cs = conds.fold-and Cond Term (cond_step agent happened causes) (term_step agent happened causes) cs

  pub back-or : (cs : List Cond) → cond_back agent happened causes (cond.Or cs) ≡ cond.Or (map (cond_back agent happened causes) cs)
  back-or cs = conds.fold-or Cond Term (cond_step agent happened causes) (term_step agent happened causes) cs

  pub back-some : (x sort : ℕ) (c : Cond) → cond_back agent happened causes (cond.ForSome x sort c) ≡ cond.ForSome x sort (cond_back agent happened causes c)
  back-some x sort c = conds.fold-some Cond Term (cond_step agent happened causes) (term_step agent happened causes) x sort c

  pub back-all : (x sort : ℕ) (c : Cond) → cond_back agent happened causes (cond.ForAll x sort c) ≡ cond.ForAll x sort (cond_back agent happened causes c)
  back-all x sort c = conds.fold-all Cond Term (cond_step agent happened causes) (term_step agent happened causes) x sort c
