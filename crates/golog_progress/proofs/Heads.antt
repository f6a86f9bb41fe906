-- Heads of causes, bound argument by argument.
use Rattle.std.proofs.Common.{◌≡◌, ℕ, zero, suc, ◌+◌, ◌<◌, ◌≤◌, Bool, true, false, ◌==◌, if◌then◌else◌, Some, None, List, [], ◌∷◌, ◌++◌, length, length-append, refl, sym, ap, ◌∙◌, subst, arith}
use Rattle.std.specs.Prelude.{nat_lt, slice_get, slice_index}
use Rattle.std.specs.Option.{option_map_or}
use Rattle.std.proofs.lemmas.Bool.{eqb-true, ltb-true}
use Rattle.golog_tree.specs.declared.agent.Agent.{Agent}
use Rattle.golog_tree.specs.declared.agent.CauseItem.{CauseItem}
use Rattle.golog_tree.specs.declared.cond.Arg.{Arg}
use Rattle.golog_tree.specs.declared.cond.Arg.TheVariants.{Const, Var}
use Rattle.golog_tree.specs.Ground.{AreWithin, sizes, sort_size}
use Rattle.golog_semantics.specs.Truth.{env_of, arg_value}
use Rattle.golog_semantics.specs.WellFormed.{head_sorts}
use Rattle.golog_semantics.proofs.GroundNumbers.{some-same}
use Rattle.golog_semantics.proofs.CausesKeep.{chosen-some, chosen-true}
use Rattle.golog_semantics.proofs.CausesKeep.{within-length}
use Rattle.golog_known.specs.Fits.{CondFitsAt, TermFitsAt}
use Rattle.golog_known.proofs.Arguments.{conditions_fit, terms_fit}
use Rattle.golog_progress.specs.Effects.{is_next, HeadFits}

module _ (agent : Agent) where
  within-push : (ss xs : List ℕ) (s x : ℕ) → AreWithin (sizes agent ss) xs → x < sort_size agent s → AreWithin (sizes agent (ss ++ s ∷ [])) (xs ++ x ∷ [])
  within-push [] [] s x w h = (h, tt)
  within-push [] (y ∷ xs) s x w h = elim w [ ]
  within-push (t ∷ ss) [] s x w h = elim w [ ]
  within-push (t ∷ ss) (y ∷ xs) s x w h = (w.0, within-push ss xs s x w.1 h)

  -- a bound variable has a value of its sort
  value-below : (ss xs : List ℕ) (x sort : ℕ) → AreWithin (sizes agent ss) xs → option_map_or (λ own. own == sort) (slice_get ss x) false ≡ true → slice_index xs x < sort_size agent sort
  value-below [] xs x sort w h = absurd (cc)
  value-below (s ∷ ss) [] x sort w h = elim w [ ]
  value-below (s ∷ ss) (v ∷ xs) zero sort w h = subst (λ t. v < sort_size agent t) (eqb-true s sort h) w.0
  value-below (s ∷ ss) (v ∷ xs) (suc x) sort w h = value-below ss xs x sort w.1 h

  module _ (cause : CauseItem) where
    -- one argument less: its value is fixed
    pub record Fixed (sort : ℕ) (sorts : List ℕ) (arg : Arg) (args : List Arg) (found : List ℕ) : Type 0 where
      pub below : arg_value found arg < sort_size agent sort
      pub rest : HeadFits agent cause sorts args found

    pub fixed : (sort : ℕ) (sorts : List ℕ) (arg : Arg) (args : List Arg) (found : List ℕ) → is_next found arg ≡ false → HeadFits agent cause (sort ∷ sorts) (arg ∷ args) found → Fixed sort sorts arg args found
    fixed sort sorts (Const c) args found k h = record {
      below = ltb-true c (sort_size agent sort) (chosen-true (nat_lt c (sort_size agent sort)) (head_sorts agent sorts args h.bound) h.all h.head);
      rest = record {
        sort = h.sort;
        bound = h.bound;
        all = h.all;
        few = let few : length found + suc (length args) ≤ 6 = h.few in omega arith;
        within = h.within;
        head = chosen-some (nat_lt c (sort_size agent sort)) (head_sorts agent sorts args h.bound) h.all h.head;
        term = h.term;
        cond = h.cond;
      };
    }
    fixed sort sorts (Var x) args found k h =
        let bound = h.bound in
        let old : (x == length bound) ≡ false = ap (λ n. x == n) (within-length agent bound found h.within) ∙ k in
        let test = option_map_or (λ own. own == sort) (slice_get bound x) false in
        let head : (if test then head_sorts agent sorts args bound else None) ≡ Some h.all =
        sym (ap (λ (b : Bool). if b then head_sorts agent sorts args (bound ++ sort ∷ []) else (if test then head_sorts agent sorts args bound else None)) old) ∙ h.head in
        record {
          below = value-below bound found x sort h.within (chosen-true test (head_sorts agent sorts args bound) h.all head);
          rest = record {
            sort = h.sort;
            bound = bound;
            all = h.all;
            few = let few : length found + suc (length args) ≤ 6 = h.few in omega arith;
            within = h.within;
            head = chosen-some test (head_sorts agent sorts args bound) h.all head;
            term = h.term;
            cond = h.cond;
          };
        }

    -- one argument less: the next variable is set to a constant
    pub next : (sort : ℕ) (sorts : List ℕ) (arg : Arg) (args : List Arg) (found : List ℕ) (c : ℕ) → is_next found arg ≡ true → c < sort_size agent sort → HeadFits agent cause (sort ∷ sorts) (arg ∷ args) found → HeadFits agent cause sorts args (found ++ c ∷ [])
    next sort sorts (Const d) args found c k below h = absurd (cc)
    next sort sorts (Var x) args found c k below h =
        let bound = h.bound in
        let new : (x == length bound) ≡ true = ap (λ n. x == n) (within-length agent bound found h.within) ∙ k in
        let test = option_map_or (λ own. own == sort) (slice_get bound x) false in
        record {
          sort = h.sort;
          bound = bound ++ sort ∷ [];
          all = h.all;
          few = let few : length found + suc (length args) ≤ 6 = h.few in omega (arith, length-append found (c ∷ []));
          within = within-push bound found sort c h.within below;
          head = sym (ap (λ (b : Bool). if b then head_sorts agent sorts args (bound ++ sort ∷ []) else (if test then head_sorts agent sorts args bound else None)) new) ∙ h.head;
          term = h.term;
          cond = h.cond;
        }

    -- there are as many arguments as sorts
    pub no_more_args : (args : List Arg) (found : List ℕ) → HeadFits agent cause [] args found → args ≡ []
    no_more_args [] found h = refl
    no_more_args (arg ∷ args) found h = let e : None ≡ Some h.all = h.head in absurd (cc)

    pub no_more_sorts : (sorts : List ℕ) (found : List ℕ) → HeadFits agent cause sorts [] found → sorts ≡ []
    no_more_sorts [] found h = refl
    no_more_sorts (sort ∷ sorts) found h = let e : None ≡ Some h.all = h.head in absurd (cc)

    -- the whole head is bound
    pub cond_at : (found : List ℕ) → HeadFits agent cause [] [] found → CondFitsAt agent cause.cond (env_of found)
    cond_at found h = let same : h.bound ≡ h.all = some-same h.bound h.all h.head in conditions_fit agent cause.cond h.all found h.cond (subst (λ ss. AreWithin (sizes agent ss) found) same h.within)

    pub term_at : (found : List ℕ) → HeadFits agent cause [] [] found → TermFitsAt agent cause.term (env_of found)
    term_at found h = let same : h.bound ≡ h.all = some-same h.bound h.all h.head in terms_fit agent cause.term h.all found h.sort h.term (subst (λ ss. AreWithin (sizes agent ss) found) same h.within)
