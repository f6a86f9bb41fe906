-- The head of a cause that speaks of a ground action and a ground fluent, and the first effect of several.
use Rattle.std.proofs.Common.{◌≡◌, ℕ, zero, suc, ◌+◌, ◌<◌, ◌≤◌, Bool, true, false, ◌==◌, ◌&&◌, if◌then◌else◌, Option, Some, None, List, [], ◌∷◌, ◌++◌, drop, get_or, length, length-append, refl, sym, ap, ◌∙◌, subst, arith, add-one}
use Rattle.std.specs.Prelude.{IfOk, Result, Ok, Err, option_and_then, option_map, slice_get}
use Rattle.std.specs.List.{list_all}
use Rattle.std.proofs.Math.Seq.{drop-cons}
use Rattle.std.proofs.lemmas.Bool.{eqb-true}
use Rattle.std.proofs.lemmas.List.{append-nil, drop_all}
use Rattle.golog_tree.specs.declared.agent.Agent.{Agent}
use Rattle.golog_tree.specs.declared.agent.CauseItem.{CauseItem}
use Rattle.golog_tree.specs.declared.cond.Arg.{Arg}
use Rattle.golog_tree.specs.declared.cond.Truth.{Truth}
use Rattle.golog_tree.specs.declared.cond.Truth.TheVariants.{Yes, No, Unknown}
use Rattle.golog_tree.specs.Ground.{AreWithin, Ground, action_args, args_at, fluent_args, ground_actions, ground_fluents, sizes}
use Rattle.golog_semantics.specs.Truth.{Values, chosen, env_of, truth_of, value_of}
use Rattle.golog_semantics.specs.Values.{cause_for, matched_values, value_by_causes, value_caused}
use Rattle.golog_semantics.specs.WellFormed.{WellFormed, cause_fits}
use Rattle.golog_semantics.proofs.ActionNames.{args_at-map}
use Rattle.golog_semantics.proofs.CausesKeep.{within-length}
use Rattle.golog_semantics.proofs.Tests.{and_cases}
use Rattle.golog_semantics.proofs.Words.{and-left, and-right}
use Rattle.golog_known.specs.Fits.{CondFitsAt}
use Rattle.golog_progress.specs.Effects.{HeadFits}
use Rattle.golog_progress.proofs.Affected.{CauseIs, cause_is}
use Rattle.golog_progress.proofs.Bound.{bind}
use Rattle.golog_progress.proofs.Heads.{cond_at}
use Rattle.golog_progress.proofs.Placed.{args-of-item}
use Rattle.golog_trace.specs.declared.effects.Effect.{Effect}
use Rattle.golog_trace.specs.Effects.{UntoldStays, effect_if, effect_on, first_effect, first_of, truth_for}

-- the arguments of an action and those of a fluent, each in its sort
within-both : (ns ms xs ys : List ℕ) → AreWithin ns xs → AreWithin ms ys → AreWithin (ns ++ ms) (xs ++ ys)
within-both [] ms [] ys w v = v
within-both [] ms (x ∷ xs) ys w v = elim w [ ]
within-both (n ∷ ns) ms [] ys w v = elim w [ ]
within-both (n ∷ ns) ms (x ∷ xs) ys w v = (w.0, within-both ns ms xs ys w.1 v)

sizes-both : (agent : Agent) (ss ts : List ℕ) → sizes agent (ss ++ ts) ≡ sizes agent ss ++ sizes agent ts
sizes-both agent [] ts = refl
sizes-both agent (s ∷ ss) ts = let k = sizes-both agent ss ts in cc

module _ (agent : Agent) (cause : CauseItem) (formed : WellFormed agent) (fits : cause_fits agent cause ≡ true) where
  abbrev is : CauseIs agent cause
  is = cause_is agent cause formed fits

  module _ (args at found : List ℕ) (w : AreWithin (sizes agent (args_at (action_args agent) cause.action)) args) (v : AreWithin (sizes agent (args_at (fluent_args agent) cause.fluent)) at)
      (m : matched_values (cause.action_args ++ cause.fluent_args) (args ++ at) [] ≡ Some found) where
    abbrev ss : List ℕ
    ss = is.action.args ++ is.fluent.args

    abbrev xs : List Arg
    xs = cause.action_args ++ cause.fluent_args

    whole : AreWithin (sizes agent ss) (args ++ at)
    whole =
        subst (λ ns. AreWithin ns (args ++ at)) (sym (sizes-both agent is.action.args is.fluent.args))
        (within-both (sizes agent is.action.args) (sizes agent is.fluent.args) args at
        (subst (λ ts. AreWithin (sizes agent ts) args) (args_at-map agent.actions cause.action is.action is.action_is) w)
        (subst (λ ts. AreWithin (sizes agent ts) at) (args-of-item agent.fluents cause.fluent is.fluent is.fluent_is) v))

    even : length xs ≡ length ss
    even = is.even ∙ sym (length-append is.action.args is.fluent.args)

    head : HeadFits agent cause (ss ++ []) (xs ++ []) []
    head = subst (λ ts. HeadFits agent cause ts (xs ++ []) []) (sym (append-nil ss)) (subst (λ ys. HeadFits agent cause ss ys []) (sym (append-nil xs)) is.head)

    bound : HeadFits agent cause [] [] found
    bound = bind agent cause [] [] ss xs (args ++ at) [] found even whole m head

    -- the condition of a cause can be evaluated, where the head is matched with arguments in their sorts
    pub cond-at : CondFitsAt agent cause.cond (env_of found)
    cond-at = cond_at agent cause found bound

    -- at most six variables have values
    pub few-found : length found ≤ 32
    few-found = let few : length found + 0 ≤ 6 = bound.few in omega (arith, few)

-- the truth of the condition of a cause, by whether it is of the action and the fluent, and how its head is matched
module _ (agent : Agent) (values : Values) (cause : CauseItem) (action : ℕ) (args : List ℕ) (fluent : ℕ) (at : List ℕ) where
  abbrev by : List ℕ → Truth
  by found = truth_of agent values cause.cond (env_of found)

  abbrev heads : Option (List ℕ)
  heads = matched_values (cause.action_args ++ cause.fluent_args) (args ++ at) []

  pub truth-none : (cause.action == action && cause.fluent == fluent) ≡ false → None ≡ truth_for agent values cause (action, args) (fluent, at)
  truth-none h = sym (ap (λ (b : Bool). option_map by (if b then heads else None)) h)

  pub truth-some : (cause.action == action && cause.fluent == fluent) ≡ true → (o : Option (List ℕ)) → o ≡ heads → option_map by o ≡ truth_for agent values cause (action, args) (fluent, at)
  truth-some h o e = ap (option_map by) e ∙ sym (ap (λ (b : Bool). option_map by (if b then heads else None)) h)

-- a test of two equal numbers each
pub same-both : (a b c d : ℕ) → (a == b && c == d) ≡ true → (a ≡ b) × (c ≡ d)
same-both a b c d h = (eqb-true a b (and-left (a == b) (c == d) h), eqb-true c d (and-right (a == b) (c == d) h))

-- the first effect of the causes from a number on
module _ (agent : Agent) (values : Values) (action fluent : Ground) where
  abbrev pub from : List CauseItem → ℕ → Option Effect
  from causes number = first_effect agent values number (drop number causes) action fluent

  pub from-none : (causes : List CauseItem) (number : ℕ) → length causes ≤ number → from causes number ≡ None
  from-none causes number h = ap (λ (cs : List CauseItem). first_effect agent values number cs action fluent) (drop_all number causes h)

  pub from-next : (causes : List CauseItem) (number : ℕ) (d : CauseItem) → number < length causes
      → from causes number ≡ first_of (effect_if number (truth_for agent values (get_or causes number d) action fluent)) (from causes (number + 1))
  from-next causes number d h =
      ap (λ (cs : List CauseItem). first_effect agent values number cs action fluent) (drop-cons causes number d h)
      ∙ ap (λ n. first_of (effect_if number (truth_for agent values (get_or causes number d) action fluent)) (first_effect agent values n (drop n causes) action fluent)) (sym (add-one number))

-- what is so of all is so of each
pub one-of : {A : Type 0} (p : A → Bool) (xs : List A) (i : ℕ) (d : A) → list_all p xs ≡ true → i < length xs → p (get_or xs i d) ≡ true
one-of p [] i d h inside = absurd (omega arith)
one-of p (x ∷ xs) zero d h inside = and-left (p x) (list_all p xs) h
one-of p (x ∷ xs) (suc i) d h inside = one-of p xs i d (and-right (p x) (list_all p xs) h) (omega arith)

pub untold : UntoldStays
untold agent values action fluent old number [] h = refl
untold agent values action fluent old number (cause ∷ causes) h = go (cause_for cause action fluent) (untold agent values action fluent old (suc number) causes) h
  where
    by-truth : (found : List ℕ) (t : Truth) → (first_effect agent values (suc number) causes action fluent ≡ None → value_by_causes agent values causes action fluent old ≡ old)
        → first_of (effect_if number (Some t)) (first_effect agent values (suc number) causes action fluent) ≡ None
        → chosen t (value_of agent values cause.term (env_of found)) (value_by_causes agent values causes action fluent old) ≡ old
    by-truth found Yes rest k = absurd cc
    by-truth found No rest k = rest k
    by-truth found Unknown rest k = absurd cc

    go : (m : Option (List ℕ)) → (first_effect agent values (suc number) causes action fluent ≡ None → value_by_causes agent values causes action fluent old ≡ old)
        → first_of (effect_if number (option_map (λ found. truth_of agent values cause.cond (env_of found)) m)) (first_effect agent values (suc number) causes action fluent) ≡ None
        → value_caused agent values cause m (value_by_causes agent values causes action fluent old) ≡ old
    go None rest k = rest k
    go (Some found) rest k = by-truth found (truth_of agent values cause.cond (env_of found)) rest k

-- what is not something is nothing
pub not-some : {A : Type 0} (o : Option A) → ((a : A) → o ≡ Some a → ⊥) → o ≡ None
not-some None h = refl
not-some (Some a) h = absurd (h a refl)

-- the first effect by the numbers of the action and the fluent
pub by-numbers : (agent : Agent) (values : Values) (action fluent : ℕ) (a f : Ground) → slice_get (ground_actions agent) action ≡ Some a → slice_get (ground_fluents agent) fluent ≡ Some f
    → effect_on agent values action fluent ≡ first_effect agent values 0 agent.causes a f
by-numbers agent values action fluent a f h k =
    ap (λ (o : Option Ground). option_and_then (λ (x : Ground). option_and_then (λ (y : Ground). first_effect agent values 0 agent.causes x y) (slice_get (ground_fluents agent) fluent)) o) h
    ∙ ap (λ (o : Option Ground). option_and_then (λ (y : Ground). first_effect agent values 0 agent.causes a y) o) k

pub if-ok-more : {A E : Type 0} (P Q : A → Type 0) (r : Result A E) → ((a : A) → P a → Q a) → IfOk r P → IfOk r Q
if-ok-more P Q (Ok a) k h = k a h
if-ok-more P Q (Err e) k h = tt
