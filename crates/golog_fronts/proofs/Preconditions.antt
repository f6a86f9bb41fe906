-- The condition under which an action is possible.
use Rattle.std.proofs.Common.{◌≡◌, ℕ, zero, suc, ◌+◌, ◌<◌, ◌≤◌, Bool, true, false, ◌==◌, if◌then◌else◌, ◌&&◌, List, [], ◌∷◌, length, map, drop, get_or, Option, Some, None, refl, sym, ap, ◌∙◌, subst, arith}
use Rattle.std.specs.Prelude.{Result, Ok, Err, IfOk, slice_get}
use Rattle.std.specs.Option.{option_map_or}
use Rattle.std.proofs.lemmas.Bool.{eqb-true}
use Rattle.std.proofs.lemmas.List.{drop_more}
use Rattle.golog_tree.specs.declared.agent.Agent.{Agent}
use Rattle.golog_tree.specs.declared.agent.ActionItem.{ActionItem}
use Rattle.golog_tree.specs.declared.agent.PossItem.{PossItem}
use Rattle.golog_tree.specs.declared.cond.Arg.{Arg}
use Rattle.golog_tree.specs.declared.cond.Cond.{Cond}
use Rattle.golog_tree.specs.declared.cond.Cond.TheVariants as cond
use Rattle.golog_semantics.specs.declared.Mode.{Mode}
use Rattle.golog_semantics.specs.Modes.{holds}
use Rattle.golog_semantics.specs.Fits.{args_fit, nothing_bound}
use Rattle.golog_semantics.specs.ProgFits.{act_fits, outermost}
use Rattle.golog_semantics.specs.Truth.{Values, arg_value, env_of, truth_of}
use Rattle.golog_semantics.specs.Values.{is_possible, possible_by}
use Rattle.golog_semantics.specs.Ways.{is_empty, is_so}
use Rattle.golog_semantics.proofs.Tests.{and_cases}
use Rattle.golog_fronts.specs.FrontLists.{IsPrecondition}
use Rattle.golog_fronts.specs.Puts.{cond_put_args, cond_put_one}
use Rattle.golog_fronts.proofs.ClosedConds.{fits, fits-truth}
use Rattle.golog_fronts.proofs.Ends.{so-truth}
use Rattle.golog_fronts.proofs.PutTruth.{Constants, constants-fit, truth-puts}

-- the arguments of an action of a closed program are constants
constants_of : (agent : Agent) (args : List Arg) (o : Option ActionItem)
    → option_map_or (λ (item : ActionItem). is_empty item.posters && args_fit agent nothing_bound item.args args) o false ≡ true → Constants args
constants_of agent args None h = absurd (cc)
constants_of agent args (Some item) h = constants-fit agent item.args args (and_cases (is_empty item.posters) (args_fit agent nothing_bound item.args args) h).1

pub act_constants : (agent : Agent) (action : ℕ) (args : List Arg) → act_fits agent outermost action args ≡ true → Constants args
act_constants agent action args h = constants_of agent args (slice_get agent.actions action) h

-- one argument more is put in
pub puts-next : (c : Cond) (args : List Arg) (i : ℕ) (arg : Arg) → i < length args → arg ≡ get_or args i arg
    → cond_put_args c i (drop i args) ≡ cond_put_args (cond_put_one c i arg) (i + 1) (drop (i + 1) args)
puts-next c args i arg h e = ap (cond_put_args c i) (drop_more args i arg h ∙ ap (λ z. z ∷ drop (i + 1) args) (sym e))

neq-test : (a b : ℕ) → (a ≡ b → ⊥) → (a == b) ≡ false
neq-test a b h = go (a == b) refl
  where
    go : (c : Bool) → (a == b) ≡ c → (a == b) ≡ false
    go true e = absurd (h (eqb-true a b e))
    go false e = e

same-test : (a b : ℕ) → a ≡ b → (a == b) ≡ true
same-test a b e = let h : (a == a) ≡ true = grind arith in ap (λ z. a == z) (sym e) ∙ h

module _ (agent : Agent) (action : ℕ) (args : List ℕ) where
  pub possible-here : (values : Values) (m : Mode) (items : List PossItem) (i : ℕ) (item : PossItem) → slice_get items i ≡ Some item → item.action ≡ action
      → possible_by agent values m action args (drop i items) ≡ holds m (truth_of agent values item.cond (env_of args))
  possible-here values m [] i item e s = absurd (cc)
  possible-here values m (p ∷ items) zero item e s =
      let is : p ≡ item = cc in
      let b : (p.action == action) ≡ true = ap (λ (z : PossItem). z.action == action) is ∙ same-test item.action action s in
      rw b (ap (λ (z : PossItem). holds m (truth_of agent values z.cond (env_of args))) is)
  possible-here values m (p ∷ items) (suc i) item e s = possible-here values m items i item e s

  pub possible-next : (values : Values) (m : Mode) (items : List PossItem) (i : ℕ) (item : PossItem) → slice_get items i ≡ Some item → (item.action ≡ action → ⊥)
      → possible_by agent values m action args (drop i items) ≡ possible_by agent values m action args (drop (i + 1) items)
  possible-next values m items i item e n = let k : i + 1 ≡ suc i = omega arith in rw k (go items i e)
    where
      go : (items : List PossItem) (i : ℕ) → slice_get items i ≡ Some item → possible_by agent values m action args (drop i items) ≡ possible_by agent values m action args (drop (suc i) items)
      go [] i e = absurd (cc)
      go (p ∷ items) zero e =
          let is : p ≡ item = cc in
          let c : (p.action == action) ≡ false = ap (λ (z : PossItem). z.action == action) is ∙ neq-test item.action action n in rw c refl
      go (p ∷ items) (suc i) e = go items i e

  pub possible-end : (values : Values) (m : Mode) (items : List PossItem) (i : ℕ) → length items ≤ i → possible_by agent values m action args (drop i items) ≡ true
  possible-end values m [] zero h = refl
  possible-end values m [] (suc i) h = refl
  possible-end values m (p ∷ items) zero h = absurd (omega arith)
  possible-end values m (p ∷ items) (suc i) h = possible-end values m items i (omega arith)

module _ (agent : Agent) (action : ℕ) (args : List Arg) where
  abbrev at : List ℕ
  at = map (arg_value (env_of [])) args

  -- the first item of the action decides
  pub precondition-found : {E : Type 0} (i : ℕ) (item : PossItem) → slice_get agent.poss i ≡ Some item → item.action ≡ action → Constants args → length args ≤ 3
      → fits agent (cond_put_args item.cond 0 args) ≡ true
      → ((m : Mode) (v : Values) → is_possible agent v m action at ≡ possible_by agent v m action at (drop i agent.poss))
      → (result : Result Cond E) → IfOk result (λ c. c ≡ cond_put_args item.cond 0 args) → IfOk result (IsPrecondition agent action args)
  precondition-found i item e s k few fit h (Ok c) is = record {
    holds = λ m v.
        ap (is_so agent v m) is ∙ ap (holds m) (truth-puts agent v item.cond args k few)
        ∙ sym (h m v ∙ possible-here agent action at v m agent.poss i item e s);
    closed = ap (fits agent) is ∙ fit;
  }
  precondition-found i item e s k few fit h (Err x) is = is

  -- an action with no item is possible
  pub precondition-none : (i : ℕ) → length agent.poss ≤ i → ((m : Mode) (v : Values) → is_possible agent v m action at ≡ possible_by agent v m action at (drop i agent.poss))
      → IsPrecondition agent action args (cond.Truth true)
  precondition-none i le h = record {
    holds = λ m v. so-truth agent v m true ∙ sym (h m v ∙ possible-end agent action at v m agent.poss i le);
    closed = fits-truth agent true;
  }
