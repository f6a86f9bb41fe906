-- An action that a closed program does, and its precondition.
use Rattle.std.proofs.Common.{◌≡◌, ℕ, zero, suc, ◌+◌, ◌<◌, ◌≤◌, Bool, true, false, ◌&&◌, ◌==◌, if◌then◌else◌, List, [], ◌∷◌, length, map, drop, Option, Some, None, refl, sym, ap, ◌∙◌, subst, arith}
use Rattle.std.specs.Prelude.{All, slice_get}
use Rattle.std.specs.List.{list_all}
use Rattle.std.specs.Option.{option_map_or}
use Rattle.golog_tree.specs.declared.agent.Agent.{Agent}
use Rattle.golog_tree.specs.declared.agent.ActionItem.{ActionItem}
use Rattle.golog_tree.specs.declared.agent.PossItem.{PossItem}
use Rattle.golog_tree.specs.declared.cond.Arg.{Arg}
use Rattle.golog_tree.specs.declared.cond.Cond.{Cond}
use Rattle.golog_tree.specs.Ground.{AreWithin, action_args, args_at, sizes}
use Rattle.golog_semantics.specs.declared.Mode.{Mode}
use Rattle.golog_semantics.specs.Modes.{holds}
use Rattle.golog_semantics.specs.Truth.{Values, arg_value, env_of, truth_of}
use Rattle.golog_semantics.specs.Values.{is_possible, possible_by}
use Rattle.golog_semantics.specs.Ways.{is_empty}
use Rattle.golog_semantics.specs.Fits.{args_fit, bound_from, cond_fits, nothing_bound}
use Rattle.golog_semantics.specs.ProgFits.{act_fits, outermost}
use Rattle.golog_semantics.specs.Written.{is_written_cond}
use Rattle.golog_semantics.specs.WellFormed.{is_plain_action, poss_fits, poss_fits_for}
use Rattle.golog_semantics.proofs.FrontLaws.{holds-yes}
use Rattle.golog_semantics.proofs.Tests.{and_cases}
use Rattle.golog_known.specs.Fits.{CondFitsAt, Sets}
use Rattle.golog_known.proofs.Arguments.{conditions_fit}
use Rattle.golog_known.proofs.Evaluated.{args-within}
use Rattle.golog_fronts.specs.Closed.{IsFit}
use Rattle.golog_fronts.specs.Precondition.{precondition, precondition_by}
use Rattle.golog_fronts.specs.Puts.{cond_put_args}
use Rattle.golog_fronts.proofs.ClosedConds.{fits, fits-puts}

-- no variable is bound, and so each has a value
pub nothing_set : (agent : Agent) (env : List ℕ) → Sets agent nothing_bound env
nothing_set agent env = record { value = λ x sort e. absurd (cc) }

-- a condition with no free variable can be evaluated
pub closed_cond : (agent : Agent) (c : Cond) (env : List ℕ) → cond_fits agent c nothing_bound ≡ true → CondFitsAt agent c env
closed_cond agent c env h = record { scope = nothing_bound; fits = h; set = nothing_set agent env }

action_args-at : (items : List ActionItem) (i : ℕ) (item : ActionItem) → slice_get items i ≡ Some item → (args_at (map (λ (a : ActionItem). a.args) items) i ≡ item.args) × (i < length items)
action_args-at [] i item e = absurd (cc)
action_args-at (a ∷ items) zero item e = let h : a ≡ item = cc in (ap (λ (z : ActionItem). z.args) h, omega arith)
action_args-at (a ∷ items) (suc i) item e = let k = action_args-at items i item e in (k.0, omega (arith, k.1))

args-count : (agent : Agent) (sorts : List ℕ) (args : List Arg) → args_fit agent nothing_bound sorts args ≡ true → length args ≡ length sorts
args-count agent [] [] h = refl
args-count agent [] (arg ∷ args) h = absurd (cc)
args-count agent (s ∷ sorts) [] h = absurd (cc)
args-count agent (s ∷ sorts) (arg ∷ args) h = ap suc (args-count agent sorts args (and_cases _ (args_fit agent nothing_bound sorts args) h).1)

few-of : (items : List ActionItem) (i : ℕ) (item : ActionItem) → slice_get items i ≡ Some item → All (λ sorts. length sorts ≤ 3) (map (λ (a : ActionItem). a.args) items) → length item.args ≤ 3
few-of [] i item e h = absurd (cc)
few-of (a ∷ items) zero item e h = let is : a ≡ item = cc in subst (λ (z : ActionItem). length z.args ≤ 3) is (h 0 [] (omega arith))
few-of (a ∷ items) (suc i) item e h = few-of items i item e (λ j d l. h (suc j) d (omega arith))

-- an action of the agent, with constants of its sorts
pub record ActionIs (agent : Agent) (action : ℕ) (args : List Arg) : Type 0 where
  pub item : ActionItem
  pub found : slice_get agent.actions action ≡ Some item
  pub inside : action < length agent.actions
  pub few : length args ≤ 3
  pub fit : args_fit agent nothing_bound item.args args ≡ true
  pub of_item : AreWithin (sizes agent item.args) (map (arg_value (env_of [])) args)
  pub within : AreWithin (sizes agent (args_at (action_args agent) action)) (map (arg_value (env_of [])) args)

module _ (agent : Agent) (f : IsFit agent) where
  action_is-of : (action : ℕ) (args : List Arg) (o : Option ActionItem) → slice_get agent.actions action ≡ o
      → option_map_or (λ (item : ActionItem). is_empty item.posters && args_fit agent nothing_bound item.args args) o false ≡ true → ActionIs agent action args
  action_is-of action args None e h = absurd (cc)
  action_is-of action args (Some item) e h =
      let fit = (and_cases (is_empty item.posters) (args_fit agent nothing_bound item.args args) h).1 in
      let at = action_args-at agent.actions action item e in
      let in_item = args-within agent nothing_bound (env_of []) (nothing_set agent (env_of [])) item.args args fit in
      record {
        item = item;
        found = e;
        inside = at.1;
        few = subst (λ n. n ≤ 3) (sym (args-count agent item.args args fit)) (few-of agent.actions action item e f.countable.action_arities);
        fit = fit;
        of_item = in_item;
        within = subst (λ ss. AreWithin (sizes agent ss) (map (arg_value (env_of [])) args)) (sym at.0) in_item;
      }

  pub action_is : (action : ℕ) (args : List Arg) → act_fits agent outermost action args ≡ true → ActionIs agent action args
  action_is action args h = action_is-of action args (slice_get agent.actions action) refl h

  -- a precondition of this action can be evaluated at its arguments
  poss_at-of : (item : PossItem) (action : ℕ) (args : List Arg) (a : ActionIs agent action args) → item.action ≡ action → (o : Option ActionItem) → slice_get agent.actions item.action ≡ o
      → option_map_or (poss_fits_for agent item) o false ≡ true → CondFitsAt agent item.cond (env_of (map (arg_value (env_of [])) args))
  poss_at-of item action args a same None e h = absurd (cc)
  poss_at-of item action args a same (Some own) e h =
      let is : own ≡ a.item = cc (e, a.found, same) in
      let k = and_cases (is_plain_action agent item.action own && cond_fits agent item.cond (bound_from 0 own.args)) (is_written_cond agent item.cond (length own.args)) h in
      let fit = (and_cases (is_plain_action agent item.action own) (cond_fits agent item.cond (bound_from 0 own.args)) k.0).1 in
      conditions_fit agent item.cond own.args (map (arg_value (env_of [])) args) fit
      (subst (λ (z : ActionItem). AreWithin (sizes agent z.args) (map (arg_value (env_of [])) args)) (sym is) a.of_item)

  all-at : (items : List PossItem) (i : ℕ) (item : PossItem) → list_all (poss_fits agent) items ≡ true → slice_get items i ≡ Some item → poss_fits agent item ≡ true
  all-at [] i item h e = absurd (cc)
  all-at (p ∷ items) zero item h e = let is : p ≡ item = cc in subst (λ z. poss_fits agent z ≡ true) is (and_cases (poss_fits agent p) (list_all (poss_fits agent) items) h).0
  all-at (p ∷ items) (suc i) item h e = all-at items i item (and_cases (poss_fits agent p) (list_all (poss_fits agent) items) h).1 e

  pub poss_at : (action : ℕ) (args : List Arg) → ActionIs agent action args → (i : ℕ) (item : PossItem) → slice_get agent.poss i ≡ Some item → item.action ≡ action
      → CondFitsAt agent item.cond (env_of (map (arg_value (env_of [])) args))
  poss_at action args a i item e same = poss_at-of item action args a same (slice_get agent.actions item.action) refl (all-at agent.poss i item f.poss e)

  closed_at-of : (item : PossItem) (action : ℕ) (args : List Arg) (a : ActionIs agent action args) → item.action ≡ action → (o : Option ActionItem) → slice_get agent.actions item.action ≡ o
      → option_map_or (poss_fits_for agent item) o false ≡ true → fits agent (cond_put_args item.cond 0 args) ≡ true
  closed_at-of item action args a same None e h = absurd (cc)
  closed_at-of item action args a same (Some own) e h =
      let is : own ≡ a.item = cc (e, a.found, same) in
      let k = and_cases (is_plain_action agent item.action own && cond_fits agent item.cond (bound_from 0 own.args)) (is_written_cond agent item.cond (length own.args)) h in
      let fit = (and_cases (is_plain_action agent item.action own) (cond_fits agent item.cond (bound_from 0 own.args)) k.0).1 in
      fits-puts agent args own.args 0 item.cond fit (subst (λ (z : ActionItem). args_fit agent nothing_bound z.args args ≡ true) (sym is) a.fit)

  -- with the arguments put in, a precondition of this action has no free variable
  pub closed_at : (action : ℕ) (args : List Arg) → ActionIs agent action args → (i : ℕ) (item : PossItem) → slice_get agent.poss i ≡ Some item → item.action ≡ action
      → fits agent (cond_put_args item.cond 0 args) ≡ true
  closed_at action args a i item e same = closed_at-of item action args a same (slice_get agent.actions item.action) refl (all-at agent.poss i item f.poss e)

module _ (agent : Agent) (values : Values) (action : ℕ) (args : List ℕ) where
  holds-by : (m : Mode) (items : List PossItem) → holds m (precondition_by agent values action args items) ≡ possible_by agent values m action args items
  holds-by m [] = holds-yes m
  holds-by m (item ∷ items) = go (item.action == action) (holds-by m items)
    where
      go : (b : Bool) → holds m (precondition_by agent values action args items) ≡ possible_by agent values m action args items → holds m (if b then truth_of agent values item.cond (env_of args) else precondition_by agent values action args items)
          ≡ (if b then holds m (truth_of agent values item.cond (env_of args)) else possible_by agent values m action args items)
      go true later = refl
      go false later = later

  -- the truth of a precondition holds where the action is possible
  pub holds-precondition : (m : Mode) → holds m (precondition agent values action args) ≡ is_possible agent values m action args
  holds-precondition m = holds-by m agent.poss

  pub precondition-here : (items : List PossItem) (i : ℕ) (item : PossItem) → slice_get items i ≡ Some item → item.action ≡ action
      → precondition_by agent values action args (drop i items) ≡ truth_of agent values item.cond (env_of args)
  precondition-here [] i item e s = absurd (cc)
  precondition-here (p ∷ items) zero item e s =
      let is : p ≡ item = cc in
      let b : (p.action == action) ≡ true = ap (λ (z : PossItem). z.action == action) is ∙ (rw s same-number) in
      rw b (ap (λ (z : PossItem). truth_of agent values z.cond (env_of args)) is)
    where
      same-number : (action == action) ≡ true
      same-number = grind arith
  precondition-here (p ∷ items) (suc i) item e s = precondition-here items i item e s

  pub precondition-next : (items : List PossItem) (i : ℕ) (item : PossItem) → slice_get items i ≡ Some item → (item.action == action) ≡ false
      → precondition_by agent values action args (drop i items) ≡ precondition_by agent values action args (drop (i + 1) items)
  precondition-next items i item e b = let k : i + 1 ≡ suc i = omega arith in rw k (go items i e)
    where
      go : (items : List PossItem) (i : ℕ) → slice_get items i ≡ Some item → precondition_by agent values action args (drop i items) ≡ precondition_by agent values action args (drop (suc i) items)
      go [] i e = absurd (cc)
      go (p ∷ items) zero e = let is : p ≡ item = cc in let c : (p.action == action) ≡ false = ap (λ (z : PossItem). z.action == action) is ∙ b in rw c refl
      go (p ∷ items) (suc i) e = go items i e
