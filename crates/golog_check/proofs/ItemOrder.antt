-- The rows of each item of a draft stand in order, where its places ascend.
use Rattle.std.proofs.Common.{ℕ, ◌+◌, ◌*◌, List, [], ◌∷◌, ◌++◌, map, Option, Some, None, arith}
use Rattle.std.specs.Prelude.{Bool, ⊤, unwrap_or}
use Rattle.golog_tree.specs.declared.agent.SortItem.{SortItem}
use Rattle.golog_tree.specs.declared.agent.CauseItem.{CauseItem}
use Rattle.golog_tree.specs.declared.cond.Arg.{Arg}
use Rattle.golog_tree.specs.declared.cond.Term.{Term}
use Rattle.golog_tree.specs.declared.cond.Cond.{Cond}
use Rattle.golog_tree.specs.declared.draft.DraftMain.{DraftMain}
use Rattle.golog_tree.specs.declared.draft.DraftPoss.{DraftPoss}
use Rattle.golog_tree.specs.declared.draft.DraftCause.{DraftCause}
use Rattle.golog_tree.specs.declared.draft.DraftSense.{DraftSense}
use Rattle.golog_tree.specs.declared.draft.DraftProc.{DraftProc}
use Rattle.golog_tree.specs.declared.draft.DraftStart.{DraftStart}
use Rattle.golog_tree.specs.declared.draft.DraftStart.TheVariants.{Each, One}
use Rattle.golog_tree.specs.declared.draft_cond.DraftArg.{DraftArg}
use Rattle.golog_rows.specs.Reading.{Row, Reading, gives, ◌>>=◌}
use Rattle.golog_check.specs.declared.heads.Head.{Head}
use Rattle.golog_check.specs.declared.starts.Start.TheVariants as start
use Rattle.golog_check.specs.Codes.{BAD_START}
use Rattle.golog_check.specs.DeclaredItems.{Declared, param_sorts}
use Rattle.golog_check.specs.Sorts.{fluent_sort, fluent_sorts, action_sorts}
use Rattle.golog_check.specs.Scope.{scope_of_vars}
use Rattle.golog_check.specs.Sums.{Counted, count_in, sum_from}
use Rattle.golog_check.specs.Terms.{arg_in, args_in, term_in}
use Rattle.golog_check.specs.Conditions.{cond_in}
use Rattle.golog_check.specs.Programs.{prog_in}
use Rattle.golog_check.specs.Heads.{binding, binds, head_after, head_from}
use Rattle.golog_check.specs.Starts.{constant, constant_in, value_in, own_sort, one_in, start_in}
use Rattle.golog_check.specs.Effects.{head_within, is_sensed, poss_in, cause_in, sense_by, senses_in}
use Rattle.golog_check.specs.Procs.{params_of, proc_in}
use Rattle.golog_check.specs.Check.{main_in}
use Rattle.golog_draft.specs.DraftPlaces.{arg_place, arg_places, term_places, cond_places, value_places, start_places, poss_places, cause_places, sense_places, proc_places, main_places}
use Rattle.golog_draft.specs.DraftOrder.{Ascend, AreAscending, Rise}
use Rattle.golog_rows.proofs.Chain.{key, Chain, chain-low, found-chain, if-chain, Spans, then-spans, gives-spans, wider}
use Rattle.golog_check.proofs.CauseParts.{cause_of}
use Rattle.golog_check.proofs.Halves.{halves, ascend-le}
use Rattle.golog_check.proofs.TermOrder.{arg_in-spans, args-spans, term-spans}
use Rattle.golog_check.proofs.CondOrder.{cond-spans}
use Rattle.golog_check.proofs.ProgOrder.{prog-spans}

-- the rows stand one after another
abbrev pub InOrder : List Row → Type 0
InOrder rows = (high : ℕ) × Chain 0 high rows

abbrev pub AreInOrder : {A : Type 0} → List (Reading A) → Type 0
AreInOrder [] = ⊤
AreInOrder (reading ∷ readings) = InOrder reading.rows × AreInOrder readings

-- the running sums
sum-chain : {T : Type 0} (counted : T → Counted) (sorts : List SortItem) (limit : ℕ) (items : List T) (sum low : ℕ) → Rise low (map (λ item. (counted item).1) items)
    → (high : ℕ) × Chain (key low 34) high (sum_from sorts limit sum (map counted items)).rows
sum-chain counted sorts limit [] sum low r = (key low 34, omega arith)
sum-chain counted sorts limit (item ∷ items) sum low r =
    let rest = sum-chain counted sorts limit items (sum + count_in sorts (counted item).0) (counted item).1 r.1 in
    (rest.0, (omega (arith, r.0), omega arith, omega arith, rest.1))

pub sum-in-order : {T : Type 0} (counted : T → Counted) (sorts : List SortItem) (limit : ℕ) (items : List T) → Rise 0 (map (λ item. (counted item).1) items)
    → InOrder (sum_from sorts limit 0 (map counted items)).rows
sum-in-order counted sorts limit items r =
    let c = sum-chain counted sorts limit items 0 0 r in
    (c.0, chain-low 0 (key 0 34) c.0 (sum_from sorts limit 0 (map counted items)).rows (omega arith) c.1)

-- readings of items, each by its places
pub all-in-order : {A T : Type 0} (places : T → List ℕ) (read : T → Reading A) → ((item : T) (to : ℕ) → Ascend 0 (places item) to → Spans 0 to (read item))
    → (items : List T) → AreAscending (map places items) → AreInOrder (map read items)
all-in-order places read spans [] a = tt
all-in-order places read spans (item ∷ items) a =
    ((64 * a.0.0, spans item a.0.0 a.0.1), all-in-order places read spans items a.1)

module _ (names : Declared) where
  -- start values
  value-spans : (sort from : ℕ) (value : Option DraftArg) (to : ℕ) → Ascend from (value_places value) to → Spans from to (value_in names sort value)
  unfolding value_in
  value-spans sort from None to c = omega (arith, c)
  value-spans sort from (Some arg) to c =
      found-chain (64 * from) (64 * to) BAD_START (arg_place arg) (constant_in (arg_in names [] sort arg).outcome) (omega (arith, c.0)) (omega arith) (omega arith) (omega (arith, c.1))

  one-spans : (fluent from : ℕ) (args : List DraftArg) (value : Option DraftArg) (to : ℕ) → Ascend from (arg_places args ++ value_places value) to → Spans from to (one_in names fluent args value)
  unfolding one_in
  one-spans fluent from args value to c =
      let h = halves from (arg_places args) (value_places value) to c in
      then-spans from h.mid to (args_in names [] (fluent_sorts names fluent) args) (λ args. value_in names (own_sort names fluent) value >>= λ value. gives (start.One fluent (map constant args) value))
      (ascend-le h.mid (value_places value) to h.other) (args-spans names [] (fluent_sorts names fluent) from args h.mid h.one)
      (λ args. gives-spans h.mid to (value_in names (own_sort names fluent) value) (λ value. start.One fluent (map constant args) value) (value-spans (own_sort names fluent) h.mid value to h.other))

  pub start-spans : (item : DraftStart) (to : ℕ) → Ascend 0 (start_places item) to → Spans 0 to (start_in names item)
  start-spans (Each fluent value at) to c = gives-spans 0 to (value_in names (own_sort names fluent) value) (λ value. start.Each fluent value) (value-spans (own_sort names fluent) 0 value to c)
  start-spans (One fluent args value at) to c = one-spans fluent 0 args value to c

  -- preconditions
  pub poss-spans : (item : DraftPoss) (to : ℕ) → Ascend 0 (poss_places item) to → Spans 0 to (poss_in names item)
  unfolding poss_in
  poss-spans item to c =
      let scope = scope_of_vars item.vars (action_sorts names item.action) in
      gives-spans 0 to (cond_in names item.cond scope) (λ cond. record { action = item.action; cond = cond }) (cond-spans names item.cond scope 0 to c)

  -- effects
  head_after-spans : (head : Head) (sort : ℕ) (arg : DraftArg) → Spans (arg_place arg) (arg_place arg + 1) (head_after names head sort arg)
  unfolding head_after
  head_after-spans head sort arg =
      if-chain (64 * arg_place arg) (64 * (arg_place arg + 1)) (binds names head.scope arg) (gives (binding head sort arg))
      (arg_in names head.scope sort arg >>= λ arg. gives (record head { args = head.args ++ arg ∷ [] })) (omega arith)
      (gives-spans (arg_place arg) (arg_place arg + 1) (arg_in names head.scope sort arg) (λ arg. record head { args = head.args ++ arg ∷ [] }) (arg_in-spans names head.scope sort arg))

  head-spans : (head : Head) (sorts : List ℕ) (from : ℕ) (args : List DraftArg) (to : ℕ) → Ascend from (arg_places args) to → Spans from to (head_from names head sorts args)
  head-spans head sorts from [] to c = omega (arith, c)
  head-spans head [] from (arg ∷ args) to c = omega (arith, ascend-le from (arg_places (arg ∷ args)) to c)
  head-spans head (sort ∷ sorts) from (arg ∷ args) to c =
      then-spans from (arg_place arg + 1) to (head_after names head sort arg) (λ head. head_from names head sorts args) (ascend-le (arg_place arg + 1) (arg_places args) to c.1)
      (wider from (arg_place arg) (arg_place arg + 1) (arg_place arg + 1) (head_after names head sort arg) c.0 (omega arith) (head_after-spans head sort arg))
      (λ head. head-spans head sorts (arg_place arg + 1) args to c.1)

  pub cause-spans : (item : DraftCause) (to : ℕ) → Ascend 0 (cause_places item) to → Spans 0 to (cause_in names item)
  unfolding cause_in
  cause-spans item to c =
      let sort = unwrap_or (fluent_sort names item.fluent) 0 in
      let h = halves 0 (arg_places item.action_args) (arg_places item.fluent_args ++ (term_places item.term ++ cond_places item.cond)) to c in
      let j = halves h.mid (arg_places item.fluent_args) (term_places item.term ++ cond_places item.cond) to h.other in
      let k = halves j.mid (term_places item.term) (cond_places item.cond) to j.other in
      then-spans 0 h.mid to (head_from names (head_within []) (action_sorts names item.action) item.action_args)
      (λ (action : Head).
      head_from names (head_within action.scope) (fluent_sorts names item.fluent) item.fluent_args >>= λ (fluent : Head).
      term_in names fluent.scope sort item.term >>= λ term.
      cond_in names item.cond fluent.scope >>= λ cond. gives (cause_of item action.args fluent.args term cond))
      (ascend-le h.mid (arg_places item.fluent_args ++ (term_places item.term ++ cond_places item.cond)) to h.other)
      (head-spans (head_within []) (action_sorts names item.action) 0 item.action_args h.mid h.one)
      (λ action. then-spans h.mid j.mid to (head_from names (head_within action.scope) (fluent_sorts names item.fluent) item.fluent_args)
      (λ (fluent : Head). term_in names fluent.scope sort item.term >>= λ term. cond_in names item.cond fluent.scope >>= λ cond. gives (cause_of item action.args fluent.args term cond))
      (ascend-le j.mid (term_places item.term ++ cond_places item.cond) to j.other)
      (head-spans (head_within action.scope) (fluent_sorts names item.fluent) h.mid item.fluent_args j.mid j.one)
      (λ fluent. then-spans j.mid k.mid to (term_in names fluent.scope sort item.term) (λ term. cond_in names item.cond fluent.scope >>= λ cond. gives (cause_of item action.args fluent.args term cond))
      (ascend-le k.mid (cond_places item.cond) to k.other) (term-spans names fluent.scope sort j.mid item.term k.mid k.one)
      (λ term. gives-spans k.mid to (cond_in names item.cond fluent.scope) (λ cond. cause_of item action.args fluent.args term cond) (cond-spans names item.cond fluent.scope k.mid to k.other))))

  -- sensing
  sense-spans : (again : Bool) (item : DraftSense) (to : ℕ) → Ascend 0 (sense_places item) to → Spans 0 to (sense_by names again item)
  unfolding sense_by
  sense-spans again item to c =
      let scope = scope_of_vars item.vars (action_sorts names item.action) in
      let args = args_in names scope (fluent_sorts names item.fluent) item.args in (
        omega arith,
        omega arith,
        omega arith,
        chain-low (key item.at 36) (64 * (item.at + 1)) (64 * to) _ (omega arith)
            (gives-spans (item.at + 1) to args (λ args. record { action = item.action; fluent = item.fluent; args = args; later = item.later })
            (args-spans names scope (fluent_sorts names item.fluent) (item.at + 1) item.args to c.1)),
      )

  pub senses-in-order : (before items : List DraftSense) → AreAscending (map sense_places items) → AreInOrder (senses_in names before items)
  senses-in-order before [] a = tt
  senses-in-order before (item ∷ items) a =
      ((64 * a.0.0, sense-spans (is_sensed before item.action) item a.0.0 a.0.1), senses-in-order (before ++ item ∷ []) items a.1)

  -- procedures
  pub proc-spans : (item : DraftProc) (to : ℕ) → Ascend 0 (proc_places item) to → Spans 0 to (proc_in names item)
  unfolding proc_in
  proc-spans item to c =
      wider 0 (item.at + 1) to to (proc_in names item) (omega arith) (omega arith)
      (gives-spans (item.at + 1) to (prog_in names item.body (params_of item)) (λ body. record { name = item.name; params = param_sorts item; body = body })
      (prog-spans names item.body (params_of item) (item.at + 1) to c.1))

  -- the program
  pub main-spans : (main : DraftMain) (to : ℕ) → Ascend 0 (main_places main) to → Spans 0 to (main_in names main)
  unfolding main_in
  main-spans main to c = (
    omega arith,
    omega arith,
    omega arith,
    chain-low (key main.at 38) (64 * (main.at + 1)) (64 * to) (prog_in names main.body []).rows (omega arith) (prog-spans names main.body [] (main.at + 1) to c.1),
  )
