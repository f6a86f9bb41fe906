-- In a complete world no condition that fits is unknown, and no term, so actions keep it complete.
use Rattle.std.proofs.Common.{◌≡◌, ℕ, zero, suc, ◌+◌, ◌-◌, ◌<◌, ◌≤◌, Bool, true, false, ◌&&◌, ◌||◌, ◌==◌, if◌then◌else◌, List, [], ◌∷◌, ◌++◌, length, map, Option, Some, None, ℤ, pos, negsuc, refl, sym, ap, ◌∙◌, subst, arith}
use Rattle.std.specs.Prelude.{⊤, All, fold, nat_le, nat_lt, replicate, slice_get, slice_index, slice_set}
use Rattle.std.specs.List.{enumerate_from, list_all, range_with_len}
use Rattle.std.specs.Option.{option_map_or}
use Rattle.std.proofs.lemmas.Bool.{eqb-true, lt-ltb, ltb-true}
use Rattle.std.proofs.lemmas.List.{length-map}
use Rattle.std.proofs.lemmas.List.Elements.{All-head, All-tail}
use Rattle.std.proofs.lemmas.List.FromFn.{length-enumerate_from}
use Rattle.golog_tree.specs.declared.agent.Agent.{Agent}
use Rattle.golog_tree.specs.declared.agent.CauseItem.{CauseItem}
use Rattle.golog_tree.specs.declared.agent.SortItem.{SortItem}
use Rattle.golog_tree.specs.declared.cond.Arg.{Arg}
use Rattle.golog_tree.specs.declared.cond.Arg.TheVariants.{Const, Var}
use Rattle.golog_tree.specs.declared.cond.Truth.{Truth}
use Rattle.golog_tree.specs.declared.cond.Truth.TheVariants.{Yes, No, Unknown}
use Rattle.golog_tree.specs.declared.cond.Term.{Term}
use Rattle.golog_tree.specs.declared.cond.Cond.{Cond}
use Rattle.golog_tree.specs.declared.cond.Cond.TheOpen.{Cond-F, Truth as Plain, Is, Equal, Less, AtMost, Not, And, Or, ForSome, ForAll}
use Rattle.golog_tree.specs.declared.cond.Cond.TheOpen.{Term-F, Arg as ArgTerm, Fluent, Shift, Ite}
use Rattle.golog_tree.specs.declared.cond.Cond.TheViews.{roll-Cond, roll-Term}
use Rattle.golog_tree.specs.declared.cond.Cond.TheFolds.{fold-roll-Cond, fold-roll-Term, ind-Cond, ind-Term, map-Cond, map-Term}
use Rattle.golog_tree.specs.declared.prog.Label.TheVariants.{Do as Doing}
use Rattle.golog_tree.specs.Ground.{AreWithin, Ground, fluent_args, fluent_no, ground_actions, ground_fluents, item_size, size_at, sizes, sort_size}
use Rattle.golog_semantics.specs.declared.journal.Entry.{Entry}
use Rattle.golog_semantics.specs.declared.journal.Entry.TheVariants.{Do, Test, Exo, Sense, Rest, Close, End}
use Rattle.golog_semantics.specs.Truth.{Env, Values, and_of, arg_value, both, chosen, comparison_of, cond_step, either, env_of, fluent_value, is_known, not_of, or_of, term_step, truth, truth_of, unknown, value_moved, value_of, value_shifted}
use Rattle.golog_semantics.specs.Values.{after_do, after_if, cause_for, matched_values, value_by_causes, value_caused}
use Rattle.golog_semantics.specs.Fits.{Scope, arg_fits, binder_fits, bound, bound_from, cond_fits, is_range, is_sort, term_fits}
use Rattle.golog_semantics.specs.Fits as fits
use Rattle.golog_semantics.specs.InSorts.{AreInSorts}
use Rattle.golog_semantics.specs.Journal.{Journal}
use Rattle.golog_semantics.specs.WellFormed.{WellFormed, cause_fits, cause_fits_for, effect_fits, head_sorts}
use Rattle.golog_semantics.specs.World.{IsComplete, world_entry}
use Rattle.golog_semantics.specs.Written.{is_written_cond, is_written_term}
use Rattle.golog_semantics.proofs.CausesKeep.{chosen-some, has, steps_stay_in_sorts}
use Rattle.golog_semantics.proofs.Computed.{truth_roll, value_roll}
use Rattle.golog_semantics.proofs.GroundNumbers.{action_is, some-same, stands}
use Rattle.golog_semantics.proofs.SortsStay.{has_at, mapped-at, or-left}
use Rattle.golog_semantics.proofs.Words.{and-both, and-left, and-right}
use Rattle.golog_certain.specs.CompleteLaws.{StaysComplete}

-- each value is known
abbrev AllKnown : List ℕ → Type 0
AllKnown vs = (k : ℕ) → is_known (slice_index vs k) ≡ true

known-nil : AllKnown []
known-nil zero = refl
known-nil (suc k) = refl

known-cons : (v : ℕ) (vs : List ℕ) → is_known v ≡ true → AllKnown vs → AllKnown (v ∷ vs)
known-cons v vs h g zero = h
known-cons v vs h g (suc k) = g k

known-append : (vs ws : List ℕ) → AllKnown vs → AllKnown ws → AllKnown (vs ++ ws)
known-append [] ws h g k = g k
known-append (v ∷ vs) ws h g zero = h zero
known-append (v ∷ vs) ws h g (suc k) = known-append vs ws (λ j. h (suc j)) g k

known-set : (vs : List ℕ) (x v : ℕ) → AllKnown vs → is_known v ≡ true → AllKnown (slice_set vs x v)
known-set [] x v h g k = h k
known-set (w ∷ vs) zero v h g zero = g
known-set (w ∷ vs) zero v h g (suc k) = h (suc k)
known-set (w ∷ vs) (suc x) v h g zero = h zero
known-set (w ∷ vs) (suc x) v h g (suc k) = known-set vs x v (λ j. h (suc j)) g k

known-inside : (vs : List ℕ) → ((k : ℕ) → k < length vs → is_known (slice_index vs k) ≡ true) → AllKnown vs
known-inside [] h k = known-nil k
known-inside (v ∷ vs) h zero = h zero (omega arith)
known-inside (v ∷ vs) h (suc k) = known-inside vs (λ j less. h (suc j) (omega arith)) k

known-zeros : (n : ℕ) → AllKnown (replicate n 0)
known-zeros zero k = known-nil k
known-zeros (suc n) zero = refl
known-zeros (suc n) (suc k) = known-zeros n k

known-env : (vs : List ℕ) → AllKnown vs → AllKnown (env_of vs)
unfolding env_of
known-env vs h k = known-append vs (replicate (32 - length vs) 0) h (known-zeros (32 - length vs)) k

known-below : (v size : ℕ) → v < size → size ≤ 255 → is_known v ≡ true
known-below v size h small = lt-ltb v unknown (omega arith)

-- what the variables of a head are matched with is known
known-matched : (args : List Arg) (vs found result : List ℕ) → AllKnown vs → AllKnown found → matched_values args vs found ≡ Some result → AllKnown result
known-matched [] vs found result h g e = subst (λ r. AllKnown r) (some-same found result e) g
known-matched (arg ∷ args) [] found result h g e = absurd (cc)
known-matched (Const c ∷ args) (v ∷ vs) found result h g e =
    known-matched args vs found result (λ j. h (suc j)) g (chosen-some (c == v) (matched_values args vs found) result e)
known-matched (Var x ∷ args) (v ∷ vs) found result h g e =
    go (x == length found) e
    (known-matched args vs (found ++ v ∷ []) result (λ j. h (suc j)) (known-append found (v ∷ []) g (known-cons v [] (h zero) known-nil)))
    (known-matched args vs found result (λ j. h (suc j)) g)
  where
    go : (b : Bool) → (if b then matched_values args vs (found ++ v ∷ []) else (if slice_index found x == v then matched_values args vs found else None)) ≡ Some result
        → (matched_values args vs (found ++ v ∷ []) ≡ Some result → AllKnown result) → (matched_values args vs found ≡ Some result → AllKnown result) → AllKnown result
    go true f new old = new f
    go false f new old = old (chosen-some (slice_index found x == v) (matched_values args vs found) result f)

-- true or false
abbrev Settled : Truth → Type 0
Settled Yes = ⊤
Settled No = ⊤
Settled Unknown = ⊥

settled-plain : (b : Bool) → Settled (truth b)
settled-plain true = tt
settled-plain false = tt

settled-not : (t : Truth) → Settled t → Settled (not_of t)
settled-not Yes h = tt
settled-not No h = tt
settled-not Unknown h = absurd h

settled-both : (t u : Truth) → Settled t → Settled u → Settled (both t u)
settled-both Yes u h g = g
settled-both No u h g = tt
settled-both Unknown u h g = absurd h

settled-either : (t u : Truth) → Settled t → Settled u → Settled (either t u)
settled-either t u h g = settled-not (both (not_of t) (not_of u)) (settled-both (not_of t) (not_of u) (settled-not t h) (settled-not u g))

settled-compared : (test : ℕ → ℕ → Bool) (v w : ℕ) → is_known v ≡ true → is_known w ≡ true → Settled (comparison_of test v w)
settled-compared test v w h g = subst (λ b. Settled (if b then truth (test v w) else Unknown)) (sym (and-both (is_known v) (is_known w) h g)) (settled-plain (test v w))

-- a test of each constant of a range
settled-all : (f : ℕ → Truth) (first n : ℕ) → ((c : ℕ) → c < first + n → Settled (f c)) → Settled (and_of (map f (range_with_len first n)))
settled-all f first zero h = tt
settled-all f first (suc n) h = settled-both (f first) (and_of (map f (range_with_len (first + 1) n))) (h first (omega arith)) (settled-all f (first + 1) n (λ c less. h c (omega arith)))

settled-some : (f : ℕ → Truth) (first n : ℕ) → ((c : ℕ) → c < first + n → Settled (f c)) → Settled (or_of (map f (range_with_len first n)))
settled-some f first zero h = tt
settled-some f first (suc n) h = settled-either (f first) (or_of (map f (range_with_len (first + 1) n))) (h first (omega arith)) (settled-some f (first + 1) n (λ c less. h c (omega arith)))

known-chosen : (t : Truth) (v w : ℕ) → Settled t → is_known v ≡ true → is_known w ≡ true → is_known (chosen t v w) ≡ true
known-chosen Yes v w s h g = h
known-chosen No v w s h g = g
known-chosen Unknown v w s h g = absurd s

known-moved : (size v : ℕ) (by : ℤ) → size ≤ 255 → is_known v ≡ true → is_known (value_moved size v by) ≡ true
known-moved size v (pos n) small h = lt-ltb (value_moved size v (pos n)) unknown (omega arith)
known-moved size v (negsuc n) small h = let less : v < unknown = ltb-true v unknown h in lt-ltb (v - suc n) unknown (omega arith)

known-shifted : (size v : ℕ) (by : ℤ) → size ≤ 255 → is_known v ≡ true → is_known (value_shifted size v by) ≡ true
known-shifted size v by small h = subst (λ b. is_known (if b then value_moved size v by else unknown) ≡ true) (sym h) (known-moved size v by small h)

size-small : (items : List SortItem) → All (λ item. item_size item ≤ 255) items → (sort : ℕ) → size_at (slice_get items sort) ≤ 255
size-small [] h sort = omega arith
size-small (item ∷ items) h zero = All-head (λ (i : SortItem). item_size i ≤ 255) item items h
size-small (item ∷ items) h (suc sort) = size-small items (All-tail (λ (i : SortItem). item_size i ≤ 255) item items h) sort

module _ (agent : Agent) (small : (sort : ℕ) → sort_size agent sort ≤ 255) where
  known-within : (sorts vs : List ℕ) → AreWithin (sizes agent sorts) vs → AllKnown vs
  known-within [] [] w = known-nil
  known-within [] (v ∷ vs) w = elim w [ ]
  known-within (s ∷ sorts) [] w = elim w [ ]
  known-within (s ∷ sorts) (v ∷ vs) w = known-cons v vs (known-below v (sort_size agent s) w.0 (small s)) (known-within sorts vs w.1)

  known-arg : (scope : Scope) (sort : ℕ) (env : Env) (arg : Arg) → arg_fits agent scope sort arg ≡ true → AllKnown env → is_known (arg_value env arg) ≡ true
  known-arg scope sort env (Const c) h known = known-below c (sort_size agent sort) (ltb-true c (sort_size agent sort) h) (small sort)
  known-arg scope sort env (Var x) h known = known x

  module _ (world : Values) (all : AllKnown world) where
    -- where its variables are known, a condition that fits is true or false
    abbrev CondSettled : Cond → Type 0
    CondSettled c = (scope : Scope) (env : Env) → cond_fits agent c scope ≡ true → AllKnown env → Settled (truth_of agent world c env)

    -- and a term that fits is known
    abbrev TermKnown : Term → Type 0
    TermKnown t = (scope : Scope) (sort : ℕ) (env : Env) → term_fits agent t scope sort ≡ true → AllKnown env → is_known (value_of agent world t env) ≡ true

    abbrev SomeCond : Type 0
    SomeCond = (c : Cond) × CondSettled c

    abbrev SomeTerm : Type 0
    SomeTerm = (t : Term) × TermKnown t

    abbrev conds : Cond-F SomeCond SomeTerm → Cond-F Cond Term
    conds y = map-Cond SomeCond SomeTerm Cond Term (λ c. c.0) (λ t. t.0) y

    abbrev terms : Term-F SomeCond SomeTerm → Term-F Cond Term
    terms y = map-Term SomeCond SomeTerm Cond Term (λ c. c.0) (λ t. t.0) y

    abbrev cond_truths : Cond-F Cond Term → Cond-F (Env → Truth) (Env → ℕ)
    cond_truths l = map-Cond Cond Term (Env → Truth) (Env → ℕ) (truth_of agent world) (value_of agent world) l

    abbrev term_values : Term-F Cond Term → Term-F (Env → Truth) (Env → ℕ)
    term_values l = map-Term Cond Term (Env → Truth) (Env → ℕ) (truth_of agent world) (value_of agent world) l

    abbrev cond_tests : Cond-F Cond Term → Cond-F (Scope → Bool) (Scope → ℕ → Bool)
    cond_tests l = map-Cond Cond Term (Scope → Bool) (Scope → ℕ → Bool) (cond_fits agent) (term_fits agent) l

    abbrev term_tests : Term-F Cond Term → Term-F (Scope → Bool) (Scope → ℕ → Bool)
    term_tests l = map-Term Cond Term (Scope → Bool) (Scope → ℕ → Bool) (cond_fits agent) (term_fits agent) l

    cond_fits-roll : (l : Cond-F Cond Term) (scope : Scope) → cond_fits agent (roll-Cond l) scope ≡ fits.cond_step agent (cond_tests l) scope
    cond_fits-roll l scope = ap (λ f. f scope) (fold-roll-Cond (Scope → Bool) (Scope → ℕ → Bool) (fits.cond_step agent) (fits.term_step agent) l)

    term_fits-roll : (l : Term-F Cond Term) (scope : Scope) (sort : ℕ) → term_fits agent (roll-Term l) scope sort ≡ fits.term_step agent (term_tests l) scope sort
    term_fits-roll l scope sort = ap (λ f. f scope sort) (fold-roll-Term (Scope → Bool) (Scope → ℕ → Bool) (fits.cond_step agent) (fits.term_step agent) l)

    settled-and : (scope : Scope) (env : Env) (cs : List SomeCond) → list_all (λ c. c scope) (map (cond_fits agent) (map (λ c. c.0) cs)) ≡ true → AllKnown env
        → Settled (and_of (map (λ c. c env) (map (truth_of agent world) (map (λ c. c.0) cs))))
    settled-and scope env [] h known = tt
    settled-and scope env (c ∷ cs) h known =
        let rest = list_all (λ c. c scope) (map (cond_fits agent) (map (λ c. c.0) cs)) in
        settled-both _ _ (c.1 scope env (and-left (cond_fits agent c.0 scope) rest h) known) (settled-and scope env cs (and-right (cond_fits agent c.0 scope) rest h) known)

    settled-or : (scope : Scope) (env : Env) (cs : List SomeCond) → list_all (λ c. c scope) (map (cond_fits agent) (map (λ c. c.0) cs)) ≡ true → AllKnown env
        → Settled (or_of (map (λ c. c env) (map (truth_of agent world) (map (λ c. c.0) cs))))
    settled-or scope env [] h known = tt
    settled-or scope env (c ∷ cs) h known =
        let rest = list_all (λ c. c scope) (map (cond_fits agent) (map (λ c. c.0) cs)) in
        settled-either _ _ (c.1 scope env (and-left (cond_fits agent c.0 scope) rest h) known) (settled-or scope env cs (and-right (cond_fits agent c.0 scope) rest h) known)

    -- a binder's body, with a constant of the sort for the variable
    settled-body : (c : SomeCond) (scope : Scope) (env : Env) (x sort : ℕ) → (binder_fits agent x sort && cond_fits agent c.0 (bound scope x sort)) ≡ true → AllKnown env
        → (v : ℕ) → v < 0 + sort_size agent sort → Settled (truth_of agent world c.0 (slice_set env x v))
    settled-body c scope env x sort h known v less =
        c.1 (bound scope x sort) (slice_set env x v) (and-right (binder_fits agent x sort) (cond_fits agent c.0 (bound scope x sort)) h)
        (known-set env x v known (known-below v (sort_size agent sort) (omega arith) (small sort)))

    -- two terms of one sort are compared
    settled-sides : (test : ℕ → ℕ → Bool) (b : Bool) (one other : SomeTerm) (scope : Scope) (sort : ℕ) (env : Env) → (b && term_fits agent one.0 scope sort && term_fits agent other.0 scope sort) ≡ true → AllKnown env
        → Settled (comparison_of test (value_of agent world one.0 env) (value_of agent world other.0 env))
    settled-sides test b one other scope sort env h known =
        let first = and-left (b && term_fits agent one.0 scope sort) (term_fits agent other.0 scope sort) h in
        settled-compared test (value_of agent world one.0 env) (value_of agent world other.0 env)
        (one.1 scope sort env (and-right b (term_fits agent one.0 scope sort) first) known)
        (other.1 scope sort env (and-right (b && term_fits agent one.0 scope sort) (term_fits agent other.0 scope sort) h) known)

    cond_layer : (y : Cond-F SomeCond SomeTerm) (scope : Scope) (env : Env) → fits.cond_step agent (cond_tests (conds y)) scope ≡ true → AllKnown env → Settled (cond_step agent world (cond_truths (conds y)) env)
    cond_layer (Plain b) scope env h known = settled-plain b
    cond_layer (Is fluent args) scope env h known = settled-compared nat_lt 0 (fluent_value agent world fluent (map (arg_value env) args)) refl (all (fluent_no agent fluent (map (arg_value env) args)))
    cond_layer (Equal sort one other) scope env h known = settled-sides (λ a b. a == b) (is_sort agent sort) one other scope sort env h known
    cond_layer (Less sort one other) scope env h known = settled-sides nat_lt (is_range agent sort) one other scope sort env h known
    cond_layer (AtMost sort one other) scope env h known = settled-sides nat_le (is_range agent sort) one other scope sort env h known
    cond_layer (Not c) scope env h known = settled-not (truth_of agent world c.0 env) (c.1 scope env h known)
    cond_layer (And cs) scope env h known = settled-and scope env cs h known
    cond_layer (Or cs) scope env h known = settled-or scope env cs h known
    cond_layer (ForSome x sort c) scope env h known = settled-some (λ v. truth_of agent world c.0 (slice_set env x v)) 0 (sort_size agent sort) (settled-body c scope env x sort h known)
    cond_layer (ForAll x sort c) scope env h known = settled-all (λ v. truth_of agent world c.0 (slice_set env x v)) 0 (sort_size agent sort) (settled-body c scope env x sort h known)

    term_layer : (y : Term-F SomeCond SomeTerm) (scope : Scope) (sort : ℕ) (env : Env) → fits.term_step agent (term_tests (terms y)) scope sort ≡ true → AllKnown env → is_known (term_step agent world (term_values (terms y)) env) ≡ true
    term_layer (ArgTerm arg) scope sort env h known = known-arg scope sort env arg h known
    term_layer (Fluent fluent args) scope sort env h known = all (fluent_no agent fluent (map (arg_value env) args))
    term_layer (Shift own t by) scope sort env h known =
        known-shifted (sort_size agent own) (value_of agent world t.0 env) by (small own)
        (t.1 scope sort env (and-right (own == sort && is_range agent sort) (term_fits agent t.0 scope sort) h) known)
    term_layer (Ite c one other) scope sort env h known =
        let first = and-left (cond_fits agent c.0 scope && term_fits agent one.0 scope sort) (term_fits agent other.0 scope sort) h in
        known-chosen (truth_of agent world c.0 env) (value_of agent world one.0 env) (value_of agent world other.0 env)
        (c.1 scope env (and-left (cond_fits agent c.0 scope) (term_fits agent one.0 scope sort) first) known)
        (one.1 scope sort env (and-right (cond_fits agent c.0 scope) (term_fits agent one.0 scope sort) first) known)
        (other.1 scope sort env (and-right (cond_fits agent c.0 scope && term_fits agent one.0 scope sort) (term_fits agent other.0 scope sort) h) known)

    cond_case : (y : Cond-F SomeCond SomeTerm) → CondSettled (roll-Cond (conds y))
    cond_case y scope env h known =
        subst (λ t. Settled t) (sym (truth_roll agent world env (conds y))) (cond_layer y scope env (sym (cond_fits-roll (conds y) scope) ∙ h) known)

    term_case : (y : Term-F SomeCond SomeTerm) → TermKnown (roll-Term (terms y))
    term_case y scope sort env h known =
        subst (λ v. is_known v ≡ true) (sym (value_roll agent world env (terms y))) (term_layer y scope sort env (sym (term_fits-roll (terms y) scope sort) ∙ h) known)

    pub cond_settled : (c : Cond) → CondSettled c
    cond_settled = ind-Cond CondSettled TermKnown (λ x y is. subst (λ l. CondSettled (roll-Cond l)) is (cond_case y)) (λ x y is. subst (λ l. TermKnown (roll-Term l)) is (term_case y))

    pub term_known : (t : Term) → TermKnown t
    term_known = ind-Term CondSettled TermKnown (λ x y is. subst (λ l. CondSettled (roll-Cond l)) is (cond_case y)) (λ x y is. subst (λ l. TermKnown (roll-Term l)) is (term_case y))

    module _ (action : ℕ) (at : Ground) (ours : slice_get (ground_actions agent) action ≡ Some at) (f : ℕ) (fluent : Ground) (is : slice_get (ground_fluents agent) f ≡ Some fluent) where
      found-known : (cause : CauseItem) (found : List ℕ) → cause_for cause at fluent ≡ Some found → AllKnown found
      found-known cause found e =
          let a = action_is agent action at.0 at.1 ours in
          let s = stands agent (fluent_args agent) 0 f fluent.0 fluent.1 is in
          known-matched (cause.action_args ++ cause.fluent_args) (at.1 ++ fluent.1) [] found
          (known-append at.1 fluent.1 (known-within _ at.1 a.within) (known-within _ fluent.1 s.within)) known-nil
          (chosen-some (cause.action == at.0 && cause.fluent == fluent.0) (matched_values (cause.action_args ++ cause.fluent_args) (at.1 ++ fluent.1) []) found e)

      caused-known : (cause : CauseItem) → cause_fits agent cause ≡ true → (o : Option (List ℕ)) → cause_for cause at fluent ≡ o → (later : ℕ) → is_known later ≡ true → is_known (value_caused agent world cause o later) ≡ true
      caused-known cause passes None e later h = h
      caused-known cause passes (Some found) e later h =
          let a = has (λ action. option_map_or (cause_fits_for agent cause action) (slice_get agent.fluents cause.fluent) false) (slice_get agent.actions cause.action) passes in
          let b = has (cause_fits_for agent cause a.item) (slice_get agent.fluents cause.fluent) a.passes in
          let c = has (effect_fits agent cause b.item.sort) (head_sorts agent (a.item.args ++ b.item.args) (cause.action_args ++ cause.fluent_args) []) b.passes in
          let scope = bound_from 0 c.item in
          let term = term_fits agent cause.term scope b.item.sort in
          let cond = cond_fits agent cause.cond scope in
          let written = is_written_term agent cause.term in
          let both : (term && cond) ≡ true = and-left (term && cond) written (and-left (term && cond && written) (is_written_cond agent cause.cond (length c.item)) c.passes) in
          let known = known-env found (found-known cause found e) in
          known-chosen (truth_of agent world cause.cond (env_of found)) (value_of agent world cause.term (env_of found)) later
          (cond_settled cause.cond scope (env_of found) (and-right term cond both) known)
          (term_known cause.term scope b.item.sort (env_of found) (and-left term cond both) known) h

      ruled-known : (causes : List CauseItem) → list_all (cause_fits agent) causes ≡ true → (old : ℕ) → is_known old ≡ true → is_known (value_by_causes agent world causes at fluent old) ≡ true
      ruled-known [] passes old h = h
      ruled-known (c ∷ causes) passes old h =
          caused-known c (and-left (cause_fits agent c) (list_all (cause_fits agent) causes) passes) (cause_for c at fluent) refl (value_by_causes agent world causes at fluent old)
          (ruled-known causes (and-right (cause_fits agent c) (list_all (cause_fits agent) causes) passes) old h)

    after_if-known : list_all (cause_fits agent) agent.causes ≡ true → (action : ℕ) (o : Option Ground) → slice_get (ground_actions agent) action ≡ o → AllKnown (after_if agent world o)
    after_if-known passes action None e k = all k
    after_if-known passes action (Some at) e k =
        known-inside (after_if agent world (Some at))
        (λ f less.
        let r = has_at (ground_fluents agent) f (subst (λ n. f < n) count less) in
        subst (λ v. is_known v ≡ true) (sym (mapped-at (λ g. value_by_causes agent world agent.causes at g.1 (slice_index world g.0)) 0 (ground_fluents agent) f r.item r.is))
        (ruled-known action at e f r.item r.is agent.causes passes (slice_index world (0 + f)) (all (0 + f))))
        k
      where
        count : length (after_if agent world (Some at)) ≡ length (ground_fluents agent)
        count = length-map (enumerate_from 0 (ground_fluents agent)) _ ∙ length-enumerate_from 0 (ground_fluents agent)

-- a known value that is in its sort is a constant of it
constant_of : (size v : ℕ) → (nat_lt v size || v == unknown) ≡ true → is_known v ≡ true → v < size
constant_of size v h known = go (nat_lt v size) refl
  where
    go : (b : Bool) → nat_lt v size ≡ b → v < size
    go true e = ltb-true v size e
    go false e =
        absurd (
        let same : v ≡ unknown = eqb-true v unknown (subst (λ b. (b || v == unknown) ≡ true) e h) in
        let less : v < unknown = ltb-true v unknown known in
        omega arith
        )

module _ (agent : Agent) (w : WellFormed agent) where
  small : (sort : ℕ) → sort_size agent sort ≤ 255
  small sort = size-small agent.sorts w.countable.sorts sort

  module _ (world : Values) (complete : IsComplete agent world) where
    in_sorts : AreInSorts agent world
    in_sorts = record {
      whole = complete.whole;
      sorted = λ f less. or-left _ (slice_index world f == unknown) (lt-ltb (slice_index world f) _ (complete.known f less));
    }

    all_known : AllKnown world
    all_known = known-inside world (λ f less. known-below (slice_index world f) _ (complete.known f less) (small _))

    action-keeps : (action : ℕ) → IsComplete agent (after_do agent world action)
    action-keeps action =
        let sorts : AreInSorts agent (after_do agent world action) = steps_stay_in_sorts agent w world (Doing action) in_sorts in
        let known = after_if-known agent small world all_known w.actions_fit.causes action (slice_get (ground_actions agent) action) refl in
        record { whole = sorts.whole; known = λ f less. constant_of _ (slice_index (after_do agent world action) f) (sorts.sorted f less) (known f) }

  entry-keeps : (world : Values) → IsComplete agent world → (e : Entry) → IsComplete agent (world_entry agent world e)
  entry-keeps world complete (Do action) = action-keeps world complete action
  entry-keeps world complete Test = complete
  entry-keeps world complete (Exo poster action) = action-keeps world complete action
  entry-keeps world complete (Sense poster place fluent value) = complete
  entry-keeps world complete (Rest poster taken) = complete
  entry-keeps world complete (Close poster reason taken) = complete
  entry-keeps world complete (End answer) = complete

  journal-keeps : (world : Values) → IsComplete agent world → (journal : Journal) → IsComplete agent (fold (world_entry agent) world journal)
  journal-keeps world complete [] = complete
  journal-keeps world complete (e ∷ journal) = journal-keeps (world_entry agent world e) (entry-keeps world complete e) journal

  pub stays_complete : (world : Values) → IsComplete agent world → StaysComplete agent world
  stays_complete world complete = record { actions = action-keeps world complete; journals = journal-keeps world complete }
