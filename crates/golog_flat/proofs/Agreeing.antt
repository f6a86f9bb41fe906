-- What is written where two lists agree, and what that is for an action of plain causes.
use Rattle.std.proofs.Common.{◌≡◌, ◌≢◌, ℕ, ◌+◌, ◌<◌, ◌≤◌, ◌⊎◌, inl, inr, Bool, true, false, not, ◌==◌, ◌&&◌, ◌||◌, if◌then◌else◌, Option, Some, None, List, [], ◌∷◌, ◌++◌, length, map, refl, sym, ap, ◌∙◌, subst, arith, zero-add}
use Rattle.std.specs.Prelude.{All, fold, replicate, slice_get, slice_index, slice_set, unwrap_or}
use Rattle.std.specs.List.{enumerate_from, list_all}
use Rattle.std.proofs.lemmas.Bool.{cases_lt, eq-eqb}
use Rattle.std.proofs.lemmas.Grind.{same_number_lists}
use Rattle.std.proofs.lemmas.List.{get_or-replicate, get_or-set_other, get_or-set_same, length-map, length-replicate}
use Rattle.std.proofs.lemmas.List.FromFn.{length-enumerate_from}
use Rattle.std.proofs.lemmas.List.Elements.{All-push}
use Rattle.std.proofs.lemmas.List.Sums.{fold_push}
use Rattle.std.proofs.Math.ListN.{length-set}
use Rattle.golog_tree.specs.declared.agent.Agent.{Agent}
use Rattle.golog_tree.specs.declared.agent.CauseItem.{CauseItem}
use Rattle.golog_tree.specs.declared.cond.Cond.{Cond}
use Rattle.golog_tree.specs.declared.cond.Term.{Term}
use Rattle.golog_tree.specs.declared.cond.Cond.TheOpen.{Term-F, Arg as ArgTerm, Fluent, Shift, Ite}
use Rattle.golog_tree.specs.declared.cond.Cond.TheOpen.{Cond-F, Truth as Plain, Is, Equal, Less, AtMost, Not, And, Or, ForSome, ForAll}
use Rattle.golog_tree.specs.declared.cond.Cond.TheViews.{out-Cond, out-Term}
use Rattle.golog_tree.specs.declared.cond.Cond.TheFolds.{fold_out-Cond, fold_out-Term, map-Cond, map-Term}
use Rattle.golog_tree.specs.declared.cond.Truth.{Truth}
use Rattle.golog_tree.specs.declared.cond.Truth.TheVariants.{Yes}
use Rattle.golog_tree.specs.declared.prog.Label.{Label}
use Rattle.golog_tree.specs.declared.prog.Label.TheVariants.{Quiet, Do}
use Rattle.golog_tree.specs.Ground.{Ground, action_args, fluent_args, ground_actions, ground_count, ground_fluents}
use Rattle.golog_tree.proofs.Numbers.{length-all_from}
use Rattle.golog_semantics.specs.Truth.{Env, Values, arg_value, chosen, cond_step, env_of, term_step, truth_of, value_of}
use Rattle.golog_semantics.specs.Values.{after, after_do, after_ground, after_if, cause_for, matched_values, value_by_causes, value_caused}
use Rattle.golog_semantics.specs.WellFormed.{WellFormed}
use Rattle.golog_semantics.proofs.CausesKeep.{chosen-true}
use Rattle.golog_semantics.proofs.SortsStay.{has_at, mapped-at}
use Rattle.golog_semantics.proofs.Tests.{and_cases}
use Rattle.golog_flat.specs.declared.writes.Write.{Write}
use Rattle.golog_flat.specs.declared.effect.Effect.{Effect}
use Rattle.golog_flat.specs.Effects.{Agree, IsEffectOf, agreed, always_step, are_plain, argument_step, ends_all, is_always, is_argument, is_plain, is_plain_for, with_place, with_write, with_writes}

length-written : (values : Values) (writes : List Write) → length (with_writes values writes) ≡ length values
length-written values [] = refl
length-written values (w ∷ writes) = length-written (slice_set values w.place w.value) writes ∙ length-set values w.place w.value

-- what is written so far, of the places below one
pub record AgreeBelow (lows highs : Values) (n : ℕ) (writes : List Write) : Type 0 where
  pub inside : All (λ w. w.place < n) writes
  pub at : (values : Values) (f : ℕ) → length values ≡ length lows → f < n → slice_index (with_writes values writes) f ≡ agreed lows highs values f
  pub behind : (values : Values) (f : ℕ) → length values ≡ length lows → n ≤ f → slice_index (with_writes values writes) f ≡ slice_index values f

module _ (lows highs : Values) where
  pub agree-none : (writes : List Write) → writes ≡ [] → AgreeBelow lows highs 0 writes
  agree-none writes e = subst (AgreeBelow lows highs 0) (sym e) (record {
    inside = λ i d h. absurd (omega arith);
    at = λ values f l h. absurd (omega arith);
    behind = λ values f l h. refl;
  })

  pub agree-all : (n : ℕ) (writes : List Write) → n ≡ length lows → AgreeBelow lows highs n writes → Agree lows highs writes
  agree-all n writes e a = record {
    inside = subst (λ k. All (λ w. w.place < k) writes) e a.inside;
    at = λ values f l h. a.at values f l (subst (λ k. f < k) (sym e) h);
  }

  -- one more place, where they agree
  module _ (n value : ℕ) (w : Write) (place_is : w.place ≡ n) (value_is : w.value ≡ value) (low : value ≡ slice_index lows n) (below : n < length lows) (writes : List Write) (a : AgreeBelow lows highs n writes) where
    pushed : (values : Values) → with_writes values (writes ++ w ∷ []) ≡ slice_set (with_writes values writes) n value
    pushed values = fold_push with_write values writes w ∙ ap (λ p. slice_set (with_writes values writes) p w.value) place_is ∙ ap (slice_set (with_writes values writes) n) value_is

    other : (values : Values) (f : ℕ) → f ≢ n → slice_index (with_writes values (writes ++ w ∷ [])) f ≡ slice_index (with_writes values writes) f
    other values f h = ap (λ vs. slice_index vs f) (pushed values) ∙ get_or-set_other (with_writes values writes) n f value 0 h

    here : (values : Values) → length values ≡ length lows → slice_index (with_writes values (writes ++ w ∷ [])) n ≡ value
    here values l =
        let inside : n < length (with_writes values writes) = omega (arith, length-written values writes) in
        ap (λ vs. slice_index vs n) (pushed values) ∙ get_or-set_same (with_writes values writes) n value 0 inside

    agreed-here : (slice_index lows n == slice_index highs n) ≡ true → (values : Values) → value ≡ agreed lows highs values n
    agreed-here same values = low ∙ sym (ap (λ b. if b then slice_index lows n else slice_index values n) same)

    pub agree-more : (slice_index lows n == slice_index highs n) ≡ true → AgreeBelow lows highs (n + 1) (writes ++ w ∷ [])
    agree-more same = record {
      inside = All-push (λ (x : Write). x.place < n + 1) writes w (λ i d h. let k = a.inside i d h in omega arith) (omega arith);
      at = λ values f l h. at values f l h (cases_lt f n);
      behind = λ values f l h. other values f (λ e. omega arith) ∙ a.behind values f l (omega arith);
    }
      where
        at : (values : Values) (f : ℕ) → length values ≡ length lows → f < n + 1 → (f < n) ⊎ (n ≤ f) → slice_index (with_writes values (writes ++ w ∷ [])) f ≡ agreed lows highs values f
        at values f l h (inl less) = other values f (λ e. omega arith) ∙ a.at values f l less
        at values f l h (inr more) =
            let e : f ≡ n = omega arith in
            subst (λ g. slice_index (with_writes values (writes ++ w ∷ [])) g ≡ agreed lows highs values g) (sym e) (here values l ∙ agreed-here same values)

  -- one more place, where they differ
  pub agree-skip : (n : ℕ) (writes : List Write) → AgreeBelow lows highs n writes → (slice_index lows n == slice_index highs n) ≡ false → AgreeBelow lows highs (n + 1) writes
  agree-skip n writes a differ = record {
    inside = λ i d h. let k = a.inside i d h in omega arith;
    at = λ values f l h. at values f l h (cases_lt f n);
    behind = λ values f l h. a.behind values f l (omega arith);
  }
    where
      at : (values : Values) (f : ℕ) → length values ≡ length lows → f < n + 1 → (f < n) ⊎ (n ≤ f) → slice_index (with_writes values writes) f ≡ agreed lows highs values f
      at values f l h (inl less) = a.at values f l less
      at values f l h (inr more) =
          let e : f ≡ n = omega arith in
          a.behind values f l more
          ∙ subst (λ g. slice_index values g ≡ agreed lows highs values g) (sym e) (sym (ap (λ b. if b then slice_index lows n else slice_index values n) differ))

  agree-by : (n : ℕ) → n < length lows → (writes : List Write) → AgreeBelow lows highs n writes → (b : Bool) → (slice_index lows n == slice_index highs n) ≡ b
      → AgreeBelow lows highs (n + 1) (if b then writes ++ record { place = n; value = slice_index lows n } ∷ [] else writes)
  agree-by n below writes a true e = agree-more n (slice_index lows n) (record { place = n; value = slice_index lows n }) refl refl refl below writes a e
  agree-by n below writes a false e = agree-skip n writes a e

  pub agree-next : (n : ℕ) → n < length lows → (writes more : List Write) → more ≡ with_place writes n (slice_index lows n) (slice_index highs n) → AgreeBelow lows highs n writes → AgreeBelow lows highs (n + 1) more
  agree-next n below writes more is a = subst (AgreeBelow lows highs (n + 1)) (sym is) (agree-by n below writes a (slice_index lows n == slice_index highs n) refl)

-- a condition that is `true` as it stands
always-at : (agent : Agent) (values : Values) (c : Cond) (env : Env) (l : Cond-F Cond Term) → out-Cond c ≡ l → always_step (map-Cond Cond Term Bool Bool is_always is_argument l) ≡ true → truth_of agent values c env ≡ Yes
always-at agent values c env l e h =
    ap (λ (f : Env → Truth). f env) (fold_out-Cond (Env → Truth) (Env → ℕ) (cond_step agent values) (term_step agent values) c)
    ∙ ap (λ k. cond_step agent values (map-Cond Cond Term (Env → Truth) (Env → ℕ) (truth_of agent values) (value_of agent values) k) env) e ∙ go l h
  where
    go : (l : Cond-F Cond Term) → always_step (map-Cond Cond Term Bool Bool is_always is_argument l) ≡ true
        → cond_step agent values (map-Cond Cond Term (Env → Truth) (Env → ℕ) (truth_of agent values) (value_of agent values) l) env ≡ Yes
    go (Plain true) h = refl
    go (Plain false) h = absurd (cc)
    go (Is fluent args) h = absurd (cc)
    go (Equal sort t u) h = absurd (cc)
    go (Less sort t u) h = absurd (cc)
    go (AtMost sort t u) h = absurd (cc)
    go (Not d) h = absurd (cc)
    go (And ds) h = absurd (cc)
    go (Or ds) h = absurd (cc)
    go (ForSome x sort d) h = absurd (cc)
    go (ForAll x sort d) h = absurd (cc)

always : (agent : Agent) (values : Values) (c : Cond) (env : Env) → is_always c ≡ true → truth_of agent values c env ≡ Yes
always agent values c env h = always-at agent values c env (out-Cond c) refl (sym (fold_out-Cond Bool Bool always_step argument_step c) ∙ h)

-- a constant or a variable has its value whatever those of the fluents are
argument-at : (agent : Agent) (one other : Values) (t : Term) (env : Env) (l : Term-F Cond Term) → out-Term t ≡ l → argument_step (map-Term Cond Term Bool Bool is_always is_argument l) ≡ true → value_of agent one t env ≡ value_of agent other t env
argument-at agent one other t env l e h = at one ∙ go l h ∙ sym (at other)
  where
    at : (values : Values) → value_of agent values t env ≡ term_step agent values (map-Term Cond Term (Env → Truth) (Env → ℕ) (truth_of agent values) (value_of agent values) l) env
    at values =
        ap (λ (f : Env → ℕ). f env) (fold_out-Term (Env → Truth) (Env → ℕ) (cond_step agent values) (term_step agent values) t)
        ∙ ap (λ k. term_step agent values (map-Term Cond Term (Env → Truth) (Env → ℕ) (truth_of agent values) (value_of agent values) k) env) e

    go : (l : Term-F Cond Term) → argument_step (map-Term Cond Term Bool Bool is_always is_argument l) ≡ true
        → term_step agent one (map-Term Cond Term (Env → Truth) (Env → ℕ) (truth_of agent one) (value_of agent one) l) env
        ≡ term_step agent other (map-Term Cond Term (Env → Truth) (Env → ℕ) (truth_of agent other) (value_of agent other) l) env
    go (ArgTerm arg) h = refl
    go (Fluent fluent args) h = absurd (cc)
    go (Shift sort u by) h = absurd (cc)
    go (Ite c u v) h = absurd (cc)

argument : (agent : Agent) (one other : Values) (t : Term) (env : Env) → is_argument t ≡ true → value_of agent one t env ≡ value_of agent other t env
argument agent one other t env h = argument-at agent one other t env (out-Term t) refl (sym (fold_out-Term Bool Bool always_step argument_step t) ∙ h)

-- what plain causes make of a fluent is one value, or what it was, whatever the values are
pub record IsFixed (agent : Agent) (causes : List CauseItem) (action fluent : Ground) : Type 0 where
  pub by : Option ℕ
  pub is : (values : Values) (old : ℕ) → value_by_causes agent values causes action fluent old ≡ unwrap_or by old

plain-one : (agent : Agent) (cause : CauseItem) (values : Values) (found : List ℕ) (later : ℕ) → is_plain cause ≡ true
    → value_caused agent values cause (Some found) later ≡ value_of agent [] cause.term (env_of found)
plain-one agent cause values found later h =
    let both = and_cases (is_always cause.cond) (is_argument cause.term) h in
    ap (λ t. chosen t (value_of agent values cause.term (env_of found)) later) (always agent values cause.cond (env_of found) both.0)
    ∙ argument agent values [] cause.term (env_of found) both.1

fixed-one : (agent : Agent) (cause : CauseItem) (causes : List CauseItem) (action fluent : Ground) (o : Option (List ℕ)) → cause_for cause action fluent ≡ o → (is_plain_for action.0 cause) ≡ true → IsFixed agent causes action fluent → IsFixed agent (cause ∷ causes) action fluent
fixed-one agent cause causes action fluent None e h r = record {
  by = r.by;
  is = λ values old. ap (λ f. value_caused agent values cause f (value_by_causes agent values causes action fluent old)) e ∙ r.is values old;
}
fixed-one agent cause causes action fluent (Some found) e h r = record {
  by = Some (value_of agent [] cause.term (env_of found));
  is = λ values old.
      ap (λ f. value_caused agent values cause f (value_by_causes agent values causes action fluent old)) e
      ∙ plain-one agent cause values found (value_by_causes agent values causes action fluent old) plain;
}
  where
    hit : (cause.action == action.0 && cause.fluent == fluent.0) ≡ true
    hit = chosen-true (cause.action == action.0 && cause.fluent == fluent.0) (matched_values (cause.action_args ++ cause.fluent_args) (action.1 ++ fluent.1) []) found e

    plain : is_plain cause ≡ true
    plain = sym (ap (λ b. not b || is_plain cause) (and_cases (cause.action == action.0) (cause.fluent == fluent.0) hit).0) ∙ h

fixed : (agent : Agent) (causes : List CauseItem) (action fluent : Ground) → are_plain causes action.0 ≡ true → IsFixed agent causes action fluent
fixed agent [] action fluent h = record { by = None; is = λ values old. refl }
fixed agent (cause ∷ causes) action fluent h =
    let both = and_cases (is_plain_for action.0 cause) (list_all (is_plain_for action.0) causes) h in
    fixed-one agent cause causes action fluent (cause_for cause action fluent) refl both.0 (fixed agent causes action fluent both.1)

agreed-fixed : (by : Option ℕ) (old : ℕ) → (if unwrap_or by 0 == unwrap_or by 255 then unwrap_or by 0 else old) ≡ unwrap_or by old
agreed-fixed None old = refl
agreed-fixed (Some v) old = ap (λ b. if b then v else old) (eq-eqb v v refl)

module _ (agent : Agent) (action : Ground) (plain : are_plain agent.causes action.0 ≡ true) where
  abbrev n : ℕ
  n = length (ground_fluents agent)

  abbrev Ends : ℕ → Values
  Ends value = after_ground agent (replicate n value) action

  count : (values : Values) → length (after_ground agent values action) ≡ n
  count values = length-map (enumerate_from 0 (ground_fluents agent)) _ ∙ length-enumerate_from 0 (ground_fluents agent)

  ends-at : (values : Values) (f : ℕ) (fluent : Ground) → slice_get (ground_fluents agent) f ≡ Some fluent
      → slice_index (after_ground agent values action) f ≡ value_by_causes agent values agent.causes action fluent (slice_index values f)
  ends-at values f fluent is =
      mapped-at (λ g. value_by_causes agent values agent.causes action g.1 (slice_index values g.0)) 0 (ground_fluents agent) f fluent is
      ∙ ap (λ k. value_by_causes agent values agent.causes action fluent (slice_index values k)) (zero-add f)

  module _ (writes : List Write) (a : Agree (Ends 0) (Ends 255) writes) (values : Values) (whole : length values ≡ n) where
    same-at : (f : ℕ) → f < n → slice_index (with_writes values writes) f ≡ slice_index (after_ground agent values action) f
    same-at f h =
        let s = has_at (ground_fluents agent) f h in
        let r = fixed agent agent.causes action s.item plain in
        let low : slice_index (Ends 0) f ≡ unwrap_or r.by 0 = ends-at (replicate n 0) f s.item s.is ∙ r.is (replicate n 0) (slice_index (replicate n 0) f) ∙ ap (unwrap_or r.by) (get_or-replicate n f 0 0 h) in
        let high : slice_index (Ends 255) f ≡ unwrap_or r.by 255 = ends-at (replicate n 255) f s.item s.is ∙ r.is (replicate n 255) (slice_index (replicate n 255) f) ∙ ap (unwrap_or r.by) (get_or-replicate n f 255 0 h) in
        let old = slice_index values f in
        a.at values f (whole ∙ sym (count (replicate n 0))) (subst (λ k. f < k) (sym (count (replicate n 0))) h)
        ∙ ap (λ v. if v == slice_index (Ends 255) f then v else old) low
        ∙ ap (λ v. if unwrap_or r.by 0 == v then unwrap_or r.by 0 else old) high
        ∙ agreed-fixed r.by old ∙ sym (r.is values old) ∙ sym (ends-at values f s.item s.is)

    same : with_writes values writes ≡ after_ground agent values action
    same =
        same_number_lists (with_writes values writes) (after_ground agent values action) (length-written values writes ∙ whole ∙ sym (count values))
        (λ f h. same-at f (subst (λ k. f < k) (length-written values writes ∙ whole) h))

  pub effect-is : (number : ℕ) → slice_get (ground_actions agent) number ≡ Some action → (effect : Effect) → Agree (ends_all agent number 0) (ends_all agent number 255) effect.writes → IsEffectOf agent (Do number) effect
  effect-is number named effect a = record {
    inside = subst (λ k. All (λ w. w.place < k) effect.writes) (count (replicate n 0)) moved.inside;
    same = λ values whole. same effect.writes moved values whole ∙ ap (after_if agent values) (sym named);
  }
    where
      moved : Agree (Ends 0) (Ends 255) effect.writes
      moved =
          subst (λ o. Agree (after_if agent (replicate n 0) o) (Ends 255) effect.writes) named
          (subst (λ o. Agree (ends_all agent number 0) (after_if agent (replicate n 255) o) effect.writes) named a)

-- the values after an action are as many as the ground fluents
after-length : (agent : Agent) (values : Values) (o : Option Ground) → length values ≡ length (ground_fluents agent) → length (after_if agent values o) ≡ length (ground_fluents agent)
after-length agent values None whole = whole
after-length agent values (Some action) whole = length-map (enumerate_from 0 (ground_fluents agent)) _ ∙ length-enumerate_from 0 (ground_fluents agent)

pub ends-length : (agent : Agent) (number value : ℕ) → length (ends_all agent number value) ≡ length (ground_fluents agent)
ends-length agent number value =
    after-length agent (replicate (length (ground_fluents agent)) value) (slice_get (ground_actions agent) number) (length-replicate (length (ground_fluents agent)) value)

pub few-fluents : (agent : Agent) → WellFormed agent → length (ground_fluents agent) ≤ 4096
few-fluents agent formed = subst (λ k. k ≤ 4096) (sym (length-all_from agent (fluent_args agent) 0)) formed.countable.ground_fluents

pub count-actions : (agent : Agent) → length (ground_actions agent) ≡ ground_count agent (action_args agent)
count-actions agent = length-all_from agent (action_args agent) 0

-- a test writes nothing
pub quiet-is : (agent : Agent) (effect : Effect) → effect.writes ≡ [] → IsEffectOf agent Quiet effect
quiet-is agent effect e = record {
  inside = subst (λ (ws : List Write). All (λ w. w.place < length (ground_fluents agent)) ws) (sym e) (λ i d h. absurd (omega arith));
  same = λ values whole. ap (with_writes values) e;
}

-- what an effect writes is within the values
pub write-inside : (agent : Agent) (label : Label) (effect : Effect) (values : Values) → IsEffectOf agent label effect → length values ≡ length (ground_fluents agent) → All (λ w. w.place < length values) effect.writes
write-inside agent label effect values is whole = subst (λ k. All (λ w. w.place < k) effect.writes) (sym whole) is.inside
