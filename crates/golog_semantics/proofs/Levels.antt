-- A level of a search holds exactly the states that so many ways reach, each once.
use Rattle.std.proofs.Common.{◌≡◌, ℕ, zero, suc, Bool, true, false, ◌&&◌, ◌||◌, ◌==◌, if◌then◌else◌, List, [], ◌∷◌, filter, refl, sym, ap, ◌∙◌, subst, inl, inr, Some}
use Rattle.std.specs.Prelude.{⊤, slice_get}
use Rattle.std.specs.List.{flat_map, list_any}
use Rattle.std.proofs.lemmas.Bool.{eq-eqb, eqb-true}
use Rattle.golog_tree.specs.declared.agent.Agent.{Agent}
use Rattle.golog_tree.specs.declared.prog.Prog.{Prog}
use Rattle.golog_semantics.specs.declared.Mode.{Mode}
use Rattle.golog_semantics.specs.Truth.{Values}
use Rattle.golog_semantics.specs.Values.{after}
use Rattle.golog_semantics.specs.Same.{same_prog, same_values}
use Rattle.golog_semantics.specs.Search.{is_followed, plain_ways}
use Rattle.golog_semantics.specs.Blocks.{State, same_state, distinct, next_states, level}
use Rattle.golog_semantics.specs.RunLaws.{Reaches, IsLevel}
use Rattle.golog_semantics.proofs.SameLaws.{same_prog-same, same_prog-eq}
use Rattle.golog_semantics.proofs.Words.{and-left, and-right}
use Rattle.golog_semantics.proofs.Among.{Among, among-contains, contains-among, among-get, among-filter, filter-among, among-map, map-among, among-flat, flat-among}

pub same_values-same : (v : List ℕ) → same_values v v ≡ true
same_values-same [] = refl
same_values-same (x ∷ v) = ap (λ b. b && same_values v v) (eq-eqb x x refl) ∙ same_values-same v

pub same_values-eq : (v w : List ℕ) → same_values v w ≡ true → v ≡ w
same_values-eq [] [] e = refl
same_values-eq [] (y ∷ w) e = absurd (cc)
same_values-eq (x ∷ v) [] e = absurd (cc)
same_values-eq (x ∷ v) (y ∷ w) e =
    let one : x ≡ y = eqb-true x y (and-left (x == y) (same_values v w) e) in
    let rest : v ≡ w = same_values-eq v w (and-right (x == y) (same_values v w) e) in
    (λ i. one i ∷ rest i)

same_state-same : (s : State) → same_state s s ≡ true
same_state-same (p, v) = ap (λ b. b && same_prog p p) (same_values-same v) ∙ same_prog-same p

same_state-eq : (s t : State) → same_state s t ≡ true → s ≡ t
same_state-eq (p, v) (q, w) e =
    let one : p ≡ q = same_prog-eq p q (and-right (same_values v w) (same_prog p q) e) in
    let other : v ≡ w = same_values-eq v w (and-left (same_values v w) (same_prog p q) e) in
    (λ i. (one i, other i))

-- no two of these are the same
abbrev Once : List State → Type 0
Once [] = ⊤
Once (s ∷ states) = (Among states s → ⊥) × Once states

once-at : (states : List State) → Once states → (i j : ℕ) (s : State) → slice_get states i ≡ Some s → slice_get states j ≡ Some s → i ≡ j
once-at [] o i j s e k = absurd (cc)
once-at (t ∷ states) o zero zero s e k = refl
once-at (t ∷ states) o zero (suc j) s e k = let same : t ≡ s = cc in absurd (o.0 (subst (Among states) (sym same) (among-get states j s k)))
once-at (t ∷ states) o (suc i) zero s e k = let same : t ≡ s = cc in absurd (o.0 (subst (Among states) (sym same) (among-get states i s e)))
once-at (t ∷ states) o (suc i) (suc j) s e k = ap suc (once-at states o.1 i j s e k)

distinct-sound : (seen states : List State) (s : State) → Among (distinct seen states) s → Among states s
distinct-sound seen [] s h = h
distinct-sound seen (t ∷ states) s h = go (list_any (same_state t) seen) h (distinct-sound seen states s) (distinct-sound (t ∷ seen) states s)
  where
    go : (b : Bool) → Among (if b then distinct seen states else t ∷ distinct (t ∷ seen) states) s → (Among (distinct seen states) s → Among states s) → (Among (distinct (t ∷ seen) states) s → Among states s) → Among (t ∷ states) s
    go true g one other = inr (one g)
    go false (inl e) one other = inl e
    go false (inr g) one other = inr (other g)

distinct-unseen : (seen states : List State) (s : State) → Among (distinct seen states) s → list_any (same_state s) seen ≡ false
distinct-unseen seen [] s h = absurd h
distinct-unseen seen (t ∷ states) s h = go (list_any (same_state t) seen) refl h (distinct-unseen seen states s) (distinct-unseen (t ∷ seen) states s)
  where
    or-right-false : (a b : Bool) → (a || b) ≡ false → b ≡ false
    or-right-false true b e = absurd (cc)
    or-right-false false b e = e

    go : (b : Bool) → list_any (same_state t) seen ≡ b → Among (if b then distinct seen states else t ∷ distinct (t ∷ seen) states) s
        → (Among (distinct seen states) s → list_any (same_state s) seen ≡ false) → (Among (distinct (t ∷ seen) states) s → list_any (same_state s) (t ∷ seen) ≡ false) → list_any (same_state s) seen ≡ false
    go true k g one other = one g
    go false k (inl e) one other = subst (λ x. list_any (same_state x) seen ≡ false) e k
    go false k (inr g) one other = or-right-false (same_state s t) (list_any (same_state s) seen) (other g)

distinct-once : (seen states : List State) → Once (distinct seen states)
distinct-once seen [] = tt
distinct-once seen (t ∷ states) = go (list_any (same_state t) seen) (distinct-once seen states) (distinct-once (t ∷ seen) states)
  where
    fresh : Among (distinct (t ∷ seen) states) t → ⊥
    fresh h = let e = distinct-unseen (t ∷ seen) states t h in let k = ap (λ b. b || list_any (same_state t) seen) (same_state-same t) in cc (sym k ∙ e)

    go : (b : Bool) → Once (distinct seen states) → Once (distinct (t ∷ seen) states) → Once (if b then distinct seen states else t ∷ distinct (t ∷ seen) states)
    go true one other = one
    go false one other = (fresh, other)

distinct-all : (seen states : List State) (s : State) → Among states s → list_any (same_state s) seen ≡ false → Among (distinct seen states) s
distinct-all seen [] s h k = absurd h
distinct-all seen (t ∷ states) s (inl e) k = rw (ap (λ x. list_any (same_state x) seen) e ∙ k) (inl e)
distinct-all seen (t ∷ states) s (inr h) k = go (list_any (same_state t) seen) (same_state s t) refl (distinct-all seen states s h k) (distinct-all (t ∷ seen) states s h)
  where
    go : (b c : Bool) → same_state s t ≡ c → Among (distinct seen states) s → (list_any (same_state s) (t ∷ seen) ≡ false → Among (distinct (t ∷ seen) states) s) → Among (if b then distinct seen states else t ∷ distinct (t ∷ seen) states) s
    go true c e one other = one
    go false true e one other = inl (sym (same_state-eq s t e))
    go false false e one other = inr (other (ap (λ b. b || list_any (same_state s) seen) e ∙ k))

module _ (agent : Agent) (m : Mode) (p : Prog) (values : Values) where
  reached : (k : ℕ) (s : State) → Among (level agent m p values k) s → Reaches agent m p values k s
  reached zero s (inl e) = sym e
  reached zero s (inr h) = absurd h
  reached (suc k) s h =
      let a = among-flat (next_states agent m) (level agent m p values k) s (distinct-sound [] (flat_map (next_states agent m) (level agent m p values k)) s h) in
      let t = a.0 in
      let b = among-map (λ w. (w.left, after agent t.1 w.label)) (filter is_followed (plain_ways agent t.1 m t.0)) s a.1.1 in
      let c = among-filter is_followed (plain_ways agent t.1 m t.0) b.0 b.1.0 in
      (t, reached k t a.1.0, (b.0, contains-among (plain_ways agent t.1 m t.0) b.0 c.0, c.1, sym b.1.1))

  reaching : (k : ℕ) (s : State) → Reaches agent m p values k s → Among (level agent m p values k) s
  reaching zero s e = inl (sym e)
  reaching (suc k) s (t, before, (w, way, followed, is)) =
      let a = map-among (λ w. (w.left, after agent t.1 w.label)) (filter is_followed (plain_ways agent t.1 m t.0)) w (filter-among is_followed (plain_ways agent t.1 m t.0) w (among-contains (plain_ways agent t.1 m t.0) w way) followed) in
      distinct-all [] (flat_map (next_states agent m) (level agent m p values k)) s
      (flat-among (next_states agent m) (level agent m p values k) t s (reaching k t before) (subst (Among (next_states agent m t)) (sym is) a)) refl

  once : (k : ℕ) → Once (level agent m p values k)
  once zero = (λ h. h, tt)
  once (suc k) = distinct-once [] (flat_map (next_states agent m) (level agent m p values k))

  pub level_is : (k : ℕ) → IsLevel agent m p values k
  level_is k = record {
    reached = λ s h. reached k s (among-contains (level agent m p values k) s h);
    all = λ s r. contains-among (level agent m p values k) s (reaching k s r);
    once = once-at (level agent m p values k) (once k);
  }
