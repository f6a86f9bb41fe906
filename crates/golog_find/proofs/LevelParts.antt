-- What one step leads to: the distinct ones among all states that ways lead to.
use Rattle.std.proofs.Common.{◌≡◌, ℕ, suc, Bool, true, false, if◌then◌else◌, List, [], ◌∷◌, ◌++◌, map, refl, sym, ap, ◌∙◌, append_assoc}
use Rattle.std.specs.Prelude.{not, ◌||◌, filter, fold}
use Rattle.std.specs.List.{flat_map, list_any}
use Rattle.golog_base.proofs.Bools.{or-false, or-true}
use Rattle.golog_tree.specs.declared.agent.Agent.{Agent}
use Rattle.golog_tree.specs.declared.prog.Way.{Way}
use Rattle.golog_semantics.specs.declared.Mode.{Mode}
use Rattle.golog_semantics.specs.Truth.{Values}
use Rattle.golog_semantics.specs.Values.{after}
use Rattle.golog_semantics.specs.Search.{is_followed, plain_ways}
use Rattle.golog_semantics.specs.Blocks.{State, distinct, next_states, same_state}
use Rattle.golog_find.specs.Levels.{Level, Reached, is_there, next_level, nothing_reached, reached_by, state_of, with_state, with_steps, with_way}

append-none : {A : Type 0} (xs : List A) → xs ++ [] ≡ xs
append-none [] = refl
append-none (x ∷ xs) = ap (λ ys. x ∷ ys) (append-none xs)

pub or-assoc : (a b c : Bool) → ((a || b) || c) ≡ (a || (b || c))
or-assoc true b c = refl
or-assoc false b c = refl

pub or-swap : (a b : Bool) → (a || b) ≡ (b || a)
or-swap true b = sym (or-true b)
or-swap false b = sym (or-false b)

pub any-append : {A : Type 0} (f : A → Bool) (xs ys : List A) → list_any f (xs ++ ys) ≡ (list_any f xs || list_any f ys)
any-append f [] ys = refl
any-append f (x ∷ xs) ys = ap (λ b. f x || b) (any-append f xs ys) ∙ sym (or-assoc (f x) (list_any f xs) (list_any f ys))

pub map-append : {A B : Type 0} (f : A → B) (xs ys : List A) → map f (xs ++ ys) ≡ map f xs ++ map f ys
map-append f [] ys = refl
map-append f (x ∷ xs) ys = ap (λ zs. f x ∷ zs) (map-append f xs ys)

-- the distinct ones among these, each where it first stands, behind those seen
abbrev pub fresh : List Reached → List Reached → List Reached
fresh seen [] = []
fresh seen (r ∷ rs) = if is_there seen (state_of r) then fresh seen rs else r ∷ fresh (seen ++ r ∷ []) rs

pub fresh-append : (seen xs ys : List Reached) → fresh seen (xs ++ ys) ≡ fresh seen xs ++ fresh (seen ++ fresh seen xs) ys
fresh-append seen [] ys = ap (λ z. fresh z ys) (sym (append-none seen))
fresh-append seen (x ∷ xs) ys = go (is_there seen (state_of x)) (fresh-append seen xs ys) (fresh-append (seen ++ x ∷ []) xs ys)
  where
    go : (b : Bool) → fresh seen (xs ++ ys) ≡ fresh seen xs ++ fresh (seen ++ fresh seen xs) ys
        → fresh (seen ++ x ∷ []) (xs ++ ys) ≡ fresh (seen ++ x ∷ []) xs ++ fresh ((seen ++ x ∷ []) ++ fresh (seen ++ x ∷ []) xs) ys
        → (if b then fresh seen (xs ++ ys) else x ∷ fresh (seen ++ x ∷ []) (xs ++ ys))
        ≡ (if b then fresh seen xs else x ∷ fresh (seen ++ x ∷ []) xs) ++ fresh (seen ++ (if b then fresh seen xs else x ∷ fresh (seen ++ x ∷ []) xs)) ys
    go true one other = one
    go false one other =
        ap (λ z. x ∷ z) (other ∙ ap (λ z. fresh (seen ++ x ∷ []) xs ++ fresh z ys) (append_assoc seen (x ∷ []) (fresh (seen ++ x ∷ []) xs)))

-- the same states as those of the definition, whatever the order of those seen
module _ where
  abbrev Same : List Reached → List State → Type 0
  Same seen states = (s : State) → is_there seen s ≡ list_any (same_state s) states

  same-more : (seen : List Reached) (states : List State) (r : Reached) → Same seen states → Same (seen ++ r ∷ []) (state_of r ∷ states)
  same-more seen states r h s =
      any-append (λ (x : Reached). same_state s (state_of x)) seen (r ∷ [])
      ∙ ap (λ b. is_there seen s || b) (or-false (same_state s (state_of r)))
      ∙ ap (λ b. b || same_state s (state_of r)) (h s)
      ∙ or-swap (list_any (same_state s) states) (same_state s (state_of r))

  pub fresh-states : (xs seen : List Reached) (states : List State) → Same seen states → map state_of (fresh seen xs) ≡ distinct states (map state_of xs)
  fresh-states [] seen states h = refl
  fresh-states (x ∷ xs) seen states h =
      go (is_there seen (state_of x)) (list_any (same_state (state_of x)) states) (h (state_of x))
      (fresh-states xs seen states h) (fresh-states xs (seen ++ x ∷ []) (state_of x ∷ states) (same-more seen states x h))
    where
      go : (b c : Bool) → b ≡ c → map state_of (fresh seen xs) ≡ distinct states (map state_of xs)
          → map state_of (fresh (seen ++ x ∷ []) xs) ≡ distinct (state_of x ∷ states) (map state_of xs) → map state_of (if b then fresh seen xs else x ∷ fresh (seen ++ x ∷ []) xs)
          ≡ (if c then distinct states (map state_of xs) else state_of x ∷ distinct (state_of x ∷ states) (map state_of xs))
      go true true e one other = one
      go true false e one other = absurd (cc)
      go false true e one other = absurd (cc)
      go false false e one other = ap (λ z. state_of x ∷ z) other

module _ (agent : Agent) (m : Mode) where
  -- where the ways that are followed lead from a state
  abbrev pub steps_from : ℕ → Reached → List Reached
  steps_from from r = map (reached_by agent from r.state) (filter is_followed (plain_ways agent r.state m r.way.left))

  -- the same from all of these
  abbrev pub steps_all : ℕ → List Reached → List Reached
  steps_all from [] = []
  steps_all from (r ∷ rs) = steps_from from r ++ steps_all (suc from) rs

  -- some way of these is not followed
  abbrev pub cuts : List Way → Bool
  cuts ws = list_any (λ w. not (is_followed w)) ws

  abbrev pub cut_at : Reached → Bool
  cut_at r = cuts (plain_ways agent r.state m r.way.left)

  -- where these ways lead, those that are followed
  abbrev led : ℕ → Values → List Way → List Reached
  led from values ws = map (reached_by agent from values) (filter is_followed ws)

  abbrev Folds : ℕ → Values → List Way → Type 0
  Folds from values ws =
      (l : Level) → fold (with_way agent from values) l ws ≡ record { states = l.states ++ fresh l.states (led from values ws); cut = l.cut || cuts ws }

  with_state-fold : (from : ℕ) (values : Values) (ws : List Way) (r : Reached) (l : Level) → Folds from values ws → (b : Bool)
      → fold (with_way agent from values) (if b then l else record { states = l.states ++ r ∷ []; cut = l.cut }) ws
      ≡ record { states = l.states ++ (if b then fresh l.states (led from values ws) else r ∷ fresh (l.states ++ r ∷ []) (led from values ws)); cut = l.cut || cuts ws }
  with_state-fold from values ws r l later true = later l
  with_state-fold from values ws r l later false =
      later (record { states = l.states ++ r ∷ []; cut = l.cut })
      ∙ (λ i. record { states = append_assoc l.states (r ∷ []) (fresh (l.states ++ r ∷ []) (led from values ws)) i; cut = l.cut || cuts ws })

  with_way-fold : (from : ℕ) (values : Values) (w : Way) (ws : List Way) (l : Level) → Folds from values ws → (b : Bool)
      → fold (with_way agent from values) (if b then with_state l (reached_by agent from values w) else record { states = l.states; cut = true }) ws
      ≡ record { states = l.states ++ fresh l.states (map (reached_by agent from values) (if b then w ∷ filter is_followed ws else filter is_followed ws)); cut = l.cut || (not b || cuts ws) }
  with_way-fold from values w ws l later true =
      with_state-fold from values ws (reached_by agent from values w) l later (is_there l.states (state_of (reached_by agent from values w)))
  with_way-fold from values w ws l later false =
      later (record { states = l.states; cut = true })
      ∙ (λ i. record { states = l.states ++ fresh l.states (led from values ws); cut = sym (or-true l.cut) i })

  ways-fold : (from : ℕ) (values : Values) (ws : List Way) → Folds from values ws
  ways-fold from values [] l = λ i. record { states = sym (append-none l.states) i; cut = sym (or-false l.cut) i }
  ways-fold from values (w ∷ ws) l = with_way-fold from values w ws l (ways-fold from values ws) (is_followed w)

  steps-fold : (rs : List Reached) (from : ℕ) (l : Level) → with_steps agent m from l rs
      ≡ record { states = l.states ++ fresh l.states (steps_all from rs); cut = l.cut || list_any cut_at rs }
  steps-fold [] from l = λ i. record { states = sym (append-none l.states) i; cut = sym (or-false l.cut) i }
  steps-fold (r ∷ rs) from l =
      let here = fresh l.states (steps_from from r) in
      ap (λ z. with_steps agent m (suc from) z rs) (ways-fold from r.state (plain_ways agent r.state m r.way.left) l)
      ∙ steps-fold rs (suc from) (record { states = l.states ++ here; cut = l.cut || cut_at r })
      ∙ (λ i. record {
        states = (append_assoc l.states here (fresh (l.states ++ here) (steps_all (suc from) rs))
            ∙ ap (λ z. l.states ++ z) (sym (fresh-append l.states (steps_from from r) (steps_all (suc from) rs)))) i;
        cut = or-assoc l.cut (cut_at r) (list_any cut_at rs) i;
      })

  -- one step leads to the distinct ones of all states that it leads to
  pub next_level-parts : (rs : List Reached) → next_level agent m rs ≡ record { states = fresh [] (steps_all 0 rs); cut = list_any cut_at rs }
  next_level-parts rs = steps-fold rs 0 nothing_reached

  states-map : (from : ℕ) (values : Values) (ws : List Way) → map state_of (map (reached_by agent from values) ws) ≡ map (λ (w : Way). (w.left, after agent values w.label)) ws
  states-map from values [] = refl
  states-map from values (w ∷ ws) = ap (λ z. (w.left, after agent values w.label) ∷ z) (states-map from values ws)

  steps-states : (rs : List Reached) (from : ℕ) → map state_of (steps_all from rs) ≡ flat_map (next_states agent m) (map state_of rs)
  steps-states [] from = refl
  steps-states (r ∷ rs) from =
      map-append state_of (steps_from from r) (steps_all (suc from) rs)
      ∙ ap (λ z. z ++ map state_of (steps_all (suc from) rs)) (states-map from r.state (filter is_followed (plain_ways agent r.state m r.way.left)))
      ∙ ap (λ z. next_states agent m (state_of r) ++ z) (steps-states rs (suc from))

  -- the states that one step leads to are those of the definition
  pub next_level-states : (rs : List Reached) → map state_of (next_level agent m rs).states ≡ distinct [] (flat_map (next_states agent m) (map state_of rs))
  next_level-states rs =
      ap (λ (l : Level). map state_of l.states) (next_level-parts rs)
      ∙ fresh-states (steps_all 0 rs) [] [] (λ s. refl)
      ∙ ap (distinct []) (steps-states rs 0)
