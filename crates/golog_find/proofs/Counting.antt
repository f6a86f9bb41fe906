-- How many states a search looks at, and what it leaves unseen.
use Rattle.std.proofs.Common.{◌≡◌, ℕ, zero, suc, ◌+◌, ◌≤◌, Bool, true, false, if◌then◌else◌, List, [], ◌∷◌, ◌++◌, length, map, Option, refl, sym, ap, ◌∙◌, subst, arith}
use Rattle.std.specs.Prelude.{not, ◌&&◌, ◌||◌, filter, sum_by, unwrap_or}
use Rattle.std.specs.List.{flat_map, list_any, range_with_len}
use Rattle.std.proofs.lemmas.List.{length-map}
use Rattle.std.proofs.lemmas.List.FromFn.{sum_by-map-range_with_len_more}
use Rattle.golog_base.proofs.Bools.{or-false}
use Rattle.golog_tree.specs.declared.agent.Agent.{Agent}
use Rattle.golog_tree.specs.declared.prog.Prog.{Prog}
use Rattle.golog_tree.specs.declared.prog.Way.{Way}
use Rattle.golog_semantics.specs.declared.Mode.{Mode}
use Rattle.golog_semantics.specs.Truth.{Values}
use Rattle.golog_semantics.specs.Values.{after}
use Rattle.golog_semantics.specs.Ways.{is_empty}
use Rattle.golog_semantics.specs.Search.{Run, best, is_followed, plain_ways}
use Rattle.golog_semantics.specs.Blocks.{State, distinct, has_path, is_cut, level, meets_cut, next_states, option_length, same_state, work}
use Rattle.golog_find.specs.Levels.{Level, Reached, is_there, reached_by, state_of}
use Rattle.golog_find.proofs.Seen.{count_before, cut_before, level_at}
use Rattle.golog_find.proofs.FirstRuns.{same_state-eq}
use Rattle.golog_find.proofs.LevelParts.{any-append, cut_at, cuts, fresh, next_level-parts, next_level-states, or-assoc, steps_all, steps_from}

-- whether some of these pass, as their distinct states tell
module _ (f : State → Bool) where
  abbrev passes : Reached → Bool
  passes r = f (state_of r)

  abbrev NonePasses : List Reached → Type 0
  NonePasses seen = (s : State) → is_there seen s ≡ true → f s ≡ false

  none-passes : (seen : List Reached) (r : Reached) → NonePasses seen → passes r ≡ false → NonePasses (seen ++ r ∷ [])
  none-passes seen r h e s k = go (is_there seen s) refl (same_state s (state_of r)) refl
      (sym (any-append (λ (x : Reached). same_state s (state_of x)) seen (r ∷ []) ∙ ap (λ b. is_there seen s || b) (or-false (same_state s (state_of r)))) ∙ k)
    where
      go : (a : Bool) → is_there seen s ≡ a → (b : Bool) → same_state s (state_of r) ≡ b → (is_there seen s || same_state s (state_of r)) ≡ true → f s ≡ false
      go true there b same k = h s there
      go false there true same k = ap f (same_state-eq s (state_of r) same) ∙ e
      go false there false same k = let x : (false || false) ≡ true = sym (ap (λ a. a || same_state s (state_of r)) there ∙ ap (λ b. false || b) same) ∙ k in absurd (cc)

  pub any-fresh : (xs seen : List Reached) → NonePasses seen → list_any passes (fresh seen xs) ≡ list_any passes xs
  any-fresh [] seen h = refl
  any-fresh (x ∷ xs) seen h =
      go (is_there seen (state_of x)) refl (passes x) refl (any-fresh xs seen h) (λ e. any-fresh xs (seen ++ x ∷ []) (none-passes seen x h e))
    where
      go : (b : Bool) → is_there seen (state_of x) ≡ b → (c : Bool) → passes x ≡ c → list_any passes (fresh seen xs) ≡ list_any passes xs
          → (passes x ≡ false → list_any passes (fresh (seen ++ x ∷ []) xs) ≡ list_any passes xs)
          → list_any passes (if b then fresh seen xs else x ∷ fresh (seen ++ x ∷ []) xs) ≡ (passes x || list_any passes xs)
      go true there c e one other = one ∙ ap (λ a. a || list_any passes xs) (sym (h (state_of x) there))
      go false there true e one other = ap (λ a. a || list_any passes (fresh (seen ++ x ∷ []) xs)) e ∙ ap (λ a. a || list_any passes xs) (sym e)
      go false there false e one other = ap (λ a. passes x || a) (other e)

pub any-map : {A B : Type 0} (f : B → Bool) (g : A → B) (xs : List A) → list_any f (map g xs) ≡ list_any (λ x. f (g x)) xs
any-map f g [] = refl
any-map f g (x ∷ xs) = ap (λ b. f (g x) || b) (any-map f g xs)

pub any-filter : (f keep : Way → Bool) (ws : List Way) → list_any f (filter keep ws) ≡ list_any (λ w. keep w && f w) ws
any-filter f keep [] = refl
any-filter f keep (w ∷ ws) = go (keep w) (any-filter f keep ws)
  where
    go : (b : Bool) → list_any f (filter keep ws) ≡ list_any (λ w. keep w && f w) ws → list_any f (if b then w ∷ filter keep ws else filter keep ws) ≡ ((b && f w) || list_any (λ w. keep w && f w) ws)
    go true e = ap (λ b. f w || b) e
    go false e = e

pub swap-four : (a b c d : Bool) → ((a || b) || (c || d)) ≡ ((a || c) || (b || d))
swap-four true b c d = refl
swap-four false true true d = refl
swap-four false true false d = refl
swap-four false false c d = refl

any-split : (f keep : Way → Bool) (ws : List Way) → list_any (λ w. not (keep w) || f w) ws ≡ (list_any (λ w. not (keep w)) ws || list_any f (filter keep ws))
any-split f keep [] = refl
any-split f keep (w ∷ ws) = go (keep w) (any-split f keep ws)
  where
    go : (b : Bool) → list_any (λ w. not (keep w) || f w) ws ≡ (list_any (λ w. not (keep w)) ws || list_any f (filter keep ws))
        → ((not b || f w) || list_any (λ w. not (keep w) || f w) ws) ≡ ((not b || list_any (λ w. not (keep w)) ws) || list_any f (if b then w ∷ filter keep ws else filter keep ws))
    go true e = ap (λ b. f w || b) e ∙ swap-four false (f w) (list_any (λ w. not (keep w)) ws) (list_any f (filter keep ws))
    go false e = refl

any-none : (rs : List Reached) → list_any (λ r. false) rs ≡ false
any-none [] = refl
any-none (r ∷ rs) = any-none rs

any-all : (rs : List Reached) → list_any (λ r. true) rs ≡ not (is_empty rs)
any-all [] = refl
any-all (r ∷ rs) = refl

module _ (agent : Agent) (m : Mode) where
  -- a path of so many ways begins in the state
  abbrev path : ℕ → State → Bool
  path n (p, values) = has_path agent m n p values

  -- a way that is not followed lies within so many ways of the state
  abbrev meets : ℕ → State → Bool
  meets n (p, values) = meets_cut agent m n p values

  paths-more : (n : ℕ) (rs : List Reached) (from : ℕ) → list_any (λ r. path (suc n) (state_of r)) rs ≡ list_any (λ r. path n (state_of r)) (steps_all agent m from rs)
  paths-more n [] from = refl
  paths-more n (r ∷ rs) from =
      let ways = plain_ways agent r.state m r.way.left in
      let one = any-map (λ (x : Reached). path n (state_of x)) (reached_by agent from r.state) (filter is_followed ways)
      ∙ any-filter (λ w. path n (w.left, after agent r.state w.label)) is_followed ways in
      ap (λ b. path (suc n) (state_of r) || b) (paths-more n rs (suc from))
      ∙ ap (λ b. b || list_any (λ x. path n (state_of x)) (steps_all agent m (suc from) rs)) (sym one)
      ∙ sym (any-append (λ (x : Reached). path n (state_of x)) (steps_from agent m from r) (steps_all agent m (suc from) rs))

  meets-more : (n : ℕ) (rs : List Reached) (from : ℕ) → list_any (λ r. meets (suc n) (state_of r)) rs ≡ (list_any (cut_at agent m) rs || list_any (λ r. meets n (state_of r)) (steps_all agent m from rs))
  meets-more n [] from = refl
  meets-more n (r ∷ rs) from =
      let ways = plain_ways agent r.state m r.way.left in
      let there = list_any (λ x. meets n (state_of x)) (steps_all agent m (suc from) rs) in
      let one = any-split (λ w. meets n (w.left, after agent r.state w.label)) is_followed ways
      ∙ ap (λ b. cuts agent m ways || b) (sym (any-map (λ (x : Reached). meets n (state_of x)) (reached_by agent from r.state) (filter is_followed ways))) in
      ap (λ b. meets (suc n) (state_of r) || b) (meets-more n rs (suc from))
      ∙ ap (λ b. b || (list_any (cut_at agent m) rs || there)) one
      ∙ swap-four (cuts agent m ways) (list_any (λ x. meets n (state_of x)) (steps_from agent m from r)) (list_any (cut_at agent m) rs) there
      ∙ ap (λ b. (cuts agent m ways || list_any (cut_at agent m) rs) || b) (sym (any-append (λ (x : Reached). meets n (state_of x)) (steps_from agent m from r) (steps_all agent m (suc from) rs)))

  module _ (p : Prog) (values : Values) where
    any-next : (f : State → Bool) (n : ℕ) → list_any (λ r. f (state_of r)) (level_at agent m p values (suc n)) ≡ list_any (λ r. f (state_of r)) (steps_all agent m 0 (level_at agent m p values n))
    any-next f n =
        ap (λ (l : Level). list_any (λ r. f (state_of r)) l.states) (next_level-parts agent m (level_at agent m p values n))
        ∙ any-fresh f (steps_all agent m 0 (level_at agent m p values n)) [] (λ s e. absurd (cc))

    paths-from : (n more : ℕ) → list_any (λ r. path more (state_of r)) (level_at agent m p values n) ≡ path (n + more) (p, values)
    paths-from zero more = let same : 0 + more ≡ more = omega arith in or-false (path more (p, values)) ∙ ap (λ k. path k (p, values)) (sym same)
    paths-from (suc n) more =
        let same : n + suc more ≡ suc n + more = omega arith in
        any-next (path more) n ∙ sym (paths-more more (level_at agent m p values n) 0) ∙ paths-from n (suc more) ∙ ap (λ k. path k (p, values)) same

    meets-from : (n more : ℕ) → (cut_before agent m p values n || list_any (λ r. meets more (state_of r)) (level_at agent m p values n)) ≡ meets (n + more) (p, values)
    meets-from zero more = let same : 0 + more ≡ more = omega arith in or-false (meets more (p, values)) ∙ ap (λ k. meets k (p, values)) (sym same)
    meets-from (suc n) more =
        let same : n + suc more ≡ suc n + more = omega arith in
        let states = level_at agent m p values n in
        let later = list_any (λ r. meets more (state_of r)) (steps_all agent m 0 states) in
        ap (λ b. cut_before agent m p values (suc n) || b) (any-next (meets more) n)
        ∙ ap (λ (l : Level). (cut_before agent m p values n || l.cut) || later) (next_level-parts agent m states)
        ∙ or-assoc (cut_before agent m p values n) (list_any (cut_at agent m) states) later
        ∙ ap (λ b. cut_before agent m p values n || b) (sym (meets-more more states 0))
        ∙ meets-from n (suc more) ∙ ap (λ k. meets k (p, values)) same

    -- a search within the depth leaves something unseen where states are left at the depth, or a way was not followed
    pub cut-is : (n : ℕ) → (not (is_empty (level_at agent m p values n)) || cut_before agent m p values n) ≡ is_cut agent m n p values
    cut-is n =
        let same : n + 0 ≡ n = omega arith in
        let one : not (is_empty (level_at agent m p values n)) ≡ path n (p, values) = sym (any-all (level_at agent m p values n)) ∙ paths-from n 0 ∙ ap (λ k. path k (p, values)) same in
        let other : cut_before agent m p values n ≡ meets n (p, values) =
        sym (ap (λ b. cut_before agent m p values n || b) (any-none (level_at agent m p values n)) ∙ or-false (cut_before agent m p values n)) ∙ meets-from n 0 ∙ ap (λ k. meets k (p, values)) same in
        ap (λ b. b || cut_before agent m p values n) one ∙ ap (λ b. path n (p, values) || b) other

module _ (agent : Agent) (m : Mode) (p : Prog) (values : Values) where
  -- the states of a level are those of the definition
  pub level-states : (n : ℕ) → map state_of (level_at agent m p values n) ≡ level agent m p values n
  level-states zero = refl
  level-states (suc n) =
      next_level-states agent m (level_at agent m p values n)
      ∙ ap (λ z. distinct [] (flat_map (next_states agent m) z)) (level-states n)

  pub level-count : (n : ℕ) → length (level_at agent m p values n) ≡ length (level agent m p values n)
  level-count n = sym (length-map (level_at agent m p values n) state_of) ∙ ap length (level-states n)

  abbrev counts : ℕ → ℕ
  counts n = sum_by (λ k. length (level agent m p values k)) (range_with_len 0 n)

  map-id : (xs : List ℕ) → map (λ x. x) xs ≡ xs
  map-id [] = refl
  map-id (x ∷ xs) = ap (λ ys. x ∷ ys) (map-id xs)

  counts-more : (n : ℕ) → counts (n + 1) ≡ counts n + length (level agent m p values n)
  counts-more n =
      ap (sum_by (λ k. length (level agent m p values k))) (sym (map-id (range_with_len 0 (n + 1))))
      ∙ sum_by-map-range_with_len_more (λ k. length (level agent m p values k)) (λ k. k) 0 n n (omega arith)
      ∙ ap (λ ks. sum_by (λ k. length (level agent m p values k)) ks + length (level agent m p values n)) (map-id (range_with_len 0 n))

  pub counted : (n : ℕ) → counts n ≡ count_before agent m p values n
  counted zero = refl
  counted (suc n) =
      let same : suc n ≡ n + 1 = omega arith in
      ap counts same ∙ counts-more n ∙ ap (λ k. k + length (level agent m p values n)) (counted n)
      ∙ ap (λ k. count_before agent m p values n + k) (sym (level-count n))

  pub count-grows : (n more : ℕ) → count_before agent m p values n ≤ count_before agent m p values (n + more)
  count-grows n zero = let same : n + 0 ≡ n = omega arith in subst (λ k. count_before agent m p values n ≤ count_before agent m p values k) (sym same) (omega arith)
  count-grows n (suc more) =
      let same : n + suc more ≡ suc (n + more) = omega arith in
      let below = count-grows n more in
      subst (λ k. count_before agent m p values n ≤ count_before agent m p values k) (sym same) (omega arith)

  -- how far a search looks where the best run is this one
  pub worked : (depth : ℕ) (o : Option Run) → best agent m depth p values ≡ o
      → work agent m depth p values ≡ count_before agent m p values (unwrap_or (option_length o) depth)
  unfolding work
  worked depth o e = ap (λ b. counts (unwrap_or (option_length b) depth)) e ∙ counted (unwrap_or (option_length o) depth)
