-- When a search block has a step that is near, and when one that is possible.
use Rattle.std.proofs.Common.{◌≡◌, ℕ, zero, suc, ◌+◌, ◌≤◌, Bool, true, false, if◌then◌else◌, List, [], ◌∷◌, ◌++◌, map, filter, Option, refl, sym, ap, ◌∙◌, arith}
use Rattle.std.specs.Prelude.{not, ◌&&◌, ◌||◌}
use Rattle.std.specs.List.{flat_map, list_any, range_with_len}
use Rattle.std.specs.Option.{is_some}
use Rattle.golog_tree.specs.declared.agent.Agent.{Agent}
use Rattle.golog_tree.specs.declared.prog.Prog.{Prog}
use Rattle.golog_tree.specs.declared.prog.Way.{Way}
use Rattle.golog_semantics.specs.declared.Mode.TheVariants.{May, Near}
use Rattle.golog_semantics.specs.Truth.{Values}
use Rattle.golog_semantics.specs.Values.{after}
use Rattle.golog_semantics.specs.Ways.{is_empty}
use Rattle.golog_semantics.specs.Search.{Run, best, best_from, first_of, is_followed, plain_ways, runs}
use Rattle.golog_semantics.specs.Blocks.{begins_run, block_moves, has_path, is_cut, may_succeed, meets_cut}
use Rattle.golog_find.proofs.Counting.{any-filter, swap-four}
use Rattle.golog_find.proofs.LevelParts.{or-assoc}

module _ {A : Type 0} where
  any-same : (f g : A → Bool) → ((x : A) → f x ≡ g x) → (xs : List A) → list_any f xs ≡ list_any g xs
  any-same f g e [] = refl
  any-same f g e (x ∷ xs) = ap (λ b. b || list_any f xs) (e x) ∙ ap (λ b. g x || b) (any-same f g e xs)

  any-or : (f g : A → Bool) (xs : List A) → list_any (λ x. f x || g x) xs ≡ (list_any f xs || list_any g xs)
  any-or f g [] = refl
  any-or f g (x ∷ xs) = ap (λ b. (f x || g x) || b) (any-or f g xs) ∙ swap-four (f x) (g x) (list_any f xs) (list_any g xs)

  any-never : (xs : List A) → list_any (λ x. false) xs ≡ false
  any-never [] = refl
  any-never (x ∷ xs) = any-never xs

  filter-left : (keep : A → Bool) (xs : List A) → not (is_empty (filter keep xs)) ≡ list_any keep xs
  filter-left keep [] = refl
  filter-left keep (x ∷ xs) = go (keep x) (filter-left keep xs)
    where
      go : (b : Bool) → not (is_empty (filter keep xs)) ≡ list_any keep xs
          → not (is_empty (if b then x ∷ filter keep xs else filter keep xs)) ≡ (b || list_any keep xs)
      go true e = refl
      go false e = e

append-left : {A : Type 0} (xs ys : List A) → not (is_empty (xs ++ ys)) ≡ (not (is_empty xs) || not (is_empty ys))
append-left [] ys = refl
append-left (x ∷ xs) ys = refl

module _ {A B : Type 0} where
  map-left : (f : A → B) (xs : List A) → not (is_empty (map f xs)) ≡ not (is_empty xs)
  map-left f [] = refl
  map-left f (x ∷ xs) = refl

  flat-left : (f : A → List B) (xs : List A) → not (is_empty (flat_map f xs)) ≡ list_any (λ x. not (is_empty (f x))) xs
  flat-left f [] = refl
  flat-left f (x ∷ xs) = append-left (f x) (flat_map f xs) ∙ ap (λ b. not (is_empty (f x)) || b) (flat-left f xs)

  -- some of these pass with some of those, in either order
  any-both : (f : A → B → Bool) (xs : List A) (ys : List B)
      → list_any (λ x. list_any (f x) ys) xs ≡ list_any (λ y. list_any (λ x. f x y) xs) ys
  any-both f [] ys = sym (any-never ys)
  any-both f (x ∷ xs) ys =
      ap (λ b. list_any (f x) ys || b) (any-both f xs ys) ∙ sym (any-or (f x) (λ y. list_any (λ z. f z y) xs) ys)

any-and : {A : Type 0} (b : Bool) (f : A → Bool) (xs : List A) → (b && list_any f xs) ≡ list_any (λ x. b && f x) xs
any-and true f xs = refl
any-and false f xs = sym (any-never xs)

any-range : (f : ℕ → Bool) (a n : ℕ) → list_any f (range_with_len (a + 1) n) ≡ list_any (λ k. f (suc k)) (range_with_len a n)
any-range f a zero = refl
any-range f a (suc n) =
    let same : a + 1 ≡ suc a = omega arith in
    ap (λ k. f k || list_any f (range_with_len (a + 1 + 1) n)) same
    ∙ ap (λ b. f (suc a) || b) (any-range f (a + 1) n)

-- a way is unseen, or leads on to what is
unseen : (followed path cut : Bool) → (not followed || (followed && (path || cut))) ≡ ((followed && path) || (not followed || cut))
unseen true path cut = refl
unseen false path cut = refl

module _ (agent : Agent) (values : Values) (body : Prog) where
  abbrev ways : List Way
  ways = plain_ways agent values Near body

  -- some run of exactly so many ways
  abbrev has_run : ℕ → Bool
  has_run n = not (is_empty (runs agent Near n body values))

  -- a run of so many ways comes after this one
  abbrev runs_after : Way → ℕ → Bool
  runs_after w n = not (is_empty (runs agent Near n w.left (after agent values w.label)))

  run-more : (n : ℕ) → has_run (suc n) ≡ list_any (λ w. is_followed w && runs_after w n) ways
  unfolding runs
  run-more n =
      let longer = λ (w : Way). map (λ (r : Run). w ∷ r) (runs agent Near n w.left (after agent values w.label)) in
      flat-left longer (filter is_followed ways)
      ∙ any-same (λ w. not (is_empty (longer w))) (λ w. runs_after w n)
      (λ w. map-left (λ (r : Run). w ∷ r) (runs agent Near n w.left (after agent values w.label))) (filter is_followed ways)
      ∙ any-filter (λ w. runs_after w n) is_followed ways

  first-some : (rs : List Run) (later : Option Run) → is_some (first_of rs later) ≡ (not (is_empty rs) || is_some later)
  first-some [] later = refl
  first-some (r ∷ rs) later = refl

  best-some : (n more : ℕ) → is_some (best_from agent Near n more body values) ≡ list_any has_run (range_with_len n more)
  best-some n zero = refl
  best-some n (suc more) =
      first-some (runs agent Near n body values) (best_from agent Near (n + 1) more body values)
      ∙ ap (λ b. has_run n || b) (best-some (n + 1) more)

  -- a run begins with some way exactly where there is a best one
  begins-some : (depth : ℕ) → list_any (begins_run agent values depth) ways ≡ is_some (best agent Near depth body values)
  unfolding best
  begins-some depth =
      any-same (begins_run agent values depth) (λ w. list_any (λ n. is_followed w && runs_after w n) (range_with_len 0 depth))
      (λ w. any-and (is_followed w) (runs_after w) (range_with_len 0 depth)) ways
      ∙ any-both (λ w n. is_followed w && runs_after w n) ways (range_with_len 0 depth)
      ∙ any-same (λ n. list_any (λ w. is_followed w && runs_after w n) ways) (λ n. has_run (suc n)) (λ n. sym (run-more n)) (range_with_len 0 depth)
      ∙ sym (any-range has_run 0 depth)
      ∙ sym (best-some 1 depth)

  -- something after a way, or the way itself, is unseen
  abbrev goes_past : ℕ → Way → Bool
  goes_past n w = not (is_followed w) || (is_followed w && is_cut agent Near n w.left (after agent values w.label))

  past-cut : (n : ℕ) → list_any (goes_past n) ways ≡ is_cut agent Near (suc n) body values
  past-cut n =
      let path = λ (w : Way). has_path agent Near n w.left (after agent values w.label) in
      let cut = λ (w : Way). meets_cut agent Near n w.left (after agent values w.label) in
      any-same (goes_past n) (λ w. (is_followed w && path w) || (not (is_followed w) || cut w))
      (λ w. unseen (is_followed w) (path w) (cut w)) ways
      ∙ any-or (λ w. is_followed w && path w) (λ w. not (is_followed w) || cut w) ways

  module _ (depth fuel : ℕ) (rest : Run) where
    -- a block has a step in Near exactly where it has a run
    pub near-steps : not (is_empty (block_moves agent values Near depth fuel body rest)) ≡ is_some (best agent Near depth body values)
    near-steps =
        map-left _ (filter (begins_run agent values depth) ways)
        ∙ filter-left (begins_run agent values depth) ways ∙ begins-some depth

    -- and in May exactly where it has a run, or leaves something unseen
    pub may-steps : 1 ≤ depth → not (is_empty (block_moves agent values May depth fuel body rest))
        ≡ (is_some (best agent Near depth body values) || is_cut agent Near depth body values)
    may-steps some = go depth some
      where
        go : (d : ℕ) → 1 ≤ d → not (is_empty (block_moves agent values May d fuel body rest))
            ≡ (is_some (best agent Near d body values) || is_cut agent Near d body values)
        go zero some = absurd (omega arith)
        go (suc n) some =
            map-left _ (filter (may_succeed agent values (suc n)) ways)
            ∙ filter-left (may_succeed agent values (suc n)) ways
            ∙ any-same (may_succeed agent values (suc n)) (λ w. begins_run agent values (suc n) w || goes_past n w)
            (λ w. or-assoc (begins_run agent values (suc n) w) (not (is_followed w)) (is_followed w && is_cut agent Near n w.left (after agent values w.label))) ways
            ∙ any-or (begins_run agent values (suc n)) (goes_past n) ways
            ∙ ap (λ b. b || list_any (goes_past n) ways) (begins-some (suc n))
            ∙ ap (λ b. is_some (best agent Near (suc n) body values) || b) (past-cut n)
