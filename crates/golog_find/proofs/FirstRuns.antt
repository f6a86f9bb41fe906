-- The first run of a length, found among the states that so many steps lead to.
use Rattle.std.proofs.Common.{◌≡◌, ℕ, zero, suc, ◌+◌, Bool, true, false, if◌then◌else◌, List, [], ◌∷◌, ◌++◌, map, Option, Some, None, refl, sym, ap, ◌∙◌, append_assoc, arith}
use Rattle.std.specs.Prelude.{◌||◌, filter, slice_get}
use Rattle.std.specs.List.{flat_map}
use Rattle.std.specs.Option.{option_map, option_or}
use Rattle.golog_tree.specs.declared.agent.Agent.{Agent}
use Rattle.golog_tree.specs.declared.prog.Prog.{Prog}
use Rattle.golog_tree.specs.declared.prog.Way.{Way}
use Rattle.golog_semantics.specs.declared.Mode.{Mode}
use Rattle.golog_semantics.specs.Truth.{Values}
use Rattle.golog_semantics.specs.Values.{after}
use Rattle.golog_semantics.specs.Search.{Run, is_followed, plain_ways, runs}
use Rattle.golog_semantics.specs.Blocks.{State, same_state}
use Rattle.golog_semantics.specs.Same.{same_prog, same_values}
use Rattle.golog_semantics.proofs.Levels.{same_values-eq}
use Rattle.golog_semantics.proofs.SameLaws.{same_prog-eq}
use Rattle.golog_semantics.proofs.Words.{and-left, and-right}
use Rattle.golog_ways.specs.First.{head_of}
use Rattle.golog_find.specs.Levels.{Level, Reached, is_there, reached_by, run_to, start_of, state_of}
use Rattle.golog_find.proofs.Seen.{level_at, levels_before}
use Rattle.golog_find.proofs.LevelParts.{fresh, next_level-parts, steps_all, steps_from}
use Rattle.golog_find.proofs.RunsTo.{run_to-some}

pub same_state-eq : (s t : State) → same_state s t ≡ true → s ≡ t
same_state-eq (p, v) (q, w) e =
    let one : p ≡ q = same_prog-eq p q (and-right (same_values v w) (same_prog p q) e) in
    let other : v ≡ w = same_values-eq v w (and-left (same_values v w) (same_prog p q) e) in
    (λ i. (one i, other i))

-- the first of these that gives something
abbrev pub first_in : {A B : Type 0} → (A → Option B) → List A → Option B
first_in f [] = None
first_in f (x ∷ xs) = option_or (f x) (first_in f xs)

or-none : {B : Type 0} (o : Option B) → option_or o None ≡ o
or-none None = refl
or-none (Some b) = refl

or-assoc : {B : Type 0} (o p q : Option B) → option_or (option_or o p) q ≡ option_or o (option_or p q)
or-assoc None p q = refl
or-assoc (Some b) p q = refl

map-or : {B C : Type 0} (g : B → C) (o p : Option B) → option_map g (option_or o p) ≡ option_or (option_map g o) (option_map g p)
map-or g None p = refl
map-or g (Some b) p = refl

map-twice : {B C D : Type 0} (f : B → C) (g : C → D) (o : Option B) → option_map g (option_map f o) ≡ option_map (λ b. g (f b)) o
map-twice f g None = refl
map-twice f g (Some b) = refl

map-same : {B C : Type 0} (f g : B → C) → ((b : B) → f b ≡ g b) → (o : Option B) → option_map f o ≡ option_map g o
map-same f g e None = refl
map-same f g e (Some b) = ap Some (e b)

first-same : {A B : Type 0} (f g : A → Option B) → ((x : A) → f x ≡ g x) → (xs : List A) → first_in f xs ≡ first_in g xs
first-same f g e [] = refl
first-same f g e (x ∷ xs) = ap (λ o. option_or o (first_in f xs)) (e x) ∙ ap (option_or (g x)) (first-same f g e xs)

first-append : {A B : Type 0} (f : A → Option B) (xs ys : List A) → first_in f (xs ++ ys) ≡ option_or (first_in f xs) (first_in f ys)
first-append f [] ys = refl
first-append f (x ∷ xs) ys = ap (option_or (f x)) (first-append f xs ys) ∙ sym (or-assoc (f x) (first_in f xs) (first_in f ys))

first-map : {A B C : Type 0} (f : B → Option C) (g : A → B) (xs : List A) → first_in f (map g xs) ≡ first_in (λ x. f (g x)) xs
first-map f g [] = refl
first-map f g (x ∷ xs) = ap (option_or (f (g x))) (first-map f g xs)

first-option : {A B C : Type 0} (g : B → C) (f : A → Option B) (xs : List A) → option_map g (first_in f xs) ≡ first_in (λ x. option_map g (f x)) xs
first-option g f [] = refl
first-option g f (x ∷ xs) = map-or g (f x) (first_in f xs) ∙ ap (option_or (option_map g (f x))) (first-option g f xs)

head-append : {A : Type 0} (xs ys : List A) → head_of (xs ++ ys) ≡ option_or (head_of xs) (head_of ys)
head-append [] ys = refl
head-append (x ∷ xs) ys = refl

head-flat : {A B : Type 0} (f : A → List B) (xs : List A) → head_of (flat_map f xs) ≡ first_in (λ x. head_of (f x)) xs
head-flat f [] = refl
head-flat f (x ∷ xs) = head-append (f x) (flat_map f xs) ∙ ap (option_or (head_of (f x))) (head-flat f xs)

head-map : {A B : Type 0} (f : A → B) (xs : List A) → head_of (map f xs) ≡ option_map f (head_of xs)
head-map f [] = refl
head-map f (x ∷ xs) = refl

module _ (agent : Agent) (m : Mode) where
  -- the first run of so many ways from a state
  abbrev pub first_run : ℕ → State → Option Run
  first_run n (p, values) = head_of (runs agent m n p values)

  -- it is a first way that is followed, and the first run from there
  run-more : (n : ℕ) (p : Prog) (values : Values) → first_run (suc n) (p, values)
      ≡ first_in (λ w. option_map (λ r. w ∷ r) (first_run n (w.left, after agent values w.label))) (filter is_followed (plain_ways agent values m p))
  unfolding runs
  run-more n p values =
      let ways = filter is_followed (plain_ways agent values m p) in
      head-flat (λ w. map (λ r. w ∷ r) (runs agent m n w.left (after agent values w.label))) ways
      ∙ first-same (λ w. head_of (map (λ r. w ∷ r) (runs agent m n w.left (after agent values w.label))))
      (λ w. option_map (λ r. w ∷ r) (first_run n (w.left, after agent values w.label)))
      (λ w. head-map (λ r. w ∷ r) (runs agent m n w.left (after agent values w.label))) ways

  -- the first run through a state: what led there, and so many ways more
  abbrev pub run_through : (Reached → Run) → ℕ → Reached → Option Run
  run_through led n r = option_map (λ run. led r ++ run) (first_run n (state_of r))

  -- states that are there already, from which no run is so long, change nothing
  abbrev NoneFrom : ℕ → List Reached → Type 0
  NoneFrom n seen = (s : State) → is_there seen s ≡ true → first_run n s ≡ None

  none-more : (n : ℕ) (seen : List Reached) (r : Reached) → NoneFrom n seen → first_run n (state_of r) ≡ None → NoneFrom n (seen ++ r ∷ [])
  none-more n [] r h e s k = only (same_state s (state_of r)) refl k
    where
      only : (b : Bool) → same_state s (state_of r) ≡ b → (b || false) ≡ true → first_run n s ≡ None
      only true same k = ap (first_run n) (same_state-eq s (state_of r) same) ∙ e
      only false same k = absurd (cc)
  none-more n (x ∷ seen) r h e s k =
      go (same_state s (state_of x)) refl k (none-more n seen r (λ t j. h t (there t j)) e s)
    where
      there : (t : State) → is_there seen t ≡ true → is_there (x ∷ seen) t ≡ true
      there t j = or (same_state t (state_of x))
        where
          or : (b : Bool) → (b || is_there seen t) ≡ true
          or true = refl
          or false = j

      go : (b : Bool) → same_state s (state_of x) ≡ b → (b || is_there (seen ++ r ∷ []) s) ≡ true → (is_there (seen ++ r ∷ []) s ≡ true → first_run n s ≡ None) → first_run n s ≡ None
      go true same k later = h s (ap (λ b. b || is_there seen s) same)
      go false same k later = later k

  first-fresh : (led : Reached → Run) (n : ℕ) (xs seen : List Reached) → NoneFrom n seen → first_in (run_through led n) (fresh seen xs) ≡ first_in (run_through led n) xs
  first-fresh led n [] seen h = refl
  first-fresh led n (x ∷ xs) seen h =
      go (is_there seen (state_of x)) refl (first_run n (state_of x)) refl (first-fresh led n xs seen h) (λ e. first-fresh led n xs (seen ++ x ∷ []) (none-more n seen x h e))
    where
      through : Option Run → Option Run
      through o = option_map (λ run. led x ++ run) o

      go : (b : Bool) → is_there seen (state_of x) ≡ b → (o : Option Run) → first_run n (state_of x) ≡ o
          → first_in (run_through led n) (fresh seen xs) ≡ first_in (run_through led n) xs
          → (first_run n (state_of x) ≡ None → first_in (run_through led n) (fresh (seen ++ x ∷ []) xs) ≡ first_in (run_through led n) xs)
          → first_in (run_through led n) (if b then fresh seen xs else x ∷ fresh (seen ++ x ∷ []) xs) ≡ option_or (through (first_run n (state_of x))) (first_in (run_through led n) xs)
      go true e o k one other = one ∙ ap (λ q. option_or (through q) (first_in (run_through led n) xs)) (sym (h (state_of x) e))
      go false e None k one other = ap (option_or (through (first_run n (state_of x)))) (other k)
      go false e (Some run) k one other =
          ap (λ q. option_or (through q) (first_in (run_through led n) (fresh (seen ++ x ∷ []) xs))) k
          ∙ ap (λ q. option_or (through q) (first_in (run_through led n) xs)) (sym k)

  -- the run that led to each of these states, which stand from this place on
  abbrev pub AreLed : (ℕ → Run) → (Reached → Run) → ℕ → List Reached → Type 0
  AreLed to led from states = (k : ℕ) (r : Reached) → slice_get states k ≡ Some r → to (from + k) ≡ led r

  abbrev pub next_led : (ℕ → Run) → Reached → Run
  next_led to r = to r.from ++ r.way ∷ []

  through-one : (to : ℕ → Run) (led : Reached → Run) (n from : ℕ) (r : Reached) → to from ≡ led r
      → first_in (run_through (next_led to) n) (steps_from agent m from r) ≡ run_through led (suc n) r
  through-one to led n from r e =
      let ways = filter is_followed (plain_ways agent r.state m r.way.left) in
      let there = λ (w : Way). first_run n (w.left, after agent r.state w.label) in
      first-map (run_through (next_led to) n) (reached_by agent from r.state) ways
      ∙ first-same (λ w. option_map (λ run. (to from ++ w ∷ []) ++ run) (there w)) (λ w. option_map (λ run. led r ++ run) (option_map (λ run. w ∷ run) (there w)))
      (λ w.
      map-same (λ run. (to from ++ w ∷ []) ++ run) (λ run. led r ++ (w ∷ run)) (λ run. append_assoc (to from) (w ∷ []) run ∙ ap (λ z. z ++ (w ∷ run)) e) (there w)
      ∙ sym (map-twice (λ run. w ∷ run) (λ run. led r ++ run) (there w))) ways
      ∙ sym (first-option (λ run. led r ++ run) (λ w. option_map (λ run. w ∷ run) (there w)) ways)
      ∙ ap (option_map (λ run. led r ++ run)) (sym (run-more n r.way.left r.state))

  through-all : (to : ℕ → Run) (led : Reached → Run) (n : ℕ) (states : List Reached) (from : ℕ) → AreLed to led from states
      → first_in (run_through (next_led to) n) (steps_all agent m from states) ≡ first_in (run_through led (suc n)) states
  through-all to led n [] from h = refl
  through-all to led n (r ∷ states) from h =
      let here : to from ≡ led r = let e : from + 0 ≡ from = omega arith in ap to (sym e) ∙ h 0 r refl in
      first-append (run_through (next_led to) n) (steps_from agent m from r) (steps_all agent m (suc from) states)
      ∙ ap (λ o. option_or o (first_in (run_through (next_led to) n) (steps_all agent m (suc from) states))) (through-one to led n from r here)
      ∙ ap (option_or (run_through led (suc n) r))
      (through-all to led n states (suc from) (λ k x e. let f : suc from + k ≡ from + suc k = omega arith in ap to f ∙ h (suc k) x e))

  module _ (p : Prog) (values : Values) where
    -- the run that led to a place of a level, and to a state of it
    abbrev pub to_place : ℕ → ℕ → Run
    to_place n place = run_to (levels_before agent m p values n) (level_at agent m p values n) place

    abbrev pub led_to : ℕ → Reached → Run
    led_to zero r = []
    led_to (suc n) r = next_led (to_place n) r

    pub levels-led : (n : ℕ) → AreLed (to_place n) (led_to n) 0 (level_at agent m p values n)
    levels-led zero k r e = refl
    levels-led (suc n) k r e =
        let same : 0 + k ≡ k = omega arith in
        ap (to_place (suc n)) same ∙ run_to-some (levels_before agent m p values n) (level_at agent m p values n) (level_at agent m p values (suc n)) k r e

    -- the first run goes through the first state of each level from which one is long enough
    pub first-through : (n more : ℕ) → first_in (run_through (led_to n) more) (level_at agent m p values n) ≡ first_run (n + more) (p, values)
    first-through zero more =
        let same : 0 + more ≡ more = omega arith in
        or-none (run_through (led_to 0) more (start_of p values)) ∙ plain (first_run more (p, values)) ∙ ap (λ k. first_run k (p, values)) (sym same)
      where
        plain : (o : Option Run) → option_map (λ run. [] ++ run) o ≡ o
        plain None = refl
        plain (Some run) = refl
    first-through (suc n) more =
        let same : n + suc more ≡ suc n + more = omega arith in
        ap (λ (l : Level). first_in (run_through (led_to (suc n)) more) l.states) (next_level-parts agent m (level_at agent m p values n))
        ∙ first-fresh (led_to (suc n)) more (steps_all agent m 0 (level_at agent m p values n)) [] (λ s e. absurd (cc))
        ∙ through-all (to_place n) (led_to n) more (level_at agent m p values n) 0 (levels-led n)
        ∙ first-through n (suc more) ∙ ap (λ k. first_run k (p, values)) same
