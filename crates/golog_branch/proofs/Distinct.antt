-- The distinct states among some, one by one.
use Rattle.std.proofs.Common.{◌≡◌, Bool, true, false, if◌then◌else◌, List, [], ◌∷◌, ◌++◌, refl, sym, ap, ◌∙◌, append_assoc}
use Rattle.std.specs.Prelude.{◌||◌, fold}
use Rattle.std.specs.List.{list_any}
use Rattle.std.proofs.lemmas.List.{append-nil}
use Rattle.golog_base.proofs.Bools.{or-false, or-true}
use Rattle.golog_semantics.specs.Blocks.{State, distinct, same_state}
use Rattle.golog_branch.specs.Levels.{with_state}

or-swap : (a b : Bool) → (a || b) ≡ (b || a)
or-swap true b = sym (or-true b)
or-swap false b = sym (or-false b)

any-push : {A : Type 0} (f : A → Bool) (xs : List A) (x : A) → list_any f (xs ++ x ∷ []) ≡ (f x || list_any f xs)
any-push f [] x = refl
any-push f (y ∷ xs) x = ap (λ b. f y || b) (any-push f xs x) ∙ swap (f y) (f x) (list_any f xs)
  where
    swap : (a b c : Bool) → (a || (b || c)) ≡ (b || (a || c))
    swap true b c = sym (or-true b)
    swap false b c = refl

-- the same states are among both
abbrev Same : List State → List State → Type 0
Same states seen = (s : State) → list_any (same_state s) states ≡ list_any (same_state s) seen

distinct-behind : (xs states seen : List State) → Same states seen → fold with_state states xs ≡ states ++ distinct seen xs
distinct-behind [] states seen h = sym (append-nil states)
distinct-behind (x ∷ xs) states seen h =
    go (list_any (same_state x) states) (list_any (same_state x) seen) (h x) (distinct-behind xs states seen h)
    (distinct-behind xs (states ++ x ∷ []) (x ∷ seen) (λ s. any-push (same_state s) states x ∙ ap (λ b. same_state s x || b) (h s)))
  where
    go : (b c : Bool) → b ≡ c → fold with_state states xs ≡ states ++ distinct seen xs
        → fold with_state (states ++ x ∷ []) xs ≡ (states ++ x ∷ []) ++ distinct (x ∷ seen) xs
        → fold with_state (if b then states else states ++ x ∷ []) xs ≡ states ++ (if c then distinct seen xs else x ∷ distinct (x ∷ seen) xs)
    go true true e one other = one
    go true false e one other = absurd (cc)
    go false true e one other = absurd (cc)
    go false false e one other = other ∙ append_assoc states (x ∷ []) (distinct (x ∷ seen) xs)

-- the distinct ones, one after another
pub distinct-all : (xs : List State) → fold with_state [] xs ≡ distinct [] xs
distinct-all xs = distinct-behind xs [] [] (λ s. refl)

with-behind : (states : List State) (s : State) → (more : List State) × (with_state states s ≡ states ++ more)
with-behind states s = go (list_any (same_state s) states)
  where
    go : (b : Bool) → (more : List State) × ((if b then states else states ++ s ∷ []) ≡ states ++ more)
    go true = ([], sym (append-nil states))
    go false = (s ∷ [], refl)

-- what stood there stands there still, and others behind
pub all-behind : (xs states : List State) → (more : List State) × (fold with_state states xs ≡ states ++ more)
all-behind [] states = ([], sym (append-nil states))
all-behind (x ∷ xs) states =
    let one = with-behind states x in
    let rest = all-behind xs (with_state states x) in
    (one.0 ++ rest.0, rest.1 ∙ ap (λ z. z ++ rest.0) one.1 ∙ append_assoc states one.0 rest.0)
