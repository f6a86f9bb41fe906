-- What two agents that may be a team give.
use Rattle.std.proofs.Common.{◌≡◌, ℕ, zero, suc, ◌+◌, ◌≤◌, ◌<◌, Bool, true, false, not, ◌&&◌, ◌||◌, ◌==◌, if◌then◌else◌, Option, Some, None, List, [], ◌∷◌, length, refl, sym, ap, ◌∙◌, subst, arith, ◌⊎◌, inl, inr}
use Rattle.std.specs.Prelude.{find}
use Rattle.std.specs.List.{list_any, list_all, range_with_len}
use Rattle.std.proofs.lemmas.Bool.{and_parts, or_parts, not-true, eqb-true, leb-true, cases_lt}
use Rattle.std.proofs.lemmas.Option.{slice_get_past}
use Rattle.golog_tree.specs.declared.agent.Agent.{Agent}
use Rattle.golog_semantics.specs.Values.{ground_actions}
use Rattle.golog_semantics.specs.Inline.{posted_action}
use Rattle.golog_semantics.specs.Journal.{Journal, is_carried_by, is_sensing, may_post, is_open, is_at_rest, is_quiet}
use Rattle.golog_semantics.specs.Text.{action_text}
use Rattle.golog_team.specs.Shapes.{numbers, has_shape, may_hear, is_heard, unheard, AreMatched}

-- what is found nowhere in a range is so at no number of it
pub none-in-range : (p : ℕ → Bool) (first count i : ℕ) → find p (range_with_len first count) ≡ None → first ≤ i → i < first + count → p i ≡ false
none-in-range p first zero i none low high = absurd (omega (arith, low, high))
none-in-range p first (suc count) i none low high = go (p first) refl none (λ h less. none-in-range p (first + 1) count i h (omega (arith, less)) (omega (arith, high)))
  where
    next : p first ≡ false → (first < i → p i ≡ false) → (first < i) ⊎ (i ≤ first) → p i ≡ false
    next is later (inl less) = later less
    next is later (inr more) = let e : first ≡ i = omega (arith, low, more) in subst (λ k. p k ≡ false) e is

    go : (b : Bool) → p first ≡ b → (if b then Some first else find p (range_with_len (first + 1) count)) ≡ None
        → (find p (range_with_len (first + 1) count) ≡ None → first < i → p i ≡ false) → p i ≡ false
    go true is h later = absurd (cc)
    go false is h later = next is (later h) (cases_lt first i)

any-in-range : (p : ℕ → Bool) (first count i : ℕ) → list_any p (range_with_len first count) ≡ false → first ≤ i → i < first + count → p i ≡ false
any-in-range p first zero i none low high = absurd (omega (arith, low, high))
any-in-range p first (suc count) i none low high =
    let parts = or_parts (p first) (list_any p (range_with_len (first + 1) count)) none in
    next parts.0 (λ less. any-in-range p (first + 1) count i parts.1 (omega (arith, less)) (omega (arith, high))) (cases_lt first i)
  where
    next : p first ≡ false → (first < i → p i ≡ false) → (first < i) ⊎ (i ≤ first) → p i ≡ false
    next is later (inl less) = later less
    next is later (inr more) = let e : first ≡ i = omega (arith, low, more) in subst (λ k. p k ≡ false) e is

module _ (agent : Agent) where
  -- what a device carries out is a ground action
  pub carried-within : (a : ℕ) → is_carried_by agent 0 a ≡ true → a < length (ground_actions agent)
  carried-within a h = go (cases_lt a (length (ground_actions agent)))
    where
      go : (a < length (ground_actions agent)) ⊎ (length (ground_actions agent) ≤ a) → a < length (ground_actions agent)
      go (inl less) = less
      go (inr past) = absurd (let none = slice_get_past (ground_actions agent) a past in
          let k : is_carried_by agent 0 a ≡ false = rw none refl in
          let j = sym h ∙ k in cc)

  -- no command of the one device senses
  pub no-sensing : has_shape agent ≡ true → (a : ℕ) → is_carried_by agent 0 a ≡ true → is_sensing agent a ≡ false
  no-sensing shape a carried =
      let none = not-true _ (and_parts (length agent.devices == 1) _ shape).1 in
      let it = any-in-range (λ n. is_carried_by agent 0 n && is_sensing agent n) 0 (length (ground_actions agent)) a none (omega arith) (let w = carried-within a carried in omega (arith, w)) in
      by (is_sensing agent a) (ap (λ b. b && is_sensing agent a) (sym carried) ∙ it)
    where
      by : (b : Bool) → (true && b) ≡ false → b ≡ false
      by true h = absurd (cc)
      by false h = refl

  -- what the one device keeps the program waiting for
  pub awake : has_shape agent ≡ true → (journal : Journal) → is_quiet agent journal ≡ false
      → (is_open 0 journal ≡ true) × (is_at_rest agent journal 0 ≡ false)
  awake shape journal loud =
      let one = eqb-true (length agent.devices) 1 (and_parts (length agent.devices == 1) _ shape).0 in
      by (is_open 0 journal) (is_at_rest agent journal 0)
      (sym (ap (λ n. list_all (λ d. not (is_open d journal) || is_at_rest agent journal d) (range_with_len 0 n)) one) ∙ loud)
    where
      by : (b c : Bool) → ((not b || c) && true) ≡ false → (b ≡ true) × (c ≡ false)
      by true true h = absurd (cc)
      by true false h = (refl, refl)
      by false c h = absurd (cc)

-- each command of the other agent is heard
pub all-heard : (agent other : Agent) → unheard other agent ≡ None → (a : ℕ) → is_carried_by other 0 a ≡ true
    → may_hear agent (posted_action agent (action_text other a)) ≡ true
all-heard agent other none a carried =
    let it = none-in-range (λ n. is_carried_by other 0 n && not (is_heard other agent n)) 0 (length (ground_actions other)) a none (omega arith)
    (let w = carried-within other a carried in omega (arith, w)) in
    by (is_heard other agent a) (ap (λ b. b && not (is_heard other agent a)) (sym carried) ∙ it)
  where
    by : (b : Bool) → (true && not b) ≡ false → b ≡ true
    by true h = refl
    by false h = absurd (cc)
