-- What the texts of items are read as.
use Rattle.std.proofs.Common.{◌≡◌, ℕ, zero, suc, ◌+◌, ◌≤◌, ◌<◌, Bool, true, false, if◌then◌else◌, Option, Some, None, length, refl, sym, ap, ◌∙◌, subst, arith, ◌⊎◌, inl, inr}
use Rattle.std.specs.Prelude.{find, option_map}
use Rattle.std.specs.List.{range_with_len}
use Rattle.std.specs.Option.{option_map_or}
use Rattle.std.proofs.lemmas.Bool.{cases_lt}
use Rattle.golog_tree.specs.declared.agent.Agent.{Agent}
use Rattle.golog_tree.specs.Ground.{sort_size, action_args, ground_actions}
use Rattle.golog_tree.proofs.Numbers.{length-all_from}
use Rattle.golog_semantics.specs.declared.journal.Item.TheVariants as item
use Rattle.golog_semantics.specs.Values.{fluent_sort}
use Rattle.golog_semantics.specs.Text.{Text, action_text, value_text}
use Rattle.golog_semantics.specs.Same.{same_values}
use Rattle.golog_semantics.specs.Inline.{number_of_text, posted_action, posted_value}
use Rattle.golog_semantics.specs.Dealt.{value_item}
use Rattle.golog_semantics.proofs.Levels.{same_values-same, same_values-eq}
use Rattle.golog_semantics.proofs.GroundNumbers.{some-same}
use Rattle.golog_ground.specs.Texts.{IsTheOne, WritesAction, WritesConstant}

-- how a search among the numbers from `a` on ends
abbrev Ends : (ℕ → Bool) → ℕ → ℕ → Option ℕ → Type 0
Ends p a n (Some k) = (a ≤ k) × (k < a + n) × (p k ≡ true)
Ends p a n None = (k : ℕ) → a ≤ k → k < a + n → p k ≡ false

widen : (p : ℕ → Bool) (a n : ℕ) (o : Option ℕ) → p a ≡ false → Ends p (a + 1) n o → Ends p a (suc n) o
widen p a n (Some k) fails ends = let low = ends.0 in let high = ends.1 in (omega (arith, low), omega (arith, high), ends.2)
widen p a n None fails none = λ k low high. go k low high (cases_lt a k)
  where
    go : (k : ℕ) → a ≤ k → k < a + suc n → (a < k) ⊎ (k ≤ a) → p k ≡ false
    go k low high (inl more) = none k (omega (arith, more)) (omega (arith, high))
    go k low high (inr less) = let same : k ≡ a = omega (arith, low, less) in ap p same ∙ fails

found-in : (p : ℕ → Bool) (a n : ℕ) (o : Option ℕ) → find p (range_with_len a n) ≡ o → Ends p a n o
found-in p a zero o e = subst (Ends p a zero) e (λ k low high. absurd (omega (arith, low, high)))
found-in p a (suc n) o e = go (p a) refl e (λ later. found-in p (a + 1) n o later)
  where
    go : (b : Bool) → p a ≡ b → (if b then Some a else find p (range_with_len (a + 1) n)) ≡ o
        → (find p (range_with_len (a + 1) n) ≡ o → Ends p (a + 1) n o) → Ends p a (suc n) o
    go true is e rest = subst (Ends p a (suc n)) e (omega arith, omega arith, is)
    go false is e rest = widen p a n o is (rest e)

module _ (agent : Agent) where
  -- what is found writes the bytes
  pub spelled-text : (text : ℕ → Text) (count : ℕ) (bytes : Text) (n : ℕ) → number_of_text agent text count bytes ≡ Some n → bytes ≡ text n
  spelled-text text count bytes n e =
      sym (same_values-eq (text n) bytes (found-in (λ k. same_values (text k) bytes) 0 count (Some n) e).2)

  -- the one number that writes the bytes is found
  pub spelled-one : (text : ℕ → Text) (count : ℕ) (bytes : Text) (o : Option ℕ)
      → IsTheOne o (λ n. (n < count) × (text n ≡ bytes)) → number_of_text agent text count bytes ≡ o
  spelled-one text count bytes o one = go (number_of_text agent text count bytes) refl
    where
      same : ℕ → Bool
      same k = same_values (text k) bytes

      none : (x : Option ℕ) → o ≡ x → Ends (λ k. same_values (text k) bytes) 0 count None → x ≡ None
      none None e h = refl
      none (Some n) e h =
          let fits = (one n).0 e in
          let low = fits.0 in
          let no = h n (omega arith) (omega (arith, low)) in
          let yes : same_values (text n) bytes ≡ true = ap (λ t. same_values t bytes) fits.1 ∙ same_values-same bytes in
          absurd (cc)

      go : (x : Option ℕ) → number_of_text agent text count bytes ≡ x → number_of_text agent text count bytes ≡ o
      go (Some n) e =
          let ends = found-in (λ k. same_values (text k) bytes) 0 count (Some n) e in
          let high = ends.1 in
          e ∙ sym ((one n).1 (omega (arith, high), same_values-eq (text n) bytes ends.2))
      go None e = e ∙ sym (none o refl (found-in (λ k. same_values (text k) bytes) 0 count None e))

  -- what an action's text is posted as
  pub action-read : (bytes : Text) (o : Option ℕ) → IsTheOne o (WritesAction agent bytes)
      → posted_action agent bytes ≡ option_map_or item.Exo o item.Unreadable
  action-read bytes o one =
      ap (λ x. option_map_or item.Exo x item.Unreadable)
      (spelled-one (action_text agent) (length (ground_actions agent)) bytes o
      (subst (λ n. IsTheOne o (λ k. (k < n) × (action_text agent k ≡ bytes))) (sym (length-all_from agent (action_args agent) 0)) one))

  -- what a value's text is posted as
  pub value-read : (fluent : ℕ) (bytes : Text) (o : Option ℕ) → IsTheOne o (WritesConstant agent (fluent_sort agent fluent) bytes)
      → posted_value agent fluent bytes ≡ option_map_or item.Value o item.Unreadable
  value-read fluent bytes o one =
      ap (λ x. option_map_or item.Value x item.Unreadable)
      (spelled-one (value_text agent fluent) (sort_size agent (fluent_sort agent fluent)) bytes o one)

  -- an action that is posted has the text that was told
  pub action-told : (bytes : Text) (action : ℕ) → posted_action agent bytes ≡ item.Exo action → bytes ≡ action_text agent action
  action-told bytes action e = go (number_of_text agent (action_text agent) (length (ground_actions agent)) bytes) refl e
    where
      go : (o : Option ℕ) → number_of_text agent (action_text agent) (length (ground_actions agent)) bytes ≡ o → option_map_or item.Exo o item.Unreadable ≡ item.Exo action
          → bytes ≡ action_text agent action
      go None is e = absurd (cc)
      go (Some n) is e =
          let same : n ≡ action = cc in
          spelled-text (action_text agent) (length (ground_actions agent)) bytes n is ∙ ap (action_text agent) same

  -- a value that is posted has the text that was told
  pub value-told : (fluent : ℕ) (bytes : Text) (value : ℕ) → posted_value agent fluent bytes ≡ item.Value value → bytes ≡ value_text agent fluent value
  value-told fluent bytes value e = go (number_of_text agent (value_text agent fluent) (sort_size agent (fluent_sort agent fluent)) bytes) refl e
    where
      go : (o : Option ℕ) → number_of_text agent (value_text agent fluent) (sort_size agent (fluent_sort agent fluent)) bytes ≡ o
          → option_map_or item.Value o item.Unreadable ≡ item.Value value → bytes ≡ value_text agent fluent value
      go None is e = absurd (cc)
      go (Some n) is e =
          let same : n ≡ value = cc in
          spelled-text (value_text agent fluent) (sort_size agent (fluent_sort agent fluent)) bytes n is ∙ ap (value_text agent fluent) same

  -- what a value's text is posted as, by the sort of the fluent
  pub sensed-read : (device : ℕ) (sensed : Option ℕ) (sort : ℕ) (bytes : Text) (o : Option ℕ) → option_map (fluent_sort agent) sensed ≡ Some sort
      → IsTheOne o (WritesConstant agent sort bytes) → value_item agent device sensed bytes ≡ option_map_or item.Value o item.Unreadable
  sensed-read device None sort bytes o is one = absurd (cc)
  sensed-read device (Some f) sort bytes o is one =
      value-read f bytes o (subst (λ s. IsTheOne o (WritesConstant agent s bytes)) (sym (some-same (fluent_sort agent f) sort is)) one)
