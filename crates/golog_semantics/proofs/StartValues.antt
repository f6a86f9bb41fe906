-- The values that a journal starts from, and their lines, one after another.
use Rattle.std.proofs.Common.{◌≡◌, ℕ, zero, suc, ◌+◌, ◌<◌, Bool, true, false, ◌||◌, ◌==◌, ◌⊎◌, inl, inr, List, [], ◌∷◌, ◌++◌, length, map, refl, sym, ap, ◌∙◌, subst, arith}
use Rattle.std.specs.Prelude.{⊤, codes, if◌then◌else◌, nat_lt, slice_index}
use Rattle.std.specs.List.{enumerate_from, flat_map}
use Rattle.std.proofs.lemmas.Bool.{eqb-true, ltb-true}
use Rattle.std.proofs.lemmas.Grind.{flat_map-append}
use Rattle.std.proofs.lemmas.List.{append_assoc, append_cancel_left}
use Rattle.golog_tree.specs.declared.agent.Agent.{Agent}
use Rattle.golog_tree.specs.Ground.{ground_fluents, sort_size}
use Rattle.golog_semantics.specs.InSorts.{AreInSorts, IsOf}
use Rattle.golog_semantics.specs.ReportLaws.{TellsApart}
use Rattle.golog_semantics.specs.Text.{Text, constant_text, fluent_text, head_text, start_line, start_text, value_text, with_line_feed}
use Rattle.golog_semantics.specs.Truth.{Values, unknown}
use Rattle.golog_semantics.specs.Values.{fluent_sort}
use Rattle.golog_semantics.proofs.Names.{constant_is_word, constant_known, constant_tells}
use Rattle.golog_semantics.proofs.Words.{word_split}

module _ (agent : Agent) where
  -- values of the ground fluents from a number on, each in its sort
  abbrev pub AreOf : ℕ → Values → Type 0
  AreOf n [] = ⊤
  AreOf n (v ∷ vs) = IsOf agent (fluent_sort agent n) v × AreOf (n + 1) vs

  -- the lines of such values
  abbrev pub lines_of_values : ℕ → Values → Text
  lines_of_values n vs = flat_map (with_line_feed agent) (map (start_line agent) (enumerate_from n vs))

  -- a head, and what stands behind it
  pub head_is : (values : Values) (rest : Text) → (codes "golog 2" ++ 10 ∷ []) ++ (lines_of_values 0 values ++ ((codes "begin" ++ 10 ∷ []) ++ rest)) ≡ head_text agent values ++ rest
  unfolding head_text
  head_is values rest =
      let first = codes "golog 2" ++ 10 ∷ [] in
      let last = codes "begin" ++ 10 ∷ [] in
      let lines = lines_of_values 0 values in
      sym (ap (λ t. first ++ t) (append_assoc lines last rest)) ∙ sym (append_assoc first (lines ++ last) rest)
      ∙ ap (λ t. (first ++ t) ++ rest) (sym (flat_map-append (with_line_feed agent) (map (start_line agent) (enumerate_from 0 values)) (codes "begin" ∷ [])))

  sorted-at : (n : ℕ) (vs : Values) → AreOf n vs → (k : ℕ) → k < length vs → IsOf agent (fluent_sort agent (n + k)) (slice_index vs k)
  sorted-at n [] each k less = absurd (omega (arith, less))
  sorted-at n (v ∷ vs) each zero less = subst (λ f. IsOf agent (fluent_sort agent f) v) (let e : n ≡ n + 0 = omega arith in e) each.0
  sorted-at n (v ∷ vs) each (suc k) less =
      subst (λ f. IsOf agent (fluent_sort agent f) (slice_index vs k)) (let e : n + 1 + k ≡ n + suc k = omega arith in e)
      (sorted-at (n + 1) vs each.1 k (omega (arith, less)))

  pub in-sorts : (vs : Values) → length vs ≡ length (ground_fluents agent) → AreOf 0 vs → AreInSorts agent vs
  in-sorts vs whole each = record {
    whole = whole;
    sorted = λ f less. subst (λ g. IsOf agent (fluent_sort agent g) (slice_index vs f)) (let e : 0 + f ≡ f = omega arith in e) (sorted-at 0 vs each f less);
  }

  of-each : (n : ℕ) (vs : Values) → ((k : ℕ) → k < length vs → IsOf agent (fluent_sort agent (n + k)) (slice_index vs k)) → AreOf n vs
  of-each n [] h = tt
  of-each n (v ∷ vs) h = (
    subst (λ f. IsOf agent (fluent_sort agent f) v) (let e : n + 0 ≡ n = omega arith in e) (h zero (omega arith)),
    of-each (n + 1) vs (λ k less. subst (λ f. IsOf agent (fluent_sort agent f) (slice_index vs k)) (let e : n + suc k ≡ n + 1 + k = omega arith in e) (h (suc k) (omega (arith, less)))),
  )

  pub of-sorts : (vs : Values) → AreInSorts agent vs → AreOf 0 vs
  of-sorts vs sorts = of-each 0 vs (λ k less. subst (λ g. IsOf agent (fluent_sort agent g) (slice_index vs k)) (let e : k ≡ 0 + k = omega arith in e) (sorts.sorted k less))

  -- a value of a sort is a constant of it, or unknown
  abbrev pub IsEither : ℕ → ℕ → Type 0
  IsEither sort v = (v < sort_size agent sort) ⊎ (v ≡ unknown)

  pub either_of : (sort v : ℕ) → IsOf agent sort v → IsEither sort v
  either_of sort v h = go (nat_lt v (sort_size agent sort)) refl h
    where
      go : (b : Bool) → nat_lt v (sort_size agent sort) ≡ b → (b || v == unknown) ≡ true → IsEither sort v
      go true e h = inl (ltb-true v (sort_size agent sort) e)
      go false e h = inr (eqb-true v unknown h)

  module _ (apart : TellsApart agent) where
    -- the text of a constant that a fluent has is that of the constant
    pub known_text : (fluent v : ℕ) → v < sort_size agent (fluent_sort agent fluent) → start_text agent fluent v ≡ constant_text agent (fluent_sort agent fluent) v
    known_text fluent v less =
        ap (λ b. if b then value_text agent fluent v else codes "unknown") (constant_known agent apart (fluent_sort agent fluent) v less).0

    -- what is left of a line is told by the value
    module _ (fluent : ℕ) (s t : Text) where
      abbrev sort : ℕ
      sort = fluent_sort agent fluent

      abbrev Told : ℕ → ℕ → Type 0
      Told a b = start_text agent fluent a ++ 10 ∷ s ≡ start_text agent fluent b ++ 10 ∷ t → (a ≡ b) × (s ≡ t)

      behind-feed : 10 ∷ s ≡ 10 ∷ t → s ≡ t
      behind-feed e = cc

      not-unknown : (a : ℕ) (x y : Text) → a < sort_size agent sort → constant_text agent sort a ++ 10 ∷ x ≡ codes "unknown" ++ 10 ∷ y → ⊥
      not-unknown a x y less e =
          (constant_known agent apart sort a less).1
          (word_split (constant_text agent sort a) (codes "unknown") (10 ∷ x) (10 ∷ y) (constant_is_word agent apart sort a less) refl refl refl e).0

      both-known : (a b : ℕ) → a < sort_size agent sort → b < sort_size agent sort → Told a b
      both-known a b h k e =
          let r = constant_tells agent apart sort a b (10 ∷ s) (10 ∷ t) h k refl refl
          (ap (λ x. x ++ 10 ∷ s) (sym (known_text fluent a h)) ∙ e ∙ ap (λ x. x ++ 10 ∷ t) (known_text fluent b k)) in
          (r.0, behind-feed r.1)

      pub value_tells : (a b : ℕ) → IsEither sort a → IsEither sort b → Told a b
      value_tells a b (inl h) (inl k) e = both-known a b h k e
      value_tells a b (inl h) (inr k) e =
          absurd (not-unknown a s t h (ap (λ x. x ++ 10 ∷ s) (sym (known_text fluent a h)) ∙ e ∙ ap (λ v. start_text agent fluent v ++ 10 ∷ t) k))
      value_tells a b (inr h) (inl k) e =
          absurd (not-unknown b t s k (ap (λ x. x ++ 10 ∷ t) (sym (known_text fluent b k)) ∙ sym e ∙ ap (λ v. start_text agent fluent v ++ 10 ∷ s) h))
      value_tells a b (inr h) (inr k) e = (
        h ∙ sym k,
        behind-feed (append_cancel_left (codes "unknown") (10 ∷ s) (10 ∷ t)
            (ap (λ v. start_text agent fluent v ++ 10 ∷ s) (sym h) ∙ e ∙ ap (λ v. start_text agent fluent v ++ 10 ∷ t) k)),
      )

    -- the line of a value: what stands in front of it, its text, its line feed, and what stands behind
    line-parts : (n v : ℕ) (more : Text) → with_line_feed agent (start_line agent (n, v)) ++ more ≡ ((codes "start " ++ fluent_text agent n) ++ codes " ") ++ (start_text agent n v ++ 10 ∷ more)
    line-parts n v more =
        let front = (codes "start " ++ fluent_text agent n) ++ codes " " in
        append_assoc (front ++ start_text agent n v) (10 ∷ []) more ∙ append_assoc front (start_text agent n v) (10 ∷ more)

    -- lines of values in their sorts tell the values, whatever stands behind them
    pub lines_tell : (n : ℕ) (vs ws : Values) (s t : Text) → AreOf n vs → AreOf n ws → length vs ≡ length ws
        → lines_of_values n vs ++ s ≡ lines_of_values n ws ++ t → (vs ≡ ws) × (s ≡ t)
    lines_tell n [] [] s t h k long e = (refl, e)
    lines_tell n [] (w ∷ ws) s t h k long e = absurd (omega (arith, long))
    lines_tell n (v ∷ vs) [] s t h k long e = absurd (omega (arith, long))
    lines_tell n (v ∷ vs) (w ∷ ws) s t h k long e =
        let front = (codes "start " ++ fluent_text agent n) ++ codes " " in
        let more = lines_of_values (n + 1) vs ++ s in
        let others = lines_of_values (n + 1) ws ++ t in
        let one = value_tells n more others v w (either_of (fluent_sort agent n) v h.0) (either_of (fluent_sort agent n) w k.0)
        (append_cancel_left front (start_text agent n v ++ 10 ∷ more) (start_text agent n w ++ 10 ∷ others)
        (sym (line-parts n v more) ∙ sym (append_assoc (with_line_feed agent (start_line agent (n, v))) (lines_of_values (n + 1) vs) s) ∙ e
        ∙ append_assoc (with_line_feed agent (start_line agent (n, w))) (lines_of_values (n + 1) ws) t ∙ line-parts n w others)) in
        let rest = lines_tell (n + 1) vs ws s t h.1 k.1 (omega (arith, long)) one.1 in
        (λ i. one.0 i ∷ rest.0 i, rest.1)
