-- What is said of each ground fluent, one after another: what was said so far, and what is still to be said.
use Rattle.std.proofs.Common.{◌≡◌, ℕ, ◌+◌, ◌<◌, ◌≤◌, List, [], ◌∷◌, ◌++◌, drop, length, get_or, sym, ap, ◌∙◌, add-one}
use Rattle.std.specs.List.{enumerate_from, flat_map}
use Rattle.std.proofs.Math.Seq.{drop-cons}
use Rattle.std.proofs.lemmas.List.{append_assoc, append-nil, drop_all}
use Rattle.golog_semantics.specs.Text.{Text}

module _ (say : ℕ × ℕ → Text) (values : List ℕ) where
  -- what is said of these values, the first of which is that of the ground fluent of this number
  abbrev of_values : ℕ → List ℕ → Text
  of_values fluent vs = flat_map say (enumerate_from fluent vs)

  -- what is said from a ground fluent on
  abbrev pub said_from : ℕ → Text
  said_from fluent = of_values fluent (drop fluent values)

  none_said : (fluent : ℕ) → length values ≤ fluent → said_from fluent ≡ []
  none_said fluent h = ap (of_values fluent) (drop_all fluent values h)

  -- the whole is said, once nothing is still to be said
  pub all_said : (fluent : ℕ) (text whole : Text) → length values ≤ fluent → text ++ said_from fluent ≡ whole → text ≡ whole
  all_said fluent text whole h w = sym (append-nil text) ∙ ap (λ t. text ++ t) (sym (none_said fluent h)) ∙ w

  module _ (fluent : ℕ) (inside : fluent < length values) where
    split : said_from fluent ≡ say (fluent, get_or values fluent 0) ++ said_from (fluent + 1)
    split =
        ap (of_values fluent) (drop-cons values fluent 0 inside)
        ∙ ap (λ n. say (fluent, get_or values fluent 0) ++ of_values (fluent + 1) (drop n values)) (sym (add-one fluent))

    -- the text so far and what is still to be said are the whole text still
    pub said_on : (text new whole : Text) → text ++ said_from fluent ≡ whole → new ≡ text ++ say (fluent, get_or values fluent 0) → new ++ said_from (fluent + 1) ≡ whole
    said_on text new whole w n =
        let line = say (fluent, get_or values fluent 0) in
        ap (λ t. t ++ said_from (fluent + 1)) n ∙ append_assoc text line (said_from (fluent + 1)) ∙ ap (λ t. text ++ t) (sym split) ∙ w

-- a line and what stands behind it
pub line-then : (old x more : Text) → (old ++ (x ++ 10 ∷ [])) ++ more ≡ old ++ (x ++ 10 ∷ more)
line-then old x more = append_assoc old (x ++ 10 ∷ []) more ∙ ap (λ t. old ++ t) (append_assoc x (10 ∷ []) more)
