-- Sensing, one item further.
use Rattle.std.proofs.Common.{◌≡◌, ◌≢◌, ℕ, ◌<◌, Bool, true, false, ◌||◌, List, [], ◌∷◌, ◌++◌, length, get_or, refl, sym, ap, ◌∙◌, inl, inr, append_assoc, arith}
use Rattle.std.specs.Prelude.{◌==◌, slice_set}
use Rattle.std.proofs.lemmas.Bool.{cases_eq, eq-eqb, ne_eqb}
use Rattle.std.proofs.lemmas.List.{append-nil, length-set, get_or-set_same, get_or-set_other}
use Rattle.std.proofs.lemmas.List.Folds.{list_any-append}
use Rattle.golog_tree.specs.declared.draft.DraftSense.{DraftSense}
use Rattle.golog_semantics.proofs.Tests.{or_second}
use Rattle.golog_check.specs.DeclaredItems.{Declared}
use Rattle.golog_check.specs.Effects.{is_sensed, sense_by, senses_in}
use Rattle.golog_check.specs.Sensed.{TellsSensed}

-- the item behind these comes last
pub senses-more : (names : Declared) (before xs : List DraftSense) (x : DraftSense)
    → senses_in names before (xs ++ x ∷ [])
    ≡ senses_in names before xs ++ sense_by names (is_sensed (before ++ xs) x.action) x ∷ []
senses-more names before [] x =
    ap (λ b. sense_by names (is_sensed b x.action) x ∷ []) (sym (append-nil before))
senses-more names before (y ∷ ys) x =
    ap (λ rs. sense_by names (is_sensed before y.action) y ∷ rs)
    (senses-more names (before ++ y ∷ []) ys x
    ∙ ap (λ b. senses_in names (before ++ y ∷ []) ys ++ sense_by names (is_sensed b x.action) x ∷ [])
    (append_assoc before (y ∷ []) ys))

or-none : (b : Bool) → (b || (false || false)) ≡ b
or-none true = refl
or-none false = refl

pub noted : (sensed : List Bool) (action : ℕ) (items : List DraftSense) (item : DraftSense) → item.action ≡ action
    → TellsSensed sensed items → action < length sensed
    → TellsSensed (slice_set sensed action true) (items ++ item ∷ [])
noted sensed action items item e h below = λ k l.
    let more : is_sensed (items ++ item ∷ []) k ≡ (is_sensed items k || ((item.action == k) || false)) =
    list_any-append (λ (i : DraftSense). i.action == k) items (item ∷ []) in
    elim (cases_eq action k) [
      | inl same ↦
          let hit : (item.action == k) ≡ true = eq-eqb item.action k (e ∙ same) in
          ap (λ n. get_or (slice_set sensed action true) n false) (sym same)
          ∙ get_or-set_same sensed action true false below
          ∙ sym (more ∙ ap (λ b. is_sensed items k || (b || false)) hit ∙ or_second (is_sensed items k) (true || false) refl)
      | inr other ↦
          let miss : (item.action == k) ≡ false = ne_eqb item.action k (λ s. other (sym e ∙ s)) in
          let apart : k ≢ action = λ s. other (sym s) in
          get_or-set_other sensed action k true false apart
          ∙ h k (omega (arith, l, length-set sensed action true))
          ∙ sym (more ∙ ap (λ b. is_sensed items k || (b || false)) miss ∙ or-none (is_sensed items k))
    ]
