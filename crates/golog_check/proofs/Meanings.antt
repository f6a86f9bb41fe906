-- What holds of each constant of a listed sort and of each variable in scope holds of what a word means.
use Rattle.std.proofs.Common.{◌≡◌, ℕ, Bool, true, false, ◌==◌, if◌then◌else◌, List, [], ◌∷◌, Option, Some, None, refl, subst, ◌∙◌}
use Rattle.std.specs.Prelude.{not, slice_get, option_map, option_and_then}
use Rattle.std.proofs.lemmas.Bool.{eqb-true}
use Rattle.golog_tree.specs.declared.agent.SortItem.{SortItem}
use Rattle.golog_tree.specs.declared.cond.Arg.{Arg}
use Rattle.golog_tree.specs.declared.cond.Arg.TheVariants.{Const, Var}
use Rattle.golog_semantics.proofs.GroundNumbers.{some-same}
use Rattle.golog_check.specs.declared.scope.Meant.{Meant}
use Rattle.golog_check.specs.DeclaredItems.{Declared}
use Rattle.golog_check.specs.Sorts.{same, place_of_word, listing, constant_of, constant}
use Rattle.golog_check.specs.Scope.{Scope, variable_no, innermost, or_else, meaning}
use Rattle.golog_check.specs.Terms.{is_other}

pub none-not : {A : Type 0} (x : A) → None ≡ Some x → ⊥
none-not x h = cc

-- a sort that is no other is this one
pub no-other : (own sort : ℕ) → is_other (Some own) sort ≡ false → own ≡ sort
no-other own sort h = go (own == sort) refl h
  where
    go : (b : Bool) → (own == sort) ≡ b → not b ≡ false → own ≡ sort
    go true e k = eqb-true own sort e
    go false e k = absurd (let z : true ≡ false = k in cc)

module _ (P : Arg → ℕ → Type 0) where
  -- it holds of what is meant, where something is
  abbrev pub Means : Option Meant → Type 0
  Means o = (meant : Meant) → o ≡ Some meant → P meant.arg meant.sort

  abbrev pub OfVariables : Scope → Type 0
  OfVariables [] = Unit {0}
  OfVariables (v ∷ outer) = P (Var (variable_no outer)) v.sort × OfVariables outer

  innermost-means : (scope : Scope) → OfVariables scope → (word : List ℕ) → Means (innermost scope word)
  innermost-means [] vars word meant h = absurd (none-not meant h)
  innermost-means (v ∷ outer) vars word meant h = go (innermost-means outer vars.1 word meant) (same word v.word) h
    where
      go : (innermost outer word ≡ Some meant → P meant.arg meant.sort)
          → (b : Bool) → (if b then Some (record { arg = Var (variable_no outer); sort = v.sort }) else innermost outer word) ≡ Some meant → P meant.arg meant.sort
      go rest true k = subst (λ (m : Meant). P m.arg m.sort) (some-same _ meant k) vars.0
      go rest false k = rest k

  -- a word in a place of a sort
  pub word-means : (sort : ℕ) (o : Option Meant) → Means o → is_other (option_map (λ (m : Meant). m.sort) o) sort ≡ false → (a : Arg) → option_map (λ (m : Meant). m.arg) o ≡ Some a → P a sort
  word-means sort None means other a h = absurd (none-not a h)
  word-means sort (Some m) means other a h =
      subst (λ x. P x sort) (some-same m.arg a h) (subst (λ s. P m.arg s) (no-other m.sort sort other) (means m refl))

  module _ (names : Declared) where
    abbrev pub OfConstants : Type 0
    OfConstants = (word : List ℕ) (sort : ℕ) (item : SortItem) (place : ℕ) → slice_get names.sorts sort ≡ Some item → place_of_word word item ≡ Some place → P (Const place) sort

    module _ (constants : OfConstants) where
      constant-at : (word : List ℕ) (sort : ℕ) (o : Option SortItem) → slice_get names.sorts sort ≡ o → (p : Option ℕ) → option_and_then (place_of_word word) o ≡ p
          → Means (option_map (λ place. record { arg = Const place; sort = sort }) p)
      constant-at word sort o e None k meant h = absurd (none-not meant h)
      constant-at word sort None e (Some place) k meant h = absurd (none-not place k)
      constant-at word sort (Some item) e (Some place) k meant h =
          subst (λ (m : Meant). P m.arg m.sort) (some-same _ meant h) (constants word sort item place e k)

      constant-of : (word : List ℕ) (o : Option ℕ) → Means (option_and_then (constant_of names word) o)
      constant-of word None meant h = absurd (none-not meant h)
      constant-of word (Some sort) meant h = constant-at word sort (slice_get names.sorts sort) refl (option_and_then (place_of_word word) (slice_get names.sorts sort)) refl meant h

      constant-means : (word : List ℕ) (at : ℕ) → Means (constant names word at)
      unfolding constant
      constant-means word at meant h = constant-of word (listing names word at) meant h

      pub meaning-means : (scope : Scope) → OfVariables scope → (word : List ℕ) (at : ℕ) → Means (meaning names scope word at)
      meaning-means scope vars word at meant h = go (innermost scope word) refl h
        where
          go : (o : Option Meant) → innermost scope word ≡ o → or_else o (constant names word at) ≡ Some meant → P meant.arg meant.sort
          go (Some m) e k = innermost-means scope vars word meant (e ∙ k)
          go None e k = constant-means word at meant k
