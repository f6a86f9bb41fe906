-- The text of a plan by those of its branches, and which branches have one.
use Rattle.std.proofs.Common.{◌≡◌, ℕ, ◌<◌, ◌≤◌, Bool, true, false, ◌&&◌, ◌||◌, ◌==◌, if◌then◌else◌, Option, List, [], ◌∷◌, ◌++◌, codes, length, map, drop, get_or, refl, sym, ap, ◌∙◌, subst, append_assoc, arith}
use Rattle.std.specs.List.{flat_map, join_by, list_all}
use Rattle.std.proofs.lemmas.List.{append-nil}
use Rattle.std.proofs.lemmas.List.Folds.{flat_map-map, list_all-map}
use Rattle.std.proofs.lemmas.List.Sums.{AllPass-from_list_all}
use denote.Param.Weighed.{most}
use Rattle.golog_tree.specs.declared.agent.Agent.{Agent}
use Rattle.golog_tree.specs.declared.prog.Label.{Label}
use Rattle.golog_tree.specs.declared.prog.Prog.{Prog}
use Rattle.golog_semantics.specs.Reports.{fits_label}
use Rattle.golog_semantics.specs.Text.{Text, label_text}
use Rattle.golog_semantics.proofs.Tests.{and_cases}
use Rattle.golog_known.proofs.Folds.{item_smaller}
use Rattle.golog_branch.specs.declared.tree.Branch.{Branch}
use Rattle.golog_branch.specs.declared.tree.Tree.{Tree}
use Rattle.golog_branch.specs.declared.tree.Tree.TheVariants as tree
use Rattle.golog_branch.specs.Trees.{sensed_by_label, unsensed}
use Rattle.golog_branch.specs.TreeTexts.{Tellable, Told, are_told, branch_text, branch_told, case_text, is_sensed, is_told, is_unsensed, next_text, text_step, told_step, tree_text}
use Rattle.golog_branch.proofs.Folded.{fold-done, fold-step}
use Rattle.golog_branch.proofs.TablePlans.{map-through}

-- ---- items of a list of which all pass

pub one-of : {A : Type 0} (test : A → Bool) (xs : List A) (i : ℕ) (x : A) → i < length xs → x ≡ get_or xs i x → list_all test xs ≡ true → test x ≡ true
one-of test xs i x less e h = subst (λ y. test y ≡ true) (sym e) (AllPass-from_list_all test xs h i x less)

pub rest-of : {A : Type 0} (test : A → Bool) (xs : List A) (i : ℕ) (x : A) → i < length (drop 1 xs) → x ≡ get_or (drop 1 xs) i x → list_all test xs ≡ true → test x ≡ true
rest-of test [] i x less e h = absurd (omega arith)
rest-of test (y ∷ ys) i x less e h = one-of test ys i x less e (and_cases (test y) (list_all test ys) h).1

-- what stands behind the first weighs no more than the most of all
pub later-smaller : {A : Type 0} (μ : A → ℕ) (xs : List A) (i : ℕ) (x : A) → x ≡ get_or (drop 1 xs) i x → i < length (drop 1 xs) → μ x ≤ most μ xs
later-smaller μ [] i x e less = absurd (omega arith)
later-smaller μ (y ∷ ys) i x e less = let below = item_smaller μ ys i x e less in omega arith

-- ---- branches without a value

abbrev pub values-in : List Branch → List ℕ
values-in next = map (λ (b : Branch). b.value) next

pub one-value : (next : List Branch) (only : Branch) → length next ≡ 1 → only ≡ get_or next 0 only → (only.value == unsensed) ≡ is_unsensed (values-in next)
one-value [] only one e = absurd (omega arith)
one-value (b ∷ []) only one e = ap (λ (d : Branch). d.value == unsensed) e
one-value (b ∷ d ∷ next) only one e = absurd (omega arith)

pub many-values : (next : List Branch) → (length next ≡ 1 → ⊥) → false ≡ is_unsensed (values-in next)
many-values [] many = refl
many-values (b ∷ []) many = absurd (many refl)
many-values (b ∷ d ∷ next) many = refl

module _ (agent : Agent) where
  told-values : (next : List Branch) → map (λ (told : Told). told.0) (map (branch_text agent) next) ≡ values-in next
  told-values next = sym (map-through (λ (b : Branch). b.value) (λ (told : Told). told.0) (branch_text agent) (λ b. refl) next)

  pub tellable-values : (next : List Branch) → map (λ (told : Tellable). told.0) (map (branch_told agent) next) ≡ values-in next
  tellable-values next = sym (map-through (λ (b : Branch). b.value) (λ (told : Tellable). told.0) (branch_told agent) (λ b. refl) next)

  -- ---- the text

  pub text-done : tree_text agent tree.Done ≡ codes "."
  text-done = fold-done Text Told (text_step agent) (λ b. (b.value, b.tree))

  pub text-of-step : (label : Label) (left : Prog) (next : List Branch) → tree_text agent (tree.Step label left next)
      ≡ label_text agent label ++ next_text agent (sensed_by_label agent label) (map (branch_text agent) next)
  text-of-step label left next = fold-step Text Told (text_step agent) (λ b. (b.value, b.tree)) label left next

  module _ (sensed : Option ℕ) where
    -- a case
    abbrev pub one-case : Branch → Text
    one-case b = case_text agent sensed (branch_text agent b)

    -- a case that is not the first
    abbrev pub later-case : Branch → Text
    later-case b = codes " | " ++ one-case b

    pub text-none : (next : List Branch) → length next < 1 → codes "{}" ≡ next_text agent sensed (map (branch_text agent) next)
    text-none [] none = refl
    text-none (b ∷ next) none = absurd (omega arith)

    -- the one branch stands behind `; `
    pub text-alone : (next : List Branch) (first : Branch) → first ≡ get_or next 0 first → is_unsensed (values-in next) ≡ true
        → codes "; " ++ tree_text agent first.tree ≡ next_text agent sensed (map (branch_text agent) next)
    text-alone [] first e h = absurd (cc)
    text-alone (b ∷ []) first e h =
        let text = tree_text agent b.tree in
        ap (λ (d : Branch). codes "; " ++ tree_text agent d.tree) e
        ∙ ap (λ (t : Text). codes "; " ++ t) (sym (append-nil text))
        ∙ sym (ap (λ (u : Bool). if u then codes "; " ++ (text ++ []) else codes "{" ++ (one-case b ++ []) ++ codes "}") h)
    text-alone (b ∷ d ∷ next) first e h = absurd (cc)

    -- and others stand in braces
    pub text-cases : (next : List Branch) (first : Branch) → 1 ≤ length next → first ≡ get_or next 0 first → is_unsensed (values-in next) ≡ false
        → codes "{" ++ (one-case first ++ flat_map later-case (drop 1 next)) ++ codes "}" ≡ next_text agent sensed (map (branch_text agent) next)
    text-cases [] first some e h = absurd (omega arith)
    text-cases (b ∷ next) first some e h =
        let texts = map (branch_text agent) (b ∷ next) in
        let more = λ (told : Told). codes " | " ++ case_text agent sensed told in
        ap (λ (d : Branch). codes "{" ++ (one-case d ++ flat_map later-case next) ++ codes "}") e
        ∙ ap (λ (t : Text). codes "{" ++ (one-case b ++ t) ++ codes "}") (sym (flat_map-map more (branch_text agent) next))
        ∙ sym (ap (λ (u : Bool). if u then codes "; " ++ flat_map (λ (told : Told). told.1) texts else codes "{" ++ join_by (case_text agent sensed) (codes " | ") texts ++ codes "}")
        (ap is_unsensed (told-values (b ∷ next)) ∙ h))

    -- ---- which branches have a text

    module _ (next : List Branch) (h : are_told agent sensed (map (branch_told agent) next) ≡ true) where
      abbrev alone : Bool
      alone = is_unsensed (map (λ (told : Tellable). told.0) (map (branch_told agent) next))

      abbrev all-sensed : Bool
      all-sensed = list_all (λ (told : Tellable). is_sensed agent sensed told.0) (map (branch_told agent) next)

      abbrev all-have : Bool
      all-have = list_all (λ (told : Tellable). told.1) (map (branch_told agent) next)

      pub told-all : list_all (λ (b : Branch). is_told agent b.tree) next ≡ true
      told-all = sym (list_all-map (λ (told : Tellable). told.1) (branch_told agent) next) ∙ (and_cases all-have (alone || all-sensed) h).0

      pub sensed-all : is_unsensed (values-in next) ≡ false → list_all (λ (b : Branch). is_sensed agent sensed b.value) next ≡ true
      sensed-all none =
          let not-alone : alone ≡ false = ap is_unsensed (tellable-values next) ∙ none in
          sym (list_all-map (λ (told : Tellable). is_sensed agent sensed told.0) (branch_told agent) next)
          ∙ sym (ap (λ (u : Bool). u || all-sensed) not-alone) ∙ (and_cases all-have (alone || all-sensed) h).1

      pub first-told : (first : Branch) → 1 ≤ length next → first ≡ get_or next 0 first → is_told agent first.tree ≡ true
      first-told first some e = one-of (λ (b : Branch). is_told agent b.tree) next 0 first (omega arith) e told-all

      pub later-told : (i : ℕ) (b : Branch) → i < length (drop 1 next) → b ≡ get_or (drop 1 next) i b → is_told agent b.tree ≡ true
      later-told i b less e = rest-of (λ (b : Branch). is_told agent b.tree) next i b less e told-all

      pub first-sensed : is_unsensed (values-in next) ≡ false → (first : Branch) → 1 ≤ length next → first ≡ get_or next 0 first → is_sensed agent sensed first.value ≡ true
      first-sensed none first some e = one-of (λ (b : Branch). is_sensed agent sensed b.value) next 0 first (omega arith) e (sensed-all none)

      pub later-sensed : is_unsensed (values-in next) ≡ false → (i : ℕ) (b : Branch) → i < length (drop 1 next) → b ≡ get_or (drop 1 next) i b → is_sensed agent sensed b.value ≡ true
      later-sensed none i b less e = rest-of (λ (b : Branch). is_sensed agent sensed b.value) next i b less e (sensed-all none)

  pub told-done : is_told agent tree.Done ≡ true
  told-done = fold-done Bool Tellable (told_step agent) (λ b. (b.value, b.tree))

  pub told-of-step : (label : Label) (left : Prog) (next : List Branch) → is_told agent (tree.Step label left next)
      ≡ (fits_label agent label && are_told agent (sensed_by_label agent label) (map (branch_told agent) next))
  told-of-step label left next = fold-step Bool Tellable (told_step agent) (λ b. (b.value, b.tree)) label left next

  -- the step of a plan that has a text is the agent's, and its branches have theirs
  pub step-told : (t : Tree) (label : Label) (left : Prog) (next : List Branch) → t ≡ tree.Step label left next → is_told agent t ≡ true
      → (fits_label agent label ≡ true) × (are_told agent (sensed_by_label agent label) (map (branch_told agent) next) ≡ true)
  step-told t label left next e h =
      and_cases (fits_label agent label) (are_told agent (sensed_by_label agent label) (map (branch_told agent) next))
      (sym (ap (is_told agent) e ∙ told-of-step label left next) ∙ h)

-- five texts one behind another, grouped otherwise
pub regroup : (a b c d e : Text) → (((a ++ b) ++ c) ++ d) ++ e ≡ a ++ (b ++ ((c ++ d) ++ e))
regroup a b c d e =
    append_assoc ((a ++ b) ++ c) d e ∙ append_assoc (a ++ b) c (d ++ e) ∙ append_assoc a b (c ++ (d ++ e))
    ∙ ap (λ (z : Text). a ++ (b ++ z)) (sym (append_assoc c d e))
