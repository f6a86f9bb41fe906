-- A listed constant is found: the sort that lists it, and its place there.
use Rattle.std.proofs.Common.{◌≡◌, ℕ, zero, suc, ◌+◌, ◌<◌, Bool, true, false, ◌&&◌, ◌||◌, List, [], ◌∷◌, ◌++◌, length, refl, sym, ap, subst, ◌∙◌, Option, Some, inl, inr, arith}
use Rattle.std.specs.Prelude.{nat_le, slice_get, position, option_map, option_and_then}
use Rattle.std.specs.Option.{option_map_or}
use Rattle.std.specs.List.{AllByRecursion, IsDistinct, flat_map, list_any, enumerate_from, position_or_len}
use Rattle.std.proofs.lemmas.Bool.{lt-ltb}
use Rattle.std.proofs.lemmas.Option.{slice_get_within}
use Rattle.std.proofs.lemmas.Cmp.{nat_list_eq_equiv}
use Rattle.golog_tree.specs.declared.agent.SortItem.{SortItem}
use Rattle.golog_tree.specs.declared.agent.SortItem.TheVariants.{Range, Listed}
use Rattle.golog_tree.specs.declared.cond.Arg.TheVariants.{Const}
use Rattle.golog_semantics.specs.Text.{Text}
use Rattle.golog_semantics.specs.BuiltIn.{sort_names, same_text}
use Rattle.golog_semantics.proofs.Among.{Among, among-get, among-right, flat-among, any-among}
use Rattle.golog_semantics.proofs.GroundNumbers.{some-same}
use Rattle.golog_semantics.proofs.Levels.{same_values-same}
use Rattle.golog_semantics.proofs.WellNamed.{distinct-right}
use Rattle.golog_check.specs.declared.scope.Meant.{Meant}
use Rattle.golog_check.specs.DeclaredItems.{Declared}
use Rattle.golog_check.specs.Sorts.{same, constants_of, lists, place_of_word, is_declared, lists_before, listing, constant_of, constant}

skip-one : {X : Type 0} (p : X → Bool) (x : X) (xs : List X) → p x ≡ false → position_or_len p (x ∷ xs) ≡ 1 + position_or_len p xs
skip-one p x xs e = rw e refl

stop-here : {X : Type 0} (p : X → Bool) (x : X) (xs : List X) → p x ≡ true → position_or_len p (x ∷ xs) ≡ 0
stop-here p x xs e = rw e refl

found-by : {X : Type 0} (p : X → Bool) (xs : List X) (i : ℕ) → position_or_len p xs ≡ i → i < length xs → position p xs ≡ Some i
found-by p xs i e h = rw (e, lt-ltb i (length xs) h) refl

apart-in : (ys : List Text) (x word : Text) → AllByRecursion (λ y. same_text x y ≡ false) ys → Among ys word → same_text x word ≡ false
apart-in [] x word all a = absurd a
apart-in (y ∷ ys) x word all (inl e) = subst (λ z. same_text x z ≡ false) e all.0
apart-in (y ∷ ys) x word all (inr b) = apart-in ys x word all.1 b

none-earlier : (xs ys : List Text) (word : Text) → IsDistinct same_text (xs ++ ys) → Among ys word → list_any (same word) xs ≡ false
unfolding IsDistinct
none-earlier [] ys word d a = refl
none-earlier (x ∷ xs) ys word d a =
    let one : same_text x word ≡ false = apart-in (xs ++ ys) x word d.0 (among-right xs ys word a) in
    let flipped : same_text word x ≡ false = nat_list_eq_equiv.symm word x ∙ one in
    let rest : list_any (same word) xs ≡ false = none-earlier xs ys word d.1 a in
    (λ i. flipped i || rest i)

none-lists : (word : Text) (x : SortItem) (ys : List Text) → IsDistinct same_text (sort_names x ++ ys) → Among ys word → lists word x ≡ false
none-lists word (Range name low high) ys d a = refl
none-lists word (Listed name constants) ys d a = none-earlier constants ys word (distinct-right (name ∷ []) (constants ++ ys) d) a

own-constant : (item : SortItem) (word : Text) → Among (constants_of item) word → Among (sort_names item) word
own-constant (Range name low high) word a = absurd a
own-constant (Listed name constants) word a = inr a

lists-among : (word : Text) (item : SortItem) → Among (constants_of item) word → lists word item ≡ true
lists-among word item a = any-among (same word) (constants_of item) word a (same_values-same word)

long : (n : ℕ) (items : List SortItem) → length (enumerate_from n items) ≡ length items
long n [] = refl
long n (x ∷ items) = ap suc (long (n + 1) items)

abbrev meant : ℕ → ℕ → Meant
meant sort place = record { arg = Const place; sort = sort }

module _ (names : Declared) (everywhere : names.places ≡ []) where
  declared-all : (at sort : ℕ) → is_declared names at sort ≡ true
  declared-all at sort = ap (λ (places : List ℕ). option_map_or (λ place. nat_le place at) (slice_get places sort) true) everywhere

  lists-at : (word : Text) (at i : ℕ) (item : SortItem) → lists_before names word at (i, item) ≡ lists word item
  lists-at word at i item = ap (λ b. b && lists word item) (declared-all at i)

  first-listing : (word : Text) (at : ℕ) (items : List SortItem) (n i : ℕ) (item : SortItem) → IsDistinct same_text (flat_map sort_names items) → slice_get items i ≡ Some item
      → Among (constants_of item) word → position_or_len (lists_before names word at) (enumerate_from n items) ≡ i
  first-listing word at [] n i item d e a = absurd cc
  first-listing word at (x ∷ items) n zero item d e a =
      let is : x ≡ item = some-same x item e in
      let here : lists_before names word at (n, x) ≡ true = lists-at word at n x ∙ ap (lists word) is ∙ lists-among word item a in
      stop-here (lists_before names word at) (n, x) (enumerate_from (n + 1) items) here
  first-listing word at (x ∷ items) n (suc i) item d e a =
      let later = flat-among sort_names items item word (among-get items i item e) (own-constant item word a) in
      let other : lists_before names word at (n, x) ≡ false = lists-at word at n x ∙ none-lists word x (flat_map sort_names items) d later in
      let up : 1 + i ≡ suc i = omega arith in
      skip-one (lists_before names word at) (n, x) (enumerate_from (n + 1) items) other
      ∙ ap (λ m. 1 + m) (first-listing word at items (n + 1) i item (distinct-right (sort_names x) (flat_map sort_names items) d) e a) ∙ up

  listing-found : (word : Text) (at sort : ℕ) (item : SortItem) → IsDistinct same_text (flat_map sort_names names.sorts) → slice_get names.sorts sort ≡ Some item
      → Among (constants_of item) word → listing names word at ≡ Some sort
  listing-found word at sort item d e a =
      let within : sort < length names.sorts = slice_get_within names.sorts sort item e in
      found-by (lists_before names word at) (enumerate_from 0 names.sorts) sort (first-listing word at names.sorts 0 sort item d e a)
      (subst (λ n. sort < n) (sym (long 0 names.sorts)) within)

  -- the word is the constant at its place in the sort that lists it
  pub constant-found : (word : Text) (at sort place : ℕ) (item : SortItem) → IsDistinct same_text (flat_map sort_names names.sorts) → slice_get names.sorts sort ≡ Some item
      → Among (constants_of item) word → place_of_word word item ≡ Some place → constant names word at ≡ Some (record { arg = Const place; sort = sort })
  unfolding constant
  constant-found word at sort place item d e a is =
      ap (option_and_then (constant_of names word)) (listing-found word at sort item d e a)
      ∙ ap (λ (o : Option SortItem). option_map (meant sort) (option_and_then (place_of_word word) o)) e
      ∙ ap (option_map (meant sort)) is

pub ruleset laws = (constant-found)
