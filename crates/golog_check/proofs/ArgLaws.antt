-- Arguments that are not refused are of the sorts of their places.
use Rattle.std.proofs.Common.{◌≡◌, ℕ, ℤ, suc, ◌<◌, ◌≤◌, Bool, true, false, ◌&&◌, ◌==◌, if◌then◌else◌, List, [], ◌∷◌, ◌++◌, length, refl, sym, ap, subst, ◌∙◌, Option, Some, None, Ok, arith}
use Rattle.std.specs.Prelude.{not, nat_lt, int_lt, ◌-ℤ◌, ◌+ℤ◌, ◌≤ℤ◌, ◌<ℤ◌, T, pos, negsuc, slice_get, option_map, option_and_then}
use Rattle.std.specs.Option.{option_map_or}
use Rattle.std.proofs.lemmas.Bool.{lt-ltb}
use Rattle.std.proofs.lemmas.Int.{ints, by_lt_z}
use Rattle.std.proofs.lemmas.List.{append_assoc, append-nil}
use Rattle.std.proofs.lemmas.List.Quantifiers.{position-Some}
use Rattle.golog_tree.specs.declared.agent.Agent.{Agent}
use Rattle.golog_tree.specs.declared.agent.SortItem.{SortItem}
use Rattle.golog_tree.specs.declared.agent.SortItem.TheVariants.{Range, Listed}
use Rattle.golog_tree.specs.declared.cond.Arg.{Arg}
use Rattle.golog_tree.specs.declared.cond.Arg.TheVariants.{Const, Var}
use Rattle.golog_tree.specs.declared.draft_cond.DraftArg.{DraftArg}
use Rattle.golog_tree.specs.declared.draft_cond.DraftArg.TheVariants.{Word, Number}
use Rattle.golog_tree.specs.Ground.{to_count, item_size, size_at, sort_size}
use Rattle.golog_draft.specs.DraftPlaces.{arg_place}
use Rattle.golog_rows.specs.Reading.{found, each}
use Rattle.golog_semantics.specs.Fits as fits
use Rattle.golog_semantics.specs.Fits.{arg_fits, args_fit}
use Rattle.golog_check.specs.declared.scope.Meant.{Meant}
use Rattle.golog_check.specs.Codes.{SORT_CLASH, UNBOUND}
use Rattle.golog_check.specs.DeclaredItems.{Declared}
use Rattle.golog_check.specs.Sorts.{same, place_of_word, place_of_number, number_in}
use Rattle.golog_check.specs.Scope.{Scope, variable_no, meaning}
use Rattle.golog_check.specs.Terms.{is_other, arg_sort, arg_as, arg_in, next_arg, args_in}
use Rattle.golog_check.specs.CheckLaws.{HasItems, Binds, ArgsFit}
use Rattle.golog_semantics.proofs.Words.{and-right}
pub use Rattle.golog_semantics.proofs.GroundNumbers.{some-same}
pub use Rattle.golog_check.proofs.Meanings.{none-not, no-other}
use Rattle.golog_check.proofs.Meanings.{Means, OfConstants, OfVariables, meaning-means, word-means}
use Rattle.golog_check.proofs.Readings.{both, past, found-it, ok-same}

pub same-number : (n : ℕ) → (n == n) ≡ true
same-number n = grind arith

-- what stands behind so many others
pub get-middle : {A : Type 0} (front rest : List A) (x : A) → slice_get (front ++ x ∷ rest) (length front) ≡ Some x
get-middle [] rest x = refl
get-middle (y ∷ front) rest x = get-middle front rest x

pub below : (n m : ℕ) → n < m → nat_lt n m ≡ true
below n m h = lt-ltb n m h

not-less : (a b : ℤ) → int_lt a b ≡ false → b ≤ℤ a
not-less a b h = by_lt_z a b (λ less. absurd (go (int_lt a b) less.lt h)) (λ no. no)
  where
    go : (c : Bool) → T c → c ≡ false → ⊥
    go true t e = absurd (let z : true ≡ false = e in cc)
    go false t e = t

count-less : (z w : ℤ) → pos 0 ≤ℤ z → z <ℤ w → to_count z < to_count w
count-less (pos n) (pos m) h k = omega (arith, ints, k)
count-less (pos n) (negsuc m) h k = absurd (omega (arith, ints, k))
count-less (negsuc n) w h k = absurd (omega (arith, ints, h))

-- a number of a range has its place there
in-range : (number low high : ℤ) (place : ℕ) → place_of_number number (Range [] low high) ≡ Some place → place < to_count (high -ℤ low +ℤ pos 1)
in-range number low high place h = go (int_lt number low) refl (int_lt high number) refl h
  where
    go : (b : Bool) → int_lt number low ≡ b → (c : Bool) → int_lt high number ≡ c → (if not b && not c then Some (to_count (number -ℤ low)) else None) ≡ Some place
        → place < to_count (high -ℤ low +ℤ pos 1)
    go true e c k h = absurd (none-not place h)
    go false e true k h = absurd (none-not place h)
    go false e false k h =
        subst (λ p. p < to_count (high -ℤ low +ℤ pos 1)) (some-same (to_count (number -ℤ low)) place h)
        (count-less (number -ℤ low) (high -ℤ low +ℤ pos 1) (omega (arith, ints, not-less number low e)) (omega (arith, ints, not-less high number k)))

number-place : (number : ℤ) (item : SortItem) (place : ℕ) → place_of_number number item ≡ Some place → place < item_size item
number-place number (Range name low high) place h = in-range number low high place h
number-place number (Listed name constants) place h = absurd (none-not place h)

word-place : (word : List ℕ) (item : SortItem) (place : ℕ) → place_of_word word item ≡ Some place → place < item_size item
word-place word (Range name low high) place h = absurd (none-not place h)
word-place word (Listed name constants) place h = (position-Some (same word) constants place [] h).0

module _ (agent : Agent) (names : Declared) (has : HasItems agent names) where
  -- a place in the sort with the number is a constant of it
  sized : (sort place : ℕ) (item : SortItem) → slice_get names.sorts sort ≡ Some item → place < item_size item → nat_lt place (sort_size agent sort) ≡ true
  sized sort place item e h =
      let there : slice_get agent.sorts sort ≡ Some item = ap (λ items. slice_get items sort) has.sorts ∙ e in
      below place (sort_size agent sort) (subst (λ o. place < size_at o) (sym there) h)

  number-fits-at : (sort : ℕ) (number : ℤ) (place : ℕ) (o : Option SortItem) → slice_get names.sorts sort ≡ o → option_and_then (place_of_number number) o ≡ Some place → nat_lt place (sort_size agent sort) ≡ true
  number-fits-at sort number place None e h = absurd (none-not place h)
  number-fits-at sort number place (Some item) e h = sized sort place item e (number-place number item place h)

  number-fits : (sort : ℕ) (number : ℤ) (place : ℕ) → number_in names sort number ≡ Some place → nat_lt place (sort_size agent sort) ≡ true
  number-fits sort number place h = number-fits-at sort number place (slice_get names.sorts sort) refl h

  module _ (bound : fits.Scope) where
    abbrev IsOfSort : Arg → ℕ → Type 0
    IsOfSort a sort = arg_fits agent bound sort a ≡ true

    constants-fit : OfConstants IsOfSort names
    constants-fit word sort item place e k = sized sort place item e (word-place word item place k)

    var-fits : (outer : Scope) (sort : ℕ) → bound (length outer) ≡ Some sort → length outer ≤ 32 → arg_fits agent bound sort (Var (variable_no outer)) ≡ true
    var-fits outer sort e few =
        let n : variable_no outer ≡ length outer = omega arith in
        ap (λ o. option_map_or (λ s. s == sort) o false) (ap bound n ∙ e) ∙ same-number sort

    vars-fit : (scope : Scope) → Binds agent bound scope → length scope ≤ 32 → OfVariables IsOfSort scope
    vars-fit [] binds few = tt
    vars-fit (v ∷ outer) binds few = (var-fits outer v.sort binds.0.0 (omega (arith, few)), vars-fit outer binds.1 (omega (arith, few)))

    module _ (scope : Scope) (binds : Binds agent bound scope) (few : length scope ≤ 32) where
      meaning-fits : (word : List ℕ) (at : ℕ) → Means IsOfSort (meaning names scope word at)
      meaning-fits word at = meaning-means IsOfSort names constants-fit scope (vars-fit scope binds few) word at

      number-as : (sort : ℕ) (o : Option ℕ) → ((place : ℕ) → o ≡ Some place → nat_lt place (sort_size agent sort) ≡ true) → (a : Arg) → option_map Const o ≡ Some a → arg_fits agent bound sort a ≡ true
      number-as sort None means a h = absurd (none-not a h)
      number-as sort (Some place) means a h = subst (λ x. arg_fits agent bound sort x ≡ true) (some-same (Const place) a h) (means place refl)

      pub arg-as-fits : (sort : ℕ) (draft : DraftArg) (a : Arg) → (arg_as names scope sort draft).outcome ≡ Ok a → is_other (arg_sort names scope draft) sort ≡ false → arg_fits agent bound sort a ≡ true
      arg-as-fits sort (Word word at) a h other = word-means IsOfSort sort (meaning names scope word at) (meaning-fits word at) other a (found-it UNBOUND at (option_map (λ (m : Meant). m.arg) (meaning names scope word at)) a h)
      arg-as-fits sort (Number number at) a h other = number-as sort (number_in names sort number) (number-fits sort number) a (found-it SORT_CLASH at (option_map Const (number_in names sort number)) a h)

      pub arg-fits : (sort : ℕ) (draft : DraftArg) (a : Arg) → (arg_in names scope sort draft).outcome ≡ Ok a → arg_fits agent bound sort a ≡ true
      unfolding arg_in
      arg-fits sort draft a h =
          let p = past (is_other (arg_sort names scope draft) sort) SORT_CLASH (arg_place draft) (arg_as names scope sort draft) a h in
          arg-as-fits sort draft a p.rest p.none

      fit-length : (front : List ℕ) (args : List Arg) → args_fit agent bound front args ≡ true → length args ≡ length front
      fit-length [] [] h = refl
      fit-length [] (a ∷ args) h = absurd (cc)
      fit-length (s ∷ front) [] h = absurd (cc)
      fit-length (s ∷ front) (a ∷ args) h = ap suc (fit-length front args (and-right (arg_fits agent bound s a) (args_fit agent bound front args) h))

      fit-more : (front : List ℕ) (args : List Arg) (sort : ℕ) (arg : Arg) → args_fit agent bound front args ≡ true → arg_fits agent bound sort arg ≡ true → args_fit agent bound (front ++ sort ∷ []) (args ++ arg ∷ []) ≡ true
      fit-more [] [] sort arg h k = ap (λ b. b && true) k
      fit-more [] (a ∷ args) sort arg h k = absurd (cc)
      fit-more (s ∷ front) [] sort arg h k = absurd (cc)
      fit-more (s ∷ front) (a ∷ args) sort arg h k = step (arg_fits agent bound s a) (args_fit agent bound front args) (args_fit agent bound (front ++ sort ∷ []) (args ++ arg ∷ [])) (λ j. fit-more front args sort arg j k) h
        where
          step : (b c d : Bool) → (c ≡ true → d ≡ true) → (b && c) ≡ true → (b && d) ≡ true
          step true c d f e = f e
          step false c d f e = absurd (cc)

      next-fits : (front rest : List ℕ) (sort : ℕ) (done : List Arg) (draft : DraftArg) (a : Arg) → length done ≡ length front
          → (next_arg names scope (front ++ sort ∷ rest) done draft).outcome ≡ Ok a → arg_fits agent bound sort a ≡ true
      unfolding next_arg
      next-fits front rest sort done draft a long h =
          let b = both (found SORT_CLASH (arg_place draft) (slice_get (front ++ sort ∷ rest) (length done))) (λ s. arg_in names scope s draft) a h in
          let e = found-it SORT_CLASH (arg_place draft) (slice_get (front ++ sort ∷ rest) (length done)) b.value b.one in
          let is : sort ≡ b.value = some-same sort b.value (sym (ap (slice_get (front ++ sort ∷ rest)) long ∙ get-middle front rest sort) ∙ e) in
          subst (λ s. arg_fits agent bound s a ≡ true) (sym is) (arg-fits b.value draft a b.other)

      each-fits : (drafts : List DraftArg) (front rest : List ℕ) (done result : List Arg) → length drafts ≡ length rest → args_fit agent bound front done ≡ true
          → (each (next_arg names scope (front ++ rest)) done drafts).outcome ≡ Ok result → args_fit agent bound (front ++ rest) result ≡ true
      each-fits [] front [] done result long h k =
          subst (λ ss. args_fit agent bound ss result ≡ true) (sym (append-nil front)) (subst (λ xs. args_fit agent bound front xs ≡ true) (ok-same done result k) h)
      each-fits [] front (s ∷ rest) done result long h k = absurd (cc)
      each-fits (d ∷ drafts) front [] done result long h k = absurd (cc)
      each-fits (d ∷ drafts) front (s ∷ rest) done result long h k =
          let b = both (next_arg names scope (front ++ s ∷ rest) done d) (λ x. each (next_arg names scope (front ++ s ∷ rest)) (done ++ x ∷ []) drafts) result k in
          let fit = next-fits front rest s done d b.value (fit-length front done h) b.one in
          subst (λ ss. args_fit agent bound ss result ≡ true) (append_assoc front (s ∷ []) rest)
          (each-fits drafts (front ++ s ∷ []) rest (done ++ b.value ∷ []) result (omega (arith, long)) (fit-more front done s b.value h fit)
          (subst (λ ss. (each (next_arg names scope ss) (done ++ b.value ∷ []) drafts).outcome ≡ Ok result) (sym (append_assoc front (s ∷ []) rest)) b.other))

      pub args-fit-in : (sorts : List ℕ) (drafts : List DraftArg) → length drafts ≡ length sorts → (args : List Arg) → (args_in names scope sorts drafts).outcome ≡ Ok args → args_fit agent bound sorts args ≡ true
      args-fit-in sorts drafts long args h = each-fits drafts [] sorts [] args long refl h

pub args-fit : ArgsFit
args-fit agent names has bound scope binds few sorts drafts long args h = args-fit-in agent names has bound scope binds few sorts drafts long args h
