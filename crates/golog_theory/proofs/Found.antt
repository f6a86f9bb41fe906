-- Maps from names to numbers, one name or one item further.
use Rattle.std.proofs.Common.{◌≡◌, ℕ, ◌+◌, ◌<◌, Bool, true, false, List, [], ◌∷◌, ◌++◌, length, take, drop, get_or, length-take-le, Option, Some, None, refl, sym, ap, subst, ◌∙◌, arith, cond, ⊎_elim}
use Rattle.std.specs.Prelude.{◌||◌, position, is_some}
use Rattle.std.specs.List.{position_from, list_any}
use Rattle.std.specs.HashMap as hash
use Rattle.std.specs.Cmp.Lexicographic.{bytes_decides, nat_list_eq_equiv}
use Rattle.std.specs.Map.{KeepsOthers}
use Rattle.std.proofs.lemmas.Bool.{cases_Bool}
use Rattle.std.proofs.lemmas.Iterator.Adapters.{position_from-zero}
use Rattle.std.proofs.lemmas.List.{take_more}
use Rattle.golog_rows.proofs.Each.{drop-item}
use Rattle.golog_theory.specs.Names.{same}
use Rattle.golog_theory.specs.Index.{number_at, or_new, Finds}
use Rattle.golog_theory.specs.declared.index.Numbers.{Numbers}

-- the number of the first item that passes, in a list that has one item more
one_more : (b t : Bool) (k n : ℕ) (rest longer : Option ℕ) → longer ≡ or_new rest t n → cond b (Some k) longer ≡ or_new (cond b (Some k) rest) t n
one_more true t k n rest longer e = refl
one_more false t k n rest longer e = e

position_from_push : {T : Type 0} (test : T → Bool) (k : ℕ) (items : List T) (item : T) → position_from test k (items ++ item ∷ []) ≡ or_new (position_from test k items) (test item) (k + length items)
position_from_push test k [] item = let e : k ≡ k + 0 = omega arith in ap (λ n. cond (test item) (Some n) None) e
position_from_push test k (first ∷ items) item =
    let e : (k + 1) + length items ≡ k + length (first ∷ items) = omega arith in
    let rest = position_from_push test (k + 1) items item ∙ ap (or_new (position_from test (k + 1) items) (test item)) e in
    one_more (test first) (test item) k (k + length (first ∷ items)) (position_from test (k + 1) items) (position_from test (k + 1) (items ++ item ∷ [])) rest

pub position_push : {T : Type 0} (test : T → Bool) (items : List T) (item : T) → position test (items ++ item ∷ []) ≡ or_new (position test items) (test item) (length items)
position_push test items item =
    let zero : 0 + length items ≡ length items = omega arith in
    position_from-zero test (items ++ item ∷ []) ∙ position_from_push test 0 items item
    ∙ ap (or_new (position_from test 0 items) (test item)) zero
    ∙ ap (λ o. or_new o (test item) (length items)) (sym (position_from-zero test items))

-- what finds the items finds one item more
pub finds_push : {T : Type 0} (test : List ℕ → T → Bool) (old new : Numbers) (items : List T) (item : T) → Finds test old items
    → ((word : List ℕ) → number_at new word ≡ or_new (number_at old word) (test word item) (length items))
    → Finds test new (items ++ item ∷ [])
finds_push test old new items item finds adds word =
    adds word ∙ ap (λ o. or_new o (test word item) (length items)) (finds word) ∙ sym (position_push (test word) items item)

-- nothing new
pub or_new-false : (o : Option ℕ) (n : ℕ) → o ≡ or_new o false n
or_new-false (Some m) n = refl
or_new-false None n = refl

or_new-some : (o : Option ℕ) (b : Bool) (n : ℕ) → is_some o ≡ true → o ≡ or_new o b n
or_new-some (Some m) b n e = refl
or_new-some None b n e = absurd cc

pub or_new-or : (o : Option ℕ) (b c : Bool) (n : ℕ) → or_new (or_new o b n) c n ≡ or_new o (b || c) n
or_new-or (Some m) b c n = refl
or_new-or None true c n = refl
or_new-or None false c n = refl

same-is : (one other : List ℕ) → same one other ≡ true → one ≡ other
same-is one other e = (bytes_decides one other).0 e

-- where the name has a number already, nothing is added
pub kept : (numbers : Numbers) (name word : List ℕ) (n : ℕ) → is_some (number_at numbers name) ≡ true → number_at numbers word ≡ or_new (number_at numbers word) (same word name) n
kept numbers name word n has =
    ⊎_elim
    (λ y. or_new-some (number_at numbers word) (same word name) n (subst (λ w. is_some (number_at numbers w) ≡ true) (sym (same-is word name y)) has))
    (λ ne. or_new-false (number_at numbers word) n ∙ ap (λ b. or_new (number_at numbers word) b n) (sym ne))
    (cases_Bool (same word name))

-- the name gets the number, and other words keep theirs
module _ (old new : Numbers) (name : List ℕ) (n : ℕ) where
  abbrev Updates : Type 0
  Updates = hash.UpdatesBy (λ x y. same x.items y.items) (λ key. same name key.items) old.by_name new.by_name (Some n)

  others : Updates → (word : List ℕ) → same word name ≡ false → number_at new word ≡ number_at old word
  unfolding KeepsOthers
  others h word ne =
      h.3 (λ key. same word key.items) (λ x y. nat_list_eq_equiv.congr word x.items y.items)
      (λ key y. subst (λ k. same word k ≡ false) (same-is name key.items y) ne)

  pub added : Updates → is_some (number_at old name) ≡ false → (word : List ℕ) → number_at new word ≡ or_new (number_at old word) (same word name) n
  added h none word =
      ⊎_elim
      (λ y. here word y)
      (λ ne. others h word ne ∙ or_new-false (number_at old word) n ∙ ap (λ b. or_new (number_at old word) b n) (sym ne))
      (cases_Bool (same word name))
    where
      is_none : (o : Option ℕ) → is_some o ≡ false → o ≡ None
      is_none None e = refl
      is_none (Some m) e = absurd cc

      here : (word : List ℕ) → same word name ≡ true → number_at new word ≡ or_new (number_at old word) (same word name) n
      here word y =
          let e = same-is word name y in
          ap (number_at new) e ∙ h.1
          ∙ sym (ap (λ w. or_new (number_at old w) (same word name) n) e ∙ ap (λ o. or_new o (same word name) n) (is_none (number_at old name) none) ∙ ap (λ b. or_new None b n) y)

-- the words of a list get the number, one word further
pub words_more : (old new : Numbers) (words : List (List ℕ)) (i : ℕ) (w : List ℕ) (n : ℕ) → i < length words → w ≡ get_or words i w
    → ((word : List ℕ) → number_at new word ≡ or_new (number_at old word) (same word w) n)
    → (word : List ℕ) → or_new (number_at new word) (list_any (same word) (drop (i + 1) words)) n ≡ or_new (number_at old word) (list_any (same word) (drop i words)) n
words_more old new words i w n lt is adds word =
    ap (λ o. or_new o (list_any (same word) (drop (i + 1) words)) n) (adds word)
    ∙ or_new-or (number_at old word) (same word w) (list_any (same word) (drop (i + 1) words)) n
    ∙ ap (λ ws. or_new (number_at old word) (list_any (same word) ws) n) (sym (drop-item words i w lt is))

-- what finds the first items finds one further
pub finds_more : {T : Type 0} (test : List ℕ → T → Bool) (old new : Numbers) (items : List T) (i : ℕ) (item : T) → i < length items → item ≡ get_or items i item
    → Finds test old (take i items)
    → ((word : List ℕ) → number_at new word ≡ or_new (number_at old word) (test word item) i)
    → Finds test new (take (i + 1) items)
finds_more test old new items i item lt is finds adds =
    let count : length (take i items) ≡ i = length-take-le i items (omega (arith, lt)) in
    let more : take (i + 1) items ≡ take i items ++ item ∷ [] = take_more items i item lt ∙ ap (λ x. take i items ++ x ∷ []) (sym is) in
    subst (Finds test new) (sym more)
    (finds_push test old new (take i items) item finds (λ word. adds word ∙ ap (or_new (number_at old word) (test word item)) (sym count)))
