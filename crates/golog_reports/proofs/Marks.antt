-- Bytes that are cut at marks, and put together again.
use Rattle.std.proofs.Common.{◌≡◌, ℕ, suc, ◌+◌, Bool, true, false, not, cond, ◌==◌, ◌&&◌, Option, Some, None, List, [], ◌∷◌, ◌++◌, length, length-append, get_or, take, drop, refl, sym, ap, ◌∙◌, add-one, arith}
use Rattle.std.specs.Prelude.{All, nat_lt}
use Rattle.std.specs.List.{AllByRecursion, list_all, position_or_len, prefix_len, join_with_byte, before_first, after_first}
use Rattle.std.proofs.lemmas.Bool.{lt-ltb, ltb-true, eq-eqb, eqb-true}
use Rattle.std.proofs.lemmas.List.{append-nil}
use Rattle.std.proofs.lemmas.List.Elements.{All-from_recursion}
use Rattle.std.proofs.lemmas.List.Folds.{list_all-append}
use Rattle.std.proofs.lemmas.List.Splits.{slice_split_at, slice_split_none}
use Rattle.std.proofs.lemmas.List.Sums.{split_at_first, passes_at_first}
use Rattle.golog_semantics.specs.Text.{Text}
use Rattle.golog_semantics.proofs.Words.{and-both, and-left, and-right}
use Rattle.golog_reports.specs.Forms.{cut, cut_at, parts}

-- no byte is the mark
abbrev pub Lacks : ℕ → Text → Type 0
Lacks mark bytes = list_all (λ byte. not (byte == mark)) bytes ≡ true

pub lacks-both : (mark : ℕ) (xs ys : Text) → Lacks mark xs → Lacks mark ys → Lacks mark (xs ++ ys)
lacks-both mark xs ys h k = list_all-append (λ byte. not (byte == mark)) xs ys ∙ and-both (list_all (λ byte. not (byte == mark)) xs) (list_all (λ byte. not (byte == mark)) ys) h k

-- bytes that pass a test lack a mark that fails it
unlike : (p : ℕ → Bool) (mark byte : ℕ) → p mark ≡ false → p byte ≡ true → not (byte == mark) ≡ true
unlike p mark byte fails passes = go (byte == mark) refl
  where
    go : (b : Bool) → (byte == mark) ≡ b → not (byte == mark) ≡ true
    go false e = ap not e
    go true e = let same : byte ≡ mark = eqb-true byte mark e in absurd (let wrong : true ≡ false = sym passes ∙ ap p same ∙ fails in cc)

pub lacks : (p : ℕ → Bool) (mark : ℕ) → p mark ≡ false → (bytes : Text) → list_all p bytes ≡ true → Lacks mark bytes
lacks p mark fails [] h = refl
lacks p mark fails (b ∷ bytes) h =
    and-both (not (b == mark)) (list_all (λ byte. not (byte == mark)) bytes) (unlike p mark b fails (and-left (p b) (list_all p bytes) h))
    (lacks p mark fails bytes (and-right (p b) (list_all p bytes) h))

-- a mark and what stands behind it, if there is one
abbrev pub marked : ℕ → Option Text → Text
marked mark None = []
marked mark (Some rest) = mark ∷ rest

take-front : (xs ys : Text) → take (length xs) (xs ++ ys) ≡ xs
take-front [] ys = refl
take-front (x ∷ xs) ys = ap (λ zs. x ∷ zs) (take-front xs ys)

drop-front : (xs ys : Text) (y : ℕ) → drop (suc (length xs)) (xs ++ y ∷ ys) ≡ ys
drop-front [] ys y = refl
drop-front (x ∷ xs) ys y = drop-front xs ys y

module _ (mark : ℕ) where
  abbrev is_mark : ℕ → Bool
  is_mark byte = byte == mark

  lacks-each : (xs : Text) → Lacks mark xs → AllByRecursion (λ x. is_mark x ≡ false) xs
  lacks-each [] h = tt
  lacks-each (x ∷ xs) h = (fails (is_mark x) (and-left (not (is_mark x)) (list_all (λ byte. not (byte == mark)) xs) h), lacks-each xs (and-right (not (is_mark x)) (list_all (λ byte. not (byte == mark)) xs) h))
    where
      fails : (b : Bool) → not b ≡ true → b ≡ false
      fails true e = absurd (cc)
      fails false e = refl

  lacks-all : (xs : Text) → Lacks mark xs → All (λ x. is_mark x ≡ false) xs
  lacks-all xs h = All-from_recursion (λ x. is_mark x ≡ false) xs (lacks-each xs h)

  first-at : (xs ys : Text) → Lacks mark xs → position_or_len is_mark (xs ++ mark ∷ ys) ≡ length xs
  first-at [] ys h = ap (λ b. cond (not b) (1 + prefix_len (λ x. not (is_mark x)) ys) 0) (eq-eqb mark mark refl)
  first-at (x ∷ xs) ys h =
      ap (λ b. cond b (1 + prefix_len (λ x. not (is_mark x)) (xs ++ mark ∷ ys)) 0) (and-left (not (is_mark x)) (list_all (λ byte. not (byte == mark)) xs) h)
      ∙ omega (arith, first-at xs ys (and-right (not (is_mark x)) (list_all (λ byte. not (byte == mark)) xs) h))

  none-at : (xs : Text) → Lacks mark xs → position_or_len is_mark xs ≡ length xs
  none-at [] h = refl
  none-at (x ∷ xs) h =
      ap (λ b. cond b (1 + prefix_len (λ x. not (is_mark x)) xs) 0) (and-left (not (is_mark x)) (list_all (λ byte. not (byte == mark)) xs) h)
      ∙ omega (arith, none-at xs (and-right (not (is_mark x)) (list_all (λ byte. not (byte == mark)) xs) h))

  abbrev cut-found : Text → ℕ → Bool → Text × Option Text
  cut-found bytes place b = cut_at (cond b (Some place) None) bytes

  pub cut-marked : (xs : Text) (rest : Option Text) → Lacks mark xs → cut mark (xs ++ marked mark rest) ≡ (xs, rest)
  unfolding cut
  cut-marked xs None h =
      ap (cut mark) (append-nil xs)
      ∙ (λ i. cut-found xs (none-at xs h i) (nat_lt (none-at xs h i) (length xs)))
      ∙ ap (cut-found xs (length xs)) (never (length xs))
    where
      never : (n : ℕ) → nat_lt n n ≡ false
      never n = go (nat_lt n n) refl
        where
          go : (b : Bool) → nat_lt n n ≡ b → nat_lt n n ≡ false
          go false e = e
          go true e = absurd (omega (arith, ltb-true n n e))
  cut-marked xs (Some ys) h =
      (λ i. cut-found (xs ++ mark ∷ ys) (first-at xs ys h i) (nat_lt (first-at xs ys h i) (length (xs ++ mark ∷ ys))))
      ∙ ap (cut-found (xs ++ mark ∷ ys) (length xs)) (lt-ltb (length xs) (length (xs ++ mark ∷ ys)) (omega (arith, length-append xs (mark ∷ ys))))
      ∙ (λ i. (take-front xs (mark ∷ ys) i, Some (drop (add-one (length xs) i) (xs ++ mark ∷ ys))))
      ∙ ap (λ zs. (xs, Some zs)) (drop-front xs ys mark)

  -- what is cut is whole again
  pub cut-whole : (bytes : Text) → (cut mark bytes).0 ++ marked mark (cut mark bytes).1 ≡ bytes
  unfolding cut
  cut-whole bytes = go (nat_lt place (length bytes)) refl
    where
      place : ℕ
      place = position_or_len is_mark bytes

      go : (b : Bool) → nat_lt (position_or_len is_mark bytes) (length bytes) ≡ b
          → (cut-found bytes (position_or_len is_mark bytes) b).0 ++ marked mark (cut-found bytes (position_or_len is_mark bytes) b).1 ≡ bytes
      go false e = append-nil bytes
      go true e =
          let less = ltb-true (position_or_len is_mark bytes) (length bytes) e in
          ap (λ y. before_first is_mark bytes ++ y ∷ after_first is_mark bytes) (sym (eqb-true (get_or bytes (position_or_len is_mark bytes) 0) mark (passes_at_first is_mark bytes 0 less)))
          ∙ sym (split_at_first is_mark bytes 0 less)

  -- parts that lack the mark are the parts of what they are joined to
  pub parts-joined : (text : Text) (texts : List Text) → Lacks mark text → AllByRecursion (Lacks mark) texts → parts mark (join_with_byte mark (text ∷ texts)) ≡ text ∷ texts
  parts-joined text [] h k = slice_split_none is_mark text (lacks-all text h)
  parts-joined text (next ∷ texts) h k =
      slice_split_at is_mark text mark (join_with_byte mark (next ∷ texts)) (lacks-all text h) (eq-eqb mark mark refl)
      ∙ ap (λ ts. text ∷ ts) (parts-joined next texts k.0 k.1)

  pub parts-first : (text rest : Text) → Lacks mark text → parts mark (text ++ mark ∷ rest) ≡ text ∷ parts mark rest
  parts-first text rest h = slice_split_at is_mark text mark rest (lacks-all text h) (eq-eqb mark mark refl)

-- what passes a test still does once it is joined
pub all-joined : (p : ℕ → Bool) (mark : ℕ) → p mark ≡ true → (texts : List Text) → AllByRecursion (λ text. list_all p text ≡ true) texts → list_all p (join_with_byte mark texts) ≡ true
all-joined p mark passes [] h = refl
all-joined p mark passes (text ∷ []) h = h.0
all-joined p mark passes (text ∷ next ∷ texts) h =
    list_all-append p text (mark ∷ join_with_byte mark (next ∷ texts))
    ∙ and-both (list_all p text) (p mark && list_all p (join_with_byte mark (next ∷ texts))) h.0
    (and-both (p mark) (list_all p (join_with_byte mark (next ∷ texts))) passes (all-joined p mark passes (next ∷ texts) h.1))
