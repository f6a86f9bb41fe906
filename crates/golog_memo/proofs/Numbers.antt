-- Programs are numbered one by one.
use Rattle.std.proofs.Common.{◌≡◌, ℕ, zero, suc, ◌+◌, ◌-◌, ◌<◌, inl, inr, Bool, true, false, Some, None, List, [], ◌∷◌, ◌++◌, length, take, refl, sym, ap, ◌∙◌, subst, arith}
use Rattle.std.specs.Prelude.{OnOk, Result, Ok, Err, cond, is_err, slice_get}
use Rattle.std.specs.HashMap.{HashMap, IsUnchanged, Updates}
use Rattle.std.specs.Map.{lookup}
use Rattle.std.proofs.lemmas.Bool.{cases_lt}
use Rattle.std.proofs.lemmas.List.{length_push}
use Rattle.std.proofs.lemmas.Option.{slice_get_within}
use Rattle.std.proofs.Math.Seq.{take-append_seam}
use Rattle.golog_tree.specs.declared.prog.Prog.{Prog}
use Rattle.golog_semantics.proofs.GroundNumbers.{slice_get-left, slice_get-right, some-same}
use Rattle.golog_memo.specs.Numbered.{AreNumbered, AreOnce, number_in, same}
use Rattle.golog_tree.proofs.EqualPrograms.{prog-decides}

module _ {S : Type 0} where
  pub are_once : (progs : List Prog) (numbers : HashMap Prog ℕ S) → AreNumbered progs numbers → AreOnce progs
  are_once progs numbers h = record { place = λ i j prog e k. some-same i j (sym (h.has prog i e) ∙ h.has prog j k) }

  -- the same programs, and the same numbers
  pub numbered_still : (progs more : List Prog) (old new : HashMap Prog ℕ S) → AreNumbered progs old → more ≡ progs → IsUnchanged old new → AreNumbered more new
  numbered_still progs more old new h is entries = record {
    has = λ q i e. ap (lookup (same q)) entries ∙ h.has q i (ap (λ ps. slice_get ps i) (sym is) ∙ e);
    only = λ q i e. ap (λ ps. slice_get ps i) is ∙ h.only q i (ap (lookup (same q)) (sym entries) ∙ e);
  }

  -- one more program, which had no number
  module _ (progs : List Prog) (old new : HashMap Prog ℕ S) (prog : Prog) (h : AreNumbered progs old) (absent : number_in old prog ≡ None)
      (updates : (q : Prog) → number_in new q ≡ cond (same prog q) (Some (length progs)) (number_in old q)) where
    last : slice_get (progs ++ prog ∷ []) (length progs) ≡ Some prog
    last = slice_get-right progs (prog ∷ []) (length progs) 0 (omega arith)

    has : (q : Prog) (i : ℕ) → slice_get (progs ++ prog ∷ []) i ≡ Some q → number_in new q ≡ Some i
    has q i e = elim (cases_lt i (length progs)) [ inl l ↦ before l (same prog q) refl | inr l ↦ behind (i - length progs) (omega arith) ]
      where
        before : i < length progs → (b : Bool) → same prog q ≡ b → number_in new q ≡ Some i
        before l true t =
            let there = h.has q i (sym (slice_get-left progs (prog ∷ []) i l) ∙ e) in
            let none : number_in old q ≡ None = subst (λ (p : Prog). number_in old p ≡ None) ((prog-decides prog q).0 t) absent in
            absurd (cc)
        before l false t = updates q ∙ ap (λ b. cond b (Some (length progs)) (number_in old q)) t ∙ h.has q i (sym (slice_get-left progs (prog ∷ []) i l) ∙ e)

        behind : (j : ℕ) → i ≡ length progs + j → number_in new q ≡ Some i
        behind zero k =
            let is : prog ≡ q = some-same prog q (sym (slice_get-right progs (prog ∷ []) i 0 k) ∙ e) in
            updates q ∙ ap (λ b. cond b (Some (length progs)) (number_in old q)) ((prog-decides prog q).1 is) ∙ ap Some (let n : length progs ≡ i = omega arith in n)
        behind (suc j) k = absurd (let none = sym (slice_get-right progs (prog ∷ []) i (suc j) k) ∙ e in cc)

    only : (q : Prog) (i : ℕ) → number_in new q ≡ Some i → slice_get (progs ++ prog ∷ []) i ≡ Some q
    only q i e = go (same prog q) refl
      where
        go : (b : Bool) → same prog q ≡ b → slice_get (progs ++ prog ∷ []) i ≡ Some q
        go true t =
            let number : length progs ≡ i = some-same (length progs) i (sym (updates q ∙ ap (λ b. cond b (Some (length progs)) (number_in old q)) t) ∙ e) in
            ap (slice_get (progs ++ prog ∷ [])) (sym number) ∙ last ∙ ap Some ((prog-decides prog q).0 t)
        go false t =
            let there = h.only q i (sym (updates q ∙ ap (λ b. cond b (Some (length progs)) (number_in old q)) t) ∙ e) in
            slice_get-left progs (prog ∷ []) i (slice_get_within progs i q there) ∙ there

    pub numbered_more : AreNumbered (progs ++ prog ∷ []) new
    numbered_more = record { has = has; only = only }

ok-then : {A E P : Type 0} (r : Result A E) → OnOk r P → is_err r ≡ false → P
ok-then (Ok a) h e = h
ok-then (Err x) h e = absurd (cc)

-- the last program stands at the number of those before it
pub stands-last : (progs more : List Prog) (prog : Prog) (number : ℕ) → more ≡ progs ++ prog ∷ [] → number ≡ length progs → slice_get more number ≡ Some prog
stands-last progs more prog number pushed last =
    (λ i. slice_get (pushed i) (last i)) ∙ slice_get-right progs (prog ∷ []) (length progs) 0 (omega arith)

-- one more program, which had no number
pub numbered_next : {S A E : Type 0} (progs more : List Prog) (old new : HashMap Prog ℕ S) (prog : Prog) (number : ℕ) (result : Result A E) → AreNumbered progs old
    → more ≡ progs ++ prog ∷ [] → number ≡ length progs → number_in old prog ≡ None → is_err result ≡ false
    → OnOk result (Updates same old new prog (Some number)) → AreNumbered more new
numbered_next progs more old new prog number result h pushed last absent ok updates =
    let changed = ok-then result updates ok in
    subst (λ ps. AreNumbered ps new) (sym pushed)
    (numbered_more progs old new prog h absent (λ q. changed.0 q ∙ (λ i. cond (same prog q) (Some (last i)) (number_in old q))))

-- what is left of a list once the program is taken that was put behind it
pub popped : (progs more left : List Prog) (copy : Prog) (count : ℕ) → more ≡ progs ++ copy ∷ [] → count ≡ length more → left ≡ take (count - 1) more → left ≡ progs
popped progs more left copy count pushed counted rest =
    let before : count - 1 ≡ length progs = omega (arith, counted, ap (λ (ps : List Prog). length ps) pushed, length_push progs copy) in
    rest ∙ (λ i. take (before i) (pushed i)) ∙ take-append_seam progs (copy ∷ [])
