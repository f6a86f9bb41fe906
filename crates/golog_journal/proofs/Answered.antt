-- Which results stand, with one more entry.
use Rattle.std.proofs.Common.{◌≡◌, ℕ, zero, suc, Bool, true, false, ◌||◌, List, [], ◌∷◌, ◌++◌, length, length-append, get_or, refl, sym, ap, ◌∙◌, arith}
use Rattle.std.specs.List.{list_any}
use Rattle.std.proofs.lemmas.List.Folds.{list_any-append}
use Rattle.golog_base.proofs.Bools.{or-false}
use Rattle.golog_semantics.specs.declared.journal.Entry.{Entry}
use Rattle.golog_semantics.specs.Journal.{Journal, is_result_of}
use Rattle.golog_journal.specs.Ledgers.{AreAnswered}

any-push : {A : Type 0} (p : A → Bool) (xs : List A) (x : A) → list_any p (xs ++ x ∷ []) ≡ (list_any p xs || p x)
any-push p xs x = list_any-append p xs (x ∷ []) ∙ ap (λ b. list_any p xs || b) (or-false (p x))

-- one more `false` reads as past the end
read-push : (bs : List Bool) (k : ℕ) → get_or (bs ++ false ∷ []) k false ≡ get_or bs k false
read-push [] zero = refl
read-push [] (suc k) = refl
read-push (b ∷ bs) zero = refl
read-push (b ∷ bs) (suc k) = read-push bs k

pub answered-push : (journal : Journal) (e : Entry) (old marked : List Bool) → AreAnswered journal old
    → length marked ≡ length old
    → ((place : ℕ) → get_or marked place false ≡ (get_or old place false || is_result_of place e))
    → AreAnswered (journal ++ e ∷ []) (marked ++ false ∷ [])
answered-push journal e old marked are long marks = record {
  one_each =
      let l = length-append journal (e ∷ []) in
      let m = length-append marked (false ∷ []) in
      let one = are.one_each in omega (arith, l, m, one, long);
  each = λ place.
      read-push marked place ∙ marks place ∙ ap (λ b. b || is_result_of place e) (are.each place)
      ∙ sym (any-push (is_result_of place) journal e);
}
