-- One more condition that is asked, behind others.
use Rattle.std.proofs.Common.{◌≡◌, ◌<◌, ◌+◌, ℕ, suc, Bool, true, false, List, [], ◌∷◌, ◌++◌, refl, sym, ap, ◌∙◌, if◌then◌else◌, map, length, take, get_or, arith}
use Rattle.std.proofs.lemmas.List.{append-nil, length-map, length-take-le, map-append, take_more}
use Rattle.golog_tree.specs.declared.agent.Agent.{Agent}
use Rattle.golog_tree.specs.declared.cond.Cond.{Cond}
use Rattle.golog_semantics.specs.declared.Mode.{Mode}
use Rattle.golog_semantics.specs.Truth.{Values}
use Rattle.golog_semantics.specs.Ways.{is_so}
use Rattle.golog_ways.specs.Open.{open_from, open_places}

-- the place, where the test holds
abbrev pub place_if : Bool → ℕ → List ℕ
place_if b place = if b then place ∷ [] else []

first-kept : (b : Bool) (place : ℕ) (xs ys : List ℕ) → (if b then place ∷ (xs ++ ys) else (xs ++ ys)) ≡ (if b then place ∷ xs else xs) ++ ys
first-kept true place xs ys = refl
first-kept false place xs ys = refl

module _ (agent : Agent) (values : Values) (m : Mode) where
  open-from-more : (place : ℕ) (cs : List Cond) (c : Cond) → open_from agent values m place (cs ++ c ∷ []) ≡ open_from agent values m place cs ++ place_if (is_so agent values m c) (place + length cs)
  open-from-more place [] c = ap (place_if (is_so agent values m c)) (omega arith)
  open-from-more place (d ∷ cs) c =
      let b = is_so agent values m d in
      let before = open_from agent values m (suc place) cs in
      ap (λ xs. if b then place ∷ xs else xs) (open-from-more (suc place) cs c)
      ∙ first-kept b place before (place_if (is_so agent values m c) (suc place + length cs))
      ∙ ap (λ k. (if b then place ∷ before else before) ++ place_if (is_so agent values m c) k) (omega arith)

  module _ {F : Type 0} (cond : F → Cond) (fs : List F) (n : ℕ) (f : F) (less : n < length fs) (there : f ≡ get_or fs n f) where
    open-next : open_places agent values m (map cond (take (n + 1) fs)) ≡ open_places agent values m (map cond (take n fs)) ++ place_if (is_so agent values m (cond f)) n
    open-next =
        let before = map cond (take n fs) in
        ap (λ xs. open_places agent values m (map cond xs)) (take_more fs n f less ∙ ap (λ x. take n fs ++ x ∷ []) (sym there))
        ∙ ap (open_places agent values m) (map-append cond (take n fs) (f ∷ []))
        ∙ open-from-more 0 before (cond f)
        ∙ ap (λ k. open_places agent values m before ++ place_if (is_so agent values m (cond f)) k)
        (omega (arith, length-map (take n fs) cond, length-take-le n fs (omega arith)))

    -- one more place, where the condition there holds
    pub open-yes : is_so agent values m (cond f) ≡ true → open_places agent values m (map cond (take n fs)) ++ n ∷ [] ≡ open_places agent values m (map cond (take (n + 1) fs))
    open-yes so = sym (open-next ∙ ap (λ b. open_places agent values m (map cond (take n fs)) ++ place_if b n) so)

    -- no more, where it doesn't
    pub open-no : is_so agent values m (cond f) ≡ false → open_places agent values m (map cond (take n fs)) ≡ open_places agent values m (map cond (take (n + 1) fs))
    open-no so =
        sym (open-next ∙ ap (λ b. open_places agent values m (map cond (take n fs)) ++ place_if b n) so
        ∙ append-nil (open_places agent values m (map cond (take n fs))))
