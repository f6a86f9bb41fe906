-- The steps at the open places are those whose condition holds, in order, and each place is one of theirs.
use Rattle.std.proofs.Common.{◌≡◌, ◌<◌, ◌+◌, ℕ, suc, Bool, true, false, List, [], ◌∷◌, ◌++◌, All, refl, sym, ap, ap₂, ◌∙◌, if◌then◌else◌, filter, map, length, get_or, arith}
use lib.Seq.{append_snoc}
use Rattle.std.proofs.lemmas.List.{get_or_at, length-append}
use Rattle.std.proofs.lemmas.List.Elements.{All-cons, All-nil, All-weaker}
use Rattle.golog_tree.specs.declared.agent.Agent.{Agent}
use Rattle.golog_tree.specs.declared.cond.Cond.{Cond}
use Rattle.golog_semantics.specs.declared.Mode.{Mode}
use Rattle.golog_semantics.specs.Truth.{Values}
use Rattle.golog_semantics.specs.Ways.{is_so}
use Rattle.golog_ways.specs.Open.{open_from, open_places}

-- one more place, where the test holds
taken : {F : Type 0} (b : Bool) (step : ℕ → F) (place : ℕ) (places : List ℕ) (f : F) (kept : List F) → step place ≡ f → map step places ≡ kept → map step (if b then place ∷ places else places) ≡ (if b then f ∷ kept else kept)
taken true step place places f kept this others = ap₂ ◌∷◌ this others
taken false step place places f kept this others = others

all_taken : (b : Bool) (P : ℕ → Type 0) (place : ℕ) (places : List ℕ) → P place → All P places → All P (if b then place ∷ places else places)
all_taken true P place places this others = All-cons P place places this others
all_taken false P place places this others = others

module _ (agent : Agent) (values : Values) (m : Mode) {F : Type 0} (cond : F → Cond) where
  steps-behind : (before fs : List F) (d : F) (place : ℕ) → length before ≡ place → map (λ n. get_or (before ++ fs) n d) (open_from agent values m place (map cond fs)) ≡ filter (λ f. is_so agent values m (cond f)) fs
  steps-behind before [] d place is = refl
  steps-behind before (f ∷ fs) d place is =
      let places = open_from agent values m (suc place) (map cond fs) in
      taken (is_so agent values m (cond f)) (λ n. get_or (before ++ f ∷ fs) n d) place places f (filter (λ g. is_so agent values m (cond g)) fs)
      (get_or_at before f fs d place is)
      (ap (λ (xs : List F). map (λ n. get_or xs n d) places) (sym (append_snoc before f fs))
      ∙ steps-behind (before ++ f ∷ []) fs d (suc place) (omega (arith, length-append before (f ∷ []))))

  -- the steps at the open places are those whose condition holds
  pub open-steps : (fs : List F) (d : F) → map (λ n. get_or fs n d) (open_places agent values m (map cond fs)) ≡ filter (λ f. is_so agent values m (cond f)) fs
  open-steps fs d = steps-behind [] fs d 0 refl

  below-from : (place : ℕ) (fs : List F) → All (λ n. n < place + length fs) (open_from agent values m place (map cond fs))
  below-from place [] = All-nil (λ n. n < place + 0)
  below-from place (f ∷ fs) =
      let places = open_from agent values m (suc place) (map cond fs) in
      all_taken (is_so agent values m (cond f)) (λ n. n < place + length (f ∷ fs)) place places (omega arith)
      (All-weaker (λ n. n < suc place + length fs) (λ n. n < place + length (f ∷ fs)) (λ n less. omega arith) places (below-from (suc place) fs))

  -- each open place is one of theirs
  pub open-below : (fs : List F) → All (λ n. n < length fs) (open_places agent values m (map cond fs))
  open-below fs = All-weaker (λ n. n < 0 + length fs) (λ n. n < length fs) (λ n less. omega arith) (open_places agent values m (map cond fs)) (below-from 0 fs)
