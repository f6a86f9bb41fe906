-- A cause, put into the values of ground things that stand together.
use Rattle.std.proofs.Common.{◌≡◌, ℕ, suc, ◌+◌, ◌-◌, ◌*◌, ◌/◌, ◌%◌, ◌<◌, ◌≤◌, ◌⊎◌, inl, inr, Bool, true, false, ◌==◌, if◌then◌else◌, Option, Some, None, List, [], ◌∷◌, ◌++◌, length, refl, sym, ap, ◌∙◌, subst, arith, add-zero, slice_set, get_or-set_same, get_or-set_other}
use Rattle.std.specs.Prelude.{slice_index}
use Rattle.std.proofs.Math.Arith.{digits_lt, digits_div}
use Rattle.std.proofs.Math.Nat.{mod-lt, mod-eq_of_lt, add_assoc, div-lt_iff_lt-mul, mul_comm, suc-mul}
use Rattle.std.proofs.lemmas.Bool.{cases_lt, eqb-true, eqb-false}
use Rattle.golog_tree.specs.declared.agent.Agent.{Agent}
use Rattle.golog_tree.specs.declared.agent.CauseItem.{CauseItem}
use Rattle.golog_tree.specs.declared.cond.Arg.{Arg}
use Rattle.golog_tree.specs.declared.cond.Arg.TheVariants.{Const, Var}
use Rattle.golog_tree.specs.Ground.{args_of, product}
use Rattle.golog_semantics.specs.Truth.{Values, arg_value}
use Rattle.golog_semantics.specs.Values.{matched_values, value_caused}
use Rattle.golog_semantics.proofs.NumbersStand.{args-shift}
use Rattle.golog_progress.specs.Effects.{is_next, effect_of, IsSpread, IsRanged}

-- the arguments at a place of a part
args-at : (n : ℕ) (ns : List ℕ) (a q : ℕ) → a < n → q < product ns → args_of (n ∷ ns) (a * product ns + q) ≡ a ∷ args_of ns q
args-at n ns a q h k =
    let first : (a * product ns + q) / product ns % n ≡ a = ap (λ x. x % n) (digits_div a k) ∙ mod-eq_of_lt h in
    let rest : args_of ns (a * product ns + q) ≡ args_of ns q = args-shift ns a q (omega arith) in
    (λ i. first i ∷ rest i)

-- parts of one width, one behind the other
pub part-behind : (v a w : ℕ) → v < a → 0 < w → v * w + w ≤ a * w
part-behind v a w h k = let r : v * w + (w - 1) < a * w = digits_lt h (omega arith) in omega arith

record Part (n w p : ℕ) : Type 0 where
  part : ℕ
  place : ℕ
  is : part * w + place ≡ p
  part_below : part < n
  place_below : place < w

part_of : (n w p : ℕ) → p < n * w → 0 < w → Part n w p
part_of n w p h k = record {
  part = p / w;
  place = p % w;
  is = let e : w * (p / w) + p % w ≡ p = omega arith in let f : p / w * w ≡ w * (p / w) = mul_comm (p / w) w in omega arith;
  part_below = (div-lt_iff_lt-mul k).1 h;
  place_below = mod-lt p k;
}

pub matched-fixed : (arg : Arg) (args : List Arg) (a : ℕ) (at found : List ℕ) → is_next found arg ≡ false
    → matched_values (arg ∷ args) (a ∷ at) found ≡ (if arg_value found arg == a then matched_values args at found else None)
matched-fixed (Const c) args a at found h = refl
matched-fixed (Var x) args a at found h =
    ap (λ b. if b then matched_values args at (found ++ a ∷ []) else (if slice_index found x == a then matched_values args at found else None)) h

pub matched-free : (arg : Arg) (args : List Arg) (a : ℕ) (at found : List ℕ) → is_next found arg ≡ true
    → matched_values (arg ∷ args) (a ∷ at) found ≡ matched_values args at (found ++ a ∷ [])
matched-free (Const c) args a at found h = absurd (cc)
matched-free (Var x) args a at found h =
    ap (λ b. if b then matched_values args at (found ++ a ∷ []) else (if slice_index found x == a then matched_values args at found else None)) h

module _ (agent : Agent) (values : Values) (cause : CauseItem) where
  abbrev Spread : List ℕ → List Arg → List ℕ → ℕ → Values → Values → Type 0
  Spread = IsSpread (effect_of agent values cause)

  abbrev Caused : Option (List ℕ) → ℕ → ℕ
  Caused = value_caused agent values cause

  -- what is to hold at a place
  abbrev Holds : List ℕ → List Arg → List ℕ → ℕ → Values → Values → ℕ → Type 0
  Holds ns args found start old new place =
      slice_index new (start + place) ≡ Caused (matched_values args (args_of ns place) found) (slice_index old (start + place))

  -- the head is bound: one value is changed
  pub one : (found : List ℕ) (start : ℕ) (old : Values) (v : ℕ) → start < length old → v ≡ Caused (Some found) (slice_index old start)
      → Spread [] [] found start old (slice_set old start v)
  one found start old v below e = record {
    inside = λ place h.
        let none : place ≡ 0 = omega arith in
        subst (Holds [] [] found start old (slice_set old start v)) (sym none)
        (subst (λ f. slice_index (slice_set old start v) f ≡ Caused (Some found) (slice_index old f)) (sym (add-zero start))
        (get_or-set_same old start v 0 below ∙ e));
    outside = λ f h. get_or-set_other old start f v 0 (other f h);
  }
    where
      other : (f : ℕ) → (f < start) ⊎ (start + 1 ≤ f) → f ≡ start → ⊥
      other f (inl h) e = omega arith
      other f (inr h) e = omega arith

  -- an argument whose value is fixed: the part of the value is changed
  module _ (n : ℕ) (ns : List ℕ) (arg : Arg) (args : List Arg) (found : List ℕ) (start : ℕ) (old new : Values)
      (fixed : is_next found arg ≡ false) (v : ℕ) (is : v ≡ arg_value found arg) (below : v < n) (some : 0 < product ns)
      (part : Spread ns args found (start + v * product ns) old new) where
    fixed-at : (a q : ℕ) → a < n → q < product ns → (b : Bool) → (arg_value found arg == a) ≡ b → Holds (n ∷ ns) (arg ∷ args) found start old new (a * product ns + q)
    fixed-at a q h k true e =
        let same : v ≡ a = is ∙ eqb-true (arg_value found arg) a e in
        let there : start + v * product ns + q ≡ start + (a * product ns + q) =
        add_assoc start (v * product ns) q ∙ ap (λ x. start + (x * product ns + q)) same in
        let hit : matched_values (arg ∷ args) (args_of (n ∷ ns) (a * product ns + q)) found ≡ matched_values args (args_of ns q) found =
        ap (λ at. matched_values (arg ∷ args) at found) (args-at n ns a q h k) ∙ matched-fixed arg args a (args_of ns q) found fixed
        ∙ ap (λ (t : Bool). if t then matched_values args (args_of ns q) found else None) e in
        subst (λ o. slice_index new (start + (a * product ns + q)) ≡ Caused o (slice_index old (start + (a * product ns + q)))) (sym hit)
        (subst (λ f. slice_index new f ≡ Caused (matched_values args (args_of ns q) found) (slice_index old f)) there (part.inside q k))
    fixed-at a q h k false e =
        let miss : matched_values (arg ∷ args) (args_of (n ∷ ns) (a * product ns + q)) found ≡ None =
        ap (λ at. matched_values (arg ∷ args) at found) (args-at n ns a q h k) ∙ matched-fixed arg args a (args_of ns q) found fixed
        ∙ ap (λ (t : Bool). if t then matched_values args (args_of ns q) found else None) e in
        subst (λ o. slice_index new (start + (a * product ns + q)) ≡ Caused o (slice_index old (start + (a * product ns + q)))) (sym miss)
        (part.outside (start + (a * product ns + q)) (beside (v < a) (a < v) (away (λ same. eqb-false (arg_value found arg) a e (sym is ∙ same)))))
      where
        away : (v ≡ a → ⊥) → (v < a) ⊎ (a < v)
        away differ = elim (cases_lt v a) [
          | inl h ↦ inl h
          | inr h ↦ elim (cases_lt a v) [ inl k ↦ inr k | inr k ↦ absurd (differ (omega arith)) ]
        ]

        beside : (A B : Type 0) → (v < a) ⊎ (a < v) → (start + (a * product ns + q) < start + v * product ns) ⊎ (start + v * product ns + product ns ≤ start + (a * product ns + q))
        beside A B (inl l) = let r : v * product ns + product ns ≤ a * product ns = part-behind v a (product ns) l some in inr (omega arith)
        beside A B (inr g) = let r : a * product ns + q < v * product ns = digits_lt g k in inl (omega arith)

    pub at_fixed : Spread (n ∷ ns) (arg ∷ args) found start old new
    at_fixed = record {
      inside = λ place h.
          let p = part_of n (product ns) place h some in
          subst (Holds (n ∷ ns) (arg ∷ args) found start old new) p.is (fixed-at p.part p.place p.part_below p.place_below (arg_value found arg == p.part) refl);
      outside = λ f h. part.outside f (wider f h);
    }
      where
        wider : (f : ℕ) → (f < start) ⊎ (start + n * product ns ≤ f) → (f < start + v * product ns) ⊎ (start + v * product ns + product ns ≤ f)
        wider f (inl h) = inl (omega arith)
        wider f (inr h) = let r : v * product ns + product ns ≤ n * product ns = part-behind v n (product ns) below some in inr (omega arith)

  abbrev Ranged : List ℕ → List Arg → List ℕ → ℕ → Values → ℕ → Values → Type 0
  Ranged = IsRanged (effect_of agent values cause)

  module _ (ns : List ℕ) (args : List Arg) (found : List ℕ) (start : ℕ) (old : Values) where
    pub ranged-none : Ranged ns args found start old 0 old
    ranged-none = record { inside = λ a q h k. absurd (omega arith); outside = λ f h. refl }

    module _ (some : 0 < product ns) (k : ℕ) (now new : Values) (before : Ranged ns args found start old k now)
        (part : Spread ns args (found ++ k ∷ []) (start + k * product ns) now new) where
      more-at : (a q : ℕ) → (a < k) ⊎ (a ≡ k) → q < product ns
          → slice_index new (start + (a * product ns + q)) ≡ Caused (matched_values args (args_of ns q) (found ++ a ∷ [])) (slice_index old (start + (a * product ns + q)))
      more-at a q (inl h) l =
          let r : a * product ns + q < k * product ns = digits_lt h l in
          part.outside (start + (a * product ns + q)) (inl (omega arith)) ∙ before.inside a q h l
      more-at a q (inr e) l =
          subst (λ b. slice_index new (start + (b * product ns + q)) ≡ Caused (matched_values args (args_of ns q) (found ++ b ∷ [])) (slice_index old (start + (b * product ns + q)))) (sym e)
          (subst (λ f. slice_index new f ≡ Caused (matched_values args (args_of ns q) (found ++ k ∷ [])) (slice_index old f)) (add_assoc start (k * product ns) q)
          (part.inside q l ∙ ap (Caused (matched_values args (args_of ns q) (found ++ k ∷ []))) (before.outside (start + k * product ns + q) (inr (omega arith)))))

      pub ranged-more : Ranged ns args found start old (k + 1) new
      ranged-more = record {
        inside = λ a q h l. more-at a q (or-last a h) l;
        outside = λ f h. part.outside f (narrow f h) ∙ before.outside f (keep f h);
      }
        where
          or-last : (a : ℕ) → a < k + 1 → (a < k) ⊎ (a ≡ k)
          or-last a h = elim (cases_lt a k) [ inl l ↦ inl l | inr l ↦ inr (omega arith) ]

          next : (k + 1) * product ns ≡ k * product ns + product ns
          next = let e : k + 1 ≡ suc k = omega arith in ap (λ m. m * product ns) e ∙ suc-mul k (product ns)

          narrow : (f : ℕ) → (f < start) ⊎ (start + (k + 1) * product ns ≤ f) → (f < start + k * product ns) ⊎ (start + k * product ns + product ns ≤ f)
          narrow f (inl h) = inl (omega arith)
          narrow f (inr h) = inr (omega (arith, next))

          keep : (f : ℕ) → (f < start) ⊎ (start + (k + 1) * product ns ≤ f) → (f < start) ⊎ (start + k * product ns ≤ f)
          keep f (inl h) = inl h
          keep f (inr h) = inr (omega (arith, next))

    pub ranged-all : (n : ℕ) (arg : Arg) (new : Values) → is_next found arg ≡ true → 0 < product ns → Ranged ns args found start old n new → Spread (n ∷ ns) (arg ∷ args) found start old new
    ranged-all n arg new free some r = record {
      inside = λ place h.
          let p = part_of n (product ns) place h some in
          subst (Holds (n ∷ ns) (arg ∷ args) found start old new) p.is
          (subst (λ o. slice_index new (start + (p.part * product ns + p.place)) ≡ Caused o (slice_index old (start + (p.part * product ns + p.place))))
          (sym (ap (λ at. matched_values (arg ∷ args) at found) (args-at n ns p.part p.place p.part_below p.place_below) ∙ matched-free arg args p.part (args_of ns p.place) found free))
          (r.inside p.part p.place p.part_below p.place_below));
      outside = λ f h. r.outside f h;
    }
