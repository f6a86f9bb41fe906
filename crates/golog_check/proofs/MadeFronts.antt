-- An agent of whose procedures nothing is refused is guarded, and its front nests are in their limit.
use Rattle.std.proofs.Common.{◌≡◌, ℕ, zero, suc, ◌+◌, ◌<◌, ◌≤◌, Bool, true, false, not, ◌&&◌, List, [], ◌∷◌, length, get_or, Option, Some, None, refl, sym, ap, subst, ◌∙◌, arith}
use Rattle.std.specs.Prelude.{All, nat_lt, slice_get, slice_index, option_map}
use Rattle.std.specs.List.{list_any, flat_map, enumerate_from}
use Rattle.std.specs.Option.{option_map_or}
use Rattle.std.proofs.lemmas.Bool.Decides.{nat_tests}
use Rattle.std.proofs.lemmas.List.{length-map}
use Rattle.std.proofs.lemmas.Option.{slice_get-map}
use Rattle.golog_tree.specs.declared.agent.Agent.{Agent}
use Rattle.golog_tree.specs.declared.agent.ProcItem.{ProcItem}
use Rattle.golog_tree.specs.declared.draft.DraftProc.{DraftProc}
use Rattle.golog_semantics.specs.Guarded.{IsGuarded}
use Rattle.golog_semantics.specs.FrontCalls.{NoneReachesItself, front_calls, front_nests, nests_to}
use Rattle.golog_semantics.proofs.FrontCallsLaws.{guarded_is_unreached}
use Rattle.golog_rows.specs.Least.{CodeAt}
use Rattle.golog_shapes.specs.Shapes.{shape_of, shapes}
use Rattle.golog_shapes.specs.Unguarded.{said, leads_to, reaching, is_unguarded, has_no_nest, is_deep, refused_where, front_refusals, all_front_refusals}
use Rattle.golog_check.proofs.BlockLaws.{none-where}
use Rattle.golog_check.proofs.PartLaws.{none-before, none-behind}
use Rattle.golog_check.proofs.ReachLaws.{reach-said, said-at}
use Rattle.golog_check.proofs.Transfer.{AllAlike, same-nests, same-reach}

-- what is refused of one that is numbered
none-at : {A : Type 0} (f : ℕ × A → List CodeAt) (first : ℕ) (xs : List A) → flat_map f (enumerate_from first xs) ≡ []
    → (i : ℕ) (x : A) → slice_get xs i ≡ Some x → f (first + i, x) ≡ []
none-at f first [] h i x e = absurd (cc)
none-at f first (y ∷ xs) h zero x e =
    let here : first + 0 ≡ first = omega arith in
    let is : y ≡ x = cc in
    ap (λ n. f (n, x)) here ∙ ap (λ z. f (first, z)) (sym is) ∙ none-before (f (first, y)) (flat_map f (enumerate_from (first + 1) xs)) h
none-at f first (y ∷ xs) h (suc i) x e =
    let there : first + suc i ≡ (first + 1) + i = omega arith in
    ap (λ n. f (n, x)) there
    ∙ none-at f (first + 1) xs (none-behind (f (first, y)) (flat_map f (enumerate_from (first + 1) xs)) h) i x e

none-any : {A : Type 0} (f : ℕ × A → Bool) → ((at : ℕ × A) → f at ≡ false) → (ats : List (ℕ × A)) → list_any f ats ≡ false
none-any f h [] = refl
none-any f h (at ∷ ats) = let e = h at in let k = none-any f h ats in cc

none-first : (b c : Bool) → b ≡ false → (b && c) ≡ false
none-first b c h = cc

shallow : (b : Bool) (n : ℕ) → b ≡ false → (not b && nat_lt 1024 n) ≡ false → n ≤ 1024
shallow true n h k = absurd (cc)
shallow false n h k = grind (arith, nat_tests)

index-same : (xs : List ℕ) (k d : ℕ) → k < length xs → get_or xs k d ≡ slice_index xs k
index-same [] k d l = absurd (omega (arith, l))
index-same (x ∷ xs) zero d l = refl
index-same (x ∷ xs) (suc k) d l = index-same xs k d (omega (arith, l))

none-there : {A : Type 0} (xs : List A) (i : ℕ) → slice_get xs i ≡ None → i < length xs → ⊥
none-there [] i e l = omega (arith, l)
none-there (x ∷ xs) zero e l = cc
none-there (x ∷ xs) (suc i) e l = none-there xs i e (omega (arith, l))

module _ (procs : List DraftProc) (none : all_front_refusals procs ≡ []) where
  abbrev of_shapes : Agent
  of_shapes = shapes procs

  rows : (i : ℕ) (item : DraftProc) → slice_get procs i ≡ Some item → front_refusals (shapes procs) (i, item) ≡ []
  rows i item e =
      let same : 0 + i ≡ i = omega arith in
      subst (λ n. front_refusals of_shapes (n, item) ≡ []) same (none-at (front_refusals of_shapes) 0 procs none i item e)

  guarded-by : (o : Option DraftProc) (p : ℕ) → slice_get procs p ≡ o → is_unguarded (shapes procs) p ≡ false
  guarded-by None p e =
      let there = slice_get-map shape_of procs p ∙ ap (λ o. option_map shape_of o) e in
      said-at of_shapes p p
      ∙ ap (λ o. option_map_or (λ (item : ProcItem). leads_to p (reaching of_shapes p) (front_calls of_shapes item.body)) o false) there
  guarded-by (Some item) p e =
      none-where (is_unguarded of_shapes p) (32, item.at)
      (none-before (refused_where (is_unguarded of_shapes p) (32, item.at)) (refused_where (is_deep of_shapes p) (38, item.at)) (rows p item e))

  none-unguarded : (p : ℕ) → is_unguarded (shapes procs) p ≡ false
  none-unguarded p = guarded-by (slice_get procs p) p refl

  all-nested : (p : ℕ) → has_no_nest (shapes procs) p ≡ false
  all-nested p =
      none-any (λ (other : ℕ × ProcItem). is_unguarded of_shapes other.0 && said (reaching of_shapes other.0) p)
      (λ other. none-first (is_unguarded of_shapes other.0) (said (reaching of_shapes other.0) p) (none-unguarded other.0))
      (enumerate_from 0 of_shapes.procs)

  in-limit : (o : Option DraftProc) (p : ℕ) → slice_get procs p ≡ o → p < length procs → slice_index (front_nests (shapes procs)) p ≤ 1024
  in-limit None p e l = absurd (none-there procs p e l)
  in-limit (Some item) p e l =
      shallow (has_no_nest of_shapes p) (slice_index (front_nests of_shapes) p) (all-nested p)
      (none-where (is_deep of_shapes p) (38, item.at)
      (none-behind (refused_where (is_unguarded of_shapes p) (32, item.at)) (refused_where (is_deep of_shapes p) (38, item.at)) (rows p item e)))

  nests-long : (k : ℕ) → length (nests_to k (shapes procs)) ≡ length procs
  nests-long zero = length-map of_shapes.procs (λ (item : ProcItem). 0) ∙ length-map procs shape_of
  nests-long (suc k) = length-map of_shapes.procs _ ∙ length-map procs shape_of

  fronts-long : length (front_nests (shapes procs)) ≡ length procs
  unfolding front_nests
  fronts-long = nests-long (length of_shapes.procs)

  module _ (agent : Agent) (alike : AllAlike agent.procs (shapes procs).procs) where
    none-reaches : NoneReachesItself agent
    none-reaches p r =
        let said_so = reach-said of_shapes p p (same-reach agent of_shapes alike p p r) in
        let none_so = none-unguarded p in
        cc

    pub guarded : IsGuarded agent
    guarded = (guarded_is_unreached agent).is_guarded none-reaches

    pub nests : All (λ n. n ≤ 1024) (front_nests agent)
    nests k d l =
        let same = same-nests agent of_shapes alike in
        let there : k < length (front_nests of_shapes) = subst (λ (ns : List ℕ). k < length ns) same l in
        let few : k < length procs = subst (λ n. k < n) fronts-long there in
        subst (λ (ns : List ℕ). get_or ns k d ≤ 1024) (sym same)
        (subst (λ n. n ≤ 1024) (sym (index-same (front_nests of_shapes) k d there)) (in-limit (slice_get procs k) k refl few))
