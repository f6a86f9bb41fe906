-- Of what the procedures of a draft may call without a step nothing is refused, where a guarded agent has alike ones.
use Rattle.std.proofs.Common.{◌≡◌, ℕ, zero, suc, ◌<◌, ◌≤◌, false, not, List, [], ◌∷◌, ◌++◌, length, refl, sym, ap, subst, ◌∙◌, arith}
use Rattle.std.specs.Prelude.{All, nat_lt, slice_index}
use Rattle.std.specs.List.{flat_map, enumerate_from}
use Rattle.std.proofs.lemmas.Bool.{false_from_ne_true, and_right}
use Rattle.std.proofs.lemmas.Bool.Decides.{nat_tests}
use Rattle.golog_tree.specs.declared.agent.Agent.{Agent}
use Rattle.golog_tree.specs.declared.agent.ProcItem.{ProcItem}
use Rattle.golog_tree.specs.declared.draft.DraftProc.{DraftProc}
use Rattle.golog_rows.specs.Least.{CodeAt}
use Rattle.golog_semantics.specs.Guarded.{IsGuarded}
use Rattle.golog_semantics.specs.FrontCalls.{front_nests}
use Rattle.golog_semantics.proofs.FrontCallsLaws.{guarded_is_unreached}
use Rattle.golog_shapes.specs.Shapes.{shapes}
use Rattle.golog_shapes.specs.Unguarded.{has_no_nest, is_unguarded, is_deep, refused_where, front_refusals, all_front_refusals}
use Rattle.golog_check.proofs.ReachLaws.{said-reach}
use Rattle.golog_check.proofs.Transfer.{AllAlike, same-nests, same-reach}

pub alike-back : (xs ys : List ProcItem) → AllAlike xs ys → AllAlike ys xs
alike-back [] [] a = tt
alike-back [] (y ∷ ys) a = absurd a
alike-back (x ∷ xs) [] a = absurd a
alike-back (x ∷ xs) (y ∷ ys) a = (
  record {
    nests = sym a.0.nests;
    fronts = λ fs. sym (a.0.fronts fs);
    calls = λ fs. sym (a.0.calls fs);
    blocks = λ bs. sym (a.0.blocks bs);
  },
  alike-back xs ys a.1,
)

few-at : (xs : List ℕ) (k : ℕ) → ((i : ℕ) → i < length xs → slice_index xs i ≤ 1024) → slice_index xs k ≤ 1024
few-at [] k h = omega arith
few-at (x ∷ xs) zero h = h zero (omega arith)
few-at (x ∷ xs) (suc k) h = few-at xs k (λ i l. h (suc i) (omega (arith, l)))

not-more : (n : ℕ) → n ≤ 1024 → nat_lt 1024 n ≡ false
not-more n h = grind (arith, nat_tests)

none-of : {A : Type 0} (f : ℕ × A → List CodeAt) → ((at : ℕ × A) → f at ≡ []) → (ats : List (ℕ × A))
    → flat_map f ats ≡ []
none-of f h [] = refl
none-of f h (at ∷ ats) = ap (λ zs. zs ++ flat_map f ats) (h at) ∙ none-of f h ats

module _ (procs : List DraftProc) (agent : Agent) (alike : AllAlike agent.procs (shapes procs).procs)
    (guarded : IsGuarded agent)
    (few : All (λ n. n ≤ 1024) (front_nests agent)) where
  guarded-at : (p : ℕ) → is_unguarded (shapes procs) p ≡ false
  guarded-at p =
      false_from_ne_true (is_unguarded (shapes procs) p) (λ e.
      (guarded_is_unreached agent).none_reaches guarded p
      (same-reach (shapes procs) agent (alike-back agent.procs (shapes procs).procs alike) p p
      (said-reach (shapes procs) p p e)))

  shallow-at : (p : ℕ) → is_deep (shapes procs) p ≡ false
  shallow-at p =
      let n = few-at (front_nests agent) p (λ i l. few i 0 l) in
      let m : slice_index (front_nests (shapes procs)) p ≤ 1024 =
      subst (λ (ns : List ℕ). slice_index ns p ≤ 1024) (same-nests agent (shapes procs) alike) n in
      and_right (not (has_no_nest (shapes procs) p)) (nat_lt 1024 (slice_index (front_nests (shapes procs)) p))
      (not-more (slice_index (front_nests (shapes procs)) p) m)

  front-none : (at : ℕ × DraftProc) → front_refusals (shapes procs) at ≡ []
  front-none (item, draft) =
      ap (λ b. refused_where b (32, draft.at) ++ refused_where (is_deep (shapes procs) item) (38, draft.at))
      (guarded-at item)
      ∙ ap (λ b. refused_where b (38, draft.at)) (shallow-at item)

  -- no procedure of the draft reaches itself without a step, and no front nest is too deep
  pub fronts-none : all_front_refusals procs ≡ []
  fronts-none = none-of (front_refusals (shapes procs)) front-none (enumerate_from 0 procs)
