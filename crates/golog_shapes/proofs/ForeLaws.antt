-- Parts in a row, one part further.
use Rattle.std.proofs.Common.{◌≡◌, ℕ, ◌+◌, ◌<◌, ◌≤◌, Bool, true, false, ◌&&◌, if◌then◌else◌, List, [], ◌++◌, length, get_or, map, drop, refl, sym, ap, subst, ◌∙◌, append_assoc}
use Rattle.std.proofs.lemmas.List.{append-nil, at_drop_all}
use Rattle.golog_tree.specs.declared.draft_prog.DraftProg.{DraftProg}
use Rattle.golog_shapes.specs.Fronts.{Fore, IsFront, in_row, draft_fore}
use Rattle.golog_rows.proofs.Each.{drop-item}

abbrev before_rest : Fore → Fore → Fore
before_rest p rest = record { skip = p.skip && rest.skip; calls = p.calls ++ (if p.skip then rest.calls else []) }

row-more : (p rest : Fore) (one skip : Bool) (calls mid after : List ℕ) → IsFront p one calls mid → one ≡ true → IsFront rest skip mid after
    → IsFront (before_rest p rest) skip calls after
row-more p rest one skip calls mid after f e more =
    let skips : p.skip ≡ true = sym f.skipped ∙ e in
    record {
      skipped = more.skipped ∙ ap (λ b. b && rest.skip) (sym skips);
      called = more.called ∙ ap (λ m. m ++ rest.calls) f.called ∙ append_assoc calls p.calls rest.calls
          ∙ ap (λ b. calls ++ (p.calls ++ (if b then rest.calls else []))) (sym skips);
    }

row-stops : (p rest : Fore) (one : Bool) (calls after : List ℕ) → IsFront p one calls after → one ≡ false → IsFront (before_rest p rest) false calls after
row-stops p rest one calls after f e =
    let stops : p.skip ≡ false = sym f.skipped ∙ e in
    record {
      skipped = ap (λ b. b && rest.skip) (sym stops);
      called = f.called ∙ ap (λ cs. calls ++ cs) (sym (append-nil p.calls))
          ∙ ap (λ b. calls ++ (p.calls ++ (if b then rest.calls else []))) (sym stops);
    }

module _ (skips : List Bool) (parts : List DraftProg) (i : ℕ) where
  abbrev row : ℕ → Fore
  row k = in_row (map (draft_fore skips) (drop k parts))

  -- what is left of the row, where one more part was looked at
  pub row-goes : (part : DraftProg) → i < length parts → part ≡ get_or parts i part → (one : Bool) (calls mid : List ℕ) → IsFront (draft_fore skips part) one calls mid
      → one ≡ true → (skip : Bool) (after : List ℕ) → IsFront (row (i + 1)) skip mid after → IsFront (row i) skip calls after
  row-goes part lt is one calls mid f e skip after more =
      subst (λ (ps : List DraftProg). IsFront (in_row (map (draft_fore skips) ps)) skip calls after) (sym (drop-item parts i part lt is))
      (row-more (draft_fore skips part) (row (i + 1)) one skip calls mid after f e more)

  -- and where that part is not skipped
  pub row-ends : (part : DraftProg) → i < length parts → part ≡ get_or parts i part → (one : Bool) (calls after : List ℕ) → IsFront (draft_fore skips part) one calls after
      → one ≡ false → IsFront (row i) false calls after
  row-ends part lt is one calls after f e =
      subst (λ (ps : List DraftProg). IsFront (in_row (map (draft_fore skips) ps)) false calls after) (sym (drop-item parts i part lt is))
      (row-stops (draft_fore skips part) (row (i + 1)) one calls after f e)

  pub row-done : length parts ≤ i → (calls : List ℕ) → IsFront (row i) true calls calls
  row-done le calls =
      subst (λ (ps : List DraftProg). IsFront (in_row (map (draft_fore skips) ps)) true calls calls) (sym (at_drop_all (λ (ps : List DraftProg). ps) parts i le))
      (record { skipped = refl; called = sym (append-nil calls) })
