-- Of the blocks of a draft that says programs which fit, nothing is refused.
use Rattle.std.proofs.Common.{◌≡◌, ℕ, ℤ, pos, Bool, true, false, ◌&&◌, ◌||◌, ◌==◌, List, [], ◌∷◌, ◌++◌, map, refl, sym, ap, subst, ◌∙◌}
use Rattle.std.specs.Prelude.{not, slice_get}
use Rattle.std.specs.List.{flat_map, list_any, list_all}
use Rattle.std.specs.Option.{option_map_or}
use Rattle.std.specs.Ordering.{int_eq}
use Rattle.std.specs.Cmp.Lexicographic.{pointwise}
use Rattle.std.specs.Prelude.{nat_eq, nat_le, length}
use Rattle.std.proofs.lemmas.Bool.{false≢true, eqb-true, or_from}
use Rattle.std.proofs.lemmas.Bool.Decides.{Decides-int_eq}
use Rattle.golog_tree.specs.declared.agent.Agent.{Agent}
use Rattle.golog_tree.specs.declared.agent.ProcItem.{ProcItem}
use Rattle.golog_tree.specs.declared.draft.DraftProc.{DraftProc}
use Rattle.golog_tree.specs.declared.draft_cond.DraftArg.{DraftArg}
use Rattle.golog_tree.specs.declared.draft_cond.DraftCond.{DraftCond}
use Rattle.golog_tree.specs.declared.draft_prog.DraftProg.{DraftProg}
use Rattle.golog_tree.specs.declared.draft_prog.DraftProg.TheOpen as draft
use Rattle.golog_tree.specs.declared.draft_prog.DraftProg.TheOpen.{DraftProg-F}
use Rattle.golog_tree.specs.declared.draft_prog.DraftProg.TheViews.{roll-DraftProg}
use Rattle.golog_tree.specs.declared.draft_prog.DraftProg.TheFolds.{fold-roll-DraftProg, ind-DraftProg, map-DraftProg}
use Rattle.golog_tree.specs.declared.prog.Prog.{Prog}
use Rattle.golog_tree.specs.declared.prog.Prog.TheOpen.{Pick, Star, If, While, Cstar, Call, Search}
use Rattle.golog_tree.specs.declared.prog.Prog.TheViews.{out-Prog}
use Rattle.golog_rows.specs.Least.{CodeAt}
use Rattle.golog_semantics.specs.BuiltIn.{same_text}
use Rattle.golog_semantics.specs.BlockFree.{block_at, has_block_by, proc_blocks}
use Rattle.golog_semantics.specs.Fits.{binder_fits, bound_from, args_fit, cond_fits}
use Rattle.golog_semantics.specs.ProgFits.{Position, outermost, within_binder, within_block, is_between, depth_limit, fuel_limit, block_fits, prog_fits}
use Rattle.golog_semantics.specs.WellFormed.{are_sorts, proc_fits}
use Rattle.golog_semantics.specs.Written.{is_written_prog}
use Rattle.golog_semantics.proofs.Tests.{and_both, and_cases}
use Rattle.golog_tree.specs.declared.join.Join.{Join}
use Rattle.golog_tree.specs.declared.join.Join.TheVariants.{Seq as InSeq, Choice as InChoice, Conc as InConc, Prio as InPrio}
use Rattle.golog_check.specs.DeclaredItems.{Declared, param_sorts}
use Rattle.golog_check.specs.Sorts as sorts
use Rattle.golog_check.specs.Scope.{Scope, variable_no, within}
use Rattle.golog_check.specs.Procs.{params_of}
use Rattle.golog_shapes.specs.Unguarded.{said, refused_where}
use Rattle.golog_shapes.specs.DraftBlocks.{Blocks, blocks_step, blocks_of, block_refusals, refused_step, numbers_fit, of_each}
use Rattle.golog_shapes.specs.Fronts.{draft_has_step, draft_has}
use Rattle.golog_shapes.proofs.BlockShapes.{told-has}
use Rattle.golog_shapes.proofs.Fores.{said-block}
use Rattle.golog_tree.specs.Tidy.{Layer}
use Rattle.golog_refusals.specs.Says.{ProgSays, args_say, cond_says, parts_say, prog_says_layer, prog_says_step, prog_says}
use Rattle.golog_refusals.specs.SaysAgent.{AreSaid, proc_says}
use Rattle.golog_refusals.proofs.ProgLevels.{two-level, level_fits, fits-level, fits-two}

pub none-both : {A : Type 0} (xs ys : List A) → xs ≡ [] → ys ≡ [] → (xs ++ ys) ≡ []
none-both xs ys e k = ap (λ zs. zs ++ ys) e ∙ k

not-both : (b : Bool) → not b ≡ true → b ≡ true → ⊥
not-both true h e = false≢true h
not-both false h e = false≢true e

second-not : (a b : Bool) → not (a && b) ≡ true → a ≡ true → b ≡ false
second-not true true h e = absurd (false≢true h)
second-not true false h e = refl
second-not false b h e = absurd (false≢true e)

where-not : (b : Bool) (refusal : CodeAt) → b ≡ false → refused_where b refusal ≡ []
where-not b refusal e = ap (λ c. refused_where c refusal) e

-- nothing is refused, and within a block none has a block
record IsFree (refused : List CodeAt) (has : Bool) (at : Position) : Type 0 where
  none : refused ≡ []
  inside : at.in_block ≡ true → has ≡ false

free-both : (one other : List CodeAt) (has also : Bool) (at : Position) → IsFree one has at → IsFree other also at
    → IsFree (one ++ other) (has || also) at
free-both one other has also at h k =
    record { none = none-both one other h.none k.none; inside = λ e. or_from has also (h.inside e) (k.inside e) }

free-leaf : (at : Position) → IsFree [] false at
free-leaf at = record { none = refl; inside = λ e. refl }

module _ (agent : Agent) (names : Declared) where
  abbrev bs : List Bool
  bs = proc_blocks agent

  abbrev Free : DraftProg → Type 0
  Free d = (scope : Scope) (p : Prog) (at : Position) → prog_says names d scope p ≡ true → prog_fits agent p at ≡ true
      → IsFree (block_refusals (proc_blocks agent) d) (draft_has (proc_blocks agent) d) at

  abbrev One : Type 0
  One = (d : DraftProg) × Free d

  abbrev drafts_of : DraftProg-F One → DraftProg-F DraftProg
  drafts_of y = map-DraftProg One DraftProg (λ d. d.0) y

  abbrev all_of : List One → List DraftProg
  all_of ds = map (λ d. d.0) ds

  parts-free : (join : Join) (ds : List One) (scope : Scope) (p : Prog) (at : Position)
      → parts_say join scope (map (prog_says names) (all_of ds)) p ≡ true
      → prog_fits agent p at ≡ true
      → IsFree (of_each (map (blocks_of bs) (all_of ds))) (list_any (λ has. has) (map (draft_has bs) (all_of ds))) at
  parts-free join [] scope p at h f = free-leaf at
  parts-free join (d ∷ []) scope p at h f =
      free-both (block_refusals bs d.0) [] (draft_has bs d.0) false at (d.1 scope p at h f) (free-leaf at)
  parts-free join (d ∷ e ∷ ds) scope p at h f =
      let rest = e ∷ ds in
      let says : Prog × Prog → Bool =
      λ two. prog_says names d.0 scope two.0 && parts_say join scope (map (prog_says names) (all_of (e ∷ ds))) two.1 in
      let two = two-level join (out-Prog p) says h in
      let t =
      and_cases (prog_says names d.0 scope two.first)
      (parts_say join scope (map (prog_says names) (all_of (e ∷ ds))) two.second) two.hold in
      let u =
      fits-two agent join two.first two.second at
      (subst (λ l. level_fits agent l at ≡ true) two.is (fits-level agent p at f)) in
      free-both (block_refusals bs d.0) (of_each (map (blocks_of bs) (all_of rest))) (draft_has bs d.0)
      (list_any (λ has. has) (map (draft_has bs) (all_of rest))) at
      (d.1 scope two.first at t.0 u.0) (parts-free join (e ∷ ds) scope two.second at t.1 u.1)

  pick-free : (word : List ℕ) (sort : ℕ) (d : One) (place : ℕ) (scope : Scope) (at : Position) (l : Layer)
      → prog_says_layer names (draft.Pick word sort (prog_says names d.0) place) scope l ≡ true
      → level_fits agent l at ≡ true → IsFree (block_refusals bs d.0) (draft_has bs d.0) at
  pick-free word sort d place scope at (Pick var own p) h f =
      let s =
      and_cases (var == variable_no scope && own == sort) (prog_says names d.0 (within word sort scope) p) h in
      let u = and_cases (binder_fits agent var own) (prog_fits agent p (within_binder at var own)) f in
      let x = d.1 (within word sort scope) p (within_binder at var own) s.1 u.1 in
      record { none = x.none; inside = x.inside }
  pick-free word sort d place scope at _ h f = absurd (false≢true h)

  star-free : (d : One) (place : ℕ) (scope : Scope) (at : Position) (l : Layer)
      → prog_says_layer names (draft.Star (prog_says names d.0) place) scope l ≡ true
      → level_fits agent l at ≡ true → IsFree (block_refusals bs d.0) (draft_has bs d.0) at
  star-free d place scope at (Star p) h f = d.1 scope p at h f
  star-free d place scope at _ h f = absurd (false≢true h)

  cstar-free : (d : One) (place : ℕ) (scope : Scope) (at : Position) (l : Layer)
      → prog_says_layer names (draft.Cstar (prog_says names d.0) place) scope l ≡ true
      → level_fits agent l at ≡ true → IsFree (block_refusals bs d.0) (draft_has bs d.0) at
  cstar-free d place scope at (Cstar p) h f = d.1 scope p at h f
  cstar-free d place scope at _ h f = absurd (false≢true h)

  if-free : (t : DraftCond) (d e : One) (place : ℕ) (scope : Scope) (at : Position) (l : Layer)
      → prog_says_layer names (draft.If t (prog_says names d.0) (prog_says names e.0) place) scope l ≡ true
      → level_fits agent l at ≡ true
      → IsFree (block_refusals bs d.0 ++ block_refusals bs e.0) (draft_has bs d.0 || draft_has bs e.0) at
  if-free t d e place scope at (If c p q) h f =
      let s = and_cases (cond_says names t scope c && prog_says names d.0 scope p) (prog_says names e.0 scope q) h in
      let r = and_cases (cond_says names t scope c) (prog_says names d.0 scope p) s.0 in
      let g = and_cases (cond_fits agent c at.scope && prog_fits agent p at) (prog_fits agent q at) f in
      let k = and_cases (cond_fits agent c at.scope) (prog_fits agent p at) g.0 in
      free-both (block_refusals bs d.0) (block_refusals bs e.0) (draft_has bs d.0) (draft_has bs e.0) at
      (d.1 scope p at r.1 k.1) (e.1 scope q at s.1 g.1)
  if-free t d e place scope at _ h f = absurd (false≢true h)

  while-free : (t : DraftCond) (d : One) (place : ℕ) (scope : Scope) (at : Position) (l : Layer)
      → prog_says_layer names (draft.While t (prog_says names d.0) place) scope l ≡ true
      → level_fits agent l at ≡ true
      → IsFree (block_refusals bs d.0) (draft_has bs d.0) at
  while-free t d place scope at (While c p) h f =
      let s = and_cases (cond_says names t scope c) (prog_says names d.0 scope p) h in
      let g = and_cases (cond_fits agent c at.scope) (prog_fits agent p at) f in
      d.1 scope p at s.1 g.1
  while-free t d place scope at _ h f = absurd (false≢true h)

  call-free : (callee : ℕ) (drafts : List DraftArg) (place : ℕ) (scope : Scope) (at : Position) (l : Layer)
      → prog_says_layer names (draft.Call callee drafts place) scope l ≡ true → level_fits agent l at ≡ true
      → IsFree [] (said bs callee) at
  call-free callee drafts place scope at (Call item args) h f =
      let s = and_cases (callee == item) (args_say names scope (sorts.param_sorts names callee) drafts args) h in
      let g =
      and_cases (option_map_or (λ (proc : ProcItem). args_fit agent at.scope proc.params args)
      (slice_get agent.procs item) false) (not (at.in_block && block_at bs item)) f in
      record {
        none = refl;
        inside = λ e.
            ap (λ i. said bs i) (eqb-true callee item s.0) ∙ sym (said-block (slice_get bs item))
            ∙ second-not at.in_block (block_at bs item) g.1 e;
      }
  call-free callee drafts place scope at _ h f = absurd (false≢true h)

  search-free : (depth fuel : ℤ) (d : One) (place : ℕ) (scope : Scope) (at : Position) (l : Layer)
      → prog_says_layer names (draft.Search depth fuel (prog_says names d.0) place) scope l ≡ true
      → level_fits agent l at ≡ true
      → IsFree
      ((refused_where (has_block_by bs (blocks_of bs d.0).shape) (33, place) ++ refused_where
      (not (numbers_fit depth fuel)) (37, place)) ++ block_refusals bs d.0)
      true at
  search-free depth fuel d place scope at (Search m n p) h f =
      let s = and_cases (int_eq depth (pos m) && int_eq fuel (pos n)) (prog_says names d.0 scope p) h in
      let t = and_cases (int_eq depth (pos m)) (int_eq fuel (pos n)) s.0 in
      let g = and_cases (block_fits at m n) (prog_fits agent p (within_block at)) f in
      let u = and_cases (not at.in_block && is_between 1 depth_limit m) (is_between 1 fuel_limit n) g.0 in
      let v = and_cases (not at.in_block) (is_between 1 depth_limit m) u.0 in
      let x = d.1 scope p (within_block at) s.1 g.1 in
      let same_depth : depth ≡ pos m = (Decides-int_eq depth (pos m)).0 t.0 in
      let same_fuel : fuel ≡ pos n = (Decides-int_eq fuel (pos n)).0 t.1 in
      let numbers : numbers_fit depth fuel ≡ true =
      ap (λ i. numbers_fit i fuel) same_depth ∙ ap (λ i. numbers_fit (pos m) i) same_fuel
      ∙ and_both (is_between 1 depth_limit m) (is_between 1 fuel_limit n) v.1 u.1 in
      let rows =
      none-both (refused_where (has_block_by bs (blocks_of bs d.0).shape) (33, place))
      (refused_where (not (numbers_fit depth fuel)) (37, place))
      (where-not (has_block_by bs (blocks_of bs d.0).shape) (33, place) (told-has bs d.0 ∙ x.inside refl))
      (where-not (not (numbers_fit depth fuel)) (37, place) (ap not numbers)) in
      record {
        none =
            none-both
            (refused_where (has_block_by bs (blocks_of bs d.0).shape) (33, place) ++ refused_where
            (not (numbers_fit depth fuel)) (37, place))
            (block_refusals bs d.0) rows x.none;
        inside = λ e. absurd (not-both at.in_block v.0 e);
      }
  search-free depth fuel d place scope at _ h f = absurd (false≢true h)

  layer : (y : DraftProg-F One) (scope : Scope) (p : Prog) (at : Position)
      → prog_says_step names (map-DraftProg DraftProg ProgSays (prog_says names) (drafts_of y)) scope p ≡ true
      → prog_fits agent p at ≡ true
      → IsFree (refused_step bs (map-DraftProg DraftProg Blocks (blocks_of bs) (drafts_of y)))
      (draft_has_step bs (map-DraftProg DraftProg Bool (draft_has bs) (drafts_of y))) at
  layer (draft.Nil place) scope p at h f = free-leaf at
  layer (draft.Act action args place) scope p at h f = free-leaf at
  layer (draft.Test c place) scope p at h f = free-leaf at
  layer (draft.Seq ds place) scope p at h f = parts-free InSeq ds scope p at h f
  layer (draft.Choice ds place) scope p at h f = parts-free InChoice ds scope p at h f
  layer (draft.Pick word sort d place) scope p at h f =
      pick-free word sort d place scope at (out-Prog p) h (fits-level agent p at f)
  layer (draft.Star d place) scope p at h f = star-free d place scope at (out-Prog p) h (fits-level agent p at f)
  layer (draft.If c d e place) scope p at h f = if-free c d e place scope at (out-Prog p) h (fits-level agent p at f)
  layer (draft.While c d place) scope p at h f =
      while-free c d place scope at (out-Prog p) h (fits-level agent p at f)
  layer (draft.Conc ds place) scope p at h f = parts-free InConc ds scope p at h f
  layer (draft.Prio ds place) scope p at h f = parts-free InPrio ds scope p at h f
  layer (draft.Cstar d place) scope p at h f = cstar-free d place scope at (out-Prog p) h (fits-level agent p at f)
  layer (draft.Call item args place) scope p at h f =
      call-free item args place scope at (out-Prog p) h (fits-level agent p at f)
  layer (draft.Search depth fuel d place) scope p at h f =
      search-free depth fuel d place scope at (out-Prog p) h (fits-level agent p at f)

  free-layer : (y : DraftProg-F One) → Free (roll-DraftProg (drafts_of y))
  free-layer y scope p at h f =
      let l = drafts_of y in
      let x =
      layer y scope p at (sym (ap (λ (g : ProgSays). g scope p)
      (fold-roll-DraftProg ProgSays (prog_says_step names) l)) ∙ h) f in
      record {
        none = ap (λ (b : Blocks). b.refused) (fold-roll-DraftProg Blocks (blocks_step bs) l) ∙ x.none;
        inside = λ e. fold-roll-DraftProg Bool (draft_has_step bs) l ∙ x.inside e;
      }

  all-free : (d : DraftProg) → Free d
  all-free = ind-DraftProg Free (λ x y is. subst (λ l. Free (roll-DraftProg l)) is (free-layer y))

  -- nothing is refused of the blocks of a draft that says a program which fits
  pub prog-free : (d : DraftProg) (scope : Scope) (p : Prog) (at : Position) → prog_says names d scope p ≡ true
      → prog_fits agent p at ≡ true
      → block_refusals (proc_blocks agent) d ≡ []
  prog-free d scope p at h f = (all-free d scope p at h f).none

  proc-free : (d : DraftProc) (item : ProcItem) → proc_says names d item ≡ true → proc_fits agent item ≡ true
      → block_refusals (proc_blocks agent) d.body ≡ []
  proc-free d item h f =
      let at : Position = record outermost { scope = bound_from 0 item.params } in
      let s =
      and_cases (same_text item.name d.name && pointwise nat_eq item.params (param_sorts d))
      (prog_says names d.body (params_of d) item.body) h in
      let t =
      and_cases ((are_sorts agent item.params && nat_le (length item.params) 3) && prog_fits agent item.body at)
      (is_written_prog agent item.body (length item.params)) f in
      let u =
      and_cases (are_sorts agent item.params && nat_le (length item.params) 3) (prog_fits agent item.body at) t.0 in
      prog-free d.body (params_of d) item.body at s.1 u.1

  -- nor of the blocks of procedures
  pub procs-free : (ds : List DraftProc) (items : List ProcItem) → AreSaid (proc_says names) ds items
      → list_all (proc_fits agent) items ≡ true
      → flat_map (λ (d : DraftProc). block_refusals (proc_blocks agent) d.body) ds ≡ []
  procs-free [] [] h f = refl
  procs-free [] (item ∷ items) h f = absurd h
  procs-free (d ∷ ds) [] h f = absurd h
  procs-free (d ∷ ds) (item ∷ items) h f =
      let t = and_cases (proc_fits agent item) (list_all (proc_fits agent) items) f in
      none-both (block_refusals bs d.body) (flat_map (λ (d : DraftProc). block_refusals (proc_blocks agent) d.body)
      ds)
      (proc-free d item h.0 t.0) (procs-free ds items h.1 t.1)
