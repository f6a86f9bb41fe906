-- How deep the program of a draft nests.
use Rattle.std.proofs.Common.{◌≡◌, ℕ, ◌+◌, List, [], ◌∷◌, ◌++◌, map, Ok, refl, sym, ap, subst, ◌∙◌, append_assoc}
use Rattle.std.specs.Prelude.{max}
use Rattle.std.proofs.lemmas.List.{append-nil, map-append}
use Rattle.golog_tree.specs.declared.draft_prog.DraftProg.{DraftProg}
use Rattle.golog_tree.specs.declared.draft_prog.DraftProg.TheOpen as draft
use Rattle.golog_tree.specs.declared.draft_prog.DraftProg.TheOpen.{DraftProg-F}
use Rattle.golog_tree.specs.declared.draft_prog.DraftProg.TheViews.{roll-DraftProg}
use Rattle.golog_tree.specs.declared.draft_prog.DraftProg.TheFolds.{fold-roll-DraftProg, ind-DraftProg, map-DraftProg}
use Rattle.golog_tree.specs.declared.prog.Prog.{Prog}
use Rattle.golog_tree.specs.declared.prog.Prog.TheVariants as prog
use Rattle.golog_tree.specs.Ground.{to_count}
use Rattle.golog_tree.specs.Nest.{nest}
use Rattle.golog_rows.specs.Reading.{Reading, gives, ◌>>=◌, each}
use Rattle.golog_semantics.proofs.Computed.{nest-Nil, nest-Act, nest-Test, nest-Seq, nest-Choice, nest-Pick, nest-Star, nest-If, nest-While, nest-Conc, nest-Prio, nest-Cstar, nest-Call, nest-Search}
use Rattle.golog_tree.specs.declared.join.Join.{Join}
use Rattle.golog_tree.specs.declared.join.Join.TheVariants.{Seq as InSeq, Choice as InChoice, Conc as InConc, Prio as InPrio}
use Rattle.golog_check.specs.DeclaredItems.{Declared}
use Rattle.golog_check.specs.Sorts.{action_sorts, param_sorts}
use Rattle.golog_check.specs.Scope.{Scope, variable_no, within}
use Rattle.golog_check.specs.Terms.{args_in}
use Rattle.golog_check.specs.Conditions.{cond_in}
use Rattle.golog_check.specs.Programs.{InScope, joined, nested, progs_in, parts_in, prog_step, prog_in}
use Rattle.golog_shapes.specs.DraftNest.{parts_nest, draft_nest_step, draft_nest}
use Rattle.golog_check.proofs.Readings.{both, ok-same}

joined-nest : (join : Join) (p q : Prog) → nest (joined join p q) ≡ 1 + max (nest p) (nest q)
joined-nest InSeq p q = nest-Seq p q
joined-nest InChoice p q = nest-Choice p q
joined-nest InConc p q = nest-Conc p q
joined-nest InPrio p q = nest-Prio p q

nested-nest : (join : Join) (ps : List Prog) → nest (nested join ps) ≡ parts_nest (map nest ps)
nested-nest join [] = nest-Nil
nested-nest join (p ∷ []) = refl
nested-nest join (p ∷ q ∷ ps) =
    joined-nest join p (nested join (q ∷ ps)) ∙ ap (λ n. 1 + max (nest p) n) (nested-nest join (q ∷ ps))

module _ (names : Declared) where
  abbrev Kept : DraftProg → Type 0
  Kept d = (scope : Scope) (p : Prog) → (prog_in names d scope).outcome ≡ Ok p → nest p ≡ draft_nest d

  abbrev Keep : Type 0
  Keep = (d : DraftProg) × Kept d

  abbrev drafts_of : DraftProg-F Keep → DraftProg-F DraftProg
  drafts_of y = map-DraftProg Keep DraftProg (λ d. d.0) y

  abbrev one_in : Scope → List Prog → InScope → Reading Prog
  one_in scope before f = f scope

  each-nest : (scope : Scope) (ds : List Keep) (done result : List Prog)
      → (each (one_in scope) done (map (prog_in names) (map (λ d. d.0) ds))).outcome ≡ Ok result
      → map nest result ≡ map nest done ++ map draft_nest (map (λ d. d.0) ds)
  each-nest scope [] done result h = ap (map nest) (sym (ok-same done result h)) ∙ sym (append-nil (map nest done))
  each-nest scope (d ∷ ds) done result h =
      let b = both (prog_in names d.0 scope) (λ x. each (one_in scope) (done ++ x ∷ []) (map (prog_in names) (map (λ d. d.0) ds))) result h in
      let rest = map draft_nest (map (λ d. d.0) ds) in
      each-nest scope ds (done ++ b.value ∷ []) result b.other
      ∙ ap (λ ns. ns ++ rest) (map-append nest done (b.value ∷ []))
      ∙ append_assoc (map nest done) (nest b.value ∷ []) rest
      ∙ ap (λ n. map nest done ++ n ∷ rest) (d.1 scope b.value b.one)

  parts-made : (join : Join) (scope : Scope) (ds : List Keep) (p : Prog)
      → (parts_in join scope (map (prog_in names) (map (λ d. d.0) ds))).outcome ≡ Ok p
      → nest p ≡ parts_nest (map draft_nest (map (λ d. d.0) ds))
  parts-made join scope ds p h =
      let b = both (progs_in scope (map (prog_in names) (map (λ d. d.0) ds))) (λ parts. gives (nested join parts)) p h in
      ap nest (sym (ok-same (nested join b.value) p b.other)) ∙ nested-nest join b.value
      ∙ ap parts_nest (each-nest scope ds [] b.value b.one)

  layer : (scope : Scope) (y : DraftProg-F Keep) (p : Prog)
      → (prog_step names (map-DraftProg DraftProg InScope (prog_in names) (drafts_of y)) scope).outcome ≡ Ok p
      → nest p ≡ draft_nest_step (map-DraftProg DraftProg ℕ draft_nest (drafts_of y))
  layer scope (draft.Nil at) p h = ap nest (sym (ok-same prog.Nil p h)) ∙ nest-Nil
  layer scope (draft.Act action args at) p h =
      let b = both (args_in names scope (action_sorts names action) args) (λ args. gives (prog.Act action args)) p h in
      ap nest (sym (ok-same (prog.Act action b.value) p b.other)) ∙ nest-Act action b.value
  layer scope (draft.Test c at) p h =
      let b = both (cond_in names c scope) (λ c. gives (prog.Test c)) p h in
      ap nest (sym (ok-same (prog.Test b.value) p b.other)) ∙ nest-Test b.value
  layer scope (draft.Seq ds at) p h = parts-made InSeq scope ds p h
  layer scope (draft.Choice ds at) p h = parts-made InChoice scope ds p h
  layer scope (draft.Pick word sort d at) p h =
      let b = both (prog_in names d.0 (within word sort scope)) (λ p. gives (prog.Pick (variable_no scope) sort p)) p h in
      ap nest (sym (ok-same (prog.Pick (variable_no scope) sort b.value) p b.other)) ∙ nest-Pick (variable_no scope) sort b.value
      ∙ ap (λ n. 1 + n) (d.1 (within word sort scope) b.value b.one)
  layer scope (draft.Star d at) p h =
      let b = both (prog_in names d.0 scope) (λ p. gives (prog.Star p)) p h in
      ap nest (sym (ok-same (prog.Star b.value) p b.other)) ∙ nest-Star b.value ∙ ap (λ n. 1 + n) (d.1 scope b.value b.one)
  layer scope (draft.If t d e at) p h =
      let a = both (cond_in names t scope) (λ c. prog_in names d.0 scope >>= λ p. prog_in names e.0 scope >>= λ q. gives (prog.If c p q)) p h in
      let f = both (prog_in names d.0 scope) (λ p. prog_in names e.0 scope >>= λ q. gives (prog.If a.value p q)) p a.other in
      let g = both (prog_in names e.0 scope) (λ q. gives (prog.If a.value f.value q)) p f.other in
      ap nest (sym (ok-same (prog.If a.value f.value g.value) p g.other)) ∙ nest-If a.value f.value g.value
      ∙ ap (λ n. 1 + max n (nest g.value)) (d.1 scope f.value f.one) ∙ ap (λ n. 1 + max (draft_nest d.0) n) (e.1 scope g.value g.one)
  layer scope (draft.While t d at) p h =
      let a = both (cond_in names t scope) (λ c. prog_in names d.0 scope >>= λ p. gives (prog.While c p)) p h in
      let b = both (prog_in names d.0 scope) (λ p. gives (prog.While a.value p)) p a.other in
      ap nest (sym (ok-same (prog.While a.value b.value) p b.other)) ∙ nest-While a.value b.value ∙ ap (λ n. 1 + n) (d.1 scope b.value b.one)
  layer scope (draft.Conc ds at) p h = parts-made InConc scope ds p h
  layer scope (draft.Prio ds at) p h = parts-made InPrio scope ds p h
  layer scope (draft.Cstar d at) p h =
      let b = both (prog_in names d.0 scope) (λ p. gives (prog.Cstar p)) p h in
      ap nest (sym (ok-same (prog.Cstar b.value) p b.other)) ∙ nest-Cstar b.value ∙ ap (λ n. 1 + n) (d.1 scope b.value b.one)
  layer scope (draft.Call item args at) p h =
      let b = both (args_in names scope (param_sorts names item) args) (λ args. gives (prog.Call item args)) p h in
      ap nest (sym (ok-same (prog.Call item b.value) p b.other)) ∙ nest-Call item b.value
  layer scope (draft.Search depth fuel d at) p h =
      let b = both (prog_in names d.0 scope) (λ p. gives (prog.Search (to_count depth) (to_count fuel) p)) p h in
      ap nest (sym (ok-same (prog.Search (to_count depth) (to_count fuel) b.value) p b.other))
      ∙ nest-Search (to_count depth) (to_count fuel) b.value ∙ ap (λ n. 1 + n) (d.1 scope b.value b.one)

  kept-layer : (y : DraftProg-F Keep) → Kept (roll-DraftProg (drafts_of y))
  kept-layer y scope p h =
      layer scope y p (ap (λ (f : InScope). (f scope).outcome) (sym (fold-roll-DraftProg InScope (prog_step names) (drafts_of y))) ∙ h)
      ∙ sym (fold-roll-DraftProg ℕ draft_nest_step (drafts_of y))

  -- a program nests as its draft does
  pub nests-same : (d : DraftProg) (scope : Scope) (p : Prog) → (prog_in names d scope).outcome ≡ Ok p → nest p ≡ draft_nest d
  nests-same = ind-DraftProg Kept (λ x y is. subst (λ l. Kept (roll-DraftProg l)) is (kept-layer y))
