-- The rows of programs stand in order, where their places ascend.
use Rattle.std.proofs.Common.{◌≡◌, ℕ, List, [], ◌++◌, map, sym, subst, arith}
use Rattle.golog_tree.specs.declared.cond.Arg.{Arg}
use Rattle.golog_tree.specs.declared.cond.Cond.{Cond}
use Rattle.golog_tree.specs.declared.draft_cond.DraftArg.{DraftArg}
use Rattle.golog_tree.specs.declared.draft_cond.DraftCond.{DraftCond}
use Rattle.golog_tree.specs.declared.draft_prog.DraftProg.{DraftProg}
use Rattle.golog_tree.specs.declared.draft_prog.DraftProg.TheOpen as draft
use Rattle.golog_tree.specs.declared.draft_prog.DraftProg.TheOpen.{DraftProg-F}
use Rattle.golog_tree.specs.declared.draft_prog.DraftProg.TheViews.{roll-DraftProg}
use Rattle.golog_tree.specs.declared.draft_prog.DraftProg.TheFolds.{fold-roll-DraftProg, ind-DraftProg, map-DraftProg}
use Rattle.golog_tree.specs.declared.prog.Prog.{Prog}
use Rattle.golog_tree.specs.declared.prog.Prog.TheVariants as prog
use Rattle.golog_tree.specs.Ground.{to_count}
use Rattle.golog_rows.specs.Reading.{Reading, gives, ◌>>=◌, each}
use Rattle.golog_tree.specs.declared.join.Join.{Join}
use Rattle.golog_tree.specs.declared.join.Join.TheVariants.{Seq as InSeq, Choice as InChoice, Conc as InConc, Prio as InPrio}
use Rattle.golog_check.specs.DeclaredItems.{Declared}
use Rattle.golog_check.specs.Sorts.{action_sorts, param_sorts}
use Rattle.golog_check.specs.Scope.{Scope, variable_no, within}
use Rattle.golog_check.specs.Terms.{args_in}
use Rattle.golog_check.specs.Conditions.{cond_in}
use Rattle.golog_check.specs.Programs.{InScope, nested, progs_in, parts_in, with_no, with_body, prog_step, prog_in}
use Rattle.golog_draft.specs.DraftPlaces.{arg_places, joined, cond_places, prog_places_step, prog_places}
use Rattle.golog_draft.specs.DraftOrder.{Ascend}
use Rattle.golog_rows.proofs.Chain.{Spans, then-spans, gives-spans}
use Rattle.golog_check.proofs.Halves.{halves, ascend-le, each-spans}
use Rattle.golog_check.proofs.TermOrder.{args-spans}
use Rattle.golog_check.proofs.CondOrder.{cond-spans}
use Rattle.golog_check.proofs.Layers.{in-prog}

module _ (names : Declared) where
  abbrev pub Stands : DraftProg → Type 0
  Stands d = (scope : Scope) (from to : ℕ) → Ascend from (prog_places d) to → Spans from to (prog_in names d scope)

  abbrev Standing : Type 0
  Standing = (d : DraftProg) × Stands d

  abbrev drafts_of : DraftProg-F Standing → DraftProg-F DraftProg
  drafts_of y = map-DraftProg Standing DraftProg (λ d. d.0) y

  places-roll : (l : DraftProg-F DraftProg) → prog_places (roll-DraftProg l) ≡ prog_places_step (map-DraftProg DraftProg (List ℕ) prog_places l)
  places-roll l = fold-roll-DraftProg (List ℕ) prog_places_step l

  module _ (scope : Scope) where
    called : (sorts : List ℕ) (make : List Arg → Prog) (from : ℕ) (args : List DraftArg) (to : ℕ) → Ascend from (arg_places args) to
        → Spans from to (args_in names scope sorts args >>= λ args. gives (make args))
    called sorts make from args to c = gives-spans from to (args_in names scope sorts args) make (args-spans names scope sorts from args to c)

    parts : (join : Join) (from : ℕ) (ds : List Standing) (to : ℕ) → Ascend from (joined (map prog_places (map (λ d. d.0) ds))) to
        → Spans from to (parts_in join scope (map (prog_in names) (map (λ d. d.0) ds)))
    parts join from ds to c = gives-spans from to (progs_in scope (map (prog_in names) (map (λ d. d.0) ds))) (nested join) (each-spans prog_places (prog_in names) scope [] from ds to c)

    -- a condition, and a program behind it
    guarded : (cond : DraftCond) (next : Cond → Reading Prog) (places : List ℕ) (from to : ℕ) → Ascend from (cond_places cond ++ places) to
        → ((c : Cond) (mid : ℕ) → Ascend mid places to → Spans mid to (next c)) → Spans from to (cond_in names cond scope >>= next)
    guarded cond next places from to c behind =
        let h = halves from (cond_places cond) places to c in
        then-spans from h.mid to (cond_in names cond scope) next (ascend-le h.mid places to h.other) (cond-spans names cond scope from h.mid h.one) (λ x. behind x h.mid h.other)

    branches : (c : Cond) (first second : Standing) (from to : ℕ) → Ascend from (prog_places first.0 ++ prog_places second.0) to
        → Spans from to (prog_in names first.0 scope >>= λ p. with_no c p (prog_in names second.0 scope))
    branches c first second from to a =
        let h = halves from (prog_places first.0) (prog_places second.0) to a in
        then-spans from h.mid to (prog_in names first.0 scope) (λ p. with_no c p (prog_in names second.0 scope)) (ascend-le h.mid (prog_places second.0) to h.other)
        (first.1 scope from h.mid h.one) (λ p. gives-spans h.mid to (prog_in names second.0 scope) (λ q. prog.If c p q) (second.1 scope h.mid to h.other))

    layer : (y : DraftProg-F Standing) (from to : ℕ) → Ascend from (prog_places_step (map-DraftProg DraftProg (List ℕ) prog_places (drafts_of y))) to
        → Spans from to (prog_step names (map-DraftProg DraftProg InScope (prog_in names) (drafts_of y)) scope)
    layer (draft.Nil at) from to c = omega (arith, c)
    layer (draft.Act action args at) from to c = called (action_sorts names action) (λ args. prog.Act action args) from args to c
    layer (draft.Test cond at) from to c = gives-spans from to (cond_in names cond scope) (λ c. prog.Test c) (cond-spans names cond scope from to c)
    layer (draft.Seq ds at) from to c = parts InSeq from ds to c
    layer (draft.Choice ds at) from to c = parts InChoice from ds to c
    layer (draft.Pick var sort d at) from to c =
        gives-spans from to (prog_in names d.0 (within var sort scope)) (λ p. prog.Pick (variable_no scope) sort p) (d.1 (within var sort scope) from to c)
    layer (draft.Star d at) from to c = gives-spans from to (prog_in names d.0 scope) (λ p. prog.Star p) (d.1 scope from to c)
    layer (draft.If cond first second at) from to c =
        guarded cond (λ c. prog_in names first.0 scope >>= λ p. with_no c p (prog_in names second.0 scope)) (prog_places first.0 ++ prog_places second.0) from to c
        (λ c mid a. branches c first second mid to a)
    layer (draft.While cond d at) from to c =
        guarded cond (λ c. with_body c (prog_in names d.0 scope)) (prog_places d.0) from to c
        (λ c mid a. gives-spans mid to (prog_in names d.0 scope) (λ p. prog.While c p) (d.1 scope mid to a))
    layer (draft.Conc ds at) from to c = parts InConc from ds to c
    layer (draft.Prio ds at) from to c = parts InPrio from ds to c
    layer (draft.Cstar d at) from to c = gives-spans from to (prog_in names d.0 scope) (λ p. prog.Cstar p) (d.1 scope from to c)
    layer (draft.Call item args at) from to c = called (param_sorts names item) (λ args. prog.Call item args) from args to c
    layer (draft.Search depth fuel d at) from to c =
        gives-spans from to (prog_in names d.0 scope) (λ p. prog.Search (to_count depth) (to_count fuel) p) (d.1 scope from to c)

  stands-layer : (y : DraftProg-F Standing) → Stands (roll-DraftProg (drafts_of y))
  stands-layer y scope from to c =
      let l = drafts_of y in
      subst (λ (f : InScope). Spans from to (f scope)) (sym (in-prog names l)) (layer scope y from to (subst (λ places. Ascend from places to) (places-roll l) c))

  pub prog-spans : (d : DraftProg) → Stands d
  prog-spans = ind-DraftProg Stands (λ x y is. subst (λ l. Stands (roll-DraftProg l)) is (stands-layer y))
