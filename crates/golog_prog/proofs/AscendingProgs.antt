-- The places in a program that was read ascend, from the place of its form on and before its end.
use Rattle.std.proofs.Common.{◌≡◌, ℕ, ◌+◌, ◌<◌, ◌≤◌, false, List, [], ◌∷◌, ◌++◌, map, length, Option, Some, None, refl, sym, ap, subst, ◌∙◌, arith}
use Rattle.std.specs.Prelude.{codes, nat_le, nat_lt}
use Rattle.std.proofs.lemmas.List.{append_assoc, append-nil}
use Rattle.golog_form.specs.declared.form.Form.{Form}
use Rattle.golog_form.specs.Shape.{place_of}
use Rattle.golog_form.specs.Places.{IsInOrder}
use Rattle.golog_tree.specs.declared.draft.DraftTheory.{DraftTheory}
use Rattle.golog_tree.specs.declared.draft_cond.DraftCond.{DraftCond}
use Rattle.golog_tree.specs.declared.draft_cond.DraftCond.TheVariants as cond
use Rattle.golog_tree.specs.declared.draft_cond.DraftCond.TheOpen as draft_cond
use Rattle.golog_tree.specs.declared.draft_cond.DraftCond.TheFolds.{fold-roll-DraftCond}
use Rattle.golog_tree.specs.declared.draft_cond.DraftArg.{DraftArg}
use Rattle.golog_tree.specs.declared.draft_prog.DraftProg.{DraftProg}
use Rattle.golog_tree.specs.declared.draft_prog.DraftProg.TheVariants as prog
use Rattle.golog_tree.specs.declared.draft_prog.DraftProg.TheOpen as draft
use Rattle.golog_tree.specs.declared.draft_prog.DraftProg.TheOpen.{DraftProg-F}
use Rattle.golog_tree.specs.declared.draft_prog.DraftProg.TheViews.{roll-DraftProg}
use Rattle.golog_tree.specs.declared.draft_prog.DraftProg.TheFolds.{fold-roll-DraftProg, map-DraftProg}
use Rattle.golog_draft.specs.DraftPlaces.{joined, arg_places, cond_places_step, cond_places, prog_places_step, prog_places}
use Rattle.golog_draft.specs.DraftOrder.{Ascend}
use Rattle.golog_theory.specs.Reading.{Reading, gives, refused, ◌>>=◌, each}
use Rattle.golog_theory.specs.Names.{same}
use Rattle.golog_theory.specs.Parts.{word, parts, number_of}
use Rattle.golog_theory.specs.Heads.{arguments, args_of}
use Rattle.golog_theory.specs.Conditions.{binder_of, cond_of}
use Rattle.golog_theory.specs.Recursion.{Part}
use Rattle.golog_theory.proofs.Inside.{Each, by_parts, end_of, Between, stands, arguments-between}
use Rattle.golog_theory.proofs.Ascend.{ascend-low, ascend-high, ascend-append}
use Rattle.golog_theory.proofs.PlacesOfTerms.{args_of-ascend}
use Rattle.golog_theory.proofs.PlacesOfConds.{cond_of-ascend}
use Rattle.golog_theory.proofs.Yields.{Yields, gives-yields, refused-yields, row-yields, if-yields, then-yields}
use Rattle.golog_prog.specs.declared.keyword.Keyword.{Keyword}
use Rattle.golog_prog.specs.declared.keyword.Keyword.TheVariants.{Act, Test, Seq, Choice, Pick, Star, If, While, Conc, Prio, Cstar, Call, Search, Interrupt, Interrupts}
use Rattle.golog_prog.specs.declared.procedures.Declared.{Declared}
use Rattle.golog_prog.specs.declared.programs.Guarded.{Guarded}
use Rattle.golog_prog.specs.Callees.{action_named, proc_named, named}
use Rattle.golog_prog.specs.Constructs.{InScope, act_of, call_of, test_of, progs_of, several_of, seq_of, choice_of, conc_of, prio_of, pick_of, one_of, star_of, cstar_of, guarded_of, guard_of, if_of, while_of, search_of, interrupt, interrupt_of, interrupts, interrupts_of}
use Rattle.golog_prog.specs.Keywords.{keyword_of}
use Rattle.golog_prog.specs.Programs.{nil_of, construct_of, list_of, prog_by, prog_of, prog_part}
use Rattle.golog_prog.proofs.Progs.{prog_of-parts}

-- the places lie within a wider reach
wider : (from at end to : ℕ) (places : List ℕ) → from ≤ at → end ≤ to → Ascend at places end → Ascend from places to
wider from at end to places le le' a = ascend-low from at to places le (ascend-high at end to places le' a)

-- the places of a program, and of a condition, by its layer
prog-layer : (l : DraftProg-F DraftProg) (d : DraftProg) → roll-DraftProg l ≡ d → prog_places d ≡ prog_places_step (map-DraftProg DraftProg (List ℕ) prog_places l)
prog-layer l d e = ap prog_places (sym e) ∙ fold-roll-DraftProg (List ℕ) prog_places_step l

running-place : (item at : ℕ) → cond_places (cond.Is item [] at) ≡ at ∷ []
running-place item at = ap cond_places (sym (cond.rolls-Is item [] at)) ∙ fold-roll-DraftCond (List ℕ) cond_places_step (draft_cond.Is item [] at)

never-places : (at : ℕ) → prog_places (prog.Test (cond.Truth false at) at) ≡ []
never-places at =
    prog-layer (draft.Test (cond.Truth false at) at) (prog.Test (cond.Truth false at) at) (prog.rolls-Test (cond.Truth false at) at)
    ∙ ap cond_places (sym (cond.rolls-Truth false at)) ∙ fold-roll-DraftCond (List ℕ) cond_places_step (draft_cond.Truth false at)

act-places : (item at : ℕ) → prog_places (prog.Act item [] at) ≡ []
act-places item at = prog-layer (draft.Act item [] at) (prog.Act item [] at) (prog.rolls-Act item [] at)

interrupts-places : (d : DraftProg) (at : ℕ) → prog_places (interrupts d at) ≡ prog_places d
interrupts-places d at =
    let both = d ∷ prog.Act 1 [] at ∷ [] in
    let all = prog.Act 0 [] at ∷ prog.Prio both at ∷ [] in
    let inner : prog_places (prog.Prio both at) ≡ prog_places d =
    prog-layer (draft.Prio both at) (prog.Prio both at) (prog.rolls-Prio both at)
    ∙ ap (λ xs. prog_places d ++ (xs ++ [])) (act-places 1 at) ∙ append-nil (prog_places d) in
    prog-layer (draft.Seq all at) (prog.Seq all at) (prog.rolls-Seq all at)
    ∙ ap (λ xs. xs ++ (prog_places (prog.Prio both at) ++ [])) (act-places 0 at) ∙ append-nil (prog_places (prog.Prio both at)) ∙ inner

-- the places of programs with one more
joined-push : (ds : List DraftProg) (d : DraftProg) → joined (map prog_places (ds ++ d ∷ [])) ≡ joined (map prog_places ds) ++ prog_places d
joined-push [] d = append-nil (prog_places d)
joined-push (other ∷ ds) d =
    ap (λ xs. prog_places other ++ xs) (joined-push ds d) ∙ sym (append_assoc (prog_places other) (joined (map prog_places ds)) (prog_places d))

module _ (theory : DraftTheory) (procs : List Declared) where
  -- the places of a program stand from a place on and before another
  abbrev Placed : ℕ → ℕ → DraftProg → Type 0
  Placed from to d = Ascend from (prog_places d) to

  abbrev ProgAscends : Form → Type 0
  ProgAscends f = IsInOrder f → (scope : ℕ) → Yields (Placed (place_of f) (end_of f)) (prog_of theory procs f scope)

  abbrev as_parts : List Form → List (Part InScope)
  as_parts fs = map (prog_part theory procs) fs

  -- a program by its layer
  by-layer : (from to : ℕ) (l : DraftProg-F DraftProg) (d : DraftProg) → roll-DraftProg l ≡ d
      → Ascend from (prog_places_step (map-DraftProg DraftProg (List ℕ) prog_places l)) to → Placed from to d
  by-layer from to l d e a = subst (λ places. Ascend from places to) (sym (prog-layer l d e)) a

  made : (from to : ℕ) (l : DraftProg-F DraftProg) (d : DraftProg) → roll-DraftProg l ≡ d
      → Ascend from (prog_places_step (map-DraftProg DraftProg (List ℕ) prog_places l)) to → Yields (Placed from to) (gives d)
  made from to l d e a = gives-yields (Placed from to) d (by-layer from to l d e a)

  none : (from to at : ℕ) → Yields (Placed from to) (refused {A = DraftProg} 20 at)
  none from to at = refused-yields (Placed from to) 20 at

  nil-ascend : (from to at : ℕ) → from ≤ to → Placed from to (prog.Nil at)
  nil-ascend from to at le = by-layer from to (draft.Nil at) (prog.Nil at) (prog.rolls-Nil at) le

  nil_of-ascend : (f : Form) → IsInOrder f → Yields (Placed (place_of f) (end_of f)) (nil_of f)
  unfolding nil_of
  nil_of-ascend f order =
      let at = place_of f in let to = end_of f in let size = (stands f order).size in
      if-yields (Placed at to) (same (word f) (codes "nil")) (gives (prog.Nil at)) (refused 20 at)
      (λ _. gives-yields (Placed at to) (prog.Nil at) (nil-ascend at to at (omega (arith, size)))) (λ _. none at to at)

  -- what is named, and arguments behind its name
  named-ascend : (at : ℕ) (name : Form) (args : List Form) (to : ℕ) (item : Reading ℕ) (layer : ℕ → List DraftArg → DraftProg-F DraftProg) (make : ℕ → List DraftArg → DraftProg)
      → ((n : ℕ) (given : List DraftArg) → roll-DraftProg (layer n given) ≡ make n given)
      → ((n : ℕ) (given : List DraftArg) → prog_places_step (map-DraftProg DraftProg (List ℕ) prog_places (layer n given)) ≡ arg_places given)
      → Between (at + 1) (name ∷ args) to → Yields (Placed at to) (item >>= λ n. args_of args >>= λ given. gives (make n given))
  named-ascend at name args to item layer make rolls places b =
      let size = (stands name b.1).size in
      then-yields (λ _. Unit {0}) _ item.outcome _ (λ _ _. tt) (λ n _.
      then-yields _ _ (args_of args).outcome _ (args_of-ascend (end_of name) args to b.2) (λ given a.
      made at to (layer n given) (make n given) (rolls n given)
      (subst (λ places. Ascend at places to) (sym (places n given)) (ascend-low at (end_of name) to (arg_places given) (omega (arith, b.0, size)) a))))

  act_of-ascend : (at : ℕ) (fs : List Form) (to : ℕ) → Between (at + 1) fs to → Yields (Placed at to) (act_of theory at fs)
  unfolding act_of
  act_of-ascend at [] to b = none at to at
  act_of-ascend at (name ∷ args) to b =
      named-ascend at name args to (named at name args (action_named theory (word name))) (λ n given. draft.Act n given at) (λ n given. prog.Act n given at)
      (λ n given. prog.rolls-Act n given at) (λ n given. refl) b

  call_of-ascend : (at : ℕ) (fs : List Form) (to : ℕ) → Between (at + 1) fs to → Yields (Placed at to) (call_of procs at fs)
  unfolding call_of
  call_of-ascend at [] to b = none at to at
  call_of-ascend at (name ∷ args) to b =
      named-ascend at name args to (named at name args (proc_named procs (word name))) (λ n given. draft.Call n given at) (λ n given. prog.Call n given at)
      (λ n given. prog.rolls-Call n given at) (λ n given. refl) b

  test_of-ascend : (scope at : ℕ) (fs : List Form) (from to : ℕ) → at < from → Between from fs to → Yields (Placed at to) (test_of theory scope at (as_parts fs))
  unfolding test_of
  test_of-ascend scope at [] from to lt b = none at to at
  test_of-ascend scope at (c ∷ []) from to lt b =
      then-yields _ _ (cond_of theory c scope).outcome _ (cond_of-ascend theory c b.1 scope) (λ d a.
      made at to (draft.Test d at) (prog.Test d at) (prog.rolls-Test d at)
      (wider at (place_of c) (end_of c) to (cond_places d) (omega (arith, b.0)) b.2 a))
  test_of-ascend scope at (c ∷ other ∷ fs) from to lt b = none at to at

  -- programs that stand one after another
  abbrev AllPlaced : ℕ → ℕ → List DraftProg → Type 0
  AllPlaced from to ds = Ascend from (joined (map prog_places ds)) to

  each-ascend : (scope low from : ℕ) (fs : List Form) (to : ℕ) → Between from fs to → Each ProgAscends fs → (done : List DraftProg) → AllPlaced low from done
      → Yields (AllPlaced low to) (each (λ (_ : List DraftProg) (part : Part InScope). part.spelled scope) done (as_parts fs))
  each-ascend scope low from [] to b e done held =
      gives-yields (AllPlaced low to) done (ascend-high low from to (joined (map prog_places done)) b held)
  each-ascend scope low from (f ∷ fs) to b e done held =
      then-yields _ _ (prog_of theory procs f scope).outcome _ (e.0 b.1 scope) (λ d a.
      each-ascend scope low (end_of f) fs to b.2 e.1 (done ++ d ∷ [])
      (subst (λ places. Ascend low places (end_of f)) (sym (joined-push done d))
      (ascend-append low from (end_of f) (joined (map prog_places done)) (prog_places d) held
      (ascend-low from (place_of f) (end_of f) (prog_places d) b.0 a))))

  progs_of-ascend : (scope at : ℕ) (fs : List Form) (from to : ℕ) → at < from → Between from fs to → Each ProgAscends fs
      → Yields (AllPlaced at to) (progs_of scope (as_parts fs))
  unfolding progs_of
  progs_of-ascend scope at fs from to lt b e = each-ascend scope at from fs to b e [] (omega (arith, lt))

  several_of-ascend : (scope at : ℕ) (fs : List Form) (from to : ℕ) → at < from → Between from fs to → Each ProgAscends fs
      → Yields (AllPlaced at to) (several_of scope at (as_parts fs))
  unfolding several_of
  several_of-ascend scope at fs from to lt b e =
      row-yields (AllPlaced at to) (nat_lt (length (as_parts fs)) 2) (20, at) (progs_of scope (as_parts fs)).outcome (λ _. progs_of-ascend scope at fs from to lt b e)

  -- a part that is a program
  part-ascend : (scope at : ℕ) (f : Form) (to : ℕ) → at ≤ place_of f → end_of f ≤ to → IsInOrder f → ProgAscends f
      → Yields (Placed at to) (prog_of theory procs f scope)
  part-ascend scope at f to le le' order a d e = wider at (place_of f) (end_of f) to (prog_places d) le le' (a order scope d e)

  pick_of-ascend : (scope at : ℕ) (fs : List Form) (from to : ℕ) → at < from → Between from fs to → Each ProgAscends fs
      → Yields (Placed at to) (pick_of theory scope at (as_parts fs))
  unfolding pick_of
  pick_of-ascend scope at [] from to lt b e = none at to at
  pick_of-ascend scope at (binder ∷ []) from to lt b e = none at to at
  pick_of-ascend scope at (binder ∷ body ∷ []) from to lt b e =
      let size = (stands binder b.1).size in
      row-yields (Placed at to) (nat_le 32 scope) (25, at) _ (λ _.
      then-yields (λ _. Unit {0}) _ (binder_of theory binder).outcome _ (λ _ _. tt) (λ binder' _.
      then-yields _ _ (prog_of theory procs body (scope + 1)).outcome _
      (part-ascend (scope + 1) at body to (omega (arith, b.0, b.2.0, size)) b.2.2 b.2.1 e.1.0) (λ d a.
      made at to (draft.Pick binder'.var binder'.sort d at) (prog.Pick binder'.var binder'.sort d at) (prog.rolls-Pick binder'.var binder'.sort d at) a)))
  pick_of-ascend scope at (binder ∷ body ∷ other ∷ fs) from to lt b e = none at to at

  one_of-ascend : (scope at : ℕ) (fs : List Form) (from to : ℕ) → at < from → Between from fs to → Each ProgAscends fs
      → Yields (Placed at to) (one_of scope at (as_parts fs))
  unfolding one_of
  one_of-ascend scope at [] from to lt b e = none at to at
  one_of-ascend scope at (body ∷ []) from to lt b e = part-ascend scope at body to (omega (arith, b.0)) b.2 b.1 e.0
  one_of-ascend scope at (body ∷ other ∷ fs) from to lt b e = none at to at

  record GuardedPlaced (from mid to : ℕ) (guarded : Guarded) : Type 0 where
    cond : Ascend from (cond_places guarded.cond) mid
    body : Placed mid to guarded.body

  guarded_of-ascend : (scope : ℕ) (c body : Form) (from : ℕ) (to : ℕ) → Between from (c ∷ body ∷ []) to → ProgAscends body
      → Yields (GuardedPlaced from (end_of c) to) (guarded_of theory scope (prog_part theory procs c) (prog_part theory procs body))
  unfolding guarded_of
  guarded_of-ascend scope c body from to b ascends =
      then-yields _ _ (cond_of theory c scope).outcome _ (cond_of-ascend theory c b.1 scope) (λ cond a.
      then-yields _ _ (prog_of theory procs body scope).outcome _ (part-ascend scope (end_of c) body to b.2.0 b.2.2 b.2.1 ascends) (λ d a'.
      gives-yields (GuardedPlaced from (end_of c) to) (record { cond = cond; body = d })
      (record { cond = ascend-low from (place_of c) (end_of c) (cond_places cond) b.0 a; body = a' })))

  -- the condition up to some place, and the program behind it
  abbrev Apart : ℕ → ℕ → Guarded → Type 0
  Apart from to guarded = (mid : ℕ) × GuardedPlaced from mid to guarded

  guard_of-ascend : (scope at low : ℕ) (fs : List Form) (from to : ℕ) → low ≤ from → Between from fs to → Each ProgAscends fs
      → Yields (Apart low to) (guard_of theory scope at (as_parts fs))
  unfolding guard_of
  guard_of-ascend scope at low [] from to le b e = refused-yields (Apart low to) 20 at
  guard_of-ascend scope at low (c ∷ []) from to le b e = refused-yields (Apart low to) 20 at
  guard_of-ascend scope at low (c ∷ body ∷ []) from to le b e =
      λ g is. (end_of c, guarded_of-ascend scope c body low to (omega (arith, le, b.0), b.1, b.2) e.1.0 g is)
  guard_of-ascend scope at low (c ∷ body ∷ other ∷ fs) from to le b e = refused-yields (Apart low to) 20 at

  if-ascend : (from mid end to at : ℕ) (c : DraftCond) (d other : DraftProg) → Ascend from (cond_places c) mid → Placed mid end d → Placed end to other
      → Placed from to (prog.If c d other at)
  if-ascend from mid end to at c d other a a' a'' =
      by-layer from to (draft.If c d other at) (prog.If c d other at) (prog.rolls-If c d other at)
      (ascend-append from mid to (cond_places c) (prog_places d ++ prog_places other) a (ascend-append mid end to (prog_places d) (prog_places other) a' a''))

  while-ascend : (from mid to at : ℕ) (c : DraftCond) (d : DraftProg) → Ascend from (cond_places c) mid → Placed mid to d → Placed from to (prog.While c d at)
  while-ascend from mid to at c d a a' =
      by-layer from to (draft.While c d at) (prog.While c d at) (prog.rolls-While c d at) (ascend-append from mid to (cond_places c) (prog_places d) a a')

  if_of-ascend : (scope at : ℕ) (fs : List Form) (from to : ℕ) → at < from → Between from fs to → Each ProgAscends fs
      → Yields (Placed at to) (if_of theory scope at (as_parts fs))
  unfolding if_of
  if_of-ascend scope at [] from to lt b e = none at to at
  if_of-ascend scope at (c ∷ []) from to lt b e = none at to at
  if_of-ascend scope at (c ∷ body ∷ []) from to lt b e =
      then-yields _ _ (guarded_of theory scope (prog_part theory procs c) (prog_part theory procs body)).outcome _
      (guarded_of-ascend scope c body at to (omega (arith, b.0), b.1, b.2) e.1.0) (λ g a.
      gives-yields (Placed at to) (prog.If g.cond g.body (prog.Nil at) at)
      (if-ascend at (end_of c) to to at g.cond g.body (prog.Nil at) a.cond a.body (nil-ascend to to at (omega arith))))
  if_of-ascend scope at (c ∷ body ∷ other ∷ []) from to lt b e =
      then-yields _ _ (guarded_of theory scope (prog_part theory procs c) (prog_part theory procs body)).outcome _
      (guarded_of-ascend scope c body at (end_of body) (omega (arith, b.0), b.1, (b.2.0, b.2.1, omega arith)) e.1.0) (λ g a.
      then-yields _ _ (prog_of theory procs other scope).outcome _ (part-ascend scope (end_of body) other to b.2.2.0 b.2.2.2 b.2.2.1 e.1.1.0) (λ d a'.
      gives-yields (Placed at to) (prog.If g.cond g.body d at) (if-ascend at (end_of c) (end_of body) to at g.cond g.body d a.cond a.body a')))
  if_of-ascend scope at (c ∷ body ∷ other ∷ more ∷ fs) from to lt b e = none at to at

  while_of-ascend : (scope at : ℕ) (fs : List Form) (from to : ℕ) → at < from → Between from fs to → Each ProgAscends fs
      → Yields (Placed at to) (while_of theory scope at (as_parts fs))
  unfolding while_of
  while_of-ascend scope at fs from to lt b e =
      then-yields _ _ (guard_of theory scope at (as_parts fs)).outcome _ (guard_of-ascend scope at at fs from to (omega arith) b e) (λ g a.
      gives-yields (Placed at to) (prog.While g.cond g.body at) (while-ascend at a.0 to at g.cond g.body a.1.cond a.1.body))

  search_of-ascend : (scope at : ℕ) (fs : List Form) (from to : ℕ) → at < from → Between from fs to → Each ProgAscends fs
      → Yields (Placed at to) (search_of scope at (as_parts fs))
  unfolding search_of
  search_of-ascend scope at [] from to lt b e = none at to at
  search_of-ascend scope at (depth ∷ []) from to lt b e = none at to at
  search_of-ascend scope at (depth ∷ fuel ∷ []) from to lt b e = none at to at
  search_of-ascend scope at (depth ∷ fuel ∷ body ∷ []) from to lt b e =
      let size = (stands depth b.1).size in
      let size' = (stands fuel b.2.1).size in
      then-yields (λ _. Unit {0}) _ (number_of depth).outcome _ (λ _ _. tt) (λ depth' _.
      then-yields (λ _. Unit {0}) _ (number_of fuel).outcome _ (λ _ _. tt) (λ fuel' _.
      then-yields _ _ (prog_of theory procs body scope).outcome _
      (part-ascend scope at body to (omega (arith, b.0, b.2.0, b.2.2.0, size, size')) b.2.2.2 b.2.2.1 e.1.1.0) (λ d a.
      made at to (draft.Search depth' fuel' d at) (prog.Search depth' fuel' d at) (prog.rolls-Search depth' fuel' d at) a)))
  search_of-ascend scope at (depth ∷ fuel ∷ body ∷ other ∷ fs) from to lt b e = none at to at

  -- The built-in condition of an interrupt stands at the place of its form, before its other parts.
  interrupt_of-ascend : (scope at : ℕ) (fs : List Form) (from to : ℕ) → at < from → Between from fs to → Each ProgAscends fs
      → Yields (Placed at to) (interrupt_of theory scope at (as_parts fs))
  unfolding interrupt_of
  interrupt_of-ascend scope at fs from to lt b e =
      let never = prog.Test (cond.Truth false at) at in
      then-yields _ _ (guard_of theory scope at (as_parts fs)).outcome _ (guard_of-ascend scope at (at + 1) fs from to (omega arith) b e) (λ g a.
      gives-yields (Placed at to) (interrupt g.cond g.body at)
      (while-ascend at (at + 1) to at (cond.Is 0 [] at) (prog.If g.cond g.body never at)
      (subst (λ places. Ascend at places (at + 1)) (sym (running-place 0 at)) (omega arith, omega arith))
      (if-ascend (at + 1) a.0 to to at g.cond g.body never a.1.cond a.1.body
      (subst (λ places. Ascend to places to) (sym (never-places at)) (omega arith)))))

  interrupts_of-ascend : (scope at : ℕ) (fs : List Form) (from to : ℕ) → at < from → Between from fs to → Each ProgAscends fs
      → Yields (Placed at to) (interrupts_of scope at (as_parts fs))
  unfolding interrupts_of
  interrupts_of-ascend scope at fs from to lt b e =
      then-yields _ _ (one_of scope at (as_parts fs)).outcome _ (one_of-ascend scope at fs from to lt b e) (λ d a.
      gives-yields (Placed at to) (interrupts d at) (subst (λ places. Ascend at places to) (sym (interrupts-places d at)) a))

  construct_of-ascend : (f : Form) (scope : ℕ) (keyword : Keyword) (fs : List Form) (from : ℕ) → IsInOrder f → place_of f < from → Between from fs (end_of f)
      → Each ProgAscends fs → Yields (Placed (place_of f) (end_of f)) (construct_of theory procs f scope keyword (as_parts fs))
  unfolding construct_of seq_of choice_of conc_of prio_of star_of cstar_of
  construct_of-ascend f scope Act fs from order lt b e = act_of-ascend (place_of f) (arguments f) (end_of f) (arguments-between f order)
  construct_of-ascend f scope Test fs from order lt b e = test_of-ascend scope (place_of f) fs from (end_of f) lt b
  construct_of-ascend f scope Seq fs from order lt b e =
      let at = place_of f in let to = end_of f in
      then-yields _ _ (progs_of scope (as_parts fs)).outcome _ (progs_of-ascend scope at fs from to lt b e) (λ ds a.
      made at to (draft.Seq ds at) (prog.Seq ds at) (prog.rolls-Seq ds at) a)
  construct_of-ascend f scope Choice fs from order lt b e =
      let at = place_of f in let to = end_of f in
      then-yields _ _ (several_of scope at (as_parts fs)).outcome _ (several_of-ascend scope at fs from to lt b e) (λ ds a.
      made at to (draft.Choice ds at) (prog.Choice ds at) (prog.rolls-Choice ds at) a)
  construct_of-ascend f scope Pick fs from order lt b e = pick_of-ascend scope (place_of f) fs from (end_of f) lt b e
  construct_of-ascend f scope Star fs from order lt b e =
      let at = place_of f in let to = end_of f in
      then-yields _ _ (one_of scope at (as_parts fs)).outcome _ (one_of-ascend scope at fs from to lt b e) (λ d a.
      made at to (draft.Star d at) (prog.Star d at) (prog.rolls-Star d at) a)
  construct_of-ascend f scope If fs from order lt b e = if_of-ascend scope (place_of f) fs from (end_of f) lt b e
  construct_of-ascend f scope While fs from order lt b e = while_of-ascend scope (place_of f) fs from (end_of f) lt b e
  construct_of-ascend f scope Conc fs from order lt b e =
      let at = place_of f in let to = end_of f in
      then-yields _ _ (several_of scope at (as_parts fs)).outcome _ (several_of-ascend scope at fs from to lt b e) (λ ds a.
      made at to (draft.Conc ds at) (prog.Conc ds at) (prog.rolls-Conc ds at) a)
  construct_of-ascend f scope Prio fs from order lt b e =
      let at = place_of f in let to = end_of f in
      then-yields _ _ (several_of scope at (as_parts fs)).outcome _ (several_of-ascend scope at fs from to lt b e) (λ ds a.
      made at to (draft.Prio ds at) (prog.Prio ds at) (prog.rolls-Prio ds at) a)
  construct_of-ascend f scope Cstar fs from order lt b e =
      let at = place_of f in let to = end_of f in
      then-yields _ _ (one_of scope at (as_parts fs)).outcome _ (one_of-ascend scope at fs from to lt b e) (λ d a.
      made at to (draft.Cstar d at) (prog.Cstar d at) (prog.rolls-Cstar d at) a)
  construct_of-ascend f scope Call fs from order lt b e = call_of-ascend (place_of f) (arguments f) (end_of f) (arguments-between f order)
  construct_of-ascend f scope Search fs from order lt b e = search_of-ascend scope (place_of f) fs from (end_of f) lt b e
  construct_of-ascend f scope Interrupt fs from order lt b e = interrupt_of-ascend scope (place_of f) fs from (end_of f) lt b e
  construct_of-ascend f scope Interrupts fs from order lt b e = interrupts_of-ascend scope (place_of f) fs from (end_of f) lt b e

  list_of-ascend : (f : Form) (scope : ℕ) (keyword : Option Keyword) (fs : List Form) (from : ℕ) → IsInOrder f → place_of f < from → Between from fs (end_of f)
      → Each ProgAscends fs → Yields (Placed (place_of f) (end_of f)) (list_of theory procs f scope keyword (as_parts fs))
  list_of-ascend f scope None fs from order lt b e = none (place_of f) (end_of f) (place_of f)
  list_of-ascend f scope (Some keyword) fs from order lt b e = construct_of-ascend f scope keyword fs from order lt b e

  prog_by-ascend : (f : Form) (fs : List Form) (scope : ℕ) → IsInOrder f → Between (place_of f + 1) fs (end_of f) → Each ProgAscends fs
      → Yields (Placed (place_of f) (end_of f)) (prog_by theory procs f (as_parts fs) scope)
  prog_by-ascend f [] scope order b e = nil_of-ascend f order
  prog_by-ascend f (head ∷ fs) scope order b e =
      list_of-ascend f scope (keyword_of (word head)) fs (end_of head) order (omega (arith, b.0, (stands head b.1).size)) b.2 e.1

  pub prog_of-ascend : (f : Form) → IsInOrder f → (scope : ℕ) → Yields (Placed (place_of f) (end_of f)) (prog_of theory procs f scope)
  prog_of-ascend = by_parts ProgAscends (λ f e order scope.
      subst (λ (reading : Reading DraftProg). Yields (Placed (place_of f) (end_of f)) reading) (sym (prog_of-parts theory procs f scope))
      (prog_by-ascend f (parts f) scope order (stands f order).inner e))
