-- The rows of a program stand in order, within the places of its form.
use Rattle.std.proofs.Common.{ℕ, ◌+◌, ◌*◌, ◌<◌, ◌≤◌, List, [], ◌∷◌, map, length, Option, Some, None, refl, sym, subst, arith}
use Rattle.std.specs.Prelude.{codes}
use Rattle.golog_base.specs.Names.{is_name}
use Rattle.golog_form.specs.declared.form.Form.{Form}
use Rattle.golog_form.specs.Shape.{place_of}
use Rattle.golog_form.specs.Places.{IsInOrder}
use Rattle.golog_tree.specs.declared.draft.DraftTheory.{DraftTheory}
use Rattle.golog_tree.specs.declared.draft_cond.DraftCond.{DraftCond}
use Rattle.golog_tree.specs.declared.draft_prog.DraftProg.{DraftProg}
use Rattle.golog_tree.specs.declared.draft_prog.DraftProg.TheVariants as prog
use Rattle.golog_theory.specs.declared.conditions.Binder.{Binder}
use Rattle.golog_theory.specs.Reading.{Reading, gives, refused, row, ◌>>=◌, each}
use Rattle.golog_theory.specs.Names.{same}
use Rattle.golog_theory.specs.Parts.{word, parts, number_of}
use Rattle.golog_theory.specs.Heads.{arguments, args_of, declared_with}
use Rattle.golog_theory.specs.Conditions.{binder_of, cond_of}
use Rattle.golog_theory.specs.Recursion.{Part}
use Rattle.golog_rows.proofs.Chain.{Chain, chain-low, chain-high, Spans, then-spans, gives-spans, each-spans, if-chain}
use Rattle.golog_theory.proofs.Inside.{Each, by_parts, end_of, Between, stands, arguments-between}
use Rattle.golog_theory.proofs.Tables.{Covers, row-chain, between-le, number_of-covers, args_of-spans, declared_with-spans}
use Rattle.golog_theory.proofs.Nested.{within, refused-covers, parts-read, cond_of-covers, first-spans, last-spans, binder_of-covers}
use Rattle.golog_theory.specs.declared.heads.Callee.{Callee}
use Rattle.golog_prog.specs.declared.keyword.Keyword.{Keyword}
use Rattle.golog_prog.specs.declared.keyword.Keyword.TheVariants.{Act, Test, Seq, Choice, Pick, Star, If, While, Conc, Prio, Cstar, Call, Search, Interrupt, Interrupts}
use Rattle.golog_prog.specs.declared.procedures.Declared.{Declared}
use Rattle.golog_prog.specs.declared.programs.Guarded.{Guarded}
use Rattle.golog_prog.specs.Callees.{action_named, proc_named, named}
use Rattle.golog_prog.specs.Constructs.{InScope, act_of, call_of, test_of, progs_of, several_of, seq_of, choice_of, conc_of, prio_of, pick_of, one_of, star_of, cstar_of, guarded_of, guard_of, if_of, while_of, search_of, interrupt, interrupt_of, interrupts, interrupts_of}
use Rattle.golog_prog.specs.Keywords.{keyword_of}
use Rattle.golog_prog.specs.Programs.{nil_of, construct_of, list_of, prog_by, prog_of, prog_part}
use Rattle.golog_prog.proofs.Progs.{prog_of-parts}

-- a part that begins later
later : {A : Type 0} (from at to : ℕ) (reading : Reading A) → from ≤ at → Spans at to reading → Spans from to reading
later from at to reading le c = chain-low (64 * from) (64 * at) (64 * to) reading.rows (omega arith) c

-- a part that ends earlier
earlier : {A : Type 0} (from end to : ℕ) (reading : Reading A) → end ≤ to → Spans from end reading → Spans from to reading
earlier from end to reading le c = chain-high (64 * from) (64 * end) (64 * to) reading.rows (omega arith) c

-- what a form names
named-spans : (at : ℕ) (name : Form) (args : List Form) (callee : Option Callee) → IsInOrder name → at < place_of name
    → Spans at (end_of name) (named at name args callee)
unfolding named
named-spans at name args callee order lt =
    let size = (stands name order).size in
    if-chain (64 * at) (64 * end_of name) (is_name (word name)) (declared_with at (place_of name) (length args) callee) (refused 20 (place_of name))
    (declared_with-spans at name (length args) callee order lt) (omega arith, omega arith, omega arith, omega arith)

-- the name, and then the arguments
called-spans : (at : ℕ) (name : Form) (args : List Form) (to : ℕ) (callee : Option Callee) (made : ℕ → List _ → DraftProg) → Between (at + 1) (name ∷ args) to
    → Spans at to (named at name args callee >>= λ item. args_of args >>= λ args. gives (made item args))
called-spans at name args to callee made b =
    then-spans at (end_of name) to (named at name args callee) (λ item. args_of args >>= λ args. gives (made item args)) (between-le (end_of name) args to b.2)
    (named-spans at name args callee b.1 (omega (arith, b.0)))
    (λ item. gives-spans (end_of name) to (args_of args) (made item) (args_of-spans (end_of name) args to b.2))

-- a refusal of a form at its place
none : (at to : ℕ) → at < to → Spans at to (refused {A = DraftProg} 20 at)
none at to lt = refused-covers DraftProg at to 20 lt (omega arith) (omega arith)

nil_of-covers : (f : Form) → IsInOrder f → Covers f (nil_of f)
unfolding nil_of
nil_of-covers f order =
    let size = (stands f order).size in
    if-chain (64 * place_of f) (64 * end_of f) (same (word f) (codes "nil")) (gives (prog.Nil (place_of f))) (refused 20 (place_of f))
    (omega arith) (none (place_of f) (end_of f) size)

module _ (theory : DraftTheory) (procs : List Declared) where
  abbrev ProgCovers : Form → Type 0
  ProgCovers f = IsInOrder f → (scope : ℕ) → Covers f (prog_of theory procs f scope)

  abbrev as_parts : List Form → List (Part InScope)
  as_parts fs = map (prog_part theory procs) fs

  act_of-spans : (at : ℕ) (fs : List Form) (to : ℕ) → at < to → Between (at + 1) fs to → Spans at to (act_of theory at fs)
  unfolding act_of
  act_of-spans at [] to lt b = none at to lt
  act_of-spans at (name ∷ args) to lt b = called-spans at name args to (action_named theory (word name)) (λ action args. prog.Act action args at) b

  call_of-spans : (at : ℕ) (fs : List Form) (to : ℕ) → at < to → Between (at + 1) fs to → Spans at to (call_of procs at fs)
  unfolding call_of
  call_of-spans at [] to lt b = none at to lt
  call_of-spans at (name ∷ args) to lt b = called-spans at name args to (proc_named procs (word name)) (λ item args. prog.Call item args at) b

  test_of-spans : (scope at : ℕ) (fs : List Form) (from to : ℕ) → at < from → at < to → Between from fs to → Spans at to (test_of theory scope at (as_parts fs))
  unfolding test_of
  test_of-spans scope at [] from to lt size b = none at to size
  test_of-spans scope at (c ∷ []) from to lt size b =
      gives-spans at to (cond_of theory c scope) (λ c. prog.Test c at)
      (within at to c (cond_of theory c scope) (omega (arith, b.0)) b.2 (cond_of-covers theory c b.1 scope))
  test_of-spans scope at (c ∷ other ∷ fs) from to lt size b = none at to size

  progs_of-spans : (scope : ℕ) (fs : List Form) (from to : ℕ) → Between from fs to → Each ProgCovers fs → Spans from to (progs_of scope (as_parts fs))
  unfolding progs_of
  progs_of-spans scope fs from to b e =
      each-spans (λ (_ : List DraftProg) (part : Part InScope). part.spelled scope) [] (as_parts fs) from to (parts-read (prog_of theory procs) scope from fs to b e)

  several_of-spans : (scope at : ℕ) (fs : List Form) (from to : ℕ) → at < from → Between from fs to → Each ProgCovers fs → Spans at to (several_of scope at (as_parts fs))
  unfolding several_of
  several_of-spans scope at fs from to lt b e =
      row-chain (64 * at) (64 * from) (64 * to) 20 at (progs_of scope (as_parts fs)).rows refl (omega arith) (omega arith) (progs_of-spans scope fs from to b e)

  pick_of-spans : (scope at : ℕ) (fs : List Form) (from to : ℕ) → at < from → at < to → Between from fs to → Each ProgCovers fs → Spans at to (pick_of theory scope at (as_parts fs))
  unfolding pick_of
  pick_of-spans scope at [] from to lt size b e = none at to size
  pick_of-spans scope at (binder ∷ []) from to lt size b e = none at to size
  pick_of-spans scope at (binder ∷ body ∷ []) from to lt size b e =
      row-chain (64 * at) (64 * from) (64 * to) 25 at _ refl (omega arith) (omega arith)
      (first-spans from binder (body ∷ []) to (binder_of theory binder)
      (λ binder. prog_of theory procs body (scope + 1) >>= λ body. gives (prog.Pick binder.var binder.sort body at)) b (binder_of-covers theory binder b.1)
      (λ binder'. last-spans (end_of binder) body to (prog_of theory procs body (scope + 1)) (λ body. prog.Pick binder'.var binder'.sort body at) b.2
      (e.1.0 b.2.1 (scope + 1))))
  pick_of-spans scope at (binder ∷ body ∷ other ∷ fs) from to lt size b e = none at to size

  one_of-spans : (scope at : ℕ) (fs : List Form) (from to : ℕ) → at < from → at < to → Between from fs to → Each ProgCovers fs → Spans at to (one_of scope at (as_parts fs))
  unfolding one_of
  one_of-spans scope at [] from to lt size b e = none at to size
  one_of-spans scope at (body ∷ []) from to lt size b e =
      within at to body (prog_of theory procs body scope) (omega (arith, b.0)) b.2 (e.0 b.1 scope)
  one_of-spans scope at (body ∷ other ∷ fs) from to lt size b e = none at to size

  -- a condition and a program, up to the end of the program
  guarded_of-spans : (scope : ℕ) (c body : Form) (from : ℕ) → Between from (c ∷ body ∷ []) (end_of body) → ProgCovers body
      → Spans from (end_of body) (guarded_of theory scope (prog_part theory procs c) (prog_part theory procs body))
  unfolding guarded_of
  guarded_of-spans scope c body from b covers =
      first-spans from c (body ∷ []) (end_of body) (cond_of theory c scope)
      (λ c. prog_of theory procs body scope >>= λ body. gives (record { cond = c; body = body })) b (cond_of-covers theory c b.1 scope)
      (λ c'. last-spans (end_of c) body (end_of body) (prog_of theory procs body scope) (λ body. record { cond = c'; body = body }) b.2 (covers b.2.1 scope))

  -- such a pair among the parts of a form
  guard-spans : (scope at : ℕ) (c body : Form) (from to : ℕ) → at < from → Between from (c ∷ body ∷ []) to → ProgCovers body
      → Spans at to (guarded_of theory scope (prog_part theory procs c) (prog_part theory procs body))
  guard-spans scope at c body from to lt b covers =
      let read = guarded_of theory scope (prog_part theory procs c) (prog_part theory procs body) in
      later at from to read (omega arith)
      (earlier from (end_of body) to read b.2.2 (guarded_of-spans scope c body from (b.0, b.1, (b.2.0, b.2.1, omega arith)) covers))

  -- such a pair alone
  guard_of-spans : (scope at : ℕ) (fs : List Form) (from to : ℕ) → at < from → at < to → Between from fs to → Each ProgCovers fs → Spans at to (guard_of theory scope at (as_parts fs))
  unfolding guard_of
  guard_of-spans scope at [] from to lt size b e = refused-covers Guarded at to 20 size (omega arith) (omega arith)
  guard_of-spans scope at (c ∷ []) from to lt size b e = refused-covers Guarded at to 20 size (omega arith) (omega arith)
  guard_of-spans scope at (c ∷ body ∷ []) from to lt size b e = guard-spans scope at c body from to lt b e.1.0
  guard_of-spans scope at (c ∷ body ∷ other ∷ fs) from to lt size b e = refused-covers Guarded at to 20 size (omega arith) (omega arith)

  if_of-spans : (scope at : ℕ) (fs : List Form) (from to : ℕ) → at < from → at < to → Between from fs to → Each ProgCovers fs → Spans at to (if_of theory scope at (as_parts fs))
  unfolding if_of
  if_of-spans scope at [] from to lt size b e = none at to size
  if_of-spans scope at (c ∷ []) from to lt size b e = none at to size
  if_of-spans scope at (c ∷ body ∷ []) from to lt size b e =
      gives-spans at to (guarded_of theory scope (prog_part theory procs c) (prog_part theory procs body)) (λ guarded. prog.If guarded.cond guarded.body (prog.Nil at) at)
      (guard-spans scope at c body from to lt b e.1.0)
  if_of-spans scope at (c ∷ body ∷ other ∷ []) from to lt size b e =
      let read = guarded_of theory scope (prog_part theory procs c) (prog_part theory procs body) in
      then-spans at (end_of body) to read (λ guarded. prog_of theory procs other scope >>= λ other. gives (prog.If guarded.cond guarded.body other at))
      (between-le (end_of body) (other ∷ []) to b.2.2)
      (later at from (end_of body) read (omega arith) (guarded_of-spans scope c body from (b.0, b.1, (b.2.0, b.2.1, omega arith)) e.1.0))
      (λ guarded. last-spans (end_of body) other to (prog_of theory procs other scope) (λ other. prog.If guarded.cond guarded.body other at) b.2.2
      (e.1.1.0 b.2.2.1 scope))
  if_of-spans scope at (c ∷ body ∷ other ∷ more ∷ fs) from to lt size b e = none at to size

  while_of-spans : (scope at : ℕ) (fs : List Form) (from to : ℕ) → at < from → at < to → Between from fs to → Each ProgCovers fs → Spans at to (while_of theory scope at (as_parts fs))
  unfolding while_of
  while_of-spans scope at fs from to lt size b e =
      gives-spans at to (guard_of theory scope at (as_parts fs)) (λ guarded. prog.While guarded.cond guarded.body at) (guard_of-spans scope at fs from to lt size b e)

  search_of-spans : (scope at : ℕ) (fs : List Form) (from to : ℕ) → at < from → at < to → Between from fs to → Each ProgCovers fs → Spans at to (search_of scope at (as_parts fs))
  unfolding search_of
  search_of-spans scope at [] from to lt size b e = none at to size
  search_of-spans scope at (depth ∷ []) from to lt size b e = none at to size
  search_of-spans scope at (depth ∷ fuel ∷ []) from to lt size b e = none at to size
  search_of-spans scope at (depth ∷ fuel ∷ body ∷ []) from to lt size b e =
      later at from to (search_of scope at (as_parts (depth ∷ fuel ∷ body ∷ []))) (omega arith)
      (first-spans from depth (fuel ∷ body ∷ []) to (number_of depth)
      (λ depth. number_of fuel >>= λ fuel. prog_of theory procs body scope >>= λ body. gives (prog.Search depth fuel body at)) b (number_of-covers depth b.1)
      (λ depth'. first-spans (end_of depth) fuel (body ∷ []) to (number_of fuel)
      (λ fuel. prog_of theory procs body scope >>= λ body. gives (prog.Search depth' fuel body at)) b.2 (number_of-covers fuel b.2.1)
      (λ fuel'. last-spans (end_of fuel) body to (prog_of theory procs body scope) (λ body. prog.Search depth' fuel' body at) b.2.2 (e.1.1.0 b.2.2.1 scope))))
  search_of-spans scope at (depth ∷ fuel ∷ body ∷ other ∷ fs) from to lt size b e = none at to size

  interrupt_of-spans : (scope at : ℕ) (fs : List Form) (from to : ℕ) → at < from → at < to → Between from fs to → Each ProgCovers fs → Spans at to (interrupt_of theory scope at (as_parts fs))
  unfolding interrupt_of
  interrupt_of-spans scope at fs from to lt size b e =
      gives-spans at to (guard_of theory scope at (as_parts fs)) (λ guarded. interrupt guarded.cond guarded.body at) (guard_of-spans scope at fs from to lt size b e)

  construct_of-covers : (f : Form) (scope : ℕ) (keyword : Keyword) (fs : List Form) (from : ℕ) → IsInOrder f → place_of f < from → Between from fs (end_of f) → Each ProgCovers fs
      → Covers f (construct_of theory procs f scope keyword (as_parts fs))
  unfolding construct_of seq_of choice_of conc_of prio_of star_of cstar_of interrupts_of
  construct_of-covers f scope Act fs from order lt b e = act_of-spans (place_of f) (arguments f) (end_of f) (stands f order).size (arguments-between f order)
  construct_of-covers f scope Test fs from order lt b e = test_of-spans scope (place_of f) fs from (end_of f) lt (stands f order).size b
  construct_of-covers f scope Seq fs from order lt b e =
      gives-spans (place_of f) (end_of f) (progs_of scope (as_parts fs)) (λ progs. prog.Seq progs (place_of f))
      (later (place_of f) from (end_of f) (progs_of scope (as_parts fs)) (omega arith) (progs_of-spans scope fs from (end_of f) b e))
  construct_of-covers f scope Choice fs from order lt b e =
      gives-spans (place_of f) (end_of f) (several_of scope (place_of f) (as_parts fs)) (λ progs. prog.Choice progs (place_of f)) (several_of-spans scope (place_of f) fs from (end_of f) lt b e)
  construct_of-covers f scope Pick fs from order lt b e = pick_of-spans scope (place_of f) fs from (end_of f) lt (stands f order).size b e
  construct_of-covers f scope Star fs from order lt b e =
      gives-spans (place_of f) (end_of f) (one_of scope (place_of f) (as_parts fs)) (λ body. prog.Star body (place_of f)) (one_of-spans scope (place_of f) fs from (end_of f) lt (stands f order).size b e)
  construct_of-covers f scope If fs from order lt b e = if_of-spans scope (place_of f) fs from (end_of f) lt (stands f order).size b e
  construct_of-covers f scope While fs from order lt b e = while_of-spans scope (place_of f) fs from (end_of f) lt (stands f order).size b e
  construct_of-covers f scope Conc fs from order lt b e =
      gives-spans (place_of f) (end_of f) (several_of scope (place_of f) (as_parts fs)) (λ progs. prog.Conc progs (place_of f)) (several_of-spans scope (place_of f) fs from (end_of f) lt b e)
  construct_of-covers f scope Prio fs from order lt b e =
      gives-spans (place_of f) (end_of f) (several_of scope (place_of f) (as_parts fs)) (λ progs. prog.Prio progs (place_of f)) (several_of-spans scope (place_of f) fs from (end_of f) lt b e)
  construct_of-covers f scope Cstar fs from order lt b e =
      gives-spans (place_of f) (end_of f) (one_of scope (place_of f) (as_parts fs)) (λ body. prog.Cstar body (place_of f)) (one_of-spans scope (place_of f) fs from (end_of f) lt (stands f order).size b e)
  construct_of-covers f scope Call fs from order lt b e = call_of-spans (place_of f) (arguments f) (end_of f) (stands f order).size (arguments-between f order)
  construct_of-covers f scope Search fs from order lt b e = search_of-spans scope (place_of f) fs from (end_of f) lt (stands f order).size b e
  construct_of-covers f scope Interrupt fs from order lt b e = interrupt_of-spans scope (place_of f) fs from (end_of f) lt (stands f order).size b e
  construct_of-covers f scope Interrupts fs from order lt b e =
      gives-spans (place_of f) (end_of f) (one_of scope (place_of f) (as_parts fs)) (λ body. interrupts body (place_of f)) (one_of-spans scope (place_of f) fs from (end_of f) lt (stands f order).size b e)

  list_of-covers : (f : Form) (scope : ℕ) (keyword : Option Keyword) (fs : List Form) (from : ℕ) → IsInOrder f → place_of f < from → Between from fs (end_of f) → Each ProgCovers fs
      → Covers f (list_of theory procs f scope keyword (as_parts fs))
  list_of-covers f scope None fs from order lt b e = none (place_of f) (end_of f) (stands f order).size
  list_of-covers f scope (Some keyword) fs from order lt b e = construct_of-covers f scope keyword fs from order lt b e

  prog_by-covers : (f : Form) (fs : List Form) (scope : ℕ) → IsInOrder f → Between (place_of f + 1) fs (end_of f) → Each ProgCovers fs
      → Covers f (prog_by theory procs f (as_parts fs) scope)
  prog_by-covers f [] scope order b e = nil_of-covers f order
  prog_by-covers f (head ∷ fs) scope order b e =
      list_of-covers f scope (keyword_of (word head)) fs (end_of head) order (omega (arith, b.0, (stands head b.1).size)) b.2 e.1

  pub prog_of-covers : (f : Form) → IsInOrder f → (scope : ℕ) → Covers f (prog_of theory procs f scope)
  prog_of-covers = by_parts ProgCovers (λ f e order scope.
      subst (λ (reading : Reading DraftProg). Covers f reading) (sym (prog_of-parts theory procs f scope)) (prog_by-covers f (parts f) scope order (stands f order).inner e))

pub ruleset laws = (prog_of-covers)
