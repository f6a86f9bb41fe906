-- What a program keeps: what it names is declared, with as many arguments as declared, and not too many variables
-- are in scope.
use Rattle.std.proofs.Common.{◌≡◌, ℕ, ◌+◌, ◌<◌, zero, suc, Bool, true, false, not, ◌&&◌, ◌==◌, List, [], ◌∷◌, ◌++◌, length, map, take, Option, Some, None, refl, sym, ap, subst, ◌∙◌, arith}
use Rattle.std.specs.Prelude.{if◌then◌else◌, codes, nat_le, nat_lt, slice_get, position}
use Rattle.std.specs.List.{list_all}
use Rattle.std.specs.Option.{option_map_or}
use Rattle.std.proofs.lemmas.List.Folds.{list_all-map}
use Rattle.golog_base.specs.Names.{is_name}
use Rattle.golog_form.specs.declared.form.Form.{Form}
use Rattle.golog_form.specs.Shape.{place_of}
use Rattle.golog_tree.specs.declared.draft.DraftTheory.{DraftTheory}
use Rattle.golog_tree.specs.declared.draft.DraftFluent.{DraftFluent}
use Rattle.golog_tree.specs.declared.draft.DraftAction.{DraftAction}
use Rattle.golog_tree.specs.declared.draft.DraftProc.{DraftProc}
use Rattle.golog_tree.specs.declared.draft_cond.DraftArg.{DraftArg}
use Rattle.golog_tree.specs.declared.draft_cond.DraftCond.{DraftCond}
use Rattle.golog_tree.specs.declared.draft_cond.DraftCond.TheVariants as cond
use Rattle.golog_tree.specs.declared.draft_prog.DraftProg.{DraftProg}
use Rattle.golog_tree.specs.declared.draft_prog.DraftProg.TheVariants as prog
use Rattle.golog_tree.specs.declared.draft_prog.DraftProg.TheOpen as draft
use Rattle.golog_tree.specs.declared.draft_prog.DraftProg.TheOpen.{DraftProg-F}
use Rattle.golog_tree.specs.declared.draft_prog.DraftProg.TheViews.{roll-DraftProg}
use Rattle.golog_tree.specs.declared.draft_prog.DraftProg.TheFolds.{fold-roll-DraftProg, map-DraftProg}
use Rattle.golog_theory.specs.declared.conditions.Binder.{Binder}
use Rattle.golog_theory.specs.Reading.{Reading, gives, refused, row, ◌>>=◌, each}
use Rattle.golog_theory.specs.Names.{same, action_no}
use Rattle.golog_theory.specs.Parts.{word, parts, number_of}
use Rattle.golog_theory.specs.Heads.{arguments, args_of, declared_with}
use Rattle.golog_theory.specs.Conditions.{binder_of, cond_of}
use Rattle.golog_theory.specs.Recursion.{Part}
use Rattle.golog_semantics.specs.Ways.{is_empty}
use Rattle.golog_draft.specs.Drafts.{BeginsBuiltIn, signature, cond_keeps, draft_action_at, act_keeps, call_keeps, prog_keeps_step, prog_keeps, draft_running, draft_own_action}
use Rattle.golog_theory.proofs.Inside.{Each, by_parts}
use Rattle.golog_theory.proofs.Yields.{Yields, gives-yields, refused-yields, row-yields, if-yields, then-yields}
use Rattle.golog_theory.proofs.Kept.{all_push}
use Rattle.golog_theory.proofs.KeptTerms.{same-count, args_of-yields, equals}
use Rattle.golog_theory.proofs.KeptConds as conds
use Rattle.golog_theory.proofs.KeptConds.{cond_of-yields, binder_of-yields, room}
use Rattle.golog_theory.proofs.KeptStill.{cond-still}
use Rattle.golog_theory.specs.declared.heads.Callee.{Callee}
use Rattle.golog_prog.specs.declared.keyword.Keyword.{Keyword}
use Rattle.golog_prog.specs.declared.keyword.Keyword.TheVariants.{Act, Test, Seq, Choice, Pick, Star, If, While, Conc, Prio, Cstar, Call, Search, Interrupt, Interrupts}
use Rattle.golog_prog.specs.declared.procedures.Declared.{Declared}
use Rattle.golog_prog.specs.declared.programs.Guarded.{Guarded}
use Rattle.golog_prog.specs.Callees.{own_action, action_at, action_named, procedure, proc_at, proc_named, named}
use Rattle.golog_prog.specs.Constructs.{InScope, act_of, call_of, test_of, progs_of, several_of, seq_of, choice_of, conc_of, prio_of, pick_of, one_of, star_of, cstar_of, guarded_of, guard_of, if_of, while_of, search_of, interrupt, interrupt_of, interrupts, interrupts_of}
use Rattle.golog_prog.specs.Keywords.{keyword_of}
use Rattle.golog_prog.specs.Programs.{nil_of, construct_of, list_of, prog_by, prog_of, prog_part}
use Rattle.golog_prog.proofs.Progs.{prog_of-parts}
use Rattle.golog_prog.proofs.Earlier.{Knows, knows-sort, through}

-- the number of what is named, and as many arguments as it has
record IsNamed (args : List Form) (callee : Option Callee) (item : ℕ) : Type 0 where
  is : Callee
  found : callee ≡ Some is
  number : is.item ≡ item
  count : length args ≡ is.arity

declared_with-yields : (at name : ℕ) (args : List Form) (callee : Option Callee) → Yields (IsNamed args callee) (declared_with at name (length args) callee)
unfolding declared_with
declared_with-yields at name args None = refused-yields (IsNamed args None) 23 name
declared_with-yields at name args (Some callee) =
    row-yields (IsNamed args (Some callee)) (not (length args == callee.arity)) (24, at) _ (λ count.
    gives-yields (IsNamed args (Some callee)) callee.item (record { is = callee; found = refl; number = refl; count = same-count (length args) callee.arity count }))

named-yields : (at : ℕ) (name : Form) (args : List Form) (callee : Option Callee) → Yields (IsNamed args callee) (named at name args callee)
unfolding named
named-yields at name args callee =
    if-yields (IsNamed args callee) (is_name (word name)) (declared_with at (place_of name) (length args) callee) (refused 20 (place_of name))
    (λ _. declared_with-yields at (place_of name) args callee) (λ _. refused-yields (IsNamed args callee) 20 (place_of name))

-- an action that a program may do
abbrev Fits : ℕ → DraftAction → Bool
Fits n item = length item.args == n && is_empty item.posters

some_value : Callee → Option Callee → Callee
some_value other None = other
some_value other (Some callee) = callee

callee-is : (one other : Callee) → ◌≡◌ {A = Option Callee} (Some one) (Some other) → one ≡ other
unfolding some_value
callee-is one other e = ap (some_value one) e

own-keeps : (item : ℕ) (action : DraftAction) (callee : Callee) (n : ℕ) → own_action item (Some action) ≡ Some callee → n ≡ callee.arity → (callee.item ≡ item) × (Fits n action ≡ true)
own-keeps item action callee n e count = go action.posters e
  where
    go : (posters : List ℕ) → (if nat_lt 0 (length posters) then None else Some (record { item = item; arity = length action.args })) ≡ Some callee
        → (callee.item ≡ item) × ((length action.args == n && is_empty posters) ≡ true)
    go [] e =
        let is = callee-is (record { item = item; arity = length action.args }) callee e in
        let arity : length action.args ≡ callee.arity = ap (λ (c : Callee). c.arity) is in
        (sym (ap (λ (c : Callee). c.item) is), rw (equals (length action.args) n (arity ∙ sym count)) refl)
    go (poster ∷ posters) e = absurd (wrong (nat_lt 0 (suc (length posters))) (some (length posters)) e)
      where
        some : (n : ℕ) → nat_lt 0 (suc n) ≡ true
        some n = grind arith

        wrong : (b : Bool) → b ≡ true → (if b then None else Some (record { item = item; arity = length action.args })) ≡ Some callee → ⊥
        wrong true h e = cc
        wrong false h e = cc

action-keeps : (theory : DraftTheory) (o : Option ℕ) (callee : Callee) (n : ℕ) → action_at theory o ≡ Some callee → n ≡ callee.arity
    → draft_action_at theory callee.item n (λ item. is_empty item.posters) ≡ true
action-keeps theory None callee n e count = absurd cc
action-keeps theory (Some item) callee n e count = go (slice_get theory.actions item) refl
  where
    go : (o : Option DraftAction) → slice_get theory.actions item ≡ o → draft_action_at theory callee.item n (λ item. is_empty item.posters) ≡ true
    go None at = absurd (wrong (sym (ap (own_action item) at) ∙ e))
      where
        wrong : ◌≡◌ {A = Option Callee} None (Some callee) → ⊥
        wrong h = cc
    go (Some action) at =
        let own = own-keeps item action callee n (sym (ap (own_action item) at) ∙ e) count in
        ap (λ i. draft_action_at theory i n (λ item. is_empty item.posters)) own.0 ∙ ap (λ o. option_map_or (Fits n) o false) at ∙ own.1

-- a procedure that is declared
proc-keeps : (declared : List Declared) (o : Option ℕ) (callee : Callee) (n : ℕ) → proc_at declared o ≡ Some callee → n ≡ callee.arity
    → option_map_or (λ (proc : Declared). proc.params == n) (slice_get declared callee.item) false ≡ true
proc-keeps declared None callee n e count = absurd cc
proc-keeps declared (Some item) callee n e count = go (slice_get declared item) refl
  where
    go : (o : Option Declared) → slice_get declared item ≡ o → option_map_or (λ (proc : Declared). proc.params == n) (slice_get declared callee.item) false ≡ true
    go None at = absurd (wrong (sym (ap (procedure item) at) ∙ e))
      where
        wrong : ◌≡◌ {A = Option Callee} None (Some callee) → ⊥
        wrong h = cc
    go (Some proc) at =
        let is = callee-is (record { item = item; arity = proc.params }) callee (sym (ap (procedure item) at) ∙ e) in
        let number : callee.item ≡ item = sym (ap (λ (c : Callee). c.item) is) in
        let arity : proc.params ≡ callee.arity = ap (λ (c : Callee). c.arity) is in
        ap (λ i. option_map_or (λ (proc : Declared). proc.params == n) (slice_get declared i) false) number
        ∙ ap (λ o. option_map_or (λ (proc : Declared). proc.params == n) o false) at ∙ equals proc.params n (arity ∙ sym count)

-- the procedures have as many parameters as declared
abbrev pub Counts : List Declared → List DraftProc → Type 0
Counts declared procs = map (λ (proc : Declared). proc.params) declared ≡ map (λ (proc : DraftProc). length proc.params) procs

module _ (theory known : DraftTheory) (declared : List Declared) (procs : List DraftProc) (begins : BeginsBuiltIn theory) (knows : Knows known theory) (counts : Counts declared procs) where
  abbrev keeps : DraftProg → ℕ → Bool
  keeps = prog_keeps theory procs

  -- a program by its layer
  by-layer : (l : DraftProg-F DraftProg) (d : DraftProg) (scope : ℕ) → roll-DraftProg l ≡ d
      → prog_keeps_step theory procs (map-DraftProg DraftProg (ℕ → Bool) keeps l) scope ≡ true → keeps d scope ≡ true
  by-layer l d scope e k =
      ap (λ d. keeps d scope) (sym e) ∙ ap (λ (f : ℕ → Bool). f scope) (fold-roll-DraftProg (ℕ → Bool) (prog_keeps_step theory procs) l) ∙ k

  abbrev Keeps : ℕ → DraftProg → Type 0
  Keeps scope d = keeps d scope ≡ true

  -- a program that a part gives
  made : (l : DraftProg-F DraftProg) (d : DraftProg) (scope : ℕ) → roll-DraftProg l ≡ d
      → prog_keeps_step theory procs (map-DraftProg DraftProg (ℕ → Bool) keeps l) scope ≡ true → Yields (Keeps scope) (gives d)
  made l d scope e k = gives-yields (Keeps scope) d (by-layer l d scope e k)

  abbrev IsKept : Form → Type 0
  IsKept f = (scope : ℕ) → Yields (Keeps scope) (prog_of known declared f scope)

  abbrev as_parts : List Form → List (Part InScope)
  as_parts fs = map (prog_part known declared) fs

  -- no program
  none : (scope at : ℕ) → Yields (Keeps scope) (refused {A = DraftProg} 20 at)
  none scope at = refused-yields (Keeps scope) 20 at

  nil-keeps : (at scope : ℕ) → Keeps scope (prog.Nil at)
  nil-keeps at scope = by-layer (draft.Nil at) (prog.Nil at) scope (prog.rolls-Nil at) refl

  nil_of-yields : (f : Form) (scope : ℕ) → Yields (Keeps scope) (nil_of f)
  unfolding nil_of
  nil_of-yields f scope =
      if-yields (Keeps scope) (same (word f) (codes "nil")) (gives (prog.Nil (place_of f))) (refused 20 (place_of f))
      (λ _. gives-yields (Keeps scope) (prog.Nil (place_of f)) (nil-keeps (place_of f) scope)) (λ _. none scope (place_of f))

  -- what is named, with the arguments
  act-keeps : (name : List ℕ) (args : List Form) (action : ℕ) (given : List DraftArg) → IsNamed args (action_named known name) action → length given ≡ length args
      → act_keeps theory procs action given ≡ true
  unfolding action_named
  act-keeps name args action given named count =
      let known-keeps = action-keeps known (action_no known name) named.is (length given) named.found (count ∙ named.count) in
      ap (λ i. draft_action_at theory i (length given) (λ item. is_empty item.posters)) (sym named.number)
      ∙ knows.actions named.is.item (length given) (λ item. is_empty item.posters) known-keeps

  call-keeps : (name : List ℕ) (args : List Form) (item : ℕ) (given : List DraftArg) → IsNamed args (proc_named declared name) item → length given ≡ length args
      → call_keeps theory procs item given ≡ true
  unfolding proc_named
  call-keeps name args item given named count =
      let n = length given in
      let test = λ (k : ℕ). k == n in
      let of_declared = proc-keeps declared (position (λ (proc : Declared). same name proc.name) declared) named.is n named.found (count ∙ named.count) in
      ap (λ i. option_map_or (λ (proc : DraftProc). length proc.params == n) (slice_get procs i) false) (sym named.number)
      ∙ sym (through (λ (proc : DraftProc). length proc.params) test procs named.is.item)
      ∙ ap (λ ks. option_map_or test (slice_get ks named.is.item) false) (sym counts)
      ∙ through (λ (proc : Declared). proc.params) test declared named.is.item
      ∙ of_declared

  called-yields : (scope : ℕ) (args : List Form) (item : Reading ℕ) (Is : ℕ → Type 0) (make : ℕ → List DraftArg → DraftProg) → Yields Is item
      → ((n : ℕ) (given : List DraftArg) → Is n → length given ≡ length args → Keeps scope (make n given))
      → Yields (Keeps scope) (item >>= λ n. args_of args >>= λ given. gives (make n given))
  called-yields scope args item Is make is keep =
      then-yields _ _ item.outcome _ is (λ n named.
      then-yields _ _ (args_of args).outcome _ (args_of-yields args) (λ given count. gives-yields (Keeps scope) (make n given) (keep n given named count)))

  act_of-yields : (scope at : ℕ) (fs : List Form) → Yields (Keeps scope) (act_of known at fs)
  unfolding act_of
  act_of-yields scope at [] = none scope at
  act_of-yields scope at (name ∷ args) =
      let callee = action_named known (word name) in
      called-yields scope args (named at name args callee) (IsNamed args callee) (λ action given. prog.Act action given at) (named-yields at name args callee) (λ action given is count.
      by-layer (draft.Act action given at) (prog.Act action given at) scope (prog.rolls-Act action given at) (act-keeps (word name) args action given is count))

  call_of-yields : (scope at : ℕ) (fs : List Form) → Yields (Keeps scope) (call_of declared at fs)
  unfolding call_of
  call_of-yields scope at [] = none scope at
  call_of-yields scope at (name ∷ args) =
      let callee = proc_named declared (word name) in
      called-yields scope args (named at name args callee) (IsNamed args callee) (λ item given. prog.Call item given at) (named-yields at name args callee) (λ item given is count.
      by-layer (draft.Call item given at) (prog.Call item given at) scope (prog.rolls-Call item given at) (call-keeps (word name) args item given is count))

  -- a condition over what is known
  abbrev CondKept : ℕ → DraftCond → Type 0
  CondKept scope c = cond_keeps (signature theory) c scope ≡ true

  cond-yields : (c : Form) (scope : ℕ) → Yields (CondKept scope) (cond_of known c scope)
  cond-yields c scope cond e = cond-still known theory knows.declares cond scope (cond_of-yields known c scope cond e)

  test_of-yields : (scope at : ℕ) (fs : List Form) → Yields (Keeps scope) (test_of known scope at (as_parts fs))
  unfolding test_of
  test_of-yields scope at [] = none scope at
  test_of-yields scope at (c ∷ []) =
      then-yields _ _ (cond_of known c scope).outcome _ (cond-yields c scope) (λ cond k.
      made (draft.Test cond at) (prog.Test cond at) scope (prog.rolls-Test cond at) k)
  test_of-yields scope at (c ∷ other ∷ fs) = none scope at

  -- programs, each of which keeps its rules
  abbrev AllKeep : ℕ → List DraftProg → Type 0
  AllKeep scope ds = list_all (λ d. keeps d scope) ds ≡ true

  each-yields : (scope : ℕ) (fs : List Form) → Each IsKept fs → (done : List DraftProg) → AllKeep scope done
      → Yields (AllKeep scope) (each (λ (_ : List DraftProg) (part : Part InScope). part.spelled scope) done (as_parts fs))
  each-yields scope [] e done held = gives-yields (AllKeep scope) done held
  each-yields scope (f ∷ fs) e done held =
      then-yields _ _ (prog_of known declared f scope).outcome _ (e.0 scope)
      (λ d k. each-yields scope fs e.1 (done ++ d ∷ []) (all_push (λ d. keeps d scope) done d held k))

  progs_of-yields : (scope : ℕ) (fs : List Form) → Each IsKept fs → Yields (AllKeep scope) (progs_of scope (as_parts fs))
  unfolding progs_of
  progs_of-yields scope fs e = each-yields scope fs e [] refl

  several_of-yields : (scope at : ℕ) (fs : List Form) → Each IsKept fs → Yields (AllKeep scope) (several_of scope at (as_parts fs))
  unfolding several_of
  several_of-yields scope at fs e =
      row-yields (AllKeep scope) (nat_lt (length (as_parts fs)) 2) (20, at) (progs_of scope (as_parts fs)).outcome (λ _. progs_of-yields scope fs e)

  -- the parts of a layer
  mapped : (scope : ℕ) (ds : List DraftProg) → AllKeep scope ds → list_all (λ (p : ℕ → Bool). p scope) (map keeps ds) ≡ true
  mapped scope ds k = list_all-map (λ (p : ℕ → Bool). p scope) keeps ds ∙ k

  pick_of-yields : (scope at : ℕ) (fs : List Form) → Each IsKept fs → Yields (Keeps scope) (pick_of known scope at (as_parts fs))
  unfolding pick_of
  pick_of-yields scope at [] e = none scope at
  pick_of-yields scope at (binder ∷ []) e = none scope at
  pick_of-yields scope at (binder ∷ body ∷ []) e =
      row-yields (Keeps scope) (nat_le 32 scope) (25, at) _ (λ few.
      then-yields _ _ (binder_of known binder).outcome _ (binder_of-yields known binder) (λ b is.
      then-yields _ _ (prog_of known declared body (scope + 1)).outcome _ (e.1.0 (scope + 1)) (λ d k.
      made (draft.Pick b.var b.sort d at) (prog.Pick b.var b.sort d at) scope (prog.rolls-Pick b.var b.sort d at) (rw (room scope few, knows-sort known theory knows b.sort is, k) refl))))
  pick_of-yields scope at (binder ∷ body ∷ other ∷ fs) e = none scope at

  one_of-yields : (scope at : ℕ) (fs : List Form) → Each IsKept fs → Yields (Keeps scope) (one_of scope at (as_parts fs))
  unfolding one_of
  one_of-yields scope at [] e = none scope at
  one_of-yields scope at (body ∷ []) e = e.0 scope
  one_of-yields scope at (body ∷ other ∷ fs) e = none scope at

  record GuardedKeeps (scope : ℕ) (guarded : Guarded) : Type 0 where
    cond : CondKept scope guarded.cond
    body : Keeps scope guarded.body

  guarded_of-yields : (scope : ℕ) (c body : Form) → IsKept body
      → Yields (GuardedKeeps scope) (guarded_of known scope (prog_part known declared c) (prog_part known declared body))
  unfolding guarded_of
  guarded_of-yields scope c body kept =
      then-yields _ _ (cond_of known c scope).outcome _ (cond-yields c scope) (λ cond k.
      then-yields _ _ (prog_of known declared body scope).outcome _ (kept scope) (λ d k'.
      gives-yields (GuardedKeeps scope) (record { cond = cond; body = d }) (record { cond = k; body = k' })))

  guard_of-yields : (scope at : ℕ) (fs : List Form) → Each IsKept fs → Yields (GuardedKeeps scope) (guard_of known scope at (as_parts fs))
  unfolding guard_of
  guard_of-yields scope at [] e = refused-yields (GuardedKeeps scope) 20 at
  guard_of-yields scope at (c ∷ []) e = refused-yields (GuardedKeeps scope) 20 at
  guard_of-yields scope at (c ∷ body ∷ []) e = guarded_of-yields scope c body e.1.0
  guard_of-yields scope at (c ∷ body ∷ other ∷ fs) e = refused-yields (GuardedKeeps scope) 20 at

  if-keeps : (scope at : ℕ) (c : DraftCond) (d other : DraftProg) → CondKept scope c → Keeps scope d → Keeps scope other → Keeps scope (prog.If c d other at)
  if-keeps scope at c d other k k' k'' = by-layer (draft.If c d other at) (prog.If c d other at) scope (prog.rolls-If c d other at) (rw (k, k', k'') refl)

  while-keeps : (scope at : ℕ) (c : DraftCond) (d : DraftProg) → CondKept scope c → Keeps scope d → Keeps scope (prog.While c d at)
  while-keeps scope at c d k k' = by-layer (draft.While c d at) (prog.While c d at) scope (prog.rolls-While c d at) (rw (k, k') refl)

  if_of-yields : (scope at : ℕ) (fs : List Form) → Each IsKept fs → Yields (Keeps scope) (if_of known scope at (as_parts fs))
  unfolding if_of
  if_of-yields scope at [] e = none scope at
  if_of-yields scope at (c ∷ []) e = none scope at
  if_of-yields scope at (c ∷ body ∷ []) e =
      then-yields _ _ (guarded_of known scope (prog_part known declared c) (prog_part known declared body)).outcome _ (guarded_of-yields scope c body e.1.0) (λ g k.
      gives-yields (Keeps scope) (prog.If g.cond g.body (prog.Nil at) at) (if-keeps scope at g.cond g.body (prog.Nil at) k.cond k.body (nil-keeps at scope)))
  if_of-yields scope at (c ∷ body ∷ other ∷ []) e =
      then-yields _ _ (guarded_of known scope (prog_part known declared c) (prog_part known declared body)).outcome _ (guarded_of-yields scope c body e.1.0) (λ g k.
      then-yields _ _ (prog_of known declared other scope).outcome _ (e.1.1.0 scope) (λ d k'.
      gives-yields (Keeps scope) (prog.If g.cond g.body d at) (if-keeps scope at g.cond g.body d k.cond k.body k')))
  if_of-yields scope at (c ∷ body ∷ other ∷ more ∷ fs) e = none scope at

  while_of-yields : (scope at : ℕ) (fs : List Form) → Each IsKept fs → Yields (Keeps scope) (while_of known scope at (as_parts fs))
  unfolding while_of
  while_of-yields scope at fs e =
      then-yields _ _ (guard_of known scope at (as_parts fs)).outcome _ (guard_of-yields scope at fs e) (λ g k.
      gives-yields (Keeps scope) (prog.While g.cond g.body at) (while-keeps scope at g.cond g.body k.cond k.body))

  search_of-yields : (scope at : ℕ) (fs : List Form) → Each IsKept fs → Yields (Keeps scope) (search_of scope at (as_parts fs))
  unfolding search_of
  search_of-yields scope at [] e = none scope at
  search_of-yields scope at (depth ∷ []) e = none scope at
  search_of-yields scope at (depth ∷ fuel ∷ []) e = none scope at
  search_of-yields scope at (depth ∷ fuel ∷ body ∷ []) e =
      then-yields (λ _. Unit {0}) _ (number_of depth).outcome _ (λ x is. tt) (λ depth' _.
      then-yields (λ _. Unit {0}) _ (number_of fuel).outcome _ (λ x is. tt) (λ fuel' _.
      then-yields _ _ (prog_of known declared body scope).outcome _ (e.1.1.0 scope) (λ d k.
      made (draft.Search depth' fuel' d at) (prog.Search depth' fuel' d at) scope (prog.rolls-Search depth' fuel' d at) k)))
  search_of-yields scope at (depth ∷ fuel ∷ body ∷ other ∷ fs) e = none scope at

  -- what is built in
  running-keeps : (at scope : ℕ) → CondKept scope (cond.Is 0 [] at)
  running-keeps at scope = conds.keeps-Is theory 0 [] at scope ∙ go theory.fluents begins.fluents
    where
      go : (fluents : List DraftFluent) → take 1 fluents ≡ draft_running ∷ []
          → option_map_or (λ arity. arity == 0) (slice_get (map (λ (item : DraftFluent). length item.args) fluents) 0) false ≡ true
      go [] e = absurd cc
      go (fluent ∷ fluents) e = ap (λ (fs : List DraftFluent). option_map_or (λ arity. arity == 0) (slice_get (map (λ (item : DraftFluent). length item.args) fs) 0) false) e

  begins-action : (n : ℕ) (actions : List DraftAction) → n < 2 → take 2 actions ≡ draft_own_action (codes "start_interrupts") ∷ draft_own_action (codes "stop_interrupts") ∷ []
      → option_map_or (Fits 0) (slice_get actions n) false ≡ true
  begins-action n [] lt e = absurd cc
  begins-action n (one ∷ []) lt e = absurd cc
  begins-action zero (one ∷ other ∷ actions) lt e = ap (λ (acts : List DraftAction). option_map_or (Fits 0) (slice_get acts 0) false) e
  begins-action (suc zero) (one ∷ other ∷ actions) lt e = ap (λ (acts : List DraftAction). option_map_or (Fits 0) (slice_get acts 1) false) e
  begins-action (suc (suc n)) (one ∷ other ∷ actions) lt e = absurd (omega (arith, lt))

  built_in-act : (n at scope : ℕ) → n < 2 → Keeps scope (prog.Act n [] at)
  built_in-act n at scope lt =
      by-layer (draft.Act n [] at) (prog.Act n [] at) scope (prog.rolls-Act n [] at) (begins-action n theory.actions lt begins.actions)

  never-keeps : (at scope : ℕ) → Keeps scope (prog.Test (cond.Truth false at) at)
  never-keeps at scope =
      by-layer (draft.Test (cond.Truth false at) at) (prog.Test (cond.Truth false at) at) scope (prog.rolls-Test (cond.Truth false at) at) (conds.keeps-Truth theory false at scope)

  interrupt_of-yields : (scope at : ℕ) (fs : List Form) → Each IsKept fs → Yields (Keeps scope) (interrupt_of known scope at (as_parts fs))
  unfolding interrupt_of
  interrupt_of-yields scope at fs e =
      then-yields _ _ (guard_of known scope at (as_parts fs)).outcome _ (guard_of-yields scope at fs e) (λ g k.
      gives-yields (Keeps scope) (interrupt g.cond g.body at)
      (while-keeps scope at (cond.Is 0 [] at) (prog.If g.cond g.body (prog.Test (cond.Truth false at) at) at) (running-keeps at scope)
      (if-keeps scope at g.cond g.body (prog.Test (cond.Truth false at) at) k.cond k.body (never-keeps at scope))))

  interrupts-keeps : (scope at : ℕ) (d : DraftProg) → Keeps scope d → Keeps scope (interrupts d at)
  interrupts-keeps scope at d k =
      let both = d ∷ prog.Act 1 [] at ∷ [] in
      let running = prog.Prio both at in
      let running-keeps = by-layer (draft.Prio both at) running scope (prog.rolls-Prio both at) (mapped scope both (rw (k, built_in-act 1 at scope (omega arith)) refl)) in
      let all = prog.Act 0 [] at ∷ running ∷ [] in
      by-layer (draft.Seq all at) (prog.Seq all at) scope (prog.rolls-Seq all at) (mapped scope all (rw (built_in-act 0 at scope (omega arith), running-keeps) refl))

  construct_of-yields : (f : Form) (scope : ℕ) (keyword : Keyword) (fs : List Form) → Each IsKept fs → Yields (Keeps scope) (construct_of known declared f scope keyword (as_parts fs))
  unfolding construct_of seq_of choice_of conc_of prio_of star_of cstar_of interrupts_of
  construct_of-yields f scope Act fs e = act_of-yields scope (place_of f) (arguments f)
  construct_of-yields f scope Test fs e = test_of-yields scope (place_of f) fs
  construct_of-yields f scope Seq fs e =
      let at = place_of f in
      then-yields _ _ (progs_of scope (as_parts fs)).outcome _ (progs_of-yields scope fs e) (λ ds k.
      made (draft.Seq ds at) (prog.Seq ds at) scope (prog.rolls-Seq ds at) (mapped scope ds k))
  construct_of-yields f scope Choice fs e =
      let at = place_of f in
      then-yields _ _ (several_of scope at (as_parts fs)).outcome _ (several_of-yields scope at fs e) (λ ds k.
      made (draft.Choice ds at) (prog.Choice ds at) scope (prog.rolls-Choice ds at) (mapped scope ds k))
  construct_of-yields f scope Pick fs e = pick_of-yields scope (place_of f) fs e
  construct_of-yields f scope Star fs e =
      let at = place_of f in
      then-yields _ _ (one_of scope at (as_parts fs)).outcome _ (one_of-yields scope at fs e) (λ d k.
      made (draft.Star d at) (prog.Star d at) scope (prog.rolls-Star d at) k)
  construct_of-yields f scope If fs e = if_of-yields scope (place_of f) fs e
  construct_of-yields f scope While fs e = while_of-yields scope (place_of f) fs e
  construct_of-yields f scope Conc fs e =
      let at = place_of f in
      then-yields _ _ (several_of scope at (as_parts fs)).outcome _ (several_of-yields scope at fs e) (λ ds k.
      made (draft.Conc ds at) (prog.Conc ds at) scope (prog.rolls-Conc ds at) (mapped scope ds k))
  construct_of-yields f scope Prio fs e =
      let at = place_of f in
      then-yields _ _ (several_of scope at (as_parts fs)).outcome _ (several_of-yields scope at fs e) (λ ds k.
      made (draft.Prio ds at) (prog.Prio ds at) scope (prog.rolls-Prio ds at) (mapped scope ds k))
  construct_of-yields f scope Cstar fs e =
      let at = place_of f in
      then-yields _ _ (one_of scope at (as_parts fs)).outcome _ (one_of-yields scope at fs e) (λ d k.
      made (draft.Cstar d at) (prog.Cstar d at) scope (prog.rolls-Cstar d at) k)
  construct_of-yields f scope Call fs e = call_of-yields scope (place_of f) (arguments f)
  construct_of-yields f scope Search fs e = search_of-yields scope (place_of f) fs e
  construct_of-yields f scope Interrupt fs e = interrupt_of-yields scope (place_of f) fs e
  construct_of-yields f scope Interrupts fs e =
      then-yields _ _ (one_of scope (place_of f) (as_parts fs)).outcome _ (one_of-yields scope (place_of f) fs e) (λ d k.
      gives-yields (Keeps scope) (interrupts d (place_of f)) (interrupts-keeps scope (place_of f) d k))

  list_of-yields : (f : Form) (scope : ℕ) (keyword : Option Keyword) (fs : List Form) → Each IsKept fs → Yields (Keeps scope) (list_of known declared f scope keyword (as_parts fs))
  list_of-yields f scope None fs e = none scope (place_of f)
  list_of-yields f scope (Some keyword) fs e = construct_of-yields f scope keyword fs e

  prog_by-yields : (f : Form) (fs : List Form) (scope : ℕ) → Each IsKept fs → Yields (Keeps scope) (prog_by known declared f (as_parts fs) scope)
  prog_by-yields f [] scope e = nil_of-yields f scope
  prog_by-yields f (head ∷ fs) scope e = list_of-yields f scope (keyword_of (word head)) fs e.1

  pub prog_of-yields : (f : Form) (scope : ℕ) → Yields (Keeps scope) (prog_of known declared f scope)
  prog_of-yields = by_parts IsKept (λ f e scope.
      subst (λ (reading : Reading DraftProg). Yields (Keeps scope) reading) (sym (prog_of-parts known declared f scope)) (prog_by-yields f (parts f) scope e))

pub ruleset laws = (prog_of-yields)
