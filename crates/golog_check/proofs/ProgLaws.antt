-- Programs that are not refused fit the agent, and can stand in its file.
use Rattle.std.proofs.Common.{◌≡◌, ℕ, zero, suc, ℤ, ◌+◌, ◌<◌, ◌≤◌, Bool, true, false, ◌&&◌, ◌==◌, List, [], ◌∷◌, ◌++◌, length, map, refl, sym, ap, subst, ◌∙◌, Option, Some, None, Ok, arith}
use Rattle.std.specs.Prelude.{⊤, not, nat_lt, slice_get, unwrap_or}
use Rattle.std.specs.List.{list_all}
use Rattle.std.specs.Option.{option_map_or}
use Rattle.std.proofs.lemmas.Bool.{eqb-true, ltb-true}
use Rattle.std.proofs.lemmas.List.{length-map}
use Rattle.golog_tree.specs.declared.agent.Agent.{Agent}
use Rattle.golog_tree.specs.declared.agent.SortItem.{SortItem}
use Rattle.golog_tree.specs.declared.agent.FluentItem.{FluentItem}
use Rattle.golog_tree.specs.declared.agent.ActionItem.{ActionItem}
use Rattle.golog_tree.specs.declared.agent.ProcItem.{ProcItem}
use Rattle.golog_tree.specs.declared.cond.Arg.{Arg}
use Rattle.golog_tree.specs.declared.cond.Cond.{Cond}
use Rattle.golog_tree.specs.declared.draft.DraftTheory.{DraftTheory}
use Rattle.golog_tree.specs.declared.draft.DraftFluent.{DraftFluent}
use Rattle.golog_tree.specs.declared.draft.DraftAction.{DraftAction}
use Rattle.golog_tree.specs.declared.draft.DraftParam.{DraftParam}
use Rattle.golog_tree.specs.declared.draft.DraftProc.{DraftProc}
use Rattle.golog_tree.specs.declared.draft_cond.DraftArg.{DraftArg}
use Rattle.golog_tree.specs.declared.draft_cond.DraftCond.{DraftCond}
use Rattle.golog_tree.specs.declared.draft_prog.DraftProg.{DraftProg}
use Rattle.golog_tree.specs.declared.draft_prog.DraftProg.TheOpen as draft
use Rattle.golog_tree.specs.declared.draft_prog.DraftProg.TheOpen.{DraftProg-F}
use Rattle.golog_tree.specs.declared.draft_prog.DraftProg.TheViews.{roll-DraftProg}
use Rattle.golog_tree.specs.declared.draft_prog.DraftProg.TheFolds.{fold-roll-DraftProg, ind-DraftProg, map-DraftProg}
use Rattle.golog_tree.specs.declared.prog.Prog.{Prog}
use Rattle.golog_tree.specs.declared.prog.Way.{Way}
use Rattle.golog_tree.specs.declared.prog.Prog.TheVariants as prog
use Rattle.golog_tree.specs.declared.prog.Prog.TheOpen.{Prog-F, Nil, Act, Test, Seq, Choice, Pick, Star, If, While, Conc, Prio, Cstar, Call, Search}
use Rattle.golog_tree.specs.declared.prog.Prog.TheViews.{roll-Prog}
use Rattle.golog_tree.specs.declared.prog.Prog.TheFolds.{fold-roll-Prog, fold-Way, map-Prog}
use Rattle.golog_tree.specs.Ground.{to_count}
use Rattle.golog_rows.specs.Reading.{Reading, gives, ◌>>=◌, each}
use Rattle.golog_semantics.specs.Ways.{is_empty}
use Rattle.golog_semantics.specs.BlockFree.{block_at, proc_blocks}
use Rattle.golog_semantics.specs.Fits as fits
use Rattle.golog_semantics.specs.Fits.{is_sort, args_fit, cond_fits}
use Rattle.golog_semantics.specs.ProgFits as fitting
use Rattle.golog_semantics.specs.ProgFits.{Position, is_between, depth_limit, fuel_limit, block_fits, prog_fits}
use Rattle.golog_semantics.specs.Written.{written_prog_step, is_written_cond, is_written_prog}
use Rattle.golog_draft.specs.Drafts.{signature, binder_keeps, cond_keeps, act_keeps, call_keeps, prog_keeps, prog_keeps_step}
use Rattle.golog_semantics.proofs.Tests.{and_both, and_cases}
use Rattle.golog_tree.specs.declared.join.Join.{Join}
use Rattle.golog_tree.specs.declared.join.Join.TheVariants.{Seq as InSeq, Choice as InChoice, Conc as InConc, Prio as InPrio}
use Rattle.golog_check.specs.DeclaredItems.{Declared, declared_by, sort_item, action_item, param_sorts}
use Rattle.golog_check.specs.Sorts as sorts
use Rattle.golog_check.specs.Scope.{Scope, variable_no, within}
use Rattle.golog_check.specs.Terms.{args_in}
use Rattle.golog_check.specs.Conditions.{cond_in}
use Rattle.golog_check.specs.Programs.{InScope, joined, nested, progs_in, parts_in, prog_step, prog_in}
use Rattle.golog_check.specs.CheckLaws.{Binds, IsCondOf}
use Rattle.golog_check.specs.ProgramLaws.{HasPrograms, blocks_step, blocks_keep, IsProgOf, position, ProgsFit}
use Rattle.golog_check.proofs.Readings.{both, ok-same}
use Rattle.golog_check.proofs.ArgLaws.{same-number, args-fit-in}
use Rattle.golog_check.proofs.CondLaws.{kept, binds-more}
use Rattle.golog_check.proofs.Signatures.{declared-signature}
use Rattle.golog_check.proofs.Layers.{fits-prog, in-prog, written-prog}

false-not : false ≡ true → ⊥
false-not h = cc

module _ (agent : Agent) where
  -- a program by its layer
  made : (l : Prog-F Prog Way) (p : Prog) → roll-Prog l ≡ p → (at : Position) (n : ℕ)
      → fitting.prog_step agent (map-Prog Prog Way (Position → Bool) (Position → Bool) (prog_fits agent) (fold-Way (Position → Bool) (Position → Bool) (fitting.prog_step agent) (fitting.way_step agent)) l) at ≡ true
      → written_prog_step agent (map-Prog Prog Way (ℕ → Bool) Bool (is_written_prog agent) (fold-Way (ℕ → Bool) Bool (written_prog_step agent) (λ w. false)) l) n ≡ true
      → IsProgOf agent at n p
  made l p e at n f w = subst (IsProgOf agent at n) e (record { fits = ap (λ g. g at) (fits-prog agent l) ∙ f; written = ap (λ g. g n) (written-prog agent l) ∙ w })

  module _ (at : Position) (n : ℕ) where
    two : (p q : Prog) → IsProgOf agent at n p → IsProgOf agent at n q → ((prog_fits agent p at && prog_fits agent q at) ≡ true) × ((is_written_prog agent p n && is_written_prog agent q n) ≡ true)
    two p q h k = (and_both (prog_fits agent p at) (prog_fits agent q at) h.fits k.fits, and_both (is_written_prog agent p n) (is_written_prog agent q n) h.written k.written)

    joined-of : (join : Join) (p q : Prog) → IsProgOf agent at n p → IsProgOf agent at n q → IsProgOf agent at n (joined join p q)
    joined-of InSeq p q h k = let b = two p q h k in made (Seq p q) (prog.Seq p q) (prog.rolls-Seq p q) at n b.0 b.1
    joined-of InChoice p q h k = let b = two p q h k in made (Choice p q) (prog.Choice p q) (prog.rolls-Choice p q) at n b.0 b.1
    joined-of InConc p q h k = let b = two p q h k in made (Conc p q) (prog.Conc p q) (prog.rolls-Conc p q) at n b.0 b.1
    joined-of InPrio p q h k = let b = two p q h k in made (Prio p q) (prog.Prio p q) (prog.rolls-Prio p q) at n b.0 b.1

    abbrev AllOf : List Prog → Type 0
    AllOf [] = ⊤
    AllOf (p ∷ ps) = IsProgOf agent at n p × AllOf ps

    all-more : (ps : List Prog) (p : Prog) → AllOf ps → IsProgOf agent at n p → AllOf (ps ++ p ∷ [])
    all-more [] p h k = (k, tt)
    all-more (q ∷ ps) p h k = (h.0, all-more ps p h.1 k)

    nil-of : IsProgOf agent at n prog.Nil
    nil-of = made Nil prog.Nil prog.rolls-Nil at n refl refl

    nested-of : (join : Join) (ps : List Prog) → AllOf ps → IsProgOf agent at n (nested join ps)
    nested-of join [] h = nil-of
    nested-of join (p ∷ []) h = h.0
    nested-of join (p ∷ q ∷ ps) h = joined-of join p (nested join (q ∷ ps)) h.0 (nested-of join (q ∷ ps) h.1)

module _ (agent : Agent) (theory : DraftTheory) (procs : List DraftProc) (has : HasPrograms agent (declared_by theory procs)) where
  abbrev names : Declared
  names = declared_by theory procs

  abbrev has_block : ℕ → Bool
  has_block = block_at (proc_blocks agent)

  declared-sort : (sort : ℕ) → nat_lt sort (length theory.sorts) ≡ true → is_sort agent sort ≡ true
  declared-sort sort h = ap (λ (items : List SortItem). nat_lt sort (length items)) has.items.sorts ∙ ap (nat_lt sort) (length-map theory.sorts sort_item) ∙ h

  -- an action of the program, with as many arguments as it has
  act-through : (n : ℕ) (items : List DraftAction) (action : ℕ) → option_map_or (λ (i : DraftAction). length i.args == n && is_empty i.posters) (slice_get items action) false ≡ true
      → option_map_or (λ (i : ActionItem). length i.args == n && is_empty i.posters) (slice_get (map action_item items) action) false ≡ true
  act-through n [] action h = h
  act-through n (i ∷ items) zero h = h
  act-through n (i ∷ items) (suc action) h = act-through n items action h

  call-through : (n : ℕ) (items : List DraftProc) (item : ℕ) → option_map_or (λ (i : DraftProc). length i.params == n) (slice_get items item) false ≡ true
      → option_map_or (λ (sorts : List ℕ). length sorts == n) (slice_get (map param_sorts items) item) false ≡ true
  call-through n [] item h = h
  call-through n (i ∷ items) zero h = ap (λ m. m == n) (length-map i.params (λ (param : DraftParam). param.sort)) ∙ h
  call-through n (i ∷ items) (suc item) h = call-through n items item h

  proc-through : (test : List ℕ → Bool) (items : List ProcItem) (item : ℕ) → option_map_or test (slice_get (map (λ (proc : ProcItem). proc.params) items) item) false ≡ true
      → option_map_or (λ (proc : ProcItem). test proc.params) (slice_get items item) false ≡ true
  proc-through test [] item h = h
  proc-through test (i ∷ items) zero h = h
  proc-through test (i ∷ items) (suc item) h = proc-through test items item h

  abbrev pub Kept : DraftProg → Type 0
  Kept d = (inside : Bool) (bound : fits.Scope) (scope : Scope) → Binds agent bound scope → length scope ≤ 32 → prog_keeps theory procs d (length scope) ≡ true → blocks_keep has_block d inside ≡ true
      → (p : Prog) → (prog_in names d scope).outcome ≡ Ok p → IsProgOf agent (position bound inside) (length scope) p

  abbrev Keep : Type 0
  Keep = (d : DraftProg) × Kept d

  abbrev drafts_of : DraftProg-F Keep → DraftProg-F DraftProg
  drafts_of y = map-DraftProg Keep DraftProg (λ d. d.0) y

  keeps-roll : (l : DraftProg-F DraftProg) → prog_keeps theory procs (roll-DraftProg l) ≡ prog_keeps_step theory procs (map-DraftProg DraftProg (ℕ → Bool) (prog_keeps theory procs) l)
  keeps-roll l = fold-roll-DraftProg (ℕ → Bool) (prog_keeps_step theory procs) l

  blocks-roll : (l : DraftProg-F DraftProg) → blocks_keep has_block (roll-DraftProg l) ≡ blocks_step has_block (map-DraftProg DraftProg (Bool → Bool) (blocks_keep has_block) l)
  blocks-roll l = fold-roll-DraftProg (Bool → Bool) (blocks_step has_block) l

  module _ (inside : Bool) (bound : fits.Scope) (scope : Scope) (binds : Binds agent bound scope) (few : length scope ≤ 32) where
    abbrev here : Position
    here = position bound inside

    abbrev Is : Prog → Type 0
    Is p = IsProgOf agent here (length scope) p

    cond-of : (d : DraftCond) (c : Cond) → cond_keeps (signature theory) d (length scope) ≡ true → (cond_in names d scope).outcome ≡ Ok c → IsCondOf agent bound (length scope) c
    cond-of d c keeps h = kept agent names has.items d bound scope binds few (ap (λ s. cond_keeps s d (length scope)) (declared-signature theory procs) ∙ keeps) c h

    act-at : (action : ℕ) (drafts : List DraftArg) (args : List Arg) (o : Option ActionItem) → option_map_or (λ (i : ActionItem). length i.args == length drafts && is_empty i.posters) o false ≡ true
        → (args_in names scope (option_map_or (λ (i : ActionItem). i.args) o []) drafts).outcome ≡ Ok args
        → option_map_or (λ (i : ActionItem). is_empty i.posters && args_fit agent bound i.args args) o false ≡ true
    act-at action drafts args None keeps h = absurd (false-not keeps)
    act-at action drafts args (Some item) keeps h =
        let k = and_cases (length item.args == length drafts) (is_empty item.posters) keeps in
        and_both (is_empty item.posters) (args_fit agent bound item.args args) k.1
        (args-fit-in agent names has.items bound scope binds few item.args drafts (sym (eqb-true (length item.args) (length drafts) k.0)) args h)

    act-made : (action : ℕ) (drafts : List DraftArg) (p : Prog) → act_keeps theory procs action drafts ≡ true → (args_in names scope (sorts.action_sorts names action) drafts >>= λ args. gives (prog.Act action args)).outcome ≡ Ok p → Is p
    act-made action drafts p keeps h =
        let b = both (args_in names scope (sorts.action_sorts names action) drafts) (λ args. gives (prog.Act action args)) p h in
        let fit = act-at action drafts b.value (slice_get names.actions action) (act-through (length drafts) theory.actions action keeps) b.one in
        subst Is (ok-same (prog.Act action b.value) p b.other)
        (made agent (Act action b.value) (prog.Act action b.value) (prog.rolls-Act action b.value) here (length scope)
        (ap (λ items. option_map_or (λ (i : ActionItem). is_empty i.posters && args_fit agent bound i.args b.value) (slice_get items action) false) has.actions ∙ fit) refl)

    call-at : (item : ℕ) (drafts : List DraftArg) (args : List Arg) (o : Option (List ℕ)) → option_map_or (λ (sorts : List ℕ). length sorts == length drafts) o false ≡ true
        → (args_in names scope (unwrap_or o []) drafts).outcome ≡ Ok args → option_map_or (λ (sorts : List ℕ). args_fit agent bound sorts args) o false ≡ true
    call-at item drafts args None keeps h = absurd (false-not keeps)
    call-at item drafts args (Some params) keeps h = args-fit-in agent names has.items bound scope binds few params drafts (sym (eqb-true (length params) (length drafts) keeps)) args h

    call-made : (item : ℕ) (drafts : List DraftArg) (p : Prog) → call_keeps theory procs item drafts ≡ true → not (inside && has_block item) ≡ true
        → (args_in names scope (sorts.param_sorts names item) drafts >>= λ args. gives (prog.Call item args)).outcome ≡ Ok p → Is p
    call-made item drafts p keeps free h =
        let b = both (args_in names scope (sorts.param_sorts names item) drafts) (λ args. gives (prog.Call item args)) p h in
        let fit = call-at item drafts b.value (slice_get names.params item) (call-through (length drafts) procs item keeps) b.one in
        let there = ap (λ items. option_map_or (λ (sorts : List ℕ). args_fit agent bound sorts b.value) (slice_get items item) false) has.params ∙ fit in
        subst Is (ok-same (prog.Call item b.value) p b.other)
        (made agent (Call item b.value) (prog.Call item b.value) (prog.rolls-Call item b.value) here (length scope)
        (and_both (option_map_or (λ (proc : ProcItem). args_fit agent bound proc.params b.value) (slice_get agent.procs item) false) (not (inside && has_block item)) (proc-through (λ sorts. args_fit agent bound sorts b.value) agent.procs item there) free) refl)

    test-made : (d : DraftCond) (p : Prog) → cond_keeps (signature theory) d (length scope) ≡ true → (cond_in names d scope >>= λ c. gives (prog.Test c)).outcome ≡ Ok p → Is p
    test-made d p keeps h =
        let b = both (cond_in names d scope) (λ c. gives (prog.Test c)) p h in
        let c = cond-of d b.value keeps b.one in
        subst Is (ok-same (prog.Test b.value) p b.other) (made agent (Test b.value) (prog.Test b.value) (prog.rolls-Test b.value) here (length scope) c.fits c.written)

    abbrev one_in : List Prog → InScope → Reading Prog
    one_in before f = f scope

    each-of : (ds : List Keep) (done result : List Prog) → list_all (λ p. p (length scope)) (map (prog_keeps theory procs) (map (λ d. d.0) ds)) ≡ true
        → list_all (λ p. p inside) (map (blocks_keep has_block) (map (λ d. d.0) ds)) ≡ true → AllOf agent here (length scope) done
        → (each one_in done (map (prog_in names) (map (λ d. d.0) ds))).outcome ≡ Ok result → AllOf agent here (length scope) result
    each-of [] done result keeps blocks l h = subst (AllOf agent here (length scope)) (ok-same done result h) l
    each-of (d ∷ ds) done result keeps blocks l h =
        let b = both (prog_in names d.0 scope) (λ x. each one_in (done ++ x ∷ []) (map (prog_in names) (map (λ d. d.0) ds))) result h in
        let k = and_cases (prog_keeps theory procs d.0 (length scope)) (list_all (λ p. p (length scope)) (map (prog_keeps theory procs) (map (λ d. d.0) ds))) keeps in
        let j = and_cases (blocks_keep has_block d.0 inside) (list_all (λ p. p inside) (map (blocks_keep has_block) (map (λ d. d.0) ds))) blocks in
        each-of ds (done ++ b.value ∷ []) result k.1 j.1 (all-more agent here (length scope) done b.value l (d.1 inside bound scope binds few k.0 j.0 b.value b.one)) b.other

    parts-made : (join : Join) (ds : List Keep) (p : Prog) → list_all (λ p. p (length scope)) (map (prog_keeps theory procs) (map (λ d. d.0) ds)) ≡ true
        → list_all (λ p. p inside) (map (blocks_keep has_block) (map (λ d. d.0) ds)) ≡ true → (parts_in join scope (map (prog_in names) (map (λ d. d.0) ds))).outcome ≡ Ok p → Is p
    parts-made join ds p keeps blocks h =
        let b = both (progs_in scope (map (prog_in names) (map (λ d. d.0) ds))) (λ parts. gives (nested join parts)) p h in
        subst Is (ok-same (nested join b.value) p b.other) (nested-of agent here (length scope) join b.value (each-of ds [] b.value keeps blocks tt b.one))

    pick-made : (word : List ℕ) (sort : ℕ) (d : Keep) (p : Prog) → (binder_keeps (signature theory) (length scope) sort && prog_keeps theory procs d.0 (length scope + 1)) ≡ true → blocks_keep has_block d.0 inside ≡ true
        → (prog_in names d.0 (within word sort scope) >>= λ p. gives (prog.Pick (variable_no scope) sort p)).outcome ≡ Ok p → Is p
    pick-made word sort d p keeps blocks h =
        let b = both (prog_in names d.0 (within word sort scope)) (λ p. gives (prog.Pick (variable_no scope) sort p)) p h in
        let k = and_cases (binder_keeps (signature theory) (length scope) sort) (prog_keeps theory procs d.0 (length scope + 1)) keeps in
        let j = and_cases (nat_lt (length scope) 32) (nat_lt sort (length theory.sorts)) k.0 in
        let less : length scope < 32 = ltb-true (length scope) 32 j.0 in
        let more : length (within word sort scope) ≡ length scope + 1 = omega arith in
        let no : variable_no scope ≡ length scope = omega (arith, few) in
        let declared = declared-sort sort j.1 in
        let z = d.1 inside (fits.bound bound (length scope) sort) (within word sort scope) (binds-more agent bound word sort scope declared binds) (omega (arith, less, more))
        (subst (λ n. prog_keeps theory procs d.0 n ≡ true) (sym more) k.1) blocks b.value b.one in
        subst Is (ap (λ n. prog.Pick n sort b.value) (sym no) ∙ ok-same (prog.Pick (variable_no scope) sort b.value) p b.other)
        (made agent (Pick (length scope) sort b.value) (prog.Pick (length scope) sort b.value) (prog.rolls-Pick (length scope) sort b.value) here (length scope)
        (and_both (nat_lt (length scope) 32 && is_sort agent sort) (prog_fits agent b.value (position (fits.bound bound (length scope) sort) inside)) (and_both (nat_lt (length scope) 32) (is_sort agent sort) j.0 declared) z.fits)
        (and_both (length scope == length scope) (is_written_prog agent b.value (length scope + 1)) (same-number (length scope)) (subst (λ n. is_written_prog agent b.value n ≡ true) more z.written)))

    star-made : (d : Keep) (p : Prog) → prog_keeps theory procs d.0 (length scope) ≡ true → blocks_keep has_block d.0 inside ≡ true → (prog_in names d.0 scope >>= λ p. gives (prog.Star p)).outcome ≡ Ok p → Is p
    star-made d p keeps blocks h =
        let b = both (prog_in names d.0 scope) (λ p. gives (prog.Star p)) p h in
        let z = d.1 inside bound scope binds few keeps blocks b.value b.one in
        subst Is (ok-same (prog.Star b.value) p b.other) (made agent (Star b.value) (prog.Star b.value) (prog.rolls-Star b.value) here (length scope) z.fits z.written)

    cstar-made : (d : Keep) (p : Prog) → prog_keeps theory procs d.0 (length scope) ≡ true → blocks_keep has_block d.0 inside ≡ true → (prog_in names d.0 scope >>= λ p. gives (prog.Cstar p)).outcome ≡ Ok p → Is p
    cstar-made d p keeps blocks h =
        let b = both (prog_in names d.0 scope) (λ p. gives (prog.Cstar p)) p h in
        let z = d.1 inside bound scope binds few keeps blocks b.value b.one in
        subst Is (ok-same (prog.Cstar b.value) p b.other) (made agent (Cstar b.value) (prog.Cstar b.value) (prog.rolls-Cstar b.value) here (length scope) z.fits z.written)

    if-made : (t : DraftCond) (d e : Keep) (p : Prog) → ((cond_keeps (signature theory) t (length scope) && prog_keeps theory procs d.0 (length scope)) && prog_keeps theory procs e.0 (length scope)) ≡ true
        → (blocks_keep has_block d.0 inside && blocks_keep has_block e.0 inside) ≡ true
        → (cond_in names t scope >>= λ c. prog_in names d.0 scope >>= λ p. prog_in names e.0 scope >>= λ q. gives (prog.If c p q)).outcome ≡ Ok p → Is p
    if-made t d e p keeps blocks h =
        let k = and_cases (cond_keeps (signature theory) t (length scope) && prog_keeps theory procs d.0 (length scope)) (prog_keeps theory procs e.0 (length scope)) keeps in
        let j = and_cases (cond_keeps (signature theory) t (length scope)) (prog_keeps theory procs d.0 (length scope)) k.0 in
        let i = and_cases (blocks_keep has_block d.0 inside) (blocks_keep has_block e.0 inside) blocks in
        let a = both (cond_in names t scope) (λ c. prog_in names d.0 scope >>= λ p. prog_in names e.0 scope >>= λ q. gives (prog.If c p q)) p h in
        let f = both (prog_in names d.0 scope) (λ p. prog_in names e.0 scope >>= λ q. gives (prog.If a.value p q)) p a.other in
        let g = both (prog_in names e.0 scope) (λ q. gives (prog.If a.value f.value q)) p f.other in
        let c = cond-of t a.value j.0 a.one in
        let y = d.1 inside bound scope binds few j.1 i.0 f.value f.one in
        let z = e.1 inside bound scope binds few k.1 i.1 g.value g.one in
        subst Is (ok-same (prog.If a.value f.value g.value) p g.other)
        (made agent (If a.value f.value g.value) (prog.If a.value f.value g.value) (prog.rolls-If a.value f.value g.value) here (length scope)
        (and_both (cond_fits agent a.value bound && prog_fits agent f.value here) (prog_fits agent g.value here) (and_both (cond_fits agent a.value bound) (prog_fits agent f.value here) c.fits y.fits) z.fits)
        (and_both (is_written_cond agent a.value (length scope) && is_written_prog agent f.value (length scope)) (is_written_prog agent g.value (length scope)) (and_both (is_written_cond agent a.value (length scope)) (is_written_prog agent f.value (length scope)) c.written y.written) z.written))

    while-made : (t : DraftCond) (d : Keep) (p : Prog) → (cond_keeps (signature theory) t (length scope) && prog_keeps theory procs d.0 (length scope)) ≡ true → blocks_keep has_block d.0 inside ≡ true
        → (cond_in names t scope >>= λ c. prog_in names d.0 scope >>= λ p. gives (prog.While c p)).outcome ≡ Ok p → Is p
    while-made t d p keeps blocks h =
        let k = and_cases (cond_keeps (signature theory) t (length scope)) (prog_keeps theory procs d.0 (length scope)) keeps in
        let a = both (cond_in names t scope) (λ c. prog_in names d.0 scope >>= λ p. gives (prog.While c p)) p h in
        let b = both (prog_in names d.0 scope) (λ p. gives (prog.While a.value p)) p a.other in
        let c = cond-of t a.value k.0 a.one in
        let y = d.1 inside bound scope binds few k.1 blocks b.value b.one in
        subst Is (ok-same (prog.While a.value b.value) p b.other)
        (made agent (While a.value b.value) (prog.While a.value b.value) (prog.rolls-While a.value b.value) here (length scope)
        (and_both (cond_fits agent a.value bound) (prog_fits agent b.value here) c.fits y.fits) (and_both (is_written_cond agent a.value (length scope)) (is_written_prog agent b.value (length scope)) c.written y.written))

    search-made : (depth fuel : ℤ) (d : Keep) (p : Prog) → prog_keeps theory procs d.0 (length scope) ≡ true
        → (((not inside && is_between 1 depth_limit (to_count depth)) && is_between 1 fuel_limit (to_count fuel)) && blocks_keep has_block d.0 true) ≡ true
        → (prog_in names d.0 scope >>= λ p. gives (prog.Search (to_count depth) (to_count fuel) p)).outcome ≡ Ok p → Is p
    search-made depth fuel d p keeps blocks h =
        let b = both (prog_in names d.0 scope) (λ p. gives (prog.Search (to_count depth) (to_count fuel) p)) p h in
        let i = and_cases ((not inside && is_between 1 depth_limit (to_count depth)) && is_between 1 fuel_limit (to_count fuel)) (blocks_keep has_block d.0 true) blocks in
        let z = d.1 true bound scope binds few keeps i.1 b.value b.one in
        subst Is (ok-same (prog.Search (to_count depth) (to_count fuel) b.value) p b.other)
        (made agent (Search (to_count depth) (to_count fuel) b.value) (prog.Search (to_count depth) (to_count fuel) b.value) (prog.rolls-Search (to_count depth) (to_count fuel) b.value) here (length scope)
        (and_both (block_fits here (to_count depth) (to_count fuel)) (prog_fits agent b.value (position bound true)) i.0 z.fits) z.written)

    layer : (y : DraftProg-F Keep) → prog_keeps_step theory procs (map-DraftProg DraftProg (ℕ → Bool) (prog_keeps theory procs) (drafts_of y)) (length scope) ≡ true
        → blocks_step has_block (map-DraftProg DraftProg (Bool → Bool) (blocks_keep has_block) (drafts_of y)) inside ≡ true → (p : Prog)
        → (prog_step names (map-DraftProg DraftProg InScope (prog_in names) (drafts_of y)) scope).outcome ≡ Ok p → Is p
    layer (draft.Nil at) keeps blocks p h = subst Is (ok-same prog.Nil p h) (nil-of agent here (length scope))
    layer (draft.Act action args at) keeps blocks p h = act-made action args p keeps h
    layer (draft.Test c at) keeps blocks p h = test-made c p keeps h
    layer (draft.Seq ds at) keeps blocks p h = parts-made InSeq ds p keeps blocks h
    layer (draft.Choice ds at) keeps blocks p h = parts-made InChoice ds p keeps blocks h
    layer (draft.Pick word sort d at) keeps blocks p h = pick-made word sort d p keeps blocks h
    layer (draft.Star d at) keeps blocks p h = star-made d p keeps blocks h
    layer (draft.If c d e at) keeps blocks p h = if-made c d e p keeps blocks h
    layer (draft.While c d at) keeps blocks p h = while-made c d p keeps blocks h
    layer (draft.Conc ds at) keeps blocks p h = parts-made InConc ds p keeps blocks h
    layer (draft.Prio ds at) keeps blocks p h = parts-made InPrio ds p keeps blocks h
    layer (draft.Cstar d at) keeps blocks p h = cstar-made d p keeps blocks h
    layer (draft.Call item args at) keeps blocks p h = call-made item args p keeps blocks h
    layer (draft.Search depth fuel d at) keeps blocks p h = search-made depth fuel d p keeps blocks h

  kept-layer : (y : DraftProg-F Keep) → Kept (roll-DraftProg (drafts_of y))
  kept-layer y inside bound scope binds few keeps blocks p h =
      layer inside bound scope binds few y (sym (ap (λ g. g (length scope)) (keeps-roll (drafts_of y))) ∙ keeps) (sym (ap (λ g. g inside) (blocks-roll (drafts_of y))) ∙ blocks) p
      (ap (λ (f : InScope). (f scope).outcome) (sym (in-prog names (drafts_of y))) ∙ h)

  pub prog-kept : (d : DraftProg) → Kept d
  prog-kept = ind-DraftProg Kept (λ x y is. subst (λ l. Kept (roll-DraftProg l)) is (kept-layer y))

pub progs-fit : ProgsFit
progs-fit agent theory procs has draft inside bound scope binds few keeps blocks prog h = prog-kept agent theory procs has draft inside bound scope binds few keeps blocks prog h
