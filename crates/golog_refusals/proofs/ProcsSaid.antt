-- The procedures and the program of an agent that a draft says are what it is taken for, and it says what it is
-- taken for.
use Rattle.std.proofs.Common.{◌≡◌, ℕ, ◌≤◌, Bool, true, false, ◌&&◌, List, [], ◌∷◌, ◌++◌, length, map, Result, Ok, Err, refl, sym, ap, subst, ◌∙◌}
use Rattle.std.specs.Prelude.{not, nat_eq, nat_le}
use Rattle.std.specs.List.{flat_map, list_all}
use Rattle.std.specs.Cmp.Lexicographic.{pointwise, bytes_decides}
use Rattle.std.proofs.lemmas.Bool.{le-leb}
use Rattle.golog_tree.specs.declared.agent.Agent.{Agent}
use Rattle.golog_tree.specs.declared.agent.ProcItem.{ProcItem}
use Rattle.golog_tree.specs.declared.draft.DraftTheory.{DraftTheory}
use Rattle.golog_tree.specs.declared.draft.DraftProgram.{DraftProgram}
use Rattle.golog_tree.specs.declared.draft.DraftProc.{DraftProc}
use Rattle.golog_tree.specs.declared.prog.Prog.{Prog}
use Rattle.golog_rows.specs.Reading.{unless}
use Rattle.golog_rows.specs.Least.{CodeAt}
use Rattle.golog_semantics.specs.Text.{Text}
use Rattle.golog_semantics.specs.BuiltIn.{same_text}
use Rattle.golog_semantics.specs.BlockFree.{block_at, proc_blocks}
use Rattle.golog_semantics.specs.Fits.{bound_from}
use Rattle.golog_semantics.specs.ProgFits.{Position, outermost, prog_fits}
use Rattle.golog_semantics.specs.WellFormed.{ProgramsFit, are_sorts, proc_fits}
use Rattle.golog_semantics.specs.Written.{is_written_prog}
use Rattle.golog_semantics.proofs.Tests.{and_both, and_cases}
use Rattle.golog_draft.specs.Drafts.{ProgramKeeps, draft_args_keep, draft_proc_keeps, prog_keeps}
use Rattle.golog_check.specs.DeclaredItems.{Declared, param_sorts}
use Rattle.golog_check.specs.Least.{refusal_of, refusals, given}
use Rattle.golog_check.specs.Programs.{prog_in}
use Rattle.golog_shapes.specs.DraftNest.{draft_nest}
use Rattle.golog_check.specs.Procs.{params_of, proc_in}
use Rattle.golog_shapes.specs.Shapes.{shape_of, shapes}
use Rattle.golog_shapes.specs.Unguarded.{all_front_refusals}
use Rattle.golog_shapes.specs.DraftBlocks.{block_refusals, all_block_refusals}
use Rattle.golog_check.specs.Check.{main_in, main_of, names_of, all_refusals, agent_of}
use Rattle.golog_check.specs.CheckLaws.{HasItems}
use Rattle.golog_check.proofs.Readings.{past}
use Rattle.golog_check.proofs.PartLaws.{none-before, none-behind, none-refused}
use Rattle.golog_check.proofs.BlockLaws.{blocks-kept}
use Rattle.golog_check.proofs.Transfer.{AllAlike, same-blocks}
use Rattle.golog_check.proofs.ShapeLaws.{proc-is, procs-alike}
use Rattle.golog_check.proofs.Nests.{nests-same}
use Rattle.golog_check.proofs.MadePrograms.{all-true}
use Rattle.golog_refusals.specs.Says.{prog_says}
use Rattle.golog_refusals.specs.SaysAgent.{AreSaid, proc_says}
use Rattle.golog_refusals.proofs.ItemsSaid.{Give, all-taken, one-said}
use Rattle.golog_refusals.proofs.ProgLevels.{then-gives}
use Rattle.golog_refusals.proofs.ProgsTaken.{prog-taken}
use Rattle.golog_refusals.proofs.ProgsSaid.{prog-said}
use Rattle.golog_refusals.proofs.FrontsNone.{fronts-none}
use Rattle.golog_refusals.proofs.BlocksNone.{none-both, prog-free, procs-free}

abbrev proc_of : Text → List ℕ → Prog → ProcItem
proc_of name params body = record { name = name; params = params; body = body }

-- what a draft of a procedure says
record IsSaid (names : Declared) (d : DraftProc) (item : ProcItem) : Type 0 where
  name : item.name ≡ d.name
  params : item.params ≡ param_sorts d
  body : prog_says names d.body (params_of d) item.body ≡ true

proc-parts : (names : Declared) (d : DraftProc) (item : ProcItem) → proc_says names d item ≡ true
    → IsSaid names d item
proc-parts names d item h =
    let s =
    and_cases (same_text item.name d.name && pointwise nat_eq item.params (param_sorts d))
    (prog_says names d.body (params_of d) item.body) h in
    let t = and_cases (same_text item.name d.name) (pointwise nat_eq item.params (param_sorts d)) s.0 in
    record {
      name = (bytes_decides item.name d.name).0 t.0;
      params = (bytes_decides item.params (param_sorts d)).0 t.1;
      body = s.1;
    }

module _ (agent : Agent) (names : Declared) (has : HasItems agent names) where
  proc-taken : (d : DraftProc) (item : ProcItem) → proc_says names d item ≡ true → proc_fits agent item ≡ true
      → (proc_in names d).outcome ≡ Ok item
  unfolding proc_in
  proc-taken d item h f =
      let s = proc-parts names d item h in
      let sorts = param_sorts d in
      let at : Position = record outermost { scope = bound_from 0 item.params } in
      let t =
      and_cases ((are_sorts agent item.params && nat_le (length item.params) 3) && prog_fits agent item.body at)
      (is_written_prog agent item.body (length item.params)) f in
      let u =
      and_cases (are_sorts agent item.params && nat_le (length item.params) 3) (prog_fits agent item.body at) t.0 in
      let read =
      prog-taken agent names has d.body at (length item.params) (params_of d) item.body s.body
      (record { fits = u.1; written = t.1 }) in
      then-gives (prog_in names d.body (params_of d)) (proc_of d.name sorts) item.body read
      ∙ ap (λ n. Ok (proc_of n sorts item.body)) (sym s.name)
      ∙ ap (λ ps. Ok (proc_of item.name ps item.body)) (sym s.params)

  procs-taken : (ds : List DraftProc) (items : List ProcItem) → AreSaid (proc_says names) ds items
      → list_all (proc_fits agent) items ≡ true → Give (map (proc_in names) ds) items
  procs-taken ds items says fit =
      all-taken (proc_in names) (proc_says names) (λ _. true) (proc_fits agent)
      (λ d item keep f h. proc-taken d item h f) ds items (all-true ds) fit says

ok-one : (o : Result Prog CodeAt) → refusal_of o ++ [] ≡ [] → o ≡ Ok (main_of o)
ok-one (Ok p) h = refl
ok-one (Err refusal) h = absurd (cc)

module _ (theory : DraftTheory) (program : DraftProgram) where
  abbrev names : Declared
  names = names_of theory program

  -- what is taken of the procedures and the program of a draft
  pub record AreTaken (agent : Agent) : Type 0 where
    pub procs : Give (map (proc_in (names_of theory program)) program.procs) agent.procs
    pub fronts : all_front_refusals program.procs ≡ []
    pub blocks : all_block_refusals program.procs program.main.body ≡ []
    pub main : refusals (main_in (names_of theory program) program.main ∷ []) ≡ []
    pub main_given : main_of (main_in (names_of theory program) program.main).outcome ≡ agent.main

  module _ (agent : Agent) (has : HasItems agent (names_of theory program)) (fit : ProgramsFit agent) where
    main-taken : prog_says (names_of theory program) program.main.body [] agent.main ≡ true
        → (main_in (names_of theory program) program.main).outcome ≡ Ok agent.main
    unfolding main_in
    main-taken h =
        let read =
        prog-taken agent names has program.main.body outermost 0 [] agent.main h
        (record { fits = fit.main; written = fit.main_written }) in
        let same = nests-same names program.main.body [] agent.main read in
        let low = le-leb (draft_nest program.main.body) 3072 (subst (λ n. n ≤ 3072) same fit.main_nest) in
        ap (λ b. unless (not b) (38, program.main.at) (prog_in names program.main.body []).outcome) low ∙ read

    -- the procedures and the program that a draft says, where they fit, are what it is taken for, and nothing of it
    -- is refused
    pub programs-taken : AreSaid (proc_says (names_of theory program)) program.procs agent.procs
        → prog_says (names_of theory program) program.main.body [] agent.main ≡ true → AreTaken agent
    programs-taken h k =
        let t = procs-taken agent names has program.procs agent.procs h fit.procs in
        let m = main-taken k in
        let alike : AllAlike agent.procs (shapes program.procs).procs =
        subst (λ (items : List ProcItem). AllAlike items (map shape_of program.procs)) t.1
        (procs-alike names program.procs t.0) in
        let refused : List Bool → List CodeAt = λ bs. flat_map (λ (d : DraftProc). block_refusals bs d.body)
        program.procs ++ block_refusals bs program.main.body in
        record {
          procs = t;
          fronts = fronts-none program.procs agent alike fit.guarded fit.front_nests;
          blocks =
              ap refused (sym (same-blocks agent (shapes program.procs) alike))
              ∙ none-both (flat_map (λ (d : DraftProc). block_refusals (proc_blocks agent) d.body) program.procs)
              (block_refusals (proc_blocks agent) program.main.body)
              (procs-free agent names program.procs agent.procs h fit.procs)
              (prog-free agent names program.main.body [] agent.main outermost k fit.main);
          main = ap (λ (o : Result Prog CodeAt). refusal_of o ++ []) m;
          main_given = ap (λ (o : Result Prog CodeAt). main_of o) m;
        }

  module _ (also : ProgramKeeps theory program) (none : all_refusals theory program ≡ []) where
    abbrev bs : List Bool
    bs = proc_blocks (shapes program.procs)

    abbrev refused_in : DraftProc → List CodeAt
    refused_in d = block_refusals (proc_blocks (shapes program.procs)) d.body

    proc-said : (d : DraftProc) (item : ProcItem) → draft_proc_keeps theory program.procs d ≡ true → refused_in d ≡ []
        → (proc_in names d).outcome ≡ Ok item
        → proc_says names d item ≡ true
    proc-said d item keep free e =
        let p = proc-is names d item e in
        let sorts = param_sorts d in
        let t =
        and_cases (draft_args_keep theory sorts) (prog_keeps theory program.procs d.body (length d.params)) keep in
        let body =
        prog-said theory program.procs (block_at bs) d.body false (length d.params) (params_of d) t.1
        (blocks-kept bs d.body free) p.body p.read in
        subst (λ (x : ProcItem). proc_says names d x ≡ true) p.is
        (and_both (same_text d.name d.name && pointwise nat_eq sorts sorts)
        (prog_says names d.body (params_of d) p.body)
        (and_both (same_text d.name d.name) (pointwise nat_eq sorts sorts) ((bytes_decides d.name d.name).1 refl)
        ((bytes_decides sorts sorts).1 refl)) body)

    all-said : (ds : List DraftProc) → list_all (draft_proc_keeps theory program.procs) ds ≡ true
        → flat_map refused_in ds ≡ []
        → refusals (map (proc_in names) ds) ≡ [] → AreSaid (proc_says names) ds (given (map (proc_in names) ds))
    all-said [] keep free h = tt
    all-said (d ∷ ds) keep free h =
        let t =
        and_cases (draft_proc_keeps theory program.procs d) (list_all (draft_proc_keeps theory program.procs) ds) keep
        in
        one-said (proc_says names) d (proc_in names d).outcome (refusals (map (proc_in names) ds)) ds
        (given (map (proc_in names) ds))
        (λ item e. proc-said d item t.0 (none-before (refused_in d) (flat_map refused_in ds) free) e)
        (all-said ds t.1 (none-behind (refused_in d) (flat_map refused_in ds) free)) h

    -- the procedures of the agent that is given are said
    pub procs-said : AreSaid (proc_says (names_of theory program)) program.procs (agent_of theory program).procs
    procs-said =
        let r = none-refused theory program none in
        all-said program.procs also.procs (none-before (flat_map refused_in program.procs)
        (block_refusals bs program.main.body) r.blocks) r.procs

    main-read : (p : Prog) → (main_in names program.main).outcome ≡ Ok p
        → (prog_in names program.main.body []).outcome ≡ Ok p
    unfolding main_in
    main-read p h =
        (past (not (nat_le (draft_nest program.main.body) 3072)) 38 program.main.at
        (prog_in names program.main.body []) p h).rest

    -- and so is its program
    pub main-said : prog_says (names_of theory program) program.main.body [] (agent_of theory program).main ≡ true
    main-said =
        let r = none-refused theory program none in
        let p = main_of (main_in names program.main).outcome in
        prog-said theory program.procs (block_at bs) program.main.body false 0 [] also.main
        (blocks-kept bs program.main.body (none-behind (flat_map refused_in program.procs)
        (block_refusals bs program.main.body) r.blocks))
        p (main-read p (ok-one (main_in names program.main).outcome r.main))
