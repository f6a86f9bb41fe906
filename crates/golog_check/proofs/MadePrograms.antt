-- The agent that a draft makes: its start values and its program.
use Rattle.std.proofs.Common.{◌≡◌, ℕ, suc, ◌+◌, ◌≤◌, Bool, true, false, not, ◌&&◌, ◌||◌, List, [], ◌∷◌, ◌++◌, length, map, Option, Result, Ok, Err, Some, None, refl, sym, ap, subst, ◌∙◌, arith}
use Rattle.std.specs.Prelude.{◌==◌, nat_eq, nat_lt, nat_le, slice_get, if◌then◌else◌, option_map, option_and_then, unwrap_or}
use Rattle.std.specs.List.{list_all, enumerate_from, flat_map}
use Rattle.std.specs.Cmp.Lexicographic.{pointwise}
use Rattle.std.proofs.lemmas.Bool.{eqb-true, eq-eqb}
use Rattle.std.proofs.lemmas.Bool.Decides.{nat_tests}
use Rattle.std.proofs.lemmas.List.{length-map}
use Rattle.golog_tree.specs.declared.agent.Agent.{Agent}
use Rattle.golog_tree.specs.declared.agent.FluentItem.{FluentItem}
use Rattle.golog_tree.specs.declared.agent.ProcItem.{ProcItem}
use Rattle.golog_tree.specs.declared.draft.DraftParam.{DraftParam}
use Rattle.golog_tree.specs.declared.draft.DraftProc.{DraftProc}
use Rattle.golog_tree.specs.declared.draft_prog.DraftProg.{DraftProg}
use Rattle.golog_tree.specs.declared.cond.Arg.{Arg}
use Rattle.golog_tree.specs.declared.cond.Arg.TheVariants.{Const, Var}
use Rattle.golog_tree.specs.declared.prog.Prog.{Prog}
use Rattle.golog_tree.specs.declared.draft.DraftTheory.{DraftTheory}
use Rattle.golog_tree.specs.declared.draft.DraftProgram.{DraftProgram}
use Rattle.golog_tree.specs.declared.draft.DraftStart.{DraftStart}
use Rattle.golog_tree.specs.declared.draft.DraftStart.TheVariants.{Each, One}
use Rattle.golog_tree.specs.declared.draft_cond.DraftArg.{DraftArg}
use Rattle.golog_tree.specs.Nest.{nest}
use Rattle.golog_tree.specs.Ground.{Ground, sort_size, ground_fluents}
use Rattle.golog_draft.specs.DraftPlaces.{arg_place}
use Rattle.golog_rows.specs.Reading.{Reading, gives, ◌>>=◌}
use Rattle.golog_semantics.specs.Truth.{unknown}
use Rattle.golog_semantics.specs.Fits.{bound_from, nothing_bound}
use Rattle.golog_semantics.specs.ProgFits.{outermost, prog_fits}
use Rattle.golog_semantics.specs.Written.{is_written_prog}
use Rattle.golog_semantics.specs.BlockFree.{block_at, proc_blocks}
use Rattle.golog_draft.specs.Drafts.{TheoryKeeps, ProgramKeeps, draft_args_keep, draft_proc_keeps, is_draft_sort, param_words, prog_keeps}
use Rattle.golog_semantics.specs.WellFormed.{StartsFit, ProgramsFit, proc_fits, start_fits}
use Rattle.golog_semantics.proofs.Tests.{and_both, and_cases, or_first, or_second}
use Rattle.golog_check.specs.declared.starts.Start.{Start}
use Rattle.golog_check.specs.declared.starts.Start.TheVariants as start
use Rattle.golog_check.specs.DeclaredItems.{Declared, declared_by, param_sorts}
use Rattle.golog_rows.specs.Least.{CodeAt}
use Rattle.golog_check.specs.Least.{refusal_of}
use Rattle.golog_check.specs.Terms.{arg_in, args_in}
use Rattle.golog_check.specs.Starts.{constant, constant_in, own_sort, value_in, one_in, start_in, own_after, own_value, one_after, one_value, start_value}
use Rattle.golog_check.specs.Sorts.{fluent_sorts}
use Rattle.golog_check.specs.Programs.{prog_in}
use Rattle.golog_shapes.specs.DraftNest.{draft_nest}
use Rattle.golog_check.specs.ProgramLaws.{HasPrograms}
use Rattle.golog_check.specs.Check.{main_in, main_of, starts_of, names_of, all_refusals, agent_of}
use Rattle.golog_check.proofs.TermLaws.{not-false}
use Rattle.golog_check.proofs.Readings.{both, past, ok-same, found-it}
use Rattle.golog_check.proofs.ArgLaws.{arg-fits, some-same}
use Rattle.golog_check.proofs.ProgLaws.{progs-fit}
use Rattle.golog_check.specs.ProgramLaws.{blocks_keep}
use Rattle.golog_check.specs.Procs.{params_of, proc_in}
use Rattle.golog_shapes.specs.Shapes.{shapes}
use Rattle.golog_shapes.specs.DraftBlocks.{block_refusals}
use Rattle.golog_check.proofs.PartLaws.{none-before, none-behind, none-refused}
use Rattle.golog_check.proofs.Nests.{nests-same}
use Rattle.golog_check.proofs.BlockLaws.{blocks-kept}
use Rattle.golog_check.proofs.Transfer.{AllAlike, same-blocks}
use Rattle.golog_check.proofs.ShapeLaws.{proc-is, procs-alike, procs-params}
use Rattle.golog_check.proofs.MadeFronts.{guarded, nests}
use Rattle.golog_check.proofs.MadeItems.{args-in}
use Rattle.golog_check.proofs.Given.{given-all}
use Rattle.golog_check.proofs.MadeActions.{bound-at, scope-bound, has-items}

-- what holds of each thing with its number
pub numbered-all : {A : Type 0} (p : ℕ × ℕ → Bool) (f : A → ℕ) (first : ℕ) (xs : List A)
    → ((i : ℕ) (x : A) → slice_get xs i ≡ Some x → p (first + i, f x) ≡ true)
    → list_all p (enumerate_from first (map f xs)) ≡ true
numbered-all p f first [] holds = refl
numbered-all p f first (x ∷ xs) holds =
    and_both _ _ (ap (λ n. p (n, f x)) (let z : first ≡ first + 0 = omega arith in z) ∙ holds 0 x refl)
    (numbered-all p f (first + 1) xs (λ i y e.
    ap (λ n. p (n, f y)) (let z : (first + 1) + i ≡ first + suc i = omega arith in z) ∙ holds (suc i) y e))

pub all-true : {A : Type 0} (xs : List A) → list_all (λ _. true) xs ≡ true
all-true [] = refl
all-true (x ∷ xs) = all-true xs

pub const-in : (o : Result Arg CodeAt) (c : ℕ) → constant_in o ≡ Some c → o ≡ Ok (Const c)
const-in (Ok (Const d)) c h = ap (λ n. Ok (Const n)) (some-same d c h)
const-in (Ok (Var x)) c h = absurd (cc)
const-in (Err refusal) c h = absurd (cc)

ok-one : {A : Type 0} (o : Result A CodeAt) → refusal_of o ++ [] ≡ [] → (x : A) × (o ≡ Ok x)
ok-one (Ok x) h = (x, refl)
ok-one (Err refusal) h = absurd (cc)

le-of : (n : ℕ) → nat_le n 3072 ≡ true → n ≤ 3072
le-of n h = grind (arith, nat_tests)

le-three : (n : ℕ) → nat_le n 3 ≡ true → n ≤ 3
le-three n h = grind (arith, nat_tests)

module _ (theory : DraftTheory) (program : DraftProgram) (keeps : TheoryKeeps theory) (also : ProgramKeeps theory program) where
  abbrev agent : Agent
  agent = agent_of theory program

  abbrev names : Declared
  names = names_of theory program

  -- a value of the fluent's sort, or unknown
  abbrev is_ok : ℕ → ℕ → Bool
  is_ok fluent value = nat_lt value (sort_size (agent_of theory program) (own_sort (names_of theory program) fluent)) || value == unknown

  abbrev start_ok : Start → Bool
  start_ok (start.Each fluent value) = is_ok fluent value
  start_ok (start.One fluent args value) = is_ok fluent value

  value-ok : (fluent : ℕ) (value : Option DraftArg) (c : ℕ) → (value_in names (own_sort names fluent) value).outcome ≡ Ok c → is_ok fluent c ≡ true
  unfolding value_in
  value-ok fluent None c h =
      or_second (nat_lt c (sort_size agent (own_sort names fluent))) (c == unknown) (eq-eqb c unknown (sym (ok-same unknown c h)))
  value-ok fluent (Some arg) c h =
      let found = found-it _ (arg_place arg) (constant_in (arg_in names [] (own_sort names fluent) arg).outcome) c h in
      let is = const-in (arg_in names [] (own_sort names fluent) arg).outcome c found in
      or_first (nat_lt c (sort_size agent (own_sort names fluent))) (c == unknown)
      (arg-fits agent names (has-items theory program keeps also) nothing_bound [] tt (omega arith) (own_sort names fluent) arg (Const c) is)

  start-ok : (item : DraftStart) (y : Start) → (start_in names item).outcome ≡ Ok y → start_ok y ≡ true
  unfolding one_in
  start-ok (Each fluent value at) y h =
      let b = both (value_in names (own_sort names fluent) value) (λ (v : ℕ). gives (start.Each fluent v)) y h in
      ap start_ok (sym (ok-same (start.Each fluent b.value) y b.other)) ∙ value-ok fluent value b.value b.one
  start-ok (One fluent args value at) y h =
      let next : List Arg → Reading Start = λ args. value_in names (own_sort names fluent) value >>= λ v. gives (start.One fluent (map constant args) v) in
      let a = both (args_in names [] (fluent_sorts names fluent) args) next y h in
      let b = both (value_in names (own_sort names fluent) value) (λ (v : ℕ). gives (start.One fluent (map constant a.value) v)) y a.other in
      ap start_ok (sym (ok-same (start.One fluent (map constant a.value) b.value) y b.other)) ∙ value-ok fluent value b.value b.one

  starts-ok : list_all start_ok (starts_of theory (names_of theory program)) ≡ true
  starts-ok = given-all (start_in names) start_ok (λ _. true) (λ item h y e. start-ok item y e) theory.starts (all-true theory.starts)

  chosen-ok : (b : Bool) (fluent one other : ℕ) → (b ≡ true → is_ok fluent one ≡ true) → is_ok fluent other ≡ true
      → is_ok fluent (if b then one else other) ≡ true
  chosen-ok true fluent one other h k = h refl
  chosen-ok false fluent one other h k = k

  own-after-ok : (item : Start) (fluent own : ℕ) → start_ok item ≡ true → is_ok fluent own ≡ true → is_ok fluent (own_after own item fluent) ≡ true
  own-after-ok (start.Each item value) fluent own h k =
      chosen-ok (item == fluent) fluent value own (λ same. ap (λ f. is_ok f value) (sym (eqb-true item fluent same)) ∙ h) k
  own-after-ok (start.One item args value) fluent own h k = k

  own-ok : (items : List Start) (fluent own : ℕ) → list_all start_ok items ≡ true → is_ok fluent own ≡ true → is_ok fluent (own_value own items fluent) ≡ true
  own-ok [] fluent own h k = k
  own-ok (item ∷ items) fluent own h k =
      let t = and_cases (start_ok item) (list_all start_ok items) h in
      own-ok items fluent (own_after own item fluent) t.1 (own-after-ok item fluent own t.0 k)

  one-after-ok : (item : Start) (fluent before : ℕ) (at : List ℕ) → start_ok item ≡ true → is_ok fluent before ≡ true → is_ok fluent (one_after before item (fluent, at)) ≡ true
  one-after-ok (start.Each item value) fluent before at h k = k
  one-after-ok (start.One item args value) fluent before at h k =
      chosen-ok (item == fluent && pointwise nat_eq args at) fluent value before (λ same.
      ap (λ f. is_ok f value) (sym (eqb-true item fluent (and_cases (item == fluent) (pointwise nat_eq args at) same).0)) ∙ h) k

  one-ok : (items : List Start) (fluent before : ℕ) (at : List ℕ) → list_all start_ok items ≡ true → is_ok fluent before ≡ true → is_ok fluent (one_value before items (fluent, at)) ≡ true
  one-ok [] fluent before at h k = k
  one-ok (item ∷ items) fluent before at h k =
      let t = and_cases (start_ok item) (list_all start_ok items) h in
      one-ok items fluent (one_after before item (fluent, at)) at t.1 (one-after-ok item fluent before at t.0 k)

  unknown-ok : (fluent : ℕ) → is_ok fluent unknown ≡ true
  unknown-ok fluent = or_second (nat_lt unknown (sort_size agent (own_sort names fluent))) (unknown == unknown) refl

  pub starts : StartsFit (agent_of theory program)
  starts = record {
    whole = length-map (ground_fluents agent) (start_value (starts_of theory names));
    sorted = numbered-all (start_fits agent) (start_value (starts_of theory names)) 0 (ground_fluents agent) (λ i at e.
        let items = starts_of theory names in
        let value = one-ok items at.0 (own_value unknown items at.0) at.1 starts-ok (own-ok items at.0 unknown starts-ok (unknown-ok at.0)) in
        let n : 0 + i ≡ i = omega arith in
        let get : slice_get (ground_fluents agent) (0 + i) ≡ Some at = ap (λ n. slice_get (ground_fluents agent) n) n ∙ e in
        ap (λ (o : Option Ground). nat_lt (start_value items at) (sort_size agent (unwrap_or (option_and_then (λ (at : Ground). option_map (λ (item : FluentItem). item.sort) (slice_get agent.fluents at.0)) o) 0)) || start_value items at == unknown) get
        ∙ value);
  }

  -- the refusals of the program, none of which is there
  module _ (none : all_refusals theory program ≡ []) where
    main-one : (p : Prog) × ((main_in (names_of theory program) program.main).outcome ≡ Ok p)
    main-one = ok-one (main_in names program.main).outcome (none-refused theory program none).main

    record IsMain (p : Prog) : Type 0 where
      deep : nat_le (draft_nest program.main.body) 3072 ≡ true
      read : (prog_in (names_of theory program) program.main.body []).outcome ≡ Ok p

    main-read : (p : Prog) → (main_in names program.main).outcome ≡ Ok p → IsMain p
    unfolding main_in
    main-read p h =
        let t = past (not (nat_le (draft_nest program.main.body) 3072)) _ program.main.at (prog_in names program.main.body []) p h in
        record { deep = not-false (nat_le (draft_nest program.main.body) 3072) t.none; read = t.rest }

    has-programs : HasPrograms (agent_of theory program) (declared_by theory program.procs)
    has-programs = record {
      items = has-items theory program keeps also;
      actions = refl;
      params = procs-params names program.procs (none-refused theory program none).procs;
    }

    alike : AllAlike agent.procs (shapes program.procs).procs
    alike = procs-alike names program.procs (none-refused theory program none).procs

    blocks : proc_blocks agent ≡ proc_blocks (shapes program.procs)
    blocks = same-blocks agent (shapes program.procs) alike

    keeps-blocks : (d : DraftProg) → block_refusals (proc_blocks (shapes program.procs)) d ≡ []
        → blocks_keep (block_at (proc_blocks (agent_of theory program))) d false ≡ true
    keeps-blocks d h =
        ap (λ bs. blocks_keep (block_at bs) d false) blocks ∙ blocks-kept (proc_blocks (shapes program.procs)) d h

    abbrev refused_in : DraftProc → List CodeAt
    refused_in item = block_refusals (proc_blocks (shapes program.procs)) item.body

    procs-blocks : flat_map refused_in program.procs ≡ []
    procs-blocks = none-before (flat_map refused_in program.procs) (block_refusals (proc_blocks (shapes program.procs)) program.main.body) (none-refused theory program none).blocks

    main-blocks : block_refusals (proc_blocks (shapes program.procs)) program.main.body ≡ []
    main-blocks = none-behind (flat_map refused_in program.procs) (block_refusals (proc_blocks (shapes program.procs)) program.main.body) (none-refused theory program none).blocks

    -- a procedure is kept, and so are its blocks
    abbrev is_kept : DraftProc → Bool
    is_kept item = draft_proc_keeps theory program.procs item && blocks_keep (block_at (proc_blocks (agent_of theory program))) item.body false

    all-kept : (items : List DraftProc) → list_all (draft_proc_keeps theory program.procs) items ≡ true → flat_map refused_in items ≡ []
        → list_all is_kept items ≡ true
    all-kept [] h k = refl
    all-kept (item ∷ items) h k =
        let t = and_cases (draft_proc_keeps theory program.procs item) (list_all (draft_proc_keeps theory program.procs) items) h in
        and_both (is_kept item) (list_all is_kept items)
        (and_both (draft_proc_keeps theory program.procs item) (blocks_keep (block_at (proc_blocks agent)) item.body false) t.0
        (keeps-blocks item.body (none-before (refused_in item) (flat_map refused_in items) k)))
        (all-kept items t.1 (none-behind (refused_in item) (flat_map refused_in items) k))

    params-long : (item : DraftProc) → length (param_sorts item) ≡ length item.params
    params-long item = length-map item.params (λ (param : DraftParam). param.sort)

    words-long : (item : DraftProc) → length (param_words item) ≡ length item.params
    words-long item = length-map item.params (λ (param : DraftParam). param.var)

    proc-fit : (item : DraftProc) → is_kept item ≡ true → (made : ProcItem) → (proc_in names item).outcome ≡ Ok made → proc_fits agent made ≡ true
    proc-fit item h made e =
        let sorts = param_sorts item in
        let p = proc-is names item made e in
        let t = and_cases (draft_proc_keeps theory program.procs item) (blocks_keep (block_at (proc_blocks agent)) item.body false) h in
        let u = and_cases (draft_args_keep theory sorts) (prog_keeps theory program.procs item.body (length item.params)) t.0 in
        let v = and_cases (nat_le (length sorts) 3) (list_all (is_draft_sort theory) sorts) u.0 in
        let are = args-in theory program keeps also sorts u.0 in
        let scope = scope-bound agent (bound_from 0 sorts) 0 sorts (param_words item) [] refl (words-long item ∙ sym (params-long item)) (bound-at 0 sorts) are tt in
        let long : length (params_of item) ≡ length item.params = scope.long ∙ (let w = words-long item in omega (arith, w)) in
        let short = le-three (length sorts) v.0 in
        let few : length (params_of item) ≤ 32 = let w = params-long item in omega (arith, long, short, w) in
        let fit = progs-fit agent theory program.procs has-programs item.body false (bound_from 0 sorts) (params_of item) scope.binds few
        (ap (λ n. prog_keeps theory program.procs item.body n) long ∙ u.1) t.1 p.body p.read in
        ap (proc_fits agent) (sym p.is)
        ∙ and_both _ _ (and_both _ _ (and_both _ _ are v.0) fit.fits)
        (ap (λ n. is_written_prog agent p.body n) (params-long item ∙ sym long) ∙ fit.written)

    pub programs : ProgramsFit (agent_of theory program)
    programs =
        let p = main-one.0 in
        let m = main-read p main-one.1 in
        let is : agent.main ≡ p = ap (λ o. main_of o) main-one.1 in
        let fit = progs-fit agent theory program.procs has-programs program.main.body false nothing_bound [] tt (omega arith)
        also.main (keeps-blocks program.main.body main-blocks) p m.read in
        let same = nests-same names program.main.body [] p m.read in
        let fronts = (none-refused theory program none).fronts in
        record {
          procs = given-all (proc_in names) (proc_fits agent) is_kept proc-fit program.procs (all-kept program.procs also.procs procs-blocks);
          main = ap (λ q. prog_fits agent q outermost) is ∙ fit.fits;
          main_written = ap (λ q. is_written_prog agent q 0) is ∙ fit.written;
          guarded = guarded program.procs fronts agent alike;
          front_nests = nests program.procs fronts agent alike;
          main_nest = subst (λ (q : Prog). nest q ≤ 3072) (sym is) (subst (λ n. n ≤ 3072) (sym same) (le-of (draft_nest program.main.body) m.deep));
        }
