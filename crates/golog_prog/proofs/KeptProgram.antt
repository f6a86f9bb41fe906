-- The procedures and the program of a file keep the rules for drafts.
use Rattle.std.proofs.Common.{◌≡◌, ℕ, ◌+◌, ◌≤◌, true, false, not, List, [], ◌∷◌, ◌++◌, length, map, Option, Some, None, Result, Ok, Err, refl, sym, ap, subst, ◌∙◌, arith}
use Rattle.std.specs.Prelude.{if◌then◌else◌, codes, All, IfOk}
use Rattle.std.specs.List.{list_all, list_any, cons_option, AllByRecursion, IsDistinct}
use Rattle.std.proofs.lemmas.List.{map-append, append_assoc, append-nil, length_push}
use Rattle.std.proofs.lemmas.List.Elements.{All-push, All-from_recursion}
use Rattle.std.proofs.lemmas.List.Folds.{list_any-append}
use Rattle.std.proofs.lemmas.Map.Keys.{IsDistinct-push}
use Rattle.std.proofs.lemmas.Cmp.{nat_list_eq_equiv}
use Rattle.golog_base.specs.Names.{IsWord}
use Rattle.golog_form.specs.declared.form.Form.{Form}
use Rattle.golog_form.specs.Shape.{place_of}
use Rattle.golog_tree.specs.declared.draft.DraftTheory.{DraftTheory}
use Rattle.golog_tree.specs.declared.draft.DraftProc.{DraftProc}
use Rattle.golog_tree.specs.declared.draft.DraftMain.{DraftMain}
use Rattle.golog_tree.specs.declared.draft.DraftProgram.{DraftProgram}
use Rattle.golog_theory.specs.declared.fault.TheoryFault.{TheoryFault}
use Rattle.golog_theory.specs.Reading.{Answers, gives, refused, found, ◌>>=◌}
use Rattle.golog_theory.specs.Names.{same}
use Rattle.golog_theory.specs.Heads.{head_word, arguments}
use Rattle.golog_semantics.specs.BuiltIn.{is_keyword, same_text}
use Rattle.golog_draft.specs.Drafts.{AreNames, BeginsBuiltIn, TheoryKeeps, ProgramKeeps, theory_names, proc_names, param_words, draft_proc_keeps}
use Rattle.golog_semantics.proofs.GroundNumbers.{some-same}
use Rattle.golog_theory.proofs.Yields.{Yields, gives-yields, refused-yields, row-yields, found-yields, if-yields, then-yields}
use Rattle.golog_theory.proofs.Kept.{all_push}
use Rattle.golog_theory.proofs.Amid.{Absent, all-append}
use Rattle.golog_theory.proofs.NewNames.{new-absent, new-free}
use Rattle.golog_prog.specs.declared.items.SoFar.{SoFar}
use Rattle.golog_prog.specs.declared.procedures.Declared.{Declared}
use Rattle.golog_prog.specs.Procedures.{by_shape, declared_by, declared_in}
use Rattle.golog_prog.specs.Items.{proc_item, main_item, proc_read, main_read, read_by, item_read, items_read, nothing, is_main, program_with, program_in, program_of}
use Rattle.golog_prog.proofs.KeptProgs.{Counts}
use Rattle.golog_prog.proofs.KeptItems.{any-through, NameKeeps, counted, ProcRules, ProcKeeps, proc_item-yields, MainRules, main_item-yields}

-- ---- names

absent-any : (name : List ℕ) (names : List (List ℕ)) → Absent same_text name names → list_any (same_text name) names ≡ false
absent-any name [] a = refl
absent-any name (other ∷ names) a = rw (a.0, absent-any name names a.1) refl

names-push : (names : List (List ℕ)) (name : List ℕ) → AreNames names → IsWord name → is_keyword name ≡ false → list_any (same_text name) names ≡ false
    → AreNames (names ++ name ∷ [])
names-push names name all word free new = record {
  words = All-push IsWord names name all.words word;
  free = all_push (λ name. not (is_keyword name)) names name all.free (rw free refl);
  once = IsDistinct-push nat_list_eq_equiv names name all.once new;
}

-- the procedures with one more
named-push : (theory : DraftTheory) (procs : List DraftProc) (proc : DraftProc) → AreNames (theory_names theory ++ proc_names procs) → NameKeeps theory procs proc.name
    → AreNames (theory_names theory ++ proc_names (procs ++ proc ∷ []))
named-push theory procs proc all one =
    let names = theory_names theory in
    let earlier = proc_names procs in
    let new : list_any (same_text proc.name) (names ++ earlier) ≡ false =
    list_any-append (same_text proc.name) names earlier
    ∙ rw (absent-any proc.name names (new-absent theory proc.name one.free), any-through (λ (item : DraftProc). item.name) proc.name procs ∙ one.new) refl in
    let more : names ++ proc_names (procs ++ proc ∷ []) ≡ (names ++ earlier) ++ proc.name ∷ [] =
    ap (λ xs. names ++ xs) (map-append (λ (item : DraftProc). item.name) procs (proc ∷ [])) ∙ sym (append_assoc names earlier (proc.name ∷ [])) in
    subst AreNames (sym more) (names-push (names ++ earlier) proc.name all one.word (new-free theory proc.name one.free) new)

-- ---- how many parameters there are

abbrev counts_of : List DraftProc → List ℕ
counts_of procs = map (λ (proc : DraftProc). length proc.params) procs

abbrev params_of : List Declared → List ℕ
params_of declared = map (λ (proc : Declared). proc.params) declared

counted-first : (o : Option Declared) (declared : List Declared) → params_of (cons_option o declared) ≡ counted o ++ params_of declared
counted-first None declared = refl
counted-first (Some proc) declared = refl

-- what is read of the procedures and of `main` keeps its rules
record Kept (theory : DraftTheory) (declared : List Declared) (begins : BeginsBuiltIn theory) (so_far : SoFar) : Type 0 where
  names : AreNames (theory_names theory ++ proc_names so_far.procs)
  few : length so_far.procs ≤ 256
  procs : AllByRecursion (ProcRules theory declared) so_far.procs
  main : (main : DraftMain) → so_far.main ≡ Some main → MainRules theory declared begins main

module _ (theory : DraftTheory) (declared : List Declared) (begins : BeginsBuiltIn theory) where
  abbrev IsKept : SoFar → Type 0
  IsKept = Kept theory declared begins

  with-proc : (so_far : SoFar) (fs : List Form) (proc : DraftProc) → IsKept so_far → ProcKeeps theory declared so_far.procs fs proc
      → IsKept (record so_far { procs = so_far.procs ++ proc ∷ [] })
  with-proc so_far fs proc k one = record {
    names = named-push theory so_far.procs proc k.names one.name;
    few = omega (arith, one.few, length_push so_far.procs proc);
    procs = all-append (ProcRules theory declared) so_far.procs (proc ∷ []) k.procs (one.rules, tt);
    main = k.main;
  }

  with-main : (so_far : SoFar) (main : DraftMain) → IsKept so_far → MainRules theory declared begins main → IsKept (record so_far { main = Some main })
  with-main so_far main k one = record {
    names = k.names;
    few = k.few;
    procs = k.procs;
    main = λ other e. subst (MainRules theory declared begins) (some-same main other e) one;
  }

  -- what is kept behind an item, and the numbers of parameters
  record After (so_far : SoFar) (f : Form) (next : SoFar) : Type 0 where
    kept : IsKept next
    counts : counts_of next.procs ≡ counts_of so_far.procs ++ counted (declared_by f)

  -- an item that declares no procedure
  none-counted : (f : Form) → same (head_word f) (codes "proc") ≡ false → counted (declared_by f) ≡ []
  unfolding declared_by
  none-counted f e = ap (λ b. counted (if b then by_shape (arguments f) else None)) e

  proc-counted : (f : Form) → same (head_word f) (codes "proc") ≡ true → counted (declared_by f) ≡ counted (by_shape (arguments f))
  unfolding declared_by
  proc-counted f e = ap (λ b. counted (if b then by_shape (arguments f) else None)) e

  same-counts : (f : Form) (procs : List DraftProc) → same (head_word f) (codes "proc") ≡ false → counts_of procs ≡ counts_of procs ++ counted (declared_by f)
  same-counts f procs e = sym (append-nil (counts_of procs)) ∙ ap (λ xs. counts_of procs ++ xs) (sym (none-counted f e))

  more-counts : (f : Form) (procs : List DraftProc) (proc : DraftProc) → same (head_word f) (codes "proc") ≡ true
      → counted (by_shape (arguments f)) ≡ length proc.params ∷ [] → counts_of (procs ++ proc ∷ []) ≡ counts_of procs ++ counted (declared_by f)
  more-counts f procs proc e shape =
      map-append (λ (proc : DraftProc). length proc.params) procs (proc ∷ [])
      ∙ ap (λ xs. counts_of procs ++ xs) (sym (proc-counted f e ∙ shape))

  item_read-yields : (so_far : SoFar) (f : Form) → IsKept so_far → Yields (After so_far f) (item_read theory declared so_far f)
  unfolding read_by proc_read main_read
  item_read-yields so_far f k =
      let at = place_of f in let fs = arguments f in let keyword = head_word f in
      if-yields (After so_far f) (same keyword (codes "proc")) (proc_read theory declared so_far at fs) (if same keyword (codes "main") then main_read theory declared so_far at fs else gives so_far)
      (λ is. then-yields _ _ (proc_item theory declared so_far.procs at fs).outcome _ (proc_item-yields theory declared begins so_far.procs at fs) (λ proc one.
      gives-yields (After so_far f) (record so_far { procs = so_far.procs ++ proc ∷ [] }) (record { kept = with-proc so_far fs proc k one; counts = more-counts f so_far.procs proc is one.shape })))
      (λ other. if-yields (After so_far f) (same keyword (codes "main")) (main_read theory declared so_far at fs) (gives so_far)
      (λ _. then-yields _ _ (main_item theory declared so_far.main at fs).outcome _ (main_item-yields theory declared begins so_far.main at fs) (λ main one.
      gives-yields (After so_far f) (record so_far { main = Some main }) (record { kept = with-main so_far main k one; counts = same-counts f so_far.procs other })))
      (λ _. gives-yields (After so_far f) so_far (record { kept = k; counts = same-counts f so_far.procs other })))

  record AfterAll (so_far : SoFar) (fs : List Form) (next : SoFar) : Type 0 where
    kept : IsKept next
    counts : counts_of next.procs ≡ counts_of so_far.procs ++ params_of (declared_in fs)

  items_read-yields : (so_far : SoFar) (fs : List Form) → IsKept so_far → Yields (AfterAll so_far fs) (items_read theory declared so_far fs)
  items_read-yields so_far [] k = gives-yields (AfterAll so_far []) so_far (record { kept = k; counts = sym (append-nil (counts_of so_far.procs)) })
  items_read-yields so_far (f ∷ fs) k =
      then-yields (After so_far f) (AfterAll so_far (f ∷ fs)) (item_read theory declared so_far f).outcome (λ next. items_read theory declared next fs) (item_read-yields so_far f k)
      (λ next after last e.
      let all = items_read-yields next fs after.kept last e in record {
        kept = all.kept;
        counts = all.counts ∙ ap (λ xs. xs ++ params_of (declared_in fs)) after.counts
            ∙ append_assoc (counts_of so_far.procs) (counted (declared_by f)) (params_of (declared_in fs))
            ∙ ap (λ xs. counts_of so_far.procs ++ xs) (sym (counted-first (declared_by f) (declared_in fs)));
      })

  -- the rules of procedures, given how many parameters each has
  procs-keep : (all : List DraftProc) → Counts declared all → (procs : List DraftProc) → AllByRecursion (ProcRules theory declared) procs
      → list_all (draft_proc_keeps theory all) procs ≡ true
  procs-keep all counts [] a = refl
  procs-keep all counts (proc ∷ procs) a = rw (a.0.args, a.0.body all counts, procs-keep all counts procs a.1) refl

  procs-once : (procs : List DraftProc) → AllByRecursion (ProcRules theory declared) procs → AllByRecursion (λ (proc : DraftProc). IsDistinct same_text (param_words proc)) procs
  procs-once [] a = tt
  procs-once (proc ∷ procs) a = (a.0.once, procs-once procs a.1)

module _ (theory : DraftTheory) (t : TheoryKeeps theory) where
  nothing-kept : (declared : List Declared) → Kept theory declared t.built_in nothing
  nothing-kept declared = record {
    names = subst AreNames (sym (append-nil (theory_names theory))) t.names;
    few = omega arith;
    procs = tt;
    main = λ main e. absurd cc;
  }

  program-keeps : (items : List Form) (so_far : SoFar) (main : DraftMain) → AfterAll theory (declared_in items) t.built_in nothing items so_far → so_far.main ≡ Some main
      → ProgramKeeps theory (record { procs = so_far.procs; main = main })
  program-keeps items so_far main after e =
      let counts : Counts (declared_in items) so_far.procs = sym after.counts in
      let k = after.kept in record {
        names = k.names;
        few = k.few;
        procs = procs-keep theory (declared_in items) t.built_in so_far.procs counts so_far.procs k.procs;
        proc_vars = All-from_recursion (λ (proc : DraftProc). IsDistinct same_text (param_words proc)) so_far.procs (procs-once theory (declared_in items) t.built_in so_far.procs k.procs);
        main = k.main main e so_far.procs counts;
      }

  program_with-yields : (items : List Form) (at : ℕ) (so_far : SoFar) → AfterAll theory (declared_in items) t.built_in nothing items so_far
      → Yields (ProgramKeeps theory) (program_with at so_far)
  program_with-yields items at so_far after =
      then-yields (λ main. so_far.main ≡ Some main) _ (found 27 at so_far.main).outcome _
      (found-yields (λ main. so_far.main ≡ Some main) 27 at so_far.main (λ main e. e)) (λ main e.
      gives-yields (ProgramKeeps theory) (record { procs = so_far.procs; main = main }) (program-keeps items so_far main after e))

  program_in-yields : (at : ℕ) (items : List Form) → Yields (ProgramKeeps theory) (program_in theory at items)
  program_in-yields at items =
      let declared = declared_in items in
      if-yields (ProgramKeeps theory) (list_any is_main items) (items_read theory declared nothing items >>= program_with at) (refused 27 at)
      (λ _. then-yields (AfterAll theory declared t.built_in nothing items) (ProgramKeeps theory) (items_read theory declared nothing items).outcome (program_with at)
      (items_read-yields theory declared t.built_in nothing items (nothing-kept declared)) (λ so_far after. program_with-yields items at so_far after))
      (λ _. refused-yields (ProgramKeeps theory) 27 at)

  program_of-yields : (form : Form) → Yields (ProgramKeeps theory) (program_of theory form)
  unfolding program_of
  program_of-yields form =
      row-yields (ProgramKeeps theory) (not (same (head_word form) (codes "agent"))) (20, place_of form) (program_in theory (place_of form) (arguments form)).outcome
      (λ _. program_in-yields (place_of form) (arguments form))

-- the same of what the reader answers
pub answer-keeps : (result : Result DraftProgram TheoryFault) (theory : DraftTheory) (form : Form) → Answers result (program_of theory form) → TheoryKeeps theory → IfOk result (ProgramKeeps theory)
answer-keeps (Ok program) theory form e t = program_of-yields theory t form program e
answer-keeps (Err fault) theory form e t = tt

pub ruleset laws = (answer-keeps)
