-- The places in each procedure and in the program of a file ascend, where the parts of its form stand in order.
use Rattle.std.proofs.Common.{◌≡◌, ℕ, ◌+◌, ◌<◌, not, List, [], ◌∷◌, ◌++◌, length, map, Option, Some, Result, Ok, Err, subst, arith}
use Rattle.std.specs.Prelude.{if◌then◌else◌, codes, nat_le, is_some, IfOk}
use Rattle.std.specs.List.{list_any}
use Rattle.golog_form.specs.declared.form.Form.{Form}
use Rattle.golog_form.specs.Shape.{place_of}
use Rattle.golog_form.specs.Places.{IsInOrder}
use Rattle.golog_tree.specs.declared.draft.DraftTheory.{DraftTheory}
use Rattle.golog_tree.specs.declared.draft.DraftProc.{DraftProc}
use Rattle.golog_tree.specs.declared.draft.DraftMain.{DraftMain}
use Rattle.golog_tree.specs.declared.draft.DraftProgram.{DraftProgram}
use Rattle.golog_draft.specs.DraftPlaces.{prog_places, proc_places, main_places}
use Rattle.golog_draft.specs.DraftOrder.{Ascend, IsAscending, AreAscending, ProgramInOrder}
use Rattle.golog_theory.specs.declared.fault.TheoryFault.{TheoryFault}
use Rattle.golog_theory.specs.Reading.{Answers, gives, refused, found, ◌>>=◌}
use Rattle.golog_theory.specs.Names.{same}
use Rattle.golog_theory.specs.Heads.{head_word, arguments}
use Rattle.golog_theory.specs.Before.{before}
use Rattle.golog_semantics.proofs.GroundNumbers.{some-same}
use Rattle.golog_theory.proofs.Inside.{end_of, Between, stands, arguments-between}
use Rattle.golog_theory.proofs.Ascend.{ascend-low, is_ascending, are_push}
use Rattle.golog_theory.proofs.Yields.{Yields, gives-yields, refused-yields, row-yields, found-yields, if-yields, then-yields}
use Rattle.golog_prog.specs.declared.items.SoFar.{SoFar}
use Rattle.golog_prog.specs.declared.procedures.Declared.{Declared}
use Rattle.golog_prog.specs.Procedures.{declared_in}
use Rattle.golog_prog.specs.Programs.{prog_of}
use Rattle.golog_prog.specs.Items.{proc_name, params_of, proc_item, main_by, main_item, proc_read, main_read, read_by, item_read, items_read, nothing, is_main, program_with, program_in, program_of}
use Rattle.golog_prog.proofs.AscendingProgs.{prog_of-ascend}

-- a place and those of a body behind it
with-body : (at : ℕ) (body : Form) (places : List ℕ) → at < place_of body → Ascend (place_of body) places (end_of body) → IsAscending (at ∷ places)
with-body at body places lt a =
    is_ascending at (at ∷ places) (end_of body) (omega arith, ascend-low (at + 1) (place_of body) (end_of body) places (omega (arith, lt)) a)

abbrev ProcAscends : DraftProc → Type 0
ProcAscends proc = IsAscending (proc_places proc)

abbrev MainAscends : DraftMain → Type 0
MainAscends main = IsAscending (main_places main)

-- the places in what was read so far ascend
record Ascends (so_far : SoFar) : Type 0 where
  procs : AreAscending (map proc_places so_far.procs)
  main : (main : DraftMain) → so_far.main ≡ Some main → MainAscends main

module _ (theory : DraftTheory) (declared : List Declared) where
  proc_item-ascend : (done : List DraftProc) (at : ℕ) (fs : List Form) (to : ℕ) → Between (at + 1) fs to → Yields ProcAscends (proc_item theory declared done at fs)
  unfolding proc_item
  proc_item-ascend done at [] to b = refused-yields ProcAscends 20 at
  proc_item-ascend done at (name ∷ []) to b = refused-yields ProcAscends 20 at
  proc_item-ascend done at (name ∷ params ∷ []) to b = refused-yields ProcAscends 20 at
  proc_item-ascend done at (name ∷ params ∷ body ∷ []) to b =
      let known = before at theory in
      let size = (stands name b.1).size in
      let size' = (stands params b.2.1).size in
      row-yields ProcAscends (nat_le 256 (length done)) (25, at) _ (λ _.
      then-yields (λ _. Unit {0}) _ (proc_name theory done name).outcome _ (λ _ _. tt) (λ name' _.
      then-yields (λ _. Unit {0}) _ (params_of known params).outcome _ (λ _ _. tt) (λ params' _.
      then-yields _ _ (prog_of known declared body (length params')).outcome _ (prog_of-ascend known declared body b.2.2.1 (length params')) (λ d a.
      gives-yields ProcAscends (record { name = name'; params = params'; body = d; at = at })
      (with-body at body (prog_places d) (omega (arith, b.0, b.2.0, b.2.2.0, size, size')) a)))))
  proc_item-ascend done at (name ∷ params ∷ body ∷ other ∷ fs) to b = refused-yields ProcAscends 20 at

  main_by-ascend : (at : ℕ) (fs : List Form) (to : ℕ) → Between (at + 1) fs to → Yields MainAscends (main_by theory declared at fs)
  main_by-ascend at [] to b = refused-yields MainAscends 20 at
  main_by-ascend at (body ∷ []) to b =
      let known = before at theory in
      then-yields _ _ (prog_of known declared body 0).outcome _ (prog_of-ascend known declared body b.1 0) (λ d a.
      gives-yields MainAscends (record { body = d; at = at }) (with-body at body (prog_places d) (omega (arith, b.0)) a))
  main_by-ascend at (body ∷ other ∷ fs) to b = refused-yields MainAscends 20 at

  main_item-ascend : (main : Option DraftMain) (at : ℕ) (fs : List Form) (to : ℕ) → Between (at + 1) fs to → Yields MainAscends (main_item theory declared main at fs)
  unfolding main_item
  main_item-ascend main at fs to b =
      if-yields MainAscends (is_some main) (refused 21 at) (main_by theory declared at fs) (λ _. refused-yields MainAscends 21 at) (λ _. main_by-ascend at fs to b)

  with-proc : (so_far : SoFar) (proc : DraftProc) → Ascends so_far → ProcAscends proc → Ascends (record so_far { procs = so_far.procs ++ proc ∷ [] })
  with-proc so_far proc all one = record { procs = are_push proc_places so_far.procs proc all.procs one; main = all.main }

  with-main : (so_far : SoFar) (main : DraftMain) → Ascends so_far → MainAscends main → Ascends (record so_far { main = Some main })
  with-main so_far main all one = record { procs = all.procs; main = λ other e. subst MainAscends (some-same main other e) one }

  item_read-ascend : (so_far : SoFar) (f : Form) → IsInOrder f → Ascends so_far → Yields Ascends (item_read theory declared so_far f)
  unfolding read_by proc_read main_read
  item_read-ascend so_far f order all =
      let at = place_of f in let fs = arguments f in let keyword = head_word f in let b = arguments-between f order in
      if-yields Ascends (same keyword (codes "proc")) (proc_read theory declared so_far at fs) (if same keyword (codes "main") then main_read theory declared so_far at fs else gives so_far)
      (λ _. then-yields _ _ (proc_item theory declared so_far.procs at fs).outcome _ (proc_item-ascend so_far.procs at fs (end_of f) b) (λ proc one.
      gives-yields Ascends (record so_far { procs = so_far.procs ++ proc ∷ [] }) (with-proc so_far proc all one)))
      (λ _. if-yields Ascends (same keyword (codes "main")) (main_read theory declared so_far at fs) (gives so_far)
      (λ _. then-yields _ _ (main_item theory declared so_far.main at fs).outcome _ (main_item-ascend so_far.main at fs (end_of f) b) (λ main one.
      gives-yields Ascends (record so_far { main = Some main }) (with-main so_far main all one)))
      (λ _. gives-yields Ascends so_far all))

  items_read-ascend : (so_far : SoFar) (from : ℕ) (fs : List Form) (to : ℕ) → Between from fs to → Ascends so_far → Yields Ascends (items_read theory declared so_far fs)
  items_read-ascend so_far from [] to b all = gives-yields Ascends so_far all
  items_read-ascend so_far from (f ∷ fs) to b all =
      then-yields Ascends Ascends (item_read theory declared so_far f).outcome (λ next. items_read theory declared next fs) (item_read-ascend so_far f b.1 all)
      (λ next after. items_read-ascend next (end_of f) fs to b.2 after)

nothing-ascend : Ascends nothing
nothing-ascend = record { procs = tt; main = λ main e. absurd cc }

program_with-ascend : (at : ℕ) (so_far : SoFar) → Ascends so_far → Yields ProgramInOrder (program_with at so_far)
program_with-ascend at so_far all =
    then-yields (λ main. so_far.main ≡ Some main) _ (found 27 at so_far.main).outcome _
    (found-yields (λ main. so_far.main ≡ Some main) 27 at so_far.main (λ main e. e)) (λ main e.
    gives-yields ProgramInOrder (record { procs = so_far.procs; main = main }) (record { procs = all.procs; main = all.main main e }))

program_in-ascend : (theory : DraftTheory) (at : ℕ) (items : List Form) (to : ℕ) → Between (at + 1) items to → Yields ProgramInOrder (program_in theory at items)
program_in-ascend theory at items to b =
    let declared = declared_in items in
    if-yields ProgramInOrder (list_any is_main items) (items_read theory declared nothing items >>= program_with at) (refused 27 at)
    (λ _. then-yields Ascends ProgramInOrder (items_read theory declared nothing items).outcome (program_with at)
    (items_read-ascend theory declared nothing (at + 1) items to b nothing-ascend) (λ so_far all. program_with-ascend at so_far all))
    (λ _. refused-yields ProgramInOrder 27 at)

program_of-ascend : (theory : DraftTheory) (f : Form) → IsInOrder f → Yields ProgramInOrder (program_of theory f)
unfolding program_of
program_of-ascend theory f order =
    row-yields ProgramInOrder (not (same (head_word f) (codes "agent"))) (20, place_of f) (program_in theory (place_of f) (arguments f)).outcome
    (λ _. program_in-ascend theory (place_of f) (arguments f) (end_of f) (arguments-between f order))

-- the same of what the reader answers
pub program-in-order : (result : Result DraftProgram TheoryFault) (theory : DraftTheory) (f : Form) → Answers result (program_of theory f) → IsInOrder f → IfOk result ProgramInOrder
program-in-order (Ok program) theory f e order = program_of-ascend theory f order program e
program-in-order (Err fault) theory f e order = tt

pub ruleset laws = (program-in-order)
