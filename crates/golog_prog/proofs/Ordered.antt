-- The rows of every item of a program stand in order, within the places of the item, and so do those of a file.
use Rattle.std.proofs.Common.{◌≡◌, ℕ, ◌+◌, ◌*◌, ◌<◌, true, List, [], ◌∷◌, ◌++◌, length, Option, Some, None, Result, refl, arith}
use Rattle.std.specs.Prelude.{if◌then◌else◌, codes, is_some}
use Rattle.std.specs.List.{list_any}
use Rattle.golog_form.specs.declared.form.Form.{Form}
use Rattle.golog_form.specs.Shape.{place_of}
use Rattle.golog_form.specs.Places.{IsInOrder}
use Rattle.golog_tree.specs.declared.draft.DraftTheory.{DraftTheory}
use Rattle.golog_tree.specs.declared.draft.DraftParam.{DraftParam}
use Rattle.golog_tree.specs.declared.draft.DraftProc.{DraftProc}
use Rattle.golog_tree.specs.declared.draft.DraftMain.{DraftMain}
use Rattle.golog_tree.specs.declared.draft.DraftProgram.{DraftProgram}
use Rattle.golog_theory.specs.declared.fault.TheoryFault.{TheoryFault}
use Rattle.golog_theory.specs.Reading.{Reading, code_at, Answers, gives, refused, ◌>>=◌, found, each}
use Rattle.golog_theory.specs.Names.{same}
use Rattle.golog_theory.specs.Parts.{parts, sort_of}
use Rattle.golog_theory.specs.Heads.{head_word, arguments}
use Rattle.golog_theory.specs.Before.{before}
use Rattle.golog_theory.specs.Order.{IsLeastRow}
use Rattle.golog_rows.proofs.Chain.{key, Chain, chain-low, behind-chain, Spans, gives-spans, if-chain, if-chain-where, chain-ordered, least_row}
use Rattle.golog_theory.proofs.Inside.{end_of, Between, stands, arguments-between}
use Rattle.golog_theory.proofs.Tables.{Covers, row-chain, two-rows, each-covers, named-covers, sort_of-covers}
use Rattle.golog_theory.proofs.Nested.{refused-covers, first-spans, last-spans}
use Rattle.golog_theory.proofs.Theory.{first_row}
use Rattle.golog_prog.specs.declared.items.SoFar.{SoFar}
use Rattle.golog_prog.specs.declared.procedures.Declared.{Declared}
use Rattle.golog_prog.specs.Procedures.{declared_in}
use Rattle.golog_prog.specs.Programs.{prog_of}
use Rattle.golog_prog.specs.Items.{proc_name, param_var, param_by, param_of, params_of, proc_item, main_by, main_item, proc_read, main_read, read_by, item_read, items_read, nothing, is_main, program_with, program_in, program_of}
use Rattle.golog_prog.proofs.Nested.{prog_of-covers}
use Rattle.golog_prog.proofs.HasMain.{HasMain, items_read-main}

-- a refusal of an item at its place
none : (A : Type 0) (at to code : ℕ) → at < to → 0 < code → code < 64 → Spans at to (refused {A = A} code at)
none A at to code lt some small = refused-covers A at to code lt some small

proc_name-covers : (theory : DraftTheory) (procs : List DraftProc) (f : Form) → IsInOrder f → Covers f (proc_name theory procs f)
unfolding proc_name
proc_name-covers theory procs f order = named-covers f order

param_var-covers : (params : List DraftParam) (f : Form) → IsInOrder f → Covers f (param_var params f)
unfolding param_var
param_var-covers params f order = named-covers f order

param_by-spans : (theory : DraftTheory) (params : List DraftParam) (at : ℕ) (fs : List Form) (to : ℕ) → at < to → Between (at + 1) fs to
    → Spans at to (param_by theory params at fs)
param_by-spans theory params at [] to lt b = none DraftParam at to 20 lt (omega arith) (omega arith)
param_by-spans theory params at (var ∷ []) to lt b = none DraftParam at to 20 lt (omega arith) (omega arith)
param_by-spans theory params at (var ∷ sort ∷ []) to lt b =
    first-spans at var (sort ∷ []) to (param_var params var) (λ var. sort_of theory sort >>= λ sort. gives (record { var = var; sort = sort }))
    (omega (arith, b.0), b.1, b.2) (param_var-covers params var b.1)
    (λ name. last-spans (end_of var) sort to (sort_of theory sort) (λ sort. record { var = name; sort = sort }) b.2 (sort_of-covers theory sort b.2.1))
param_by-spans theory params at (var ∷ sort ∷ other ∷ fs) to lt b = none DraftParam at to 20 lt (omega arith) (omega arith)

param_of-covers : (theory : DraftTheory) (params : List DraftParam) (f : Form) → IsInOrder f → Covers f (param_of theory params f)
unfolding param_of
param_of-covers theory params f order = let s = stands f order in param_by-spans theory params (place_of f) (parts f) (end_of f) s.size s.inner

params_of-covers : (theory : DraftTheory) (f : Form) → IsInOrder f → Covers f (params_of theory f)
unfolding params_of
params_of-covers theory f order =
    let s = stands f order in
    let size = s.size in
    let at = place_of f in
    let to = end_of f in
    two-rows (64 * at) (64 * (at + 1)) (64 * to) 20 25 at _ refl (omega arith) (omega arith)
    (each-covers (param_of theory) (param_of-covers theory) [] (at + 1) (parts f) to s.inner)

module _ (theory : DraftTheory) (procs : List Declared) where
  proc_item-spans : (done : List DraftProc) (at : ℕ) (fs : List Form) (to : ℕ) → at < to → Between (at + 1) fs to → Spans at to (proc_item theory procs done at fs)
  unfolding proc_item
  proc_item-spans done at [] to lt b = none DraftProc at to 20 lt (omega arith) (omega arith)
  proc_item-spans done at (name ∷ []) to lt b = none DraftProc at to 20 lt (omega arith) (omega arith)
  proc_item-spans done at (name ∷ params ∷ []) to lt b = none DraftProc at to 20 lt (omega arith) (omega arith)
  proc_item-spans done at (name ∷ params ∷ body ∷ []) to lt b =
      let known = before at theory in
      row-chain (64 * at) (64 * (at + 1)) (64 * to) 25 at _ refl (omega arith) (omega arith)
      (first-spans (at + 1) name (params ∷ body ∷ []) to (proc_name theory done name)
      (λ name. params_of known params >>= λ params. prog_of known procs body (length params) >>= λ body. gives (record { name = name; params = params; body = body; at = at })) b
      (proc_name-covers theory done name b.1)
      (λ name'. first-spans (end_of name) params (body ∷ []) to (params_of known params)
      (λ params. prog_of known procs body (length params) >>= λ body. gives (record { name = name'; params = params; body = body; at = at })) b.2 (params_of-covers known params b.2.1)
      (λ params'. last-spans (end_of params) body to (prog_of known procs body (length params')) (λ body. record { name = name'; params = params'; body = body; at = at }) b.2.2
      (prog_of-covers known procs body b.2.2.1 (length params')))))
  proc_item-spans done at (name ∷ params ∷ body ∷ other ∷ fs) to lt b = none DraftProc at to 20 lt (omega arith) (omega arith)

  main_by-spans : (at : ℕ) (fs : List Form) (to : ℕ) → at < to → Between (at + 1) fs to → Spans at to (main_by theory procs at fs)
  main_by-spans at [] to lt b = none DraftMain at to 20 lt (omega arith) (omega arith)
  main_by-spans at (body ∷ []) to lt b =
      last-spans at body to (prog_of (before at theory) procs body 0) (λ body. record { body = body; at = at }) (omega (arith, b.0), b.1, b.2)
      (prog_of-covers (before at theory) procs body b.1 0)
  main_by-spans at (body ∷ other ∷ fs) to lt b = none DraftMain at to 20 lt (omega arith) (omega arith)

  main_item-spans : (main : Option DraftMain) (at : ℕ) (fs : List Form) (to : ℕ) → at < to → Between (at + 1) fs to → Spans at to (main_item theory procs main at fs)
  unfolding main_item
  main_item-spans main at fs to lt b =
      if-chain (64 * at) (64 * to) (is_some main) (refused 21 at) (main_by theory procs at fs) (none DraftMain at to 21 lt (omega arith) (omega arith)) (main_by-spans at fs to lt b)

  read_by-spans : (so_far : SoFar) (at : ℕ) (keyword : List ℕ) (fs : List Form) (to : ℕ) → at < to → Between (at + 1) fs to
      → Spans at to (read_by theory procs so_far at keyword fs)
  unfolding read_by proc_read main_read
  read_by-spans so_far at keyword fs to lt b =
      if-chain (64 * at) (64 * to) (same keyword (codes "proc")) (proc_read theory procs so_far at fs) (if same keyword (codes "main") then main_read theory procs so_far at fs else gives so_far)
      (gives-spans at to (proc_item theory procs so_far.procs at fs) (λ proc. record so_far { procs = so_far.procs ++ proc ∷ [] }) (proc_item-spans so_far.procs at fs to lt b))
      (if-chain (64 * at) (64 * to) (same keyword (codes "main")) (main_read theory procs so_far at fs) (gives so_far)
      (gives-spans at to (main_item theory procs so_far.main at fs) (λ main. record so_far { main = Some main }) (main_item-spans so_far.main at fs to lt b))
      (omega arith))

  item_read-covers : (so_far : SoFar) (f : Form) → IsInOrder f → Covers f (item_read theory procs so_far f)
  item_read-covers so_far f order = read_by-spans so_far (place_of f) (head_word f) (arguments f) (end_of f) (stands f order).size (arguments-between f order)

  items_read-spans : (so_far : SoFar) (from : ℕ) (fs : List Form) (to : ℕ) → Between from fs to → Spans from to (items_read theory procs so_far fs)
  items_read-spans so_far from [] to b = omega (arith, b)
  items_read-spans so_far from (f ∷ fs) to b =
      first-spans from f fs to (item_read theory procs so_far f) (λ next. items_read theory procs next fs) b (item_read-covers so_far f b.1)
      (λ next. items_read-spans next (end_of f) fs to b.2)

-- Where `main` was read, nothing is refused behind the items.
found-main : (at low : ℕ) (so_far : SoFar) → HasMain so_far → Chain low low (program_with at so_far).rows
found-main at low so_far has = go so_far.main has
  where
    go : (main : Option DraftMain) → is_some main ≡ true → Chain low low ((found 27 at main >>= λ main. gives {A = DraftProgram} (record { procs = so_far.procs; main = main })).rows)
    go None e = absurd cc
    go (Some main) e = omega arith

program_in-chain : (theory : DraftTheory) (at : ℕ) (items : List Form) (to : ℕ) → at < to → Between (at + 1) items to
    → Chain (key at 20) (64 * to) (program_in theory at items).rows
program_in-chain theory at items to lt b =
    let procs = declared_in items in
    let read = items_read theory procs nothing items in
    if-chain-where (key at 20) (64 * to) (list_any is_main items) (read >>= program_with at) (refused 27 at)
    (λ has. behind-chain (key at 20) (64 * to) (64 * to) read.rows read.outcome (program_with at) (omega arith)
    (chain-low (key at 20) (64 * (at + 1)) (64 * to) read.rows (omega arith) (items_read-spans theory procs nothing (at + 1) items to b))
    (λ so_far e. found-main at (64 * to) so_far (items_read-main theory procs nothing items has so_far e)))
    (omega arith, omega arith, omega arith, omega arith)

pub program_of-covers : (theory : DraftTheory) (f : Form) → IsInOrder f → Covers f (program_of theory f)
unfolding program_of
program_of-covers theory f order =
    let size = (stands f order).size in
    (omega arith, omega arith, omega arith, program_in-chain theory (place_of f) (arguments f) (end_of f) size (arguments-between f order))

-- so the answer of the reader is the least row that fits
pub program-least : (result : Result DraftProgram TheoryFault) (theory : DraftTheory) (f : Form) → Answers result (program_of theory f) → IsInOrder f
    → IsLeastRow result (program_of theory f).rows
program-least result theory f e order =
    let rows = (program_of theory f).rows in
    least_row code_at result rows (chain-ordered (64 * place_of f) (64 * end_of f) rows (program_of-covers theory f order)) (first_row result (program_of theory f) e)

pub ruleset laws = (program-least)
