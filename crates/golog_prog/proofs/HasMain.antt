-- Where some item is `main`, and the items are read, the program of `main` was read.
use Rattle.std.proofs.Common.{◌≡◌, ℕ, Bool, true, false, ◌||◌, List, [], ◌∷◌, ◌++◌, Some, refl, sym, subst}
use Rattle.std.specs.Prelude.{if◌then◌else◌, codes, is_some}
use Rattle.std.specs.List.{list_any}
use Rattle.std.specs.Cmp.Lexicographic.{bytes_decides}
use Rattle.golog_form.specs.declared.form.Form.{Form}
use Rattle.golog_form.specs.Shape.{place_of}
use Rattle.golog_tree.specs.declared.draft.DraftTheory.{DraftTheory}
use Rattle.golog_theory.specs.Reading.{gives}
use Rattle.golog_theory.specs.Names.{same}
use Rattle.golog_theory.specs.Heads.{head_word, arguments}
use Rattle.golog_semantics.proofs.Tests.{or_first, or_second}
use Rattle.golog_theory.proofs.Yields.{Yields, gives-yields, if-yields, then-yields}
use Rattle.golog_prog.specs.declared.items.SoFar.{SoFar}
use Rattle.golog_prog.specs.declared.procedures.Declared.{Declared}
use Rattle.golog_prog.specs.Items.{proc_item, main_item, proc_read, main_read, read_by, item_read, items_read, is_main}

abbrev pub HasMain : SoFar → Type 0
HasMain so_far = is_some so_far.main ≡ true

one_of : (a b : Bool) → (a || b) ≡ true → b ≡ false → a ≡ true
one_of true b e f = refl
one_of false b e f = absurd cc

-- a word is not another
differs : (word one other : List ℕ) → same word one ≡ true → same one other ≡ false → same word other ≡ false
differs word one other e f = let is : word ≡ one = (bytes_decides word one).0 e in subst (λ w. same w other ≡ false) (sym is) f

module _ (theory : DraftTheory) (procs : List Declared) where
  read_by-main : (so_far : SoFar) (at : ℕ) (keyword : List ℕ) (fs : List Form) → (is_some so_far.main || same keyword (codes "main")) ≡ true
      → Yields HasMain (read_by theory procs so_far at keyword fs)
  unfolding read_by proc_read main_read
  read_by-main so_far at keyword fs some =
      if-yields HasMain (same keyword (codes "proc")) (proc_read theory procs so_far at fs) (if same keyword (codes "main") then main_read theory procs so_far at fs else gives so_far)
      (λ is. then-yields (λ _. Unit {0}) HasMain (proc_item theory procs so_far.procs at fs).outcome _ (λ x e. tt)
      (λ proc _. gives-yields HasMain (record so_far { procs = so_far.procs ++ proc ∷ [] })
      (one_of (is_some so_far.main) (same keyword (codes "main")) some (differs keyword (codes "proc") (codes "main") is refl))))
      (λ _. if-yields HasMain (same keyword (codes "main")) (main_read theory procs so_far at fs) (gives so_far)
      (λ _. then-yields (λ _. Unit {0}) HasMain (main_item theory procs so_far.main at fs).outcome _ (λ x e. tt)
      (λ main _. gives-yields HasMain (record so_far { main = Some main }) refl))
      (λ is. gives-yields HasMain so_far (one_of (is_some so_far.main) (same keyword (codes "main")) some is)))

  item_read-main : (so_far : SoFar) (f : Form) → (is_some so_far.main || is_main f) ≡ true → Yields HasMain (item_read theory procs so_far f)
  item_read-main so_far f some = read_by-main so_far (place_of f) (head_word f) (arguments f) some

  or-none : (a : Bool) → (a || false) ≡ true → a ≡ true
  or-none true e = refl
  or-none false e = e

  -- it is among those behind, or it was read with the first
  choose : {A : Type 0} (a b c : Bool) → (a || (b || c)) ≡ true → (c ≡ true → A) → ((a || b) ≡ true → A) → A
  choose a b true e h k = h refl
  choose true b false e h k = k refl
  choose false true false e h k = k refl
  choose false false false e h k = absurd cc

  -- `main` was read before the items, or is among them
  pub items_read-main : (so_far : SoFar) (fs : List Form) → (is_some so_far.main || list_any is_main fs) ≡ true → Yields HasMain (items_read theory procs so_far fs)
  items_read-main so_far [] some = gives-yields HasMain so_far (or-none (is_some so_far.main) some)
  items_read-main so_far (f ∷ fs) some =
      choose (is_some so_far.main) (is_main f) (list_any is_main fs) some
      (λ is. then-yields (λ _. Unit {0}) HasMain (item_read theory procs so_far f).outcome (λ next. items_read theory procs next fs) (λ x e. tt)
      (λ next _. items_read-main next fs (or_second (is_some next.main) (list_any is_main fs) is)))
      (λ is. then-yields HasMain HasMain (item_read theory procs so_far f).outcome (λ next. items_read theory procs next fs) (item_read-main so_far f is)
      (λ next has. items_read-main next fs (or_first (is_some next.main) (list_any is_main fs) has)))

pub ruleset laws = (items_read-main)
