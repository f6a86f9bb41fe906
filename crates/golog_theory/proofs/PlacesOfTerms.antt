-- The places of the arguments and of the term that a form spells ascend.
use Rattle.std.proofs.Common.{◌≡◌, ℕ, ◌+◌, ◌<◌, not, ℤ, List, [], ◌∷◌, ◌++◌, map, Option, Some, None, refl, sym, ap, subst, ◌∙◌, arith}
use Rattle.std.specs.Prelude.{if◌then◌else◌, codes, neg_ℤ}
use Rattle.golog_base.specs.Names.{is_name}
use Rattle.golog_form.specs.declared.form.Form.{Form}
use Rattle.golog_form.specs.Shape.{place_of}
use Rattle.golog_form.specs.Places.{IsInOrder}
use Rattle.golog_tree.specs.declared.draft.DraftTheory.{DraftTheory}
use Rattle.golog_tree.specs.declared.draft_cond.DraftArg.{DraftArg}
use Rattle.golog_tree.specs.declared.draft_cond.DraftArg.TheVariants.{Word, Number}
use Rattle.golog_tree.specs.declared.draft_cond.DraftTerm.{DraftTerm}
use Rattle.golog_tree.specs.declared.draft_cond.DraftTerm.TheVariants as term
use Rattle.golog_tree.specs.declared.draft_cond.DraftTerm.TheOpen.{Arg, Fluent, Shift}
use Rattle.golog_tree.specs.declared.draft_cond.DraftTerm.TheFolds.{fold-roll-DraftTerm}
use Rattle.golog_draft.specs.DraftPlaces.{arg_place, arg_places, term_places_step, term_places, value_places}
use Rattle.golog_draft.specs.DraftOrder.{Ascend}
use Rattle.golog_theory.specs.declared.heads.Called.{Called}
use Rattle.golog_theory.specs.declared.heads.Callee.{Callee}
use Rattle.golog_theory.specs.Reading.{Reading, gives, row, ◌>>=◌}
use Rattle.golog_theory.specs.Names.{same, is_constant}
use Rattle.golog_theory.specs.Parts.{word, parts, short_name, number_of, arg_of}
use Rattle.golog_theory.specs.Heads.{head_word, arguments, args_of, fluent_named, action_named, called, fluent_called, action_called}
use Rattle.golog_theory.specs.Fluents.{constant_arg, start_value, constants_of, ground_of}
use Rattle.golog_theory.specs.Terms.{step_of, plus_of, minus_of, fluent_term, atom_term, term_list, term_by, term_of, term_part}
use Rattle.golog_theory.proofs.Inside.{Each, by_parts, end_of, Between, stands, arguments-between}
use Rattle.golog_theory.proofs.Descent.{term_of-parts}
use Rattle.golog_theory.proofs.Yields.{Yields, gives-yields, refused-yields, row-yields, if-yields, then-yields}
use Rattle.golog_theory.proofs.Ascend.{ascend-low, ascend-high, Ascends, each-ascend}

-- the place of one argument
abbrev pub one_place : DraftArg → List ℕ
one_place arg = arg_place arg ∷ []

one-ascend : (f : Form) (arg : DraftArg) → IsInOrder f → arg_place arg ≡ place_of f → Ascend (place_of f) (one_place arg) (end_of f)
one-ascend f arg order is = (omega (arith, is), omega (arith, is, (stands f order).size))

arg_of-place : (f : Form) → Yields (λ arg. arg_place arg ≡ place_of f) (arg_of f)
unfolding arg_of
arg_of-place f =
    if-yields _ (is_name (word f)) (short_name f >>= (λ word. gives (Word word (place_of f)))) (number_of f >>= (λ number. gives (Number number (place_of f))))
    (λ _. then-yields (λ _. Unit {0}) _ (short_name f).outcome _ (λ x e. tt)
    (λ word _. gives-yields (λ arg. arg_place arg ≡ place_of f) (Word word (place_of f)) refl))
    (λ _. then-yields (λ _. Unit {0}) _ (number_of f).outcome _ (λ x e. tt)
    (λ number _. gives-yields (λ arg. arg_place arg ≡ place_of f) (Number number (place_of f)) refl))

pub arg_of-ascend : (f : Form) → IsInOrder f → Ascends one_place f (arg_of f)
arg_of-ascend f order arg e = one-ascend f arg order (arg_of-place f arg e)

args_push : (args : List DraftArg) (arg : DraftArg) → arg_places (args ++ arg ∷ []) ≡ arg_places args ++ one_place arg
args_push [] arg = refl
args_push (one ∷ args) arg = ap (λ places. arg_place one ∷ places) (args_push args arg)

pub args_of-ascend : (from : ℕ) (fs : List Form) (to : ℕ) → Between from fs to → Yields (λ args. Ascend from (arg_places args) to) (args_of fs)
unfolding args_of
args_of-ascend from fs to b = each-ascend arg_of one_place arg_places args_push arg_of-ascend [] from from fs to (omega arith) b

-- the places of the arguments of what is called
abbrev pub called_places : Called → List ℕ
called_places c = arg_places c.args

-- they stand behind the place of the form itself
abbrev pub AscendsInside : {A : Type 0} → (A → List ℕ) → Form → Reading A → Type 0
AscendsInside places f reading = Yields (λ x. Ascend (place_of f + 1) (places x) (end_of f)) reading

pub outside : {A : Type 0} (places : A → List ℕ) (f : Form) (reading : Reading A) → AscendsInside places f reading → Ascends places f reading
outside places f reading known x e = ascend-low (place_of f) (place_of f + 1) (end_of f) (places x) (omega arith) (known x e)

-- what is called has its arguments there
called-ascend : (f : Form) (callee : Option Callee) (args : Reading (List DraftArg)) → Yields (λ xs. Ascend (place_of f + 1) (arg_places xs) (end_of f)) args
    → AscendsInside called_places f (called f callee >>= λ n. args >>= λ xs. gives (record { item = n; args = xs }))
called-ascend f callee args ascends =
    then-yields (λ _. Unit {0}) _ (called f callee).outcome _ (λ x e. tt) (λ n _.
    then-yields _ _ args.outcome _ ascends (λ xs is.
    gives-yields (λ (c : Called). Ascend (place_of f + 1) (called_places c) (end_of f)) (record { item = n; args = xs }) is))

args-inside : (f : Form) → IsInOrder f → Yields (λ xs. Ascend (place_of f + 1) (arg_places xs) (end_of f)) (args_of (arguments f))
args-inside f order = args_of-ascend (place_of f + 1) (arguments f) (end_of f) (arguments-between f order)

pub fluent_called-ascend : (theory : DraftTheory) (f : Form) → IsInOrder f → AscendsInside called_places f (fluent_called theory f)
unfolding fluent_called
fluent_called-ascend theory f order = called-ascend f (fluent_named theory (head_word f)) (args_of (arguments f)) (args-inside f order)

pub action_called-ascend : (theory : DraftTheory) (f : Form) → IsInOrder f → AscendsInside called_places f (action_called theory f)
unfolding action_called
action_called-ascend theory f order = called-ascend f (action_named theory (head_word f)) (args_of (arguments f)) (args-inside f order)

module _ (theory : DraftTheory) where
  constant_arg-ascend : (f : Form) → IsInOrder f → Ascends one_place f (constant_arg theory f)
  unfolding constant_arg
  constant_arg-ascend f order =
      if-yields _ (is_name (word f)) (row (not (is_constant theory (word f))) 23 (place_of f) (arg_of f)) (arg_of f)
      (λ _. row-yields _ (not (is_constant theory (word f))) (23, place_of f) (arg_of f).outcome (λ _. arg_of-ascend f order))
      (λ _. arg_of-ascend f order)

  pub start_value-ascend : (f : Form) → IsInOrder f → Ascends value_places f (start_value theory f)
  unfolding start_value
  start_value-ascend f order =
      let Fits : Option DraftArg → Type 0 = λ value. Ascend (place_of f) (value_places value) (end_of f) in
      if-yields Fits (same (word f) (codes "unknown")) (gives None) (constant_arg theory f >>= (λ arg. gives (Some arg)))
      (λ _. gives-yields Fits None (omega (arith, (stands f order).size)))
      (λ _. then-yields _ _ (constant_arg theory f).outcome _ (constant_arg-ascend f order) (λ arg is. gives-yields Fits (Some arg) is))

  constants_of-ascend : (from : ℕ) (fs : List Form) (to : ℕ) → Between from fs to → Yields (λ args. Ascend from (arg_places args) to) (constants_of theory fs)
  unfolding constants_of
  constants_of-ascend from fs to b = each-ascend (constant_arg theory) one_place arg_places args_push constant_arg-ascend [] from from fs to (omega arith) b

  pub ground_of-ascend : (f : Form) → IsInOrder f → AscendsInside called_places f (ground_of theory f)
  unfolding ground_of
  ground_of-ascend f order =
      called-ascend f (fluent_named theory (head_word f)) (constants_of theory (arguments f))
      (constants_of-ascend (place_of f + 1) (arguments f) (end_of f) (arguments-between f order))

pub places-Arg : (arg : DraftArg) → term_places (term.Arg arg) ≡ one_place arg
places-Arg arg = ap term_places (sym (term.rolls-Arg arg)) ∙ fold-roll-DraftTerm (List ℕ) term_places_step (Arg arg)

places-Fluent : (item : ℕ) (args : List DraftArg) (at : ℕ) → term_places (term.Fluent item args at) ≡ at ∷ arg_places args
places-Fluent item args at = ap term_places (sym (term.rolls-Fluent item args at)) ∙ fold-roll-DraftTerm (List ℕ) term_places_step (Fluent item args at)

places-Shift : (t : DraftTerm) (by : ℤ) (at : ℕ) → term_places (term.Shift t by at) ≡ at ∷ term_places t
places-Shift t by at = ap term_places (sym (term.rolls-Shift t by at)) ∙ fold-roll-DraftTerm (List ℕ) term_places_step (Shift t by at)

module _ (theory : DraftTheory) where
  abbrev TermAscends : Form → Type 0
  TermAscends f = IsInOrder f → Ascends term_places f (term_of theory f)

  abbrev Within : ℕ → ℕ → DraftTerm → Type 0
  Within from to t = Ascend from (term_places t) to

  shifted : (at : ℕ) (one step : Form) (from to : ℕ) (t : DraftTerm) (by : ℤ) → at < from → Between from (one ∷ step ∷ []) to → Within (place_of one) (end_of one) t
      → Within at to (term.Shift t by at)
  shifted at one step from to t by lt b is =
      subst (λ places. Ascend at places to) (sym (places-Shift t by at)) (
        omega arith,
        ascend-low (at + 1) (place_of one) to (term_places t) (omega (arith, b.0))
            (ascend-high (place_of one) (end_of one) to (term_places t) (omega (arith, b.2.0, (stands step b.2.1).size, b.2.2)) is),
      )

  -- a term and a number, added or taken away
  shift-ascend : (change : ℤ → ℤ) (at : ℕ) (one step : Form) (from to : ℕ) → at < from → Between from (one ∷ step ∷ []) to → TermAscends one
      → Yields (Within at to) (term_of theory one >>= λ t. step_of step >>= λ by. gives (term.Shift t (change by) at))
  shift-ascend change at one step from to lt b known =
      then-yields _ _ (term_of theory one).outcome _ (known b.1) (λ t is.
      then-yields (λ _. Unit {0}) _ (step_of step).outcome _ (λ x e. tt) (λ by _.
      gives-yields (Within at to) (term.Shift t (change by) at) (shifted at one step from to t (change by) lt b is)))

  shifts-ascend : (at : ℕ) (fs : List Form) (from to : ℕ) → at < from → Between from fs to → Each TermAscends fs
      → Yields (Within at to) (plus_of at (map (term_part theory) fs)) × Yields (Within at to) (minus_of at (map (term_part theory) fs))
  unfolding plus_of minus_of
  shifts-ascend at [] from to lt b e = (refused-yields (Within at to) 20 at, refused-yields (Within at to) 20 at)
  shifts-ascend at (one ∷ []) from to lt b e = (refused-yields (Within at to) 20 at, refused-yields (Within at to) 20 at)
  shifts-ascend at (one ∷ step ∷ []) from to lt b e =
      (shift-ascend (λ by. by) at one step from to lt b e.0, shift-ascend neg_ℤ at one step from to lt b e.0)
  shifts-ascend at (one ∷ step ∷ other ∷ fs) from to lt b e = (refused-yields (Within at to) 20 at, refused-yields (Within at to) 20 at)

  fluent_term-ascend : (f : Form) → IsInOrder f → Ascends term_places f (fluent_term theory f)
  unfolding fluent_term
  fluent_term-ascend f order =
      then-yields _ _ (fluent_called theory f).outcome _ (fluent_called-ascend theory f order) (λ c is.
      gives-yields (Within (place_of f) (end_of f)) (term.Fluent c.item c.args (place_of f))
      (subst (λ places. Ascend (place_of f) places (end_of f)) (sym (places-Fluent c.item c.args (place_of f))) (omega arith, is)))

  atom_term-ascend : (f : Form) → IsInOrder f → Ascends term_places f (atom_term f)
  unfolding atom_term
  atom_term-ascend f order =
      then-yields _ _ (arg_of f).outcome _ (arg_of-ascend f order) (λ arg is.
      gives-yields (Within (place_of f) (end_of f)) (term.Arg arg) (subst (λ places. Ascend (place_of f) places (end_of f)) (sym (places-Arg arg)) is))

  term_list-ascend : (f : Form) (keyword : List ℕ) (fs : List Form) (from : ℕ) → IsInOrder f → place_of f < from → Between from fs (end_of f) → Each TermAscends fs
      → Ascends term_places f (term_list theory f keyword (map (term_part theory) fs))
  unfolding term_list
  term_list-ascend f keyword fs from order lt b e =
      let choose = if-yields (Within (place_of f) (end_of f)) in
      let parts = map (term_part theory) fs in
      let minus = if same keyword (codes "-") then minus_of (place_of f) parts else fluent_term theory f in
      choose (same keyword (codes "+")) (plus_of (place_of f) parts) minus (λ _. (shifts-ascend (place_of f) fs from (end_of f) lt b e).0)
      (λ _. choose (same keyword (codes "-")) (minus_of (place_of f) parts) (fluent_term theory f)
      (λ _. (shifts-ascend (place_of f) fs from (end_of f) lt b e).1) (λ _. fluent_term-ascend f order))

  term_by-ascend : (f : Form) (fs : List Form) → IsInOrder f → Between (place_of f + 1) fs (end_of f) → Each TermAscends fs
      → Ascends term_places f (term_by theory f (map (term_part theory) fs))
  term_by-ascend f [] order b e = atom_term-ascend f order
  term_by-ascend f (head ∷ fs) order b e =
      term_list-ascend f (word head) fs (end_of head) order (omega (arith, b.0, (stands head b.1).size)) b.2 e.1

  pub term_of-ascend : (f : Form) → IsInOrder f → Ascends term_places f (term_of theory f)
  term_of-ascend = by_parts TermAscends (λ f e order.
      subst (λ (reading : Reading DraftTerm). Ascends term_places f reading) (sym (term_of-parts theory f)) (term_by-ascend f (parts f) order (stands f order).inner e))

pub ruleset laws = (term_of-ascend)
