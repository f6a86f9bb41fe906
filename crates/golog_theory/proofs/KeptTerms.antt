-- What terms and conditions keep: fluents and sorts are declared, and there are as many arguments as declared.
use Rattle.std.proofs.Common.{◌≡◌, ℕ, ◌+◌, ◌<◌, zero, suc, Bool, true, false, not, ◌&&◌, ◌||◌, ◌==◌, ℤ, List, [], ◌∷◌, length, map, Option, Some, None, refl, sym, ap, subst, ◌∙◌, arith}
use Rattle.std.proofs.lemmas.Option.{slice_get-map, slice_get-get_or}
use Rattle.std.proofs.lemmas.List.Quantifiers.{position-Some}
use Rattle.std.specs.Prelude.{if◌then◌else◌, codes, nat_lt, slice_get, neg_ℤ, pos, get_or, ◌^◌}
use Rattle.std.specs.Option.{option_map_or}
use Rattle.golog_base.specs.Names.{is_name}
use Rattle.golog_form.specs.declared.form.Form.{Form}
use Rattle.golog_form.specs.Shape.{place_of}
use Rattle.golog_tree.specs.declared.draft.DraftTheory.{DraftTheory}
use Rattle.golog_tree.specs.declared.draft.DraftFluent.{DraftFluent}
use Rattle.golog_tree.specs.declared.draft_cond.DraftArg.{DraftArg}
use Rattle.golog_tree.specs.declared.draft_cond.DraftTerm.{DraftTerm}
use Rattle.golog_tree.specs.declared.draft_cond.DraftTerm.TheVariants as term
use Rattle.golog_tree.specs.declared.draft_cond.DraftTerm.TheOpen.{Arg, Fluent, Shift}
use Rattle.golog_tree.specs.declared.draft_cond.DraftTerm.TheFolds.{fold-roll-DraftTerm}
use Rattle.golog_tree.specs.declared.draft_cond.DraftCond.{DraftCond}
use Rattle.golog_tree.specs.declared.draft_cond.DraftCond.TheVariants as cond
use Rattle.golog_tree.specs.declared.draft_cond.DraftCond.TheFolds.{fold-roll-DraftCond}
use Rattle.golog_theory.specs.declared.heads.Called.{Called}
use Rattle.golog_theory.specs.declared.conditions.Sides.{Sides}
use Rattle.golog_theory.specs.declared.conditions.Binder.{Binder}
use Rattle.golog_theory.specs.declared.conditions.Bound.{Bound}
use Rattle.golog_theory.specs.Reading.{Reading, gives, refused, ◌>>=◌, each}
use Rattle.golog_theory.specs.Names.{same, fluent_no, fluent_arity, fluent_args}
use Rattle.golog_base.specs.Numbers.{is_number, has_sign, amount, value}
use Rattle.golog_theory.specs.Parts.{word, parts, arg_of}
use Rattle.golog_theory.specs.Heads.{head_word, head_place, arguments, args_of, with_arity, fluent_named, declared_with, called, fluent_called}
use Rattle.golog_theory.specs.Terms.{step_of, plus_of, minus_of, fluent_term, atom_term, term_list, term_by, term_of, term_part}
use Rattle.golog_draft.specs.Drafts.{signature, fluent_keeps, term_keeps_step, term_keeps}
use Rattle.golog_semantics.specs.Written.{is_amount}
use Rattle.golog_theory.proofs.Inside.{Each, by_parts}
use Rattle.golog_theory.proofs.Descent.{term_of-parts}
use Rattle.golog_theory.proofs.Yields.{Yields, gives-yields, refused-yields, row-yields, found-yields, if-yields, then-yields, each-yields}
use Rattle.golog_semantics.proofs.Tests.{neither_second}

-- what is called is declared, with as many arguments
pub record IsCalled (f : Form) (arity : ℕ → ℕ) (item : Option ℕ) (n : ℕ) : Type 0 where
  pub declared : item ≡ Some n
  pub count : length (arguments f) ≡ arity n

pub same-count : (a b : ℕ) → not (a == b) ≡ false → a ≡ b
same-count a b h = grind arith

pub equals : (a b : ℕ) → a ≡ b → (a == b) ≡ true
equals a b h = grind arith

declared_with-yields : (f : Form) (arity : ℕ → ℕ) (item : Option ℕ)
    → Yields (IsCalled f arity item) (declared_with (place_of f) (head_place f) (length (arguments f)) (with_arity arity item))
unfolding declared_with
declared_with-yields f arity None = refused-yields (IsCalled f arity None) 23 (head_place f)
declared_with-yields f arity (Some item) =
    row-yields (IsCalled f arity (Some item)) (not (length (arguments f) == arity item)) (24, place_of f) _ (λ same.
    gives-yields (IsCalled f arity (Some item)) item (record { declared = refl; count = same-count (length (arguments f)) (arity item) same }))

pub called-yields : (f : Form) (arity : ℕ → ℕ) (item : Option ℕ) → Yields (IsCalled f arity item) (called f (with_arity arity item))
unfolding called
called-yields f arity item =
    if-yields (IsCalled f arity item) (is_name (head_word f)) (declared_with (place_of f) (head_place f) (length (arguments f)) (with_arity arity item)) (refused 20 (place_of f))
    (λ _. declared_with-yields f arity item) (λ _. refused-yields (IsCalled f arity item) 20 (place_of f))

-- what is called, and the arguments that are read behind it
pub call-yields : (f : Form) (arity : ℕ → ℕ) (item : Option ℕ) (args : Reading (List DraftArg)) (Fit : List DraftArg → Type 0) (Fits : Called → Type 0) → Yields Fit args
    → ((n : ℕ) (xs : List DraftArg) → IsCalled f arity item n → Fit xs → Fits (record { item = n; args = xs }))
    → Yields Fits (called f (with_arity arity item) >>= λ n. args >>= λ xs. gives (record { item = n; args = xs }))
call-yields f arity item args Fit Fits fit fits =
    then-yields _ _ (called f (with_arity arity item)).outcome _ (called-yields f arity item) (λ n is.
    then-yields _ _ args.outcome _ fit (λ xs held. gives-yields Fits (record { item = n; args = xs }) (fits n xs is held)))

pub args_of-yields : (fs : List Form) → Yields (λ args. length args ≡ length fs) (args_of fs)
unfolding args_of
args_of-yields fs args e =
    let all = each-yields (λ _. Unit {0}) (λ (_ : List DraftArg). arg_of) (λ before part held x is. tt) [] fs tt args e in omega (arith, all.1)

pub some_fluent : DraftFluent
some_fluent = record { name = []; args = []; sort = 0; at = 0 }

pub fluent_keeps-from : (theory : DraftTheory) (n : ℕ) (args : List DraftArg) → n < length theory.fluents → length args ≡ fluent_arity theory n
    → fluent_keeps (signature theory) n args ≡ true
fluent_keeps-from theory n args lt count =
    let here = slice_get-get_or theory.fluents n some_fluent lt in
    let counts : length args ≡ fluent_args (Some (get_or theory.fluents n some_fluent)) = count ∙ ap fluent_args here in
    let at : slice_get (map (λ (item : DraftFluent). length item.args) theory.fluents) n ≡ Some (length (get_or theory.fluents n some_fluent).args) =
    slice_get-map (λ (item : DraftFluent). length item.args) theory.fluents n ∙ ap (λ o. option_map' o) here in
    ap (λ o. option_map_or (λ arity. arity == length args) o false) at ∙ equals (length (get_or theory.fluents n some_fluent).args) (length args) (sym counts)
  where
    option_map' : Option DraftFluent → Option ℕ
    option_map' None = None
    option_map' (Some item) = Some (length item.args)

pub fluent_called-yields : (theory : DraftTheory) (f : Form) → Yields (λ (c : Called). fluent_keeps (signature theory) c.item c.args ≡ true) (fluent_called theory f)
unfolding fluent_called fluent_named
fluent_called-yields theory f =
    call-yields f (fluent_arity theory) (fluent_no theory (head_word f)) (args_of (arguments f)) (λ args. length args ≡ length (arguments f))
    (λ (c : Called). fluent_keeps (signature theory) c.item c.args ≡ true) (args_of-yields (arguments f)) (λ n args is count.
    fluent_keeps-from theory n args ((position-Some (λ (fluent : DraftFluent). same (head_word f) fluent.name) theory.fluents n some_fluent is.declared).0) (count ∙ is.count))

-- the number of a `+` or `-`
neg-amount : (n : ℕ) → nat_lt n 2147483648 ≡ true → is_amount (neg_ℤ (pos n)) ≡ true
neg-amount zero h = refl
neg-amount (suc n) h = h

abbrev IsStep : ℤ → Type 0
IsStep by = (is_amount by ≡ true) × (is_amount (neg_ℤ by) ≡ true)

chosen : (b : Bool) (n : ℕ) (by : ℤ) → (b ≡ true → nat_lt n 2147483648 ≡ true) → (if b then Some (pos n) else None) ≡ Some by → IsStep by
chosen true n by h e =
    let same : pos n ≡ by = ap (λ o. from (pos n) o) e in subst IsStep same (h refl, neg-amount n (h refl))
  where
    from : ℤ → Option ℤ → ℤ
    from other None = other
    from other (Some x) = x
chosen false n by h e = absurd cc

is_step : (text : List ℕ) (by : ℤ) → has_sign text ≡ false → value text ≡ Some by → IsStep by
is_step text by plain e =
    let here : (if nat_lt (amount text) (2 ^ 31) then Some (pos (amount text)) else None) ≡ Some by = rw plain at e in
    chosen (nat_lt (amount text) (2 ^ 31)) (amount text) by (λ h. h) here

step_of-yields : (f : Form) → Yields IsStep (step_of f)
unfolding step_of
step_of-yields f =
    row-yields _ (not (is_number (word f)) || has_sign (word f)) (20, place_of f) _ (λ is.
    found-yields _ 26 (place_of f) (value (word f)) (λ by e. is_step (word f) by (neither_second (not (is_number (word f))) (has_sign (word f)) is) e))

module _ (theory : DraftTheory) where
  abbrev pub keeps : DraftTerm → Bool
  keeps = term_keeps (signature theory)

  pub keeps-Arg : (arg : DraftArg) → keeps (term.Arg arg) ≡ true
  keeps-Arg arg = ap keeps (sym (term.rolls-Arg arg)) ∙ fold-roll-DraftTerm Bool (term_keeps_step (signature theory)) (Arg arg)

  pub keeps-Fluent : (item : ℕ) (args : List DraftArg) (at : ℕ) → keeps (term.Fluent item args at) ≡ fluent_keeps (signature theory) item args
  keeps-Fluent item args at = ap keeps (sym (term.rolls-Fluent item args at)) ∙ fold-roll-DraftTerm Bool (term_keeps_step (signature theory)) (Fluent item args at)

  pub keeps-Shift : (t : DraftTerm) (by : ℤ) (at : ℕ) → keeps (term.Shift t by at) ≡ (keeps t && is_amount by)
  keeps-Shift t by at = ap keeps (sym (term.rolls-Shift t by at)) ∙ fold-roll-DraftTerm Bool (term_keeps_step (signature theory)) (Shift t by at)

  abbrev pub TermKeeps : DraftTerm → Type 0
  TermKeeps t = keeps t ≡ true

  abbrev IsKept : Form → Type 0
  IsKept f = Yields TermKeeps (term_of theory f)

  shifted : (t : DraftTerm) (by : ℤ) (at : ℕ) → TermKeeps t → is_amount by ≡ true → TermKeeps (term.Shift t by at)
  shifted t by at k a = keeps-Shift t by at ∙ rw (k, a) refl

  -- a term and a number, added or taken away
  shift-yields : (change : ℤ → ℤ) (at : ℕ) (one step : Form) → IsKept one → ((by : ℤ) → (is_amount by ≡ true) × (is_amount (neg_ℤ by) ≡ true) → is_amount (change by) ≡ true)
      → Yields TermKeeps (term_of theory one >>= λ t. step_of step >>= λ by. gives (term.Shift t (change by) at))
  shift-yields change at one step known amount =
      then-yields _ _ (term_of theory one).outcome _ known (λ t k.
      then-yields _ _ (step_of step).outcome _ (step_of-yields step) (λ by is. gives-yields TermKeeps (term.Shift t (change by) at) (shifted t (change by) at k (amount by is))))

  shifts-yields : (at : ℕ) (fs : List Form) → Each IsKept fs → Yields TermKeeps (plus_of at (map (term_part theory) fs)) × Yields TermKeeps (minus_of at (map (term_part theory) fs))
  unfolding plus_of minus_of
  shifts-yields at [] e = (refused-yields TermKeeps 20 at, refused-yields TermKeeps 20 at)
  shifts-yields at (one ∷ []) e = (refused-yields TermKeeps 20 at, refused-yields TermKeeps 20 at)
  shifts-yields at (one ∷ step ∷ []) e = (shift-yields (λ by. by) at one step e.0 (λ by is. is.0), shift-yields neg_ℤ at one step e.0 (λ by is. is.1))
  shifts-yields at (one ∷ step ∷ other ∷ fs) e = (refused-yields TermKeeps 20 at, refused-yields TermKeeps 20 at)

  fluent_term-yields : (f : Form) → Yields TermKeeps (fluent_term theory f)
  unfolding fluent_term
  fluent_term-yields f =
      then-yields _ _ (fluent_called theory f).outcome _ (fluent_called-yields theory f) (λ c k.
      gives-yields TermKeeps (term.Fluent c.item c.args (place_of f)) (keeps-Fluent c.item c.args (place_of f) ∙ k))

  atom_term-yields : (f : Form) → Yields TermKeeps (atom_term f)
  unfolding atom_term
  atom_term-yields f = then-yields (λ _. Unit {0}) _ (arg_of f).outcome _ (λ x e. tt) (λ arg _. gives-yields TermKeeps (term.Arg arg) (keeps-Arg arg))

  term_list-yields : (f : Form) (keyword : List ℕ) (fs : List Form) → Each IsKept fs → Yields TermKeeps (term_list theory f keyword (map (term_part theory) fs))
  unfolding term_list
  term_list-yields f keyword fs e =
      if-yields TermKeeps (same keyword (codes "+")) (plus_of (place_of f) (map (term_part theory) fs))
      (if same keyword (codes "-") then minus_of (place_of f) (map (term_part theory) fs) else fluent_term theory f)
      (λ _. (shifts-yields (place_of f) fs e).0)
      (λ _. if-yields TermKeeps (same keyword (codes "-")) (minus_of (place_of f) (map (term_part theory) fs)) (fluent_term theory f)
      (λ _. (shifts-yields (place_of f) fs e).1) (λ _. fluent_term-yields f))

  term_by-yields : (f : Form) (fs : List Form) → Each IsKept fs → Yields TermKeeps (term_by theory f (map (term_part theory) fs))
  term_by-yields f [] e = atom_term-yields f
  term_by-yields f (head ∷ fs) e = term_list-yields f (word head) fs e.1

  pub term_of-yields : (f : Form) → Yields TermKeeps (term_of theory f)
  term_of-yields = by_parts IsKept (λ f e.
      subst (λ (reading : Reading DraftTerm). Yields TermKeeps reading) (sym (term_of-parts theory f)) (term_by-yields f (parts f) e))

pub ruleset laws = (fluent_called-yields, term_of-yields)
