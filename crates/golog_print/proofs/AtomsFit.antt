-- All atoms of the form of a program that fits are such.
use Rattle.std.proofs.Common.{◌≡◌, ℕ, suc, ◌+◌, ◌<◌, ◌≤◌, ◌^◌, ℤ, pos, negsuc, Bool, true, false, ◌&&◌, ◌||◌, ◌==◌, List, [], ◌∷◌, length, map, refl, sym, ap, subst, ◌∙◌, Option, Some, None, inr, arith}
use Rattle.std.specs.Prelude.{if◌then◌else◌, not, nat_lt, nat_le, slice_get, unwrap_or, codes, decimal, unsigned_abs, ◌+ℤ◌}
use Rattle.std.specs.List.{list_all}
use Rattle.std.specs.Option.{option_map_or}
use Rattle.std.proofs.lemmas.Bool.{eqb-true, ltb-true, leb-true}
use Rattle.golog_form.specs.declared.form.Form.{Form}
use Rattle.golog_form.specs.Printing.{atom_fits, atoms_fit}
use Rattle.golog_form.proofs.ReadBack.{fit-Atom, fit-Group}
use Rattle.golog_tree.specs.declared.agent.Agent.{Agent}
use Rattle.golog_tree.specs.declared.agent.SortItem.{SortItem}
use Rattle.golog_tree.specs.declared.agent.SortItem.TheVariants.{Range, Listed}
use Rattle.golog_tree.specs.declared.agent.FluentItem.{FluentItem}
use Rattle.golog_tree.specs.declared.agent.ActionItem.{ActionItem}
use Rattle.golog_tree.specs.declared.agent.ProcItem.{ProcItem}
use Rattle.golog_tree.specs.declared.cond.Arg.{Arg}
use Rattle.golog_tree.specs.declared.cond.Arg.TheVariants.{Const, Var}
use Rattle.golog_tree.specs.declared.cond.Cond.{Cond}
use Rattle.golog_tree.specs.declared.cond.Cond.TheOpen.{Term-F, Arg as ArgTerm, Fluent, Shift, Ite}
use Rattle.golog_tree.specs.declared.cond.Cond.TheOpen.{Cond-F, Truth, Is, Equal, Less, AtMost, Not, And, Or, ForSome, ForAll}
use Rattle.golog_tree.specs.declared.cond.Cond.TheViews.{roll-Cond, roll-Term}
use Rattle.golog_tree.specs.declared.cond.Cond.TheFolds.{fold-Term, fold-roll-Cond, fold-roll-Term, ind-Cond, map-Cond, map-Term}
use Rattle.golog_tree.specs.declared.cond.Term.{Term}
use Rattle.golog_tree.specs.declared.prog.Prog.{Prog}
use Rattle.golog_tree.specs.declared.prog.Way.{Way}
use Rattle.golog_tree.specs.declared.prog.Prog.TheOpen.{Prog-F, Nil, Act, Test, Seq, Choice, Pick, Star, If, While, Conc, Prio, Cstar, Call, Search, Follow}
use Rattle.golog_tree.specs.declared.prog.Prog.TheViews.{roll-Prog}
use Rattle.golog_tree.specs.declared.prog.Prog.TheFolds.{fold-Way, fold-roll-Prog, ind-Prog, map-Prog}
use Rattle.golog_tree.specs.Ground.{size_at, sort_size}
use Rattle.golog_semantics.specs.Text.{Text, constant_in, constant_text}
use Rattle.golog_semantics.specs.WellFormed.{WellFormed}
use Rattle.golog_semantics.specs.ReportLaws.{RangesFit}
use Rattle.golog_semantics.specs.Ways.{is_empty}
use Rattle.golog_semantics.specs.Fits as fits
use Rattle.golog_semantics.specs.Fits.{is_sort, arg_fits, args_fit, fluent_fits, binder_fits, cond_fits, term_fits, bool_sort}
use Rattle.golog_semantics.specs.ProgFits as within
use Rattle.golog_semantics.specs.ProgFits.{Position, prog_fits, act_fits, block_fits}
use Rattle.golog_semantics.specs.BlockFree.{block_at, proc_blocks}
use Rattle.golog_semantics.specs.Written.{Wording, is_amount, written_cond_step, written_term_step, is_written_cond, written_prog_step, is_written_prog}
use Rattle.golog_semantics.proofs.Among.{among-get}
use Rattle.golog_semantics.proofs.Words.{and-left, and-right, and-both}
use Rattle.golog_check.proofs.ArgLaws.{none-not}
use Rattle.golog_check.proofs.Layers.{fits-cond, fits-prog, fits-term, way_fits, way_written, written-cond, written-prog, written-term}
use Rattle.golog_print.specs.Printing.{stem_text, sign_text, truth_text, sort_name, fluent_name, action_name, proc_name, fluent_sorts, action_sorts, proc_sorts, variable_text, arg_text, args_texts}
use Rattle.golog_print.proofs.PrintedForms as form
use Rattle.golog_print.proofs.PrintedForms.{atom, list, binder_form, fluent_form, term_form, cond_form, prog_form, form-term, form-cond}
use Rattle.golog_print.proofs.AtomWords.{name-atom, count-atom, number-atom, variable-atom}
use Rattle.golog_print.proofs.DeclaredWords.{there-is, sort-word, fluent-word, action-word, proc-word, sort-name-word}
use Rattle.golog_print.proofs.RangeNumbers.{small}
use Rattle.golog_print.proofs.ReadArgs.{wrong}

atoms-atom : (text : Text) → atoms_fit (atom text) ≡ atom_fits text
atoms-atom text = fit-Atom text 0 0

all-of : List Form → Bool
all-of forms = list_all (λ fits. fits) (map atoms_fit forms)

-- a list of forms whose atoms fit
atoms-list : (forms : List Form) → list_all (λ fits. fits) (map atoms_fit forms) ≡ true → atoms_fit (list forms) ≡ true
atoms-list forms e = fit-Group forms 0 0 ∙ e

atoms-texts : (texts : List Text) → list_all atom_fits texts ≡ true → list_all (λ fits. fits) (map atoms_fit (map atom texts)) ≡ true
atoms-texts [] e = refl
atoms-texts (text ∷ texts) e =
    and-both (atoms_fit (atom text)) (list_all (λ fits. fits) (map atoms_fit (map atom texts)))
    (atoms-atom text ∙ and-left (atom_fits text) (list_all atom_fits texts) e)
    (atoms-texts texts (and-right (atom_fits text) (list_all atom_fits texts) e))

-- a list behind a word, and more forms behind a word
atoms-more : (f : Form) (forms : List Form) → atoms_fit f ≡ true → list_all (λ fits. fits) (map atoms_fit forms) ≡ true → list_all (λ fits. fits) (map atoms_fit (f ∷ forms)) ≡ true
atoms-more f forms e h = and-both (atoms_fit f) (list_all (λ fits. fits) (map atoms_fit forms)) e h

atoms-one : (word : Text) (f : Form) → atom_fits word ≡ true → atoms_fit f ≡ true → atoms_fit (list (atom word ∷ f ∷ [])) ≡ true
atoms-one word f e h = atoms-list (atom word ∷ f ∷ []) (atoms-more (atom word) (f ∷ []) (atoms-atom word ∙ e) (atoms-more f [] h refl))

atoms-two : (word : Text) (f g : Form) → atom_fits word ≡ true → atoms_fit f ≡ true → atoms_fit g ≡ true → atoms_fit (list (atom word ∷ f ∷ g ∷ [])) ≡ true
atoms-two word f g e h k =
    atoms-list (atom word ∷ f ∷ g ∷ []) (atoms-more (atom word) (f ∷ g ∷ []) (atoms-atom word ∙ e) (atoms-more f (g ∷ []) h (atoms-more g [] k refl)))

atoms-three : (word : Text) (f g i : Form) → atom_fits word ≡ true → atoms_fit f ≡ true → atoms_fit g ≡ true → atoms_fit i ≡ true → atoms_fit (list (atom word ∷ f ∷ g ∷ i ∷ [])) ≡ true
atoms-three word f g i e h k l =
    atoms-list (atom word ∷ f ∷ g ∷ i ∷ [])
    (atoms-more (atom word) (f ∷ g ∷ i ∷ []) (atoms-atom word ∙ e) (atoms-more f (g ∷ i ∷ []) h (atoms-more g (i ∷ []) k (atoms-more i [] l refl))))

-- only variables below 32 are bound
abbrev pub FewBound : fits.Scope → Type 0
FewBound scope = (x sort : ℕ) → scope x ≡ Some sort → x < 32

pub few-none : FewBound fits.nothing_bound
few-none x sort e = absurd (none-not sort e)

pub few-more : (scope : fits.Scope) (var sort : ℕ) → var < 32 → FewBound scope → FewBound (fits.bound scope var sort)
few-more scope var sort h few x s e = go (x == var) refl e
  where
    go : (b : Bool) → (x == var) ≡ b → (if b then Some sort else scope x) ≡ Some s → x < 32
    go true is k = let same : x ≡ var = eqb-true x var is in omega (arith, same, h)
    go false is k = few x s k

module _ (agent : Agent) (formed : WellFormed agent) (ranges : RangesFit agent) (k : ℕ) (less : k < 2 ^ 64) where
  abbrev stem : Text
  stem = stem_text k

  var-atom : (scope : fits.Scope) → FewBound scope → (sort x : ℕ) → arg_fits agent scope sort (Var x) ≡ true → atom_fits (variable_text agent stem x) ≡ true
  var-atom scope few sort x h = variable-atom k x less (go (scope x) refl h)
    where
      go : (o : Option ℕ) → scope x ≡ o → option_map_or (λ s. s == sort) o false ≡ true → x < 2 ^ 64
      go None e h = wrong h
      go (Some s) e h = let below = few x s e in omega (arith, below)

  const-atom : (sort c : ℕ) → nat_lt c (sort_size agent sort) ≡ true → atom_fits (constant_text agent sort c) ≡ true
  const-atom sort c h = go (slice_get agent.sorts sort) refl h
    where
      go : (o : Option SortItem) → slice_get agent.sorts sort ≡ o → nat_lt c (size_at o) ≡ true → atom_fits (option_map_or (λ item. constant_in item c) o []) ≡ true
      go None e h = let l : c < 0 = ltb-true c 0 h in absurd (omega (arith, l))
      go (Some (Range name low high)) e h =
          let ends = ranges sort name low high e in
          number-atom (low +ℤ pos c) (small low high ends.0 ends.1 c (ltb-true c (size_at (Some (Range name low high))) h))
      go (Some (Listed name constants)) e h =
          let one = there-is constants c (ltb-true c (length constants) h) in
          let word = sort-word agent formed sort (Listed name constants) one.0 e (inr (among-get constants c one.0 one.1)) in
          subst (λ o. atom_fits (unwrap_or o []) ≡ true) (sym one.1) (name-atom one.0 word.named)

  arg-atom : (scope : fits.Scope) → FewBound scope → (sort : ℕ) (arg : Arg) → arg_fits agent scope sort arg ≡ true → atom_fits (arg_text agent stem sort arg) ≡ true
  arg-atom scope few sort (Const c) h = const-atom sort c h
  arg-atom scope few sort (Var x) h = var-atom scope few sort x h

  args-atoms : (scope : fits.Scope) → FewBound scope → (sorts : List ℕ) (args : List Arg) → args_fit agent scope sorts args ≡ true → list_all atom_fits (args_texts agent stem sorts args) ≡ true
  args-atoms scope few [] args h = refl
  args-atoms scope few (sort ∷ sorts) [] h = refl
  args-atoms scope few (sort ∷ sorts) (arg ∷ args) h =
      and-both (atom_fits (arg_text agent stem sort arg)) (list_all atom_fits (args_texts agent stem sorts args))
      (arg-atom scope few sort arg (and-left (arg_fits agent scope sort arg) (args_fit agent scope sorts args) h))
      (args-atoms scope few sorts args (and-right (arg_fits agent scope sort arg) (args_fit agent scope sorts args) h))

  -- a name and arguments in a list
  named-atoms : (scope : fits.Scope) → FewBound scope → (name : Text) (sorts : List ℕ) (args : List Arg) → atom_fits name ≡ true → args_fit agent scope sorts args ≡ true
      → list_all atom_fits (name ∷ args_texts agent stem sorts args) ≡ true
  named-atoms scope few name sorts args e h =
      and-both (atom_fits name) (list_all atom_fits (args_texts agent stem sorts args)) e (args-atoms scope few sorts args h)

  fluent-atoms : (scope : fits.Scope) → FewBound scope → (sort fluent : ℕ) (args : List Arg) → fluent_fits agent scope sort fluent args ≡ true → atoms_fit (fluent_form agent stem fluent args) ≡ true
  fluent-atoms scope few sort fluent args h =
      let texts = fluent_name agent fluent ∷ args_texts agent stem (fluent_sorts agent fluent) args in
      atoms-list (map atom texts) (atoms-texts texts (go (slice_get agent.fluents fluent) refl h))
    where
      go : (o : Option FluentItem) → slice_get agent.fluents fluent ≡ o → option_map_or (λ (item : FluentItem). item.sort == sort && args_fit agent scope item.args args) o false ≡ true
          → list_all atom_fits (option_map_or (λ (item : FluentItem). item.name) o [] ∷ args_texts agent stem (option_map_or (λ (item : FluentItem). item.args) o []) args) ≡ true
      go None e h = wrong h
      go (Some item) e h =
          named-atoms scope few item.name item.args args (name-atom item.name (fluent-word agent formed fluent item e).named)
          (and-right (item.sort == sort) (args_fit agent scope item.args args) h)

  binder-atoms : (var sort : ℕ) → binder_fits agent var sort ≡ true → atoms_fit (binder_form agent stem var sort) ≡ true
  binder-atoms var sort h =
      let small : var < 32 = ltb-true var 32 (and-left (nat_lt var 32) (is_sort agent sort) h) in
      let texts = variable_text agent stem var ∷ sort_name agent sort ∷ [] in
      atoms-list (map atom texts) (atoms-texts texts
      (and-both (atom_fits (variable_text agent stem var)) (atom_fits (sort_name agent sort) && true) (variable-atom k var less (omega (arith, small)))
      (and-both (atom_fits (sort_name agent sort)) true (name-atom (sort_name agent sort) (sort-name-word agent formed sort (and-right (nat_lt var 32) (is_sort agent sort) h)).named) refl)))

  amount-small : (by : ℤ) → is_amount by ≡ true → unsigned_abs by < 2 ^ 64
  amount-small (pos n) h = let l : n < 2147483648 = ltb-true n 2147483648 h in omega (arith, l)
  amount-small (negsuc n) h = let l : suc n < 2147483648 = ltb-true (suc n) 2147483648 h in omega (arith, l)

  sign-atom : (by : ℤ) → atom_fits (sign_text by) ≡ true
  sign-atom (pos n) = refl
  sign-atom (negsuc n) = refl

  truth-atom : (b : Bool) → atom_fits (truth_text b) ≡ true
  truth-atom true = refl
  truth-atom false = refl

  abbrev wording : Term → Wording
  wording = fold-Term (ℕ → Bool) Wording (written_cond_step agent) (written_term_step agent)

  abbrev TermAtoms : Term → Type 0
  TermAtoms t = (scope : fits.Scope) → FewBound scope → (sort : ℕ) → term_fits agent t scope sort ≡ true → (wording t).written ≡ true → atoms_fit (term_form agent stem t sort) ≡ true

  abbrev pub CondAtoms : Cond → Type 0
  CondAtoms c = (scope : fits.Scope) → FewBound scope → (n : ℕ) → cond_fits agent c scope ≡ true → is_written_cond agent c n ≡ true → atoms_fit (cond_form agent stem c) ≡ true

  abbrev AT : Type 0
  AT = (t : Term) × TermAtoms t

  abbrev AC : Type 0
  AC = (c : Cond) × CondAtoms c

  abbrev term_of : Term-F AC AT → Term-F Cond Term
  term_of y = map-Term AC AT Cond Term (λ e. e.0) (λ e. e.0) y

  abbrev cond_of : Cond-F AC AT → Cond-F Cond Term
  cond_of y = map-Cond AC AT Cond Term (λ e. e.0) (λ e. e.0) y

  atoms-term : (y : Term-F AC AT) (scope : fits.Scope) → FewBound scope → (sort : ℕ)
      → fits.term_step agent (map-Term Cond Term (fits.Scope → Bool) (fits.Scope → ℕ → Bool) (cond_fits agent) (term_fits agent) (term_of y)) scope sort ≡ true
      → (written_term_step agent (map-Term Cond Term (ℕ → Bool) Wording (is_written_cond agent) wording (term_of y))).written ≡ true
      → atoms_fit (form.term_step agent stem (map-Term Cond Term Form (ℕ → Form) (cond_form agent stem) (term_form agent stem) (term_of y)) sort) ≡ true
  atoms-term (ArgTerm arg) scope few sort h w = atoms-atom (arg_text agent stem sort arg) ∙ arg-atom scope few sort arg h
  atoms-term (Fluent fluent args) scope few sort h w = fluent-atoms scope few sort fluent args h
  atoms-term (Shift own t by) scope few sort h w =
      let same : own ≡ sort = eqb-true own sort (and-left (own == sort) (fits.is_range agent sort) (and-left (own == sort && fits.is_range agent sort) (term_fits agent t.0 scope sort) h)) in
      let inner : term_fits agent t.0 scope own ≡ true = subst (λ s. term_fits agent t.0 scope s ≡ true) (sym same) (and-right (own == sort && fits.is_range agent sort) (term_fits agent t.0 scope sort) h) in
      atoms-two (sign_text by) (term_form agent stem t.0 own) (atom (decimal (unsigned_abs by))) (sign-atom by)
      (t.1 scope few own inner (and-left (wording t.0).written (is_amount by) w))
      (atoms-atom (decimal (unsigned_abs by)) ∙ count-atom (unsigned_abs by) (amount-small by (and-right (wording t.0).written (is_amount by) w)))
  atoms-term (Ite c one other) scope few sort h w = wrong w

  term-layer : (y : Term-F AC AT) → TermAtoms (roll-Term (term_of y))
  term-layer y scope few sort h w =
      ap (λ (f : ℕ → Form). atoms_fit (f sort)) (form-term agent stem (term_of y))
      ∙ atoms-term y scope few sort
      (sym (ap (λ (f : fits.Scope → ℕ → Bool). f scope sort) (fits-term agent (term_of y))) ∙ h)
      (sym (ap (λ (x : Wording). x.written) (written-term agent (term_of y))) ∙ w)

  -- two sides in a list behind a sign
  sides-atoms : (sign : Text) (one other : AT) (scope : fits.Scope) → FewBound scope → (sort : ℕ) → atom_fits sign ≡ true → (of_sort shown : Bool)
      → (of_sort && term_fits agent one.0 scope sort && term_fits agent other.0 scope sort) ≡ true
      → ((wording one.0).written && (wording other.0).written && shown) ≡ true
      → atoms_fit (list (atom sign ∷ term_form agent stem one.0 sort ∷ term_form agent stem other.0 sort ∷ [])) ≡ true
  sides-atoms sign one other scope few sort e of_sort shown h w =
      let front = and-left (of_sort && term_fits agent one.0 scope sort) (term_fits agent other.0 scope sort) h in
      let words = and-left ((wording one.0).written && (wording other.0).written) shown w in
      atoms-two sign (term_form agent stem one.0 sort) (term_form agent stem other.0 sort) e
      (one.1 scope few sort (and-right of_sort (term_fits agent one.0 scope sort) front) (and-left (wording one.0).written (wording other.0).written words))
      (other.1 scope few sort (and-right (of_sort && term_fits agent one.0 scope sort) (term_fits agent other.0 scope sort) h) (and-right (wording one.0).written (wording other.0).written words))

  abbrev shows : ℕ → AT → AT → Bool
  shows sort one other = (wording one.0).shows_sort || (wording other.0).shows_sort || not (fits.is_range agent sort)

  conds-atoms : (cs : List AC) (scope : fits.Scope) → FewBound scope → (n : ℕ)
      → list_all (λ (c : fits.Scope → Bool). c scope) (map (cond_fits agent) (map (λ (e : AC). e.0) cs)) ≡ true
      → list_all (λ (c : ℕ → Bool). c n) (map (is_written_cond agent) (map (λ (e : AC). e.0) cs)) ≡ true
      → list_all (λ fits. fits) (map atoms_fit (map (cond_form agent stem) (map (λ (e : AC). e.0) cs))) ≡ true
  conds-atoms [] scope few n h w = refl
  conds-atoms (c ∷ cs) scope few n h w =
      let others = map (λ (e : AC). e.0) cs in
      atoms-more (cond_form agent stem c.0) (map (cond_form agent stem) others)
      (c.1 scope few n (and-left (cond_fits agent c.0 scope) (list_all (λ (c : fits.Scope → Bool). c scope) (map (cond_fits agent) others)) h)
      (and-left (is_written_cond agent c.0 n) (list_all (λ (c : ℕ → Bool). c n) (map (is_written_cond agent) others)) w))
      (conds-atoms cs scope few n (and-right (cond_fits agent c.0 scope) (list_all (λ (c : fits.Scope → Bool). c scope) (map (cond_fits agent) others)) h)
      (and-right (is_written_cond agent c.0 n) (list_all (λ (c : ℕ → Bool). c n) (map (is_written_cond agent) others)) w))

  list-atoms : (word : Text) (cs : List AC) (scope : fits.Scope) → FewBound scope → (n : ℕ) → atom_fits word ≡ true
      → list_all (λ (c : fits.Scope → Bool). c scope) (map (cond_fits agent) (map (λ (e : AC). e.0) cs)) ≡ true
      → list_all (λ (c : ℕ → Bool). c n) (map (is_written_cond agent) (map (λ (e : AC). e.0) cs)) ≡ true
      → atoms_fit (list (atom word ∷ map (cond_form agent stem) (map (λ (e : AC). e.0) cs))) ≡ true
  list-atoms word cs scope few n e h w =
      let forms = map (cond_form agent stem) (map (λ (e : AC). e.0) cs) in
      atoms-list (atom word ∷ forms) (atoms-more (atom word) forms (atoms-atom word ∙ e) (conds-atoms cs scope few n h w))

  bound-atoms : (word : Text) (var sort : ℕ) (c : AC) (scope : fits.Scope) → FewBound scope → (n : ℕ) → atom_fits word ≡ true
      → (binder_fits agent var sort && cond_fits agent c.0 (fits.bound scope var sort)) ≡ true
      → (var == n && is_written_cond agent c.0 (n + 1)) ≡ true
      → atoms_fit (list (atom word ∷ binder_form agent stem var sort ∷ cond_form agent stem c.0 ∷ [])) ≡ true
  bound-atoms word var sort c scope few n e h w =
      let binder = and-left (binder_fits agent var sort) (cond_fits agent c.0 (fits.bound scope var sort)) h in
      let small : var < 32 = ltb-true var 32 (and-left (nat_lt var 32) (is_sort agent sort) binder) in
      atoms-two word (binder_form agent stem var sort) (cond_form agent stem c.0) e (binder-atoms var sort binder)
      (c.1 (fits.bound scope var sort) (few-more scope var sort small few) (n + 1)
      (and-right (binder_fits agent var sort) (cond_fits agent c.0 (fits.bound scope var sort)) h)
      (and-right (var == n) (is_written_cond agent c.0 (n + 1)) w))

  atoms-cond : (y : Cond-F AC AT) (scope : fits.Scope) → FewBound scope → (n : ℕ)
      → fits.cond_step agent (map-Cond Cond Term (fits.Scope → Bool) (fits.Scope → ℕ → Bool) (cond_fits agent) (term_fits agent) (cond_of y)) scope ≡ true
      → written_cond_step agent (map-Cond Cond Term (ℕ → Bool) Wording (is_written_cond agent) wording (cond_of y)) n ≡ true
      → atoms_fit (form.cond_step agent stem (map-Cond Cond Term Form (ℕ → Form) (cond_form agent stem) (term_form agent stem) (cond_of y))) ≡ true
  atoms-cond (Truth b) scope few n h w = atoms-atom (truth_text b) ∙ truth-atom b
  atoms-cond (Is fluent args) scope few n h w = fluent-atoms scope few bool_sort fluent args h
  atoms-cond (Equal sort one other) scope few n h w = sides-atoms (codes "=") one other scope few sort refl (is_sort agent sort) (shows sort one other) h w
  atoms-cond (Less sort one other) scope few n h w = sides-atoms (codes "<") one other scope few sort refl (fits.is_range agent sort) (shows sort one other) h w
  atoms-cond (AtMost sort one other) scope few n h w = sides-atoms (codes "<=") one other scope few sort refl (fits.is_range agent sort) (shows sort one other) h w
  atoms-cond (Not c) scope few n h w = atoms-one (codes "not") (cond_form agent stem c.0) refl (c.1 scope few n h w)
  atoms-cond (And cs) scope few n h w = list-atoms (codes "and") cs scope few n refl h w
  atoms-cond (Or cs) scope few n h w = list-atoms (codes "or") cs scope few n refl h w
  atoms-cond (ForSome var sort c) scope few n h w = bound-atoms (codes "some") var sort c scope few n refl h w
  atoms-cond (ForAll var sort c) scope few n h w = bound-atoms (codes "all") var sort c scope few n refl h w

  cond-layer : (y : Cond-F AC AT) → CondAtoms (roll-Cond (cond_of y))
  cond-layer y scope few n h w =
      ap atoms_fit (form-cond agent stem (cond_of y))
      ∙ atoms-cond y scope few n
      (sym (ap (λ (f : fits.Scope → Bool). f scope) (fits-cond agent (cond_of y))) ∙ h)
      (sym (ap (λ (f : ℕ → Bool). f n) (written-cond agent (cond_of y))) ∙ w)

  pub cond-atoms : (c : Cond) → CondAtoms c
  cond-atoms = ind-Cond CondAtoms TermAtoms (λ x y is. subst (λ z. CondAtoms (roll-Cond z)) is (cond-layer y)) (λ x y is. subst (λ z. TermAtoms (roll-Term z)) is (term-layer y))

  abbrev pub ProgAtoms : Prog → Type 0
  ProgAtoms p = (at : Position) → FewBound at.scope → (n : ℕ) → prog_fits agent p at ≡ true → is_written_prog agent p n ≡ true → atoms_fit (prog_form agent stem p) ≡ true

  abbrev AP : Type 0
  AP = (p : Prog) × ProgAtoms p

  abbrev AW : Type 0
  AW = (w : Way) × Unit {0}

  abbrev prog_of : Prog-F AP AW → Prog-F Prog Way
  prog_of y = map-Prog AP AW Prog Way (λ e. e.0) (λ e. e.0) y

  abbrev way_form : Way → Form
  way_form = fold-Way Form Form (form.prog_step agent stem) (λ _. list [])

  two-progs : (word : Text) (p q : AP) (at : Position) → FewBound at.scope → (n : ℕ) → atom_fits word ≡ true → (prog_fits agent p.0 at && prog_fits agent q.0 at) ≡ true
      → (is_written_prog agent p.0 n && is_written_prog agent q.0 n) ≡ true → atoms_fit (list (atom word ∷ prog_form agent stem p.0 ∷ prog_form agent stem q.0 ∷ [])) ≡ true
  two-progs word p q at few n e h w =
      atoms-two word (prog_form agent stem p.0) (prog_form agent stem q.0) e
      (p.1 at few n (and-left (prog_fits agent p.0 at) (prog_fits agent q.0 at) h) (and-left (is_written_prog agent p.0 n) (is_written_prog agent q.0 n) w))
      (q.1 at few n (and-right (prog_fits agent p.0 at) (prog_fits agent q.0 at) h) (and-right (is_written_prog agent p.0 n) (is_written_prog agent q.0 n) w))

  act-atoms : (at : Position) → FewBound at.scope → (action : ℕ) (args : List Arg) → act_fits agent at action args ≡ true
      → atoms_fit (list (map atom (codes "act" ∷ action_name agent action ∷ args_texts agent stem (action_sorts agent action) args))) ≡ true
  act-atoms at few action args h =
      let texts = codes "act" ∷ action_name agent action ∷ args_texts agent stem (action_sorts agent action) args in
      atoms-list (map atom texts) (atoms-texts texts (go (slice_get agent.actions action) refl h))
    where
      go : (o : Option ActionItem) → slice_get agent.actions action ≡ o → option_map_or (λ (item : ActionItem). is_empty item.posters && args_fit agent at.scope item.args args) o false ≡ true
          → list_all atom_fits (option_map_or (λ (item : ActionItem). item.name) o [] ∷ args_texts agent stem (option_map_or (λ (item : ActionItem). item.args) o []) args) ≡ true
      go None e h = wrong h
      go (Some item) e h =
          named-atoms at.scope few item.name item.args args (name-atom item.name (action-word agent formed action item e).named)
          (and-right (is_empty item.posters) (args_fit agent at.scope item.args args) h)

  call-atoms : (at : Position) → FewBound at.scope → (item : ℕ) (args : List Arg) → option_map_or (λ (proc : ProcItem). args_fit agent at.scope proc.params args) (slice_get agent.procs item) false ≡ true
      → atoms_fit (list (map atom (codes "call" ∷ proc_name agent item ∷ args_texts agent stem (proc_sorts agent item) args))) ≡ true
  call-atoms at few item args h =
      let texts = codes "call" ∷ proc_name agent item ∷ args_texts agent stem (proc_sorts agent item) args in
      atoms-list (map atom texts) (atoms-texts texts (go (slice_get agent.procs item) refl h))
    where
      go : (o : Option ProcItem) → slice_get agent.procs item ≡ o → option_map_or (λ (proc : ProcItem). args_fit agent at.scope proc.params args) o false ≡ true
          → list_all atom_fits (option_map_or (λ (proc : ProcItem). proc.name) o [] ∷ args_texts agent stem (option_map_or (λ (proc : ProcItem). proc.params) o []) args) ≡ true
      go None e h = wrong h
      go (Some proc) e h = named-atoms at.scope few proc.name proc.params args (name-atom proc.name (proc-word agent formed item proc e).named) h

  between-small : (low high n : ℕ) → within.is_between low high n ≡ true → n ≤ high
  between-small low high n h = leb-true n high (and-right (nat_le low n) (nat_le n high) h)

  block-small : (at : Position) (depth fuel : ℕ) → block_fits at depth fuel ≡ true → (depth ≤ 64) × (fuel ≤ 100000)
  block-small at depth fuel h =
      let front = and-left (not at.in_block && within.is_between 1 64 depth) (within.is_between 1 100000 fuel) h in
      (between-small 1 64 depth (and-right (not at.in_block) (within.is_between 1 64 depth) front), between-small 1 100000 fuel (and-right (not at.in_block && within.is_between 1 64 depth) (within.is_between 1 100000 fuel) h))

  atoms-prog : (y : Prog-F AP AW) (at : Position) → FewBound at.scope → (n : ℕ)
      → within.prog_step agent (map-Prog Prog Way (Position → Bool) (Position → Bool) (prog_fits agent) (way_fits agent) (prog_of y)) at ≡ true
      → written_prog_step agent (map-Prog Prog Way (ℕ → Bool) Bool (is_written_prog agent) (way_written agent) (prog_of y)) n ≡ true
      → atoms_fit (form.prog_step agent stem (map-Prog Prog Way Form Form (prog_form agent stem) way_form (prog_of y))) ≡ true
  atoms-prog Nil at few n h w = atoms-atom (codes "nil") ∙ refl
  atoms-prog (Act action args) at few n h w = act-atoms at few action args h
  atoms-prog (Test c) at few n h w = atoms-one (codes "test") (cond_form agent stem c) refl (cond-atoms c at.scope few n h w)
  atoms-prog (Seq p q) at few n h w = two-progs (codes "seq") p q at few n refl h w
  atoms-prog (Choice p q) at few n h w = two-progs (codes "choice") p q at few n refl h w
  atoms-prog (Pick var sort p) at few n h w =
      let inner = within.within_binder at var sort in
      let binder = and-left (binder_fits agent var sort) (prog_fits agent p.0 inner) h in
      let small : var < 32 = ltb-true var 32 (and-left (nat_lt var 32) (is_sort agent sort) binder) in
      atoms-two (codes "pick") (binder_form agent stem var sort) (prog_form agent stem p.0) refl (binder-atoms var sort binder)
      (p.1 inner (few-more at.scope var sort small few) (n + 1) (and-right (binder_fits agent var sort) (prog_fits agent p.0 inner) h)
      (and-right (var == n) (is_written_prog agent p.0 (n + 1)) w))
  atoms-prog (Star p) at few n h w = atoms-one (codes "star") (prog_form agent stem p.0) refl (p.1 at few n h w)
  atoms-prog (If c p q) at few n h w =
      let front = and-left (cond_fits agent c at.scope && prog_fits agent p.0 at) (prog_fits agent q.0 at) h in
      let words = and-left (is_written_cond agent c n && is_written_prog agent p.0 n) (is_written_prog agent q.0 n) w in
      atoms-three (codes "if") (cond_form agent stem c) (prog_form agent stem p.0) (prog_form agent stem q.0) refl
      (cond-atoms c at.scope few n (and-left (cond_fits agent c at.scope) (prog_fits agent p.0 at) front) (and-left (is_written_cond agent c n) (is_written_prog agent p.0 n) words))
      (p.1 at few n (and-right (cond_fits agent c at.scope) (prog_fits agent p.0 at) front) (and-right (is_written_cond agent c n) (is_written_prog agent p.0 n) words))
      (q.1 at few n (and-right (cond_fits agent c at.scope && prog_fits agent p.0 at) (prog_fits agent q.0 at) h) (and-right (is_written_cond agent c n && is_written_prog agent p.0 n) (is_written_prog agent q.0 n) w))
  atoms-prog (While c p) at few n h w =
      atoms-two (codes "while") (cond_form agent stem c) (prog_form agent stem p.0) refl
      (cond-atoms c at.scope few n (and-left (cond_fits agent c at.scope) (prog_fits agent p.0 at) h) (and-left (is_written_cond agent c n) (is_written_prog agent p.0 n) w))
      (p.1 at few n (and-right (cond_fits agent c at.scope) (prog_fits agent p.0 at) h) (and-right (is_written_cond agent c n) (is_written_prog agent p.0 n) w))
  atoms-prog (Conc p q) at few n h w = two-progs (codes "conc") p q at few n refl h w
  atoms-prog (Prio p q) at few n h w = two-progs (codes "prio") p q at few n refl h w
  atoms-prog (Cstar p) at few n h w = atoms-one (codes "cstar") (prog_form agent stem p.0) refl (p.1 at few n h w)
  atoms-prog (Call item args) at few n h w =
      call-atoms at few item args (and-left (option_map_or (λ (proc : ProcItem). args_fit agent at.scope proc.params args) (slice_get agent.procs item) false) (not (at.in_block && block_at (proc_blocks agent) item)) h)
  atoms-prog (Search depth fuel p) at few n h w =
      let limits = block-small at depth fuel (and-left (block_fits at depth fuel) (prog_fits agent p.0 (within.within_block at)) h) in
      atoms-three (codes "search") (atom (decimal depth)) (atom (decimal fuel)) (prog_form agent stem p.0) refl
      (atoms-atom (decimal depth) ∙ count-atom depth (omega (arith, limits.0)))
      (atoms-atom (decimal fuel) ∙ count-atom fuel (omega (arith, limits.1)))
      (p.1 (within.within_block at) few n (and-right (block_fits at depth fuel) (prog_fits agent p.0 (within.within_block at)) h) w)
  atoms-prog (Follow depth fuel p rest) at few n h w = wrong w

  prog-layer : (y : Prog-F AP AW) → ProgAtoms (roll-Prog (prog_of y))
  prog-layer y at few n h w =
      ap atoms_fit (fold-roll-Prog Form Form (form.prog_step agent stem) (λ _. list []) (prog_of y))
      ∙ atoms-prog y at few n
      (sym (ap (λ (f : Position → Bool). f at) (fits-prog agent (prog_of y))) ∙ h)
      (sym (ap (λ (f : ℕ → Bool). f n) (written-prog agent (prog_of y))) ∙ w)

  pub prog-atoms : (p : Prog) → ProgAtoms p
  prog-atoms = ind-Prog ProgAtoms (λ _. Unit {0}) (λ x y is. subst (λ z. ProgAtoms (roll-Prog z)) is (prog-layer y)) (λ x y is. tt)

pub ruleset laws = (prog-atoms)
