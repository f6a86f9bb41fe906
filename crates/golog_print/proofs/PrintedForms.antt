-- The form of a printed program: its text is the program's.
use Rattle.std.proofs.Common.{◌≡◌, ℕ, List, [], ◌∷◌, map, refl, sym, ap, subst, ◌∙◌}
use Rattle.std.specs.Prelude.{codes, decimal, unsigned_abs}
use Rattle.golog_form.specs.declared.form.Form.{Form}
use Rattle.golog_form.specs.declared.form.Form.TheOpen.{Atom, Group}
use Rattle.golog_form.specs.declared.form.Form.TheVariants as form
use Rattle.golog_form.specs.declared.form.Form.TheFolds.{fold-roll-Form}
use Rattle.golog_form.specs.Printing.{text_step, text_of}
use Rattle.golog_tree.specs.declared.agent.Agent.{Agent}
use Rattle.golog_tree.specs.declared.cond.Arg.{Arg}
use Rattle.golog_tree.specs.declared.cond.Cond.{Cond}
use Rattle.golog_tree.specs.declared.cond.Cond.TheOpen.{Term-F, Arg as ArgTerm, Fluent, Shift, Ite}
use Rattle.golog_tree.specs.declared.cond.Cond.TheOpen.{Cond-F, Truth, Is, Equal, Less, AtMost, Not, And, Or, ForSome, ForAll}
use Rattle.golog_tree.specs.declared.cond.Cond.TheViews.{roll-Cond, roll-Term}
use Rattle.golog_tree.specs.declared.cond.Cond.TheFolds.{fold-Cond, fold-Term, fold-roll-Cond, fold-roll-Term, ind-Cond, map-Cond, map-Term}
use Rattle.golog_tree.specs.declared.cond.Term.{Term}
use Rattle.golog_tree.specs.declared.prog.Prog.{Prog}
use Rattle.golog_tree.specs.declared.prog.Way.{Way}
use Rattle.golog_tree.specs.declared.prog.Prog.TheOpen.{Prog-F, Nil, Act, Test, Seq, Choice, Pick, Star, If, While, Conc, Prio, Cstar, Call, Search, Follow}
use Rattle.golog_tree.specs.declared.prog.Prog.TheViews.{roll-Prog}
use Rattle.golog_tree.specs.declared.prog.Prog.TheFolds.{fold-Prog, fold-Way, fold-roll-Prog, ind-Prog, map-Prog}
use Rattle.golog_semantics.specs.Text.{Text}
use Rattle.golog_print.specs.Printing as say
use Rattle.golog_print.specs.Printing.{in_list, sign_text, truth_text, sort_name, fluent_name, action_name, proc_name, fluent_sorts, action_sorts, proc_sorts, variable_text, arg_text, args_texts, binder_text, fluent_text, term_text, cond_text, prog_text}

-- an atom and a list at no place
abbrev pub atom : Text → Form
atom text = form.Atom text 0 0

abbrev pub list : List Form → Form
list items = form.Group items 0 0

text-atom : (text : Text) → text_of (atom text) ≡ text
text-atom text = ap text_of (sym (form.rolls-Atom text 0 0)) ∙ fold-roll-Form (List ℕ) text_step (Atom text 0 0)

text-list : (items : List Form) → text_of (list items) ≡ in_list (map text_of items)
text-list items = ap text_of (sym (form.rolls-Group items 0 0)) ∙ fold-roll-Form (List ℕ) text_step (Group items 0 0)

-- a list of items with these texts
with-texts : (items : List Form) (texts : List Text) → map text_of items ≡ texts → text_of (list items) ≡ in_list texts
with-texts items texts e = text-list items ∙ ap in_list e

module _ (agent : Agent) (stem : Text) where
  abbrev pub arg_forms : List ℕ → List Arg → List Form
  arg_forms sorts args = map atom (args_texts agent stem sorts args)

  texts-atoms : (texts : List Text) → map text_of (map atom texts) ≡ texts
  texts-atoms [] = refl
  texts-atoms (text ∷ texts) = rw (text-atom text, texts-atoms texts) refl

  abbrev pub binder_form : ℕ → ℕ → Form
  binder_form var sort = list (atom (variable_text agent stem var) ∷ atom (sort_name agent sort) ∷ [])

  abbrev pub fluent_form : ℕ → List Arg → Form
  fluent_form fluent args = list (atom (fluent_name agent fluent) ∷ arg_forms (fluent_sorts agent fluent) args)

  abbrev pub term_step : Term-F Form (ℕ → Form) → ℕ → Form
  term_step (ArgTerm arg) sort = atom (arg_text agent stem sort arg)
  term_step (Fluent fluent args) sort = fluent_form fluent args
  term_step (Shift own term by) sort = list (atom (sign_text by) ∷ term own ∷ atom (decimal (unsigned_abs by)) ∷ [])
  term_step (Ite cond one other) sort = list []

  abbrev pub cond_step : Cond-F Form (ℕ → Form) → Form
  cond_step (Truth truth) = atom (truth_text truth)
  cond_step (Is fluent args) = fluent_form fluent args
  cond_step (Equal sort one other) = list (atom (codes "=") ∷ one sort ∷ other sort ∷ [])
  cond_step (Less sort one other) = list (atom (codes "<") ∷ one sort ∷ other sort ∷ [])
  cond_step (AtMost sort one other) = list (atom (codes "<=") ∷ one sort ∷ other sort ∷ [])
  cond_step (Not cond) = list (atom (codes "not") ∷ cond ∷ [])
  cond_step (And conds) = list (atom (codes "and") ∷ conds)
  cond_step (Or conds) = list (atom (codes "or") ∷ conds)
  cond_step (ForSome var sort cond) = list (atom (codes "some") ∷ binder_form var sort ∷ cond ∷ [])
  cond_step (ForAll var sort cond) = list (atom (codes "all") ∷ binder_form var sort ∷ cond ∷ [])

  abbrev pub term_form : Term → ℕ → Form
  term_form = fold-Term Form (ℕ → Form) cond_step term_step

  abbrev pub cond_form : Cond → Form
  cond_form = fold-Cond Form (ℕ → Form) cond_step term_step

  abbrev pub prog_step : Prog-F Form Form → Form
  prog_step Nil = atom (codes "nil")
  prog_step (Act action args) = list (atom (codes "act") ∷ atom (action_name agent action) ∷ arg_forms (action_sorts agent action) args)
  prog_step (Test cond) = list (atom (codes "test") ∷ cond_form cond ∷ [])
  prog_step (Seq p q) = list (atom (codes "seq") ∷ p ∷ q ∷ [])
  prog_step (Choice p q) = list (atom (codes "choice") ∷ p ∷ q ∷ [])
  prog_step (Pick var sort p) = list (atom (codes "pick") ∷ binder_form var sort ∷ p ∷ [])
  prog_step (Star p) = list (atom (codes "star") ∷ p ∷ [])
  prog_step (If cond p q) = list (atom (codes "if") ∷ cond_form cond ∷ p ∷ q ∷ [])
  prog_step (While cond p) = list (atom (codes "while") ∷ cond_form cond ∷ p ∷ [])
  prog_step (Conc p q) = list (atom (codes "conc") ∷ p ∷ q ∷ [])
  prog_step (Prio p q) = list (atom (codes "prio") ∷ p ∷ q ∷ [])
  prog_step (Cstar p) = list (atom (codes "cstar") ∷ p ∷ [])
  prog_step (Call item args) = list (atom (codes "call") ∷ atom (proc_name agent item) ∷ arg_forms (proc_sorts agent item) args)
  prog_step (Search depth fuel p) = list (atom (codes "search") ∷ atom (decimal depth) ∷ atom (decimal fuel) ∷ p ∷ [])
  prog_step (Follow depth fuel p rest) = list []

  -- the form of a program
  abbrev pub prog_form : Prog → Form
  prog_form = fold-Prog Form Form prog_step (λ _. list [])

  text-binder : (var sort : ℕ) → text_of (binder_form var sort) ≡ binder_text agent stem var sort
  text-binder var sort =
      with-texts (atom (variable_text agent stem var) ∷ atom (sort_name agent sort) ∷ []) (variable_text agent stem var ∷ sort_name agent sort ∷ [])
      (texts-atoms (variable_text agent stem var ∷ sort_name agent sort ∷ []))

  text-fluent : (fluent : ℕ) (args : List Arg) → text_of (fluent_form fluent args) ≡ fluent_text agent stem fluent args
  text-fluent fluent args =
      let texts = fluent_name agent fluent ∷ args_texts agent stem (fluent_sorts agent fluent) args in
      with-texts (map atom texts) texts (texts-atoms texts)

  -- the texts of a term, of a condition
  abbrev TermTells : Term → Type 0
  TermTells t = (sort : ℕ) → text_of (term_form t sort) ≡ term_text agent stem t sort

  abbrev CondTells : Cond → Type 0
  CondTells c = text_of (cond_form c) ≡ cond_text agent stem c

  abbrev AT : Type 0
  AT = (t : Term) × TermTells t

  abbrev AC : Type 0
  AC = (c : Cond) × CondTells c

  abbrev term_of : Term-F AC AT → Term-F Cond Term
  term_of y = map-Term AC AT Cond Term (λ e. e.0) (λ e. e.0) y

  abbrev cond_of : Cond-F AC AT → Cond-F Cond Term
  cond_of y = map-Cond AC AT Cond Term (λ e. e.0) (λ e. e.0) y

  pub form-term : (l : Term-F Cond Term) → term_form (roll-Term l) ≡ term_step (map-Term Cond Term Form (ℕ → Form) cond_form term_form l)
  form-term l = fold-roll-Term Form (ℕ → Form) cond_step term_step l

  say-term : (l : Term-F Cond Term) → term_text agent stem (roll-Term l) ≡ say.term_step agent stem (map-Term Cond Term Text (ℕ → Text) (cond_text agent stem) (term_text agent stem) l)
  say-term l = fold-roll-Term Text (ℕ → Text) (say.cond_step agent stem) (say.term_step agent stem) l

  pub form-cond : (l : Cond-F Cond Term) → cond_form (roll-Cond l) ≡ cond_step (map-Cond Cond Term Form (ℕ → Form) cond_form term_form l)
  form-cond l = fold-roll-Cond Form (ℕ → Form) cond_step term_step l

  say-cond : (l : Cond-F Cond Term) → cond_text agent stem (roll-Cond l) ≡ say.cond_step agent stem (map-Cond Cond Term Text (ℕ → Text) (cond_text agent stem) (term_text agent stem) l)
  say-cond l = fold-roll-Cond Text (ℕ → Text) (say.cond_step agent stem) (say.term_step agent stem) l

  -- one layer of a term, of a condition
  told-term : (y : Term-F AC AT) (sort : ℕ)
      → text_of (term_step (map-Term Cond Term Form (ℕ → Form) cond_form term_form (term_of y)) sort)
      ≡ say.term_step agent stem (map-Term Cond Term Text (ℕ → Text) (cond_text agent stem) (term_text agent stem) (term_of y)) sort
  told-term (ArgTerm arg) sort = text-atom (arg_text agent stem sort arg)
  told-term (Fluent fluent args) sort = text-fluent fluent args
  told-term (Shift own t by) sort =
      with-texts (atom (sign_text by) ∷ term_form t.0 own ∷ atom (decimal (unsigned_abs by)) ∷ []) (sign_text by ∷ term_text agent stem t.0 own ∷ decimal (unsigned_abs by) ∷ [])
      (rw (text-atom (sign_text by), t.1 own, text-atom (decimal (unsigned_abs by))) refl)
  told-term (Ite c one other) sort = text-list []

  told-sides : (sign : Text) (one other : AT) (sort : ℕ)
      → text_of (list (atom sign ∷ term_form one.0 sort ∷ term_form other.0 sort ∷ []))
      ≡ in_list (sign ∷ term_text agent stem one.0 sort ∷ term_text agent stem other.0 sort ∷ [])
  told-sides sign one other sort =
      with-texts (atom sign ∷ term_form one.0 sort ∷ term_form other.0 sort ∷ []) (sign ∷ term_text agent stem one.0 sort ∷ term_text agent stem other.0 sort ∷ [])
      (rw (text-atom sign, one.1 sort, other.1 sort) refl)

  told-conds : (cs : List AC) → map text_of (map cond_form (map (λ (e : AC). e.0) cs)) ≡ map (cond_text agent stem) (map (λ (e : AC). e.0) cs)
  told-conds [] = refl
  told-conds (c ∷ cs) = ap (λ t. t ∷ map text_of (map cond_form (map (λ (e : AC). e.0) cs))) c.1 ∙ ap (λ ts. cond_text agent stem c.0 ∷ ts) (told-conds cs)

  told-list : (word : Text) (cs : List AC)
      → text_of (list (atom word ∷ map cond_form (map (λ (e : AC). e.0) cs))) ≡ in_list (word ∷ map (cond_text agent stem) (map (λ (e : AC). e.0) cs))
  told-list word cs =
      with-texts (atom word ∷ map cond_form (map (λ (e : AC). e.0) cs)) (word ∷ map (cond_text agent stem) (map (λ (e : AC). e.0) cs))
      (ap (λ t. t ∷ map text_of (map cond_form (map (λ (e : AC). e.0) cs))) (text-atom word) ∙ ap (λ ts. word ∷ ts) (told-conds cs))

  told-bound : (word : Text) (var sort : ℕ) (c : AC)
      → text_of (list (atom word ∷ binder_form var sort ∷ cond_form c.0 ∷ [])) ≡ in_list (word ∷ binder_text agent stem var sort ∷ cond_text agent stem c.0 ∷ [])
  told-bound word var sort c =
      with-texts (atom word ∷ binder_form var sort ∷ cond_form c.0 ∷ []) (word ∷ binder_text agent stem var sort ∷ cond_text agent stem c.0 ∷ [])
      (rw (text-atom word, text-binder var sort, c.1) refl)

  told-cond : (y : Cond-F AC AT)
      → text_of (cond_step (map-Cond Cond Term Form (ℕ → Form) cond_form term_form (cond_of y)))
      ≡ say.cond_step agent stem (map-Cond Cond Term Text (ℕ → Text) (cond_text agent stem) (term_text agent stem) (cond_of y))
  told-cond (Truth b) = text-atom (truth_text b)
  told-cond (Is fluent args) = text-fluent fluent args
  told-cond (Equal sort one other) = told-sides (codes "=") one other sort
  told-cond (Less sort one other) = told-sides (codes "<") one other sort
  told-cond (AtMost sort one other) = told-sides (codes "<=") one other sort
  told-cond (Not c) =
      with-texts (atom (codes "not") ∷ cond_form c.0 ∷ []) (codes "not" ∷ cond_text agent stem c.0 ∷ []) (rw (text-atom (codes "not"), c.1) refl)
  told-cond (And cs) = told-list (codes "and") cs
  told-cond (Or cs) = told-list (codes "or") cs
  told-cond (ForSome var sort c) = told-bound (codes "some") var sort c
  told-cond (ForAll var sort c) = told-bound (codes "all") var sort c

  term-layer : (y : Term-F AC AT) → TermTells (roll-Term (term_of y))
  term-layer y sort =
      ap (λ (f : ℕ → Form). text_of (f sort)) (form-term (term_of y)) ∙ told-term y sort ∙ sym (ap (λ (f : ℕ → Text). f sort) (say-term (term_of y)))

  cond-layer : (y : Cond-F AC AT) → CondTells (roll-Cond (cond_of y))
  cond-layer y = ap text_of (form-cond (cond_of y)) ∙ told-cond y ∙ sym (say-cond (cond_of y))

  pub cond-tells : (c : Cond) → CondTells c
  cond-tells = ind-Cond CondTells TermTells (λ x y is. subst (λ z. CondTells (roll-Cond z)) is (cond-layer y)) (λ x y is. subst (λ z. TermTells (roll-Term z)) is (term-layer y))

  abbrev ProgTells : Prog → Type 0
  ProgTells p = text_of (prog_form p) ≡ prog_text agent stem p

  abbrev AP : Type 0
  AP = (p : Prog) × ProgTells p

  abbrev AW : Type 0
  AW = (w : Way) × Unit {0}

  abbrev prog_of : Prog-F AP AW → Prog-F Prog Way
  prog_of y = map-Prog AP AW Prog Way (λ e. e.0) (λ e. e.0) y

  told-two : (word : Text) (p q : AP) → text_of (list (atom word ∷ prog_form p.0 ∷ prog_form q.0 ∷ [])) ≡ in_list (word ∷ prog_text agent stem p.0 ∷ prog_text agent stem q.0 ∷ [])
  told-two word p q =
      with-texts (atom word ∷ prog_form p.0 ∷ prog_form q.0 ∷ []) (word ∷ prog_text agent stem p.0 ∷ prog_text agent stem q.0 ∷ []) (rw (text-atom word, p.1, q.1) refl)

  told-one : (word : Text) (p : AP) → text_of (list (atom word ∷ prog_form p.0 ∷ [])) ≡ in_list (word ∷ prog_text agent stem p.0 ∷ [])
  told-one word p = with-texts (atom word ∷ prog_form p.0 ∷ []) (word ∷ prog_text agent stem p.0 ∷ []) (rw (text-atom word, p.1) refl)

  abbrev way_form : Way → Form
  way_form = fold-Way Form Form prog_step (λ _. list [])

  abbrev way_text : Way → Text
  way_text = fold-Way Text Text (say.prog_step agent stem) (λ _. [])

  told-prog : (y : Prog-F AP AW) → text_of (prog_step (map-Prog Prog Way Form Form prog_form way_form (prog_of y)))
      ≡ say.prog_step agent stem (map-Prog Prog Way Text Text (prog_text agent stem) way_text (prog_of y))
  told-prog Nil = text-atom (codes "nil")
  told-prog (Act action args) =
      let texts = codes "act" ∷ action_name agent action ∷ args_texts agent stem (action_sorts agent action) args in with-texts (map atom texts) texts (texts-atoms texts)
  told-prog (Test c) =
      with-texts (atom (codes "test") ∷ cond_form c ∷ []) (codes "test" ∷ cond_text agent stem c ∷ []) (rw (text-atom (codes "test"), cond-tells c) refl)
  told-prog (Seq p q) = told-two (codes "seq") p q
  told-prog (Choice p q) = told-two (codes "choice") p q
  told-prog (Pick var sort p) =
      with-texts (atom (codes "pick") ∷ binder_form var sort ∷ prog_form p.0 ∷ []) (codes "pick" ∷ binder_text agent stem var sort ∷ prog_text agent stem p.0 ∷ [])
      (rw (text-atom (codes "pick"), text-binder var sort, p.1) refl)
  told-prog (Star p) = told-one (codes "star") p
  told-prog (If c p q) =
      with-texts (atom (codes "if") ∷ cond_form c ∷ prog_form p.0 ∷ prog_form q.0 ∷ []) (codes "if" ∷ cond_text agent stem c ∷ prog_text agent stem p.0 ∷ prog_text agent stem q.0 ∷ [])
      (rw (text-atom (codes "if"), cond-tells c, p.1, q.1) refl)
  told-prog (While c p) =
      with-texts (atom (codes "while") ∷ cond_form c ∷ prog_form p.0 ∷ []) (codes "while" ∷ cond_text agent stem c ∷ prog_text agent stem p.0 ∷ [])
      (rw (text-atom (codes "while"), cond-tells c, p.1) refl)
  told-prog (Conc p q) = told-two (codes "conc") p q
  told-prog (Prio p q) = told-two (codes "prio") p q
  told-prog (Cstar p) = told-one (codes "cstar") p
  told-prog (Call item args) =
      let texts = codes "call" ∷ proc_name agent item ∷ args_texts agent stem (proc_sorts agent item) args in with-texts (map atom texts) texts (texts-atoms texts)
  told-prog (Search depth fuel p) =
      with-texts (atom (codes "search") ∷ atom (decimal depth) ∷ atom (decimal fuel) ∷ prog_form p.0 ∷ []) (codes "search" ∷ decimal depth ∷ decimal fuel ∷ prog_text agent stem p.0 ∷ [])
      (rw (text-atom (codes "search"), text-atom (decimal depth), text-atom (decimal fuel), p.1) refl)
  told-prog (Follow depth fuel p rest) = text-list []

  prog-layer : (y : Prog-F AP AW) → ProgTells (roll-Prog (prog_of y))
  prog-layer y =
      ap text_of (fold-roll-Prog Form Form prog_step (λ _. list []) (prog_of y)) ∙ told-prog y
      ∙ sym (fold-roll-Prog Text Text (say.prog_step agent stem) (λ _. []) (prog_of y))

  -- the text of the form of a program is the program's text
  pub prog-tells : (p : Prog) → ProgTells p
  prog-tells = ind-Prog ProgTells (λ _. Unit {0}) (λ x y is. subst (λ z. ProgTells (roll-Prog z)) is (prog-layer y)) (λ x y is. tt)

pub ruleset laws = (prog-tells)
