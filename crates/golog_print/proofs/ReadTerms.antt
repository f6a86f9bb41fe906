-- Terms that were printed are read back.
use Rattle.std.proofs.Common.{◌≡◌, ℕ, suc, ◌<◌, ◌^◌, ℤ, pos, negsuc, Bool, true, false, ◌&&◌, ◌||◌, ◌==◌, List, [], ◌∷◌, length, map, drop, refl, sym, ap, ◌∙◌, Option, Some, None, Ok}
use Rattle.std.specs.Prelude.{if◌then◌else◌, not, slice_get, position, codes, decimal, unsigned_abs, neg_ℤ, option_map}
use Rattle.std.specs.Option.{option_map_or}
use Rattle.std.proofs.lemmas.Bool.{eqb-true, ltb-true}
use Rattle.std.proofs.lemmas.Option.{slice_get-map}
use Rattle.golog_base.specs.Names.{is_name}
use Rattle.golog_form.specs.declared.form.Form.{Form}
use Rattle.golog_form.specs.Printing.{plain}
use Rattle.golog_form.specs.Shape.{place_of}
use Rattle.golog_tree.specs.declared.agent.Agent.{Agent}
use Rattle.golog_tree.specs.declared.agent.FluentItem.{FluentItem}
use Rattle.golog_tree.specs.declared.cond.Arg.{Arg}
use Rattle.golog_tree.specs.declared.cond.Cond.TheOpen.{Arg as ArgTerm, Shift}
use Rattle.golog_tree.specs.declared.cond.Cond.TheFolds.{fold-Term, fold-roll-Term}
use Rattle.golog_tree.specs.declared.cond.Term.{Term}
use Rattle.golog_tree.specs.declared.cond.Term.TheVariants as term
use Rattle.golog_tree.specs.declared.draft.DraftTheory.{DraftTheory}
use Rattle.golog_tree.specs.declared.draft.DraftFluent.{DraftFluent}
use Rattle.golog_tree.specs.declared.draft_cond.DraftArg.{DraftArg}
use Rattle.golog_tree.specs.declared.draft_cond.DraftTerm.{DraftTerm}
use Rattle.golog_tree.specs.declared.draft_cond.DraftTerm.TheVariants as draft
use Rattle.golog_tree.specs.declared.draft_cond.DraftTerm.TheOpen.{Arg as DraftArgTerm, Fluent as DraftFluentTerm, Shift as DraftShift}
use Rattle.golog_tree.specs.declared.draft_cond.DraftTerm.TheFolds.{fold-roll-DraftTerm}
use Rattle.golog_semantics.specs.Text.{Text}
use Rattle.golog_semantics.specs.BuiltIn.{declared_names}
use Rattle.golog_semantics.proofs.Among.{Among}
use Rattle.golog_rows.specs.Reading.{Reading, gives, refused, row, ◌>>=◌, found}
use Rattle.golog_semantics.specs.Fits as fits
use Rattle.golog_semantics.specs.Fits.{is_range, arg_fits, args_fit, fluent_fits, term_fits}
use Rattle.golog_semantics.specs.Written.{Wording, is_amount, written_arg, written_cond_step, written_term_step}
use Rattle.golog_semantics.proofs.GroundNumbers.{some-same}
use Rattle.golog_semantics.proofs.Levels.{same_values-eq}
use Rattle.golog_semantics.proofs.Words.{and-left, and-right}
use Rattle.golog_theory.specs.declared.heads.Called.{Called}
use Rattle.golog_theory.specs.Codes.{UNKNOWN_FORM, ARITY, NUMBER_RANGE}
use Rattle.golog_theory.specs.Names.{same, fluent_no, fluent_args, fluent_arity}
use Rattle.golog_base.specs.Numbers.{is_number, has_sign, value}
use Rattle.golog_theory.specs.Parts.{word, parts, arg_of}
use Rattle.golog_theory.specs.Heads.{first_word, head_word, head_place, arguments, args_of, with_arity, fluent_named, declared_with, called, fluent_called}
use Rattle.golog_theory.specs.Recursion.{Part}
use Rattle.golog_theory.specs.Terms.{step_of, plus_of, minus_of, fluent_term, atom_term, term_list, term_by, term_of, term_part}
use Rattle.golog_theory.proofs.Descent.{term_of-parts}
use Rattle.golog_theory.proofs.Forms.{parts-Atom, parts-Group}
use Rattle.golog_check.specs.Codes.{SORT_CLASH}
use Rattle.golog_check.specs.DeclaredItems.{Declared, fluent_item}
use Rattle.golog_check.specs.Sorts as sorts
use Rattle.golog_check.specs.Sorts.{fluent_sort, fluent_sorts}
use Rattle.golog_check.specs.Scope.{Scope}
use Rattle.golog_check.specs.Terms.{is_other, arg_sort, arg_as, args_in, term_sort, term_as, as_step}
use Rattle.golog_check.proofs.ArgLaws.{same-number}
use Rattle.golog_check.proofs.Layers.{as-term, sort-term, wording}
use Rattle.golog_print.specs.Printing.{stem_text, sign_text, fluent_name, arg_text, args_texts}
use Rattle.golog_print.specs.Printing as say
use Rattle.golog_print.specs.ReadBack.{IsTheoryOf, names_in}
use Rattle.golog_print.proofs.Alike.{Alike, AreAlike, first-of, none-of, alike-parts, word-as}
use Rattle.golog_print.proofs.DeclaredWords.{fluent-among, fluent-word, fluents-once}
use Rattle.golog_print.proofs.Numbers.{count-number, count-unsigned, count-value}
use Rattle.golog_print.proofs.Outcomes.{then-ok, row-ok, found-ok}
use Rattle.golog_print.proofs.Placed.{found-at, position-map}
use Rattle.golog_print.proofs.PrintedForms.{atom, list, fluent_form, term_form}
use Rattle.golog_print.proofs.ReadArgs.{Ready, arg-read, ArgsRead, args-read, wrong}
use Rattle.golog_print.proofs.Scopes.{Scoped}

-- the parts of a form that is like a list, and like an atom
pub parts-as : (f : Form) (items : List Form) → Alike f (list items) → AreAlike (parts f) items
parts-as f items a = alike-parts f (list items) a ∙ ap (map plain) (parts-Group items 0 0)

pub no-parts : (f : Form) (text : Text) → Alike f (atom text) → parts f ≡ []
no-parts f text a = none-of (parts f) (alike-parts f (atom text) a ∙ ap (map plain) (parts-Atom text 0 0))

-- a name is none of what is no name
pub name-not : (name other : Text) → is_name name ≡ true → is_name other ≡ false → same name other ≡ false
name-not name other h k = go (same name other) refl
  where
    go : (b : Bool) → same name other ≡ b → b ≡ false
    go false e = refl
    go true e = let is : name ≡ other = same_values-eq name other e in wrong (sym k ∙ ap is_name (sym is) ∙ h)

pub mapped : {A B : Type 0} (f : A → B) (o : Option A) (y : B) → option_map f o ≡ Some y → (x : A) × ((o ≡ Some x) × (f x ≡ y))
mapped f None y e = absurd (cc)
mapped f (Some x) y e = (x, (refl, some-same (f x) y e))

pub called-ok : (f : Form) (arity : ℕ → ℕ) (o : Option ℕ) (item : ℕ) → is_name (head_word f) ≡ true → o ≡ Some item → length (arguments f) ≡ arity item → (called f (with_arity arity o)).outcome ≡ Ok item
unfolding called declared_with
called-ok f arity o item name e count =
    ap (λ (b : Bool). (if b then declared_with (place_of f) (head_place f) (length (arguments f)) (with_arity arity o) else refused UNKNOWN_FORM (place_of f)).outcome) name
    ∙ ap (λ (x : Option ℕ). (declared_with (place_of f) (head_place f) (length (arguments f)) (with_arity arity x)).outcome) e
    ∙ row-ok (not (length (arguments f) == arity item)) ARITY (place_of f) (gives item) item
    (ap (λ (n : ℕ). not (n == arity item)) count ∙ ap not (same-number (arity item))) refl

abbrev pub call_of : ℕ → List DraftArg → Called
call_of item args = record { item = item; args = args }

-- the amount of a step
step-ok : (f : Form) (n : ℕ) → word f ≡ decimal n → n < 2 ^ 31 → (step_of f).outcome ≡ Ok (pos n)
unfolding step_of
step-ok f n e h =
    let num : not (is_number (word f)) ≡ false = ap (λ (t : Text). not (is_number t)) e ∙ ap not (count-number n h) in
    let plus : has_sign (word f) ≡ false = ap has_sign e ∙ count-unsigned n h in
    row-ok (not (is_number (word f)) || has_sign (word f)) UNKNOWN_FORM (place_of f) (found NUMBER_RANGE (place_of f) (value (word f))) (pos n)
    (λ i. num i || plus i)
    (found-ok NUMBER_RANGE (place_of f) (value (word f)) (pos n) (ap value e ∙ count-value n h))

names-of : (ds : List DraftFluent) → map (λ (d : DraftFluent). d.name) ds ≡ map (λ (i : FluentItem). i.name) (map fluent_item ds)
names-of [] = refl
names-of (d ∷ ds) = ap (λ (ns : List Text). d.name ∷ ns) (names-of ds)

module _ (agent : Agent) (k : ℕ) (ready : Ready agent k) (theory : DraftTheory) (of : IsTheoryOf agent theory) where
  abbrev stem : Text
  stem = stem_text k

  abbrev names : Declared
  names = names_in agent

  fluent-found : (fluent : ℕ) (item : FluentItem) → slice_get agent.fluents fluent ≡ Some item → fluent_no theory item.name ≡ Some fluent
  fluent-found fluent item e =
      let there : slice_get (map (λ (i : FluentItem). i.name) agent.fluents) fluent ≡ Some item.name =
      slice_get-map (λ (i : FluentItem). i.name) agent.fluents fluent ∙ ap (option_map (λ (i : FluentItem). i.name)) e in
      sym (position-map (same item.name) (λ (d : DraftFluent). d.name) theory.fluents)
      ∙ ap (position (same item.name)) (names-of theory.fluents ∙ ap (map (λ (i : FluentItem). i.name)) of.fluents)
      ∙ found-at (map (λ (i : FluentItem). i.name) agent.fluents) fluent item.name (fluents-once agent ready.formed) there

  fluent-count : (fluent : ℕ) (item : FluentItem) → slice_get agent.fluents fluent ≡ Some item → fluent_arity theory fluent ≡ length item.args
  fluent-count fluent item e =
      let d = mapped fluent_item (slice_get theory.fluents fluent) item (sym (slice_get-map fluent_item theory.fluents fluent) ∙ ap (λ (items : List FluentItem). slice_get items fluent) of.fluents ∙ e) in
      ap fluent_args d.1.0 ∙ ap (λ (i : FluentItem). length i.args) d.1.1

  module _ (bound : fits.Scope) (scope : Scope) (scoped : Scoped stem bound scope) where
    -- the fluent with its arguments that a form spells
    pub record FluentRead (sort fluent : ℕ) (args : List Arg) (f : Form) : Type 0 where
      pub drafts : List DraftArg
      pub first : Form
      pub others : List Form
      pub name : Text
      pub are : parts f ≡ first ∷ others
      pub named : word first ≡ name
      pub is_word : is_name name ≡ true
      pub declared : Among (declared_names agent) name
      pub calls : (fluent_called theory f).outcome ≡ Ok (call_of fluent drafts)
      pub means : (args_in names scope (fluent_sorts names fluent) drafts).outcome ≡ Ok args
      pub of_sort : fluent_sort names fluent ≡ Some sort

    fluent-calls : (fluent : ℕ) (item : FluentItem) (args : List Arg) (f : Form) (first : Form) (others : List Form) → slice_get agent.fluents fluent ≡ Some item → parts f ≡ first ∷ others
        → word first ≡ item.name → (r : ArgsRead agent k ready bound scope scoped item.args args others) → (fluent_called theory f).outcome ≡ Ok (call_of fluent r.drafts)
    unfolding fluent_called fluent_named
    fluent-calls fluent item args f first others e are named r =
        let head : head_word f ≡ item.name = ap first_word are ∙ named in
        let rest : arguments f ≡ others = ap (drop 1) are in
        let count : length (arguments f) ≡ fluent_arity theory fluent = ap length rest ∙ r.counted ∙ sym (fluent-count fluent item e) in
        then-ok (called f (fluent_named theory (head_word f))) (λ (n : ℕ). args_of (arguments f) >>= λ (xs : List DraftArg). gives (call_of n xs)) fluent (call_of fluent r.drafts)
        (called-ok f (fluent_arity theory) (fluent_no theory (head_word f)) fluent (ap is_name head ∙ (fluent-word agent ready.formed fluent item e).named) (ap (fluent_no theory) head ∙ fluent-found fluent item e) count)
        (then-ok (args_of (arguments f)) (λ (xs : List DraftArg). gives (call_of fluent xs)) r.drafts (call_of fluent r.drafts) (ap (λ (fs : List Form). (args_of fs).outcome) rest ∙ r.read) refl)

    pub fluent-read : (sort fluent : ℕ) (args : List Arg) (f : Form) → fluent_fits agent bound sort fluent args ≡ true → Alike f (fluent_form agent stem fluent args) → FluentRead sort fluent args f
    fluent-read sort fluent args f h a = go (slice_get agent.fluents fluent) refl h (parts-as f (atom (fluent_name agent fluent) ∷ map atom (args_texts agent stem (say.fluent_sorts agent fluent) args)) a)
      where
        go : (o : Option FluentItem) → slice_get agent.fluents fluent ≡ o → option_map_or (λ (item : FluentItem). item.sort == sort && args_fit agent bound item.args args) o false ≡ true
            → AreAlike (parts f) (atom (option_map_or (λ (item : FluentItem). item.name) o []) ∷ map atom (args_texts agent stem (option_map_or (λ (item : FluentItem). item.args) o []) args)) → FluentRead sort fluent args f
        go None e h a = wrong h
        go (Some item) e h a =
            let p = first-of (parts f) (atom item.name) (map atom (args_texts agent stem item.args args)) a in
            let named = word-as p.first item.name p.alike in
            let r = args-read agent k ready bound scope scoped item.args args p.others (and-right (item.sort == sort) (args_fit agent bound item.args args) h) p.rest in
            record {
              drafts = r.drafts;
              first = p.first;
              others = p.others;
              name = item.name;
              are = p.are;
              named = named;
              is_word = (fluent-word agent ready.formed fluent item e).named;
              declared = fluent-among agent ready.formed fluent item e;
              calls = fluent-calls fluent item args f p.first p.others e p.are named r;
              means = ap (λ (o : Option FluentItem). (args_in names scope (option_map_or (λ (i : FluentItem). i.args) o []) r.drafts).outcome) e ∙ r.means;
              of_sort = ap (option_map (λ (i : FluentItem). i.sort)) e ∙ ap Some (eqb-true item.sort sort (and-left (item.sort == sort) (args_fit agent bound item.args args) h));
            }

    -- the term that a form spells, and what it is in a place of the sort
    pub record TermRead (sort : ℕ) (t : Term) (f : Form) : Type 0 where
      pub draft : DraftTerm
      pub read : (term_of theory f).outcome ≡ Ok draft
      pub means : (term_as names scope draft sort).outcome ≡ Ok t
      pub shown : is_other (term_sort names scope draft) sort ≡ false
      pub shows : ((wording agent t).shows_sort || not (is_range agent sort)) ≡ true → term_sort names scope draft ≡ Some sort

    abbrev part_readings : Form → List (Part (Reading DraftTerm))
    part_readings f = map (term_part theory) (parts f)

    -- an argument as a term
    arg-spelled : (f : Form) (d : DraftArg) → parts f ≡ [] → (arg_of f).outcome ≡ Ok d → (term_of theory f).outcome ≡ Ok (draft.Arg d)
    unfolding atom_term
    arg-spelled f d none h =
        ap (λ (r : Reading DraftTerm). r.outcome) (term_of-parts theory f ∙ ap (λ (fs : List Form). term_by theory f (map (term_part theory) fs)) none)
        ∙ then-ok (arg_of f) (λ (a : DraftArg). gives (draft.Arg a)) d (draft.Arg d) h refl

    pub arg-term : (sort : ℕ) (arg : Arg) (f : Form) → arg_fits agent bound sort arg ≡ true → Alike f (atom (arg_text agent stem sort arg)) → TermRead sort (term.Arg arg) f
    arg-term sort arg f h a =
        let r = arg-read agent k ready bound scope scoped sort arg f h (word-as f (arg_text agent stem sort arg) a) in
        let layered : term_as names scope (draft.Arg r.draft) ≡ as_step names scope (DraftArgTerm r.draft) = ap (term_as names scope) (sym (draft.rolls-Arg r.draft)) ∙ as-term names scope (DraftArgTerm r.draft) in
        let sorted : term_sort names scope (draft.Arg r.draft) ≡ arg_sort names scope r.draft = ap (term_sort names scope) (sym (draft.rolls-Arg r.draft)) ∙ sort-term names scope (DraftArgTerm r.draft) in
        let said : wording agent (term.Arg arg) ≡ written_arg arg =
        ap (wording agent) (sym (term.rolls-Arg arg)) ∙ fold-roll-Term (ℕ → Bool) Wording (written_cond_step agent) (written_term_step agent) (ArgTerm arg) in
        record {
          draft = draft.Arg r.draft;
          read = arg-spelled f r.draft (no-parts f (arg_text agent stem sort arg) a) r.read;
          means = ap (λ (g : ℕ → Reading Term). (g sort).outcome) layered ∙ then-ok (arg_as names scope sort r.draft) (λ (x : Arg). gives (term.Arg x)) arg (term.Arg arg) r.means refl;
          shown = ap (λ (o : Option ℕ). is_other o sort) sorted ∙ r.shown;
          shows = λ s. sorted ∙ r.shows (sym (ap (λ (w : Wording). w.shows_sort || not (is_range agent sort)) said) ∙ s);
        }

    fluent-spelled : (sort fluent : ℕ) (args : List Arg) (f : Form) (r : FluentRead sort fluent args f) → (term_of theory f).outcome ≡ Ok (draft.Fluent fluent r.drafts (place_of f))
    unfolding fluent_term term_list
    fluent-spelled sort fluent args f r =
        let plus : same (word r.first) (codes "+") ≡ false = ap (λ (t : Text). same t (codes "+")) r.named ∙ name-not r.name (codes "+") r.is_word refl in
        let minus : same (word r.first) (codes "-") ≡ false = ap (λ (t : Text). same t (codes "-")) r.named ∙ name-not r.name (codes "-") r.is_word refl in
        ap (λ (x : Reading DraftTerm). x.outcome) (term_of-parts theory f ∙ ap (λ (fs : List Form). term_by theory f (map (term_part theory) fs)) r.are)
        ∙ (λ i. (if plus i then plus_of (place_of f) (map (term_part theory) r.others) else if minus i then minus_of (place_of f) (map (term_part theory) r.others) else fluent_term theory f).outcome)
        ∙ then-ok (fluent_called theory f) (λ (c : Called). gives (draft.Fluent c.item c.args (place_of f))) (call_of fluent r.drafts) (draft.Fluent fluent r.drafts (place_of f)) r.calls refl

    pub fluent-of : (sort fluent : ℕ) (args : List Arg) (f : Form) → fluent_fits agent bound sort fluent args ≡ true → Alike f (fluent_form agent stem fluent args) → TermRead sort (term.Fluent fluent args) f
    fluent-of sort fluent args f h a =
        let r = fluent-read sort fluent args f h a in
        let at = place_of f in
        let layered : term_as names scope (draft.Fluent fluent r.drafts at) ≡ as_step names scope (DraftFluentTerm fluent r.drafts at) =
        ap (term_as names scope) (sym (draft.rolls-Fluent fluent r.drafts at)) ∙ as-term names scope (DraftFluentTerm fluent r.drafts at) in
        let sorted : term_sort names scope (draft.Fluent fluent r.drafts at) ≡ Some sort =
        ap (term_sort names scope) (sym (draft.rolls-Fluent fluent r.drafts at)) ∙ sort-term names scope (DraftFluentTerm fluent r.drafts at) ∙ r.of_sort in
        record {
          draft = draft.Fluent fluent r.drafts at;
          read = fluent-spelled sort fluent args f r;
          means = ap (λ (g : ℕ → Reading Term). (g sort).outcome) layered ∙ then-ok (args_in names scope (fluent_sorts names fluent) r.drafts) (λ (x : List Arg). gives (term.Fluent fluent x)) args (term.Fluent fluent args) r.means refl;
          shown = ap (λ (o : Option ℕ). is_other o sort) sorted ∙ ap not (same-number sort);
          shows = λ _. sorted;
        }

    plus-spelled : (f one step : Form) (d : DraftTerm) (n : ℕ) → (term_of theory one).outcome ≡ Ok d → word step ≡ decimal n → n < 2 ^ 31
        → (plus_of (place_of f) (map (term_part theory) (one ∷ step ∷ []))).outcome ≡ Ok (draft.Shift d (pos n) (place_of f))
    unfolding plus_of
    plus-spelled f one step d n h e l =
        then-ok (term_of theory one) (λ (x : DraftTerm). step_of step >>= λ (by : ℤ). gives (draft.Shift x by (place_of f))) d (draft.Shift d (pos n) (place_of f)) h
        (then-ok (step_of step) (λ (by : ℤ). gives (draft.Shift d by (place_of f))) (pos n) (draft.Shift d (pos n) (place_of f)) (step-ok step n e l) refl)

    minus-spelled : (f one step : Form) (d : DraftTerm) (n : ℕ) → (term_of theory one).outcome ≡ Ok d → word step ≡ decimal (suc n) → suc n < 2 ^ 31
        → (minus_of (place_of f) (map (term_part theory) (one ∷ step ∷ []))).outcome ≡ Ok (draft.Shift d (negsuc n) (place_of f))
    unfolding minus_of
    minus-spelled f one step d n h e l =
        then-ok (term_of theory one) (λ (x : DraftTerm). step_of step >>= λ (by : ℤ). gives (draft.Shift x (neg_ℤ by) (place_of f))) d (draft.Shift d (negsuc n) (place_of f)) h
        (then-ok (step_of step) (λ (by : ℤ). gives (draft.Shift d (neg_ℤ by) (place_of f))) (pos (suc n)) (draft.Shift d (negsuc n) (place_of f)) (step-ok step (suc n) e l) refl)

    -- a form of three parts, of which the first is a sign
    signed-spelled : (f sign one step : Form) (by : ℤ) (d : DraftTerm) → parts f ≡ sign ∷ one ∷ step ∷ [] → word sign ≡ sign_text by → (term_of theory one).outcome ≡ Ok d → word step ≡ decimal (unsigned_abs by)
        → is_amount by ≡ true → (term_of theory f).outcome ≡ Ok (draft.Shift d by (place_of f))
    unfolding term_list
    signed-spelled f sign one step (pos n) d are s h e l =
        ap (λ (x : Reading DraftTerm). x.outcome) (term_of-parts theory f ∙ ap (λ (fs : List Form). term_by theory f (map (term_part theory) fs)) are)
        ∙ ap (λ (t : Text). (term_list theory f t (map (term_part theory) (one ∷ step ∷ []))).outcome) s
        ∙ plus-spelled f one step d n h e (ltb-true n (2 ^ 31) l)
    signed-spelled f sign one step (negsuc n) d are s h e l =
        ap (λ (x : Reading DraftTerm). x.outcome) (term_of-parts theory f ∙ ap (λ (fs : List Form). term_by theory f (map (term_part theory) fs)) are)
        ∙ ap (λ (t : Text). (term_list theory f t (map (term_part theory) (one ∷ step ∷ []))).outcome) s
        ∙ minus-spelled f one step d n h e (ltb-true (suc n) (2 ^ 31) l)

    pub shift-of : (sort : ℕ) (t : Term) (by : ℤ) (f : Form) → ((sort == sort && is_range agent sort) && term_fits agent t bound sort) ≡ true → is_amount by ≡ true
        → ((one : Form) → Alike one (term_form agent stem t sort) → TermRead sort t one)
        → Alike f (list (atom (sign_text by) ∷ term_form agent stem t sort ∷ atom (decimal (unsigned_abs by)) ∷ [])) → TermRead sort (term.Shift sort t by) f
    shift-of sort t by f h l reads a =
        let p = first-of (parts f) (atom (sign_text by)) (term_form agent stem t sort ∷ atom (decimal (unsigned_abs by)) ∷ []) (parts-as f (atom (sign_text by) ∷ term_form agent stem t sort ∷ atom (decimal (unsigned_abs by)) ∷ []) a) in
        let q = first-of p.others (term_form agent stem t sort) (atom (decimal (unsigned_abs by)) ∷ []) p.rest in
        let s = first-of q.others (atom (decimal (unsigned_abs by))) [] q.rest in
        let are : parts f ≡ p.first ∷ q.first ∷ s.first ∷ [] =
        p.are ∙ ap (λ (fs : List Form). p.first ∷ fs) (q.are ∙ ap (λ (fs : List Form). q.first ∷ fs) (s.are ∙ ap (λ (fs : List Form). s.first ∷ fs) (none-of s.others s.rest))) in
        let r = reads q.first q.alike in
        let at = place_of f in
        let range : is_range agent sort ≡ true = and-right (sort == sort) (is_range agent sort) (and-left (sort == sort && is_range agent sort) (term_fits agent t bound sort) h) in
        let layered : term_as names scope (draft.Shift r.draft by at) ≡ as_step names scope (DraftShift (term_as names scope r.draft) by at) =
        ap (term_as names scope) (sym (draft.rolls-Shift r.draft by at)) ∙ as-term names scope (DraftShift r.draft by at) in
        let sorted : term_sort names scope (draft.Shift r.draft by at) ≡ term_sort names scope r.draft =
        ap (term_sort names scope) (sym (draft.rolls-Shift r.draft by at)) ∙ sort-term names scope (DraftShift r.draft by at) in
        let said : (wording agent (term.Shift sort t by)).shows_sort ≡ (wording agent t).shows_sort =
        ap (λ (w : Wording). w.shows_sort) (ap (wording agent) (sym (term.rolls-Shift sort t by)) ∙ fold-roll-Term (ℕ → Bool) Wording (written_cond_step agent) (written_term_step agent) (Shift sort t by)) in
        record {
          draft = draft.Shift r.draft by at;
          read = signed-spelled f p.first q.first s.first by r.draft are (word-as p.first (sign_text by) p.alike) r.read (word-as s.first (decimal (unsigned_abs by)) s.alike) l;
          means =
              ap (λ (g : ℕ → Reading Term). (g sort).outcome) layered
              ∙ row-ok (not (sorts.is_range names sort)) SORT_CLASH at (term_as names scope r.draft sort >>= λ (x : Term). gives (term.Shift sort x by)) (term.Shift sort t by) (ap not range)
              (then-ok (term_as names scope r.draft sort) (λ (x : Term). gives (term.Shift sort x by)) t (term.Shift sort t by) r.means refl);
          shown = ap (λ (o : Option ℕ). is_other o sort) sorted ∙ r.shown;
          shows = λ h. sorted ∙ r.shows (sym (ap (λ (b : Bool). b || not (is_range agent sort)) said) ∙ h);
        }

pub ruleset laws = (called-ok)
