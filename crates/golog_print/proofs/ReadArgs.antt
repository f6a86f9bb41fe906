-- Arguments that were printed are read back.
use Rattle.std.proofs.Common.{◌≡◌, ℕ, suc, ◌+◌, ◌<◌, ◌≤◌, ◌^◌, ℤ, pos, Bool, true, false, ◌||◌, ◌==◌, List, [], ◌∷◌, ◌++◌, length, map, refl, sym, ap, subst, ◌∙◌, Option, Some, None, Ok, inr, arith}
use Rattle.std.specs.Prelude.{if◌then◌else◌, not, nat_eq, nat_lt, slice_get, unwrap_or, decimal, option_map, option_and_then, ◌+ℤ◌}
use Rattle.std.specs.List.{list_any, starts_with}
use Rattle.std.specs.Option.{option_map_or}
use Rattle.std.specs.Fmt.{signed_decimal}
use Rattle.std.specs.Int.Signed.{mag}
use Rattle.std.proofs.lemmas.Bool.{eqb-true, ltb-true}
use Rattle.std.proofs.lemmas.Fmt.{length-decimal-le}
use Rattle.std.proofs.lemmas.List.{append_assoc, append-nil, length-append}
use Rattle.golog_base.specs.Names.{is_name}
use Rattle.golog_form.specs.declared.form.Form.{Form}
use Rattle.golog_form.specs.Shape.{place_of}
use Rattle.golog_tree.specs.declared.agent.Agent.{Agent}
use Rattle.golog_tree.specs.declared.agent.SortItem.{SortItem}
use Rattle.golog_tree.specs.declared.agent.SortItem.TheVariants.{Range, Listed}
use Rattle.golog_tree.specs.declared.cond.Arg.{Arg}
use Rattle.golog_tree.specs.declared.cond.Arg.TheVariants.{Const, Var}
use Rattle.golog_tree.specs.declared.draft_cond.DraftArg.{DraftArg}
use Rattle.golog_tree.specs.declared.draft_cond.DraftArg.TheVariants.{Word, Number}
use Rattle.golog_tree.specs.Ground.{size_at}
use Rattle.golog_semantics.specs.Text.{Text, constant_in}
use Rattle.golog_semantics.specs.BuiltIn.{sort_names, declared_names}
use Rattle.golog_semantics.specs.WellFormed.{WellFormed}
use Rattle.golog_semantics.specs.ReportLaws.{RangesFit}
use Rattle.golog_draft.specs.DraftPlaces.{arg_place}
use Rattle.golog_rows.specs.Reading.{gives, ◌>>=◌, found, each}
use Rattle.golog_semantics.specs.Fits as fits
use Rattle.golog_semantics.specs.Fits.{is_range, arg_fits, args_fit}
use Rattle.golog_semantics.specs.Written.{written_arg}
use Rattle.golog_semantics.proofs.Among.{Among, among-get, any-among}
use Rattle.golog_semantics.proofs.Words.{and-left, and-right}
use Rattle.golog_semantics.proofs.WellNamed.{distinct-right, distinct-part}
use Rattle.golog_theory.specs.Codes.{UNKNOWN_FORM, COUNT, NUMBER_RANGE}
use Rattle.golog_theory.specs.Limits.{NAME_BYTES}
use Rattle.golog_base.specs.Numbers.{is_number, value}
use Rattle.golog_theory.specs.Parts.{word, short_name, number_of, arg_of}
use Rattle.golog_theory.specs.Heads.{args_of}
use Rattle.golog_check.specs.declared.scope.Meant.{Meant}
use Rattle.golog_check.specs.Codes.{SORT_CLASH, UNBOUND}
use Rattle.golog_check.specs.DeclaredItems.{Declared}
use Rattle.golog_check.specs.Sorts.{place_of_number, constant, number_in}
use Rattle.golog_check.specs.Scope.{Scope, or_else, meaning}
use Rattle.golog_check.specs.Terms.{is_other, arg_sort, arg_as, arg_in, next_arg, args_in}
use Rattle.golog_check.proofs.ArgLaws.{same-number}
use Rattle.golog_print.specs.Printing.{stem_text, is_free, arg_text, args_texts}
use Rattle.golog_print.specs.ReadBack.{names_in}
use Rattle.golog_print.proofs.Alike.{AreAlike, first-of, none-of, word-as}
use Rattle.golog_print.proofs.AtomWords.{variable-word}
use Rattle.golog_print.proofs.DeclaredWords.{there-is, sort-among, sort-word, sorts-once}
use Rattle.golog_print.proofs.Listings.{constant-found}
use Rattle.golog_print.proofs.Numbers.{signed-no-name, signed-number, signed-value}
use Rattle.golog_print.proofs.Outcomes.{then-ok, row-ok, found-ok}
use Rattle.golog_print.proofs.Placed.{found-at}
use Rattle.golog_print.proofs.PrintedForms.{atom}
use Rattle.golog_print.proofs.RangeNumbers.{inside, place-of}
use Rattle.golog_print.proofs.Scopes.{Scoped, variable}

pub wrong : {A : Type 0} → ◌≡◌ {A = Bool} false true → A
wrong e = absurd (cc)

no-more : (n : ℕ) → n ≤ 31 → nat_lt NAME_BYTES n ≡ false
no-more n h = go (nat_lt NAME_BYTES n) refl
  where
    go : (b : Bool) → nat_lt NAME_BYTES n ≡ b → b ≡ false
    go false e = refl
    go true e = let l : 31 < n = ltb-true 31 n e in absurd (omega (arith, l, h))

pub short-ok : (form : Form) (text : Text) → word form ≡ text → length text ≤ 31 → (short_name form).outcome ≡ Ok text
unfolding short_name
short-ok form text e h =
    row-ok (nat_lt NAME_BYTES (length (word form))) COUNT (place_of form) (gives (word form)) text
    (ap (λ (t : Text). nat_lt NAME_BYTES (length t)) e ∙ no-more (length text) h) (ap Ok e)

-- a short name is read as a word
pub word-read : (form : Form) (text : Text) → word form ≡ text → is_name text ≡ true → length text ≤ 31 → (arg_of form).outcome ≡ Ok (Word text (place_of form))
unfolding arg_of
word-read form text e name h =
    ap (λ (b : Bool). (if b then short_name form >>= (λ (w : Text). gives (Word w (place_of form))) else number_of form >>= (λ (n : ℤ). gives (Number n (place_of form)))).outcome) (ap is_name e ∙ name)
    ∙ then-ok (short_name form) (λ (w : Text). gives (Word w (place_of form))) text (Word text (place_of form)) (short-ok form text e h) refl

pub number-ok : (form : Form) (text : Text) (z : ℤ) → word form ≡ text → is_number text ≡ true → value text ≡ Some z → (number_of form).outcome ≡ Ok z
unfolding number_of
number-ok form text z e num val =
    row-ok (not (is_number (word form))) UNKNOWN_FORM (place_of form) (found NUMBER_RANGE (place_of form) (value (word form))) z
    (ap (λ (t : Text). not (is_number t)) e ∙ ap not num)
    (found-ok NUMBER_RANGE (place_of form) (value (word form)) z (ap value e ∙ val))

number-read : (form : Form) (z : ℤ) → word form ≡ signed_decimal z → mag z < 2 ^ 31 → (arg_of form).outcome ≡ Ok (Number z (place_of form))
unfolding arg_of
number-read form z e h =
    ap (λ (b : Bool). (if b then short_name form >>= (λ (w : Text). gives (Word w (place_of form))) else number_of form >>= (λ (n : ℤ). gives (Number n (place_of form)))).outcome) (ap is_name e ∙ signed-no-name z h)
    ∙ then-ok (number_of form) (λ (n : ℤ). gives (Number n (place_of form))) z (Number z (place_of form)) (number-ok form (signed_decimal z) z e (signed-number z h) (signed-value z h)) refl

none-begins : (p : Text → Bool) (xs : List Text) (x : Text) → not (list_any p xs) ≡ true → Among xs x → p x ≡ false
none-begins p xs x h a = go (p x) refl
  where
    no-any : (b : Bool) → not b ≡ true → b ≡ true → ⊥
    no-any true h e = wrong h
    no-any false h e = wrong e

    go : (b : Bool) → p x ≡ b → b ≡ false
    go false e = refl
    go true e = absurd (no-any (list_any p xs) h (any-among p xs x a e))

-- an agent that is well formed, and a stem that none of its names begins with
pub record Ready (agent : Agent) (k : ℕ) : Type 0 where
  pub formed : WellFormed agent
  pub ranges : RangesFit agent
  pub small : k < 100000
  pub free : is_free agent k ≡ true

module _ (agent : Agent) (k : ℕ) (ready : Ready agent k) where
  abbrev stem : Text
  stem = stem_text k

  abbrev names : Declared
  names = names_in agent

  pub variable-name : (x : ℕ) → x < 32 → is_name (variable stem x) ≡ true
  variable-name x h = let s = ready.small in variable-word k x (omega (arith, s)) (omega (arith, h))

  pub variable-short : (x : ℕ) → x < 32 → length (variable stem x) ≤ 31
  variable-short x h =
      let s = ready.small in
      let one : length (decimal k) ≤ 5 = length-decimal-le 5 k (omega arith) (omega (arith, s)) (omega (arith, s)) in
      let other : length (decimal x) ≤ 2 = length-decimal-le 2 x (omega arith) (omega (arith, h)) (omega (arith, h)) in
      let inner : length (decimal k ++ 95 ∷ []) ≡ length (decimal k) + 1 = length-append (decimal k) (95 ∷ []) in
      let front : length (stem_text k) ≡ suc (length (decimal k ++ 95 ∷ [])) = refl in
      let whole : length (stem_text k ++ decimal x) ≡ length (stem_text k) + length (decimal x) = length-append (stem_text k) (decimal x) in
      omega (arith, one, other, inner, front, whole)

  -- no declared name begins with the stem
  pub not-begun : (name : Text) → Among (declared_names agent) name → starts_with nat_eq name stem ≡ false
  not-begun name a = none-begins (λ name. starts_with nat_eq name stem) (declared_names agent) name ready.free a

  module _ (bound : fits.Scope) (scope : Scope) (scoped : Scoped stem bound scope) where
    -- the argument that a form spells, and what it is in a place of the sort
    pub record ArgRead (sort : ℕ) (arg : Arg) (form : Form) : Type 0 where
      pub draft : DraftArg
      pub read : (arg_of form).outcome ≡ Ok draft
      pub means : (arg_as names scope sort draft).outcome ≡ Ok arg
      pub shown : is_other (arg_sort names scope draft) sort ≡ false
      pub shows : ((written_arg arg).shows_sort || not (is_range agent sort)) ≡ true → arg_sort names scope draft ≡ Some sort

    -- a word that means the argument
    word-arg : (sort : ℕ) (arg : Arg) (form : Form) (text : Text) → word form ≡ text → is_name text ≡ true → length text ≤ 31
        → meaning names scope text (place_of form) ≡ Some (record { arg = arg; sort = sort }) → ArgRead sort arg form
    word-arg sort arg form text e name short means = record {
      draft = Word text (place_of form);
      read = word-read form text e name short;
      means = ap (λ (o : Option Meant). (found UNBOUND (place_of form) (option_map (λ (m : Meant). m.arg) o)).outcome) means;
      shown = ap (λ (o : Option Meant). is_other (option_map (λ (m : Meant). m.sort) o) sort) means ∙ ap not (same-number sort);
      shows = λ _. ap (λ (o : Option Meant). option_map (λ (m : Meant). m.sort) o) means;
    }

    var-read : (sort x : ℕ) (form : Form) → word form ≡ variable stem x → arg_fits agent bound sort (Var x) ≡ true → ArgRead sort (Var x) form
    var-read sort x form e h =
        let b = scoped.binds x sort (go (bound x) refl h) in
        word-arg sort (Var x) form (variable stem x) e (variable-name x b.0) (variable-short x b.0)
        (ap (λ (o : Option Meant). or_else o (constant names (variable stem x) (place_of form))) b.1)
      where
        go : (o : Option ℕ) → bound x ≡ o → option_map_or (λ s. s == sort) o false ≡ true → bound x ≡ Some sort
        go None e h = wrong h
        go (Some s) e h = e ∙ ap Some (eqb-true s sort h)

    listed-read : (sort c : ℕ) (name : Text) (constants : List Text) (form : Form) → slice_get agent.sorts sort ≡ Some (Listed name constants) → nat_lt c (length constants) ≡ true
        → word form ≡ unwrap_or (slice_get constants c) [] → ArgRead sort (Const c) form
    listed-read sort c name constants form is h e =
        let one = there-is constants c (ltb-true c (length constants) h) in
        let inner = among-get constants c one.0 one.1 in
        let text = one.0 in
        let named = sort-word agent ready.formed sort (Listed name constants) text is (inr inner) in
        let clear = scoped.clear text (not-begun text (sort-among agent ready.formed sort (Listed name constants) text is (inr inner))) in
        let own = distinct-right (name ∷ []) constants (distinct-part sort_names agent.sorts sort (Listed name constants) is (sorts-once agent ready.formed)) in
        let found = constant-found names refl text (place_of form) sort c (Listed name constants) (sorts-once agent ready.formed) is inner (found-at constants c text own one.1) in
        word-arg sort (Const c) form text (e ∙ ap (λ (o : Option Text). unwrap_or o []) one.1) named.named named.short
        (ap (λ (o : Option Meant). or_else o (constant names text (place_of form))) clear ∙ found)

    range-read : (sort c : ℕ) (name : Text) (low high : ℤ) (form : Form) → slice_get agent.sorts sort ≡ Some (Range name low high) → nat_lt c (size_at (Some (Range name low high))) ≡ true
        → word form ≡ signed_decimal (low +ℤ pos c) → ArgRead sort (Const c) form
    range-read sort c name low high form is h e =
        let ends = ready.ranges sort name low high is in
        let less = ltb-true c (size_at (Some (Range name low high))) h in
        let fit = inside low high ends.0 ends.1 c less in
        let z = low +ℤ pos c in
        let place : number_in names sort z ≡ Some c = ap (option_and_then (place_of_number z)) is ∙ place-of name low high ends.0 ends.1 c less in
        let range : is_range agent sort ≡ true = ap (λ (o : Option SortItem). option_map_or fits.is_range_item o false) is in
        record {
          draft = Number z (place_of form);
          read = number-read form z e fit.sfits;
          means = ap (λ (o : Option ℕ). (found SORT_CLASH (place_of form) (option_map Const o)).outcome) place;
          shown = refl;
          shows = λ s. absurd (not-shown (is_range agent sort) range s);
        }
      where
        not-shown : (b : Bool) → b ≡ true → (false || not b) ≡ true → ⊥
        not-shown true e h = wrong h
        not-shown false e h = wrong e

    pub arg-read : (sort : ℕ) (arg : Arg) (form : Form) → arg_fits agent bound sort arg ≡ true → word form ≡ arg_text agent stem sort arg → ArgRead sort arg form
    arg-read sort (Var x) form h e = var-read sort x form e h
    arg-read sort (Const c) form h e = go (slice_get agent.sorts sort) refl h e
      where
        go : (o : Option SortItem) → slice_get agent.sorts sort ≡ o → nat_lt c (size_at o) ≡ true → word form ≡ option_map_or (λ item. constant_in item c) o [] → ArgRead sort (Const c) form
        go None is h e = let l : c < 0 = ltb-true c 0 h in absurd (omega (arith, l))
        go (Some (Range name low high)) is h e = range-read sort c name low high form is h e
        go (Some (Listed name constants)) is h e = listed-read sort c name constants form is h e

    pub arg-placed : (sort : ℕ) (arg : Arg) (form : Form) (r : ArgRead sort arg form) → (arg_in names scope sort r.draft).outcome ≡ Ok arg
    unfolding arg_in
    arg-placed sort arg form r = row-ok (is_other (arg_sort names scope r.draft) sort) SORT_CLASH (arg_place r.draft) (arg_as names scope sort r.draft) arg r.shown r.means

    get-middle : (front rest : List ℕ) (sort : ℕ) → slice_get (front ++ sort ∷ rest) (length front) ≡ Some sort
    get-middle [] rest sort = refl
    get-middle (s ∷ front) rest sort = get-middle front rest sort

    next-ok : (front rest : List ℕ) (sort : ℕ) (done : List Arg) (arg : Arg) (draft : DraftArg) → length done ≡ length front → (arg_in names scope sort draft).outcome ≡ Ok arg
        → (next_arg names scope (front ++ sort ∷ rest) done draft).outcome ≡ Ok arg
    unfolding next_arg
    next-ok front rest sort done arg draft long h =
        then-ok (found SORT_CLASH (arg_place draft) (slice_get (front ++ sort ∷ rest) (length done))) (λ s. arg_in names scope s draft) sort arg
        (found-ok SORT_CLASH (arg_place draft) (slice_get (front ++ sort ∷ rest) (length done)) sort (ap (slice_get (front ++ sort ∷ rest)) long ∙ get-middle front rest sort)) h

    -- arguments behind those that are read
    record Behind (front rest : List ℕ) (args : List Arg) (forms : List Form) (before : List DraftArg) (done : List Arg) : Type 0 where
      drafts : List DraftArg
      read : (each (λ (_ : List DraftArg). arg_of) before forms).outcome ≡ Ok (before ++ drafts)
      means : (each (next_arg names scope (front ++ rest)) done drafts).outcome ≡ Ok (done ++ args)
      count : length drafts ≡ length rest
      counted : length forms ≡ length rest

    one-longer : {A B : Type 0} (xs : List A) (ys : List B) (x : A) (y : B) → length xs ≡ length ys → length (xs ++ x ∷ []) ≡ length (ys ++ y ∷ [])
    one-longer xs ys x y e = length-append xs (x ∷ []) ∙ ap (λ n. n + 1) e ∙ sym (length-append ys (y ∷ []))

    behind : (front rest : List ℕ) (args : List Arg) (forms : List Form) (before : List DraftArg) (done : List Arg) → length done ≡ length front → args_fit agent bound rest args ≡ true
        → AreAlike forms (map atom (args_texts agent stem rest args)) → Behind front rest args forms before done
    behind front [] [] forms before done long h e =
        let none = none-of forms e in record {
          drafts = [];
          read = ap (λ (fs : List Form). (each (λ (_ : List DraftArg). arg_of) before fs).outcome) none ∙ ap Ok (sym (append-nil before));
          means = ap Ok (sym (append-nil done));
          count = refl;
          counted = ap length none;
        }
    behind front [] (arg ∷ args) forms before done long h e = wrong h
    behind front (sort ∷ rest) [] forms before done long h e = wrong h
    behind front (sort ∷ rest) (arg ∷ args) forms before done long h e =
        let f = first-of forms (atom (arg_text agent stem sort arg)) (map atom (args_texts agent stem rest args)) e in
        let one = arg-read sort arg f.first (and-left (arg_fits agent bound sort arg) (args_fit agent bound rest args) h) (word-as f.first (arg_text agent stem sort arg) f.alike) in
        let others = behind (front ++ sort ∷ []) rest args f.others (before ++ one.draft ∷ []) (done ++ arg ∷ []) (one-longer done front arg sort long)
        (and-right (arg_fits agent bound sort arg) (args_fit agent bound rest args) h) f.rest in
        let later : (each (next_arg names scope (front ++ sort ∷ rest)) (done ++ arg ∷ []) others.drafts).outcome ≡ Ok ((done ++ arg ∷ []) ++ args) =
        subst (λ (ss : List ℕ). (each (next_arg names scope ss) (done ++ arg ∷ []) others.drafts).outcome ≡ Ok ((done ++ arg ∷ []) ++ args)) (append_assoc front (sort ∷ []) rest) others.means in
        record {
          drafts = one.draft ∷ others.drafts;
          read =
              ap (λ (fs : List Form). (each (λ (_ : List DraftArg). arg_of) before fs).outcome) f.are
              ∙ then-ok (arg_of f.first) (λ (x : DraftArg). each (λ (_ : List DraftArg). arg_of) (before ++ x ∷ []) f.others) one.draft ((before ++ one.draft ∷ []) ++ others.drafts) one.read others.read
              ∙ ap Ok (append_assoc before (one.draft ∷ []) others.drafts);
          means =
              then-ok (next_arg names scope (front ++ sort ∷ rest) done one.draft) (λ (x : Arg). each (next_arg names scope (front ++ sort ∷ rest)) (done ++ x ∷ []) others.drafts) arg ((done ++ arg ∷ []) ++ args)
              (next-ok front rest sort done arg one.draft long (arg-placed sort arg f.first one)) later
              ∙ ap Ok (append_assoc done (arg ∷ []) args);
          count = ap suc others.count;
          counted = ap length f.are ∙ ap suc others.counted;
        }

    -- the arguments that forms spell, and what they are in places of these sorts
    pub record ArgsRead (sorts : List ℕ) (args : List Arg) (forms : List Form) : Type 0 where
      pub drafts : List DraftArg
      pub read : (args_of forms).outcome ≡ Ok drafts
      pub means : (args_in names scope sorts drafts).outcome ≡ Ok args
      pub counted : length forms ≡ length sorts

    pub args-read : (sorts : List ℕ) (args : List Arg) (forms : List Form) → args_fit agent bound sorts args ≡ true → AreAlike forms (map atom (args_texts agent stem sorts args)) → ArgsRead sorts args forms
    unfolding args_of
    args-read sorts args forms h e =
        let b = behind [] sorts args forms [] [] refl h e in record { drafts = b.drafts; read = b.read; means = b.means; counted = b.counted }

pub ruleset laws = (word-read)
