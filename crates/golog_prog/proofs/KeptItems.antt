-- What each item of a program keeps: its names are new, and its body keeps the rules of programs, whichever
-- procedures have so many parameters as are declared.
use Rattle.std.proofs.Common.{◌≡◌, ℕ, suc, ◌+◌, ◌<◌, ◌≤◌, Bool, true, false, not, ◌||◌, List, [], ◌∷◌, ◌++◌, length, map, Option, Some, None, Ok, refl, sym, ap, subst, ◌∙◌, arith}
use Rattle.std.specs.Prelude.{if◌then◌else◌, nat_le, nat_lt, is_none, is_some, unwrap_or}
use Rattle.std.specs.List.{list_all, list_any, IsDistinct}
use Rattle.std.proofs.lemmas.List.{map-append}
use Rattle.std.proofs.lemmas.Map.Keys.{IsDistinct-push}
use Rattle.std.proofs.lemmas.Cmp.{nat_list_eq_equiv}
use Rattle.golog_base.specs.Names.{is_name, IsWord}
use Rattle.golog_form.specs.declared.form.Form.{Form}
use Rattle.golog_form.specs.Shape.{place_of, items_of}
use Rattle.golog_tree.specs.declared.draft.DraftTheory.{DraftTheory}
use Rattle.golog_tree.specs.declared.draft.DraftParam.{DraftParam}
use Rattle.golog_tree.specs.declared.draft.DraftProc.{DraftProc}
use Rattle.golog_tree.specs.declared.draft.DraftMain.{DraftMain}
use Rattle.golog_tree.specs.declared.draft_prog.DraftProg.{DraftProg}
use Rattle.golog_theory.specs.Reading.{refused, each}
use Rattle.golog_theory.specs.Names.{same, is_taken}
use Rattle.golog_theory.specs.Parts.{word, parts, short_name, sort_of}
use Rattle.golog_theory.specs.Before.{before}
use Rattle.golog_semantics.specs.BuiltIn.{same_text}
use Rattle.golog_draft.specs.Drafts.{BeginsBuiltIn, is_draft_sort, draft_args_keep, prog_keeps, param_words}
use Rattle.golog_theory.proofs.Yields.{Yields, gives-yields, refused-yields, row-yields, if-yields, then-yields, each-yields}
use Rattle.golog_semantics.proofs.Tests.{neither_first, neither_second, and_more}
use Rattle.golog_theory.proofs.Kept.{not_true, all_push, all_still, sort_of-yields}
use Rattle.golog_prog.specs.declared.procedures.Declared.{Declared}
use Rattle.golog_prog.specs.Procedures.{is_word, with_list, by_shape}
use Rattle.golog_prog.specs.Programs.{prog_of}
use Rattle.golog_prog.specs.Items.{proc_name, param_var, param_by, param_of, params_of, proc_item, main_by, main_item}
use Rattle.golog_prog.proofs.Earlier.{knows-sort, before-knows}
use Rattle.golog_prog.proofs.KeptProgs.{Counts, prog_of-yields}

-- the test of what is made of an element
pub any-through : {X : Type 0} (f : X → List ℕ) (name : List ℕ) (xs : List X) → list_any (same name) (map f xs) ≡ list_any (λ x. same name (f x)) xs
any-through f name [] = refl
any-through f name (x ∷ xs) = ap (λ b. same name (f x) || b) (any-through f name xs)

-- a name that may be declared, which no earlier procedure has
pub record NameKeeps (theory : DraftTheory) (done : List DraftProc) (name : List ℕ) : Type 0 where
  pub word : IsWord name
  pub free : is_taken theory name ≡ false
  pub new : list_any (λ (proc : DraftProc). same name proc.name) done ≡ false

proc_name-yields : (theory : DraftTheory) (done : List DraftProc) (f : Form) → Yields (λ name. NameKeeps theory done name × (name ≡ word f)) (proc_name theory done f)
unfolding proc_name short_name
proc_name-yields theory done f =
    let taken = is_taken theory (word f) in
    let again = list_any (λ (proc : DraftProc). same (word f) proc.name) done in
    row-yields _ (not (is_name (word f))) (20, place_of f) _ (λ named.
    row-yields _ (taken || again) (21, place_of f) _ (λ free.
    row-yields _ (nat_lt 31 (length (word f))) (25, place_of f) _ (λ short.
    gives-yields (λ name. NameKeeps theory done name × (name ≡ word f)) (word f) (
      record {
        word = record { named = not_true (is_name (word f)) named; short = grind arith };
        free = neither_first taken again free;
        new = neither_second taken again free;
      },
      refl,
    ))))

-- ---- parameters

record ParamKeeps (known : DraftTheory) (params : List DraftParam) (param : DraftParam) : Type 0 where
  sort : is_draft_sort known param.sort ≡ true
  new : list_any (λ (other : DraftParam). same param.var other.var) params ≡ false

abbrev pub sorts_in : List DraftParam → List ℕ
sorts_in params = map (λ (param : DraftParam). param.sort) params

abbrev pub words_in : List DraftParam → List (List ℕ)
words_in params = map (λ (param : DraftParam). param.var) params

record ParamsKeep (known : DraftTheory) (params : List DraftParam) : Type 0 where
  sorts : list_all (is_draft_sort known) (sorts_in params) ≡ true
  once : IsDistinct same_text (words_in params)

param_var-yields : (params : List DraftParam) (f : Form) → Yields (λ var. list_any (λ (other : DraftParam). same var other.var) params ≡ false) (param_var params f)
unfolding param_var short_name
param_var-yields params f =
    row-yields _ (not (is_name (word f))) (20, place_of f) _ (λ named.
    row-yields _ (list_any (λ (other : DraftParam). same (word f) other.var) params) (21, place_of f) _ (λ new.
    row-yields _ (nat_lt 31 (length (word f))) (25, place_of f) _ (λ short.
    gives-yields (λ var. list_any (λ (other : DraftParam). same var other.var) params ≡ false) (word f) new)))

param_by-yields : (known : DraftTheory) (params : List DraftParam) (at : ℕ) (fs : List Form) → Yields (ParamKeeps known params) (param_by known params at fs)
param_by-yields known params at [] = refused-yields (ParamKeeps known params) 20 at
param_by-yields known params at (var ∷ []) = refused-yields (ParamKeeps known params) 20 at
param_by-yields known params at (var ∷ sort ∷ []) =
    then-yields _ _ (param_var params var).outcome _ (param_var-yields params var) (λ name new.
    then-yields _ _ (sort_of known sort).outcome _ (sort_of-yields known sort) (λ n is.
    gives-yields (ParamKeeps known params) (record { var = name; sort = n }) (record { sort = is; new = new })))
param_by-yields known params at (var ∷ sort ∷ other ∷ fs) = refused-yields (ParamKeeps known params) 20 at

param-push : (known : DraftTheory) (params : List DraftParam) (param : DraftParam) → ParamsKeep known params → ParamKeeps known params param → ParamsKeep known (params ++ param ∷ [])
param-push known params param all one = record {
  sorts = subst (λ ns. list_all (is_draft_sort known) ns ≡ true) (sym (map-append (λ (param : DraftParam). param.sort) params (param ∷ [])))
      (all_push (is_draft_sort known) (sorts_in params) param.sort all.sorts one.sort);
  once = subst (IsDistinct same_text) (sym (map-append (λ (param : DraftParam). param.var) params (param ∷ [])))
      (IsDistinct-push nat_list_eq_equiv (words_in params) param.var all.once (any-through (λ (other : DraftParam). other.var) param.var params ∙ one.new));
}

pub record AreParams (known : DraftTheory) (f : Form) (params : List DraftParam) : Type 0 where
  pub keep : draft_args_keep known (sorts_in params) ≡ true
  pub once : IsDistinct same_text (words_in params)
  pub listed : is_none (items_of f) ≡ false
  pub count : length params ≡ length (parts f)

length-sorts : (params : List DraftParam) → length (sorts_in params) ≡ length params
length-sorts [] = refl
length-sorts (param ∷ params) = ap suc (length-sorts params)

params_of-yields : (known : DraftTheory) (f : Form) → Yields (AreParams known f) (params_of known f)
unfolding params_of param_of IsDistinct
params_of-yields known f =
    row-yields _ (is_none (items_of f)) (20, place_of f) _ (λ listed.
    row-yields _ (nat_lt 3 (length (parts f))) (25, place_of f) _ (λ few params e.
    let all = each-yields (ParamsKeep known) (param_of known)
    (λ before part held param is. param-push known before param held (param_by-yields known before (place_of part) (parts part) param is)) [] (parts f)
    (record { sorts = refl; once = tt }) params e in
    let short : nat_le (length (sorts_in params)) 3 ≡ true = fewer (length (sorts_in params)) (length (parts f)) (length-sorts params ∙ adds (length (parts f)) (length params) all.1) few in record {
      keep = rw (short, all.0.sorts) refl;
      once = all.0.once;
      listed = listed;
      count = adds (length (parts f)) (length params) all.1;
    }))
  where
    fewer : (n m : ℕ) → n ≡ m → nat_lt 3 m ≡ false → nat_le n 3 ≡ true
    fewer n m same e = grind arith

    adds : (n m : ℕ) → m ≡ 0 + n → m ≡ n
    adds n m e = omega (arith, e)

-- ---- items

-- how many parameters a procedure is declared with, where one is declared
abbrev pub counted : Option Declared → List ℕ
counted None = []
counted (Some proc) = proc.params ∷ []

is-word : (name : List ℕ) → IsWord name → is_word name ≡ true
is-word name is = rw (short (length name) is.short, is.named) refl
  where
    short : (n : ℕ) → n ≤ 31 → nat_le n 31 ≡ true
    short n le = grind arith

with-params : (name : List ℕ) (b : Bool) (n : ℕ) → b ≡ true → counted (if b then Some (record { name = name; params = n }) else None) ≡ n ∷ []
with-params name true n e = refl
with-params name false n e = absurd cc

with-list : (name : List ℕ) (o : Option (List Form)) (n : ℕ) → is_word name ≡ true → is_none o ≡ false → n ≡ length (unwrap_or o []) → counted (with_list name o) ≡ n ∷ []
with-list name None n w listed count = absurd cc
with-list name (Some fs) n w listed count = with-params name (is_word name) (length fs) w ∙ ap (λ m. m ∷ []) (sym count)

-- this holds of the program whichever procedures there are, where they have so many parameters
abbrev pub BodyKeeps : DraftTheory → List Declared → DraftProg → ℕ → Type 0
BodyKeeps theory declared body scope = (procs : List DraftProc) → Counts declared procs → prog_keeps theory procs body scope ≡ true

-- a procedure over the theory
pub record ProcRules (theory : DraftTheory) (declared : List Declared) (proc : DraftProc) : Type 0 where
  pub args : draft_args_keep theory (sorts_in proc.params) ≡ true
  pub once : IsDistinct same_text (param_words proc)
  pub body : BodyKeeps theory declared proc.body (length proc.params)

pub record ProcKeeps (theory : DraftTheory) (declared : List Declared) (done : List DraftProc) (fs : List Form) (proc : DraftProc) : Type 0 where
  pub name : NameKeeps theory done proc.name
  pub few : length done < 256
  pub rules : ProcRules theory declared proc
  pub shape : counted (by_shape fs) ≡ length proc.params ∷ []

args-known : (at : ℕ) (theory : DraftTheory) (sorts : List ℕ) → draft_args_keep (before at theory) sorts ≡ true → draft_args_keep theory sorts ≡ true
args-known at theory sorts e =
    and_more (nat_le (length sorts) 3) (nat_le (length sorts) 3) (list_all (is_draft_sort (before at theory)) sorts) (list_all (is_draft_sort theory) sorts) (λ h. h)
    (all_still (is_draft_sort (before at theory)) (is_draft_sort theory) sorts (knows-sort (before at theory) theory (before-knows at theory))) e

module _ (theory : DraftTheory) (declared : List Declared) (begins : BeginsBuiltIn theory) where
  is_less : (n : ℕ) → nat_le 256 n ≡ false → n < 256
  is_less n e = grind arith

  pub proc_item-yields : (done : List DraftProc) (at : ℕ) (fs : List Form) → Yields (ProcKeeps theory declared done fs) (proc_item theory declared done at fs)
  unfolding proc_item
  proc_item-yields done at [] = refused-yields _ 20 at
  proc_item-yields done at (name ∷ []) = refused-yields _ 20 at
  proc_item-yields done at (name ∷ params ∷ []) = refused-yields _ 20 at
  proc_item-yields done at (name ∷ params ∷ body ∷ []) =
      let known = before at theory in
      row-yields _ (nat_le 256 (length done)) (25, at) _ (λ few.
      then-yields _ _ (proc_name theory done name).outcome _ (proc_name-yields theory done name) (λ name' n.
      then-yields _ _ (params_of known params).outcome _ (params_of-yields known params) (λ params' p.
      then-yields (λ d. (prog_of known declared body (length params')).outcome ≡ Ok d) _ (prog_of known declared body (length params')).outcome _ (λ d e. e) (λ d e.
      gives-yields (ProcKeeps theory declared done (name ∷ params ∷ body ∷ [])) (record { name = name'; params = params'; body = d; at = at }) (record {
        name = n.0;
        few = is_less (length done) few;
        rules = record {
          args = args-known at theory (sorts_in params') p.keep;
          once = p.once;
          body = λ procs counts. prog_of-yields theory known declared procs begins (before-knows at theory) counts body (length params') d e;
        };
        shape = with-list (word name) (items_of params) (length params') (is-word (word name) (subst IsWord n.1 n.0.word)) p.listed p.count;
      })))))
  proc_item-yields done at (name ∷ params ∷ body ∷ other ∷ fs) = refused-yields _ 20 at

  abbrev pub MainRules : DraftMain → Type 0
  MainRules main = BodyKeeps theory declared main.body 0

  main_by-yields : (at : ℕ) (fs : List Form) → Yields MainRules (main_by theory declared at fs)
  main_by-yields at [] = refused-yields MainRules 20 at
  main_by-yields at (body ∷ []) =
      let known = before at theory in
      then-yields (λ d. (prog_of known declared body 0).outcome ≡ Ok d) _ (prog_of known declared body 0).outcome _ (λ d e. e) (λ d e.
      gives-yields MainRules (record { body = d; at = at }) (λ procs counts. prog_of-yields theory known declared procs begins (before-knows at theory) counts body 0 d e))
  main_by-yields at (body ∷ other ∷ fs) = refused-yields MainRules 20 at

  pub main_item-yields : (main : Option DraftMain) (at : ℕ) (fs : List Form) → Yields MainRules (main_item theory declared main at fs)
  unfolding main_item
  main_item-yields main at fs =
      if-yields MainRules (is_some main) (refused 21 at) (main_by theory declared at fs) (λ _. refused-yields MainRules 21 at) (λ _. main_by-yields at fs)

pub ruleset laws = (proc_item-yields, main_item-yields)
