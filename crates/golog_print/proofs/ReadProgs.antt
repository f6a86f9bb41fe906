-- Programs that were printed are read back.
use Rattle.std.proofs.Common.{◌≡◌, ℕ, ◌+◌, ◌<◌, ◌≤◌, ◌^◌, ℤ, pos, Bool, true, false, ◌&&◌, ◌==◌, List, [], ◌∷◌, length, map, drop, refl, sym, ap, subst, ◌∙◌, Option, Some, None, Ok, arith}
use Rattle.std.specs.Prelude.{if◌then◌else◌, not, nat_lt, nat_le, slice_get, position, codes, decimal, unwrap_or, option_map}
use Rattle.std.specs.Option.{option_map_or}
use Rattle.std.proofs.lemmas.Bool.{eqb-true, ltb-true, leb-true, lt-leb}
use Rattle.std.proofs.lemmas.Option.{slice_get-map}
use Rattle.golog_base.specs.Names.{is_name}
use Rattle.golog_form.specs.declared.form.Form.{Form}
use Rattle.golog_form.specs.Printing.{plain}
use Rattle.golog_form.specs.Shape.{place_of}
use Rattle.golog_tree.specs.declared.agent.Agent.{Agent}
use Rattle.golog_tree.specs.declared.agent.ActionItem.{ActionItem}
use Rattle.golog_tree.specs.declared.agent.ProcItem.{ProcItem}
use Rattle.golog_tree.specs.declared.cond.Arg.{Arg}
use Rattle.golog_tree.specs.declared.cond.Cond.{Cond}
use Rattle.golog_tree.specs.declared.prog.Prog.{Prog}
use Rattle.golog_tree.specs.declared.prog.Prog.TheVariants as prog
use Rattle.golog_tree.specs.declared.prog.Way.{Way}
use Rattle.golog_tree.specs.declared.prog.Prog.TheOpen.{Prog-F, Nil, Act, Test, Seq, Choice, Pick, Star, If, While, Conc, Prio, Cstar, Call, Search, Follow}
use Rattle.golog_tree.specs.declared.prog.Prog.TheViews.{roll-Prog}
use Rattle.golog_tree.specs.declared.prog.Prog.TheFolds.{fold-Way, fold-roll-Prog, ind-Prog, map-Prog}
use Rattle.golog_tree.specs.declared.draft.DraftTheory.{DraftTheory}
use Rattle.golog_tree.specs.declared.draft.DraftAction.{DraftAction}
use Rattle.golog_tree.specs.declared.draft_cond.DraftArg.{DraftArg}
use Rattle.golog_tree.specs.declared.draft_cond.DraftCond.{DraftCond}
use Rattle.golog_tree.specs.declared.draft_prog.DraftProg.{DraftProg}
use Rattle.golog_tree.specs.declared.draft_prog.DraftProg.TheVariants as draft
use Rattle.golog_tree.specs.declared.draft_prog.DraftProg.TheOpen as layer
use Rattle.golog_tree.specs.declared.draft_prog.DraftProg.TheOpen.{DraftProg-F}
use Rattle.golog_tree.specs.declared.draft_prog.DraftProg.TheViews.{roll-DraftProg}
use Rattle.golog_tree.specs.declared.draft_prog.DraftProg.TheFolds.{fold-roll-DraftProg, map-DraftProg}
use Rattle.golog_semantics.specs.Text.{Text}
use Rattle.golog_rows.specs.Reading.{Reading, gives, refused, ◌>>=◌, each}
use Rattle.golog_semantics.specs.Ways.{is_empty}
use Rattle.golog_semantics.specs.BlockFree.{block_at, proc_blocks}
use Rattle.golog_semantics.specs.Fits.{is_sort, args_fit, binder_fits, cond_fits}
use Rattle.golog_semantics.specs.ProgFits as placed
use Rattle.golog_semantics.specs.ProgFits.{Position, prog_fits, block_fits}
use Rattle.golog_semantics.specs.Written.{is_written_cond, written_prog_step, is_written_prog}
use Rattle.golog_semantics.proofs.Words.{and-left, and-right}
use Rattle.golog_theory.specs.declared.conditions.Binder.{Binder}
use Rattle.golog_theory.specs.Codes.{UNKNOWN_FORM, COUNT, ARITY}
use Rattle.golog_theory.specs.Limits.{VARIABLES}
use Rattle.golog_theory.specs.Names.{same, action_no}
use Rattle.golog_theory.specs.Parts.{word, parts, number_of}
use Rattle.golog_theory.specs.Heads.{args_of, declared_with}
use Rattle.golog_theory.specs.Conditions.{binder_of, cond_of}
use Rattle.golog_theory.specs.Recursion.{Part}
use Rattle.golog_tree.specs.declared.join.Join.{Join}
use Rattle.golog_tree.specs.declared.join.Join.TheVariants.{Seq as InSeq, Choice as InChoice, Conc as InConc, Prio as InPrio}
use Rattle.golog_check.specs.DeclaredItems.{Declared, action_item}
use Rattle.golog_check.specs.Sorts.{action_sorts, param_sorts}
use Rattle.golog_check.specs.Scope.{Scope, variable_no, within}
use Rattle.golog_check.specs.Terms.{args_in}
use Rattle.golog_check.specs.Conditions.{cond_in}
use Rattle.golog_check.specs.Programs.{InScope, joined, nested, progs_in, parts_in, with_no, with_body, prog_step, prog_in}
use Rattle.golog_check.proofs.ArgLaws.{same-number}
use Rattle.golog_check.proofs.Layers.{fits-prog, in-prog, way_fits, way_written, written-prog}
use Rattle.golog_theory.specs.declared.heads.Callee.{Callee}
use Rattle.golog_prog.specs.declared.keyword.Keyword.{Keyword}
use Rattle.golog_prog.specs.declared.keyword.Keyword.TheVariants as key
use Rattle.golog_prog.specs.declared.programs.Guarded.{Guarded}
use Rattle.golog_prog.specs.declared.procedures.Declared.{Declared as DeclaredProc}
use Rattle.golog_prog.specs.Callees.{own_action, action_at, action_named, procedure, proc_at, proc_named, named}
use Rattle.golog_prog.specs.Constructs.{act_of, call_of, test_of, progs_of, several_of, seq_of, choice_of, conc_of, prio_of, pick_of, one_of, star_of, cstar_of, guarded_of, guard_of, if_of, while_of, search_of}
use Rattle.golog_prog.specs.Keywords.{keyword_of}
use Rattle.golog_prog.specs.Programs.{nil_of, construct_of, list_of, prog_by, prog_of, prog_part}
use Rattle.golog_print.specs.Printing as say
use Rattle.golog_print.specs.Printing.{stem_text, args_texts}
use Rattle.golog_print.specs.ReadBack.{IsTheoryOf, procs_in, names_in}
use Rattle.golog_print.proofs.Alike.{Alike, AreAlike, first-of, word-as}
use Rattle.golog_print.proofs.DeclaredWords.{action-word, proc-word, actions-once, procs-once}
use Rattle.golog_print.proofs.Numbers.{count-number, count-value}
use Rattle.golog_print.proofs.Outcomes.{then-ok, row-ok}
use Rattle.golog_print.proofs.Placed.{found-at, position-map}
use Rattle.golog_print.proofs.PrintedForms as form
use Rattle.golog_print.proofs.PrintedForms.{atom, list, binder_form, cond_form, prog_form}
use Rattle.golog_prog.proofs.Progs.{prog_of-parts, prog_of-none}
use Rattle.golog_print.proofs.ReadArgs.{Ready, number-ok, args-read, wrong}
use Rattle.golog_print.proofs.ReadTerms.{parts-as, no-parts, mapped}
use Rattle.golog_print.proofs.ReadConds.{two-of, three-of, binder_made, binder-ok, cond-reads, deeper}
use Rattle.golog_print.proofs.Scopes.{Scoped, variable}

action-names : (ds : List DraftAction) → map (λ (d : DraftAction). d.name) ds ≡ map (λ (i : ActionItem). i.name) (map action_item ds)
action-names [] = refl
action-names (d ∷ ds) = ap (λ (ns : List Text). d.name ∷ ns) (action-names ds)

proc-names : (ps : List ProcItem) → map (λ (d : DeclaredProc). d.name) (map (λ (proc : ProcItem). record { name = proc.name; params = length proc.params }) ps) ≡ map (λ (i : ProcItem). i.name) ps
proc-names [] = refl
proc-names (p ∷ ps) = ap (λ (ns : List Text). p.name ∷ ns) (proc-names ps)

abbrev callee : ℕ → ℕ → Callee
callee item arity = record { item = item; arity = arity }

abbrev declared_proc : ProcItem → DeclaredProc
declared_proc proc = record { name = proc.name; params = length proc.params }

abbrev guarded_made : DraftCond → DraftProg → Guarded
guarded_made cond body = record { cond = cond; body = body }

named-ok : (at : ℕ) (name : Form) (args : List Form) (o : Option Callee) (item arity : ℕ) → is_name (word name) ≡ true → o ≡ Some (callee item arity) → length args ≡ arity → (named at name args o).outcome ≡ Ok item
unfolding named declared_with
named-ok at name args o item arity w e count =
    ap (λ (b : Bool). (if b then declared_with at (place_of name) (length args) o else refused UNKNOWN_FORM (place_of name)).outcome) w
    ∙ ap (λ (x : Option Callee). (declared_with at (place_of name) (length args) x).outcome) e
    ∙ row-ok (not (length args == arity)) ARITY at (gives item) item (ap (λ (n : ℕ). not (n == arity)) count ∙ ap not (same-number arity)) refl

depth-ok : (f : Form) (n : ℕ) → word f ≡ decimal n → n < 2 ^ 31 → (number_of f).outcome ≡ Ok (pos n)
depth-ok f n e l = number-ok f (decimal n) (pos n) e (count-number n l) (count-value n l)

record Four (fs : List Form) (g h i j : Form) : Type 0 where
  first : Form
  second : Form
  third : Form
  fourth : Form
  are : fs ≡ first ∷ second ∷ third ∷ fourth ∷ []
  like_first : Alike first g
  like_second : Alike second h
  like_third : Alike third i
  like_fourth : Alike fourth j

four-of : (fs : List Form) (g h i j : Form) → AreAlike fs (g ∷ h ∷ i ∷ j ∷ []) → Four fs g h i j
four-of fs g h i j e =
    let p = first-of fs g (h ∷ i ∷ j ∷ []) e in
    let q = three-of p.others h i j p.rest in record {
      first = p.first;
      second = q.first;
      third = q.second;
      fourth = q.third;
      are = p.are ∙ ap (λ (xs : List Form). p.first ∷ xs) q.are;
      like_first = p.alike;
      like_second = q.like_first;
      like_third = q.like_second;
      like_fourth = q.like_third;
    }

module _ (agent : Agent) (k : ℕ) (ready : Ready agent k) (theory : DraftTheory) (of : IsTheoryOf agent theory) where
  abbrev stem : Text
  stem = stem_text k

  abbrev names : Declared
  names = names_in agent

  abbrev procs : List DeclaredProc
  procs = procs_in agent

  action-found : (action : ℕ) (item : ActionItem) → slice_get agent.actions action ≡ Some item → is_empty item.posters ≡ true → action_named theory item.name ≡ Some (callee action (length item.args))
  unfolding action_named
  action-found action item e own =
      let there : slice_get (map (λ (i : ActionItem). i.name) agent.actions) action ≡ Some item.name =
      slice_get-map (λ (i : ActionItem). i.name) agent.actions action ∙ ap (option_map (λ (i : ActionItem). i.name)) e in
      let no : action_no theory item.name ≡ Some action =
      sym (position-map (same item.name) (λ (d : DraftAction). d.name) theory.actions)
      ∙ ap (position (same item.name)) (action-names theory.actions ∙ ap (map (λ (i : ActionItem). i.name)) of.actions)
      ∙ found-at (map (λ (i : ActionItem). i.name) agent.actions) action item.name (actions-once agent ready.formed) there in
      let d = mapped action_item (slice_get theory.actions action) item (sym (slice_get-map action_item theory.actions action) ∙ ap (λ (items : List ActionItem). slice_get items action) of.actions ∙ e) in
      ap (action_at theory) no ∙ ap (own_action action) d.1.0 ∙ owned d.0 (ap (λ (i : ActionItem). is_empty i.posters) d.1.1 ∙ own) ∙ ap (λ (i : ActionItem). Some (callee action (length i.args))) d.1.1
    where
      owned-at : (posters : List ℕ) (arity : ℕ) → is_empty posters ≡ true → (if nat_lt 0 (length posters) then None else Some (callee action arity)) ≡ Some (callee action arity)
      owned-at [] arity h = refl
      owned-at (p ∷ ps) arity h = wrong h

      owned : (d : DraftAction) → is_empty d.posters ≡ true → own_action action (Some d) ≡ Some (callee action (length d.args))
      owned d h = owned-at d.posters (length d.args) h

  proc-found : (item : ℕ) (proc : ProcItem) → slice_get agent.procs item ≡ Some proc → proc_named procs proc.name ≡ Some (callee item (length proc.params))
  unfolding proc_named
  proc-found item proc e =
      let there : slice_get (map (λ (i : ProcItem). i.name) agent.procs) item ≡ Some proc.name = slice_get-map (λ (i : ProcItem). i.name) agent.procs item ∙ ap (option_map (λ (i : ProcItem). i.name)) e in
      let no : position (λ (d : DeclaredProc). same proc.name d.name) procs ≡ Some item =
      sym (position-map (same proc.name) (λ (d : DeclaredProc). d.name) procs)
      ∙ ap (position (same proc.name)) (proc-names agent.procs)
      ∙ found-at (map (λ (i : ProcItem). i.name) agent.procs) item proc.name (procs-once agent ready.formed) there in
      let get : slice_get procs item ≡ Some (declared_proc proc) = slice_get-map declared_proc agent.procs item ∙ ap (option_map declared_proc) e in
      ap (proc_at procs) no ∙ ap (procedure item) get

  -- the program that a form spells, and what that is in a scope
  pub record ProgRead (scope : Scope) (n : ℕ) (p : Prog) (f : Form) : Type 0 where
    pub draft : DraftProg
    pub read : (prog_of theory procs f n).outcome ≡ Ok draft
    pub means : (prog_in names draft scope).outcome ≡ Ok p

  abbrev pub ProgReads : Prog → Type 0
  ProgReads p = (at : Position) (scope : Scope) (n : ℕ) → n ≡ length scope → Scoped stem at.scope scope → prog_fits agent p at ≡ true → is_written_prog agent p n ≡ true
      → (f : Form) → Alike f (prog_form agent stem p) → ProgRead scope n p f

  abbrev AP : Type 0
  AP = (p : Prog) × ProgReads p

  abbrev AW : Type 0
  AW = (w : Way) × Unit {0}

  abbrev prog_at : Prog-F AP AW → Prog-F Prog Way
  prog_at y = map-Prog AP AW Prog Way (λ e. e.0) (λ e. e.0) y

  abbrev way_form : Way → Form
  way_form = fold-Way Form Form (form.prog_step agent stem) (λ _. list [])

  -- a form behind a keyword, by its parts
  by-word : (f head : Form) (others : List Form) (n : ℕ) (text : Text) (keyword : Keyword) → parts f ≡ head ∷ others → word head ≡ text → keyword_of text ≡ Some keyword
      → prog_of theory procs f n ≡ construct_of theory procs f n keyword (map (prog_part theory procs) others)
  by-word f head others n text keyword are e is =
      prog_of-parts theory procs f n ∙ ap (λ (fs : List Form). prog_by theory procs f (map (prog_part theory procs) fs) n) are
      ∙ ap (λ (o : Option Keyword). list_of theory procs f n o (map (prog_part theory procs) others)) (ap keyword_of e ∙ is)

  -- what a draft means, by its parts
  means-by : (l : DraftProg-F DraftProg) (d : DraftProg) (scope : Scope) (p : Prog) → roll-DraftProg l ≡ d
      → (prog_step names (map-DraftProg DraftProg InScope (prog_in names) l) scope).outcome ≡ Ok p → (prog_in names d scope).outcome ≡ Ok p
  means-by l d scope p rolls h = ap (λ (g : InScope). (g scope).outcome) (ap (prog_in names) (sym rolls) ∙ in-prog names l) ∙ h

  nil-ok : (f : Form) → word f ≡ codes "nil" → (nil_of f).outcome ≡ Ok (draft.Nil (place_of f))
  unfolding nil_of
  nil-ok f e = ap (λ (t : Text). (if same t (codes "nil") then gives (draft.Nil (place_of f)) else refused UNKNOWN_FORM (place_of f)).outcome) e

  module _ (at : Position) (scope : Scope) (n : ℕ) (long : n ≡ length scope) (scoped : Scoped stem at.scope scope) where
    nil-read : (f : Form) → Alike f (atom (codes "nil")) → ProgRead scope n prog.Nil f
    nil-read f a = record {
      draft = draft.Nil (place_of f);
      read = ap (λ (r : Reading DraftProg). r.outcome) (prog_of-none theory procs f n (no-parts f (codes "nil") a)) ∙ nil-ok f (word-as f (codes "nil") a);
      means = means-by (layer.Nil (place_of f)) (draft.Nil (place_of f)) scope prog.Nil (draft.rolls-Nil (place_of f)) refl;
    }

    -- ---- a name with arguments

    act-spelled : (f sign name : Form) (args : List Form) (action : ℕ) (drafts : List DraftArg) → parts f ≡ sign ∷ name ∷ args → word sign ≡ codes "act"
        → (named (place_of f) name args (action_named theory (word name))).outcome ≡ Ok action → (args_of args).outcome ≡ Ok drafts → (prog_of theory procs f n).outcome ≡ Ok (draft.Act action drafts (place_of f))
    unfolding construct_of act_of keyword_of
    act-spelled f sign name args action drafts are s h g =
        ap (λ (r : Reading DraftProg). r.outcome) (by-word f sign (name ∷ args) n (codes "act") key.Act are s refl)
        ∙ ap (λ (fs : List Form). (act_of theory (place_of f) (drop 1 fs)).outcome) are
        ∙ then-ok (named (place_of f) name args (action_named theory (word name))) (λ (a : ℕ). args_of args >>= λ (xs : List DraftArg). gives (draft.Act a xs (place_of f))) action (draft.Act action drafts (place_of f)) h
        (then-ok (args_of args) (λ (xs : List DraftArg). gives (draft.Act action xs (place_of f))) drafts (draft.Act action drafts (place_of f)) g refl)

    call-spelled : (f sign name : Form) (args : List Form) (item : ℕ) (drafts : List DraftArg) → parts f ≡ sign ∷ name ∷ args → word sign ≡ codes "call"
        → (named (place_of f) name args (proc_named procs (word name))).outcome ≡ Ok item → (args_of args).outcome ≡ Ok drafts → (prog_of theory procs f n).outcome ≡ Ok (draft.Call item drafts (place_of f))
    unfolding construct_of call_of keyword_of
    call-spelled f sign name args item drafts are s h g =
        ap (λ (r : Reading DraftProg). r.outcome) (by-word f sign (name ∷ args) n (codes "call") key.Call are s refl)
        ∙ ap (λ (fs : List Form). (call_of procs (place_of f) (drop 1 fs)).outcome) are
        ∙ then-ok (named (place_of f) name args (proc_named procs (word name))) (λ (a : ℕ). args_of args >>= λ (xs : List DraftArg). gives (draft.Call a xs (place_of f))) item (draft.Call item drafts (place_of f)) h
        (then-ok (args_of args) (λ (xs : List DraftArg). gives (draft.Call item xs (place_of f))) drafts (draft.Call item drafts (place_of f)) g refl)

    act-read : (action : ℕ) (args : List Arg) (f : Form) → placed.act_fits agent at action args ≡ true
        → Alike f (list (map atom (codes "act" ∷ say.action_name agent action ∷ args_texts agent stem (say.action_sorts agent action) args))) → ProgRead scope n (prog.Act action args) f
    act-read action args f h a =
        go (slice_get agent.actions action) refl h (parts-as f (map atom (codes "act" ∷ say.action_name agent action ∷ args_texts agent stem (say.action_sorts agent action) args)) a)
      where
        go : (o : Option ActionItem) → slice_get agent.actions action ≡ o → option_map_or (λ (item : ActionItem). is_empty item.posters && args_fit agent at.scope item.args args) o false ≡ true
            → AreAlike (parts f) (atom (codes "act") ∷ atom (option_map_or (λ (item : ActionItem). item.name) o []) ∷ map atom (args_texts agent stem (option_map_or (λ (item : ActionItem). item.args) o []) args))
            → ProgRead scope n (prog.Act action args) f
        go None e h a = wrong h
        go (Some item) e h a =
            let p = first-of (parts f) (atom (codes "act")) (atom item.name ∷ map atom (args_texts agent stem item.args args)) a in
            let q = first-of p.others (atom item.name) (map atom (args_texts agent stem item.args args)) p.rest in
            let r = args-read agent k ready at.scope scope scoped item.args args q.others (and-right (is_empty item.posters) (args_fit agent at.scope item.args args) h) q.rest in
            let name = word-as q.first item.name q.alike in
            let place = place_of f in
            let calls = named-ok place q.first q.others (action_named theory (word q.first)) action (length item.args) (ap is_name name ∙ (action-word agent ready.formed action item e).named)
            (ap (action_named theory) name ∙ action-found action item e (and-left (is_empty item.posters) (args_fit agent at.scope item.args args) h)) r.counted in
            record {
              draft = draft.Act action r.drafts place;
              read = act-spelled f p.first q.first q.others action r.drafts (p.are ∙ ap (λ (fs : List Form). p.first ∷ fs) q.are) (word-as p.first (codes "act") p.alike) calls r.read;
              means =
                  means-by (layer.Act action r.drafts place) _ scope _ (draft.rolls-Act action r.drafts place)
                  (then-ok (args_in names scope (action_sorts names action) r.drafts) (λ (x : List Arg). gives (prog.Act action x)) args (prog.Act action args)
                  (ap (λ (o : Option ActionItem). (args_in names scope (option_map_or (λ (i : ActionItem). i.args) o []) r.drafts).outcome) e ∙ r.means) refl);
            }

    proc-params : (item : ℕ) (proc : ProcItem) → slice_get agent.procs item ≡ Some proc → param_sorts names item ≡ proc.params
    proc-params item proc e =
        ap (λ (o : Option (List ℕ)). unwrap_or o []) (slice_get-map (λ (proc : ProcItem). proc.params) agent.procs item ∙ ap (option_map (λ (proc : ProcItem). proc.params)) e)

    call-read : (item : ℕ) (args : List Arg) (f : Form) → option_map_or (λ (proc : ProcItem). args_fit agent at.scope proc.params args) (slice_get agent.procs item) false ≡ true
        → Alike f (list (map atom (codes "call" ∷ say.proc_name agent item ∷ args_texts agent stem (say.proc_sorts agent item) args))) → ProgRead scope n (prog.Call item args) f
    call-read item args f h a =
        go (slice_get agent.procs item) refl h (parts-as f (map atom (codes "call" ∷ say.proc_name agent item ∷ args_texts agent stem (say.proc_sorts agent item) args)) a)
      where
        go : (o : Option ProcItem) → slice_get agent.procs item ≡ o → option_map_or (λ (proc : ProcItem). args_fit agent at.scope proc.params args) o false ≡ true
            → AreAlike (parts f) (atom (codes "call") ∷ atom (option_map_or (λ (proc : ProcItem). proc.name) o []) ∷ map atom (args_texts agent stem (option_map_or (λ (proc : ProcItem). proc.params) o []) args))
            → ProgRead scope n (prog.Call item args) f
        go None e h a = wrong h
        go (Some proc) e h a =
            let p = first-of (parts f) (atom (codes "call")) (atom proc.name ∷ map atom (args_texts agent stem proc.params args)) a in
            let q = first-of p.others (atom proc.name) (map atom (args_texts agent stem proc.params args)) p.rest in
            let r = args-read agent k ready at.scope scope scoped proc.params args q.others h q.rest in
            let name = word-as q.first proc.name q.alike in
            let place = place_of f in
            let calls = named-ok place q.first q.others (proc_named procs (word q.first)) item (length proc.params) (ap is_name name ∙ (proc-word agent ready.formed item proc e).named)
            (ap (proc_named procs) name ∙ proc-found item proc e) r.counted in
            record {
              draft = draft.Call item r.drafts place;
              read = call-spelled f p.first q.first q.others item r.drafts (p.are ∙ ap (λ (fs : List Form). p.first ∷ fs) q.are) (word-as p.first (codes "call") p.alike) calls r.read;
              means =
                  means-by (layer.Call item r.drafts place) _ scope _ (draft.rolls-Call item r.drafts place)
                  (then-ok (args_in names scope (param_sorts names item) r.drafts) (λ (x : List Arg). gives (prog.Call item x)) args (prog.Call item args)
                  (ap (λ (ss : List ℕ). (args_in names scope ss r.drafts).outcome) (proc-params item proc e) ∙ r.means) refl);
            }

    -- ---- a condition, one program

    test-spelled : (f sign one : Form) (d : DraftCond) → parts f ≡ sign ∷ one ∷ [] → word sign ≡ codes "test" → (cond_of theory one n).outcome ≡ Ok d → (prog_of theory procs f n).outcome ≡ Ok (draft.Test d (place_of f))
    unfolding construct_of test_of keyword_of
    test-spelled f sign one d are s h =
        ap (λ (r : Reading DraftProg). r.outcome) (by-word f sign (one ∷ []) n (codes "test") key.Test are s refl)
        ∙ then-ok (cond_of theory one n) (λ (x : DraftCond). gives (draft.Test x (place_of f))) d (draft.Test d (place_of f)) h refl

    test-read : (c : Cond) (f : Form) → cond_fits agent c at.scope ≡ true → is_written_cond agent c n ≡ true → Alike f (list (atom (codes "test") ∷ cond_form agent stem c ∷ [])) → ProgRead scope n (prog.Test c) f
    test-read c f h w a =
        let p = two-of (parts f) (atom (codes "test")) (cond_form agent stem c) (parts-as f (atom (codes "test") ∷ cond_form agent stem c ∷ []) a) in
        let r = cond-reads agent k ready theory of c at.scope scope n long scoped h w p.second p.like_second in
        let place = place_of f in record {
          draft = draft.Test r.draft place;
          read = test-spelled f p.first p.second r.draft p.are (word-as p.first (codes "test") p.like_first) r.read;
          means =
              means-by (layer.Test r.draft place) _ scope _ (draft.rolls-Test r.draft place)
              (then-ok (cond_in names r.draft scope) (λ (x : Cond). gives (prog.Test x)) c (prog.Test c) r.means refl);
        }

    star-spelled : (f sign one : Form) (d : DraftProg) → parts f ≡ sign ∷ one ∷ [] → word sign ≡ codes "star" → (prog_of theory procs one n).outcome ≡ Ok d → (prog_of theory procs f n).outcome ≡ Ok (draft.Star d (place_of f))
    unfolding construct_of star_of one_of keyword_of
    star-spelled f sign one d are s h =
        ap (λ (r : Reading DraftProg). r.outcome) (by-word f sign (one ∷ []) n (codes "star") key.Star are s refl)
        ∙ then-ok (prog_of theory procs one n) (λ (x : DraftProg). gives (draft.Star x (place_of f))) d (draft.Star d (place_of f)) h refl

    cstar-spelled : (f sign one : Form) (d : DraftProg) → parts f ≡ sign ∷ one ∷ [] → word sign ≡ codes "cstar" → (prog_of theory procs one n).outcome ≡ Ok d → (prog_of theory procs f n).outcome ≡ Ok (draft.Cstar d (place_of f))
    unfolding construct_of cstar_of one_of keyword_of
    cstar-spelled f sign one d are s h =
        ap (λ (r : Reading DraftProg). r.outcome) (by-word f sign (one ∷ []) n (codes "cstar") key.Cstar are s refl)
        ∙ then-ok (prog_of theory procs one n) (λ (x : DraftProg). gives (draft.Cstar x (place_of f))) d (draft.Cstar d (place_of f)) h refl

    -- one program behind a word
    again-read : (text : Text) (made : DraftProg → ℕ → DraftProg) (make : Prog → Prog)
        → ((f sign one : Form) (d : DraftProg) → parts f ≡ sign ∷ one ∷ [] → word sign ≡ text → (prog_of theory procs one n).outcome ≡ Ok d → (prog_of theory procs f n).outcome ≡ Ok (made d (place_of f)))
        → ((d : DraftProg) (place : ℕ) (p : Prog) → (prog_in names d scope).outcome ≡ Ok p → (prog_in names (made d place) scope).outcome ≡ Ok (make p))
        → (p : AP) (f : Form) → prog_fits agent p.0 at ≡ true → is_written_prog agent p.0 n ≡ true → Alike f (list (atom text ∷ prog_form agent stem p.0 ∷ [])) → ProgRead scope n (make p.0) f
    again-read text made make spelled meant p f h w a =
        let two = two-of (parts f) (atom text) (prog_form agent stem p.0) (parts-as f (atom text ∷ prog_form agent stem p.0 ∷ []) a) in
        let r = p.1 at scope n long scoped h w two.second two.like_second in
        record {
          draft = made r.draft (place_of f);
          read = spelled f two.first two.second r.draft two.are (word-as two.first text two.like_first) r.read;
          means = meant r.draft (place_of f) p.0 r.means;
        }

    star-read : (p : AP) (f : Form) → prog_fits agent p.0 at ≡ true → is_written_prog agent p.0 n ≡ true → Alike f (list (atom (codes "star") ∷ prog_form agent stem p.0 ∷ [])) → ProgRead scope n (prog.Star p.0) f
    star-read = again-read (codes "star") (λ d place. draft.Star d place) (λ p. prog.Star p) star-spelled (λ d place p h.
        means-by (layer.Star d place) (draft.Star d place) scope (prog.Star p) (draft.rolls-Star d place) (then-ok (prog_in names d scope) (λ (x : Prog). gives (prog.Star x)) p (prog.Star p) h refl))

    cstar-read : (p : AP) (f : Form) → prog_fits agent p.0 at ≡ true → is_written_prog agent p.0 n ≡ true → Alike f (list (atom (codes "cstar") ∷ prog_form agent stem p.0 ∷ [])) → ProgRead scope n (prog.Cstar p.0) f
    cstar-read = again-read (codes "cstar") (λ d place. draft.Cstar d place) (λ p. prog.Cstar p) cstar-spelled (λ d place p h.
        means-by (layer.Cstar d place) (draft.Cstar d place) scope (prog.Cstar p) (draft.rolls-Cstar d place) (then-ok (prog_in names d scope) (λ (x : Prog). gives (prog.Cstar x)) p (prog.Cstar p) h refl))

    -- ---- two programs

    record PairRead (text : Text) (p q : Prog) (f : Form) : Type 0 where
      head : Form
      one : Form
      other : Form
      are : parts f ≡ head ∷ one ∷ other ∷ []
      named_so : word head ≡ text
      first : DraftProg
      second : DraftProg
      spells : (progs_of n (map (prog_part theory procs) (one ∷ other ∷ []))).outcome ≡ Ok (first ∷ second ∷ [])
      joins : (join : Join) → (parts_in join scope (map (prog_in names) (first ∷ second ∷ []))).outcome ≡ Ok (joined join p q)

    progs-ok : (one other : Form) (d e : DraftProg) → (prog_of theory procs one n).outcome ≡ Ok d → (prog_of theory procs other n).outcome ≡ Ok e
        → (progs_of n (map (prog_part theory procs) (one ∷ other ∷ []))).outcome ≡ Ok (d ∷ e ∷ [])
    unfolding progs_of
    progs-ok one other d e h g =
        then-ok (prog_of theory procs one n) (λ (x : DraftProg). each (λ (_ : List DraftProg) (part : Part (ℕ → Reading DraftProg)). part.spelled n) (x ∷ []) (map (prog_part theory procs) (other ∷ []))) d (d ∷ e ∷ []) h
        (then-ok (prog_of theory procs other n) (λ (y : DraftProg). gives (d ∷ y ∷ [])) e (d ∷ e ∷ []) g refl)

    joins-ok : (join : Join) (d e : DraftProg) (p q : Prog) → (prog_in names d scope).outcome ≡ Ok p → (prog_in names e scope).outcome ≡ Ok q
        → (parts_in join scope (map (prog_in names) (d ∷ e ∷ []))).outcome ≡ Ok (joined join p q)
    joins-ok join d e p q h g =
        then-ok (progs_in scope (map (prog_in names) (d ∷ e ∷ []))) (λ (xs : List Prog). gives (nested join xs)) (p ∷ q ∷ []) (joined join p q)
        (then-ok (prog_in names d scope) (λ (x : Prog). each (λ (_ : List Prog) (part : InScope). part scope) (x ∷ []) (map (prog_in names) (e ∷ []))) p (p ∷ q ∷ []) h
        (then-ok (prog_in names e scope) (λ (y : Prog). gives (p ∷ y ∷ [])) q (p ∷ q ∷ []) g refl)) refl

    pair-read : (text : Text) (p q : AP) (f : Form) → (prog_fits agent p.0 at && prog_fits agent q.0 at) ≡ true → (is_written_prog agent p.0 n && is_written_prog agent q.0 n) ≡ true
        → Alike f (list (atom text ∷ prog_form agent stem p.0 ∷ prog_form agent stem q.0 ∷ [])) → PairRead text p.0 q.0 f
    pair-read text p q f h w a =
        let three = three-of (parts f) (atom text) (prog_form agent stem p.0) (prog_form agent stem q.0) (parts-as f (atom text ∷ prog_form agent stem p.0 ∷ prog_form agent stem q.0 ∷ []) a) in
        let r = p.1 at scope n long scoped (and-left (prog_fits agent p.0 at) (prog_fits agent q.0 at) h) (and-left (is_written_prog agent p.0 n) (is_written_prog agent q.0 n) w) three.second three.like_second in
        let s = q.1 at scope n long scoped (and-right (prog_fits agent p.0 at) (prog_fits agent q.0 at) h) (and-right (is_written_prog agent p.0 n) (is_written_prog agent q.0 n) w) three.third three.like_third in
        record {
          head = three.first;
          one = three.second;
          other = three.third;
          are = three.are;
          named_so = word-as three.first text three.like_first;
          first = r.draft;
          second = s.draft;
          spells = progs-ok three.second three.third r.draft s.draft r.read s.read;
          joins = λ join. joins-ok join r.draft s.draft p.0 q.0 r.means s.means;
        }

    abbrev pair_parts : Form → Form → List (Part (ℕ → Reading DraftProg))
    pair_parts one other = map (prog_part theory procs) (one ∷ other ∷ [])

    several-ok : (one other : Form) (at : ℕ) (ds : List DraftProg) → (progs_of n (pair_parts one other)).outcome ≡ Ok ds → (several_of n at (pair_parts one other)).outcome ≡ Ok ds
    unfolding several_of
    several-ok one other at ds h = row-ok (nat_lt (length (pair_parts one other)) 2) UNKNOWN_FORM at (progs_of n (pair_parts one other)) ds refl h

    abbrev join_word : Join → Text
    join_word InSeq = codes "seq"
    join_word InChoice = codes "choice"
    join_word InConc = codes "conc"
    join_word InPrio = codes "prio"

    abbrev join_draft : Join → List DraftProg → ℕ → DraftProg
    join_draft InSeq ds place = draft.Seq ds place
    join_draft InChoice ds place = draft.Choice ds place
    join_draft InConc ds place = draft.Conc ds place
    join_draft InPrio ds place = draft.Prio ds place

    joined-spelled : (join : Join) (f head one other : Form) (ds : List DraftProg) → parts f ≡ head ∷ one ∷ other ∷ [] → word head ≡ join_word join → (progs_of n (pair_parts one other)).outcome ≡ Ok ds
        → (prog_of theory procs f n).outcome ≡ Ok (join_draft join ds (place_of f))
    unfolding construct_of seq_of choice_of conc_of prio_of keyword_of
    joined-spelled InSeq f head one other ds are s h =
        ap (λ (r : Reading DraftProg). r.outcome) (by-word f head (one ∷ other ∷ []) n (codes "seq") key.Seq are s refl)
        ∙ then-ok (progs_of n (pair_parts one other)) (λ (x : List DraftProg). gives (draft.Seq x (place_of f))) ds (draft.Seq ds (place_of f)) h refl
    joined-spelled InChoice f head one other ds are s h =
        ap (λ (r : Reading DraftProg). r.outcome) (by-word f head (one ∷ other ∷ []) n (codes "choice") key.Choice are s refl)
        ∙ then-ok (several_of n (place_of f) (pair_parts one other)) (λ (x : List DraftProg). gives (draft.Choice x (place_of f))) ds (draft.Choice ds (place_of f)) (several-ok one other (place_of f) ds h) refl
    joined-spelled InConc f head one other ds are s h =
        ap (λ (r : Reading DraftProg). r.outcome) (by-word f head (one ∷ other ∷ []) n (codes "conc") key.Conc are s refl)
        ∙ then-ok (several_of n (place_of f) (pair_parts one other)) (λ (x : List DraftProg). gives (draft.Conc x (place_of f))) ds (draft.Conc ds (place_of f)) (several-ok one other (place_of f) ds h) refl
    joined-spelled InPrio f head one other ds are s h =
        ap (λ (r : Reading DraftProg). r.outcome) (by-word f head (one ∷ other ∷ []) n (codes "prio") key.Prio are s refl)
        ∙ then-ok (several_of n (place_of f) (pair_parts one other)) (λ (x : List DraftProg). gives (draft.Prio x (place_of f))) ds (draft.Prio ds (place_of f)) (several-ok one other (place_of f) ds h) refl

    joined-means : (join : Join) (ds : List DraftProg) (place : ℕ) (p : Prog) → (parts_in join scope (map (prog_in names) ds)).outcome ≡ Ok p → (prog_in names (join_draft join ds place) scope).outcome ≡ Ok p
    joined-means InSeq ds place p h = means-by (layer.Seq ds place) (draft.Seq ds place) scope p (draft.rolls-Seq ds place) h
    joined-means InChoice ds place p h = means-by (layer.Choice ds place) (draft.Choice ds place) scope p (draft.rolls-Choice ds place) h
    joined-means InConc ds place p h = means-by (layer.Conc ds place) (draft.Conc ds place) scope p (draft.rolls-Conc ds place) h
    joined-means InPrio ds place p h = means-by (layer.Prio ds place) (draft.Prio ds place) scope p (draft.rolls-Prio ds place) h

    joined-read : (join : Join) (p q : Prog) (f : Form) → PairRead (join_word join) p q f → ProgRead scope n (joined join p q) f
    joined-read join p q f r = record {
      draft = join_draft join (r.first ∷ r.second ∷ []) (place_of f);
      read = joined-spelled join f r.head r.one r.other (r.first ∷ r.second ∷ []) r.are r.named_so r.spells;
      means = joined-means join (r.first ∷ r.second ∷ []) (place_of f) (joined join p q) (r.joins join);
    }

    -- ---- binders, conditions and blocks

    pick-spelled : (f head binder body : Form) (var : Text) (sort : ℕ) (d : DraftProg) → parts f ≡ head ∷ binder ∷ body ∷ [] → word head ≡ codes "pick" → n < 32
        → (binder_of theory binder).outcome ≡ Ok (binder_made var sort) → (prog_of theory procs body (n + 1)).outcome ≡ Ok d → (prog_of theory procs f n).outcome ≡ Ok (draft.Pick var sort d (place_of f))
    unfolding construct_of pick_of keyword_of
    pick-spelled f head binder body var sort d are s l h g =
        ap (λ (r : Reading DraftProg). r.outcome) (by-word f head (binder ∷ body ∷ []) n (codes "pick") key.Pick are s refl)
        ∙ row-ok (nat_le VARIABLES n) COUNT (place_of f) (binder_of theory binder >>= λ (b : Binder). prog_of theory procs body (n + 1) >>= λ (x : DraftProg). gives (draft.Pick b.var b.sort x (place_of f))) (draft.Pick var sort d (place_of f))
        (lt-leb 32 n l)
        (then-ok (binder_of theory binder) (λ (b : Binder). prog_of theory procs body (n + 1) >>= λ (x : DraftProg). gives (draft.Pick b.var b.sort x (place_of f))) (binder_made var sort) (draft.Pick var sort d (place_of f)) h
        (then-ok (prog_of theory procs body (n + 1)) (λ (x : DraftProg). gives (draft.Pick var sort x (place_of f))) d (draft.Pick var sort d (place_of f)) g refl))

    pick-read : (var sort : ℕ) (p : AP) (f : Form) → (binder_fits agent var sort && prog_fits agent p.0 (placed.within_binder at var sort)) ≡ true → (var == n && is_written_prog agent p.0 (n + 1)) ≡ true
        → Alike f (list (atom (codes "pick") ∷ binder_form agent stem var sort ∷ prog_form agent stem p.0 ∷ [])) → ProgRead scope n (prog.Pick var sort p.0) f
    pick-read var sort p f h w a =
        let three = three-of (parts f) (atom (codes "pick")) (binder_form agent stem var sort) (prog_form agent stem p.0) (parts-as f (atom (codes "pick") ∷ binder_form agent stem var sort ∷ prog_form agent stem p.0 ∷ []) a) in
        let inner = placed.within_binder at var sort in
        let fit = and-left (binder_fits agent var sort) (prog_fits agent p.0 inner) h in
        let small : var < 32 = ltb-true var 32 (and-left (nat_lt var 32) (is_sort agent sort) fit) in
        let same : var ≡ n = eqb-true var n (and-left (var == n) (is_written_prog agent p.0 (n + 1)) w) in
        let less : n < 32 = omega (arith, same, small) in
        let v = variable stem var in
        let longer : n + 1 ≡ length (within v sort scope) = omega (arith, long) in
        let number : variable_no scope ≡ var = omega (arith, long, same, small) in
        let r = p.1 inner (within v sort scope) (n + 1) longer (deeper agent k ready theory of at.scope scope n long scoped var sort same less)
        (and-right (binder_fits agent var sort) (prog_fits agent p.0 inner) h) (and-right (var == n) (is_written_prog agent p.0 (n + 1)) w) three.third three.like_third in
        let place = place_of f in record {
          draft = draft.Pick v sort r.draft place;
          read = pick-spelled f three.first three.second three.third v sort r.draft three.are (word-as three.first (codes "pick") three.like_first) less (binder-ok agent k ready theory of three.second var sort fit three.like_second) r.read;
          means =
              means-by (layer.Pick v sort r.draft place) _ scope _ (draft.rolls-Pick v sort r.draft place)
              (then-ok (prog_in names r.draft (within v sort scope)) (λ (x : Prog). gives (prog.Pick (variable_no scope) sort x)) p.0 (prog.Pick var sort p.0) r.means
              (ap (λ (m : ℕ). Ok (prog.Pick m sort p.0)) number));
        }

    guarded-ok : (cond body : Form) (c : DraftCond) (d : DraftProg) → (cond_of theory cond n).outcome ≡ Ok c → (prog_of theory procs body n).outcome ≡ Ok d
        → (guarded_of theory n (prog_part theory procs cond) (prog_part theory procs body)).outcome ≡ Ok (guarded_made c d)
    unfolding guarded_of
    guarded-ok cond body c d h g =
        then-ok (cond_of theory cond n) (λ (x : DraftCond). prog_of theory procs body n >>= λ (y : DraftProg). gives (guarded_made x y)) c (guarded_made c d) h
        (then-ok (prog_of theory procs body n) (λ (y : DraftProg). gives (guarded_made c y)) d (guarded_made c d) g refl)

    if-spelled : (f head cond body other : Form) (c : DraftCond) (d e : DraftProg) → parts f ≡ head ∷ cond ∷ body ∷ other ∷ [] → word head ≡ codes "if"
        → (cond_of theory cond n).outcome ≡ Ok c → (prog_of theory procs body n).outcome ≡ Ok d → (prog_of theory procs other n).outcome ≡ Ok e → (prog_of theory procs f n).outcome ≡ Ok (draft.If c d e (place_of f))
    unfolding construct_of if_of keyword_of
    if-spelled f head cond body other c d e are s h g i =
        ap (λ (r : Reading DraftProg). r.outcome) (by-word f head (cond ∷ body ∷ other ∷ []) n (codes "if") key.If are s refl)
        ∙ then-ok (guarded_of theory n (prog_part theory procs cond) (prog_part theory procs body)) (λ (x : Guarded). prog_of theory procs other n >>= λ (y : DraftProg). gives (draft.If x.cond x.body y (place_of f))) (guarded_made c d) (draft.If c d e (place_of f)) (guarded-ok cond body c d h g)
        (then-ok (prog_of theory procs other n) (λ (y : DraftProg). gives (draft.If c d y (place_of f))) e (draft.If c d e (place_of f)) i refl)

    while-spelled : (f head cond body : Form) (c : DraftCond) (d : DraftProg) → parts f ≡ head ∷ cond ∷ body ∷ [] → word head ≡ codes "while"
        → (cond_of theory cond n).outcome ≡ Ok c → (prog_of theory procs body n).outcome ≡ Ok d → (prog_of theory procs f n).outcome ≡ Ok (draft.While c d (place_of f))
    unfolding construct_of while_of guard_of keyword_of
    while-spelled f head cond body c d are s h g =
        ap (λ (r : Reading DraftProg). r.outcome) (by-word f head (cond ∷ body ∷ []) n (codes "while") key.While are s refl)
        ∙ then-ok (guarded_of theory n (prog_part theory procs cond) (prog_part theory procs body)) (λ (x : Guarded). gives (draft.While x.cond x.body (place_of f))) (guarded_made c d) (draft.While c d (place_of f)) (guarded-ok cond body c d h g) refl

    if-read : (c : Cond) (p q : AP) (f : Form) → ((cond_fits agent c at.scope && prog_fits agent p.0 at) && prog_fits agent q.0 at) ≡ true
        → ((is_written_cond agent c n && is_written_prog agent p.0 n) && is_written_prog agent q.0 n) ≡ true
        → Alike f (list (atom (codes "if") ∷ cond_form agent stem c ∷ prog_form agent stem p.0 ∷ prog_form agent stem q.0 ∷ [])) → ProgRead scope n (prog.If c p.0 q.0) f
    if-read c p q f h w a =
        let four = four-of (parts f) (atom (codes "if")) (cond_form agent stem c) (prog_form agent stem p.0) (prog_form agent stem q.0)
        (parts-as f (atom (codes "if") ∷ cond_form agent stem c ∷ prog_form agent stem p.0 ∷ prog_form agent stem q.0 ∷ []) a) in
        let front = and-left (cond_fits agent c at.scope && prog_fits agent p.0 at) (prog_fits agent q.0 at) h in
        let words = and-left (is_written_cond agent c n && is_written_prog agent p.0 n) (is_written_prog agent q.0 n) w in
        let b = cond-reads agent k ready theory of c at.scope scope n long scoped (and-left (cond_fits agent c at.scope) (prog_fits agent p.0 at) front) (and-left (is_written_cond agent c n) (is_written_prog agent p.0 n) words) four.second four.like_second in
        let r = p.1 at scope n long scoped (and-right (cond_fits agent c at.scope) (prog_fits agent p.0 at) front) (and-right (is_written_cond agent c n) (is_written_prog agent p.0 n) words) four.third four.like_third in
        let s = q.1 at scope n long scoped (and-right (cond_fits agent c at.scope && prog_fits agent p.0 at) (prog_fits agent q.0 at) h) (and-right (is_written_cond agent c n && is_written_prog agent p.0 n) (is_written_prog agent q.0 n) w) four.fourth four.like_fourth in
        let place = place_of f in record {
          draft = draft.If b.draft r.draft s.draft place;
          read = if-spelled f four.first four.second four.third four.fourth b.draft r.draft s.draft four.are (word-as four.first (codes "if") four.like_first) b.read r.read s.read;
          means =
              means-by (layer.If b.draft r.draft s.draft place) _ scope _ (draft.rolls-If b.draft r.draft s.draft place)
              (then-ok (cond_in names b.draft scope) (λ (x : Cond). prog_in names r.draft scope >>= λ (y : Prog). with_no x y (prog_in names s.draft scope)) c (prog.If c p.0 q.0) b.means
              (then-ok (prog_in names r.draft scope) (λ (y : Prog). with_no c y (prog_in names s.draft scope)) p.0 (prog.If c p.0 q.0) r.means
              (then-ok (prog_in names s.draft scope) (λ (z : Prog). gives (prog.If c p.0 z)) q.0 (prog.If c p.0 q.0) s.means refl)));
        }

    while-read : (c : Cond) (p : AP) (f : Form) → (cond_fits agent c at.scope && prog_fits agent p.0 at) ≡ true → (is_written_cond agent c n && is_written_prog agent p.0 n) ≡ true
        → Alike f (list (atom (codes "while") ∷ cond_form agent stem c ∷ prog_form agent stem p.0 ∷ [])) → ProgRead scope n (prog.While c p.0) f
    while-read c p f h w a =
        let three = three-of (parts f) (atom (codes "while")) (cond_form agent stem c) (prog_form agent stem p.0) (parts-as f (atom (codes "while") ∷ cond_form agent stem c ∷ prog_form agent stem p.0 ∷ []) a) in
        let b = cond-reads agent k ready theory of c at.scope scope n long scoped (and-left (cond_fits agent c at.scope) (prog_fits agent p.0 at) h) (and-left (is_written_cond agent c n) (is_written_prog agent p.0 n) w) three.second three.like_second in
        let r = p.1 at scope n long scoped (and-right (cond_fits agent c at.scope) (prog_fits agent p.0 at) h) (and-right (is_written_cond agent c n) (is_written_prog agent p.0 n) w) three.third three.like_third in
        let place = place_of f in record {
          draft = draft.While b.draft r.draft place;
          read = while-spelled f three.first three.second three.third b.draft r.draft three.are (word-as three.first (codes "while") three.like_first) b.read r.read;
          means =
              means-by (layer.While b.draft r.draft place) _ scope _ (draft.rolls-While b.draft r.draft place)
              (then-ok (cond_in names b.draft scope) (λ (x : Cond). with_body x (prog_in names r.draft scope)) c (prog.While c p.0) b.means
              (then-ok (prog_in names r.draft scope) (λ (y : Prog). gives (prog.While c y)) p.0 (prog.While c p.0) r.means refl));
        }

    search-spelled : (f head one other body : Form) (depth fuel : ℕ) (d : DraftProg) → parts f ≡ head ∷ one ∷ other ∷ body ∷ [] → word head ≡ codes "search"
        → (number_of one).outcome ≡ Ok (pos depth) → (number_of other).outcome ≡ Ok (pos fuel) → (prog_of theory procs body n).outcome ≡ Ok d → (prog_of theory procs f n).outcome ≡ Ok (draft.Search (pos depth) (pos fuel) d (place_of f))
    unfolding construct_of search_of keyword_of
    search-spelled f head one other body depth fuel d are s h g i =
        ap (λ (r : Reading DraftProg). r.outcome) (by-word f head (one ∷ other ∷ body ∷ []) n (codes "search") key.Search are s refl)
        ∙ then-ok (number_of one) (λ (x : ℤ). number_of other >>= λ (y : ℤ). prog_of theory procs body n >>= λ (z : DraftProg). gives (draft.Search x y z (place_of f))) (pos depth) (draft.Search (pos depth) (pos fuel) d (place_of f)) h
        (then-ok (number_of other) (λ (y : ℤ). prog_of theory procs body n >>= λ (z : DraftProg). gives (draft.Search (pos depth) y z (place_of f))) (pos fuel) (draft.Search (pos depth) (pos fuel) d (place_of f)) g
        (then-ok (prog_of theory procs body n) (λ (z : DraftProg). gives (draft.Search (pos depth) (pos fuel) z (place_of f))) d (draft.Search (pos depth) (pos fuel) d (place_of f)) i refl))

    limits : (depth fuel : ℕ) → block_fits at depth fuel ≡ true → (depth < 2 ^ 31) × (fuel < 2 ^ 31)
    limits depth fuel h =
        let front = and-left (not at.in_block && placed.is_between 1 64 depth) (placed.is_between 1 100000 fuel) h in
        let one : depth ≤ 64 = leb-true depth 64 (and-right (nat_le 1 depth) (nat_le depth 64) (and-right (not at.in_block) (placed.is_between 1 64 depth) front)) in
        let other : fuel ≤ 100000 = leb-true fuel 100000 (and-right (nat_le 1 fuel) (nat_le fuel 100000) (and-right (not at.in_block && placed.is_between 1 64 depth) (placed.is_between 1 100000 fuel) h)) in
        (omega (arith, one), omega (arith, other))

    search-read : (depth fuel : ℕ) (p : AP) (f : Form) → (block_fits at depth fuel && prog_fits agent p.0 (placed.within_block at)) ≡ true → is_written_prog agent p.0 n ≡ true
        → Alike f (list (atom (codes "search") ∷ atom (decimal depth) ∷ atom (decimal fuel) ∷ prog_form agent stem p.0 ∷ [])) → ProgRead scope n (prog.Search depth fuel p.0) f
    search-read depth fuel p f h w a =
        let four = four-of (parts f) (atom (codes "search")) (atom (decimal depth)) (atom (decimal fuel)) (prog_form agent stem p.0)
        (parts-as f (atom (codes "search") ∷ atom (decimal depth) ∷ atom (decimal fuel) ∷ prog_form agent stem p.0 ∷ []) a) in
        let small = limits depth fuel (and-left (block_fits at depth fuel) (prog_fits agent p.0 (placed.within_block at)) h) in
        let r = p.1 (placed.within_block at) scope n long scoped (and-right (block_fits at depth fuel) (prog_fits agent p.0 (placed.within_block at)) h) w four.fourth four.like_fourth in
        let place = place_of f in record {
          draft = draft.Search (pos depth) (pos fuel) r.draft place;
          read = search-spelled f four.first four.second four.third four.fourth depth fuel r.draft four.are (word-as four.first (codes "search") four.like_first)
              (depth-ok four.second depth (word-as four.second (decimal depth) four.like_second) small.0) (depth-ok four.third fuel (word-as four.third (decimal fuel) four.like_third) small.1) r.read;
          means =
              means-by (layer.Search (pos depth) (pos fuel) r.draft place) _ scope _ (draft.rolls-Search (pos depth) (pos fuel) r.draft place)
              (then-ok (prog_in names r.draft scope) (λ (x : Prog). gives (prog.Search depth fuel x)) p.0 (prog.Search depth fuel p.0) r.means refl);
        }

    abbrev IsRead : Form → Prog → Type 0
    IsRead f p = ProgRead scope n p f

    prog-made : (y : Prog-F AP AW)
        → placed.prog_step agent (map-Prog Prog Way (Position → Bool) (Position → Bool) (prog_fits agent) (way_fits agent) (prog_at y)) at ≡ true
        → written_prog_step agent (map-Prog Prog Way (ℕ → Bool) Bool (is_written_prog agent) (way_written agent) (prog_at y)) n ≡ true
        → (f : Form) → Alike f (form.prog_step agent stem (map-Prog Prog Way Form Form (prog_form agent stem) way_form (prog_at y))) → IsRead f (roll-Prog (prog_at y))
    prog-made Nil h w f a = subst (IsRead f) (sym prog.rolls-Nil) (nil-read f a)
    prog-made (Act action args) h w f a = subst (IsRead f) (sym (prog.rolls-Act action args)) (act-read action args f h a)
    prog-made (Test c) h w f a = subst (IsRead f) (sym (prog.rolls-Test c)) (test-read c f h w a)
    prog-made (Seq p q) h w f a = subst (IsRead f) (sym (prog.rolls-Seq p.0 q.0)) (joined-read InSeq p.0 q.0 f (pair-read (codes "seq") p q f h w a))
    prog-made (Choice p q) h w f a = subst (IsRead f) (sym (prog.rolls-Choice p.0 q.0)) (joined-read InChoice p.0 q.0 f (pair-read (codes "choice") p q f h w a))
    prog-made (Pick var sort p) h w f a = subst (IsRead f) (sym (prog.rolls-Pick var sort p.0)) (pick-read var sort p f h w a)
    prog-made (Star p) h w f a = subst (IsRead f) (sym (prog.rolls-Star p.0)) (star-read p f h w a)
    prog-made (If c p q) h w f a = subst (IsRead f) (sym (prog.rolls-If c p.0 q.0)) (if-read c p q f h w a)
    prog-made (While c p) h w f a = subst (IsRead f) (sym (prog.rolls-While c p.0)) (while-read c p f h w a)
    prog-made (Conc p q) h w f a = subst (IsRead f) (sym (prog.rolls-Conc p.0 q.0)) (joined-read InConc p.0 q.0 f (pair-read (codes "conc") p q f h w a))
    prog-made (Prio p q) h w f a = subst (IsRead f) (sym (prog.rolls-Prio p.0 q.0)) (joined-read InPrio p.0 q.0 f (pair-read (codes "prio") p q f h w a))
    prog-made (Cstar p) h w f a = subst (IsRead f) (sym (prog.rolls-Cstar p.0)) (cstar-read p f h w a)
    prog-made (Call item args) h w f a =
        subst (IsRead f) (sym (prog.rolls-Call item args))
        (call-read item args f (and-left (option_map_or (λ (proc : ProcItem). args_fit agent at.scope proc.params args) (slice_get agent.procs item) false) (not (at.in_block && block_at (proc_blocks agent) item)) h) a)
    prog-made (Search depth fuel p) h w f a = subst (IsRead f) (sym (prog.rolls-Search depth fuel p.0)) (search-read depth fuel p f h w a)
    prog-made (Follow depth fuel p rest) h w f a = wrong w

  prog-layer : (y : Prog-F AP AW) → ProgReads (roll-Prog (prog_at y))
  prog-layer y at scope n long scoped h w f a =
      prog-made at scope n long scoped y
      (sym (ap (λ (g : Position → Bool). g at) (fits-prog agent (prog_at y))) ∙ h)
      (sym (ap (λ (g : ℕ → Bool). g n) (written-prog agent (prog_at y))) ∙ w) f
      (a ∙ ap plain (fold-roll-Prog Form Form (form.prog_step agent stem) (λ _. list []) (prog_at y)))

  -- a program that was printed is read back
  pub prog-reads : (p : Prog) → ProgReads p
  prog-reads = ind-Prog ProgReads (λ _. Unit {0}) (λ x y is. subst (λ z. ProgReads (roll-Prog z)) is (prog-layer y)) (λ x y is. tt)

pub ruleset laws = (prog-reads)
