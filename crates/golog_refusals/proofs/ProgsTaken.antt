-- A program of an agent that a draft says is what the draft is taken for.
use Rattle.std.proofs.Common.{◌≡◌, ℕ, ℤ, pos, ◌+◌, Bool, true, ◌&&◌, ◌==◌, List, [], ◌∷◌, ◌++◌, map, Result, Ok, refl, sym, ap, subst, ◌∙◌, append_assoc}
use Rattle.std.specs.Prelude.{⊤}
use Rattle.std.specs.Ordering.{int_eq}
use Rattle.std.proofs.lemmas.Bool.{false≢true, eqb-true}
use Rattle.std.proofs.lemmas.Bool.Decides.{Decides-int_eq}
use Rattle.std.proofs.lemmas.List.{append-nil}
use Rattle.golog_tree.specs.declared.agent.Agent.{Agent}
use Rattle.golog_tree.specs.declared.cond.Cond.{Cond}
use Rattle.golog_tree.specs.declared.cond.Arg.{Arg}
use Rattle.golog_tree.specs.declared.draft_cond.DraftArg.{DraftArg}
use Rattle.golog_tree.specs.declared.draft_cond.DraftCond.{DraftCond}
use Rattle.golog_tree.specs.declared.draft_prog.DraftProg.{DraftProg}
use Rattle.golog_tree.specs.declared.draft_prog.DraftProg.TheOpen as draft
use Rattle.golog_tree.specs.declared.draft_prog.DraftProg.TheOpen.{DraftProg-F}
use Rattle.golog_tree.specs.declared.draft_prog.DraftProg.TheViews.{roll-DraftProg}
use Rattle.golog_tree.specs.declared.draft_prog.DraftProg.TheFolds.{fold-roll-DraftProg, ind-DraftProg, map-DraftProg}
use Rattle.golog_tree.specs.declared.prog.Prog.{Prog}
use Rattle.golog_tree.specs.declared.prog.Prog.TheVariants as prog
use Rattle.golog_tree.specs.declared.prog.Prog.TheOpen.{Nil, Act, Test, Pick, Star, If, While, Cstar, Call, Search}
use Rattle.golog_tree.specs.declared.prog.Prog.TheViews.{out-Prog, roll-Prog, roll-out-Prog}
use Rattle.golog_tree.specs.Ground.{to_count}
use Rattle.golog_rows.specs.Reading.{Reading, gives, ◌>>=◌, each}
use Rattle.golog_semantics.specs.Fits.{binder_fits, cond_fits}
use Rattle.golog_semantics.specs.ProgFits.{Position, within_binder, within_block, block_fits, prog_fits}
use Rattle.golog_semantics.specs.Written.{is_written_cond, is_written_prog}
use Rattle.golog_semantics.proofs.Tests.{and_cases}
use Rattle.golog_tree.specs.declared.join.Join.{Join}
use Rattle.golog_tree.specs.declared.join.Join.TheVariants.{Seq as InSeq, Choice as InChoice, Conc as InConc, Prio as InPrio}
use Rattle.golog_check.specs.DeclaredItems.{Declared}
use Rattle.golog_check.specs.Sorts.{action_sorts, param_sorts}
use Rattle.golog_check.specs.Scope.{Scope, variable_no, within}
use Rattle.golog_check.specs.Terms.{args_in}
use Rattle.golog_check.specs.Conditions.{cond_in}
use Rattle.golog_check.specs.Programs.{InScope, joined, nested, progs_in, parts_in, with_no, with_body, prog_step, prog_in}
use Rattle.golog_check.specs.CheckLaws.{HasItems}
use Rattle.golog_check.specs.ProgramLaws.{IsProgOf}
use Rattle.golog_tree.specs.Tidy.{Layer}
use Rattle.golog_refusals.specs.Says.{ProgSays, args_say, cond_says, parts_say, prog_says_layer, prog_says_step, prog_says}
use Rattle.golog_refusals.proofs.ArgsSaid.{args-taken}
use Rattle.golog_refusals.proofs.CondsTaken.{cond-taken}
use Rattle.golog_refusals.proofs.Taking.{then-by}
use Rattle.golog_refusals.proofs.ProgLevels.{then-gives, rolled, nil-level, two-level, joined-is, IsLevelOf, level-of, two-of}

module _ (agent : Agent) (names : Declared) (has : HasItems agent names) where
  abbrev pub Taken : DraftProg → Type 0
  Taken d =
      (at : Position) (n : ℕ) (scope : Scope) (p : Prog) → prog_says names d scope p ≡ true → IsProgOf agent at n p
      → (prog_in names d scope).outcome ≡ Ok p

  abbrev Take : Type 0
  Take = (d : DraftProg) × Taken d

  abbrev drafts_of : DraftProg-F Take → DraftProg-F DraftProg
  drafts_of y = map-DraftProg Take DraftProg (λ d. d.0) y

  abbrev all_of : List Take → List DraftProg
  all_of ds = map (λ d. d.0) ds

  module _ (here : Position) (n : ℕ) (scope : Scope) where
    -- ---- parts

    abbrev one_in : List Prog → InScope → Reading Prog
    one_in before part = part scope

    -- each program is what its draft is taken for
    abbrev AreRead : List DraftProg → List Prog → Type 0
    AreRead [] [] = ⊤
    AreRead [] (p ∷ ps) = ⊥
    AreRead (d ∷ ds) [] = ⊥
    AreRead (d ∷ ds) (p ∷ ps) = ((prog_in names d scope).outcome ≡ Ok p) × AreRead ds ps

    each-read : (ds : List DraftProg) (ps done : List Prog) → AreRead ds ps
        → (each one_in done (map (prog_in names) ds)).outcome ≡ Ok (done ++ ps)
    each-read [] [] done h = ap (λ ps. Ok ps) (sym (append-nil done))
    each-read [] (p ∷ ps) done h = absurd h
    each-read (d ∷ ds) [] done h = absurd h
    each-read (d ∷ ds) (p ∷ ps) done h =
        then-by (prog_in names d scope) (λ x. each one_in (done ++ x ∷ []) (map (prog_in names) ds)) p h.0
        ∙ each-read ds ps (done ++ p ∷ []) h.1 ∙ ap (λ ps. Ok ps) (append_assoc done (p ∷ []) ps)

    -- parts that are read, and nest into the program
    record Parts (join : Join) (ds : List DraftProg) (p : Prog) : Type 0 where
      parts : List Prog
      read : AreRead ds parts
      is : nested join parts ≡ p

    nested-more : (join : Join) (first : Prog) (d : DraftProg) (ds : List DraftProg) (ps : List Prog)
        → AreRead (d ∷ ds) ps
        → nested join (first ∷ ps) ≡ joined join first (nested join ps)
    nested-more join first d ds [] h = absurd h
    nested-more join first d ds (p ∷ ps) h = refl

    parts-taken : (join : Join) (ds : List Take) (p : Prog)
        → parts_say join scope (map (prog_says names) (all_of ds)) p ≡ true
        → IsProgOf agent here n p → Parts join (all_of ds) p
    parts-taken join [] p h k =
        record {
          parts = [];
          read = tt;
          is = sym prog.rolls-Nil ∙ ap roll-Prog (sym (nil-level (out-Prog p) h)) ∙ roll-out-Prog p;
        }
    parts-taken join (d ∷ []) p h k = record { parts = p ∷ []; read = (d.1 here n scope p h k, tt); is = refl }
    parts-taken join (d ∷ e ∷ ds) p h k =
        let says : Prog × Prog → Bool =
        λ two.
        prog_says names d.0 scope two.0 && parts_say join scope (map (prog_says names) (all_of (e ∷ ds))) two.1 in
        let two = two-level join (out-Prog p) says h in
        let t =
        and_cases (prog_says names d.0 scope two.first)
        (parts_say join scope (map (prog_says names) (all_of (e ∷ ds))) two.second) two.hold in
        let u = two-of agent join two.first two.second p here n two.is k in
        let rest = parts-taken join (e ∷ ds) two.second t.1 u.1 in
        record {
          parts = two.first ∷ rest.parts;
          read = (d.1 here n scope two.first t.0 u.0, rest.read);
          is =
              nested-more join two.first e.0 (all_of ds) rest.parts rest.read ∙ ap (joined join two.first) rest.is
              ∙ joined-is join p two.first two.second two.is;
        }

    parts-read : (join : Join) (ds : List Take) (p : Prog)
        → parts_say join scope (map (prog_says names) (all_of ds)) p ≡ true
        → IsProgOf agent here n p → (parts_in join scope (map (prog_in names) (all_of ds))).outcome ≡ Ok p
    parts-read join ds p h k =
        let t = parts-taken join ds p h k in
        then-gives (progs_in scope (map (prog_in names) (all_of ds))) (nested join) t.parts
        (each-read (all_of ds) t.parts [] t.read)
        ∙ ap (λ q. Ok q) t.is

    -- ---- levels that no parts are joined to

    nil-taken : (at : ℕ) (l : Layer) → prog_says_layer names (draft.Nil at) scope l ≡ true
        → ◌≡◌ {A = Result Prog (ℕ × ℕ)} (Ok prog.Nil) (Ok (roll-Prog l))
    nil-taken at Nil h = ap (λ q. Ok q) (sym prog.rolls-Nil)
    nil-taken at _ h = absurd (false≢true h)

    -- a name and its arguments
    named-taken : (name item : ℕ) (own : List ℕ) (make : ℕ → List Arg → Prog) (drafts : List DraftArg) (args : List Arg) (l : Layer)
        → roll-Prog l ≡ make item args → (name == item && args_say names scope own drafts args) ≡ true
        → (args_in names scope own drafts >>= λ args. gives (make name args)).outcome ≡ Ok (roll-Prog l)
    named-taken name item own make drafts args l rolls h =
        let t = and_cases (name == item) (args_say names scope own drafts args) h in
        then-gives (args_in names scope own drafts) (make name) args (args-taken names scope own drafts args t.1)
        ∙ ap (λ i. Ok (make i args)) (eqb-true name item t.0) ∙ ap (λ q. Ok q) (sym rolls)

    act-taken : (action : ℕ) (drafts : List DraftArg) (at : ℕ) (l : Layer)
        → prog_says_layer names (draft.Act action drafts at) scope l ≡ true
        → (args_in names scope (action_sorts names action) drafts >>= λ args. gives (prog.Act action args)).outcome ≡
        Ok (roll-Prog l)
    act-taken action drafts at (Act item args) h =
        named-taken action item (action_sorts names action) (λ i args. prog.Act i args) drafts args (Act item args) (prog.rolls-Act item args) h
    act-taken action drafts at _ h = absurd (false≢true h)

    call-taken : (callee : ℕ) (drafts : List DraftArg) (at : ℕ) (l : Layer)
        → prog_says_layer names (draft.Call callee drafts at) scope l ≡ true
        → (args_in names scope (param_sorts names callee) drafts >>= λ args. gives (prog.Call callee args)).outcome ≡
        Ok (roll-Prog l)
    call-taken callee drafts at (Call item args) h =
        named-taken callee item (param_sorts names callee) (λ i args. prog.Call i args) drafts args (Call item args) (prog.rolls-Call item args) h
    call-taken callee drafts at _ h = absurd (false≢true h)

    cond-of : (d : DraftCond) (c : Cond) → cond_says names d scope c ≡ true → cond_fits agent c here.scope ≡ true
        → is_written_cond agent c n ≡ true
        → (cond_in names d scope).outcome ≡ Ok c
    cond-of d c says fit written = cond-taken agent names has d here.scope scope n c says fit written

    test-taken : (d : DraftCond) (at : ℕ) (l : Layer) → prog_says_layer names (draft.Test d at) scope l ≡ true
        → IsLevelOf agent here n l
        → (cond_in names d scope >>= λ c. gives (prog.Test c)).outcome ≡ Ok (roll-Prog l)
    test-taken d at (Test c) h k =
        then-gives (cond_in names d scope) (λ c. prog.Test c) c (cond-of d c h k.fits k.written)
        ∙ ap (λ q. Ok q) (sym (prog.rolls-Test c))
    test-taken d at _ h k = absurd (false≢true h)

    pick-taken : (word : List ℕ) (sort : ℕ) (d : Take) (at : ℕ) (l : Layer)
        → prog_says_layer names (draft.Pick word sort (prog_says names d.0) at) scope l ≡ true
        → IsLevelOf agent here n l
        → (prog_in names d.0 (within word sort scope) >>= λ p. gives (prog.Pick (variable_no scope) sort p)).outcome ≡
        Ok (roll-Prog l)
    pick-taken word sort d at (Pick var own p) h k =
        let s =
        and_cases (var == variable_no scope && own == sort) (prog_says names d.0 (within word sort scope) p) h in
        let t = and_cases (var == variable_no scope) (own == sort) s.0 in
        let u = and_cases (binder_fits agent var own) (prog_fits agent p (within_binder here var own)) k.fits in
        let w = and_cases (var == n) (is_written_prog agent p (n + 1)) k.written in
        let read =
        d.1 (within_binder here var own) (n + 1) (within word sort scope) p s.1 (record { fits = u.1; written = w.1 })
        in
        then-gives (prog_in names d.0 (within word sort scope)) (λ p. prog.Pick (variable_no scope) sort p) p read
        ∙ ap (λ i. Ok (prog.Pick i sort p)) (sym (eqb-true var (variable_no scope) t.0))
        ∙ ap (λ i. Ok (prog.Pick var i p)) (sym (eqb-true own sort t.1))
        ∙ ap (λ q. Ok q) (sym (prog.rolls-Pick var own p))
    pick-taken word sort d at _ h k = absurd (false≢true h)

    -- a part that stands in the same scope, in or outside of a block
    part-taken : (d : Take) (at : Position) (p : Prog) → prog_says names d.0 scope p ≡ true
        → prog_fits agent p at ≡ true
        → is_written_prog agent p n ≡ true → (prog_in names d.0 scope).outcome ≡ Ok p
    part-taken d at p says fit written = d.1 at n scope p says (record { fits = fit; written = written })

    again-taken : (d : Take) (make : Prog → Prog) (p : Prog) (l : Layer) → roll-Prog l ≡ make p → prog_says names d.0 scope p ≡ true
        → prog_fits agent p here ≡ true → is_written_prog agent p n ≡ true
        → (prog_in names d.0 scope >>= λ p. gives (make p)).outcome ≡ Ok (roll-Prog l)
    again-taken d make p l rolls says fit written =
        then-gives (prog_in names d.0 scope) make p (part-taken d here p says fit written) ∙ ap (λ q. Ok q) (sym rolls)

    star-taken : (d : Take) (at : ℕ) (l : Layer)
        → prog_says_layer names (draft.Star (prog_says names d.0) at) scope l ≡ true
        → IsLevelOf agent here n l → (prog_in names d.0 scope >>= λ p. gives (prog.Star p)).outcome ≡ Ok (roll-Prog l)
    star-taken d at (Star p) h k = again-taken d (λ p. prog.Star p) p (Star p) (prog.rolls-Star p) h k.fits k.written
    star-taken d at _ h k = absurd (false≢true h)

    cstar-taken : (d : Take) (at : ℕ) (l : Layer)
        → prog_says_layer names (draft.Cstar (prog_says names d.0) at) scope l ≡ true
        → IsLevelOf agent here n l
        → (prog_in names d.0 scope >>= λ p. gives (prog.Cstar p)).outcome ≡ Ok (roll-Prog l)
    cstar-taken d at (Cstar p) h k = again-taken d (λ p. prog.Cstar p) p (Cstar p) (prog.rolls-Cstar p) h k.fits k.written
    cstar-taken d at _ h k = absurd (false≢true h)

    if-taken : (t : DraftCond) (d e : Take) (at : ℕ) (l : Layer)
        → prog_says_layer names (draft.If t (prog_says names d.0) (prog_says names e.0) at) scope l ≡ true
        → IsLevelOf agent here n l
        → (cond_in names t scope >>= λ c. prog_in names d.0 scope >>= λ p. with_no c p
        (prog_in names e.0 scope)).outcome ≡ Ok (roll-Prog l)
    if-taken t d e at (If c p q) h k =
        let s =
        and_cases (cond_says names t scope c && prog_says names d.0 scope p) (prog_says names e.0 scope q) h in
        let r = and_cases (cond_says names t scope c) (prog_says names d.0 scope p) s.0 in
        let f = and_cases (cond_fits agent c here.scope && prog_fits agent p here) (prog_fits agent q here) k.fits in
        let g = and_cases (cond_fits agent c here.scope) (prog_fits agent p here) f.0 in
        let w =
        and_cases (is_written_cond agent c n && is_written_prog agent p n) (is_written_prog agent q n) k.written in
        let x = and_cases (is_written_cond agent c n) (is_written_prog agent p n) w.0 in
        then-by (cond_in names t scope) (λ c. prog_in names d.0 scope >>= λ p. with_no c p (prog_in names e.0 scope))
        c (cond-of t c r.0 g.0 x.0)
        ∙ then-by (prog_in names d.0 scope) (λ p. with_no c p (prog_in names e.0 scope)) p
        (part-taken d here p r.1 g.1 x.1)
        ∙ then-gives (prog_in names e.0 scope) (λ q. prog.If c p q) q (part-taken e here q s.1 f.1 w.1)
        ∙ ap (λ q. Ok q) (sym (prog.rolls-If c p q))
    if-taken t d e at _ h k = absurd (false≢true h)

    while-taken : (t : DraftCond) (d : Take) (at : ℕ) (l : Layer)
        → prog_says_layer names (draft.While t (prog_says names d.0) at) scope l ≡ true
        → IsLevelOf agent here n l
        → (cond_in names t scope >>= λ c. with_body c (prog_in names d.0 scope)).outcome ≡ Ok (roll-Prog l)
    while-taken t d at (While c p) h k =
        let s = and_cases (cond_says names t scope c) (prog_says names d.0 scope p) h in
        let f = and_cases (cond_fits agent c here.scope) (prog_fits agent p here) k.fits in
        let w = and_cases (is_written_cond agent c n) (is_written_prog agent p n) k.written in
        then-by (cond_in names t scope) (λ c. with_body c (prog_in names d.0 scope)) c (cond-of t c s.0 f.0 w.0)
        ∙ then-gives (prog_in names d.0 scope) (λ p. prog.While c p) p (part-taken d here p s.1 f.1 w.1)
        ∙ ap (λ q. Ok q) (sym (prog.rolls-While c p))
    while-taken t d at _ h k = absurd (false≢true h)

    search-taken : (depth fuel : ℤ) (d : Take) (at : ℕ) (l : Layer)
        → prog_says_layer names (draft.Search depth fuel (prog_says names d.0) at) scope l ≡ true
        → IsLevelOf agent here n l
        → (prog_in names d.0 scope >>= λ p. gives (prog.Search (to_count depth) (to_count fuel) p)).outcome ≡ Ok
        (roll-Prog l)
    search-taken depth fuel d at (Search low high p) h k =
        let s = and_cases (int_eq depth (pos low) && int_eq fuel (pos high)) (prog_says names d.0 scope p) h in
        let t = and_cases (int_eq depth (pos low)) (int_eq fuel (pos high)) s.0 in
        let f = and_cases (block_fits here low high) (prog_fits agent p (within_block here)) k.fits in
        then-gives (prog_in names d.0 scope) (λ p. prog.Search (to_count depth) (to_count fuel) p) p
        (part-taken d (within_block here) p s.1 f.1 k.written)
        ∙ ap (λ i. Ok (prog.Search (to_count i) (to_count fuel) p)) ((Decides-int_eq depth (pos low)).0 t.0)
        ∙ ap (λ i. Ok (prog.Search low (to_count i) p)) ((Decides-int_eq fuel (pos high)).0 t.1)
        ∙ ap (λ q. Ok q) (sym (prog.rolls-Search low high p))
    search-taken depth fuel d at _ h k = absurd (false≢true h)

    layer : (y : DraftProg-F Take) (p : Prog)
        → prog_says_step names (map-DraftProg DraftProg ProgSays (prog_says names) (drafts_of y)) scope p ≡ true
        → IsProgOf agent here n p
        → (prog_step names (map-DraftProg DraftProg InScope (prog_in names) (drafts_of y)) scope).outcome ≡ Ok p
    layer (draft.Nil at) p h k = rolled (Ok prog.Nil) p (nil-taken at (out-Prog p) h)
    layer (draft.Act action args at) p h k = rolled _ p (act-taken action args at (out-Prog p) h)
    layer (draft.Test c at) p h k = rolled _ p (test-taken c at (out-Prog p) h (level-of agent here n p k))
    layer (draft.Seq ds at) p h k = parts-read InSeq ds p h k
    layer (draft.Choice ds at) p h k = parts-read InChoice ds p h k
    layer (draft.Pick word sort d at) p h k =
        rolled _ p (pick-taken word sort d at (out-Prog p) h (level-of agent here n p k))
    layer (draft.Star d at) p h k = rolled _ p (star-taken d at (out-Prog p) h (level-of agent here n p k))
    layer (draft.If c d e at) p h k = rolled _ p (if-taken c d e at (out-Prog p) h (level-of agent here n p k))
    layer (draft.While c d at) p h k = rolled _ p (while-taken c d at (out-Prog p) h (level-of agent here n p k))
    layer (draft.Conc ds at) p h k = parts-read InConc ds p h k
    layer (draft.Prio ds at) p h k = parts-read InPrio ds p h k
    layer (draft.Cstar d at) p h k = rolled _ p (cstar-taken d at (out-Prog p) h (level-of agent here n p k))
    layer (draft.Call item args at) p h k = rolled _ p (call-taken item args at (out-Prog p) h)
    layer (draft.Search depth fuel d at) p h k =
        rolled _ p (search-taken depth fuel d at (out-Prog p) h (level-of agent here n p k))

  taken-layer : (y : DraftProg-F Take) → Taken (roll-DraftProg (drafts_of y))
  taken-layer y at n scope p h k =
      ap (λ (f : InScope). (f scope).outcome) (fold-roll-DraftProg InScope (prog_step names) (drafts_of y))
      ∙ layer at n scope y p
      (sym (ap (λ (f : ProgSays). f scope p) (fold-roll-DraftProg ProgSays (prog_says_step names) (drafts_of y))) ∙ h)
      k

  -- a program that the draft says, and that fits, is what the draft is taken for
  pub prog-taken : (d : DraftProg) → Taken d
  prog-taken = ind-DraftProg Taken (λ x y is. subst (λ l. Taken (roll-DraftProg l)) is (taken-layer y))
