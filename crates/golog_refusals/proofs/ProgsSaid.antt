-- A draft of a program says what it is taken for.
use Rattle.std.proofs.Common.{◌≡◌, ℕ, zero, suc, ◌+◌, Bool, true, false, ◌&&◌, ◌==◌, List, [], ◌∷◌, ◌++◌, length, map, Ok, refl, sym, ap, subst, ◌∙◌, append_assoc}
use Rattle.std.specs.Prelude.{⊤, ℤ, pos, negsuc, not, slice_get, unwrap_or}
use Rattle.std.specs.List.{list_all}
use Rattle.std.specs.Option.{option_map_or}
use Rattle.std.specs.Ordering.{int_eq}
use Rattle.std.proofs.lemmas.Bool.{false≢true, eqb-true}
use Rattle.std.proofs.lemmas.Bool.Decides.{Decides-int_eq}
use Rattle.std.proofs.lemmas.List.{append-nil, length-map}
use Rattle.golog_tree.specs.declared.agent.FluentItem.{FluentItem}
use Rattle.golog_tree.specs.declared.agent.ActionItem.{ActionItem}
use Rattle.golog_tree.specs.declared.cond.Cond.{Cond}
use Rattle.golog_tree.specs.declared.draft.DraftTheory.{DraftTheory}
use Rattle.golog_tree.specs.declared.draft.DraftFluent.{DraftFluent}
use Rattle.golog_tree.specs.declared.draft.DraftAction.{DraftAction}
use Rattle.golog_tree.specs.declared.draft.DraftParam.{DraftParam}
use Rattle.golog_tree.specs.declared.draft.DraftProc.{DraftProc}
use Rattle.golog_tree.specs.declared.draft_cond.DraftArg.{DraftArg}
use Rattle.golog_tree.specs.declared.draft_cond.DraftCond.{DraftCond}
use Rattle.golog_tree.specs.declared.draft_prog.DraftProg.{DraftProg}
use Rattle.golog_tree.specs.declared.draft_prog.DraftProg.TheOpen as draft
use Rattle.golog_tree.specs.declared.draft_prog.DraftProg.TheOpen.{DraftProg-F}
use Rattle.golog_tree.specs.declared.draft_prog.DraftProg.TheViews.{roll-DraftProg}
use Rattle.golog_tree.specs.declared.draft_prog.DraftProg.TheFolds.{fold-roll-DraftProg, ind-DraftProg, map-DraftProg}
use Rattle.golog_tree.specs.declared.prog.Prog.{Prog}
use Rattle.golog_tree.specs.declared.prog.Prog.TheVariants as prog
use Rattle.golog_tree.specs.declared.prog.Prog.TheOpen.{Nil, Act, Test, Pick, Star, If, While, Cstar, Call, Search}
use Rattle.golog_tree.specs.declared.prog.Prog.TheViews.{out-Prog}
use Rattle.golog_tree.specs.Ground.{to_count}
use Rattle.golog_rows.specs.Reading.{Reading, gives, ◌>>=◌, each}
use Rattle.golog_semantics.specs.Ways.{is_empty}
use Rattle.golog_semantics.specs.ProgFits.{is_between, depth_limit, fuel_limit}
use Rattle.golog_semantics.proofs.Tests.{and_both, and_cases}
use Rattle.golog_draft.specs.Drafts.{signature, binder_keeps, cond_keeps, prog_keeps, prog_keeps_step}
use Rattle.golog_tree.specs.declared.join.Join.{Join}
use Rattle.golog_tree.specs.declared.join.Join.TheVariants.{Seq as InSeq, Choice as InChoice, Conc as InConc, Prio as InPrio}
use Rattle.golog_check.specs.DeclaredItems.{Declared, declared_by, action_item, param_sorts}
use Rattle.golog_check.specs.Sorts as sorts
use Rattle.golog_check.specs.Scope.{Scope, variable_no, within}
use Rattle.golog_check.specs.Terms.{args_in}
use Rattle.golog_check.specs.Conditions.{cond_in}
use Rattle.golog_check.specs.Programs.{InScope, nested, progs_in, parts_in, with_no, with_body, prog_step, prog_in}
use Rattle.golog_check.specs.ProgramLaws.{blocks_step, blocks_keep}
use Rattle.golog_check.proofs.Readings.{both, ok-same}
use Rattle.golog_check.proofs.ArgLaws.{same-number}
use Rattle.golog_tree.specs.Tidy.{Layer}
use Rattle.golog_refusals.specs.Says.{ProgSays, args_say, cond_says, is_nil, parts_say, prog_says_layer, prog_says_step, prog_says}
use Rattle.golog_refusals.proofs.ArgsSaid.{args-said}
use Rattle.golog_refusals.proofs.CondsSaid.{cond-said}
use Rattle.golog_check.proofs.Signatures.{declared-signature}
use Rattle.golog_refusals.proofs.ProgLevels.{two-joined}

-- a number from 1 on is the count that it is taken for
count-same : (z : ℤ) (limit : ℕ) → is_between 1 limit (to_count z) ≡ true → int_eq z (pos (to_count z)) ≡ true
count-same (pos n) limit h = (Decides-int_eq (pos n) (pos n)).1 refl
count-same (negsuc n) limit h = absurd (false≢true h)

module _ (theory : DraftTheory) (procs : List DraftProc) (has_block : ℕ → Bool) where
  abbrev names : Declared
  names = declared_by theory procs

  -- as many arguments as are declared
  action-long : (n : ℕ) (items : List DraftAction) (action : ℕ)
      → option_map_or (λ (i : DraftAction). length i.args == n && is_empty i.posters) (slice_get items action) false ≡
      true
      → n ≡ length (option_map_or (λ (i : ActionItem). i.args) (slice_get (map action_item items) action) [])
  action-long n [] action h = absurd (false≢true h)
  action-long n (i ∷ items) zero h =
      sym (eqb-true (length i.args) n (and_cases (length i.args == n) (is_empty i.posters) h).0)
  action-long n (i ∷ items) (suc action) h = action-long n items action h

  params-long : (n : ℕ) (items : List DraftProc) (item : ℕ)
      → option_map_or (λ (i : DraftProc). length i.params == n) (slice_get items item) false ≡ true
      → n ≡ length (unwrap_or (slice_get (map param_sorts items) item) [])
  params-long n [] item h = absurd (false≢true h)
  params-long n (i ∷ items) zero h =
      sym (length-map i.params (λ (param : DraftParam). param.sort) ∙ eqb-true (length i.params) n h)
  params-long n (i ∷ items) (suc item) h = params-long n items item h

  abbrev pub Told : DraftProg → Type 0
  Told d =
      (inside : Bool) (n : ℕ) (scope : Scope) → prog_keeps theory procs d n ≡ true
      → blocks_keep has_block d inside ≡ true
      → (p : Prog) → (prog_in names d scope).outcome ≡ Ok p → prog_says names d scope p ≡ true

  abbrev Tell : Type 0
  Tell = (d : DraftProg) × Told d

  abbrev drafts_of : DraftProg-F Tell → DraftProg-F DraftProg
  drafts_of y = map-DraftProg Tell DraftProg (λ d. d.0) y

  abbrev all_of : List Tell → List DraftProg
  all_of ds = map (λ d. d.0) ds

  abbrev keep : DraftProg → ℕ → Bool
  keep = prog_keeps theory procs

  abbrev keep_blocks : DraftProg → Bool → Bool
  keep_blocks = blocks_keep has_block

  module _ (inside : Bool) (n : ℕ) (scope : Scope) where
    -- ---- parts

    abbrev one_in : List Prog → InScope → Reading Prog
    one_in before part = part scope

    -- each program is said by its draft
    abbrev AreTold : List DraftProg → List Prog → Type 0
    AreTold [] [] = ⊤
    AreTold [] (p ∷ ps) = ⊥
    AreTold (d ∷ ds) [] = ⊥
    AreTold (d ∷ ds) (p ∷ ps) = (prog_says names d scope p ≡ true) × AreTold ds ps

    record Behind (ds : List DraftProg) (done result : List Prog) : Type 0 where
      parts : List Prog
      is : result ≡ done ++ parts
      told : AreTold ds parts

    each-told : (ds : List Tell) (done result : List Prog) → list_all (λ p. p n) (map keep (all_of ds)) ≡ true
        → list_all (λ p. p inside) (map keep_blocks (all_of ds)) ≡ true
        → (each one_in done (map (prog_in names) (all_of ds))).outcome ≡ Ok result → Behind (all_of ds) done result
    each-told [] done result k j h =
        record { parts = []; is = sym (ok-same done result h) ∙ sym (append-nil done); told = tt }
    each-told (d ∷ ds) done result k j h =
        let b =
        both (prog_in names d.0 scope) (λ x. each one_in (done ++ x ∷ []) (map (prog_in names) (all_of ds))) result h
        in
        let t = and_cases (keep d.0 n) (list_all (λ p. p n) (map keep (all_of ds))) k in
        let u = and_cases (keep_blocks d.0 inside) (list_all (λ p. p inside) (map keep_blocks (all_of ds))) j in
        let rest = each-told ds (done ++ b.value ∷ []) result t.1 u.1 b.other in
        record {
          parts = b.value ∷ rest.parts;
          is = rest.is ∙ append_assoc done (b.value ∷ []) rest.parts;
          told = (d.1 inside n scope t.0 u.0 b.value b.one, rest.told);
        }

    nested-told : (join : Join) (ds : List DraftProg) (ps : List Prog) → AreTold ds ps
        → parts_say join scope (map (prog_says names) ds) (nested join ps) ≡ true
    nested-told join [] [] h = ap is_nil prog.outs-Nil
    nested-told join [] (p ∷ ps) h = absurd h
    nested-told join (d ∷ ds) [] h = absurd h
    nested-told join (d ∷ []) (p ∷ []) h = h.0
    nested-told join (d ∷ []) (p ∷ q ∷ ps) h = absurd h.1
    nested-told join (d ∷ e ∷ ds) (p ∷ []) h = absurd h.1
    nested-told join (d ∷ e ∷ ds) (p ∷ q ∷ ps) h =
        let rest = nested join (q ∷ ps) in
        let says : Prog × Prog → Bool =
        λ two. prog_says names d scope two.0 && parts_say join scope (map (prog_says names) (e ∷ ds)) two.1 in
        ap (λ o. option_map_or says o false) (two-joined join p rest)
        ∙ and_both (prog_says names d scope p) (parts_say join scope (map (prog_says names) (e ∷ ds)) rest) h.0
        (nested-told join (e ∷ ds) (q ∷ ps) h.1)

    parts-told : (join : Join) (ds : List Tell) (p : Prog) → list_all (λ p. p n) (map keep (all_of ds)) ≡ true
        → list_all (λ p. p inside) (map keep_blocks (all_of ds)) ≡ true
        → (parts_in join scope (map (prog_in names) (all_of ds))).outcome ≡ Ok p
        → parts_say join scope (map (prog_says names) (all_of ds)) p ≡ true
    parts-told join ds p k j h =
        let b = both (progs_in scope (map (prog_in names) (all_of ds))) (λ parts. gives (nested join parts)) p h in
        let t = each-told ds [] b.value k j b.one in
        subst (λ q. parts_say join scope (map (prog_says names) (all_of ds)) q ≡ true)
        (ok-same (nested join b.value) p b.other)
        (subst (λ ps. parts_say join scope (map (prog_says names) (all_of ds)) (nested join ps) ≡ true) (sym t.is)
        (nested-told join (all_of ds) t.parts t.told))

    -- ---- levels that no parts are joined to

    abbrev says : DraftProg-F ProgSays → Layer → Bool
    says d l = prog_says_layer names d scope l

    -- by the level of what is read
    told-by : (d : DraftProg-F ProgSays) (l : Layer) (q p : Prog) → out-Prog q ≡ l → q ≡ p → says d l ≡ true
        → says d (out-Prog p) ≡ true
    told-by d l q p o e h = ap (λ r. says d (out-Prog r)) (sym e) ∙ ap (says d) o ∙ h

    cond-of : (d : DraftCond) (c : Cond) → cond_keeps (signature theory) d n ≡ true
        → (cond_in names d scope).outcome ≡ Ok c → cond_says names d scope c ≡ true
    cond-of d c k h = cond-said names d scope n (ap (λ s. cond_keeps s d n) (declared-signature theory procs) ∙ k) c h

    -- a program that one reading gives
    given-told : {A : Type 0} (reading : Reading A) (make : A → Prog) (level : A → Layer) (d : DraftProg-F ProgSays)
        → ((x : A) → out-Prog (make x) ≡ level x) → (p : Prog) → (reading >>= λ x. gives (make x)).outcome ≡ Ok p
        → ((x : A) → reading.outcome ≡ Ok x → says d (level x) ≡ true) → says d (out-Prog p) ≡ true
    given-told reading make level d outs p h said =
        let b = both reading (λ x. gives (make x)) p h in
        told-by d (level b.value) (make b.value) p (outs b.value) (ok-same (make b.value) p b.other) (said b.value b.one)

    layer : (y : DraftProg-F Tell)
        → prog_keeps_step theory procs (map-DraftProg DraftProg (ℕ → Bool) keep (drafts_of y)) n ≡ true
        → blocks_step has_block (map-DraftProg DraftProg (Bool → Bool) keep_blocks (drafts_of y)) inside ≡ true
        → (p : Prog)
        → (prog_step names (map-DraftProg DraftProg InScope (prog_in names) (drafts_of y)) scope).outcome ≡ Ok p
        → prog_says_step names (map-DraftProg DraftProg ProgSays (prog_says names) (drafts_of y)) scope p ≡ true
    layer (draft.Nil at) k j p h = told-by (draft.Nil at) Nil prog.Nil p prog.outs-Nil (ok-same prog.Nil p h) refl
    layer (draft.Act action drafts at) k j p h =
        let own = sorts.action_sorts names action in
        given-told (args_in names scope own drafts) (λ args. prog.Act action args) (λ args. Act action args)
        (draft.Act action drafts at) (λ args. prog.outs-Act action args) p h (λ args e.
        and_both (action == action) (args_say names scope own drafts args) (same-number action)
        (args-said names scope own drafts args (action-long (length drafts) theory.actions action k) e))
    layer (draft.Test d at) k j p h =
        given-told (cond_in names d scope) (λ c. prog.Test c) (λ c. Test c) (draft.Test d at) (λ c. prog.outs-Test c) p h
        (λ c e. cond-of d c k e)
    layer (draft.Seq ds at) k j p h = parts-told InSeq ds p k j h
    layer (draft.Choice ds at) k j p h = parts-told InChoice ds p k j h
    layer (draft.Pick word sort d at) k j p h =
        let var = variable_no scope in
        let t = and_cases (binder_keeps (signature theory) n sort) (keep d.0 (n + 1)) k in
        given-told (prog_in names d.0 (within word sort scope)) (λ q. prog.Pick var sort q) (λ q. Pick var sort q)
        (draft.Pick word sort (prog_says names d.0) at) (λ q. prog.outs-Pick var sort q) p h (λ q e.
        and_both (var == var && sort == sort) (prog_says names d.0 (within word sort scope) q)
        (and_both (var == var) (sort == sort) (same-number var) (same-number sort))
        (d.1 inside (n + 1) (within word sort scope) t.1 j q e))
    layer (draft.Star d at) k j p h =
        given-told (prog_in names d.0 scope) (λ q. prog.Star q) (λ q. Star q) (draft.Star (prog_says names d.0) at)
        (λ q. prog.outs-Star q) p h (λ q e. d.1 inside n scope k j q e)
    layer (draft.If t d e at) k j p h =
        let k1 = and_cases (cond_keeps (signature theory) t n && keep d.0 n) (keep e.0 n) k in
        let k2 = and_cases (cond_keeps (signature theory) t n) (keep d.0 n) k1.0 in
        let j1 = and_cases (keep_blocks d.0 inside) (keep_blocks e.0 inside) j in
        let a = both (cond_in names t scope) (λ c. prog_in names d.0 scope >>= λ p. with_no c p (prog_in names e.0 scope)) p h in
        let f = both (prog_in names d.0 scope) (λ p. with_no a.value p (prog_in names e.0 scope)) p a.other in
        given-told (prog_in names e.0 scope) (λ q. prog.If a.value f.value q) (λ q. If a.value f.value q)
        (draft.If t (prog_says names d.0) (prog_says names e.0) at) (λ q. prog.outs-If a.value f.value q) p f.other (λ q i.
        and_both (cond_says names t scope a.value && prog_says names d.0 scope f.value) (prog_says names e.0 scope q)
        (and_both (cond_says names t scope a.value) (prog_says names d.0 scope f.value) (cond-of t a.value k2.0 a.one)
        (d.1 inside n scope k2.1 j1.0 f.value f.one)) (e.1 inside n scope k1.1 j1.1 q i))
    layer (draft.While t d at) k j p h =
        let k1 = and_cases (cond_keeps (signature theory) t n) (keep d.0 n) k in
        let a = both (cond_in names t scope) (λ c. with_body c (prog_in names d.0 scope)) p h in
        given-told (prog_in names d.0 scope) (λ q. prog.While a.value q) (λ q. While a.value q)
        (draft.While t (prog_says names d.0) at) (λ q. prog.outs-While a.value q) p a.other (λ q e.
        and_both (cond_says names t scope a.value) (prog_says names d.0 scope q) (cond-of t a.value k1.0 a.one)
        (d.1 inside n scope k1.1 j q e))
    layer (draft.Conc ds at) k j p h = parts-told InConc ds p k j h
    layer (draft.Prio ds at) k j p h = parts-told InPrio ds p k j h
    layer (draft.Cstar d at) k j p h =
        given-told (prog_in names d.0 scope) (λ q. prog.Cstar q) (λ q. Cstar q) (draft.Cstar (prog_says names d.0) at)
        (λ q. prog.outs-Cstar q) p h (λ q e. d.1 inside n scope k j q e)
    layer (draft.Call callee drafts at) k j p h =
        let own = sorts.param_sorts names callee in
        given-told (args_in names scope own drafts) (λ args. prog.Call callee args) (λ args. Call callee args)
        (draft.Call callee drafts at) (λ args. prog.outs-Call callee args) p h (λ args e.
        and_both (callee == callee) (args_say names scope own drafts args) (same-number callee)
        (args-said names scope own drafts args (params-long (length drafts) procs callee k) e))
    layer (draft.Search depth fuel d at) k j p h =
        let low = to_count depth in
        let high = to_count fuel in
        let j1 = and_cases ((not inside && is_between 1 depth_limit low) && is_between 1 fuel_limit high) (keep_blocks d.0 true) j in
        let j2 = and_cases (not inside && is_between 1 depth_limit low) (is_between 1 fuel_limit high) j1.0 in
        let j3 = and_cases (not inside) (is_between 1 depth_limit low) j2.0 in
        given-told (prog_in names d.0 scope) (λ q. prog.Search low high q) (λ q. Search low high q)
        (draft.Search depth fuel (prog_says names d.0) at) (λ q. prog.outs-Search low high q) p h (λ q e.
        and_both (int_eq depth (pos low) && int_eq fuel (pos high)) (prog_says names d.0 scope q)
        (and_both (int_eq depth (pos low)) (int_eq fuel (pos high)) (count-same depth depth_limit j3.1) (count-same fuel fuel_limit j2.1))
        (d.1 true n scope k j1.1 q e))

  told-layer : (y : DraftProg-F Tell) → Told (roll-DraftProg (drafts_of y))
  told-layer y inside n scope k j p h =
      let l = drafts_of y in
      ap (λ (f : ProgSays). f scope p) (fold-roll-DraftProg ProgSays (prog_says_step names) l)
      ∙ layer inside n scope y
      (sym (ap (λ (g : ℕ → Bool). g n) (fold-roll-DraftProg (ℕ → Bool) (prog_keeps_step theory procs) l)) ∙ k)
      (sym (ap (λ (g : Bool → Bool). g inside) (fold-roll-DraftProg (Bool → Bool) (blocks_step has_block) l)) ∙ j)
      p (ap (λ (f : InScope). (f scope).outcome) (sym (fold-roll-DraftProg InScope (prog_step names) l)) ∙ h)

  -- a draft says the program that it is taken for, where its blocks keep their limits
  pub prog-said : (d : DraftProg) → Told d
  prog-said = ind-DraftProg Told (λ x y is. subst (λ l. Told (roll-DraftProg l)) is (told-layer y))
