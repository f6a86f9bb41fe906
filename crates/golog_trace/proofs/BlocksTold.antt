-- What is said of the search blocks at the front of a program, by its parts.
use Rattle.std.proofs.Common.{◌≡◌, ℕ, suc, ◌+◌, ◌-◌, ◌<◌, ◌≤◌, Bool, true, false, if◌then◌else◌, List, [], ◌∷◌, ◌++◌, refl, sym, ap, ◌∙◌, subst, arith}
use Rattle.std.specs.Prelude.{OnOk, Result}
use Rattle.std.specs.List.{flat_map, range_with_len}
use Rattle.std.proofs.lemmas.List.{append_assoc, append-nil}
use Rattle.std.proofs.lemmas.Grind.{flat_map-append}
use Rattle.golog_tree.specs.declared.agent.Agent.{Agent}
use Rattle.golog_tree.specs.declared.cond.Arg.{Arg}
use Rattle.golog_tree.specs.declared.cond.Cond.{Cond}
use Rattle.golog_tree.specs.declared.prog.Prog.{Prog}
use Rattle.golog_tree.specs.declared.prog.Way.{Way}
use Rattle.golog_tree.specs.declared.prog.Prog.TheOpen.{Nil, Act, Test, Seq, Choice, Pick, Star, If, While, Conc, Prio, Cstar, Call, Search, Follow}
use Rattle.golog_tree.specs.declared.prog.Prog.TheVariants as prog
use Rattle.golog_tree.specs.declared.prog.Prog.TheViews.{out-Prog}
use Rattle.golog_tree.specs.Ground.{sort_size}
use Rattle.golog_tree.specs.Tidy.{Layer}
use Rattle.golog_semantics.specs.declared.search.Block.{Block}
use Rattle.golog_semantics.specs.Blocks.{is_kept}
use Rattle.golog_semantics.specs.Guarded.{front, IsGuarded}
use Rattle.golog_semantics.specs.Heavy.{Reached, blocks_step}
use Rattle.golog_semantics.specs.Program.{put_arg, body_of}
use Rattle.golog_semantics.specs.Text.{Text}
use Rattle.golog_semantics.specs.Truth.{Values, constants}
use Rattle.golog_search.specs.Weighing.{blocks_at}
use Rattle.golog_search.proofs.FrontBlocksUnfold.{front_blocks-out}
use Rattle.golog_trace.specs.Wanted.{block_text, blocks_text, reached_text, unless_kept}

-- what was added, by another name
pub added_as : {A E : Type 0} (result : Result A E) (old new x y : Text) → x ≡ y → OnOk result (new ≡ old ++ x) → OnOk result (new ≡ old ++ y)
added_as result old new x y e h = subst (λ t. OnOk result (new ≡ old ++ t)) e h

-- two pieces that were added are one
pub both_as : {A E : Type 0} (result : Result A E) (old new x y z : Text) → x ++ y ≡ z → OnOk result (new ≡ (old ++ x) ++ y) → OnOk result (new ≡ old ++ z)
both_as result old new x y z e h = subst (λ t. OnOk result (new ≡ t)) (append_assoc old x y ∙ ap (λ t. old ++ t) e) h

-- one piece behind another
pub behind : {A E : Type 0} (result : Result A E) (old one new x y : Text) → one ≡ old ++ x → OnOk result (new ≡ one ++ y) → OnOk result (new ≡ (old ++ x) ++ y)
behind result old one new x y e h = subst (λ t. OnOk result (new ≡ t ++ y)) e h

flat-flat : (f : Reached → Text) (g : ℕ → List Reached) (xs : List ℕ) → flat_map f (flat_map g xs) ≡ flat_map (λ c. flat_map f (g c)) xs
flat-flat f g [] = refl
flat-flat f g (x ∷ xs) = flat_map-append f (g x) (flat_map g xs) ∙ ap (λ t. flat_map f (g x) ++ t) (flat-flat f g xs)

-- what is said of the constants from this one on
abbrev pub rest : (ℕ → Text) → ℕ → ℕ → Text
rest say i n = flat_map say (range_with_len i (n - i))

rest-next : (say : ℕ → Text) (i n : ℕ) → i < n → rest say i n ≡ say i ++ rest say (i + 1) n
rest-next say i n h =
    let e : n - i ≡ suc (n - (i + 1)) = omega arith in
    rw e refl

rest-end : (say : ℕ → Text) (i n : ℕ) → n ≤ i → rest say i n ≡ []
rest-end say i n h =
    let e : n - i ≡ 0 = omega arith in
    rw e refl

module _ (agent : Agent) (values : Values) (higher : Bool) where
  abbrev told : Prog → Text
  told = blocks_text agent values higher

  module _ (x sort : ℕ) (p : Prog) where
    abbrev told_with : ℕ → Text
    told_with c = told (put_arg p x c)

    -- what was said, and what is still to be said of the constants from this one on
    abbrev pub told_from : ℕ → Text
    told_from i = rest told_with i (sort_size agent sort)

    pub told_more : (i : ℕ) (text new whole put : Text) → i < sort_size agent sort → put ≡ told_with i → text ++ told_from i ≡ whole → new ≡ text ++ put → new ++ told_from (i + 1) ≡ whole
    told_more i text new whole put l e w n =
        ap (λ t. t ++ told_from (i + 1)) (n ∙ ap (λ t. text ++ t) e)
        ∙ append_assoc text (told_with i) (told_from (i + 1))
        ∙ ap (λ t. text ++ t) (sym (rest-next told_with i (sort_size agent sort) l)) ∙ w

  module _ (g : IsGuarded agent) where
    abbrev in_parts : Layer → Text
    in_parts l = flat_map (reached_text agent values) (blocks_step agent values (blocks_at agent values) higher l)

    out : (r : Prog) (l : Layer) → out-Prog r ≡ l → told r ≡ in_parts l
    unfolding blocks_text
    out r l e = ap (flat_map (reached_text agent values)) (front_blocks-out agent values g higher r ∙ ap (blocks_step agent values (blocks_at agent values) higher) e)

    -- nothing is added where no block stands
    nothing : (old : Text) (r : Prog) → [] ≡ told r → old ≡ old ++ told r
    nothing old r e = sym (append-nil old) ∙ ap (λ t. old ++ t) e

    pub nil_told : (old : Text) (r : Prog) → r ≡ prog.Nil → old ≡ old ++ told r
    nil_told old r e = nothing old r (sym (out r Nil (ap out-Prog e ∙ prog.outs-Nil)))

    pub act_told : (old : Text) (r : Prog) (action : ℕ) (args : List Arg) → r ≡ prog.Act action args → old ≡ old ++ told r
    act_told old r action args e = nothing old r (sym (out r (Act action args) (ap out-Prog e ∙ prog.outs-Act action args)))

    pub test_told : (old : Text) (r : Prog) (t : Cond) → r ≡ prog.Test t → old ≡ old ++ told r
    test_told old r t e = nothing old r (sym (out r (Test t) (ap out-Prog e ∙ prog.outs-Test t)))

    pub star_told : (r p : Prog) → r ≡ prog.Star p → told p ≡ told r
    unfolding blocks_text
    star_told r p e = sym (out r (Star p) (ap out-Prog e ∙ prog.outs-Star p))

    pub cstar_told : (r p : Prog) → r ≡ prog.Cstar p → told p ≡ told r
    unfolding blocks_text
    cstar_told r p e = sym (out r (Cstar p) (ap out-Prog e ∙ prog.outs-Cstar p))

    pub while_told : (r : Prog) (t : Cond) (p : Prog) → r ≡ prog.While t p → told p ≡ told r
    unfolding blocks_text
    while_told r t p e = sym (out r (While t p) (ap out-Prog e ∙ prog.outs-While t p))

    pub call_told : (item : ℕ) (args : List Arg) → told (body_of agent item args) ≡ told (prog.Call item args)
    unfolding blocks_text
    call_told item args = sym (out (prog.Call item args) (Call item args) (prog.outs-Call item args))

    pub choice_told : (r p q : Prog) → r ≡ prog.Choice p q → told p ++ told q ≡ told r
    unfolding blocks_text
    choice_told r p q e = sym (out r (Choice p q) (ap out-Prog e ∙ prog.outs-Choice p q) ∙ flat_map-append (reached_text agent values) (blocks_at agent values higher p) (blocks_at agent values higher q))

    pub if_told : (r : Prog) (t : Cond) (p q : Prog) → r ≡ prog.If t p q → told p ++ told q ≡ told r
    unfolding blocks_text
    if_told r t p q e = sym (out r (If t p q) (ap out-Prog e ∙ prog.outs-If t p q) ∙ flat_map-append (reached_text agent values) (blocks_at agent values higher p) (blocks_at agent values higher q))

    pub conc_told : (r p q : Prog) → r ≡ prog.Conc p q → told p ++ told q ≡ told r
    unfolding blocks_text
    conc_told r p q e = sym (out r (Conc p q) (ap out-Prog e ∙ prog.outs-Conc p q) ∙ flat_map-append (reached_text agent values) (blocks_at agent values higher p) (blocks_at agent values higher q))

    pub prio_told : (r p q : Prog) → r ≡ prog.Prio p q → blocks_text agent values true p ++ told q ≡ told r
    unfolding blocks_text
    prio_told r p q e = sym (out r (Prio p q) (ap out-Prog e ∙ prog.outs-Prio p q) ∙ flat_map-append (reached_text agent values) (blocks_at agent values true p) (blocks_at agent values higher q))

    in_seq : (p q : Prog) → told (prog.Seq p q) ≡ told p ++ flat_map (reached_text agent values) (if (front agent p).skip then blocks_at agent values higher q else [])
    unfolding blocks_text
    in_seq p q = out (prog.Seq p q) (Seq p q) (prog.outs-Seq p q) ∙ flat_map-append (reached_text agent values) (blocks_at agent values higher p) _

    pub seq_told : (p q : Prog) → (front agent p).skip ≡ true → told p ++ told q ≡ told (prog.Seq p q)
    unfolding blocks_text
    seq_told p q s = sym (in_seq p q ∙ ap (λ b. told p ++ flat_map (reached_text agent values) (if b then blocks_at agent values higher q else [])) s)

    pub seq_first : (p q : Prog) → (front agent p).skip ≡ false → told p ≡ told (prog.Seq p q)
    seq_first p q s = sym (in_seq p q ∙ ap (λ b. told p ++ flat_map (reached_text agent values) (if b then blocks_at agent values higher q else [])) s ∙ append-nil (told p))

    pub search_told : (r p : Prog) (depth fuel : ℕ) → r ≡ prog.Search depth fuel p → block_text agent values (record { depth = depth; fuel = fuel; body = p }) ≡ told r
    search_told r p depth fuel e = sym (out r (Search depth fuel p) (ap out-Prog e ∙ prog.outs-Search depth fuel p) ∙ append-nil _)

    -- a kept run is none
    any_unless : (b : Bool) (at : Reached) → flat_map (reached_text agent values) (if b then [] else at ∷ []) ≡ (if b then [] else block_text agent values at.block)
    any_unless true at = refl
    any_unless false at = append-nil (block_text agent values at.block)

    pub follow_told : (r p : Prog) (depth fuel : ℕ) (ways : List Way) → r ≡ prog.Follow depth fuel p ways
        → unless_kept agent values (record { depth = depth; fuel = fuel; body = p }) ways ≡ told r
    follow_told r p depth fuel ways e =
        sym (out r (Follow depth fuel p ways) (ap out-Prog e ∙ prog.outs-Follow depth fuel p ways) ∙ any_unless (is_kept agent values p ways) _)

    in_pick : (x sort : ℕ) (p : Prog) → told (prog.Pick x sort p) ≡ told_from x sort p 0
    unfolding blocks_text
    in_pick x sort p =
        let e : sort_size agent sort - 0 ≡ sort_size agent sort = omega arith in
        out (prog.Pick x sort p) (Pick x sort p) (prog.outs-Pick x sort p)
        ∙ flat-flat (reached_text agent values) (λ c. blocks_at agent values higher (put_arg p x c)) (constants agent sort) ∙ rw e refl

    -- all constants were put in
    pub pick_told : (x sort : ℕ) (p : Prog) (i : ℕ) (old text : Text) → sort_size agent sort ≤ i → text ++ told_from x sort p i ≡ old ++ told_from x sort p 0 → text ≡ old ++ told (prog.Pick x sort p)
    pick_told x sort p i old text l w =
        sym (append-nil text) ∙ ap (λ t. text ++ t) (sym (rest-end (told_with x sort p) i (sort_size agent sort) l)) ∙ w ∙ ap (λ t. old ++ t) (sym (in_pick x sort p))
