-- Whether some block at the front of a program weighs, by its parts.
use Rattle.std.proofs.Common.{◌≡◌, ℕ, ◌+◌, ◌-◌, ◌<◌, ◌≤◌, Bool, true, false, ◌||◌, if◌then◌else◌, List, [], ◌∷◌, refl, sym, ap, ◌∙◌, subst, arith}
use Rattle.std.specs.Prelude.{Result, IfOk}
use Rattle.std.specs.List.{flat_map, list_any}
use Rattle.std.proofs.lemmas.List.Folds.{list_any-append}
use Rattle.golog_base.proofs.Bools.{or-false}
use Rattle.golog_tree.specs.declared.agent.Agent.{Agent}
use Rattle.golog_tree.specs.declared.cond.Arg.{Arg}
use Rattle.golog_tree.specs.declared.cond.Cond.{Cond}
use Rattle.golog_tree.specs.declared.prog.Prog.{Prog}
use Rattle.golog_tree.specs.declared.prog.Way.{Way}
use Rattle.golog_tree.specs.declared.prog.Prog.TheOpen.{Nil, Act, Test, Seq, Choice, Pick, Star, If, While, Conc, Prio, Cstar, Call, Search, Follow}
use Rattle.golog_tree.specs.declared.prog.Prog.TheVariants as prog
use Rattle.golog_tree.specs.declared.prog.Prog.TheViews.{out-Prog}
use Rattle.golog_tree.specs.Ground.{sort_size}
use Rattle.golog_tree.specs.Tidy.{Layer}
use Rattle.golog_semantics.specs.declared.search.Block.{Block}
use Rattle.golog_semantics.specs.Truth.{Values, constants}
use Rattle.golog_semantics.specs.Program.{put_arg, body_of}
use Rattle.golog_semantics.specs.Guarded.{front, IsGuarded}
use Rattle.golog_semantics.specs.Blocks.{is_kept}
use Rattle.golog_semantics.specs.Heavy.{Reached, blocks_step}
use Rattle.golog_ways.proofs.Some.{from, from-next}
use Rattle.golog_search.specs.Weighing.{blocks_at, some_weighs, weighs_by, weighs_unless_kept}
use Rattle.golog_search.proofs.FrontBlocksUnfold.{front_blocks-out}

-- an answer, by another name
pub ok_as : {E : Type 0} (result : Result Bool E) (x y : Bool) → x ≡ y → IfOk result (λ b. b ≡ x) → IfOk result (λ b. b ≡ y)
ok_as result x y e h = subst (λ (z : Bool). IfOk result (λ b. b ≡ z)) e h

pub any-flat : (f : Reached → Bool) (g : ℕ → List Reached) (xs : List ℕ) → list_any f (flat_map g xs) ≡ list_any (λ c. list_any f (g c)) xs
any-flat f g [] = refl
any-flat f g (x ∷ xs) = list_any-append f (g x) (flat_map g xs) ∙ ap (λ b. list_any f (g x) || b) (any-flat f g xs)

-- none of the constants behind the last
from-end : (f : ℕ → Bool) (i n : ℕ) → n ≤ i → from f i n ≡ false
from-end f i n h =
    let e : n - i ≡ 0 = omega arith in
    rw e refl

module _ (agent : Agent) (values : Values) (stepless higher : Bool) where
  abbrev weighs : Prog → Bool
  weighs = some_weighs agent values stepless higher

  module _ (x sort : ℕ) (p : Prog) where
    abbrev weighs_with : ℕ → Bool
    weighs_with c = weighs (put_arg p x c)

    -- the constants still to be put in decide
    pub record NoneBefore (i : ℕ) : Type 0 where
      pub rest : from weighs_with 0 (sort_size agent sort) ≡ from weighs_with i (sort_size agent sort)

    pub none_yet : NoneBefore 0
    none_yet = record { rest = refl }

    pub none_more : (i : ℕ) → i < sort_size agent sort → weighs (put_arg p x i) ≡ false → NoneBefore i → NoneBefore (i + 1)
    none_more i l e h = record { rest = h.rest ∙ from-next weighs_with i (sort_size agent sort) l ∙ ap (λ b. b || from weighs_with (i + 1) (sort_size agent sort)) e }

  module _ (g : IsGuarded agent) where
    abbrev test : Reached → Bool
    test = weighs_by agent values stepless

    abbrev in_parts : Layer → Bool
    in_parts l = list_any test (blocks_step agent values (blocks_at agent values) higher l)

    out : (r : Prog) (l : Layer) → out-Prog r ≡ l → weighs r ≡ in_parts l
    unfolding some_weighs
    out r l e = ap (list_any test) (front_blocks-out agent values g higher r ∙ ap (blocks_step agent values (blocks_at agent values) higher) e)

    pub nil_weighs : (r : Prog) → r ≡ prog.Nil → false ≡ weighs r
    nil_weighs r e = sym (out r Nil (ap out-Prog e ∙ prog.outs-Nil))

    pub act_weighs : (r : Prog) (action : ℕ) (args : List Arg) → r ≡ prog.Act action args → false ≡ weighs r
    act_weighs r action args e = sym (out r (Act action args) (ap out-Prog e ∙ prog.outs-Act action args))

    pub test_weighs : (r : Prog) (t : Cond) → r ≡ prog.Test t → false ≡ weighs r
    test_weighs r t e = sym (out r (Test t) (ap out-Prog e ∙ prog.outs-Test t))

    pub star_weighs : (r p : Prog) → r ≡ prog.Star p → weighs p ≡ weighs r
    unfolding some_weighs
    star_weighs r p e = sym (out r (Star p) (ap out-Prog e ∙ prog.outs-Star p))

    pub cstar_weighs : (r p : Prog) → r ≡ prog.Cstar p → weighs p ≡ weighs r
    unfolding some_weighs
    cstar_weighs r p e = sym (out r (Cstar p) (ap out-Prog e ∙ prog.outs-Cstar p))

    pub while_weighs : (r : Prog) (t : Cond) (p : Prog) → r ≡ prog.While t p → weighs p ≡ weighs r
    unfolding some_weighs
    while_weighs r t p e = sym (out r (While t p) (ap out-Prog e ∙ prog.outs-While t p))

    pub call_weighs : (item : ℕ) (args : List Arg) → weighs (body_of agent item args) ≡ weighs (prog.Call item args)
    unfolding some_weighs
    call_weighs item args = sym (out (prog.Call item args) (Call item args) (prog.outs-Call item args))

    pub choice_weighs : (r p q : Prog) → r ≡ prog.Choice p q → (weighs p || weighs q) ≡ weighs r
    unfolding some_weighs
    choice_weighs r p q e = sym (out r (Choice p q) (ap out-Prog e ∙ prog.outs-Choice p q) ∙ list_any-append test (blocks_at agent values higher p) (blocks_at agent values higher q))

    pub if_weighs : (r : Prog) (t : Cond) (p q : Prog) → r ≡ prog.If t p q → (weighs p || weighs q) ≡ weighs r
    unfolding some_weighs
    if_weighs r t p q e = sym (out r (If t p q) (ap out-Prog e ∙ prog.outs-If t p q) ∙ list_any-append test (blocks_at agent values higher p) (blocks_at agent values higher q))

    pub conc_weighs : (r p q : Prog) → r ≡ prog.Conc p q → (weighs p || weighs q) ≡ weighs r
    unfolding some_weighs
    conc_weighs r p q e = sym (out r (Conc p q) (ap out-Prog e ∙ prog.outs-Conc p q) ∙ list_any-append test (blocks_at agent values higher p) (blocks_at agent values higher q))

    pub prio_weighs : (r p q : Prog) → r ≡ prog.Prio p q → (some_weighs agent values stepless true p || weighs q) ≡ weighs r
    unfolding some_weighs
    prio_weighs r p q e = sym (out r (Prio p q) (ap out-Prog e ∙ prog.outs-Prio p q) ∙ list_any-append test (blocks_at agent values true p) (blocks_at agent values higher q))

    in_seq : (p q : Prog) → weighs (prog.Seq p q) ≡ (weighs p || list_any test (if (front agent p).skip then blocks_at agent values higher q else []))
    unfolding some_weighs
    in_seq p q = out (prog.Seq p q) (Seq p q) (prog.outs-Seq p q) ∙ list_any-append test (blocks_at agent values higher p) _

    pub seq_weighs : (p q : Prog) → (front agent p).skip ≡ true → (weighs p || weighs q) ≡ weighs (prog.Seq p q)
    unfolding some_weighs
    seq_weighs p q s = sym (in_seq p q ∙ ap (λ b. weighs p || list_any test (if b then blocks_at agent values higher q else [])) s)

    pub seq_first : (p q : Prog) → (front agent p).skip ≡ false → weighs p ≡ weighs (prog.Seq p q)
    seq_first p q s = sym (in_seq p q ∙ ap (λ b. weighs p || list_any test (if b then blocks_at agent values higher q else [])) s ∙ or-false (weighs p))

    pub search_weighs : (r p : Prog) (depth fuel : ℕ) → r ≡ prog.Search depth fuel p
        → test (record { block = record { depth = depth; fuel = fuel; body = p }; is_higher = higher }) ≡ weighs r
    search_weighs r p depth fuel e = sym (out r (Search depth fuel p) (ap out-Prog e ∙ prog.outs-Search depth fuel p) ∙ or-false _)

    abbrev unless_kept : Block → List Way → Bool
    unless_kept = weighs_unless_kept agent values stepless higher

    -- a kept run is none
    any_unless : (b : Bool) (at : Reached) → list_any test (if b then [] else at ∷ []) ≡ (if b then false else test at)
    any_unless true at = refl
    any_unless false at = or-false (test at)

    pub follow_weighs : (r p : Prog) (depth fuel : ℕ) (rest : List Way) → r ≡ prog.Follow depth fuel p rest
        → unless_kept (record { depth = depth; fuel = fuel; body = p }) rest ≡ weighs r
    follow_weighs r p depth fuel rest e =
        sym (out r (Follow depth fuel p rest) (ap out-Prog e ∙ prog.outs-Follow depth fuel p rest) ∙ any_unless (is_kept agent values p rest) _)

    in_pick : (x sort : ℕ) (p : Prog) → weighs (prog.Pick x sort p) ≡ from (weighs_with x sort p) 0 (sort_size agent sort)
    unfolding some_weighs
    in_pick x sort p =
        let e : sort_size agent sort - 0 ≡ sort_size agent sort = omega arith in
        out (prog.Pick x sort p) (Pick x sort p) (prog.outs-Pick x sort p)
        ∙ any-flat test (λ c. blocks_at agent values higher (put_arg p x c)) (constants agent sort) ∙ rw e refl

    pub pick_weighs : (x sort : ℕ) (p : Prog) (i : ℕ) → i < sort_size agent sort → weighs (put_arg p x i) ≡ true → NoneBefore x sort p i → true ≡ weighs (prog.Pick x sort p)
    pick_weighs x sort p i l e h =
        sym (in_pick x sort p ∙ h.rest ∙ from-next (weighs_with x sort p) i (sort_size agent sort) l
        ∙ ap (λ b. b || from (weighs_with x sort p) (i + 1) (sort_size agent sort)) e)

    pub pick_none : (x sort : ℕ) (p : Prog) (i : ℕ) → sort_size agent sort ≤ i → NoneBefore x sort p i → false ≡ weighs (prog.Pick x sort p)
    pick_none x sort p i l h = sym (in_pick x sort p ∙ h.rest ∙ from-end (weighs_with x sort p) i (sort_size agent sort) l)
