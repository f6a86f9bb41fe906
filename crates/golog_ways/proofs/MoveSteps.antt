-- The first certain step of a program, by those of its parts, where a search block's own steps are told.
use Rattle.std.proofs.Common.{◌≡◌, ℕ, suc, ◌+◌, ◌-◌, ◌<◌, ◌≤◌, Bool, true, false, if◌then◌else◌, List, [], ◌∷◌, ◌++◌, map, Option, Some, None, refl, sym, ap, ◌∙◌, subst, arith}
use Rattle.std.specs.Prelude.{Result, IfOk}
use Rattle.std.specs.List.{flat_map, range_with_len}
use Rattle.std.specs.Option.{option_or}
use Rattle.golog_tree.specs.declared.agent.Agent.{Agent}
use Rattle.golog_tree.specs.declared.cond.Arg.{Arg}
use Rattle.golog_tree.specs.declared.cond.Cond.{Cond}
use Rattle.golog_tree.specs.declared.cond.Truth.{Truth}
use Rattle.golog_tree.specs.declared.cond.Truth.TheVariants.{Yes, No, Unknown}
use Rattle.golog_tree.specs.declared.prog.Label.TheVariants.{Quiet, Do}
use Rattle.golog_tree.specs.declared.prog.Prog.{Prog}
use Rattle.golog_tree.specs.declared.prog.Way.{Way}
use Rattle.golog_tree.specs.declared.prog.Prog.TheOpen.{Nil, Act, Test, Seq, Choice, Pick, Star, If, While, Conc, Prio, Cstar, Call, Search, Follow}
use Rattle.golog_tree.specs.declared.prog.Prog.TheVariants as prog
use Rattle.golog_tree.specs.declared.prog.Prog.TheViews.{out-Prog}
use Rattle.golog_tree.specs.Ground.{action_no, sort_size}
use Rattle.golog_tree.specs.Tidy.{Layer, tidy_seq, tidy_conc, tidy_prio}
use Rattle.golog_semantics.specs.declared.Mode.{Mode}
use Rattle.golog_semantics.specs.declared.Mode.TheVariants.{Must, May}
use Rattle.golog_semantics.specs.declared.search.Move.{Move}
use Rattle.golog_semantics.specs.Modes.{holds}
use Rattle.golog_semantics.specs.Truth.{Values, arg_value, constants, env_of, not_of, truth_of}
use Rattle.golog_semantics.specs.Values.{is_possible}
use Rattle.golog_semantics.specs.Program.{put_arg, body_of}
use Rattle.golog_semantics.specs.Ways.{Blocks, moves_step, left_in, only_if, is_empty, is_so, is_not, plain_move}
use Rattle.golog_semantics.specs.Search.{final, moves_with}
use Rattle.golog_semantics.specs.Guarded.{IsGuarded}
use Rattle.golog_semantics.proofs.Unfolded.{moves_with-out}
use Rattle.golog_ways.specs.First.{head_of}
use Rattle.golog_ways.specs.FirstMove.{first_move, moved_in}
use Rattle.golog_fronts.specs.Precondition.{precondition}
use Rattle.golog_ways.specs.Reach.{has_move}
use Rattle.golog_fronts.proofs.Acting.{holds-precondition}
use Rattle.golog_ways.proofs.ReachSteps.{any_of}

-- the first that is there for these constants
abbrev pub move_among : (ℕ → Option Move) → List ℕ → Option Move
move_among f [] = None
move_among f (c ∷ cs) = option_or (f c) (move_among f cs)

head-append : (xs ys : List Move) → head_of (xs ++ ys) ≡ option_or (head_of xs) (head_of ys)
head-append [] ys = refl
head-append (x ∷ xs) ys = refl

head-left : (f : Prog → Prog) (xs : List Move) → head_of (left_in f xs) ≡ moved_in f (head_of xs)
head-left f [] = refl
head-left f (x ∷ xs) = refl

head-if : (b : Bool) (xs : List Move) → head_of (only_if b xs) ≡ (if b then head_of xs else None)
head-if true xs = refl
head-if false xs = refl

head-unless : (xs ys : List Move) → head_of (only_if (is_empty xs) ys) ≡ (if any_of xs then None else head_of ys)
head-unless [] ys = refl
head-unless (x ∷ xs) ys = refl

head-flat : (f : ℕ → List Move) (cs : List ℕ) → head_of (flat_map f cs) ≡ move_among (λ c. head_of (f c)) cs
head-flat f [] = refl
head-flat f (c ∷ cs) = let e = head-append (f c) (flat_map f cs) in let k = head-flat f cs in cc

pub move_as : {E : Type 0} (result : Result (Option Move) E) (x y : Option Move) → x ≡ y → IfOk result (λ w. w ≡ x) → IfOk result (λ w. w ≡ y)
move_as result x y e h = subst (λ (z : Option Move). IfOk result (λ w. w ≡ z)) e h

-- the first step of a program is that of one that equals it
pub first_as : (agent : Agent) (blocks : Blocks) (values : Values) {E : Type 0} (result : Result (Option Move) E) {r q : Prog} → r ≡ q
    → IfOk result (λ w. w ≡ first_move agent blocks values q) → IfOk result (λ w. w ≡ first_move agent blocks values r)
first_as agent blocks values result e h = subst (λ (z : Prog). IfOk result (λ w. w ≡ first_move agent blocks values z)) (sym e) h

-- the first for the constants from this one on
abbrev pub rest_moves : Agent → Blocks → Values → ℕ → ℕ → Prog → ℕ → Option Move
rest_moves agent blocks values x sort p i = move_among (λ c. first_move agent blocks values (put_arg p x c)) (range_with_len i (sort_size agent sort - i))

module _ (agent : Agent) (blocks : Blocks) (values : Values) where
  -- the first certain step of one level of a program, given Final, whether there is a possible step, and the
  -- first steps of the parts
  abbrev move_step : (Prog → Bool) → (Prog → Bool) → (Prog → Option Move) → Layer → Option Move
  move_step final may first Nil = None
  move_step final may first (Act action args) =
      let at = map (arg_value (env_of [])) args in
      if is_possible agent values Must action at then Some (plain_move (Do (action_no agent action at)) prog.Nil) else None
  move_step final may first (Test c) = if is_so agent values Must c then Some (plain_move Quiet prog.Nil) else None
  move_step final may first (Seq p q) = option_or (moved_in (λ l. tidy_seq l q) (first p)) (if final p then first q else None)
  move_step final may first (Choice p q) = option_or (first p) (first q)
  move_step final may first (Pick x sort p) = move_among (λ c. first (put_arg p x c)) (constants agent sort)
  move_step final may first (Star p) = moved_in (λ l. tidy_seq l (prog.Star p)) (first p)
  move_step final may first (If c p q) = option_or (if is_so agent values Must c then first p else None) (if is_not agent values Must c then first q else None)
  move_step final may first (While c p) = if is_so agent values Must c then moved_in (λ l. tidy_seq l (prog.While c p)) (first p) else None
  move_step final may first (Conc p q) = option_or (moved_in (λ l. tidy_conc l q) (first p)) (moved_in (λ l. tidy_conc p l) (first q))
  move_step final may first (Prio p q) = option_or (moved_in (λ l. tidy_prio l q) (first p)) (if may p then None else moved_in (λ l. tidy_prio p l) (first q))
  move_step final may first (Cstar p) = moved_in (λ l. tidy_conc l (prog.Cstar p)) (first p)
  move_step final may first (Call item args) = first (body_of agent item args)
  move_step final may first (Search depth fuel p) = head_of (blocks Must depth fuel p [])
  move_step final may first (Follow depth fuel p rest) = head_of (blocks Must depth fuel p rest)

  head-layer : (final : Mode → Prog → Bool) (moves : Mode → Prog → List Move) (l : Layer)
      → head_of (moves_step agent values blocks final moves Must l) ≡ move_step (final Must) (λ p. any_of (moves May p)) (λ p. head_of (moves Must p)) l
  head-layer final moves Nil = refl
  head-layer final moves (Act action args) = head-if (is_possible agent values Must action (map (arg_value (env_of [])) args)) _
  head-layer final moves (Test c) = head-if (is_so agent values Must c) _
  head-layer final moves (Seq p q) = simp (head-append, head-left, head-if)
  head-layer final moves (Choice p q) = head-append _ _
  head-layer final moves (Pick x sort p) = head-flat (λ c. moves Must (put_arg p x c)) (constants agent sort)
  head-layer final moves (Star p) = head-left _ _
  head-layer final moves (If c p q) = simp (head-append, head-if)
  head-layer final moves (While c p) = simp (head-if, head-left)
  head-layer final moves (Conc p q) = simp (head-append, head-left)
  head-layer final moves (Prio p q) = simp (head-append, head-left, head-unless)
  head-layer final moves (Cstar p) = head-left _ _
  head-layer final moves (Call item args) = refl
  head-layer final moves (Search depth fuel p) = refl
  head-layer final moves (Follow depth fuel p rest) = refl

  move-out : IsGuarded agent → (p : Prog) → first_move agent blocks values p ≡ move_step (final agent values Must) (has_move agent blocks values May) (first_move agent blocks values) (out-Prog p)
  unfolding first_move has_move
  move-out g p = ap head_of (moves_with-out agent values blocks g Must p) ∙ head-layer (final agent values) (moves_with agent blocks values) (out-Prog p)

  -- the first certain step by one level of a program
  move-by : IsGuarded agent → (p : Prog) (l : Layer) → out-Prog p ≡ l
      → first_move agent blocks values p ≡ move_step (final agent values Must) (has_move agent blocks values May) (first_move agent blocks values) l
  move-by g p l e = move-out g p ∙ ap (move_step (final agent values Must) (has_move agent blocks values May) (first_move agent blocks values)) e

module _ (agent : Agent) (blocks : Blocks) (values : Values) (g : IsGuarded agent) where
  abbrev F : Prog → Option Move
  F = first_move agent blocks values

  pub nil_first : F prog.Nil ≡ None
  nil_first = move-by agent blocks values g prog.Nil Nil prog.outs-Nil

  pub follow_first : (depth fuel : ℕ) (p : Prog) (rest : List Way) → F (prog.Follow depth fuel p rest) ≡ head_of (blocks Must depth fuel p rest)
  follow_first depth fuel p rest = move-by agent blocks values g (prog.Follow depth fuel p rest) (Follow depth fuel p rest) (prog.outs-Follow depth fuel p rest)

  -- a block that has not begun steps as one that follows nothing
  pub search_first : (depth fuel : ℕ) (p : Prog) → F (prog.Follow depth fuel p []) ≡ F (prog.Search depth fuel p)
  search_first depth fuel p =
      follow_first depth fuel p [] ∙ sym (move-by agent blocks values g (prog.Search depth fuel p) (Search depth fuel p) (prog.outs-Search depth fuel p))

  -- an action steps where its precondition holds
  act_first : (action : ℕ) (args : List Arg) (t : Truth) → t ≡ precondition agent values action (map (arg_value (env_of [])) args)
      → F (prog.Act action args) ≡ (if holds Must t then Some (plain_move (Do (action_no agent action (map (arg_value (env_of [])) args))) prog.Nil) else None)
  act_first action args t e =
      let b = ap (holds Must) e ∙ holds-precondition agent values action (map (arg_value (env_of [])) args) Must in
      move-by agent blocks values g (prog.Act action args) (Act action args) (prog.outs-Act action args) ∙ (rw b refl)

  test_first : (c : Cond) (t : Truth) → t ≡ truth_of agent values c (env_of []) → F (prog.Test c) ≡ (if holds Must t then Some (plain_move Quiet prog.Nil) else None)
  test_first c t e = move-by agent blocks values g (prog.Test c) (Test c) (prog.outs-Test c) ∙ (rw e refl)

  pub act_taken : (action : ℕ) (args : List Arg) (t : Truth) → t ≡ precondition agent values action (map (arg_value (env_of [])) args) → holds Must t ≡ true
      → (n : ℕ) → n ≡ action_no agent action (map (arg_value (env_of [])) args) → Some (plain_move (Do n) prog.Nil) ≡ F (prog.Act action args)
  act_taken action args t e b n is = ap (λ (k : ℕ). Some (plain_move (Do k) prog.Nil)) is ∙ sym (act_first action args t e ∙ (rw b refl))

  pub act_barred : (action : ℕ) (args : List Arg) (t : Truth) → t ≡ precondition agent values action (map (arg_value (env_of [])) args) → holds Must t ≡ false → None ≡ F (prog.Act action args)
  act_barred action args t e b = sym (act_first action args t e ∙ (rw b refl))

  pub test_taken : (c : Cond) (t : Truth) → t ≡ truth_of agent values c (env_of []) → holds Must t ≡ true → Some (plain_move Quiet prog.Nil) ≡ F (prog.Test c)
  test_taken c t e b = sym (test_first c t e ∙ (rw b refl))

  pub test_barred : (c : Cond) (t : Truth) → t ≡ truth_of agent values c (env_of []) → holds Must t ≡ false → None ≡ F (prog.Test c)
  test_barred c t e b = sym (test_first c t e ∙ (rw b refl))

  module _ (p q : Prog) where
    seq_by : (w : Option Move) → w ≡ F p → F (prog.Seq p q) ≡ option_or (moved_in (λ l. tidy_seq l q) w) (if final agent values Must p then F q else None)
    seq_by w is = move-by agent blocks values g (prog.Seq p q) (Seq p q) (prog.outs-Seq p q) ∙ (rw is refl)

    pub seq_first : (w : Move) → Some w ≡ F p → F (prog.Seq p q) ≡ moved_in (λ l. tidy_seq l q) (Some w)
    seq_first w is = seq_by (Some w) is

    pub seq_second : None ≡ F p → final agent values Must p ≡ true → F (prog.Seq p q) ≡ F q
    seq_second is e = seq_by None is ∙ (rw e refl)

    pub seq_neither : None ≡ F p → final agent values Must p ≡ false → F (prog.Seq p q) ≡ None
    seq_neither is e = seq_by None is ∙ (rw e refl)

    choice_by : (w : Option Move) → w ≡ F p → F (prog.Choice p q) ≡ option_or w (F q)
    choice_by w is = move-by agent blocks values g (prog.Choice p q) (Choice p q) (prog.outs-Choice p q) ∙ (rw is refl)

    pub choice_first : (w : Move) → Some w ≡ F p → F (prog.Choice p q) ≡ Some w
    choice_first w is = choice_by (Some w) is

    pub choice_second : None ≡ F p → F (prog.Choice p q) ≡ F q
    choice_second is = choice_by None is

    conc_by : (w : Option Move) → w ≡ F p → F (prog.Conc p q) ≡ option_or (moved_in (λ l. tidy_conc l q) w) (moved_in (λ l. tidy_conc p l) (F q))
    conc_by w is = move-by agent blocks values g (prog.Conc p q) (Conc p q) (prog.outs-Conc p q) ∙ (rw is refl)

    pub conc_first : (w : Move) → Some w ≡ F p → F (prog.Conc p q) ≡ moved_in (λ l. tidy_conc l q) (Some w)
    conc_first w is = conc_by (Some w) is

    pub conc_second : None ≡ F p → F (prog.Conc p q) ≡ moved_in (λ l. tidy_conc p l) (F q)
    conc_second is = conc_by None is

    prio_by : (w : Option Move) → w ≡ F p → F (prog.Prio p q) ≡ option_or (moved_in (λ l. tidy_prio l q) w) (if has_move agent blocks values May p then None else moved_in (λ l. tidy_prio p l) (F q))
    prio_by w is = move-by agent blocks values g (prog.Prio p q) (Prio p q) (prog.outs-Prio p q) ∙ (rw is refl)

    pub prio_first : (w : Move) → Some w ≡ F p → F (prog.Prio p q) ≡ moved_in (λ l. tidy_prio l q) (Some w)
    prio_first w is = prio_by (Some w) is

    pub prio_kept : None ≡ F p → has_move agent blocks values May p ≡ true → F (prog.Prio p q) ≡ None
    prio_kept is e = prio_by None is ∙ (rw e refl)

    pub prio_second : None ≡ F p → has_move agent blocks values May p ≡ false → F (prog.Prio p q) ≡ moved_in (λ l. tidy_prio p l) (F q)
    prio_second is e = prio_by None is ∙ (rw e refl)

  pub if_first : (c : Cond) (p q : Prog) (t : Truth) → t ≡ truth_of agent values c (env_of [])
      → F (prog.If c p q) ≡ (if holds Must t then F p else (if holds May t then None else F q))
  if_first c p q t e = move-by agent blocks values g (prog.If c p q) (If c p q) (prog.outs-If c p q) ∙ (rw (← e) (go t))
    where
      some_or : (a : Option Move) → option_or a None ≡ a
      some_or None = refl
      some_or (Some w) = refl

      go : (t : Truth) → option_or (if holds Must t then F p else None) (if holds Must (not_of t) then F q else None) ≡ (if holds Must t then F p else (if holds May t then None else F q))
      go Yes = some_or (F p)
      go No = refl
      go Unknown = refl

  module _ (r p : Prog) where
    pub star_first : r ≡ prog.Star p → F r ≡ moved_in (λ l. tidy_seq l r) (F p)
    star_first e =
        move-by agent blocks values g r (Star p) (ap out-Prog e ∙ prog.outs-Star p) ∙ ap (λ (k : Prog). moved_in (λ l. tidy_seq l k) (F p)) (sym e)

    pub cstar_first : r ≡ prog.Cstar p → F r ≡ moved_in (λ l. tidy_conc l r) (F p)
    cstar_first e =
        move-by agent blocks values g r (Cstar p) (ap out-Prog e ∙ prog.outs-Cstar p) ∙ ap (λ (k : Prog). moved_in (λ l. tidy_conc l k) (F p)) (sym e)

    while_by : (c : Cond) (t : Truth) → t ≡ truth_of agent values c (env_of []) → r ≡ prog.While c p → F r ≡ (if holds Must t then moved_in (λ l. tidy_seq l r) (F p) else None)
    while_by c t is e =
        move-by agent blocks values g r (While c p) (ap out-Prog e ∙ prog.outs-While c p) ∙ (rw (← is) refl)
        ∙ ap (λ (k : Prog). if holds Must t then moved_in (λ l. tidy_seq l k) (F p) else None) (sym e)

    pub while_first : (c : Cond) (t : Truth) → t ≡ truth_of agent values c (env_of []) → holds Must t ≡ true → r ≡ prog.While c p → F r ≡ moved_in (λ l. tidy_seq l r) (F p)
    while_first c t is b e = while_by c t is e ∙ (rw b refl)

    pub while_none : (c : Cond) (t : Truth) → t ≡ truth_of agent values c (env_of []) → holds Must t ≡ false → r ≡ prog.While c p → F r ≡ None
    while_none c t is b e = while_by c t is e ∙ (rw b refl)

  pub call_first : (item : ℕ) (args : List Arg) → F (prog.Call item args) ≡ F (body_of agent item args)
  call_first item args = move-by agent blocks values g (prog.Call item args) (Call item args) (prog.outs-Call item args)

  module _ (x sort : ℕ) (p : Prog) where
    pub pick_from : F (prog.Pick x sort p) ≡ rest_moves agent blocks values x sort p 0
    pick_from =
        let e : sort_size agent sort - 0 ≡ sort_size agent sort = omega arith in
        move-by agent blocks values g (prog.Pick x sort p) (Pick x sort p) (prog.outs-Pick x sort p) ∙ (rw e refl)

    rest_by : (i : ℕ) → i < sort_size agent sort → rest_moves agent blocks values x sort p i ≡ option_or (F (put_arg p x i)) (rest_moves agent blocks values x sort p (i + 1))
    rest_by i h =
        let e : sort_size agent sort - i ≡ suc (sort_size agent sort - (i + 1)) = omega arith in
        rw e refl

    pub pick_here : (i : ℕ) (w : Move) → i < sort_size agent sort → Some w ≡ F (put_arg p x i) → F (prog.Pick x sort p) ≡ rest_moves agent blocks values x sort p i → F (prog.Pick x sort p) ≡ Some w
    pick_here i w h is so_far = so_far ∙ rest_by i h ∙ (rw (← is) refl)

    pub pick_next : (i : ℕ) → i < sort_size agent sort → None ≡ F (put_arg p x i) → F (prog.Pick x sort p) ≡ rest_moves agent blocks values x sort p i → F (prog.Pick x sort p) ≡ rest_moves agent blocks values x sort p (i + 1)
    pick_next i h is so_far = so_far ∙ rest_by i h ∙ (rw (← is) refl)

    pub pick_none : (i : ℕ) → sort_size agent sort ≤ i → F (prog.Pick x sort p) ≡ rest_moves agent blocks values x sort p i → F (prog.Pick x sort p) ≡ None
    pick_none i h so_far =
        let e : sort_size agent sort - i ≡ 0 = omega arith in
        so_far ∙ (rw e refl)
