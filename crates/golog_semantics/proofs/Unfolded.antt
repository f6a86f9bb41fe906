-- For a guarded agent, Final and the steps of a program by those of its parts, with no depth.
use Rattle.std.proofs.Common.{◌≡◌, ℕ, zero, suc, ◌≤◌, Bool, true, false, if◌then◌else◌, List, [], ◌∷◌, refl, sym, ap, ◌∙◌, subst, arith, inl, inr}
use Rattle.std.specs.List.{flat_map}
use Rattle.std.proofs.lemmas.Bool.{cases_lt}
use Rattle.golog_tree.specs.declared.agent.Agent.{Agent}
use Rattle.golog_tree.specs.declared.prog.Prog.{Prog}
use Rattle.golog_tree.specs.declared.prog.Prog.TheOpen.{Nil, Act, Test, Seq, Choice, Pick, Star, If, While, Conc, Prio, Cstar, Call, Search, Follow}
use Rattle.golog_tree.specs.declared.prog.Prog.TheViews.{out-Prog}
use Rattle.golog_tree.specs.Tidy.{Layer}
use Rattle.golog_semantics.specs.declared.Mode.{Mode}
use Rattle.golog_semantics.specs.declared.search.Move.{Move}
use Rattle.golog_semantics.specs.Modes.{flip}
use Rattle.golog_semantics.specs.Truth.{Values, constants}
use Rattle.golog_semantics.specs.Program.{put_arg, body_of}
use Rattle.golog_semantics.specs.Ways.{Blocks, final_to, final_step, moves_to, moves_step, only_if}
use Rattle.golog_semantics.specs.Search.{final, moves_with, no_blocks}
use Rattle.golog_semantics.specs.Blocks.{block_moves, moves}
use Rattle.golog_semantics.specs.Moves.{plain_moves}
use Rattle.golog_semantics.specs.Guarded.{Front, front_at, front, proc_fronts, IsGuarded}
use Rattle.golog_semantics.proofs.Settled.{Bodies, bodies, settled, skips, Agree, step_same, positive, layer_front, front-out, put-same}

module _ (agent : Agent) (values : Values) where
  abbrev height : Prog → ℕ
  height p = (front agent p).height

  -- at any depth from the height on, Final is the same
  final-at : (m : Mode) → Bodies agent values m → (n : ℕ) (p : Prog) → height p ≤ n → final_to agent values n m p ≡ final_to agent values (height p) m p
  final-at m b zero p h = let e : height p ≡ 0 = omega arith in rw e refl
  final-at m b (suc n) p h =
      elim (cases_lt n (height p)) as (λ c. final_to agent values (suc n) m p ≡ final_to agent values (height p) m p) [
        | inl lt ↦ let e : height p ≡ suc n = omega arith in ap (λ k. final_to agent values k m p) (sym e)
        | inr le ↦ sym (settled agent values m b n p le) ∙ final-at m b n p le
      ]

  agree : (m : Mode) → Bodies agent values m → (n : ℕ) → Agree agent values m n (final_to agent values n m) (final agent values m)
  unfolding final
  agree m b n = record { same = λ p h. final-at m b n p h; skips = λ p. skips agent values m b n p }

  unfolded : (m : Mode) → Bodies agent values m → (p : Prog) (n : ℕ) → height p ≡ n → final_to agent values n m p ≡ final_step agent values (final agent values) m (out-Prog p)
  unfolded m b p zero e = absurd (let k = ap (λ (r : Front). r.height) (front-out agent values m p) in omega (arith, positive agent values m (out-Prog p)))
  unfolded m b p (suc n) e =
      step_same agent values m n (final_to agent values n) (final agent values) (out-Prog p) (agree m b n)
      (let k = ap (λ (r : Front). r.height) (front-out agent values m p) in omega arith)
      (λ item args. let k = ap (λ (r : Front). r.height) (b.front_is item args) in omega arith)

  pub final-out : IsGuarded agent → (m : Mode) (p : Prog) → final agent values m p ≡ final_step agent values (final agent values) m (out-Prog p)
  unfolding final
  final-out g m p = unfolded m (bodies agent values m g) p (height p) refl

  pub final-skips : IsGuarded agent → (m : Mode) (p : Prog) → final agent values m p ≡ true → (front agent p).skip ≡ true
  unfolding final
  final-skips g m p e = skips agent values m (bodies agent values m g) (height p) p e

  only_same : (b b' s : Bool) (us vs : List Move) (h n : ℕ) → b ≡ b' → (b ≡ true → s ≡ true) → ((if s then h else 0) ≤ n) → (h ≤ n → us ≡ vs) → only_if b us ≡ only_if b' vs
  only_same false b' s us vs h n e k le r = subst (λ d. [] ≡ only_if d vs) e refl
  only_same true b' true us vs h n e k le r = subst (λ d. us ≡ only_if d vs) e (r le)
  only_same true b' false us vs h n e k le r = absurd (cc (k refl))

  flat_same : (f g : ℕ → List Move) (xs : List ℕ) → ((c : ℕ) → f c ≡ g c) → flat_map f xs ≡ flat_map g xs
  flat_same f g [] e = refl
  flat_same f g (x ∷ xs) e = let h = e x in let k = flat_same f g xs e in cc

  module _ (blocks : Blocks) where
    moves_same : (n : ℕ) (f g : Mode → Prog → Bool) (u v : Mode → Prog → List Move) (m : Mode) (l : Layer) → Agree agent values m n (f m) (g m)
        → ((k : Mode) (p : Prog) → height p ≤ n → u k p ≡ v k p) → (layer_front agent values m l).height ≤ suc n
        → ((item : ℕ) (args : _) → height (body_of agent item args) ≤ (front_at (proc_fronts agent) item).height)
        → moves_step agent values blocks f u m l ≡ moves_step agent values blocks g v m l
    moves_same n f g u v m Nil a s h b = refl
    moves_same n f g u v m (Act action args) a s h b = refl
    moves_same n f g u v m (Test c) a s h b = refl
    moves_same n f g u v m (Seq p q) a s h b =
        let e = s m p (omega arith) in
        let k = only_same (f m p) (g m p) (front agent p).skip (u m q) (v m q) (height q) n (a.same p (omega arith)) (a.skips p) (omega arith) (s m q) in
        rw (e, k) refl
    moves_same n f g u v m (Choice p q) a s h b = let e = s m p (omega arith) in let k = s m q (omega arith) in cc
    moves_same n f g u v m (Pick x sort p) a s h b =
        flat_same (λ c. u m (put_arg p x c)) (λ c. v m (put_arg p x c)) (constants agent sort) (λ c. s m (put_arg p x c) (let e = ap (λ (k : Front). k.height) (put-same agent values m p x c) in omega arith))
    moves_same n f g u v m (Star p) a s h b = let e = s m p (omega arith) in rw e refl
    moves_same n f g u v m (If c p q) a s h b = let e = s m p (omega arith) in let k = s m q (omega arith) in rw (e, k) refl
    moves_same n f g u v m (While c p) a s h b = let e = s m p (omega arith) in rw e refl
    moves_same n f g u v m (Conc p q) a s h b = let e = s m p (omega arith) in let k = s m q (omega arith) in rw (e, k) refl
    moves_same n f g u v m (Prio p q) a s h b = let e = s m p (omega arith) in let k = s m q (omega arith) in let d = s (flip m) p (omega arith) in rw (e, k, d) refl
    moves_same n f g u v m (Cstar p) a s h b = let e = s m p (omega arith) in rw e refl
    moves_same n f g u v m (Call item args) a s h b = let e = b item args in s m (body_of agent item args) (omega arith)
    moves_same n f g u v m (Search d fu p) a s h b = refl
    moves_same n f g u v m (Follow d fu p rest) a s h b = refl

    abbrev steps : ℕ → Mode → Prog → List Move
    steps = moves_to agent values blocks

    abbrev AllBodies : Type 0
    AllBodies = (m : Mode) → Bodies agent values m

    low_bodies : AllBodies → Mode → (item : ℕ) (args : _) → height (body_of agent item args) ≤ (front_at (proc_fronts agent) item).height
    low_bodies b m item args = let k = ap (λ (r : Front). r.height) ((b m).front_is item args) in omega arith

    low_layer : (m : Mode) (p : Prog) (n : ℕ) → height p ≤ n → (layer_front agent values m (out-Prog p)).height ≤ n
    low_layer m p n h = let k = ap (λ (r : Front). r.height) (front-out agent values m p) in omega arith

    agree_next : AllBodies → (m : Mode) (n : ℕ) → Agree agent values m n (final_to agent values n m) (final_to agent values (suc n) m)
    agree_next b m n = record { same = settled agent values m (b m) n; skips = λ p. skips agent values m (b m) n p }

    moves-settled : AllBodies → (n : ℕ) (m : Mode) (p : Prog) → height p ≤ n → steps n m p ≡ steps (suc n) m p
    moves-settled b zero m p h = absurd (omega (arith, low_layer m p 0 h, positive agent values m (out-Prog p)))
    moves-settled b (suc n) m p h =
        moves_same n (final_to agent values n) (final_to agent values (suc n)) (steps n) (steps (suc n)) m (out-Prog p) (agree_next b m n) (moves-settled b n) (low_layer m p (suc n) h) (low_bodies b m)

    moves-at : AllBodies → (n : ℕ) (m : Mode) (p : Prog) → height p ≤ n → steps n m p ≡ steps (height p) m p
    moves-at b zero m p h = let e : height p ≡ 0 = omega arith in rw e refl
    moves-at b (suc n) m p h =
        elim (cases_lt n (height p)) as (λ c. steps (suc n) m p ≡ steps (height p) m p) [
          | inl lt ↦ let e : height p ≡ suc n = omega arith in ap (λ k. steps k m p) (sym e)
          | inr le ↦ sym (moves-settled b n m p le) ∙ moves-at b n m p le
        ]

    moves-unfolded : AllBodies → (m : Mode) (p : Prog) (n : ℕ) → height p ≡ n → steps n m p ≡ moves_step agent values blocks (final agent values) (moves_with agent blocks values) m (out-Prog p)
    moves-unfolded b m p zero e = absurd (omega (arith, low_layer m p 0 (omega arith), positive agent values m (out-Prog p)))
    moves-unfolded b m p (suc n) e =
        moves_same n (final_to agent values n) (final agent values) (steps n) (moves_with agent blocks values) m (out-Prog p) (agree m (b m) n) (moves-at b n) (low_layer m p (suc n) (omega arith)) (low_bodies b m)

    pub moves_with-settled : IsGuarded agent → (m : Mode) (p : Prog) (n : ℕ) → height p ≤ n → moves_to agent values blocks n m p ≡ moves_with agent blocks values m p
    moves_with-settled g m p n h = moves-at (λ k. bodies agent values k g) n m p h

    pub moves_with-out : IsGuarded agent → (m : Mode) (p : Prog) → moves_with agent blocks values m p ≡ moves_step agent values blocks (final agent values) (moves_with agent blocks values) m (out-Prog p)
    moves_with-out g m p = moves-unfolded (λ k. bodies agent values k g) m p (height p) refl

  pub final-settled : IsGuarded agent → (m : Mode) (p : Prog) (n : ℕ) → height p ≤ n → final_to agent values n m p ≡ final agent values m p
  unfolding final
  final-settled g m p n h = final-at m (bodies agent values m g) n p h

  -- the steps without blocks, and those with them
  pub moves-out : IsGuarded agent → (m : Mode) (p : Prog) → plain_moves agent values m p ≡ moves_step agent values no_blocks (final agent values) (plain_moves agent values) m (out-Prog p)
  unfolding plain_moves
  moves-out g m p = moves_with-out no_blocks g m p

  pub block_moves-out : IsGuarded agent → (m : Mode) (p : Prog) → moves agent values m p ≡ moves_step agent values (block_moves agent values) (final agent values) (moves agent values) m (out-Prog p)
  unfolding moves
  block_moves-out g m p = moves_with-out (block_moves agent values) g m p
