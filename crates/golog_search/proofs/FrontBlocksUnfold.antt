-- For a guarded agent, the blocks at the front of a program by those of its parts, with no depth.
use Rattle.std.proofs.Common.{◌≡◌, ℕ, zero, suc, ◌≤◌, Bool, true, false, if◌then◌else◌, List, [], ◌∷◌, refl, sym, ap, ◌∙◌, arith, inl, inr}
use Rattle.std.specs.List.{flat_map}
use Rattle.std.proofs.lemmas.Bool.{cases_lt}
use Rattle.golog_tree.specs.declared.agent.Agent.{Agent}
use Rattle.golog_tree.specs.declared.prog.Prog.{Prog}
use Rattle.golog_tree.specs.declared.prog.Prog.TheOpen.{Nil, Act, Test, Seq, Choice, Pick, Star, If, While, Conc, Prio, Cstar, Call, Search, Follow}
use Rattle.golog_tree.specs.declared.prog.Prog.TheViews.{out-Prog}
use Rattle.golog_tree.specs.Tidy.{Layer}
use Rattle.golog_semantics.specs.declared.Mode.TheVariants.{Must}
use Rattle.golog_semantics.specs.Truth.{Values, constants}
use Rattle.golog_semantics.specs.Program.{put_arg, body_of}
use Rattle.golog_semantics.specs.Guarded.{Front, front, front_at, proc_fronts, IsGuarded}
use Rattle.golog_semantics.specs.Heavy.{Reached, blocks_step, blocks_to}
use Rattle.golog_semantics.proofs.Settled.{bodies, front-out, layer_front, positive, put-same}
use Rattle.golog_search.specs.Weighing.{blocks_at}

module _ (agent : Agent) (values : Values) where
  abbrev height : Prog → ℕ
  height p = (front agent p).height

  abbrev deep : Layer → ℕ
  deep l = (layer_front agent values Must l).height

  abbrev Bodies : Type 0
  Bodies = (item : ℕ) (args : _) → height (body_of agent item args) ≤ (front_at (proc_fronts agent) item).height

  only_same : (s : Bool) (us vs : List Reached) (h n : ℕ) → (if s then h else 0) ≤ n → (h ≤ n → us ≡ vs) → (if s then us else []) ≡ (if s then vs else [])
  only_same true us vs h n le r = r le
  only_same false us vs h n le r = refl

  flat_same : (f g : ℕ → List Reached) (xs : List ℕ) → ((c : ℕ) → f c ≡ g c) → flat_map f xs ≡ flat_map g xs
  flat_same f g [] e = refl
  flat_same f g (x ∷ xs) e = let h = e x in let k = flat_same f g xs e in cc

  step_same : (n : ℕ) (u v : Bool → Prog → List Reached) (higher : Bool) (l : Layer)
      → ((b : Bool) (p : Prog) → height p ≤ n → u b p ≡ v b p) → deep l ≤ suc n → Bodies
      → blocks_step agent values u higher l ≡ blocks_step agent values v higher l
  step_same n u v b Nil s h d = refl
  step_same n u v b (Act action args) s h d = refl
  step_same n u v b (Test c) s h d = refl
  step_same n u v b (Seq p q) s h d =
      let e = s b p (omega arith) in
      let k = only_same (front agent p).skip (u b q) (v b q) (height q) n (omega arith) (s b q) in
      rw (e, k) refl
  step_same n u v b (Choice p q) s h d = let e = s b p (omega arith) in let k = s b q (omega arith) in rw (e, k) refl
  step_same n u v b (Pick x sort p) s h d =
      flat_same (λ c. u b (put_arg p x c)) (λ c. v b (put_arg p x c)) (constants agent sort)
      (λ c. s b (put_arg p x c) (let e = ap (λ (k : Front). k.height) (put-same agent values Must p x c) in omega arith))
  step_same n u v b (Star p) s h d = s b p (omega arith)
  step_same n u v b (If c p q) s h d = let e = s b p (omega arith) in let k = s b q (omega arith) in rw (e, k) refl
  step_same n u v b (While c p) s h d = s b p (omega arith)
  step_same n u v b (Conc p q) s h d = let e = s b p (omega arith) in let k = s b q (omega arith) in rw (e, k) refl
  step_same n u v b (Prio p q) s h d = let e = s true p (omega arith) in let k = s b q (omega arith) in rw (e, k) refl
  step_same n u v b (Cstar p) s h d = s b p (omega arith)
  step_same n u v b (Call item args) s h d = let e = d item args in s b (body_of agent item args) (omega arith)
  step_same n u v b (Search depth fuel p) s h d = refl
  step_same n u v b (Follow depth fuel p rest) s h d = refl

  low_bodies : IsGuarded agent → Bodies
  low_bodies g item args = let k = ap (λ (r : Front). r.height) ((bodies agent values Must g).front_is item args) in omega arith

  low_layer : (p : Prog) (n : ℕ) → height p ≤ n → deep (out-Prog p) ≤ n
  low_layer p n h = let k = ap (λ (r : Front). r.height) (front-out agent values Must p) in omega arith

  -- looking one deeper changes nothing
  settled : Bodies → (n : ℕ) (b : Bool) (p : Prog) → height p ≤ n → blocks_to agent values n b p ≡ blocks_to agent values (suc n) b p
  settled d zero b p h = absurd (omega (arith, low_layer p 0 h, positive agent values Must (out-Prog p)))
  settled d (suc n) b p h =
      step_same n (blocks_to agent values n) (blocks_to agent values (suc n)) b (out-Prog p) (settled d n) (low_layer p (suc n) h) d

  at : Bodies → (n : ℕ) (b : Bool) (p : Prog) → height p ≤ n → blocks_to agent values n b p ≡ blocks_at agent values b p
  at d zero b p h = let e : height p ≡ 0 = omega arith in rw e refl
  at d (suc n) b p h =
      elim (cases_lt n (height p)) as (λ c. blocks_to agent values (suc n) b p ≡ blocks_at agent values b p) [
        | inl lt ↦ let e : height p ≡ suc n = omega arith in ap (λ k. blocks_to agent values k b p) (sym e)
        | inr le ↦ sym (settled d n b p le) ∙ at d n b p le
      ]

  unfolded : Bodies → (b : Bool) (p : Prog) (n : ℕ) → height p ≡ n → blocks_to agent values n b p ≡ blocks_step agent values (blocks_at agent values) b (out-Prog p)
  unfolded d b p zero e = absurd (omega (arith, low_layer p 0 (omega arith), positive agent values Must (out-Prog p)))
  unfolded d b p (suc n) e =
      step_same n (blocks_to agent values n) (blocks_at agent values) b (out-Prog p) (at d n) (low_layer p (suc n) (omega arith)) d

  -- the blocks at the front of a program are those of its parts there
  pub front_blocks-out : IsGuarded agent → (b : Bool) (p : Prog) → blocks_at agent values b p ≡ blocks_step agent values (blocks_at agent values) b (out-Prog p)
  front_blocks-out g b p = unfolded (low_bodies g) b p (height p) refl
