-- For a guarded agent, looking deeper than the height of a program changes nothing of Final.
use Rattle.std.proofs.Common.{◌≡◌, ℕ, zero, suc, ◌+◌, ◌≤◌, Bool, true, false, ◌&&◌, ◌||◌, if◌then◌else◌, List, [], ◌∷◌, map, refl, sym, ap, ◌∙◌, subst, arith, Some}
use Rattle.std.specs.Prelude.{slice_get}
use Rattle.std.specs.List.{list_any}
use Rattle.golog_tree.specs.declared.agent.Agent.{Agent}
use Rattle.golog_tree.specs.declared.prog.Prog.{Prog}
use Rattle.golog_tree.specs.declared.prog.Way.{Way}
use Rattle.golog_tree.specs.declared.prog.Prog.TheOpen.{Prog-F, Nil, Act, Test, Seq, Choice, Pick, Star, If, While, Conc, Prio, Cstar, Call, Search, Follow}
use Rattle.golog_tree.specs.declared.prog.Prog.TheViews.{out-Prog}
use Rattle.golog_tree.specs.declared.prog.Prog.TheFolds.{fold_out-Prog, fold-roll-Prog, fold-Way, map-Prog}
use Rattle.golog_tree.specs.declared.prog.Prog.TheVariants as prog
use Rattle.golog_tree.specs.declared.cond.Arg.{Arg}
use Rattle.golog_tree.specs.declared.cond.Arg.TheVariants.{Const, Var}
use Rattle.golog_tree.specs.declared.agent.ProcItem.{ProcItem}
use Rattle.golog_semantics.specs.declared.Mode.{Mode}
use Rattle.golog_semantics.specs.Truth.{Values, constants}
use Rattle.golog_semantics.specs.Program.{put_arg, put_args, body_with, body_of}
use Rattle.golog_tree.specs.Tidy.{Layer}
use Rattle.golog_semantics.specs.Ways.{final_to, final_step, is_so, is_not}
use Rattle.golog_semantics.specs.Guarded.{Front, front_step, front_at, front, no_front, proc_fronts, IsGuarded}
use Rattle.golog_semantics.proofs.FrontPut.{front-put}

module _ (agent : Agent) (values : Values) (m : Mode) where
  abbrev pub parts : Layer → Prog-F Front Front
  parts l = map-Prog Prog Way Front Front (front agent) (fold-Way Front Front (front_step (proc_fronts agent)) (λ w. no_front)) l

  abbrev pub layer_front : Layer → Front
  layer_front l = front_step (proc_fronts agent) (parts l)

  pub front-out : (p : Prog) → front agent p ≡ layer_front (out-Prog p)
  front-out p = fold_out-Prog Front Front (front_step (proc_fronts agent)) (λ w. no_front) p

  -- what is asked of two tests, so that they give one layer the same answer
  pub record Agree (n : ℕ) (f g : Prog → Bool) : Type 0 where
    pub same : (p : Prog) → (front agent p).height ≤ n → f p ≡ g p
    pub skips : (p : Prog) → f p ≡ true → (front agent p).skip ≡ true

  pub put-same : (p : Prog) (x c : ℕ) → front agent (put_arg p x c) ≡ front agent p
  put-same p x c = front-put (proc_fronts agent) p (Some (x, c))

  and_same : (b b' c c' s : Bool) (h n : ℕ) → b ≡ b' → (b ≡ true → s ≡ true) → ((if s then h else 0) ≤ n) → (h ≤ n → c ≡ c') → (b && c) ≡ (b' && c')
  and_same false b' c c' s h n e k le r = subst (λ d. false ≡ (d && c')) e refl
  and_same true b' c c' true h n e k le r = subst (λ d. c ≡ (d && c')) e (r le)
  and_same true b' c c' false h n e k le r = absurd (cc (k refl))

  any_same : (f g : ℕ → Bool) (xs : List ℕ) → ((c : ℕ) → f c ≡ g c) → list_any f xs ≡ list_any g xs
  any_same f g [] e = refl
  any_same f g (x ∷ xs) e = let h = e x in let k = any_same f g xs e in cc

  pub step_same : (n : ℕ) (f g : Mode → Prog → Bool) (l : Layer) → Agree n (f m) (g m) → (layer_front l).height ≤ suc n
      → ((item : ℕ) (args : _) → (front agent (body_of agent item args)).height ≤ (front_at (proc_fronts agent) item).height)
      → final_step agent values f m l ≡ final_step agent values g m l
  step_same n f g Nil a h b = refl
  step_same n f g (Act action args) a h b = refl
  step_same n f g (Test c) a h b = refl
  step_same n f g (Seq p q) a h b =
      and_same (f m p) (g m p) (f m q) (g m q) (front agent p).skip (front agent q).height n (a.same p (omega arith)) (a.skips p) (omega arith) (a.same q)
  step_same n f g (Choice p q) a h b = let e = a.same p (omega arith) in let k = a.same q (omega arith) in cc
  step_same n f g (Pick x sort p) a h b =
      any_same (λ c. f m (put_arg p x c)) (λ c. g m (put_arg p x c)) (constants agent sort) (λ c. a.same (put_arg p x c) (let e = ap (λ (k : Front). k.height) (put-same p x c) in omega arith))
  step_same n f g (Star p) a h b = refl
  step_same n f g (If c p q) a h b = let e = a.same p (omega arith) in let k = a.same q (omega arith) in cc
  step_same n f g (While c p) a h b = let e = a.same p (omega arith) in cc
  step_same n f g (Conc p q) a h b = let e = a.same p (omega arith) in let k = a.same q (omega arith) in cc
  step_same n f g (Prio p q) a h b = let e = a.same p (omega arith) in let k = a.same q (omega arith) in cc
  step_same n f g (Cstar p) a h b = refl
  step_same n f g (Call item args) a h b = let e = b item args in a.same (body_of agent item args) (omega arith)
  step_same n f g (Search d fu p) a h b = a.same p (omega arith)
  step_same n f g (Follow d fu p rest) a h b = a.same p (omega arith)

  or_left : (a b : Bool) → a ≡ true → (a || b) ≡ true
  or_left a b e = subst (λ d. (d || b) ≡ true) (sym e) refl

  or_right : (a b : Bool) → b ≡ true → (a || b) ≡ true
  or_right true b e = refl
  or_right false b e = e

  and_skips : (b c s t : Bool) → (b ≡ true → s ≡ true) → (c ≡ true → t ≡ true) → (b && c) ≡ true → (s && t) ≡ true
  and_skips true c s t h k e = subst (λ d. (d && t) ≡ true) (sym (h refl)) (k e)
  and_skips false c s t h k e = cc

  or_skips : (b c s t : Bool) → (b ≡ true → s ≡ true) → (c ≡ true → t ≡ true) → (b || c) ≡ true → (s || t) ≡ true
  or_skips true c s t h k e = or_left s t (h refl)
  or_skips false c s t h k e = or_right s t (k e)

  if_skips : (i b s : Bool) → (b ≡ true → s ≡ true) → (i && b) ≡ true → s ≡ true
  if_skips true b s h e = h e
  if_skips false b s h e = cc

  or_cases : (a b s : Bool) → (a || b) ≡ true → (a ≡ true → s ≡ true) → (b ≡ true → s ≡ true) → s ≡ true
  or_cases true b s e h k = h refl
  or_cases false b s e h k = k e

  any_skips : (f : ℕ → Bool) (s : Bool) (xs : List ℕ) → ((c : ℕ) → f c ≡ true → s ≡ true) → list_any f xs ≡ true → s ≡ true
  any_skips f s [] h e = cc
  any_skips f s (x ∷ xs) h e = or_cases (f x) (list_any f xs) s e (h x) (any_skips f s xs h)

  step_skips : (f : Mode → Prog → Bool) (l : Layer) → ((p : Prog) → f m p ≡ true → (front agent p).skip ≡ true)
      → ((item : ℕ) (args : _) → (front agent (body_of agent item args)).skip ≡ (front_at (proc_fronts agent) item).skip)
      → final_step agent values f m l ≡ true → (layer_front l).skip ≡ true
  step_skips f Nil h b e = refl
  step_skips f (Act action args) h b e = e
  step_skips f (Test c) h b e = e
  step_skips f (Seq p q) h b e = and_skips (f m p) (f m q) (front agent p).skip (front agent q).skip (h p) (h q) e
  step_skips f (Choice p q) h b e = or_skips (f m p) (f m q) (front agent p).skip (front agent q).skip (h p) (h q) e
  step_skips f (Pick x sort p) h b e =
      any_skips (λ c. f m (put_arg p x c)) (front agent p).skip (constants agent sort) (λ c k. sym (ap (λ (r : Front). r.skip) (put-same p x c)) ∙ h (put_arg p x c) k) e
  step_skips f (Star p) h b e = refl
  step_skips f (If c p q) h b e =
      or_skips (is_so agent values m c && f m p) (is_not agent values m c && f m q) (front agent p).skip (front agent q).skip (if_skips _ _ _ (h p)) (if_skips _ _ _ (h q)) e
  step_skips f (While c p) h b e = refl
  step_skips f (Conc p q) h b e = and_skips (f m p) (f m q) (front agent p).skip (front agent q).skip (h p) (h q) e
  step_skips f (Prio p q) h b e = and_skips (f m p) (f m q) (front agent p).skip (front agent q).skip (h p) (h q) e
  step_skips f (Cstar p) h b e = refl
  step_skips f (Call item args) h b e = sym (b item args) ∙ h (body_of agent item args) e
  step_skips f (Search d fu p) h b e = h p e
  step_skips f (Follow d fu p rest) h b e = h p e

  -- what a guarded agent gives: a call has the front of the body
  pub record Bodies : Type 0 where
    pub front_is : (item : ℕ) (args : _) → front agent (body_of agent item args) ≡ front_at (proc_fronts agent) item

  pub skips : Bodies → (n : ℕ) (p : Prog) → final_to agent values n m p ≡ true → (front agent p).skip ≡ true
  skips b zero p e = cc
  skips b (suc n) p e =
      ap (λ (r : Front). r.skip) (front-out p)
      ∙ step_skips (final_to agent values n) (out-Prog p) (skips b n) (λ item args. ap (λ (r : Front). r.skip) (b.front_is item args)) e

  pub positive : (l : Layer) → 1 ≤ (layer_front l).height
  positive Nil = omega arith
  positive _ = omega arith

  -- looking one deeper changes nothing
  pub settled : Bodies → (n : ℕ) (p : Prog) → (front agent p).height ≤ n → final_to agent values n m p ≡ final_to agent values (suc n) m p
  settled b zero p h = absurd (let e = ap (λ (r : Front). r.height) (front-out p) in omega (arith, positive (out-Prog p)))
  settled b (suc n) p h =
      step_same n (final_to agent values n) (final_to agent values (suc n)) (out-Prog p)
      (record { same = settled b n; skips = skips b n })
      (subst (λ (r : Front). r.height ≤ suc n) (front-out p) h)
      (λ item args. let e = ap (λ (r : Front). r.height) (b.front_is item args) in omega arith)

  put_args-same : (p : Prog) (x : ℕ) (args : List Arg) → front agent (put_args p x args) ≡ front agent p
  put_args-same p x [] = refl
  put_args-same p x (Const c ∷ args) = put_args-same (put_arg p x c) (x + 1) args ∙ put-same p x c
  put_args-same p x (Var y ∷ args) = put_args-same p (x + 1) args

  body_front : (procs : List ProcItem) (item : ℕ) (args : List Arg) → front agent (body_with (slice_get procs item) args) ≡ front_at (map (λ i. front agent i.body) procs) item
  body_front [] item args = ap (front agent) (sym prog.rolls-Nil) ∙ fold-roll-Prog Front Front (front_step (proc_fronts agent)) (λ w. no_front) Nil
  body_front (i ∷ procs) zero args = put_args-same i.body 0 args
  body_front (i ∷ procs) (suc item) args = body_front procs item args

  pub bodies : IsGuarded agent → Bodies
  bodies g = record { front_is = λ item args. body_front agent.procs item args ∙ ap (λ fs. front_at fs item) g.settled }
