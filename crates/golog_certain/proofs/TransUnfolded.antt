-- For a guarded agent, the steps of a program in a world by those of its parts, with no depth.
use Rattle.std.proofs.Common.{◌≡◌, inl, inr, ℕ, zero, suc, ◌≤◌, Bool, true, false, if◌then◌else◌, refl, ap, subst, arith}
use Rattle.std.proofs.lemmas.Bool.{cases_lt}
use Rattle.golog_tree.specs.declared.agent.Agent.{Agent}
use Rattle.golog_tree.specs.declared.prog.Label.{Label}
use Rattle.golog_tree.specs.declared.prog.Prog.{Prog}
use Rattle.golog_tree.specs.declared.prog.Prog.TheOpen.{Nil, Act, Test, Seq, Choice, Pick, Star, If, While, Conc, Prio, Cstar, Call, Search, Follow}
use Rattle.golog_tree.specs.declared.prog.Prog.TheVariants as prog
use Rattle.golog_tree.specs.declared.prog.Prog.TheViews.{out-Prog}
use Rattle.golog_tree.specs.Tidy.{Layer, tidy_conc, tidy_prio, tidy_seq}
use Rattle.golog_semantics.specs.declared.Mode.TheVariants.{Must}
use Rattle.golog_semantics.specs.Truth.{Values}
use Rattle.golog_semantics.specs.Program.{put_arg, body_of}
use Rattle.golog_semantics.specs.Guarded.{Front, IsGuarded, front, front_at, proc_fronts}
use Rattle.golog_semantics.specs.Trans.{BlockSteps, Steps, TransW, Within, block_trans, no_steps, trans_step, trans_to, trans_with}
use Rattle.golog_semantics.proofs.Settled.{bodies, front-out, layer_front, positive, put-same}
use Rattle.golog_semantics.proofs.Unfolded.{final-skips}
use Rattle.golog_certain.specs.TransLaws.{StepUnfolds}

-- a step within a context, where each step of the first is one of the second
within-follows : (context : Prog → Prog) (s t : Steps) → ((label : Label) (left : Prog) → s label left → t label left) → (label : Label) (left : Prog) → Within context s label left → Within context t label left
within-follows context s t h label left w = (w.0, h label w.0 w.1, w.2)

-- a second part that may step after an end leads no deeper
low_second : (s : Bool) (h n : ℕ) → s ≡ true → (if s then h else 0) ≤ n → h ≤ n
low_second true h n e l = l
low_second false h n e l = absurd (cc)

module _ (agent : Agent) (g : IsGuarded agent) (world : Values) where
  abbrev height : Prog → ℕ
  height p = (front agent p).height

  low_body : (item : ℕ) (args : _) → height (body_of agent item args) ≤ (front_at (proc_fronts agent) item).height
  low_body item args = let k = ap (λ (r : Front). r.height) ((bodies agent world Must g).front_is item args) in omega arith

  low_put : (p : Prog) (x c n : ℕ) → height p ≤ n → height (put_arg p x c) ≤ n
  low_put p x c n h = let e = ap (λ (k : Front). k.height) (put-same agent world Must p x c) in omega arith

  low_layer : (p : Prog) (n : ℕ) → height p ≤ n → (layer_front agent world Must (out-Prog p)).height ≤ n
  low_layer p n h = let k = ap (λ (r : Front). r.height) (front-out agent world Must p) in omega arith

  -- a program has a part
  not_flat : (p : Prog) → height p ≤ 0 → ⊥
  not_flat p h = omega (arith, low_layer p 0 h, positive agent world Must (out-Prog p))

  -- the steps of programs that lead no deeper are among others
  abbrev Follow_to : ℕ → (Prog → Steps) → (Prog → Steps) → Type 0
  Follow_to n f g = (p : Prog) → height p ≤ n → (label : Label) (left : Prog) → f p label left → g p label left

  module _ (blocks : BlockSteps) where
    -- the steps of one construct follow from those of its parts; of a higher part that none may be taken, too
    step_follows : (n : ℕ) (s t : Prog → Steps) → Follow_to n s t → Follow_to n t s → (l : Layer) → (layer_front agent world Must l).height ≤ suc n → (label : Label) (left : Prog)
        → trans_step agent world blocks s l label left → trans_step agent world blocks t l label left
    step_follows n s t to from Nil h label left k = k
    step_follows n s t to from (Act action args) h label left k = k
    step_follows n s t to from (Test c) h label left k = k
    step_follows n s t to from (Seq p q) h label left (inl w) = inl (within-follows (λ k. tidy_seq k q) (s p) (t p) (to p (omega arith)) label left w)
    step_follows n s t to from (Seq p q) h label left (inr w) =
        let f = final-skips agent world g Must p w.0 in
        inr (w.0, to q (low_second (front agent p).skip (height q) n f (omega arith)) label left w.1)
    step_follows n s t to from (Choice p q) h label left (inl w) = inl (to p (omega arith) label left w)
    step_follows n s t to from (Choice p q) h label left (inr w) = inr (to q (omega arith) label left w)
    step_follows n s t to from (Pick x sort p) h label left k = (k.0, k.1, to (put_arg p x k.0) (low_put p x k.0 n (omega arith)) label left k.2)
    step_follows n s t to from (Star p) h label left k = within-follows (λ l. tidy_seq l (prog.Star p)) (s p) (t p) (to p (omega arith)) label left k
    step_follows n s t to from (If c p q) h label left (inl w) = inl (w.0, to p (omega arith) label left w.1)
    step_follows n s t to from (If c p q) h label left (inr w) = inr (w.0, to q (omega arith) label left w.1)
    step_follows n s t to from (While c p) h label left k = (k.0, within-follows (λ l. tidy_seq l (prog.While c p)) (s p) (t p) (to p (omega arith)) label left k.1)
    step_follows n s t to from (Conc p q) h label left (inl w) = inl (within-follows (λ k. tidy_conc k q) (s p) (t p) (to p (omega arith)) label left w)
    step_follows n s t to from (Conc p q) h label left (inr w) = inr (within-follows (λ k. tidy_conc p k) (s q) (t q) (to q (omega arith)) label left w)
    step_follows n s t to from (Prio p q) h label left (inl w) = inl (within-follows (λ k. tidy_prio k q) (s p) (t p) (to p (omega arith)) label left w)
    step_follows n s t to from (Prio p q) h label left (inr w) =
        inr ((λ k. w.0 (k.0, k.1, from p (omega arith) k.0 k.1 k.2)), within-follows (λ k. tidy_prio p k) (s q) (t q) (to q (omega arith)) label left w.1)
    step_follows n s t to from (Cstar p) h label left k = within-follows (λ l. tidy_conc l (prog.Cstar p)) (s p) (t p) (to p (omega arith)) label left k
    step_follows n s t to from (Call item args) h label left k = let b = low_body item args in to (body_of agent item args) (omega arith) label left k
    step_follows n s t to from (Search depth fuel p) h label left k = k
    step_follows n s t to from (Follow depth fuel p rest) h label left k = k

    abbrev t : ℕ → Prog → Steps
    t n = trans_to agent world blocks n

    abbrev all : Prog → Steps
    all = trans_with agent world blocks

    -- looking one deeper changes nothing, both ways at once
    settled : (n : ℕ) → Follow_to n (t n) (t (suc n)) × Follow_to n (t (suc n)) (t n)
    settled zero = ((λ p h label left k. absurd (not_flat p h)), (λ p h label left k. absurd (not_flat p h)))
    settled (suc n) =
        let r = settled n in (
          (λ p h label left k. step_follows n (t n) (t (suc n)) r.0 r.1 (out-Prog p) (low_layer p (suc n) h) label left k),
          (λ p h label left k. step_follows n (t (suc n)) (t n) r.1 r.0 (out-Prog p) (low_layer p (suc n) h) label left k),
        )

    -- at any depth from the height on, the steps are the same
    deeper : (n : ℕ) → Follow_to n (t n) all
    deeper zero p h label left k = absurd k
    deeper (suc n) p h label left k =
        elim (cases_lt n (height p)) [
          | inl lt ↦ (let e : suc n ≡ height p = omega arith in subst (λ d. t d p label left) e k)
          | inr le ↦ deeper n p le label left ((settled n).1 p le label left k)
        ]

    back : (n : ℕ) → Follow_to n all (t n)
    back zero p h label left k = absurd (not_flat p h)
    back (suc n) p h label left k =
        elim (cases_lt n (height p)) [
          | inl lt ↦ (let e : height p ≡ suc n = omega arith in subst (λ d. t d p label left) e k)
          | inr le ↦ (settled n).0 p le label left (back n p le label left k)
        ]

    out : (p : Prog) (n : ℕ) → height p ≡ n → (label : Label) (left : Prog) → t n p label left → trans_step agent world blocks all (out-Prog p) label left
    out p zero e label left k = absurd k
    out p (suc n) e label left k = step_follows n (t n) all (deeper n) (back n) (out-Prog p) (low_layer p (suc n) (omega arith)) label left k

    into : (p : Prog) (n : ℕ) → height p ≡ n → (label : Label) (left : Prog) → trans_step agent world blocks all (out-Prog p) label left → t n p label left
    into p zero e label left k = absurd (not_flat p (omega arith))
    into p (suc n) e label left k = step_follows n all (t n) (back n) (deeper n) (out-Prog p) (low_layer p (suc n) (omega arith)) label left k

  pub step_unfolds : (p : Prog) (label : Label) (left : Prog) → StepUnfolds agent world p label left
  unfolding TransW
  step_unfolds p label left = record {
    step = (out (block_trans agent world) p (height p) refl label left, into (block_trans agent world) p (height p) refl label left);
    plain_step = (out no_steps p (height p) refl label left, into no_steps p (height p) refl label left);
  }
