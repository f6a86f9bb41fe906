-- The steps in a mode against those in a weaker one, construct by construct, for any order of lists of steps.
use Rattle.std.proofs.Common.{◌≡◌, ℕ, zero, suc, ◌+◌, ◌<◌, Bool, true, false, List, [], ◌∷◌, ◌++◌, map, refl, sym, subst, arith}
use Rattle.std.specs.List.{flat_map, range_with_len}
use Rattle.golog_tree.specs.declared.agent.Agent.{Agent}
use Rattle.golog_tree.specs.declared.prog.Prog.{Prog}
use Rattle.golog_tree.specs.declared.prog.Prog.TheOpen.{Nil, Act, Test, Seq, Choice, Pick, Star, If, While, Conc, Prio, Cstar, Call, Search, Follow}
use Rattle.golog_tree.specs.declared.prog.Prog.TheVariants as prog
use Rattle.golog_tree.specs.declared.prog.Prog.TheViews.{out-Prog}
use Rattle.golog_tree.specs.declared.prog.Label.TheVariants.{Quiet, Do}
use Rattle.golog_tree.specs.Tidy.{Layer, tidy_seq, tidy_conc, tidy_prio}
use Rattle.golog_semantics.specs.declared.Mode.{Mode}
use Rattle.golog_semantics.specs.declared.Mode.TheVariants.{Must, May, Near}
use Rattle.golog_semantics.specs.declared.search.Move.{Move}
use Rattle.golog_semantics.specs.Modes.{flip}
use Rattle.golog_tree.specs.Ground.{sort_size, action_no}
use Rattle.golog_semantics.specs.Truth.{Values, arg_value, env_of, not_of, truth_of}
use Rattle.golog_semantics.specs.Values.{is_possible}
use Rattle.golog_semantics.specs.Program.{put_arg, body_of}
use Rattle.golog_semantics.specs.Ways.{Blocks, final_to, is_empty, is_not, is_so, left_in, moves_step, moves_to, only_if, plain_move}
use Rattle.golog_semantics.proofs.FrontParts.{AtFront, Claim, GoesOn}
use Rattle.golog_semantics.proofs.ModesOrdered.{Weaker, final_to-more, is_possible-more, must_near}

-- an order of lists of steps that goes along with how steps are put together
pub record Order (R : List Move → List Move → Type 0) : Type 0 where
  pub none : (us : List Move) → R [] us
  pub same : (us : List Move) → R us us
  pub joined : (us vs us' vs' : List Move) → R us vs → R us' vs' → R (us ++ us') (vs ++ vs')
  pub within : (context : Prog → Prog) (us vs : List Move) → R us vs → R (left_in context us) (left_in context vs)
  pub empties : (us vs : List Move) → R us vs → is_empty vs ≡ true → is_empty us ≡ true

module _ (R : List Move → List Move → Type 0) (o : Order R) where
  only_more : (b b' : Bool) (us vs : List Move) → (b ≡ true → b' ≡ true) → R us vs → R (only_if b us) (only_if b' vs)
  only_more true b' us vs h k = subst (λ d. R us (only_if d vs)) (sym (h refl)) k
  only_more false b' us vs h k = o.none (only_if b' vs)

  flat_more : (f g : ℕ → List Move) (a n : ℕ) → ((c : ℕ) → c < a + n → R (f c) (g c)) → R (flat_map f (range_with_len a n)) (flat_map g (range_with_len a n))
  flat_more f g a zero h = o.none []
  flat_more f g a (suc n) h =
      o.joined (f a) (g a) (flat_map f (range_with_len (a + 1) n)) (flat_map g (range_with_len (a + 1) n))
      (h a (omega arith)) (flat_more f g (a + 1) n (λ c l. h c (omega arith)))

  module _ (agent : Agent) (values : Values) (blocks : Blocks) (claim : Claim) where
    -- the steps of blocks of which the claim holds go along with the order
    abbrev pub BlocksMore : Mode → Mode → Type 0
    BlocksMore a b = (depth fuel : ℕ) (p : Prog) (rest : _) → claim.of_block depth fuel p rest → R (blocks a depth fuel p rest) (blocks b depth fuel p rest)

    step_more : (f : Mode → Prog → Bool) (u : Mode → Prog → List Move) (a b : Mode) → Weaker a b
        → ((p : Prog) → f a p ≡ true → f b p ≡ true) → ((p : Prog) → claim.of_prog p → R (u a p) (u b p))
        → ((p : Prog) → claim.of_prog p → is_empty (u (flip a) p) ≡ true → is_empty (u (flip b) p) ≡ true) → BlocksMore a b
        → (l : Layer) → AtFront agent claim l → R (moves_step agent values blocks f u a l) (moves_step agent values blocks f u b l)
    step_more f u a b w g h k r Nil x = o.none []
    step_more f u a b w g h k r (Act action args) x =
        let at = map (arg_value (env_of [])) args in
        only_more (is_possible agent values a action at) (is_possible agent values b action at) (plain_move (Do (action_no agent action at)) prog.Nil ∷ []) (plain_move (Do (action_no agent action at)) prog.Nil ∷ [])
        (is_possible-more agent values a b w action at) (o.same (plain_move (Do (action_no agent action at)) prog.Nil ∷ []))
    step_more f u a b w g h k r (Test c) x =
        only_more (is_so agent values a c) (is_so agent values b c) (plain_move Quiet prog.Nil ∷ []) (plain_move Quiet prog.Nil ∷ [])
        (w.holds_too (truth_of agent values c (env_of []))) (o.same (plain_move Quiet prog.Nil ∷ []))
    step_more f u a b w g h k r (Seq p q) x =
        o.joined (left_in (λ l. tidy_seq l q) (u a p)) (left_in (λ l. tidy_seq l q) (u b p)) (only_if (f a p) (u a q)) (only_if (f b p) (u b q))
        (o.within (λ l. tidy_seq l q) (u a p) (u b p) (h p x.0)) (only_more (f a p) (f b p) (u a q) (u b q) (g p) (h q x.1))
    step_more f u a b w g h k r (Choice p q) x = o.joined (u a p) (u b p) (u a q) (u b q) (h p x.0) (h q x.1)
    step_more f u a b w g h k r (Pick v sort p) x =
        flat_more (λ c. u a (put_arg p v c)) (λ c. u b (put_arg p v c)) 0 (sort_size agent sort) (λ c l. h (put_arg p v c) (x c (omega arith)))
    step_more f u a b w g h k r (Star p) x = o.within (λ l. tidy_seq l (prog.Star p)) (u a p) (u b p) (h p x)
    step_more f u a b w g h k r (If c p q) x =
        o.joined (only_if (is_so agent values a c) (u a p)) (only_if (is_so agent values b c) (u b p)) (only_if (is_not agent values a c) (u a q)) (only_if (is_not agent values b c) (u b q))
        (only_more (is_so agent values a c) (is_so agent values b c) (u a p) (u b p) (w.holds_too (truth_of agent values c (env_of []))) (h p x.0))
        (only_more (is_not agent values a c) (is_not agent values b c) (u a q) (u b q) (w.holds_too (not_of (truth_of agent values c (env_of [])))) (h q x.1))
    step_more f u a b w g h k r (While c p) x =
        only_more (is_so agent values a c) (is_so agent values b c) (left_in (λ l. tidy_seq l (prog.While c p)) (u a p)) (left_in (λ l. tidy_seq l (prog.While c p)) (u b p))
        (w.holds_too (truth_of agent values c (env_of []))) (o.within (λ l. tidy_seq l (prog.While c p)) (u a p) (u b p) (h p x))
    step_more f u a b w g h k r (Conc p q) x =
        o.joined (left_in (λ l. tidy_conc l q) (u a p)) (left_in (λ l. tidy_conc l q) (u b p)) (left_in (λ l. tidy_conc p l) (u a q)) (left_in (λ l. tidy_conc p l) (u b q))
        (o.within (λ l. tidy_conc l q) (u a p) (u b p) (h p x.0)) (o.within (λ l. tidy_conc p l) (u a q) (u b q) (h q x.1))
    step_more f u a b w g h k r (Prio p q) x =
        o.joined (left_in (λ l. tidy_prio l q) (u a p)) (left_in (λ l. tidy_prio l q) (u b p))
        (only_if (is_empty (u (flip a) p)) (left_in (λ l. tidy_prio p l) (u a q))) (only_if (is_empty (u (flip b) p)) (left_in (λ l. tidy_prio p l) (u b q)))
        (o.within (λ l. tidy_prio l q) (u a p) (u b p) (h p x.0))
        (only_more (is_empty (u (flip a) p)) (is_empty (u (flip b) p)) (left_in (λ l. tidy_prio p l) (u a q)) (left_in (λ l. tidy_prio p l) (u b q)) (k p x.0) (o.within (λ l. tidy_prio p l) (u a q) (u b q) (h q x.1)))
    step_more f u a b w g h k r (Cstar p) x = o.within (λ l. tidy_conc l (prog.Cstar p)) (u a p) (u b p) (h p x)
    step_more f u a b w g h k r (Call item args) x = h (body_of agent item args) x
    step_more f u a b w g h k r (Search d fu p) x = r d fu p [] x
    step_more f u a b w g h k r (Follow d fu p rest) x = r d fu p rest x

    abbrev steps : ℕ → Mode → Prog → List Move
    steps = moves_to agent values blocks

    -- two modes in which the higher part of a `prio` is asked alike
    pub like_more : GoesOn agent claim → (a b : Mode) → Weaker a b → flip a ≡ flip b → BlocksMore a b → (n : ℕ) (p : Prog) → claim.of_prog p → R (steps n a p) (steps n b p)
    like_more go a b w e r zero p x = o.none []
    like_more go a b w e r (suc n) p x =
        step_more (final_to agent values n) (steps n) a b w (final_to-more agent values a b w n) (like_more go a b w e r n)
        (λ q y d. subst (λ m. is_empty (steps n m q) ≡ true) e d) r (out-Prog p) (go.parts p x)

    -- the certain steps are among the near ones, where no step is near without being possible
    pub must_near_more : GoesOn agent claim → ((n : ℕ) (p : Prog) → claim.of_prog p → is_empty (steps n May p) ≡ true → is_empty (steps n Near p) ≡ true)
        → BlocksMore Must Near → (n : ℕ) (p : Prog) → claim.of_prog p → R (steps n Must p) (steps n Near p)
    must_near_more go e r zero p x = o.none []
    must_near_more go e r (suc n) p x =
        step_more (final_to agent values n) (steps n) Must Near must_near (final_to-more agent values Must Near must_near n) (must_near_more go e r n)
        (λ q y d. o.empties (steps n Must q) (steps n Near q) (must_near_more go e r n q y) (e n q y d)) r (out-Prog p) (go.parts p x)
