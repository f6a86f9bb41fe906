-- The certain steps of a program are steps of each world, and these may be taken, where it is so of its blocks.
use Rattle.std.proofs.Common.{◌≡◌, inl, inr, ℕ, zero, suc, ◌+◌, ◌≤◌, ◌<◌, Bool, true, false, if◌then◌else◌, List, [], ◌∷◌, ◌++◌, map, refl, sym, ap, ◌∙◌, subst, arith}
use Rattle.std.specs.List.{range_with_len}
use Rattle.golog_tree.specs.declared.agent.Agent.{Agent}
use Rattle.golog_tree.specs.declared.cond.Cond.{Cond}
use Rattle.golog_tree.specs.declared.prog.Label.{Label}
use Rattle.golog_tree.specs.declared.prog.Label.TheVariants.{Quiet, Do}
use Rattle.golog_tree.specs.declared.prog.Prog.{Prog}
use Rattle.golog_tree.specs.declared.prog.Prog.TheOpen.{Nil, Act, Test, Seq, Choice, Pick, Star, If, While, Conc, Prio, Cstar, Call, Search, Follow}
use Rattle.golog_tree.specs.declared.prog.Prog.TheVariants as prog
use Rattle.golog_tree.specs.declared.prog.Prog.TheViews.{out-Prog}
use Rattle.golog_tree.specs.declared.prog.Way.{Way}
use Rattle.golog_tree.specs.Ground.{action_no, sort_size}
use Rattle.golog_tree.specs.Tidy.{Layer, tidy_conc, tidy_prio, tidy_seq}
use Rattle.golog_semantics.specs.declared.Mode.{Mode}
use Rattle.golog_semantics.specs.declared.Mode.TheVariants.{Must, May}
use Rattle.golog_semantics.specs.declared.search.Move.{Move}
use Rattle.golog_semantics.specs.Truth.{Values, arg_value, env_of}
use Rattle.golog_semantics.specs.Values.{is_possible}
use Rattle.golog_semantics.specs.Program.{put_arg, body_of}
use Rattle.golog_semantics.specs.Ways.{Blocks, final_to, is_empty, is_not, is_so, left_in, moves_step, moves_to, only_if, plain_move}
use Rattle.golog_semantics.specs.Search.{final, moves_with}
use Rattle.golog_semantics.specs.Guarded.{Front, IsGuarded, front, front_at, proc_fronts}
use Rattle.golog_semantics.specs.Certain.{KnownIsSo}
use Rattle.golog_semantics.specs.Trans.{BlockSteps, FinalW, Steps, Within, trans_step, trans_to, trans_with}
use Rattle.golog_certain.proofs.Members.{among-range, not_empty}
use Rattle.golog_semantics.proofs.FrontParts.{AtFront, Claim, GoesOn}
use Rattle.golog_semantics.proofs.Among.{Among, among-either, flat-among, among-left, map-among, among-right, among-flat, among-map}
use Rattle.golog_semantics.proofs.Settled.{bodies, front-out, layer_front, put-same}
use Rattle.golog_semantics.proofs.Unfolded.{final-settled, final-skips}
use Rattle.golog_certain.proofs.Viewed.{View, viewed}
use Rattle.golog_certain.proofs.WorldEnds.{certain_follows, final-follows, is_possible-follows, possible_follows}

only-among : (b : Bool) (us : List Move) (move : Move) → Among (only_if b us) move → (b ≡ true) × Among us move
only-among true us move h = (refl, h)
only-among false us move h = absurd h

among-only : (b : Bool) (us : List Move) (move : Move) → b ≡ true → Among us move → Among (only_if b us) move
among-only true us move e h = h
among-only false us move e h = absurd (cc)

range-among : (a n c : ℕ) → Among (range_with_len a n) c → c < a + n
range-among a zero c h = absurd h
range-among a (suc n) c (inl e) = omega arith
range-among a (suc n) c (inr h) = let k = range-among (a + 1) n c h in omega arith

one_of : (m move : Move) → Among (m ∷ []) move → m ≡ move
one_of m move (inl e) = e
one_of m move (inr h) = absurd h

module _ (agent : Agent) (view : Prog → Prog) (v : View agent view) where
  -- a step with this label, and with this program left as it is seen, stands among these
  pub record Offers (us : List Move) (label : Label) (left : Prog) : Type 0 where
    pub step : Move
    pub among : Among us step
    pub label_same : step.label ≡ label
    pub left_same : view step.left ≡ left

  -- a context of programs left, and what it is as it is seen
  pub record Context : Type 0 where
    pub put : Prog → Prog
    pub seen : Prog → Prog
    pub same : (p : Prog) → view (put p) ≡ seen (view p)

  abbrev before : (q : Prog) → Context
  before q = record { put = λ l. tidy_seq l q; seen = λ l. tidy_seq l (view q); same = λ l. v.of_seq l q }

  abbrev before_star : (p : Prog) → Context
  before_star p = record {
    put = λ l. tidy_seq l (prog.Star p);
    seen = λ l. tidy_seq l (prog.Star (view p));
    same = λ l. v.of_seq l (prog.Star p) ∙ ap (tidy_seq (view l)) (v.of_star p);
  }

  abbrev before_while : (c : Cond) (p : Prog) → Context
  before_while c p = record {
    put = λ l. tidy_seq l (prog.While c p);
    seen = λ l. tidy_seq l (prog.While c (view p));
    same = λ l. v.of_seq l (prog.While c p) ∙ ap (tidy_seq (view l)) (v.of_while c p);
  }

  abbrev beside : (q : Prog) → Context
  beside q = record { put = λ l. tidy_conc l q; seen = λ l. tidy_conc l (view q); same = λ l. v.of_conc l q }

  abbrev beside_first : (p : Prog) → Context
  beside_first p = record { put = λ l. tidy_conc p l; seen = λ l. tidy_conc (view p) l; same = λ l. v.of_conc p l }

  abbrev beside_cstar : (p : Prog) → Context
  beside_cstar p = record {
    put = λ l. tidy_conc l (prog.Cstar p);
    seen = λ l. tidy_conc l (prog.Cstar (view p));
    same = λ l. v.of_conc l (prog.Cstar p) ∙ ap (tidy_conc (view l)) (v.of_cstar p);
  }

  abbrev over : (q : Prog) → Context
  over q = record { put = λ l. tidy_prio l q; seen = λ l. tidy_prio l (view q); same = λ l. v.of_prio l q }

  abbrev under : (p : Prog) → Context
  under p = record { put = λ l. tidy_prio p l; seen = λ l. tidy_prio (view p) l; same = λ l. v.of_prio p l }

  within_of : (t : Steps) (context : Context) (us : List Move) (move : Move) → Among (left_in context.put us) move → ((m : Move) → Among us m → t m.label (view m.left))
      → Within context.seen t move.label (view move.left)
  within_of t context us move h k =
      let m = among-map (λ (m : Move). record { label = m.label; left = context.put m.left; run = m.run }) us move h in
      (view m.0.left, subst (λ (z : Move). t z.label (view m.0.left)) m.1.1 (k m.0 m.1.0), sym (ap (λ (z : Move). view z.left) m.1.1) ∙ context.same m.0.left)

  offers_within : (t : Steps) (context : Context) (us : List Move) (label : Label) (left : Prog) → Within context.seen t label left → ((l : Label) (q : Prog) → t l q → Offers us l q)
      → Offers (left_in context.put us) label left
  offers_within t context us label left w h =
      let o = h label w.0 w.1 in
      record {
        step = record { label = o.step.label; left = context.put o.step.left; run = o.step.run };
        among = map-among (λ (m : Move). record { label = m.label; left = context.put m.left; run = m.run }) us o.step o.among;
        label_same = o.label_same;
        left_same = context.same o.step.left ∙ ap context.seen o.left_same ∙ sym w.2;
      }

  offers_left : (us vs : List Move) (label : Label) (left : Prog) → Offers us label left → Offers (us ++ vs) label left
  offers_left us vs label left o = record { step = o.step; among = among-left us vs o.step o.among; label_same = o.label_same; left_same = o.left_same }

  offers_right : (us vs : List Move) (label : Label) (left : Prog) → Offers vs label left → Offers (us ++ vs) label left
  offers_right us vs label left o = record { step = o.step; among = among-right us vs o.step o.among; label_same = o.label_same; left_same = o.left_same }

  offers_only : (b : Bool) (us : List Move) (label : Label) (left : Prog) → b ≡ true → Offers us label left → Offers (only_if b us) label left
  offers_only b us label left e o = record { step = o.step; among = among-only b us o.step e o.among; label_same = o.label_same; left_same = o.left_same }

  -- a step that leaves nothing
  offers_done : (done : Label) (label : Label) (left : Prog) → label ≡ done → left ≡ prog.Nil → Offers (plain_move done prog.Nil ∷ []) label left
  offers_done done label left e k = record { step = plain_move done prog.Nil; among = inl refl; label_same = sym e; left_same = v.of_nil ∙ sym k }

empty_unless : (us : List Move) → ((m : Move) → Among us m → ⊥) → is_empty us ≡ true
empty_unless [] h = refl
empty_unless (m ∷ us) h = absurd (h m (inl refl))

module _ (agent : Agent) (g : IsGuarded agent) (values world : Values) (known : KnownIsSo agent values world)
    (view : Prog → Prog) (v : View agent view) (claim : Claim) (blocks : Blocks) (world_blocks : BlockSteps) where
  -- so it is of blocks: a certain step of one is a step of the world, and such a step may be taken
  pub record BlocksAreSo : Type 0 where
    pub certain : (depth fuel : ℕ) (p : Prog) (rest : List Way) → claim.of_block depth fuel p rest → (move : Move)
        → Among (blocks Must depth fuel p rest) move → world_blocks depth fuel (view p) move.label (view move.left)
    pub possible : (depth fuel : ℕ) (p : Prog) (rest : List Way) → claim.of_block depth fuel p rest → (label : Label) (left : Prog)
        → world_blocks depth fuel (view p) label left → Offers agent view v (blocks May depth fuel p rest) label left

  abbrev height : Prog → ℕ
  height p = (front agent p).height

  abbrev u : ℕ → Mode → Prog → List Move
  u n = moves_to agent values blocks n

  abbrev t : ℕ → Prog → Steps
  t n = trans_to agent world world_blocks n

  abbrev Offered : List Move → Label → Prog → Type 0
  Offered = Offers agent view v

  abbrev LowBodies : Type 0
  LowBodies = (item : ℕ) (args : _) → height (body_of agent item args) ≤ (front_at (proc_fronts agent) item).height

  low_bodies : LowBodies
  low_bodies item args = let k = ap (λ (r : Front). r.height) ((bodies agent values Must g).front_is item args) in omega arith

  low_put : (p : Prog) (x c n : ℕ) → height p ≤ n → height (put_arg p x c) ≤ n
  low_put p x c n h = let e = ap (λ (k : Front). k.height) (put-same agent values Must p x c) in omega arith

  low_layer : (p : Prog) (n : ℕ) → height p ≤ n → (layer_front agent values Must (out-Prog p)).height ≤ n
  low_layer p n h = let k = ap (λ (r : Front). r.height) (front-out agent values Must p) in omega arith

  -- a second part that may step after an end leads no deeper
  low_second : (s : Bool) (h n : ℕ) → s ≡ true → (if s then h else 0) ≤ n → h ≤ n
  low_second true h n e l = l
  low_second false h n e l = absurd (cc)

  abbrev Certain : ℕ → Type 0
  Certain n = (p : Prog) → claim.of_prog p → height p ≤ n → (move : Move) → Among (u n Must p) move → t n (view p) move.label (view move.left)

  abbrev Possible : ℕ → Type 0
  Possible n = (p : Prog) → claim.of_prog p → height p ≤ n → (label : Label) (left : Prog) → t n (view p) label left → Offered (u n May p) label left

  ends : (n : ℕ) (p : Prog) → height p ≤ n → final_to agent values n Must p ≡ true → FinalW agent world (view p)
  ends n p h e =
      v.same_end world Must p ∙ final-follows agent values Must world Must (certain_follows agent values world known) p (sym (final-settled agent values g Must p n h) ∙ e)

  may_end : (n : ℕ) (p : Prog) → height p ≤ n → FinalW agent world (view p) → final_to agent values n May p ≡ true
  may_end n p h e =
      final-settled agent values g May p n h
      ∙ final-follows agent world Must values May (possible_follows agent values world known) p (sym (v.same_end world Must p) ∙ e)

  module _ (so : BlocksAreSo) where
    certain_step : (n : ℕ) → Certain n → Possible n → (l : Layer) → AtFront agent claim l → (layer_front agent values Must l).height ≤ suc n → (move : Move)
        → Among (moves_step agent values blocks (final_to agent values n) (u n) Must l) move → trans_step agent world world_blocks (t n) (viewed view l) move.label (view move.left)
    certain_step n hs hp Nil x h move k = absurd k
    certain_step n hs hp (Act action args) x h move k =
        let at = map (arg_value (env_of [])) args in
        let o = only-among (is_possible agent values Must action at) (plain_move (Do (action_no agent action at)) prog.Nil ∷ []) move k in
        let e = one_of (plain_move (Do (action_no agent action at)) prog.Nil) move o.1 in (
          is_possible-follows agent values Must world Must (certain_follows agent values world known) action at o.0,
          sym (ap (λ (m : Move). m.label) e),
          sym (ap (λ (m : Move). view m.left) e) ∙ v.of_nil,
        )
    certain_step n hs hp (Test c) x h move k =
        let o = only-among (is_so agent values Must c) (plain_move Quiet prog.Nil ∷ []) move k in
        let e = one_of (plain_move Quiet prog.Nil) move o.1 in
        ((certain_follows agent values world known).so c (env_of []) o.0, sym (ap (λ (m : Move). m.label) e), sym (ap (λ (m : Move). view m.left) e) ∙ v.of_nil)
    certain_step n hs hp (Seq p q) x h move k =
        elim (among-either (left_in (λ l. tidy_seq l q) (u n Must p)) (only_if (final_to agent values n Must p) (u n Must q)) move k) [
          | inl a ↦ inl (within_of agent view v (t n (view p)) (before agent view v q) (u n Must p) move a (hs p x.0 (omega arith)))
          | inr a ↦ (
              let o = only-among (final_to agent values n Must p) (u n Must q) move a in
              let f = final-skips agent values g Must p (sym (final-settled agent values g Must p n (omega arith)) ∙ o.0) in
              inr (ends n p (omega arith) o.0, hs q x.1 (low_second (front agent p).skip (height q) n f (omega arith)) move o.1))
        ]
    certain_step n hs hp (Choice p q) x h move k =
        elim (among-either (u n Must p) (u n Must q) move k) [ inl a ↦ inl (hs p x.0 (omega arith) move a) | inr a ↦ inr (hs q x.1 (omega arith) move a) ]
    certain_step n hs hp (Pick y sort p) x h move k =
        let c = among-flat (λ c. u n Must (put_arg p y c)) (range_with_len 0 (sort_size agent sort)) move k in
        let l : c.0 < sort_size agent sort = let r = range-among 0 (sort_size agent sort) c.0 c.1.0 in omega arith in
        (c.0, l, subst (λ z. t n z move.label (view move.left)) (v.of_put p y c.0) (hs (put_arg p y c.0) (x c.0 l) (low_put p y c.0 n (omega arith)) move c.1.1))
    certain_step n hs hp (Star p) x h move k = within_of agent view v (t n (view p)) (before_star agent view v p) (u n Must p) move k (hs p x (omega arith))
    certain_step n hs hp (If c p q) x h move k =
        elim (among-either (only_if (is_so agent values Must c) (u n Must p)) (only_if (is_not agent values Must c) (u n Must q)) move k) [
          | inl a ↦ (let o = only-among (is_so agent values Must c) (u n Must p) move a in inl ((certain_follows agent values world known).so c (env_of []) o.0, hs p x.0 (omega arith) move o.1))
          | inr a ↦ (let o = only-among (is_not agent values Must c) (u n Must q) move a in inr ((certain_follows agent values world known).not_so c (env_of []) o.0, hs q x.1 (omega arith) move o.1))
        ]
    certain_step n hs hp (While c p) x h move k =
        let o = only-among (is_so agent values Must c) (left_in (λ l. tidy_seq l (prog.While c p)) (u n Must p)) move k in
        ((certain_follows agent values world known).so c (env_of []) o.0, within_of agent view v (t n (view p)) (before_while agent view v c p) (u n Must p) move o.1 (hs p x (omega arith)))
    certain_step n hs hp (Conc p q) x h move k =
        elim (among-either (left_in (λ l. tidy_conc l q) (u n Must p)) (left_in (λ l. tidy_conc p l) (u n Must q)) move k) [
          | inl a ↦ inl (within_of agent view v (t n (view p)) (beside agent view v q) (u n Must p) move a (hs p x.0 (omega arith)))
          | inr a ↦ inr (within_of agent view v (t n (view q)) (beside_first agent view v p) (u n Must q) move a (hs q x.1 (omega arith)))
        ]
    certain_step n hs hp (Prio p q) x h move k =
        elim (among-either (left_in (λ l. tidy_prio l q) (u n Must p)) (only_if (is_empty (u n May p)) (left_in (λ l. tidy_prio p l) (u n Must q))) move k) [
          | inl a ↦ inl (within_of agent view v (t n (view p)) (over agent view v q) (u n Must p) move a (hs p x.0 (omega arith)))
          | inr a ↦ (
              let o = only-among (is_empty (u n May p)) (left_in (λ l. tidy_prio p l) (u n Must q)) move a in
              inr (
                (λ s. let r = hp p x.0 (omega arith) s.0 s.1 s.2 in let no = not_empty (u n May p) r.step r.among in let yes = o.0 in cc),
                within_of agent view v (t n (view q)) (under agent view v p) (u n Must q) move o.1 (hs q x.1 (omega arith)),
              ))
        ]
    certain_step n hs hp (Cstar p) x h move k = within_of agent view v (t n (view p)) (beside_cstar agent view v p) (u n Must p) move k (hs p x (omega arith))
    certain_step n hs hp (Call item args) x h move k =
        let b = low_bodies item args in
        subst (λ z. t n z move.label (view move.left)) (v.of_body item args) (hs (body_of agent item args) x (omega arith) move k)
    certain_step n hs hp (Search depth fuel p) x h move k = so.certain depth fuel p [] x move k
    certain_step n hs hp (Follow depth fuel p rest) x h move k = so.certain depth fuel p rest x move k

    possible_step : (n : ℕ) → Certain n → Possible n → (l : Layer) → AtFront agent claim l → (layer_front agent values Must l).height ≤ suc n → (label : Label) (left : Prog)
        → trans_step agent world world_blocks (t n) (viewed view l) label left → Offered (moves_step agent values blocks (final_to agent values n) (u n) May l) label left
    possible_step n hs hp Nil x h label left k = absurd k
    possible_step n hs hp (Act action args) x h label left k =
        let at = map (arg_value (env_of [])) args in
        offers_only agent view v (is_possible agent values May action at) (plain_move (Do (action_no agent action at)) prog.Nil ∷ []) label left
        (is_possible-follows agent world Must values May (possible_follows agent values world known) action at k.0)
        (offers_done agent view v (Do (action_no agent action at)) label left k.1 k.2)
    possible_step n hs hp (Test c) x h label left k =
        offers_only agent view v (is_so agent values May c) (plain_move Quiet prog.Nil ∷ []) label left ((possible_follows agent values world known).so c (env_of []) k.0)
        (offers_done agent view v Quiet label left k.1 k.2)
    possible_step n hs hp (Seq p q) x h label left (inl w) =
        offers_left agent view v (left_in (λ l. tidy_seq l q) (u n May p)) (only_if (final_to agent values n May p) (u n May q)) label left
        (offers_within agent view v (t n (view p)) (before agent view v q) (u n May p) label left w (hp p x.0 (omega arith)))
    possible_step n hs hp (Seq p q) x h label left (inr w) =
        let f = final-skips agent world g Must p (sym (v.same_end world Must p) ∙ w.0) in
        offers_right agent view v (left_in (λ l. tidy_seq l q) (u n May p)) (only_if (final_to agent values n May p) (u n May q)) label left
        (offers_only agent view v (final_to agent values n May p) (u n May q) label left (may_end n p (omega arith) w.0)
        (hp q x.1 (low_second (front agent p).skip (height q) n f (omega arith)) label left w.1))
    possible_step n hs hp (Choice p q) x h label left (inl w) = offers_left agent view v (u n May p) (u n May q) label left (hp p x.0 (omega arith) label left w)
    possible_step n hs hp (Choice p q) x h label left (inr w) = offers_right agent view v (u n May p) (u n May q) label left (hp q x.1 (omega arith) label left w)
    possible_step n hs hp (Pick y sort p) x h label left k =
        let o = hp (put_arg p y k.0) (x k.0 k.1) (low_put p y k.0 n (omega arith)) label left (subst (λ z. t n z label left) (sym (v.of_put p y k.0)) k.2) in
        record {
          step = o.step;
          among = flat-among (λ c. u n May (put_arg p y c)) (range_with_len 0 (sort_size agent sort)) k.0 o.step (let l = k.1 in among-range 0 (sort_size agent sort) k.0 (omega arith) (omega arith)) o.among;
          label_same = o.label_same;
          left_same = o.left_same;
        }
    possible_step n hs hp (Star p) x h label left k = offers_within agent view v (t n (view p)) (before_star agent view v p) (u n May p) label left k (hp p x (omega arith))
    possible_step n hs hp (If c p q) x h label left (inl w) =
        offers_left agent view v (only_if (is_so agent values May c) (u n May p)) (only_if (is_not agent values May c) (u n May q)) label left
        (offers_only agent view v (is_so agent values May c) (u n May p) label left ((possible_follows agent values world known).so c (env_of []) w.0) (hp p x.0 (omega arith) label left w.1))
    possible_step n hs hp (If c p q) x h label left (inr w) =
        offers_right agent view v (only_if (is_so agent values May c) (u n May p)) (only_if (is_not agent values May c) (u n May q)) label left
        (offers_only agent view v (is_not agent values May c) (u n May q) label left ((possible_follows agent values world known).not_so c (env_of []) w.0) (hp q x.1 (omega arith) label left w.1))
    possible_step n hs hp (While c p) x h label left k =
        offers_only agent view v (is_so agent values May c) (left_in (λ l. tidy_seq l (prog.While c p)) (u n May p)) label left ((possible_follows agent values world known).so c (env_of []) k.0)
        (offers_within agent view v (t n (view p)) (before_while agent view v c p) (u n May p) label left k.1 (hp p x (omega arith)))
    possible_step n hs hp (Conc p q) x h label left (inl w) =
        offers_left agent view v (left_in (λ l. tidy_conc l q) (u n May p)) (left_in (λ l. tidy_conc p l) (u n May q)) label left
        (offers_within agent view v (t n (view p)) (beside agent view v q) (u n May p) label left w (hp p x.0 (omega arith)))
    possible_step n hs hp (Conc p q) x h label left (inr w) =
        offers_right agent view v (left_in (λ l. tidy_conc l q) (u n May p)) (left_in (λ l. tidy_conc p l) (u n May q)) label left
        (offers_within agent view v (t n (view q)) (beside_first agent view v p) (u n May q) label left w (hp q x.1 (omega arith)))
    possible_step n hs hp (Prio p q) x h label left (inl w) =
        offers_left agent view v (left_in (λ l. tidy_prio l q) (u n May p)) (only_if (is_empty (u n Must p)) (left_in (λ l. tidy_prio p l) (u n May q))) label left
        (offers_within agent view v (t n (view p)) (over agent view v q) (u n May p) label left w (hp p x.0 (omega arith)))
    possible_step n hs hp (Prio p q) x h label left (inr w) =
        offers_right agent view v (left_in (λ l. tidy_prio l q) (u n May p)) (only_if (is_empty (u n Must p)) (left_in (λ l. tidy_prio p l) (u n May q))) label left
        (offers_only agent view v (is_empty (u n Must p)) (left_in (λ l. tidy_prio p l) (u n May q)) label left
        (empty_unless (u n Must p) (λ m a. w.0 (m.label, view m.left, hs p x.0 (omega arith) m a)))
        (offers_within agent view v (t n (view q)) (under agent view v p) (u n May q) label left w.1 (hp q x.1 (omega arith))))
    possible_step n hs hp (Cstar p) x h label left k = offers_within agent view v (t n (view p)) (beside_cstar agent view v p) (u n May p) label left k (hp p x (omega arith))
    possible_step n hs hp (Call item args) x h label left k =
        let b = low_bodies item args in
        hp (body_of agent item args) x (omega arith) label left (subst (λ z. t n z label left) (sym (v.of_body item args)) k)
    possible_step n hs hp (Search depth fuel p) x h label left k = so.possible depth fuel p [] x label left k
    possible_step n hs hp (Follow depth fuel p rest) x h label left k = so.possible depth fuel p rest x label left k

    module _ (go : GoesOn agent claim) where
      -- both at once, since the lower part of a `prio` asks for the other
      both : (n : ℕ) → Certain n × Possible n
      both zero = ((λ p x h move k. absurd k), (λ p x h label left k. absurd k))
      both (suc n) =
          let r = both n in (
            (λ p x h move k.
                subst (λ (T : Type 0). T) (sym (v.of_level world world_blocks (t n) p move.label (view move.left)))
                (certain_step n r.0 r.1 (out-Prog p) (go.parts p x) (low_layer p (suc n) h) move k)),
            (λ p x h label left k.
                possible_step n r.0 r.1 (out-Prog p) (go.parts p x) (low_layer p (suc n) h) label left
                (subst (λ (T : Type 0). T) (v.of_level world world_blocks (t n) p label left) k)),
          )

      same_height : (p : Prog) → height (view p) ≡ height p
      same_height p = ap (λ (f : Front). f.height) (v.same_front p)

      pub certain_so : (p : Prog) → claim.of_prog p → (move : Move) → Among (moves_with agent blocks values Must p) move → trans_with agent world world_blocks (view p) move.label (view move.left)
      certain_so p x move a = subst (λ n. t n (view p) move.label (view move.left)) (sym (same_height p)) ((both (height p)).0 p x (omega arith) move a)

      pub possible_so : (p : Prog) → claim.of_prog p → (label : Label) (left : Prog) → trans_with agent world world_blocks (view p) label left → Offered (moves_with agent blocks values May p) label left
      possible_so p x label left k = (both (height p)).1 p x (omega arith) label left (subst (λ n. t n (view p) label left) (same_height p) k)

      pub certain_end : (p : Prog) → final agent values Must p ≡ true → FinalW agent world (view p)
      certain_end p e = v.same_end world Must p ∙ final-follows agent values Must world Must (certain_follows agent values world known) p e

      pub possible_end : (p : Prog) → FinalW agent world (view p) → final agent values May p ≡ true
      possible_end p e = final-follows agent world Must values May (possible_follows agent values world known) p (sym (v.same_end world Must p) ∙ e)
