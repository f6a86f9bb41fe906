-- What a step of a steady program leaves nests no deeper than that program.
use Rattle.std.proofs.Common.{◌≡◌, ℕ, zero, suc, ◌+◌, ◌≤◌, max, Bool, true, false, if◌then◌else◌, List, [], ◌∷◌, ◌++◌, map, Option, Some, None, refl, sym, ap, ◌∙◌, subst, arith}
use Rattle.std.specs.Prelude.{◌&&◌, ◌||◌}
use Rattle.std.specs.Option.{is_some}
use Rattle.golog_tree.specs.declared.agent.Agent.{Agent}
use Rattle.golog_tree.specs.declared.cond.Cond.{Cond}
use Rattle.golog_tree.specs.declared.prog.Label.TheVariants.{Quiet, Do}
use Rattle.golog_tree.specs.declared.prog.Prog.{Prog}
use Rattle.golog_tree.specs.declared.prog.Prog.TheOpen.{Nil, Act, Test, Seq, Choice, Pick, Star, If, While, Conc, Prio, Cstar, Call, Search, Follow}
use Rattle.golog_tree.specs.declared.prog.Prog.TheVariants as prog
use Rattle.golog_tree.specs.declared.prog.Prog.TheViews.{out-Prog}
use Rattle.golog_tree.specs.declared.prog.Prog.TheFolds.{fold_out-Prog, fold-Way, map-Prog}
use Rattle.golog_tree.specs.declared.prog.Way.{Way}
use Rattle.golog_tree.specs.Ground.{action_no}
use Rattle.golog_tree.specs.Nest.{nest, nest_step}
use Rattle.golog_tree.specs.Tidy.{Layer, tidy_conc, tidy_pair, tidy_prio, tidy_right, tidy_seq}
use Rattle.golog_semantics.specs.declared.Mode.{Mode}
use Rattle.golog_semantics.specs.declared.Mode.TheVariants.{Must}
use Rattle.golog_semantics.specs.Search.{nest_limit}
use Rattle.golog_ways.specs.First.{head_of}
use Rattle.golog_ways.specs.FirstMove.{first_move}
use Rattle.golog_semantics.specs.declared.search.Move.{Move}
use Rattle.golog_semantics.specs.Modes.{flip}
use Rattle.golog_semantics.specs.Truth.{Values, arg_value, env_of}
use Rattle.golog_semantics.specs.Values.{is_possible}
use Rattle.golog_semantics.specs.Blocks.{block_moves}
use Rattle.golog_semantics.specs.Guarded.{front}
use Rattle.golog_semantics.specs.Ways.{Blocks, final_step, final_to, is_empty, is_not, is_so, left_in, moves_step, moves_to, only_if, plain_move}
use Rattle.golog_semantics.proofs.ByParts as parts
use Rattle.golog_semantics.proofs.ByParts.{OfEach}
use Rattle.golog_semantics.proofs.PlainLaws.{is_nil, left_by_nil, right_by_nil}
use Rattle.golog_semantics.proofs.StepsFit.{each-append}
use Rattle.golog_search.specs.Steady.{before, beside, steady, steady_step}

-- ---- nests of programs that are put together

if-nest : (b : Bool) (p q : Prog) (most : ℕ) → nest p ≤ most → nest q ≤ most → nest (if b then p else q) ≤ most
if-nest true p q most h k = h
if-nest false p q most h k = k

abbrev over : ℕ → ℕ → ℕ
over a b = 1 + max a b

seq-nest : (p q : Prog) → nest (tidy_seq p q) ≤ over (nest p) (nest q)
seq-nest p q =
    subst (λ r. nest r ≤ over (nest p) (nest q)) (sym (left_by_nil prog.Seq (out-Prog p) p q))
    (if-nest (is_nil p) q (prog.Seq p q) (over (nest p) (nest q)) (omega arith)
    (let e = parts.fold-seq ℕ ℕ nest_step (λ _. 0) p q in omega (arith, e)))

pair-nest : (join : Prog → Prog → Prog) → ((p q : Prog) → nest (join p q) ≡ over (nest p) (nest q)) → (p q : Prog) → nest (tidy_pair join p q) ≤ over (nest p) (nest q)
pair-nest join j p q =
    subst (λ r. nest r ≤ over (nest p) (nest q)) (sym (left_by_nil (tidy_right join (out-Prog q)) (out-Prog p) p q))
    (if-nest (is_nil p) q (tidy_right join (out-Prog q) p q) (over (nest p) (nest q)) (omega arith)
    (subst (λ r. nest r ≤ over (nest p) (nest q)) (sym (right_by_nil join (out-Prog q) p q))
    (if-nest (is_nil q) p (join p q) (over (nest p) (nest q)) (omega arith) (let e = j p q in omega (arith, e)))))

conc-nest : (p q : Prog) → nest (tidy_conc p q) ≤ over (nest p) (nest q)
conc-nest = pair-nest prog.Conc (parts.fold-conc ℕ ℕ nest_step (λ _. 0))

prio-nest : (p q : Prog) → nest (tidy_prio p q) ≤ over (nest p) (nest q)
prio-nest = pair-nest prog.Prio (parts.fold-prio ℕ ℕ nest_step (λ _. 0))

-- ---- steps

-- each of these steps leaves a program that nests no deeper
abbrev NestsTo : ℕ → List Move → Type 0
NestsTo most = OfEach (λ (k : Move). nest k.left ≤ most)

deeper : (few most : ℕ) → few ≤ most → (ks : List Move) → NestsTo few ks → NestsTo most ks
deeper few most le [] h = tt
deeper few most le (k ∷ ks) h = (omega (arith, h.0, le), deeper few most le ks h.1)

in-nests : (context : Prog → Prog) (few most : ℕ) → ((l : Prog) → nest l ≤ few → nest (context l) ≤ most) → (ks : List Move) → NestsTo few ks → NestsTo most (left_in context ks)
in-nests context few most h [] k = tt
in-nests context few most h (move ∷ ks) k = (h move.left k.0, in-nests context few most h ks k.1)

if-nests : (b : Bool) (most : ℕ) (ks : List Move) → NestsTo most ks → NestsTo most (only_if b ks)
if-nests true most ks h = h
if-nests false most ks h = tt

none-nests : (b : Bool) (most : ℕ) (ks : List Move) → b ≡ false → NestsTo most (only_if b ks)
none-nests true most ks e = absurd (cc)
none-nests false most ks e = tt

both-nests : (most : ℕ) (ks others : List Move) → NestsTo most ks → NestsTo most others → NestsTo most (ks ++ others)
both-nests most = each-append (λ (k : Move). nest k.left ≤ most)

first-false : (a b : Bool) → a ≡ false → (a && b) ≡ false
first-false false b e = refl
first-false true b e = absurd (cc)

second-false : (a b : Bool) → b ≡ false → (a && b) ≡ false
second-false false b e = refl
second-false true b e = e

neither-of : (a b : Bool) → (a || b) ≡ false → (a ≡ false) × (b ≡ false)
neither-of false b e = (refl, e)
neither-of true b e = absurd (cc)

-- two answers that are joined
record BothSo (join : Bool → Bool → Bool) (s t : Option Bool) (b : Bool) : Type 0 where
  one : Bool
  other : Bool
  first : s ≡ Some one
  second : t ≡ Some other
  joined : join one other ≡ b

neither : (a b : Bool) → a ≡ false → b ≡ false → (a || b) ≡ false
neither false b h e = e
neither true b h e = absurd (cc)

module _ (agent : Agent) (values : Values) (blocks : Blocks) (f : Mode → Prog → Bool) (u : Mode → Prog → List Move) where
  -- the steps leave programs that nest no deeper, and it does not end where it may not
  record Steadily (p : Prog) (b : Bool) : Type 0 where
    lefts : (m : Mode) → NestsTo (nest p) (u m p)
    goes_on : b ≡ false → (m : Mode) → f m p ≡ false

  -- the same of one level
  record LevelSteadily (l : Layer) (most : ℕ) (b : Bool) : Type 0 where
    lefts : (m : Mode) → NestsTo most (moves_step agent values blocks f u m l)
    goes_on : b ≡ false → (m : Mode) → final_step agent values f m l ≡ false

  module _ (parts_so : (q : Prog) (b : Bool) → steady q ≡ Some b → Steadily q b) where
    seq-steady : (p q : Prog) (s : Option Bool) → steady p ≡ s → (b : Bool) → before s (steady q) ≡ Some b → LevelSteadily (Seq p q) (over (nest p) (nest q)) b
    seq-steady p q None is b e = absurd (cc)
    seq-steady p q (Some false) is b e =
        let h = parts_so p false is in record {
          lefts = λ m. both-nests (over (nest p) (nest q)) (left_in (λ l. tidy_seq l q) (u m p)) (only_if (f m p) (u m q))
              (in-nests (λ l. tidy_seq l q) (nest p) (over (nest p) (nest q)) (λ l le. let k = seq-nest l q in omega (arith, k, le)) (u m p) (h.lefts m))
              (none-nests (f m p) (over (nest p) (nest q)) (u m q) (h.goes_on refl m));
          goes_on = λ _ m. first-false (f m p) (f m q) (h.goes_on refl m);
        }
    seq-steady p q (Some true) is b e =
        let h = parts_so p true is in
        let k = parts_so q b e in record {
          lefts = λ m. both-nests (over (nest p) (nest q)) (left_in (λ l. tidy_seq l q) (u m p)) (only_if (f m p) (u m q))
              (in-nests (λ l. tidy_seq l q) (nest p) (over (nest p) (nest q)) (λ l le. let j = seq-nest l q in omega (arith, j, le)) (u m p) (h.lefts m))
              (if-nests (f m p) (over (nest p) (nest q)) (u m q) (deeper (nest q) (over (nest p) (nest q)) (omega arith) (u m q) (k.lefts m)));
          goes_on = λ none m. second-false (f m p) (f m q) (k.goes_on none m);
        }

    -- two steady programs
    both-steady : (join : Bool → Bool → Bool) (s t : Option Bool) (b : Bool) → beside join s t ≡ Some b → BothSo join s t b
    both-steady join None t b e = absurd (cc)
    both-steady join (Some one) None b e = absurd (cc)
    both-steady join (Some one) (Some other) b e = record { one = one; other = other; first = refl; second = refl; joined = cc }

    choice-steady : (p q : Prog) (b : Bool) → beside (λ a b. a || b) (steady p) (steady q) ≡ Some b → LevelSteadily (Choice p q) (over (nest p) (nest q)) b
    choice-steady p q b e =
        let s = both-steady (λ a b. a || b) (steady p) (steady q) b e in
        let h = parts_so p s.one s.first in
        let k = parts_so q s.other s.second in record {
          lefts = λ m. both-nests (over (nest p) (nest q)) (u m p) (u m q)
              (deeper (nest p) (over (nest p) (nest q)) (omega arith) (u m p) (h.lefts m)) (deeper (nest q) (over (nest p) (nest q)) (omega arith) (u m q) (k.lefts m));
          goes_on = λ none m.
              let n = neither-of s.one s.other (s.joined ∙ none) in
              neither (f m p) (f m q) (h.goes_on n.0 m) (k.goes_on n.1 m);
        }

    if-steady : (c : Cond) (p q : Prog) (b : Bool) → beside (λ a b. a || b) (steady p) (steady q) ≡ Some b → LevelSteadily (If c p q) (over (nest p) (nest q)) b
    if-steady c p q b e =
        let s = both-steady (λ a b. a || b) (steady p) (steady q) b e in
        let h = parts_so p s.one s.first in
        let k = parts_so q s.other s.second in record {
          lefts = λ m. both-nests (over (nest p) (nest q)) (only_if (is_so agent values m c) (u m p)) (only_if (is_not agent values m c) (u m q))
              (if-nests (is_so agent values m c) (over (nest p) (nest q)) (u m p) (deeper (nest p) (over (nest p) (nest q)) (omega arith) (u m p) (h.lefts m)))
              (if-nests (is_not agent values m c) (over (nest p) (nest q)) (u m q) (deeper (nest q) (over (nest p) (nest q)) (omega arith) (u m q) (k.lefts m)));
          goes_on = λ none m.
              let n = neither-of s.one s.other (s.joined ∙ none) in
              neither (is_so agent values m c && f m p) (is_not agent values m c && f m q)
              (second-false (is_so agent values m c) (f m p) (h.goes_on n.0 m)) (second-false (is_not agent values m c) (f m q) (k.goes_on n.1 m));
        }

    -- the steps of the first part beside the second, and of the second beside the first
    left-nests : (tidy : Prog → Prog → Prog) → ((p q : Prog) → nest (tidy p q) ≤ over (nest p) (nest q)) → (p q : Prog) (ks : List Move) → NestsTo (nest p) ks
        → NestsTo (over (nest p) (nest q)) (left_in (λ l. tidy l q) ks)
    left-nests tidy t p q = in-nests (λ l. tidy l q) (nest p) (over (nest p) (nest q)) (λ l le. let k = t l q in omega (arith, k, le))

    right-nests : (tidy : Prog → Prog → Prog) → ((p q : Prog) → nest (tidy p q) ≤ over (nest p) (nest q)) → (p q : Prog) (ks : List Move) → NestsTo (nest q) ks
        → NestsTo (over (nest p) (nest q)) (left_in (λ l. tidy p l) ks)
    right-nests tidy t p q = in-nests (λ l. tidy p l) (nest q) (over (nest p) (nest q)) (λ l le. let k = t p l in omega (arith, k, le))

    both-end : (p q : Prog) (one other b : Bool) → Steadily p one → Steadily q other → (one && other) ≡ b → b ≡ false → (m : Mode) → (f m p && f m q) ≡ false
    both-end p q false other b h k e none m = first-false (f m p) (f m q) (h.goes_on refl m)
    both-end p q true other b h k e none m = second-false (f m p) (f m q) (k.goes_on (e ∙ none) m)

    conc-steady : (p q : Prog) (b : Bool) → beside (λ a b. a && b) (steady p) (steady q) ≡ Some b → LevelSteadily (Conc p q) (over (nest p) (nest q)) b
    conc-steady p q b e =
        let s = both-steady (λ a b. a && b) (steady p) (steady q) b e in
        let h = parts_so p s.one s.first in
        let k = parts_so q s.other s.second in record {
          lefts = λ m. both-nests (over (nest p) (nest q)) (left_in (λ l. tidy_conc l q) (u m p)) (left_in (λ l. tidy_conc p l) (u m q))
              (left-nests tidy_conc conc-nest p q (u m p) (h.lefts m)) (right-nests tidy_conc conc-nest p q (u m q) (k.lefts m));
          goes_on = both-end p q s.one s.other b h k s.joined;
        }

    prio-steady : (p q : Prog) (b : Bool) → beside (λ a b. a && b) (steady p) (steady q) ≡ Some b → LevelSteadily (Prio p q) (over (nest p) (nest q)) b
    prio-steady p q b e =
        let s = both-steady (λ a b. a && b) (steady p) (steady q) b e in
        let h = parts_so p s.one s.first in
        let k = parts_so q s.other s.second in record {
          lefts = λ m. both-nests (over (nest p) (nest q)) (left_in (λ l. tidy_prio l q) (u m p)) (only_if (is_empty (u (flip m) p)) (left_in (λ l. tidy_prio p l) (u m q)))
              (left-nests tidy_prio prio-nest p q (u m p) (h.lefts m))
              (if-nests (is_empty (u (flip m) p)) (over (nest p) (nest q)) (left_in (λ l. tidy_prio p l) (u m q)) (right-nests tidy_prio prio-nest p q (u m q) (k.lefts m)));
          goes_on = both-end p q s.one s.other b h k s.joined;
        }

    nil-nest : nest prog.Nil ≤ 1
    nil-nest = let e = parts.fold-nil ℕ ℕ nest_step (λ _. 0) in omega (arith, e)

    level : (l : Layer) (b : Bool) → steady_step (map-Prog Prog Way (Option Bool) ℕ steady (fold-Way (Option Bool) ℕ steady_step (λ _. 0)) l) ≡ Some b
        → LevelSteadily l (nest_step (map-Prog Prog Way ℕ ℕ nest (fold-Way ℕ ℕ nest_step (λ _. 0)) l)) b
    level Nil b e = record { lefts = λ m. tt; goes_on = λ none m. absurd (cc) }
    level (Act action args) b e = record {
      lefts = λ m. if-nests (is_possible agent values m action (map (arg_value (env_of [])) args)) 1 (plain_move (Do (action_no agent action (map (arg_value (env_of [])) args))) prog.Nil ∷ []) (nil-nest, tt);
      goes_on = λ none m. refl;
    }
    level (Test c) b e = record { lefts = λ m. if-nests (is_so agent values m c) 1 (plain_move Quiet prog.Nil ∷ []) (nil-nest, tt); goes_on = λ none m. refl }
    level (Seq p q) b e = seq-steady p q (steady p) refl b e
    level (Choice p q) b e = choice-steady p q b e
    level (Pick x sort p) b e = absurd (cc)
    level (Star p) b e = absurd (cc)
    level (If c p q) b e = if-steady c p q b e
    level (While c p) b e = absurd (cc)
    level (Conc p q) b e = conc-steady p q b e
    level (Prio p q) b e = prio-steady p q b e
    level (Cstar p) b e = absurd (cc)
    level (Call item args) b e = absurd (cc)
    level (Search depth fuel p) b e = absurd (cc)
    level (Follow depth fuel p rest) b e = absurd (cc)

module _ (agent : Agent) (values : Values) (blocks : Blocks) where
  steadily : (n : ℕ) (p : Prog) (b : Bool) → steady p ≡ Some b → Steadily agent values blocks (final_to agent values n) (moves_to agent values blocks n) p b
  steadily zero p b e = record { lefts = λ m. tt; goes_on = λ none m. refl }
  steadily (suc n) p b e =
      let is = fold_out-Prog (Option Bool) ℕ steady_step (λ _. 0) p in
      let deep = fold_out-Prog ℕ ℕ nest_step (λ _. 0) p in
      let h = level agent values blocks (final_to agent values n) (moves_to agent values blocks n) (steadily n) (out-Prog p) b (sym is ∙ e) in record {
        lefts = λ m. subst (λ most. NestsTo most (moves_to agent values blocks (suc n) m p)) (sym deep) (h.lefts m);
        goes_on = λ none m. h.goes_on none m;
      }

head-nests : (most : ℕ) (ks : List Move) (step : Move) → NestsTo most ks → Some step ≡ head_of ks → nest step.left ≤ most
head-nests most [] step h e = absurd (cc)
head-nests most (k ∷ ks) step h e = let is : step ≡ k = cc in subst (λ (s : Move). nest s.left ≤ most) (sym is) h.0

-- the first step of a steady program that nests no deeper than the limit leaves one that doesn't
pub first-shallow : (agent : Agent) (values : Values) (p : Prog) → (is_some (steady p) ≡ true) × (nest p ≤ nest_limit) → (step : Move)
    → Some step ≡ first_move agent (block_moves agent values) values p → nest step.left ≤ nest_limit
unfolding first_move
first-shallow agent values p so step first = go (steady p) refl so.0
  where
    go : (s : Option Bool) → steady p ≡ s → is_some s ≡ true → nest step.left ≤ nest_limit
    go None is some = absurd (cc)
    go (Some b) is some =
        let h = head-nests (nest p) (moves_to agent values (block_moves agent values) (front agent p).height Must p) step
        ((steadily agent values (block_moves agent values) (front agent p).height p b is).lefts Must) first in
        omega (arith, h, so.1)
