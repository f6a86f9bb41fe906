-- The ways of a program by those of its parts.
use Rattle.std.specs.Prelude.{◌≡◌, ℕ, Bool, true, false, if◌then◌else◌, List, [], ◌∷◌, ◌++◌, map}
use Rattle.std.specs.List.{flat_map}
use Rattle.std.proofs.Common.{refl, sym, ap, ◌∙◌}
use Rattle.golog_tree.specs.declared.agent.Agent.{Agent}
use Rattle.golog_tree.specs.declared.prog.Prog.{Prog}
use Rattle.golog_tree.specs.declared.prog.Way.{Way}
use Rattle.golog_tree.specs.declared.prog.Label.TheVariants.{Quiet, Do}
use Rattle.golog_tree.specs.declared.prog.Prog.TheOpen.{Nil, Act, Test, Seq, Choice, Pick, Star, If, While, Conc, Prio, Cstar, Call, Search, Follow}
use Rattle.golog_tree.specs.declared.prog.Prog.TheVariants as prog
use Rattle.golog_tree.specs.declared.prog.Prog.TheViews.{out-Prog}
use Rattle.golog_tree.specs.Tidy.{Layer, tidy_seq, tidy_conc, tidy_prio}
use Rattle.golog_semantics.specs.declared.Mode.{Mode}
use Rattle.golog_semantics.specs.declared.search.Move.{Move}
use Rattle.golog_semantics.specs.Modes.{flip}
use Rattle.golog_semantics.specs.Truth.{Values, constants, env_of, arg_value}
use Rattle.golog_tree.specs.Ground.{action_no}
use Rattle.golog_semantics.specs.Values.{is_possible}
use Rattle.golog_semantics.specs.Program.{put_arg, body_of}
use Rattle.golog_semantics.specs.Ways.{moves_step, left_in, only_if, is_empty, is_so, is_not, way_of}
use Rattle.golog_semantics.specs.Search.{final, no_blocks, plain_ways}
use Rattle.golog_semantics.specs.Moves.{plain_moves}
use Rattle.golog_semantics.specs.Guarded.{IsGuarded}
use Rattle.golog_semantics.proofs.Unfolded.{moves-out}

-- a step with its left put into a context
abbrev pub way_in : (Prog → Prog) → Way → Way
way_in context w = record { label = w.label; left = context w.left }

-- these ways where the test holds, else none
abbrev pub ways_if : Bool → List Way → List Way
ways_if b ws = if b then ws else []

append : (xs ys : List Move) → map way_of (xs ++ ys) ≡ map way_of xs ++ map way_of ys
append [] ys = refl
append (x ∷ xs) ys = ap (λ ws. way_of x ∷ ws) (append xs ys)

left : (f : Prog → Prog) (xs : List Move) → map way_of (left_in f xs) ≡ map (way_in f) (map way_of xs)
left f [] = refl
left f (x ∷ xs) = ap (λ ws. way_in f (way_of x) ∷ ws) (left f xs)

only : (b : Bool) (xs : List Move) → map way_of (only_if b xs) ≡ ways_if b (map way_of xs)
only true xs = refl
only false xs = refl

empty : (xs : List Move) → is_empty xs ≡ is_empty (map way_of xs)
empty [] = refl
empty (x ∷ xs) = refl

unless : (xs ys : List Move) → map way_of (only_if (is_empty xs) ys) ≡ ways_if (is_empty (map way_of xs)) (map way_of ys)
unless [] ys = refl
unless (x ∷ xs) ys = refl

flat : (f : ℕ → List Move) (cs : List ℕ) → map way_of (flat_map f cs) ≡ flat_map (λ c. map way_of (f c)) cs
flat f [] = refl
flat f (c ∷ cs) = append (f c) (flat_map f cs) ∙ ap (λ ws. map way_of (f c) ++ ws) (flat f cs)

module _ (agent : Agent) (values : Values) where
  -- the ways of one level of a program, given Final and the ways of the parts
  abbrev pub ways_step : (Mode → Prog → Bool) → (Mode → Prog → List Way) → Mode → Layer → List Way
  ways_step final ways m Nil = []
  ways_step final ways m (Act action args) =
      let at = map (arg_value (env_of [])) args in
      ways_if (is_possible agent values m action at) (record { label = Do (action_no agent action at); left = prog.Nil } ∷ [])
  ways_step final ways m (Test c) = ways_if (is_so agent values m c) (record { label = Quiet; left = prog.Nil } ∷ [])
  ways_step final ways m (Seq p q) = map (way_in (λ l. tidy_seq l q)) (ways m p) ++ ways_if (final m p) (ways m q)
  ways_step final ways m (Choice p q) = ways m p ++ ways m q
  ways_step final ways m (Pick x sort p) = flat_map (λ c. ways m (put_arg p x c)) (constants agent sort)
  ways_step final ways m (Star p) = map (way_in (λ l. tidy_seq l (prog.Star p))) (ways m p)
  ways_step final ways m (If c p q) = ways_if (is_so agent values m c) (ways m p) ++ ways_if (is_not agent values m c) (ways m q)
  ways_step final ways m (While c p) = ways_if (is_so agent values m c) (map (way_in (λ l. tidy_seq l (prog.While c p))) (ways m p))
  ways_step final ways m (Conc p q) = map (way_in (λ l. tidy_conc l q)) (ways m p) ++ map (way_in (λ l. tidy_conc p l)) (ways m q)
  ways_step final ways m (Prio p q) =
      map (way_in (λ l. tidy_prio l q)) (ways m p) ++ ways_if (is_empty (ways (flip m) p)) (map (way_in (λ l. tidy_prio p l)) (ways m q))
  ways_step final ways m (Cstar p) = map (way_in (λ l. tidy_conc l (prog.Cstar p))) (ways m p)
  ways_step final ways m (Call item args) = ways m (body_of agent item args)
  ways_step final ways m (Search depth fuel p) = []
  ways_step final ways m (Follow depth fuel p rest) = []

  ways-layer : (final : Mode → Prog → Bool) (moves : Mode → Prog → List Move) (m : Mode) (l : Layer)
      → map way_of (moves_step agent values no_blocks final moves m l) ≡ ways_step final (λ k p. map way_of (moves k p)) m l
  ways-layer final moves m Nil = refl
  ways-layer final moves m (Act action args) = only (is_possible agent values m action (map (arg_value (env_of [])) args)) _
  ways-layer final moves m (Test c) = only (is_so agent values m c) _
  ways-layer final moves m (Seq p q) = simp (append, left, only)
  ways-layer final moves m (Choice p q) = append _ _
  ways-layer final moves m (Pick x sort p) = flat (λ c. moves m (put_arg p x c)) (constants agent sort)
  ways-layer final moves m (Star p) = left _ _
  ways-layer final moves m (If c p q) = simp (append, only)
  ways-layer final moves m (While c p) = simp (only, left)
  ways-layer final moves m (Conc p q) = simp (append, left)
  ways-layer final moves m (Prio p q) = simp (append, left, unless)
  ways-layer final moves m (Cstar p) = left _ _
  ways-layer final moves m (Call item args) = refl
  ways-layer final moves m (Search depth fuel p) = refl
  ways-layer final moves m (Follow depth fuel p rest) = refl

  ways-out : IsGuarded agent → (m : Mode) (p : Prog) → plain_ways agent values m p ≡ ways_step (final agent values) (plain_ways agent values) m (out-Prog p)
  unfolding plain_ways plain_moves
  ways-out g m p = ap (λ ms. map way_of ms) (moves-out agent values g m p) ∙ ways-layer (final agent values) (plain_moves agent values) m (out-Prog p)

  -- the ways by one level of a program
  pub ways-by : IsGuarded agent → (m : Mode) (p : Prog) (l : Layer) → out-Prog p ≡ l → plain_ways agent values m p ≡ ways_step (final agent values) (plain_ways agent values) m l
  ways-by g m p l e = ways-out g m p ∙ ap (ways_step (final agent values) (plain_ways agent values) m) e
