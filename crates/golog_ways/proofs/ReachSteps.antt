-- In which modes a program has a step, by its parts, where a search block's own steps are told.
use Rattle.std.proofs.Common.{◌≡◌, ℕ, ◌+◌, ◌-◌, ◌<◌, ◌≤◌, Bool, true, false, ◌&&◌, ◌||◌, List, [], ◌∷◌, ◌++◌, map, refl, sym, ap, ◌∙◌, subst, arith}
use Rattle.std.specs.Prelude.{Result, Ok, Err, IfOk, not}
use Rattle.std.specs.List.{list_any, flat_map}
use Rattle.golog_base.proofs.Bools.{or-false}
use Rattle.golog_tree.specs.declared.agent.Agent.{Agent}
use Rattle.golog_tree.specs.declared.cond.Arg.{Arg}
use Rattle.golog_tree.specs.declared.cond.Cond.{Cond}
use Rattle.golog_tree.specs.declared.cond.Truth.{Truth}
use Rattle.golog_tree.specs.declared.cond.Truth.TheVariants.{Yes, Unknown}
use Rattle.golog_tree.specs.declared.prog.Prog.{Prog}
use Rattle.golog_tree.specs.declared.prog.Way.{Way}
use Rattle.golog_tree.specs.declared.prog.Prog.TheOpen.{Nil, Act, Test, Seq, Choice, Pick, Star, If, While, Conc, Prio, Cstar, Call, Search, Follow}
use Rattle.golog_tree.specs.declared.prog.Prog.TheVariants as prog
use Rattle.golog_tree.specs.declared.prog.Prog.TheViews.{out-Prog}
use Rattle.golog_tree.specs.Ground.{sort_size}
use Rattle.golog_tree.specs.Tidy.{Layer}
use Rattle.golog_semantics.specs.declared.Mode.{Mode}
use Rattle.golog_semantics.specs.declared.Mode.TheVariants.{Must, May, Near}
use Rattle.golog_semantics.specs.declared.search.Move.{Move}
use Rattle.golog_semantics.specs.Modes.{holds, flip}
use Rattle.golog_semantics.specs.Truth.{Values, arg_value, constants, env_of, not_of, truth_of}
use Rattle.golog_semantics.specs.Values.{is_possible}
use Rattle.golog_semantics.specs.Program.{put_arg, body_of}
use Rattle.golog_semantics.specs.Ways.{Blocks, moves_step, left_in, only_if, is_empty, is_so, is_not}
use Rattle.golog_semantics.specs.Search.{final, moves_with}
use Rattle.golog_semantics.specs.Guarded.{IsGuarded, front}
use Rattle.golog_semantics.proofs.FrontLaws.{holds-no, holds-yes}
use Rattle.golog_semantics.proofs.Tests.{and_cases}
use Rattle.golog_semantics.proofs.Unfolded.{moves_with-out, final-skips}
use Rattle.golog_ways.specs.declared.reaches.Reach.{Reach}
use Rattle.golog_fronts.specs.Precondition.{precondition}
use Rattle.golog_ways.specs.Reach.{reaches, has_move, IsReach, IsReachOfEither, IsReachOr}
use Rattle.golog_fronts.proofs.Acting.{holds-precondition}
use Rattle.golog_ways.proofs.EndSteps.{absorbed}
use Rattle.golog_ways.proofs.Holding.{is-No}
use Rattle.golog_ways.proofs.Some.{SoFar, from, from-next, at-end, at-found, or_assoc}

-- no step in any mode
abbrev pub nowhere : Reach
nowhere = record { must = false; near = false; may = false }

none_there : (m : Mode) → reaches m nowhere ≡ false
none_there Must = refl
none_there May = refl
none_there Near = refl

-- what reaches as far as it can
abbrev pub IsSettled : Reach → Truth → Bool
IsSettled s t =
    (not (holds Must t) || reaches Must s) && ((not (holds Near t) || reaches Near s) && (not (holds May t) || reaches May s))

implied : (a b : Bool) → (not a || b) ≡ true → a ≡ true → b ≡ true
implied true b e h = e
implied false b e h = absurd (cc)

settled : (s : Reach) (t : Truth) → IsSettled s t ≡ true → (m : Mode) → holds m t ≡ true → reaches m s ≡ true
settled s t e m h =
    let k = and_cases (not (holds Must t) || reaches Must s) ((not (holds Near t) || reaches Near s) && (not (holds May t) || reaches May s)) e in
    let j = and_cases (not (holds Near t) || reaches Near s) (not (holds May t) || reaches May s) k.1 in
    go k.0 j.0 j.1 m h
  where
    go : (not (holds Must t) || reaches Must s) ≡ true → (not (holds Near t) || reaches Near s) ≡ true → (not (holds May t) || reaches May s) ≡ true
        → (m : Mode) → holds m t ≡ true → reaches m s ≡ true
    go must near may Must h = implied (holds Must t) (reaches Must s) must h
    go must near may Near h = implied (holds Near t) (reaches Near s) near h
    go must near may May h = implied (holds May t) (reaches May s) may h

barred : (a c b : Bool) → c ≡ true → a ≡ (a || (not c && b))
barred true c b e = refl
barred false true b e = refl
barred false false b e = absurd (cc)

had : (a c : Bool) → a ≡ true → a ≡ (a || c)
had true c e = refl
had false c e = absurd (cc)

-- a higher part that has a near step and a possible one keeps the lower part from stepping
kept : (o : Reach) → IsSettled o Unknown ≡ true → (m : Mode) (b : Bool) → reaches m o ≡ (reaches m o || (not (reaches (flip m) o) && b))
kept o e Must b = barred o.must o.may b (settled o Unknown e May refl)
kept o e May b = had o.may (not o.must && b) (settled o Unknown e May refl)
kept o e Near b = had o.near (not o.must && b) (settled o Unknown e Near refl)

abbrev pub any_of : List Move → Bool
any_of ms = not (is_empty ms)

any-append : (xs ys : List Move) → any_of (xs ++ ys) ≡ (any_of xs || any_of ys)
any-append [] ys = refl
any-append (x ∷ xs) ys = refl

any-left : (f : Prog → Prog) (xs : List Move) → any_of (left_in f xs) ≡ any_of xs
any-left f [] = refl
any-left f (x ∷ xs) = refl

any-if : (b : Bool) (xs : List Move) → any_of (only_if b xs) ≡ (b && any_of xs)
any-if true xs = refl
any-if false xs = refl

any-one : (b : Bool) (x : Move) → any_of (only_if b (x ∷ [])) ≡ b
any-one true x = refl
any-one false x = refl

any-unless : (xs ys : List Move) → any_of (only_if (is_empty xs) ys) ≡ (not (any_of xs) && any_of ys)
any-unless [] ys = refl
any-unless (x ∷ xs) ys = refl

any-flat : (f : ℕ → List Move) (cs : List ℕ) → any_of (flat_map f cs) ≡ list_any (λ c. any_of (f c)) cs
any-flat f [] = refl
any-flat f (c ∷ cs) = let e = any-append (f c) (flat_map f cs) in let k = any-flat f cs in cc

-- the front of what may end reaches what follows it
pub skips : (agent : Agent) (values : Values) → IsGuarded agent → (p : Prog) (t : Truth) (b : Bool) → ((m : Mode) → holds m t ≡ final agent values m p) → b ≡ holds May t → b ≡ true → (front agent p).skip ≡ true
skips agent values g p t b ends e y = final-skips agent values g May p (sym (ends May) ∙ sym e ∙ y)

module _ (agent : Agent) (blocks : Blocks) (values : Values) where
  -- whether there is a step, given that of smaller programs
  abbrev has_step : (Mode → Prog → Bool) → (Mode → Prog → Bool) → Mode → Layer → Bool
  has_step final any m Nil = false
  has_step final any m (Act action args) = is_possible agent values m action (map (arg_value (env_of [])) args)
  has_step final any m (Test c) = is_so agent values m c
  has_step final any m (Seq p q) = any m p || (final m p && any m q)
  has_step final any m (Choice p q) = any m p || any m q
  has_step final any m (Pick x sort p) = list_any (λ c. any m (put_arg p x c)) (constants agent sort)
  has_step final any m (Star p) = any m p
  has_step final any m (If c p q) = (is_so agent values m c && any m p) || (is_not agent values m c && any m q)
  has_step final any m (While c p) = is_so agent values m c && any m p
  has_step final any m (Conc p q) = any m p || any m q
  has_step final any m (Prio p q) = any m p || (not (any (flip m) p) && any m q)
  has_step final any m (Cstar p) = any m p
  has_step final any m (Call item args) = any m (body_of agent item args)
  has_step final any m (Search depth fuel p) = any_of (blocks m depth fuel p [])
  has_step final any m (Follow depth fuel p rest) = any_of (blocks m depth fuel p rest)

  any-layer : (final : Mode → Prog → Bool) (moves : Mode → Prog → List Move) (m : Mode) (l : Layer)
      → any_of (moves_step agent values blocks final moves m l) ≡ has_step final (λ k p. any_of (moves k p)) m l
  any-layer final moves m Nil = refl
  any-layer final moves m (Act action args) = any-one (is_possible agent values m action (map (arg_value (env_of [])) args)) _
  any-layer final moves m (Test c) = any-one (is_so agent values m c) _
  any-layer final moves m (Seq p q) = simp (any-append, any-left, any-if)
  any-layer final moves m (Choice p q) = any-append _ _
  any-layer final moves m (Pick x sort p) = any-flat (λ c. moves m (put_arg p x c)) (constants agent sort)
  any-layer final moves m (Star p) = any-left _ _
  any-layer final moves m (If c p q) = simp (any-append, any-if)
  any-layer final moves m (While c p) = simp (any-if, any-left)
  any-layer final moves m (Conc p q) = simp (any-append, any-left)
  any-layer final moves m (Prio p q) = simp (any-append, any-left, any-unless)
  any-layer final moves m (Cstar p) = any-left _ _
  any-layer final moves m (Call item args) = refl
  any-layer final moves m (Search depth fuel p) = refl
  any-layer final moves m (Follow depth fuel p rest) = refl

  any-out : IsGuarded agent → (m : Mode) (p : Prog) → has_move agent blocks values m p ≡ has_step (final agent values) (has_move agent blocks values) m (out-Prog p)
  unfolding has_move
  any-out g m p = ap any_of (moves_with-out agent values blocks g m p) ∙ any-layer (final agent values) (moves_with agent blocks values) m (out-Prog p)

  -- whether there is a step, by one level of a program
  any-by : IsGuarded agent → (m : Mode) (p : Prog) (l : Layer) → out-Prog p ≡ l → has_move agent blocks values m p ≡ has_step (final agent values) (has_move agent blocks values) m l
  any-by g m p l e = any-out g m p ∙ ap (has_step (final agent values) (has_move agent blocks values) m) e

  abbrev Of : Prog → Reach → Type 0
  Of = IsReach agent blocks values

  abbrev Or : Reach → Truth → Prog → Reach → Type 0
  Or = IsReachOr agent blocks values

  pub reach_as : (r q : Prog) (o : Reach) → r ≡ q → Of q o → Of r o
  reach_as r q o e h = subst (λ (z : Prog). Of z o) (sym e) h

  module _ (g : IsGuarded agent) where
    pub nil_reach : Of prog.Nil nowhere
    nil_reach = record { steps = λ m. none_there m ∙ sym (any-by g m prog.Nil Nil prog.outs-Nil) }

    pub act_reach : (action : ℕ) (args : List Arg) (t : Truth) (o : Reach) → t ≡ precondition agent values action (map (arg_value (env_of [])) args) → ((m : Mode) → reaches m o ≡ holds m t) → Of (prog.Act action args) o
    act_reach action args t o e h = record {
      steps = λ m.
          h m ∙ ap (holds m) e ∙ holds-precondition agent values action (map (arg_value (env_of [])) args) m
          ∙ sym (any-by g m (prog.Act action args) (Act action args) (prog.outs-Act action args));
    }

    pub test_reach : (c : Cond) (t : Truth) (o : Reach) → t ≡ truth_of agent values c (env_of []) → ((m : Mode) → reaches m o ≡ holds m t) → Of (prog.Test c) o
    test_reach c t o e h = record { steps = λ m. h m ∙ ap (holds m) e ∙ sym (any-by g m (prog.Test c) (Test c) (prog.outs-Test c)) }

    module _ (p q : Prog) (r : Reach) (h : IsReachOfEither agent blocks values p q r) where
      choice_reach : Of (prog.Choice p q) r
      choice_reach = record { steps = λ m. h.steps m ∙ sym (any-by g m (prog.Choice p q) (Choice p q) (prog.outs-Choice p q)) }

      conc_reach : Of (prog.Conc p q) r
      conc_reach = record { steps = λ m. h.steps m ∙ sym (any-by g m (prog.Conc p q) (Conc p q) (prog.outs-Conc p q)) }

    module _ (p q : Prog) (o k r : Reach) (one : Of p o) (other : Of q k) where
      pub prio_reach : ((m : Mode) → reaches m r ≡ (reaches m o || (not (reaches (flip m) o) && reaches m k))) → Of (prog.Prio p q) r
      prio_reach h = record {
        steps = λ m.
            let e = one.steps m in let d = one.steps (flip m) in let f = other.steps m in
            h m ∙ (rw (e, d, f) refl) ∙ sym (any-by g m (prog.Prio p q) (Prio p q) (prog.outs-Prio p q));
      }

    -- where the higher part has a near step and a possible one, the lower part doesn't count
    pub prio_kept : (p q : Prog) (o : Reach) (b : Bool) → b ≡ IsSettled o Unknown → b ≡ true → Of p o → Of (prog.Prio p q) o
    prio_kept p q o b s y h = record {
      steps = λ m.
          let e = h.steps m in let d = h.steps (flip m) in
          kept o (sym s ∙ y) m (has_move agent blocks values m q) ∙ (rw (e, d) refl) ∙ sym (any-by g m (prog.Prio p q) (Prio p q) (prog.outs-Prio p q));
    }

    pub seq_reach : (p q : Prog) (t : Truth) (o r : Reach) → ((m : Mode) → holds m t ≡ final agent values m p) → Of p o → Or o t q r → Of (prog.Seq p q) r
    seq_reach p q t o r ends one h = record {
      steps = λ m.
          let e = one.steps m in let d = ends m in
          h.steps m ∙ (rw (e, d) refl) ∙ sym (any-by g m (prog.Seq p q) (Seq p q) (prog.outs-Seq p q));
    }

    -- where the first part certainly has a step, the second doesn't count
    pub seq_settled : (p q : Prog) (o : Reach) (b : Bool) → b ≡ IsSettled o Yes → b ≡ true → Of p o → Of (prog.Seq p q) o
    seq_settled p q o b s y h = record {
      steps = λ m.
          let e = h.steps m in
          absorbed (reaches m o) (final agent values m p) (has_move agent blocks values m q) (λ k. settled o Yes (sym s ∙ y) m (holds-yes m)) ∙ (rw e refl)
          ∙ sym (any-by g m (prog.Seq p q) (Seq p q) (prog.outs-Seq p q));
    }

    -- where the first part can't end, the second doesn't count
    pub seq_reach_first : (p q : Prog) (t : Truth) (o : Reach) (b : Bool) → ((m : Mode) → holds m t ≡ final agent values m p) → b ≡ holds May t → b ≡ false → Of p o → Of (prog.Seq p q) o
    seq_reach_first p q t o b ends s y h = record {
      steps = λ m.
          h.steps m
          ∙ sym (any-by g m (prog.Seq p q) (Seq p q) (prog.outs-Seq p q) ∙ ap (λ b. has_move agent blocks values m p || (b && has_move agent blocks values m q)) (none m) ∙ or-false (has_move agent blocks values m p));
    }
      where
        none : (m : Mode) → final agent values m p ≡ false
        none m = sym (ends m) ∙ ap (holds m) (is-No t (sym s ∙ y)) ∙ holds-no m

    pub star_reach : (p : Prog) (o : Reach) → Of p o → Of (prog.Star p) o
    star_reach p o h = record { steps = λ m. h.steps m ∙ sym (any-by g m (prog.Star p) (Star p) (prog.outs-Star p)) }

    pub cstar_reach : (p : Prog) (o : Reach) → Of p o → Of (prog.Cstar p) o
    cstar_reach p o h = record { steps = λ m. h.steps m ∙ sym (any-by g m (prog.Cstar p) (Cstar p) (prog.outs-Cstar p)) }

    pub call_reach : (item : ℕ) (args : List Arg) (body : Prog) (o : Reach) → body ≡ body_of agent item args → Of body o → Of (prog.Call item args) o
    call_reach item args body o e h = record { steps = λ m. h.steps m ∙ ap (has_move agent blocks values m) e ∙ sym (any-by g m (prog.Call item args) (Call item args) (prog.outs-Call item args)) }

    -- a block that has not begun reaches as one that follows nothing
    pub search_reach : (depth fuel : ℕ) (p : Prog) (o : Reach) → Of (prog.Follow depth fuel p []) o → Of (prog.Search depth fuel p) o
    search_reach depth fuel p o h = record {
      steps = λ m.
          h.steps m
          ∙ any-by g m (prog.Follow depth fuel p []) (Follow depth fuel p []) (prog.outs-Follow depth fuel p [])
          ∙ sym (any-by g m (prog.Search depth fuel p) (Search depth fuel p) (prog.outs-Search depth fuel p));
    }

    pub follow_reach : (depth fuel : ℕ) (p : Prog) (rest : List Way) (o : Reach) → ((m : Mode) → reaches m o ≡ any_of (blocks m depth fuel p rest)) → Of (prog.Follow depth fuel p rest) o
    follow_reach depth fuel p rest o h = record { steps = λ m. h m ∙ sym (any-by g m (prog.Follow depth fuel p rest) (Follow depth fuel p rest) (prog.outs-Follow depth fuel p rest)) }

    pub if_reach : (c : Cond) (p q : Prog) (t n : Truth) (o r : Reach) → t ≡ truth_of agent values c (env_of []) → n ≡ not_of t → Or nowhere t p o → Or o n q r → Of (prog.If c p q) r
    if_reach c p q t n o r e i one other = record {
      steps = λ m.
          let a = one.steps m in
          let d = none_there m in
          other.steps m ∙ (rw (a, d, i, e) refl) ∙ sym (any-by g m (prog.If c p q) (If c p q) (prog.outs-If c p q));
    }

    pub while_reach : (c : Cond) (p : Prog) (t : Truth) (r : Reach) → t ≡ truth_of agent values c (env_of []) → Or nowhere t p r → Of (prog.While c p) r
    while_reach c p t r e h = record { steps = λ m. let d = none_there m in h.steps m ∙ (rw (d, e) refl) ∙ sym (any-by g m (prog.While c p) (While c p) (prog.outs-While c p)) }

  pub or_settled : (s : Reach) (t : Truth) (p : Prog) (b : Bool) → b ≡ IsSettled s t → b ≡ true → Or s t p s
  or_settled s t p b e y = record { steps = λ m. absorbed (reaches m s) (holds m t) (has_move agent blocks values m p) (settled s t (sym e ∙ y) m) }

  pub or_more : (s : Reach) (t : Truth) (p : Prog) (o w r : Reach) → ((m : Mode) → reaches m w ≡ (holds m t && reaches m o)) → ((m : Mode) → reaches m r ≡ (reaches m s || reaches m w)) → Of p o → Or s t p r
  or_more s t p o w r i j h = record { steps = λ m. let e = h.steps m in let k = i m in j m ∙ (rw (k, e) refl) }

  -- the same of the answer of a call
  module _ {E : Type 0} (result : Result Reach E) (r : Prog) where
    pub same_gives : (q : Prog) → r ≡ q → IfOk result (Of q) → IfOk result (Of r)
    same_gives q e h = subst (λ (z : Prog). IfOk result (Of z)) (sym e) h

  module _ {E : Type 0} (g : IsGuarded agent) where
    pub star_gives : (result : Result Reach E) (r p : Prog) → r ≡ prog.Star p → IfOk result (Of p) → IfOk result (Of r)
    star_gives (Ok o) r p e h = reach_as r (prog.Star p) o e (star_reach g p o h)
    star_gives (Err x) r p e h = h

    pub cstar_gives : (result : Result Reach E) (r p : Prog) → r ≡ prog.Cstar p → IfOk result (Of p) → IfOk result (Of r)
    cstar_gives (Ok o) r p e h = reach_as r (prog.Cstar p) o e (cstar_reach g p o h)
    cstar_gives (Err x) r p e h = h

    pub choice_gives : (result : Result Reach E) (r p q : Prog) → r ≡ prog.Choice p q → IfOk result (IsReachOfEither agent blocks values p q) → IfOk result (Of r)
    choice_gives (Ok o) r p q e h = reach_as r (prog.Choice p q) o e (choice_reach g p q o h)
    choice_gives (Err x) r p q e h = h

    pub conc_gives : (result : Result Reach E) (r p q : Prog) → r ≡ prog.Conc p q → IfOk result (IsReachOfEither agent blocks values p q) → IfOk result (Of r)
    conc_gives (Ok o) r p q e h = reach_as r (prog.Conc p q) o e (conc_reach g p q o h)
    conc_gives (Err x) r p q e h = h

    pub either_gives : (result : Result Reach E) (p q : Prog) (o : Reach) → Of p o → IfOk result (Or o Yes q) → IfOk result (IsReachOfEither agent blocks values p q)
    either_gives (Ok r) p q o one h = record { steps = λ m. let e = one.steps m in let y = holds-yes m in h.steps m ∙ (rw (e, y) refl) }
    either_gives (Err x) p q o one h = h

    pub seq_gives : (result : Result Reach E) (p q : Prog) (t : Truth) (o : Reach) → ((m : Mode) → holds m t ≡ final agent values m p) → Of p o → IfOk result (Or o t q) → IfOk result (Of (prog.Seq p q))
    seq_gives (Ok r) p q t o ends one h = seq_reach g p q t o r ends one h
    seq_gives (Err x) p q t o ends one h = h

    pub if_gives : (result : Result Reach E) (c : Cond) (p q : Prog) (t n : Truth) (o : Reach) → t ≡ truth_of agent values c (env_of []) → n ≡ not_of t → Or nowhere t p o → IfOk result (Or o n q)
        → IfOk result (Of (prog.If c p q))
    if_gives (Ok r) c p q t n o e i one h = if_reach g c p q t n o r e i one h
    if_gives (Err x) c p q t n o e i one h = h

    pub while_gives : (result : Result Reach E) (c : Cond) (p : Prog) (t : Truth) → t ≡ truth_of agent values c (env_of []) → IfOk result (Or nowhere t p) → IfOk result (Of (prog.While c p))
    while_gives (Ok r) c p t e h = while_reach g c p t r e h
    while_gives (Err x) c p t e h = h

    pub call_gives : (result : Result Reach E) (item : ℕ) (args : List Arg) (body : Prog) → body ≡ body_of agent item args → IfOk result (Of body) → IfOk result (Of (prog.Call item args))
    call_gives (Ok o) item args body e h = call_reach g item args body o e h
    call_gives (Err x) item args body e h = h

    pub search_gives : (result : Result Reach E) (r p : Prog) (depth fuel : ℕ) → r ≡ prog.Search depth fuel p → IfOk result (Of (prog.Follow depth fuel p [])) → IfOk result (Of r)
    search_gives (Ok o) r p depth fuel e h = reach_as r (prog.Search depth fuel p) o e (search_reach g depth fuel p o h)
    search_gives (Err x) r p depth fuel e h = h

    pub follow_gives : (result : Result Reach E) (r p : Prog) (depth fuel : ℕ) (rest : List Way) → r ≡ prog.Follow depth fuel p rest
        → IfOk result (λ o. (m : Mode) → reaches m o ≡ any_of (blocks m depth fuel p rest)) → IfOk result (Of r)
    follow_gives (Ok o) r p depth fuel rest e h = reach_as r (prog.Follow depth fuel p rest) o e (follow_reach g depth fuel p rest o h)
    follow_gives (Err x) r p depth fuel rest e h = h

  module _ (x sort : ℕ) (p : Prog) where
    abbrev step_for : Mode → ℕ → Bool
    step_for m c = has_move agent blocks values m (put_arg p x c)

    -- the reach for the constants before this one
    pub record SomeReach (i : ℕ) (o : Reach) : Type 0 where
      pub steps : (m : Mode) → SoFar (step_for m) i (sort_size agent sort) (reaches m o)

    pub some_none : SomeReach 0 nowhere
    some_none = record { steps = λ m. let e : sort_size agent sort - 0 ≡ sort_size agent sort = omega arith in let d = none_there m in rw (e, d) refl }

    pub some_more : (i : ℕ) (o : Reach) (put : Prog) (k r : Reach) → i < sort_size agent sort → put ≡ put_arg p x i → Of put k → ((m : Mode) → reaches m r ≡ (reaches m o || reaches m k)) → SomeReach i o → SomeReach (i + 1) r
    some_more i o put k r l e h j s = record {
      steps = λ m.
          let n = sort_size agent sort in
          s.steps m ∙ ap (λ z. reaches m o || z) (from-next (step_for m) i n l) ∙ or_assoc (reaches m o) (step_for m i) (from (step_for m) (i + 1) n)
          ∙ ap (λ z. z || from (step_for m) (i + 1) n) (ap (λ z. reaches m o || z) (sym (h.steps m ∙ ap (has_move agent blocks values m) e)) ∙ sym (j m));
    }

    pub pick_reach : IsGuarded agent → (i : ℕ) (o : Reach) → sort_size agent sort ≤ i → SomeReach i o → Of (prog.Pick x sort p) o
    pick_reach g i o l s = record {
      steps = λ m.
          at-end (step_for m) i (sort_size agent sort) (reaches m o) l (s.steps m) ∙ sym (any-by g m (prog.Pick x sort p) (Pick x sort p) (prog.outs-Pick x sort p));
    }

    pub pick_settled : IsGuarded agent → (i : ℕ) (o : Reach) (b : Bool) → b ≡ IsSettled o Yes → b ≡ true → SomeReach i o → Of (prog.Pick x sort p) o
    pick_settled g i o b e y s = record {
      steps = λ m.
          at-found (step_for m) i (sort_size agent sort) (reaches m o) (settled o Yes (sym e ∙ y) m (holds-yes m)) (s.steps m)
          ∙ sym (any-by g m (prog.Pick x sort p) (Pick x sort p) (prog.outs-Pick x sort p));
    }
