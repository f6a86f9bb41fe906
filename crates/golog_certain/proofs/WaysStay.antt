-- With more knowledge there are more certain ways and ends, and fewer possible ones.
use Rattle.std.proofs.Common.{◌≡◌, ℕ, zero, suc, Bool, true, false, ◌&&◌, ◌||◌, ◌==◌, if◌then◌else◌, List, [], ◌∷◌, ◌++◌, map, refl, sym, ap, subst, inl, inr, ◌⊎◌}
use Rattle.std.specs.List.{flat_map}
use Rattle.golog_tree.specs.declared.agent.Agent.{Agent}
use Rattle.golog_tree.specs.declared.agent.PossItem.{PossItem}
use Rattle.golog_tree.specs.declared.cond.Cond.{Cond}
use Rattle.golog_tree.specs.declared.cond.Truth.{Truth}
use Rattle.golog_tree.specs.declared.cond.Truth.TheVariants.{Yes, No, Unknown}
use Rattle.golog_tree.specs.declared.prog.Prog.{Prog}
use Rattle.golog_tree.specs.declared.prog.Prog.TheOpen.{Nil, Act, Test, Seq, Choice, Pick, Star, If, While, Conc, Prio, Cstar, Call, Search, Follow}
use Rattle.golog_tree.specs.declared.prog.Prog.TheVariants as prog
use Rattle.golog_tree.specs.declared.prog.Prog.TheViews.{out-Prog}
use Rattle.golog_tree.specs.Tidy.{Layer, tidy_seq, tidy_conc, tidy_prio}
use Rattle.golog_semantics.specs.declared.search.Move.{Move}
use Rattle.golog_semantics.specs.declared.Mode.{Mode}
use Rattle.golog_semantics.specs.declared.Mode.TheVariants.{Must, May, Near}
use Rattle.golog_semantics.specs.Modes.{holds, flip}
use Rattle.golog_semantics.specs.Truth.{Values, env_of, constants, truth_of}
use Rattle.golog_semantics.specs.Values.{possible_by}
use Rattle.golog_semantics.specs.Program.{put_arg, body_of}
use Rattle.golog_semantics.specs.Ways.{left_in, only_if, is_empty, is_not, final_step, final_to, moves_step, moves_to}
use Rattle.golog_semantics.specs.Search.{no_blocks}
use Rattle.golog_semantics.specs.World.{Refines}
use Rattle.golog_semantics.proofs.Known.{So, so-not, truth_stays}
use Rattle.golog_semantics.proofs.Words.{and-left, and-right, and-both}
use Rattle.golog_semantics.proofs.Among.{Among, among-left, among-right, among-either, among-map, map-among, among-flat, flat-among, among-any, any-among}

or-cases : (a b : Bool) → (a || b) ≡ true → (a ≡ true) ⊎ (b ≡ true)
or-cases true b h = inl refl
or-cases false b h = inr h

or-left : (a b : Bool) → a ≡ true → (a || b) ≡ true
or-left true b h = refl
or-left false b h = cc

or-right : (a b : Bool) → b ≡ true → (a || b) ≡ true
or-right true b h = refl
or-right false b h = h

-- the first elements are among the second
abbrev Sub : {A : Type 0} → List A → List A → Type 0
Sub {A} xs ys = (x : A) → Among xs x → Among ys x

sub-append : {A : Type 0} (xs ys us vs : List A) → Sub xs us → Sub ys vs → Sub (xs ++ ys) (us ++ vs)
sub-append xs ys us vs h k x a = elim (among-either xs ys x a) [ inl b ↦ among-left us vs x (h x b) | inr c ↦ among-right us vs x (k x c) ]

sub-flat : {A B : Type 0} (f g : A → List B) (xs : List A) → ((x : A) → Sub (f x) (g x)) → Sub (flat_map f xs) (flat_map g xs)
sub-flat f g xs h y a = let r = among-flat f xs y a in flat-among g xs r.0 y r.1.0 (h r.0 y r.1.1)

sub-only : (a b : Bool) (xs ys : List Move) → (a ≡ true → b ≡ true) → Sub xs ys → Sub (only_if a xs) (only_if b ys)
sub-only true b xs ys h k x m = subst (λ c. Among (only_if c ys) x) (sym (h refl)) (k x m)
sub-only false b xs ys h k x m = absurd m

abbrev put_in : (Prog → Prog) → Move → Move
put_in context m = record { label = m.label; left = context m.left; run = m.run }

sub-left : (context : Prog → Prog) (xs ys : List Move) → Sub xs ys → Sub (left_in context xs) (left_in context ys)
sub-left context xs ys h x m =
    let r = among-map (put_in context) xs x m in
    subst (Among (map (put_in context) ys)) r.1.1 (map-among (put_in context) ys r.0 (h r.0 r.1.0))

sub-empty : (xs ys : List Move) → Sub ys xs → is_empty xs ≡ true → is_empty ys ≡ true
sub-empty xs [] h e = refl
sub-empty [] (y ∷ ys) h e = absurd (h y (inl refl))
sub-empty (x ∷ xs) (y ∷ ys) h e = cc

must_stays : (t u : Truth) → So t u → holds Must t ≡ true → holds Must u ≡ true
must_stays Yes u s h = ap (holds Must) s
must_stays No u s h = absurd (cc)
must_stays Unknown u s h = absurd (cc)

may_stays : (t u : Truth) → So t u → holds May u ≡ true → holds May t ≡ true
may_stays Yes u s h = refl
may_stays No u s h = absurd (cc (ap (holds May) s))
may_stays Unknown u s h = refl

near_stays : (t u : Truth) → So t u → holds Near u ≡ true → holds Near t ≡ true
near_stays Yes u s h = refl
near_stays No u s h = absurd (cc (ap (holds Near) s))
near_stays Unknown u s h = refl

module _ (agent : Agent) (old new : Values) (more : Refines old new) where
  -- what holds in a mode at the first of these holds at the second
  abbrev pub from : Mode → Values
  from Must = old
  from May = new
  from Near = new

  abbrev pub to : Mode → Values
  to Must = new
  to May = old
  to Near = old

  from-flip : (m : Mode) → from (flip m) ≡ to m
  from-flip Must = refl
  from-flip May = refl
  from-flip Near = refl

  to-flip : (m : Mode) → to (flip m) ≡ from m
  to-flip Must = refl
  to-flip May = refl
  to-flip Near = refl

  cond-stays : (m : Mode) (c : Cond) (args : List ℕ) → holds m (truth_of agent (from m) c (env_of args)) ≡ true → holds m (truth_of agent (to m) c (env_of args)) ≡ true
  cond-stays Must c args = must_stays _ _ (truth_stays agent old new more c (env_of args))
  cond-stays May c args = may_stays _ _ (truth_stays agent old new more c (env_of args))
  cond-stays Near c args = near_stays _ _ (truth_stays agent old new more c (env_of args))

  not-stays : (m : Mode) (c : Cond) → is_not agent (from m) m c ≡ true → is_not agent (to m) m c ≡ true
  not-stays Must c = must_stays _ _ (so-not _ _ (truth_stays agent old new more c (env_of [])))
  not-stays May c = may_stays _ _ (so-not _ _ (truth_stays agent old new more c (env_of [])))
  not-stays Near c = near_stays _ _ (so-not _ _ (truth_stays agent old new more c (env_of [])))

  possible-stays : (m : Mode) (action : ℕ) (args : List ℕ) (items : List PossItem) → possible_by agent (from m) m action args items ≡ true → possible_by agent (to m) m action args items ≡ true
  possible-stays m action args [] h = refl
  possible-stays m action args (item ∷ items) h = go (item.action == action) h (possible-stays m action args items)
    where
      go : (b : Bool) → (if b then holds m (truth_of agent (from m) item.cond (env_of args)) else possible_by agent (from m) m action args items) ≡ true
          → (possible_by agent (from m) m action args items ≡ true → possible_by agent (to m) m action args items ≡ true)
          → (if b then holds m (truth_of agent (to m) item.cond (env_of args)) else possible_by agent (to m) m action args items) ≡ true
      go true k rest = cond-stays m item.cond args k
      go false k rest = rest k

  abbrev FinalStays : ℕ → Type 0
  FinalStays n = (m : Mode) (p : Prog) → final_to agent (from m) n m p ≡ true → final_to agent (to m) n m p ≡ true

  both-stay : (a b c d : Bool) → (a ≡ true → c ≡ true) → (b ≡ true → d ≡ true) → (a && b) ≡ true → (c && d) ≡ true
  both-stay a b c d h k e = and-both c d (h (and-left a b e)) (k (and-right a b e))

  either-stays : (a b c d : Bool) → (a ≡ true → c ≡ true) → (b ≡ true → d ≡ true) → (a || b) ≡ true → (c || d) ≡ true
  either-stays a b c d h k e = elim (or-cases a b e) [ inl f ↦ or-left c d (h f) | inr g ↦ or-right c d (k g) ]

  final-layer : (n : ℕ) → FinalStays n → (m : Mode) (l : Layer) → final_step agent (from m) (final_to agent (from m) n) m l ≡ true → final_step agent (to m) (final_to agent (to m) n) m l ≡ true
  final-layer n stays m Nil h = refl
  final-layer n stays m (Act action args) h = h
  final-layer n stays m (Test c) h = h
  final-layer n stays m (Seq p q) h = both-stay _ _ _ _ (stays m p) (stays m q) h
  final-layer n stays m (Choice p q) h = either-stays _ _ _ _ (stays m p) (stays m q) h
  final-layer n stays m (Pick x sort p) h =
      let r = among-any (λ c. final_to agent (from m) n m (put_arg p x c)) (constants agent sort) h in
      any-among (λ c. final_to agent (to m) n m (put_arg p x c)) (constants agent sort) r.0 r.1.0 (stays m (put_arg p x r.0) r.1.1)
  final-layer n stays m (Star p) h = refl
  final-layer n stays m (If c p q) h =
      either-stays _ _ _ _ (both-stay _ _ _ _ (cond-stays m c []) (stays m p)) (both-stay _ _ _ _ (not-stays m c) (stays m q)) h
  final-layer n stays m (While c p) h = either-stays _ _ _ _ (not-stays m c) (stays m p) h
  final-layer n stays m (Conc p q) h = both-stay _ _ _ _ (stays m p) (stays m q) h
  final-layer n stays m (Prio p q) h = both-stay _ _ _ _ (stays m p) (stays m q) h
  final-layer n stays m (Cstar p) h = refl
  final-layer n stays m (Call item args) h = stays m (body_of agent item args) h
  final-layer n stays m (Search depth fuel p) h = stays m p h
  final-layer n stays m (Follow depth fuel p rest) h = stays m p h

  pub final-stays : (n : ℕ) → FinalStays n
  final-stays zero m p h = h
  final-stays (suc n) m p h = final-layer n (final-stays n) m (out-Prog p) h

  abbrev MovesStay : ℕ → Type 0
  MovesStay n = (m : Mode) (p : Prog) → Sub (moves_to agent (from m) no_blocks n m p) (moves_to agent (to m) no_blocks n m p)

  -- where nothing may be done with more priority, there is nothing with more knowledge
  lower-stays : (n : ℕ) → MovesStay n → (m : Mode) (p : Prog) → is_empty (moves_to agent (from m) no_blocks n (flip m) p) ≡ true → is_empty (moves_to agent (to m) no_blocks n (flip m) p) ≡ true
  lower-stays n stays m p =
      sub-empty (moves_to agent (from m) no_blocks n (flip m) p) (moves_to agent (to m) no_blocks n (flip m) p)
      (subst (λ v. Sub (moves_to agent v no_blocks n (flip m) p) (moves_to agent (from m) no_blocks n (flip m) p)) (from-flip m)
      (subst (λ v. Sub (moves_to agent (from (flip m)) no_blocks n (flip m) p) (moves_to agent v no_blocks n (flip m) p)) (to-flip m) (stays (flip m) p)))

  moves-layer : (n : ℕ) → MovesStay n → (m : Mode) (l : Layer)
      → Sub (moves_step agent (from m) no_blocks (final_to agent (from m) n) (moves_to agent (from m) no_blocks n) m l) (moves_step agent (to m) no_blocks (final_to agent (to m) n) (moves_to agent (to m) no_blocks n) m l)
  moves-layer n stays m Nil = λ x h. h
  moves-layer n stays m (Act action args) = sub-only _ _ _ _ (possible-stays m action _ agent.poss) (λ x h. h)
  moves-layer n stays m (Test c) = sub-only _ _ _ _ (cond-stays m c []) (λ x h. h)
  moves-layer n stays m (Seq p q) = sub-append _ _ _ _ (sub-left (λ l. tidy_seq l q) _ _ (stays m p)) (sub-only _ _ _ _ (final-stays n m p) (stays m q))
  moves-layer n stays m (Choice p q) = sub-append _ _ _ _ (stays m p) (stays m q)
  moves-layer n stays m (Pick x sort p) =
      sub-flat (λ c. moves_to agent (from m) no_blocks n m (put_arg p x c)) (λ c. moves_to agent (to m) no_blocks n m (put_arg p x c)) (constants agent sort) (λ c. stays m (put_arg p x c))
  moves-layer n stays m (Star p) = sub-left (λ l. tidy_seq l (prog.Star p)) _ _ (stays m p)
  moves-layer n stays m (If c p q) = sub-append _ _ _ _ (sub-only _ _ _ _ (cond-stays m c []) (stays m p)) (sub-only _ _ _ _ (not-stays m c) (stays m q))
  moves-layer n stays m (While c p) = sub-only _ _ _ _ (cond-stays m c []) (sub-left (λ l. tidy_seq l (prog.While c p)) _ _ (stays m p))
  moves-layer n stays m (Conc p q) = sub-append _ _ _ _ (sub-left (λ l. tidy_conc l q) _ _ (stays m p)) (sub-left (λ l. tidy_conc p l) _ _ (stays m q))
  moves-layer n stays m (Prio p q) =
      sub-append _ _ _ _ (sub-left (λ l. tidy_prio l q) _ _ (stays m p)) (sub-only _ _ _ _ (lower-stays n stays m p) (sub-left (λ l. tidy_prio p l) _ _ (stays m q)))
  moves-layer n stays m (Cstar p) = sub-left (λ l. tidy_conc l (prog.Cstar p)) _ _ (stays m p)
  moves-layer n stays m (Call item args) = stays m (body_of agent item args)
  moves-layer n stays m (Search depth fuel p) = λ x h. h
  moves-layer n stays m (Follow depth fuel p rest) = λ x h. h

  pub moves-stay : (n : ℕ) → MovesStay n
  moves-stay zero m p = λ x h. h
  moves-stay (suc n) m p = moves-layer n (moves-stay n) m (out-Prog p)
