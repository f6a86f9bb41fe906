-- A program lacks fuel where a part at its front does.
use Rattle.std.proofs.Common.{◌≡◌, ℕ, suc, ◌+◌, ◌<◌, Bool, true, false, ◌||◌, ◌&&◌, List, [], ◌∷◌, inl, inr, refl, sym, ap, ◌∙◌, subst}
use Rattle.std.proofs.Common.{◌≤◌, zero, arith}
use Rattle.std.specs.Prelude.{Result, Ok, Err, IfErr, ◌⊎◌}
use Rattle.std.specs.Result.{IsErrAnd}
use Rattle.std.specs.List.{list_any, range_with_len}
use Rattle.std.proofs.lemmas.Bool.{and_from, cases_lt, or_left, or_right}
use Rattle.golog_tree.specs.declared.agent.Agent.{Agent}
use Rattle.golog_tree.specs.declared.prog.Prog.{Prog}
use Rattle.golog_tree.specs.declared.prog.Way.{Way}
use Rattle.golog_tree.specs.declared.prog.Prog.TheOpen.{Nil, Act, Test, Seq, Choice, Pick, Star, If, While, Conc, Prio, Cstar, Call, Search, Follow}
use Rattle.golog_tree.specs.declared.prog.Prog.TheVariants as prog
use Rattle.golog_tree.specs.declared.prog.Prog.TheViews.{out-Prog}
use Rattle.golog_tree.specs.Ground.{sort_size}
use Rattle.golog_semantics.specs.Guarded.{front}
use Rattle.golog_semantics.specs.declared.Mode.{Mode}
use Rattle.golog_semantics.specs.declared.Mode.TheVariants.{Must, Near}
use Rattle.golog_semantics.specs.Program.{put_arg, body_of}
use Rattle.golog_semantics.specs.Truth.{constants}
use Rattle.golog_tree.specs.Tidy.{Layer}
use Rattle.golog_ways.specs.declared.answering.Stop.{Stop}
use Rattle.golog_ways.specs.declared.answering.Stop.TheVariants.{Fuel, Memory}
use Rattle.golog_ways.specs.Lacking.{Wants, Lacks, StopsAt, StopsAtEither, lacks_step, lacks_to, wants_at}

any_in : (f : ℕ → Bool) (n low i : ℕ) → low ≤ i → i < low + n → f i ≡ true → list_any f (range_with_len low n) ≡ true
any_in f zero low i a b e = absurd (omega arith)
any_in f (suc n) low i a b e =
    elim (cases_lt low i) as (λ c. list_any f (range_with_len low (suc n)) ≡ true) [
      | inl lt ↦ or_right (f low) _ (any_in f n (low + 1) i (omega arith) (omega arith) e)
      | inr le ↦ let k : low ≡ i = omega arith in or_left (f low) _ (ap f k ∙ e)
    ]

or_more : (a b c d : Bool) → (a ≡ true → c ≡ true) → (b ≡ true → d ≡ true) → (a || b) ≡ true → (c || d) ≡ true
or_more true b c d f h e = or_left c d (f refl)
or_more false b c d f h e = or_right c d (h e)

and_more : (s b d : Bool) → (b ≡ true → d ≡ true) → (s && b) ≡ true → (s && d) ≡ true
and_more true b d f e = f e
and_more false b d f e = e

any_more : (f h : ℕ → Bool) (cs : List ℕ) → ((c : ℕ) → f c ≡ true → h c ≡ true) → list_any f cs ≡ true → list_any h cs ≡ true
any_more f h [] k e = e
any_more f h (c ∷ cs) k e = or_more (f c) (list_any f cs) (h c) (list_any h cs) (k c) (any_more f h cs k) e

module _ (agent : Agent) (wants : Mode → Wants) where
  -- where the whole program stands in the higher part of a `prio`, no block wants less
  higher_wants : (depth fuel : ℕ) (p : Prog) (rest : List Way) → wants_at wants false depth fuel p rest ≡ true → wants_at wants true depth fuel p rest ≡ true
  higher_wants depth fuel p rest = or_more (wants Must depth fuel p rest) false (wants Must depth fuel p rest) (wants Near depth fuel p rest) (λ e. e) (λ e. absurd (cc))

  higher_step : (lacks : Bool → Prog → Bool) → ((p : Prog) → lacks false p ≡ true → lacks true p ≡ true) → (l : Layer) → lacks_step agent wants lacks false l ≡ true → lacks_step agent wants lacks true l ≡ true
  higher_step lacks h Nil e = e
  higher_step lacks h (Act action args) e = e
  higher_step lacks h (Test c) e = e
  higher_step lacks h (Seq p q) e =
      or_more (lacks false p) ((front agent p).skip && lacks false q) (lacks true p) ((front agent p).skip && lacks true q) (h p) (and_more (front agent p).skip (lacks false q) (lacks true q) (h q)) e
  higher_step lacks h (Choice p q) e = or_more (lacks false p) (lacks false q) (lacks true p) (lacks true q) (h p) (h q) e
  higher_step lacks h (Pick x sort p) e = any_more (λ c. lacks false (put_arg p x c)) (λ c. lacks true (put_arg p x c)) (constants agent sort) (λ c. h (put_arg p x c)) e
  higher_step lacks h (Star p) e = h p e
  higher_step lacks h (If c p q) e = or_more (lacks false p) (lacks false q) (lacks true p) (lacks true q) (h p) (h q) e
  higher_step lacks h (While c p) e = h p e
  higher_step lacks h (Conc p q) e = or_more (lacks false p) (lacks false q) (lacks true p) (lacks true q) (h p) (h q) e
  higher_step lacks h (Prio p q) e = or_more (lacks true p) (lacks false q) (lacks true p) (lacks true q) (λ k. k) (h q) e
  higher_step lacks h (Cstar p) e = h p e
  higher_step lacks h (Call item args) e = h (body_of agent item args) e
  higher_step lacks h (Search depth fuel p) e = higher_wants depth fuel p [] e
  higher_step lacks h (Follow depth fuel p rest) e = higher_wants depth fuel p rest e

  higher_to : (n : ℕ) (p : Prog) → lacks_to agent wants n false p ≡ true → lacks_to agent wants n true p ≡ true
  higher_to zero p e = e
  higher_to (suc n) p e = higher_step (lacks_to agent wants n) (higher_to n) (out-Prog p) e

  pub lacks_higher : (p : Prog) → Lacks agent wants false p → Lacks agent wants true p
  lacks_higher p h = record { deep = h.deep; lacks = higher_to h.deep p h.lacks }

module _ (agent : Agent) (wants : Mode → Wants) (higher : Bool) where
  abbrev L : Prog → Type 0
  L = Lacks agent wants higher

  abbrev at : (Bool → Prog → Bool) → Layer → Bool
  at lacks l = lacks_step agent wants lacks higher l

  pub lacks_as : (p q : Prog) → p ≡ q → L p → L q
  lacks_as p q e h = subst (λ (z : Prog). L z) e h

  -- one level more
  pub level_lacks : (n : ℕ) (r : Prog) (l : Layer) → out-Prog r ≡ l → at (lacks_to agent wants n) l ≡ true → L r
  level_lacks n r l e h = record { deep = suc n; lacks = ap (at (lacks_to agent wants n)) e ∙ h }

  pub part_lacks : (r p : Prog) (l : Layer) → out-Prog r ≡ l → ((f : Bool → Prog → Bool) → at f l ≡ f higher p) → L p → L r
  part_lacks r p l e step h = level_lacks h.deep r l e (step (lacks_to agent wants h.deep) ∙ h.lacks)

  pub parts_lack : (r p q : Prog) (l : Layer) → out-Prog r ≡ l → ((f : Bool → Prog → Bool) → at f l ≡ (f higher p || f higher q)) → L p ⊎ L q → L r
  parts_lack r p q l e step (inl h) = level_lacks h.deep r l e (step (lacks_to agent wants h.deep) ∙ or_left _ _ h.lacks)
  parts_lack r p q l e step (inr h) = level_lacks h.deep r l e (step (lacks_to agent wants h.deep) ∙ or_right _ _ h.lacks)

  -- what a call of one program stops at, another one that lacks what it lacks stops at too
  pub stops_as : {A : Type 0} (result : Result A Stop) (p r : Prog) → (L p → L r) → IfErr result (StopsAt agent wants higher p) → IfErr result (StopsAt agent wants higher r)
  stops_as (Ok x) p r f h = h
  stops_as (Err e) p r f h = record { why = λ is. f (h.why is) }

  pub stop_as : (s t : Stop) (p r : Prog) → t ≡ s → (L p → L r) → StopsAt agent wants higher p s → StopsAt agent wants higher r t
  stop_as s t p r e f h = record { why = λ is. f (h.why (sym e ∙ is)) }

  pub stops_from : {A : Type 0} (result : Result A Stop) (s : Stop) (p r : Prog) → IsErrAnd result (λ e. e ≡ s) → (L p → L r) → StopsAt agent wants higher p s → IfErr result (StopsAt agent wants higher r)
  stops_from (Ok x) s p r is f h = tt
  stops_from (Err e) s p r is f h = stop_as s e p r is f h

  -- the same where one of two programs stops it
  pub stops_at_either : {A : Type 0} (result : Result A Stop) (p q r : Prog) → (L p ⊎ L q → L r) → IfErr result (StopsAtEither agent wants higher p q) → IfErr result (StopsAt agent wants higher r)
  stops_at_either (Ok x) p q r f h = h
  stops_at_either (Err e) p q r f h = record { why = λ is. f (h.why is) }

  pub stops_or : {A : Type 0} (result : Result A Stop) (p q : Prog) → IfErr result (StopsAt agent wants higher q) → IfErr result (StopsAtEither agent wants higher p q)
  stops_or (Ok x) p q h = h
  stops_or (Err e) p q h = record { why = λ is. inr (h.why is) }

  pub stops_first : {A : Type 0} (result : Result A Stop) (s : Stop) (p q : Prog) → IsErrAnd result (λ e. e ≡ s) → StopsAt agent wants higher p s → IfErr result (StopsAtEither agent wants higher p q)
  stops_first (Ok x) s p q is h = tt
  stops_first (Err e) s p q is h = record { why = λ k. inl (h.why (sym is ∙ k)) }

  -- want of memory is no want of fuel
  pub memory_stops : {A : Type 0} (result : Result A Stop) (r : Prog) → IfErr result (λ s. s ≡ Memory) → IfErr result (StopsAt agent wants higher r)
  memory_stops (Ok x) r h = tt
  memory_stops (Err s) r h = record { why = λ is. absurd (cc (h, is)) }

  -- a block that wants more than its fuel
  pub block_stops : {A : Type 0} (result : Result A Stop) (r : Prog) (l : Layer) → out-Prog r ≡ l → (b : Bool) → ((f : Bool → Prog → Bool) → at f l ≡ b)
      → IfErr result (λ s. s ≡ Fuel → b ≡ true) → IfErr result (StopsAt agent wants higher r)
  block_stops (Ok x) r l e b step h = tt
  block_stops (Err s) r l e b step h = record { why = λ is. level_lacks 0 r l e (step (lacks_to agent wants 0) ∙ h is) }

  -- a block that wants more than its fuel in Must, wherever it stands
  pub must_stops : {A : Type 0} (result : Result A Stop) (r : Prog) (l : Layer) → out-Prog r ≡ l → (b d : Bool) → ((f : Bool → Prog → Bool) → at f l ≡ (b || d))
      → IfErr result (λ s. s ≡ Fuel → b ≡ true) → IfErr result (StopsAt agent wants higher r)
  must_stops (Ok x) r l e b d step h = tt
  must_stops (Err s) r l e b d step h = record { why = λ is. level_lacks 0 r l e (step (lacks_to agent wants 0) ∙ or_left b d (h is)) }

  -- a block that has not begun lacks what one lacks that follows nothing
  pub search_lacks : (r p : Prog) (depth fuel : ℕ) → r ≡ prog.Search depth fuel p → L (prog.Follow depth fuel p []) → L r
  search_lacks r p depth fuel e h = go h.deep h.lacks
    where
      go : (n : ℕ) → lacks_to agent wants n higher (prog.Follow depth fuel p []) ≡ true → L r
      go zero k = let none : false ≡ true = k in absurd (cc)
      go (suc n) k =
          level_lacks n r (Search depth fuel p) (ap out-Prog e ∙ prog.outs-Search depth fuel p)
          (sym (ap (at (lacks_to agent wants n)) (prog.outs-Follow depth fuel p [])) ∙ k)

  pub seq_one : (p q : Prog) → L p → L (prog.Seq p q)
  seq_one p q h = level_lacks h.deep (prog.Seq p q) (Seq p q) (prog.outs-Seq p q) (or_left _ _ h.lacks)

  pub seq_other : (p q : Prog) → (front agent p).skip ≡ true → L q → L (prog.Seq p q)
  seq_other p q s h = level_lacks h.deep (prog.Seq p q) (Seq p q) (prog.outs-Seq p q) (or_right _ _ (and_from _ _ s h.lacks))

  pub pick_lacks : (x sort : ℕ) (p : Prog) (i : ℕ) → i < sort_size agent sort → L (put_arg p x i) → L (prog.Pick x sort p)
  pick_lacks x sort p i l h =
      level_lacks h.deep (prog.Pick x sort p) (Pick x sort p) (prog.outs-Pick x sort p)
      (any_in (λ c. lacks_to agent wants h.deep higher (put_arg p x c)) (sort_size agent sort) 0 i (omega arith) (omega arith) h.lacks)

-- what a `prio` lacks where its higher part does, or its lower
module _ (agent : Agent) (wants : Mode → Wants) (higher : Bool) (p q : Prog) where
  pub prio_high : Lacks agent wants true p → Lacks agent wants higher (prog.Prio p q)
  prio_high h = level_lacks agent wants higher h.deep (prog.Prio p q) (Prio p q) (prog.outs-Prio p q) (or_left _ _ h.lacks)

  pub prio_low : Lacks agent wants higher q → Lacks agent wants higher (prog.Prio p q)
  prio_low h = level_lacks agent wants higher h.deep (prog.Prio p q) (Prio p q) (prog.outs-Prio p q) (or_right _ _ h.lacks)

-- what stops an answer about the higher part of a `prio` stops the one about the whole
pub stops_above : {A : Type 0} (agent : Agent) (wants : Mode → Wants) (result : Result A Stop) (s : Stop) (p r : Prog) → IsErrAnd result (λ e. e ≡ s)
    → (Lacks agent wants true p → Lacks agent wants false r) → StopsAt agent wants true p s → IfErr result (StopsAt agent wants false r)
stops_above agent wants (Ok x) s p r is f h = tt
stops_above agent wants (Err e) s p r is f h = record { why = λ k. f (h.why (sym is ∙ k)) }
