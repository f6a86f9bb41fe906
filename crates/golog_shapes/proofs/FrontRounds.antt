-- Skipping by rounds, and that calls without a step are told by what is skipped alone.
use Rattle.std.proofs.Common.{◌≡◌, ℕ, zero, suc, Bool, false, List, [], ◌∷◌, length, map, refl, sym, ap, ◌∙◌, replicate}
use Rattle.std.proofs.lemmas.List.{length-map}
use Rattle.golog_tree.specs.declared.agent.ProcItem.{ProcItem}
use Rattle.golog_tree.specs.declared.draft.DraftProc.{DraftProc}
use Rattle.golog_tree.specs.declared.prog.Prog.{Prog}
use Rattle.golog_tree.specs.declared.prog.Prog.TheOpen.{Prog-F, Nil, Act, Test, Seq, Choice, Pick, Star, If, While, Conc, Prio, Cstar, Call, Search, Follow}
use Rattle.golog_semantics.specs.Guarded.{Front, front_at, front_by, front_step, fronts_to, no_front, proc_fronts}
use Rattle.golog_semantics.specs.FrontCalls.{Calling, calling, calling_step, front_calls}
use Rattle.golog_semantics.proofs.Reach.{is_skipped, proc_skips, skips_to}
use Rattle.golog_semantics.proofs.SkipRounds.{fronts-skips, skipped-front}
use Rattle.golog_semantics.proofs.GuardedReach.{all_skips}
use Rattle.golog_semantics.proofs.FoldsRelated.{Leaf, free, Answers, WayAnswers, folds_related, ones, twos}
use Rattle.golog_shapes.specs.Shapes.{shape, shape_of, shapes}
use Rattle.golog_shapes.specs.Settled.{rounds_of}
use Rattle.std.specs.Prelude.{min}
use Rattle.golog_shapes.specs.DraftNest.{draft_nest}
use Rattle.golog_shapes.specs.Told.{nesting_by, nesting_in, nestings_in}
use Rattle.golog_shapes.specs.Fronts.{Fore, draft_fore, skip_round}
use Rattle.golog_shapes.proofs.Fores.{front_where, fore-same}
use Rattle.golog_shapes.proofs.RoundLaws.{map-alike, map-same, map-two}
use Rattle.golog_tree.specs.declared.draft_prog.DraftProg.{DraftProg}

abbrev is_skip : Front → Bool
is_skip front = front.skip

same-skips : (fs gs : List Front) → map is_skip fs ≡ map is_skip gs → (item : ℕ) → (front_at fs item).skip ≡ (front_at gs item).skip
same-skips fs gs same item = skipped-front fs item ∙ ap (λ bs. is_skipped bs item) same ∙ sym (skipped-front gs item)

module _ (fs gs : List Front) (same : map is_skip fs ≡ map is_skip gs) where
  -- skipped alike, with the same calls
  record Like (p q : Calling) (r : Leaf) : Type 0 where
    skips : p.front.skip ≡ q.front.skip
    calls : p.calls ≡ q.calls

  like-step : (y : Prog-F (Answers Calling Calling Leaf Calling Calling Leaf Like free) (WayAnswers Calling Calling Leaf Calling Calling Leaf Like free))
      → Like (calling_step fs (ones Calling Calling Leaf Calling Calling Leaf Like free y)) (calling_step gs (twos Calling Calling Leaf Calling Calling Leaf Like free y)) tt
  like-step Nil = record { skips = refl; calls = refl }
  like-step (Act action args) = record { skips = refl; calls = refl }
  like-step (Test c) = record { skips = refl; calls = refl }
  like-step (Seq p q) =
      let a = p.related.skips in let b = q.related.skips in let c = p.related.calls in let d = q.related.calls in record { skips = cc; calls = cc }
  like-step (Choice p q) =
      let a = p.related.skips in let b = q.related.skips in let c = p.related.calls in let d = q.related.calls in record { skips = cc; calls = cc }
  like-step (Pick x sort p) = record { skips = p.related.skips; calls = p.related.calls }
  like-step (Star p) = record { skips = refl; calls = p.related.calls }
  like-step (If t p q) =
      let a = p.related.skips in let b = q.related.skips in let c = p.related.calls in let d = q.related.calls in record { skips = cc; calls = cc }
  like-step (While t p) = record { skips = refl; calls = p.related.calls }
  like-step (Conc p q) =
      let a = p.related.skips in let b = q.related.skips in let c = p.related.calls in let d = q.related.calls in record { skips = cc; calls = cc }
  like-step (Prio p q) =
      let a = p.related.skips in let b = q.related.skips in let c = p.related.calls in let d = q.related.calls in record { skips = cc; calls = cc }
  like-step (Cstar p) = record { skips = refl; calls = p.related.calls }
  like-step (Call item args) = record { skips = same-skips fs gs same item; calls = refl }
  like-step (Search depth fuel p) = record { skips = p.related.skips; calls = p.related.calls }
  like-step (Follow depth fuel p rest) = record { skips = p.related.skips; calls = p.related.calls }

  like : (p : Prog) → Like (calling fs p) (calling gs p) tt
  like =
      folds_related Calling Calling Leaf Calling Calling Leaf Like free (calling_step fs) (λ w. record { front = no_front; calls = [] }) (calling_step gs)
      (λ w. record { front = no_front; calls = [] }) (λ y. tt) (λ w. tt) (record { of_layer = like-step; of_way = λ a b c label h. tt })

  -- the front of a program, and that with its calls
  abbrev Skipped : Front → Calling → Leaf → Type 0
  Skipped p q r = p.skip ≡ q.front.skip

  skip-step : (y : Prog-F (Answers Front Calling Leaf Front Calling Leaf Skipped free) (WayAnswers Front Calling Leaf Front Calling Leaf Skipped free))
      → Skipped (front_step fs (ones Front Calling Leaf Front Calling Leaf Skipped free y)) (calling_step gs (twos Front Calling Leaf Front Calling Leaf Skipped free y)) tt
  skip-step Nil = refl
  skip-step (Act action args) = refl
  skip-step (Test c) = refl
  skip-step (Seq p q) = let a = p.related in let b = q.related in cc
  skip-step (Choice p q) = let a = p.related in let b = q.related in cc
  skip-step (Pick x sort p) = p.related
  skip-step (Star p) = refl
  skip-step (If c p q) = let a = p.related in let b = q.related in cc
  skip-step (While c p) = refl
  skip-step (Conc p q) = let a = p.related in let b = q.related in cc
  skip-step (Prio p q) = let a = p.related in let b = q.related in cc
  skip-step (Cstar p) = refl
  skip-step (Call item args) = same-skips fs gs same item
  skip-step (Search depth fuel p) = p.related
  skip-step (Follow depth fuel p rest) = p.related

  skip-like : (p : Prog) → (front_by fs p).skip ≡ (calling gs p).front.skip
  skip-like =
      folds_related Front Calling Leaf Front Calling Leaf Skipped free (front_step fs) (λ w. no_front) (calling_step gs)
      (λ w. record { front = no_front; calls = [] }) (λ y. tt) (λ w. tt) (record { of_layer = skip-step; of_way = λ a b c label h. tt })

where-skips : (skips : List Bool) → map is_skip (map front_where skips) ≡ skips
where-skips [] = refl
where-skips (skip ∷ skips) = ap (λ bs. skip ∷ bs) (where-skips skips)

module _ (procs : List DraftProc) where
  abbrev said : ℕ → List Bool
  said k = rounds_of (skip_round procs) k (replicate (length procs) false)

  skips-to : (k : ℕ) → map is_skip (fronts_to k (shapes procs)) ≡ rounds_of (skip_round procs) k (replicate (length procs) false)
  skips-to zero =
      map-two is_skip (λ (item : ProcItem). no_front) (map shape_of procs) ∙ map-same false (map shape_of procs)
      ∙ ap (λ n. replicate n false) (length-map procs shape_of)
  skips-to (suc k) =
      let fs = fronts_to k (shapes procs) in
      map-two is_skip (λ (item : ProcItem). front_by fs item.body) (map shape_of procs)
      ∙ map-two (λ (item : ProcItem). (front_by fs item.body).skip) shape_of procs
      ∙ map-alike (λ (item : DraftProc). (front_by fs (shape item.body)).skip) (λ (item : DraftProc). (draft_fore (said k) item.body).skip)
      (λ item. skip-like fs (map front_where (said k)) (skips-to k ∙ sym (where-skips (said k))) (shape item.body)
      ∙ ap (λ (p : Fore). p.skip) (fore-same (said k) item.body)) procs

  -- the procedures that may be skipped
  pub skips-rounds : map is_skip (proc_fronts (shapes procs)) ≡ rounds_of (skip_round procs) (length procs) (replicate (length procs) false)
  unfolding proc_skips
  skips-rounds =
      all_skips (shapes procs) ∙ ap (λ n. skips_to n (shapes procs)) (length-map procs shape_of)
      ∙ sym (fronts-skips (shapes procs) (length procs)) ∙ skips-to (length procs)

  -- what a program calls without a step, by these
  pub calls-told : (d : DraftProg) → front_calls (shapes procs) (shape d)
      ≡ (draft_fore (rounds_of (skip_round procs) (length procs) (replicate (length procs) false)) d).calls
  calls-told d =
      let skips = rounds_of (skip_round procs) (length procs) (replicate (length procs) false) in
      (like (proc_fronts (shapes procs)) (map front_where skips) (skips-rounds ∙ sym (where-skips skips)) (shape d)).calls
      ∙ ap (λ (p : Fore). p.calls) (fore-same skips d)

  abbrev told_by : ℕ → List ℕ → ℕ × List ℕ
  told_by own calls = (own, calls)

  -- how deep each nests and what it calls, by these
  pub nestings-told : (skips : List Bool) → skips ≡ rounds_of (skip_round procs) (length procs) (replicate (length procs) false)
      → map (λ (item : DraftProc). nesting_by skips item.body) procs ≡ nestings_in procs
  nestings-told skips e =
      map-alike (λ (item : DraftProc). nesting_by skips item.body) (nesting_in procs)
      (λ item.
      let own = min (draft_nest item.body) 1025 in
      ap (λ s. told_by own (draft_fore s item.body).calls) e ∙ ap (told_by own) (sym (calls-told item.body))) procs
