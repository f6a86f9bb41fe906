-- Which procedures may be skipped is settled after as many rounds as there are procedures.
use Rattle.std.proofs.Common.{◌≡◌, ℕ, zero, suc, ◌+◌, Bool, true, false, List, [], ◌∷◌, length, map, refl, ap, ◌∙◌}
use Rattle.std.specs.Option.{option_map_or}
use Rattle.golog_tree.specs.declared.agent.Agent.{Agent}
use Rattle.golog_tree.specs.declared.agent.ProcItem.{ProcItem}
use Rattle.golog_tree.specs.declared.prog.Prog.{Prog}
use Rattle.golog_tree.specs.declared.prog.Prog.TheOpen.{Prog-F, Nil, Act, Test, Seq, Choice, Pick, Star, If, While, Conc, Prio, Cstar, Call, Search, Follow}
use Rattle.golog_semantics.specs.Guarded.{Front, front_at, front_by, front_step, fronts_to, no_front}
use Rattle.golog_semantics.proofs.Reach.{Fore, fore_by, fore_step, is_skipped, no_call, proc_skips, skips_to}
use Rattle.golog_semantics.proofs.Rounds.{Below, below-at, rounds-settled, tested-rounds}
use Rattle.golog_semantics.proofs.FoldsRelated.{Leaf, free, Answers, WayAnswers, folds_related, ones, twos}
use Rattle.golog_semantics.proofs.Tests.{and_more, or_more}

module _ (bs cs : List Bool) (below : Below bs cs) where
  abbrev More : Fore → Fore → Leaf → Type 0
  More p q r = p.skip ≡ true → q.skip ≡ true

  more_step : (y : Prog-F (Answers Fore Fore Leaf Fore Fore Leaf More free) (WayAnswers Fore Fore Leaf Fore Fore Leaf More free))
      → More (fore_step bs (ones Fore Fore Leaf Fore Fore Leaf More free y)) (fore_step cs (twos Fore Fore Leaf Fore Fore Leaf More free y)) tt
  more_step Nil e = refl
  more_step (Act action args) e = e
  more_step (Test c) e = e
  more_step (Seq p q) e = and_more p.one.skip p.two.skip q.one.skip q.two.skip p.related q.related e
  more_step (Choice p q) e = or_more p.one.skip p.two.skip q.one.skip q.two.skip p.related q.related e
  more_step (Pick x sort p) e = p.related e
  more_step (Star p) e = refl
  more_step (If c p q) e = or_more p.one.skip p.two.skip q.one.skip q.two.skip p.related q.related e
  more_step (While c p) e = refl
  more_step (Conc p q) e = and_more p.one.skip p.two.skip q.one.skip q.two.skip p.related q.related e
  more_step (Prio p q) e = and_more p.one.skip p.two.skip q.one.skip q.two.skip p.related q.related e
  more_step (Cstar p) e = refl
  more_step (Call item args) e = below-at (λ o. option_map_or (λ b. b) o true) (λ b. refl) bs cs below item e
  more_step (Search depth fuel p) e = p.related e
  more_step (Follow depth fuel p rest) e = p.related e

  skip-more : (p : Prog) → (fore_by bs p).skip ≡ true → (fore_by cs p).skip ≡ true
  skip-more =
      folds_related Fore Fore Leaf Fore Fore Leaf More free (fore_step bs) (λ w. no_call false) (fore_step cs) (λ w. no_call false) (λ y. tt) (λ w. tt)
      (record { of_layer = more_step; of_way = λ a b c label h. tt })

pub skipped-front : (fs : List Front) (item : ℕ) → (front_at fs item).skip ≡ is_skipped (map (λ (f : Front). f.skip) fs) item
skipped-front [] item = refl
skipped-front (f ∷ fs) zero = refl
skipped-front (f ∷ fs) (suc item) = skipped-front fs item

module _ (fs : List Front) where
  -- which of the procedures may be skipped
  abbrev skips : List Bool
  skips = map (λ (f : Front). f.skip) fs

  abbrev Alike : Front → Fore → Leaf → Type 0
  Alike p q r = p.skip ≡ q.skip

  alike_step : (y : Prog-F (Answers Front Fore Leaf Front Fore Leaf Alike free) (WayAnswers Front Fore Leaf Front Fore Leaf Alike free))
      → Alike (front_step fs (ones Front Fore Leaf Front Fore Leaf Alike free y)) (fore_step skips (twos Front Fore Leaf Front Fore Leaf Alike free y)) tt
  alike_step Nil = refl
  alike_step (Act action args) = refl
  alike_step (Test c) = refl
  alike_step (Seq p q) = let h = p.related in let k = q.related in cc
  alike_step (Choice p q) = let h = p.related in let k = q.related in cc
  alike_step (Pick x sort p) = p.related
  alike_step (Star p) = refl
  alike_step (If c p q) = let h = p.related in let k = q.related in cc
  alike_step (While c p) = refl
  alike_step (Conc p q) = let h = p.related in let k = q.related in cc
  alike_step (Prio p q) = let h = p.related in let k = q.related in cc
  alike_step (Cstar p) = refl
  alike_step (Call item args) = skipped-front fs item
  alike_step (Search depth fuel p) = p.related
  alike_step (Follow depth fuel p rest) = p.related

  pub skip-alike : (p : Prog) → (front_by fs p).skip ≡ (fore_by (map (λ (f : Front). f.skip) fs) p).skip
  skip-alike =
      folds_related Front Fore Leaf Front Fore Leaf Alike free (front_step fs) (λ w. no_front) (fore_step skips) (λ w. no_call false) (λ y. tt) (λ w. tt)
      (record { of_layer = alike_step; of_way = λ a b c label h. tt })

module _ (agent : Agent) where
  -- no later round says anything else
  pub skips-settled : (more k : ℕ) → k ≡ more + length agent.procs → skips_to k agent ≡ proc_skips agent
  unfolding proc_skips
  skips-settled =
      rounds-settled (λ n. skips_to n agent) (length agent.procs)
      (tested-rounds agent.procs (λ bs item. (fore_by bs item.body).skip) (λ n. skips_to n agent) refl (λ n. refl) (λ bs cs h item. skip-more bs cs h item.body))

  map-skip : (f : ProcItem → Front) (g : ProcItem → Bool) → ((item : ProcItem) → (f item).skip ≡ g item) → (items : List ProcItem) → map (λ (r : Front). r.skip) (map f items) ≡ map g items
  map-skip f g h [] = refl
  map-skip f g h (item ∷ items) = let e = h item in let k = map-skip f g h items in cc

  -- the rounds of the fronts say the same of skipping
  pub fronts-skips : (k : ℕ) → map (λ (f : Front). f.skip) (fronts_to k agent) ≡ skips_to k agent
  fronts-skips zero = map-skip (λ item. no_front) (λ item. false) (λ item. refl) agent.procs
  fronts-skips (suc k) =
      map-skip (λ item. front_by (fronts_to k agent) item.body) (λ item. (fore_by (skips_to k agent) item.body).skip)
      (λ item. skip-alike (fronts_to k agent) item.body ∙ ap (λ bs. (fore_by bs item.body).skip) (fronts-skips k)) agent.procs
