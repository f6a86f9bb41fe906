-- A procedure that is called without a step leads less deep, and the depth of a program hangs on these calls alone.
use Rattle.std.proofs.Common.{◌≡◌, inl, inr, ℕ, ◌+◌, ◌<◌, Bool, true, false, ◌&&◌, ◌||◌, if◌then◌else◌, List, map, refl, sym, ap, ◌∙◌, subst, arith}
use Rattle.std.specs.Prelude.{max}
use Rattle.std.proofs.lemmas.Bool.{eqb-true, eq-eqb}
use Rattle.golog_tree.specs.declared.prog.Prog.{Prog}
use Rattle.golog_tree.specs.declared.prog.Prog.TheOpen.{Prog-F, Nil, Act, Test, Seq, Choice, Pick, Star, If, While, Conc, Prio, Cstar, Call, Search, Follow}
use Rattle.golog_semantics.specs.Guarded.{Front, front_at, front_by, front_step, no_front}
use Rattle.golog_semantics.proofs.Reach.{Fore, fore_by, fore_step, is_skipped, no_call}
use Rattle.golog_semantics.proofs.FoldsRelated.{Leaf, free, Answers, WayAnswers, Trio, folds_related, ones, twos, threes}
use Rattle.golog_semantics.proofs.SkipRounds.{skipped-front}
use Rattle.golog_semantics.proofs.Tests.{and_cases, or_cases, or_first, or_second}

-- under a test that holds
under : (b : Bool) (h n : ℕ) → b ≡ true → n < h → n < (if b then h else 0)
under true h n e l = l
under false h n e l = absurd (cc)

module _ (fs : List Front) where
  abbrev skips : List Bool
  skips = map (λ (f : Front). f.skip) fs

  -- the same is skipped, and what is called leads less deep
  pub record Deeper (p : Front) (q : Fore) (r : Leaf) : Type 0 where
    pub alike : p.skip ≡ q.skip
    pub lower : (item : ℕ) → q.calls item ≡ true → (front_at fs item).height < p.height

  either_lower : (p q : Front) (p' q' : Fore) (h : ℕ) → ((item : ℕ) → p'.calls item ≡ true → (front_at fs item).height < p.height)
      → ((item : ℕ) → q'.calls item ≡ true → (front_at fs item).height < q.height) → h ≡ 1 + max p.height q.height
      → (item : ℕ) → (p'.calls item || q'.calls item) ≡ true → (front_at fs item).height < h
  either_lower p q p' q' h a b e item k =
      elim (or_cases (p'.calls item) (q'.calls item) k) [ inl l ↦ (let x = a item l in omega arith) | inr l ↦ (let x = b item l in omega arith) ]

  seq_lower : (p q : Front) (p' q' : Fore) → p.skip ≡ p'.skip → ((item : ℕ) → p'.calls item ≡ true → (front_at fs item).height < p.height)
      → ((item : ℕ) → q'.calls item ≡ true → (front_at fs item).height < q.height)
      → (item : ℕ) → (p'.calls item || (p'.skip && q'.calls item)) ≡ true → (front_at fs item).height < 1 + max p.height (if p.skip then q.height else 0)
  seq_lower p q p' q' s a b item k =
      elim (or_cases (p'.calls item) (p'.skip && q'.calls item) k) [
        | inl l ↦ (let x = a item l in omega arith)
        | inr l ↦ (let c = and_cases p'.skip (q'.calls item) l in let x = under p.skip q.height (front_at fs item).height (s ∙ c.0) (b item c.1) in omega arith)
      ]

  abbrev Y : Type 0
  Y = Prog-F (Answers Front Fore Leaf Front Fore Leaf Deeper free) (WayAnswers Front Fore Leaf Front Fore Leaf Deeper free)

  deeper_step : (y : Y) → Deeper (front_step fs (ones Front Fore Leaf Front Fore Leaf Deeper free y)) (fore_step skips (twos Front Fore Leaf Front Fore Leaf Deeper free y)) tt
  deeper_step Nil = record { alike = refl; lower = λ item e. absurd (cc) }
  deeper_step (Act action args) = record { alike = refl; lower = λ item e. absurd (cc) }
  deeper_step (Test c) = record { alike = refl; lower = λ item e. absurd (cc) }
  deeper_step (Seq p q) = record {
    alike = (let h = p.related.alike in let k = q.related.alike in cc);
    lower = seq_lower p.one q.one p.two q.two p.related.alike p.related.lower q.related.lower;
  }
  deeper_step (Choice p q) = record {
    alike = (let h = p.related.alike in let k = q.related.alike in cc);
    lower = either_lower p.one q.one p.two q.two (1 + max p.one.height q.one.height) p.related.lower q.related.lower refl;
  }
  deeper_step (Pick x sort p) = record { alike = p.related.alike; lower = λ item e. let h = p.related.lower item e in omega arith }
  deeper_step (Star p) = record { alike = refl; lower = λ item e. let h = p.related.lower item e in omega arith }
  deeper_step (If c p q) = record {
    alike = (let h = p.related.alike in let k = q.related.alike in cc);
    lower = either_lower p.one q.one p.two q.two (1 + max p.one.height q.one.height) p.related.lower q.related.lower refl;
  }
  deeper_step (While c p) = record { alike = refl; lower = λ item e. let h = p.related.lower item e in omega arith }
  deeper_step (Conc p q) = record {
    alike = (let h = p.related.alike in let k = q.related.alike in cc);
    lower = either_lower p.one q.one p.two q.two (1 + max p.one.height q.one.height) p.related.lower q.related.lower refl;
  }
  deeper_step (Prio p q) = record {
    alike = (let h = p.related.alike in let k = q.related.alike in cc);
    lower = either_lower p.one q.one p.two q.two (1 + max p.one.height q.one.height) p.related.lower q.related.lower refl;
  }
  deeper_step (Cstar p) = record { alike = refl; lower = λ item e. let h = p.related.lower item e in omega arith }
  deeper_step (Call item args) = record {
    alike = skipped-front fs item;
    lower = λ other e. subst (λ k. (front_at fs k).height < 1 + (front_at fs item).height) (sym (eqb-true other item e)) (omega arith);
  }
  deeper_step (Search depth fuel p) = record { alike = p.related.alike; lower = λ item e. let h = p.related.lower item e in omega arith }
  deeper_step (Follow depth fuel p rest) = record { alike = p.related.alike; lower = λ item e. let h = p.related.lower item e in omega arith }

  pub deeper : (p : Prog) → Deeper (front_by fs p) (fore_by (map (λ (f : Front). f.skip) fs) p) tt
  deeper =
      folds_related Front Fore Leaf Front Fore Leaf Deeper free (front_step fs) (λ w. no_front) (fore_step skips) (λ w. no_call false) (λ y. tt) (λ w. tt)
      (record { of_layer = deeper_step; of_way = λ a b c label h. tt })

module _ (fs gs : List Front) (skips : List Bool) (here : map (λ (f : Front). f.skip) fs ≡ skips) (there : map (λ (f : Front). f.skip) gs ≡ skips) where
  -- these calls lead as deep by either list
  abbrev Same : (ℕ → Bool) → Type 0
  Same calls = (item : ℕ) → calls item ≡ true → (front_at fs item).height ≡ (front_at gs item).height

  pub record Near (p q : Front) (r : Fore) : Type 0 where
    pub one_skip : p.skip ≡ r.skip
    pub two_skip : q.skip ≡ r.skip
    pub heights : Same r.calls → p.height ≡ q.height

  left_same : (p q : ℕ → Bool) → Same (λ item. p item || q item) → Same p
  left_same p q s item e = s item (or_first (p item) (q item) e)

  right_same : (p q : ℕ → Bool) → Same (λ item. p item || q item) → Same q
  right_same p q s item e = s item (or_second (p item) (q item) e)

  seq_heights : (b : Bool) (h k : ℕ) (p q : ℕ → Bool) → (Same q → h ≡ k) → Same (λ item. p item || (b && q item)) → (if b then h else 0) ≡ (if b then k else 0)
  seq_heights true h k p q e s = e (right_same p q s)
  seq_heights false h k p q e s = refl

  abbrev Z : Type 0
  Z = Prog-F (Answers Front Front Fore Front Front Fore Near free) (WayAnswers Front Front Fore Front Front Fore Near free)

  abbrev One : Z → Front
  One y = front_step fs (ones Front Front Fore Front Front Fore Near free y)

  abbrev Two : Z → Front
  Two y = front_step gs (twos Front Front Fore Front Front Fore Near free y)

  abbrev Three : Z → Fore
  Three y = fore_step skips (threes Front Front Fore Front Front Fore Near free y)

  pair : (p q : Trio Front Front Fore Near) → Same (λ item. p.three.calls item || q.three.calls item) → 1 + max p.one.height q.one.height ≡ 1 + max p.two.height q.two.height
  pair p q s =
      let h = p.related.heights (left_same p.three.calls q.three.calls s) in
      let k = q.related.heights (right_same p.three.calls q.three.calls s) in
      cc

  near_step : (y : Z) → Near (One y) (Two y) (Three y)
  near_step Nil = record { one_skip = refl; two_skip = refl; heights = λ s. refl }
  near_step (Act action args) = record { one_skip = refl; two_skip = refl; heights = λ s. refl }
  near_step (Test c) = record { one_skip = refl; two_skip = refl; heights = λ s. refl }
  near_step (Seq p q) = record {
    one_skip = (let h = p.related.one_skip in let k = q.related.one_skip in cc);
    two_skip = (let h = p.related.two_skip in let k = q.related.two_skip in cc);
    heights = λ s.
        let h = p.related.heights (left_same p.three.calls (λ item. p.three.skip && q.three.calls item) s) in
        let k = seq_heights p.three.skip q.one.height q.two.height p.three.calls q.three.calls q.related.heights s in
        let e = p.related.one_skip in let f = p.related.two_skip in
        cc;
  }
  near_step (Choice p q) = record {
    one_skip = (let h = p.related.one_skip in let k = q.related.one_skip in cc);
    two_skip = (let h = p.related.two_skip in let k = q.related.two_skip in cc);
    heights = pair p q;
  }
  near_step (Pick x sort p) = record { one_skip = p.related.one_skip; two_skip = p.related.two_skip; heights = λ s. let h = p.related.heights s in cc }
  near_step (Star p) = record { one_skip = refl; two_skip = refl; heights = λ s. let h = p.related.heights s in cc }
  near_step (If c p q) = record {
    one_skip = (let h = p.related.one_skip in let k = q.related.one_skip in cc);
    two_skip = (let h = p.related.two_skip in let k = q.related.two_skip in cc);
    heights = pair p q;
  }
  near_step (While c p) = record { one_skip = refl; two_skip = refl; heights = λ s. let h = p.related.heights s in cc }
  near_step (Conc p q) = record {
    one_skip = (let h = p.related.one_skip in let k = q.related.one_skip in cc);
    two_skip = (let h = p.related.two_skip in let k = q.related.two_skip in cc);
    heights = pair p q;
  }
  near_step (Prio p q) = record {
    one_skip = (let h = p.related.one_skip in let k = q.related.one_skip in cc);
    two_skip = (let h = p.related.two_skip in let k = q.related.two_skip in cc);
    heights = pair p q;
  }
  near_step (Cstar p) = record { one_skip = refl; two_skip = refl; heights = λ s. let h = p.related.heights s in cc }
  near_step (Call item args) = record {
    one_skip = skipped-front fs item ∙ ap (λ bs. is_skipped bs item) here;
    two_skip = skipped-front gs item ∙ ap (λ bs. is_skipped bs item) there;
    heights = λ s. let h = s item (eq-eqb item item refl) in cc;
  }
  near_step (Search depth fuel p) = record { one_skip = p.related.one_skip; two_skip = p.related.two_skip; heights = λ s. let h = p.related.heights s in cc }
  near_step (Follow depth fuel p rest) = record { one_skip = p.related.one_skip; two_skip = p.related.two_skip; heights = λ s. let h = p.related.heights s in cc }

  -- where the calls lead as deep, so does the program
  pub near : (p : Prog) → Near (front_by fs p) (front_by gs p) (fore_by skips p)
  near =
      folds_related Front Front Fore Front Front Fore Near free (front_step fs) (λ w. no_front) (front_step gs) (λ w. no_front) (fore_step skips) (λ w. no_call false)
      (record { of_layer = near_step; of_way = λ a b c label h. tt })
