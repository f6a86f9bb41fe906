-- Three folds over one program give related answers where their steps keep the relation.
use Rattle.std.proofs.Common.{◌≡◌, List, [], ◌∷◌, map, refl, sym, ap, ◌∙◌, subst}
use Rattle.golog_tree.specs.declared.prog.Prog.{Prog}
use Rattle.golog_tree.specs.declared.prog.Way.{Way}
use Rattle.golog_tree.specs.declared.prog.Prog.TheOpen.{Prog-F, Way-F, Nil, Act, Test, Seq, Choice, Pick, Star, If, While, Conc, Prio, Cstar, Call, Search, Follow}
use Rattle.golog_tree.specs.declared.prog.Prog.TheViews.{roll-Prog, roll-Way}
use Rattle.golog_tree.specs.declared.prog.Prog.TheFolds.{fold-Prog, fold-Way, fold-roll-Prog, fold-roll-Way, ind-Prog, map-Prog, map-Way}

-- two maps, one after the other, at one level
module _ (A B C D E F : Type 0) (f : A → C) (g : B → D) (h : C → E) (k : D → F) where
  maps : (xs : List B) → map k (map g xs) ≡ map (λ x. k (g x)) xs
  maps [] = refl
  maps (x ∷ xs) = ap (λ ys. k (g x) ∷ ys) (maps xs)

  map_twice : (y : Prog-F A B) → map-Prog C D E F h k (map-Prog A B C D f g y) ≡ map-Prog A B E F (λ a. h (f a)) (λ b. k (g b)) y
  map_twice (Follow depth fuel p rest) = ap (Follow depth fuel (h (f p))) (maps rest)
  map_twice _ = refl

-- no third fold, and nothing asked of ways
abbrev pub Leaf : Type 0
Leaf = Unit {0}

abbrev pub free : {A B C : Type 0} → A → B → C → Type 0
free a b c = Unit {0}

-- three answers that are related
pub record Trio (A B C : Type 0) (R : A → B → C → Type 0) : Type 0 where
  pub one : A
  pub two : B
  pub three : C
  pub related : R one two three

module _ (A B C A' B' C' : Type 0) (R : A → B → C → Type 0) (R' : A' → B' → C' → Type 0) where
  abbrev pub Answers : Type 0
  Answers = Trio A B C R

  abbrev pub WayAnswers : Type 0
  WayAnswers = Trio A' B' C' R'

  abbrev pub ones : Prog-F Answers WayAnswers → Prog-F A A'
  ones = map-Prog Answers WayAnswers A A' (λ t. t.one) (λ t. t.one)

  abbrev pub twos : Prog-F Answers WayAnswers → Prog-F B B'
  twos = map-Prog Answers WayAnswers B B' (λ t. t.two) (λ t. t.two)

  abbrev pub threes : Prog-F Answers WayAnswers → Prog-F C C'
  threes = map-Prog Answers WayAnswers C C' (λ t. t.three) (λ t. t.three)

  module _ (s : Prog-F A A' → A) (s' : Way-F A A' → A') (t : Prog-F B B' → B) (t' : Way-F B B' → B') (u : Prog-F C C' → C) (u' : Way-F C C' → C') where
    -- the steps keep the relation
    pub record StepsRelated : Type 0 where
      pub of_layer : (y : Prog-F Answers WayAnswers) → R (s (ones y)) (t (twos y)) (u (threes y))
      pub of_way : (a : A) (b : B) (c : C) (label : _) → R a b c → R' (s' (record { label = label; left = a })) (t' (record { label = label; left = b })) (u' (record { label = label; left = c }))

    module _ (steps : StepsRelated) where
      abbrev Related : Prog → Type 0
      Related p = R (fold-Prog A A' s s' p) (fold-Prog B B' t t' p) (fold-Prog C C' u u' p)

      abbrev RelatedWay : Way → Type 0
      RelatedWay w = R' (fold-Way A A' s s' w) (fold-Way B B' t t' w) (fold-Way C C' u u' w)

      abbrev AP : Type 0
      AP = (p : Prog) × Related p

      abbrev AW : Type 0
      AW = (w : Way) × RelatedWay w

      abbrev answers : AP → Answers
      answers e = record { one = fold-Prog A A' s s' e.0; two = fold-Prog B B' t t' e.0; three = fold-Prog C C' u u' e.0; related = e.1 }

      abbrev way_answers : AW → WayAnswers
      way_answers e = record { one = fold-Way A A' s s' e.0; two = fold-Way B B' t t' e.0; three = fold-Way C C' u u' e.0; related = e.1 }

      abbrev both : Prog-F AP AW → Prog-F Answers WayAnswers
      both = map-Prog AP AW Answers WayAnswers answers way_answers

      abbrev prog_of : Prog-F AP AW → Prog-F Prog Way
      prog_of = map-Prog AP AW Prog Way (λ e. e.0) (λ e. e.0)

      at_one : (y : Prog-F AP AW) → fold-Prog A A' s s' (roll-Prog (prog_of y)) ≡ s (ones (both y))
      at_one y =
          fold-roll-Prog A A' s s' (prog_of y)
          ∙ ap s (map_twice AP AW Prog Way A A' (λ e. e.0) (λ e. e.0) (fold-Prog A A' s s') (fold-Way A A' s s') y
          ∙ sym (map_twice AP AW Answers WayAnswers A A' answers way_answers (λ r. r.one) (λ r. r.one) y))

      at_two : (y : Prog-F AP AW) → fold-Prog B B' t t' (roll-Prog (prog_of y)) ≡ t (twos (both y))
      at_two y =
          fold-roll-Prog B B' t t' (prog_of y)
          ∙ ap t (map_twice AP AW Prog Way B B' (λ e. e.0) (λ e. e.0) (fold-Prog B B' t t') (fold-Way B B' t t') y
          ∙ sym (map_twice AP AW Answers WayAnswers B B' answers way_answers (λ r. r.two) (λ r. r.two) y))

      at_three : (y : Prog-F AP AW) → fold-Prog C C' u u' (roll-Prog (prog_of y)) ≡ u (threes (both y))
      at_three y =
          fold-roll-Prog C C' u u' (prog_of y)
          ∙ ap u (map_twice AP AW Prog Way C C' (λ e. e.0) (λ e. e.0) (fold-Prog C C' u u') (fold-Way C C' u u') y
          ∙ sym (map_twice AP AW Answers WayAnswers C C' answers way_answers (λ r. r.three) (λ r. r.three) y))

      moved : (a a' : A) (b b' : B) (c c' : C) → a ≡ a' → b ≡ b' → c ≡ c' → R a' b' c' → R a b c
      moved a a' b b' c c' e f g h = subst (λ z. R z b c) (sym e) (subst (λ z. R a' z c) (sym f) (subst (λ z. R a' b' z) (sym g) h))

      layer : (y : Prog-F AP AW) → Related (roll-Prog (prog_of y))
      layer y =
          moved (fold-Prog A A' s s' (roll-Prog (prog_of y))) (s (ones (both y))) (fold-Prog B B' t t' (roll-Prog (prog_of y))) (t (twos (both y)))
          (fold-Prog C C' u u' (roll-Prog (prog_of y))) (u (threes (both y))) (at_one y) (at_two y) (at_three y) (steps.of_layer (both y))

      abbrev way_from : Way-F AP AW → Way-F Prog Way
      way_from = map-Way AP AW Prog Way (λ e. e.0) (λ e. e.0)

      way_layer : (y : Way-F AP AW) → RelatedWay (roll-Way (way_from y))
      way_layer y =
          subst (λ z. R' z (fold-Way B B' t t' (roll-Way (way_from y))) (fold-Way C C' u u' (roll-Way (way_from y)))) (sym (fold-roll-Way A A' s s' (way_from y)))
          (subst (λ z. R' (s' (record { label = y.label; left = fold-Prog A A' s s' y.left.0 })) z (fold-Way C C' u u' (roll-Way (way_from y)))) (sym (fold-roll-Way B B' t t' (way_from y)))
          (subst (λ z. R' (s' (record { label = y.label; left = fold-Prog A A' s s' y.left.0 })) (t' (record { label = y.label; left = fold-Prog B B' t t' y.left.0 })) z) (sym (fold-roll-Way C C' u u' (way_from y)))
          (steps.of_way (fold-Prog A A' s s' y.left.0) (fold-Prog B B' t t' y.left.0) (fold-Prog C C' u u' y.left.0) y.label y.left.1)))

      pub folds_related : (p : Prog) → Related p
      folds_related = ind-Prog Related RelatedWay (λ x y is. subst (λ z. Related (roll-Prog z)) is (layer y)) (λ x y is. subst (λ z. RelatedWay (roll-Way z)) is (way_layer y))
