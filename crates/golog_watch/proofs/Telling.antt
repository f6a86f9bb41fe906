-- Conditions that tell whether runs go through: of the empty run, of a run with one more way before it, and looked
-- up by the length of what is left.
use Rattle.std.proofs.Common.{◌≡◌, ℕ, zero, suc, ◌<◌, ◌⊎◌, inl, inr, Bool, true, false, ◌&&◌, if◌then◌else◌, Option, Some, List, [], ◌∷◌, ◌++◌, length, refl, sym, ap, ◌∙◌, subst, arith}
use Rattle.std.specs.Prelude.{◌==◌, nat_lt, IfSome, slice_get, fold}
use Rattle.std.specs.Cmp.Lexicographic.{pointwise}
use Rattle.std.specs.List.{list_any}
use Rattle.std.proofs.lemmas.Bool.{eq-eqb, ne_eqb}
use Rattle.std.proofs.lemmas.List.{length-append}
use Rattle.std.proofs.lemmas.Option.{slice_get_past, slice_get_within}
use Rattle.golog_base.proofs.Bools.{and-false}
use Rattle.golog_tree.specs.declared.agent.Agent.{Agent}
use Rattle.golog_tree.specs.declared.cond.Cond.{Cond}
use Rattle.golog_tree.specs.declared.cond.Cond.TheVariants as cond
use Rattle.golog_tree.specs.declared.prog.Label.{Label}
use Rattle.golog_tree.specs.declared.prog.Label.TheVariants.{Quiet, Do}
use Rattle.golog_tree.specs.declared.prog.Prog.{Prog}
use Rattle.golog_tree.specs.declared.prog.Way.{Way}
use Rattle.golog_semantics.specs.declared.Mode.TheVariants.{Must}
use Rattle.golog_semantics.specs.Blocks.{goes_through}
use Rattle.golog_semantics.specs.Fits.{nothing_bound}
use Rattle.golog_semantics.specs.Fronts.{IsEnd}
use Rattle.golog_semantics.specs.Modes.{holds}
use Rattle.golog_semantics.specs.Same.{same_prog, same_way}
use Rattle.golog_semantics.specs.Search.{Run, plain_ways}
use Rattle.golog_semantics.specs.InSorts.{AreInSorts}
use Rattle.golog_semantics.specs.Truth.{Values, env_of, truth_of}
use Rattle.golog_semantics.specs.Values.{after}
use Rattle.golog_semantics.specs.Ways.{is_so}
use Rattle.golog_semantics.specs.WellFormed.{WellFormed}
use Rattle.golog_semantics.proofs.CausesKeep.{steps_stay_in_sorts}
use Rattle.golog_semantics.proofs.SameLaws.{same_prog-eq}
use Rattle.golog_semantics.proofs.Tests.{and_both, and_cases}
use Rattle.golog_semantics.proofs.SamePrograms.{same-by, same_run-by, same_run-eq}
use Rattle.golog_regress.specs.Size.{nodes}
use Rattle.golog_regress.specs.Regression.{IsRegressed, after_event}
use Rattle.golog_fronts.proofs.Acting.{closed_cond}
use Rattle.golog_fronts.proofs.ClosedConds.{fits, fits-both}
use Rattle.golog_fronts.proofs.Ends.{so-both}
use Rattle.golog_watch.proofs.Opening.{by-bool}
use Rattle.golog_watch.specs.Watched.{AreTold, IsNext, Opens, TellEach, Tells, events_of, is_left, is_whole, most_nodes, with_small}

either : (b x y : Bool) → (if b then x else y) ≡ true → (x ≡ true) ⊎ (y ≡ true)
either true x y e = inl e
either false x y e = inr e

whichever : {A B C : Type 0} → A ⊎ B → (A → C) → (B → C) → C
whichever (inl x) f g = f x
whichever (inr y) f g = g y

-- the conditions, or with this one behind them
abbrev pub IsWith : List Cond → Cond → List Cond → Type 0
IsWith conds c list = (list ≡ conds) ⊎ (list ≡ conds ++ c ∷ [])

get-more : (conds : List Cond) (c : Cond) (n : ℕ) → n < length conds → slice_get (conds ++ c ∷ []) n ≡ slice_get conds n
get-more [] c n l = absurd (omega arith)
get-more (d ∷ conds) c zero l = refl
get-more (d ∷ conds) c (suc n) l = get-more conds c n (omega arith)

pub get-last : {A : Type 0} (xs : List A) (x : A) → slice_get (xs ++ x ∷ []) (length xs) ≡ Some x
get-last [] x = refl
get-last (y ∷ xs) x = get-last xs x

after-label : (agent : Agent) (values : Values) (label : Label) → fold (after_event agent) values (events_of label) ≡ after agent values label
after-label agent values Quiet = refl
after-label agent values (Do action) = refl

env-count : length (env_of []) ≡ 32
unfolding env_of
env-count = refl

pub before-none : (agent : Agent) (c answer : Cond) → answer ≡ c → IsRegressed agent [] c answer
before-none agent c answer same = subst (IsRegressed agent [] c) (sym same) (record { fits = λ scope e. e; truth = λ values env whole count at. refl })

pub at-some : {A : Type 0} (P : A → Type 0) (o : Option A) (x : A) → IfSome o P → o ≡ Some x → P x
at-some P o x h e = subst (λ z. IfSome z P) e h

-- what is left of a run that is as long, of one that is not, and of one that is over
left-whole : (p : Prog) (w : Way) (run : Run) (q : Prog) (rest : Run) → length (w ∷ run) ≡ length rest → is_left p (w ∷ run) q rest ≡ is_whole p (w ∷ run) q rest
left-whole p w run q rest e = ap (λ b. if b then is_whole p (w ∷ run) q rest else is_left w.left run q rest) (eq-eqb (suc (length run)) (length rest) e)

left-later : (p : Prog) (w : Way) (run : Run) (q : Prog) (rest : Run) → (length (w ∷ run) ≡ length rest → ⊥) → is_left p (w ∷ run) q rest ≡ is_left w.left run q rest
left-later p w run q rest n = ap (λ b. if b then is_whole p (w ∷ run) q rest else is_left w.left run q rest) (ne_eqb (suc (length run)) (length rest) n)

pub left-same : (p : Prog) (run : Run) (q : Prog) (rest : Run) → length run ≡ length rest → is_left p run q rest ≡ is_whole p run q rest
left-same p [] q rest e = refl
left-same p (w ∷ run) q rest e = left-whole p w run q rest e

pub left-other : (p : Prog) (run : Run) (w : Way) (later : Run) (q : Prog) (rest : Run) → run ≡ w ∷ later → (length run ≡ length rest → ⊥) → is_left p run q rest ≡ is_left w.left later q rest
left-other p run w later q rest is n =
    ap (λ (r : Run). is_left p r q rest) is ∙ left-later p w later q rest (λ e. n (ap length is ∙ e))

pub left-over : (p : Prog) (run : Run) (q : Prog) (rest : Run) → length run ≡ 0 → (length run ≡ length rest → ⊥) → is_left p run q rest ≡ false
left-over p [] q [] e n = absurd (n refl)
left-over p [] q (r ∷ rest) e n = and-false (same_prog p q)
left-over p (w ∷ run) q rest e n = absurd (omega arith)

-- a run is what itself leaves after no way
pub own-whole : (p : Prog) (run : Run) → is_whole p run p run ≡ true
own-whole p run =
    and_both (same_prog p p) (pointwise same_way run run) (sym (same-by true p p (λ _. refl, λ _. refl))) (sym (same_run-by true run run (λ _. refl, λ _. refl)))

pub own-left : (p : Prog) (run : Run) → is_left p run p run ≡ true
own-left p run = left-same p run p run refl ∙ own-whole p run

with-small : (conds : List Cond) (c : Cond) (list : List Cond) → list ≡ with_small conds c → IsWith conds c list
with-small conds c list e = by-bool {C = IsWith conds c list} (nat_lt most_nodes (nodes c)) (λ t. inl (e ∙ ap (λ b. if b then conds else conds ++ c ∷ []) t)) (λ t. inr (e ∙ ap (λ b. if b then conds else conds ++ c ∷ []) t))

pub empty-run : (run : Run) → length run ≡ 0 → [] ≡ run
empty-run [] e = refl
empty-run (w ∷ run) e = absurd (omega arith)

module _ (agent : Agent) where
  none-each : (p : Prog) (run : Run) → TellEach agent p run []
  none-each p [] = tt
  none-each p (w ∷ run) = (none-each w.left run, tt)

  pub none-told : (p : Prog) (run : Run) → AreTold agent p run []
  none-told p run = record { each = none-each p run; most = omega arith }

  more-each : (p : Prog) (run : Run) (conds : List Cond) (c : Cond) → length run < length conds → TellEach agent p run conds → TellEach agent p run (conds ++ c ∷ [])
  more-each p [] conds c l h = subst (λ o. IfSome o (Tells agent p [])) (sym (get-more conds c 0 l)) h
  more-each p (w ∷ run) conds c l h =
      (more-each w.left run conds c (omega arith) h.0, subst (λ o. IfSome o (Tells agent p (w ∷ run))) (sym (get-more conds c (suc (length run)) l)) h.1)

  -- the condition of the end tells of the empty run
  end-tells : (p : Prog) (c : Cond) → IsEnd agent p c → fits agent c ≡ true → Tells agent p [] c
  end-tells p c end closed = record { closed = closed; tells = λ values sorts. end.final Must values }

  end-with : (p : Prog) (c : Cond) (conds : List Cond) → IsEnd agent p c → fits agent c ≡ true → IsWith [] c conds → AreTold agent p [] conds
  end-with p c conds end closed (inl e) = subst (AreTold agent p []) (sym e) (none-told p [])
  end-with p c conds end closed (inr e) = subst (AreTold agent p []) (sym e) (record { each = end-tells p c end closed; most = omega arith })

  pub end-told : (p : Prog) (c : Cond) (conds : List Cond) → IsEnd agent p c → fits agent c ≡ true → conds ≡ with_small [] c → AreTold agent p [] conds
  end-told p c conds end closed e = end-with p c conds end closed (with-small [] c conds e)

  -- what is told of a run is told of what its first way leaves
  pub kept-told : (p : Prog) (w : Way) (later : Run) (conds : List Cond) → AreTold agent w.left later conds → AreTold agent p (w ∷ later) conds
  kept-told p w later conds h = record {
    each = (h.each, subst (λ o. IfSome o (Tells agent p (w ∷ later))) (sym (slice_get_past conds (suc (length later)) h.most)) tt);
    most = let m = h.most in omega arith;
  }

  first-with : (p : Prog) (w : Way) (later : Run) (conds list : List Cond) (c : Cond) → AreTold agent w.left later conds → IsNext agent p (w ∷ later) conds c → IsWith conds c list
      → AreTold agent p (w ∷ later) list
  first-with p w later conds list c h n (inl e) = subst (AreTold agent p (w ∷ later)) (sym e) (kept-told p w later conds h)
  first-with p w later conds list c h n (inr e) =
      let l = n.next in
      let m = h.most in
      let count : length conds ≡ suc (length later) = omega arith in
      let longer = length-append conds (c ∷ []) in
      subst (AreTold agent p (w ∷ later)) (sym e) (record {
        each = (
          more-each w.left later conds c (omega arith) h.each,
          subst (λ k. IfSome (slice_get (conds ++ c ∷ []) k) (Tells agent p (w ∷ later))) count
              (subst (λ o. IfSome o (Tells agent p (w ∷ later))) (sym (get-last conds c)) n.tells),
        );
        most = omega arith;
      })

  pub first-told : (p : Prog) (w : Way) (later : Run) (conds list : List Cond) (c : Cond) → AreTold agent w.left later conds → IsNext agent p (w ∷ later) conds c
      → list ≡ with_small conds c → AreTold agent p (w ∷ later) list
  first-told p w later conds list c h n e = first-with p w later conds list c h n (with-small conds c list e)

  -- the condition of a whole run
  pub told-whole : (p : Prog) (run : Run) (conds : List Cond) (c : Cond) → AreTold agent p run conds → slice_get conds (length run) ≡ Some c → Tells agent p run c
  told-whole p [] conds c h e = subst (λ o. IfSome o (Tells agent p [])) e h.each
  told-whole p (w ∷ run) conds c h e = subst (λ o. IfSome o (Tells agent p (w ∷ run))) e h.each.1

  pub next-of : (p : Prog) (w : Way) (later : Run) (conds : List Cond) (next whole : Cond) → slice_get conds (length later) ≡ Some next → Tells agent p (w ∷ later) whole → IsNext agent p (w ∷ later) conds whole
  next-of p w later conds next whole n t =
      let l = slice_get_within conds (length later) next n in
      record { tells = t; next = omega arith }

  pub told-if : (p : Prog) (run : Run) (conds : List Cond) → TellEach agent p run conds → IfSome (slice_get conds (length run)) (Tells agent p run)
  told-if p [] conds h = h
  told-if p (w ∷ run) conds h = h.1

  at-whole : (p : Prog) (run : Run) (conds : List Cond) (q : Prog) (rest : Run) → TellEach agent p run conds → is_whole p run q rest ≡ true → IfSome (slice_get conds (length rest)) (Tells agent q rest)
  at-whole p run conds q rest h e =
      let k = and_cases (same_prog p q) (pointwise same_way run rest) e in
      subst (λ (z : Prog). IfSome (slice_get conds (length rest)) (Tells agent z rest)) (same_prog-eq p q k.0)
      (subst (λ (r : Run). IfSome (slice_get conds (length r)) (Tells agent p r)) (same_run-eq run rest k.1) (told-if p run conds h))

  -- the condition of what is left of a run
  pub told-left : (p : Prog) (run : Run) (conds : List Cond) (q : Prog) (rest : Run) → TellEach agent p run conds → is_left p run q rest ≡ true → IfSome (slice_get conds (length rest)) (Tells agent q rest)
  told-left p [] conds q rest h e = at-whole p [] conds q rest h e
  told-left p (w ∷ run) conds q rest h e =
      whichever (either (suc (length run) == length rest) (is_whole p (w ∷ run) q rest) (is_left w.left run q rest) e)
      (λ k. at-whole p (w ∷ run) conds q rest h k) (λ k. told-left w.left run conds q rest h.0 k)

  module _ (formed : WellFormed agent) (p : Prog) (w : Way) (later : Run) (opened next before : Cond) (opens : Opens agent p w opened) (tells : Tells agent w.left later next) (back : IsRegressed agent (events_of w.label) next before) where
    abbrev there : Values → Values
    there values = after agent values w.label

    before-so : (values : Values) → AreInSorts agent values → is_so agent values Must before ≡ goes_through agent w.left later (there values)
    before-so values sorts =
        ap (holds Must)
        (back.truth values (env_of []) sorts.whole env-count (closed_cond agent next (env_of []) tells.closed)
        ∙ ap (λ (v : Values). truth_of agent v next (env_of [])) (after-label agent values w.label))
        ∙ tells.tells (there values) (steps_stay_in_sorts agent formed values w.label sorts)

    -- the condition of a run: that its first way is a step, and before that step the condition of the others
    pub first-tells : (c : Cond) → c ≡ cond.And (opened ∷ before ∷ []) → Tells agent p (w ∷ later) c
    first-tells c is = subst (Tells agent p (w ∷ later)) (sym is) (record {
      closed = fits-both agent opened before opens.closed (back.fits nothing_bound tells.closed);
      tells = λ values sorts.
          so-both agent values Must opened before
          ∙ ap (λ b. b && is_so agent values Must before) (opens.tells values)
          ∙ ap (λ b. list_any (same_way w) (plain_ways agent values Must p) && b) (before-so values sorts);
    })
