-- One level of a program that a draft says: how it is joined, and that its parts fit where it does.
use Rattle.std.proofs.Common.{◌≡◌, ℕ, Bool, true, false, Some, Result, Ok, refl, sym, ap, subst, ◌∙◌}
use Rattle.std.specs.Option.{option_map_or}
use Rattle.std.proofs.lemmas.Bool.{false≢true}
use Rattle.golog_tree.specs.declared.agent.Agent.{Agent}
use Rattle.golog_tree.specs.declared.prog.Prog.{Prog}
use Rattle.golog_tree.specs.declared.prog.Way.{Way}
use Rattle.golog_tree.specs.declared.prog.Prog.TheVariants as prog
use Rattle.golog_tree.specs.declared.prog.Prog.TheOpen.{Nil, Seq, Choice, Conc, Prio}
use Rattle.golog_tree.specs.declared.prog.Prog.TheViews.{out-Prog, roll-Prog, roll-out-Prog}
use Rattle.golog_tree.specs.declared.prog.Prog.TheFolds.{fold_out-Prog, fold-Way, map-Prog}
use Rattle.golog_rows.specs.Reading.{Reading, gives, outcome_behind, ◌>>=◌}
use Rattle.golog_semantics.specs.ProgFits as fitting
use Rattle.golog_semantics.specs.ProgFits.{Position, prog_fits}
use Rattle.golog_semantics.specs.Written.{written_prog_step, is_written_prog}
use Rattle.golog_semantics.proofs.Tests.{and_cases}
use Rattle.golog_tree.specs.declared.join.Join.{Join}
use Rattle.golog_tree.specs.declared.join.Join.TheVariants.{Seq as InSeq, Choice as InChoice, Conc as InConc, Prio as InPrio}
use Rattle.golog_check.specs.Programs.{joined}
use Rattle.golog_check.specs.ProgramLaws.{IsProgOf}
use Rattle.golog_tree.specs.Tidy.{Layer}
use Rattle.golog_refusals.specs.Says.{is_nil, two_of}

-- a reading, and what is made of its value
pub then-gives : {A B : Type 0} (reading : Reading A) (make : A → B) (x : A) → reading.outcome ≡ Ok x
    → (reading >>= λ y. gives (make y)).outcome ≡ Ok (make x)
then-gives {A} {B} reading make x e = ap (λ (o : Result A (ℕ × ℕ)). outcome_behind o (λ y. gives (make y))) e

-- a program is what its level rolls up to
pub rolled : (o : Result Prog (ℕ × ℕ)) (p : Prog) → o ≡ Ok (roll-Prog (out-Prog p)) → o ≡ Ok p
rolled o p e = e ∙ ap (λ q. Ok q) (roll-out-Prog p)

-- ---- parts that are joined

pub nil-level : (l : Layer) → is_nil l ≡ true → l ≡ Nil
nil-level Nil h = refl
nil-level _ h = absurd (false≢true h)

abbrev pub join_level : Join → Prog → Prog → Layer
join_level InSeq p q = Seq p q
join_level InChoice p q = Choice p q
join_level InConc p q = Conc p q
join_level InPrio p q = Prio p q

-- the two parts of a level that is joined so
pub record Two (join : Join) (l : Layer) (holds : Prog × Prog → Bool) : Type 0 where
  pub first : Prog
  pub second : Prog
  pub hold : holds (first, second) ≡ true
  pub is : l ≡ join_level join first second

pub two-level : (join : Join) (l : Layer) (holds : Prog × Prog → Bool)
    → option_map_or holds (two_of join l) false ≡ true → Two join l holds
two-level InSeq (Seq p q) holds h = record { first = p; second = q; hold = h; is = refl }
two-level InChoice (Choice p q) holds h = record { first = p; second = q; hold = h; is = refl }
two-level InConc (Conc p q) holds h = record { first = p; second = q; hold = h; is = refl }
two-level InPrio (Prio p q) holds h = record { first = p; second = q; hold = h; is = refl }
two-level _ _ holds h = absurd (false≢true h)

join-rolled : (join : Join) (p q : Prog) → roll-Prog (join_level join p q) ≡ joined join p q
join-rolled InSeq p q = prog.rolls-Seq p q
join-rolled InChoice p q = prog.rolls-Choice p q
join-rolled InConc p q = prog.rolls-Conc p q
join-rolled InPrio p q = prog.rolls-Prio p q

pub joined-is : (join : Join) (p first second : Prog) → out-Prog p ≡ join_level join first second
    → joined join first second ≡ p
joined-is join p first second e = sym (join-rolled join first second) ∙ ap roll-Prog (sym e) ∙ roll-out-Prog p

pub two-joined : (join : Join) (p q : Prog) → two_of join (out-Prog (joined join p q)) ≡ Some (p, q)
two-joined InSeq p q = ap (two_of InSeq) (prog.outs-Seq p q)
two-joined InChoice p q = ap (two_of InChoice) (prog.outs-Choice p q)
two-joined InConc p q = ap (two_of InConc) (prog.outs-Conc p q)
two-joined InPrio p q = ap (two_of InPrio) (prog.outs-Prio p q)

-- ---- what fits and can be written

module _ (agent : Agent) where
  abbrev A : Type 0
  A = Position → Bool

  -- a level fits its position, given its parts
  abbrev pub level_fits : Layer → Position → Bool
  level_fits l =
      fitting.prog_step agent (map-Prog Prog Way A A (prog_fits agent)
      (fold-Way A A (fitting.prog_step agent) (fitting.way_step agent)) l)

  -- and can be written within so many variables
  abbrev pub level_written : Layer → ℕ → Bool
  level_written l =
      written_prog_step agent (map-Prog Prog Way (ℕ → Bool) Bool (is_written_prog agent)
      (fold-Way (ℕ → Bool) Bool (written_prog_step agent) (λ w. false)) l)

  pub fits-level : (p : Prog) (at : Position) → prog_fits agent p at ≡ true → level_fits (out-Prog p) at ≡ true
  fits-level p at h =
      sym (ap (λ (f : A). f at) (fold_out-Prog A A (fitting.prog_step agent) (fitting.way_step agent) p)) ∙ h

  pub written-level : (p : Prog) (n : ℕ) → is_written_prog agent p n ≡ true → level_written (out-Prog p) n ≡ true
  written-level p n h =
      sym (ap (λ (f : ℕ → Bool). f n) (fold_out-Prog (ℕ → Bool) Bool (written_prog_step agent) (λ w. false) p)) ∙ h

  pub record IsLevelOf (at : Position) (n : ℕ) (l : Layer) : Type 0 where
    pub fits : level_fits l at ≡ true
    pub written : level_written l n ≡ true

  pub level-of : (at : Position) (n : ℕ) (p : Prog) → IsProgOf agent at n p → IsLevelOf at n (out-Prog p)
  level-of at n p h = record { fits = fits-level p at h.fits; written = written-level p n h.written }

  pub fits-two : (join : Join) (p q : Prog) (at : Position) → level_fits (join_level join p q) at ≡ true
      → (prog_fits agent p at ≡ true) × (prog_fits agent q at ≡ true)
  fits-two InSeq p q at h = and_cases (prog_fits agent p at) (prog_fits agent q at) h
  fits-two _ p q at h = and_cases (prog_fits agent p at) (prog_fits agent q at) h

  written-two : (join : Join) (p q : Prog) (n : ℕ) → level_written (join_level join p q) n ≡ true
      → (is_written_prog agent p n ≡ true) × (is_written_prog agent q n ≡ true)
  written-two InSeq p q n h = and_cases (is_written_prog agent p n) (is_written_prog agent q n) h
  written-two _ p q n h = and_cases (is_written_prog agent p n) (is_written_prog agent q n) h

  -- the two parts of a program that fits
  pub two-of : (join : Join) (p q whole : Prog) (at : Position) (n : ℕ) → out-Prog whole ≡ join_level join p q
      → IsProgOf agent at n whole
      → IsProgOf agent at n p × IsProgOf agent at n q
  two-of join p q whole at n e h =
      let l = subst (IsLevelOf at n) e (level-of at n whole h) in
      let f = fits-two join p q at l.fits in
      let w = written-two join p q n l.written in
      (record { fits = f.0; written = w.0 }, record { fits = f.1; written = w.1 })
