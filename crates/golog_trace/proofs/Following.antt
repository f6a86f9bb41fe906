-- Where the entries of a journal lead a program, step by step.
use Rattle.std.proofs.Common.{◌≡◌, ℕ, suc, ◌+◌, ◌<◌, ◌≤◌, Bool, true, false, if◌then◌else◌, Option, Some, None, List, [], ◌∷◌, ◌++◌, ◌⊎◌, inl, inr, take, drop, get_or, length, refl, sym, ap, ◌∙◌, subst, arith, add-one}
use Rattle.std.specs.Prelude.{fold, nat_lt, option_and_then}
use Rattle.std.proofs.Math.Seq.{drop-cons}
use Rattle.std.proofs.lemmas.List.{drop_all}
use Rattle.golog_tree.specs.declared.agent.Agent.{Agent}
use Rattle.golog_tree.specs.declared.prog.Label.{Label}
use Rattle.golog_tree.specs.declared.prog.Label.TheVariants.{Quiet, Do as Doing}
use Rattle.golog_tree.specs.declared.prog.Prog.{Prog}
use Rattle.golog_tree.specs.Nest.{nest}
use Rattle.golog_semantics.specs.declared.Mode.TheVariants.{Must}
use Rattle.golog_semantics.specs.declared.search.Move.{Move}
use Rattle.golog_semantics.specs.declared.journal.Entry.{Entry}
use Rattle.golog_semantics.specs.declared.journal.Entry.TheVariants.{Do, Test, Exo, Sense, Rest, Close, End}
use Rattle.golog_semantics.specs.Blocks.{moves}
use Rattle.golog_semantics.specs.FitLaws.{ProcsFit}
use Rattle.golog_semantics.specs.Journal.{Journal}
use Rattle.golog_semantics.specs.Online.{label_of}
use Rattle.golog_semantics.specs.ProgFits.{fits}
use Rattle.golog_semantics.specs.Progress.{after_entry, left_after, left_at, left_by, left_from, values_after}
use Rattle.golog_semantics.specs.Same.{same_label}
use Rattle.golog_semantics.specs.Search.{final, nest_limit}
use Rattle.golog_semantics.specs.Truth.{Values}
use Rattle.golog_semantics.specs.WellFormed.{WellFormed}
use Rattle.golog_semantics.proofs.GroundNumbers.{some-same}
use Rattle.golog_semantics.proofs.BlocksFit.{moves-fit}
use Rattle.golog_semantics.proofs.LeftFits.{procs_fit}
use Rattle.golog_semantics.proofs.StepsFit.{AllFit}
use Rattle.golog_search.specs.declared.decision.Decision.{Decision}
use Rattle.golog_search.specs.declared.decision.Decision.TheVariants.{Final, Step, Blocked as Blocking, Fuel, Deep}
use Rattle.golog_search.specs.Decided.{along, decision}
use Rattle.golog_trace.specs.Followed.{FollowedIsLeft, followed, left_behind, left_by_label, left_if}

module _ (agent : Agent) where
  -- a step that is decided is the first certain one
  first : (values : Values) (p : Prog) (label : Label) (left : Prog) → left_if label (decision agent values p) ≡ Some left → left ≡ left_by agent p (moves agent values Must p)
  unfolding decision
  first values p label left h = by-end (final agent values Must p) (moves agent values Must p) h
    where
      same : (b : Bool) (m : Move) → (if b then Some m.left else None) ≡ Some left → left ≡ m.left
      same true m k = sym (some-same m.left left k)
      same false m k = absurd cc

      by-nest : (b : Bool) (m : Move) → left_if label (if b then Deep else Step m) ≡ Some left → left ≡ m.left
      by-nest true m k = absurd cc
      by-nest false m k = same (same_label label m.label) m k

      by-end : (b : Bool) (ms : List Move) → left_if label (if b then Final else along agent values p ms) ≡ Some left → left ≡ left_by agent p ms
      by-end true ms k = absurd cc
      by-end false [] k = absurd cc
      by-end false (m ∷ ms) k = by-nest (nat_lt nest_limit (nest m.left)) m k

  -- what an entry leaves
  pub behind-is : (values : Values) (p left : Prog) (entry : Entry) → left_behind agent values p entry ≡ Some left → left ≡ left_at agent values p entry
  behind-is values p left (Do action) h = first values p (Doing action) left h
  behind-is values p left Test h = first values p Quiet left h
  behind-is values p left (Exo poster action) h = sym (some-same p left h)
  behind-is values p left (Sense poster place fluent value) h = sym (some-same p left h)
  behind-is values p left (Rest poster taken) h = sym (some-same p left h)
  behind-is values p left (Close poster reason taken) h = sym (some-same p left h)
  behind-is values p left (End answer) h = sym (some-same p left h)

  is-left : (values : Values) (p q : Prog) (journal : Journal) → followed agent values p journal ≡ Some q → q ≡ left_from agent values p journal
  is-left values p q [] h = sym (some-same p q h)
  is-left values p q (entry ∷ entries) h = go (left_behind agent values p entry) refl (λ left. is-left (after_entry agent values entry) left q entries) h
    where
      go : (o : Option Prog) → left_behind agent values p entry ≡ o
          → ((left : Prog) → followed agent (after_entry agent values entry) left entries ≡ Some q → q ≡ left_from agent (after_entry agent values entry) left entries)
          → option_and_then (λ left. followed agent (after_entry agent values entry) left entries) o ≡ Some q
          → q ≡ left_from agent (after_entry agent values entry) (left_at agent values p entry) entries
      go None e later k = absurd cc
      go (Some left) e later k = later left k ∙ ap (λ r. left_from agent (after_entry agent values entry) r entries) (behind-is values p left entry e)

  -- where the entries from a place on lead the program
  abbrev pub from : Values → Prog → Journal → ℕ → Option Prog
  from values p entries i = followed agent values p (drop i entries)

  pub from-end : (values : Values) (p : Prog) (entries : Journal) (i : ℕ) → length entries ≤ i → from values p entries i ≡ Some p
  from-end values p entries i h = ap (followed agent values p) (drop_all i entries h)

  pub from-next : (values : Values) (p : Prog) (entries : Journal) (i : ℕ) (d : Entry) → i < length entries
      → from values p entries i ≡ option_and_then (λ left. from (after_entry agent values (get_or entries i d)) left entries (i + 1)) (left_behind agent values p (get_or entries i d))
  from-next values p entries i d h =
      let e = get_or entries i d in
      ap (followed agent values p) (drop-cons entries i d h)
      ∙ ap (λ n. option_and_then (λ left. followed agent (after_entry agent values e) left (drop n entries)) (left_behind agent values p e)) (sym (add-one i))

  pub main-fits : WellFormed agent → fits agent agent.main ≡ true
  main-fits formed = formed.programs.main

  left_by-fits : (p : Prog) (steps : List Move) → fits agent p ≡ true → AllFit agent false steps → fits agent (left_by agent p steps) ≡ true
  left_by-fits p [] h k = h
  left_by-fits p (step ∷ steps) h k = k.0.left_fits

  left_at-fits : ProcsFit agent → (values : Values) (p : Prog) (e : Entry) → fits agent p ≡ true → fits agent (left_at agent values p e) ≡ true
  left_at-fits f values p (Do action) h = left_by-fits p (moves agent values Must p) h (moves-fit agent f values Must p h)
  left_at-fits f values p Test h = left_by-fits p (moves agent values Must p) h (moves-fit agent f values Must p h)
  left_at-fits f values p _ h = h

  -- what an entry leaves fits where the program does
  pub behind-fits : WellFormed agent → (values : Values) (p left : Prog) (entry : Entry) → fits agent p ≡ true → left_behind agent values p entry ≡ Some left → fits agent left ≡ true
  behind-fits formed values p left entry h k = ap (fits agent) (behind-is values p left entry k) ∙ left_at-fits (procs_fit agent formed) values p entry h

pub followed_is_left : FollowedIsLeft
followed_is_left agent journal p h = is-left agent agent.starts agent.main p journal h
