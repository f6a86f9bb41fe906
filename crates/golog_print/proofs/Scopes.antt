-- The words that stand for variables, in the scopes where a printed program is read.
use Rattle.std.proofs.Common.{◌≡◌, ℕ, ◌<◌, ◌≤◌, Bool, true, false, [], ◌++◌, length, Some, None, refl, sym, ap, ◌∙◌, arith}
use Rattle.std.specs.Prelude.{if◌then◌else◌, ◌==◌, nat_eq, decimal}
use Rattle.std.specs.List.{starts_with}
use Rattle.std.proofs.lemmas.Fmt.{decimal_injective}
use Rattle.std.proofs.lemmas.List.{append_cancel_left, take_at}
use Rattle.golog_tree.specs.declared.cond.Arg.TheVariants.{Var}
use Rattle.golog_semantics.specs.Text.{Text}
use Rattle.golog_semantics.specs.Fits as fits
use Rattle.golog_semantics.proofs.GroundNumbers.{some-same}
use Rattle.golog_semantics.proofs.Levels.{same_values-same, same_values-eq}
use Rattle.golog_check.specs.Sorts.{same}
use Rattle.golog_check.specs.Scope.{Scope, variable_no, within, innermost}
use Rattle.golog_check.proofs.ArgLaws.{none-not}

module _ (stem : Text) where
  abbrev pub variable : ℕ → Text
  variable x = stem ++ decimal x

  -- the variables of the numbers that are bound, and no other words of the scope but such
  pub record Scoped (bound : fits.Scope) (scope : Scope) : Type 0 where
    pub few : length scope ≤ 32
    pub binds : (x sort : ℕ) → bound x ≡ Some sort → (x < 32) × (innermost scope (variable x) ≡ Some (record { arg = Var x; sort = sort }))
    pub clear : (word : Text) → starts_with nat_eq word stem ≡ false → innermost scope word ≡ None

  pub nothing-scoped : Scoped fits.nothing_bound []
  nothing-scoped = record {
    few = omega arith;
    binds = λ x sort e. absurd (none-not sort e);
    clear = λ word e. refl;
  }

  starts : (rest : Text) → starts_with nat_eq (stem ++ rest) stem ≡ true
  starts rest = ap (same stem) (take_at stem rest (length stem) refl) ∙ same_values-same stem

  -- another variable has another name
  apart : (x y : ℕ) → x < 32 → y < 32 → (x == y) ≡ false → same (variable x) (variable y) ≡ false
  apart x y l k e = go (same (variable x) (variable y)) refl
    where
      differ : (x ≡ y) → (x == y) ≡ false → ⊥
      differ h e = grind (arith, h, e)

      go : (b : Bool) → same (variable x) (variable y) ≡ b → b ≡ false
      go false h = refl
      go true h = absurd (differ (decimal_injective x y (omega (arith, l)) (omega (arith, k)) (append_cancel_left stem (decimal x) (decimal y) (same_values-eq (variable x) (variable y) h))) e)

  -- within one more binder, whose variable has the number of those in scope
  module _ (bound : fits.Scope) (scope : Scope) (sort : ℕ) (s : Scoped bound scope) (room : length scope < 32) where
    abbrev n : ℕ
    n = length scope

    abbrev more : Scope
    more = within (variable n) sort scope

    number : variable_no scope ≡ n
    number = omega (arith, room)

    binds-more : (x own : ℕ) (b : Bool) → (x == n) ≡ b → (if b then Some sort else bound x) ≡ Some own
        → (x < 32) × (innermost more (variable x) ≡ Some (record { arg = Var x; sort = own }))
    binds-more x own true is e =
        let at : x ≡ n = grind (arith, is) in
        let mine : sort ≡ own = some-same sort own e in
        let here : innermost more (variable n) ≡ Some (record { arg = Var n; sort = sort }) = rw (same_values-same (variable n), number) refl in (
          omega (arith, at, room),
          ap (λ y. innermost more (variable y)) at ∙ here
              ∙ ap (λ y. Some (record { arg = Var y; sort = sort })) (sym at) ∙ ap (λ (s : ℕ). Some (record { arg = Var x; sort = s })) mine,
        )
    binds-more x own false is e =
        let outer = s.binds x own e in
        (outer.0, rw (apart x n outer.0 room is) outer.1)

    clear-more : (word : Text) → starts_with nat_eq word stem ≡ false → innermost more word ≡ None
    clear-more word e = go (same word (variable n)) refl
      where
        go : (b : Bool) → same word (variable n) ≡ b → (if b then Some (record { arg = Var (variable_no scope); sort = sort }) else innermost scope word) ≡ None
        go false h = s.clear word e
        go true h =
            let wrong : starts_with nat_eq word stem ≡ true = ap (λ w. starts_with nat_eq w stem) (same_values-eq word (variable n) h) ∙ starts (decimal n) in absurd cc

    pub within-scoped : Scoped (fits.bound bound n sort) more
    within-scoped = record {
      few = omega (arith, room);
      binds = λ x own e. binds-more x own (x == n) refl e;
      clear = clear-more;
    }

pub ruleset laws = (nothing-scoped)
