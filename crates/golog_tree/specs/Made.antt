-- What is made of parts, where there are all of them.
use Rattle.std.specs.Prelude.{◌≡◌, ℕ, Result, Ok}
use Rattle.golog_tree.specs.declared.cond.Cond.{Cond}
use Rattle.golog_tree.specs.declared.cond.Cond.TheVariants.{Equal, Less, AtMost}
use Rattle.golog_tree.specs.declared.cond.Term.{Term}
use Rattle.golog_tree.specs.declared.made.Comparison.{Comparison}
use Rattle.golog_tree.specs.declared.made.Comparison.TheVariants.{Equal as ByEqual, Less as ByLess, AtMost as ByAtMost}

-- it is made of the part, which there is
abbrev pub IsMade : {A B E : Type 0} → (A → B) → Result A E → B → Type 0
IsMade {A} make part made = (a : A) × (part ≡ Ok a) × (made ≡ make a)

-- it is made of two parts, which there are
abbrev pub IsMadeOfTwo : {A B C E : Type 0} → (A → B → C) → Result A E → Result B E → C → Type 0
IsMadeOfTwo {A} {B} make one other made = (a : A) × (b : B) × (one ≡ Ok a) × (other ≡ Ok b) × (made ≡ make a b)

-- it is made of three parts, which there are
abbrev pub IsMadeOfThree : {A B C D E : Type 0} → (A → B → C → D) → Result A E → Result B E → Result C E → D → Type 0
IsMadeOfThree {A} {B} {C} make one other last made =
    (a : A) × (b : B) × (c : C) × (one ≡ Ok a) × (other ≡ Ok b) × (last ≡ Ok c) × (made ≡ make a b c)

-- the comparison of two terms of a sort
abbrev pub compared : Comparison → ℕ → Term → Term → Cond
compared ByEqual sort one other = Equal sort one other
compared ByLess sort one other = Less sort one other
compared ByAtMost sort one other = AtMost sort one other
