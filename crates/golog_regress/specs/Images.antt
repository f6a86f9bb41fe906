-- Arguments put in for the variables of a condition, which are numbered in the order of their binding.
use Rattle.std.specs.Prelude.{ℕ, Bool, false, ◌==◌, if◌then◌else◌, Option, Some, None, List, [], ◌∷◌, ◌++◌, map, slice_get}
use Rattle.std.specs.List.{list_any, range_with_len}
use Rattle.golog_tree.specs.declared.cond.Arg.{Arg}
use Rattle.golog_tree.specs.declared.cond.Arg.TheVariants.{Const, Var}
use Rattle.golog_tree.specs.declared.cond.Term.{Term}
use Rattle.golog_tree.specs.declared.cond.Term.TheVariants as term
use Rattle.golog_tree.specs.declared.cond.Cond.{Cond}
use Rattle.golog_tree.specs.declared.cond.Cond.TheVariants as cond
use Rattle.golog_tree.specs.declared.cond.Cond.TheOpen.{Term-F, Arg as ArgTerm, Fluent, Shift, Ite}
use Rattle.golog_tree.specs.declared.cond.Cond.TheOpen.{Cond-F, Truth, Is, Equal, Less, AtMost, Not, And, Or, ForSome, ForAll}
use Rattle.golog_tree.specs.declared.cond.Cond.TheFolds.{fold-Cond, fold-Term}

-- the images of the variables from 0 on
abbrev pub Images : Type 0
Images = List Arg

-- the argument is the variable of this number
abbrev pub is_var : ℕ → Arg → Bool
is_var y (Const c) = false
is_var y (Var x) = x == y

-- the first of these numbers that no image is the variable of; 32 where there is none
abbrev pub first_free : Images → List ℕ → ℕ
first_free images [] = 32
first_free images (y ∷ ys) = if list_any (is_var y) images then first_free images ys else y

-- the first number of a variable that no image is
unfoldable pub fresh : Images → ℕ
fresh images = first_free images (range_with_len 0 32)

-- an image where there is one
abbrev pub image_at : Option Arg → Arg
image_at None = Const 0
image_at (Some arg) = arg

-- the argument with the images put in
abbrev pub image : Images → Arg → Arg
image images (Const c) = Const c
image images (Var x) = image_at (slice_get images x)

-- a term with the images put in, given its parts so
abbrev pub term_step : Term-F (Images → Cond) (Images → Term) → Images → Term
term_step (ArgTerm arg) images = term.Arg (image images arg)
term_step (Fluent fluent args) images = term.Fluent fluent (map (image images) args)
term_step (Shift sort one by) images = term.Shift sort (one images) by
term_step (Ite test one other) images = term.Ite (test images) (one images) (other images)

-- a condition with the images put in, given its parts so; a binder takes a number that is no image
abbrev pub cond_step : Cond-F (Images → Cond) (Images → Term) → Images → Cond
cond_step (Truth b) images = cond.Truth b
cond_step (Is fluent args) images = cond.Is fluent (map (image images) args)
cond_step (Equal sort one other) images = cond.Equal sort (one images) (other images)
cond_step (Less sort one other) images = cond.Less sort (one images) (other images)
cond_step (AtMost sort one other) images = cond.AtMost sort (one images) (other images)
cond_step (Not c) images = cond.Not (c images)
cond_step (And cs) images = cond.And (map (λ c. c images) cs)
cond_step (Or cs) images = cond.Or (map (λ c. c images) cs)
cond_step (ForSome var sort c) images = cond.ForSome (fresh images) sort (c (images ++ Var (fresh images) ∷ []))
cond_step (ForAll var sort c) images = cond.ForAll (fresh images) sort (c (images ++ Var (fresh images) ∷ []))

-- the term with the images put in
abbrev pub term_image : Term → Images → Term
term_image = fold-Term (Images → Cond) (Images → Term) cond_step term_step

-- the condition with the images put in
abbrev pub cond_image : Cond → Images → Cond
cond_image = fold-Cond (Images → Cond) (Images → Term) cond_step term_step
