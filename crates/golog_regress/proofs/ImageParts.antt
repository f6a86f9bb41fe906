-- The equations of putting images in, construct by construct.
use Rattle.std.proofs.Common.{◌≡◌, ℕ, ℤ, Bool, List, [], ◌∷◌, ◌++◌, map, ap, ◌∙◌}
use Rattle.golog_tree.specs.declared.cond.Arg.{Arg}
use Rattle.golog_tree.specs.declared.cond.Arg.TheVariants.{Var}
use Rattle.golog_tree.specs.declared.cond.Term.{Term}
use Rattle.golog_tree.specs.declared.cond.Cond.{Cond}
use Rattle.golog_tree.specs.declared.cond.Term.TheVariants as term
use Rattle.golog_tree.specs.declared.cond.Cond.TheVariants as cond
use Rattle.golog_known.proofs.Folds.{map-map}
use Rattle.golog_semantics.proofs.CondByParts as conds
use Rattle.golog_regress.specs.Images.{Images, fresh, image, cond_image, cond_step, term_image, term_step}

abbrev IC : Type 0
IC = Images → Cond

abbrev IT : Type 0
IT = Images → Term

pub image-arg : (arg : Arg) (images : Images) → term_image (term.Arg arg) images ≡ term.Arg (image images arg)
image-arg arg images = ap (λ (f : IT). f images) (conds.fold-arg IC IT cond_step term_step arg)

pub image-fluent : (fluent : ℕ) (args : List Arg) (images : Images) → term_image (term.Fluent fluent args) images ≡ term.Fluent fluent (map (image images) args)
image-fluent fluent args images = ap (λ (f : IT). f images) (conds.fold-fluent IC IT cond_step term_step fluent args)

pub image-shift : (sort : ℕ) (t : Term) (by : ℤ) (images : Images) → term_image (term.Shift sort t by) images ≡ term.Shift sort (term_image t images) by
image-shift sort t by images = ap (λ (f : IT). f images) (conds.fold-shift IC IT cond_step term_step sort t by)

pub image-ite : (c : Cond) (t u : Term) (images : Images) → term_image (term.Ite c t u) images ≡ term.Ite (cond_image c images) (term_image t images) (term_image u images)
image-ite c t u images = ap (λ (f : IT). f images) (conds.fold-ite IC IT cond_step term_step c t u)

pub image-truth : (b : Bool) (images : Images) → cond_image (cond.Truth b) images ≡ cond.Truth b
image-truth b images = ap (λ (f : IC). f images) (conds.fold-truth IC IT cond_step term_step b)

pub image-is : (fluent : ℕ) (args : List Arg) (images : Images) → cond_image (cond.Is fluent args) images ≡ cond.Is fluent (map (image images) args)
image-is fluent args images = ap (λ (f : IC). f images) (conds.fold-is IC IT cond_step term_step fluent args)

pub image-equal : (sort : ℕ) (t u : Term) (images : Images) → cond_image (cond.Equal sort t u) images ≡ cond.Equal sort (term_image t images) (term_image u images)
image-equal sort t u images = ap (λ (f : IC). f images) (conds.fold-equal IC IT cond_step term_step sort t u)

pub image-less : (sort : ℕ) (t u : Term) (images : Images) → cond_image (cond.Less sort t u) images ≡ cond.Less sort (term_image t images) (term_image u images)
image-less sort t u images = ap (λ (f : IC). f images) (conds.fold-less IC IT cond_step term_step sort t u)

pub image-at_most : (sort : ℕ) (t u : Term) (images : Images) → cond_image (cond.AtMost sort t u) images ≡ cond.AtMost sort (term_image t images) (term_image u images)
image-at_most sort t u images = ap (λ (f : IC). f images) (conds.fold-at_most IC IT cond_step term_step sort t u)

pub image-not : (c : Cond) (images : Images) → cond_image (cond.Not c) images ≡ cond.Not (cond_image c images)
image-not c images = ap (λ (f : IC). f images) (conds.fold-not IC IT cond_step term_step c)

pub image-and : (cs : List Cond) (images : Images) → cond_image (cond.And cs) images ≡ cond.And (map (λ c. cond_image c images) cs)
image-and cs images = ap (λ (f : IC). f images) (conds.fold-and IC IT cond_step term_step cs) ∙ ap cond.And (map-map cond_image (λ c. c images) cs)

pub image-or : (cs : List Cond) (images : Images) → cond_image (cond.Or cs) images ≡ cond.Or (map (λ c. cond_image c images) cs)
image-or cs images = ap (λ (f : IC). f images) (conds.fold-or IC IT cond_step term_step cs) ∙ ap cond.Or (map-map cond_image (λ c. c images) cs)

pub image-some : (x sort : ℕ) (c : Cond) (images : Images) → cond_image (cond.ForSome x sort c) images ≡ cond.ForSome (fresh images) sort (cond_image c (images ++ Var (fresh images) ∷ []))
image-some x sort c images = ap (λ (f : IC). f images) (conds.fold-some IC IT cond_step term_step x sort c)

pub image-all : (x sort : ℕ) (c : Cond) (images : Images) → cond_image (cond.ForAll x sort c) images ≡ cond.ForAll (fresh images) sort (cond_image c (images ++ Var (fresh images) ∷ []))
image-all x sort c images = ap (λ (f : IC). f images) (conds.fold-all IC IT cond_step term_step x sort c)
