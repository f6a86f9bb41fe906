-- The steps that are told of a program: their conditions and what they do can be told.
use Rattle.std.proofs.Common.{◌≡◌, ℕ, zero, suc, ◌<◌, ◌≤◌, Bool, true, ◌&&◌, List, [], ◌∷◌, ◌++◌, length, take, ap, ◌∙◌, arith}
use Rattle.std.specs.Prelude.{All}
use Rattle.std.specs.List.{AllByRecursion, flat_map, list_all}
use Rattle.std.proofs.lemmas.List.{take_all}
use Rattle.std.proofs.lemmas.List.Elements.{All-from_recursion}
use Rattle.golog_tree.specs.declared.agent.Agent.{Agent}
use Rattle.golog_tree.specs.declared.prog.Prog.{Prog}
use Rattle.golog_semantics.specs.Fits.{cond_fits, nothing_bound}
use Rattle.golog_semantics.specs.Fronts.{Guarded}
use Rattle.golog_semantics.specs.Reports.{fits_label}
use Rattle.golog_semantics.specs.Text.{Text}
use Rattle.golog_semantics.proofs.Words.{and-left, and-right}
use Rattle.golog_fronts.specs.declared.front_lists.Front.{Front}
use Rattle.golog_fronts.specs.FrontLists.{are_closed, guarded, guarded_of}
use Rattle.golog_fronts.specs.Lefts.{LeavesClosed}

all-by : {A : Type 0} (p : A → Bool) (xs : List A) → list_all p xs ≡ true → AllByRecursion (λ x. p x ≡ true) xs
all-by p [] h = tt
all-by p (x ∷ xs) h = (and-left (p x) (list_all p xs) h, all-by p xs (and-right (p x) (list_all p xs) h))

module _ (agent : Agent) (p : Prog) where
  -- the condition of each step has no free variable
  pub closed-of : (fs : List Front) → are_closed agent fs ≡ true → All (λ (f : Front). cond_fits agent f.cond nothing_bound ≡ true) fs
  closed-of fs h = All-from_recursion (λ (f : Front). cond_fits agent f.cond nothing_bound ≡ true) fs (all-by (λ (f : Front). cond_fits agent f.cond nothing_bound) fs h)

  labels-by : (fs : List Front) → All (λ (f : Guarded). LeavesClosed agent p f.way) (guarded fs) → AllByRecursion (λ (f : Front). fits_label agent f.label ≡ true) fs
  labels-by [] h = tt
  labels-by (f ∷ fs) h = ((h 0 (guarded_of f) (omega arith)).label, labels-by fs (λ k d inside. h (suc k) d (omega (arith, inside))))

  -- the action of each step is the agent's
  pub labels-of : (fs : List Front) → All (λ (f : Guarded). LeavesClosed agent p f.way) (guarded fs) → All (λ (f : Front). fits_label agent f.label ≡ true) fs
  labels-of fs h = All-from_recursion (λ (f : Front). fits_label agent f.label ≡ true) fs (labels-by fs h)

-- what was said of the first of some steps is said of all, where there are no more
pub all-told : {A : Type 0} (say : A → Text) (xs : List A) (i : ℕ) (old text : Text) → length xs ≤ i → text ≡ old ++ flat_map say (take i xs) → text ≡ old ++ flat_map say xs
all-told say xs i old text h e = e ∙ ap (λ ys. old ++ flat_map say ys) (take_all i xs h)
