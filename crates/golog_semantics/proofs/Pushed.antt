-- What one more entry changes.
use Rattle.std.proofs.Common.{◌≡◌, List, [], ◌∷◌, ◌++◌, refl, sym, ap, ◌∙◌, Option, Some, None}
use Rattle.std.specs.Prelude.{fold}
use Rattle.std.specs.Option.{option_or}
use Rattle.std.proofs.lemmas.List.{append_assoc, append-nil}
use Rattle.golog_tree.specs.declared.agent.Agent.{Agent}
use Rattle.golog_tree.specs.declared.prog.Prog.{Prog}
use Rattle.golog_semantics.specs.declared.journal.Entry.{Entry}
use Rattle.golog_semantics.specs.declared.journal.PlacedRun.{PlacedRun}
use Rattle.golog_semantics.specs.Truth.{Values}
use Rattle.golog_semantics.specs.Journal.{Journal}
use Rattle.golog_semantics.specs.Progress.{after_entry, values_after, left_at, left_from, left_after}
use Rattle.golog_semantics.specs.Text.{Text, at_each}
use Rattle.golog_semantics.specs.Online.{first_some, fault_at, first_fault}

pub fold-push : {A B : Type 0} (f : B → A → B) (a : B) (xs : List A) (x : A) → fold f a (xs ++ x ∷ []) ≡ f (fold f a xs) x
fold-push f a [] x = refl
fold-push f a (y ∷ xs) x = fold-push f (f a y) xs x

module _ (agent : Agent) where
  pub values_after-push : (j : Journal) (e : Entry) → values_after agent (j ++ e ∷ []) ≡ after_entry agent (values_after agent j) e
  values_after-push j e = fold-push (after_entry agent) agent.starts j e

  left_from-push : (values : Values) (p : Prog) (j : Journal) (e : Entry)
      → left_from agent values p (j ++ e ∷ []) ≡ left_at agent (fold (after_entry agent) values j) (left_from agent values p j) e
  left_from-push values p [] e = refl
  left_from-push values p (d ∷ j) e = left_from-push (after_entry agent values d) (left_at agent values p d) j e

  pub left_after-push : (j : Journal) (e : Entry) → left_after agent (j ++ e ∷ []) ≡ left_at agent (values_after agent j) (left_after agent j) e
  left_after-push j e = left_from-push agent.starts agent.main j e

module _ {A : Type 0} (say : Journal → Entry → A) where
  at_each-push-from : (before j : Journal) (e : Entry) → at_each say before (j ++ e ∷ []) ≡ at_each say before j ++ say (before ++ j) e ∷ []
  at_each-push-from before [] e = ap (λ b. say b e ∷ []) (sym (append-nil before))
  at_each-push-from before (d ∷ j) e =
      ap (λ xs. say before d ∷ xs) (at_each-push-from (before ++ d ∷ []) j e)
      ∙ ap (λ b. say before d ∷ at_each say (before ++ d ∷ []) j ++ say b e ∷ []) (append_assoc before (d ∷ []) j)

  pub at_each-push : (j : Journal) (e : Entry) → at_each say [] (j ++ e ∷ []) ≡ at_each say [] j ++ say j e ∷ []
  at_each-push j e = at_each-push-from [] j e

pub or-none : {A : Type 0} (o : Option A) → option_or o None ≡ o
or-none None = refl
or-none (Some a) = refl

pub or-left : {A : Type 0} (o p : Option A) → option_or o p ≡ None → o ≡ None
or-left None p h = refl
or-left (Some a) p h = h

pub or-right : {A : Type 0} (o p : Option A) → option_or o p ≡ None → p ≡ None
or-right None p h = h
or-right (Some a) p h = cc

pub first_some-push : {A : Type 0} (os : List (Option A)) (o : Option A) → first_some (os ++ o ∷ []) ≡ option_or (first_some os) o
first_some-push [] o = or-none o
first_some-push (None ∷ os) o = first_some-push os o
first_some-push (Some a ∷ os) o = refl

-- the faults of a journal with one more entry: those before, else that of the new entry
pub first_fault-push : (agent : Agent) (lines : Option (List Text)) (runs : List PlacedRun) (j : Journal) (e : Entry)
    → first_fault agent lines (record { entries = j ++ e ∷ []; runs = runs; start = None }) ≡ option_or (first_fault agent lines (record { entries = j; runs = runs; start = None })) (fault_at agent lines runs j e)
unfolding first_fault
first_fault-push agent lines runs j e =
    ap first_some (at_each-push (fault_at agent lines runs) j e)
    ∙ first_some-push (at_each (fault_at agent lines runs) [] j) (fault_at agent lines runs j e)
