-- What stays of a program that follows plans from call to call, and what records its entries.
use Rattle.std.proofs.Common.{◌≡◌, ℕ, ◌+◌, ◌<◌, [], ◌∷◌, ◌++◌, length, take, get_or, Option, refl, sym, ap, ◌∙◌, subst, append_assoc}
use Rattle.std.proofs.lemmas.List.{append-nil, take_more}
use Rattle.golog_semantics.specs.declared.journal.Entry.{Entry}
use Rattle.golog_semantics.specs.Journal.{Journal}
use Rattle.golog_journal.specs.Growing.{Sight}
use Rattle.golog_journal.specs.Leading.{Outlet}
use Rattle.golog_lead.specs.declared.stepped.Stepped.{Stepped}
use Rattle.golog_plan.specs.Keeping.{PlanCourse, with_list}
use Rattle.golog_plan.specs.Recording.{Records}
use Rattle.golog_plan.specs.Turns.{AttemptIs}

-- ---- the same program

-- one that has these entries
pub same-of : (then last : PlanCourse) (list : Journal) → last ≡ with_list then list → last ≡ with_list then last.list
same-of then last list is = is ∙ ap (with_list then) (sym (ap (λ (v : PlanCourse). v.list) is))

-- one call after the other
pub same-then : (first then last : PlanCourse) → then ≡ with_list first then.list → last ≡ with_list then last.list → last ≡ with_list first last.list
same-then first then last one other = other ∙ ap (λ (v : PlanCourse). with_list v last.list) one

-- what came of an attempt is so by its bounds at first
pub attempt-as : (first then : PlanCourse) (old new : Sight) (o : Option Stepped) → then ≡ with_list first then.list → AttemptIs then.depth then.fuel old new o → AttemptIs first.depth first.fuel old new o
attempt-as first then old new o same t = subst (λ (v : PlanCourse). AttemptIs v.depth v.fuel old new o) same t

-- ---- entry by entry

pub taken-none : (first : PlanCourse) (entries : Journal) → first ≡ with_list first (first.list ++ take 0 entries)
taken-none first entries = ap (with_list first) (sym (append-nil first.list))

pub taken-more : (first : PlanCourse) (entries : Journal) (i : ℕ) (d : Entry) → i < length entries → (course later : PlanCourse) → course ≡ with_list first (first.list ++ take i entries)
    → later ≡ with_list course (course.list ++ get_or entries i d ∷ []) → later ≡ with_list first (first.list ++ take (i + 1) entries)
taken-more first entries i d inside course later so is =
    is ∙ ap (λ (v : PlanCourse). with_list v (v.list ++ get_or entries i d ∷ [])) so
    ∙ ap (with_list first) (append_assoc first.list (take i entries) (get_or entries i d ∷ []) ∙ ap (λ xs. first.list ++ xs) (sym (take_more entries i d inside)))

-- ---- what records the entries

module _ {R : Type 0} (outlet : R → Option Outlet) (stands : PlanCourse → R → Type 0) where
  -- nothing is recorded
  pub records-same : (before now : PlanCourse) (was : R) → now ≡ before → Records outlet stands before was now was
  records-same before now was same = record { same_outlet = refl; stands_still = λ stood. subst (λ (v : PlanCourse). stands v was) (sym same) stood }

  -- one call after the other
  pub records-then : (first then last : PlanCourse) (a b c : R) → Records outlet stands first a then b → Records outlet stands then b last c → Records outlet stands first a last c
  records-then first then last a b c one other = record {
    same_outlet = other.same_outlet ∙ one.same_outlet;
    stands_still = λ stood. other.stands_still (one.stands_still stood);
  }
