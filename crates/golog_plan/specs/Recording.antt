-- What records the entries of a program that follows plans.
use Rattle.std.specs.Prelude.{◌≡◌, Option}
use Rattle.golog_journal.specs.Leading.{Outlet}
use Rattle.golog_plan.specs.Keeping.{PlanCourse}

-- it writes to the same, and if it stood for the entries before, it stands for those now
pub record Records {R : Type 0} (outlet : R → Option Outlet) (stands : PlanCourse → R → Type 0)
    (before : PlanCourse) (was : R) (now : PlanCourse) (is : R) : Type 0 where
  pub same_outlet : outlet is ≡ outlet was
  pub stands_still : stands before was → stands now is
