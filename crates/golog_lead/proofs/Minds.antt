-- A lead's mind that stays.
use Rattle.std.proofs.Common.{◌≡◌, Option, Some, None, refl, sym, ap, ◌∙◌}
use Rattle.golog_journal.specs.Growing.{Sight}
use Rattle.golog_journal.specs.Leading.{Mind, Outlet, SameMind, TakesTurn}

pub mind-stays : (mind : Mind) → SameMind mind mind
mind-stays mind = record { same_agent = refl; same_bounds = refl; same_waits = refl; same_outlet = refl }

pub mind-still : (first now later : Mind) → SameMind first now → SameMind now later → SameMind first later
mind-still first now later same more = record {
  same_agent = more.same_agent ∙ same.same_agent;
  same_bounds = more.same_bounds ∙ same.same_bounds;
  same_waits = more.same_waits ∙ same.same_waits;
  same_outlet = more.same_outlet ∙ same.same_outlet;
}

-- what it writes to stays
pub outlet-still : (now later : Outlet) → later.name ≡ now.name → later.base ≡ now.base → later.faults ≡ now.faults → ◌≡◌ {A = Option Outlet} (Some later) (Some now)
outlet-still now later name base faults = λ i. Some (record { name = name i; base = base i; faults = faults i })

-- this one, where there is none
outlet_or : Outlet → Option Outlet → Outlet
outlet_or other None = other
outlet_or other (Some outlet) = outlet

pub outlet-was : (now later : Outlet) → ◌≡◌ {A = Option Outlet} (Some later) (Some now) → later ≡ now
unfolding outlet_or
outlet-was now later same = ap (outlet_or now) same

-- only where it waits counts
pub takes-as : (mind other : Mind) (old new : Sight) → other.waits ≡ mind.waits → TakesTurn mind old new → TakesTurn other old new
takes-as mind other old new same t = record {
  goes = λ alone on waits. t.goes alone on (sym (ap (λ f. f old.seen) same) ∙ waits);
  rests = λ alone on waits. t.rests alone on (sym (ap (λ f. f old.seen) same) ∙ waits);
  one = t.one;
}
