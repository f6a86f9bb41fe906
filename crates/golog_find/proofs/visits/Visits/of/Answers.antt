use Rattle.std.proofs.Common.{◌≡◌, false, sym, subst}
use Rattle.std.specs.Prelude.{MatchOption}
use Rattle.golog_find.specs.Visits.{IsKeptOf, IsOpened, keeps}
use Rattle.golog_find.proofs.VisitPlaces.{all-at, another, unasked, unplaced}
use Rattle.golog_find.proofs.visits.Visits.of.Goals as goal

pub returns-in_err-place : goal.returns-in_err-place
returns-in_err-place c agent progs k =
    let number = c.args.number in
    let visits = c.args.self.now in
    subst (λ o. MatchOption o (keeps visits number ≡ false) (λ opened. IsKeptOf agent progs number opened.now)) (sym c.from_residual.ensures)
    (unasked number visits k.placed (sym c.in_err-place.ensures.value))

pub returns-in_err-opened : goal.returns-in_err-opened
returns-in_err-opened c agent progs k =
    let number = c.args.number in
    let visits = c.args.self.now in
    subst (λ o. MatchOption o (keeps visits number ≡ false) (λ opened. IsKeptOf agent progs number opened.now)) (sym c.from_residual-in_err-opened.ensures)
    (unplaced number visits c.in_ok-place.place.now k.placed (sym c.in_ok-place.ensures.value) (sym c.in_err-opened.ensures))

pub returns-then-opened-number : goal.returns-then-opened-number
returns-then-opened-number c agent progs k =
    record {
      opened = all-at (IsOpened agent progs) c.args.self.now.opened c.in_ok-place.place.now c.in_ok-opened.opened.now k.opened (sym c.in_ok-opened.ensures);
      same = c.if-opened-number.true;
    }

pub returns-else-opened-number : goal.returns-else-opened-number
returns-else-opened-number c agent progs k =
    another c.args.number c.args.self.now c.in_ok-place.place.now c.in_ok-opened.opened.now k.placed (sym c.in_ok-place.ensures.value) (sym c.in_ok-opened.ensures) c.if-opened-number.false
