use Rattle.std.proofs.Common.{◌≡◌, List, true, sym, subst}
use Rattle.std.specs.Prelude.{All}
use Rattle.golog_semantics.specs.Reports.{fits_label}
use Rattle.golog_ways.specs.declared.expand.NumberedFront.{NumberedFront}
use Rattle.golog_find.proofs.Visiting.{labels-fit}
use Rattle.golog_find.proofs.visits.Opened.with_effects.Goals as goal

pub keep_all-requires-clause-labels : goal.keep_all-requires-clause-labels
keep_all-requires-clause-labels c =
    let agent = c.args.agent.now in
    let opened = c.in_ok-opened.opened in
    subst (λ (fs : List NumberedFront). All (λ (f : NumberedFront). fits_label agent f.label ≡ true) fs) (sym c.as_slice.ensures)
    (labels-fit agent c.of.new.nodes opened.fronts c.in_ok-opened.ensures.opened.opened.fronts.agents)
