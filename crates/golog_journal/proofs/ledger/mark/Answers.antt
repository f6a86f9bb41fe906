use Rattle.std.proofs.Common.{refl, ap, ◌∙◌}
use Rattle.std.proofs.lemmas.Bool.{eq-eqb}
use Rattle.golog_semantics.specs.Journal.{is_result_of}
use Rattle.golog_journal.proofs.ledger.mark.Goals as goal

pub bounds-answered-place : goal.bounds-answered-place
bounds-answered-place c =
    c.requires c.in-Sense.place
    (ap (is_result_of c.in-Sense.place) c.in-Sense.is ∙ eq-eqb c.in-Sense.place c.in-Sense.place refl)
