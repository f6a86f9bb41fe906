use Rattle.std.proofs.Common.{◌≡◌, sym, subst}
use Rattle.std.specs.Prelude.{IsTrue}
use Rattle.golog_semantics.specs.Journal.{is_quiet}
use Rattle.golog_team.proofs.pair.side_of.Goals as goal

pub new-requires-clause-may : goal.new-requires-clause-may
new-requires-clause-may g c = record {
  formed = c.requires.formed.0;
  matched = c.requires.matched;
  one_of_two = c.requires.one_of_two;
  goes_on = λ journal quiet. g.met.L.Lead.goes_on c.args.lead journal (subst (λ a. IsTrue (is_quiet a journal)) (sym c.requires.lead.0) quiet);
}
