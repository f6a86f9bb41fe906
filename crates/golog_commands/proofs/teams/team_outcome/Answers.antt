use Rattle.std.proofs.Common.{◌≡◌, IfOk, subst}
use Rattle.std.proofs.lemmas.Bool.{and_parts}
use Rattle.golog_commands.proofs.teams.team_outcome.Goals as goal

pub answer_in-first-requires : goal.answer_in-first-requires
answer_in-first-requires c = (and_parts _ _ c.requires.reports.online.0.whole).0

pub answer_in-second-requires : goal.answer_in-second-requires
answer_in-second-requires c = (and_parts _ _ c.requires.reports.online.1.whole).0

pub team_text-text-requires-clause-fits : goal.team_text-text-requires-clause-fits
team_text-text-requires-clause-fits c = c.requires.reports.fits

pub returns : goal.returns
returns c = record {
  report = c.args.one;
  their_report = c.args.other;
  reports = c.requires.reports;
  is = c.in_ok-text.ensures;
  ends = (c.answer_in-first.ensures, c.answer_in-second.ensures);
}
