use Rattle.golog_main.proofs.teams.teamed_of.Goals as goal

pub team_reports-requires-clause-matched : goal.team_reports-requires-clause-matched
team_reports-requires-clause-matched g c κs within = c.unrefused_match.ensures c.args.pair.now.first c.args.pair.now.second c.requires.unrefused
