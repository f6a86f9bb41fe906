use Rattle.golog_team.proofs.pair.run_agents.Given as goal

abbrev pub ghosts-run_locked : goal.ghosts-run_locked
ghosts-run_locked g a = record { home = a.lock.now.table.shared.table_id }
