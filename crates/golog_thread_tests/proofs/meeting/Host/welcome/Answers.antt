use Rattle.golog_thread_tests.proofs.Looking.{no-look, still-goes}
use Rattle.golog_thread_tests.proofs.meeting.Host.welcome.Goals as goal

pub look-copied-requires-clause-goes_on : goal.look-copied-requires-clause-goes_on
look-copied-requires-clause-goes_on g c = still-goes _ _ c.requires.behind (c.is_to_welcome.ensures c.if-is_to_welcome.true)

pub returns-else-is_to_welcome-clause-looks : goal.returns-else-is_to_welcome-clause-looks
returns-else-is_to_welcome-clause-looks g c = no-look _
