use Rattle.golog_thread_tests.proofs.Looking.{looks, some-copied}
use Rattle.golog_thread_tests.proofs.meeting.copied.Goals as goal

pub returns-clause-looks : goal.returns-clause-looks
returns-clause-looks g c = looks _ _ _ c.copy_since.ensures c.requires c.copy_since.ensures.answered.none

pub returns-clause-some : goal.returns-clause-some
returns-clause-some g c = some-copied c.copy_since.result _ _ c.copy_since.ensures c.requires
