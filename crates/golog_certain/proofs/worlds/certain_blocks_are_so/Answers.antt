use Rattle.golog_certain.proofs.WorldRuns.{block_so}
use Rattle.golog_certain.proofs.worlds.certain_blocks_are_so.Goals as goal

pub returns : goal.returns
returns c = λ agent g values world r depth fuel body rest step k. block_so agent g values world r depth fuel body rest step k
