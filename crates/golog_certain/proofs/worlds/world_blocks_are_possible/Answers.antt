use Rattle.golog_certain.proofs.WorldSearch.{block_possible}
use Rattle.golog_certain.proofs.worlds.world_blocks_are_possible.Goals as goal

pub returns : goal.returns
returns c = λ agent g values world r depth fuel d body rest label left t l. block_possible agent g values world r depth fuel d body rest label left t l
