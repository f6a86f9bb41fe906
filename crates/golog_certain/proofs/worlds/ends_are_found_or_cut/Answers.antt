use Rattle.golog_certain.proofs.WorldSearch.{found_or_cut}
use Rattle.golog_certain.proofs.worlds.ends_are_found_or_cut.Goals as goal

pub returns : goal.returns
returns c = λ agent g values world r p steps most l. found_or_cut agent g most steps p values world r l
