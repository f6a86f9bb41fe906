use Rattle.golog_search.proofs.deciding.decide.Goals as goal

pub decide_kept-requires-clause-serves : goal.decide_kept-requires-clause-serves
decide_kept-requires-clause-serves c = tt
