use Rattle.golog_ways.proofs.expand.NumberedFront.holds_at.Goals as goal

pub holds-requires-clause-countable : goal.holds-requires-clause-countable
holds-requires-clause-countable c = c.requires.agent.countable

pub holds-requires-clause-fits : goal.holds-requires-clause-fits
holds-requires-clause-fits c = c.requires.checked.fits

pub holds-requires-clause-whole : goal.holds-requires-clause-whole
holds-requires-clause-whole c = c.requires.sorts.whole

pub returns : goal.returns
returns c = c.holds.ensures.so c.args.self.now.cond c.requires.checked
