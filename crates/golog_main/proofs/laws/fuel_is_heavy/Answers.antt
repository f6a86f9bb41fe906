use Rattle.golog_main.proofs.Searchless.{fuel-heavy}
use Rattle.golog_main.proofs.laws.fuel_is_heavy.Goals as goal

pub returns : goal.returns
returns c = fuel-heavy
