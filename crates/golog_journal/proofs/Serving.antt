-- A well-formed agent serves devices.
use Rattle.golog_journal.specs.Laws.{WellFormedServes}

pub well_formed_serves : WellFormedServes
well_formed_serves agent well = record {
  countable = well.countable;
  few = well.small.devices;
  actions = well.actions;
  senses = well.actions_fit.senses;
}
