use Rattle.std.proofs.Common.{refl, replicate, ap, ◌∙◌, arith}
use Rattle.golog_reports.proofs.FactsTold.{serves}
use Rattle.golog_replay.specs.Standings.{untouched}
use Rattle.golog_replay.proofs.Tracking.{start-tracked}
use Rattle.golog_replay.proofs.standing.Standing.new.Goals as goal

pub of-requires : goal.of-requires
of-requires c = serves c.args.agent.now c.requires

pub returns : goal.returns
returns c = record {
  serves = serves c.args.agent.now c.requires;
  facts_so = c.in_ok-facts.ensures;
  tracked = start-tracked c.args.agent.now c.in_ok-devices.devices.items (c.in_ok-devices.ensures ∙ ap (λ n. replicate n untouched) c.len.ensures);
  holds = λ d. refl;
  counted_so = refl;
  few = omega arith;
  ends = refl;
  results = λ place high. refl;
}
