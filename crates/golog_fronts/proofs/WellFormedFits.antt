-- The steps of programs of a well-formed agent can be found.
use Rattle.std.proofs.Common.{◌≡◌, true, ◌&&◌, List, [], ◌∷◌, length, refl}
use Rattle.std.specs.Prelude.{nat_le}
use Rattle.std.specs.List.{list_all}
use Rattle.golog_tree.specs.declared.agent.Agent.{Agent}
use Rattle.golog_tree.specs.declared.agent.ProcItem.{ProcItem}
use Rattle.golog_semantics.specs.Fits.{bound_from}
use Rattle.golog_semantics.specs.ProgFits.{outermost, prog_fits}
use Rattle.golog_semantics.specs.WellFormed.{are_sorts, proc_fits}
use Rattle.golog_semantics.specs.Written.{is_written_prog}
use Rattle.golog_semantics.proofs.LeftFits.{procs_fit}
use Rattle.golog_semantics.proofs.Tests.{and_both, and_cases}
use Rattle.golog_fronts.specs.Closed.{WellFormedIsFit}

module _ (agent : Agent) where
  few : (item : ProcItem) → proc_fits agent item ≡ true → nat_le (length item.params) 3 ≡ true
  few item h =
      let sorts = are_sorts agent item.params in
      let body = prog_fits agent item.body (record outermost { scope = bound_from 0 item.params }) in
      let k = and_cases (sorts && nat_le (length item.params) 3 && body) (is_written_prog agent item.body (length item.params)) h in
      let j = and_cases (sorts && nat_le (length item.params) 3) body k.0 in
      (and_cases sorts (nat_le (length item.params) 3) j.0).1

  all_few : (items : List ProcItem) → list_all (proc_fits agent) items ≡ true → list_all (λ (item : ProcItem). nat_le (length item.params) 3) items ≡ true
  all_few [] h = refl
  all_few (item ∷ items) h =
      let k = and_cases (proc_fits agent item) (list_all (proc_fits agent) items) h in
      and_both (nat_le (length item.params) 3) (list_all (λ (i : ProcItem). nat_le (length i.params) 3) items) (few item k.0) (all_few items k.1)

pub well_formed_fits : WellFormedIsFit
well_formed_fits agent w = record {
  guarded = w.programs.guarded;
  countable = w.countable;
  procs = procs_fit agent w;
  params = all_few agent agent.procs w.programs.procs;
  poss = w.actions_fit.poss;
}
