-- An agent that starts from other values in their sorts is well-formed.
use Rattle.std.proofs.Common.{◌≡◌, ℕ, zero, suc, ◌+◌, ◌<◌, ◌≤◌, Bool, true, false, ◌&&◌, List, [], ◌∷◌, length, map, refl, sym, ap, ◌∙◌, subst, add-zero, arith}
use Rattle.std.specs.Prelude.{All, IfSome, None, Option, Some, nat_le, not, slice_get, slice_index}
use Rattle.std.specs.List.{enumerate_from, list_all}
use Rattle.std.specs.Option.{option_map_or}
use Rattle.golog_tree.specs.declared.agent.Agent.{Agent}
use Rattle.golog_tree.specs.declared.agent.ProcItem.{ProcItem}
use Rattle.golog_tree.specs.declared.prog.Prog.{Prog}
use Rattle.golog_tree.specs.declared.prog.Prog.TheOpen.{Prog-F, Call}
use Rattle.golog_tree.specs.declared.prog.Prog.TheFolds.{fold-Prog}
use Rattle.golog_tree.specs.Ground.{IsCountable}
use Rattle.golog_tree.specs.Nest.{nest}
use Rattle.golog_semantics.specs.declared.journal.Report.{Report}
use Rattle.golog_semantics.specs.ReportLaws.{TellsApart}
use Rattle.golog_semantics.specs.Reports.{IsReport}
use Rattle.golog_semantics.specs.Truth.{Values}
use Rattle.golog_semantics.specs.Guarded.{Front, front_by, fronts_to, proc_fronts}
use Rattle.golog_semantics.specs.FrontCalls.{calling, front_nests, greatest, nests_to}
use Rattle.golog_semantics.specs.BlockFree.{block_at, has_block_by, proc_blocks, proc_blocks_to}
use Rattle.golog_semantics.specs.BuiltIn.{HasBuiltIn, NamesFit}
use Rattle.golog_semantics.specs.Fits.{args_fit, bound_from}
use Rattle.golog_semantics.specs.ProgFits.{Position, outermost, prog_fits, prog_step, way_step}
use Rattle.golog_semantics.specs.Written.{is_written_prog}
use Rattle.golog_semantics.specs.WellFormed.{ActionsFit, IsSmall, ProgramsFit, StartsFit, WellFormed, are_sorts, start_fits}
use Rattle.golog_semantics.specs.InSorts.{AreInSorts}
use Rattle.golog_semantics.proofs.Words.{and-both}
use Rattle.golog_semantics.specs.Restart.{restarted, started}

module _ (agent : Agent) (values : Values) where
  abbrev again : Agent
  again = restarted agent values

  all-starts : (n : ℕ) (starts : List ℕ) → ((k : ℕ) → k < length starts → start_fits agent (n + k, slice_index starts k) ≡ true) → list_all (start_fits agent) (enumerate_from n starts) ≡ true
  all-starts n [] h = refl
  all-starts n (v ∷ starts) h =
      and-both (start_fits agent (n, v)) (list_all (start_fits agent) (enumerate_from (n + 1) starts))
      (subst (λ f. start_fits agent (f, v) ≡ true) (add-zero n) (h zero (omega arith)))
      (all-starts (n + 1) starts (λ k less. subst (λ f. start_fits agent (f, slice_index starts k) ≡ true) (let e : n + suc k ≡ n + 1 + k = omega arith in e) (h (suc k) (omega arith))))

  built_in : HasBuiltIn agent → HasBuiltIn again
  built_in w = record { sorts = w.sorts; fluents = w.fluents; actions = w.actions; causes = w.causes }

  names : NamesFit agent → NamesFit again
  names w = record { words = w.words; free = w.free; once = w.once }

  small : IsSmall agent → IsSmall again
  small w = record { sorts = w.sorts; devices = w.devices; causes = w.causes; procs = w.procs }

  countable : IsCountable agent → IsCountable again
  countable w = record {
    sorts = w.sorts;
    fluent_arities = w.fluent_arities;
    action_arities = w.action_arities;
    fluents = w.fluents;
    actions = w.actions;
    ground_fluents = w.ground_fluents;
    ground_actions = w.ground_actions;
    sizes = w.sizes;
    first_fluents = w.first_fluents;
    first_actions = w.first_actions;
  }

  actions_fit : ActionsFit agent → ActionsFit again
  actions_fit w = record { poss = w.poss; poss_once = w.poss_once; causes = w.causes; senses = w.senses; senses_once = w.senses_once }

  starts_fit : AreInSorts agent values → StartsFit again
  starts_fit sorts = record { whole = sorts.whole; sorted = all-starts 0 values (λ f less. subst (λ g. start_fits agent (g, slice_index values f) ≡ true) (let e : f ≡ 0 + f = omega arith in e) (sorts.sorted f less)) }

  -- what is computed of the procedures in rounds
  same_blocks_to : (k : ℕ) → proc_blocks_to k again ≡ proc_blocks_to k agent
  same_blocks_to zero = refl
  same_blocks_to (suc k) = ap (λ bs. map (λ (item : ProcItem). has_block_by bs item.body) agent.procs) (same_blocks_to k)

  same_blocks : proc_blocks again ≡ proc_blocks agent
  unfolding proc_blocks
  same_blocks = same_blocks_to (length agent.procs)

  same_fronts_to : (k : ℕ) → fronts_to k again ≡ fronts_to k agent
  same_fronts_to zero = refl
  same_fronts_to (suc k) = ap (λ fs. map (λ (item : ProcItem). front_by fs item.body) agent.procs) (same_fronts_to k)

  same_fronts : proc_fronts again ≡ proc_fronts agent
  unfolding proc_fronts
  same_fronts = same_fronts_to _

  nests_by : List Front → List ℕ → List ℕ
  nests_by fs ns = map (λ (item : ProcItem). nest item.body + greatest (map (slice_index ns) (calling fs item.body).calls)) agent.procs

  same_nests_to : (k : ℕ) → nests_to k again ≡ nests_to k agent
  unfolding nests_by
  same_nests_to zero = refl
  same_nests_to (suc k) = ap (λ fs. nests_by fs (nests_to k again)) same_fronts ∙ ap (nests_by (proc_fronts agent)) (same_nests_to k)

  same_nests : front_nests again ≡ front_nests agent
  unfolding front_nests
  same_nests = same_nests_to (length agent.procs)

  -- programs that fit
  fits_step : (l : Prog-F (Position → Bool) (Position → Bool)) (at : Position) → prog_step again l at ≡ prog_step agent l at
  fits_step (Call item args) at =
      ap (λ bs. option_map_or (λ (proc : ProcItem). args_fit agent at.scope proc.params args) (slice_get agent.procs item) false && not (at.in_block && block_at bs item)) same_blocks
  fits_step _ at = refl

  same_fits : prog_fits again ≡ prog_fits agent
  same_fits = ap (λ step. fold-Prog (Position → Bool) (Position → Bool) step (way_step agent)) (λ i l at. fits_step l at i)

  programs : ProgramsFit agent → ProgramsFit again
  programs w = record {
    procs =
        subst
        (λ (f : Prog → Position → Bool). list_all
        (λ (item : ProcItem). are_sorts agent item.params && nat_le (length item.params) 3 && f item.body (record outermost { scope = bound_from 0 item.params }) && is_written_prog agent item.body (length item.params))
        agent.procs ≡ true)
        (sym same_fits) w.procs;
    main = subst (λ (f : Prog → Position → Bool). f agent.main outermost ≡ true) (sym same_fits) w.main;
    main_written = w.main_written;
    guarded = record { settled = subst (λ fs. map (λ (item : ProcItem). front_by fs item.body) agent.procs ≡ fs) (sym same_fronts) w.guarded.settled };
    front_nests = subst (All (λ n. n ≤ 1024)) (sym same_nests) w.front_nests;
    main_nest = w.main_nest;
  }

  pub restarted_fits : WellFormed agent → AreInSorts agent values → WellFormed again
  restarted_fits w sorts = record {
    built_in = built_in w.built_in;
    names = names w.names;
    small = small w.small;
    sorts = w.sorts;
    countable = countable w.countable;
    fluents = w.fluents;
    actions = w.actions;
    actions_fit = actions_fit w.actions_fit;
    starts = starts_fit sorts;
    programs = programs w.programs;
  }

  again-sorts : (start : Option Values) → IfSome start (AreInSorts agent) → IfSome start (AreInSorts again)
  again-sorts None h = h
  again-sorts (Some values) h = record { whole = h.whole; sorted = h.sorted }

  -- what has a text for the agent has one for the agent that starts from other values
  pub restarted_report : (report : Report) → IsReport agent report → IsReport again report
  restarted_report report f = record {
    entries = f.entries;
    runs = f.runs;
    in_order = f.in_order;
    in_bounds = f.in_bounds;
    start = again-sorts report.start f.start;
  }

module _ (agent : Agent) where
  pub started_fits : (start : Option Values) → WellFormed agent → IfSome start (AreInSorts agent) → WellFormed (started agent start)
  started_fits None w h = w
  started_fits (Some values) w h = restarted_fits agent values w h

  pub started_apart : (start : Option Values) → TellsApart agent → TellsApart (started agent start)
  started_apart None a = a
  started_apart (Some values) a = record { devices = a.devices; actions = a.actions; constants = a.constants; known = a.known }

  pub started_report : (start : Option Values) (report : Report) → IsReport agent report → IsReport (started agent start) report
  started_report None report f = f
  started_report (Some values) report f = restarted_report agent values report f
