use Rattle.std.proofs.Common.{◌++◌, sym, ap, ◌∙◌, subst}
use Rattle.std.specs.Prelude.{All, IsTrue, codes}
use Rattle.std.specs.List.{flat_map}
use Rattle.golog_fronts.specs.declared.front_lists.Front.{Front}
use Rattle.golog_semantics.specs.Fits.{cond_fits, nothing_bound}
use Rattle.golog_semantics.specs.Reports.{fits_label}
use Rattle.golog_trace.specs.Judged.{judged_text}
use Rattle.golog_trace.specs.Ways.{way_text}
use Rattle.golog_trace.proofs.WaysTold.{closed-of, labels-of}
use Rattle.golog_trace.proofs.ways.ways_text.Goals as goal

pub add_ways-added-requires-clause-closed : goal.add_ways-added-requires-clause-closed
add_ways-added-requires-clause-closed c =
    let agent = c.args.agent.now in
    subst (All (λ (f : Front). IsTrue (cond_fits agent f.cond nothing_bound))) (sym c.as_slice.ensures) (closed-of agent c.args.prog.now c.in_ok-fronts.fronts c.in_ok-fronts.ensures.closed)

pub add_ways-added-requires-clause-labels : goal.add_ways-added-requires-clause-labels
add_ways-added-requires-clause-labels c =
    let agent = c.args.agent.now in
    subst (All (λ (f : Front). IsTrue (fits_label agent f.label))) (sym c.as_slice.ensures) (labels-of agent c.args.prog.now c.in_ok-fronts.fronts c.in_ok-fronts.ensures.lefts)

pub returns : goal.returns
returns c =
    let say = way_text c.args.agent.now c.args.state.now in
    record {
      end = c.in_ok-end.end;
      is_end = c.in_ok-end.ensures.end;
      fronts = c.in_ok-fronts.fronts;
      are_fronts = c.in_ok-fronts.ensures.all;
      text_is =
          c.in_ok-added.ensures
          ∙ ap (λ t. t ++ flat_map say c.as_slice.result.now) c.in_ok-text.ensures
          ∙ ap (λ fs. (codes "end if " ++ judged_text c.args.agent.now c.in_ok-end.end c.args.state.now) ++ flat_map say fs) c.as_slice.ensures;
    }
