use Rattle.std.proofs.Common.{◌∷◌, [], ◌++◌, false, ap, ◌∙◌}
use Rattle.std.specs.Prelude.{codes}
use Rattle.golog_print.specs.Printing.{text_of_prog}
use Rattle.golog_trace.proofs.tracing.left_text.Goals as goal

pub next_text-requires-clause-program : goal.next_text-requires-clause-program
next_text-requires-clause-program c = record { in_block = false; fits = c.requires.program }

pub returns : goal.returns
returns c =
    let shown = text_of_prog c.args.agent.now c.args.prog.now in
    record {
      next = c.in_ok-next.next;
      is_next = c.in_ok-next.ensures;
      text_is =
          c.in_ok-text.ensures
          ∙ ap (λ t. (codes "left " ++ t ++ 10 ∷ []) ++ c.as_slice-2.result.now) (c.as_slice.ensures ∙ c.in_ok-shown.ensures.text)
          ∙ ap (λ t. (codes "left " ++ shown ++ 10 ∷ []) ++ t) c.as_slice-2.ensures;
    }
