use Rattle.std.proofs.Common.{◌≡◌, length, sym, ◌∙◌, subst}
use Rattle.std.specs.Prelude.{IfOk, IfSome, IsOk, slice_get}
use Rattle.std.proofs.lemmas.Result.{IfOk-weaker}
use Rattle.golog_semantics.specs.Blocks.{goes_through}
use Rattle.golog_semantics.specs.Search.{Run}
use Rattle.golog_certain.proofs.RunsStay.{runs_stay}
use Rattle.golog_watch.specs.Watched.{IsTold, StaysKept, Tells}
use Rattle.golog_watch.proofs.Telling.{told-if}
use Rattle.golog_watch.proofs.watch.Watch.still.Goals as goal

pub still_left-requires-clause-searched : goal.still_left-requires-clause-searched
still_left-requires-clause-searched c =
    record { program = c.requires.watch.program; blockless = c.requires.watch.blockless; sorts = c.requires.sorts }

pub still_left-requires-clause-tells : goal.still_left-requires-clause-tells
still_left-requires-clause-tells c =
    let agent = c.args.agent.now in
    let watch = c.args.self.now in
    subst (λ (run : Run). IfSome (slice_get watch.conds (length run)) (Tells agent watch.body run)) (sym c.as_slice.ensures)
    (told-if agent watch.body watch.rest watch.conds c.requires.watch.told.each)

pub returns-clause-still : goal.returns-clause-still
returns-clause-still c =
    let agent = c.args.agent.now in
    let watch = c.args.self.now in
    subst (λ (run : Run). IfOk c.still_left.result (λ b. b ≡ goes_through agent watch.body run c.args.state.now)) c.as_slice.ensures c.still_left.ensures.still

pub returns-clause-kept : goal.returns-clause-kept
returns-clause-kept c =
    let agent = c.args.agent.now in
    let watch = c.args.self.now in
    let state = c.args.state.now in
    IfOk-weaker c.still_left.result (λ b. b ≡ goes_through agent watch.body watch.rest state) (StaysKept agent watch.body watch.rest state)
    (λ b e old more through. e ∙ runs_stay agent watch.body watch.rest old state more through)
    (subst (λ (run : Run). IfOk c.still_left.result (λ b. b ≡ goes_through agent watch.body run state)) c.as_slice.ensures c.still_left.ensures.still)

pub returns-clause-told : goal.returns-clause-told
returns-clause-told c =
    subst (λ (run : Run). IsTold c.args.self.now run → IsOk c.still_left.result) c.as_slice.ensures c.still_left.ensures.told
