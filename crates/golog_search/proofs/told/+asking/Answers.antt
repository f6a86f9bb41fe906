use Rattle.std.proofs.Common.{◌≡◌, ◌+◌, ◌*◌, ◌<◌, ◌++◌, List, max, rules, sym, ap, ◌∙◌, arith}
use Rattle.std.proofs.lemmas.Result.{on_ok_weaker}
use mathlib.Core.List.{append-nil}
use Rattle.golog_tree.specs.declared.prog.Prog.{Prog}
use Rattle.golog_tree.specs.declared.prog.Prog.TheVariants as prog
use Rattle.golog_semantics.specs.Guarded.{front}
use Rattle.golog_fronts.proofs.Closing.{conc_parts, prio_parts, seq_parts, both_down, down}
use Rattle.golog_fronts.proofs.Moved.{one_same, two_same}
use Rattle.golog_search.specs.declared.told.Told.{Told}
use Rattle.golog_search.specs.Told.{told_at, told_in}
use Rattle.golog_search.proofs.InBlocks.{follow_body}
use Rattle.golog_search.proofs.ToldPrograms.{HasNoRun, in-conc, in-follow, in-none, in-prio, in-seq}
use Rattle.golog_search.proofs.told.+asking.Goals as goal

pub ask_of-ask-requires-clause-searched : goal.ask_of-ask-requires-clause-searched
ask_of-ask-requires-clause-searched g t c =
    let a = c.get.result.now in
    let e = one_same (λ (z : Prog). prog.Follow c.in-Follow.depth c.in-Follow.fuel z c.in-Follow.rest) c.in-Follow.is c.get.ensures in
    follow_body c.args.agent.now c.args.state.now c.requires.sorts c.args.prog.now a c.in-Follow.depth c.in-Follow.fuel c.in-Follow.rest c.requires.closed e

pub ask_of-ask_of-requires : goal.ask_of-ask_of-requires
ask_of-ask_of-requires g t c κs within =
    let part = down ((seq_parts c.requires.closed (one_same (λ (z : Prog). prog.Seq z c.in-Seq.field-1) c.in-Seq.is c.get-in-Seq.ensures)).one) in
    search rules

pub ask_of-ask_of_both-requires : goal.ask_of-ask_of_both-requires
ask_of-ask_of_both-requires g t c κs within =
    let parts = both_down (conc_parts c.requires.closed (two_same prog.Conc c.in-Conc.is c.get-in-Conc.ensures c.get-in-Conc-2.ensures)) in
    search rules

pub ask_of-ask_of_both-requires-in-Prio : goal.ask_of-ask_of_both-requires-in-Prio
ask_of-ask_of_both-requires-in-Prio g t c κs within =
    let parts = both_down (prio_parts c.requires.closed (two_same prog.Prio c.in-Prio.is c.get-in-Prio.ensures c.get-in-Prio-2.ensures)) in
    search rules

pub ask_of_both-ask_of-requires : goal.ask_of_both-ask_of-requires
ask_of_both-ask_of-requires g t c κs within =
    let closed = c.requires.one in
    let low : 1 + 3 * (front c.args.agent.now c.args.one.now).height < 2 + 3 * max (front c.args.agent.now c.args.one.now).height (front c.args.agent.now c.args.other.now).height = omega arith in
    search rules

pub ask_of_both-ask_of-requires-2 : goal.ask_of_both-ask_of-requires-2
ask_of_both-ask_of-requires-2 g t c κs within =
    let closed = c.requires.other in
    let serves = c.ask_of.ensures.serves in
    let told = c.in_ok-ask_of.ensures.told in
    let low : 1 + 3 * (front c.args.agent.now c.args.other.now).height < 2 + 3 * max (front c.args.agent.now c.args.one.now).height (front c.args.agent.now c.args.other.now).height = omega arith in
    search rules

pub ask_of-returns-in-Follow-clause-asked : goal.ask_of-returns-in-Follow-clause-asked
ask_of-returns-in-Follow-clause-asked g t c =
    let agent = c.args.agent.now in
    let values = c.args.state.now in
    let old = c.args.told.now in
    let a = c.get.result.now in
    let is = one_same (λ (z : Prog). prog.Follow c.in-Follow.depth c.in-Follow.fuel z c.in-Follow.rest) c.in-Follow.is c.get.ensures in
    let same : told_in agent values c.args.prog.now ≡ told_at agent values a c.in-Follow.rest = ap (told_in agent values) is ∙ in-follow agent values c.in-Follow.depth c.in-Follow.fuel a c.in-Follow.rest in
    on_ok_weaker c.ask.result
    (λ (e : c.ask.new.told ≡ old ++ told_at agent values a c.as_slice.result.now). e ∙ ap (λ (xs : List Told). old ++ xs) (ap (told_at agent values a) c.as_slice.ensures ∙ sym same))
    c.ask.ensures.asked

pub ask_of-returns-in-Seq-clause-asked : goal.ask_of-returns-in-Seq-clause-asked
ask_of-returns-in-Seq-clause-asked g t c =
    let agent = c.args.agent.now in
    let values = c.args.state.now in
    let old = c.args.told.now in
    let a = c.get-in-Seq.result.now in
    let is = one_same (λ (z : Prog). prog.Seq z c.in-Seq.field-1) c.in-Seq.is c.get-in-Seq.ensures in
    on_ok_weaker c.ask_of.result
    (λ (e : c.ask_of.new.told ≡ old ++ told_in agent values a). e ∙ ap (λ (xs : List Told). old ++ xs) (sym (ap (told_in agent values) is ∙ in-seq agent values a c.in-Seq.field-1)))
    c.ask_of.ensures.asked

pub ask_of-returns-in-Conc-clause-asked : goal.ask_of-returns-in-Conc-clause-asked
ask_of-returns-in-Conc-clause-asked g t c =
    let agent = c.args.agent.now in
    let values = c.args.state.now in
    let old = c.args.told.now in
    let a = c.get-in-Conc.result.now in
    let b = c.get-in-Conc-2.result.now in
    let is = two_same (prog.Conc) c.in-Conc.is c.get-in-Conc.ensures c.get-in-Conc-2.ensures in
    on_ok_weaker c.ask_of_both.result
    (λ (e : c.ask_of_both.new.told ≡ old ++ (told_in agent values a ++ told_in agent values b)).
    e ∙ ap (λ (xs : List Told). old ++ xs) (sym (ap (told_in agent values) is ∙ in-conc agent values a b))) c.ask_of_both.ensures.asked

pub ask_of-returns-in-Prio-clause-asked : goal.ask_of-returns-in-Prio-clause-asked
ask_of-returns-in-Prio-clause-asked g t c =
    let agent = c.args.agent.now in
    let values = c.args.state.now in
    let old = c.args.told.now in
    let a = c.get-in-Prio.result.now in
    let b = c.get-in-Prio-2.result.now in
    let is = two_same (prog.Prio) c.in-Prio.is c.get-in-Prio.ensures c.get-in-Prio-2.ensures in
    on_ok_weaker c.ask_of_both-in-Prio.result
    (λ (e : c.ask_of_both-in-Prio.new.told ≡ old ++ (told_in agent values a ++ told_in agent values b)).
    e ∙ ap (λ (xs : List Told). old ++ xs) (sym (ap (told_in agent values) is ∙ in-prio agent values a b))) c.ask_of_both-in-Prio.ensures.asked

pub ask_of-returns-in_default : goal.ask_of-returns-in_default
ask_of-returns-in_default g t c =
    let agent = c.args.agent.now in
    let values = c.args.state.now in
    let old = c.args.told.now in
    let none : HasNoRun c.args.prog.now = record { seq = c.in_default.not-Seq; conc = c.in_default.not-Conc; prio = c.in_default.not-Prio; follow = c.in_default.not-Follow } in
    record {
      told = c.requires.told;
      asked = sym (append-nil old) ∙ ap (λ (xs : List Told). old ++ xs) (sym (in-none agent values c.args.prog.now none));
      serves = c.requires.serves;
    }
