use Rattle.std.proofs.Common.{◌+◌, ◌∷◌, Some, take, sym, ap, ◌∙◌}
use Rattle.golog_reports.specs.Forms.{cut, cut_at, parts}
use Rattle.golog_reports.proofs.Cuts.{parts-some, parts-none}
use Rattle.golog_reports.proofs.Rests.{rest-whole}
use Rattle.golog_reports.proofs.forms.cut.Goals as goal

pub returns-in-Some-clause-front : goal.returns-in-Some-clause-front
unfolding cut
returns-in-Some-clause-front c = ap (λ o. (cut_at o c.args.bytes.now).0) c.in-Some.ensures

pub returns-in-Some-clause-behind : goal.returns-in-Some-clause-behind
unfolding cut
returns-in-Some-clause-behind c =
    ap Some (rest-whole (c.in-Some.place + 1) c.args.bytes.now) ∙ ap (λ o. (cut_at o c.args.bytes.now).1) c.in-Some.ensures

pub returns-in-Some-clause-parts : goal.returns-in-Some-clause-parts
returns-in-Some-clause-parts c =
    parts-some c.args.mark c.args.bytes.now c.in-Some.place c.in-Some.ensures
    ∙ ap (λ rest. take c.in-Some.place c.args.bytes.now ∷ parts c.args.mark rest) (sym (rest-whole (c.in-Some.place + 1) c.args.bytes.now))

pub returns-in-None-clause-front : goal.returns-in-None-clause-front
unfolding cut
returns-in-None-clause-front c = ap (λ o. (cut_at o c.args.bytes.now).0) c.in-None.ensures

pub returns-in-None-clause-behind : goal.returns-in-None-clause-behind
unfolding cut
returns-in-None-clause-behind c = ap (λ o. (cut_at o c.args.bytes.now).1) c.in-None.ensures

pub returns-in-None-clause-parts : goal.returns-in-None-clause-parts
returns-in-None-clause-parts c = parts-none c.args.mark c.args.bytes.now c.in-None.ensures
