use Rattle.std.proofs.Common.{◌+◌, ◌-◌, ◌≤◌, [], ◌∷◌, ◌++◌, length, length-drop, sym, ap, ◌∙◌, subst, arith}
use Rattle.std.proofs.lemmas.Option.{same_Some}
use Rattle.golog_semantics.specs.declared.journal.Entry.{Entry}
use Rattle.golog_semantics.specs.Journal.{Journal, poster_of}
use Rattle.golog_semantics.specs.Online.{keeps_place}
use Rattle.golog_semantics.specs.Reports.{entry_limit}
use Rattle.golog_replay.specs.Standings.{AwaitsFrom, commands_from, first_awaited}
use Rattle.golog_replay.proofs.Awaiting.{earlier-place, number-below}
use Rattle.golog_replay.proofs.Noting.{first-next, first-still, its-own, list-behind}
use Rattle.golog_replay.proofs.standing.first_after.Goals as goal

pub slice_bounds-rest-count : goal.slice_bounds-rest-count
slice_bounds-rest-count c =
    let before = c.args.before.now in
    let s = c.in-Sense in
    let same = same_Some s.poster c.args.device (sym (ap poster_of s.is) ∙ c.requires.poster) in
    let keeps = sym (ap (keeps_place c.args.facts.now before) s.is) ∙ c.requires.place in
    let low =
    earlier-place c.args.facts.now before c.args.device s.place c.args.first
    (its-own c.args.facts.now before c.args.device c.args.first c.requires.awaits s.poster s.place s.fluent s.value same keeps) in
    omega (arith, low)

pub slice_bounds-rest-start : goal.slice_bounds-rest-start
slice_bounds-rest-start c =
    let before = c.args.before.now in
    let s = c.in-Sense in
    let same = same_Some s.poster c.args.device (sym (ap poster_of s.is) ∙ c.requires.poster) in
    let keeps = sym (ap (keeps_place c.args.facts.now before) s.is) ∙ c.requires.place in
    let low =
    earlier-place c.args.facts.now before c.args.device s.place c.args.first
    (its-own c.args.facts.now before c.args.device c.args.first c.requires.awaits s.poster s.place s.fluent s.value same keeps) in
    omega (arith, low)

pub first_among-requires-clause-room : goal.first_among-requires-clause-room
first_among-requires-clause-room c =
    let agent = c.args.facts.now in
    let before = c.args.before.now in
    let s = c.in-Sense in
    let same = same_Some s.poster c.args.device (sym (ap poster_of s.is) ∙ c.requires.poster) in
    let keeps = sym (ap (keeps_place agent before) s.is) ∙ c.requires.place in
    let low =
    earlier-place agent before c.args.device s.place c.args.first
    (its-own agent before c.args.device c.args.first c.requires.awaits s.poster s.place s.fluent s.value same keeps) in
    let rest = ap (λ (es : Journal). length es) (list-behind (s.place + 1) before) in
    let long = length-drop (s.place + 1) before in
    let short = c.requires.short in
    omega (arith, low, rest, long, short)

pub first_among-requires-clause-few : goal.first_among-requires-clause-few
first_among-requires-clause-few c =
    let agent = c.args.facts.now in
    let before = c.args.before.now in
    let s = c.in-Sense in
    let same = same_Some s.poster c.args.device (sym (ap poster_of s.is) ∙ c.requires.poster) in
    let keeps = sym (ap (keeps_place agent before) s.is) ∙ c.requires.place in
    let below =
    number-below agent before c.args.device s.place c.args.first
    (its-own agent before c.args.device c.args.first c.requires.awaits s.poster s.place s.fluent s.value same keeps) in
    let number = c.number_of.ensures in
    let short = c.requires.short in
    subst (λ (es : Journal). c.number_of.result + length (commands_from agent c.args.device (s.place + 1) es) ≤ entry_limit) (sym (list-behind (s.place + 1) before))
    (omega (arith, below, number, short))

pub returns-in-Sense : goal.returns-in-Sense
returns-in-Sense c =
    let agent = c.args.facts.now in
    let before = c.args.before.now in
    let s = c.in-Sense in
    let same = same_Some s.poster c.args.device (sym (ap poster_of s.is) ∙ c.requires.poster) in
    let keeps = sym (ap (keeps_place agent before) s.is) ∙ c.requires.place in
    subst (λ (e : Entry). AwaitsFrom agent (before ++ e ∷ []) c.args.device c.first_among.result) (sym s.is)
    (first-next agent before c.args.device c.args.first c.requires.awaits s.poster s.place s.fluent s.value same
    (its-own agent before c.args.device c.args.first c.requires.awaits s.poster s.place s.fluent s.value same keeps) c.first_among.result
    (c.first_among.ensures
    ∙ (λ i. first_awaited agent (c.number_of.ensures i) (commands_from agent c.args.device (s.place + 1) (list-behind (s.place + 1) before i)))))

pub returns-in_default : goal.returns-in_default
returns-in_default c =
    first-still c.args.facts.now c.args.before.now c.args.device c.args.first c.requires.awaits c.args.entry c.requires.poster
    c.in_default.not-Sense
