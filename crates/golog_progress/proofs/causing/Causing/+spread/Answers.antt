use Rattle.std.proofs.Common.{rules, ◌≡◌, ℕ, ◌+◌, ◌*◌, ◌/◌, ◌<◌, ◌≤◌, ◌++◌, ◌∷◌, [], length, sym, ap, ◌∙◌, subst, arith, true, false, Fits, w64}
use Rattle.golog_tree.specs.Ground.{product, sizes}
use Rattle.golog_semantics.specs.Truth.{arg_value}
use Rattle.golog_progress.specs.Effects.{HeadFits, IsSpread, effect_in, is_next}
use Rattle.golog_progress.proofs.Heads.{cond_at, term_at}
use Rattle.golog_progress.proofs.Spread.{ranged-more}
use Rattle.golog_progress.proofs.Narrowed.{narrow, ended}
use Rattle.golog_progress.proofs.causing.Causing.+spread.Goals as goal

pub range_over-loop-constant-preserved : goal.range_over-loop-constant-preserved
range_over-loop-constant-preserved t c =
    let ns = sizes c.args.self.now.agent.now c.args.sorts.now in
    let k = c.loop-constant.constant in
    let part : IsSpread (effect_in c.args.self.now) ns c.args.args.now (c.args.found.now ++ k ∷ []) (c.args.places.first + k * product ns) c.loop-constant.next c.spread.new.next =
    subst (λ fs. IsSpread (effect_in c.args.self.now) ns c.args.args.now fs (c.args.places.first + k * product ns) c.loop-constant.next c.spread.new.next) c.with.ensures
    (subst (λ n. IsSpread (effect_in c.args.self.now) ns c.args.args.now c.with.result (c.args.places.first + k * n) c.loop-constant.next c.spread.new.next) c.requires.count c.spread.ensures) in
    ranged-more c.args.self.now.agent.now c.args.self.now.values.now c.args.self.now.cause.now ns c.args.args.now c.args.found.now c.args.places.first c.args.next.now
    (subst (λ n. 0 < n) c.requires.count c.requires.some) k c.loop-constant.next c.spread.new.next c.loop-constant.invariant part

pub spread-range_over-requires : goal.spread-range_over-requires
spread-range_over-requires t c =
    let n = narrow c.requires.head c.in-Some-Some.ensures.cases.0 c.in-Some-Some.ensures'.cases.0 c.sort_size-size.ensures.size c.requires.count c.requires.some in
    let free : is_next c.args.found.now c.in-Some-Some.arg.now ≡ true = sym c.is_next.ensures ∙ c.if-is_next.true in
    let nexts : (k : ℕ) → k < c.sort_size-size.result → HeadFits c.args.self.now.agent.now c.args.self.now.cause.now c.in-Some-Some.sorts.now c.in-Some-Some.args.now (c.args.found.now ++ k ∷ []) = n.nexts free in
    let room : length c.args.found.now < 6 = n.room in
    let width : c.args.places.count / c.sort_size-size.result ≡ product (sizes c.args.self.now.agent.now c.in-Some-Some.sorts.now) = n.width in
    let some : 0 < c.args.places.count / c.sort_size-size.result = subst (λ m. 0 < m) (sym width) n.some in
    let whole : c.sort_size-size.result * (c.args.places.count / c.sort_size-size.result) ≡ c.args.places.count = ap (λ m. c.sort_size-size.result * m) width ∙ sym n.whole in
    let inside : c.args.places.first + c.sort_size-size.result * (c.args.places.count / c.sort_size-size.result) ≤ length c.args.next.now = omega arith in
    let longer : length c.args.sorts.now ≡ length c.in-Some-Some.sorts.now + 1 = n.longer in
    search rules

pub spread-overflow_mul-first : goal.spread-overflow_mul-first
spread-overflow_mul-first t c =
    let n = narrow c.requires.head c.in-Some-Some.ensures.cases.0 c.in-Some-Some.ensures'.cases.0 c.sort_size-size.ensures.size c.requires.count c.requires.some in
    let taken : is_next c.args.found.now c.in-Some-Some.arg.now ≡ false = sym c.is_next.ensures ∙ c.if-is_next.false in
    let is : c.from.result ≡ arg_value c.args.found.now c.in-Some-Some.arg.now = c.from.ensures ∙ c.value_of.ensures in
    let part : c.from.result * product (sizes c.args.self.now.agent.now c.in-Some-Some.sorts.now) + product (sizes c.args.self.now.agent.now c.in-Some-Some.sorts.now) ≤ c.args.places.count = n.part taken c.from.result is in
    subst (λ m. Fits w64 (c.from.result * m)) (sym n.width) (search rules)

pub spread-overflow_add-first : goal.spread-overflow_add-first
spread-overflow_add-first t c =
    let n = narrow c.requires.head c.in-Some-Some.ensures.cases.0 c.in-Some-Some.ensures'.cases.0 c.sort_size-size.ensures.size c.requires.count c.requires.some in
    let taken : is_next c.args.found.now c.in-Some-Some.arg.now ≡ false = sym c.is_next.ensures ∙ c.if-is_next.false in
    let is : c.from.result ≡ arg_value c.args.found.now c.in-Some-Some.arg.now = c.from.ensures ∙ c.value_of.ensures in
    let part : c.from.result * product (sizes c.args.self.now.agent.now c.in-Some-Some.sorts.now) + product (sizes c.args.self.now.agent.now c.in-Some-Some.sorts.now) ≤ c.args.places.count = n.part taken c.from.result is in
    subst (λ m. Fits w64 (c.args.places.first + c.from.result * m)) (sym n.width) (search rules)

pub spread-spread-requires : goal.spread-spread-requires
spread-spread-requires t c =
    let n = narrow c.requires.head c.in-Some-Some.ensures.cases.0 c.in-Some-Some.ensures'.cases.0 c.sort_size-size.ensures.size c.requires.count c.requires.some in
    let taken : is_next c.args.found.now c.in-Some-Some.arg.now ≡ false = sym c.is_next.ensures ∙ c.if-is_next.false in
    let is : c.from.result ≡ arg_value c.args.found.now c.in-Some-Some.arg.now = c.from.ensures ∙ c.value_of.ensures in
    let rest : HeadFits c.args.self.now.agent.now c.args.self.now.cause.now c.in-Some-Some.sorts.now c.in-Some-Some.args.now c.args.found.now = n.rest taken in
    let width : c.args.places.count / c.sort_size-size.result ≡ product (sizes c.args.self.now.agent.now c.in-Some-Some.sorts.now) = n.width in
    let some : 0 < c.args.places.count / c.sort_size-size.result = subst (λ m. 0 < m) (sym width) n.some in
    let part : c.from.result * (c.args.places.count / c.sort_size-size.result) + c.args.places.count / c.sort_size-size.result ≤ c.args.places.count =
    subst (λ m. c.from.result * m + m ≤ c.args.places.count) (sym width) (n.part taken c.from.result is) in
    let inside : c.args.places.first + c.from.result * (c.args.places.count / c.sort_size-size.result) + c.args.places.count / c.sort_size-size.result ≤ length c.args.next.now = omega arith in
    let longer : length c.args.sorts.now ≡ length c.in-Some-Some.sorts.now + 1 = n.longer in
    search rules

pub spread-effect-requires-clause-cond : goal.spread-effect-requires-clause-cond
spread-effect-requires-clause-cond t c = cond_at c.args.self.now.agent.now c.args.self.now.cause.now c.args.found.now (ended c.requires.head c.in-None-default.ensures.cases)

pub spread-effect-requires-clause-term : goal.spread-effect-requires-clause-term
spread-effect-requires-clause-term t c = term_at c.args.self.now.agent.now c.args.self.now.cause.now c.args.found.now (ended c.requires.head c.in-None-default.ensures.cases)

pub spread-returns-then-is_next : goal.spread-returns-then-is_next
spread-returns-then-is_next t c =
    let n = narrow c.requires.head c.in-Some-Some.ensures.cases.0 c.in-Some-Some.ensures'.cases.0 c.sort_size-size.ensures.size c.requires.count c.requires.some in
    let free : is_next c.args.found.now c.in-Some-Some.arg.now ≡ true = sym c.is_next.ensures ∙ c.if-is_next.true in
    n.all c.args.self.now.values.now c.args.places.first c.args.next.now c.range_over.new.next free c.range_over.ensures

pub spread-returns-else-is_next : goal.spread-returns-else-is_next
spread-returns-else-is_next t c =
    let n = narrow c.requires.head c.in-Some-Some.ensures.cases.0 c.in-Some-Some.ensures'.cases.0 c.sort_size-size.ensures.size c.requires.count c.requires.some in
    let taken : is_next c.args.found.now c.in-Some-Some.arg.now ≡ false = sym c.is_next.ensures ∙ c.if-is_next.false in
    let is : c.from.result ≡ arg_value c.args.found.now c.in-Some-Some.arg.now = c.from.ensures ∙ c.value_of.ensures in
    n.one c.args.self.now.values.now c.args.places.first c.args.next.now c.spread.new.next taken c.from.result
    (c.args.places.first + c.from.result * (c.args.places.count / c.sort_size-size.result)) is
    (ap (λ m. c.args.places.first + c.from.result * m) n.width) c.spread.ensures
