-- What the program is to do is so of the entries.
use Rattle.std.proofs.Common.{◌≡◌, ◌≢◌, ℕ, zero, suc, ◌+◌, ◌≤◌, ◌<◌, Bool, true, false, not, ◌&&◌, ◌||◌, if◌then◌else◌, List, [], ◌∷◌, length, Option, Some, None, ◌⊎◌, inl, inr, refl, sym, ap, ◌∙◌, subst, arith}
use Rattle.std.specs.Prelude.{filter, is_none, nat_lt, option_map}
use Rattle.std.specs.List.{list_all, list_any, range_with_len}
use Rattle.std.proofs.lemmas.Bool.{and_parts, cases_eq, cases_lt, le-ltb, lt-ltb, le-leb}
use Rattle.golog_base.proofs.Bools.{or-true}
use Rattle.golog_tree.specs.declared.agent.Agent.{Agent}
use Rattle.golog_tree.specs.declared.prog.Prog.{Prog}
use Rattle.golog_tree.specs.Nest.{nest}
use Rattle.golog_semantics.specs.declared.Mode.TheVariants.{Must, May, Near}
use Rattle.golog_semantics.specs.declared.search.Move.{Move}
use Rattle.golog_semantics.specs.declared.journal.Answer.{Answer}
use Rattle.golog_semantics.specs.declared.journal.Answer.TheVariants as answer
use Rattle.golog_semantics.specs.Ways.{is_empty}
use Rattle.golog_semantics.specs.Search.{final, nest_limit}
use Rattle.golog_semantics.specs.Blocks.{moves}
use Rattle.golog_semantics.specs.Journal.{Journal, Command, count, devices, held_commands, is_at_rest, is_full, is_held, is_open, is_quiet, is_settled, lacks_result, lacks_results, limit, may_be_answered}
use Rattle.golog_semantics.specs.Progress.{values_after, left_after}
use Rattle.golog_semantics.specs.Answer.{answer_after, is_unanswered}
use Rattle.golog_ways.specs.First.{head_of}
use Rattle.golog_search.specs.declared.decision.Blocked.{Blocked}
use Rattle.golog_search.specs.declared.decision.Decision.{Decision}
use Rattle.golog_search.specs.declared.decision.Decision.TheVariants.{Final, Step, Blocked as Blocking, Fuel, Deep}
use Rattle.golog_search.specs.Decided.{IsAhead, IsDecided, LacksFuel, ahead, along, blocked, decision, stepping}
use Rattle.golog_search.specs.Laws.{answer_of, blocked_answer}
use Rattle.golog_search.proofs.Answering.{answer_cases, decided_answered}
use Rattle.golog_journal.specs.Boards.{IsBoardList}
use Rattle.golog_agent.specs.declared.plan.Plan.{Plan}
use Rattle.golog_agent.specs.declared.plan.Plan.TheVariants as plan
use Rattle.golog_agent.specs.Configuration.{Configuration, configuration_after}
use Rattle.golog_agent.specs.Deciding.{plan_by}
use Rattle.golog_agent.specs.declared.held.Held.{Held}
use Rattle.golog_agent.specs.Keeping.{AwaitsFrom, AwaitsOne, IsUnderWay}
use Rattle.golog_agent.proofs.Awaiting.{and-false, any-and, settled-none, settled-one, unanswered-closed, unanswered-none, unanswered-open}
use Rattle.golog_agent.specs.Planned.{IsNextStep, PlanIs}
use Rattle.golog_lead.specs.Courses.{Course}
use Rattle.golog_lead.specs.Waiting.{has_no_step, takes_no_step, waits}
use Rattle.golog_lead.proofs.Taking.{seen_as}
use Rattle.golog_lead.proofs.Resting.{rest-is-answered}

all-but-one : (f : ℕ → Bool) (d : ℕ) → f d ≡ false → (a n : ℕ) → a ≤ d → d < a + n → list_all f (range_with_len a n) ≡ false
all-but-one f d h a zero low high = absurd (omega (arith, low, high))
all-but-one f d h a (suc n) low high = go (cases_eq a d) (λ (k : a ≢ d). all-but-one f d h (a + 1) n (omega (arith, low, k)) (omega (arith, high)))
  where
    later : (b : Bool) → list_all f (range_with_len (a + 1) n) ≡ false → (b && list_all f (range_with_len (a + 1) n)) ≡ false
    later true e = e
    later false e = refl

    go : (a ≡ d) ⊎ (a ≡ d → ⊥) → (a ≢ d → list_all f (range_with_len (a + 1) n) ≡ false) → (f a && list_all f (range_with_len (a + 1) n)) ≡ false
    go (inl e) rest = ap (λ k. f k && list_all f (range_with_len (a + 1) n)) e ∙ ap (λ b. b && list_all f (range_with_len (a + 1) n)) h
    go (inr k) rest = later (f a) (rest k)

-- where one passes the first test, and what passes it fails the second, not all pass the second
some-fails : (f g : ℕ → Bool) → ((d : ℕ) → f d ≡ true → g d ≡ false) → (xs : List ℕ) → list_any f xs ≡ true → list_all g xs ≡ false
some-fails f g apart [] h = absurd (cc)
some-fails f g apart (x ∷ xs) h = go (f x) refl h (some-fails f g apart xs)
  where
    go : (b : Bool) → f x ≡ b → (b || list_any f xs) ≡ true → (list_any f xs ≡ true → list_all g xs ≡ false) → (g x && list_all g xs) ≡ false
    go true e h rest = ap (λ t. t && list_all g xs) (apart x e)
    go false e h rest = and-false (g x) (list_all g xs) (rest h)

not-above : (n k : ℕ) → nat_lt n k ≡ false → k ≤ n
not-above n k e = go (cases_lt n k)
  where
    go : (n < k) ⊎ (k ≤ n) → k ≤ n
    go (inl low) = absurd (let h = sym e ∙ lt-ltb n k low in cc)
    go (inr high) = high

module _ (agent : Agent) (journal : Journal) where
  abbrev V : List ℕ
  V = values_after agent journal

  abbrev P : Prog
  P = left_after agent journal

  -- the answer, where the first tests have these truths
  answer-by : (full unanswered settled : Bool) → is_full journal ≡ full → is_unanswered agent journal ≡ unanswered → is_settled agent journal ≡ settled
      → answer_after agent journal
      ≡ answer_cases full unanswered settled (final agent V Must P) (may_be_answered agent journal) (moves agent V Must P) (is_quiet agent journal) (lacks_results agent journal) (not (is_empty (moves agent V Near P)) || final agent V Near P) (not (is_empty (moves agent V May P)))
  unfolding answer_after
  answer-by full unanswered settled f u s =
      let E = final agent V Must P in
      let M = moves agent V Must P in
      let C = may_be_answered agent journal in
      let Q = is_quiet agent journal in
      let L = lacks_results agent journal in
      let N = not (is_empty (moves agent V Near P)) || final agent V Near P in
      let Y = not (is_empty (moves agent V May P)) in
      ap (λ b. answer_cases b (is_unanswered agent journal) (is_settled agent journal) E C M Q L N Y) f
      ∙ ap (λ b. answer_cases full b (is_settled agent journal) E C M Q L N Y) u
      ∙ ap (λ b. answer_cases full unanswered b E C M Q L N Y) s

  pub full-plan : is_full journal ≡ true → PlanIs agent journal (plan.End answer.Full)
  full-plan h = inr (inr (answer-by true (is_unanswered agent journal) (is_settled agent journal) h refl refl))

  pub unanswered-plan : is_full journal ≡ false → is_unanswered agent journal ≡ true → PlanIs agent journal (plan.End answer.Unanswered)
  unanswered-plan f u = inr (inr (answer-by false true (is_settled agent journal) f u refl))

  waits-so : is_quiet agent journal ≡ false → answer_after agent journal ≡ None → (not (is_settled agent journal) || takes_no_step agent journal) ≡ true → waits agent journal ≡ true
  unfolding waits
  waits-so q a s =
      ap (λ b. not b && is_none (answer_after agent journal) && (not (is_settled agent journal) || takes_no_step agent journal)) q
      ∙ ap (λ o. is_none o && (not (is_settled agent journal) || takes_no_step agent journal)) a ∙ s

  -- a device of which a result may come is not at rest
  pub comes-awake : IsBoardList agent journal → may_be_answered agent journal ≡ true → is_quiet agent journal ≡ false
  comes-awake list comes =
      some-fails (λ d. is_open d journal && lacks_result agent journal d) (λ d. not (is_open d journal) || is_at_rest agent journal d) each (devices agent) comes
    where
      not-rest : (d : ℕ) → lacks_result agent journal d ≡ true → is_at_rest agent journal d ≡ false
      not-rest d lacks = go (is_at_rest agent journal d) refl
        where
          go : (b : Bool) → is_at_rest agent journal d ≡ b → b ≡ false
          go false e = refl
          go true e =
              absurd (let k = sym (ap (λ (cs : List Command). not (is_empty cs)) (rest-is-answered agent d journal list e)) ∙ lacks in cc)

      each : (d : ℕ) → (is_open d journal && lacks_result agent journal d) ≡ true → (not (is_open d journal) || is_at_rest agent journal d) ≡ false
      each d h =
          let parts = and_parts (is_open d journal) (lacks_result agent journal d) h in
          ap (λ b. not b || is_at_rest agent journal d) parts.0 ∙ not-rest d parts.1

  -- where no result is lacking, none may come
  none-comes : lacks_results agent journal ≡ false → may_be_answered agent journal ≡ false
  none-comes none = any-and (λ d. is_open d journal) (lacks_result agent journal) (devices agent) none

  module _ (held : Held) (one : AwaitsOne agent journal held) (list : IsBoardList agent journal) (still_open : is_open held.device journal ≡ true) where
    abbrev device : ℕ
    device = held.device

    not-rest : is_at_rest agent journal device ≡ false
    not-rest = go (is_at_rest agent journal device) refl
      where
        go : (b : Bool) → is_at_rest agent journal device ≡ b → b ≡ false
        go false e = refl
        go true e =
            absurd (let k = sym (ap (filter (λ (c : Command). is_held agent c.action)) (rest-is-answered agent device journal list e)) ∙ one.own in cc)

    awake : is_quiet agent journal ≡ false
    awake =
        all-but-one (λ d. not (is_open d journal) || is_at_rest agent journal d) device
        (ap (λ b. not b || is_at_rest agent journal device) still_open ∙ not-rest) 0 (length agent.devices) (omega arith) (let k = one.is_device in omega (arith, k))

    pub result-plan : is_full journal ≡ false → is_unanswered agent journal ≡ false → is_settled agent journal ≡ false → PlanIs agent journal plan.Wait
    result-plan f u s = waits-so awake (answer-by false false false f u s) (ap (λ b. not b || takes_no_step agent journal) s)

  -- ---- what was decided

  step-inside : (m : Move) (b : Bool) (ms : List Move) → (if b then Final else along agent V P ms) ≡ Step m
      → (b ≡ false) × (nest m.left ≤ nest_limit) × ((others : List Move) × (ms ≡ m ∷ others))
  step-inside m true ms e = absurd (cc)
  step-inside m false [] e = absurd (cc)
  step-inside m false (x ∷ ms) e = go (nat_lt nest_limit (nest x.left)) refl
    where
      go : (b : Bool) → nat_lt nest_limit (nest x.left) ≡ b → (false ≡ false) × (nest m.left ≤ nest_limit) × ((others : List Move) × (x ∷ ms ≡ m ∷ others))
      go true k = absurd (let h = sym (ap (λ b. if b then Deep else Step x) k) ∙ e in cc)
      go false k =
          let h : Step x ≡ Step m = sym (ap (λ b. if b then Deep else Step x) k) ∙ e in
          let same : x ≡ m = cc in
          (refl, subst (λ (y : Move). nest y.left ≤ nest_limit) same (not-above nest_limit (nest x.left) k), (ms, ap (λ y. y ∷ ms) same))

  -- ---- the end or the first step, where one is certain

  ahead-some : (b : Bool) (ms : List Move) (d : Decision) → Some d ≡ (if b then Some Final else option_map stepping (head_of ms))
      → (if b then Final else along agent V P ms) ≡ d
  ahead-some true ms d e = cc
  ahead-some false [] d e = absurd (cc)
  ahead-some false (m ∷ ms) d e = cc

  ahead-none : (b : Bool) (ms : List Move) → None ≡ (if b then Some Final else option_map stepping (head_of ms)) → (b ≡ false) × (ms ≡ [])
  ahead-none true ms e = absurd (cc)
  ahead-none false [] e = (refl, refl)
  ahead-none false (m ∷ ms) e = absurd (cc)

  stepping-goes : (m : Move) (b : Blocked) → stepping m ≡ Blocking b → ⊥
  stepping-goes m b e = go (nat_lt nest_limit (nest m.left)) refl
    where
      go : (deep : Bool) → nat_lt nest_limit (nest m.left) ≡ deep → ⊥
      go true k = absurd (let h = sym (ap (λ d. if d then Deep else Step m) k) ∙ e in cc)
      go false k = absurd (let h = sym (ap (λ d. if d then Deep else Step m) k) ∙ e in cc)

  ahead-goes : (b : Bool) (ms : List Move) (x : Blocked) → Some (Blocking x) ≡ (if b then Some Final else option_map stepping (head_of ms)) → ⊥
  ahead-goes true ms x e = absurd (cc)
  ahead-goes false [] x e = absurd (cc)
  ahead-goes false (m ∷ ms) x e = stepping-goes m x (let h : Blocking x ≡ stepping m = cc in sym h)

  not-deep : (m : Move) → nest m.left ≤ nest_limit → stepping m ≡ Step m
  not-deep m h = ap (λ deep. if deep then Deep else Step m) (le-ltb nest_limit (nest m.left) h)

  -- the next step is what is decided
  pub next-ahead : (m : Move) → IsNextStep agent journal m → IsAhead agent V P true (Some (Step m))
  unfolding ahead
  next-ahead m next =
      inl (sym (ap (λ b. if b then Some Final else option_map stepping (head_of (moves agent V Must P))) next.not_final
      ∙ ap (λ ms. option_map stepping (head_of ms)) next.first ∙ ap (λ d. Some d) (not-deep m next.nests)))

  decided-ahead : (d : Decision) → Some d ≡ ahead agent V P → decision agent V P ≡ d
  unfolding decision ahead
  decided-ahead d e = ahead-some (final agent V Must P) (moves agent V Must P) d e

  pub none-ahead : None ≡ ahead agent V P → (final agent V Must P ≡ false) × (moves agent V Must P ≡ [])
  unfolding ahead
  none-ahead e = ahead-none (final agent V Must P) (moves agent V Must P) e

  goes-ahead : (b : Blocked) → Some (Blocking b) ≡ ahead agent V P → ⊥
  unfolding ahead
  goes-ahead b e = ahead-goes (final agent V Must P) (moves agent V Must P) b e

  is-blocked : None ≡ ahead agent V P → decision agent V P ≡ Blocking (blocked agent V P)
  unfolding decision
  is-blocked e =
      let none = none-ahead e in
      ap (λ b. if b then Final else along agent V P (moves agent V Must P)) none.0 ∙ ap (along agent V P) none.1

  none-of : (ms : List Move) → is_empty ms ≡ true → ms ≡ []
  none-of [] h = refl
  none-of (m ∷ ms) h = absurd (cc)

  -- where none may post any more, the results that are lacking will not come
  pub lacking-plan : is_full journal ≡ false → is_unanswered agent journal ≡ false → is_settled agent journal ≡ true
      → final agent V Must P ≡ false → is_empty (moves agent V Must P) ≡ true → is_quiet agent journal ≡ true → lacks_results agent journal ≡ true
      → PlanIs agent journal (plan.End answer.Unanswered)
  unfolding answer_after decision
  lacking-plan full answered settled unended stepless q l =
      let why : Blocked = blocked agent V P in
      let is : decision agent V P ≡ Blocking why =
      ap (λ b. if b then Final else along agent V P (moves agent V Must P)) unended ∙ ap (along agent V P) (none-of (moves agent V Must P) stepless) in
      inr (inr (decided_answered agent journal V P full answered settled
      ∙ ap (answer_of (may_be_answered agent journal) (is_quiet agent journal) (lacks_results agent journal)) is
      ∙ ap (λ k. if k then (if lacks_results agent journal then Some answer.Unanswered else Some (blocked_answer why)) else None) q
      ∙ ap (λ k. if k then Some answer.Unanswered else Some (blocked_answer why)) l))

  module _ (under : IsUnderWay agent journal) (full : is_full journal ≡ false) (answered : is_unanswered agent journal ≡ false) (settled : is_settled agent journal ≡ true) where
    answer-so : (d : Decision) → decision agent V P ≡ d
        → answer_after agent journal ≡ answer_of (may_be_answered agent journal) (is_quiet agent journal) (lacks_results agent journal) d
    unfolding answer_after
    answer-so d e =
        decided_answered agent journal V P full answered settled
        ∙ ap (answer_of (may_be_answered agent journal) (is_quiet agent journal) (lacks_results agent journal)) e

    below-limit : count journal < limit
    below-limit = go (cases_lt (count journal) limit)
      where
        go : (count journal < limit) ⊎ (limit ≤ count journal) → count journal < limit
        go (inl low) = low
        go (inr high) = absurd (let k = sym full ∙ le-leb limit (count journal) high in cc)

    next-step : (m : Move) → decision agent V P ≡ Step m → IsNextStep agent journal m
    unfolding decision
    next-step m e =
        let inside = step-inside m (final agent V Must P) (moves agent V Must P) e in
        record {
          settled = settled;
          not_final = inside.0;
          room = below-limit;
          others = inside.2.0;
          first = inside.2.1;
          nests = inside.1;
        }

    -- how a blocked program ends where no device may post any more
    abbrev blocked-end : Blocked → Option Answer
    blocked-end b = if lacks_results agent journal then Some answer.Unanswered else Some (blocked_answer b)

    fuel-plan : (comes : Bool) (d : Decision) → LacksFuel agent V P true d → PlanIs agent journal (plan_by comes d)
    fuel-plan comes d (bounded, is, weighs) =
        subst (λ x. PlanIs agent journal (plan_by comes x)) (sym is)
        (inr (inl (record { is = refl; not_full = full; answered = answered; settled = settled; weighs = weighs })))

    -- a program that may end does so, unless a result may still come
    may-end : (b : Bool) (ms : List Move) → (if b then Final else along agent V P ms) ≡ Final → b ≡ true
    may-end true ms e = refl
    may-end false [] e = absurd (cc)
    may-end false (m ∷ ms) e = go (nat_lt nest_limit (nest m.left)) refl
      where
        go : (deep : Bool) → nat_lt nest_limit (nest m.left) ≡ deep → false ≡ true
        go true k = absurd (let h = sym (ap (λ d. if d then Deep else Step m) k) ∙ e in cc)
        go false k = absurd (let h = sym (ap (λ d. if d then Deep else Step m) k) ∙ e in cc)

    ends : decision agent V P ≡ Final → final agent V Must P ≡ true
    unfolding decision
    ends e = may-end (final agent V Must P) (moves agent V Must P) e

    final-plan : (comes : Bool) → may_be_answered agent journal ≡ comes → decision agent V P ≡ Final → PlanIs agent journal (plan_by comes Final)
    final-plan true c e =
        waits-so (comes-awake under.lawful c) (answer-so Final e ∙ ap (λ k. if k then None else Some answer.Done) c)
        (ap (λ k. not (is_settled agent journal) || (has_no_step agent journal || k)) (ends e)
        ∙ ap (λ k. not (is_settled agent journal) || k) (or-true (has_no_step agent journal)) ∙ or-true (not (is_settled agent journal)))
    final-plan false c e = inr (inr (answer-so Final e ∙ ap (λ k. if k then None else Some answer.Done) c))

    so-plan : (comes : Bool) → may_be_answered agent journal ≡ comes → (d : Decision) → Some d ≡ ahead agent V P → PlanIs agent journal (plan_by comes d)
    so-plan comes c Final e = final-plan comes c (decided-ahead Final e)
    so-plan comes c (Step m) e = next-step m (decided-ahead (Step m) e)
    so-plan comes c (Blocking b) e = absurd (goes-ahead b e)
    so-plan comes c Fuel e = inr (inr (answer-so Fuel (decided-ahead Fuel e)))
    so-plan comes c Deep e = inr (inr (answer-so Deep (decided-ahead Deep e)))

    -- what is decided at once
    pub ahead-plan : (comes : Bool) → may_be_answered agent journal ≡ comes → (d : Decision) → IsAhead agent V P true (Some d) → PlanIs agent journal (plan_by comes d)
    ahead-plan comes c d (inl e) = so-plan comes c d e
    ahead-plan comes c d (inr lacks) = fuel-plan comes d lacks

    -- a blocked program waits while some device may still post
    pub blocked-waits : IsAhead agent V P true None → is_quiet agent journal ≡ false → PlanIs agent journal plan.Wait
    blocked-waits e q =
        waits-so q (answer-so (Blocking (blocked agent V P)) (is-blocked e) ∙ ap (λ k. if k then blocked-end (blocked agent V P) else None) q)
        (ap (λ k. not (is_settled agent journal) || (k || final agent V Must P)) (ap is_empty (none-ahead e).1) ∙ or-true (not (is_settled agent journal)))

    -- and where none is lacking, it ends
    quiet-plan : (d : Decision) → decision agent V P ≡ d → is_quiet agent journal ≡ true → lacks_results agent journal ≡ false → PlanIs agent journal (plan_by false d)
    quiet-plan Final e q l = final-plan false (none-comes l) e
    quiet-plan (Step m) e q l = next-step m e
    quiet-plan (Blocking b) e q l =
        inr (inr (answer-so (Blocking b) e ∙ ap (λ k. if k then blocked-end b else None) q
        ∙ ap (λ k. if k then Some answer.Unanswered else Some (blocked_answer b)) l))
    quiet-plan Fuel e q l = inr (inr (answer-so Fuel e))
    quiet-plan Deep e q l = inr (inr (answer-so Deep e))

    pub blocked-plan : (d : Decision) → IsDecided agent V P true d → is_quiet agent journal ≡ true → lacks_results agent journal ≡ false
        → PlanIs agent journal (plan_by false d)
    blocked-plan d (inl e) q l = quiet-plan d (sym e) q l
    blocked-plan d (inr lacks) q l = fuel-plan false d lacks

-- what is to be done, by the command whose result is waited for
module _ (agent : Agent) (journal : Journal) (awaited : Option Held) (awaits : AwaitsFrom agent journal awaited) where
  pub one-awaited : (held : Held) → awaited ≡ Some held → AwaitsOne agent journal held
  one-awaited held e = subst (AwaitsFrom agent journal) e awaits

  pub none-awaited : awaited ≡ None → (d : ℕ) → held_commands agent d journal ≡ []
  none-awaited e = subst (AwaitsFrom agent journal) e awaits

  pub wait-plan : (held : Held) → IsBoardList agent journal → is_full journal ≡ false → awaited ≡ Some held → is_open held.device journal ≡ true → PlanIs agent journal plan.Wait
  wait-plan held list full e still_open =
      let one = one-awaited held e in
      result-plan agent journal held one list still_open full (unanswered-open agent journal held one still_open) (settled-one agent journal held one)

  pub shut-plan : (held : Held) → is_full journal ≡ false → awaited ≡ Some held → is_open held.device journal ≡ false → PlanIs agent journal (plan.End answer.Unanswered)
  shut-plan held full e shut = unanswered-plan agent journal full (unanswered-closed agent journal held (one-awaited held e) shut)

  pub settled-plan : awaited ≡ None → (is_settled agent journal ≡ true) × (is_unanswered agent journal ≡ false)
  settled-plan e = (settled-none agent journal (none-awaited e), unanswered-none agent journal (none-awaited e))

-- ---- as contracts see it

module _ (agent : Agent) (list : Journal) (value : Course) (is : seen_as agent list ≡ value) where
  pub as-seen : (given : Plan) → PlanIs agent list given → PlanIs value.agent value.list given
  as-seen given h = subst (λ (v : Course). PlanIs v.agent v.list given) is h

  module _ (awaited : Option Held) (awaits : AwaitsFrom agent list awaited) (none : awaited ≡ None) where
    pub settled-seen : is_settled value.agent value.list ≡ true
    settled-seen = subst (λ (v : Course). is_settled v.agent v.list ≡ true) is (settled-plan agent list awaited awaits none).0

    pub answered-seen : is_unanswered value.agent value.list ≡ false
    answered-seen = subst (λ (v : Course). is_unanswered v.agent v.list ≡ false) is (settled-plan agent list awaited awaits none).1

  -- what is so of the configuration
  module _ (known : Configuration) (so : known ≡ configuration_after agent list) where
    pub known-seen : (Q : Configuration → Type 0) → Q known → Q (configuration_after value.agent value.list)
    known-seen Q h = subst (λ (v : Course). Q (configuration_after v.agent v.list)) is (subst Q so h)

    pub known-inside : (Q : Configuration → Type 0) → Q (configuration_after value.agent value.list) → Q known
    known-inside Q h = subst Q (sym so) (subst (λ (v : Course). Q (configuration_after v.agent v.list)) (sym is) h)
