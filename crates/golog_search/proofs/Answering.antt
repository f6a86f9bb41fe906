-- The answer, where the program waits for no result and the journal is not full, by what the program does next.
use Rattle.std.proofs.Common.{◌≡◌, Bool, true, false, List, [], ◌∷◌, Option, Some, None, refl, ap, ◌∙◌}
use Rattle.std.specs.Prelude.{not, ◌&&◌, ◌||◌, nat_lt, if◌then◌else◌}
use Rattle.golog_tree.specs.declared.agent.Agent.{Agent}
use Rattle.golog_tree.specs.declared.prog.Prog.{Prog}
use Rattle.golog_tree.specs.Nest.{nest}
use Rattle.golog_semantics.specs.declared.Mode.TheVariants.{Must, May, Near}
use Rattle.golog_semantics.specs.declared.search.Move.{Move}
use Rattle.golog_semantics.specs.declared.journal.Answer.{Answer}
use Rattle.golog_semantics.specs.declared.journal.Answer.TheVariants as answer
use Rattle.golog_semantics.specs.Truth.{Values}
use Rattle.golog_semantics.specs.Ways.{is_empty}
use Rattle.golog_semantics.specs.Search.{final, nest_limit}
use Rattle.golog_semantics.specs.Blocks.{moves}
use Rattle.golog_semantics.specs.Journal.{Journal, is_full, is_settled, is_quiet, lacks_results, may_be_answered}
use Rattle.golog_semantics.specs.Answer.{first_that_fits, is_deep, is_unanswered, answer_at}
use Rattle.golog_search.specs.declared.decision.Blocked.{Blocked}
use Rattle.golog_search.specs.declared.decision.Blocked.TheVariants.{Unknown, Depth, Stuck}
use Rattle.golog_search.specs.declared.decision.Decision.{Decision}
use Rattle.golog_search.specs.declared.decision.Decision.TheVariants.{Final, Step, Blocked as Blocking, Deep}
use Rattle.golog_search.specs.Decided.{decision, stepping}
use Rattle.golog_search.specs.Laws.{answer_of}

-- the answer, by what it is decided by
abbrev pub answer_cases : Bool → Bool → Bool → Bool → Bool → List Move → Bool → Bool → Bool → Bool → Option Answer
answer_cases full unanswered settled ends comes steps quiet lacks near may =
    first_that_fits
    ((full, Some answer.Full)
    ∷ (unanswered, Some answer.Unanswered)
    ∷ (not settled, None)
    ∷ (ends && comes, None)
    ∷ (ends, Some answer.Done)
    ∷ (is_deep steps, Some answer.Deep)
    ∷ (not (is_empty steps), None)
    ∷ (not quiet, None)
    ∷ (lacks, Some answer.Unanswered)
    ∷ (near, Some answer.Unknown)
    ∷ (may, Some answer.Depth)
    ∷ [])
    (Some answer.Stuck)

-- why a program is blocked, by whether something is near and whether a step is possible
abbrev blocked_by : Bool → Bool → Blocked
blocked_by near may = if near then Unknown else if may then Depth else Stuck

abbrev along_by : Bool → Bool → List Move → Decision
along_by near may [] = Blocking (blocked_by near may)
along_by near may (m ∷ ms) = stepping m

blocked_so : (comes quiet lacks near may : Bool)
    → answer_cases false false true false comes [] quiet lacks near may ≡ answer_of comes quiet lacks (Blocking (blocked_by near may))
blocked_so comes true true near may = refl
blocked_so comes true false true may = refl
blocked_so comes true false false true = refl
blocked_so comes true false false false = refl
blocked_so comes false lacks near may = refl

stepping_so : (m : Move) (ms : List Move) (deep comes quiet lacks near may : Bool) → nat_lt nest_limit (nest m.left) ≡ deep
    → answer_cases false false true false comes (m ∷ ms) quiet lacks near may ≡ answer_of comes quiet lacks (if deep then Deep else Step m)
stepping_so m ms true comes quiet lacks near may e = ap (λ b. if b then Some answer.Deep else None) e
stepping_so m ms false comes quiet lacks near may e = ap (λ b. if b then Some answer.Deep else None) e

decided_so : (ends : Bool) (steps : List Move) (comes quiet lacks near may : Bool)
    → answer_cases false false true ends comes steps quiet lacks near may
    ≡ answer_of comes quiet lacks (if ends then Final else along_by near may steps)
decided_so true steps comes quiet lacks near may = refl
decided_so false [] comes quiet lacks near may = blocked_so comes quiet lacks near may
decided_so false (m ∷ ms) comes quiet lacks near may = stepping_so m ms (nat_lt nest_limit (nest m.left)) comes quiet lacks near may refl

pub decided_answered : (agent : Agent) (journal : Journal) (values : Values) (p : Prog) → is_full journal ≡ false → is_unanswered agent journal ≡ false → is_settled agent journal ≡ true
    → answer_at agent journal values p
    ≡ answer_of (may_be_answered agent journal) (is_quiet agent journal) (lacks_results agent journal) (decision agent values p)
unfolding decision
decided_answered agent journal values p f u s =
    let M = moves agent values Must p in
    let E = final agent values Must p in
    let C = may_be_answered agent journal in
    let Q = is_quiet agent journal in
    let L = lacks_results agent journal in
    let N = not (is_empty (moves agent values Near p)) || final agent values Near p in
    let Y = not (is_empty (moves agent values May p)) in
    ap (λ b. answer_cases b (is_unanswered agent journal) (is_settled agent journal) E C M Q L N Y) f
    ∙ ap (λ b. answer_cases false b (is_settled agent journal) E C M Q L N Y) u
    ∙ ap (λ b. answer_cases false false b E C M Q L N Y) s
    ∙ decided_so E M C Q L N Y
