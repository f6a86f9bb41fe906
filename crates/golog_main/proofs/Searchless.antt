-- A run of a program without search blocks ends neither for the depth of a search nor for its fuel, and one that
-- ends for want of fuel is of a program that is heavy there.
use Rattle.std.proofs.Common.{◌≡◌, ℕ, zero, suc, ◌+◌, ◌<◌, Bool, true, false, ◌&&◌, ◌||◌, if◌then◌else◌, List, [], ◌∷◌, ◌++◌, map, length, Option, Some, None, refl, sym, ap, ◌∙◌, subst, arith}
use Rattle.std.specs.Prelude.{not, Contains}
use Rattle.std.specs.List.{flat_map, list_any, range_with_len}
use Rattle.golog_tree.specs.declared.agent.Agent.{Agent}
use Rattle.golog_tree.specs.declared.agent.ProcItem.{ProcItem}
use Rattle.golog_tree.specs.declared.prog.Prog.{Prog}
use Rattle.golog_tree.specs.declared.prog.Prog.TheOpen.{Nil, Act, Test, Seq, Choice, Pick, Star, If, While, Conc, Prio, Cstar, Call, Search, Follow}
use Rattle.golog_tree.specs.declared.prog.Prog.TheViews.{out-Prog}
use Rattle.golog_tree.specs.Ground.{sort_size}
use Rattle.golog_tree.specs.Tidy.{Layer}
use Rattle.golog_semantics.specs.declared.Mode.TheVariants.{Must, May, Near}
use Rattle.golog_semantics.specs.declared.journal.Answer.{Answer}
use Rattle.golog_semantics.specs.declared.journal.Answer.TheVariants.{Done, Stuck, Unknown, Depth, Fuel, Unanswered, Full, Deep, Memory}
use Rattle.golog_semantics.specs.declared.journal.Entry.{Entry}
use Rattle.golog_semantics.specs.declared.journal.Entry.TheVariants.{End}
use Rattle.golog_semantics.specs.Truth.{Values}
use Rattle.golog_semantics.specs.Program.{put_arg, body_of}
use Rattle.golog_semantics.specs.Ways.{is_empty}
use Rattle.golog_semantics.specs.Search.{final}
use Rattle.golog_semantics.specs.Blocks.{moves}
use Rattle.golog_semantics.specs.BlockFree.{has_block, has_block_by, proc_blocks, proc_blocks_to}
use Rattle.golog_semantics.specs.Restart.{restarted, started}
use Rattle.golog_semantics.specs.Guarded.{front}
use Rattle.golog_semantics.specs.Heavy.{Reached, blocks_step, blocks_to, front_blocks, heavy, weighs}
use Rattle.golog_semantics.specs.Journal.{Journal, is_full, is_quiet, is_settled, lacks_results, may_be_answered}
use Rattle.golog_semantics.specs.Progress.{values_after, left_after}
use Rattle.golog_semantics.specs.Answer.{answer_at, first_that_fits, is_deep, is_unanswered}
use Rattle.golog_semantics.specs.Online.{may_end, same_answer}
use Rattle.golog_semantics.specs.Text.{Text}
use Rattle.golog_semantics.specs.Execution.{IsOnlineRun, status_of}
use Rattle.golog_semantics.proofs.NoBlocks.{blockless_steps, blockless, not_so}
use Rattle.golog_semantics.proofs.StepsInModes.{plain_steps-ordered}
use Rattle.golog_semantics.proofs.StepsKeep.{InParts}
use Rattle.golog_semantics.proofs.Tests.{and_cases}
use Rattle.golog_ways.proofs.Blockless.{P, blockless_parts}
use Rattle.golog_search.proofs.LeftBlockless.{left_blockless}
use Rattle.golog_main.specs.Searchless.{FuelIsHeavy, SearchlessEnds}

-- ---- no block is at the front

none-joined : {A : Type 0} (xs ys : List A) → xs ≡ [] → ys ≡ [] → (xs ++ ys) ≡ []
none-joined xs ys e k = rw (e, k) refl

none-chosen : {A : Type 0} (b : Bool) (xs : List A) → xs ≡ [] → (if b then xs else []) ≡ []
none-chosen true xs e = e
none-chosen false xs e = refl

none-flat : {A : Type 0} (f : ℕ → List A) (a n : ℕ) → ((c : ℕ) → c < a + n → f c ≡ []) → flat_map f (range_with_len a n) ≡ []
none-flat f a zero h = refl
none-flat f a (suc n) h =
    none-joined (f a) (flat_map f (range_with_len (a + 1) n)) (h a (omega arith)) (none-flat f (a + 1) n (λ c l. h c (omega arith)))

module _ (agent : Agent) (values : Values) where
  none-step : (blocks : Bool → Prog → List Reached) → ((higher : Bool) (p : Prog) → P agent p → blocks higher p ≡ []) → (higher : Bool) (l : Layer)
      → InParts agent (blockless agent) l → blocks_step agent values blocks higher l ≡ []
  none-step blocks h higher Nil x = refl
  none-step blocks h higher (Act action args) x = refl
  none-step blocks h higher (Test c) x = refl
  none-step blocks h higher (Seq p q) x =
      none-joined (blocks higher p) (if (front agent p).skip then blocks higher q else []) (h higher p x.0) (none-chosen (front agent p).skip (blocks higher q) (h higher q x.1))
  none-step blocks h higher (Choice p q) x = none-joined (blocks higher p) (blocks higher q) (h higher p x.0) (h higher q x.1)
  none-step blocks h higher (Pick v sort p) x =
      none-flat (λ c. blocks higher (put_arg p v c)) 0 (sort_size agent sort) (λ c l. h higher (put_arg p v c) (x c (omega arith)))
  none-step blocks h higher (Star p) x = h higher p x.0
  none-step blocks h higher (If c p q) x = none-joined (blocks higher p) (blocks higher q) (h higher p x.0) (h higher q x.1)
  none-step blocks h higher (While c p) x = h higher p x.0
  none-step blocks h higher (Conc p q) x = none-joined (blocks higher p) (blocks higher q) (h higher p x.0) (h higher q x.1)
  none-step blocks h higher (Prio p q) x = none-joined (blocks true p) (blocks higher q) (h true p x.0) (h higher q x.1)
  none-step blocks h higher (Cstar p) x = h higher p x.0
  none-step blocks h higher (Call item args) x = h higher (body_of agent item args) x
  none-step blocks h higher (Search depth fuel p) x = absurd x
  none-step blocks h higher (Follow depth fuel p rest) x = absurd x

  none-reached : (n : ℕ) (higher : Bool) (p : Prog) → P agent p → blocks_to agent values n higher p ≡ []
  none-reached zero higher p h = refl
  none-reached (suc n) higher p h =
      none-step (blocks_to agent values n) (none-reached n) higher (out-Prog p) (blockless_parts agent p h)

  never-among : (b : Bool) (f : Reached → Bool) (xs : List Reached) → xs ≡ [] → (b && list_any f xs) ≡ true → ⊥
  never-among true f xs e k = let d : list_any f [] ≡ true = subst (λ ys. list_any f ys ≡ true) e k in absurd (cc)
  never-among false f xs e k = absurd (cc)

  never-heavy : (p : Prog) → P agent p → heavy agent values p ≡ true → ⊥
  unfolding heavy
  never-heavy p h k =
      never-among (not (final agent values Must p)) (weighs agent values p) (front_blocks agent values p)
      (none-reached (front agent p).height false p h) k

  -- ---- what is possible is near

  near-may : (p : Prog) → not (has_block agent p) ≡ true → moves agent values Near p ≡ moves agent values May p
  near-may p h =
      blockless_steps agent values Near p h ∙ (plain_steps-ordered agent values p).near_are_possible
      ∙ sym (blockless_steps agent values May p h)

-- of these tests the one before the last is not the first that fits, where it is the opposite of a part of another
not-depth : (full unanswered unsettled comes final deep steps unquiet lacks near ends may : Bool) → near ≡ may
    → same_answer
    (first_that_fits
    ((full, Some Full) ∷ (unanswered, Some Unanswered) ∷ (unsettled, None) ∷ (comes, None) ∷ (final, Some Done) ∷ (deep, Some Deep)
    ∷ (steps, None) ∷ (unquiet, None) ∷ (lacks, Some Unanswered) ∷ (near || ends, Some Unknown) ∷ (may, Some Depth) ∷ [])
    (Some Stuck)) Depth ≡ true → ⊥
not-depth true u s c f d m q l n e y k h = absurd (cc)
not-depth false true s c f d m q l n e y k h = absurd (cc)
not-depth false false true c f d m q l n e y k h = absurd (cc)
not-depth false false false true f d m q l n e y k h = absurd (cc)
not-depth false false false false true d m q l n e y k h = absurd (cc)
not-depth false false false false false true m q l n e y k h = absurd (cc)
not-depth false false false false false false true q l n e y k h = absurd (cc)
not-depth false false false false false false false true l n e y k h = absurd (cc)
not-depth false false false false false false false false true n e y k h = absurd (cc)
not-depth false false false false false false false false false true e y k h = absurd (cc)
not-depth false false false false false false false false false false true y k h = absurd (cc)
not-depth false false false false false false false false false false false true k h = absurd (cc)
not-depth false false false false false false false false false false false false k h = absurd (cc)

module _ (agent : Agent) where
  never-depth : (journal : Journal) (values : Values) (p : Prog) → not (has_block agent p) ≡ true
      → same_answer (answer_at agent journal values p) Depth ≡ true → ⊥
  never-depth journal values p h =
      not-depth (is_full journal) (is_unanswered agent journal) (not (is_settled agent journal))
      (final agent values Must p && may_be_answered agent journal) (final agent values Must p)
      (is_deep (moves agent values Must p)) (not (is_empty (moves agent values Must p))) (not (is_quiet agent journal))
      (lacks_results agent journal) (not (is_empty (moves agent values Near p))) (final agent values Near p) (not (is_empty (moves agent values May p)))
      (ap (λ steps. not (is_empty steps)) (near-may agent values p h))

  -- the program may end so only where its steps tell it
  abbrev IsPlain : Answer → Type 0
  IsPlain a = (¬ (a ≡ Depth)) × (¬ (a ≡ Fuel))

  plain : (journal : Journal) (values : Values) (p : Prog) → not (has_block agent p) ≡ true → (a : Answer)
      → may_end agent journal values p a ≡ true → IsPlain a
  plain journal values p h Done k = ((λ e. absurd (cc)), (λ e. absurd (cc)))
  plain journal values p h Stuck k = ((λ e. absurd (cc)), (λ e. absurd (cc)))
  plain journal values p h Unknown k = ((λ e. absurd (cc)), (λ e. absurd (cc)))
  plain journal values p h Depth k = absurd (never-depth journal values p h k)
  plain journal values p h Fuel k =
      let one = and_cases (not (is_full journal) && not (is_unanswered agent journal) && is_settled agent journal) (heavy agent values p) k in
      absurd (never-heavy agent values p (not_so (has_block agent p) h) one.1)
  plain journal values p h Unanswered k = ((λ e. absurd (cc)), (λ e. absurd (cc)))
  plain journal values p h Full k = ((λ e. absurd (cc)), (λ e. absurd (cc)))
  plain journal values p h Deep k = ((λ e. absurd (cc)), (λ e. absurd (cc)))
  plain journal values p h Memory k = ((λ e. absurd (cc)), (λ e. absurd (cc)))

-- ---- an end that stands in an execution was allowed at its place

-- where an entry stands, there are those before it and those behind
pub record StandsAt (entries : Journal) (e : Entry) : Type 0 where
  pub before : Journal
  pub later : Journal
  pub is : entries ≡ before ++ e ∷ later

pub stands-at : (entries : Journal) (e : Entry) → Contains entries e → StandsAt entries e
stands-at [] e (k, l, is) = absurd (omega (arith, l))
stands-at (x ∷ entries) e (zero, l, is) = record { before = []; later = entries; is = ap (λ y. y ∷ entries) is }
stands-at (x ∷ entries) e (suc k, l, is) =
    let rest = stands-at entries e (k, omega (arith, l), is) in
    record { before = x ∷ rest.before; later = rest.later; is = ap (λ ys. x ∷ ys) rest.is }

module _ (agent : Agent) (start : Option Values) (text : Text) (status : ℕ) (run : IsOnlineRun agent start text status) where
  -- the agent that the run starts from
  abbrev own : Agent
  own = started agent start

  the-end : StandsAt run.report.entries (End run.ended.answer)
  the-end = stands-at run.report.entries (End run.ended.answer) run.ended.stands

  allowed : may_end own the-end.before (values_after own the-end.before) (left_after own the-end.before) run.ended.answer ≡ true
  allowed = (run.online.entries the-end.before (End run.ended.answer) the-end.later the-end.is).answer

-- ---- the status

status-plain : (a : Answer) → ¬ (a ≡ Depth) → ¬ (a ≡ Fuel) → (¬ (status_of a ≡ 12)) × (¬ (status_of a ≡ 13))
status-plain Done h k = ((λ e. absurd (omega arith)), (λ e. absurd (omega arith)))
status-plain Stuck h k = ((λ e. absurd (omega arith)), (λ e. absurd (omega arith)))
status-plain Unknown h k = ((λ e. absurd (omega arith)), (λ e. absurd (omega arith)))
status-plain Depth h k = absurd (h refl)
status-plain Fuel h k = absurd (k refl)
status-plain Unanswered h k = ((λ e. absurd (omega arith)), (λ e. absurd (omega arith)))
status-plain Full h k = ((λ e. absurd (omega arith)), (λ e. absurd (omega arith)))
status-plain Deep h k = ((λ e. absurd (omega arith)), (λ e. absurd (omega arith)))
status-plain Memory h k = ((λ e. absurd (omega arith)), (λ e. absurd (omega arith)))

-- an agent that starts from other values has no other blocks
same-blocks-to : (agent : Agent) (values : Values) (k : ℕ) → proc_blocks_to k (restarted agent values) ≡ proc_blocks_to k agent
same-blocks-to agent values zero = refl
same-blocks-to agent values (suc k) =
    ap (λ bs. map (λ (item : ProcItem). has_block_by bs item.body) agent.procs) (same-blocks-to agent values k)

same-blocks : (agent : Agent) (values : Values) → proc_blocks (restarted agent values) ≡ proc_blocks agent
unfolding proc_blocks
same-blocks agent values = same-blocks-to agent values (length agent.procs)

still-free : (agent : Agent) (start : Option Values) → not (has_block agent agent.main) ≡ true → not (has_block (started agent start) (started agent start).main) ≡ true
still-free agent None free = free
still-free agent (Some values) free = subst (λ bs. not (has_block_by bs agent.main) ≡ true) (sym (same-blocks agent values)) free

pub searchless : SearchlessEnds
searchless agent start text status free run =
    let own = started agent start in
    let at = (the-end agent start text status run).before in
    let p =
    plain own at (values_after own at) (left_after own at) (left_blockless own (still-free agent start free) at) run.ended.answer (allowed agent start text status run) in
    let s = status-plain run.ended.answer p.0 p.1 in
    let e = run.ended.shown in
    ((λ k. s.0 (sym e ∙ k)), (λ k. s.1 (sym e ∙ k)))

status-fuel : (a : Answer) → 13 ≡ status_of a → a ≡ Fuel
status-fuel Done e = absurd (omega (arith, e))
status-fuel Stuck e = absurd (omega (arith, e))
status-fuel Unknown e = absurd (omega (arith, e))
status-fuel Depth e = absurd (omega (arith, e))
status-fuel Fuel e = refl
status-fuel Unanswered e = absurd (omega (arith, e))
status-fuel Full e = absurd (omega (arith, e))
status-fuel Deep e = absurd (omega (arith, e))
status-fuel Memory e = absurd (omega (arith, e))

-- where fuel was wanted the program is heavy
pub fuel-heavy : FuelIsHeavy
fuel-heavy agent start text run =
    let own = started agent start in
    let end = the-end agent start text 13 run in
    let fuel = status-fuel run.ended.answer run.ended.shown in
    let may = subst (λ a. may_end own end.before (values_after own end.before) (left_after own end.before) a ≡ true) fuel (allowed agent start text 13 run) in
    record {
      before = end.before;
      later = end.later;
      is = end.is ∙ ap (λ a. end.before ++ End a ∷ end.later) fuel;
      weighs =
          (and_cases (not (is_full end.before) && not (is_unanswered own end.before) && is_settled own end.before)
          (heavy own (values_after own end.before) (left_after own end.before)) may).1;
    }
