-- Steps of a world that lead to an end are seen by each search: as a near run, or as something unseen.
use Rattle.std.proofs.Common.{◌≡◌, inl, inr, ℕ, zero, suc, ◌≤◌, Bool, true, false, ◌&&◌, ◌||◌, if◌then◌else◌, List, [], ◌∷◌, map, refl, sym, ap, ◌∙◌, subst, arith}
use Rattle.std.specs.Prelude.{not, filter}
use Rattle.std.specs.List.{list_any, range_with_len}
use Rattle.golog_tree.specs.declared.agent.Agent.{Agent}
use Rattle.golog_tree.specs.declared.prog.Label.{Label}
use Rattle.golog_tree.specs.declared.prog.Prog.{Prog}
use Rattle.golog_tree.specs.declared.prog.Prog.TheVariants as prog
use Rattle.golog_tree.specs.declared.prog.Way.{Way}
use Rattle.golog_semantics.specs.declared.Mode.TheVariants.{Near, May}
use Rattle.golog_semantics.specs.Truth.{Values}
use Rattle.golog_semantics.specs.Values.{after}
use Rattle.golog_semantics.specs.Ways.{is_empty, plain_move, way_of}
use Rattle.golog_semantics.specs.Search.{Run, final, is_followed, moves_with, no_blocks, plain_ways, runs}
use Rattle.golog_semantics.specs.Moves.{plain_moves}
use Rattle.golog_semantics.specs.Blocks.{begins_run, block_moves, has_path, is_cut, leaves_unseen, may_succeed, meets_cut}
use Rattle.golog_semantics.specs.Guarded.{IsGuarded}
use Rattle.golog_semantics.specs.Trans.{Leads, LeadsIn, PlainTrans}
use Rattle.golog_semantics.specs.World.{Refines}
use Rattle.golog_certain.specs.SearchLaws.{BlockMayStep, HasNearRun, IsFoundOrCut}
use Rattle.golog_semantics.proofs.Among.{Among, among-contains, any-among, contains-among, filter-among, map-among}
use Rattle.golog_semantics.proofs.ModesOrdered.{final-may_near}
use Rattle.golog_semantics.proofs.StepsInModes.{plain_steps-ordered}
use Rattle.golog_semantics.proofs.Tests.{and_both, or_cases, or_first, or_second}
use Rattle.golog_certain.proofs.CertainRuns.{more_runs}
use Rattle.golog_certain.proofs.Members.{among-range, not_empty}
use Rattle.golog_certain.proofs.RunsStay.{steps_keep}
use Rattle.golog_certain.proofs.PlainSteps.{plain_steps_so}

some_run : (rs : List Run) → not (is_empty rs) ≡ true → (run : Run) × Among rs run
some_run [] h = absurd (cc)
some_run (r ∷ rs) h = (r, inl refl)

if_final : (b : Bool) → b ≡ true → not (is_empty {A = Run} (if b then [] ∷ [] else [])) ≡ true
if_final true e = refl
if_final false e = absurd (cc)

not_false : (b : Bool) → b ≡ false → not b ≡ true
not_false b e = ap not e

module _ (agent : Agent) where
  end_run : (values : Values) (p : Prog) → final agent values Near p ≡ true → not (is_empty (runs agent Near zero p values)) ≡ true
  unfolding runs
  end_run values p h = if_final (final agent values Near p) h

  module _ (values : Values) (p : Prog) (w : Way) (among : Among (plain_ways agent values Near p) w) where
    abbrev next : Values
    next = after agent values w.label

    longer_run : (k : ℕ) → is_followed w ≡ true → HasNearRun agent next k w.left → HasNearRun agent values (suc k) p
    longer_run k e r =
        let run = some_run (runs agent Near r.size w.left next) r.found in
        record {
          size = suc r.size;
          within = (let l = r.within in omega arith);
          found = ap not (not_empty (runs agent Near (suc r.size) p values) (w ∷ run.0) (more_runs agent Near r.size p values w run.0 among e run.1));
        }

    -- a way that is not followed is cut
    cut_here : (k : ℕ) → is_followed w ≡ false → is_cut agent Near (suc k) p values ≡ true
    cut_here k e =
        or_second (has_path agent Near (suc k) p values) (meets_cut agent Near (suc k) p values)
        (any-among (λ v. not (is_followed v) || meets_cut agent Near k v.left (after agent values v.label)) (plain_ways agent values Near p) w among
        (or_first (not (is_followed w)) (meets_cut agent Near k w.left next) (not_false (is_followed w) e)))

    cut_later : (k : ℕ) → is_followed w ≡ true → is_cut agent Near k w.left next ≡ true → is_cut agent Near (suc k) p values ≡ true
    cut_later k e h =
        elim (or_cases (has_path agent Near k w.left next) (meets_cut agent Near k w.left next) h) [
          | inl a ↦ or_first (has_path agent Near (suc k) p values) (meets_cut agent Near (suc k) p values)
              (any-among (λ v. is_followed v && has_path agent Near k v.left (after agent values v.label)) (plain_ways agent values Near p) w among
              (and_both (is_followed w) (has_path agent Near k w.left next) e a))
          | inr a ↦ or_second (has_path agent Near (suc k) p values) (meets_cut agent Near (suc k) p values)
              (any-among (λ v. not (is_followed v) || meets_cut agent Near k v.left (after agent values v.label)) (plain_ways agent values Near p) w among
              (or_second (not (is_followed w)) (meets_cut agent Near k w.left next) a))
        ]

    seen_later : (k : ℕ) (b : Bool) → is_followed w ≡ b → IsFoundOrCut agent next k w.left → IsFoundOrCut agent values (suc k) p
    seen_later k false e s = inr (cut_here k e)
    seen_later k true e (inl r) = inl (longer_run k e r)
    seen_later k true e (inr h) = inr (cut_later k e h)

    -- a run may begin with a way after which the search sees an end, or is cut
    succeeds : (d : ℕ) (b : Bool) → is_followed w ≡ b → IsFoundOrCut agent next d w.left → may_succeed agent values (suc d) w ≡ true
    succeeds d false e s =
        or_first (begins_run agent values (suc d) w || not (is_followed w)) (leaves_unseen agent (suc d) w next)
        (or_second (begins_run agent values (suc d) w) (not (is_followed w)) (not_false (is_followed w) e))
    succeeds d true e (inl r) =
        let has_run = λ (n : ℕ). not (is_empty (runs agent Near n w.left next)) in
        or_first (begins_run agent values (suc d) w || not (is_followed w)) (leaves_unseen agent (suc d) w next)
        (or_first (begins_run agent values (suc d) w) (not (is_followed w))
        (and_both (is_followed w) (list_any has_run (range_with_len 0 (suc d))) e
        (any-among has_run (range_with_len 0 (suc d)) r.size (among-range 0 (suc d) r.size (omega arith) (let l = r.within in omega arith)) r.found)))
    succeeds d true e (inr h) =
        or_second (begins_run agent values (suc d) w || not (is_followed w)) (leaves_unseen agent (suc d) w next)
        (and_both (is_followed w) (is_cut agent Near d w.left next) e h)

  module _ (g : IsGuarded agent) where
    -- a step without blocks of the world is a near way
    near_way : (values world : Values) → Refines values world → (p : Prog) (label : Label) (left : Prog)
        → PlainTrans agent world p label left → Among (plain_ways agent values Near p) (record { label = label; left = left })
    unfolding plain_ways plain_moves
    near_way values world r p label left t =
        let s = (plain_steps_so agent g values world r p).possible label left t in
        let a = among-contains (moves_with agent no_blocks values May p) s.step s.among in
        let b = subst (λ ms. Among ms s.step) (sym (plain_steps-ordered agent values p).near_are_possible) a in
        subst (Among (map way_of (moves_with agent no_blocks values Near p))) (λ i. record { label = s.label_same i; left = s.left_same i })
        (map-among way_of (moves_with agent no_blocks values Near p) s.step b)

    pub found_or_cut : (most steps : ℕ) (p : Prog) (values world : Values) → Refines values world → LeadsIn agent steps p world → IsFoundOrCut agent values most p
    found_or_cut zero steps p values world r l = inr refl
    found_or_cut (suc k) zero p values world r l =
        let e = sym (final-may_near agent values p) ∙ (plain_steps_so agent g values world r p).possible_end l in
        inl (record { size = zero; within = omega arith; found = end_run values p e })
    found_or_cut (suc k) (suc n) p values world r l =
        let w : Way = record { label = l.0; left = l.1 } in
        seen_later values p w (near_way values world r p l.0 l.1 l.2) k (is_followed w) refl
        (found_or_cut k n l.1 (after agent values l.0) (after agent world l.0) (steps_keep agent l.0 values world r) l.3)

    pub block_possible : (values world : Values) → Refines values world → (depth fuel : ℕ) → 1 ≤ depth → (body : Prog) (rest : Run) (label : Label) (left : Prog)
        → PlainTrans agent world body label left → Leads agent left (after agent world label) → BlockMayStep agent values depth fuel body rest label left
    block_possible values world r zero fuel d body rest label left t l = absurd (omega arith)
    block_possible values world r (suc k) fuel d body rest label left t l =
        let w : Way = record { label = label; left = left } in
        let a = near_way values world r body label left t in
        let s = succeeds values body w a k (is_followed w) refl (found_or_cut k l.0 left (after agent values label) (after agent world label) (steps_keep agent label values world r) l.1) in
        let step = plain_move label (prog.Follow (suc k) fuel left []) in
        record {
          step = step;
          among = contains-among (block_moves agent values May (suc k) fuel body rest) step
              (map-among (λ (v : Way). plain_move v.label (prog.Follow (suc k) fuel v.left [])) (filter (may_succeed agent values (suc k)) (plain_ways agent values Near body)) w
              (filter-among (may_succeed agent values (suc k)) (plain_ways agent values Near body) w a s));
          label_same = refl;
          left_same = refl;
        }
