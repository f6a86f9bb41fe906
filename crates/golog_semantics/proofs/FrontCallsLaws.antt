-- The procedures that a program may call without a step, as a list and as a test.
use Rattle.std.proofs.Common.{◌≡◌, inl, inr, ℕ, zero, suc, Bool, true, false, ◌&&◌, ◌||◌, if◌then◌else◌, List, [], ◌∷◌, ◌++◌, map, Option, Some, None, refl, sym, subst, arith}
use Rattle.std.specs.Prelude.{Contains, slice_get}
use Rattle.std.proofs.lemmas.Bool.{eqb-true, eq-eqb}
use Rattle.std.proofs.lemmas.List.Elements.{Contains-append_left, Contains-append_right, Contains-append_cases}
use Rattle.golog_tree.specs.declared.agent.Agent.{Agent}
use Rattle.golog_tree.specs.declared.agent.ProcItem.{ProcItem}
use Rattle.golog_tree.specs.declared.prog.Prog.{Prog}
use Rattle.golog_tree.specs.declared.prog.Prog.TheOpen.{Prog-F, Nil, Act, Test, Seq, Choice, Pick, Star, If, While, Conc, Prio, Cstar, Call, Search, Follow}
use Rattle.golog_semantics.specs.Guarded.{Front, no_front, proc_fronts}
use Rattle.golog_semantics.specs.FrontCalls.{Calling, calling, calling_step, body_calls, directly, through, Reaches}
use Rattle.golog_semantics.specs.StepLaws.{GuardedIsUnreached}
use Rattle.golog_semantics.proofs.Reach.{Fore, calls_from, fore, fore_by, fore_step, no_call, IsPath, PathTo}
use Rattle.golog_semantics.proofs.FoldsRelated.{Leaf, free, Answers, Trio, WayAnswers, folds_related, ones, twos}
use Rattle.golog_semantics.proofs.SkipRounds.{skipped-front}
use Rattle.golog_semantics.proofs.GuardedReach.{all_skips, guarded_without_path, no_path}
use Rattle.golog_semantics.proofs.Tests.{or_cases, or_first, or_second}

contains-one : (item other : ℕ) → Contains (item ∷ []) other → item ≡ other
contains-one item other (zero, l, e) = e
contains-one item other (suc k, l, e) = absurd (omega arith)

contains-none : (other : ℕ) → ¬ Contains [] other
contains-none other h = omega arith

module _ (fs : List Front) where
  abbrev skips : List Bool
  skips = map (λ (f : Front). f.skip) fs

  -- the list has exactly what passes the test
  pub record Listed (p : Calling) (q : Fore) (r : Leaf) : Type 0 where
    pub alike : p.front.skip ≡ q.skip
    pub to_list : (item : ℕ) → q.calls item ≡ true → Contains p.calls item
    pub from_list : (item : ℕ) → Contains p.calls item → q.calls item ≡ true

  abbrev One : Type 0
  One = Trio Calling Fore Leaf Listed

  pair_to : (p q : One) (item : ℕ) → (p.two.calls item || q.two.calls item) ≡ true → Contains (p.one.calls ++ q.one.calls) item
  pair_to p q item e =
      elim (or_cases (p.two.calls item) (q.two.calls item) e) [
        | inl h ↦ Contains-append_left p.one.calls q.one.calls item (p.related.to_list item h)
        | inr h ↦ Contains-append_right p.one.calls q.one.calls item (q.related.to_list item h)
      ]

  pair_from : (p q : One) (item : ℕ) → Contains (p.one.calls ++ q.one.calls) item → (p.two.calls item || q.two.calls item) ≡ true
  pair_from p q item h =
      elim (Contains-append_cases p.one.calls q.one.calls item h) [
        | inl k ↦ or_first (p.two.calls item) (q.two.calls item) (p.related.from_list item k)
        | inr k ↦ or_second (p.two.calls item) (q.two.calls item) (q.related.from_list item k)
      ]

  only_to : (a b c : Bool) (xs : List ℕ) (item : ℕ) → a ≡ b → (c ≡ true → Contains xs item) → (b && c) ≡ true → Contains (if a then xs else []) item
  only_to true b true xs item e h k = h refl
  only_to true b false xs item e h k = h (let f : b ≡ true = sym e in subst (λ d. (d && false) ≡ true) f k)
  only_to false b c xs item e h k = absurd (let f = subst (λ d. (d && c) ≡ true) (sym e) k in cc)

  only_from : (a b c : Bool) (xs : List ℕ) (item : ℕ) → a ≡ b → (Contains xs item → c ≡ true) → Contains (if a then xs else []) item → (b && c) ≡ true
  only_from true b c xs item e h k = subst (λ d. (d && c) ≡ true) e (h k)
  only_from false b c xs item e h k = absurd (contains-none item k)

  seq_to : (p q : One) (item : ℕ) → (p.two.calls item || (p.two.skip && q.two.calls item)) ≡ true → Contains (p.one.calls ++ (if p.one.front.skip then q.one.calls else [])) item
  seq_to p q item e =
      elim (or_cases (p.two.calls item) (p.two.skip && q.two.calls item) e) [
        | inl h ↦ Contains-append_left p.one.calls (if p.one.front.skip then q.one.calls else []) item (p.related.to_list item h)
        | inr h ↦
            Contains-append_right p.one.calls (if p.one.front.skip then q.one.calls else []) item
            (only_to p.one.front.skip p.two.skip (q.two.calls item) q.one.calls item p.related.alike (q.related.to_list item) h)
      ]

  seq_from : (p q : One) (item : ℕ) → Contains (p.one.calls ++ (if p.one.front.skip then q.one.calls else [])) item → (p.two.calls item || (p.two.skip && q.two.calls item)) ≡ true
  seq_from p q item h =
      elim (Contains-append_cases p.one.calls (if p.one.front.skip then q.one.calls else []) item h) [
        | inl k ↦ or_first (p.two.calls item) (p.two.skip && q.two.calls item) (p.related.from_list item k)
        | inr k ↦
            or_second (p.two.calls item) (p.two.skip && q.two.calls item)
            (only_from p.one.front.skip p.two.skip (q.two.calls item) q.one.calls item p.related.alike (q.related.from_list item) k)
      ]

  abbrev Y : Type 0
  Y = Prog-F (Answers Calling Fore Leaf Calling Fore Leaf Listed free) (WayAnswers Calling Fore Leaf Calling Fore Leaf Listed free)

  listed_step : (y : Y) → Listed (calling_step fs (ones Calling Fore Leaf Calling Fore Leaf Listed free y)) (fore_step skips (twos Calling Fore Leaf Calling Fore Leaf Listed free y)) tt
  listed_step Nil = record { alike = refl; to_list = λ item e. absurd (cc); from_list = λ item h. absurd (contains-none item h) }
  listed_step (Act action args) = record { alike = refl; to_list = λ item e. absurd (cc); from_list = λ item h. absurd (contains-none item h) }
  listed_step (Test c) = record { alike = refl; to_list = λ item e. absurd (cc); from_list = λ item h. absurd (contains-none item h) }
  listed_step (Seq p q) = record { alike = (let h = p.related.alike in let k = q.related.alike in cc); to_list = seq_to p q; from_list = seq_from p q }
  listed_step (Choice p q) = record { alike = (let h = p.related.alike in let k = q.related.alike in cc); to_list = pair_to p q; from_list = pair_from p q }
  listed_step (Pick x sort p) = record { alike = p.related.alike; to_list = p.related.to_list; from_list = p.related.from_list }
  listed_step (Star p) = record { alike = refl; to_list = p.related.to_list; from_list = p.related.from_list }
  listed_step (If c p q) = record { alike = (let h = p.related.alike in let k = q.related.alike in cc); to_list = pair_to p q; from_list = pair_from p q }
  listed_step (While c p) = record { alike = refl; to_list = p.related.to_list; from_list = p.related.from_list }
  listed_step (Conc p q) = record { alike = (let h = p.related.alike in let k = q.related.alike in cc); to_list = pair_to p q; from_list = pair_from p q }
  listed_step (Prio p q) = record { alike = (let h = p.related.alike in let k = q.related.alike in cc); to_list = pair_to p q; from_list = pair_from p q }
  listed_step (Cstar p) = record { alike = refl; to_list = p.related.to_list; from_list = p.related.from_list }
  listed_step (Call item args) = record {
    alike = skipped-front fs item;
    to_list = λ other e. (0, omega arith, sym (eqb-true other item e));
    from_list = λ other h. eq-eqb other item (sym (contains-one item other h));
  }
  listed_step (Search depth fuel p) = record { alike = p.related.alike; to_list = p.related.to_list; from_list = p.related.from_list }
  listed_step (Follow depth fuel p rest) = record { alike = p.related.alike; to_list = p.related.to_list; from_list = p.related.from_list }

  listed : (p : Prog) → Listed (calling fs p) (fore_by skips p) tt
  listed =
      folds_related Calling Fore Leaf Calling Fore Leaf Listed free (calling_step fs) (λ w. record { front = no_front; calls = [] }) (fore_step skips) (λ w. no_call false)
      (λ y. tt) (λ w. tt) (record { of_layer = listed_step; of_way = λ a b c label h. tt })

module _ (agent : Agent) where
  listed_in : (p : Prog) → Listed (proc_fronts agent) (calling (proc_fronts agent) p) (fore agent p) tt
  listed_in p = subst (λ bs. Listed (proc_fronts agent) (calling (proc_fronts agent) p) (fore_by bs p) tt) (all_skips agent) (listed (proc_fronts agent) p)

  body_to : (o : Option ProcItem) (to : ℕ) → calls_from agent o to ≡ true → Contains (body_calls agent o) to
  body_to None to e = absurd (cc)
  body_to (Some item) to e = (listed_in item.body).to_list to e

  body_from : (o : Option ProcItem) (to : ℕ) → Contains (body_calls agent o) to → calls_from agent o to ≡ true
  body_from None to h = absurd (contains-none to h)
  body_from (Some item) to h = (listed_in item.body).from_list to h

  path_reaches : (path : List ℕ) (at to : ℕ) → IsPath agent at path to → Reaches agent to at
  path_reaches [] at to h = directly at (body_to (slice_get agent.procs at) to h)
  path_reaches (via ∷ path) at to h = through at via (body_to (slice_get agent.procs at) via h.0) (path_reaches path via to h.1)

  reaches_path : (to at : ℕ) → Reaches agent to at → PathTo agent at to
  reaches_path to at (directly p h) = ([], body_from (slice_get agent.procs p) to h)
  reaches_path to at (through p r h k) = let rest = reaches_path to r k in (r ∷ rest.0, (body_from (slice_get agent.procs p) r h, rest.1))

  pub guarded_is_unreached : GuardedIsUnreached agent
  guarded_is_unreached = record {
    none_reaches = λ g item r. no_path agent g item (reaches_path item item r);
    is_guarded = λ none. guarded_without_path agent (λ item r. none item (path_reaches r.0 item item r.1));
  }
