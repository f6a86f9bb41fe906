-- The condition under which a program may end, by those of its parts.
use Rattle.std.proofs.Common.{◌≡◌, ℕ, ◌+◌, Bool, true, false, ◌&&◌, ◌||◌, List, [], ◌∷◌, ◌++◌, map, refl, sym, ap, ◌∙◌, subst, arith}
use Rattle.std.specs.Prelude.{Result, Ok, Err, IfOk}
use Rattle.std.specs.List.{list_all, list_any, range_with_len}
use Rattle.std.proofs.lemmas.List.Folds.{list_any-append}
use Rattle.std.proofs.lemmas.List.FromFn.{map-range_with_len_more}
use Rattle.golog_base.proofs.Bools.{and-true, or-false}
use Rattle.golog_tree.specs.declared.agent.Agent.{Agent}
use Rattle.golog_tree.specs.declared.cond.Arg.{Arg}
use Rattle.golog_tree.specs.declared.cond.Cond.{Cond}
use Rattle.golog_tree.specs.declared.cond.Cond.TheVariants as cond
use Rattle.golog_tree.specs.declared.cond.Truth.{Truth}
use Rattle.golog_tree.specs.declared.cond.Truth.TheVariants.{Yes}
use Rattle.golog_tree.specs.declared.prog.Prog.{Prog}
use Rattle.golog_tree.specs.declared.prog.Way.{Way}
use Rattle.golog_tree.specs.declared.prog.Prog.TheOpen.{Nil, Act, Test, Seq, Choice, Pick, Star, If, While, Conc, Prio, Cstar, Call, Search, Follow}
use Rattle.golog_tree.specs.declared.prog.Prog.TheVariants as prog
use Rattle.golog_tree.specs.Ground.{sort_size}
use Rattle.golog_semantics.specs.declared.Mode.{Mode}
use Rattle.golog_semantics.specs.Modes.{holds}
use Rattle.golog_semantics.specs.Truth.{Env, Values, both, cond_step, env_of, or_of, term_step, truth_of}
use Rattle.golog_semantics.specs.Program.{put_arg, body_of}
use Rattle.golog_semantics.specs.Search.{final}
use Rattle.golog_semantics.specs.Ways.{is_so, is_not}
use Rattle.golog_semantics.specs.Guarded.{IsGuarded, front}
use Rattle.golog_semantics.specs.Fronts.{IsEnd}
use Rattle.golog_fronts.specs.Ends.{AreEnds, IsClosedEnd}
use Rattle.golog_semantics.proofs.CondByParts.{fold-and, fold-not, fold-or, fold-truth}
use Rattle.golog_semantics.proofs.Unfolded.{final-skips}
use Rattle.golog_fronts.proofs.ClosedConds.{fits, fits-both, fits-either, fits-more, fits-not, fits-or, fits-truth}
use Rattle.golog_fronts.proofs.Steps.{final-by}
use Rattle.golog_semantics.proofs.FrontLaws.{holds-both, holds-either, holds-yes, holds-no}

map-map : {A B D : Type 0} (f : A → B) (g : B → D) (xs : List A) → map g (map f xs) ≡ map (λ x. g (f x)) xs
map-map f g [] = refl
map-map f g (x ∷ xs) = ap (λ ys. g (f x) ∷ ys) (map-map f g xs)

-- one more number of a range
map-id : {A : Type 0} (xs : List A) → map (λ x. x) xs ≡ xs
map-id [] = refl
map-id (x ∷ xs) = ap (λ ys. x ∷ ys) (map-id xs)

pub range-more : (i : ℕ) → range_with_len 0 (i + 1) ≡ range_with_len 0 i ++ i ∷ []
range-more i =
    sym (map-id (range_with_len 0 (i + 1))) ∙ map-range_with_len_more (λ n. n) 0 i i (omega arith)
    ∙ ap (λ ns. ns ++ i ∷ []) (map-id (range_with_len 0 i))

-- when conditions put together hold
module _ (agent : Agent) (values : Values) (m : Mode) where
  abbrev so : Cond → Bool
  so = is_so agent values m

  abbrev TC : Type 0
  TC = Env → Truth

  abbrev TT : Type 0
  TT = Env → ℕ

  abbrev at : (Env → Truth) → Truth
  at f = f (env_of [])

  pub so-truth : (b : Bool) → so (cond.Truth b) ≡ b
  so-truth true = ap (λ (f : TC). holds m (at f)) (fold-truth TC TT (cond_step agent values) (term_step agent values) true) ∙ holds-yes m
  so-truth false = ap (λ (f : TC). holds m (at f)) (fold-truth TC TT (cond_step agent values) (term_step agent values) false) ∙ holds-no m

  pub so-not : (c : Cond) → so (cond.Not c) ≡ is_not agent values m c
  so-not c = ap (λ (f : TC). holds m (at f)) (fold-not TC TT (cond_step agent values) (term_step agent values) c)

  or_all : (cs : List Cond) → holds m (or_of (map (λ (f : TC). at f) (map (truth_of agent values) cs))) ≡ list_any so cs
  or_all [] = holds-no m
  or_all (c ∷ cs) =
      holds-either m (truth_of agent values c (env_of [])) (or_of (map (λ (f : TC). at f) (map (truth_of agent values) cs)))
      ∙ ap (λ b. so c || b) (or_all cs)

  pub so-or : (cs : List Cond) → so (cond.Or cs) ≡ list_any so cs
  so-or cs = ap (λ (f : TC). holds m (at f)) (fold-or TC TT (cond_step agent values) (term_step agent values) cs) ∙ or_all cs

  pub so-either : (c d : Cond) → so (cond.Or (c ∷ d ∷ [])) ≡ (so c || so d)
  so-either c d = so-or (c ∷ d ∷ []) ∙ ap (λ b. so c || b) (or-false (so d))

  pub so-both : (c d : Cond) → so (cond.And (c ∷ d ∷ [])) ≡ (so c && so d)
  so-both c d =
      ap (λ (f : TC). holds m (at f)) (fold-and TC TT (cond_step agent values) (term_step agent values) (c ∷ d ∷ []))
      ∙ holds-both m (truth_of agent values c (env_of [])) (both (truth_of agent values d (env_of [])) Yes)
      ∙ ap (λ b. so c && b) (holds-both m (truth_of agent values d (env_of [])) Yes ∙ ap (λ b. so d && b) (holds-yes m) ∙ and-true (so d))

module _ (agent : Agent) (g : IsGuarded agent) where
  abbrev End : Prog → Cond → Type 0
  End = IsClosedEnd agent

  pub nil_end : End prog.Nil (cond.Truth true)
  nil_end = record {
    end = record { final = λ m v. so-truth agent v m true ∙ sym (final-by agent v g m prog.Nil Nil prog.outs-Nil) };
    closed = fits-truth agent true;
  }

  pub act_end : (action : ℕ) (args : List Arg) → End (prog.Act action args) (cond.Truth false)
  act_end action args = record {
    end = record { final = λ m v. so-truth agent v m false ∙ sym (final-by agent v g m (prog.Act action args) (Act action args) (prog.outs-Act action args)) };
    closed = fits-truth agent false;
  }

  pub test_end : (c : Cond) → End (prog.Test c) (cond.Truth false)
  test_end c = record {
    end = record { final = λ m v. so-truth agent v m false ∙ sym (final-by agent v g m (prog.Test c) (Test c) (prog.outs-Test c)) };
    closed = fits-truth agent false;
  }

  pub star_end : (p : Prog) → End (prog.Star p) (cond.Truth true)
  star_end p = record {
    end = record { final = λ m v. so-truth agent v m true ∙ sym (final-by agent v g m (prog.Star p) (Star p) (prog.outs-Star p)) };
    closed = fits-truth agent true;
  }

  pub cstar_end : (p : Prog) → End (prog.Cstar p) (cond.Truth true)
  cstar_end p = record {
    end = record { final = λ m v. so-truth agent v m true ∙ sym (final-by agent v g m (prog.Cstar p) (Cstar p) (prog.outs-Cstar p)) };
    closed = fits-truth agent true;
  }

  -- where the first part never ends without a step
  pub seq_end_barred : (p q : Prog) → (front agent p).skip ≡ false → End (prog.Seq p q) (cond.Truth false)
  seq_end_barred p q s = record {
    end = record {
      final = λ m v.
          so-truth agent v m false ∙ sym (final-by agent v g m (prog.Seq p q) (Seq p q) (prog.outs-Seq p q)
          ∙ ap (λ b. b && final agent v m q) (never m v (final agent v m p) refl));
    };
    closed = fits-truth agent false;
  }
    where
      never : (m : Mode) (v : Values) (b : Bool) → final agent v m p ≡ b → final agent v m p ≡ false
      never m v true e = let k = final-skips agent v g m p e in absurd (cc (k, s))
      never m v false e = e

  module _ (p q : Prog) (c d : Cond) (one : End p c) (other : End q d) where
    both_end : (m : Mode) (v : Values) → is_so agent v m (cond.And (c ∷ d ∷ [])) ≡ (final agent v m p && final agent v m q)
    both_end m v = let e = one.end.final m v in let f = other.end.final m v in so-both agent v m c d ∙ (rw (e, f) refl)

    -- a program that may end exactly where both may
    as_both : (r : Prog) → ((m : Mode) (v : Values) → (final agent v m p && final agent v m q) ≡ final agent v m r) → End r (cond.And (c ∷ d ∷ []))
    as_both r h = record { end = record { final = λ m v. both_end m v ∙ h m v }; closed = fits-both agent c d one.closed other.closed }

    pub seq_end : End (prog.Seq p q) (cond.And (c ∷ d ∷ []))
    seq_end = as_both (prog.Seq p q) (λ m v. sym (final-by agent v g m (prog.Seq p q) (Seq p q) (prog.outs-Seq p q)))

    pub conc_end : End (prog.Conc p q) (cond.And (c ∷ d ∷ []))
    conc_end = as_both (prog.Conc p q) (λ m v. sym (final-by agent v g m (prog.Conc p q) (Conc p q) (prog.outs-Conc p q)))

    pub prio_end : End (prog.Prio p q) (cond.And (c ∷ d ∷ []))
    prio_end = as_both (prog.Prio p q) (λ m v. sym (final-by agent v g m (prog.Prio p q) (Prio p q) (prog.outs-Prio p q)))

    pub choice_end : End (prog.Choice p q) (cond.Or (c ∷ d ∷ []))
    choice_end = record {
      end = record {
        final = λ m v.
            let e = one.end.final m v in let f = other.end.final m v in
            so-either agent v m c d ∙ (rw (e, f) refl) ∙ sym (final-by agent v g m (prog.Choice p q) (Choice p q) (prog.outs-Choice p q));
      };
      closed = fits-either agent c d one.closed other.closed;
    }

    pub if_end : (t : Cond) → fits agent t ≡ true → End (prog.If t p q) (cond.Or (cond.And (t ∷ c ∷ []) ∷ cond.And (cond.Not t ∷ d ∷ []) ∷ []))
    if_end t k = record {
      end = record {
        final = λ m v.
            let e = one.end.final m v in let f = other.end.final m v in
            so-either agent v m (cond.And (t ∷ c ∷ [])) (cond.And (cond.Not t ∷ d ∷ []))
            ∙ ap (λ b. b || is_so agent v m (cond.And (cond.Not t ∷ d ∷ []))) (so-both agent v m t c)
            ∙ ap (λ b. (is_so agent v m t && is_so agent v m c) || b) (so-both agent v m (cond.Not t) d ∙ ap (λ b. b && is_so agent v m d) (so-not agent v m t))
            ∙ (rw (e, f) refl) ∙ sym (final-by agent v g m (prog.If t p q) (If t p q) (prog.outs-If t p q));
      };
      closed = fits-either agent (cond.And (t ∷ c ∷ [])) (cond.And (cond.Not t ∷ d ∷ [])) (fits-both agent t c k one.closed) (fits-both agent (cond.Not t) d (fits-not agent t k) other.closed);
    }

  pub while_end : (t : Cond) → fits agent t ≡ true → (p : Prog) (c : Cond) → End p c → End (prog.While t p) (cond.Or (cond.Not t ∷ c ∷ []))
  while_end t k p c h = record {
    end = record {
      final = λ m v.
          let e = h.end.final m v in
          so-either agent v m (cond.Not t) c ∙ ap (λ b. b || is_so agent v m c) (so-not agent v m t)
          ∙ (rw e refl) ∙ sym (final-by agent v g m (prog.While t p) (While t p) (prog.outs-While t p));
    };
    closed = fits-either agent (cond.Not t) c (fits-not agent t k) h.closed;
  }

  pub search_end : (depth fuel : ℕ) (p : Prog) (c : Cond) → End p c → End (prog.Search depth fuel p) c
  search_end depth fuel p c h = record {
    end = record { final = λ m v. h.end.final m v ∙ sym (final-by agent v g m (prog.Search depth fuel p) (Search depth fuel p) (prog.outs-Search depth fuel p)) };
    closed = h.closed;
  }

  pub follow_end : (depth fuel : ℕ) (p : Prog) (rest : List Way) (c : Cond) → End p c → End (prog.Follow depth fuel p rest) c
  follow_end depth fuel p rest c h = record {
    end = record { final = λ m v. h.end.final m v ∙ sym (final-by agent v g m (prog.Follow depth fuel p rest) (Follow depth fuel p rest) (prog.outs-Follow depth fuel p rest)) };
    closed = h.closed;
  }

  pub call_end : (item : ℕ) (args : List Arg) (c : Cond) → End (body_of agent item args) c → End (prog.Call item args) c
  call_end item args c h = record {
    end = record { final = λ m v. h.end.final m v ∙ sym (final-by agent v g m (prog.Call item args) (Call item args) (prog.outs-Call item args)) };
    closed = h.closed;
  }

module _ (agent : Agent) (x sort : ℕ) (p : Prog) where
  -- the conditions for the constants before this one
  pub record EndsSoFar (i : ℕ) (cs : List Cond) : Type 0 where
    pub ends : (m : Mode) (v : Values) → list_any (is_so agent v m) cs ≡ list_any (λ c. final agent v m (put_arg p x c)) (range_with_len 0 i)
    pub closed : list_all (fits agent) cs ≡ true

  pub no_ends : EndsSoFar 0 []
  no_ends = record { ends = λ m v. refl; closed = refl }

  pub more_ends : (i : ℕ) (cs : List Cond) (c : Cond) → IsClosedEnd agent (put_arg p x i) c → EndsSoFar i cs → EndsSoFar (i + 1) (cs ++ c ∷ [])
  more_ends i cs c h s = record {
    ends = λ m v.
        list_any-append (is_so agent v m) cs (c ∷ []) ∙ ap (λ b. b || list_any (is_so agent v m) (c ∷ [])) (s.ends m v)
        ∙ ap (λ b. list_any (λ k. final agent v m (put_arg p x k)) (range_with_len 0 i) || (b || false)) (h.end.final m v)
        ∙ sym (ap (list_any (λ k. final agent v m (put_arg p x k))) (range-more i) ∙ list_any-append (λ k. final agent v m (put_arg p x k)) (range_with_len 0 i) (i ∷ []));
    closed = fits-more agent cs c s.closed h.closed;
  }

  pub pick_end : IsGuarded agent → (i : ℕ) (cs : List Cond) → i ≡ sort_size agent sort → EndsSoFar i cs → IsClosedEnd agent (prog.Pick x sort p) (cond.Or cs)
  pick_end g i cs e s = record {
    end = record {
      final = λ m v.
          so-or agent v m cs ∙ s.ends m v ∙ ap (λ n. list_any (λ k. final agent v m (put_arg p x k)) (range_with_len 0 n)) e
          ∙ sym (final-by agent v g m (prog.Pick x sort p) (Pick x sort p) (prog.outs-Pick x sort p));
    };
    closed = fits-or agent cs s.closed;
  }

-- what a call gives, where its result is told by an equation
pub end_gives : {E : Type 0} (agent : Agent) (r : Prog) (d : Cond) (result : Result Cond E) → IfOk result (λ c. c ≡ d) → IsClosedEnd agent r d → IfOk result (IsClosedEnd agent r)
end_gives agent r d (Ok c) h k = subst (λ (z : Cond). IsClosedEnd agent r z) (sym h) k
end_gives agent r d (Err e) h k = h

-- the same of an end of another program
pub end_of_too : {E : Type 0} (agent : Agent) (r q : Prog) (result : Result Cond E) → ((c : Cond) → IsClosedEnd agent q c → IsClosedEnd agent r c) → IfOk result (IsClosedEnd agent q) → IfOk result (IsClosedEnd agent r)
end_of_too agent r q (Ok c) f h = f c h
end_of_too agent r q (Err e) f h = h

pub end_as : (agent : Agent) (r q : Prog) (c : Cond) → r ≡ q → IsClosedEnd agent q c → IsClosedEnd agent r c
end_as agent r q c e h = subst (λ (z : Prog). IsClosedEnd agent z c) (sym e) h

-- both ends, each given by a call
pub ends_given : {E : Type 0} (agent : Agent) (p q : Prog) (one other : Result Cond E) → IfOk one (IsClosedEnd agent p) → IfOk other (IsClosedEnd agent q)
    → (result : Result (Cond × Cond) E) → IfOk result (λ pair. (one ≡ Ok pair.0) × (other ≡ Ok pair.1)) → IfOk result (λ pair. AreEnds agent p q pair.0 pair.1)
ends_given {E = E} agent p q one other h k (Ok pair) e = record {
  one = subst (λ (r : Result Cond E). IfOk r (IsClosedEnd agent p)) e.0 h;
  other = subst (λ (r : Result Cond E). IfOk r (IsClosedEnd agent q)) e.1 k;
}
ends_given agent p q one other h k (Err x) e = e

-- the condition itself, and that it has no free variable
pub end_alone : {E : Type 0} (agent : Agent) (p : Prog) (result : Result Cond E) → IfOk result (IsClosedEnd agent p) → IfOk result (IsEnd agent p)
end_alone agent p (Ok c) h = h.end
end_alone agent p (Err e) h = h

pub end_closed : {E : Type 0} (agent : Agent) (p : Prog) (result : Result Cond E) → IfOk result (IsClosedEnd agent p) → IfOk result (λ c. fits agent c ≡ true)
end_closed agent p (Ok c) h = h.closed
end_closed agent p (Err e) h = h
