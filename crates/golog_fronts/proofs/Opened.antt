-- The ways that lists of fronts open, and the fronts of a program by those of its parts.
use Rattle.std.proofs.Common.{◌≡◌, ℕ, ◌+◌, ◌≤◌, Bool, true, false, if◌then◌else◌, List, [], ◌∷◌, ◌++◌, map, refl, sym, ap, ◌∙◌, subst, append_assoc, arith}
use Rattle.std.specs.Prelude.{All, Result, Ok, Err, IfOk, filter}
use Rattle.std.specs.List.{flat_map, range_with_len}
use Rattle.golog_tree.specs.declared.agent.Agent.{Agent}
use Rattle.golog_tree.specs.declared.cond.Arg.{Arg}
use Rattle.golog_tree.specs.declared.cond.Cond.{Cond}
use Rattle.golog_tree.specs.declared.cond.Cond.TheVariants as cond
use Rattle.golog_tree.specs.declared.prog.Prog.{Prog}
use Rattle.golog_tree.specs.declared.prog.Way.{Way}
use Rattle.golog_tree.specs.declared.prog.Label.TheVariants.{Quiet, Do}
use Rattle.golog_tree.specs.declared.prog.Prog.TheOpen.{Nil, Act, Test, Seq, Choice, Pick, Star, If, While, Conc, Prio, Cstar, Call, Search, Follow}
use Rattle.golog_tree.specs.declared.prog.Prog.TheVariants as prog
use Rattle.golog_tree.specs.Ground.{action_no, sort_size}
use Rattle.golog_tree.specs.Tidy.{tidy_seq, tidy_conc, tidy_prio}
use Rattle.golog_semantics.specs.declared.Mode.{Mode}
use Rattle.golog_semantics.specs.Modes.{flip}
use Rattle.golog_semantics.specs.Truth.{Values, arg_value, env_of}
use Rattle.golog_semantics.specs.Program.{put_arg, body_of}
use Rattle.golog_semantics.specs.Search.{final, plain_ways}
use Rattle.golog_semantics.specs.Values.{is_possible}
use Rattle.golog_semantics.specs.Ways.{is_empty, is_so}
use Rattle.golog_semantics.specs.FitLaws.{ProcsFit}
use Rattle.golog_semantics.specs.Guarded.{IsGuarded, front}
use Rattle.golog_semantics.specs.Fronts.{AreFronts, Guarded, open_ways}
use Rattle.golog_semantics.proofs.FrontLaws.{guard, open-append, open-guarded, open-lower}
use Rattle.golog_semantics.proofs.Unfolded.{final-skips}
use Rattle.golog_fronts.specs.declared.front_lists.Front.{Front}
use Rattle.golog_fronts.specs.Closed.{IsClosed}
use Rattle.golog_fronts.specs.Ends.{IsClosedEnd}
use Rattle.golog_fronts.specs.FrontLists.{AreBothFronts, AreClosedFronts, AreWhereEnds, IsPrecondition, are_closed, front_in, front_where, guarded, guarded_of, last_front, lefts_fit, none_open}
use Rattle.golog_fronts.specs.Lefts.{LeavesClosed, fits_in}
use Rattle.golog_fronts.proofs.ClosedConds.{closed-both, closed-in, closed-one, closed-where, fits, fits-none_open, fits-not}
use Rattle.golog_fronts.proofs.Ends.{range-more, so-not}
use Rattle.golog_fronts.proofs.FrontLefts.{act-own, all-leave, call-part, choice-parts, conc-fits, conc-parts, cstar-part, if-parts, lefts-both, lefts-in, lefts-one, lefts-where, nil-fits, pick-part, prio-fits, prio-parts, seq-fits, seq-parts, star-part, while-part}
use Rattle.golog_fronts.proofs.FrontSteps.{way_in, ways_if, ways-by}

map-map : {A B D : Type 0} (f : A → B) (g : B → D) (xs : List A) → map g (map f xs) ≡ map (λ x. g (f x)) xs
map-map f g [] = refl
map-map f g (x ∷ xs) = ap (λ ys. g (f x) ∷ ys) (map-map f g xs)

map-id : (ws : List Way) → map (λ w. w) ws ≡ ws
map-id [] = refl
map-id (w ∷ ws) = ap (λ vs. w ∷ vs) (map-id ws)

guarded-append : (fs hs : List Front) → guarded (fs ++ hs) ≡ guarded fs ++ guarded hs
guarded-append [] hs = refl
guarded-append (f ∷ fs) hs = ap (λ gs. guarded_of f ∷ gs) (guarded-append fs hs)

flat-append : (f : ℕ → List Way) (cs ds : List ℕ) → flat_map f (cs ++ ds) ≡ flat_map f cs ++ flat_map f ds
flat-append f [] ds = refl
flat-append f (c ∷ cs) ds = ap (λ ws. f c ++ ws) (flat-append f cs ds) ∙ sym (append_assoc (f c) (flat_map f cs) (flat_map f ds))

append-none : (ws : List Way) → ws ++ [] ≡ ws
append-none [] = refl
append-none (w ∷ ws) = ap (λ vs. w ∷ vs) (append-none ws)

flat-more : (f : ℕ → List Way) (i : ℕ) → flat_map f (range_with_len 0 (i + 1)) ≡ flat_map f (range_with_len 0 i) ++ f i
flat-more f i =
    ap (flat_map f) (range-more i) ∙ flat-append f (range_with_len 0 i) (i ∷ [])
    ∙ ap (λ ws. flat_map f (range_with_len 0 i) ++ ws) (append-none (f i))

-- one more way where the test holds
abbrev more_if : Bool → Way → List Way → List Way
more_if b w ws = if b then w ∷ ws else ws

map-more : (f : Way → Way) (b : Bool) (w : Way) (ws : List Way) → map f (more_if b w ws) ≡ more_if b (f w) (map f ws)
map-more f true w ws = refl
map-more f false w ws = refl

take-more : (b : Bool) (g : Guarded) (gs : List Guarded) → map (λ (h : Guarded). h.way) (if b then g ∷ gs else gs) ≡ more_if b g.way (map (λ (h : Guarded). h.way) gs)
take-more true g gs = refl
take-more false g gs = refl

more-none : (b : Bool) (w : Way) → more_if b w [] ≡ ways_if b (w ∷ [])
more-none true w = refl
more-none false w = refl

module _ (agent : Agent) (values : Values) (m : Mode) where
  -- the ways that these fronts open
  abbrev pub opened : List Front → List Way
  opened fs = open_ways agent values m (guarded fs)

  pub open-cons : (f : Front) (fs : List Front) → opened (f ∷ fs) ≡ more_if (is_so agent values m f.cond) (record { label = f.label; left = f.left }) (opened fs)
  open-cons f fs = take-more (is_so agent values m f.cond) (guarded_of f) (filter (λ (g : Guarded). is_so agent values m g.cond) (guarded fs))

  pub open-in : (f : Prog → Prog) (fs : List Front) → opened (map (front_in f) fs) ≡ map (way_in f) (opened fs)
  open-in f [] = refl
  open-in f (x ∷ xs) =
      open-cons (front_in f x) (map (front_in f) xs)
      ∙ ap (more_if (is_so agent values m x.cond) (record { label = x.label; left = f x.left })) (open-in f xs)
      ∙ sym (map-more (way_in f) (is_so agent values m x.cond) (record { label = x.label; left = x.left }) (opened xs))
      ∙ ap (map (way_in f)) (sym (open-cons x xs))

  pub open-both : (fs hs : List Front) → opened (fs ++ hs) ≡ opened fs ++ opened hs
  open-both fs hs = ap (open_ways agent values m) (guarded-append fs hs) ∙ open-append agent values m (guarded fs) (guarded hs)

  guards : (c : Cond) (fs : List Front) → guarded (map (front_where c) fs) ≡ map (guard agent values m c (λ w. w)) (guarded fs)
  guards c [] = refl
  guards c (f ∷ fs) = ap (λ gs. guarded_of (front_where c f) ∷ gs) (guards c fs)

  kept : (b : Bool) (ws : List Way) → ways_if b (map (λ w. w) ws) ≡ ways_if b ws
  kept b ws = ap (ways_if b) (map-id ws)

  pub open-where : (c : Cond) (fs : List Front) → opened (map (front_where c) fs) ≡ ways_if (is_so agent values m c) (opened fs)
  open-where c fs =
      ap (open_ways agent values m) (guards c fs) ∙ open-guarded agent values m c (λ w. w) (guarded fs)
      ∙ kept (is_so agent values m c) (opened fs)

  conds-same : (fs : List Front) → map (λ (f : Front). f.cond) fs ≡ map (λ (g : Guarded). g.cond) (guarded fs)
  conds-same fs = sym (map-map guarded_of (λ (g : Guarded). g.cond) fs)

-- where the higher part has no way in the flipped mode
pub open-unless : (agent : Agent) (values : Values) (m : Mode) (high low : List Front)
    → opened agent values m (map (front_where (none_open high)) low) ≡ ways_if (is_empty (opened agent values (flip m) high)) (opened agent values m low)
open-unless agent values m high low =
    ap (λ cs. opened agent values m (map (front_where (cond.Not (cond.Or cs))) low)) (conds-same agent values m high)
    ∙ ap (open_ways agent values m) (guards agent values m (cond.Not (cond.Or (map (λ (g : Guarded). g.cond) (guarded high)))) low)
    ∙ open-lower agent values m (λ w. w) (guarded high) (guarded low)
    ∙ kept agent values m (is_empty (opened agent values (flip m) high)) (opened agent values m low)

module _ (agent : Agent) (g : IsGuarded agent) where
  abbrev Are : Prog → List Front → Type 0
  Are p fs = AreClosedFronts agent p fs

  pub nil_fronts : Are prog.Nil []
  nil_fronts = record {
    fronts = record { ways = λ m v. sym (ways-by agent v g m prog.Nil Nil prog.outs-Nil) };
    closed = refl;
    lefts = λ b h. refl;
  }

  pub search_fronts : (depth fuel : ℕ) (p : Prog) → Are (prog.Search depth fuel p) []
  search_fronts depth fuel p = record {
    fronts = record { ways = λ m v. sym (ways-by agent v g m (prog.Search depth fuel p) (Search depth fuel p) (prog.outs-Search depth fuel p)) };
    closed = refl;
    lefts = λ b h. refl;
  }

  pub follow_fronts : (depth fuel : ℕ) (p : Prog) (rest : List Way) → Are (prog.Follow depth fuel p rest) []
  follow_fronts depth fuel p rest = record {
    fronts = record { ways = λ m v. sym (ways-by agent v g m (prog.Follow depth fuel p rest) (Follow depth fuel p rest) (prog.outs-Follow depth fuel p rest)) };
    closed = refl;
    lefts = λ b h. refl;
  }

  pub act_fronts : (action : ℕ) (args : List Arg) (c : Cond) (number : ℕ) → number ≡ action_no agent action (map (arg_value (env_of [])) args) → IsPrecondition agent action args c
      → Are (prog.Act action args) (last_front c (Do number) ∷ [])
  act_fronts action args c number e h = record {
    fronts = record {
      ways = λ m v.
          let way : ℕ → Way = λ n. record { label = Do n; left = prog.Nil } in
          open-cons agent v m (last_front c (Do number)) []
          ∙ more-none (is_so agent v m c) (way number) ∙ ap (λ b. ways_if b (way number ∷ [])) (h.holds m v)
          ∙ ap (λ n. ways_if (is_possible agent v m action (map (arg_value (env_of [])) args)) (way n ∷ [])) e
          ∙ sym (ways-by agent v g m (prog.Act action args) (Act action args) (prog.outs-Act action args));
    };
    closed = closed-one agent (last_front c (Do number)) h.closed;
    lefts = λ b k. lefts-one agent b (last_front c (Do number)) (act-own agent b action args number e k) (nil-fits agent b);
  }

  pub test_fronts : (c : Cond) → fits agent c ≡ true → Are (prog.Test c) (last_front c Quiet ∷ [])
  test_fronts c h = record {
    fronts = record {
      ways = λ m v.
          open-cons agent v m (last_front c Quiet) []
          ∙ more-none (is_so agent v m c) (record { label = Quiet; left = prog.Nil })
          ∙ sym (ways-by agent v g m (prog.Test c) (Test c) (prog.outs-Test c));
    };
    closed = closed-one agent (last_front c Quiet) h;
    lefts = λ b k. lefts-one agent b (last_front c Quiet) refl (nil-fits agent b);
  }

  -- where the first part never ends without a step, the second doesn't count
  pub seq_fronts_barred : (p q : Prog) (fs : List Front) → (front agent p).skip ≡ false → Are p fs → Are (prog.Seq p q) (map (front_in (λ l. tidy_seq l q)) fs)
  seq_fronts_barred p q fs s h = record {
    fronts = record {
      ways = λ m v.
          let e = h.fronts.ways m v in
          open-in agent v m (λ l. tidy_seq l q) fs ∙ ap (map (way_in (λ l. tidy_seq l q))) e
          ∙ sym (append-none (map (way_in (λ l. tidy_seq l q)) (plain_ways agent v m p)))
          ∙ ap (λ b. map (way_in (λ l. tidy_seq l q)) (plain_ways agent v m p) ++ ways_if b (plain_ways agent v m q)) (sym (never m v (final agent v m p) refl))
          ∙ sym (ways-by agent v g m (prog.Seq p q) (Seq p q) (prog.outs-Seq p q));
    };
    closed = closed-in agent (λ l. tidy_seq l q) fs h.closed;
    lefts = λ b k. let both = seq-parts agent b p q k in lefts-in agent b (λ l. tidy_seq l q) (λ l j. seq-fits agent b l q j both.1) fs (h.lefts b both.0);
  }
    where
      never : (m : Mode) (v : Values) (b : Bool) → final agent v m p ≡ b → final agent v m p ≡ false
      never m v true e = let k = final-skips agent v g m p e in absurd (cc (k, s))
      never m v false e = e

  module _ (p q : Prog) (fs hs : List Front) (one : Are p fs) (other : Are q hs) where
    pub seq_fronts : (c : Cond) → IsClosedEnd agent p c → Are (prog.Seq p q) (map (front_in (λ l. tidy_seq l q)) fs ++ map (front_where c) hs)
    seq_fronts c end = record {
      fronts = record {
        ways = λ m v.
            let e = open-in agent v m (λ l. tidy_seq l q) fs ∙ ap (map (way_in (λ l. tidy_seq l q))) (one.fronts.ways m v) in
            let k = open-where agent v m c hs ∙ ap (ways_if (is_so agent v m c)) (other.fronts.ways m v) ∙ ap (λ b. ways_if b (plain_ways agent v m q)) (end.end.final m v) in
            open-both agent v m (map (front_in (λ l. tidy_seq l q)) fs) (map (front_where c) hs)
            ∙ ap (λ ws. ws ++ opened agent v m (map (front_where c) hs)) e
            ∙ ap (λ ws. map (way_in (λ l. tidy_seq l q)) (plain_ways agent v m p) ++ ws) k
            ∙ sym (ways-by agent v g m (prog.Seq p q) (Seq p q) (prog.outs-Seq p q));
      };
      closed = closed-both agent (map (front_in (λ l. tidy_seq l q)) fs) (map (front_where c) hs) (closed-in agent (λ l. tidy_seq l q) fs one.closed)
          (closed-where agent c hs end.closed other.closed);
      lefts = λ b k.
          let both = seq-parts agent b p q k in
          lefts-both agent b (map (front_in (λ l. tidy_seq l q)) fs) (map (front_where c) hs)
          (lefts-in agent b (λ l. tidy_seq l q) (λ l j. seq-fits agent b l q j both.1) fs (one.lefts b both.0)) (lefts-where agent b c hs (other.lefts b both.1));
    }

    pub choice_fronts : Are (prog.Choice p q) (fs ++ hs)
    choice_fronts = record {
      fronts = record {
        ways = λ m v.
            open-both agent v m fs hs ∙ ap (λ ws. ws ++ opened agent v m hs) (one.fronts.ways m v)
            ∙ ap (λ ws. plain_ways agent v m p ++ ws) (other.fronts.ways m v)
            ∙ sym (ways-by agent v g m (prog.Choice p q) (Choice p q) (prog.outs-Choice p q));
      };
      closed = closed-both agent fs hs one.closed other.closed;
      lefts = λ b k. let both = choice-parts agent b p q k in lefts-both agent b fs hs (one.lefts b both.0) (other.lefts b both.1);
    }

    pub conc_fronts : Are (prog.Conc p q) (map (front_in (λ l. tidy_conc l q)) fs ++ map (front_in (λ l. tidy_conc p l)) hs)
    conc_fronts = record {
      fronts = record {
        ways = λ m v.
            let e = open-in agent v m (λ l. tidy_conc l q) fs ∙ ap (map (way_in (λ l. tidy_conc l q))) (one.fronts.ways m v) in
            let k = open-in agent v m (λ l. tidy_conc p l) hs ∙ ap (map (way_in (λ l. tidy_conc p l))) (other.fronts.ways m v) in
            open-both agent v m (map (front_in (λ l. tidy_conc l q)) fs) (map (front_in (λ l. tidy_conc p l)) hs)
            ∙ ap (λ ws. ws ++ opened agent v m (map (front_in (λ l. tidy_conc p l)) hs)) e
            ∙ ap (λ ws. map (way_in (λ l. tidy_conc l q)) (plain_ways agent v m p) ++ ws) k
            ∙ sym (ways-by agent v g m (prog.Conc p q) (Conc p q) (prog.outs-Conc p q));
      };
      closed = closed-both agent (map (front_in (λ l. tidy_conc l q)) fs) (map (front_in (λ l. tidy_conc p l)) hs) (closed-in agent (λ l. tidy_conc l q) fs one.closed)
          (closed-in agent (λ l. tidy_conc p l) hs other.closed);
      lefts = λ b k.
          let both = conc-parts agent b p q k in
          lefts-both agent b (map (front_in (λ l. tidy_conc l q)) fs) (map (front_in (λ l. tidy_conc p l)) hs)
          (lefts-in agent b (λ l. tidy_conc l q) (λ l j. conc-fits agent b l q j both.1) fs (one.lefts b both.0))
          (lefts-in agent b (λ l. tidy_conc p l) (λ l j. conc-fits agent b p l both.0 j) hs (other.lefts b both.1));
    }

    map-if : (f : Prog → Prog) (b : Bool) (ws : List Way) → map (way_in f) (ways_if b ws) ≡ ways_if b (map (way_in f) ws)
    map-if f true ws = refl
    map-if f false ws = refl

    pub prio_fronts : Are (prog.Prio p q) (map (front_in (λ l. tidy_prio l q)) fs ++ map (front_in (λ l. tidy_prio p l)) (map (front_where (none_open fs)) hs))
    prio_fronts = record {
      fronts = record {
        ways = λ m v.
            let low = map (front_where (none_open fs)) hs in
            let e = open-in agent v m (λ l. tidy_prio l q) fs ∙ ap (map (way_in (λ l. tidy_prio l q))) (one.fronts.ways m v) in
            let k =
            open-in agent v m (λ l. tidy_prio p l) low ∙ ap (map (way_in (λ l. tidy_prio p l))) (open-unless agent v m fs hs)
            ∙ map-if (λ l. tidy_prio p l) (is_empty (opened agent v (flip m) fs)) (opened agent v m hs)
            ∙ ap (λ ws. ways_if (is_empty ws) (map (way_in (λ l. tidy_prio p l)) (opened agent v m hs))) (one.fronts.ways (flip m) v)
            ∙ ap (λ ws. ways_if (is_empty (plain_ways agent v (flip m) p)) (map (way_in (λ l. tidy_prio p l)) ws)) (other.fronts.ways m v) in
            open-both agent v m (map (front_in (λ l. tidy_prio l q)) fs) (map (front_in (λ l. tidy_prio p l)) low)
            ∙ ap (λ ws. ws ++ opened agent v m (map (front_in (λ l. tidy_prio p l)) low)) e
            ∙ ap (λ ws. map (way_in (λ l. tidy_prio l q)) (plain_ways agent v m p) ++ ws) k
            ∙ sym (ways-by agent v g m (prog.Prio p q) (Prio p q) (prog.outs-Prio p q));
      };
      closed = let low = map (front_where (none_open fs)) hs in
          closed-both agent (map (front_in (λ l. tidy_prio l q)) fs) (map (front_in (λ l. tidy_prio p l)) low) (closed-in agent (λ l. tidy_prio l q) fs one.closed)
          (closed-in agent (λ l. tidy_prio p l) low (closed-where agent (none_open fs) hs (fits-none_open agent fs one.closed) other.closed));
      lefts = λ b k.
          let low = map (front_where (none_open fs)) hs in
          let both = prio-parts agent b p q k in
          lefts-both agent b (map (front_in (λ l. tidy_prio l q)) fs) (map (front_in (λ l. tidy_prio p l)) low)
          (lefts-in agent b (λ l. tidy_prio l q) (λ l j. prio-fits agent b l q j both.1) fs (one.lefts b both.0))
          (lefts-in agent b (λ l. tidy_prio p l) (λ l j. prio-fits agent b p l both.0 j) low (lefts-where agent b (none_open fs) hs (other.lefts b both.1)));
    }

    pub if_fronts : (t : Cond) → fits agent t ≡ true → Are (prog.If t p q) (map (front_where t) fs ++ map (front_where (cond.Not t)) hs)
    if_fronts t k = record {
      fronts = record {
        ways = λ m v.
            let e = open-where agent v m t fs ∙ ap (ways_if (is_so agent v m t)) (one.fronts.ways m v) in
            let k = open-where agent v m (cond.Not t) hs ∙ ap (ways_if (is_so agent v m (cond.Not t))) (other.fronts.ways m v) ∙ ap (λ b. ways_if b (plain_ways agent v m q)) (so-not agent v m t) in
            open-both agent v m (map (front_where t) fs) (map (front_where (cond.Not t)) hs)
            ∙ ap (λ ws. ws ++ opened agent v m (map (front_where (cond.Not t)) hs)) e
            ∙ ap (λ ws. ways_if (is_so agent v m t) (plain_ways agent v m p) ++ ws) k
            ∙ sym (ways-by agent v g m (prog.If t p q) (If t p q) (prog.outs-If t p q));
      };
      closed = closed-both agent (map (front_where t) fs) (map (front_where (cond.Not t)) hs) (closed-where agent t fs k one.closed)
          (closed-where agent (cond.Not t) hs (fits-not agent t k) other.closed);
      lefts = λ b j.
          let both = if-parts agent b t p q j in
          lefts-both agent b (map (front_where t) fs) (map (front_where (cond.Not t)) hs)
          (lefts-where agent b t fs (one.lefts b both.0)) (lefts-where agent b (cond.Not t) hs (other.lefts b both.1));
    }

  module _ (p : Prog) (fs : List Front) (part : Are p fs) where
    -- a program whose steps are those of its part, with what they leave put into a context
    as_part : (r : Prog) (context : Prog → Prog) → ((m : Mode) (v : Values) → map (way_in context) (plain_ways agent v m p) ≡ plain_ways agent v m r)
        → ((b : Bool) → fits_in agent b r ≡ true → fits_in agent b p ≡ true)
        → ((b : Bool) → fits_in agent b r ≡ true → (l : Prog) → fits_in agent b l ≡ true → fits_in agent b (context l) ≡ true)
        → Are r (map (front_in context) fs)
    as_part r context steps part_fits left_fits = record {
      fronts = record { ways = λ m v. open-in agent v m context fs ∙ ap (map (way_in context)) (part.fronts.ways m v) ∙ steps m v };
      closed = closed-in agent context fs part.closed;
      lefts = λ b k. lefts-in agent b context (left_fits b k) fs (part.lefts b (part_fits b k));
    }

    pub star_fronts : Are (prog.Star p) (map (front_in (λ l. tidy_seq l (prog.Star p))) fs)
    star_fronts =
        as_part (prog.Star p) (λ l. tidy_seq l (prog.Star p)) (λ m v. sym (ways-by agent v g m (prog.Star p) (Star p) (prog.outs-Star p)))
        (λ b k. star-part agent b p k) (λ b k l j. seq-fits agent b l (prog.Star p) j k)

    pub cstar_fronts : Are (prog.Cstar p) (map (front_in (λ l. tidy_conc l (prog.Cstar p))) fs)
    cstar_fronts =
        as_part (prog.Cstar p) (λ l. tidy_conc l (prog.Cstar p)) (λ m v. sym (ways-by agent v g m (prog.Cstar p) (Cstar p) (prog.outs-Cstar p)))
        (λ b k. cstar-part agent b p k) (λ b k l j. conc-fits agent b l (prog.Cstar p) j k)

    pub while_fronts : (t : Cond) → fits agent t ≡ true → Are (prog.While t p) (map (front_where t) (map (front_in (λ l. tidy_seq l (prog.While t p))) fs))
    while_fronts t k = record {
      fronts = record {
        ways = λ m v.
            open-where agent v m t (map (front_in (λ l. tidy_seq l (prog.While t p))) fs)
            ∙ ap (ways_if (is_so agent v m t)) (open-in agent v m (λ l. tidy_seq l (prog.While t p)) fs ∙ ap (map (way_in (λ l. tidy_seq l (prog.While t p)))) (part.fronts.ways m v))
            ∙ sym (ways-by agent v g m (prog.While t p) (While t p) (prog.outs-While t p));
      };
      closed = closed-where agent t (map (front_in (λ l. tidy_seq l (prog.While t p))) fs) k (closed-in agent (λ l. tidy_seq l (prog.While t p)) fs part.closed);
      lefts = λ b j.
          lefts-where agent b t (map (front_in (λ l. tidy_seq l (prog.While t p))) fs)
          (lefts-in agent b (λ l. tidy_seq l (prog.While t p)) (λ l i. seq-fits agent b l (prog.While t p) i j) fs (part.lefts b (while-part agent b t p j)));
    }

  pub call_fronts : ProcsFit agent → (item : ℕ) (args : List Arg) (fs : List Front) → Are (body_of agent item args) fs → Are (prog.Call item args) fs
  call_fronts procs item args fs h = record {
    fronts = record { ways = λ m v. h.fronts.ways m v ∙ sym (ways-by agent v g m (prog.Call item args) (Call item args) (prog.outs-Call item args)) };
    closed = h.closed;
    lefts = λ b k. h.lefts b (call-part agent b procs item args k);
  }

module _ (agent : Agent) (x sort : ℕ) (p : Prog) where
  -- the fronts for the constants before this one
  pub record FrontsSoFar (i : ℕ) (fs : List Front) : Type 0 where
    pub ways : (m : Mode) (v : Values) → opened agent v m fs ≡ flat_map (λ c. plain_ways agent v m (put_arg p x c)) (range_with_len 0 i)
    pub closed : are_closed agent fs ≡ true
    pub lefts : i ≤ sort_size agent sort → (b : Bool) → fits_in agent b (prog.Pick x sort p) ≡ true → lefts_fit agent b fs ≡ true

  pub no_fronts : FrontsSoFar 0 []
  no_fronts = record { ways = λ m v. refl; closed = refl; lefts = λ l b k. refl }

  pub more_fronts : (i : ℕ) (fs hs : List Front) → AreClosedFronts agent (put_arg p x i) hs → FrontsSoFar i fs → FrontsSoFar (i + 1) (fs ++ hs)
  more_fronts i fs hs h s = record {
    ways = λ m v.
        open-both agent v m fs hs ∙ ap (λ ws. ws ++ opened agent v m hs) (s.ways m v)
        ∙ ap (λ ws. flat_map (λ c. plain_ways agent v m (put_arg p x c)) (range_with_len 0 i) ++ ws) (h.fronts.ways m v)
        ∙ sym (flat-more (λ c. plain_ways agent v m (put_arg p x c)) i);
    closed = closed-both agent fs hs s.closed h.closed;
    lefts = λ l b k. lefts-both agent b fs hs (s.lefts (omega arith) b k) (h.lefts b (pick-part agent b x sort p k i (omega arith)));
  }

  pub pick_fronts : IsGuarded agent → (i : ℕ) (fs : List Front) → i ≡ sort_size agent sort → FrontsSoFar i fs → AreClosedFronts agent (prog.Pick x sort p) fs
  pick_fronts g i fs e s = record {
    fronts = record {
      ways = λ m v.
          s.ways m v ∙ ap (λ n. flat_map (λ c. plain_ways agent v m (put_arg p x c)) (range_with_len 0 n)) e
          ∙ sym (ways-by agent v g m (prog.Pick x sort p) (Pick x sort p) (prog.outs-Pick x sort p));
    };
    closed = s.closed;
    lefts = s.lefts (omega arith);
  }

-- what a call gives, where its result is told by an equation
pub fronts_give : {E : Type 0} (agent : Agent) (r : Prog) (hs : List Front) (result : Result (List Front) E)
    → IfOk result (λ fs. fs ≡ hs) → AreClosedFronts agent r hs → IfOk result (AreClosedFronts agent r)
fronts_give agent r hs (Ok fs) h k = subst (AreClosedFronts agent r) (sym h) k
fronts_give agent r hs (Err e) h k = h

-- the same of the fronts of another program
pub fronts_too : {E : Type 0} (agent : Agent) (r q : Prog) (result : Result (List Front) E) → ((fs : List Front) → AreClosedFronts agent q fs → AreClosedFronts agent r fs)
    → IfOk result (AreClosedFronts agent q) → IfOk result (AreClosedFronts agent r)
fronts_too agent r q (Ok fs) f h = f fs h
fronts_too agent r q (Err e) f h = h

-- the fronts of a second part, where the first may end
pub ends_given : {E : Type 0} (agent : Agent) (p : Prog) (fs : List Front) (end : Cond) (result : Result (List Front) E) → IsClosedEnd agent p end
    → IfOk result (λ hs. hs ≡ map (front_where end) fs) → IfOk result (AreWhereEnds agent p fs)
ends_given agent p fs end (Ok hs) is h = record { end = end; is = is; same = h }
ends_given agent p fs end (Err e) is h = h

-- the fronts of a sequence, each part's given by a call
pub seq_given : {E : Type 0} (agent : Agent) → IsGuarded agent → (p q : Prog) (fs hs : List Front) → AreClosedFronts agent p fs → AreClosedFronts agent q hs
    → (one other result : Result (List Front) E) (xs ys : List Front) → one ≡ Ok xs → other ≡ Ok ys
    → IfOk one (λ z. z ≡ map (front_in (λ l. tidy_seq l q)) fs) → IfOk other (AreWhereEnds agent p hs) → IfOk result (λ z. z ≡ xs ++ ys)
    → IfOk result (AreClosedFronts agent (prog.Seq p q))
seq_given {E = E} agent g p q fs hs a b one other result xs ys e k h w is =
    let first : xs ≡ map (front_in (λ l. tidy_seq l q)) fs = subst (λ (r : Result (List Front) E). IfOk r (λ z. z ≡ map (front_in (λ l. tidy_seq l q)) fs)) e h in
    let second : AreWhereEnds agent p hs ys = subst (λ (r : Result (List Front) E). IfOk r (AreWhereEnds agent p hs)) k w in
    fronts_give agent (prog.Seq p q) (xs ++ ys) result is
    (subst (AreClosedFronts agent (prog.Seq p q)) (sym (ap (λ (z : List Front). z ++ ys) first ∙ ap (λ (z : List Front). map (front_in (λ l. tidy_seq l q)) fs ++ z) second.same))
    (seq_fronts agent g p q fs hs a b second.end second.is))

-- what is said of a list of fronts, of one that equals it, and of a program that equals the other
pub fronts_as : (agent : Agent) (r q : Prog) → r ≡ q → (fs hs : List Front) → fs ≡ hs → AreClosedFronts agent q hs → AreClosedFronts agent r fs
fronts_as agent r q e fs hs k h = subst (λ (z : Prog). AreClosedFronts agent z fs) (sym e) (subst (AreClosedFronts agent q) (sym k) h)

pub fronts_given_as : {E : Type 0} (agent : Agent) (r q : Prog) → r ≡ q → (result : Result (List Front) E)
    → IfOk result (AreClosedFronts agent q) → IfOk result (AreClosedFronts agent r)
fronts_given_as agent r q e result h = subst (λ (z : Prog). IfOk result (AreClosedFronts agent z)) (sym e) h

-- the fronts of two programs, each given by a call
pub both_given : {E : Type 0} (agent : Agent) (p q : Prog) (one other : Result (List Front) E)
    → IfOk one (AreClosedFronts agent p) → IfOk other (AreClosedFronts agent q)
    → (result : Result (List Front × List Front) E) → IfOk result (λ pair. (one ≡ Ok pair.0) × (other ≡ Ok pair.1)) → IfOk result (λ pair. AreBothFronts agent p q pair.0 pair.1)
both_given {E = E} agent p q one other h k (Ok pair) e = record {
  one = subst (λ (r : Result (List Front) E). IfOk r (AreClosedFronts agent p)) e.0 h;
  other = subst (λ (r : Result (List Front) E). IfOk r (AreClosedFronts agent q)) e.1 k;
}
both_given agent p q one other h k (Err x) e = e

-- the fronts themselves, that their conditions have no free variable, and that what they leave is closed
pub fronts_alone : {E : Type 0} (agent : Agent) (p : Prog) (result : Result (List Front) E) → IfOk result (AreClosedFronts agent p) → IfOk result (λ fs. AreFronts agent p (guarded fs))
fronts_alone agent p (Ok fs) h = h.fronts
fronts_alone agent p (Err e) h = h

pub fronts_closed : {E : Type 0} (agent : Agent) (p : Prog) (result : Result (List Front) E) → IfOk result (AreClosedFronts agent p) → IfOk result (λ fs. are_closed agent fs ≡ true)
fronts_closed agent p (Ok fs) h = h.closed
fronts_closed agent p (Err e) h = h

pub fronts_left : {E : Type 0} (agent : Agent) (p : Prog) → IsClosed agent p → (result : Result (List Front) E) → IfOk result (AreClosedFronts agent p)
    → IfOk result (λ fs. All (λ f. LeavesClosed agent p f.way) (guarded fs))
fronts_left agent p c (Ok fs) h = all-leave agent p c fs h.lefts
fronts_left agent p c (Err e) h = h
