-- A new lock keeps its rule, and so does each step that splits a seat or joins two.
use Rattle.std.proofs.Common.{◌≡◌, ◌≢◌, inl, inr, ℕ, zero, suc, ◌%◌, ◌^◌, ◌<◌, true, List, [], ◌∷◌, ◌++◌, length, set, refl, sym, ap, ◌∙◌, subst, ⊎_elim, arith, length-append}
use Rattle.std.specs.Prelude.{slice_index}
use mathlib.Core.Option.{some, none, some-injective, some-ne-none}
use lib.ListN.{get_elem?}
use Rattle.atomic_table.specs.Table.{State, Me, step, keeps, Allows, Splits, Joins, opening}
use Rattle.atomic_table.proofs.Lists.{at_set, set_else, at_longer}
use Rattle.golog_turn.specs.declared.view.View.{View}
use Rattle.golog_turn.specs.declared.view.Turn.TheVariants.{Away}
use Rattle.golog_turn.specs.Parties.{contains, without, own}
use Rattle.golog_turn.specs.Turns.{view, opened, taking, tickets, count_parties, Fits, AreApart, IsKept}
use Rattle.golog_turn.specs.Steps.{Compared, IsIdle}
use Rattle.golog_turn.proofs.Totals.{total_set, total_snoc, each_set, each_snoc, one_begins, set_comm}
use Rattle.golog_turn.proofs.Parties.{own_fewer, own_both, own_end, own_start, contains-without, length-without, length-parties_below, only}
use Rattle.golog_turn.proofs.Views.{AllApart, apart_set, apart_snoc, unserved_before, idle_apart, nobody_apart, sides, taking_apart, compared_apart, one_out, nothing_taken, append-nil_sym}

module _ {E O : Type 0} (party : E → ℕ) (list : O → List E) where
  abbrev Rule : State O (View E) → Type 0
  Rule = IsKept list party

  abbrev St : Type 0
  St = State O (View E)

  -- a party goes to a new seat
  pub splits : (id p : ℕ) (seen : List E) (ps : List ℕ) → contains ps p ≡ true → Splits Rule id (view Away seen ps) (view Away seen (without p ps)) (view Away seen (p ∷ []))
  splits id p seen ps has s r at =
      let v : View E = view Away seen ps in
      let w : View E = view Away seen (without p ps) in
      let new : View E = view Away seen (p ∷ []) in
      let views = set s.views id w in
      let fits = r.each id v at in
      let tickets_now = total_set tickets s.views id v w at in
      let parties_now = total_set count_parties s.views id v w at in
      let tickets_in_all = total_snoc tickets views new in
      let parties_in_all = total_snoc count_parties views new in
      let less = length-without p ps has in
      let waiting = r.waiting in
      let few = r.few in
      let fewer : (q : ℕ) → contains (without p ps) q ≡ true → contains ps q ≡ true = λ q h. (contains-without p ps q h).0 in
      let one : (q : ℕ) → contains (p ∷ []) q ≡ true → contains ps q ≡ true = λ q h. subst (λ k. contains ps k ≡ true) (sym (only p q h)) has in
      let rest_fits : Fits party r.serving r.drawn r.history w = ((fits.0.0, fits.0.1, own_fewer party ps (without p ps) fits.0.0 fewer fits.0.2), fits.1, tt) in
      let new_fits : Fits party r.serving r.drawn r.history new = ((fits.0.0, fits.0.1, own_fewer party ps (p ∷ []) fits.0.0 one fits.0.2), fits.1, tt) in
      let others : (j : ℕ) (u : View E) → j ≢ id → get_elem? s.views j ≡ some u → AreApart v u = λ j u ne at_u. r.apart id j v u at at_u (λ e. ne (sym e)) in
      record {
        drawn = r.drawn;
        serving = r.serving;
        history = r.history;
        words = r.words;
        waiting = omega arith;
        few = omega arith;
        each = each_snoc (Fits party r.serving r.drawn r.history) views new new_fits (each_set (Fits party r.serving r.drawn r.history) s.views id w rest_fits (λ i u _ at_u. r.each i u at_u));
        apart = apart_snoc views new (apart_set s.views id w r.apart (λ j u ne at_u. idle_apart seen ps (without p ps) fewer u (others j u ne at_u)))
            (each_set (AreApart new) s.views id w ((λ _ none_is _. absurd (some-ne-none _ (sym none_is))), one_out p seen ps)
            (λ i u ne at_u. idle_apart seen ps (p ∷ []) one u (others i u ne at_u)));
        home = λ none_served. r.home (unserved_before s.views id v w at refl (λ i u at_u. none_served i u (at_longer views (new ∷ []) i u at_u)));
      }

  -- a seat takes in another, which is spent
  pub joins : (id : ℕ) (seen : List E) (ps : List ℕ) (other : ℕ) (seen' : List E) (qs : List ℕ)
      → Joins Rule id (view Away seen ps) other (view Away seen' qs) (taking (view Away seen ps) (view Away seen' qs)) (view Away [] [])
  joins id seen ps other seen' qs s r at not_same there =
      let v : View E = view Away seen ps in
      let v' : View E = view Away seen' qs in
      let w : View E = taking v v' in
      let spent : View E = view Away [] [] in
      let views = set s.views id w in
      let was : get_elem? s.views other ≡ some v' = sym (set_else s.views id other w not_same) ∙ there in
      let fits = r.each id v at in
      let fits' = r.each other v' was in
      let tickets_now = total_set tickets s.views id v w at in
      let parties_now = total_set count_parties s.views id v w at in
      let tickets_then = total_set tickets views other v' spent there in
      let parties_then = total_set count_parties views other v' spent there in
      let waiting = r.waiting in
      let few = r.few in
      record {
        drawn = r.drawn;
        serving = r.serving;
        history = r.history;
        words = r.words;
        waiting = omega arith;
        few = omega arith;
        each = each_set (Fits party r.serving r.drawn r.history) views other spent (nothing_taken party r.history, nothing_taken party r.history, tt)
            (λ i u _ at_u. each_set (Fits party r.serving r.drawn r.history) s.views id w (fits.0, fits'.0, tt) (λ j x _ at_x. r.each j x at_x) i u at_u);
        apart = subst AllApart (sym (set_comm s.views id other w spent (λ e. not_same (sym e))))
            (apart_set (set s.views other spent) id w (apart_set s.views other spent r.apart (λ j u _ _. nobody_apart u))
            (λ j u ne at_u. each_set_if (λ k x. k ≢ id → AreApart w x) s.views other spent (λ _ _. sides spent w (nobody_apart w))
            (λ k x ne_other at_x ne_id. taking_apart seen ps seen' qs x (r.apart id k v x at at_x (λ e. ne_id (sym e))) (r.apart other k v' x was at_x (λ e. ne_other (sym e)))) j u at_u ne));
        home = λ none_served. r.home (unserved_before s.views id v w at refl (unserved_before views other v' spent there refl none_served));
      }
    where
      each_set_if : (K : ℕ → View E → Type 0) (l : List (View E)) (other : ℕ) (spent : View E) → ((j : ℕ) → K j spent) → ((j : ℕ) (u : View E) → j ≢ other → get_elem? l j ≡ some u → K j u) → (j : ℕ) (u : View E) → get_elem? (set l other spent) j ≡ some u → K j u
      each_set_if K l other spent here others j u at_u = ⊎_elim (λ t. subst (K j) t.1 (here j)) (λ t. others j u t.0 t.1) (at_set l other j spent u at_u)

  compared : (s : St) (r : Rule s) (id : ℕ) (seen : List E) (ps : List ℕ) (seen' : List E) (qs : List ℕ) (kept since : List E) → get_elem? s.views id ≡ some (taking (view Away seen ps) (view Away seen' qs))
      → r.history ≡ kept ++ since → own party (ps ++ qs) since ≡ [] → Rule record { words = set s.words 0 (slice_index s.words 0); homes = s.homes; views = set s.views id (view Away kept (ps ++ qs)) }
  compared s r id seen ps seen' qs kept since at goes no_more =
      let v : View E = taking (view Away seen ps) (view Away seen' qs) in
      let w : View E = view Away kept (ps ++ qs) in
      let tickets_now = total_set tickets s.views id v w at in
      let parties_now = total_set count_parties s.views id v w at in
      let count = length-append ps qs in
      let waiting = r.waiting in
      let few = r.few in record {
        drawn = r.drawn;
        serving = r.serving;
        history = r.history;
        words = ap (λ ws. set ws 0 (slice_index ws 0)) r.words;
        waiting = omega arith;
        few = omega arith;
        each = each_set (Fits party r.serving r.drawn r.history) s.views id w ((since, goes, no_more), nothing_taken party r.history, tt) (λ i u _ at_u. r.each i u at_u);
        apart = apart_set s.views id w r.apart (λ j u ne at_u. compared_apart seen ps seen' qs kept u (r.apart id j v u at at_u (λ e. ne (sym e))));
        home = λ none_served. r.home (unserved_before s.views id v w at refl none_served);
      }

  -- the seat keeps the longer of the two histories
  pub compares : (slots id : ℕ) (seen : List E) (ps : List ℕ) (seen' : List E) (qs : List ℕ)
      → let me : Me O (View E) = (taking (view Away seen ps) (view Away seen' qs), []) in Allows Rule slots id me 0 (λ n. n) (Compared party (step slots 0 0 0 none) me)
  compares slots id seen ps seen' qs s r _ at small =
      let v : View E = taking (view Away seen ps) (view Away seen' qs) in
      let fits = r.each id v at in
      let a = fits.0 in
      let b = fits.1 in
      ⊎_elim
      (λ t.
      let gap = ap (own party ps) (sym t.2) ∙ a.2 in (
        view Away seen' (ps ++ qs),
        keeps,
        tt,
        compared s r id seen ps seen' qs seen' b.0 at b.1 (own_both party ps qs b.0 (own_end party ps t.0 b.0 gap) b.2),
        (refl, inl (refl, (t.0, t.1, own_start party ps t.0 b.0 gap))),
      ))
      (λ t.
      let gap = ap (own party qs) (sym t.2) ∙ b.2 in (
        view Away seen (ps ++ qs),
        keeps,
        tt,
        compared s r id seen ps seen' qs seen a.0 at a.1 (own_both party ps qs a.0 a.2 (own_end party qs t.0 a.0 gap)),
        (refl, inr (refl, (t.0, t.1, own_start party qs t.0 a.0 gap))),
      ))
      (one_begins seen seen' a.0 b.0 (sym a.1 ∙ b.1))

  -- a new lock
  pub opens : (o : O) (n : ℕ) → n < 2 ^ 32 → Rule (opening (0 ∷ 0 ∷ length (list o) % 2 ^ 64 ∷ []) (o ∷ []) (opened (list o) n))
  opens o n less =
      let v : View E = opened (list o) n in
      let count = length-parties_below n in
      record {
        drawn = 0;
        serving = 0;
        history = list o;
        words = refl;
        waiting = refl;
        few = omega arith;
        each = λ i u at_u. alone v i u at_u (λ x. Fits party 0 0 (list o) x) (([], append-nil_sym (list o), refl), nothing_taken party (list o), tt);
        apart = λ i j u u' at_i at_j ne. absurd (ne (only_one v i u at_i ∙ sym (only_one v j u' at_j)));
        home = λ _. (o, refl, refl);
      }
    where
      alone : (v : View E) (i : ℕ) (u : View E) → get_elem? (v ∷ []) i ≡ some u → (K : View E → Type 0) → K v → K u
      alone v zero u at_u K k = subst K (some-injective v u at_u) k
      alone v (suc i) u at_u K k = absurd (some-ne-none u (sym at_u))

      only_one : (v : View E) (i : ℕ) (u : View E) → get_elem? (v ∷ []) i ≡ some u → i ≡ 0
      only_one v zero u at_u = refl
      only_one v (suc i) u at_u = absurd (some-ne-none u (sym at_u))

  -- the same at a seat that stands so
  pub splits_as : (id p : ℕ) (me : Me O (View E)) → IsIdle me → contains me.0.parties p ≡ true → Splits Rule id me.0 (view Away me.0.seen (without p me.0.parties)) (view Away me.0.seen (p ∷ []))
  splits_as id p me idle has =
      subst (λ (v : View E). Splits Rule id v (view Away me.0.seen (without p me.0.parties)) (view Away me.0.seen (p ∷ []))) (sym (ap (λ (m : Me O (View E)). m.0) idle)) (splits id p me.0.seen me.0.parties has)

  pub joins_as : (id : ℕ) (me : Me O (View E)) (other : ℕ) (me' : Me O (View E)) → IsIdle me → IsIdle me' → Joins Rule id me.0 other me'.0 (taking me.0 me'.0) (view Away [] [])
  joins_as id me other me' idle idle' =
      subst (λ (t : View E × View E). Joins Rule id t.0 other t.1 (taking me.0 me'.0) (view Away [] [])) (λ i. (sym (ap (λ (m : Me O (View E)). m.0) idle) i, sym (ap (λ (m : Me O (View E)). m.0) idle') i))
      (joins id me.0.seen me.0.parties other me'.0.seen me'.0.parties)

  pub compares_as : (slots id : ℕ) (me : Me O (View E)) (v w : View E) → me ≡ (taking v w, []) → Allows Rule slots id me 0 (λ n. n) (Compared party (step slots 0 0 0 none) me)
  compares_as slots id me v w is =
      subst (λ (m : Me O (View E)). Allows Rule slots id m 0 (λ n. n) (Compared party (step slots 0 0 0 none) m)) (sym is) (compares slots id v.seen v.parties w.seen w.parties)

  -- the same at the words and the slot as they were made
  pub opens_as : (o : O) (n length_word : ℕ) (slots : List O) (shown : O) → n < 2 ^ 32 → length_word ≡ length (list o) % 2 ^ 64 → slots ≡ o ∷ [] → shown ≡ o → Rule (opening (0 ∷ 0 ∷ length_word ∷ []) slots (opened (list shown) n))
  opens_as o n length_word slots shown less word_is slots_are shown_is =
      subst (λ (t : ℕ × List O × O). Rule (opening (0 ∷ 0 ∷ t.0 ∷ []) t.1 (opened (list t.2) n))) (λ i. (sym word_is i, sym slots_are i, sym shown_is i)) (opens o n less)
