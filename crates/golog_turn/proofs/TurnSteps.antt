-- Each step of a turn keeps the rule of the lock: a ticket is drawn, the number served is read, an entry is announced, and the turn passes on.
use Rattle.std.proofs.Common.{◌≡◌, inl, inr, ℕ, ◌+◌, ◌%◌, ◌^◌, ◌<◌, false, true≢false, List, [], ◌∷◌, ◌++◌, length, set, get_or, refl, sym, ap, ◌∙◌, subst, arith, append-nil, length-append}
use Rattle.std.specs.Prelude.{slice_index}
use mathlib.Core.Option.{some, none, some-injective, some-ne-none}
use mathlib.Core.Logic.{dite}
use native.Mathlib.Decide.{ℕ_discrete}
use lib.ListN.{get_elem?}
use Rattle.std.proofs.Math.Nat.{mod-add-mod}
use Rattle.atomic_table.specs.Table.{State, Me, step, keeps, takes, gives, Allows}
use Rattle.atomic_table.proofs.Lists.{set_here, set_again, one_turn}
use Rattle.golog_turn.specs.declared.view.View.{View}
use Rattle.golog_turn.specs.declared.view.Turn.TheVariants.{Away, Waits, Served}
use Rattle.golog_turn.specs.Parties.{AreOf, GoesOn}
use Rattle.golog_turn.specs.Turns.{ticket_of, is_served, view, tickets, count_parties, Fits, IsKept}
use Rattle.golog_turn.specs.Steps.{DrawsTicket, ReadsServing, Announces, PassesOn, IsIdle, IsWaiting, IsServed}
use Rattle.golog_turn.proofs.Totals.{total_set, total_le, at_self, each_set}
use Rattle.golog_turn.proofs.Parties.{own_none}
use Rattle.golog_turn.proofs.Views.{apart_set, below_drawn, has_party, drawn_later, not_served, grown, nearer, unserved_before, only_served, nothing_taken, goes_on, append-nil_sym}

module _ {E O : Type 0} (party : E → ℕ) (list : O → List E) where
  abbrev Rule : State O (View E) → Type 0
  Rule = IsKept list party

  abbrev St : Type 0
  St = State O (View E)

  -- fewer tickets are out than there are numbers
  few_out : (s : St) (r : Rule s) → r.drawn < r.serving + 2 ^ 32
  few_out s r =
      let le = total_le tickets count_parties s.views (λ i v at. has_party r.serving r.drawn r.history v v.turn (r.each i v at).2) in
      let w = r.waiting in
      let f = r.few in
      omega arith

  pub draws : (slots id : ℕ) (seen : List E) (ps : List ℕ) → 0 < length ps → let me : Me O (View E) = (view Away seen ps, []) in Allows Rule slots id me 0 (λ n. (n + 1) % 2 ^ 64) (DrawsTicket (step slots 0 1 0 none) me)
  draws slots id seen ps some_party s r _ at small =
      let v : View E = view Away seen ps in
      let w : View E = view (Waits r.drawn) seen ps in
      let fits = r.each id v at in
      let tickets_now = total_set tickets s.views id v w at in
      let parties_now = total_set count_parties s.views id v w at in
      let waiting = r.waiting in
      let few = r.few in (
        w,
        keeps,
        tt,
        record {
          drawn = r.drawn + 1;
          serving = r.serving;
          history = r.history;
          words = ap (λ ws. set ws 0 ((slice_index ws 0 + 1) % 2 ^ 64)) r.words ∙ ap (λ n. n ∷ r.serving % 2 ^ 64 ∷ length r.history % 2 ^ 64 ∷ []) (mod-add-mod r.drawn (2 ^ 64) 1);
          waiting = omega arith;
          few = omega arith;
          each = each_set (Fits party r.serving (r.drawn + 1) r.history) s.views id w (fits.0, fits.1, (omega arith, omega arith, some_party)) (λ i u _ at_u. let f = r.each i u at_u in (f.0, f.1, drawn_later r.serving r.drawn r.history u u.turn f.2));
          apart = apart_set s.views id w r.apart
              (λ j u ne at_u. (
                (λ t here there. let b = below_drawn r.serving r.drawn r.history u u.turn t (r.each j u at_u).2 there in let e : r.drawn ≡ t = some-injective r.drawn t here in absurd (omega arith)),
                (r.apart id j v u at at_u (λ e. ne (sym e))).1,
              ));
          home = λ none_served. r.home (unserved_before s.views id v w at refl none_served);
        },
        (r.drawn, ap (λ ws. slice_index ws 0) r.words, refl),
      )

  -- the turn has come, and the object is at home
  comes : (s : St) (r : Rule s) (id : ℕ) (seen : List E) (ps : List ℕ) (t : ℕ) → get_elem? s.views id ≡ some (view (Waits t) seen ps) → r.serving ≡ t → (o : O) × (get_elem? s.homes 0 ≡ some (some o)) × (list o ≡ r.history)
  comes s r id seen ps t at is =
      r.home
      (λ i u at_u. dite (ℕ_discrete i id)
      (λ same. subst (λ (x : View E). is_served x.turn ≡ false) (some-injective (view (Waits t) seen ps) u (sym at ∙ ap (λ k. get_elem? s.views k) (sym same) ∙ at_u)) refl)
      (λ other. not_served r.serving r.drawn r.history u u.turn (r.each i u at_u).2 (only_served party s.views id (view (Waits t) seen ps) r.serving r.drawn r.history r.apart r.each at (ap some (sym is)) i u other at_u)))

  served : (s : St) (r : Rule s) (id : ℕ) (seen : List E) (ps : List ℕ) (t : ℕ) (o : O) → get_elem? s.views id ≡ some (view (Waits t) seen ps) → r.serving ≡ t → list o ≡ r.history
      → Rule record { words = set s.words 1 (slice_index s.words 1); homes = set s.homes 0 none; views = set s.views id (view (Served t) (list o) ps) }
  served s r id seen ps t o at is stands =
      let v : View E = view (Waits t) seen ps in
      let w : View E = view (Served t) (list o) ps in
      let fits = r.each id v at in
      let tickets_now = total_set tickets s.views id v w at in
      let parties_now = total_set count_parties s.views id v w at in
      let waiting = r.waiting in
      let few = r.few in record {
        drawn = r.drawn;
        serving = r.serving;
        history = r.history;
        words = ap (λ ws. set ws 1 (slice_index ws 1)) r.words;
        waiting = omega arith;
        few = omega arith;
        each = each_set (Fits party r.serving r.drawn r.history) s.views id w (([], sym stands ∙ append-nil_sym (list o), refl), fits.1, (sym is, fits.2.1, fits.2.2, stands)) (λ i u _ at_u. r.each i u at_u);
        apart = apart_set s.views id w r.apart (λ j u ne at_u. r.apart id j v u at at_u (λ e. ne (sym e)));
        home = λ none_served. absurd (true≢false (none_served id w (at_self s.views id v w at)));
      }

  waits_on : (s : St) (r : Rule s) (id : ℕ) (v : View E) → get_elem? s.views id ≡ some v → Rule record { words = set s.words 1 (slice_index s.words 1); homes = s.homes; views = set s.views id v }
  waits_on s r id v at = subst Rule (λ i. record { words = same_words i; homes = s.homes; views = sym (set_again s.views id v at) i }) r
    where
      same_words : s.words ≡ set s.words 1 (slice_index s.words 1)
      same_words = r.words ∙ sym (ap (λ ws. set ws 1 (slice_index ws 1)) r.words)

  pub looks : (slots id : ℕ) (seen : List E) (ps : List ℕ) (t : ℕ) → let me : Me O (View E) = (view (Waits t) seen ps, []) in Allows Rule slots id me 1 (λ n. n) (ReadsServing list party (step slots 1 0 0 none) me)
  looks slots id seen ps t s r _ at small =
      let v : View E = view (Waits t) seen ps in
      let fits = r.each id v at in
      let few = few_out s r in
      let found : slice_index s.words 1 ≡ r.serving % 2 ^ 64 = ap (λ ws. slice_index ws 1) r.words in
      dite (ℕ_discrete (slice_index s.words 1) (t % 2 ^ 64))
      (λ come.
      let below = fits.2.1 in
      let least = fits.2.0 in
      let is = one_turn r.serving t (2 ^ 64) least (omega arith) (sym found ∙ come) in
      let home = comes s r id seen ps t at is in
      let o = home.0 in (
        view (Served t) (list o) ps,
        takes 0 o,
        home.1,
        served s r id seen ps t o at is home.2,
        λ u has. let e : t ≡ u = some-injective t u has in (
          (λ _. (o, subst (λ h. GoesOn party h seen ps) (sym home.2) fits.0, ap (λ k. (view (Served k) (list o) ps, (0, o) ∷ [])) e)),
          (λ not. absurd (not (come ∙ ap (λ k. k % 2 ^ 64) e))),
        ),
      ))
      (λ not_yet. (
        v,
        keeps,
        tt,
        waits_on s r id v at,
        λ u has. let e : t ≡ u = some-injective t u has in ((λ come. absurd (not_yet (come ∙ ap (λ k. k % 2 ^ 64) (sym e)))), (λ _. refl)),
      ))

  -- an entry of the seat's parties, or none, joins the history
  pub announces : (slots id : ℕ) (seen : List E) (ps : List ℕ) (t : ℕ) (o : O) (added : List E) (k : ℕ) → list o ≡ seen ++ added → AreOf party ps added → k ≡ length added
      → let me : Me O (View E) = (view (Served t) seen ps, (0, o) ∷ []) in Allows Rule slots id me 2 (λ n. (n + k) % 2 ^ 64) (Announces list (step slots 2 k 0 none) me)
  announces slots id seen ps t o added k stands are count s r _ at small =
      let v : View E = view (Served t) seen ps in
      let w : View E = view (Served t) (list o) ps in
      let fits = r.each id v at in
      let whole : seen ≡ r.history = fits.2.3 in
      let longer : list o ≡ r.history ++ added = stands ∙ ap (λ l. l ++ added) whole in
      let tickets_now = total_set tickets s.views id v w at in
      let parties_now = total_set count_parties s.views id v w at in
      let waiting = r.waiting in
      let few = r.few in
      let mine : ticket_of v.turn ≡ some r.serving = ap some fits.2.0 in (
        w,
        keeps,
        tt,
        record {
          drawn = r.drawn;
          serving = r.serving;
          history = r.history ++ added;
          words = ap (λ ws. set ws 2 ((slice_index ws 2 + k) % 2 ^ 64)) r.words
              ∙ ap (λ n. r.drawn % 2 ^ 64 ∷ r.serving % 2 ^ 64 ∷ n ∷ []) (mod-add-mod (length r.history) (2 ^ 64) k ∙ ap (λ n. n % 2 ^ 64) (ap (λ n. length r.history + n) count ∙ sym (length-append r.history added)));
          waiting = omega arith;
          few = omega arith;
          each = each_set (Fits party r.serving r.drawn (r.history ++ added)) s.views id w
              (([], sym longer ∙ append-nil_sym (list o), refl), nothing_taken party (r.history ++ added), (fits.2.0, fits.2.1, fits.2.2, longer))
              (λ i u ne at_u.
              let f = r.each i u at_u in
              let others = (r.apart id i v u at at_u (λ e. ne (sym e))).1 in (
                goes_on party r.history added u.seen u.parties f.0 (own_none party ps u.parties added (λ p here there. others p (inl here) (inl there)) are),
                goes_on party r.history added u.other_seen u.other_parties f.1 (own_none party ps u.other_parties added (λ p here there. others p (inl here) (inr there)) are),
                grown r.serving r.drawn r.history (r.history ++ added) u u.turn f.2 (not_served r.serving r.drawn r.history u u.turn f.2 (only_served party s.views id v r.serving r.drawn r.history r.apart r.each at mine i u ne at_u)),
              ));
          apart = apart_set s.views id w r.apart (λ j u ne at_u. r.apart id j v u at at_u (λ e. ne (sym e)));
          home = λ none_served. absurd (true≢false (none_served id w (at_self s.views id v w at)));
        },
        λ o' held. ap (λ l. (view (Served t) (list l) ps, (0, o) ∷ [])) (held_same o o' held),
      )
    where
      held_same : (o o' : O) → let held : O → List (ℕ × O) = λ x. (0, x) ∷ [] in held o ≡ held o' → o ≡ o'
      held_same o o' e = ap (λ (l : List (ℕ × O)). (get_or l 0 (0, o)).1) e

  -- the object goes home, and the turn passes on
  pub passes : (slots id : ℕ) (ps : List ℕ) (t : ℕ) (o : O) (k : ℕ) → 0 < slots → k ≡ (t + 1) % 2 ^ 64
      → let me : Me O (View E) = (view (Served t) (list o) ps, (0, o) ∷ []) in Allows Rule slots id me 1 (λ _. k) (λ _. PassesOn (step slots 1 k 0 none) me k)
  passes slots id ps t o k some_slot next s r wide at small =
      let v : View E = view (Served t) (list o) ps in
      let w : View E = view Away (list o) ps in
      let fits = r.each id v at in
      let tickets_now = total_set tickets s.views id v w at in
      let parties_now = total_set count_parties s.views id v w at in
      let waiting = r.waiting in
      let few = r.few in
      let mine : ticket_of v.turn ≡ some r.serving = ap some fits.2.0 in
      let other = only_served party s.views id v r.serving r.drawn r.history r.apart r.each at mine in (
        w,
        gives,
        tt,
        record {
          drawn = r.drawn;
          serving = r.serving + 1;
          history = r.history;
          words = ap (λ ws. set ws 1 k) r.words ∙ ap (λ n. r.drawn % 2 ^ 64 ∷ n ∷ length r.history % 2 ^ 64 ∷ []) (next ∙ ap (λ n. (n + 1) % 2 ^ 64) fits.2.0);
          waiting = omega arith;
          few = omega arith;
          each = each_set (Fits party (r.serving + 1) r.drawn r.history) s.views id w (fits.0, fits.1, tt) (λ i u ne at_u. let f = r.each i u at_u in (f.0, f.1, nearer r.serving r.drawn r.history u u.turn f.2 (other i u ne at_u)));
          apart = apart_set s.views id w r.apart (λ j u ne at_u. ((λ _ none_is _. absurd (some-ne-none _ (sym none_is))), (r.apart id j v u at at_u (λ e. ne (sym e))).1));
          home = λ none_served. (o, set_here s.homes 0 (some o) (omega arith), fits.2.3);
        },
        refl,
      )

  -- the same at a seat that stands so
  pub draws_as : (slots id : ℕ) (me : Me O (View E)) → IsIdle me → 0 < length me.0.parties → Allows Rule slots id me 0 (λ n. (n + 1) % 2 ^ 64) (DrawsTicket (step slots 0 1 0 none) me)
  draws_as slots id me idle some_party =
      subst (λ (m : Me O (View E)). Allows Rule slots id m 0 (λ n. (n + 1) % 2 ^ 64) (DrawsTicket (step slots 0 1 0 none) m)) (sym idle) (draws slots id me.0.seen me.0.parties some_party)

  pub looks_as : (slots id ticket : ℕ) (me : Me O (View E)) → IsWaiting ticket me → Allows Rule slots id me 1 (λ n. n) (ReadsServing list party (step slots 1 0 0 none) me)
  looks_as slots id ticket me waits =
      subst (λ (m : Me O (View E)). Allows Rule slots id m 1 (λ n. n) (ReadsServing list party (step slots 1 0 0 none) m)) (sym waits.2) (looks slots id me.0.seen me.0.parties waits.0)

  pub announces_as : (slots id ticket : ℕ) (me : Me O (View E)) (added : List E) (k : ℕ) → IsServed list ticket added me → AreOf party me.0.parties added → k ≡ length added
      → Allows Rule slots id me 2 (λ n. (n + k) % 2 ^ 64) (Announces list (step slots 2 k 0 none) me)
  announces_as slots id ticket me added k served are count =
      subst (λ (m : Me O (View E)). Allows Rule slots id m 2 (λ n. (n + k) % 2 ^ 64) (Announces list (step slots 2 k 0 none) m)) (sym served.4)
      (announces slots id me.0.seen me.0.parties served.0 served.1 added k served.3 are count)

  pub passes_as : (slots id ticket : ℕ) (me : Me O (View E)) (k : ℕ) → 0 < slots → IsServed list ticket [] me → k ≡ (ticket + 1) % 2 ^ 64 → Allows Rule slots id me 1 (λ _. k) (λ _. PassesOn (step slots 1 k 0 none) me k)
  passes_as slots id ticket me k some_slot served next =
      let t = served.0 in
      let o = served.1 in
      let whole : list o ≡ me.0.seen = served.3 ∙ append-nil me.0.seen in
      let now : me ≡ (view (Served t) (list o) me.0.parties, (0, o) ∷ []) = served.4 ∙ ap (λ h. (view (Served t) h me.0.parties, (0, o) ∷ [])) (sym whole) in
      subst (λ (m : Me O (View E)). Allows Rule slots id m 1 (λ _. k) (λ _. PassesOn (step slots 1 k 0 none) m k)) (sym now)
      (passes slots id me.0.parties t o k some_slot (next ∙ ap (λ n. (n + 1) % 2 ^ 64) served.2 ∙ mod-add-mod t (2 ^ 64) 1))
