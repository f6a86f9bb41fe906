-- Views that are apart, and tickets in turn.
use Rattle.std.proofs.Common.{◌≡◌, ◌≢◌, inl, inr, ℕ, ◌+◌, ◌<◌, ◌≤◌, true, false, true≢false, List, [], ◌∷◌, ◌++◌, set, refl, sym, ap, ◌∙◌, subst, ⊎_elim, arith, append-nil, append_assoc}
use mathlib.Core.Option.{some, some-injective, some-ne-none}
use mathlib.Core.Logic.{dite}
use native.Mathlib.Decide.{ℕ_discrete}
use lib.ListN.{get_elem?}
use Rattle.atomic_table.proofs.Lists.{at_set, set_else}
use Rattle.golog_turn.specs.declared.view.View.{View}
use Rattle.golog_turn.specs.declared.view.Turn.{Turn}
use Rattle.golog_turn.specs.declared.view.Turn.TheVariants.{Away, Waits, Served}
use Rattle.golog_turn.specs.Parties.{contains, without, own, GoesOn}
use Rattle.golog_turn.specs.Turns.{ticket_of, tickets_of, is_served, view, taking, Holds, count_parties, InTurn, Fits, AreApart}
use Rattle.golog_turn.proofs.Totals.{at_last_or}
use Rattle.golog_turn.proofs.Parties.{own-append, own_nobody, contains_either, contains-without, only}

module _ {E : Type 0} where
  pub sides : (v w : View E) → AreApart v w → AreApart w v
  sides v w a = ((λ t x y. a.0 t y x), (λ p x y. a.1 p y x))

  -- one seat has changed, and is apart from the others
  abbrev pub AllApart : List (View E) → Type 0
  AllApart views = (i j : ℕ) (v w : View E) → get_elem? views i ≡ some v → get_elem? views j ≡ some w → ¬ (i ≡ j) → AreApart v w

  pub apart_set : (views : List (View E)) (id : ℕ) (w : View E) → AllApart views → ((j : ℕ) (u : View E) → j ≢ id → get_elem? views j ≡ some u → AreApart w u) → AllApart (set views id w)
  apart_set views id w apart new i j u v at_i at_j ne =
      ⊎_elim
      (λ a. ⊎_elim
      (λ b. absurd (ne (a.0 ∙ sym b.0)))
      (λ b. subst (λ x. AreApart x v) a.1 (new j v b.0 b.1))
      (at_set views id j w v at_j))
      (λ a. ⊎_elim
      (λ b. subst (λ x. AreApart u x) b.1 (sides w u (new i u a.0 a.1)))
      (λ b. apart i j u v a.1 b.1 ne)
      (at_set views id j w v at_j))
      (at_set views id i w u at_i)

  -- a ticket that is out is below those not drawn, and its seat holds a party
  pub below_drawn : (serving drawn : ℕ) (history : List E) (v : View E) (turn : Turn) (t : ℕ) → InTurn serving drawn history v turn → ticket_of turn ≡ some t → t < drawn
  below_drawn s d h v Away t fits has = absurd (some-ne-none t (sym has))
  below_drawn s d h v (Waits u) t fits has = let e : u ≡ t = some-injective u t has in let b = fits.1 in omega arith
  below_drawn s d h v (Served u) t fits has = let e : u ≡ t = some-injective u t has in let b = fits.1 in omega arith

  pub has_party : (serving drawn : ℕ) (history : List E) (v : View E) (turn : Turn) → InTurn serving drawn history v turn → tickets_of turn ≤ count_parties v
  has_party s d h v Away fits = omega arith
  has_party s d h v (Waits u) fits = let p = fits.2 in omega arith
  has_party s d h v (Served u) fits = let p = fits.2 in omega arith

  -- more tickets are drawn
  pub drawn_later : (serving drawn : ℕ) (history : List E) (v : View E) (turn : Turn) → InTurn serving drawn history v turn → InTurn serving (drawn + 1) history v turn
  drawn_later s d h v Away fits = tt
  drawn_later s d h v (Waits u) fits = let b = fits.1 in (fits.0, omega arith, fits.2)
  drawn_later s d h v (Served u) fits = let b = fits.1 in (fits.0, omega arith, fits.2, fits.3)

  -- a seat that has not the ticket that is served is not served
  pub not_served : (serving drawn : ℕ) (history : List E) (v : View E) (turn : Turn) → InTurn serving drawn history v turn → (ticket_of turn ≡ some serving → ⊥) → is_served turn ≡ false
  not_served s d h v Away fits other = refl
  not_served s d h v (Waits u) fits other = refl
  not_served s d h v (Served u) fits other = absurd (other (ap some fits.0))

  -- of the others, the history may grow while one seat is served
  pub grown : (serving drawn : ℕ) (history longer : List E) (v : View E) (turn : Turn) → InTurn serving drawn history v turn → is_served turn ≡ false → InTurn serving drawn longer v turn
  grown s d h l v Away fits not = tt
  grown s d h l v (Waits u) fits not = fits
  grown s d h l v (Served u) fits not = absurd (true≢false not)

  -- the others come nearer where the turn passes on
  pub nearer : (serving drawn : ℕ) (history : List E) (v : View E) (turn : Turn) → InTurn serving drawn history v turn → (ticket_of turn ≡ some serving → ⊥) → InTurn (serving + 1) drawn history v turn
  nearer s d h v Away fits other = tt
  nearer s d h v (Waits u) fits other = let le = fits.0 in let ne : u ≢ s = λ e. other (ap some e) in (omega arith, fits.1, fits.2)
  nearer s d h v (Served u) fits other = absurd (other (ap some fits.0))

  -- where no seat is served after one has changed, none was before
  pub unserved_before : (views : List (View E)) (id : ℕ) (v w : View E) → get_elem? views id ≡ some v → is_served v.turn ≡ false
      → ((i : ℕ) (u : View E) → get_elem? (set views id w) i ≡ some u → is_served u.turn ≡ false) → (i : ℕ) (u : View E) → get_elem? views i ≡ some u → is_served u.turn ≡ false
  unserved_before views id v w at not after i u at_u =
      dite (ℕ_discrete i id)
      (λ same. subst (λ (x : View E). is_served x.turn ≡ false) (some-injective v u (sym at ∙ ap (λ k. get_elem? views k) (sym same) ∙ at_u)) not)
      (λ other. after i u (set_else views id i w other ∙ at_u))

  pub apart_snoc : (views : List (View E)) (w : View E) → AllApart views → ((j : ℕ) (u : View E) → get_elem? views j ≡ some u → AreApart w u) → AllApart (views ++ w ∷ [])
  apart_snoc views w apart new i j u v at_i at_j ne =
      ⊎_elim
      (λ old_i. ⊎_elim
      (λ old_j. apart i j u v old_i old_j ne)
      (λ b. subst (λ x. AreApart u x) b.1 (sides w u (new i u old_i)))
      (at_last_or views w v j at_j))
      (λ a. ⊎_elim
      (λ old_j. subst (λ x. AreApart x v) a.1 (new j v old_j))
      (λ b. absurd (ne (a.0 ∙ sym b.0)))
      (at_last_or views w v j at_j))
      (at_last_or views w u i at_i)

  -- a seat with no ticket and no more parties than one that is apart from a third is so too
  pub idle_apart : (seen : List E) (ps qs : List ℕ) → ((p : ℕ) → contains qs p ≡ true → contains ps p ≡ true) → (u : View E) → AreApart (view Away seen ps) u → AreApart (view Away seen qs) u
  idle_apart seen ps qs fewer u apart = ((λ _ none_is _. absurd (some-ne-none _ (sym none_is))), λ p here there. ⊎_elim (λ h. apart.1 p (inl (fewer p h)) there) (λ h. apart.1 p (inr h) there) here)

  pub nobody_apart : (u : View E) → AreApart (view Away [] []) u
  nobody_apart u = ((λ _ none_is _. absurd (some-ne-none _ (sym none_is))), λ p here there. ⊎_elim (λ h. true≢false (sym h)) (λ h. true≢false (sym h)) here)

  pub taking_apart : (seen : List E) (ps : List ℕ) (seen' : List E) (qs : List ℕ) (u : View E) → AreApart (view Away seen ps) u → AreApart (view Away seen' qs) u → AreApart (taking (view Away seen ps) (view Away seen' qs)) u
  taking_apart seen ps seen' qs u a b = (a.0, λ p here there. ⊎_elim (λ h. a.1 p (inl h) there) (λ h. b.1 p (inl h) there) here)

  pub compared_apart : (seen : List E) (ps : List ℕ) (seen' : List E) (qs : List ℕ) (kept : List E) (u : View E) → AreApart (taking (view Away seen ps) (view Away seen' qs)) u → AreApart (view Away kept (ps ++ qs)) u
  compared_apart seen ps seen' qs kept u a = (a.0, λ p here there. ⊎_elim (λ h. a.1 p (contains_either ps qs p h) there) (λ h. absurd (true≢false (sym h))) here)

  -- the party that goes, and those that stay
  pub one_out : (p : ℕ) (seen : List E) (ps : List ℕ) (q : ℕ) → Holds (view Away seen (p ∷ [])) q → Holds (view Away seen (without p ps)) q → ⊥
  one_out p seen ps q here there =
      ⊎_elim (λ h. ⊎_elim (λ h'. (contains-without p ps q h').1 (only p q h)) (λ none_is. true≢false (sym none_is)) there) (λ none_is. true≢false (sym none_is)) here

  pub append-nil_sym : (l : List E) → l ≡ l ++ []
  append-nil_sym l = sym (append-nil l)

module _ {E : Type 0} (party : E → ℕ) where
  -- a seat that has the ticket that is served keeps the others from being served
  pub only_served : (views : List (View E)) (id : ℕ) (v : View E) (serving drawn : ℕ) (history : List E) → AllApart views → ((i : ℕ) (u : View E) → get_elem? views i ≡ some u → Fits party serving drawn history u)
      → get_elem? views id ≡ some v → ticket_of v.turn ≡ some serving → (i : ℕ) (u : View E) → i ≢ id → get_elem? views i ≡ some u → ticket_of u.turn ≡ some serving → ⊥
  only_served views id v s d h apart each at mine i u ne at_u theirs = (apart id i v u at at_u (λ e. ne (sym e))).0 s mine theirs

  pub nothing_taken : (history : List E) → GoesOn party history [] []
  nothing_taken history = (history, refl, own_nobody party history)

  pub goes_on : (history added seen : List E) (ps : List ℕ) → GoesOn party history seen ps → own party ps added ≡ [] → GoesOn party (history ++ added) seen ps
  goes_on history added seen ps goes no_more = (goes.0 ++ added, ap (λ l. l ++ added) goes.1 ∙ append_assoc seen goes.0 added, own-append party ps goes.0 added ∙ (λ j. goes.2 j ++ no_more j))
