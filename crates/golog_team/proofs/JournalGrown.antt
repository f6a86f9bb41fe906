-- What a side keeps of a journal with one more entry.
use Rattle.std.proofs.Common.{◌≡◌, ℕ, suc, ◌+◌, ◌≤◌, ◌<◌, Bool, true, false, not, ◌&&◌, ◌||◌, ◌==◌, if◌then◌else◌, Option, Some, None, List, [], ◌∷◌, ◌++◌, length, length-append, take, refl, sym, ap, ◌∙◌, subst, arith, ◌⊎◌, inl, inr}
use Rattle.std.specs.Prelude.{map, Contains, get_or, is_some, zero}
use Rattle.std.specs.List.{list_any}
use Rattle.std.specs.Option.{option_map_or}
use Rattle.std.proofs.lemmas.Bool.{or_parts, or_from, or_right}
use Rattle.std.proofs.lemmas.List.{append-nil, map-append, take-append-le}
use Rattle.std.proofs.lemmas.List.Folds.{list_any-append}
use Rattle.std.proofs.lemmas.List.Elements.{filter_map-append, Contains-push_cases}
use Rattle.golog_base.proofs.Bools.{and-true}
use Rattle.golog_tree.specs.declared.agent.Agent.{Agent}
use Rattle.golog_semantics.specs.declared.journal.Entry.{Entry}
use Rattle.golog_semantics.specs.declared.journal.Entry.TheVariants.{Do, Test, Exo, Sense, Rest, Close, End}
use Rattle.golog_semantics.specs.declared.journal.Reason.{Reason}
use Rattle.golog_semantics.specs.declared.journal.Reason.TheVariants as why
use Rattle.golog_semantics.specs.Journal.{Journal, Command, commands, is_carried_by, is_posted_by, poster_of, entries_by, is_close, is_open, is_end, has_end, is_at_rest, is_rest_after, last_of}
use Rattle.golog_semantics.specs.OneMore.{new_command}
use Rattle.golog_semantics.proofs.Grown.{posted-push, posts_grow, commands-push, commands_grow, entries_grow}
use Rattle.golog_journal.specs.Boards.{IsBoardList}
use Rattle.golog_journal.specs.Taken.{IsDriven, IsReady}
use Rattle.golog_journal.specs.Leading.{is_of_program}
use Rattle.golog_journal.proofs.Staying.{ready_stays}
use Rattle.golog_team.specs.Notes.{Notes, put_by}
use Rattle.golog_team.specs.Linked.{commanded, exo_of, posted, is_sense, texts, WaitsAt, BothWaitAt}
use Rattle.golog_team.specs.Keeping.{RestedSo, WaitedSo, ClosedSo, IsClosedFor, CameToEnd}
use Rattle.golog_team.proofs.NoteLists.{StandsLeft, StandsRight, where-it-stands, at-the-end, any-there, none-both}

-- ---- where a device is closed

-- no Close of the one device stands in a journal in which it is open
pub close-shuts : (journal : Journal) (reason : Reason) (taken : ℕ) → Contains journal (Close 0 reason taken) → is_open 0 journal ≡ false
close-shuts journal reason taken (k, within, at) = ap not (go journal k within at)
  where
    go : (es : Journal) (k : ℕ) → k < length es → get_or es k (Close 0 reason taken) ≡ Close 0 reason taken → list_any is_close (entries_by 0 es) ≡ true
    go [] k within at = absurd (omega (arith, within))
    go (e ∷ es) zero within at = ap (λ x. list_any is_close (entries_by 0 (x ∷ es))) at
    go (e ∷ es) (suc k) within at = later (is_posted_by 0 e) (go es k (omega (arith, within)) at)
      where
        later : (b : Bool) → list_any is_close (entries_by 0 es) ≡ true → list_any is_close (if b then e ∷ entries_by 0 es else entries_by 0 es) ≡ true
        later true h = or_right (is_close e) _ h
        later false h = h

pub none-closed : {P : Type 0} (journal : Journal) (reason : Reason) (taken : ℕ) → is_open 0 journal ≡ true → Contains journal (Close 0 reason taken) → P
none-closed journal reason taken still there = absurd (let k = close-shuts journal reason taken there in let j = sym still ∙ k in cc)

-- ---- one more entry

module _ (journal : Journal) (e : Entry) where
  abbrev longer : Journal
  longer = journal ++ e ∷ []

  pub posted-more : (o : Option ℕ) → exo_of e ≡ o → posted longer ≡ posted journal ++ (option_map_or (λ a. a ∷ []) o [])
  posted-more o is = filter_map-append exo_of journal (e ∷ []) ∙ ap (λ l. posted journal ++ l) (one o is)
    where
      one : (o : Option ℕ) → exo_of e ≡ o → posted (e ∷ []) ≡ option_map_or (λ a. a ∷ []) o []
      one None is = rw is refl
      one (Some a) is = rw is refl

  pub posted-same : exo_of e ≡ None → posted longer ≡ posted journal
  posted-same none = posted-more None none ∙ append-nil (posted journal)

  pub senseless-more : is_sense e ≡ false → list_any is_sense journal ≡ false → list_any is_sense longer ≡ false
  senseless-more none before = none-both is_sense journal (e ∷ []) before (or_from (is_sense e) false none refl)

  pub rested-more : (side : ℕ) (notes : Notes) → ((k : ℕ) → e ≡ Rest 0 k → ⊥) → RestedSo side notes journal → RestedSo side notes longer
  rested-more side notes other so before later k is = go (where-it-stands journal (e ∷ []) before later (Rest 0 k) is)
    where
      go : StandsLeft journal before (Rest 0 k) ⊎ StandsRight journal (e ∷ []) before later (Rest 0 k) → BothWaitAt side notes (length before)
      go (inl l) = so before l.mid k l.is
      go (inr r) = absurd (other k (at-the-end e (Rest 0 k) r.mid later r.is).1)

  pub end-more : is_end e ≡ false → has_end longer ≡ false → has_end journal ≡ false
  end-more none h = let k : (has_end journal || is_end e) ≡ false = sym (entries_grow journal e).end ∙ h in (or_parts (has_end journal) (is_end e) k).0

module _ (agent : Agent) (journal : Journal) (e : Entry) where
  pub commanded-more : commanded agent (journal ++ e ∷ []) ≡ commanded agent journal ++ map (λ (c : Command). c.action) (new_command agent journal e 0)
  commanded-more = ap (map (λ (c : Command). c.action)) (commands-push agent journal e 0) ∙ map-append (λ (c : Command). c.action) (commands agent 0 journal) (new_command agent journal e 0)

  pub commanded-same : new_command agent journal e 0 ≡ [] → commanded agent (journal ++ e ∷ []) ≡ commanded agent journal
  commanded-same none = commanded-more ∙ ap (λ cs. commanded agent journal ++ map (λ (c : Command). c.action) cs) none ∙ append-nil (commanded agent journal)

  -- where it waited it did
  pub waited-longer : (other : Agent) (side : ℕ) (waits : Journal → Bool) (notes : Notes) → WaitedSo agent other side waits notes journal
      → WaitedSo agent other side waits notes (journal ++ e ∷ [])
  waited-longer other side waits notes so before later n is =
      let w = so before later n is in
      let same : take n (journal ++ e ∷ []) ≡ take n journal = take-append-le n journal (e ∷ []) w.within in
      let inside = w.within in
      let more = length-append journal (e ∷ []) in
      record {
        within = omega (arith, inside, more);
        came = ap (λ j. length (posted j)) same ∙ w.came;
        went = ap (λ j. length (commanded agent j)) same ∙ w.went;
        still_open = ap (is_open 0) same ∙ w.still_open;
        waiting = ap waits same ∙ w.waiting;
      }

  module _ (own : is_of_program e ≡ true) where
    no-poster : poster_of e ≡ None
    no-poster = none (poster_of e) refl own
      where
        none : (o : Option ℕ) → poster_of e ≡ o → not (is_some o) ≡ true → poster_of e ≡ None
        none None is h = is
        none (Some d) is h = absurd (cc)

    pub not-its : (d : ℕ) → is_posted_by d e ≡ false
    not-its d = ap (λ o. option_map_or (λ p. p == d) o false) no-poster

    pub open-still : is_open 0 (journal ++ e ∷ []) ≡ is_open 0 journal
    open-still = (posts_grow journal e 0).open_still ∙ ap (λ b. is_open 0 journal && not (b && is_close e)) (not-its 0) ∙ and-true (is_open 0 journal)

    pub rest-still : new_command agent journal e 0 ≡ [] → is_at_rest agent (journal ++ e ∷ []) 0 ≡ is_at_rest agent journal 0
    rest-still none =
        (commands_grow agent journal e 0).rest
        ∙ ap (λ b. if b then is_rest_after (length (commands agent 0 (journal ++ e ∷ []))) e
        else option_map_or (is_rest_after (length (commands agent 0 (journal ++ e ∷ [])))) (last_of (entries_by 0 journal)) false) (not-its 0)
        ∙ ap (λ cs. option_map_or (is_rest_after (length cs)) (last_of (entries_by 0 journal)) false)
        (commands-push agent journal e 0 ∙ ap (λ cs. commands agent 0 journal ++ cs) none ∙ append-nil (commands agent 0 journal))

    pub no-exo : exo_of e ≡ None
    no-exo = by e no-poster
      where
        by : (e : Entry) → poster_of e ≡ None → exo_of e ≡ None
        by (Exo p a) h = absurd (cc)
        by (Do a) h = refl
        by Test h = refl
        by (Sense p at f v) h = refl
        by (Rest p t) h = refl
        by (Close p r t) h = refl
        by (End a) h = refl

    pub no-sense : is_sense e ≡ false
    no-sense = by e no-poster
      where
        by : (e : Entry) → poster_of e ≡ None → is_sense e ≡ false
        by (Sense p at f v) h = absurd (cc)
        by (Exo p a) h = refl
        by (Do a) h = refl
        by Test h = refl
        by (Rest p t) h = refl
        by (Close p r t) h = refl
        by (End a) h = refl

    pub no-rest : (k : ℕ) → e ≡ Rest 0 k → ⊥
    no-rest k is = let h = ap poster_of is in let j = sym no-poster ∙ h in absurd (cc)

    pub ready-still : (taken : ℕ) → IsBoardList agent journal → IsReady agent journal 0 taken → IsReady agent (journal ++ e ∷ []) 0 taken
    ready-still taken list ready = ready_stays agent journal (e ∷ []) 0 taken list (or_from (is_posted_by 0 e) false (not-its 0) refl) ready

    -- no device is closed by it
    pub closed-still : (other : Agent) (side : ℕ) (notes : Notes) (count : ℕ) → ClosedSo agent other side notes journal count
        → ClosedSo agent other side notes (journal ++ e ∷ []) count
    closed-still other side notes count so reason taken there = go (Contains-push_cases journal e (Close 0 reason taken) there)
      where
        go : Contains journal (Close 0 reason taken) ⊎ (e ≡ Close 0 reason taken) → IsClosedFor agent other side notes (journal ++ e ∷ []) count reason taken
        go (inl before) =
            let c = so reason taken before in
            record {
              same_taken = c.same_taken;
              unrefused = c.unrefused;
              bad = c.bad;
              at_end = λ h. let a = c.at_end h in record {
                before = a.before;
                later = a.later;
                stands = a.stands;
                whole = ap (texts agent) (posted-same journal e no-exo) ∙ a.whole;
              };
            }
        go (inr is) = let h = ap poster_of is in let j = sym no-poster ∙ h in absurd (cc)
