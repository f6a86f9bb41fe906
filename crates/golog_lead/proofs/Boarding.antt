-- What a board adds between the calls of a turn.
use Rattle.std.proofs.Common.{◌≡◌, ℕ, Bool, true, false, not, ◌||◌, [], ◌∷◌, ◌++◌, Option, Some, None, refl, sym, ap, ◌∙◌, subst, append_assoc}
use Rattle.std.specs.Prelude.{is_some}
use Rattle.std.specs.List.{list_any, list_all}
use Rattle.std.specs.Option.{option_map_or}
use Rattle.std.proofs.lemmas.Bool.{or_parts, or_from, and_from}
use Rattle.std.proofs.lemmas.List.{append-nil}
use Rattle.std.proofs.lemmas.List.Folds.{list_any-append}
use Rattle.golog_base.proofs.Bools.{or-false}
use Rattle.golog_semantics.specs.declared.journal.Entry.{Entry}
use Rattle.golog_semantics.specs.declared.journal.Entry.TheVariants.{Do, Test, Exo, Sense, Rest, Close, End}
use Rattle.golog_semantics.specs.Journal.{Journal, has_end, is_end, poster_of}
use Rattle.golog_journal.specs.Growing.{AreOthers, Called, Sight, party_of, program}
use Rattle.golog_journal.specs.Leading.{is_of_program, may_come}
use Rattle.golog_lead.specs.Courses.{Course}
use Rattle.golog_lead.specs.Seeing.{Follows, IsOver}

-- ---- entries of devices

foreign-one : (holds : ℕ → Bool) → holds program ≡ true → (o : Option ℕ) → holds (option_map_or (λ d. d) o program) ≡ false → not (is_some o) ≡ false
foreign-one holds held None h = absurd (let k = sym held ∙ h in cc)
foreign-one holds held (Some d) h = refl

foreign-all : (holds : ℕ → Bool) → holds program ≡ true → (others : Journal) → list_any (λ e. holds (party_of e)) others ≡ false → list_any is_of_program others ≡ false
foreign-all holds held [] h = refl
foreign-all holds held (e ∷ others) h =
    let parts = or_parts (holds (party_of e)) (list_any (λ x. holds (party_of x)) others) h in
    or_from _ _ (foreign-one holds held (poster_of e) parts.0) (foreign-all holds held others parts.1)

-- what others add to a board that holds the program are entries of devices
pub of-devices : (sight : Sight) (others : Journal) → sight.holds program ≡ true → AreOthers sight others → list_any is_of_program others ≡ false
of-devices sight others held are = foreign-all sight.holds held others are.foreign

no-end-one : (e : Entry) → is_of_program e ≡ false → is_end e ≡ false
no-end-one (Do a) h = refl
no-end-one Test h = refl
no-end-one (Exo p a) h = refl
no-end-one (Sense p at f v) h = refl
no-end-one (Rest p t) h = refl
no-end-one (Close p r t) h = refl
no-end-one (End a) h = absurd (cc)

pub no-end-in : (others : Journal) → list_any is_of_program others ≡ false → has_end others ≡ false
no-end-in [] h = refl
no-end-in (e ∷ others) h =
    let parts = or_parts (is_of_program e) (list_any is_of_program others) h in
    or_from _ _ (no-end-one e parts.0) (no-end-in others parts.1)

-- entries of devices do not end the program
pub end-stays : (seen others : Journal) → list_any is_of_program others ≡ false → has_end (seen ++ others) ≡ has_end seen
end-stays seen others h = list_any-append is_end seen others ∙ ap (λ b. has_end seen || b) (no-end-in others h) ∙ or-false (has_end seen)

-- ---- calls

module _ (answers : Journal → Journal → Type 0) (old new : Sight) (call : Called answers old new) where
  pub called-seen : call.added ≡ [] → new.seen ≡ old.seen ++ call.others
  called-seen e = call.grows ∙ ap (λ added. (old.seen ++ call.others) ++ added) e ∙ append-nil (old.seen ++ call.others)

  pub called-follows : (committed : Journal) → call.added ≡ committed → Follows old new committed
  called-follows committed e = record {
    same_agent = call.agent;
    same_alone = call.alone;
    same_holds = call.holds;
    others = call.others;
    are_others = call.are_others;
    grows = call.grows ∙ ap (λ added. (old.seen ++ call.others) ++ added) e;
  }

pub seen-so : (old new : Sight) (f : Follows old new []) → new.seen ≡ old.seen ++ f.others
seen-so old new f = f.grows ∙ append-nil (old.seen ++ f.others)

pub no-change : (sight : Sight) → Follows sight sight []
no-change sight = record {
  same_agent = refl;
  same_alone = refl;
  same_holds = refl;
  others = [];
  are_others = record { foreign = refl; none = λ h. refl };
  grows = sym (append-nil (sight.seen ++ []) ∙ append-nil sight.seen);
}

module _ (a b c : Sight) (f : Follows a b []) where
  pub both-others : (added : Journal) (g : Follows b c added) → AreOthers a (f.others ++ g.others)
  both-others added g = record {
    foreign =
        list_any-append (λ e. a.holds (party_of e)) f.others g.others
        ∙ or_from _ _ f.are_others.foreign (subst (λ holds. list_any (λ e. holds (party_of e)) g.others ≡ false) f.same_holds g.are_others.foreign);
    none = λ h. ap (λ others. others ++ g.others) (f.are_others.none h) ∙ g.are_others.none (f.same_alone ∙ h);
  }

  unfoldable pub compose : (added : Journal) → Follows b c added → Follows a c added
  compose added g = record {
    same_agent = g.same_agent ∙ f.same_agent;
    same_alone = g.same_alone ∙ f.same_alone;
    same_holds = g.same_holds ∙ f.same_holds;
    others = f.others ++ g.others;
    are_others = both-others added g;
    grows =
        g.grows ∙ ap (λ seen. (seen ++ g.others) ++ added) (seen-so a b f)
        ∙ ap (λ seen. seen ++ added) (append_assoc a.seen f.others g.others);
  }

module _ (old new : Sight) (f : Follows old new []) where
  pub still-held : old.holds program ≡ true → new.holds program ≡ true
  still-held held = ap (λ holds. holds program) f.same_holds ∙ held

  pub still-over : (course : Course) → IsOver course old → IsOver course new
  still-over course over = record {
    of_agent = over.of_agent ∙ sym f.same_agent;
    held = still-held over.held;
    behind = record {
      since = over.behind.since ++ f.others;
      front = seen-so old new f ∙ ap (λ seen. seen ++ f.others) over.behind.front ∙ append_assoc course.list over.behind.since f.others;
      of_devices =
          list_any-append is_of_program over.behind.since f.others
          ∙ or_from _ _ over.behind.of_devices (of-devices old f.others over.held f.are_others);
    };
  }

  pub end-as-before : old.holds program ≡ true → has_end new.seen ≡ has_end old.seen
  end-as-before held = ap has_end (seen-so old new f) ∙ end-stays old.seen f.others (of-devices old f.others held f.are_others)

pub over-whole : (course : Course) (sight : Sight) → course.agent ≡ sight.agent → sight.holds program ≡ true → course.list ≡ sight.seen → IsOver course sight
over-whole course sight agent held whole = record {
  of_agent = agent;
  held = held;
  behind = record { since = []; front = sym whole ∙ sym (append-nil course.list); of_devices = refl };
}

-- ---- entries that may come

come-one : (sight : Sight) (e : Entry) → sight.alone ≡ false → sight.holds (party_of e) ≡ false → may_come sight e ≡ true
come-one sight e alone foreign = last (is_of_program e) (ap (λ b. not (b || sight.holds (party_of e))) alone ∙ ap not foreign)
  where
    last : (b : Bool) → {c : Bool} → c ≡ true → (b || c) ≡ true
    last true h = refl
    last false h = h

come-all : (sight : Sight) (others : Journal) → sight.alone ≡ false → list_any (λ e. sight.holds (party_of e)) others ≡ false → list_all (may_come sight) others ≡ true
come-all sight [] alone h = refl
come-all sight (e ∷ others) alone h =
    let parts = or_parts (sight.holds (party_of e)) (list_any (λ x. sight.holds (party_of x)) others) h in
    and_from _ _ (come-one sight e alone parts.0) (come-all sight others alone parts.1)

-- what others add may come
pub others-come : (sight : Sight) (others : Journal) → AreOthers sight others → list_all (may_come sight) others ≡ true
others-come sight others are = go sight.alone refl
  where
    go : (b : Bool) → sight.alone ≡ b → list_all (may_come sight) others ≡ true
    go true alone = ap (list_all (may_come sight)) (are.none alone)
    go false alone = come-all sight others alone are.foreign
