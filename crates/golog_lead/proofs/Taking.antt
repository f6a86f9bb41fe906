-- Taking what devices have posted, entry by entry.
use Rattle.std.proofs.Common.{◌≡◌, ℕ, zero, suc, ◌+◌, ◌<◌, false, Bool, [], ◌∷◌, ◌++◌, length, take, drop, get_or, refl, sym, ap, ◌∙◌, subst, arith, append_assoc}
use Rattle.std.specs.List.{list_any}
use Rattle.std.proofs.lemmas.Bool.{or_parts}
use Rattle.std.proofs.lemmas.List.{append-nil, take_more, take-append-drop}
use Rattle.golog_tree.specs.declared.agent.Agent.{Agent}
use Rattle.golog_semantics.specs.declared.journal.Entry.{Entry}
use Rattle.golog_semantics.specs.declared.journal.Entry.TheVariants.{Do, Test, Exo, Sense, Rest, Close, End}
use Rattle.golog_semantics.specs.Journal.{Journal}
use Rattle.golog_journal.specs.Boards.{IsBoardList}
use Rattle.golog_journal.specs.Leading.{is_of_program}
use Rattle.golog_lead.specs.Courses.{Course}
use Rattle.golog_lead.specs.Run.{is_step_entry}
use Rattle.golog_device.proofs.Asked.{lawful-prefix}

-- as contracts see it
abbrev pub seen_as : Agent → Journal → Course
seen_as agent list = record { agent = agent; list = list }

any-at : (p : Entry → Bool) (xs : Journal) (i : ℕ) (d : Entry) → list_any p xs ≡ false → i < length xs → p (get_or xs i d) ≡ false
any-at p [] i d h inside = absurd (omega (arith, inside))
any-at p (x ∷ xs) zero d h inside = (or_parts (p x) (list_any p xs) h).0
any-at p (x ∷ xs) (suc i) d h inside = any-at p xs i d (or_parts (p x) (list_any p xs) h).1 (omega (arith, inside))

-- an entry of a device is no step
pub no-step : (e : Entry) → is_of_program e ≡ false → is_step_entry e ≡ false
no-step (Do a) h = absurd (cc)
no-step Test h = absurd (cc)
no-step (Exo p a) h = refl
no-step (Sense p at f v) h = refl
no-step (Rest p t) h = refl
no-step (Close p r t) h = refl
no-step (End a) h = refl

-- none of them is taken
pub taken-none : (first : Course) (entries : Journal) → first ≡ record { agent = first.agent; list = first.list ++ take 0 entries }
taken-none first entries = ap (seen_as first.agent) (sym (append-nil first.list))

module _ (first : Course) (entries : Journal) (i : ℕ) (d : Entry) (inside : i < length entries) where
  abbrev e : Entry
  e = get_or entries i d

  one-more : (first.list ++ take i entries) ++ e ∷ [] ≡ first.list ++ take (i + 1) entries
  one-more = append_assoc first.list (take i entries) (e ∷ []) ∙ ap (λ xs. first.list ++ xs) (sym (take_more entries i d inside))

  split : first.list ++ entries ≡ (first.list ++ take (i + 1) entries) ++ drop (i + 1) entries
  split =
      ap (λ xs. first.list ++ xs) (sym (take-append-drop (i + 1) entries))
      ∙ sym (append_assoc first.list (take (i + 1) entries) (drop (i + 1) entries))

  more-lawful : IsBoardList first.agent (first.list ++ entries) → IsBoardList first.agent ((first.list ++ take i entries) ++ e ∷ [])
  more-lawful h =
      subst (IsBoardList first.agent) (sym one-more)
      (lawful-prefix first.agent (first.list ++ take (i + 1) entries) (drop (i + 1) entries) (subst (IsBoardList first.agent) split h))

  -- the one that is taken is of a device
  pub taken-of-device : list_any is_of_program entries ≡ false → is_of_program (get_or entries i d) ≡ false
  taken-of-device devices = any-at is_of_program entries i d devices inside

  module _ (course : Course) (so : course ≡ record { agent = first.agent; list = first.list ++ take i entries }) where
    pub taken-lawful : IsBoardList first.agent (first.list ++ entries) → IsBoardList course.agent (course.list ++ get_or entries i d ∷ [])
    taken-lawful h = subst (λ (c : Course). IsBoardList c.agent (c.list ++ get_or entries i d ∷ [])) (sym so) (more-lawful h)

    -- one more is taken
    pub taken-more : (later : Course) → later ≡ record { agent = course.agent; list = course.list ++ get_or entries i d ∷ [] }
        → later ≡ record { agent = first.agent; list = first.list ++ take (i + 1) entries }
    taken-more later is = is ∙ ap (λ (c : Course). seen_as c.agent (c.list ++ get_or entries i d ∷ [])) so ∙ ap (seen_as first.agent) one-more
