-- What a device was given and told, with entries of others and of its own.
use Rattle.std.proofs.Common.{◌≡◌, ℕ, ◌≤◌, Bool, true, false, if◌then◌else◌, Option, Some, None, List, [], ◌∷◌, ◌++◌, length, take, refl, sym, ap, ◌∙◌, subst, append_assoc}
use Rattle.std.specs.Prelude.{IfSome}
use Rattle.std.specs.List.{list_any, list_all, flat_map}
use Rattle.std.proofs.lemmas.Bool.{or_parts, or_from, and_from}
use Rattle.std.proofs.lemmas.List.{append-nil, take-append-le}
use Rattle.std.proofs.lemmas.List.Folds.{list_all-append, list_any-append}
use Rattle.std.proofs.lemmas.Grind.{flat_map-append}
use Rattle.golog_tree.specs.declared.agent.Agent.{Agent}
use Rattle.golog_semantics.specs.declared.journal.Entry.{Entry}
use Rattle.golog_semantics.specs.declared.journal.Entry.TheVariants.{Do, Test, Exo, Sense, Rest, Close, End}
use Rattle.golog_semantics.specs.Journal.{Journal, commands, is_posted_by, entries_by}
use Rattle.golog_semantics.specs.Text.{at_each}
use Rattle.golog_semantics.specs.Dealt.{Service, item_of, items, GivenFits, rests_before, wakes}
use Rattle.golog_semantics.proofs.Pushed.{at_each-push}
use Rattle.golog_semantics.proofs.Grown.{posted-push}
use Rattle.golog_journal.specs.Laws.{AreNotOf}
use Rattle.golog_journal.proofs.Staying.{posted-same, commands-append}
use Rattle.golog_device.specs.Devices.{is_told_close, Gives}

abbrev pub all : List Bool → Bool
all bs = list_all (λ b. b) bs

module _ (agent : Agent) (device : ℕ) where
  -- the device's items, with entries of others
  pub items-others : (journal others : Journal) → AreNotOf device others → items agent device (journal ++ others) ≡ items agent device journal
  items-others journal others foreign = ap (flat_map (item_of agent device)) (posted-same agent journal others device foreign)

  -- and with one of its own
  pub items-own : (journal : Journal) (e : Entry) → is_posted_by device e ≡ true
      → items agent device (journal ++ e ∷ []) ≡ items agent device journal ++ item_of agent device e
  items-own journal e own =
      ap (flat_map (item_of agent device)) (posted-push journal e device ∙ ap (λ b. entries_by device journal ++ (if b then e ∷ [] else [])) own)
      ∙ flat_map-append (item_of agent device) (entries_by device journal) (e ∷ [])
      ∙ ap (λ more. items agent device journal ++ more) (append-nil (item_of agent device e))

  -- an entry of another device asks nothing of this one
  wakes-other : (before : Journal) (e : Entry) → is_posted_by device e ≡ false → wakes agent device before e ≡ true
  wakes-other before (Exo p action) other = ap (λ b. if b then list_all (rests_before agent device before) (entries_by device before) else true) other
  wakes-other before (Rest p taken) other = ap (λ b. if b then list_all (rests_before agent device before) (entries_by device before) else true) other
  wakes-other before (Do action) other = refl
  wakes-other before Test other = refl
  wakes-other before (Sense p at f v) other = refl
  wakes-other before (Close p r t) other = refl
  wakes-other before (End a) other = refl

  pub rested-push : (journal : Journal) (e : Entry) → all (at_each (wakes agent device) [] journal) ≡ true → wakes agent device journal e ≡ true
      → all (at_each (wakes agent device) [] (journal ++ e ∷ [])) ≡ true
  rested-push journal e rested woken =
      ap all (at_each-push (wakes agent device) journal e)
      ∙ list_all-append (λ b. b) (at_each (wakes agent device) [] journal) (wakes agent device journal e ∷ [])
      ∙ and_from _ _ rested (and_from _ _ woken refl)

  pub rested-others : (journal others : Journal) → AreNotOf device others → all (at_each (wakes agent device) [] journal) ≡ true
      → all (at_each (wakes agent device) [] (journal ++ others)) ≡ true
  rested-others journal [] foreign rested = ap (λ j. all (at_each (wakes agent device) [] j)) (append-nil journal) ∙ rested
  rested-others journal (e ∷ others) foreign rested =
      let parts = or_parts (is_posted_by device e) (list_any (is_posted_by device) others) foreign in
      ap (λ j. all (at_each (wakes agent device) [] j)) (sym (append_assoc journal (e ∷ []) others))
      ∙ rested-others (journal ++ e ∷ []) others parts.1 (rested-push journal e rested (wakes-other journal e parts.0))

  -- the items that stand have no Close among them
  item-no-close : (e : Entry) → list_any is_told_close (item_of agent device e) ≡ false
  item-no-close (Exo p a) = refl
  item-no-close (Sense p at f v) = refl
  item-no-close (Rest p t) = refl
  item-no-close (Do a) = refl
  item-no-close Test = refl
  item-no-close (Close p r t) = refl
  item-no-close (End a) = refl

  none-closed : (es : Journal) → list_any is_told_close (flat_map (item_of agent device) es) ≡ false
  none-closed [] = refl
  none-closed (e ∷ es) =
      list_any-append is_told_close (item_of agent device e) (flat_map (item_of agent device) es)
      ∙ or_from _ _ (item-no-close e) (none-closed es)

  pub items-no-close : (journal : Journal) → list_any is_told_close (items agent device journal) ≡ false
  items-no-close journal = none-closed (entries_by device journal)

  -- the commands that were taken, with entries of others
  pub taken-others : (journal others : Journal) (taken : ℕ) → taken ≤ length (commands agent device journal)
      → take taken (commands agent device (journal ++ others)) ≡ take taken (commands agent device journal)
  taken-others journal others taken few =
      ap (take taken) (commands-append agent journal others device) ∙ take-append-le taken (commands agent device journal) _ few

  -- one more service
  pub given-more : (cut new_cut : Bool) (old new : Option (List Service)) (services : List Service) (s : Service) → Gives cut new_cut old new s
      → IfSome old (λ given. GivenFits agent device cut given services)
      → IfSome new (λ given. GivenFits agent device new_cut given (services ++ s ∷ []))
  given-more true new_cut None new services s gives fits = subst (λ o. IfSome o (λ given. GivenFits agent device new_cut given (services ++ s ∷ []))) (sym gives.1) tt
  given-more true new_cut (Some given) new services s gives fits =
      let more : GivenFits agent device true given (services ++ s ∷ []) =
      (fits.0 ++ s ∷ [], sym (append_assoc given fits.0 (s ∷ [])) ∙ ap (λ l. l ++ s ∷ []) fits.1) in
      subst (λ o. IfSome o (λ g. GivenFits agent device new_cut g (services ++ s ∷ []))) (sym gives.1)
      (subst (λ b. GivenFits agent device b given (services ++ s ∷ [])) (sym gives.0) more)
  given-more false true None new services s gives fits = subst (λ o. IfSome o (λ given. GivenFits agent device true given (services ++ s ∷ []))) (sym gives) tt
  given-more false true (Some given) new services s gives fits =
      subst (λ o. IfSome o (λ g. GivenFits agent device true g (services ++ s ∷ []))) (sym gives)
      (s ∷ [], ap (λ l. l ++ s ∷ []) fits)
  given-more false false None new services s gives fits = subst (λ o. IfSome o (λ given. GivenFits agent device false given (services ++ s ∷ []))) (sym gives) tt
  given-more false false (Some given) new services s gives fits =
      subst (λ o. IfSome o (λ g. GivenFits agent device false g (services ++ s ∷ []))) (sym gives) (ap (λ l. l ++ s ∷ []) fits)
