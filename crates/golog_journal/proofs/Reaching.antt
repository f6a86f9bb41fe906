-- The entries that were gone through for the commands of a device tell the command of a number.
use Rattle.std.proofs.Common.{◌≡◌, ℕ, ◌+◌, ◌-◌, ◌≤◌, ◌<◌, Option, Some, None, List, [], ◌∷◌, ◌++◌, length, length-append, take, drop, set, get_or, sym, ap, ◌∙◌, subst, arith, ◌⊎◌, inl, inr, get_or-set_same, get_or-set_other, length-set}
use Rattle.std.specs.Prelude.{if◌then◌else◌, is_some, IfSome, option_map, slice_get}
use Rattle.std.specs.Option.{option_or, option_to_list}
use Rattle.std.proofs.lemmas.Bool.{cases_eq}
use Rattle.std.proofs.lemmas.List.{append-nil, take_all, take_more, take-append-le, take-append-drop, length-take-le}
use Rattle.std.proofs.lemmas.Option.{slice_get_past}
use Rattle.golog_tree.specs.declared.agent.Agent.{Agent}
use Rattle.golog_semantics.specs.declared.journal.Entry.{Entry}
use Rattle.golog_semantics.specs.Journal.{Journal, Command, command_at, commands}
use Rattle.golog_semantics.proofs.GroundNumbers.{slice_get-left, slice_get-right}
use Rattle.golog_semantics.proofs.Grown.{commands-push}
use Rattle.golog_journal.specs.declared.reached.Placed.{Placed}
use Rattle.golog_journal.specs.declared.reached.Reached.{Reached}
use Rattle.golog_journal.specs.Reaching.{IsReached, AreReached, command_of}
use Rattle.golog_journal.proofs.Staying.{commands-append, from, place-below}

module _ (agent : Agent) where
  module _ (device : ℕ) (journal : Journal) (r : Reached) (is : IsReached agent journal device r) where
    abbrev front : Journal
    front = take r.place journal

    -- with one more entry
    pub reached-longer : (e : Entry) → IsReached agent (journal ++ e ∷ []) device r
    reached-longer e =
        let same : take r.place (journal ++ e ∷ []) ≡ front = take-append-le r.place journal (e ∷ []) is.within in
        record {
          within = (let w = is.within in let more = length-append journal (e ∷ []) in omega (arith, w, more));
          few = is.few;
          number = is.number ∙ ap (λ (j : Journal). length (commands agent device j)) (sym same);
          last = is.last ∙ ap (λ (j : Journal). slice_get (commands agent device j) (r.commands - 1)) (sym same);
        }

    -- one entry further
    pub reached-further : (new : Reached) (e : Entry) (o : Option Placed) → r.place < length journal → e ≡ get_or journal r.place e
        → option_map command_of o ≡ command_at agent device (r.place, e)
        → new.place ≡ r.place + 1 → new.commands ≡ r.commands + (if is_some o then 1 else 0) → new.last ≡ option_or o r.last
        → IsReached agent journal device new
    reached-further new e o inside at told place number last = by-command o told number last
      where
        more : take new.place journal ≡ front ++ e ∷ []
        more =
            ap (λ n. take n journal) place ∙ take_more journal r.place e inside ∙ ap (λ x. front ++ x ∷ []) (sym at)

        with-command : (o : Option Placed) → option_map command_of o ≡ command_at agent device (r.place, e)
            → commands agent device (take new.place journal) ≡ commands agent device front ++ option_to_list (option_map command_of o)
        with-command o told =
            ap (commands agent device) more ∙ commands-push agent front e device
            ∙ ap (λ n. commands agent device front ++ option_to_list (command_at agent device (n, e))) (length-take-le r.place journal is.within)
            ∙ ap (λ c. commands agent device front ++ option_to_list c) (sym told)

        low : new.place ≤ length journal
        low = omega (arith, place, inside)

        by-command : (o : Option Placed) → option_map command_of o ≡ command_at agent device (r.place, e)
            → new.commands ≡ r.commands + (if is_some o then 1 else 0) → new.last ≡ option_or o r.last
            → IsReached agent journal device new
        by-command None told number last =
            let same : commands agent device (take new.place journal) ≡ commands agent device front = with-command None told ∙ append-nil (commands agent device front) in
            let stays : new.commands ≡ r.commands = number ∙ (let k : r.commands + 0 ≡ r.commands = omega arith in k) in
            record {
              within = low;
              few = (let f = is.few in omega (arith, stays, place, f));
              number = stays ∙ is.number ∙ ap (λ (cs : List Command). length cs) (sym same);
              last =
                  ap (option_map command_of) last ∙ is.last ∙ ap (λ n. slice_get (commands agent device front) (n - 1)) (sym stays)
                  ∙ ap (λ (cs : List Command). slice_get cs (new.commands - 1)) (sym same);
            }
        by-command (Some c) told number last =
            let grown = with-command (Some c) told in
            let was = is.number in
            let long = length-append (commands agent device front) (command_of c ∷ []) in
            record {
              within = low;
              few = (let f = is.few in omega (arith, number, place, f));
              number =
                  (let k : new.commands ≡ length (commands agent device front ++ command_of c ∷ []) = omega (arith, number, was, long) in k)
                  ∙ ap (λ (cs : List Command). length cs) (sym grown);
              last =
                  ap (option_map command_of) last
                  ∙ sym (slice_get-right (commands agent device front) (command_of c ∷ []) (new.commands - 1) 0 (omega (arith, number, was)))
                  ∙ ap (λ (cs : List Command). slice_get cs (new.commands - 1)) (sym grown);
            }

    -- the last command that was met, by its number
    pub command-there : (k : ℕ) → r.commands ≤ k + 1 → k < r.commands
        → option_map command_of r.last ≡ slice_get (commands agent device journal) k
    command-there k most more =
        let number = is.number in
        let here : r.commands - 1 ≡ k = omega (arith, most, more) in
        let others : Journal = drop r.place journal in
        let split = ap (commands agent device) (sym (take-append-drop r.place journal)) ∙ commands-append agent front others device in
        is.last ∙ ap (slice_get (commands agent device front)) here
        ∙ sym (ap (λ (cs : List Command). slice_get cs k) split
        ∙ slice_get-left (commands agent device front) (from agent device (0 + length front) others) k (omega (arith, more, number)))

    -- which stands before the end
    pub place-there : (k : ℕ) → r.commands ≤ k + 1 → k < r.commands → IfSome r.last (λ placed. placed.place < length journal)
    place-there k most more = go r.last (command-there k most more)
      where
        go : (o : Option Placed) → option_map command_of o ≡ slice_get (commands agent device journal) k → IfSome o (λ placed. placed.place < length journal)
        go None none = tt
        go (Some c) here = place-below agent device k journal (command_of c) (sym here)

    -- all entries were looked at, and so many commands were not met
    pub command-nowhere : (k : ℕ) → r.commands ≤ k → r.place ≡ length journal → slice_get (commands agent device journal) k ≡ None
    command-nowhere k few end =
        let all : front ≡ journal = take_all r.place journal (omega (arith, end)) in
        let number = is.number ∙ ap (λ (j : Journal). length (commands agent device j)) all in
        slice_get_past (commands agent device journal) k (omega (arith, few, number))

  module _ (journal : Journal) (devices : List Reached) (are : AreReached agent journal devices) where
    -- with one more entry
    pub all-longer : (e : Entry) → AreReached agent (journal ++ e ∷ []) devices
    all-longer e = record { one_each = are.one_each; each = λ d x below. reached-longer d journal (get_or devices d x) (are.each d x below) e }

    -- one device further
    pub all-further : (i : ℕ) (new : Reached) → IsReached agent journal i new → AreReached agent journal (set devices i new)
    all-further i new is = record {
      one_each = length-set devices i new ∙ are.one_each;
      each = λ d x below. go d x below (cases_eq d i);
    }
      where
        go : (d : ℕ) (x : Reached) → d < length (set devices i new) → (d ≡ i) ⊎ (d ≡ i → ⊥) → IsReached agent journal d (get_or (set devices i new) d x)
        go d x below (inl equal) =
            let long = length-set devices i new in
            let at = ap (λ k. get_or (set devices i new) k x) equal ∙ get_or-set_same devices i new x (omega (arith, below, long, equal)) in
            subst (IsReached agent journal d) (sym at) (subst (λ k. IsReached agent journal k new) (sym equal) is)
        go d x below (inr other) =
            let long = length-set devices i new in
            subst (IsReached agent journal d) (sym (get_or-set_other devices i d new x other)) (are.each d x (omega (arith, below, long)))
