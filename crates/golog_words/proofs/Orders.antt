-- Words that begin a command.
use Rattle.std.proofs.Common.{◌≡◌, ◌∙◌, ap, sym, subst, codes, ◌≤◌, false, List, [], ◌∷◌, None, is_some, length, map, arith, true≢false}
use Rattle.std.specs.Prelude.{IsSome, bytes_eq, slice_index_or}
use Rattle.std.proofs.lemmas.Bool.{false_from_ne_true}
use Rattle.std.proofs.lemmas.Slice.Eq.{bytes_eq-Decides}
use Rattle.golog_words.specs.Commands.{Text, command_in}

other_text : (one other : Text) → (one ≡ other → ⊥) → bytes_eq one other ≡ false
other_text one other differs = false_from_ne_true (bytes_eq one other) (λ same. differs ((bytes_eq-Decides one other).0 same))

-- a first word that names no command begins none
names_none : (first : Text) (words : List Text) → (first ≡ codes "run" → ⊥) → (first ≡ codes "check" → ⊥)
    → (first ≡ codes "replay" → ⊥) → (first ≡ codes "ask" → ⊥) → (first ≡ codes "migrate" → ⊥)
    → (first ≡ codes "demo" → ⊥) → (first ≡ codes "team" → ⊥) → (first ≡ codes "plan" → ⊥)
    → command_in (first ∷ words) ≡ None
names_none first words run check replay ask migrate demo team plan =
    let is_run = other_text first (codes "run") run in
    let is_check = other_text first (codes "check") check in
    let is_replay = other_text first (codes "replay") replay in
    let is_ask = other_text first (codes "ask") ask in
    let is_migrate = other_text first (codes "migrate") migrate in
    let is_demo = other_text first (codes "demo") demo in
    let is_team = other_text first (codes "team") team in
    let is_plan = other_text first (codes "plan") plan in
    cc

module _ {Word : Type 0} (bytes : Word → Text) where
  -- the first word of a command names it
  pub names_one : (words : List Word) (word : Word) (first : Text) → 1 ≤ length words → word ≡ slice_index_or words 0 word
      → first ≡ bytes word → IsSome (command_in (map bytes words)) → (first ≡ codes "run" → ⊥)
      → (first ≡ codes "check" → ⊥) → (first ≡ codes "replay" → ⊥) → (first ≡ codes "ask" → ⊥)
      → (first ≡ codes "migrate" → ⊥) → (first ≡ codes "demo" → ⊥) → (first ≡ codes "team" → ⊥)
      → (first ≡ codes "plan" → ⊥) → ⊥
  names_one [] word first some is text spelled run check replay ask migrate demo team plan = absurd (omega arith)
  names_one (one ∷ words) word first some is text spelled run check replay ask migrate demo team plan =
      let same : first ≡ bytes one = text ∙ ap bytes is in
      let none = names_none first (map bytes words) run check replay ask migrate demo team plan in
      let no : command_in (bytes one ∷ map bytes words) ≡ None
      = subst (λ (t : Text). command_in (t ∷ map bytes words) ≡ None) same none in
      true≢false (sym spelled ∙ ap is_some no)
