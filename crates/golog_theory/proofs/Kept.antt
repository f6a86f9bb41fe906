-- What a theory that was read keeps: what is built in, limits, and that sorts and devices are declared.
use Rattle.std.proofs.Common.{◌≡◌, ℕ, ◌+◌, ◌<◌, Bool, true, false, not, ◌&&◌, List, [], ◌∷◌, ◌++◌, length, refl, arith}
use Rattle.std.proofs.lemmas.List.Quantifiers.{position-Some}
use Rattle.std.specs.Prelude.{nat_le, nat_lt, is_none, position}
use Rattle.std.specs.List.{list_all}
use Rattle.golog_base.specs.Names.{is_name, IsWord}
use Rattle.golog_form.specs.declared.form.Form.{Form}
use Rattle.golog_form.specs.Shape.{place_of, items_of}
use Rattle.golog_tree.specs.declared.draft.DraftTheory.{DraftTheory}
use Rattle.golog_tree.specs.declared.draft.DraftSort.{DraftSort}
use Rattle.golog_tree.specs.declared.draft.DraftSort.TheVariants.{Listed}
use Rattle.golog_tree.specs.declared.draft.DraftFluent.{DraftFluent}
use Rattle.golog_tree.specs.declared.draft.DraftAction.{DraftAction}
use Rattle.golog_tree.specs.declared.draft.DraftDevice.{DraftDevice}
use Rattle.golog_theory.specs.declared.fluents.FluentItem.{FluentItem}
use Rattle.golog_theory.specs.Reading.{Reading, gives, row, found, each}
use Rattle.golog_theory.specs.Names.{same, sort_no, sort_name, device_no, is_taken}
use Rattle.golog_theory.specs.Parts.{word, parts, short_name, new_name, sort_of}
use Rattle.golog_theory.specs.Fluents.{sorts_of}
use Rattle.golog_theory.specs.Actions.{device_of}
use Rattle.golog_draft.specs.Drafts.{is_draft_sort, is_draft_device, draft_args_keep}
use Rattle.golog_semantics.proofs.Tests.{and_more}
use Rattle.golog_theory.proofs.Yields.{Yields, gives-yields, row-yields, found-yields, each-yields}

pub not_true : (a : Bool) → not a ≡ false → a ≡ true
not_true true e = refl
not_true false e = absurd cc

pub all_push : {X : Type 0} (p : X → Bool) (xs : List X) (x : X) → list_all p xs ≡ true → p x ≡ true → list_all p (xs ++ x ∷ []) ≡ true
all_push p [] x e h = rw h refl
all_push p (y ∷ xs) x e h = push_on (p y) (list_all p xs) (list_all p (xs ++ x ∷ [])) e (λ f. all_push p xs x f h)
  where
    push_on : (a b c : Bool) → (a && b) ≡ true → (b ≡ true → c ≡ true) → (a && c) ≡ true
    push_on true b c e h = h e
    push_on false b c e h = e

pub all_still : {X : Type 0} (p q : X → Bool) (xs : List X) → ((x : X) → p x ≡ true → q x ≡ true) → list_all p xs ≡ true → list_all q xs ≡ true
all_still p q [] h e = refl
all_still p q (x ∷ xs) h e = and_more (p x) (q x) (list_all p xs) (list_all q xs) (h x) (all_still p q xs h) e

-- a name that may be declared
pub record IsNew (theory : DraftTheory) (name : List ℕ) : Type 0 where
  pub word : IsWord name
  pub free : is_taken theory name ≡ false

-- the names and the numbers of what is declared
pub new_name-yields : (theory : DraftTheory) (f : Form) → Yields (IsNew theory) (new_name theory f)
unfolding new_name short_name
new_name-yields theory f =
    row-yields _ (not (is_name (word f))) (20, place_of f) _ (λ named.
    row-yields _ (is_taken theory (word f)) (21, place_of f) _ (λ free.
    row-yields _ (nat_lt 31 (length (word f))) (25, place_of f) _ (λ short.
    gives-yields _ (word f) (record { word = record { named = not_true (is_name (word f)) named; short = grind arith }; free = free }))))

pub sort_of-yields : (theory : DraftTheory) (f : Form) → Yields (λ sort. is_draft_sort theory sort ≡ true) (sort_of theory f)
unfolding sort_of
sort_of-yields theory f =
    row-yields _ (not (is_name (word f))) (20, place_of f) _ (λ named.
    found-yields _ 22 (place_of f) (sort_no theory (word f)) (λ sort e.
    let lt : sort < length theory.sorts = (position-Some (λ s. same (word f) (sort_name s)) theory.sorts sort (Listed [] [] 0) e).0 in
    grind arith))

pub device_of-yields : (theory : DraftTheory) (f : Form) → Yields (λ device. is_draft_device theory device ≡ true) (device_of theory f)
unfolding device_of
device_of-yields theory f =
    row-yields _ (not (is_name (word f))) (20, place_of f) _ (λ named.
    found-yields _ 23 (place_of f) (device_no theory (word f)) (λ device e.
    let lt : device < length theory.devices = (position-Some (λ (d : DraftDevice). same (word f) d.name) theory.devices device (record { name = []; at = 0 }) e).0 in
    grind arith))

pub sorts_of-yields : (theory : DraftTheory) (f : Form) → Yields (λ sorts. draft_args_keep theory sorts ≡ true) (sorts_of theory f)
unfolding sorts_of
sorts_of-yields theory f =
    row-yields _ (is_none (items_of f)) (20, place_of f) _ (λ listed.
    row-yields _ (nat_lt 3 (length (parts f))) (25, place_of f) _ (λ few sorts e.
    let all = each-yields (λ sorts. list_all (is_draft_sort theory) sorts ≡ true) (λ (_ : List ℕ). sort_of theory)
    (λ before part held sort is. all_push (is_draft_sort theory) before sort held (sort_of-yields theory part sort is)) [] (parts f) refl sorts e in
    let short : nat_le (length sorts) 3 ≡ true = fewer (length sorts) (length (parts f)) (omega (arith, all.1)) few in
    rw (short, all.0) refl))
  where
    fewer : (n m : ℕ) → n ≡ m → nat_lt 3 m ≡ false → nat_le n 3 ≡ true
    fewer n m same e = grind arith

pub ruleset laws = (sorts_of-yields)
