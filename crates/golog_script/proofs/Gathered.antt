-- Strings that are gathered one by one.
use Rattle.std.proofs.Common.{◌≡◌, ◌<◌, ◌≤◌, ◌+◌, ℕ, List, [], ◌∷◌, ◌++◌, Option, None, Some, length, drop, get_or, refl, ap, sym, ◌∙◌, append_assoc, add-one, drop-cons, append-nil, suc}
use Rattle.std.proofs.Math.ListN.{drop_of_length-le}
use Rattle.std.specs.Option.{option_map}
use Rattle.serde_json.specs.declared.value.Value.{Value}
use Rattle.serde_json.specs.View.{view, items_view}
use Rattle.serde_json.specs.Find.{as_str}
use Rattle.golog_device.specs.Scripts.{strings_of}

-- with the strings found before these values, the strings are those of all values
pub record Gathers (all : List Value) (at : ℕ) (found : List (List ℕ)) : Type 0 where
  pub whole : option_map (λ rest. found ++ rest) (strings_of (items_view (drop at all))) ≡ strings_of (items_view all)

pub Gathers-start : (all : List Value) → Gathers all 0 []
Gathers-start all = record { whole = unchanged (strings_of (items_view all)) } where
  unchanged : (x : Option (List (List ℕ))) → option_map (λ rest. [] ++ rest) x ≡ x
  unchanged None = refl
  unchanged (Some strings) = refl

head-of : (all : List Value) (at : ℕ) (value : Value) → at < length all → value ≡ get_or all at value
    → drop at all ≡ value ∷ drop (suc at) all
head-of all at value within is = drop-cons all at value within ∙ ap (λ v. v ∷ drop (suc at) all) (sym is)

pub Gathers-next : (all : List Value) (at : ℕ) (found : List (List ℕ)) (value : Value) (text : List ℕ)
    → at < length all → value ≡ get_or all at value → as_str (view value) ≡ Some text
    → Gathers all at found → Gathers all (at + 1) (found ++ text ∷ [])
Gathers-next all at found value text within is is_text gathers = record { whole = step ∙ gathers.whole } where
  both : (x : Option (List (List ℕ))) → option_map (λ rest. (found ++ text ∷ []) ++ rest) x ≡ option_map (λ rest. found ++ rest) (option_map (λ rest. text ∷ rest) x)
  both None = refl
  both (Some rest) = ap Some (append_assoc found (text ∷ []) rest)

  step : option_map (λ rest. (found ++ text ∷ []) ++ rest) (strings_of (items_view (drop (at + 1) all)))
      ≡ option_map (λ rest. found ++ rest) (strings_of (items_view (drop at all)))
  step = rw (head-of all at value within is, is_text, add-one at) (both _)

pub Gathers-none : (all : List Value) (at : ℕ) (found : List (List ℕ)) (value : Value)
    → at < length all → value ≡ get_or all at value → as_str (view value) ≡ None
    → Gathers all at found → strings_of (items_view all) ≡ None
Gathers-none all at found value within is is_none gathers = sym gathers.whole ∙ step where
  step : option_map (λ rest. found ++ rest) (strings_of (items_view (drop at all))) ≡ None
  step = rw (head-of all at value within is, is_none) refl

pub Gathers-end : (all : List Value) (at : ℕ) (found : List (List ℕ)) → length all ≤ at → Gathers all at found → strings_of (items_view all) ≡ Some found
Gathers-end all at found past gathers = sym gathers.whole ∙ last where
  last : option_map (λ rest. found ++ rest) (strings_of (items_view (drop at all))) ≡ Some found
  last = rw (drop_of_length-le all past) (ap Some (append-nil found))
