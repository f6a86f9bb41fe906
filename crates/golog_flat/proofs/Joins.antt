-- Parts of a check joined one by one, and the negation of what is joined.
use Rattle.std.proofs.Common.{◌≡◌, ℕ, ◌+◌, ◌<◌, Bool, true, false, List, [], ◌∷◌, ◌++◌, length, map, take, get_or, refl, sym, ap, ◌∙◌, subst}
use Rattle.std.specs.Prelude.{Result, Ok, Err, IfOk}
use Rattle.std.specs.List.{list_all, range_with_len}
use Rattle.std.proofs.lemmas.List.{map-append}
use Rattle.std.proofs.lemmas.List.Folds.{list_all-append}
use Rattle.golog_tree.specs.declared.agent.Agent.{Agent}
use Rattle.golog_tree.specs.declared.cond.Truth.{Truth}
use Rattle.golog_tree.specs.declared.cond.Truth.TheVariants.{Yes, No, Unknown}
use Rattle.golog_semantics.specs.Truth.{Values, and_of, both, either, not_of, or_of}
use Rattle.golog_semantics.proofs.Tests.{and_both}
use Rattle.golog_known.proofs.Folds.{and_of-range, and_of-take, both-Yes, or_of-range, or_of-take}
use Rattle.golog_flat.specs.declared.check.Check.{Check}
use Rattle.golog_flat.specs.Checks.{Tells, check_fits, check_truth, turned}
use Rattle.golog_flat.specs.Making.{TellJoined, all_or_one, joined, joins_all}
use Rattle.golog_flat.proofs.Parts.{fits-both, fits-either, truth-both, truth-either}

pub ok-then : {A E : Type 0} (P Q : A → Type 0) → ((a : A) → P a → Q a) → (r : Result A E) → IfOk r P → IfOk r Q
ok-then P Q f (Ok a) h = f a h
ok-then P Q f (Err e) h = tt

both_assoc : (a b c : Truth) → both (both a b) c ≡ both a (both b c)
both_assoc Unknown Unknown Yes = refl
both_assoc _ _ _ = refl

either_assoc : (a b c : Truth) → either (either a b) c ≡ either a (either b c)
either_assoc No No Yes = refl
either_assoc No Unknown Yes = refl
either_assoc Unknown No Yes = refl
either_assoc Unknown Unknown Yes = refl
either_assoc _ _ _ = refl

either-No : (t : Truth) → either t No ≡ t
either-No Yes = refl
either-No No = refl
either-No Unknown = refl

No-either : (t : Truth) → either No t ≡ t
No-either Yes = refl
No-either No = refl
No-either Unknown = refl

-- both truths, or one of them
abbrev and_or : Bool → Truth → Truth → Truth
and_or true a b = both a b
and_or false a b = either a b

append-and : (ts us : List Truth) → and_of (ts ++ us) ≡ both (and_of ts) (and_of us)
append-and [] us = refl
append-and (t ∷ ts) us = ap (both t) (append-and ts us) ∙ sym (both_assoc t (and_of ts) (and_of us))

append-or : (ts us : List Truth) → or_of (ts ++ us) ≡ either (or_of ts) (or_of us)
append-or [] us = sym (No-either (or_of us))
append-or (t ∷ ts) us = ap (either t) (append-or ts us) ∙ sym (either_assoc t (or_of ts) (or_of us))

append-joined : (all : Bool) (ts us : List Truth) → all_or_one all (ts ++ us) ≡ and_or all (all_or_one all ts) (all_or_one all us)
append-joined true ts us = append-and ts us
append-joined false ts us = append-or ts us

one-joined : (all : Bool) (t : Truth) → all_or_one all (t ∷ []) ≡ t
one-joined true t = both-Yes t
one-joined false t = either-No t

module _ (agent : Agent) where
  pub joined-fits : (all : Bool) (parts : List Check) → check_fits agent (joined all parts) ≡ list_all (check_fits agent) parts
  joined-fits true parts = fits-both agent parts
  joined-fits false parts = fits-either agent parts

  pub joined-truth : (values : Values) (all : Bool) (parts : List Check) → check_truth agent values (joined all parts) ≡ all_or_one all (map (check_truth agent values) parts)
  joined-truth values true parts = truth-both agent values parts
  joined-truth values false parts = truth-either agent values parts

  fits-append : (parts more : List Check) → list_all (check_fits agent) parts ≡ true → list_all (check_fits agent) more ≡ true → list_all (check_fits agent) (parts ++ more) ≡ true
  fits-append parts more h k = list_all-append (check_fits agent) parts more ∙ and_both (list_all (check_fits agent) parts) (list_all (check_fits agent) more) h k

  truth-append : (values : Values) (all : Bool) (parts more : List Check) → all_or_one all (map (check_truth agent values) (parts ++ more))
      ≡ and_or all (all_or_one all (map (check_truth agent values) parts)) (all_or_one all (map (check_truth agent values) more))
  truth-append values all parts more =
      ap (all_or_one all) (map-append (check_truth agent values) parts more)
      ∙ append-joined all (map (check_truth agent values) parts) (map (check_truth agent values) more)

-- one more item, or one more constant
module _ {A : Type 0} (f : A → Truth) where
  joined-take : (all : Bool) (xs : List A) (i : ℕ) (x : A) → i < length xs → x ≡ get_or xs i x
      → all_or_one all (map f (take (i + 1) xs)) ≡ and_or all (all_or_one all (map f (take i xs))) (f x)
  joined-take true xs i x h e = and_of-take f xs i x h ∙ ap (λ y. both (and_of (map f (take i xs))) (f y)) (sym e)
  joined-take false xs i x h e = or_of-take f xs i x h ∙ ap (λ y. either (or_of (map f (take i xs))) (f y)) (sym e)

joined-range : (f : ℕ → Truth) (all : Bool) (n : ℕ) → all_or_one all (map f (range_with_len 0 (n + 1))) ≡ and_or all (all_or_one all (map f (range_with_len 0 n))) (f n)
joined-range f true n = and_of-range f n
joined-range f false n = or_of-range f n

module _ (agent : Agent) (all : Bool) (parts : List Check) (part : Check) (more : List Check) (pushed : more ≡ parts ++ part ∷ []) where
  tell-more : (told say next : Values → Truth) → TellJoined agent all told parts → Tells agent say part → ((values : Values) → next values ≡ and_or all (told values) (say values)) → TellJoined agent all next more
  tell-more told say next h k e = record {
    fits = ap (list_all (check_fits agent)) pushed ∙ fits-append agent parts (part ∷ []) h.fits (and_both (check_fits agent part) true k.fits refl);
    same = λ values.
        ap (λ cs. all_or_one all (map (check_truth agent values) cs)) pushed
        ∙ truth-append agent values all parts (part ∷ [])
        ∙ ap (λ t. and_or all t (all_or_one all (check_truth agent values part ∷ []))) (h.same values)
        ∙ ap (and_or all (told values)) (one-joined all (check_truth agent values part) ∙ k.same values) ∙ sym (e values);
  }

  -- what is said of each item is told of one more
  pub take-more : {A : Type 0} (f : Values → A → Truth) (xs : List A) (i : ℕ) (x : A) → i < length xs → x ≡ get_or xs i x → TellJoined agent all (λ values. all_or_one all (map (f values) (take i xs))) parts
      → Tells agent (λ values. f values x) part → TellJoined agent all (λ values. all_or_one all (map (f values) (take (i + 1) xs))) more
  take-more f xs i x h e told say =
      tell-more (λ values. all_or_one all (map (f values) (take i xs))) (λ values. f values x) (λ values. all_or_one all (map (f values) (take (i + 1) xs))) told say
      (λ values. joined-take (f values) all xs i x h e)

  pub range-more : (f : Values → ℕ → Truth) (n : ℕ) → TellJoined agent all (λ values. all_or_one all (map (f values) (range_with_len 0 n))) parts → Tells agent (λ values. f values n) part
      → TellJoined agent all (λ values. all_or_one all (map (f values) (range_with_len 0 (n + 1)))) more
  range-more f n told say =
      tell-more (λ values. all_or_one all (map (f values) (range_with_len 0 n))) (λ values. f values n) (λ values. all_or_one all (map (f values) (range_with_len 0 (n + 1)))) told say
      (λ values. joined-range (f values) all n)

-- the negation of what is joined
either-not : (a b : Truth) → either (not_of a) (not_of b) ≡ not_of (both a b)
either-not Yes Yes = refl
either-not Yes No = refl
either-not Yes Unknown = refl
either-not No Yes = refl
either-not No No = refl
either-not No Unknown = refl
either-not Unknown Yes = refl
either-not Unknown No = refl
either-not Unknown Unknown = refl

both-not : (a b : Truth) → both (not_of a) (not_of b) ≡ not_of (either a b)
both-not Yes Yes = refl
both-not Yes No = refl
both-not Yes Unknown = refl
both-not No Yes = refl
both-not No No = refl
both-not No Unknown = refl
both-not Unknown Yes = refl
both-not Unknown No = refl
both-not Unknown Unknown = refl

module _ {A : Type 0} (f : A → Truth) where
  or-not : (xs : List A) → or_of (map (λ x. not_of (f x)) xs) ≡ not_of (and_of (map f xs))
  or-not [] = refl
  or-not (x ∷ xs) = ap (either (not_of (f x))) (or-not xs) ∙ either-not (f x) (and_of (map f xs))

  and-not : (xs : List A) → and_of (map (λ x. not_of (f x)) xs) ≡ not_of (or_of (map f xs))
  and-not [] = refl
  and-not (x ∷ xs) = ap (both (not_of (f x))) (and-not xs) ∙ both-not (f x) (or_of (map f xs))

  pub turned-joined : (conjunction negated : Bool) (xs : List A) → all_or_one (joins_all conjunction negated) (map (λ x. turned negated (f x)) xs) ≡ turned negated (all_or_one conjunction (map f xs))
  turned-joined true true xs = or-not xs
  turned-joined false true xs = and-not xs
  turned-joined true false xs = refl
  turned-joined false false xs = refl
