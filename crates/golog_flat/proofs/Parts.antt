-- The truth of a check by its parts, and whether it holds.
use Rattle.std.proofs.Common.{◌≡◌, ℕ, ◌+◌, ◌<◌, ◌≤◌, Bool, true, false, ◌&&◌, ◌||◌, List, [], ◌∷◌, length, map, take, get_or, refl, sym, ap, ◌∙◌, subst}
use Rattle.std.specs.List.{list_all, list_any}
use Rattle.std.proofs.lemmas.List.{take_all}
use Rattle.std.proofs.lemmas.List.Folds.{list_all-map, list_all_at, list_all_more, list_any_at, list_any_more}
use Rattle.std.proofs.lemmas.List.Sums.{AllPass-from_list_all}
use Rattle.golog_tree.specs.declared.agent.Agent.{Agent}
use Rattle.golog_tree.specs.declared.cond.Cond.{Cond}
use Rattle.golog_tree.specs.declared.cond.Truth.{Truth}
use Rattle.golog_tree.specs.declared.cond.Truth.TheVariants.{Yes, No, Unknown}
use Rattle.golog_semantics.specs.declared.Mode.{Mode}
use Rattle.golog_semantics.specs.declared.Mode.TheVariants.{Must, May, Near}
use Rattle.golog_semantics.specs.Fits.{cond_fits, nothing_bound}
use Rattle.golog_semantics.specs.Modes.{holds}
use Rattle.golog_semantics.specs.Truth.{Env, Values, and_of, both, either, or_of}
use Rattle.golog_semantics.proofs.Tests.{and_both}
use Rattle.golog_known.specs.Fits.{CondFitsAt}
use Rattle.golog_flat.specs.declared.check.Check.{Check}
use Rattle.golog_flat.specs.declared.check.Check.TheVariants as check
use Rattle.golog_flat.specs.declared.check.Check.TheOpen.{Check-F, Known, Is, IsNot, Equals, Differs, Both, Either, Other}
use Rattle.golog_flat.specs.declared.check.Check.TheFolds.{fold-Check, fold-roll-Check}
use Rattle.golog_flat.specs.Checks.{check_fits, check_step, check_truth, fits_step, holds_by}

-- a condition with no free variable can be evaluated
pub closed_fits : (agent : Agent) (c : Cond) (env : Env) → cond_fits agent c nothing_bound ≡ true → CondFitsAt agent c env
closed_fits agent c env h = record { scope = nothing_bound; fits = h; set = record { value = λ x sort e. absurd (cc) } }

holds-both : (lenient : Bool) (a b : Truth) → holds_by lenient (both a b) ≡ (holds_by lenient a && holds_by lenient b)
holds-both lenient Yes b = refl
holds-both lenient No b = refl
holds-both true Unknown Yes = refl
holds-both false Unknown Yes = refl
holds-both true Unknown No = refl
holds-both false Unknown No = refl
holds-both true Unknown Unknown = refl
holds-both false Unknown Unknown = refl

holds-either : (lenient : Bool) (a b : Truth) → holds_by lenient (either a b) ≡ (holds_by lenient a || holds_by lenient b)
holds-either lenient Yes b = refl
holds-either true No Yes = refl
holds-either false No Yes = refl
holds-either true No No = refl
holds-either false No No = refl
holds-either true No Unknown = refl
holds-either false No Unknown = refl
holds-either true Unknown Yes = refl
holds-either false Unknown Yes = refl
holds-either true Unknown No = refl
holds-either false Unknown No = refl
holds-either true Unknown Unknown = refl
holds-either false Unknown Unknown = refl

module _ {A : Type 0} (lenient : Bool) (f : A → Truth) where
  holds-and : (xs : List A) → holds_by lenient (and_of (map f xs)) ≡ list_all (λ x. holds_by lenient (f x)) xs
  holds-and [] = refl
  holds-and (x ∷ xs) = holds-both lenient (f x) (and_of (map f xs)) ∙ ap (λ b. holds_by lenient (f x) && b) (holds-and xs)

  holds-or : (xs : List A) → holds_by lenient (or_of (map f xs)) ≡ list_any (λ x. holds_by lenient (f x)) xs
  holds-or [] = refl
  holds-or (x ∷ xs) = holds-either lenient (f x) (or_of (map f xs)) ∙ ap (λ b. holds_by lenient (f x) || b) (holds-or xs)

-- what holds only where something else is so does not hold where that isn't
pub not-so : (b : Bool) {r : Bool} → (b ≡ true → r ≡ true) → r ≡ false → b ≡ false
not-so true f e = sym (f refl) ∙ e
not-so false f e = refl

-- what does not hold where the unknown does is false
pub told-no : (t : Truth) → holds_by true t ≡ false → No ≡ t
told-no Yes e = absurd (cc)
told-no No e = refl
told-no Unknown e = absurd (cc)

-- what holds where the unknown does not is true
pub told-yes : (t : Truth) → holds_by false t ≡ true → Yes ≡ t
told-yes Yes e = refl
told-yes No e = absurd (cc)
told-yes Unknown e = absurd (cc)

-- what holds with the unknown alone is unknown
pub told-unknown : (t : Truth) → holds_by true t ≡ true → holds_by false t ≡ false → Unknown ≡ t
told-unknown Yes e k = absurd (cc)
told-unknown No e k = absurd (cc)
told-unknown Unknown e k = refl

-- whether it holds in a mode
pub holds-mode : (m : Mode) (t : Truth) → holds_by (holds m Unknown) t ≡ holds m t
holds-mode Must Yes = refl
holds-mode Must No = refl
holds-mode Must Unknown = refl
holds-mode May Yes = refl
holds-mode May No = refl
holds-mode May Unknown = refl
holds-mode Near Yes = refl
holds-mode Near No = refl
holds-mode Near Unknown = refl

module _ (agent : Agent) (values : Values) where
  pub truth-both : (parts : List Check) → check_truth agent values (check.Both parts) ≡ and_of (map (check_truth agent values) parts)
  truth-both parts = ap (check_truth agent values) (sym (check.rolls-Both parts)) ∙ fold-roll-Check Truth (check_step agent values) (Both parts)

  pub truth-either : (parts : List Check) → check_truth agent values (check.Either parts) ≡ or_of (map (check_truth agent values) parts)
  truth-either parts = ap (check_truth agent values) (sym (check.rolls-Either parts)) ∙ fold-roll-Check Truth (check_step agent values) (Either parts)

  -- all parts hold
  pub both-holds : (lenient : Bool) (parts : List Check) → holds_by lenient (check_truth agent values (check.Both parts)) ≡ list_all (λ c. holds_by lenient (check_truth agent values c)) parts
  both-holds lenient parts = ap (holds_by lenient) (truth-both parts) ∙ holds-and lenient (check_truth agent values) parts

  -- some part holds
  pub either-holds : (lenient : Bool) (parts : List Check) → holds_by lenient (check_truth agent values (check.Either parts)) ≡ list_any (λ c. holds_by lenient (check_truth agent values c)) parts
  either-holds lenient parts = ap (holds_by lenient) (truth-either parts) ∙ holds-or lenient (check_truth agent values) parts

module _ (agent : Agent) where
  pub fits-both : (parts : List Check) → check_fits agent (check.Both parts) ≡ list_all (check_fits agent) parts
  fits-both parts =
      ap (check_fits agent) (sym (check.rolls-Both parts)) ∙ fold-roll-Check Bool (fits_step agent) (Both parts)
      ∙ list_all-map (λ fits. fits) (check_fits agent) parts

  pub fits-either : (parts : List Check) → check_fits agent (check.Either parts) ≡ list_all (check_fits agent) parts
  fits-either parts =
      ap (check_fits agent) (sym (check.rolls-Either parts)) ∙ fold-roll-Check Bool (fits_step agent) (Either parts)
      ∙ list_all-map (λ fits. fits) (check_fits agent) parts

  -- each part fits
  pub one-fits : (parts : List Check) (i : ℕ) (part : Check) → i < length parts → part ≡ get_or parts i part → list_all (check_fits agent) parts ≡ true → check_fits agent part ≡ true
  one-fits parts i part h e k = subst (λ d. check_fits agent d ≡ true) (sym e) (AllPass-from_list_all (check_fits agent) parts k i part h)

module _ (agent : Agent) (values : Values) (lenient : Bool) (parts : List Check) (i : ℕ) where
  abbrev So : Check → Bool
  So c = holds_by lenient (check_truth agent values c)

  pub all-hold : list_all So (take i parts) ≡ true → length parts ≤ i → true ≡ So (check.Both parts)
  all-hold e h = sym (both-holds agent values lenient parts ∙ ap (list_all So) (sym (take_all i parts h)) ∙ e)

  pub none-holds : list_any So (take i parts) ≡ false → length parts ≤ i → false ≡ So (check.Either parts)
  none-holds e h = sym (either-holds agent values lenient parts ∙ ap (list_any So) (sym (take_all i parts h)) ∙ e)

  pub one-not : (part : Check) → i < length parts → part ≡ get_or parts i part → So part ≡ false → false ≡ So (check.Both parts)
  one-not part h e k = sym (both-holds agent values lenient parts ∙ list_all_at So parts i part h (ap So (sym e) ∙ k))

  pub one-holds : (part : Check) → i < length parts → part ≡ get_or parts i part → So part ≡ true → true ≡ So (check.Either parts)
  one-holds part h e k = sym (either-holds agent values lenient parts ∙ list_any_at So parts i part h (ap So (sym e) ∙ k))

  -- each part of a conjunction that holds does
  pub all-holds : (part : Check) → i < length parts → part ≡ get_or parts i part → So (check.Both parts) ≡ true → So part ≡ true
  all-holds part h e k = ap So e ∙ AllPass-from_list_all So parts (sym (both-holds agent values lenient parts) ∙ k) i part h

  pub all-more : (part : Check) → i < length parts → part ≡ get_or parts i part → So part ≡ true → list_all So (take i parts) ≡ true → list_all So (take (i + 1) parts) ≡ true
  all-more part h e k d = list_all_more So parts i part h ∙ and_both (list_all So (take i parts)) (So (get_or parts i part)) d (ap So (sym e) ∙ k)

  pub none-more : (part : Check) → i < length parts → part ≡ get_or parts i part → So part ≡ false → list_any So (take i parts) ≡ false → list_any So (take (i + 1) parts) ≡ false
  none-more part h e k d = list_any_more So parts i part h ∙ ap (λ b. b || So (get_or parts i part)) d ∙ ap So (sym e) ∙ k
