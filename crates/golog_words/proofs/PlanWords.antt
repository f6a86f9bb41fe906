-- The words of a `plan`: two numbers, and what may stand behind `run`.
use Rattle.std.proofs.Common.{◌≡◌, ◌∙◌, ap, ap₂, refl, sym, subst, ◌≤◌, ◌-◌, Bool, true, false, true≢false, List, [], ◌∷◌, Option, Some, None, length, length-drop, map, take, take_all, arith}
use Rattle.std.specs.Prelude.{◌&&◌, IsSome, drop, if◌then◌else◌, is_some, option_and_then, slice_index_or}
use Rattle.golog_base.specs.Numbers.{amount}
use Rattle.golog_words.specs.Commands.{CommandLine, Text, depth_in, fuel_in, is_depth, is_fuel, plan_in, plan_of, run_in}
use Rattle.golog_words.proofs.Conditions.{first, second}

-- the words behind the first two
abbrev rest_of : {Word : Type 0} → List Word → List Word
rest_of words = take (length words - 2) (drop 2 words)

module _ {Word : Type 0} (bytes : Word → Text) where
  behind_two : (words : List Word) → rest_of words ≡ drop 2 words
  behind_two words = take_all (length words - 2) (drop 2 words) (omega (arith, length-drop 2 words))

  before_two : (words : List Word) (one two : Word) → 2 ≤ length words → one ≡ slice_index_or words 0 one
      → two ≡ slice_index_or words 1 two → map bytes words ≡ bytes one ∷ bytes two ∷ map bytes (drop 2 words)
  before_two [] one two long is also = absurd (omega arith)
  before_two (word ∷ []) one two long is also = absurd (omega arith)
  before_two (word ∷ other ∷ words) one two long is also =
      ap₂ (λ (a b : Word). bytes a ∷ bytes b ∷ map bytes words) (sym is) (sym also)

  -- the words by the first two and the others
  pub two_first : (words : List Word) (one two : Word) → 2 ≤ length words → one ≡ slice_index_or words 0 one
      → two ≡ slice_index_or words 1 two
      → map bytes words ≡ bytes one ∷ bytes two ∷ map bytes (rest_of words)
  two_first words one two long is also =
      before_two words one two long is also
      ∙ ap (λ (w : List Word). bytes one ∷ bytes two ∷ map bytes w) (sym (behind_two words))

  second_first : (words : List Word) (two : Word) → 2 ≤ length words → two ≡ slice_index_or words 1 two
      → drop 1 (map bytes words) ≡ bytes two ∷ map bytes (drop 2 words)
  second_first [] two long is = absurd (omega arith)
  second_first (word ∷ []) two long is = absurd (omega arith)
  second_first (word ∷ other ∷ words) two long is = ap (λ (a : Word). bytes a ∷ map bytes words) (sym is)

  one_first : (words : List Word) (one : Word) → 1 ≤ length words → one ≡ slice_index_or words 0 one
      → map bytes words ≡ bytes one ∷ drop 1 (map bytes words)
  one_first [] one long is = absurd (omega arith)
  one_first (word ∷ words) one long is = ap (λ (a : Word). bytes a ∷ map bytes words) (sym is)

  -- the words behind the first by the two behind it and the others
  two_next : (words : List Word) (one two : Word) → 2 ≤ length words → 1 ≤ length (rest_of words)
      → one ≡ slice_index_or words 1 one → two ≡ slice_index_or (rest_of words) 0 two
      → drop 1 (map bytes words) ≡ bytes one ∷ bytes two ∷ drop 1 (map bytes (rest_of words))
  two_next words one two long longer is also =
      let others = rest_of words in
      second_first words one long is ∙ ap (λ (w : List Word). bytes one ∷ map bytes w) (sym (behind_two words))
      ∙ ap (λ (t : List Text). bytes one ∷ t) (one_first others two longer also)

module _ (depth fuel : Text) (words : List Text) where
  abbrev pub planned : Option CommandLine
  planned = option_and_then (plan_of (amount depth) (amount fuel)) (run_in words)

  -- what is spelled where the numbers are within their bounds
  pub spelled : (is_depth depth && is_fuel fuel) ≡ true → plan_in (depth ∷ fuel ∷ words) ≡ planned
  spelled fit = ap (λ (b : Bool). if b then planned else None) fit

  fit_under : (b : Bool) → IsSome (if b then planned else None) → b ≡ true
  fit_under true some = refl
  fit_under false some = absurd (true≢false (sym some))

  -- the numbers of what is spelled are within their bounds
  fit_of : IsSome (plan_in (depth ∷ fuel ∷ words)) → (is_depth depth && is_fuel fuel) ≡ true
  fit_of some = fit_under (is_depth depth && is_fuel fuel) some

depth_of : (depth fuel : Text) → (is_depth depth && is_fuel fuel) ≡ true → depth_in depth ≡ Some (amount depth)
depth_of depth fuel fit =
    ap (λ (b : Bool). if b then Some (amount depth) else None) (first (is_depth depth) (is_fuel fuel) fit)

fuel_of : (depth fuel : Text) → (is_depth depth && is_fuel fuel) ≡ true → fuel_in fuel ≡ Some (amount fuel)
fuel_of depth fuel fit =
    ap (λ (b : Bool). if b then Some (amount fuel) else None) (second (is_depth depth) (is_fuel fuel) fit)

module _ {Word : Type 0} (bytes : Word → Text) (words : List Word) (depth fuel : Word) where
  abbrev others : List Text
  others = drop 1 (map bytes (rest_of words))

  -- what words are that spell a plan behind the first
  pub record Behind : Type 0 where
    pub depth_is : depth_in (bytes depth) ≡ Some (amount (bytes depth))
    pub fuel_is : fuel_in (bytes fuel) ≡ Some (amount (bytes fuel))
    pub is : plan_in (drop 1 (map bytes words)) ≡ planned (bytes depth) (bytes fuel) others
    pub some : IsSome (planned (bytes depth) (bytes fuel) others)

  pub behind : 2 ≤ length words → 1 ≤ length (rest_of words) → depth ≡ slice_index_or words 1 depth
      → fuel ≡ slice_index_or (rest_of words) 0 fuel → IsSome (plan_in (drop 1 (map bytes words))) → Behind
  behind long longer is also some =
      let whole = two_next bytes words depth fuel long longer is also in
      let fit = fit_of (bytes depth) (bytes fuel) others (subst (λ (w : List Text). IsSome (plan_in w)) whole some) in
      let same = ap plan_in whole ∙ spelled (bytes depth) (bytes fuel) others fit in
      record {
        depth_is = depth_of (bytes depth) (bytes fuel) fit;
        fuel_is = fuel_of (bytes depth) (bytes fuel) fit;
        is = same;
        some = ap is_some (sym same) ∙ some;
      }
