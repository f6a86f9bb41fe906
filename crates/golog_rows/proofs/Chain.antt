-- Rows that stand one after another by their places, and at one place by their codes; so the first
-- row that fits is the least.
use Rattle.std.proofs.Common.{◌≡◌, ℕ, ◌+◌, ◌*◌, ◌<◌, ◌≤◌, inr, Bool, true, false, List, [], ◌∷◌, ◌++◌, length, get_or, Option, Some, None, Result, Ok, Err, refl, sym, ap, subst, ◌∙◌, arith, zero, suc}
use Rattle.std.specs.Prelude.{All, Contains, if◌then◌else◌}
use Rattle.std.proofs.lemmas.List.Elements.{All-nil, All-cons}
use Rattle.std.proofs.lemmas.List.Kept.{AllPairs-cons}
use Rattle.golog_rows.specs.Reading.{Row, first, refusal_in, Reading, gives, rows_behind, ◌>>=◌, found, each}
use Rattle.golog_rows.specs.Order.{IsNoLater, IsLeast, IsOrdered, Fits}
use Rattle.golog_rows.specs.Answers.{IfRefused, Answers, IsFirstRow, IsLeastRow}

-- A place and a code as one number. Codes are above 0 and below 64.
abbrev pub key : ℕ → ℕ → ℕ
key at code = 64 * at + code

-- the rows stand one after another, from a number up to another
abbrev pub Chain : ℕ → ℕ → List Row → Type 0
Chain low high [] = low ≤ high
Chain low high ((fits, code, at) ∷ rows) = (low ≤ key at code) × (0 < code) × (code < 64) × Chain (key at code) high rows

pub chain-low : (low later high : ℕ) (rows : List Row) → low ≤ later → Chain later high rows → Chain low high rows
chain-low low later high [] le c = omega (arith, c)
chain-low low later high ((fits, code, at) ∷ rows) le c = (omega (arith, c.0), c.1, c.2, c.3)

pub chain-high : (low high higher : ℕ) (rows : List Row) → high ≤ higher → Chain low high rows → Chain low higher rows
chain-high low high higher [] le c = omega (arith, c)
chain-high low high higher ((fits, code, at) ∷ rows) le c = (c.0, c.1, c.2, chain-high (key at code) high higher rows le c.3)

pub chain-le : (low high : ℕ) (rows : List Row) → Chain low high rows → low ≤ high
chain-le low high [] c = c
chain-le low high ((fits, code, at) ∷ rows) c = omega (arith, c.0, chain-le (key at code) high rows c.3)

pub chain-append : (low mid high : ℕ) (rows others : List Row) → Chain low mid rows → Chain mid high others → Chain low high (rows ++ others)
chain-append low mid high [] others c d = chain-low low mid high others c d
chain-append low mid high ((fits, code, at) ∷ rows) others c d = (c.0, c.1, c.2, chain-append (key at code) mid high rows others c.3 d)

-- the rows of a part stand at places from one on, and before another
abbrev pub Spans : {A : Type 0} → ℕ → ℕ → Reading A → Type 0
Spans from to reading = Chain (64 * from) (64 * to) reading.rows

-- one part behind another, in view of what the first gives
pub behind-chain : {A B : Type 0} (low mid high : ℕ) (rows : List Row) (outcome : Result A (ℕ × ℕ)) (next : A → Reading B) → mid ≤ high
    → Chain low mid rows → ((x : A) → outcome ≡ Ok x → Chain mid high (next x).rows) → Chain low high (rows ++ rows_behind outcome next)
behind-chain low mid high rows (Ok x) next le c d = chain-append low mid high rows (next x).rows c (d x refl)
behind-chain low mid high rows (Err refusal) next le c d = chain-append low mid high rows [] c le

-- one part behind another, from number to number
pub then-chain : {A B : Type 0} (low mid high : ℕ) (reading : Reading A) (next : A → Reading B) → mid ≤ high
    → Chain low mid reading.rows → ((x : A) → Chain mid high (next x).rows) → Chain low high (reading >>= next).rows
then-chain low mid high reading next le c d = behind-chain low mid high reading.rows reading.outcome next le c (λ x e. d x)

-- a value that is made of a part's
pub gives-chain : {A B : Type 0} (low high : ℕ) (reading : Reading A) (f : A → B) → Chain low high reading.rows → Chain low high (reading >>= λ x. gives (f x)).rows
gives-chain low high reading f c = then-chain low high high reading (λ x. gives (f x)) (omega arith) c (λ x. omega arith)

-- a choice of two parts, in view of what it is chosen by
pub if-chain-where : {A : Type 0} (low high : ℕ) (b : Bool) (one other : Reading A) → (b ≡ true → Chain low high one.rows) → Chain low high other.rows
    → Chain low high (if b then one else other).rows
if-chain-where low high true one other c d = c refl
if-chain-where low high false one other c d = d

pub if-chain : {A : Type 0} (low high : ℕ) (b : Bool) (one other : Reading A) → Chain low high one.rows → Chain low high other.rows
    → Chain low high (if b then one else other).rows
if-chain low high b one other c d = if-chain-where low high b one other (λ e. c) d

-- one part behind another, from place to place
pub then-spans : {A B : Type 0} (from mid to : ℕ) (reading : Reading A) (next : A → Reading B) → mid ≤ to
    → Spans from mid reading → ((x : A) → Spans mid to (next x)) → Spans from to (reading >>= next)
then-spans from mid to reading next le c d = then-chain (64 * from) (64 * mid) (64 * to) reading next (omega arith) c d

pub gives-spans : {A B : Type 0} (from to : ℕ) (reading : Reading A) (f : A → B) → Spans from to reading → Spans from to (reading >>= λ x. gives (f x))
gives-spans from to reading f c = gives-chain (64 * from) (64 * to) reading f c

pub wider : {A : Type 0} (from at end to : ℕ) (reading : Reading A) → from ≤ at → end ≤ to → Spans at end reading → Spans from to reading
wider from at end to reading le le' c =
    chain-high (64 * from) (64 * end) (64 * to) reading.rows (omega arith) (chain-low (64 * from) (64 * at) (64 * end) reading.rows (omega arith) c)

pub found-chain : {A : Type 0} (low high code at : ℕ) (o : Option A) → low ≤ key at code → 0 < code → code < 64 → key at code ≤ high → Chain low high (found code at o).rows
found-chain low high code at None le some small below = (le, some, small, below)
found-chain low high code at (Some x) le some small below = omega arith

-- parts that are read one after another, each from place to place
abbrev pub Parts : {P : Type 0} → (P → ℕ → ℕ → Type 0) → ℕ → List P → ℕ → Type 0
Parts Reads from [] to = from ≤ to
Parts Reads from (part ∷ parts) to = (at : ℕ) × (end : ℕ) × (from ≤ at) × (at ≤ end) × Reads part at end × Parts Reads end parts to

abbrev pub ReadsFrom : {A P : Type 0} → (List A → P → Reading A) → P → ℕ → ℕ → Type 0
ReadsFrom {A} read part at end = (before : List A) → Spans at end (read before part)

parts-le : {P : Type 0} (Reads : P → ℕ → ℕ → Type 0) (from : ℕ) (parts : List P) (to : ℕ) → Parts Reads from parts to → from ≤ to
parts-le Reads from [] to c = c
parts-le Reads from (part ∷ parts) to c = omega (arith, c.2, c.3, parts-le Reads c.1 parts to c.5)

pub each-spans : {A P : Type 0} (read : List A → P → Reading A) (before : List A) (parts : List P) (from to : ℕ)
    → Parts (ReadsFrom read) from parts to → Spans from to (each read before parts)
each-spans read before [] from to c = omega (arith, c)
each-spans read before (part ∷ parts) from to c =
    then-spans from c.1 to (read before part) (λ x. each read (before ++ x ∷ []) parts) (parts-le (ReadsFrom read) c.1 parts to c.5)
    (chain-low (64 * from) (64 * c.0) (64 * c.1) (read before part).rows (omega (arith, c.2)) (c.4 before))
    (λ x. each-spans read (before ++ x ∷ []) parts c.1 to c.5)

-- what stands behind a row is no earlier
keys-later : (code at other place : ℕ) → key at code ≤ key place other → code < 64 → other < 64 → IsNoLater code at other place
keys-later code at other place le small small' = grind arith

all-later : (code at high : ℕ) (rows : List Row) → code < 64 → (low : ℕ) → key at code ≤ low → Chain low high rows
    → All (λ (other : Row). IsNoLater code at other.1 other.2) rows
all-later code at high [] small low le c = All-nil (λ (other : Row). IsNoLater code at other.1 other.2)
all-later code at high ((fits, other, place) ∷ rows) small low le c =
    All-cons (λ (other : Row). IsNoLater code at other.1 other.2) (fits, other, place) rows (keys-later code at other place (omega (arith, c.0)) small c.2)
    (all-later code at high rows small (key place other) (omega (arith, c.0)) c.3)

pub chain-ordered : (low high : ℕ) (rows : List Row) → Chain low high rows → IsOrdered rows
chain-ordered low high [] c = λ i j d lt within. absurd (omega arith)
chain-ordered low high ((fits, code, at) ∷ rows) c =
    AllPairs-cons (λ (row other : Row). IsNoLater row.1 row.2 other.1 other.2) (fits, code, at) rows (all-later code at high rows c.2 (key at code) (omega arith) c.3) (chain-ordered (key at code) high rows c.3)

-- each row stands at a place from the first number on, and before the last
pub chain-within : (from to low : ℕ) (rows : List Row) → 64 * from ≤ low → Chain low (64 * to) rows
    → All (λ (row : Row). (from ≤ row.2) × (row.2 < to)) rows
chain-within from to low [] le c = All-nil (λ (row : Row). (from ≤ row.2) × (row.2 < to))
chain-within from to low ((fits, code, at) ∷ rows) le c =
    All-cons (λ (row : Row). (from ≤ row.2) × (row.2 < to)) (fits, code, at) rows
    (omega (arith, c.0, c.2), omega (arith, c.1, chain-le (key at code) (64 * to) rows c.3))
    (chain-within from to (key at code) rows (omega (arith, c.0)) c.3)

-- The first row that fits, where the rows are in order, is the least that fits.
refusal_or : ℕ × ℕ → Option (ℕ × ℕ) → ℕ × ℕ
refusal_or other None = other
refusal_or other (Some refusal) = refusal

one-more : (row other : Row) (rows : List Row) → Contains rows other → Contains (row ∷ rows) other
one-more row other rows c = (suc c.0, omega (arith, c.1), c.2)

first-fits : (rows : List Row) (code at : ℕ) → first rows ≡ Some (code, at) → Fits rows code at
unfolding refusal_or
first-fits [] code at e = absurd cc
first-fits ((true, code', at') ∷ rows) code at e =
    let same : ◌≡◌ {A = ℕ × ℕ} (code', at') (code, at) = ap (refusal_or (0, 0)) e in
    (0, omega arith, ap (λ (r : ℕ × ℕ). (true, r.0, r.1)) same)
first-fits ((false, code', at') ∷ rows) code at e = one-more (false, code', at') (true, code, at) rows (first-fits rows code at e)

fits-true : (row : Row) (other place : ℕ) → row ≡ (true, other, place) → row.0 ≡ true
fits-true row other place e = ap (λ (r : Row). r.0) e

first-least : (rows : List Row) (code at : ℕ) → IsOrdered rows → first rows ≡ Some (code, at) → (other place k : ℕ) → k < length rows
    → get_or rows k (true, other, place) ≡ (true, other, place) → IsNoLater code at other place
unfolding refusal_or
first-least [] code at o e other place k lt is = absurd (omega arith)
first-least ((true, code', at') ∷ rows) code at o e other place zero lt is =
    let same : ◌≡◌ {A = ℕ × ℕ} (code', at') (code, at) = ap (refusal_or (0, 0)) e in
    let here : ◌≡◌ {A = ℕ × ℕ} (code', at') (other, place) = ap (λ (r : Row). (r.1, r.2)) is in
    let both : ◌≡◌ {A = ℕ × ℕ} (code, at) (other, place) = sym same ∙ here in
    inr (ap (λ (r : ℕ × ℕ). r.1) both, omega (arith, ap (λ (r : ℕ × ℕ). r.0) both))
first-least ((true, code', at') ∷ rows) code at o e other place (suc k) lt is =
    let same : ◌≡◌ {A = ℕ × ℕ} (code', at') (code, at) = ap (refusal_or (0, 0)) e in
    let later : IsNoLater code' at' other place = subst (λ (r : Row). IsNoLater code' at' r.1 r.2) is (o 0 (suc k) (true, other, place) (omega arith) lt) in
    subst (λ (r : ℕ × ℕ). IsNoLater r.0 r.1 other place) same later
first-least ((false, code', at') ∷ rows) code at o e other place zero lt is =
    let wrong : false ≡ true = ap (λ (r : Row). r.0) is in absurd cc
first-least ((false, code', at') ∷ rows) code at o e other place (suc k) lt is =
    first-least rows code at (λ i j d lt within. o (suc i) (suc j) d (omega arith) (omega arith)) e other place k (omega arith) is

pub none-fits : (rows : List Row) → first rows ≡ None → (other place k : ℕ) → k < length rows
    → get_or rows k (true, other, place) ≡ (true, other, place) → ⊥
none-fits [] e other place k lt is = omega arith
none-fits ((true, code', at') ∷ rows) e other place k lt is = cc
none-fits ((false, code', at') ∷ rows) e other place zero lt is =
    let wrong : false ≡ true = ap (λ (r : Row). r.0) is in cc
none-fits ((false, code', at') ∷ rows) e other place (suc k) lt is = none-fits rows e other place k (omega arith) is

pub least : (rows : List Row) (code at : ℕ) → IsOrdered rows → first rows ≡ Some (code, at) → IsLeast (Fits rows) code at
least rows code at o e = record {
  fits = first-fits rows code at e;
  least = λ other place c. first-least rows code at o e other place c.0 c.1 c.2;
}

module _ {F : Type 0} (code_at : F → Option (ℕ × ℕ)) where
  least-refused : (refusal : Option (ℕ × ℕ)) (rows : List Row) → IsOrdered rows → IfRefused refusal (λ code at. first rows ≡ Some (code, at))
      → IfRefused refusal (IsLeast (Fits rows))
  least-refused None rows o e = tt
  least-refused (Some refusal) rows o e = least rows refusal.0 refusal.1 o e

  pub least_row : {A : Type 0} (result : Result A F) (rows : List Row) → IsOrdered rows → IsFirstRow code_at result rows → IsLeastRow code_at result rows
  least_row (Ok x) rows o e = λ code at c. none-fits rows e code at c.0 c.1 c.2
  least_row (Err fault) rows o e = least-refused (code_at fault) rows o e

  first-refused : {A : Type 0} (refusal : Option (ℕ × ℕ)) (reading : Reading A) → IfRefused refusal (λ code at. reading.outcome ≡ Err (code, at))
      → IfRefused refusal (λ code at. first reading.rows ≡ Some (code, at))
  first-refused None reading e = tt
  first-refused (Some refusal) reading e = reading.agrees ∙ ap refusal_in e

  -- the row of a refusal is the first that fits
  pub first_row : {A : Type 0} (result : Result A F) (reading : Reading A) → Answers code_at result reading → IsFirstRow code_at result reading.rows
  first_row (Ok x) reading e = reading.agrees ∙ ap refusal_in e
  first_row (Err fault) reading e = first-refused (code_at fault) reading e
