-- The runs from a place on, of runs in the order of their places.
use Rattle.std.proofs.Common.{◌≡◌, ℕ, ◌+◌, ◌<◌, ◌≤◌, ◌≢◌, Bool, true, false, cond, ◌&&◌, ◌==◌, List, [], ◌∷◌, map, refl, sym, ap, ◌∙◌, subst, Some, None, inl, inr, arith}
use Rattle.std.specs.Prelude.{nat_le, nat_lt, filter, find, slice_get, option_map, if◌then◌else◌}
use Rattle.std.proofs.lemmas.Bool.{cases_lt, leb-true, leb-false, lt-ltb, le-ltb, le-leb, lt-leb, eq-eqb, ne_eqb}
use Rattle.golog_semantics.specs.declared.journal.PlacedRun.{PlacedRun}
use Rattle.golog_semantics.specs.Reports.{grow_from}
use Rattle.golog_semantics.specs.Text.{run_at}
use Rattle.golog_semantics.proofs.GroundNumbers.{some-same}
use Rattle.golog_semantics.proofs.Words.{and-left, and-right, and-both}
use Rattle.golog_text.specs.Named.{AreFrom}

-- the runs that begin at a place or behind it, and those that begin behind it
abbrev pub from_place : ℕ → List PlacedRun → List PlacedRun
from_place place runs = filter (λ r. nat_le place r.place) runs

abbrev pub behind_place : ℕ → List PlacedRun → List PlacedRun
behind_place place runs = filter (λ r. nat_lt place r.place) runs

first-from : (place : ℕ) (r : PlacedRun) (runs : List PlacedRun) → AreFrom place (r ∷ runs) → place ≤ r.place
first-from place r runs h = leb-true place r.place (and-left (nat_le place r.place) (grow_from (r.place + 1) (map (λ r. r.place) runs)) h)

others-from : (place : ℕ) (r : PlacedRun) (runs : List PlacedRun) → AreFrom place (r ∷ runs) → AreFrom (r.place + 1) runs
others-from place r runs h = and-right (nat_le place r.place) (grow_from (r.place + 1) (map (λ r. r.place) runs)) h

-- a run that stays, and one that goes
kept : (test : PlacedRun → Bool) (r : PlacedRun) (runs : List PlacedRun) → test r ≡ true → filter test (r ∷ runs) ≡ r ∷ filter test runs
kept test r runs h = ap (λ b. cond b (r ∷ filter test runs) (filter test runs)) h

gone : (test : PlacedRun → Bool) (r : PlacedRun) (runs : List PlacedRun) → test r ≡ false → filter test (r ∷ runs) ≡ filter test runs
gone test r runs h = ap (λ b. cond b (r ∷ filter test runs) (filter test runs)) h

-- runs that all pass a test stay
all-kept : (test : PlacedRun → Bool) (n : ℕ) (runs : List PlacedRun) → AreFrom n runs → ((r : PlacedRun) → n ≤ r.place → test r ≡ true) → filter test runs ≡ runs
all-kept test n [] h pass = refl
all-kept test n (r ∷ runs) h pass =
    let from = first-from n r runs h in
    kept test r runs (pass r from)
    ∙ ap (λ rs. r ∷ rs) (all-kept test (r.place + 1) runs (others-from n r runs h) (λ q k. pass q (omega (arith, from, k))))

-- runs from a later place on are all behind the place
all-behind : (place n : ℕ) (runs : List PlacedRun) → AreFrom n runs → place < n → behind_place place runs ≡ runs
all-behind place n runs h k = all-kept (λ r. nat_lt place r.place) n runs h (λ r m. lt-ltb place r.place (omega (arith, k, m)))

-- the first run begins at the place: the others are behind it
pub others_behind : (place : ℕ) (r : PlacedRun) (runs all : List PlacedRun) → all ≡ r ∷ runs → AreFrom place all → r.place ≡ place → runs ≡ behind_place place all
others_behind place r runs all e h k =
    let own : AreFrom place (r ∷ runs) = subst (AreFrom place) e h in
    sym (ap (behind_place place) e
    ∙ gone (λ r. nat_lt place r.place) r runs (le-ltb place r.place (omega (arith, k)))
    ∙ all-behind place (r.place + 1) runs (others-from place r runs own) (omega (arith, k)))

-- the first run begins elsewhere: all are behind the place
pub all_behind : (place : ℕ) (r : PlacedRun) (runs all : List PlacedRun) → all ≡ r ∷ runs → AreFrom place all → r.place ≢ place → all ≡ behind_place place all
all_behind place r runs all e h k =
    let own : AreFrom place (r ∷ runs) = subst (AreFrom place) e h in
    let from = first-from place r runs own in
    e ∙ sym (kept (λ r. nat_lt place r.place) r runs (lt-ltb place r.place (omega (arith, from, k)))
    ∙ ap (λ rs. r ∷ rs) (all-behind place (r.place + 1) runs (others-from place r runs own) (omega (arith, from))))
    ∙ sym (ap (behind_place place) e)

there : (place : ℕ) (r : PlacedRun) (runs : List PlacedRun) → r.place ≢ place → run_at (r ∷ runs) place ≡ run_at runs place
there place r runs k = ap (λ b. option_map (λ q. q.labels) (if b then Some r else find (λ q. q.place == place) runs)) (ne_eqb r.place place k)

none-before : (place n : ℕ) (runs : List PlacedRun) → AreFrom n runs → place < n → run_at runs place ≡ None
none-before place n [] h k = refl
none-before place n (r ∷ runs) h k =
    let from = first-from n r runs h in
    let apart : r.place ≢ place = omega (arith, from, k) in
    there place r runs apart ∙ none-before place (r.place + 1) runs (others-from n r runs h) (omega (arith, from, k))

-- no run begins where there is none
pub none_first : (place : ℕ) (runs : List PlacedRun) → None ≡ slice_get runs 0 → run_at runs place ≡ None
none_first place [] h = refl
none_first place (r ∷ runs) h = absurd (cc)

-- the first run is the one that begins at its place
pub first_here : (place : ℕ) (r : PlacedRun) (runs : List PlacedRun) → Some r ≡ slice_get runs 0 → r.place ≡ place → run_at runs place ≡ Some r.labels
first_here place r [] h here = absurd (cc)
first_here place r (q ∷ runs) h here =
    let same : q ≡ r = cc in
    let there : q.place ≡ place = ap (λ (x : PlacedRun). x.place) same ∙ here in
    ap (λ b. option_map (λ (x : PlacedRun). x.labels) (if b then Some q else find (λ (x : PlacedRun). x.place == place) runs)) (eq-eqb q.place place there)
    ∙ ap (λ (x : PlacedRun). Some x.labels) same

-- no run begins at the place where the first begins elsewhere
pub none_here : (place : ℕ) (r : PlacedRun) (runs : List PlacedRun) → Some r ≡ slice_get runs 0 → AreFrom place runs → r.place ≢ place → run_at runs place ≡ None
none_here place r [] e h k = refl
none_here place r (q ∷ runs) e h k =
    let same : r ≡ q = some-same r q e in
    let apart : q.place ≢ place = subst (λ x. x.place ≢ place) same k in
    let from = first-from place q runs h in
    there place q runs apart ∙ none-before place (q.place + 1) runs (others-from place q runs h) (omega (arith, from, apart))

-- the same run begins at a place, of all runs and of those from the place on
same-first : (place : ℕ) (r : PlacedRun) (runs : List PlacedRun) (b : Bool) → nat_le place r.place ≡ b → run_at (from_place place runs) place ≡ run_at runs place
    → run_at (from_place place (r ∷ runs)) place ≡ run_at (r ∷ runs) place
same-first place r runs true e rest =
    ap (λ rs. run_at rs place) (kept (λ r. nat_le place r.place) r runs e) ∙ go (r.place == place) rest
  where
    go : (b : Bool) → run_at (from_place place runs) place ≡ run_at runs place
        → option_map (λ q. q.labels) (if b then Some r else find (λ q. q.place == place) (from_place place runs)) ≡ option_map (λ q. q.labels) (if b then Some r else find (λ q. q.place == place) runs)
    go true h = refl
    go false h = h
same-first place r runs false e rest =
    let less = leb-false place r.place e in
    let apart : r.place ≢ place = omega (arith, less) in
    ap (λ rs. run_at rs place) (gone (λ r. nat_le place r.place) r runs e) ∙ rest ∙ sym (there place r runs apart)

pub same_run : (place : ℕ) (runs : List PlacedRun) → run_at (from_place place runs) place ≡ run_at runs place
same_run place [] = refl
same_run place (r ∷ runs) = same-first place r runs (nat_le place r.place) refl (same_run place runs)

-- the runs from a place on are in the order of their places
first-grows : (place n : ℕ) (r : PlacedRun) (runs : List PlacedRun) (b : Bool) → nat_le place r.place ≡ b → AreFrom n (r ∷ runs) → AreFrom place (from_place place runs) → AreFrom place (from_place place (r ∷ runs))
first-grows place n r runs true e h rest =
    let from = leb-true place r.place e in
    let all : from_place place runs ≡ runs = all-kept (λ q. nat_le place q.place) (r.place + 1) runs (others-from n r runs h) (λ q k. le-leb place q.place (omega (arith, from, k))) in
    let own : AreFrom place (r ∷ runs) = and-both (nat_le place r.place) (grow_from (r.place + 1) (map (λ r. r.place) runs)) e (others-from n r runs h) in
    subst (AreFrom place) (sym (kept (λ q. nat_le place q.place) r runs e ∙ ap (λ rs. r ∷ rs) all)) own
first-grows place n r runs false e h rest = subst (AreFrom place) (sym (gone (λ q. nat_le place q.place) r runs e)) rest

pub from_grows : (place n : ℕ) (runs : List PlacedRun) → AreFrom n runs → AreFrom place (from_place place runs)
from_grows place n [] h = refl
from_grows place n (r ∷ runs) h = first-grows place n r runs (nat_le place r.place) refl h (from_grows place (r.place + 1) runs (others-from n r runs h))

-- all runs are from the first place on
pub from_start : (runs : List PlacedRun) → runs ≡ from_place 0 runs
from_start [] = refl
from_start (r ∷ runs) = sym (kept (λ r. nat_le 0 r.place) r runs (le-leb 0 r.place (omega arith)) ∙ ap (λ rs. r ∷ rs) (sym (from_start runs)))

-- what stays of what stays
narrowed : (p q s : PlacedRun → Bool) (runs : List PlacedRun) → ((r : PlacedRun) → (q r && p r) ≡ s r) → filter p (filter q runs) ≡ filter s runs
narrowed p q s [] h = refl
narrowed p q s (r ∷ runs) h = go (q r) (h r) (narrowed p q s runs h)
  where
    go : (b : Bool) → (b && p r) ≡ s r → filter p (filter q runs) ≡ filter s runs → filter p (cond b (r ∷ filter q runs) (filter q runs)) ≡ cond (s r) (r ∷ filter s runs) (filter s runs)
    go true e rest = λ i. cond (e i) (r ∷ rest i) (rest i)
    go false e rest = rest ∙ ap (λ b. cond b (r ∷ filter s runs) (filter s runs)) e

and-false : (a b : Bool) → b ≡ false → (a && b) ≡ false
and-false true b h = h
and-false false b h = refl

next : (place k : ℕ) → (nat_le place k && nat_lt place k) ≡ nat_le (place + 1) k
next place k =
    elim (cases_lt place k) [
      | inl less ↦ and-both (nat_le place k) (nat_lt place k) (le-leb place k (omega (arith, less))) (lt-ltb place k less) ∙ sym (le-leb (place + 1) k (omega (arith, less)))
      | inr most ↦ and-false (nat_le place k) (nat_lt place k) (le-ltb place k most) ∙ sym (lt-leb (place + 1) k (omega (arith, most)))
    ]

-- those from a place on that are behind it are those from the next place on
pub from_next : (place : ℕ) (runs : List PlacedRun) → behind_place place (from_place place runs) ≡ from_place (place + 1) runs
from_next place runs = narrowed (λ r. nat_lt place r.place) (λ r. nat_le place r.place) (λ r. nat_le (place + 1) r.place) runs (λ r. next place r.place)
