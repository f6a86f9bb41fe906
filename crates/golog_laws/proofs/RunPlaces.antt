-- Runs in the order of their places are known from what stands at each place.
use Rattle.std.proofs.Common.{◌≡◌, ℕ, ◌+◌, ◌<◌, ◌≤◌, ◌≢◌, Bool, true, false, not, ◌&&◌, ◌==◌, if◌then◌else◌, List, [], ◌∷◌, map, refl, sym, ap, ◌∙◌, subst, Some, None, arith, inl, inr}
use Rattle.std.specs.Prelude.{slice_get, is_some, nat_le, find, option_map}
use Rattle.std.specs.List.{list_all}
use Rattle.std.specs.Option.{option_map_or}
use Rattle.std.proofs.lemmas.Bool.{leb-true, le-leb, eq-eqb, eqb-true, cases_lt}
use Rattle.golog_tree.specs.declared.agent.Agent.{Agent}
use Rattle.golog_tree.specs.declared.prog.Label.{Label}
use Rattle.golog_semantics.specs.declared.journal.PlacedRun.{PlacedRun}
use Rattle.golog_semantics.specs.Ways.{is_empty}
use Rattle.golog_semantics.specs.Journal.{Journal}
use Rattle.golog_semantics.specs.Text.{run_at}
use Rattle.golog_semantics.specs.Online.{label_of}
use Rattle.golog_semantics.specs.Reports.{fits_label, fits_run, grow_from}
use Rattle.golog_semantics.proofs.Words.{and-left, and-right}
use Rattle.golog_semantics.proofs.GroundNumbers.{some-same}
use Rattle.golog_semantics.proofs.Fits.{have_labels, HasRun}

not-equal : (a b : ℕ) → a ≢ b → (a == b) ≡ false
not-equal a b h = go (a == b) refl
  where
    go : (c : Bool) → (a == b) ≡ c → (a == b) ≡ false
    go true e = absurd (h (eqb-true a b e))
    go false e = e

run_at-here : (r : PlacedRun) (runs : List PlacedRun) (k : ℕ) → r.place ≡ k → run_at (r ∷ runs) k ≡ Some r.labels
run_at-here r runs k e = ap (λ b. option_map (λ q. q.labels) (if b then Some r else find (λ q. q.place == k) runs)) (eq-eqb r.place k e)

run_at-there : (r : PlacedRun) (runs : List PlacedRun) (k : ℕ) → r.place ≢ k → run_at (r ∷ runs) k ≡ run_at runs k
run_at-there r runs k h = ap (λ b. option_map (λ q. q.labels) (if b then Some r else find (λ q. q.place == k) runs)) (not-equal r.place k h)

abbrev places : List PlacedRun → List ℕ
places runs = map (λ r. r.place) runs

none_before : (n : ℕ) (runs : List PlacedRun) (k : ℕ) → grow_from n (places runs) ≡ true → k < n → run_at runs k ≡ None
none_before n [] k g h = refl
none_before n (r ∷ runs) k g h =
    let from : n ≤ r.place = leb-true n r.place (and-left (nat_le n r.place) (grow_from (r.place + 1) (places runs)) g) in
    let apart : r.place ≢ k = omega arith in
    run_at-there r runs k apart ∙ none_before (r.place + 1) runs k (and-right (nat_le n r.place) (grow_from (r.place + 1) (places runs)) g) (omega arith)

-- a step stands there
abbrev pub IsRunPlace : Journal → ℕ → Type 0
IsRunPlace entries k = option_map_or (λ e. is_some (label_of e)) (slice_get entries k) false ≡ true

module _ (agent : Agent) (entries : Journal) where
  place-fits : (r : PlacedRun) → fits_run agent entries r ≡ true → IsRunPlace entries r.place
  place-fits r h = and-right (not (is_empty r.labels) && list_all (fits_label agent) r.labels) _ h

  labels-ok : (ls : List Label) → (not (is_empty ls) && list_all (fits_label agent) ls) ≡ true → HasRun agent (Some ls)
  labels-ok [] h = absurd (cc)
  labels-ok (l ∷ ls) h = have_labels agent (l ∷ ls) h

  labels-fit : (r : PlacedRun) → fits_run agent entries r ≡ true → HasRun agent (Some r.labels)
  labels-fit r h = labels-ok r.labels (and-left (not (is_empty r.labels) && list_all (fits_label agent) r.labels) _ h)

  -- a run at a place is one of some labels of the agent
  pub has_run : (runs : List PlacedRun) (k : ℕ) → list_all (fits_run agent entries) runs ≡ true → HasRun agent (run_at runs k)
  has_run [] k h = tt
  has_run (r ∷ runs) k h = go (r.place == k) (labels-fit r (and-left (fits_run agent entries r) (list_all (fits_run agent entries) runs) h)) (has_run runs k (and-right (fits_run agent entries r) (list_all (fits_run agent entries) runs) h))
    where
      go : (b : Bool) → HasRun agent (Some r.labels) → HasRun agent (run_at runs k) → HasRun agent (option_map (λ q. q.labels) (if b then Some r else find (λ q. q.place == k) runs))
      go true f g = f
      go false f g = g

  abbrev Agree : ℕ → List PlacedRun → List PlacedRun → Type 0
  Agree n runs others = (k : ℕ) → n ≤ k → IsRunPlace entries k → run_at runs k ≡ run_at others k

  -- two lists of runs, each with its first
  firsts_tell : (n : ℕ) (r q : PlacedRun) (runs others : List PlacedRun) → grow_from n (places (r ∷ runs)) ≡ true → grow_from n (places (q ∷ others)) ≡ true
      → IsRunPlace entries r.place → IsRunPlace entries q.place → Agree n (r ∷ runs) (q ∷ others)
      → (grow_from (r.place + 1) (places others) ≡ true → Agree (r.place + 1) runs others → runs ≡ others) → r ∷ runs ≡ q ∷ others
  firsts_tell n r q runs others g h f k agree rest =
      elim (cases_lt r.place q.place) [
        | inl less ↦ absurd (let e : Some r.labels ≡ None = sym (run_at-here r runs r.place refl) ∙ agree r.place one f ∙ none_before q.place (q ∷ others) r.place (grows-own q others h) less in cc)
        | inr not_more ↦ elim (cases_lt q.place r.place) [
          | inl less ↦ absurd (let e : Some q.labels ≡ None = sym (run_at-here q others q.place refl) ∙ sym (agree q.place other k) ∙ none_before r.place (r ∷ runs) q.place (grows-own r runs g) less in cc)
          | inr not_less ↦ same (omega arith)
        ]
      ]
    where
      after-first : (p : PlacedRun) (ps : List PlacedRun) → grow_from n (places (p ∷ ps)) ≡ true → grow_from (p.place + 1) (places ps) ≡ true
      after-first p ps x = and-right (nat_le n p.place) (grow_from (p.place + 1) (places ps)) x

      grows-own : (p : PlacedRun) (ps : List PlacedRun) → grow_from n (places (p ∷ ps)) ≡ true → grow_from p.place (places (p ∷ ps)) ≡ true
      grows-own p ps x = ap (λ b. b && grow_from (p.place + 1) (places ps)) (le-leb p.place p.place (omega arith)) ∙ after-first p ps x

      one : n ≤ r.place
      one = leb-true n r.place (and-left (nat_le n r.place) (grow_from (r.place + 1) (places runs)) g)

      other : n ≤ q.place
      other = leb-true n q.place (and-left (nat_le n q.place) (grow_from (q.place + 1) (places others)) h)

      later : r.place ≡ q.place → Agree (r.place + 1) runs others
      later e k2 past p =
          let from : n ≤ k2 = (let x : n ≤ r.place = one in omega arith) in
          let x : r.place ≢ k2 = omega arith in
          let y : q.place ≢ k2 = omega arith in
          sym (run_at-there r runs k2 x) ∙ agree k2 from p ∙ run_at-there q others k2 y

      same : r.place ≡ q.place → r ∷ runs ≡ q ∷ others
      same e =
          let labels : r.labels ≡ q.labels = some-same r.labels q.labels (sym (run_at-here r runs r.place refl) ∙ agree r.place one f ∙ run_at-here q others r.place (sym e)) in
          let tail : runs ≡ others = rest (subst (λ n. grow_from (n + 1) (places others) ≡ true) (sym e) (after-first q others h)) (later e) in
          (λ i. record { place = e i; labels = labels i } ∷ tail i)

  pub runs_tell : (n : ℕ) (runs others : List PlacedRun) → grow_from n (places runs) ≡ true → grow_from n (places others) ≡ true
      → list_all (fits_run agent entries) runs ≡ true → list_all (fits_run agent entries) others ≡ true → Agree n runs others → runs ≡ others
  runs_tell n [] [] g h f k agree = refl
  runs_tell n [] (q ∷ others) g h f k agree =
      let from : n ≤ q.place = leb-true n q.place (and-left (nat_le n q.place) (grow_from (q.place + 1) (places others)) h) in
      let fits = and-left (fits_run agent entries q) (list_all (fits_run agent entries) others) k in
      let e : None ≡ Some q.labels = agree q.place from (place-fits q fits) ∙ run_at-here q others q.place refl in absurd (cc)
  runs_tell n (r ∷ runs) [] g h f k agree =
      let from : n ≤ r.place = leb-true n r.place (and-left (nat_le n r.place) (grow_from (r.place + 1) (places runs)) g) in
      let fits = and-left (fits_run agent entries r) (list_all (fits_run agent entries) runs) f in
      let e : Some r.labels ≡ None = sym (run_at-here r runs r.place refl) ∙ agree r.place from (place-fits r fits) in absurd (cc)
  runs_tell n (r ∷ runs) (q ∷ others) g h f k agree =
      let ours = list_all (fits_run agent entries) runs in
      let theirs = list_all (fits_run agent entries) others in
      firsts_tell n r q runs others g h (place-fits r (and-left (fits_run agent entries r) ours f)) (place-fits q (and-left (fits_run agent entries q) theirs k)) agree
      (λ grows later. runs_tell (r.place + 1) runs others (and-right (nat_le n r.place) (grow_from (r.place + 1) (places runs)) g) grows
      (and-right (fits_run agent entries r) ours f) (and-right (fits_run agent entries q) theirs k) later)
