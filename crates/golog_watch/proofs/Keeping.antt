-- Watches in their order: none yet, one used again, one more, and what the last of them tells.
use Rattle.std.proofs.Common.{◌≡◌, ℕ, zero, suc, ◌+◌, ◌-◌, ◌<◌, ◌≤◌, Bool, true, false, if◌then◌else◌, Option, Some, Result, Ok, Err, List, [], ◌∷◌, ◌++◌, length, take, drop, refl, sym, ap, ◌∙◌, subst, arith}
use Rattle.std.specs.Prelude.{◌==◌, IfSome, OnErr, OnOk, option_map, slice_get, slice_index_or}
use Rattle.std.specs.List.{All, position, remove}
use Rattle.std.proofs.lemmas.Bool.{eq-eqb, eqb-false, ne_eqb}
use Rattle.std.proofs.lemmas.List.{drop_all, length-append, length-drop}
use lib.Seq.{take_all}
use mathlib.Core.List.{append-nil}
use Rattle.std.proofs.lemmas.List.Edits.{length-remove}
use Rattle.std.proofs.lemmas.List.Quantifiers.{position-Some}
use Rattle.std.proofs.lemmas.Option.{get_or_from_slice_get, slice_get_within}
use Rattle.std.proofs.lemmas.List.Elements.{All-append, All-drop, All-nil, All-take}
use Rattle.golog_tree.specs.declared.agent.Agent.{Agent}
use Rattle.golog_tree.specs.declared.prog.Prog.{Prog}
use Rattle.golog_semantics.specs.Search.{Run}
use Rattle.golog_watch.specs.declared.watch.Watch.{Watch}
use Rattle.golog_watch.specs.declared.watches.Watches.{Watches}
use Rattle.golog_watch.specs.Watched.{AreWatches, IsWatch, LastKeeps, Tells, UsedLast, is_left, keeps, most_watches, with_room}
use Rattle.golog_watch.proofs.Telling.{get-last, own-left, told-left}

one-alone : (P : Watch → Type 0) (w : Watch) → P w → All P (w ∷ [])
one-alone P w h zero d l = h
one-alone P w h (suc k) d l = absurd (omega arith)

pub at-get : (P : Watch → Type 0) (ws : List Watch) (k : ℕ) (w : Watch) → slice_get ws k ≡ Some w → All P ws → P w
at-get P ws k w e h = subst P (get_or_from_slice_get ws k w w e) (h k w (slice_get_within ws k w e))

-- where the first that passes stands
pub place-in : (f : Watch → Bool) (ws : List Watch) (n : ℕ) → position f ws ≡ Some n → n < length ws
place-in f [] n e = absurd (cc)
place-in f (w ∷ ws) n e = (position-Some f (w ∷ ws) n w e).0

-- what stands after a write to all of the slice that was lent
written-back : (ws new : List Watch) (len : ℕ) → len ≡ length ws → length new ≡ length ws → take len (new ++ drop (length new) ws) ≡ new
written-back ws new len e long =
    ap (λ (l : List Watch). take len (new ++ l)) (drop_all (length new) ws (omega arith)) ∙ ap (take len) (append-nil new) ∙ take_all len new (omega arith)

-- and after one was put last there
pub put-last : (d : Watch) (ws lent new : List Watch) (len place : ℕ) → place < length ws → len ≡ length ws → lent ≡ ws
    → new ≡ remove lent place ++ slice_index_or lent place d ∷ [] → take len (new ++ drop (length new) ws) ≡ remove ws place ++ slice_index_or ws place d ∷ []
put-last d ws lent new len place inside e same is =
    let put : new ≡ remove ws place ++ slice_index_or ws place d ∷ [] = is ∙ ap (λ (l : List Watch). remove l place ++ slice_index_or l place d ∷ []) same in
    let few : length (remove ws place) + 1 ≡ length ws = length-remove ws place inside in
    let long : length new ≡ length (remove ws place) + 1 = ap length put ∙ length-append (remove ws place) (slice_index_or ws place d ∷ []) in
    let whole : length new ≡ length ws = omega arith in
    written-back ws new len e whole ∙ put

-- nothing is claimed of a success, or nothing is left to be shown
pub on-err : {A B : Type 0} (P : Type 0) (r : Result A B) → P → OnErr r P
on-err P (Ok x) h = tt
on-err P (Err x) h = h

-- there is room for one more, or the first goes
pub room-full : (ws : List Watch) → length ws ≡ most_watches → drop 1 ws ≡ with_room ws
room-full ws e = ap (λ b. if b then drop 1 ws else ws) (sym (eq-eqb (length ws) most_watches e))

pub room-free : (ws : List Watch) → (length ws ≡ most_watches → ⊥) → ws ≡ with_room ws
room-free ws n = ap (λ b. if b then drop 1 ws else ws) (sym (ne_eqb (length ws) most_watches n))

-- the watch that was put last
last-is : (ws others : List Watch) (w : Watch) → ws ≡ others ++ w ∷ [] → slice_get ws (length ws - 1) ≡ Some w
last-is ws others w e =
    let longer : length ws ≡ length others + 1 = ap length e ∙ length-append others (w ∷ []) in
    let last : length ws - 1 ≡ length others = omega arith in
    ap (slice_get ws) last ∙ ap (λ (l : List Watch). slice_get l (length others)) e ∙ get-last others w

module _ (p : Prog) (rest : Run) where
  pub last-keeps : (ws others : List Watch) (w : Watch) → ws ≡ others ++ w ∷ [] → keeps p rest w ≡ true → LastKeeps p rest ws
  last-keeps ws others w e k = ap (option_map (keeps p rest)) (last-is ws others w e) ∙ ap Some k

  pub used-last : (ws new : List Watch) (place : ℕ) → place < length ws → UsedLast ws place new → position (keeps p rest) ws ≡ Some place → LastKeeps p rest new
  used-last [] new place l u e = absurd (omega arith)
  used-last (w ∷ ws) new place l u e =
      last-keeps new (remove (w ∷ ws) place) (slice_index_or (w ∷ ws) place w) (u w) (position-Some (keeps p rest) (w ∷ ws) place w e).1

  pub own-keeps : (w : Watch) → w.body ≡ p → w.rest ≡ rest → keeps p rest w ≡ true
  own-keeps w body run =
      ap (λ (q : Prog). is_left q w.rest p rest) body ∙ ap (λ (r : Run). is_left p r p rest) run ∙ own-left p rest

  kept-by : (w : Watch) → option_map (keeps p rest) (Some w) ≡ Some true → keeps p rest w ≡ true
  kept-by w e = cc

  pub last-kept : (ws : List Watch) (w : Watch) → LastKeeps p rest ws → slice_get ws (length ws - 1) ≡ Some w → keeps p rest w ≡ true
  last-kept ws w l e = kept-by w (subst (λ (o : Option Watch). option_map (keeps p rest) o ≡ Some true) e l)

module _ (agent : Agent) where
  abbrev P : Watch → Type 0
  P = IsWatch agent

  -- so many watches, all of the agent
  pub record Kept (ws : List Watch) : Type 0 where
    pub each : All P ws
    pub most : length ws ≤ most_watches

  pub kept : (ws : Watches) → AreWatches agent ws → Kept ws.watches.items
  kept ws h = record { each = h.each; most = h.most }

  pub watches : (ws : Watches) (items : List Watch) → ws.watches.items ≡ items → Kept items → AreWatches agent ws
  watches ws items e h = record {
    each = subst (All P) (sym e) h.each;
    most = subst (λ (ws : List Watch). length ws ≤ most_watches) (sym e) h.most;
  }

  pub none-kept : Kept []
  none-kept = record { each = All-nil P; most = omega arith }

  pub used-kept : (ws new : List Watch) (place : ℕ) → place < length ws → UsedLast ws place new → Kept ws → Kept new
  used-kept [] new place l u h = absurd (omega arith)
  used-kept (w ∷ ws) new place l u h =
      let d = slice_index_or (w ∷ ws) place w in
      let others = remove (w ∷ ws) place in
      let few : length others + 1 ≡ length (w ∷ ws) = length-remove (w ∷ ws) place l in
      let longer : length (others ++ d ∷ []) ≡ length others + 1 = length-append others (d ∷ []) in
      let m = h.most in
      subst Kept (sym (u w)) (record {
        each = All-append P others (d ∷ []) (All-append P (take place (w ∷ ws)) (drop (suc place) (w ∷ ws)) (All-take P place (w ∷ ws) h.each) (All-drop P (suc place) (w ∷ ws) h.each))
            (one-alone P d (h.each place w l));
        most = omega arith;
      })

  room : (b : Bool) (ws : List Watch) → b ≡ (length ws == most_watches) → Kept ws → Kept (if b then drop 1 ws else ws) × (length (if b then drop 1 ws else ws) < most_watches)
  room true ws e h =
      let m = h.most in
      let shorter = length-drop 1 ws in
      let sixteen : most_watches ≡ 16 = refl in
      (record { each = All-drop P 1 ws h.each; most = omega arith }, omega arith)
  room false ws e h =
      let m = h.most in
      let not_full = eqb-false (length ws) most_watches (sym e) in
      (h, omega (arith, not_full))

  pub room-kept : (ws : List Watch) → Kept ws → Kept (with_room ws)
  room-kept ws h = (room (length ws == most_watches) ws refl h).0

  pub added-kept : (ws : List Watch) (w : Watch) → P w → Kept ws → Kept (with_room ws ++ w ∷ [])
  added-kept ws w i h =
      let r = room (length ws == most_watches) ws refl h in
      let less = r.1 in
      let longer : length (with_room ws ++ w ∷ []) ≡ length (with_room ws) + 1 = length-append (with_room ws) (w ∷ []) in
      record { each = All-append P (with_room ws) (w ∷ []) r.0.each (one-alone P w i); most = omega arith }

  -- after one more is put last, or memory is wanting
  pub added-watches : {A B : Type 0} (r : Result A B) (ws : List Watch) (new : Watches) (w : Watch) → P w → Kept ws
      → OnOk r (new.watches.items ≡ with_room ws ++ w ∷ []) → OnErr r (new.watches.items ≡ with_room ws) → AreWatches agent new
  added-watches (Ok x) ws new w i h added others = watches new (with_room ws ++ w ∷ []) added (added-kept ws w i h)
  added-watches (Err x) ws new w i h added others = watches new (with_room ws) others (room-kept ws h)

  -- what a watch that keeps a run has a condition of
  pub tells-of : (w : Watch) (p : Prog) (rest : Run) → P w → keeps p rest w ≡ true → IfSome (slice_get w.conds (length rest)) (Tells agent p rest)
  tells-of w p rest h e = told-left agent w.body w.rest w.conds p rest h.told.each e
