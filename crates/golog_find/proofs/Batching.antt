-- A batch of states: what is told of it, and the steps from its states, one after another.
use Rattle.std.proofs.Common.{◌≡◌, ℕ, suc, ◌+◌, ◌-◌, ◌<◌, ◌≤◌, Bool, true, false, cond, if◌then◌else◌, List, [], ◌∷◌, ◌++◌, length, drop, map, take, Option, Some, None, refl, sym, ap, ◌∙◌, subst, get_or, arith}
use Rattle.std.specs.Prelude.{All, IfSome, MatchOption, fold, is_none, slice_get}
use Rattle.std.specs.Option.{option_copied, option_map, option_map_or}
use Rattle.std.proofs.lemmas.List.{drop-drop, drop_more, get_or-drop, length-drop, length-map, length-take-le, map-append, take-append-drop, take_more}
use Rattle.std.proofs.lemmas.List.Elements.{All-drop, All-filter, All-map, All-nil, All-take, All-weaker, filter_more}
use Rattle.std.proofs.lemmas.Option.{slice_get-get_or, slice_get-map, slice_get_read}
use Rattle.golog_tree.specs.declared.agent.Agent.{Agent}
use Rattle.golog_tree.specs.declared.prog.Prog.{Prog}
use Rattle.golog_tree.specs.declared.prog.Way.{Way}
use Rattle.golog_semantics.specs.declared.Mode.{Mode}
use Rattle.golog_semantics.specs.Search.{plain_ways}
use Rattle.golog_flat.specs.Checks.{IsCheckOf}
use Rattle.golog_ways.specs.declared.expand.Node.{Node}
use Rattle.golog_ways.specs.declared.expand.NumberedFront.{NumberedFront}
use Rattle.golog_ways.specs.Open.{AreChecked, open_places}
use Rattle.golog_ways.specs.Searched.{IsSearched}
use Rattle.golog_find.specs.declared.numbered.Numbered.{Numbered}
use Rattle.golog_find.specs.declared.sources.Source.{Source}
use Rattle.golog_find.specs.declared.sources.Told.{Told}
use Rattle.golog_find.specs.declared.visits.Opened.{Opened}
use Rattle.golog_find.specs.Batches.{IsSource, IsToldOf, fronts_of, handed, node_at, places_at, reached_of, source_meant, ways_at}
use Rattle.golog_find.specs.Levels.{Level, Reached, stored_steps, with_stored}
use Rattle.golog_find.specs.Numbers.{GoesOn, HaveNumbers, all_meant, meant}
use Rattle.golog_find.specs.Visits.{IsKeptOf, prog_at}
use Rattle.golog_find.proofs.Numbering.{all_meant-stay, meant-stays}
use Rattle.golog_find.proofs.Visiting.{opened-stays, prog-stays}
use denote.Ref.{Bor}

abbrev first_or : {A : Type 0} → A → List A → A
first_or d [] = d
first_or d (x ∷ xs) = x

abbrev behind : {A : Type 0} → List A → List A
behind [] = []
behind (x ∷ xs) = xs

-- what a list has from a place on tells what stands there
module _ {A : Type 0} (n : ℕ) (xs : List A) (y : A) (ys : List A) (e : drop n xs ≡ y ∷ ys) where
  inside : n < length xs
  inside =
      let whole : length (drop n xs) ≡ suc (length ys) = ap (λ (zs : List A). length zs) e in
      let left = length-drop n xs in
      omega arith

  parts : get_or xs n y ∷ drop (n + 1) xs ≡ y ∷ ys
  parts = sym (drop_more xs n y inside) ∙ e

  pub here-at : slice_get xs n ≡ Some y
  here-at = slice_get-get_or xs n y inside ∙ ap (λ (zs : List A). Some (first_or y zs)) parts

  pub later-at : drop (n + 1) xs ≡ ys
  later-at = ap behind parts

-- those of whose programs nothing is kept, with one state more
pub handed-more : {A : Type 0} (g : Source → A) (sources : List Source) (at : ℕ) (s : Source) → at < length sources → s ≡ get_or sources at s
    → map g (handed (take (at + 1) sources)) ≡ map g (handed (take at sources)) ++ (if is_none s.opened then g s ∷ [] else [])
handed-more g sources at s l e =
    ap (map g) (filter_more (λ (z : Source). is_none z.opened) sources at s l)
    ∙ map-append g (handed (take at sources)) (cond (is_none (get_or sources at s).opened) (get_or sources at s ∷ []) [])
    ∙ ap (λ (z : Source). map g (handed (take at sources)) ++ map g (cond (is_none z.opened) (z ∷ []) [])) (sym e)
    ∙ ap (λ ys. map g (handed (take at sources)) ++ ys) (go (is_none s.opened))
  where
    go : (b : Bool) → map g (cond b (s ∷ []) []) ≡ (if b then g s ∷ [] else [])
    go true = refl
    go false = refl

-- one state more
pub take-next : {A : Type 0} (xs : List A) (at : ℕ) (x : A) → at < length xs → x ≡ get_or xs at x → take (at + 1) xs ≡ take at xs ++ x ∷ []
take-next xs at x l e = take_more xs at x l ∙ ap (λ y. take at xs ++ y ∷ []) (sym e)

-- the states from one place up to another, with one state more
pub part-more : (states : List Numbered) (from place : ℕ) (n : Numbered) → from ≤ place → place < length states → n ≡ get_or states place n
    → take (place + 1 - from) (drop from states) ≡ take (place - from) (drop from states) ++ n ∷ []
part-more states from place n f l e =
    let left = length-drop from states in
    let further : place + 1 - from ≡ (place - from) + 1 = omega arith in
    let below : place - from < length (drop from states) = omega arith in
    let same : from + (place - from) ≡ place = omega arith in
    ap (λ (k : ℕ). take k (drop from states)) further
    ∙ take-next (drop from states) (place - from) n below (e ∙ ap (λ (k : ℕ). get_or states k n) (sym same) ∙ sym (get_or-drop from states (place - from) n))

pub part-none : (states : List Numbered) (from : ℕ) → [] ≡ take (from - from) (drop from states)
part-none states from =
    let none : from - from ≡ 0 = omega arith in
    ap (λ (k : ℕ). take k (drop from states)) (sym none)

-- what is so of a value where there is one
pub if-some : {A : Type 0} (o : Option A) (P : Type 0) (Q : A → Type 0) → MatchOption o P Q → IfSome o Q
if-some None P Q h = tt
if-some (Some x) P Q h = h

-- how many there are
pub count-sources : (sources : List Source) (states : List Numbered) (from end : ℕ) → from ≤ end → end ≤ length states → map reached_of sources ≡ take (end - from) (drop from states) → from + length sources ≡ end
count-sources sources states from end f l e =
    let left = length-drop from states in
    let within : end - from ≤ length (drop from states) = omega arith in
    let count : length sources ≡ end - from =
    sym (length-map sources reached_of) ∙ ap (λ (ns : List Numbered). length ns) e ∙ length-take-le (end - from) (drop from states) within in
    omega arith

-- what is so of a state stays so while more programs have numbers
pub source-stays : (agent : Agent) (progs more : List Prog) (s : Source) → GoesOn progs more → IsSource agent progs s → IsSource agent more s
source-stays agent progs more s h k =
    let longer = h.longer in
    let number = k.number in
    record {
      number = omega arith;
      searched = subst (λ (p : Prog). IsSearched agent p s.reached.values.now) (prog-stays progs more h s.reached.left k.number) k.searched;
      kept = go s.opened k.kept;
    }
  where
    go : (o : Option (Bor Opened)) → IfSome o (λ (z : Bor Opened). IsKeptOf agent progs s.reached.left z.now) → IfSome o (λ (z : Bor Opened). IsKeptOf agent more s.reached.left z.now)
    go None is = tt
    go (Some o) is = record { opened = opened-stays progs more h agent o.now is.opened; same = is.same }

-- what is kept of its program has the checks of its conditions
pub source-checked : (agent : Agent) (progs : List Prog) (s : Source) → IsSource agent progs s → AreChecked agent (fronts_of s)
source-checked agent progs s h = go s.opened h.kept
  where
    go : (o : Option (Bor Opened)) → IfSome o (λ (z : Bor Opened). IsKeptOf agent progs s.reached.left z.now) → AreChecked agent (option_map_or (λ (z : Opened). z.fronts) (option_copied o) [])
    go None k = All-nil (λ (f : NumberedFront). IsCheckOf agent f.cond f.check)
    go (Some o) k = k.opened.fronts.checked

-- those that are handed over can be searched
pub nodes-searched : (agent : Agent) (progs : List Prog) (sources : List Source) → All (IsSource agent progs) sources
    → All (λ (node : Node). IsSearched agent node.left node.state) (map (node_at progs) (handed sources))
nodes-searched agent progs sources h =
    All-map (λ (node : Node). IsSearched agent node.left node.state) (node_at progs) (handed sources)
    (All-weaker (IsSource agent progs) (λ (s : Source). IsSearched agent (prog_at progs s.reached.left) s.reached.values.now) (λ s k. k.searched) (handed sources)
    (All-filter (λ (s : Source). is_none s.opened) (IsSource agent progs) sources h))

module _ (agent : Agent) (m : Mode) (room : Option ℕ) where
  -- the steps from the first state, and then those from the states behind it
  pub source-steps : (progs : List Prog) (sources : List Source) (at from : ℕ) (s : Source) → at < length sources → s ≡ get_or sources at s → (more : List Prog) (level next : Level) → GoesOn progs more → s.reached.left < length progs
      → next ≡ fold (with_stored agent m room (from + at) s.reached.values.now) level (ways_at agent m more s)
      → stored_steps agent m room (from + at) level (map (source_meant progs) (drop at sources)) ≡ stored_steps agent m room (from + (at + 1)) next (map (source_meant progs) (drop (at + 1) sources))
  source-steps progs sources at from s l e more level next h inside is =
      let later = map (source_meant progs) (drop (at + 1) sources) in
      let values = s.reached.values.now in
      let stays : meant more (reached_of s) ≡ meant progs (reached_of s) = meant-stays progs more (reached_of s) h inside in
      let further : suc (from + at) ≡ from + (at + 1) = omega arith in
      ap (λ (ss : List Source). stored_steps agent m room (from + at) level (map (source_meant progs) ss)) (drop_more sources at s l ∙ ap (λ (z : Source). z ∷ drop (at + 1) sources) (sym e))
      ∙ ap (λ (r : Reached). stored_steps agent m room (suc (from + at)) (fold (with_stored agent m room (from + at) values) level (plain_ways agent values m r.way.left)) later) (sym stays)
      ∙ (λ i. stored_steps agent m room (further i) (sym is i) later)

  -- the steps from some states, and then those from others
  steps-append : (xs ys : List Reached) (from : ℕ) (level : Level) → stored_steps agent m room from level (xs ++ ys) ≡ stored_steps agent m room (from + length xs) (stored_steps agent m room from level xs) ys
  steps-append [] ys from level = let same : from ≡ from + 0 = omega arith in ap (λ (k : ℕ). stored_steps agent m room k level ys) same
  steps-append (x ∷ xs) ys from level =
      let next = fold (with_stored agent m room from x.state) level (plain_ways agent x.state m x.way.left) in
      let same : suc from + length xs ≡ from + suc (length xs) = omega arith in
      steps-append xs ys (suc from) next ∙ ap (λ (k : ℕ). stored_steps agent m room k (stored_steps agent m room (suc from) next xs) ys) same

  -- the steps from those of a batch, and then those from the states behind it
  pub batch-steps : (old here : List Prog) (states : List Numbered) (from end : ℕ) (level next : Level) → GoesOn old here → HaveNumbers old states → from ≤ end → end ≤ length states
      → next ≡ stored_steps agent m room from level (all_meant here (take (end - from) (drop from states)))
      → stored_steps agent m room from level (all_meant old (drop from states)) ≡ stored_steps agent m room end next (all_meant old (drop end states))
  batch-steps old here states from end level next h k f l is =
      let part = take (end - from) (drop from states) in
      let later = drop end states in
      let Named = λ (n : Numbered). n.left < length old in
      let named : All Named part = All-take Named (end - from) (drop from states) (All-drop Named from states k) in
      let stays : all_meant here part ≡ all_meant old part = all_meant-stay old here part h named in
      let left = length-drop from states in
      let within : end - from ≤ length (drop from states) = omega arith in
      let many : length (all_meant old part) ≡ end - from = length-map part (meant old) ∙ length-take-le (end - from) (drop from states) within in
      let count : from + length (all_meant old part) ≡ end = omega arith in
      let same : from + (end - from) ≡ end = omega arith in
      let split : drop from states ≡ part ++ later =
      sym (take-append-drop (end - from) (drop from states)) ∙ ap (λ (ns : List Numbered). part ++ ns) (drop-drop (end - from) from states ∙ ap (λ (j : ℕ). drop j states) same) in
      ap (λ (ns : List Numbered). stored_steps agent m room from level (all_meant old ns)) split
      ∙ ap (stored_steps agent m room from level) (map-append (meant old) part later)
      ∙ steps-append (all_meant old part) (all_meant old later) from level
      ∙ (λ i. stored_steps agent m room (count i) (stored_steps agent m room from level (sym stays i)) (all_meant old later))
      ∙ ap (λ (z : Level). stored_steps agent m room end z (all_meant old later)) (sym is)

-- what is told of the state at a place
module _ (agent : Agent) (m : Mode) (progs : List Prog) (sources : List Source) (told : Told) (at used : ℕ) (s : Source) (below : at < length sources) (is : s ≡ get_or sources at s)
    (listed : drop used told.listed ≡ map (ways_at agent m progs) (handed (drop at sources))) where
  -- those that are handed over, where this is what is kept of its program
  abbrev handed-by : Option (Bor Opened) → List (List Way)
  handed-by o = map (ways_at agent m progs) (cond (is_none o) (s ∷ handed (drop (at + 1) sources)) (handed (drop (at + 1) sources)))

  listed-by : (o : Option (Bor Opened)) → s.opened ≡ o → drop used told.listed ≡ handed-by o
  listed-by o e =
      listed
      ∙ ap (λ (ss : List Source). map (ways_at agent m progs) (handed ss)) (drop_more sources at s below ∙ ap (λ (z : Source). z ∷ drop (at + 1) sources) (sym is))
      ∙ ap handed-by e

  pub told-now : (here : List Prog) (place : ℕ) → told.places ≡ map (places_at agent m) sources → ways_at agent m here s ≡ ways_at agent m progs s
      → IsToldOf agent m here s told (record { place = place; at = at; used = used })
  told-now here place open_at same = go s.opened refl
    where
      go : (o : Option (Bor Opened)) → s.opened ≡ o
          → MatchOption o (slice_get told.listed used ≡ Some (ways_at agent m here s))
          (λ (z : Bor Opened). slice_get told.places at ≡ Some (open_places agent s.reached.values.now m (map (λ (f : NumberedFront). f.cond) z.now.fronts)))
      go None e = here-at used told.listed (ways_at agent m progs s) (map (ways_at agent m progs) (handed (drop (at + 1) sources))) (listed-by None e) ∙ ap Some (sym same)
      go (Some o) e =
          ap (λ (ps : List (List ℕ)). slice_get ps at) open_at ∙ slice_get-map (places_at agent m) sources at
          ∙ ap (option_map (places_at agent m)) (slice_get_read sources (length sources) at s refl below is)
          ∙ ap (λ (z : Option (Bor Opened)). Some (open_places agent s.reached.values.now m (map (λ (f : NumberedFront). f.cond) (option_map_or (λ (y : Opened). y.fronts) (option_copied z) [])))) e

  pub listed-later : (k : ℕ) → k ≡ (if is_none s.opened then 1 else 0) → drop (used + k) told.listed ≡ map (ways_at agent m progs) (handed (drop (at + 1) sources))
  listed-later k e = go s.opened refl
    where
      go : (o : Option (Bor Opened)) → s.opened ≡ o → drop (used + k) told.listed ≡ map (ways_at agent m progs) (handed (drop (at + 1) sources))
      go None same =
          let one : k ≡ 1 = e ∙ ap (λ (z : Option (Bor Opened)). if is_none z then 1 else 0) same in
          ap (λ (j : ℕ). drop (used + j) told.listed) one
          ∙ later-at used told.listed (ways_at agent m progs s) (map (ways_at agent m progs) (handed (drop (at + 1) sources))) (listed-by None same)
      go (Some o) same =
          let none : k ≡ 0 = e ∙ ap (λ (z : Option (Bor Opened)). if is_none z then 1 else 0) same in
          let stays : used + k ≡ used = omega arith in
          ap (λ (j : ℕ). drop j told.listed) stays ∙ listed-by (Some o) same
