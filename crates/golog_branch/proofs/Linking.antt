-- How the states of a level are linked to those of the next, step by step.
use Rattle.std.proofs.Common.{◌≡◌, ℕ, ◌+◌, ◌<◌, Bool, Some, List, [], ◌∷◌, ◌++◌, length, map, take, drop, get_or, refl, sym, ap, ◌∙◌, subst, append_assoc, arith}
use Rattle.std.specs.Prelude.{All, cond, filter, fold, slice_get}
use Rattle.std.specs.List.{AllZip, flat_map}
use Rattle.std.proofs.lemmas.List.{append-nil, length-append, map-append, take-append-drop, take_more}
use Rattle.std.proofs.lemmas.List.Elements.{filter_more}
use Rattle.std.proofs.lemmas.Option.{slice_get_within}
use Rattle.golog_tree.specs.declared.agent.Agent.{Agent}
use Rattle.golog_tree.specs.declared.prog.Way.{Way}
use Rattle.golog_semantics.specs.Blocks.{State}
use Rattle.golog_semantics.specs.Truth.{Values}
use Rattle.golog_semantics.proofs.GroundNumbers.{slice_get-left}
use Rattle.golog_branch.specs.declared.spot.Jump.{Jump}
use Rattle.golog_branch.specs.declared.spot.Link.{Link}
use Rattle.golog_branch.specs.declared.spot.Linked.{Linked}
use Rattle.golog_branch.specs.declared.spot.Spot.{Spot}
use Rattle.golog_branch.specs.Levels.{AreLevels, IsLinked, IsSpot, Led, WayLed, jumped, led, linked, states_of, way_led, with_state}
use Rattle.golog_branch.specs.Trees.{Case, cases}
use Rattle.golog_branch.proofs.Distinct.{all-behind}

-- one item more
pub take-next : {A : Type 0} (xs : List A) (i : ℕ) (x : A) → i < length xs → x ≡ get_or xs i x → take (i + 1) xs ≡ take i xs ++ x ∷ []
take-next xs i x less e = take_more xs i x less ∙ ap (λ y. take i xs ++ y ∷ []) (sym e)

pub map-next : {A B : Type 0} (f : A → B) (xs : List A) (i : ℕ) (x : A) → i < length xs → x ≡ get_or xs i x → map f (take (i + 1) xs) ≡ map f (take i xs) ++ f x ∷ []
map-next f xs i x less e = ap (map f) (take-next xs i x less e) ∙ map-append f (take i xs) (x ∷ [])

pub filter-next : {A : Type 0} (test : A → Bool) (xs : List A) (i : ℕ) (x : A) → i < length xs → x ≡ get_or xs i x
    → filter test (take (i + 1) xs) ≡ filter test (take i xs) ++ filter test (x ∷ [])
filter-next test xs i x less e =
    filter_more test xs i x less ∙ ap (λ y. filter test (take i xs) ++ cond (test y) (y ∷ []) []) (sym e)

pub filter-one : {A : Type 0} (test : A → Bool) (x : A) (b : Bool) → test x ≡ b → filter test (x ∷ []) ≡ cond b (x ∷ []) []
filter-one test x b e = ap (λ c. cond c (x ∷ []) []) e

fold-behind : {A B : Type 0} (f : B → A → B) (s : B) (xs ys : List A) → fold f s (xs ++ ys) ≡ fold f (fold f s xs) ys
fold-behind f s [] ys = refl
fold-behind f s (x ∷ xs) ys = fold-behind f (f s x) xs ys

flat-behind : {A B : Type 0} (f : A → List B) (xs ys : List A) → flat_map f (xs ++ ys) ≡ flat_map f xs ++ flat_map f ys
flat-behind f [] ys = refl
flat-behind f (x ∷ xs) ys = ap (λ z. f x ++ z) (flat-behind f xs ys) ∙ sym (append_assoc (f x) (flat_map f xs) (flat_map f ys))

-- one state more
pub fold-next : (start states more : List State) (xs ys : List State) (s : State) → states ≡ fold with_state start xs → more ≡ with_state states s
    → ys ≡ xs ++ s ∷ [] → more ≡ fold with_state start ys
fold-next start states more xs ys s e with next =
    with ∙ ap (λ z. with_state z s) e ∙ sym (ap (fold with_state start) next ∙ fold-behind with_state start xs (s ∷ []))

-- what some more lead to
pub flat-next : {A : Type 0} (f : A → List State) (start states more : List State) (xs zs ys : List A) → states ≡ fold with_state start (flat_map f xs)
    → more ≡ fold with_state states (flat_map f zs) → ys ≡ xs ++ zs → more ≡ fold with_state start (flat_map f ys)
flat-next f start states more xs zs ys e with next =
    with ∙ ap (λ z. fold with_state z (flat_map f zs)) e
    ∙ sym (ap (λ z. fold with_state start (flat_map f z)) next ∙ ap (fold with_state start) (flat-behind f xs zs)
    ∙ fold-behind with_state start (flat_map f xs) (flat_map f zs))

pub flat-one : {A : Type 0} (f : A → List State) (states more : List State) (x : A) → more ≡ fold with_state states (f x) → more ≡ fold with_state states (flat_map f (x ∷ []))
flat-one f states more x e = e ∙ ap (fold with_state states) (sym (append-nil (f x)))

-- where the first of these lead to too many states, all of them do
pub long-already : {A : Type 0} (f : State → List State) (g : A → State) (xs : List A) (k room : ℕ)
    → room < length (fold with_state [] (flat_map f (map g (take k xs)))) → room < length (fold with_state [] (flat_map f (map g xs)))
long-already f g xs k room h =
    let first = fold with_state [] (flat_map f (map g (take k xs))) in
    let rest = all-behind (flat_map f (map g (drop k xs))) first in
    let all : fold with_state [] (flat_map f (map g xs)) ≡ first ++ rest.0 =
    ap (λ z. fold with_state [] (flat_map f (map g z))) (sym (take-append-drop k xs))
    ∙ ap (λ z. fold with_state [] (flat_map f z)) (map-append g (take k xs) (drop k xs))
    ∙ ap (fold with_state []) (flat-behind f (map g (take k xs)) (map g (drop k xs)))
    ∙ fold-behind with_state [] (flat_map f (map g (take k xs))) (flat_map f (map g (drop k xs))) ∙ rest.1 in
    let longer = length-append first rest.0 in
    subst (λ z. room < length z) (sym all) (omega arith)

-- what holds among some states, and among them with others behind, holds among all that are added
pub stays-behind : (P : List State → Type 0) → ((states more : List State) → P states → P (states ++ more)) → (states more xs : List State)
    → more ≡ fold with_state states xs → P states → P more
stays-behind P stays states more xs e h =
    let behind = all-behind xs states in
    subst P (sym (e ∙ behind.1)) (stays states behind.0 h)

-- values, each with the state that it leads to
module _ {X : Type 0} (g : X → ℕ) (h : X → State) where
  abbrev pub to : X → Led
  to x = (g x, Some (h x))

  pub jumped-stay : (js : List Jump) (xs : List X) (states more : List State) → map (jumped states) js ≡ map to xs → map (jumped (states ++ more)) js ≡ map to xs
  jumped-stay [] [] states more e = refl
  jumped-stay [] (x ∷ xs) states more e = absurd (cc)
  jumped-stay (j ∷ js) [] states more e = absurd (cc)
  jumped-stay (j ∷ js) (x ∷ xs) states more e =
      let one : jumped states j ≡ to x = cc in
      let rest : map (jumped states) js ≡ map to xs = cc in
      let value : j.value ≡ g x = ap (λ (l : Led). l.0) one in
      let place : slice_get states j.place ≡ Some (h x) = ap (λ (l : Led). l.1) one in
      let there : slice_get (states ++ more) j.place ≡ Some (h x) =
      slice_get-left states more j.place (slice_get_within states j.place (h x) place) ∙ place in
      let later = jumped-stay js xs states more rest in
      (λ i. (value i, there i) ∷ later i)

  -- one more jump, to a state that is there now
  pub jumps-next : (old new added : List State) (js longer : List Jump) (xs ys : List X) (x : X) (place : ℕ) → new ≡ fold with_state old added
      → longer ≡ js ++ record { value = g x; place = place } ∷ [] → map (jumped old) js ≡ map to xs → slice_get new place ≡ Some (h x)
      → map to ys ≡ map to xs ++ to x ∷ [] → map (jumped new) longer ≡ map to ys
  jumps-next old new added js longer xs ys x place e pushed led-so there next =
      let still = stays-behind (λ z. map (jumped z) js ≡ map to xs) (λ z more k. jumped-stay js xs z more k) old new added e led-so in
      ap (map (jumped new)) pushed ∙ map-append (jumped new) js (record { value = g x; place = place } ∷ [])
      ∙ (λ i. still i ++ (g x, there i) ∷ []) ∙ sym next

module _ (agent : Agent) where
  pub linked-stay : (values : Values) (ls : List Link) (ws : List Way) (states more : List State)
      → map (linked states) ls ≡ map (way_led agent values) ws → map (linked (states ++ more)) ls ≡ map (way_led agent values) ws
  linked-stay values [] [] states more e = refl
  linked-stay values [] (w ∷ ws) states more e = absurd (cc)
  linked-stay values (l ∷ ls) [] states more e = absurd (cc)
  linked-stay values (l ∷ ls) (w ∷ ws) states more e =
      let one : linked states l ≡ way_led agent values w = cc in
      let rest : map (linked states) ls ≡ map (way_led agent values) ws = cc in
      let way : l.way ≡ w = ap (λ (x : WayLed). x.0) one in
      let next : map (jumped (states ++ more)) l.next ≡ map (led w.left) (cases agent values w.label) =
      jumped-stay (λ (c : Case). c.0) (λ (c : Case). (w.left, c.1)) l.next (cases agent values w.label) states more (ap (λ (x : WayLed). x.1) one) in
      let later = linked-stay values ls ws states more rest in
      (λ i. (way i, next i) ∷ later i)

  -- more links, to states that are there now
  pub links-next : (values : Values) (old new added : List State) (ls longer : List Link) (l : Link) (ws : List Way) (w : Way) → new ≡ fold with_state old added
      → longer ≡ ls ++ l ∷ [] → map (linked old) ls ≡ map (way_led agent values) ws → linked new l ≡ way_led agent values w
      → map (linked new) longer ≡ map (way_led agent values) (ws ++ w ∷ [])
  links-next values old new added ls longer l ws w e pushed so there =
      let still = stays-behind (λ z. map (linked z) ls ≡ map (way_led agent values) ws) (λ z more k. linked-stay values ls ws z more k) old new added e so in
      ap (map (linked new)) pushed ∙ map-append (linked new) ls (l ∷ [])
      ∙ (λ i. still i ++ there i ∷ []) ∙ sym (map-append (way_led agent values) ws (w ∷ []))

  all-linked-stay : (ss : List State) (level : List Linked) (states more : List State) → AllZip (IsLinked agent states) ss level → AllZip (IsLinked agent (states ++ more)) ss level
  all-linked-stay [] [] states more h = h
  all-linked-stay [] (l ∷ level) states more h = absurd h
  all-linked-stay (s ∷ ss) [] states more h = absurd h
  all-linked-stay (s ∷ ss) (l ∷ level) states more h =
      (record { ends = h.0.ends; links = linked-stay s.1 l.links _ states more h.0.links }, all-linked-stay ss level states more h.1)

  linked-push : (next : List State) (ss : List State) (level : List Linked) (s : State) (l : Linked) → AllZip (IsLinked agent next) ss level → IsLinked agent next s l
      → AllZip (IsLinked agent next) (ss ++ s ∷ []) (level ++ l ∷ [])
  linked-push next [] [] s l h k = (k, tt)
  linked-push next [] (l' ∷ level) s l h k = absurd h
  linked-push next (s' ∷ ss) [] s l h k = absurd h
  linked-push next (s' ∷ ss) (l' ∷ level) s l h k = (h.0, linked-push next ss level s l h.1 k)

  -- one more state, linked to those of the next level
  pub linked-next : (states more xs ss ts : List State) (level longer : List Linked) (s : State) (l : Linked) → more ≡ fold with_state states xs
      → AllZip (IsLinked agent states) ss level → IsLinked agent more s l → ts ≡ ss ++ s ∷ [] → longer ≡ level ++ l ∷ [] → AllZip (IsLinked agent more) ts longer
  linked-next states more xs ss ts level longer s l e h k next pushed =
      let still = stays-behind (λ z. AllZip (IsLinked agent z) ss level) (all-linked-stay ss level) states more xs e h in
      subst (λ z. AllZip (IsLinked agent more) z longer) (sym next)
      (subst (AllZip (IsLinked agent more) (ss ++ s ∷ [])) (sym pushed) (linked-push more ss level s l still k))

  -- one level more, linked to a new last one
  pub levels-push : (states : List State) (levels : List (List Linked)) (last next : List Spot) (level : List Linked) → AreLevels agent states levels last
      → AllZip (IsLinked agent (states_of next)) (states_of last) level → All (IsSpot agent) next → AreLevels agent states (levels ++ level ∷ []) next
  levels-push states [] last next level h k spots =
      (states_of next, subst (λ z. AllZip (IsLinked agent (states_of next)) z level) h.0 k, (refl, spots))
  levels-push states (first ∷ levels) last next level h k spots = (h.0, h.1, levels-push h.0 levels last next level h.2 k spots)

  pub last-spots : (states : List State) (levels : List (List Linked)) (last : List Spot) → AreLevels agent states levels last → All (IsSpot agent) last
  last-spots states [] last h = h.1
  last-spots states (first ∷ levels) last h = last-spots h.0 levels last h.2
