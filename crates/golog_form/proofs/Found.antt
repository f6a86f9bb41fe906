-- What the parser finds is spelled by the tokens.
use Rattle.std.proofs.Common.{◌≡◌, ℕ, ◌+◌, ◌≤◌, max, subst, arith, Bool, true, false, cond, leb, length, List, [], ◌∷◌, ◌++◌, map, Option, Some, None, Result, Ok, Err, refl, sym, ap, ◌∙◌, append_assoc}
use Rattle.std.specs.Prelude.{IfOk}
use Rattle.std.specs.List.{flat_map}
use Rattle.std.proofs.lemmas.List.{append-nil, flat_map_more, map-append}
use Rattle.std.proofs.lemmas.Bool.{leb-false}
use Rattle.std.proofs.lemmas.List.Folds.{flat_map-map}
use Rattle.golog_form.specs.declared.form.Form.{Form}
use Rattle.golog_form.specs.declared.form.Form.TheOpen.{Atom, Group}
use Rattle.golog_form.specs.declared.form.Form.TheVariants as form
use Rattle.golog_form.specs.declared.form.Form.TheFolds.{fold-roll-Form}
use Rattle.golog_form.specs.declared.fault.FormFault.{FormFault}
use Rattle.golog_form.specs.declared.parser.Level.{Level}
use Rattle.golog_form.specs.declared.parser.Parser.{Parser}
use Rattle.golog_form.specs.declared.token.Token.{Token}
use Rattle.golog_form.specs.declared.token.Token.TheVariants as token
use Rattle.golog_form.specs.Spelling.{spelling, spelling_step, nest, nest_step, greatest, Spells}
use Rattle.golog_form.specs.Gives.{Fault, Gives}
use Rattle.golog_form.specs.Parsing.{◌>>=◌, parser, start, put_form, deeper, take_token, finish, parse}
use Rattle.golog_form.specs.Tokens.{tokens}

pub spelling-Atom : (text : List ℕ) (at end : ℕ) → spelling (form.Atom text at end) ≡ token.Atom text at end ∷ []
spelling-Atom text at end = ap spelling (sym (form.rolls-Atom text at end)) ∙ fold-roll-Form (List Token) spelling_step (Atom text at end)

pub spelling-Group : (items : List Form) (at end : ℕ) → spelling (form.Group items at end) ≡ token.Open at ∷ flat_map spelling items ++ token.Close end ∷ []
spelling-Group items at end =
    ap spelling (sym (form.rolls-Group items at end))
    ∙ fold-roll-Form (List Token) spelling_step (Group items at end)
    ∙ ap (λ ts. token.Open at ∷ ts ++ token.Close end ∷ []) (flat_map-map (λ ts. ts) spelling items)

abbrev levels_spelled : List Level → List Token
levels_spelled [] = []
levels_spelled (level ∷ levels) = levels_spelled levels ++ (token.Open level.at ∷ flat_map spelling level.items)

abbrev found_spelled : Option Form → List Token
found_spelled None = []
found_spelled (Some f) = spelling f

-- the tokens that the parser has taken
abbrev taken : List Level → Option Form → List Token
taken levels found = found_spelled found ++ levels_spelled levels

put_form-taken : (f : Form) (at : ℕ) (levels : List Level) (found : Option Form) (q : Parser) → put_form f at levels found ≡ Ok q
    → taken q.levels q.found ≡ taken levels found ++ spelling f
put_form-taken f at [] None q e =
    let is : parser [] (Some f) ≡ q = cc in
    ap (λ (p : Parser). taken p.levels p.found) (sym is) ∙ append-nil (spelling f)
put_form-taken f at [] (Some other) q e = cc
put_form-taken f at (level ∷ levels) found q e =
    let items = flat_map_more spelling (token.Open level.at ∷ []) level.items f in
    let is : parser (record { at = level.at; items = level.items ++ f ∷ [] } ∷ levels) found ≡ q = cc in
    ap (λ (p : Parser). taken p.levels p.found) (sym is)
    ∙ ap (λ ts. found_spelled found ++ (levels_spelled levels ++ ts)) (sym items)
    ∙ simp append_assoc

-- a test that did not fail
pub guard_ok : {A : Type 0} (b : Bool) (d : Fault) (x y : A) → cond b (Err d) (Ok x) ≡ Ok y → (b ≡ false) × (x ≡ y)
guard_ok true d x y e = absurd cc
guard_ok false d x y e = (refl, cc)

-- a step that did not fail
pub bind_ok : {A B : Type 0} (r : Result A Fault) (f : A → Result B Fault) (y : B) → (r >>= f) ≡ Ok y → (x : A) × (r ≡ Ok x) × (f x ≡ Ok y)
bind_ok (Ok x) f y e = (x, refl, e)
bind_ok (Err d) f y e = absurd cc

deeper-taken : (at : ℕ) (levels : List Level) (found : Option Form) (q : Parser) → deeper at levels found ≡ Ok q
    → taken q.levels q.found ≡ taken levels found ++ token.Open at ∷ []
deeper-taken at levels found q e =
    let is : parser (record { at = at; items = [] } ∷ levels) found ≡ q = (guard_ok (leb 128 (length levels)) (4, at) (parser (record { at = at; items = [] } ∷ levels) found) q e).1 in
    ap (λ (p : Parser). taken p.levels p.found) (sym is) ∙ simp append_assoc

take_token-taken : (t : Token) (levels : List Level) (found : Option Form) (q : Parser) → take_token t levels found ≡ Ok q
    → taken q.levels q.found ≡ taken levels found ++ t ∷ []
take_token-taken (token.Open at) [] (Some other) q e = cc
take_token-taken (token.Open at) [] None q e = deeper-taken at [] None q e
take_token-taken (token.Open at) (level ∷ levels) found q e = deeper-taken at (level ∷ levels) found q e
take_token-taken (token.Close end) [] found q e = cc
take_token-taken (token.Close end) (level ∷ levels) found q e =
    put_form-taken (form.Group level.items level.at end) level.at levels found q e
    ∙ ap (λ ts. taken levels found ++ ts) (spelling-Group level.items level.at end)
    ∙ simp append_assoc
take_token-taken (token.Atom text at end) levels found q e =
    put_form-taken (form.Atom text at end) at levels found q e ∙ ap (λ ts. taken levels found ++ ts) (spelling-Atom text at end)
take_token-taken (token.Bad at) levels found q e = cc

finish-taken : (end : ℕ) (levels : List Level) (found : Option Form) (f : Form) → finish end levels found ≡ Ok f → taken levels found ≡ spelling f
finish-taken end (level ∷ levels) found f e = cc
finish-taken end [] None f e = cc
finish-taken end [] (Some g) f e = let is : g ≡ f = cc in append-nil (spelling g) ∙ ap spelling is

parse-taken : (end : ℕ) (ts : List Token) (p : Parser) (f : Form) → parse end ts p ≡ Ok f → taken p.levels p.found ++ ts ≡ spelling f
unfolding parse
parse-taken end [] p f e = append-nil (taken p.levels p.found) ∙ finish-taken end p.levels p.found f e
parse-taken end (t ∷ ts) p f e =
    let step = bind_ok (take_token t p.levels p.found) (parse end ts) f e in
    sym (append_assoc (taken p.levels p.found) (t ∷ []) ts)
    ∙ ap (λ front. front ++ ts) (sym (take_token-taken t p.levels p.found step.0 step.1))
    ∙ parse-taken end ts step.0 f step.2

-- ---- the nest

pub nest-Atom : (text : List ℕ) (at end : ℕ) → nest (form.Atom text at end) ≡ 0
nest-Atom text at end = ap nest (sym (form.rolls-Atom text at end)) ∙ fold-roll-Form ℕ nest_step (Atom text at end)

pub nest-Group : (items : List Form) (at end : ℕ) → nest (form.Group items at end) ≡ greatest (map nest items) + 1
nest-Group items at end = ap nest (sym (form.rolls-Group items at end)) ∙ fold-roll-Form ℕ nest_step (Group items at end)

greatest-append : (ns : List ℕ) (n : ℕ) → greatest (ns ++ n ∷ []) ≡ max n (greatest ns)
greatest-append [] n = refl
greatest-append (k ∷ ns) n = omega (arith, greatest-append ns n)

-- what is open may hold what is in it, and what is found is within the limit
abbrev AreShallow : List Level → Type 0
AreShallow [] = Unit {0}
AreShallow (level ∷ levels) = (greatest (map nest level.items) + (length levels + 1) ≤ 128) × AreShallow levels

abbrev IsShallow : Option Form → Type 0
IsShallow None = Unit {0}
IsShallow (Some f) = nest f ≤ 128

put_form-shallow : (f : Form) (at : ℕ) (levels : List Level) (found : Option Form) (q : Parser) → put_form f at levels found ≡ Ok q → nest f + length levels ≤ 128
    → AreShallow levels → IsShallow found → AreShallow q.levels × IsShallow q.found
put_form-shallow f at [] None q e fits levels_fit found_fits =
    let is : parser [] (Some f) ≡ q = cc in
    subst (λ (p : Parser). AreShallow p.levels × IsShallow p.found) is (tt, omega arith)
put_form-shallow f at [] (Some other) q e fits levels_fit found_fits = cc
put_form-shallow f at (level ∷ levels) found q e fits levels_fit found_fits =
    let is : parser (record { at = level.at; items = level.items ++ f ∷ [] } ∷ levels) found ≡ q = cc in
    let items : map nest (level.items ++ f ∷ []) ≡ map nest level.items ++ nest f ∷ [] = map-append nest level.items (f ∷ []) in
    let more : greatest (map nest (level.items ++ f ∷ [])) ≡ max (nest f) (greatest (map nest level.items)) = ap greatest items ∙ greatest-append (map nest level.items) (nest f) in
    subst (λ (p : Parser). AreShallow p.levels × IsShallow p.found) is ((omega (arith, more, levels_fit.0), levels_fit.1), found_fits)

deeper-shallow : (at : ℕ) (levels : List Level) (found : Option Form) (q : Parser) → deeper at levels found ≡ Ok q
    → AreShallow levels → IsShallow found → AreShallow q.levels × IsShallow q.found
deeper-shallow at levels found q e levels_fit found_fits =
    let made = guard_ok (leb 128 (length levels)) (4, at) (parser (record { at = at; items = [] } ∷ levels) found) q e in
    let room = leb-false 128 (length levels) made.0 in
    subst (λ (p : Parser). AreShallow p.levels × IsShallow p.found) made.1 ((omega arith, levels_fit), found_fits)

room_for_atom : (levels : List Level) → AreShallow levels → length levels ≤ 128
room_for_atom [] fit = omega arith
room_for_atom (level ∷ levels) fit = omega (arith, fit.0)

take_token-shallow : (t : Token) (levels : List Level) (found : Option Form) (q : Parser) → take_token t levels found ≡ Ok q
    → AreShallow levels → IsShallow found → AreShallow q.levels × IsShallow q.found
take_token-shallow (token.Open at) [] (Some other) q e l f = cc
take_token-shallow (token.Open at) [] None q e l f = deeper-shallow at [] None q e l f
take_token-shallow (token.Open at) (level ∷ levels) found q e l f = deeper-shallow at (level ∷ levels) found q e l f
take_token-shallow (token.Close end) [] found q e l f = cc
take_token-shallow (token.Close end) (level ∷ levels) found q e l f =
    put_form-shallow (form.Group level.items level.at end) level.at levels found q e (omega (arith, nest-Group level.items level.at end, l.0)) l.1 f
take_token-shallow (token.Atom text at end) levels found q e l f =
    put_form-shallow (form.Atom text at end) at levels found q e (omega (arith, nest-Atom text at end, room_for_atom levels l)) l f
take_token-shallow (token.Bad at) levels found q e l f = cc

finish-shallow : (end : ℕ) (levels : List Level) (found : Option Form) (f : Form) → finish end levels found ≡ Ok f → IsShallow found → nest f ≤ 128
finish-shallow end (level ∷ levels) found f e fits = cc
finish-shallow end [] None f e fits = cc
finish-shallow end [] (Some g) f e fits = let is : g ≡ f = cc in subst (λ x. nest x ≤ 128) is fits

parse-shallow : (end : ℕ) (ts : List Token) (p : Parser) (f : Form) → parse end ts p ≡ Ok f → AreShallow p.levels → IsShallow p.found → nest f ≤ 128
unfolding parse
parse-shallow end [] p f e levels_fit found_fits = finish-shallow end p.levels p.found f e found_fits
parse-shallow end (t ∷ ts) p f e levels_fit found_fits =
    let step = bind_ok (take_token t p.levels p.found) (parse end ts) f e in
    let fit = take_token-shallow t p.levels p.found step.0 step.1 levels_fit found_fits in
    parse-shallow end ts step.0 f step.2 fit.0 fit.1

pub found : (bytes : List ℕ) (end : ℕ) (r : Result Form FormFault) → Gives r (parse end (tokens bytes) start) → IfOk r (Spells bytes)
found bytes end (Ok f) gives = record { same = parse-taken end (tokens bytes) start f gives; shallow = parse-shallow end (tokens bytes) start f gives tt tt }
found bytes end (Err fault) gives = tt
