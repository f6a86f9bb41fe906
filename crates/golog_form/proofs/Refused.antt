-- A code is that of the first token that has one, and where a form is found none fits.
use Rattle.std.proofs.Common.{◌≡◌, ℕ, ◌<◌, ◌≤◌, ◌⊎◌, inl, inr, Bool, true, false, ◌||◌, leb, length, List, [], ◌∷◌, ◌++◌, Option, Some, None, Result, Ok, Err, refl, ◌∙◌, arith}
use Rattle.std.specs.Prelude.{IsTrue}
use Rattle.std.proofs.lemmas.Bool.{cases_Bool, leb-true, leb-false}
use Rattle.std.proofs.lemmas.List.Sums.{fold-append}
use Rattle.std.proofs.lemmas.List.Folds.{list_any-append}
use Rattle.golog_base.proofs.Bools.{or-true}
use Rattle.golog_form.specs.declared.form.Form.{Form}
use Rattle.golog_form.specs.declared.form.Form.TheVariants as form
use Rattle.golog_form.specs.declared.parser.Level.{Level}
use Rattle.golog_form.specs.declared.parser.Parser.{Parser}
use Rattle.golog_form.specs.declared.token.Token.{Token}
use Rattle.golog_form.specs.declared.token.Token.TheVariants.{Open, Close, Atom, Bad}
use Rattle.golog_form.specs.Gives.{Fault}
use Rattle.golog_form.specs.Parsing.{◌>>=◌, start, put_form, deeper, take_token, finish, parse}
use Rattle.golog_form.specs.Tokens.{tokens, place}
use Rattle.golog_form.specs.Faults.{closes, is_bad, begins_form, has_form, after_token, open_lists, IsStray, IsBad, IsTooDeep}

-- the codes of a token that stands after others
abbrev pub TokenFits : List Token → Token → ℕ → Type 0
TokenFits before t why =
    ((why ≡ 2) × IsStray before t) ⊎ ((why ≡ 3) × IsBad before t) ⊎ ((why ≡ 4) × IsTooDeep before t)

-- the codes of the end
abbrev pub EndFits : List Token → ℕ → Type 0
EndFits all why = ((why ≡ 1) × (0 < open_lists all)) ⊎ ((why ≡ 6) × (has_form all ≡ false))

-- The first code in order: that of the first token that has one, or else that of the end.
abbrev pub FirstFrom : List Token → List Token → ℕ → ℕ → ℕ → Type 0
FirstFrom before [] end why at = EndFits before why × (at ≡ end)
FirstFrom before (t ∷ after) end why at = (TokenFits before t why × (at ≡ place t)) ⊎ (((other : ℕ) → TokenFits before t other → ⊥) × FirstFrom (before ++ t ∷ []) after end why at)

-- no code fits
abbrev pub NoneFrom : List Token → List Token → Type 0
NoneFrom before [] = (why : ℕ) → EndFits before why → ⊥
NoneFrom before (t ∷ after) = ((why : ℕ) → TokenFits before t why → ⊥) × NoneFrom (before ++ t ∷ []) after

-- The parser after these tokens has as many lists open as they have, and has begun where they have.
record Follows (before : List Token) (levels : List Level) (found : Option Form) : Type 0 where
  depth : open_lists before ≡ length levels
  shallow : length levels ≤ 128
  whole : (f : Form) → found ≡ Some f → levels ≡ []
  begun : levels ≡ [] → found ≡ None → has_form before ≡ false
  fresh : has_form before ≡ false → (levels ≡ []) × (found ≡ None)

-- what is shown of one token
abbrev OneStep : List Token → Token → Result Parser Fault → Type 0
OneStep before t (Ok q) = ((why : ℕ) → TokenFits before t why → ⊥) × Follows (before ++ t ∷ []) q.levels q.found
OneStep before t (Err (why, at)) = TokenFits before t why × (at ≡ place t)

-- what is shown of all
abbrev pub Verdict : List Token → List Token → ℕ → Result Form Fault → Type 0
Verdict before after end (Ok f) = NoneFrom before after
Verdict before after end (Err (why, at)) = FirstFrom before after end why at

open_lists-more : (before : List Token) (t : Token) → open_lists (before ++ t ∷ []) ≡ after_token (open_lists before) t
open_lists-more before t = fold-append after_token 0 before (t ∷ [])

-- a form has begun after a token that begins one, or that stands after one that does
formed-by : (before : List Token) (t : Token) → begins_form t ≡ true → has_form (before ++ t ∷ []) ≡ true
formed-by before t begins =
    let more = list_any-append begins_form before (t ∷ []) in
    rw (more, begins) (or-true (has_form before))

formed-before : (before : List Token) (t : Token) → has_form before ≡ true → has_form (before ++ t ∷ []) ≡ true
formed-before before t formed =
    let more = list_any-append begins_form before (t ∷ []) in
    rw (more, formed) refl

-- where the parser holds something, a form has begun
formed : (before : List Token) (levels : List Level) (found : Option Form) → Follows before levels found
    → ((levels ≡ []) × (found ≡ None) → ⊥) → has_form before ≡ true
formed before levels found follows holds =
    elim (cases_Bool (has_form before)) [ inl is ↦ is | inr none ↦ absurd (holds (follows.fresh none)) ]

no_row : (before : List Token) (t : Token) → (IsStray before t → ⊥) → (IsTrue (is_bad t) → ⊥) → (IsTooDeep before t → ⊥)
    → (why : ℕ) → TokenFits before t why → ⊥
no_row before t stray bad deep why (inl (e, s)) = stray s
no_row before t stray bad deep why (inr (inl (e, s))) = bad s
no_row before t stray bad deep why (inr (inr (e, s))) = deep s

-- within a list nothing is stray
inside : (before : List Token) (t : Token) (level : Level) (levels : List Level) (found : Option Form)
    → Follows before (level ∷ levels) found → IsStray before t → ⊥
inside before t level levels found follows stray = omega (arith, follows.depth, stray.0)

-- the first form is not stray
first : (before : List Token) (t : Token) → closes t ≡ false → has_form before ≡ false → IsStray before t → ⊥
first before t opening e (none, inl x) = cc
first before t opening e (none, inr (x, begun)) = cc

-- outside all lists a form after another is
second : (before : List Token) (levels : List Level) (f : Form) → Follows before levels (Some f) → has_form before ≡ true
second before levels f follows = formed before levels (Some f) follows (λ none. let e = none.1 in cc)

deeper-step : (before : List Token) (at : ℕ) (levels : List Level) → Follows before levels None
    → (IsStray before (Open at) → ⊥) → OneStep before (Open at) (deeper at levels None)
deeper-step before at levels follows stray =
    elim (cases_Bool (leb 128 (length levels))) [
      | inl above ↦
          let low = leb-true 128 (length levels) above in
          rw above (inr (inr (refl, (refl, omega (arith, follows.depth, follows.shallow)))), refl)
      | inr below ↦
          let high = leb-false 128 (length levels) below in
          rw below (
            no_row before (Open at) stray (λ e. cc) (λ deep. omega (arith, follows.depth, deep.1)),
            record {
              depth = omega (arith, follows.depth, open_lists-more before (Open at));
              shallow = omega arith;
              whole = λ f e. cc;
              begun = λ e f. cc;
              fresh = λ e. absurd (let begun = formed-by before (Open at) refl in cc);
            },
          )
    ]

put_form-step : (before : List Token) (t : Token) (f : Form) (at : ℕ) (levels : List Level)
    → ((why : ℕ) → TokenFits before t why → ⊥) → has_form (before ++ t ∷ []) ≡ true
    → open_lists (before ++ t ∷ []) ≡ length levels → length levels ≤ 128 → OneStep before t (put_form f at levels None)
put_form-step before t f at [] none begun depth fits = (
  none,
  record {
    depth = depth;
    shallow = omega arith;
    whole = λ g e. refl;
    begun = λ e g. cc;
    fresh = λ e. absurd cc;
  },
)
put_form-step before t f at (level ∷ levels) none begun depth fits = (
  none,
  record {
    depth = depth;
    shallow = omega arith;
    whole = λ g e. cc;
    begun = λ e g. cc;
    fresh = λ e. absurd cc;
  },
)

close-step : (before : List Token) (end : ℕ) (level : Level) (levels : List Level) → Follows before (level ∷ levels) None
    → OneStep before (Close end) (put_form (form.Group level.items level.at end) level.at levels None)
close-step before end level levels follows =
    put_form-step before (Close end) (form.Group level.items level.at end) level.at levels
    (no_row before (Close end) (inside before (Close end) level levels None follows) (λ e. cc) (λ deep. let e = deep.0 in cc))
    (formed-before before (Close end) (formed before (level ∷ levels) None follows (λ none. let e = none.0 in cc)))
    (omega (arith, follows.depth, open_lists-more before (Close end))) (omega (arith, follows.shallow))

atom-step : (before : List Token) (text : List ℕ) (at end : ℕ) (levels : List Level) → Follows before levels None
    → (IsStray before (Atom text at end) → ⊥) → OneStep before (Atom text at end) (put_form (form.Atom text at end) at levels None)
atom-step before text at end levels follows stray =
    put_form-step before (Atom text at end) (form.Atom text at end) at levels
    (no_row before (Atom text at end) stray (λ e. cc) (λ deep. let e = deep.0 in cc))
    (formed-by before (Atom text at end) refl)
    (open_lists-more before (Atom text at end) ∙ follows.depth) follows.shallow

take_token-step : (before : List Token) (t : Token) (levels : List Level) (found : Option Form)
    → Follows before levels found → OneStep before t (take_token t levels found)
take_token-step before (Open at) [] (Some f) follows =
    (inl (refl, (omega (arith, follows.depth), inr (refl, second before [] f follows))), refl)
take_token-step before (Open at) [] None follows =
    deeper-step before at [] follows (first before (Open at) refl (follows.begun refl refl))
take_token-step before (Open at) (level ∷ levels) None follows =
    deeper-step before at (level ∷ levels) follows (inside before (Open at) level levels None follows)
take_token-step before (Open at) (level ∷ levels) (Some f) follows = absurd (let e = follows.whole f refl in cc)
take_token-step before (Close end) [] found follows = (inl (refl, (omega (arith, follows.depth), inl refl)), refl)
take_token-step before (Close end) (level ∷ levels) None follows = close-step before end level levels follows
take_token-step before (Close end) (level ∷ levels) (Some f) follows = absurd (let e = follows.whole f refl in cc)
take_token-step before (Atom text at end) [] None follows =
    atom-step before text at end [] follows (first before (Atom text at end) refl (follows.begun refl refl))
take_token-step before (Atom text at end) [] (Some f) follows =
    (inl (refl, (omega (arith, follows.depth), inr (refl, second before [] f follows))), refl)
take_token-step before (Atom text at end) (level ∷ levels) None follows =
    atom-step before text at end (level ∷ levels) follows (inside before (Atom text at end) level levels None follows)
take_token-step before (Atom text at end) (level ∷ levels) (Some f) follows = absurd (let e = follows.whole f refl in cc)
take_token-step before (Bad at) levels found follows = (inr (inl (refl, refl)), refl)

finish-verdict : (before : List Token) (end : ℕ) (levels : List Level) (found : Option Form)
    → Follows before levels found → Verdict before [] end (finish end levels found)
finish-verdict before end (level ∷ levels) found follows = (inl (refl, omega (arith, follows.depth)), refl)
finish-verdict before end [] None follows = (inr (refl, follows.begun refl refl), refl)
finish-verdict before end [] (Some f) follows = no_end
  where
    no_end : (why : ℕ) → EndFits before why → ⊥
    no_end why (inl (e, above)) = omega (arith, follows.depth, above)
    no_end why (inr (e, none)) = let begun = second before [] f follows in cc

parse-verdict : (end : ℕ) (after before : List Token) (p : Parser) → Follows before p.levels p.found → Verdict before after end (parse end after p)
unfolding parse
parse-verdict end [] before p follows = finish-verdict before end p.levels p.found follows
parse-verdict end (t ∷ after) before p follows =
    joins (take_token t p.levels p.found) (take_token-step before t p.levels p.found follows) (λ q. parse-verdict end after (before ++ t ∷ []) q)
  where
    on_rest : (r : Result Form Fault) → ((why : ℕ) → TokenFits before t why → ⊥) → Verdict (before ++ t ∷ []) after end r → Verdict before (t ∷ after) end r
    on_rest (Ok f) none rest = (none, rest)
    on_rest (Err (why, at)) none rest = inr (none, rest)

    joins : (r : Result Parser Fault) → OneStep before t r → ((q : Parser) → Follows (before ++ t ∷ []) q.levels q.found → Verdict (before ++ t ∷ []) after end (parse end after q))
        → Verdict before (t ∷ after) end (r >>= parse end after)
    joins (Ok q) step rest = on_rest (parse end after q) step.0 (rest q step.1)
    joins (Err (why, at)) step rest = inl step

pub whole : (bytes : List ℕ) → Verdict [] (tokens bytes) (length bytes) (parse (length bytes) (tokens bytes) start)
whole bytes = parse-verdict (length bytes) (tokens bytes) [] start (record { depth = refl; shallow = omega arith; whole = λ f e. refl; begun = λ e f. refl; fresh = λ e. (refl, refl) })
