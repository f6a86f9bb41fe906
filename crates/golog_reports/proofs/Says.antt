-- What a line was read as.
use Rattle.std.proofs.Common.{◌≡◌, ℕ, Bool, true, false, not, Option, Some, None, Result, Ok, Err, length, refl, ap}
use Rattle.std.specs.Prelude.{option_map}
use Rattle.golog_rows.specs.Reading.{Reading, row, found, outcome_behind, unless, ◌>>=◌}
use Rattle.golog_tree.specs.declared.agent.Agent.{Agent}
use Rattle.golog_semantics.specs.Journal.{Journal}
use Rattle.golog_semantics.specs.Text.{Text}
use Rattle.golog_reports.specs.declared.reading.Line.{Line}
use Rattle.golog_reports.specs.Codes.{NO_BODY, MISPLACED, NOT_OWN, NO_RESULT}
use Rattle.golog_reports.specs.Said.{Said, said_in}
use Rattle.golog_reports.specs.Reads.{Named, named, is_in_place, line_named, line_said, line_of}

pub mapped : {A B : Type 0} (f : A → B) (o : Option A) (y : B) → option_map f o ≡ Some y → (x : A) × (o ≡ Some x) × (f x ≡ y)
mapped f None y e = absurd (cc)
mapped f (Some x) y e = let k : f x ≡ y = cc in (x, refl, k)

-- parts of a reading that has a value
pub found-ok : {A : Type 0} (code at : ℕ) (o : Option A) (x : A) → (found code at o).outcome ≡ Ok x → o ≡ Some x
found-ok code at None x e = absurd (cc)
found-ok code at (Some y) x e = let k : y ≡ x = cc in ap Some k

unless-ok : {A : Type 0} (b : Bool) (refusal : ℕ × ℕ) (o : Result A (ℕ × ℕ)) (x : A) → unless (not b) refusal o ≡ Ok x → (b ≡ true) × (o ≡ Ok x)
unless-ok true refusal o x e = (refl, e)
unless-ok false refusal o x e = absurd (cc)

pub row-ok : {A : Type 0} (b : Bool) (code at : ℕ) (rest : Reading A) (x : A) → (row (not b) code at rest).outcome ≡ Ok x → (b ≡ true) × (rest.outcome ≡ Ok x)
row-ok b code at rest x e = unless-ok b (code, at) rest.outcome x e

behind-ok : {A B : Type 0} (o : Result A (ℕ × ℕ)) (next : A → Reading B) (y : B) → outcome_behind o next ≡ Ok y → (x : A) × (o ≡ Ok x) × ((next x).outcome ≡ Ok y)
behind-ok (Ok x) next y e = (x, refl, e)
behind-ok (Err refusal) next y e = absurd (cc)

pub then-ok : {A B : Type 0} (reading : Reading A) (next : A → Reading B) (y : B) → (reading >>= next).outcome ≡ Ok y → (x : A) × (reading.outcome ≡ Ok x) × ((next x).outcome ≡ Ok y)
then-ok reading next y e = behind-ok reading.outcome next y e

module _ (agent : Agent) (before : Journal) where
  -- a line that was read: what it says, what that names, and what it is
  pub record IsRead (text : Text) (line : Line) : Type 0 where
    pub said : Said
    pub what : Named
    pub said_is : said_in text ≡ Some said
    pub in_place : is_in_place (length before) said ≡ true
    pub what_is : named agent said.body ≡ Some what
    pub line_is : line_named agent before what ≡ Some line

  pub is_read : (text : Text) (line : Line) → (line_of agent before text).outcome ≡ Ok line → IsRead text line
  unfolding line_of line_said
  is_read text line e =
      let n = length before in
      let first = then-ok (found NO_BODY n (said_in text)) (line_said agent before) line e in
      let said = first.0 in
      let rest : Reading Line = found NOT_OWN n (named agent said.body) >>= λ what. found NO_RESULT n (line_named agent before what) in
      let placed = row-ok (is_in_place n said) MISPLACED n rest line first.2 in
      let own = then-ok (found NOT_OWN n (named agent said.body)) (λ what. found NO_RESULT n (line_named agent before what)) line placed.1 in
      record {
        said = said;
        what = own.0;
        said_is = found-ok NO_BODY n (said_in text) said first.1;
        in_place = placed.0;
        what_is = found-ok NOT_OWN n (named agent said.body) own.0 own.1;
        line_is = found-ok NO_RESULT n (line_named agent before own.0) line own.2;
      }
