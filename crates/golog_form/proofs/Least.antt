-- The first code in the order of the tokens is that of the least place.
use Rattle.std.proofs.Common.{◌≡◌, ℕ, ◌+◌, ◌-◌, ◌<◌, ◌≤◌, ◌^◌, ◌⊎◌, inl, inr, Bool, true, false, cond, eqb, length, List, [], ◌∷◌, ◌++◌, Result, Ok, Err, refl, sym, ap, subst, ◌∙◌, append_assoc, arith}
use Rattle.std.proofs.lemmas.List.{append-nil}
use Rattle.golog_rows.specs.Order.{IsNoLater, IsLeast}
use Rattle.golog_form.specs.declared.class.ByteClass.{ByteClass}
use Rattle.golog_form.specs.declared.class.ByteClass.TheVariants as bytes
use Rattle.golog_form.specs.declared.form.Form.{Form}
use Rattle.golog_form.specs.declared.fault.FormFault.{FormFault}
use Rattle.golog_form.specs.declared.fault.FormFault.TheVariants.{Refused, Memory}
use Rattle.golog_form.specs.declared.token.Token.{Token}
use Rattle.golog_form.specs.declared.token.Token.TheVariants.{Open, Close, Atom, Bad}
use Rattle.golog_form.specs.Tokens.{tokens, tokens_of, first, longer, class, place, end_of, starts_atom}
use Rattle.golog_form.specs.Gives.{Gives}
use Rattle.golog_form.specs.Parsing.{parse, start}
use Rattle.std.specs.Prelude.{fold}
use Rattle.std.specs.List.{list_any}
use Rattle.golog_form.specs.Faults.{begins_form, after_token, IsStray, IsBad, IsTooDeep, Fits, unclosed, stray, bad_byte, too_deep, empty, IsAnswer}
use Rattle.golog_form.proofs.Refused.{TokenFits, EndFits, FirstFrom, NoneFrom, Verdict, whole}

-- tokens stand one after another, from a place up to another
abbrev pub Ordered : ℕ → List Token → ℕ → Type 0
Ordered from [] end = from ≤ end
Ordered from (t ∷ ts) end = (from ≤ place t) × (place t < end_of t) × Ordered (end_of t) ts end

Ordered-later : (from later : ℕ) (ts : List Token) (end : ℕ) → from ≤ later → Ordered later ts end → Ordered from ts end
Ordered-later from later [] end le o = omega (arith, o)
Ordered-later from later (t ∷ ts) end le o = (omega (arith, o.0), o.1, o.2)

longer-ordered : (b at : ℕ) (ts : List Token) (end : ℕ) → Ordered (at + 1) ts end → Ordered at (longer b at ts) end
longer-ordered b at [] end o = omega (arith, o)
longer-ordered b at (Atom text begin last ∷ ts) end o = (omega arith, omega (arith, o.0, o.1), o.2)
longer-ordered b at (Open begin ∷ ts) end o = Ordered-later at (at + 1) (Open begin ∷ ts) end (omega arith) o
longer-ordered b at (Close last ∷ ts) end o = Ordered-later at (at + 1) (Close last ∷ ts) end (omega arith) o
longer-ordered b at (Bad begin ∷ ts) end o = Ordered-later at (at + 1) (Bad begin ∷ ts) end (omega arith) o

first-ordered : (c : ByteClass) (b at : ℕ) (bs : List ℕ) (outside inside : List Token) (end : ℕ) → Ordered (at + 1) outside end → Ordered (at + 1) inside end → Ordered at (first c b at bs outside inside) end
first-ordered bytes.Separator b at bs outside inside end o i = Ordered-later at (at + 1) outside end (omega arith) o
first-ordered bytes.Semicolon b at bs outside inside end o i = Ordered-later at (at + 1) inside end (omega arith) i
first-ordered bytes.Open b at bs outside inside end o i = (omega arith, omega arith, o)
first-ordered bytes.Close b at bs outside inside end o i = (omega arith, omega arith, o)
first-ordered bytes.Atom b at bs outside inside end o i =
    elim (starts_atom bs) as (λ v. Ordered at (cond v (longer b at outside) (Atom (b ∷ []) at (at + 1) ∷ outside)) end) [
      | true ↦ longer-ordered b at outside end o
      | false ↦ (omega arith, omega arith, o)
    ]
first-ordered bytes.Bad b at bs outside inside end o i = (omega arith, omega arith, o)

pub tokens-ordered : (in_comment : Bool) (at : ℕ) (bs : List ℕ) (end : ℕ) → at + length bs ≡ end → Ordered at (tokens_of in_comment at bs) end
unfolding tokens_of
tokens-ordered in_comment at [] end e = omega arith
tokens-ordered true at (b ∷ bs) end e =
    let outside = tokens-ordered false (at + 1) bs end (omega arith) in
    let inside = tokens-ordered true (at + 1) bs end (omega arith) in
    elim (eqb b 10) as (λ v. Ordered at (cond v (tokens_of false (at + 1) bs) (tokens_of true (at + 1) bs)) end) [
      | true ↦ Ordered-later at (at + 1) (tokens_of false (at + 1) bs) end (omega arith) outside
      | false ↦ Ordered-later at (at + 1) (tokens_of true (at + 1) bs) end (omega arith) inside
    ]
tokens-ordered false at (b ∷ bs) end e =
    first-ordered (class b) b at bs (tokens_of false (at + 1) bs) (tokens_of true (at + 1) bs) end (tokens-ordered false (at + 1) bs end (omega arith)) (tokens-ordered true (at + 1) bs end (omega arith))

-- a token among others stands at or after the first place
stands-after : (from : ℕ) (before : List Token) (t : Token) (after : List Token) (end : ℕ) → Ordered from (before ++ t ∷ after) end → (from ≤ place t) × (place t < end)
stands-after from [] t after end o = (o.0, ends (end_of t) after end (place t) o.1 o.2)
  where
    ends : (from : ℕ) (ts : List Token) (end n : ℕ) → n < from → Ordered from ts end → n < end
    ends from [] end n lt o = omega (arith, o)
    ends from (u ∷ ts) end n lt o = ends (end_of u) ts end n (omega (arith, o.0, o.1)) o.2
stands-after from (u ∷ before) t after end o =
    let h = stands-after (end_of u) before t after end o.2 in
    (omega (arith, o.0, o.1, h.0), h.1)

stray_bad : (before : List Token) (t : Token) → IsStray before t → IsBad before t → ⊥
stray_bad before (Open at) out bad = cc
stray_bad before (Close end) out bad = cc
stray_bad before (Atom text at end) out bad = cc
stray_bad before (Bad at) (none, inl x) bad = cc
stray_bad before (Bad at) (none, inr (x, begun)) bad = cc

bad_deep : (before : List Token) (t : Token) → IsBad before t → IsTooDeep before t → ⊥
bad_deep before (Open at) bad deep = cc
bad_deep before (Close end) bad deep = cc
bad_deep before (Atom text at end) bad deep = cc
bad_deep before (Bad at) bad deep = let e = deep.0 in cc

-- at a token at most one code fits
one_code : (before : List Token) (t : Token) (why other : ℕ) → TokenFits before t why → TokenFits before t other → why ≡ other
one_code before t why other (inl (e, a)) (inl (f, b)) = e ∙ sym f
one_code before t why other (inl (e, a)) (inr (inl (f, b))) = absurd (stray_bad before t a b)
one_code before t why other (inl (e, a)) (inr (inr (f, b))) = absurd (omega (arith, a.0, b.1))
one_code before t why other (inr (inl (e, a))) (inl (f, b)) = absurd (stray_bad before t b a)
one_code before t why other (inr (inl (e, a))) (inr (inl (f, b))) = e ∙ sym f
one_code before t why other (inr (inl (e, a))) (inr (inr (f, b))) = absurd (bad_deep before t a b)
one_code before t why other (inr (inr (e, a))) (inl (f, b)) = absurd (omega (arith, a.1, b.0))
one_code before t why other (inr (inr (e, a))) (inr (inl (f, b))) = absurd (bad_deep before t b a)
one_code before t why other (inr (inr (e, a))) (inr (inr (f, b))) = e ∙ sym f

-- where no form has begun no list is open
none_open : (ts : List Token) (n : ℕ) → list_any begins_form ts ≡ false → fold after_token n ts ≤ n
none_open [] n e = omega arith
none_open (Open at ∷ ts) n e = absurd cc
none_open (Atom text at end ∷ ts) n e = absurd cc
none_open (Close end ∷ ts) n e = omega (arith, none_open ts (n - 1) e)
none_open (Bad at ∷ ts) n e = none_open ts n e

one_end : (all : List Token) (why other : ℕ) → EndFits all why → EndFits all other → why ≡ other
one_end all why other (inl (e, a)) (inl (f, b)) = e ∙ sym f
one_end all why other (inl (e, a)) (inr (f, b)) = absurd (omega (arith, a, none_open all 0 b))
one_end all why other (inr (e, a)) (inl (f, b)) = absurd (omega (arith, b, none_open all 0 a))
one_end all why other (inr (e, a)) (inr (f, b)) = e ∙ sym f

-- the same code at the same place
same_least : (why at code place : ℕ) → why ≡ code → at ≡ place → IsNoLater why at code place
same_least why at code place e f = inr (f, omega arith)

least_token : (before after : List Token) (from end why at : ℕ) → Ordered from after end → FirstFrom before after end why at
    → (mid : List Token) (t : Token) (rest : List Token) → after ≡ mid ++ t ∷ rest → (code : ℕ) → TokenFits (before ++ mid) t code → IsNoLater why at code (place t)
least_token before [] from end why at o f [] t rest e code row = absurd cc
least_token before [] from end why at o f (v ∷ mid) t rest e code row = absurd cc
least_token before (u ∷ us) from end why at o (inl (fits, is)) [] t rest e code row =
    let same : u ≡ t = cc in
    let here : TokenFits before t why = subst (λ x. TokenFits before x why) same fits in
    same_least why at code (place t) (one_code before t why code here (subst (λ b. TokenFits b t code) (append-nil before) row)) (is ∙ ap place same)
least_token before (u ∷ us) from end why at o (inl (fits, is)) (v ∷ mid) t rest e code row =
    let later : us ≡ mid ++ t ∷ rest = cc in
    let h = stands-after (end_of u) mid t rest end (subst (λ ts. Ordered (end_of u) ts end) later o.2) in
    inl (omega (arith, h.0, o.1, is))
least_token before (u ∷ us) from end why at o (inr (none, later)) [] t rest e code row =
    let same : t ≡ u = cc in
    absurd (none code (subst (λ x. TokenFits before x code) same (subst (λ b. TokenFits b t code) (append-nil before) row)))
least_token before (u ∷ us) from end why at o (inr (none, later)) (v ∷ mid) t rest e code row =
    let same : v ≡ u = cc in
    let more : us ≡ mid ++ t ∷ rest = cc in
    let joined : before ++ v ∷ mid ≡ (before ++ u ∷ []) ++ mid = ap (λ x. before ++ x ∷ mid) same ∙ sym (append_assoc before (u ∷ []) mid) in
    least_token (before ++ u ∷ []) us (end_of u) end why at o.2 later mid t rest more code (subst (λ b. TokenFits b t code) joined row)

least_end : (before after : List Token) (from end why at : ℕ) → Ordered from after end → FirstFrom before after end why at → (code : ℕ) → EndFits (before ++ after) code → IsNoLater why at code end
least_end before [] from end why at o f code row = same_least why at code end (one_end before why code f.0 (subst (λ b. EndFits b code) (append-nil before) row)) f.1
least_end before (u ∷ us) from end why at o (inl (fits, is)) code row = inl (omega (arith, (stands-after from [] u us end o).1, is))
least_end before (u ∷ us) from end why at o (inr (none, later)) code row =
    least_end (before ++ u ∷ []) us (end_of u) end why at o.2 later code (subst (λ b. EndFits b code) (sym (append_assoc before (u ∷ []) us)) row)

-- where the first code stands
abbrev Stands : List Token → List Token → ℕ → ℕ → ℕ → Type 0
Stands before after end why at =
    ((mid rest : List Token) × (t : Token) × (after ≡ mid ++ t ∷ rest) × (at ≡ place t) × TokenFits (before ++ mid) t why) ⊎ (EndFits (before ++ after) why × (at ≡ end))

stands : (before after : List Token) (end why at : ℕ) → FirstFrom before after end why at → Stands before after end why at
stands before [] end why at f = inr (subst (λ b. EndFits b why) (sym (append-nil before)) f.0, f.1)
stands before (u ∷ us) end why at (inl (fits, is)) = inl ([], us, u, refl, is, subst (λ b. TokenFits b u why) (sym (append-nil before)) fits)
stands before (u ∷ us) end why at (inr (none, later)) =
    elim (stands (before ++ u ∷ []) us end why at later) [
      | inl (mid, rest, t, e, is, row) ↦ inl (u ∷ mid, rest, t, ap (λ x. u ∷ x) e, is, subst (λ b. TokenFits b t why) (append_assoc before (u ∷ []) mid) row)
      | inr (row, is) ↦ inr (subst (λ b. EndFits b why) (append_assoc before (u ∷ []) us) row, is)
    ]

none_token : (before after : List Token) → NoneFrom before after → (mid : List Token) (t : Token) (rest : List Token) → after ≡ mid ++ t ∷ rest → (code : ℕ) → TokenFits (before ++ mid) t code → ⊥
none_token before [] n [] t rest e code row = cc
none_token before [] n (v ∷ mid) t rest e code row = cc
none_token before (u ∷ us) n [] t rest e code row =
    let same : t ≡ u = cc in
    n.0 code (subst (λ x. TokenFits before x code) same (subst (λ b. TokenFits b t code) (append-nil before) row))
none_token before (u ∷ us) n (v ∷ mid) t rest e code row =
    let same : v ≡ u = cc in
    let more : us ≡ mid ++ t ∷ rest = cc in
    let joined : before ++ v ∷ mid ≡ (before ++ u ∷ []) ++ mid = ap (λ x. before ++ x ∷ mid) same ∙ sym (append_assoc before (u ∷ []) mid) in
    none_token (before ++ u ∷ []) us n.1 mid t rest more code (subst (λ b. TokenFits b t code) joined row)

none_end : (before after : List Token) → NoneFrom before after → (code : ℕ) → EndFits (before ++ after) code → ⊥
none_end before [] n code row = n code (subst (λ b. EndFits b code) (append-nil before) row)
none_end before (u ∷ us) n code row = none_end (before ++ u ∷ []) us n.1 code (subst (λ b. EndFits b code) (sym (append_assoc before (u ∷ []) us)) row)

module _ (text : List ℕ) where
  -- a code that fits is that of a token or of the end
  by_code : (Goal : ℕ → ℕ → Type 0) → ((mid : List Token) (t : Token) (rest : List Token) → tokens text ≡ mid ++ t ∷ rest → (code : ℕ) → TokenFits mid t code → Goal code (place t))
      → ((code : ℕ) → EndFits (tokens text) code → Goal code (length text)) → (at code : ℕ) → Fits text at code → Goal code at
  by_code Goal on_token on_end at code (unclosed deep is) = subst (Goal 1) (sym is) (on_end 1 (inl (refl, deep)))
  by_code Goal on_token on_end at code (empty none is) = subst (Goal 6) (sym is) (on_end 6 (inr (refl, none)))
  by_code Goal on_token on_end at code (stray (mid, rest, t, e, is, row)) = subst (Goal 2) (sym is) (on_token mid t rest e 2 (inl (refl, row)))
  by_code Goal on_token on_end at code (bad_byte (mid, rest, t, e, is, row)) = subst (Goal 3) (sym is) (on_token mid t rest e 3 (inr (inl (refl, row))))
  by_code Goal on_token on_end at code (too_deep (mid, rest, t, e, is, row)) = subst (Goal 4) (sym is) (on_token mid t rest e 4 (inr (inr (refl, row))))

  fits_of : (why at : ℕ) → Stands [] (tokens text) (length text) why at → Fits text at why
  fits_of why at (inl (mid, rest, t, e, is, inl (f, row))) = subst (Fits text at) (sym f) (stray (mid, rest, t, e, is, row))
  fits_of why at (inl (mid, rest, t, e, is, inr (inl (f, row)))) = subst (Fits text at) (sym f) (bad_byte (mid, rest, t, e, is, row))
  fits_of why at (inl (mid, rest, t, e, is, inr (inr (f, row)))) = subst (Fits text at) (sym f) (too_deep (mid, rest, t, e, is, row))
  fits_of why at (inr (inl (f, row), is)) = subst (Fits text at) (sym f) (unclosed row is)
  fits_of why at (inr (inr (f, row), is)) = subst (Fits text at) (sym f) (empty row is)

  is_first : (why at : ℕ) → FirstFrom [] (tokens text) (length text) why at → IsLeast (λ code place. Fits text place code) why at
  is_first why at f =
      let o = tokens-ordered false 0 text (length text) (omega arith) in
      record {
        fits = fits_of why at (stands [] (tokens text) (length text) why at f);
        least = λ code place. by_code (λ code place. IsNoLater why at code place) (λ mid t rest e code row. least_token [] (tokens text) 0 (length text) why at o f mid t rest e code row)
            (λ code row. least_end [] (tokens text) 0 (length text) why at o f code row) place code;
      }

  is_none : NoneFrom [] (tokens text) → (at why : ℕ) → Fits text at why → ⊥
  is_none n = by_code (λ code place. ⊥) (none_token [] (tokens text) n) (none_end [] (tokens text) n)

  pub answer : (r : Result Form FormFault) → length text ≤ 2 ^ 20 → Gives r (parse (length text) (tokens text) start) → IsAnswer text r
  answer (Ok f) fits gives = (fits, is_none (subst (Verdict [] (tokens text) (length text)) gives (whole text)))
  answer (Err (Refused why at)) fits gives = inr (fits, is_first why at (subst (Verdict [] (tokens text) (length text)) gives (whole text)))
  answer (Err Memory) fits gives = tt
