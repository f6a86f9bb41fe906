-- Images put in for the variables of a condition: it fits where they do, and has the truth that it has where its
-- variables have their values.
use Rattle.std.proofs.Common.{◌≡◌, ℕ, zero, suc, ◌+◌, ◌-◌, ◌<◌, Bool, true, false, not, ◌&&◌, ◌||◌, ◌==◌, if◌then◌else◌, Option, Some, None, List, [], ◌∷◌, ◌++◌, length, length-append, map, refl, sym, ap, ◌∙◌, subst, arith}
use Rattle.std.specs.Prelude.{nat_lt, replicate, slice_get, slice_index, slice_set}
use Rattle.std.specs.List.{list_all, list_any}
use Rattle.std.specs.Option.{option_map_or}
use Rattle.std.proofs.lemmas.Bool.{eqb-true, eq-eqb, ltb-true, lt-ltb}
use Rattle.std.proofs.lemmas.List.{get_or-set_same, get_or-set_other, length-map}
use Rattle.std.proofs.Math.ListN.{length-set}
use Rattle.golog_tree.specs.declared.agent.Agent.{Agent}
use Rattle.golog_tree.specs.declared.agent.FluentItem.{FluentItem}
use Rattle.golog_tree.specs.declared.cond.Arg.{Arg}
use Rattle.golog_tree.specs.declared.cond.Arg.TheVariants.{Const, Var}
use Rattle.golog_tree.specs.declared.cond.Term.{Term}
use Rattle.golog_tree.specs.declared.cond.Cond.{Cond}
use Rattle.golog_tree.specs.declared.cond.Term.TheVariants as term
use Rattle.golog_tree.specs.declared.cond.Cond.TheVariants as cond
use Rattle.golog_tree.specs.declared.cond.Cond.TheFolds.{fold-Term}
use Rattle.golog_semantics.specs.Truth.{Env, Values, env_of, arg_value, fluent_value, comparison_of}
use Rattle.golog_semantics.specs.Fits.{Scope, bound, bool_sort, arg_fits, args_fit, fluent_fits, is_sort, is_range, binder_fits}
use Rattle.golog_semantics.specs.Written.{Wording, is_written_cond, written_cond_step, written_term_step, written_sides, is_amount}
use Rattle.golog_semantics.proofs.CondByParts as conds
use Rattle.golog_semantics.proofs.ByParts.{OfEach}
use Rattle.golog_semantics.proofs.GroundNumbers.{some-same}
use Rattle.golog_semantics.proofs.ScopePut.{option_more}
use Rattle.golog_semantics.proofs.Tests.{and_both, and_cases, and_more}
use Rattle.golog_regress.specs.Images.{Images, fresh, image, image_at, is_var, cond_image, term_image}
use Rattle.golog_regress.proofs.Evaluation as by
use Rattle.golog_regress.proofs.Fresh.{fresh-free}
use Rattle.golog_regress.proofs.ImageParts as img
use Rattle.golog_regress.proofs.Related.{At, GoesCond, GoesTerm, GoesBody, goes-shift, goes-not, goes-equal, goes-less, goes-at_most, goes-and, goes-or, goes-some, goes-all}

-- the environment in which the variables have the values of their images
abbrev pub env_at : Images → Env → Env
env_at images env = env_of (map (arg_value env) images)

zeros : (k x : ℕ) → slice_index (replicate k 0) x ≡ 0
zeros zero x = refl
zeros (suc k) zero = refl
zeros (suc k) (suc x) = zeros k x

padded : (images : Images) (env : Env) (k x : ℕ) → arg_value env (image_at (slice_get images x)) ≡ slice_index (map (arg_value env) images ++ replicate k 0) x
padded [] env k x = sym (zeros k x)
padded (arg ∷ images) env k zero = refl
padded (arg ∷ images) env k (suc x) = padded images env k x

pub image-value : (images : Images) (env : Env) (arg : Arg) → arg_value env (image images arg) ≡ arg_value (env_at images env) arg
unfolding env_of
image-value images env (Const c) = refl
image-value images env (Var x) = padded images env (32 - length (map (arg_value env) images)) x

image-values : (images : Images) (env : Env) (args : List Arg) → map (arg_value env) (map (image images) args) ≡ map (arg_value (env_at images env)) args
image-values images env [] = refl
image-values images env (arg ∷ args) = (λ i. image-value images env arg i ∷ image-values images env args i)

-- one variable more
set-last : (us : List ℕ) (j k : ℕ) → (us ++ k ∷ []) ++ replicate j 0 ≡ slice_set (us ++ replicate (suc j) 0) (length us) k
set-last [] j k = refl
set-last (u ∷ us) j k = ap (λ vs. u ∷ vs) (set-last us j k)

env-last : (us : List ℕ) (k : ℕ) → length us < 32 → env_of (us ++ k ∷ []) ≡ slice_set (env_of us) (length us) k
unfolding env_of
env-last us k h =
    let one : 32 - length (us ++ k ∷ []) ≡ 32 - suc (length us) = ap (λ n. 32 - n) (omega (arith, length-append us (k ∷ []))) in
    let more : suc (32 - suc (length us)) ≡ 32 - length us = omega arith in
    ap (λ j. (us ++ k ∷ []) ++ replicate j 0) one ∙ set-last us (32 - suc (length us)) k ∙ ap (λ j. slice_set (us ++ replicate j 0) (length us) k) more

-- a value set for a variable that no image is changes no image's value
unset : (y k : ℕ) (env : Env) (arg : Arg) → is_var y arg ≡ false → arg_value (slice_set env y k) arg ≡ arg_value env arg
unset y k env (Const c) e = refl
unset y k env (Var x) e = get_or-set_other env y x k 0 (λ same. let t : (x == y) ≡ true = eq-eqb x y same in cc)

split-or : (a b : Bool) → (a || b) ≡ false → (a ≡ false) × (b ≡ false)
split-or true b e = absurd (cc)
split-or false b e = (refl, e)

grown-values : (images : Images) (y k : ℕ) (env : Env) → list_any (is_var y) images ≡ false → y < length env → map (arg_value (slice_set env y k)) (images ++ Var y ∷ []) ≡ map (arg_value env) images ++ k ∷ []
grown-values [] y k env free h = let e = get_or-set_same env y k 0 h in (λ i. e i ∷ [])
grown-values (arg ∷ images) y k env free h =
    let parts = split-or (is_var y arg) (list_any (is_var y) images) free in
    (λ i. unset y k env arg parts.0 i ∷ grown-values images y k env parts.1 h i)

module _ (agent : Agent) where
  -- each variable that the one scope binds has an image, which is of its sort in the other
  pub record Imaged (old new : Scope) (images : Images) : Type 0 where
    pub inside : (x s : ℕ) → old x ≡ Some s → x < length images
    pub fits : (x s : ℕ) → old x ≡ Some s → arg_fits agent new s (image images (Var x)) ≡ true

  bound-is : (o : Option ℕ) (sort : ℕ) → option_map_or (λ s. s == sort) o false ≡ true → o ≡ Some sort
  bound-is None sort h = absurd (cc)
  bound-is (Some s) sort h = ap Some (eqb-true s sort h)

  module _ (old new : Scope) (images : Images) (is : Imaged old new images) where
    image-fits : (sort : ℕ) (arg : Arg) → arg_fits agent old sort arg ≡ true → arg_fits agent new sort (image images arg) ≡ true
    image-fits sort (Const c) e = e
    image-fits sort (Var x) e = is.fits x sort (bound-is (old x) sort e)

    images-fit : (sorts : List ℕ) (args : List Arg) → args_fit agent old sorts args ≡ true → args_fit agent new sorts (map (image images) args) ≡ true
    images-fit [] [] e = e
    images-fit [] (arg ∷ args) e = e
    images-fit (s ∷ sorts) [] e = e
    images-fit (s ∷ sorts) (arg ∷ args) e =
        and_more (arg_fits agent old s arg) (arg_fits agent new s (image images arg)) (args_fit agent old sorts args) (args_fit agent new sorts (map (image images) args))
        (image-fits s arg) (images-fit sorts args) e

    fluent-fits : (sort fluent : ℕ) (args : List Arg) → fluent_fits agent old sort fluent args ≡ true → fluent_fits agent new sort fluent (map (image images) args) ≡ true
    fluent-fits sort fluent args =
        option_more agent (λ (item : FluentItem). item.sort == sort && args_fit agent old item.args args) (λ (item : FluentItem). item.sort == sort && args_fit agent new item.args (map (image images) args))
        (λ item. and_more (item.sort == sort) (item.sort == sort) (args_fit agent old item.args args) (args_fit agent new item.args (map (image images) args)) (λ e. e) (images-fit item.args args))
        (slice_get agent.fluents fluent)

  -- an argument that isn't the variable fits within its binder as outside
  free-fits : (new : Scope) (y sort s : ℕ) (arg : Arg) → is_var y arg ≡ false → arg_fits agent new s arg ≡ true → arg_fits agent (bound new y sort) s arg ≡ true
  free-fits new y sort s (Const c) free e = e
  free-fits new y sort s (Var x) free e = ap (λ b. option_map_or (λ k. k == s) (if b then Some sort else new x) false) free ∙ e

  free-at : (images : Images) (y x : ℕ) → list_any (is_var y) images ≡ false → is_var y (image_at (slice_get images x)) ≡ false
  free-at [] y x free = refl
  free-at (arg ∷ images) y zero free = (split-or (is_var y arg) (list_any (is_var y) images) free).0
  free-at (arg ∷ images) y (suc x) free = free-at images y x (split-or (is_var y arg) (list_any (is_var y) images) free).1

  get-inside : (images : Images) (y x : ℕ) → x < length images → slice_get (images ++ Var y ∷ []) x ≡ slice_get images x
  get-inside [] y x h = absurd (omega arith)
  get-inside (arg ∷ images) y zero h = refl
  get-inside (arg ∷ images) y (suc x) h = get-inside images y x (omega arith)

  get-last : (images : Images) (y : ℕ) → slice_get (images ++ Var y ∷ []) (length images) ≡ Some (Var y)
  get-last [] y = refl
  get-last (arg ∷ images) y = get-last images y

  -- within a binder that takes a new number
  imaged-more : (old new : Scope) (images : Images) → Imaged old new images → (x y sort : ℕ) → x ≡ length images → list_any (is_var y) images ≡ false
      → Imaged (bound old x sort) (bound new y sort) (images ++ Var y ∷ [])
  imaged-more old new images is x y sort last free = record {
    inside = λ z s h. inside z s (z == x) refl h;
    fits = λ z s h. fits z s (z == x) refl h;
  }
    where
      inside : (z s : ℕ) (b : Bool) → (z == x) ≡ b → (if b then Some sort else old z) ≡ Some s → z < length (images ++ Var y ∷ [])
      inside z s true e h = let same : z ≡ x = eqb-true z x e in omega (arith, length-append images (Var y ∷ []))
      inside z s false e h = let l : z < length images = is.inside z s h in omega (arith, length-append images (Var y ∷ []))

      fits : (z s : ℕ) (b : Bool) → (z == x) ≡ b → (if b then Some sort else old z) ≡ Some s → arg_fits agent (bound new y sort) s (image_at (slice_get (images ++ Var y ∷ []) z)) ≡ true
      fits z s true e h =
          let same : z ≡ length images = eqb-true z x e ∙ last in
          let of : sort ≡ s = some-same sort s h in
          ap (λ k. arg_fits agent (bound new y sort) s (image_at (slice_get (images ++ Var y ∷ []) k))) same
          ∙ ap (λ o. arg_fits agent (bound new y sort) s (image_at o)) (get-last images y)
          ∙ ap (λ b. option_map_or (λ k. k == s) (if b then Some sort else new y) false) (eq-eqb y y refl)
          ∙ eq-eqb sort s of
      fits z s false e h =
          ap (λ o. arg_fits agent (bound new y sort) s (image_at o)) (get-inside images y z (is.inside z s h))
          ∙ free-fits new y sort s (image_at (slice_get images z)) (free-at images y z free) (is.fits z s h)

  -- the values are the same, and the variables have the values of their images
  abbrev pub Images-at : Images → At
  Images-at images vs ws env to = (vs ≡ ws) × (length env ≡ 32) × (to ≡ env_at images env)

  abbrev WA : Type 0
  WA = ℕ → Bool

  abbrev WB : Type 0
  WB = Wording

  abbrev worded : Term → Wording
  worded = fold-Term WA WB (written_cond_step agent) (written_term_step agent)

  abbrev ImagedCond : Cond → Type 0
  ImagedCond c =
      (old new : Scope) (images : Images) → Imaged old new images → is_written_cond agent c (length images) ≡ true
      → GoesCond agent old new (Images-at images) c (cond_image c images)

  abbrev ImagedTerm : Term → Type 0
  ImagedTerm t =
      (old new : Scope) (images : Images) → Imaged old new images → (worded t).written ≡ true
      → GoesTerm agent old new (Images-at images) t (term_image t images)

  -- the body of a binder, which takes a new number
  image-body : (x sort : ℕ) (c : Cond) → ImagedCond c → (old new : Scope) (images : Images) → Imaged old new images → (x == length images && is_written_cond agent c (length images + 1)) ≡ true
      → binder_fits agent x sort ≡ true → GoesBody agent old new (Images-at images) x (fresh images) sort c (cond_image c (images ++ Var (fresh images) ∷ []))
  image-body x sort c h old new images is w fits =
      let written = and_cases (x == length images) (is_written_cond agent c (length images + 1)) w in
      let last : x ≡ length images = eqb-true x (length images) written.0 in
      let binder = and_cases (nat_lt x 32) (is_sort agent sort) fits in
      let few : length images < 32 = subst (λ n. n < 32) last (ltb-true x 32 binder.0) in
      let new_number = fresh-free images few in
      let y = fresh images in
      let count : length images + 1 ≡ length (images ++ Var y ∷ []) = omega (arith, length-append images (Var y ∷ [])) in
      record {
        binder = and_both (nat_lt y 32) (is_sort agent sort) (lt-ltb y 32 new_number.below) binder.1;
        inner = Images-at (images ++ Var y ∷ []);
        set = λ vs ws env to e v l.
            let us = map (arg_value env) images in
            let mapped : length us ≡ length images = length-map images (arg_value env) in (
              e.0,
              length-set env y v ∙ e.1,
              (λ i. slice_set (e.2 i) x v) ∙ ap (λ m. slice_set (env_of us) m v) (last ∙ sym mapped) ∙ sym (env-last us v (subst (λ m. m < 32) (sym mapped) few))
                  ∙ ap env_of (sym (grown-values images y v env new_number.free (subst (λ m. y < m) (sym e.1) new_number.below))),
            );
        body = h (bound old x sort) (bound new y sort) (images ++ Var y ∷ []) (imaged-more old new images is x y sort last new_number.free)
            (subst (λ m. is_written_cond agent c m ≡ true) count written.1);
      }

  all-images : (cs : List Cond) → OfEach ImagedCond cs → (old new : Scope) (images : Images) → Imaged old new images
      → list_all (λ (test : WA). test (length images)) (map (is_written_cond agent) cs) ≡ true → OfEach (λ c. GoesCond agent old new (Images-at images) c (cond_image c images)) cs
  all-images [] h old new images is w = tt
  all-images (c ∷ cs) h old new images is w =
      let k = and_cases (is_written_cond agent c (length images)) (list_all (λ (test : WA). test (length images)) (map (is_written_cond agent) cs)) w in
      (h.0 old new images is k.0, all-images cs h.1 old new images is k.1)

  module _ (old new : Scope) (images : Images) (is : Imaged old new images) where
    arg-goes : (arg : Arg) → GoesTerm agent old new (Images-at images) (term.Arg arg) (term.Arg (image images arg))
    arg-goes arg sort e = (
      by.fits-arg agent (image images arg) new sort ∙ image-fits old new images is sort arg (sym (by.fits-arg agent arg old sort) ∙ e),
      λ vs ws env to h. by.value-arg agent vs (image images arg) env ∙ image-value images env arg ∙ ap (λ v. arg_value v arg) (sym h.2) ∙ sym (by.value-arg agent ws arg to),
    )

    values-go : (vs ws : Values) (env to : Env) → Images-at images vs ws env to → (fluent : ℕ) (args : List Arg)
        → fluent_value agent vs fluent (map (arg_value env) (map (image images) args)) ≡ fluent_value agent ws fluent (map (arg_value to) args)
    values-go vs ws env to h fluent args =
        (λ i. fluent_value agent (h.0 i) fluent (image-values images env args i)) ∙ ap (λ v. fluent_value agent ws fluent (map (arg_value v) args)) (sym h.2)

    fluent-goes : (fluent : ℕ) (args : List Arg) → GoesTerm agent old new (Images-at images) (term.Fluent fluent args) (term.Fluent fluent (map (image images) args))
    fluent-goes fluent args sort e = (
      by.fits-fluent agent fluent (map (image images) args) new sort ∙ fluent-fits old new images is sort fluent args (sym (by.fits-fluent agent fluent args old sort) ∙ e),
      λ vs ws env to h. by.value-fluent agent vs fluent (map (image images) args) env ∙ values-go vs ws env to h fluent args ∙ sym (by.value-fluent agent ws fluent args to),
    )

    is-goes : (fluent : ℕ) (args : List Arg) → GoesCond agent old new (Images-at images) (cond.Is fluent args) (cond.Is fluent (map (image images) args))
    is-goes fluent args e = (
      by.fits-is agent fluent (map (image images) args) new ∙ fluent-fits old new images is bool_sort fluent args (sym (by.fits-is agent fluent args old) ∙ e),
      λ vs ws env to h. by.truth-is agent vs fluent (map (image images) args) env ∙ ap (comparison_of nat_lt 0) (values-go vs ws env to h fluent args) ∙ sym (by.truth-is agent ws fluent args to),
    )

    truth-goes : (b : Bool) → GoesCond agent old new (Images-at images) (cond.Truth b) (cond.Truth b)
    truth-goes b e = (by.fits-truth agent b new, λ vs ws env to h. by.truth-truth agent vs b env ∙ sym (by.truth-truth agent ws b to))

  -- two sides of a comparison that is written
  sides : (sort : ℕ) (one other : Wording) → written_sides agent sort one other ≡ true → (one.written ≡ true) × (other.written ≡ true)
  sides sort one other w =
      and_cases one.written other.written (and_cases (one.written && other.written) (one.shows_sort || other.shows_sort || not (is_range agent sort)) w).0

  abbrev To : (old new : Scope) (images : Images) → Cond → Cond → Type 0
  To old new images = GoesCond agent old new (Images-at images)

  abbrev ToTerm : (old new : Scope) (images : Images) → Term → Term → Type 0
  ToTerm old new images = GoesTerm agent old new (Images-at images)

  image-cases : conds.Cases ImagedCond ImagedTerm
  image-cases = record {
    arg_case = λ arg old new images is w. subst (ToTerm old new images (term.Arg arg)) (sym (img.image-arg arg images)) (arg-goes old new images is arg);
    fluent_case = λ fluent args old new images is w. subst (ToTerm old new images (term.Fluent fluent args)) (sym (img.image-fluent fluent args images)) (fluent-goes old new images is fluent args);
    shift_case = λ sort t amount h old new images is w.
        let k = and_cases (worded t).written (is_amount amount) (ap (λ (z : Wording). z.written) (sym (conds.fold-shift WA WB (written_cond_step agent) (written_term_step agent) sort t amount)) ∙ w) in
        subst (ToTerm old new images (term.Shift sort t amount)) (sym (img.image-shift sort t amount images))
        (goes-shift agent old new (Images-at images) sort t (term_image t images) amount (h old new images is k.0));
    ite_case = λ c t u f g h old new images is w.
        let no : false ≡ true = ap (λ (z : Wording). z.written) (sym (conds.fold-ite WA WB (written_cond_step agent) (written_term_step agent) c t u)) ∙ w in absurd (cc);
    truth_case = λ b old new images is w. subst (To old new images (cond.Truth b)) (sym (img.image-truth b images)) (truth-goes old new images is b);
    is_case = λ fluent args old new images is w. subst (To old new images (cond.Is fluent args)) (sym (img.image-is fluent args images)) (is-goes old new images is fluent args);
    equal_case = λ sort t u g h old new images is w.
        let k = sides sort (worded t) (worded u) (ap (λ (f : WA). f (length images)) (sym (conds.fold-equal WA WB (written_cond_step agent) (written_term_step agent) sort t u)) ∙ w) in
        subst (To old new images (cond.Equal sort t u)) (sym (img.image-equal sort t u images))
        (goes-equal agent old new (Images-at images) sort t (term_image t images) u (term_image u images) (g old new images is k.0) (h old new images is k.1));
    less_case = λ sort t u g h old new images is w.
        let k = sides sort (worded t) (worded u) (ap (λ (f : WA). f (length images)) (sym (conds.fold-less WA WB (written_cond_step agent) (written_term_step agent) sort t u)) ∙ w) in
        subst (To old new images (cond.Less sort t u)) (sym (img.image-less sort t u images))
        (goes-less agent old new (Images-at images) sort t (term_image t images) u (term_image u images) (g old new images is k.0) (h old new images is k.1));
    at_most_case = λ sort t u g h old new images is w.
        let k = sides sort (worded t) (worded u) (ap (λ (f : WA). f (length images)) (sym (conds.fold-at_most WA WB (written_cond_step agent) (written_term_step agent) sort t u)) ∙ w) in
        subst (To old new images (cond.AtMost sort t u)) (sym (img.image-at_most sort t u images))
        (goes-at_most agent old new (Images-at images) sort t (term_image t images) u (term_image u images) (g old new images is k.0) (h old new images is k.1));
    not_case = λ c h old new images is w.
        let k : is_written_cond agent c (length images) ≡ true = ap (λ (f : WA). f (length images)) (sym (conds.fold-not WA WB (written_cond_step agent) (written_term_step agent) c)) ∙ w in
        subst (To old new images (cond.Not c)) (sym (img.image-not c images)) (goes-not agent old new (Images-at images) c (cond_image c images) (h old new images is k));
    and_case = λ cs h old new images is w.
        subst (To old new images (cond.And cs)) (sym (img.image-and cs images))
        (goes-and agent old new (Images-at images) (λ c. cond_image c images) cs
        (all-images cs h old new images is (ap (λ (f : WA). f (length images)) (sym (conds.fold-and WA WB (written_cond_step agent) (written_term_step agent) cs)) ∙ w)));
    or_case = λ cs h old new images is w.
        subst (To old new images (cond.Or cs)) (sym (img.image-or cs images))
        (goes-or agent old new (Images-at images) (λ c. cond_image c images) cs
        (all-images cs h old new images is (ap (λ (f : WA). f (length images)) (sym (conds.fold-or WA WB (written_cond_step agent) (written_term_step agent) cs)) ∙ w)));
    some_case = λ x sort c h old new images is w.
        subst (To old new images (cond.ForSome x sort c)) (sym (img.image-some x sort c images))
        (goes-some agent old new (Images-at images) x (fresh images) sort c (cond_image c (images ++ Var (fresh images) ∷ []))
        (image-body x sort c h old new images is (ap (λ (f : WA). f (length images)) (sym (conds.fold-some WA WB (written_cond_step agent) (written_term_step agent) x sort c)) ∙ w)));
    all_case = λ x sort c h old new images is w.
        subst (To old new images (cond.ForAll x sort c)) (sym (img.image-all x sort c images))
        (goes-all agent old new (Images-at images) x (fresh images) sort c (cond_image c (images ++ Var (fresh images) ∷ []))
        (image-body x sort c h old new images is (ap (λ (f : WA). f (length images)) (sym (conds.fold-all WA WB (written_cond_step agent) (written_term_step agent) x sort c)) ∙ w)));
  }

  pub image_of_cond : (c : Cond) → ImagedCond c
  image_of_cond = conds.cond_by_parts ImagedCond ImagedTerm image-cases

  pub image_of_term : (t : Term) → ImagedTerm t
  image_of_term = conds.term_by_parts ImagedCond ImagedTerm image-cases
