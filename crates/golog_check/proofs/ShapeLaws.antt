-- Procedures that are read are like their shapes.
use Rattle.std.proofs.Common.{◌≡◌, ℕ, Bool, false, List, [], ◌∷◌, ◌++◌, map, Result, Ok, Err, refl, sym, ap, subst, ◌∙◌}
use Rattle.golog_tree.specs.declared.agent.ProcItem.{ProcItem}
use Rattle.golog_tree.specs.declared.draft.DraftProc.{DraftProc}
use Rattle.golog_tree.specs.declared.prog.Prog.{Prog}
use Rattle.golog_tree.specs.Nest.{nest_step}
use Rattle.golog_rows.specs.Reading.{Reading, gives}
use Rattle.golog_semantics.specs.BlockFree.{has_block_step}
use Rattle.golog_semantics.specs.Guarded.{Front, front_step, no_front}
use Rattle.golog_semantics.specs.FrontCalls.{Calling, calling_step}
use Rattle.golog_draft.specs.Drafts.{proc_names}
use Rattle.golog_check.specs.DeclaredItems.{Declared, param_sorts}
use Rattle.golog_rows.specs.Least.{CodeAt}
use Rattle.golog_check.specs.Least.{refusal_of, refusals, value_of, given}
use Rattle.golog_check.specs.Programs.{prog_in}
use Rattle.golog_check.specs.Procs.{params_of, proc_in}
use Rattle.golog_shapes.specs.Shapes.{shape_of}
use Rattle.golog_check.proofs.Readings.{both, ok-same}
use Rattle.golog_shapes.proofs.Shaped.{IsBlind}
use Rattle.golog_check.proofs.Shaped.{shaped}
use Rattle.golog_check.proofs.Transfer.{Alike, AllAlike}

blind-nest : IsBlind ℕ nest_step (λ _. 0)
blind-nest = record { act = λ a b. refl; test = λ c. refl; pick = λ x s p. refl; if_of = λ c p q. refl; while_of = λ c p. refl; call = λ i b. refl }

blind-front : (fs : List Front) → IsBlind Front (front_step fs) (λ w. no_front)
blind-front fs = record { act = λ a b. refl; test = λ c. refl; pick = λ x s p. refl; if_of = λ c p q. refl; while_of = λ c p. refl; call = λ i b. refl }

blind-calls : (fs : List Front) → IsBlind Calling (calling_step fs) (λ w. record { front = no_front; calls = [] })
blind-calls fs = record { act = λ a b. refl; test = λ c. refl; pick = λ x s p. refl; if_of = λ c p q. refl; while_of = λ c p. refl; call = λ i b. refl }

blind-blocks : (bs : List Bool) → IsBlind Bool (has_block_step bs) (λ w. false)
blind-blocks bs = record { act = λ a b. refl; test = λ c. refl; pick = λ x s p. refl; if_of = λ c p q. refl; while_of = λ c p. refl; call = λ i b. refl }

-- a procedure, and the body that is read
pub record IsProc (names : Declared) (item : DraftProc) (made : ProcItem) : Type 0 where
  pub body : Prog
  pub read : (prog_in names item.body (params_of item)).outcome ≡ Ok body
  pub is : ◌≡◌ {A = ProcItem} (record { name = item.name; params = param_sorts item; body = body }) made

pub proc-is : (names : Declared) (item : DraftProc) (made : ProcItem) → (proc_in names item).outcome ≡ Ok made → IsProc names item made
unfolding proc_in
proc-is names item made h =
    let made_of : Prog → Reading ProcItem = λ body. gives (record { name = item.name; params = param_sorts item; body = body }) in
    let b = both (prog_in names item.body (params_of item)) made_of made h in
    record { body = b.value; read = b.one; is = ok-same (record { name = item.name; params = param_sorts item; body = b.value }) made b.other }

pub proc-alike : (names : Declared) (item : DraftProc) (made : ProcItem) → (proc_in names item).outcome ≡ Ok made → Alike made (shape_of item)
proc-alike names item made h =
    let p = proc-is names item made h in
    subst (λ (x : ProcItem). Alike x (shape_of item)) p.is (record {
      nests = shaped ℕ nest_step (λ _. 0) blind-nest names item.body (params_of item) p.body p.read;
      fronts = λ fs. shaped Front (front_step fs) (λ w. no_front) (blind-front fs) names item.body (params_of item) p.body p.read;
      calls = λ fs. shaped Calling (calling_step fs) (λ w. record { front = no_front; calls = [] }) (blind-calls fs) names item.body (params_of item) p.body p.read;
      blocks = λ bs. shaped Bool (has_block_step bs) (λ w. false) (blind-blocks bs) names item.body (params_of item) p.body p.read;
    })

one-alike : (o : Result ProcItem CodeAt) (item : DraftProc) (rest : List CodeAt) (made : List ProcItem) (shapes : List ProcItem)
    → ((x : ProcItem) → o ≡ Ok x → Alike x (shape_of item)) → refusal_of o ++ rest ≡ [] → (rest ≡ [] → AllAlike made shapes)
    → AllAlike (value_of o ++ made) (shape_of item ∷ shapes)
one-alike (Ok x) item rest made shapes alike none more = (alike x refl, more none)
one-alike (Err refusal) item rest made shapes alike none more = absurd (cc)

-- where none is refused, each is like its shape
pub procs-alike : (names : Declared) (procs : List DraftProc) → refusals (map (proc_in names) procs) ≡ []
    → AllAlike (given (map (proc_in names) procs)) (map shape_of procs)
procs-alike names [] none = tt
procs-alike names (item ∷ procs) none =
    one-alike (proc_in names item).outcome item (refusals (map (proc_in names) procs)) (given (map (proc_in names) procs)) (map shape_of procs)
    (λ x h. proc-alike names item x h) none (procs-alike names procs)

-- what each has of its draft
one-same : {B : Type 0} (f : ProcItem → B) (b : B) (o : Result ProcItem CodeAt) (rest : List CodeAt) (made : List ProcItem) (bs : List B)
    → ((x : ProcItem) → o ≡ Ok x → f x ≡ b) → refusal_of o ++ rest ≡ [] → (rest ≡ [] → map f made ≡ bs)
    → map f (value_of o ++ made) ≡ b ∷ bs
one-same f b (Ok x) rest made bs same none more = ap (λ y. y ∷ map f made) (same x refl) ∙ ap (λ ys. b ∷ ys) (more none)
one-same f b (Err refusal) rest made bs same none more = absurd (cc)

procs-same : {B : Type 0} (f : ProcItem → B) (g : DraftProc → B) (names : Declared)
    → ((item : DraftProc) (made : ProcItem) → (proc_in names item).outcome ≡ Ok made → f made ≡ g item)
    → (procs : List DraftProc) → refusals (map (proc_in names) procs) ≡ []
    → map f (given (map (proc_in names) procs)) ≡ map g procs
procs-same f g names same [] none = refl
procs-same f g names same (item ∷ procs) none =
    one-same f (g item) (proc_in names item).outcome (refusals (map (proc_in names) procs)) (given (map (proc_in names) procs)) (map g procs)
    (same item) none (procs-same f g names same procs)

pub procs-named : (names : Declared) (procs : List DraftProc) → refusals (map (proc_in names) procs) ≡ []
    → map (λ (i : ProcItem). i.name) (given (map (proc_in names) procs)) ≡ proc_names procs
procs-named names =
    procs-same (λ (i : ProcItem). i.name) (λ (item : DraftProc). item.name) names
    (λ item made h. ap (λ (i : ProcItem). i.name) (sym (proc-is names item made h).is))

pub procs-params : (names : Declared) (procs : List DraftProc) → refusals (map (proc_in names) procs) ≡ []
    → map (λ (i : ProcItem). i.params) (given (map (proc_in names) procs)) ≡ map param_sorts procs
procs-params names =
    procs-same (λ (i : ProcItem). i.params) param_sorts names
    (λ item made h. ap (λ (i : ProcItem). i.params) (sym (proc-is names item made h).is))
