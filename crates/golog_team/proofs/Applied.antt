-- What a link answers where it adds a note.
use Rattle.std.proofs.Common.{◌≡◌, ℕ, ◌≤◌, List, [], ◌∷◌, ◌++◌, length, refl, arith}
use Rattle.golog_team.specs.declared.note.Note.{Note}
use Rattle.golog_team.specs.declared.note.Note.TheVariants.{Send, Waiting, Ended}
use Rattle.golog_team.specs.declared.link.LinkOp.TheVariants.{Put, PutAt}
use Rattle.golog_team.specs.declared.link.LinkReply.TheVariants.{At}
use Rattle.golog_team.specs.Notes.{Notes, put_by}
use Rattle.golog_team.specs.Links.{IsLinkList, MayPut, MayPutAnywhere, Allows, Answers}
use Rattle.golog_team.proofs.Rooms.{one-more, few-notes}

module _ (notes : Notes) (is : IsLinkList notes) (side : ℕ) (note : Note) where
  anywhere : (note : Note) → MayPutAnywhere notes side note → MayPut notes side note
  anywhere (Send a) may = may
  anywhere Ended may = may
  anywhere (Waiting n) may = absurd may

  pub put-keeps : Allows notes (Put side note) → IsLinkList (notes ++ put_by side note ∷ [])
  put-keeps may = one-more notes side note is may.0 (anywhere note may.1)

  pub put-answers : Allows notes (Put side note) → Answers notes (Put side note) (At (length notes)) (put_by side note ∷ [])
  put-answers may = record {
    says = (refl, refl);
    lawful = put-keeps may;
    short = few-notes (notes ++ put_by side note ∷ []) (put-keeps may);
  }

  pub put-at-keeps : (at : ℕ) → Allows notes (PutAt side at note) → length notes ≡ at → IsLinkList (notes ++ put_by side note ∷ [])
  put-at-keeps at may here = one-more notes side note is may.0 (may.2 here)

  pub put-at-answers : (at : ℕ) → Allows notes (PutAt side at note) → length notes ≡ at → Answers notes (PutAt side at note) (At (length notes)) (put_by side note ∷ [])
  put-at-answers at may here = record {
    says = (here, here, refl);
    lawful = put-at-keeps at may here;
    short = few-notes (notes ++ put_by side note ∷ []) (put-at-keeps at may here);
  }
