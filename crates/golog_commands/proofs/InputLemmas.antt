-- What files have, and what they are refused for.
use Rattle.std.proofs.Common.{◌≡◌, ℕ, ◌≤◌, List, Option, Some, None, inl, inr, refl, sym, subst, arith}
use Rattle.std.specs.Prelude.{IsSomeAnd}
use Rattle.golog_base.specs.Faults.{Rose}
use Rattle.golog_base.specs.Files.{FileHas, bytes_of}
use Rattle.golog_base.specs.declared.mem_files.HeldFile.{HeldFile}
use Rattle.golog_semantics.specs.Text.{Text}
use Rattle.golog_commands.specs.Inputs.{IsUnread, Reads}

-- what is so of the bytes held, and of these, is so of bytes of the file: of these, where files tell nothing
pub held-reads : (held : Option (List HeldFile)) (name bytes : Text) (P : Text → Type 0) → P bytes → FileHas held name P → Reads held name P
held-reads None name bytes P p has = record { bytes = bytes; has = has; so = p }
held-reads (Some files) name bytes P p has = told (bytes_of files name) refl has
  where
    told : (o : Option Text) → bytes_of files name ≡ o → IsSomeAnd o P → Reads (Some files) name P
    told None is h = absurd h
    told (Some t) is h = record { bytes = t; has = subst (λ o. IsSomeAnd o (λ u. u ≡ t)) (sym is) refl; so = h }

-- what follows of the bytes of a file
pub reads-so : (held : Option (List HeldFile)) (name : Text) (P Q : Text → Type 0) → ((bytes : Text) → P bytes → Q bytes) → Reads held name P → Reads held name Q
reads-so held name P Q so reads = record { bytes = reads.bytes; has = reads.has; so = so reads.bytes reads.so }

-- a count that has risen since later has risen since earlier
rose-since : (first before now : ℕ) → first ≤ before → Rose before now → Rose first now
rose-since first before now le rose = grind (arith, le, rose)

pub unread-since : (held : Option (List HeldFile)) (name : Text) (first before now : ℕ) → first ≤ before → IsUnread held name before now → IsUnread held name first now
unread-since held name first before now le (inl none) = inl none
unread-since held name first before now le (inr rose) = inr (rose-since first before now le rose)
