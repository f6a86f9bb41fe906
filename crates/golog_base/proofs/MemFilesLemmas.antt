-- The bytes that a reader of files in memory has left.
use Rattle.std.proofs.Common.{◌≡◌, ℕ, ◌+◌, ◌<◌, ◌≤◌, List, [], ◌++◌, length, take, drop, refl, arith, get_or}
use Rattle.std.proofs.lemmas.Grind.{common_steps}
use Rattle.std.proofs.lemmas.List.{take-append-drop, drop-drop}
use Rattle.std.proofs.lemmas.Option.{slice_get_read, slice_get_past}
use Rattle.golog_base.specs.declared.mem_files.HeldFile.{HeldFile}
use Rattle.golog_base.specs.MemFiles.{bytes_at}

pub bytes_at-found : (files : List HeldFile) (n : ℕ) (file : HeldFile)
    → n < length files → file ≡ get_or files n file → bytes_at files n ≡ file.bytes
bytes_at-found files n file within is = rw (bytes_at, slice_get_read files (length files) n file refl within is) refl

pub bytes_at-past : (files : List HeldFile) (n : ℕ) → length files ≤ n → bytes_at files n ≡ []
bytes_at-past files n past = rw (bytes_at, slice_get_past files n past) refl

-- a piece of the bytes left was copied to the front of a buffer
pub moved : (at n : ℕ) (left bytes copied behind : List ℕ)
    → drop at bytes ≡ left → copied ≡ take n left → length copied ≡ n
    → drop at bytes ≡ take n (copied ++ behind) ++ drop (at + n) bytes
moved at n left bytes copied behind e is full =
    let front : take n (copied ++ behind) ≡ take n left = grind (arith, common_steps) in
    rw (front, ← drop-drop n at bytes, e, take-append-drop n left) refl
