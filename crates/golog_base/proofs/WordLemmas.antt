-- A name in front of zeros.
use Rattle.std.proofs.Common.{ℕ, ◌≤◌, List, ◌++◌, length, drop, replicate, arith, IsTrue}
use Rattle.std.proofs.lemmas.List.{length-append, length-replicate, drop-replicate}
use Rattle.std.proofs.Math.Seq.{drop-append_seam, take-append_seam}
use Rattle.golog_base.specs.Names.{HoldsWord, is_name}

pub padded-name : (bytes : List ℕ) → IsTrue (is_name bytes) → length bytes ≤ 31
    → HoldsWord (bytes ++ drop (length bytes) (replicate 31 0)) (length bytes)
padded-name bytes named short =
    let zeros = drop-replicate (length bytes) 31 0 in
    record {
      named = rw (take-append_seam bytes (drop (length bytes) (replicate 31 0))) named;
      full = rw (zeros, length-append, length-replicate) (omega arith);
      fits = short;
      padded = rw (drop-append_seam bytes (drop (length bytes) (replicate 31 0))) zeros;
    }
