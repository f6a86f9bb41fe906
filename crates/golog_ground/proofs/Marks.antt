-- Names and numbers have no brackets and no commas.
use Rattle.std.proofs.Common.{◌≡◌, ℕ, ◌<◌, ◌^◌, Bool, true, false, not, ◌||◌, ◌==◌, [], ◌∷◌, refl, ap, arith, ℤ}
use Rattle.std.specs.List.{list_all}
use Rattle.std.specs.Fmt.{signed_decimal}
use Rattle.std.specs.Int.Signed.{mag}
use Rattle.golog_base.specs.Names.{continues_name, is_name}
use Rattle.golog_semantics.specs.Text.{Text}
use Rattle.golog_semantics.proofs.Words.{IsWord, and-left, and-right, and-both, name-word, signed-word}
use Rattle.golog_ground.specs.Texts.{is_mark, IsUnmarked}

or-cases : (a b c : Bool) (P : Type 0) → (a ≡ true → P) → (b ≡ true → P) → (c ≡ true → P) → (a || b || c) ≡ true → P
or-cases true b c P f g h e = f refl
or-cases false true c P f g h e = g refl
or-cases false false c P f g h e = h e

not-both : (a b : Bool) → (b ≡ true → a ≡ true → ⊥) → a ≡ true → not b ≡ true
not-both a true h e = absurd (h refl e)
not-both a false h e = refl

same-byte : (a b : ℕ) → (a == b) ≡ true → a ≡ b
same-byte a b e = grind arith

not-continued : (byte mark : ℕ) → (byte == mark) ≡ true → continues_name mark ≡ false → continues_name byte ≡ true → ⊥
not-continued byte mark e h k =
    let same : byte ≡ mark = same-byte byte mark e in
    let f : continues_name byte ≡ continues_name mark = ap continues_name same in cc

unmarked-byte : (byte : ℕ) → continues_name byte ≡ true → not (is_mark byte) ≡ true
unmarked-byte byte = not-both (continues_name byte) (is_mark byte) (or-cases (byte == 40) (byte == 41) (byte == 44) (continues_name byte ≡ true → ⊥)
    (λ e. not-continued byte 40 e refl) (λ e. not-continued byte 41 e refl) (λ e. not-continued byte 44 e refl))

pub unmarked-word : (text : Text) → IsWord text → IsUnmarked text
unmarked-word [] h = refl
unmarked-word (byte ∷ text) h =
    and-both (not (is_mark byte)) (list_all (λ b. not (is_mark b)) text)
    (unmarked-byte byte (and-left (continues_name byte) (list_all continues_name text) h))
    (unmarked-word text (and-right (continues_name byte) (list_all continues_name text) h))

pub unmarked-name : (text : Text) → is_name text ≡ true → IsUnmarked text
unmarked-name text h = unmarked-word text (name-word text h)

pub unmarked-number : (z : ℤ) → mag z < 2 ^ 63 → IsUnmarked (signed_decimal z)
unmarked-number z h = unmarked-word (signed_decimal z) (signed-word z h)
