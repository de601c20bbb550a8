-- The zeros of the padding are the fewest, and the padded message bit by bit is the standard's. Assumes nothing.
use Rattle.std.specs.Prelude.{◌≡◌, refl, ℕ, zero, suc, ◌+◌, ◌*◌, ◌-◌, ◌/◌, ◌%◌, ◌^◌, ◌<◌, ◌≤◌, length, replicate}
use Rattle.std.proofs.Common.{sym, ap, ap₂, ◌∙◌, arith, shr-shr}
use mathlib.Core.List.{List, [], ◌∷◌, ◌++◌, flat_map, append-nil}
use Rattle.std.proofs.Math.Pow.{field, mod-mod-pow}
use Rattle.std.proofs.lemmas.List.{replicate-append-replicate}
use Rattle.algebra.specs.Lists.{row, row_ext, row_append, flat_map_append}
use Rattle.algebra.specs.Bits.{bit}
use Rattle.sha256.specs.Padding.{bytes, all_bytes, zero_bits, length_words, padded}

-- THE ZEROS solve the standard's equation, and no fewer do
pub zeros_solve : (l : ℕ) → (l + 1 + zero_bits l) % 512 ≡ 448
zeros_solve l = omega arith

pub zeros_least : (l k : ℕ) → (l + 1 + k) % 512 ≡ 448 → zero_bits l ≤ k
zeros_least l k e = omega arith

-- the low w bits of a number, the highest first, and the bits of bytes
unfoldable pub binary : ℕ → ℕ → List ℕ
binary w n = row w (λ i. bit n (w - 1 - i))

unfoldable pub bits : List ℕ → List ℕ
bits l = flat_map (binary 8) l

-- the high bits and the low bits of a number
binary_split : (j k n : ℕ) → binary (j + k) n ≡ binary j (n / 2 ^ k) ++ binary k n
unfolding binary bit
binary_split j k n =
    row_append j k _
    ∙ ap₂ ◌++◌
    (row_ext j _ _ (λ i h. let e : j + k - 1 - i ≡ k + (j - 1 - i) = omega arith in ap (λ x. n / 2 ^ x % 2) e ∙ ap (λ x. x % 2) (sym (shr-shr n k (j - 1 - i)))))
    (row_ext k _ _ (λ i h. let e : j + k - 1 - (j + i) ≡ k - 1 - i = omega arith in ap (λ x. n / 2 ^ x % 2) e))

binary_low : (k n : ℕ) → binary k (n % 2 ^ k) ≡ binary k n
unfolding binary bit
binary_low k n = row_ext k _ _ (λ i h. at (k - 1 - i) (omega arith))
  where
    at : (i : ℕ) → i < k → n % 2 ^ k / 2 ^ i % 2 ≡ n / 2 ^ i % 2
    at i h =
        let e : k ≡ k - i - 1 + 1 + i = omega arith in
        ap (λ x. n % 2 ^ x / 2 ^ i % 2) e ∙ ap (λ x. x % 2) (field n (k - i - 1 + 1) i) ∙ mod-mod-pow (n / 2 ^ i) (k - i - 1) 1

bits_append : (l r : List ℕ) → bits (l ++ r) ≡ bits l ++ bits r
unfolding bits
bits_append = flat_map_append (binary 8)

bits_word : (x : ℕ) → bits (bytes x) ≡ binary 32 x
unfolding bits bytes flat_map
bits_word x =
    let low : binary 8 (x / 2 ^ 8 % 256) ++ (binary 8 (x % 256) ++ []) ≡ binary 16 x =
    ap₂ ◌++◌ (binary_low 8 (x / 2 ^ 8)) (append-nil (binary 8 (x % 256)) ∙ binary_low 8 x) ∙ sym (binary_split 8 8 x) in
    ap₂ ◌++◌ (binary_low 8 (x / 2 ^ 24)) (ap₂ ◌++◌ (binary_low 8 (x / 2 ^ 16)) low ∙ sym (binary_split 8 16 x)) ∙ sym (binary_split 8 24 x)

bits_zeros : (n : ℕ) → bits (replicate n 0) ≡ replicate (8 * n) 0
unfolding bits flat_map binary row bit
bits_zeros zero = refl
bits_zeros (suc n) =
    let e : 8 + 8 * n ≡ 8 * suc n = omega arith in
    ap (λ l. replicate 8 0 ++ l) (bits_zeros n) ∙ replicate-append-replicate 8 (8 * n) 0 ∙ ap (λ k. replicate k 0) e

bits_one : (n : ℕ) → bits (0x80 ∷ replicate n 0) ≡ 1 ∷ replicate (7 + 8 * n) 0
unfolding bits flat_map binary row bit
bits_one n = ap (λ l. (1 ∷ replicate 7 0) ++ l) (bits_zeros n) ∙ ap (λ l. 1 ∷ l) (replicate-append-replicate 7 (8 * n) 0)

bits_length : (l : ℕ) → bits (all_bytes (length_words l)) ≡ binary 64 l
unfolding all_bytes flat_map
bits_length l =
    let high = l / 2 ^ 32 % 2 ^ 32 in
    let low = l % 2 ^ 32 in
    bits_append (bytes high) (bytes low ++ [])
    ∙ ap₂ ◌++◌ (bits_word high ∙ binary_low 32 (l / 2 ^ 32)) (ap bits (append-nil (bytes low)) ∙ bits_word low ∙ binary_low 32 l)
    ∙ sym (binary_split 32 32 l)

-- THE PADDED MESSAGE, bit by bit: the message, the bit 1, the zeros, and the low 64 bits of the length
pub padded_bits : (m : List ℕ) → bits (padded m) ≡ bits m ++ (1 ∷ replicate (zero_bits (8 * length m)) 0) ++ binary 64 (8 * length m)
unfolding padded
padded_bits m =
    let l = 8 * length m in
    let Z : List ℕ = 0x80 ∷ replicate (zero_bits l / 8) 0 in
    let whole : 7 + 8 * (zero_bits l / 8) ≡ zero_bits l = omega arith in
    bits_append (m ++ Z) (all_bytes (length_words l))
    ∙ ap₂ ◌++◌ (bits_append m Z ∙ ap (λ r. bits m ++ r) (bits_one (zero_bits l / 8) ∙ ap (λ k. 1 ∷ replicate k 0) whole)) (bits_length l)
