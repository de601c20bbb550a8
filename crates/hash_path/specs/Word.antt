-- The word of four bytes, the lowest first; it undoes the bytes of a word, and they undo it. Assumes nothing.
use Rattle.std.specs.Prelude.{◌≡◌, refl, List, [], ◌∷◌, ℕ, ◌+◌, ◌*◌, ◌/◌, ◌%◌, ◌^◌, ◌<◌, length, get_or, take, drop}
use Rattle.std.proofs.Common.{ap₂, arith, shr-shr}
use Rattle.hash_tree.specs.Tree.{low_first}

-- the number whose bytes, the lowest first, are in a list
unfoldable pub low_word : List ℕ → ℕ
low_word [] = 0
low_word (b ∷ bs) = b + 256 * low_word bs

-- the word at a place
abbrev pub word_at : List ℕ → ℕ → ℕ
word_at bs at = low_word (take 4 (drop at bs))

-- BACK AND FORTH: a word's bytes give the word, and the word of four bytes gives the bytes
pub word_of_bytes : (x : ℕ) → x < 2 ^ 32 → low_word (low_first x) ≡ x
unfolding low_word
word_of_bytes x h =
    joined (x % 256) (x / 2 ^ 8 % 256) (x / 2 ^ 16 % 256) (x / 2 ^ 24 % 256) (omega arith) (next 8) (next 16) (omega arith)
  where
    next : (i : ℕ) → x / 2 ^ i ≡ x / 2 ^ i % 256 + 256 * (x / 2 ^ (i + 8))
    next i = let e : x / 2 ^ i / 256 ≡ x / 2 ^ (i + 8) = shr-shr x i 8 in omega arith

    joined : (a b c d : ℕ) {y z w : ℕ} → x ≡ a + 256 * y → y ≡ b + 256 * z → z ≡ c + 256 * w → w ≡ d → a + 256 * (b + 256 * (c + 256 * (d + 256 * 0))) ≡ x
    joined a b c d e f g h = omega arith

pub bytes_of_word : (bs : List ℕ) → length bs ≡ 4 → ((k : ℕ) → k < 4 → get_or bs k 0 < 256) → low_first (low_word bs) ≡ bs
unfolding low_word
bytes_of_word [] n l = absurd (omega arith)
bytes_of_word (a ∷ []) n l = absurd (omega arith)
bytes_of_word (a ∷ b ∷ []) n l = absurd (omega arith)
bytes_of_word (a ∷ b ∷ c ∷ []) n l = absurd (omega arith)
bytes_of_word (a ∷ b ∷ c ∷ d ∷ []) n l =
    let i = l 0 (omega arith) in
    let j = l 1 (omega arith) in
    let k = l 2 (omega arith) in
    let m = l 3 (omega arith) in
    ap₂ ◌∷◌ (omega arith) (ap₂ ◌∷◌ (omega arith) (ap₂ ◌∷◌ (omega arith) (ap₂ ◌∷◌ (omega arith) refl)))
bytes_of_word (a ∷ b ∷ c ∷ d ∷ e ∷ bs) n l = absurd (omega arith)
