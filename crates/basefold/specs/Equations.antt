-- What the checks compare, as equations with an index and no recursion. Definitions only. Assumes nothing.
use Rattle.std.specs.Prelude.{◌≡◌, cond, List, ℕ, suc, ◌+◌, ◌*◌, ◌%◌, ◌^◌, ◌<◌, ◌≤◌, ltb, length, get_or}
use Rattle.algebra.specs.Field.{Field}
use Rattle.algebra.specs.Numerals.{num}
use Rattle.foldable.specs.Code.{Code, size, encode, line}
use Rattle.multilinear.specs.Quadratic.{through}
use Rattle.multilinear.specs.Rounds.{final_sum}
use Rattle.basefold.specs.Layout.{block_of, sent, carried}

-- the place of query u at level i, in blocks of n 2^i words
abbrev pub place_at : ℕ → ℕ → ℕ → ℕ
place_at n u i = u % (n * 2 ^ i)

module _ (F : Field) where
  infixl 65 ◌+ᶠ◌
  open F use {ring as K, inv}
  open K use {R, 𝟘, ◌+◌ as ◌+ᶠ◌}

  -- h_i(x), by the three values that are sent of it at depth d
  abbrev pub sent_through : List R → ℕ → ℕ → R → R
  sent_through o d i x = through K (inv (num K 2)) (sent F o d i 0) (sent F o d i 1) (sent F o d i 2) x

  -- claim i: y at i = d, and h_(i+1)(r_i) below
  abbrev pub claim : (o r : List R) → R → ℕ → R
  claim o r y i = cond (ltb i (length r)) (sent_through o (length r) (suc i) (get_or r i 𝟘)) y

  module _ (low : ℕ) (C : Code F) where
    -- of the commitment w, the point z, the claimed value y, the challenges r, the queries us and the opening o
    pub record Equations (w z : List R) (y : R) (r : List R) (us : List ℕ) (o : List R) : Type 0 where
      pub sum : (i : ℕ) → 1 ≤ i → i ≤ length r → sent F o (length r) i 0 +ᶠ sent F o (length r) i 1 ≡ claim o r y i
      pub final : final_sum K low (carried F low o (length r)) z r ≡ claim o r y 0
      pub base : (j : ℕ) → j < C.n₀ → get_or (block_of C.n₀ low (length r) w o 0) j 𝟘 ≡ get_or (encode F C 0 (carried F low o (length r))) j 𝟘
      pub fold : (q i u : ℕ) → q < length us → i < length r → u ≡ place_at C.n₀ (get_or us q 0) i
          → line F (get_or r i 𝟘) (get_or (C.T i) u 𝟘) (get_or (C.T' i) u 𝟘) (get_or (block_of C.n₀ low (length r) w o (suc i)) u 𝟘) (get_or (block_of C.n₀ low (length r) w o (suc i)) (size F C i + u) 𝟘)
          ≡ get_or (block_of C.n₀ low (length r) w o i) u 𝟘
