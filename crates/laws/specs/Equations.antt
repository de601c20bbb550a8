-- What the verifier compares, over the words lent: the order's equations, with an index and no recursion. Definitions only. Assumes nothing.
use Rattle.std.specs.Prelude.{◌≡◌, cond, List, ◌++◌, ℕ, suc, ◌+◌, ◌*◌, ◌<◌, ◌≤◌, ltb, length, get_or, take, drop}
use Rattle.algebra.specs.Numerals.{num}
use Rattle.algebra.specs.Sums as sums
use Rattle.algebra.specs.Words.{PrimeField}
use Rattle.algebra.specs.WordLists.{elements}
use Rattle.foldable.specs.Code.{line}
use Rattle.multilinear.specs.Corners.{over_corners, eq}
use Rattle.multilinear.specs.Polynomial.{poly}
use Rattle.multilinear.specs.Quadratic.{through}
use Rattle.basefold.specs.Layout.{round_at, final_at, block_of}
use Rattle.basefold.specs.Equations.{place_at}
use Rattle.job.specs.Limits.{block_size}
use Rattle.job.specs.Sizes.{base_size, low}
use Rattle.parameters.specs.Lent.{diagonal}

-- v: the k words of an opening at depth d that stand behind the rounds
abbrev pub final_words : ℕ → ℕ → List ℕ → List ℕ
final_words d k o = take k (drop (final_at d) o)

module _ (𝓕 : PrimeField) where
  infixl 65 ◌⊞◌
  infixl 70 ◌⊠◌
  open 𝓕 use {field as F, words as W}
  open F use {ring as K, inv}
  open K use {R as Element, ◌+◌ as ◌⊞◌, ◌*◌ as ◌⊠◌}
  open W use {el}

  -- what the words of an opening o at depth d stand for: the value of h_i at x, word b of v, and word u of the block of level i, where level d is w
  abbrev pub sent_element : ℕ → List ℕ → ℕ → ℕ → Element
  sent_element d o i x = el (get_or o (round_at d i + x) 0)

  abbrev pub final_element : ℕ → ℕ → List ℕ → ℕ → Element
  final_element d k o b = el (get_or (final_words d k o) b 0)

  abbrev pub block_element : (d c k : ℕ) → (w o : List ℕ) → ℕ → ℕ → Element
  block_element d c k w o i u = el (get_or (block_of (base_size c k) (low k) d w o i) u 0)

  -- h_i(x), by its three values
  abbrev pub sent_value : ℕ → List ℕ → ℕ → Element → Element
  sent_value d o i x = through K (inv (num K 2)) (sent_element d o i 0) (sent_element d o i 1) (sent_element d o i 2) x

  -- claim i: y at i = d, and h_(i+1)(r_i) below
  abbrev pub claimed : ℕ → ℕ → (r o : List ℕ) → ℕ → Element
  claimed d y r o i = cond (ltb i d) (sent_value d o (suc i) (el (get_or r i 0))) (el y)

  pub record Accepts (d c k : ℕ) (g t t' w z : List ℕ) (y : ℕ) (r us o : List ℕ) : Type 0 where
    -- sum i: h_i(0) + h_i(1) is claim i
    pub sum : (i : ℕ) → 1 ≤ i → i ≤ d → sent_element d o i 0 ⊞ sent_element d o i 1 ≡ claimed d y r o i
    -- final: the polynomial of v times eq, summed over the corners x of the low variables, is claim 0; the challenges are for the variables above
    pub final : over_corners K (low k) (λ x. poly K (elements 𝓕 (final_words d k o)) x ⊠ eq K (elements 𝓕 z) (x ++ elements 𝓕 r)) ≡ claimed d y r o 0
    -- base j: block 0 holds the sum over b of word b of v times word j of row b
    pub base : (j : ℕ) → j < base_size c k → block_element d c k w o 0 j ≡ sums.sum K k (λ b. final_element d k o b ⊠ el (get_or g (b * base_size c k + j) 0))
    -- fold, query q, level i: at the query's place u the line through (T_i[u], block_(i+1)[u]) and (T'_i[u], block_(i+1)[u + n_i]) has at r_i the value block_i[u].
    -- `place_first` and `place_next` of basefold/Accepts say that these places are the query, and each the next one of that above
    pub fold : (q i u : ℕ) → q < length us → i < d → u ≡ place_at (base_size c k) (get_or us q 0) i
        → line F (el (get_or r i 0)) (el (get_or (diagonal (base_size c k) t i) u 0)) (el (get_or (diagonal (base_size c k) t' i) u 0)) (block_element d c k w o (suc i) u)
        (block_element d c k w o (suc i) (u + block_size (base_size c k) i))
        ≡ block_element d c k w o i u
