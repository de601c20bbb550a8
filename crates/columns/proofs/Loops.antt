-- The loops over the places of one column. Assumes nothing.
use mathlib.Core.Path.{◌≡◌, refl, sym, ap, ap₂, ◌∙◌, subst}
use mathlib.Core.Bool.{Bool, ◌&&◌}
use mathlib.Core.List.{List}
use Prim.Native.Nat.{ℕ, ◌+◌, ◌*◌, ◌<◌, ◌≤◌}
use native.Mathlib.Omega.{arith}
use lib.Dec.{eqb}
use lib.ListN.{length, take, get_or, set}
use Rattle.algebra.specs.Lists.{length_row, get_or_row}
use Rattle.algebra.specs.Tests.{all₂, all₂_turn}
use Rattle.algebra.specs.Words.{PrimeField}
use Rattle.algebra.specs.WordLists.{Low}
use Rattle.foldable.specs.Every.{every}
use Rattle.inversion.specs.Strides.{stride_next, stride_within}
use Rattle.columns.specs.Steps.{CrossInput, crossed, CrossLent}
use Rattle.columns.proofs.Crossing.{CrossedTo, cross_none, cross_length, left_low, right_low, cross_turn, cross_end}

pub next_place : (a i c p : ℕ) → p ≡ a + i * c → p + c ≡ a + (i + 1) * c
next_place a i c p e = omega (arith, stride_next i c)

-- a turn of comparing
pub same_turn : (j c : ℕ) (b w : List ℕ) (i p : ℕ) {ok : Bool} → i < length w → p ≡ j + i * c → ok ≡ all₂ eqb (take i w) (take i (every 0 c j (length w) b))
    → (ok && eqb (get_or w i 0) (get_or b p 0)) ≡ all₂ eqb (take (i + 1) w) (take (i + 1) (every 0 c j (length w) b))
same_turn j c b w i p h e q =
    all₂_turn eqb i w (every 0 c j (length w) b) 0 h (omega (arith, length_row (length w) (λ i. get_or b (j + i * c) 0))) q
    (ap (eqb (get_or w i 0)) (ap (λ k. get_or b k 0) e ∙ sym (get_or_row (length w) (λ i. get_or b (j + i * c) 0) i 0 h)))

module _ (𝓕 : PrimeField) where
  infixl 65 ◌⊞◌
  infixl 70 ◌⊠◌
  open 𝓕 use {modulus as P, field as F, words as W}
  open F use {ring as K}
  open K use {◌+◌ as ◌⊞◌, ◌*◌ as ◌⊠◌}
  open W use {el, val as word}

  -- the places a, a + c, .. lie within
  module _ (n a c : ℕ) (s : List ℕ) (within : a + n * c < length s + c) where
    pub place_in : (i p : ℕ) → i < n → p ≡ a + i * c → p < length s
    place_in i p h e = omega (arith, stride_within i c n h)

    low_every : Low P s → Low P (every 0 c a n s)
    low_every l =
        record {
          low = λ k h. let b : k < n = omega (arith, length_row n (λ i. get_or s (a + i * c) 0)) in
              rw (get_or_row n (λ i. get_or s (a + i * c) 0) k 0 b) (l.low (a + k * c) (place_in k (a + k * c) b refl));
        }

  -- before turn i of crossing
  abbrev pub CrossedUpTo : ℕ → ℕ → ℕ → List ℕ → List ℕ → List ℕ → ℕ → List ℕ → Type 0
  CrossedUpTo n a c t t' o i w = CrossedTo 𝓕 (every 0 c a n t) (every 0 c a n t') o i w

  module _ (n a c : ℕ) (t t' o : List ℕ) (𝓒 : CrossLent 𝓕 n a c t t' o) where
    sized : (s : List ℕ) → length (every 0 c a n s) ≡ n
    sized s = length_row n (λ i. get_or s (a + i * c) 0)

    input : CrossInput 𝓕 (every 0 c a n t) (every 0 c a n t') o
    input =
        record {
          second = sized t' ∙ sym (sized t);
          size = 𝓒.size ∙ ap₂ ◌+◌ (sym (sized t)) (sym (sized t));
          low = low_every n a c t 𝓒.first 𝓒.low;
          low' = low_every n a c t' 𝓒.second 𝓒.low';
          block = 𝓒.block;
        }

    -- the words of the diagonals at turn i
    pub places_in : (i p : ℕ) → i < n → p ≡ a + i * c → (p < length t) × (p < length t')
    places_in i p h e = (place_in n a c t 𝓒.first i p h e, place_in n a c t' 𝓒.second i p h e)

    pub places_low : (i p : ℕ) → i < n → p ≡ a + i * c → (get_or t p 0 < P) × (get_or t' p 0 < P)
    places_low i p h e = let w = places_in i p h e in (𝓒.low.low p w.0, 𝓒.low'.low p w.1)

    pub up_to_none : CrossedUpTo n a c t t' o 0 o
    up_to_none = cross_none 𝓕 (every 0 c a n t) (every 0 c a n t') o input

    module _ (i : ℕ) (w : List ℕ) (p : CrossedUpTo n a c t t' o i w) where
      pub up_to_length : length w ≡ length o
      up_to_length = cross_length 𝓕 (every 0 c a n t) (every 0 c a n t') o input i w p

      pub halves_low : i < n → (get_or w i 0 < P) × (get_or w (n + i) 0 < P)
      halves_low h = (
        left_low 𝓕 (every 0 c a n t) (every 0 c a n t') o input i w (omega (arith, sized t)) p,
        subst (λ k. get_or w (k + i) 0 < P) (sized t) (right_low 𝓕 (every 0 c a n t) (every 0 c a n t') o input i w (omega (arith, sized t)) p),
      )

      pub up_to_turn : (q u v : ℕ) → i < n → q ≡ a + i * c
          → u ≡ word (el (get_or w i 0) ⊞ el (get_or t q 0) ⊠ el (get_or w (n + i) 0))
          → v ≡ word (el (get_or w i 0) ⊞ el (get_or t' q 0) ⊠ el (get_or w (n + i) 0))
          → CrossedUpTo n a c t t' o (i + 1) (set (set w i u) (n + i) v)
      up_to_turn q u v h e f g =
          let at : (s : List ℕ) → get_or s q 0 ≡ get_or (every 0 c a n s) i 0 = λ s. ap (λ k. get_or s k 0) e ∙ sym (get_or_row n (λ i. get_or s (a + i * c) 0) i 0 h) in
          let x : (s : List ℕ) → word (el (get_or w i 0) ⊞ el (get_or s q 0) ⊠ el (get_or w (n + i) 0)) ≡ word (el (get_or w i 0) ⊞ el (get_or (every 0 c a n s) i 0) ⊠ el (get_or w (length (every 0 c a n t) + i) 0)) =
          λ s. ap₂ (λ y k. word (el (get_or w i 0) ⊞ el y ⊠ el (get_or w (k + i) 0))) (at s) (sym (sized t)) in
          subst (λ k. CrossedUpTo n a c t t' o (i + 1) (set (set w i u) (k + i) v)) (sized t)
          (cross_turn 𝓕 (every 0 c a n t) (every 0 c a n t') o input i w u v (omega (arith, sized t)) p (f ∙ x t) (g ∙ x t'))

      pub up_to_end : n ≤ i → w ≡ crossed 𝓕 (every 0 c a n t) (every 0 c a n t') o
      up_to_end h = cross_end 𝓕 (every 0 c a n t) (every 0 c a n t') o input i w (omega (arith, sized t)) p
