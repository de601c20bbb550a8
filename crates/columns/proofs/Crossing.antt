-- The loop over a level: both halves of a block become their sums with multiples of the right one. Assumes nothing.
use mathlib.Core.Path.{◌≡◌, refl, sym, ap, ap₂, ◌∙◌}
use mathlib.Core.List.{List}
use Prim.Native.Nat.{ℕ, ◌+◌, ◌<◌, ◌≤◌}
use native.Mathlib.Omega.{arith}
use lib.ListN.{length, take, drop, get_or, set, length-take, length-drop}
use lib.Seq.{get_or-take, get_or-drop}
use Rattle.algebra.specs.Vector.{vectors, length_butterfly, get_or_butterfly}
use Rattle.algebra.specs.Paired.{Paired, paired_none, paired_length, paired_left, paired_right, paired_turn, paired_end}
use Rattle.algebra.specs.Words.{PrimeField}
use Rattle.algebra.specs.WordLists.{elements, to_words, length_elements, length_words_lem, get_or_elements, get_or_words, words_append}
use Rattle.columns.specs.Steps.{CrossInput, crossed}

module _ (𝓕 : PrimeField) where
  infixl 65 ◌⊞◌
  infixl 70 ◌⊠◌
  infixl 66 ◌⊕◌
  infixl 70 ◌⊙◌
  open 𝓕 use {modulus as P, field as F, words as W}
  open F use {ring as K}
  open K use {◌+◌ as ◌⊞◌, ◌*◌ as ◌⊠◌}
  open W use {el, val as word}
  open vectors K use {◌⊕◌, ◌⊙◌}

  -- l + t r, of words
  abbrev combined : List ℕ → List ℕ → List ℕ → List ℕ
  combined l t r = to_words 𝓕 (elements 𝓕 l ⊕ elements 𝓕 t ⊙ elements 𝓕 r)

  module _ (n : ℕ) (l t r : List ℕ) (ll : length l ≡ n) (lt : length t ≡ n) (lr : length r ≡ n) where
    length_combined : length (combined l t r) ≡ n
    length_combined =
        length_words_lem 𝓕 _
        ∙ length_butterfly K n (elements 𝓕 l) (elements 𝓕 t) (elements 𝓕 r) (length_elements 𝓕 l ∙ ll) (length_elements 𝓕 t ∙ lt) (length_elements 𝓕 r ∙ lr)

    combined_at : (i : ℕ) → i < n → get_or (combined l t r) i 0 ≡ word (el (get_or l i 0) ⊞ el (get_or t i 0) ⊠ el (get_or r i 0))
    combined_at i h =
        get_or_words 𝓕 _ i
        ∙ ap word
        (get_or_butterfly K n (elements 𝓕 l) (elements 𝓕 t) (elements 𝓕 r) (length_elements 𝓕 l ∙ ll) (length_elements 𝓕 t ∙ lt) (length_elements 𝓕 r ∙ lr) i h
        ∙ ap₂ ◌⊞◌ (get_or_elements 𝓕 l i) (ap₂ ◌⊠◌ (get_or_elements 𝓕 t i) (get_or_elements 𝓕 r i)))

  -- before turn i
  abbrev pub CrossedTo : List ℕ → List ℕ → List ℕ → ℕ → List ℕ → Type 0
  CrossedTo t t' o i out =
      let l = take (length t) o in
      let r = drop (length t) o in
      Paired i (combined l t r) (combined l t' r) l r out

  module _ (t t' o : List ℕ) (𝓒 : CrossInput 𝓕 t t' o) where
    l : List ℕ
    l = take (length t) o

    r : List ℕ
    r = drop (length t) o

    ll : length (take (length t) o) ≡ length t
    ll = let s = 𝓒.size in simp length-take (omega arith)

    lr : length (drop (length t) o) ≡ length t
    lr = let s = 𝓒.size in simp length-drop (omega arith)

    pub cross_none : CrossedTo t t' o 0 o
    cross_none = paired_none _ _ o (length t)

    pub cross_length : (i : ℕ) (out : List ℕ) → CrossedTo t t' o i out → length out ≡ length o
    cross_length i out p = paired_length (length t) ll lr p ∙ sym 𝓒.size

    -- what is read is below the modulus
    left_is : (i : ℕ) (out : List ℕ) → i < length t → CrossedTo t t' o i out → get_or out i 0 ≡ get_or (take (length t) o) i 0
    left_is i out h p = paired_left (length t) ll lr 0 h p

    right_is : (i : ℕ) (out : List ℕ) → CrossedTo t t' o i out → get_or out (length t + i) 0 ≡ get_or (drop (length t) o) i 0
    right_is i out p = paired_right (length t) ll lr 0 p

    pub left_low : (i : ℕ) (out : List ℕ) → i < length t → CrossedTo t t' o i out → get_or out i 0 < P
    left_low i out h p = let s = 𝓒.size in rw (left_is i out h p, get_or-take (length t) o i 0 h) (𝓒.block.low i (omega arith))

    pub right_low : (i : ℕ) (out : List ℕ) → i < length t → CrossedTo t t' o i out → get_or out (length t + i) 0 < P
    right_low i out h p = let s = 𝓒.size in rw (right_is i out p, get_or-drop (length t) o i 0) (𝓒.block.low (length t + i) (omega arith))

    pub cross_turn : (i : ℕ) (out : List ℕ) (a b : ℕ) → i < length t → CrossedTo t t' o i out
        → a ≡ word (el (get_or out i 0) ⊞ el (get_or t i 0) ⊠ el (get_or out (length t + i) 0))
        → b ≡ word (el (get_or out i 0) ⊞ el (get_or t' i 0) ⊠ el (get_or out (length t + i) 0))
        → CrossedTo t t' o (i + 1) (set (set out i a) (length t + i) b)
    cross_turn i out a b h p q s =
        let n = length t in
        let x : (u : List ℕ) → word (el (get_or out i 0) ⊞ el (get_or u i 0) ⊠ el (get_or out (n + i) 0)) ≡ word (el (get_or (take n o) i 0) ⊞ el (get_or u i 0) ⊠ el (get_or (drop n o) i 0)) =
        λ u. ap₂ (λ y z. word (el y ⊞ el (get_or u i 0) ⊠ el z)) (left_is i out h p) (right_is i out p) in
        paired_turn n ll lr 0 h (length_combined n (take n o) t (drop n o) ll refl lr) (length_combined n (take n o) t' (drop n o) ll 𝓒.second lr) p
        (q ∙ x t ∙ sym (combined_at n (take n o) t (drop n o) ll refl lr i h))
        (s ∙ x t' ∙ sym (combined_at n (take n o) t' (drop n o) ll 𝓒.second lr i h))

    pub cross_end : (i : ℕ) (out : List ℕ) → length t ≤ i → CrossedTo t t' o i out → out ≡ crossed 𝓕 t t' o
    unfolding crossed
    cross_end i out h p =
        let n = length t in
        paired_end n ll lr h (length_combined n (take n o) t (drop n o) ll refl lr) (length_combined n (take n o) t' (drop n o) ll 𝓒.second lr) p
        ∙ sym (words_append 𝓕 _ _)
