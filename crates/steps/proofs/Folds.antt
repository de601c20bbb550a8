-- The loop that folds what is left of a message, in place. Assumes nothing.
use mathlib.Core.Path.{◌≡◌, sym, ap, ap₂, ◌∙◌}
use mathlib.Core.Logic.{⊎_elim}
use mathlib.Core.List.{List}
use Prim.Native.Nat.{ℕ, ◌+◌, ◌-◌, ◌/◌, ◌<◌, ◌≤◌}
use native.Mathlib.Omega.{arith}
use lib.ListN.{length, take, drop, get_or, set, length-append, length-take, length-drop, get_or-append}
use lib.Seq.{get_or-take, get_or-drop, get_or-append-add, ext_get_or}
use Rattle.algebra.specs.Filling.{Filled, filled_length, filled_old, filled_new, filled_turn}
use Rattle.algebra.specs.Order.{lt_or_ge}
use Rattle.algebra.specs.Vector.{length_mix, get_or_mix}
use Rattle.algebra.specs.Words.{PrimeField}
use Rattle.algebra.specs.WordLists.{elements, to_words, length_elements, length_words_lem, get_or_elements, get_or_words}
use Rattle.multilinear.specs.Folding.{fold_message}
use Rattle.residue.specs.declared.Residue.{Residue}
use Rattle.residue.specs.Elements.{elem}
use Rattle.steps.specs.Steps.{FoldInput, folded_front}

module _ (𝓕 : PrimeField) where
  infixl 65 ◌⊞◌
  infixl 70 ◌⊠◌
  open 𝓕 use {modulus as P, field as F, words as W}
  open F use {ring as K}
  open K use {◌+◌ as ◌⊞◌, ◌*◌ as ◌⊠◌}
  open W use {el, val as word}

  module _ (a : Residue) (m : List ℕ) (𝓘 : FoldInput 𝓕 a m) where
    abbrev half : ℕ
    half = length m / 2

    abbrev front : List ℕ
    front = to_words 𝓕 (fold_message K (length m / 2) (elem 𝓕 a) (elements 𝓕 m))

    length_left : length (take (length m / 2) (elements 𝓕 m)) ≡ length m / 2
    length_left = length-take half (elements 𝓕 m) ∙ omega (arith, length_elements 𝓕 m)

    length_right : length (drop (length m / 2) (elements 𝓕 m)) ≡ length m / 2
    length_right = length-drop half (elements 𝓕 m) ∙ omega (arith, length_elements 𝓕 m, 𝓘.even)

    length_front : length front ≡ length m / 2
    length_front = length_words_lem 𝓕 _ ∙ length_mix K half (take half (elements 𝓕 m)) (elem 𝓕 a) (drop half (elements 𝓕 m)) length_left length_right

    length_folded_front : length (folded_front 𝓕 (elem 𝓕 a) m) ≡ length m
    unfolding folded_front
    length_folded_front = length-append front (drop half m) ∙ omega (arith, length_front, length-drop half m)

    folded_front_at : (j : ℕ) → j < length m / 2 → get_or (folded_front 𝓕 (elem 𝓕 a) m) j 0 ≡ word (el (get_or m j 0) ⊞ elem 𝓕 a ⊠ el (get_or m (length m / 2 + j) 0))
    unfolding folded_front
    folded_front_at j h =
        let E = elements 𝓕 m in
        get_or-append front (drop half m) 0 j (omega (arith, length_front))
        ∙ get_or_words 𝓕 _ j
        ∙ ap word
        (get_or_mix K (elem 𝓕 a) (take half E) (drop half E) j (omega (arith, length_left)) (omega (arith, length_right))
        ∙ ap₂ (λ x y. x ⊞ elem 𝓕 a ⊠ y) (get_or-take half E j K.𝟘 h ∙ get_or_elements 𝓕 m j) (get_or-drop half E j K.𝟘 ∙ get_or_elements 𝓕 m (half + j)))

    folded_front_after : (j k : ℕ) → length m / 2 + j ≡ k → get_or (folded_front 𝓕 (elem 𝓕 a) m) k 0 ≡ get_or m k 0
    unfolding folded_front
    folded_front_after j k e =
        ap (λ n. get_or (folded_front 𝓕 (elem 𝓕 a) m) n 0) (sym e)
        ∙ ap (λ n. get_or (folded_front 𝓕 (elem 𝓕 a) m) (n + j) 0) (sym length_front) ∙ get_or-append-add front (drop half m) j 0 ∙ get_or-drop half m j 0
        ∙ ap (λ n. get_or m n 0) e

    -- what is read is as it was
    pub unread_low : {j : ℕ} {out : List ℕ} (k : ℕ) → Filled j (folded_front 𝓕 (elem 𝓕 a) m) m out → j ≤ k → k < length m → get_or out k 0 < P
    unread_low k p h l = rw (filled_old p k 0 h) (𝓘.message.low k l)

    pub fold_turn : {j : ℕ} {out : List ℕ} (v : ℕ) → j < length m / 2 → Filled j (folded_front 𝓕 (elem 𝓕 a) m) m out
        → v ≡ word (el (get_or out j 0) ⊞ elem 𝓕 a ⊠ el (get_or out (length m / 2 + j) 0)) → Filled (j + 1) (folded_front 𝓕 (elem 𝓕 a) m) m (set out j v)
    fold_turn {j} {out} v h p e =
        filled_turn 0 (omega arith) length_folded_front p
        (e ∙ ap₂ (λ x y. word (el x ⊞ elem 𝓕 a ⊠ el y)) (filled_old p j 0 (omega arith)) (filled_old p (half + j) 0 (omega arith)) ∙ sym (folded_front_at j h))

    pub fold_end : {j : ℕ} {out : List ℕ} → j ≡ length m / 2 → Filled j (folded_front 𝓕 (elem 𝓕 a) m) m out → out ≡ folded_front 𝓕 (elem 𝓕 a) m
    fold_end {j} {out} e p =
        ext_get_or 0 out (folded_front 𝓕 (elem 𝓕 a) m) (filled_length p ∙ sym length_folded_front)
        (λ k l. ⊎_elim (λ h. filled_new p k 0 (omega arith) length_folded_front) (λ h. filled_old p k 0 (omega arith) ∙ sym (folded_front_after (k - half) k (omega arith))) (lt_or_ge k half))
