-- Lists of words as pairs, and lists of pairs as words: each undoes the other. Assumes nothing.
use Rattle.std.specs.Prelude.{◌≡◌, length}
use Rattle.std.proofs.Math.Path.{refl, sym, ap}
use Rattle.std.proofs.Common.{◌∙◌, ext_get_or}
use mathlib.Core.List.{List, [], ◌∷◌, flat_map}
use Prim.Native.Nat.{ℕ, zero, suc, ◌+◌, ◌*◌, ◌/◌, ◌%◌, ◌<◌}
use Rattle.std.proofs.Math.Decide.{ℕ_discrete}
use native.Mathlib.Omega.{arith}
use Rattle.std.proofs.Math.ListN.{get_or}
use Rattle.algebra.specs.Lists.{length_row, get_or_row}
use Rattle.algebra.specs.Words.{PrimeField}
use Rattle.algebra.specs.WordLists.{val_zero, modulus_pos, Low}
use Rattle.pairs.specs.Pair.{Pair as Of, real}
use Rattle.residue.specs.ResidueLaws.{is_low, stands}
use Rattle.pairs.specs.Square.{pair_path}
use Rattle.pair.specs.declared.Pair.{Pair}
use Rattle.pair.specs.PairWords.{Stands, pair_at, pairs_of, pair_words, PairLent}

-- two lists that hold the same at the places of each of n pairs
pub by_pairs : (n : ℕ) (u w : List ℕ) → length u ≡ 2 * n → length w ≡ 2 * n → ((j : ℕ) → j < n → get_or u (2 * j) 0 ≡ get_or w (2 * j) 0)
    → ((j : ℕ) → j < n → get_or u (2 * j + 1) 0 ≡ get_or w (2 * j + 1) 0) → u ≡ w
by_pairs n u w p q f s = ext_get_or 0 u w (p ∙ sym q) (λ k h. at k h (ℕ_discrete (k % 2) 0))
  where
    at : (k : ℕ) → k < length u → Dec (k % 2 ≡ 0) → get_or u k 0 ≡ get_or w k 0
    at k h (yes e) = let j : k ≡ 2 * (k / 2) = omega arith in ap (λ i. get_or u i 0) j ∙ f (k / 2) (omega arith) ∙ ap (λ i. get_or w i 0) (sym j)
    at k h (no e) = let j : k ≡ 2 * (k / 2) + 1 = omega arith in ap (λ i. get_or u i 0) j ∙ s (k / 2) (omega arith) ∙ ap (λ i. get_or w i 0) (sym j)

module _ (𝓕 : PrimeField) where
  open 𝓕 use {modulus as P, field as F, words as W}
  open F use {ring as K}
  open K use {R as Element, 𝟘}
  open W use {val as word, val_el}

  -- a pair stands for v exactly when its words are those of v
  pub stands_of : {v : Of Element} {x : Pair} → x.re.0 ≡ word v.re → x.im.0 ≡ word v.im → Stands 𝓕 v x
  stands_of {v} p q =
      record { value = pair_path (stands 𝓕 v.re p) (stands 𝓕 v.im q); low = record { re_low = is_low 𝓕 v.re p; im_low = is_low 𝓕 v.im q } }

  pub stands_at : {v v' : Of Element} {x : Pair} → v ≡ v' → Stands 𝓕 v x → Stands 𝓕 v' x
  stands_at e s = record { value = s.value ∙ e; low = s.low }

  pub re_word : {v : Of Element} {x : Pair} → Stands 𝓕 v x → x.re.0 ≡ word v.re
  re_word {v} {x} s = sym (val_el x.re.0 s.low.re_low) ∙ ap (λ (y : Of Element). word y.re) s.value

  pub im_word : {v : Of Element} {x : Pair} → Stands 𝓕 v x → x.im.0 ≡ word v.im
  im_word {v} {x} s = sym (val_el x.im.0 s.low.im_low) ∙ ap (λ (y : Of Element). word y.im) s.value

  pub pair_lent : {j : ℕ} {ws : List ℕ} → Low P ws → 2 * j + 1 < length ws → PairLent 𝓕 j ws
  pair_lent {j} l h = record { within = h; first = l.low (2 * j) (omega arith); second = l.low (2 * j + 1) h }

  pub length_pairs : (ws : List ℕ) → length (pairs_of 𝓕 ws) ≡ length ws / 2
  unfolding pairs_of
  length_pairs ws = length_row (length ws / 2) (pair_at 𝓕 ws)

  pub get_or_pairs : (ws : List ℕ) (j : ℕ) (d : Of Element) → 2 * j + 1 < length ws → get_or (pairs_of 𝓕 ws) j d ≡ pair_at 𝓕 ws j
  unfolding pairs_of
  get_or_pairs ws j d h = get_or_row (length ws / 2) (pair_at 𝓕 ws) j d (omega arith)

  pub length_pair_words : (v : List (Of Element)) → length (pair_words 𝓕 v) ≡ 2 * length v
  unfolding pair_words flat_map
  length_pair_words [] = refl
  length_pair_words (x ∷ v) = omega (arith, length_pair_words v)

  pub get_or_re : (v : List (Of Element)) (j : ℕ) → get_or (pair_words 𝓕 v) (2 * j) 0 ≡ word (get_or v j (real K 𝟘)).re
  unfolding pair_words flat_map
  get_or_re [] j = sym (val_zero 𝓕 (modulus_pos 𝓕))
  get_or_re (x ∷ v) zero = refl
  get_or_re (x ∷ v) (suc j) = ap (λ k. get_or (pair_words 𝓕 (x ∷ v)) k 0) two ∙ get_or_re v j
    where
      two : 2 * suc j ≡ suc (suc (2 * j))
      two = omega arith

  pub get_or_im : (v : List (Of Element)) (j : ℕ) → get_or (pair_words 𝓕 v) (2 * j + 1) 0 ≡ word (get_or v j (real K 𝟘)).im
  unfolding pair_words flat_map
  get_or_im [] j = sym (val_zero 𝓕 (modulus_pos 𝓕))
  get_or_im (x ∷ v) zero = refl
  get_or_im (x ∷ v) (suc j) = ap (λ k. get_or (pair_words 𝓕 (x ∷ v)) k 0) two ∙ get_or_im v j
    where
      two : 2 * suc j + 1 ≡ suc (suc (2 * j + 1))
      two = omega arith

  pub pairs_words : (v : List (Of Element)) → pairs_of 𝓕 (pair_words 𝓕 v) ≡ v
  pairs_words v =
      ext_get_or (real K 𝟘) (pairs_of 𝓕 (pair_words 𝓕 v)) v whole
      (λ j h. get_or_pairs (pair_words 𝓕 v) j (real K 𝟘) (omega (arith, whole, length_pair_words v))
      ∙ pair_path (stands 𝓕 (get_or v j (real K 𝟘)).re (get_or_re v j)) (stands 𝓕 (get_or v j (real K 𝟘)).im (get_or_im v j)))
    where
      whole : length (pairs_of 𝓕 (pair_words 𝓕 v)) ≡ length v
      whole = length_pairs (pair_words 𝓕 v) ∙ omega (arith, length_pair_words v)

  pub words_pairs : (ws : List ℕ) → Low P ws → length ws % 2 ≡ 0 → pair_words 𝓕 (pairs_of 𝓕 ws) ≡ ws
  words_pairs ws l e =
      by_pairs (length ws / 2) (pair_words 𝓕 (pairs_of 𝓕 ws)) ws (length_pair_words (pairs_of 𝓕 ws) ∙ omega (arith, length_pairs ws)) (omega arith)
      (λ j h. get_or_re (pairs_of 𝓕 ws) j ∙ ap (λ (x : Of Element). word x.re) (get_or_pairs ws j (real K 𝟘) (omega arith)) ∙ val_el (get_or ws (2 * j) 0) (l.low (2 * j) (omega arith)))
      (λ j h. get_or_im (pairs_of 𝓕 ws) j ∙ ap (λ (x : Of Element). word x.im) (get_or_pairs ws j (real K 𝟘) (omega arith)) ∙ val_el (get_or ws (2 * j + 1) 0) (l.low (2 * j + 1) (omega arith)))
