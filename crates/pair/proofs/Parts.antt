-- The words of sums and products of pairs, from the words that were made on the way. Assumes nothing.
use mathlib.Core.Path.{◌≡◌, refl, ap, ap₂, ◌∙◌}
use mathlib.Core.List.{List, [], ◌∷◌}
use Prim.Native.Nat.{ℕ, ◌+◌, ◌*◌}
use lib.ListN.{get_or}
use Rattle.algebra.specs.Algebra.{algebra, quote}
use Rattle.algebra.specs.Words.{PrimeField}
use Rattle.residue.specs.ResidueLaws.{stands}
use Rattle.pairs.specs.Square.{pair_path}
use Rattle.pair.specs.declared.Pair.{Pair}
use Rattle.pair.specs.PairWords.{pair_at, Stands, PairLent}

module _ (𝓕 : PrimeField) where
  infixl 65 ◌⊞◌
  infixl 65 ◌⊟◌
  infixl 70 ◌⊠◌
  open 𝓕 use {field as F, words as W}
  open F use {ring as K}
  open K use {R as Element, ◌+◌ as ◌⊞◌, ◌*◌ as ◌⊠◌, ◌-◌ as ◌⊟◌, 𝟘}
  open W use {el, val as word}

  -- a difference and a sum of elements whose words are there
  pub difference_word : (a b : Element) {m q r : ℕ} → m ≡ word a → q ≡ word b → r ≡ word (el m ⊟ el q) → r ≡ word (a ⊟ b)
  difference_word a b p q e = e ∙ ap₂ (λ x y. word (x ⊟ y)) (stands 𝓕 a p) (stands 𝓕 b q)

  pub sum_word : (a b : Element) {m r : ℕ} → m ≡ word a → r ≡ word (el m ⊞ b) → r ≡ word (a ⊞ b)
  sum_word a b p e = e ∙ ap (λ x. word (x ⊞ b)) (stands 𝓕 a p)

  -- a real times a pair
  pub real_re : (a x y : Element) → a ⊠ x ≡ a ⊠ x ⊟ 𝟘 ⊠ y
  real_re a x y = algebra K (a ∷ x ∷ y ∷ []) (search quote depth 20) refl

  pub real_im : (a x y : Element) → a ⊠ y ≡ a ⊠ y ⊞ 𝟘 ⊠ x
  real_im a x y = algebra K (a ∷ x ∷ y ∷ []) (search quote depth 20) refl

  -- s + (p - q), where p is added first
  pub add_first : (s p q : Element) → s ⊞ p ⊟ q ≡ s ⊞ (p ⊟ q)
  add_first s p q = algebra K (s ∷ p ∷ q ∷ []) (search quote depth 20) refl

  -- a pair made of the words of place j
  pub loaded : {j : ℕ} {ws : List ℕ} {x : Pair} → PairLent 𝓕 j ws → x.re.0 ≡ get_or ws (2 * j) 0 → x.im.0 ≡ get_or ws (2 * j + 1) 0 → Stands 𝓕 (pair_at 𝓕 ws j) x
  loaded l p q = record { value = pair_path (ap el p) (ap el q); low = record { re_low = rw p l.first; im_low = rw q l.second } }
