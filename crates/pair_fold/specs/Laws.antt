-- The line by the inverse is the line over the pairs, and the fold in words is the fold of the code taken into the pairs. Assumes nothing.
use Rattle.std.specs.Prelude.{◌≡◌, List, map, ℕ, length}
use Rattle.std.proofs.Math.Path.{sym, ap}
use Rattle.std.proofs.Common.{◌∙◌}
use Rattle.algebra.specs.Field.{Field, inverse_unique}
use Rattle.algebra.specs.Words.{PrimeField}
use Rattle.algebra.specs.WordLists.{elements}
use Rattle.foldable.specs.Code.{Code, size, line, slope, fold_along, fold}
use Rattle.foldable.specs.Line.{unit_difference}
use Rattle.pairs.specs.Pair.{Pair, real, add_p, sub_p, mul_p, inv_p, NoRoot, extend}
use Rattle.pairs.specs.Square.{mul_comm_p, square_field}
use Rattle.pairs.specs.Homomorphism.{difference_image}
use Rattle.pairs.specs.Extend.{real_homomorphism}
use Rattle.pair.specs.PairWords.{pairs_of, pair_words}
use Rattle.pair_fold.specs.Steps.{pair_line}
use Rattle.pair_fold.specs.Folding.{fold_pair_words}

module _ (𝓕 : PrimeField) (no_root : NoRoot 𝓕.field) where
  infixl 65 ◌⊟◌
  open 𝓕 use {field as F}
  open F use {ring as K, inv}
  open K use {R as Element, ◌-◌ as ◌⊟◌}

  -- the pairs
  abbrev E : Field
  E = square_field F no_root

  -- the inverse of a real difference is real
  real_inverse : (t t' : Element) → (t ≡ t' → ⊥) → real K (inv (t' ⊟ t)) ≡ inv_p F (sub_p K (real K t') (real K t))
  real_inverse t t' h =
      let H = real_homomorphism F no_root in
      inverse_unique E (sub_p K (real K t') (real K t)) (real K (inv (t' ⊟ t)))
      (ap (λ d. mul_p K d (real K (inv (t' ⊟ t)))) (sym (difference_image F E (real K) H t' t))
      ∙ sym (H.product (t' ⊟ t) (inv (t' ⊟ t))) ∙ ap (real K) (unit_difference F h) ∙ H.one)

  -- the line through (t, u) and (t', v), by the inverse of t' - t
  pub pair_line_by : (a : Pair Element) (t t' : Element) (u v : Pair Element) → (t ≡ t' → ⊥) → pair_line 𝓕 a t (inv (t' ⊟ t)) u v ≡ line E a (real K t) (real K t') u v
  unfolding line slope
  pair_line_by a t t' u v h =
      ap (λ x. add_p K u (mul_p K (sub_p K a (real K t)) x))
      (mul_comm_p K (real K (inv (t' ⊟ t))) (sub_p K v u) ∙ ap (mul_p K (sub_p K v u)) (real_inverse t t' h))

  -- where a code has the lent diagonals at level i
  pub fold_pair_words_lem : (C : Code F) (i : ℕ) (t t2 w : List ℕ) (a : Pair Element) → C.T i ≡ elements 𝓕 t → C.T' i ≡ elements 𝓕 t2 → length t ≡ size F C i
      → fold_pair_words 𝓕 no_root t t2 w a ≡ pair_words 𝓕 (fold E (extend F E (real K) C) i a (pairs_of 𝓕 w))
  unfolding fold
  fold_pair_words_lem C i t t2 w a p q e = sym (λ k. pair_words 𝓕 (fold_along E (sym e k) a (map (real K) (p k)) (map (real K) (q k)) (pairs_of 𝓕 w)))
