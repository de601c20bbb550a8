-- What the job of folding writes is the fold of the code. Assumes nothing.
use Rattle.std.specs.Prelude.{◌≡◌, List, ℕ}
use Rattle.std.proofs.Math.Path.{sym, ap}
use Rattle.algebra.specs.Words.{PrimeField}
use Rattle.algebra.specs.WordLists.{elements, to_words}
use Rattle.foldable.specs.Code as code
use Rattle.foldable.specs.Code.{Code, size, line, slope, fold_along}
use Rattle.lines.specs.Folds.{fold_words}
use Rattle.lines.specs.Steps.{line_by}

module _ (𝓕 : PrimeField) where
  infixl 65 ◌⊞◌
  infixl 65 ◌⊟◌
  infixl 70 ◌⊠◌
  open 𝓕 use {field as F, words as W}
  open F use {ring as K, inv}
  open K use {R as Element, ◌+◌ as ◌⊞◌, ◌*◌ as ◌⊠◌, ◌-◌ as ◌⊟◌}
  open W use {el}

  -- the line through (t, u) and (t', v), by the inverse of t' - t
  pub line_by_lem : (a t t' u v : Element) → line_by 𝓕 a t (inv (t' ⊟ t)) u v ≡ line F a t t' u v
  unfolding line slope
  line_by_lem a t t' u v = ap (λ x. u ⊞ (a ⊟ t) ⊠ x) (K.mul_comm (inv (t' ⊟ t)) (v ⊟ u))

  -- where a code has the lent diagonals at level i
  pub fold_words_lem : (C : Code F) (i n : ℕ) (t t2 w : List ℕ) (a : ℕ) → C.T i ≡ elements 𝓕 t → C.T' i ≡ elements 𝓕 t2 → n ≡ size F C i
      → fold_words 𝓕 n t t2 w a ≡ to_words 𝓕 (code.fold F C i (el a) (elements 𝓕 w))
  unfolding code.fold
  fold_words_lem C i n t t2 w a p q e = sym (λ k. to_words 𝓕 (fold_along F (sym e k) (el a) (p k) (q k) (elements 𝓕 w)))
