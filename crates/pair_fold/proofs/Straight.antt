-- One line of pairs, and: the lines drawn from the inverses of T' - T are the fold over the pairs. Assumes nothing.
use mathlib.Core.Path.{◌≡◌, sym, ap, ap₂, ◌∙◌}
use mathlib.Core.List.{List, map}
use Prim.Native.Nat.{ℕ, ◌+◌, ◌<◌}
use native.Mathlib.Nat.{mul-one}
use native.Mathlib.Omega.{arith}
use lib.ListN.{length, get_or, take, drop, length-take, length-drop, length-map, get_or-map}
use lib.Seq.{ext_get_or, get_or-take, get_or-drop}
use Rattle.algebra.specs.Field.{Field}
use Rattle.algebra.specs.Lists.{row, length_row, get_or_row, Differ, differ_of}
use Rattle.algebra.specs.Words.{PrimeField}
use Rattle.algebra.specs.WordLists.{elements, length_elements, get_or_elements}
use Rattle.foldable.specs.Code.{line, fold_along}
use Rattle.foldable.specs.Level.{Level, level, length_level, get_or_level}
use Rattle.residue.specs.ResidueLaws.{stands}
use Rattle.inversion.specs.Inversion.{gap, gap_inverses}
use Rattle.inversion.specs.InversionLaws.{get_or_rows, elements_differ}
use Rattle.pairs.specs.Pair.{Pair as Of, real, add_p, sub_p, mul_p, NoRoot}
use Rattle.pairs.specs.Square.{square_field}
use Rattle.pair.specs.declared.Pair.{Pair}
use Rattle.pair.specs.PairWords.{pair_of, Stands, pair_at, pairs_of, pair_words}
use Rattle.pair.specs.PairWordLaws.{stands_at, length_pairs, get_or_pairs}
use Rattle.pair_fold.specs.Steps.{pair_line, pair_lines}
use Rattle.pair_fold.specs.Folding.{PairFoldLent, fold_pair_words}
use Rattle.pair_fold.specs.Laws.{pair_line_by}

module _ (𝓕 : PrimeField) where
  open 𝓕 use {field as F}
  open F use {ring as K}
  open K use {R as Element}

  -- one line, from what was made on the way
  pub line_stands : (a : Of Element) (t s : Element) (u v : Of Element) {gap slope real-t off r : Pair} → Stands 𝓕 (sub_p K v u) gap → Stands 𝓕 (mul_p K (real K s) (pair_of 𝓕 gap)) slope
      → Stands 𝓕 (real K t) real-t → Stands 𝓕 (sub_p K a (pair_of 𝓕 real-t)) off → Stands 𝓕 (add_p K u (mul_p K (pair_of 𝓕 off) (pair_of 𝓕 slope))) r
      → Stands 𝓕 (pair_line 𝓕 a t s u v) r
  line_stands a t s u v p q e d =
      stands_at 𝓕
      (ap₂ (λ x y. add_p K u (mul_p K x y)) (d.value ∙ ap (sub_p K a) e.value) (q.value ∙ ap (mul_p K (real K s)) p.value))

module _ (𝓕 : PrimeField) (no_root : NoRoot 𝓕.field) where
  infixl 65 ◌⊟◌
  open 𝓕 use {field as F, words as W}
  open F use {ring as K, inv}
  open K use {R as Element, ◌-◌ as ◌⊟◌, 𝟘}
  open W use {el}

  abbrev E : Field
  E = square_field F no_root

  -- words as real pairs
  abbrev reals : List ℕ → List (Of Element)
  reals t = map (real K) (elements 𝓕 t)

  length_reals : (t : List ℕ) → length (reals t) ≡ length t
  length_reals t = length-map (elements 𝓕 t) (real K) ∙ length_elements 𝓕 t

  get_or_reals : (t : List ℕ) (k : ℕ) → get_or (reals t) k (real K 𝟘) ≡ real K (el (get_or t k 0))
  get_or_reals t k = get_or-map (real K) (elements 𝓕 t) k 𝟘 ∙ ap (real K) (get_or_elements 𝓕 t k)

  module _ {t t2 w out : List ℕ} (L : PairFoldLent 𝓕 t t2 w out) (a : Of Element) where
    abbrev n : ℕ
    n = length t

    apart : (k : ℕ) → k < n → el (get_or t k 0) ≡ el (get_or t2 k 0) → ⊥
    apart k h e = elements_differ 𝓕 L.diagonals k h (rw (mul-one k) e)

    differ : Differ (reals t) (reals t2)
    differ =
        differ_of (real K 𝟘) (reals t) (reals t2)
        (λ k h l e. apart k (omega (arith, length_reals t)) (ap (λ (x : Of Element). x.re) (sym (get_or_reals t k) ∙ e ∙ get_or_reals t2 k)))

    pairs : length (pairs_of 𝓕 w) ≡ n + n
    pairs = length_pairs 𝓕 w ∙ omega (arith, L.whole)

    left : length (take n (pairs_of 𝓕 w)) ≡ n
    left = length-take n (pairs_of 𝓕 w) ∙ omega (arith, pairs)

    level_of : Level E (reals t) (reals t2) (take n (pairs_of 𝓕 w)) (drop n (pairs_of 𝓕 w))
    level_of =
        level E n (reals t) (reals t2) (take n (pairs_of 𝓕 w)) (drop n (pairs_of 𝓕 w))
        (length_reals t) (length_reals t2 ∙ L.second) left (length-drop n (pairs_of 𝓕 w) ∙ omega (arith, pairs)) differ

    at : (k : ℕ) → k < n
        → get_or (fold_along E n a (reals t) (reals t2) (pairs_of 𝓕 w)) k (real K 𝟘)
        ≡ line E a (real K (el (get_or t k 0))) (real K (el (get_or t2 k 0))) (pair_at 𝓕 w k) (pair_at 𝓕 w (n + k))
    at k h =
        let u = get_or-take n (pairs_of 𝓕 w) k (real K 𝟘) h ∙ get_or_pairs 𝓕 w k (real K 𝟘) (omega (arith, L.whole)) in
        let v = get_or-drop n (pairs_of 𝓕 w) k (real K 𝟘) ∙ get_or_pairs 𝓕 w (n + k) (real K 𝟘) (omega (arith, L.whole)) in
        get_or_level E (line E a) level_of k (omega (arith, left))
        ∙ (λ i. line E a (get_or_reals t k i) (get_or_reals t2 k i) (u i) (v i))

    -- where s begins with the inverses
    module _ (s : List ℕ) (e : take (length t) s ≡ gap_inverses 𝓕 1 (length t) t t2) where
      inverse : (k : ℕ) → k < n → el (get_or s k 0) ≡ inv (el (get_or t2 k 0) ⊟ el (get_or t k 0))
      inverse k h =
          stands 𝓕 _ (sym (get_or-take n s k 0 h) ∙ ap (λ l. get_or l k 0) e ∙ get_or_rows 𝓕 n (λ i. inv (gap 𝓕 1 t t2 i)) k h)
          ∙ ap (λ i. inv (el (get_or t2 i 0) ⊟ el (get_or t i 0))) (mul-one k)

      same : (k : ℕ) → k < n
          → get_or (row n (pair_lines 𝓕 n a t w s)) k (real K 𝟘) ≡ get_or (fold_along E n a (reals t) (reals t2) (pairs_of 𝓕 w)) k (real K 𝟘)
      same k h =
          get_or_row n (pair_lines 𝓕 n a t w s) k (real K 𝟘) h
          ∙ ap (λ x. pair_line 𝓕 a (el (get_or t k 0)) x (pair_at 𝓕 w k) (pair_at 𝓕 w (n + k))) (inverse k h)
          ∙ pair_line_by 𝓕 no_root a (el (get_or t k 0)) (el (get_or t2 k 0)) (pair_at 𝓕 w k) (pair_at 𝓕 w (n + k)) (apart k h)
          ∙ sym (at k h)

      pub drawn : pair_words 𝓕 (row (length t) (pair_lines 𝓕 (length t) a t w s)) ≡ fold_pair_words 𝓕 no_root t t2 w a
      drawn =
          ap (pair_words 𝓕)
          (ext_get_or (real K 𝟘) (row n (pair_lines 𝓕 n a t w s)) (fold_along E n a (reals t) (reals t2) (pairs_of 𝓕 w))
          (length_row n (pair_lines 𝓕 n a t w s) ∙ sym (length_level E (line E a) level_of ∙ left))
          (λ k h. same k (omega (arith, length_row n (pair_lines 𝓕 n a t w s)))))
