-- The lines drawn from the inverses of T' - T are the fold. Assumes nothing.
use mathlib.Core.Path.{◌≡◌, sym, ap, ap₂, ◌∙◌}
use mathlib.Core.List.{List}
use Prim.Native.Nat.{ℕ, ◌+◌, ◌<◌}
use native.Mathlib.Nat.{mul-one}
use native.Mathlib.Omega.{arith}
use lib.ListN.{length, get_or, take, drop, length-take, length-drop}
use lib.Seq.{ext_get_or, get_or-take, get_or-drop}
use Rattle.algebra.specs.Lists.{row, length_row, get_or_row, Differ, differ_of}
use Rattle.algebra.specs.Words.{PrimeField}
use Rattle.algebra.specs.WordLists.{elements, to_words, length_elements, length_words_lem, get_or_elements}
use Rattle.foldable.specs.Code.{line, fold_along}
use Rattle.foldable.specs.Level.{Level, level, length_level, get_or_level}
use Rattle.residue.specs.ResidueLaws.{stands}
use Rattle.residue.specs.declared.Field.{Field as Choice}
use Rattle.residue.specs.Chosen.{chosen}
use Rattle.inversion.specs.Inversion.{gap, Diagonals}
use Rattle.inversion.specs.InversionLaws.{elements_differ}
use Rattle.inversion.specs.Scaled.{ScaledInverses}
use Rattle.lines.specs.Folds.{fold_words}
use Rattle.lines.specs.Steps.{line_by, unscaled, lines_by}
use Rattle.lines.specs.Laws.{line_by_lem}
use Rattle.lines.proofs.Loose.{unscaled_is}

module _ (𝓕 : PrimeField) where
  infixl 65 ◌⊞◌
  infixl 65 ◌⊟◌
  infixl 70 ◌⊠◌
  open 𝓕 use {field as F, words as W}
  open F use {ring as K, inv}
  open K use {R as Element, ◌+◌ as ◌⊞◌, ◌*◌ as ◌⊠◌, ◌-◌ as ◌⊟◌}
  open W use {el, val as word}

  -- one place of a line, from its words
  pub line_word : (a t s u v : ℕ) {d b m r : ℕ} → d ≡ word (el a ⊟ el t) → b ≡ word (el v ⊟ el u) → m ≡ word (el s ⊠ el b) → r ≡ word (el u ⊞ el d ⊠ el m)
      → r ≡ word (line_by 𝓕 (el a) (el t) (el s) (el u) (el v))
  line_word a t s u v p q m e = e ∙ ap₂ (λ x y. word (el u ⊞ x ⊠ y)) (stands 𝓕 _ p) (stands 𝓕 _ m ∙ ap (λ y. el s ⊠ y) (stands 𝓕 _ q))

  module _ {n : ℕ} {t t2 : List ℕ} (D : Diagonals 𝓕 1 n t t2) (first : length t ≡ n) (second : length t2 ≡ n) (w : List ℕ) (sized : length w ≡ n + n) (a : ℕ) where
    words_differ : (k : ℕ) → k < n → el (get_or t k 0) ≡ el (get_or t2 k 0) → ⊥
    words_differ k h e = elements_differ 𝓕 D k h (rw (mul-one k) e)

    apart : Differ (elements 𝓕 t) (elements 𝓕 t2)
    apart =
        differ_of K.𝟘 (elements 𝓕 t) (elements 𝓕 t2)
        (λ k h l e. words_differ k (omega (arith, length_elements 𝓕 t, first)) (sym (get_or_elements 𝓕 t k) ∙ e ∙ get_or_elements 𝓕 t2 k))

    left : length (take n (elements 𝓕 w)) ≡ n
    left = simp length-take (omega (arith, length_elements 𝓕 w))

    level_of : Level F (elements 𝓕 t) (elements 𝓕 t2) (take n (elements 𝓕 w)) (drop n (elements 𝓕 w))
    level_of =
        level F n (elements 𝓕 t) (elements 𝓕 t2) (take n (elements 𝓕 w)) (drop n (elements 𝓕 w))
        (length_elements 𝓕 t ∙ first) (length_elements 𝓕 t2 ∙ second) left (simp length-drop (omega (arith, length_elements 𝓕 w))) apart

    pub length_fold_words : length (fold_words 𝓕 n t t2 w a) ≡ n
    length_fold_words = length_words_lem 𝓕 _ ∙ length_level F (line F (el a)) level_of ∙ left

    at : (k : ℕ) → k < n
        → get_or (fold_along F n (el a) (elements 𝓕 t) (elements 𝓕 t2) (elements 𝓕 w)) k K.𝟘
        ≡ line F (el a) (el (get_or t k 0)) (el (get_or t2 k 0)) (el (get_or w k 0)) (el (get_or w (n + k) 0))
    at k h =
        let u = get_or-take n (elements 𝓕 w) k K.𝟘 h ∙ get_or_elements 𝓕 w k in
        let v = get_or-drop n (elements 𝓕 w) k K.𝟘 ∙ get_or_elements 𝓕 w (n + k) in
        get_or_level F (line F (el a)) level_of k (omega (arith, left))
        ∙ (λ i. line F (el a) (get_or_elements 𝓕 t k i) (get_or_elements 𝓕 t2 k i) (u i) (v i))

    drawn_by : (q : ℕ → Element) → ((k : ℕ) → k < n → q k ≡ inv (gap 𝓕 1 t t2 k))
        → to_words 𝓕 (row n (λ j. line_by 𝓕 (el a) (el (get_or t j 0)) (q j) (el (get_or w j 0)) (el (get_or w (n + j) 0)))) ≡ fold_words 𝓕 n t t2 w a
    drawn_by q e =
        ap (to_words 𝓕)
        (ext_get_or K.𝟘 (row n lines) (fold_along F n (el a) (elements 𝓕 t) (elements 𝓕 t2) (elements 𝓕 w))
        (length_row n lines ∙ sym (length_level F (line F (el a)) level_of ∙ left))
        (λ k h. same k (omega (arith, length_row n lines))))
      where
        lines : ℕ → Element
        lines j = line_by 𝓕 (el a) (el (get_or t j 0)) (q j) (el (get_or w j 0)) (el (get_or w (n + j) 0))

        inverse : (k : ℕ) → k < n → q k ≡ inv (el (get_or t2 k 0) ⊟ el (get_or t k 0))
        inverse k h = e k h ∙ ap (λ i. inv (el (get_or t2 i 0) ⊟ el (get_or t i 0))) (mul-one k)

        same : (k : ℕ) → k < n → get_or (row n lines) k K.𝟘 ≡ get_or (fold_along F n (el a) (elements 𝓕 t) (elements 𝓕 t2) (elements 𝓕 w)) k K.𝟘
        same k h =
            get_or_row n lines k K.𝟘 h
            ∙ ap (λ x. el (get_or w k 0) ⊞ (el a ⊟ el (get_or t k 0)) ⊠ (x ⊠ (el (get_or w (n + k) 0) ⊟ el (get_or w k 0)))) (inverse k h)
            ∙ line_by_lem 𝓕 (el a) (el (get_or t k 0)) (el (get_or t2 k 0)) (el (get_or w k 0)) (el (get_or w (n + k) 0))
            ∙ sym (at k h)

-- and so are those from loose words
pub drawn : (f : Choice) {n : ℕ} {t t2 : List ℕ} → Diagonals (chosen f) 1 n t t2 → length t ≡ n → length t2 ≡ n → (w : List ℕ) → length w ≡ n + n → (a : ℕ) (s : List ℕ)
    → ScaledInverses f n t t2 s → to_words (chosen f) (row n (lines_by f n ((chosen f).words.el a) t w s)) ≡ fold_words (chosen f) n t t2 w a
drawn f D first second w sized a s S =
    drawn_by (chosen f) D first second w sized a (λ k. unscaled f (get_or s k 0)) (λ k h. unscaled_is f (get_or s k 0) _ (S.stand k h))
