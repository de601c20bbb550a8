-- For any legal base matrix and diagonals: a fold of a codeword is the codeword of left + challenge * right, and for two different challenges a block is
-- a codeword exactly when both folds are. Assumes nothing.
use Rattle.std.specs.Prelude.{◌≡◌, ◌↔◌, List, ℕ, suc, ◌*◌, ◌^◌, ◌<◌, ◌≤◌, length, take, drop}
use Rattle.std.proofs.Math.Path.{refl}
use Rattle.std.proofs.Common.{sym, ap, ap₂, ◌∙◌, arith}
use Rattle.algebra.specs.Vector.{vectors}
use Rattle.algebra.specs.Words.{PrimeField}
use Rattle.algebra.specs.WordLists.{elements, to_words, elements_words, elements_take, elements_drop, length_elements}
use Rattle.foldable.specs.Code.{dim, encode, fold, Codeword}
use Rattle.foldable.specs.Fold.{fold_split, two_challenges}
use Rattle.foldable.specs.Prefix.{encode_prefix, codeword_prefix}
use Rattle.job.specs.Limits.{block_size, diagonals_size}
use Rattle.job.specs.Sizes.{base_size, message_size}
use Rattle.parameters.specs.Lent.{diagonal}
use Rattle.parameters.specs.LentLaws.{diagonals_mono}
use Rattle.base_parameters.specs.Parameters.{LegalRows}
use Rattle.base_spread.specs.LentRows.{lent_rows, codeword_rows, RowCoding}
use Rattle.laws.specs.Calls.{levels_below, folded_level, mixed}
use Rattle.laws.specs.CallLaws.{coding_of, rows_of, diagonal_below}

module _ (𝓕 : PrimeField) where
  infixl 66 ◌⊕◌
  infixr 71 ◌⊛◌
  open 𝓕 use {modulus as P, field as F, words as W}
  open F use {ring as K}
  open W use {el, val as word}
  open vectors K use {◌⊕◌, ◌⊛◌}

  -- over any base rows a fold is that of the code
  pub fold_is : (i k n : ℕ) (g t t' w : List ℕ) (a : ℕ) → folded_level 𝓕 n i t t' w a ≡ to_words 𝓕 (fold F (lent_rows 𝓕 k n g t t') i (el a) (elements 𝓕 w))
  unfolding fold
  fold_is i k n g t t' w a = refl

  module _ (i c k : ℕ) (g t t' : List ℕ) (𝓡 : LegalRows 𝓕 (suc i) c k g t t') where
    -- the words of a base block
    abbrev n : ℕ
    n = base_size c k

    coded : RowCoding 𝓕 (suc i) k n g t t'
    coded = coding_of 𝓕 𝓡

    -- the diagonals that a call of depth i is lent
    below : (s : List ℕ) → diagonals_size n (suc i) ≤ length s → (j : ℕ) → j < i → elements 𝓕 (diagonal n s j) ≡ elements 𝓕 (diagonal n (levels_below n i s) j)
    below s h j l = ap (elements 𝓕) (sym (diagonal_below n i j s l (omega (arith, diagonals_mono n i (suc i) (omega arith)))))

    -- a fold of a codeword is the codeword of left + challenge * right
    pub fold_law : (m : List ℕ) (a : ℕ) → length m ≡ message_size (suc i) k
        → folded_level 𝓕 (base_size c k) i t t' (codeword_rows 𝓕 (suc i) k (base_size c k) g t t' m) a
        ≡ codeword_rows 𝓕 i k (base_size c k) g (levels_below (base_size c k) i t) (levels_below (base_size c k) i t') (mixed 𝓕 (message_size i k) a m)
    fold_law m a e =
        let C = lent_rows 𝓕 k n g t t' in
        let half : dim F C i ≡ message_size i k = ap (λ b. b * 2 ^ i) (rows_of 𝓕 𝓡) in
        fold_is i k n g t t' (codeword_rows 𝓕 (suc i) k n g t t' m) a
        ∙ ap (λ w. to_words 𝓕 (fold F C i (el a) w)) (elements_words 𝓕 _)
        ∙ ap (to_words 𝓕)
        (fold_split F C i coded.legal (el a) (elements 𝓕 m) (length_elements 𝓕 m ∙ e ∙ sym (ap (λ b. b * 2 ^ suc i) (rows_of 𝓕 𝓡)))
        ∙ ap (λ n. encode F C i (take n (elements 𝓕 m) ⊕ el a ⊛ drop n (elements 𝓕 m))) half
        ∙ ap₂ (λ u v. encode F C i (u ⊕ el a ⊛ v)) (sym (elements_take 𝓕 (message_size i k) m)) (sym (elements_drop 𝓕 (message_size i k) m))
        ∙ ap (encode F C i) (sym (elements_words 𝓕 _))
        ∙ encode_prefix F _ _ _ _ _ _ i (below t coded.first) (below t' coded.second) (elements 𝓕 (mixed 𝓕 (message_size i k) a m)))

    -- whether a block of level i is a codeword, by a call of depth i
    abbrev Below : List ℕ → Type 0
    Below w = Codeword F (lent_rows 𝓕 k (base_size c k) g (levels_below (base_size c k) i t) (levels_below (base_size c k) i t')) i (elements 𝓕 w)

    -- for two different challenges a block is a codeword exactly when both folds are
    pub two_challenge_law : (w : List ℕ) (a b : ℕ) → length w ≡ block_size (base_size c k) (suc i) → a < P → b < P → (a ≡ b → ⊥)
        → Codeword F (lent_rows 𝓕 k (base_size c k) g t t') (suc i) (elements 𝓕 w) ↔ (Below (folded_level 𝓕 (base_size c k) i t t' w a) × Below (folded_level 𝓕 (base_size c k) i t t' w b))
    two_challenge_law w a b e la lb x =
        let C = lent_rows 𝓕 k n g t t' in
        let apart : el a ≡ el b → ⊥ = λ q. x (sym (𝓕.words.val_el a la) ∙ ap word q ∙ 𝓕.words.val_el b lb) in
        let two = two_challenges F C i coded.legal (el a) (el b) apart (elements 𝓕 w) (length_elements 𝓕 w ∙ e) in
        let words : (x : ℕ) → elements 𝓕 (folded_level 𝓕 n i t t' w x) ≡ fold F C i (el x) (elements 𝓕 w) = λ x. ap (elements 𝓕) (fold_is i k n g t t' w x) ∙ elements_words 𝓕 _ in
        let p = below t coded.first in
        let q = below t' coded.second in (
          λ h. let both = two.0 h in (rw (words a) (codeword_prefix F _ _ _ _ _ _ i p q both.0), rw (words b) (codeword_prefix F _ _ _ _ _ _ i p q both.1)),
          λ h. two.1 (codeword_prefix F _ _ _ _ _ _ i (λ j l. sym (p j l)) (λ j l. sym (q j l)) (rw (words a) at h.0), codeword_prefix F _ _ _ _ _ _ i (λ j l. sym (p j l)) (λ j l. sym (q j l)) (rw (words b) at h.1)),
        )
