-- How often a block that is no codeword slips through folding. For any legal base matrix and diagonals: of the p^d lists of challenges at most p^d - (p-1)^d fold it into a
-- codeword of level 0, which is at most d in p of them, and none at depth 0.
--     lucky_law, lucky_law_none, lucky_law_part, lucky_sixteen
-- Assumes nothing.
use Rattle.std.specs.Prelude.{◌≡◌}
use Rattle.std.proofs.Math.Path.{refl, sym, ap, subst}
use Rattle.std.proofs.Common.{◌∙◌, arith}
use mathlib.Core.List.{List, filter_congr}
use Prim.Native.Nat.{ℕ, zero, suc, ◌+◌, ◌*◌, ◌-◌, ◌^◌, ◌≤◌}
use Rattle.std.proofs.Math.Decide.{map_dec}
use Rattle.std.proofs.Math.ListN.{length, get_or}
use Rattle.algebra.specs.Fields.{F₁}
use Rattle.algebra.specs.Words.{PrimeField, 𝔽₁}
use Rattle.algebra.specs.WordLists.{elements, to_words, elements_words, length_elements, get_or_elements}
use Rattle.foldable.specs.Code.{Code, Codeword, fold}
use Rattle.counting.specs.Challenges.{challenge_words, all_elements, challenges, folds, lucky}
use Rattle.counting.specs.Count.{count_map}
use Rattle.counting.proofs.Words.{challenges_words}
use Rattle.counting.specs.Part.{at_most_part}
use Rattle.counting.proofs.Lucky.{lucky_none}
use Rattle.counting.proofs.LuckyBound.{lucky_bound}
use Rattle.job.specs.Limits.{block_size}
use Rattle.job.specs.Sizes.{base_size}
use Rattle.base_parameters.specs.Parameters.{LegalRows}
use Rattle.base_spread.specs.LentRows.{lent_rows}
use Rattle.laws.specs.Calls.{folded_level}
use Rattle.laws.specs.CallLaws.{coding_of}
use Rattle.laws.specs.Folds.{fold_is}
use Rattle.laws.specs.Descents.{folded_down, BaseTest, lucky_lists}

module _ (𝓕 : PrimeField) where
  open 𝓕 use {modulus as P, field as F}
  open F use {ring as K}
  open K use {R}

  -- what calls leave stands for what the code's folds leave
  folded_down_lem : (n k : ℕ) (g t t' r : List ℕ) (i : ℕ) (w : List ℕ)
      → elements 𝓕 (folded_down 𝓕 n i t t' r w) ≡ folds F (lent_rows 𝓕 k n g t t') i (elements 𝓕 r) (elements 𝓕 w)
  unfolding folded_down folds
  folded_down_lem n k g t t' r zero w = refl
  folded_down_lem n k g t t' r (suc i) w =
      let C = lent_rows 𝓕 k n g t t' in
      let a = get_or r i 0 in
      folded_down_lem n k g t t' r i (folded_level 𝓕 n i t t' w a)
      ∙ ap (folds F C i (elements 𝓕 r))
      (ap (elements 𝓕) (fold_is 𝓕 i k n g t t' w a) ∙ elements_words 𝓕 _ ∙ ap (λ x. fold F C i x (elements 𝓕 w)) (sym (get_or_elements 𝓕 r i)))

  module _ (k n : ℕ) (g t t' : List ℕ) (test : BaseTest 𝓕 k n g t t') where
    abbrev C : Code F
    C = lent_rows 𝓕 k n g t t'

    -- the same test, of elements
    base? : (v : List R) → Dec (Codeword F C 0 v)
    base? v = map_dec (subst (Codeword F C 0) (elements_words 𝓕 v)) (subst (Codeword F C 0) (sym (elements_words 𝓕 v))) (test (to_words 𝓕 v))

    -- counted over words or over elements
    lists_elements : (d : ℕ) (w : List ℕ) → lucky_lists 𝓕 d k n g t t' test w ≡ lucky F C base? d (elements 𝓕 w) (challenges 𝓕 d)
    unfolding lucky_lists lucky
    lists_elements d w =
        let down : (r : List ℕ) → elements 𝓕 (folded_down 𝓕 n d t t' r w) ≡ folds F C d (elements 𝓕 r) (elements 𝓕 w) = λ r. folded_down_lem n k g t t' r d w in
        ap length (filter_congr (λ r. test (folded_down 𝓕 n d t t' r w)) (λ r. base? (folds F C d (elements 𝓕 r) (elements 𝓕 w))) (challenge_words P d)
        (λ r m. (subst (Codeword F C 0) (down r), subst (Codeword F C 0) (sym (down r)))))
        ∙ sym (count_map (λ v. base? (folds F C d v (elements 𝓕 w))) (elements 𝓕) (challenge_words P d))
        ∙ ap (lucky F C base? d (elements 𝓕 w)) (sym (challenges_words 𝓕 d))

    -- at depth 0 no list
    pub lucky_law_none : (w : List ℕ) → (Codeword F (lent_rows 𝓕 k n g t t') 0 (elements 𝓕 w) → ⊥) → lucky_lists 𝓕 0 k n g t t' test w ≡ 0
    lucky_law_none w no_codeword = lists_elements 0 w ∙ lucky_none F C base? (all_elements 𝓕) (elements 𝓕 w) no_codeword

  module _ {d c k : ℕ} {g t t' : List ℕ} (𝓡 : LegalRows 𝓕 d c k g t t') (test : BaseTest 𝓕 k (base_size c k) g t t') where
    lucky_few : (w : List ℕ) → length w ≡ block_size (base_size c k) d → (Codeword F (lent_rows 𝓕 k (base_size c k) g t t') d (elements 𝓕 w) → ⊥)
        → lucky_lists 𝓕 d k (base_size c k) g t t' test w + (P - 1) ^ d ≤ P ^ d
    lucky_few w e no_codeword =
        let n = base_size c k in
        omega (
          arith,
          lists_elements k n g t t' test d w,
          lucky_bound 𝓕 (lent_rows 𝓕 k n g t t') (base? k n g t t' test) d (coding_of 𝓕 𝓡).legal (elements 𝓕 w) (length_elements 𝓕 w ∙ e) no_codeword,
        )

    -- of the p^d lists of challenges at most p^d - (p-1)^d
    pub lucky_law : (w : List ℕ) → length w ≡ block_size (base_size c k) d → (Codeword F (lent_rows 𝓕 k (base_size c k) g t t') d (elements 𝓕 w) → ⊥)
        → lucky_lists 𝓕 d k (base_size c k) g t t' test w ≤ P ^ d - (P - 1) ^ d
    lucky_law w e no_codeword = omega (arith, lucky_few w e no_codeword)

    -- that is at most d in p of them
    pub lucky_law_part : (w : List ℕ) → length w ≡ block_size (base_size c k) d → (Codeword F (lent_rows 𝓕 k (base_size c k) g t t') d (elements 𝓕 w) → ⊥)
        → lucky_lists 𝓕 d k (base_size c k) g t t' test w * P ≤ d * P ^ d
    lucky_law_part w e no_codeword = at_most_part (lucky_lists 𝓕 d k (base_size c k) g t t' test w) P d (lucky_few w e no_codeword)

-- at depth 16 over the first field: at most 16 in 2147483647
pub lucky_sixteen : {c k : ℕ} {g t t' : List ℕ} → LegalRows 𝔽₁ 16 c k g t t' → (test : BaseTest 𝔽₁ k (base_size c k) g t t') (w : List ℕ) → length w ≡ block_size (base_size c k) 16
    → (Codeword F₁ (lent_rows 𝔽₁ k (base_size c k) g t t') 16 (elements 𝔽₁ w) → ⊥) → lucky_lists 𝔽₁ 16 k (base_size c k) g t t' test w * 2147483647 ≤ 16 * 2147483647 ^ 16
lucky_sixteen 𝓡 test w e no_codeword = lucky_law_part 𝔽₁ 𝓡 test w e no_codeword
