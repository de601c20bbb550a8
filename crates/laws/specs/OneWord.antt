-- With one word a base message the definitions that the contracts cite are those of one base row g: the code, the opening and the checks; and the verifier compares v * eq(z, r) with the last claim and
-- block 0 with v * g[j].
--     code_one, codeword_one, opening_one, checks_one; AcceptsOne, accepts_one
-- Assumes nothing.
use Rattle.std.specs.Prelude.{◌≡◌, refl, ◌↔◌, List, [], ◌∷◌, ◌++◌, ℕ, suc, ◌+◌, ◌*◌, ◌<◌, ◌≤◌, length, get_or, take}
use Rattle.std.proofs.Common.{sym, ap, ◌∙◌, mul-one, zero-mul, arith, drop-cons}
use Rattle.std.proofs.Math.Path.{ap₂}
use Rattle.std.proofs.Math.Nat.{zero-add}
use Rattle.algebra.specs.Ring.{zero-add as zero-plus}
use Rattle.algebra.specs.Sums as sums
use Rattle.algebra.specs.Words.{PrimeField}
use Rattle.algebra.specs.WordLists.{elements, to_words, length_elements}
use Rattle.foldable.specs.Code.{Code, one_row, encode, line}
use Rattle.multilinear.specs.Corners.{over_corners, eq}
use Rattle.multilinear.specs.Plain.{final_sum_plain}
use Rattle.multilinear.specs.Polynomial.{poly}
use Rattle.multilinear.specs.Rounds.{final_sum}
use Rattle.basefold.specs.Layout.{final_at, block_of}
use Rattle.basefold.specs.Checks.{checks}
use Rattle.basefold.specs.Equations.{place_at}
use Rattle.basefold.specs.Written.{opening}
use Rattle.job.specs.Limits.{block_size}
use Rattle.job.specs.Sizes.{base_size, low}
use Rattle.parameters.specs.Lent.{diagonal}
use Rattle.cofactor.specs.Rows.{rows}
use Rattle.base_spread.specs.LentRows.{lent_rows, codeword_rows}
use Rattle.base_spread.specs.LentRowLaws.{rows_one}
use Rattle.open.specs.Writing.{opening_words}
use Rattle.laws.specs.Equations.{final_words, sent_element, final_element, block_element, claimed, Accepts}

-- no variable stays inside a base message
pub low_one : low 1 ≡ 0
unfolding low
low_one = refl

-- a base block has as many words as the rate says
base_one : (c : ℕ) → base_size c 1 ≡ c
base_one c = mul-one c

module _ (𝓕 : PrimeField) where
  infixl 65 ◌⊞◌
  infixl 70 ◌⊠◌
  open 𝓕 use {field as F, words as W}
  open F use {ring as K}
  open K use {R as Element, ◌+◌ as ◌⊞◌, ◌*◌ as ◌⊠◌}
  open W use {el}

  -- the code of one base row, whose length is the rate
  abbrev pub row_code : ℕ → List ℕ → List ℕ → List ℕ → Code F
  row_code c g t t' = one_row F (elements 𝓕 g) (λ i. elements 𝓕 (diagonal c t i)) (λ i. elements 𝓕 (diagonal c t' i))

  module _ (c : ℕ) (g t t' : List ℕ) (e : length g ≡ c) where
    pub code_one : lent_rows 𝓕 1 (base_size c 1) g t t' ≡ row_code c g t t'
    code_one =
        let n : base_size c 1 ≡ length (elements 𝓕 g) = base_one c ∙ sym e ∙ sym (length_elements 𝓕 g) in
        let row : rows 𝓕 1 (base_size c 1) g ≡ elements 𝓕 g ∷ [] = ap (λ n. rows 𝓕 1 n g) (base_one c ∙ sym e) ∙ rows_one 𝓕 g in
        λ j. record { n₀ = n j; G₀ = row j; T = λ i. elements 𝓕 (diagonal (base_one c j) t i); T' = λ i. elements 𝓕 (diagonal (base_one c j) t' i) }

    pub codeword_one : (d : ℕ) (m : List ℕ) → codeword_rows 𝓕 d 1 (base_size c 1) g t t' m ≡ to_words 𝓕 (encode F (row_code c g t t') d (elements 𝓕 m))
    codeword_one d m = ap (λ C. to_words 𝓕 (encode F C d (elements 𝓕 m))) code_one

    pub opening_one : (m z r : List ℕ) → opening_words 𝓕 c 1 g t t' m z r ≡ to_words 𝓕 (opening F 0 (row_code c g t t') (elements 𝓕 m) (elements 𝓕 z) (elements 𝓕 r))
    opening_one m z r = ap₂ (λ l C. to_words 𝓕 (opening F l C (elements 𝓕 m) (elements 𝓕 z) (elements 𝓕 r))) low_one code_one

    pub checks_one : (w z : List Element) (y : Element) (r : List Element) (us : List ℕ) (o : List Element)
        → checks F (low 1) (lent_rows 𝓕 1 (base_size c 1) g t t') w z y r us o ≡ checks F 0 (row_code c g t t') w z y r us o
    checks_one w z y r us o = ap₂ (λ l C. checks F l C w z y r us o) low_one code_one

  -- v, the one word of an opening behind its rounds, and word u of the block of level i
  abbrev pub value_element : ℕ → List ℕ → Element
  value_element d o = el (get_or o (final_at d) 0)

  abbrev pub block_word : (d c : ℕ) → (w o : List ℕ) → ℕ → ℕ → Element
  block_word d c w o i u = el (get_or (block_of c 0 d w o i) u 0)

  -- the equations of one word a base message
  pub record AcceptsOne (d c : ℕ) (g t t' w z : List ℕ) (y : ℕ) (r us o : List ℕ) : Type 0 where
    -- sum i: h_i(0) + h_i(1) is claim i
    pub sum : (i : ℕ) → 1 ≤ i → i ≤ d → sent_element 𝓕 d o i 0 ⊞ sent_element 𝓕 d o i 1 ≡ claimed 𝓕 d y r o i
    -- final: v * eq(z, r) is claim 0
    pub final : value_element d o ⊠ eq K (elements 𝓕 z) (elements 𝓕 r) ≡ claimed 𝓕 d y r o 0
    -- base j: block 0 holds v * g[j]
    pub base : (j : ℕ) → j < c → block_word d c w o 0 j ≡ value_element d o ⊠ el (get_or g j 0)
    -- fold, query q, level i, at the query's place u
    pub fold : (q i u : ℕ) → q < length us → i < d → u ≡ place_at c (get_or us q 0) i
        → line F (el (get_or r i 0)) (el (get_or (diagonal c t i) u 0)) (el (get_or (diagonal c t' i) u 0)) (block_word d c w o (suc i) u) (block_word d c w o (suc i) (u + block_size c i))
        ≡ block_word d c w o i u

  module _ (d c : ℕ) (g t t' w z : List ℕ) (y : ℕ) (r us o : List ℕ) (long : final_at d < length o) where
    value_is : final_words d 1 o ≡ get_or o (final_at d) 0 ∷ []
    value_is = ap (take 1) (drop-cons o (final_at d) 0 long)

    final_is : over_corners K (low 1) (λ x. poly K (elements 𝓕 (final_words d 1 o)) x ⊠ eq K (elements 𝓕 z) (x ++ elements 𝓕 r)) ≡ value_element d o ⊠ eq K (elements 𝓕 z) (elements 𝓕 r)
    unfolding final_sum elements
    final_is = ap₂ (λ l v. final_sum K l (elements 𝓕 v) (elements 𝓕 z) (elements 𝓕 r)) low_one value_is ∙ final_sum_plain K (value_element d o) (elements 𝓕 z) (elements 𝓕 r)

    base_is : (j : ℕ) → sums.sum K 1 (λ b. final_element 𝓕 d 1 o b ⊠ el (get_or g (b * base_size c 1 + j) 0)) ≡ value_element d o ⊠ el (get_or g j 0)
    unfolding sums.sum
    base_is j =
        zero-plus K (final_element 𝓕 d 1 o 0 ⊠ el (get_or g (0 * base_size c 1 + j) 0))
        ∙ ap₂ (λ v n. el (get_or v 0 0) ⊠ el (get_or g n 0)) value_is (ap (λ n. n + j) (zero-mul (base_size c 1)) ∙ zero-add j)

    block_is : (i u : ℕ) → block_element 𝓕 d c 1 w o i u ≡ block_word d c w o i u
    block_is i u = ap₂ (λ n l. el (get_or (block_of n l d w o i) u 0)) (base_one c) low_one

    line_is : (i u : ℕ) → line F (el (get_or r i 0)) (el (get_or (diagonal (base_size c 1) t i) u 0)) (el (get_or (diagonal (base_size c 1) t' i) u 0)) (block_element 𝓕 d c 1 w o (suc i) u)
        (block_element 𝓕 d c 1 w o (suc i) (u + block_size (base_size c 1) i))
        ≡ line F (el (get_or r i 0)) (el (get_or (diagonal c t i) u 0)) (el (get_or (diagonal c t' i) u 0)) (block_word d c w o (suc i) u) (block_word d c w o (suc i) (u + block_size c i))
    line_is i u =
        ap₂ (λ n l. line F (el (get_or r i 0)) (el (get_or (diagonal n t i) u 0)) (el (get_or (diagonal n t' i) u 0)) (el (get_or (block_of n l d w o (suc i)) u 0)) (el (get_or (block_of n l d w o (suc i)) (u + block_size n i) 0)))
        (base_one c) low_one

    -- what the verifier compares at k0 = 1
    pub accepts_one : Accepts 𝓕 d c 1 g t t' w z y r us o ↔ AcceptsOne d c g t t' w z y r us o
    accepts_one = (
      λ a. record {
        sum = a.sum;
        final = sym final_is ∙ a.final;
        base = λ j l. sym (block_is 0 j) ∙ a.base j (omega (arith, base_one c)) ∙ base_is j;
        fold = λ q i u l m p. sym (line_is i u) ∙ a.fold q i u l m (p ∙ ap (λ n. place_at n (get_or us q 0) i) (sym (base_one c))) ∙ block_is i u;
      },
      λ a. record {
        sum = a.sum;
        final = final_is ∙ a.final;
        base = λ j l. block_is 0 j ∙ a.base j (omega (arith, base_one c)) ∙ sym (base_is j);
        fold = λ q i u l m p. line_is i u ∙ a.fold q i u l m (p ∙ ap (λ n. place_at n (get_or us q 0) i) (base_one c)) ∙ sym (block_is i u);
      },
    )
