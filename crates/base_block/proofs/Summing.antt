-- A base message times the base matrix, row by row. Assumes nothing.
use mathlib.Core.Path.{◌≡◌, refl, sym, ap, ap₂, ◌∙◌}
use mathlib.Core.List.{List, [], ◌∷◌}
use Prim.Native.Nat.{ℕ, zero, suc, ◌+◌, ◌*◌, ◌-◌, ◌<◌, ◌≤◌}
use native.Mathlib.Nat.{zero-mul, one-mul}
use native.Mathlib.Numerals.{add-one}
use native.Mathlib.Omega.{arith}
use lib.ListN.{length, get_or, take, drop, length-take, length-drop, length-map}
use lib.Seq.{take_all}
use Rattle.algebra.specs.Ring.{Ring}
use Rattle.algebra.specs.Lists.{get_or_row}
use Rattle.algebra.specs.Vector.{vectors, sum_assoc, sum_zeros, zeros_sum}
use Rattle.algebra.specs.Matrix.{Wide, times, length_times}
use Rattle.algebra.specs.Words.{PrimeField}
use Rattle.algebra.specs.WordLists.{Low, low_take, low_drop, elements, to_words, length_elements, length_words_lem, elements_words, get_or_elements}
use Rattle.code.specs.Steps.{times as times_row}
use Rattle.cofactor.specs.Rows.{rows}
use Rattle.job.specs.Sizes.{Size, one, two, four}
use Rattle.job.specs.SizeLaws.{size_least}
use Rattle.cofactor.specs.RowLaws.{row_within, rows_count, rows_wide}
use Rattle.row_sums.specs.Sums.{added_scaled, two_scaled, four_scaled, TwoLent, FourLent}
use Rattle.base_block.specs.Blocks.{BlockLent, block_of}

module _ (K : Ring) where
  infixl 66 ◌⊕◌
  infixr 71 ◌⊛◌
  open K use {R, 𝟘}
  open vectors K use {◌⊕◌, ◌⊛◌}

  -- with one word more, one row more is added
  times_next : (n j : ℕ) (m : List R) (G : List (List R)) → j < length m → j < length G → Wide n G → times K n (take (suc j) m) G ≡ times K n (take j m) G ⊕ get_or m j 𝟘 ⊛ get_or G j []
  unfolding times
  times_next n j [] G h l w = absurd (omega arith)
  times_next n j (x ∷ m) [] h l w = absurd (omega arith)
  times_next n zero (x ∷ m) (r ∷ G) h l w =
      let e = length-map r (K.◌*◌ x) ∙ w.0 in sum_zeros K n (x ⊛ r) e ∙ sym (zeros_sum K n (x ⊛ r) e)
  times_next n (suc j) (x ∷ m) (r ∷ G) h l w =
      ap (λ v. x ⊛ r ⊕ v) (times_next n j m G (omega arith) (omega arith) w.1) ∙ sym (sum_assoc K (x ⊛ r) (times K n (take j m) G) (get_or m j 𝟘 ⊛ get_or G j []))

module _ (𝓕 : PrimeField) where
  infixl 66 ◌⊕◌
  infixr 71 ◌⊛◌
  open 𝓕 use {modulus as P, field as F, words as W}
  open F use {ring as K}
  open K use {𝟘}
  open W use {el}
  open vectors K use {◌⊕◌, ◌⊛◌, zeros}

  -- what a loop knows of out before turn j: the first j words times their rows
  pub record Summed (j n : ℕ) (g m out : List ℕ) : Type 0 where
    pub is : out ≡ to_words 𝓕 (times K n (take j (elements 𝓕 m)) (rows 𝓕 (length m) n g))

  module _ (n : ℕ) (g m old : List ℕ) (𝓑 : BlockLent 𝓕 n g m old) where
    abbrev G : List (List K.R)
    G = rows 𝓕 (length m) n g

    long : length m * n ≤ length g
    long = omega (arith, 𝓑.lent.long)

    -- row j ends within g
    pub within : (j b : ℕ) → j < length m → b ≡ j * n → b + n ≤ length g
    within j b h p = omega (arith, row_within (length m) n j h, long)

    pub some : 0 < length m
    some = size_least 𝓑.lent.size

    pub first_row : n ≤ length g
    first_row = omega (arith, within 0 0 some (sym (zero-mul n)))

    pub first_length : length (take n g) ≡ n
    first_length = length-take n g ∙ omega (arith, first_row)

    abbrev part : ℕ → ℕ → List ℕ
    part b e = take (e - b) (drop b g)

    row_at : (j : ℕ) → j < length m → get_or G j [] ≡ elements 𝓕 (take n (drop (j * n) g))
    unfolding rows
    row_at j h = get_or_row (length m) _ j [] h

    next : (j : ℕ) → j < length m → times K n (take (suc j) (elements 𝓕 m)) G ≡ times K n (take j (elements 𝓕 m)) G ⊕ el (get_or m j 0) ⊛ elements 𝓕 (take n (drop (j * n) g))
    next j h =
        times_next K n j (elements 𝓕 m) G (omega (arith, length_elements 𝓕 m)) (omega (arith, rows_count 𝓕 (length m) n g 𝓑.lent.few long)) (rows_wide 𝓕 (length m) n g 𝓑.lent.few long)
        ∙ ap₂ (λ x r. times K n (take j (elements 𝓕 m)) G ⊕ x ⊛ r) (get_or_elements 𝓕 m j) (row_at j h)

    pub summed_length : {j : ℕ} {out : List ℕ} → Summed j n g m out → length out ≡ n
    summed_length s = ap length s.is ∙ length_words_lem 𝓕 _ ∙ length_times K n _ G (rows_wide 𝓕 (length m) n g 𝓑.lent.few long)

    pub summed_first : {a : ℕ} (r : List ℕ) → a ≡ get_or m 0 0 → r ≡ to_words 𝓕 (times_row 𝓕 (el a) (elements 𝓕 (take n g))) → Summed 1 n g m r
    unfolding times
    summed_first {a} r p q =
        let v : List K.R = el (get_or m 0 0) ⊛ elements 𝓕 (take n (drop (0 * n) g)) in
        let same : take n (drop (0 * n) g) ≡ take n g = ap (λ k. take n (drop k g)) (zero-mul n) in
        let sized : length v ≡ n = length-map (elements 𝓕 (take n (drop (0 * n) g))) _ ∙ length_elements 𝓕 _ ∙ ap length same ∙ first_length in
        record { is = q ∙ ap (to_words 𝓕) (ap₂ (λ x s. el x ⊛ elements 𝓕 s) p (sym same) ∙ sym (zeros_sum K n v sized) ∙ sym (next 0 some)) }

    -- word j and the row that it takes
    module _ (j b e : ℕ) (h : j < length m) (p : b ≡ j * n) (q : e ≡ b + n) where
      part_length : length (part b e) ≡ n
      part_length = length-take (e - b) (drop b g) ∙ omega (arith, length-drop b g, within j b h p)

      factor_low : {a : ℕ} → a ≡ get_or m j 0 → a < P
      factor_low f = rw f (𝓑.low.low j h)

      pub summed_turn : {a : ℕ} {out : List ℕ} (r : List ℕ) → a ≡ get_or m j 0 → Summed j n g m out → r ≡ added_scaled 𝓕 a (part b e) out → Summed (j + 1) n g m r
      unfolding added_scaled
      summed_turn {a} {out} r f s t =
          let n-is : e - b ≡ n = omega arith in
          let row_is : part b e ≡ take n (drop (j * n) g) = ap₂ (λ c k. take c (drop k g)) n-is p in
          record {
            is =
                t
                ∙ (λ i. to_words 𝓕 ((ap (elements 𝓕) s.is ∙ elements_words 𝓕 _) i ⊕ el (f i) ⊛ elements 𝓕 (row_is i)))
                ∙ ap (to_words 𝓕) (sym (next j h) ∙ ap (λ k. times K n (take k (elements 𝓕 m)) G) (sym (add-one j)));
          }

    pub summed_end : {j : ℕ} {out : List ℕ} → length m ≤ j → Summed j n g m out → out ≡ block_of 𝓕 n g m
    unfolding block_of
    summed_end {j} {out} h s = s.is ∙ ap (λ v. to_words 𝓕 (times K n v G)) (take_all j (elements 𝓕 m) (omega (arith, length_elements 𝓕 m)))

    part_low : (b e : ℕ) → Low P (part b e)
    part_low b e = low_take (e - b) (low_drop b 𝓑.lent.low)

    -- two words and their rows
    module _ (two : length m ≡ 2) {a b e : ℕ} (p : a ≡ get_or m 0 0) (q : b ≡ get_or m 1 0) (f : e ≡ n + n) where
      pub two_lent : TwoLent 𝓕 a b (take n g) (part n e) old
      two_lent =
          record {
            factor = factor_low 0 0 n (omega arith) (sym (zero-mul n)) (omega arith) p;
            factor' = factor_low 1 n e (omega arith) (sym (one-mul n)) f q;
            row = low_take n 𝓑.lent.low;
            row' = part_low n e;
            size = first_length ∙ sym 𝓑.size;
            size' = part_length 1 n e (omega arith) (sym (one-mul n)) f ∙ sym 𝓑.size;
          }

      pub two_block : (r : List ℕ) → r ≡ two_scaled 𝓕 a b (take n g) (part n e) → r ≡ block_of 𝓕 n g m
      two_block r t = summed_end (omega arith) (summed_turn 1 n e (omega arith) (sym (one-mul n)) f r q (summed_first _ p refl) t)

    -- four words and their rows
    module _ (four : length m ≡ 4) {a b c d e f l : ℕ} (p : a ≡ get_or m 0 0) (q : b ≡ get_or m 1 0) (r : c ≡ get_or m 2 0) (s : d ≡ get_or m 3 0) (x : e ≡ n + n) (y : f ≡ e + n) (z : l ≡ f + n) where
      second : e ≡ 2 * n
      second = omega arith

      third : f ≡ 3 * n
      third = omega arith

      pub four_lent : FourLent 𝓕 a b c d (take n g) (part n e) (part e f) (part f l) old
      four_lent =
          record {
            front =
                record {
                  factor = factor_low 0 0 n (omega arith) (sym (zero-mul n)) (omega arith) p;
                  factor' = factor_low 1 n e (omega arith) (sym (one-mul n)) x q;
                  row = low_take n 𝓑.lent.low;
                  row' = part_low n e;
                  size = first_length ∙ sym 𝓑.size;
                  size' = part_length 1 n e (omega arith) (sym (one-mul n)) x ∙ sym 𝓑.size;
                };
            back =
                record {
                  factor = factor_low 2 e f (omega arith) second y r;
                  factor' = factor_low 3 f l (omega arith) third z s;
                  row = part_low e f;
                  row' = part_low f l;
                  size = part_length 2 e f (omega arith) second y ∙ sym 𝓑.size;
                  size' = part_length 3 f l (omega arith) third z ∙ sym 𝓑.size;
                };
          }

      pub four_block : (v : List ℕ) → v ≡ four_scaled 𝓕 a b c d (take n g) (part n e) (part e f) (part f l) → v ≡ block_of 𝓕 n g m
      four_block v t =
          summed_end (omega arith)
          (summed_turn 3 f l (omega arith) third z v s
          (summed_turn 2 e f (omega arith) second y _ r (summed_turn 1 n e (omega arith) (sym (one-mul n)) x _ q (summed_first _ p refl) refl) refl)
          t)

    -- one word and its row
    module _ (one : length m ≡ 1) {a : ℕ} (p : a ≡ get_or m 0 0) where
      one_row_lem : take n g ≡ g
      one_row_lem = take_all n g (omega (arith, 𝓑.lent.long, ap (λ k. k * n) one))

      pub one_size : length old ≡ length g
      one_size = 𝓑.size ∙ sym first_length ∙ ap length one_row_lem

      pub one_low : a < P
      one_low = rw p (𝓑.low.low 0 some)

      pub one_block : (r : List ℕ) → r ≡ to_words 𝓕 (times_row 𝓕 (el a) (elements 𝓕 g)) → r ≡ block_of 𝓕 n g m
      one_block r t = summed_end (omega arith) (summed_first r p (t ∙ ap (λ v. to_words 𝓕 (times_row 𝓕 (el a) (elements 𝓕 v))) (sym one_row_lem)))

    -- a base message has 1, 2 or 4 words
    pub else_four : (length m ≡ 1 → ⊥) → (length m ≡ 2 → ⊥) → length m ≡ 4
    else_four x y = by 𝓑.lent.size x y
      where
        by : {k : ℕ} → Size k → (k ≡ 1 → ⊥) → (k ≡ 2 → ⊥) → k ≡ 4
        by one x y = absurd (x refl)
        by two x y = absurd (y refl)
        by four x y = refl
