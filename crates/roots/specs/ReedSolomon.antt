-- With powers of roots of unity as diagonals and a base row of ones the codeword is the list of values of one polynomial, its coefficients the message in
-- bit-reversed order, at the powers of the root. Assumes nothing.
use Rattle.std.specs.Prelude.{◌≡◌, length, take, drop, replicate}
use Rattle.std.proofs.Math.Path.{refl, sym, ap, ap₂}
use Rattle.std.proofs.Common.{subst, ◌∙◌, mul-one, one-mul, add-suc, arith, length-take, length-drop, get_or-take, get_or-drop, pow-add}
use mathlib.Core.List.{List, [], ◌∷◌, ◌++◌, map}
use Prim.Native.Nat.{ℕ, zero, suc, ◌+◌ as ◌+ℕ◌, ◌*◌ as ◌*ℕ◌, ◌^◌, ◌<◌, ◌≤◌}
use Rattle.std.proofs.Math.Nat.{two-pow-succ, pow-succ'}
use Rattle.std.proofs.Math.ListN.{get_or}
use Rattle.std.proofs.lemmas.List.{length-map, length-replicate}
use Rattle.algebra.specs.Ring.{mul_left_comm}
use Rattle.algebra.specs.Numerals.{num}
use Rattle.algebra.specs.Field.{Field}
use Rattle.algebra.specs.Algebra.{algebra, quote}
use Rattle.algebra.specs.Sums.{sum, sum_ext, sum_scale, sum_double}
use Rattle.algebra.specs.Lists.{row, length_row, get_or_row, row_ext, row_append, map_row, zip_row, Differ}
use Rattle.algebra.specs.Vector.{vectors}
use Rattle.foldable.specs.Code.{Code, encode, Legal}
use Rattle.foldable.specs.Encode.{double, encode_split}
use Rattle.foldable.specs.Unique.{encode_word}
use Rattle.foldable.specs.Lift.{butterfly}
use Rattle.roots.specs.RootCode.{reverse_bits, pow, Order, powers, value, reversed, root_code, Roots, Table}
use Rattle.roots.specs.Roots.{pow_square, pow_even, pow_odd, power_past, opposite, table_order}
use Rattle.roots.specs.BitReversal.{reverse_below, reverse_even, reverse_odd}

differ_row : {A : Type 0} (n : ℕ) (f g : ℕ → A) → ((j : ℕ) → j < n → f j ≡ g j → ⊥) → Differ (row n f) (row n g)
unfolding row
differ_row zero f g h = tt
differ_row (suc n) f g h = (h 0 (omega arith), differ_row n (λ j. f (suc j)) (λ j. g (suc j)) (λ j l. h (suc j) (omega arith)))

module _ (F : Field) where
  infixl 65 ◌+◌
  infixl 70 ◌*◌
  infixl 66 ◌⊕◌
  infixl 70 ◌⊙◌
  infixr 71 ◌⊛◌
  open F use {ring as K}
  open K use {R, ◌+◌, ◌*◌, neg, 𝟘, 𝟙}
  open vectors K use {◌⊕◌, ◌⊙◌, ◌⊛◌}

  -- the sum of the message's words in the reversed order times the powers of x
  value_reversed : (d : ℕ) (m : List R) (x : R) → value K (reversed K d m) x ≡ sum K (2 ^ d) (λ k. get_or m (reverse_bits d k) 𝟘 * pow K x k)
  unfolding value reversed
  value_reversed d m x =
      let f : ℕ → R = λ k. get_or m (reverse_bits d k) 𝟘 in
      ap (λ (n : ℕ). sum K n (λ k. get_or (row (2 ^ d) f) k 𝟘 * pow K x k)) (length_row (2 ^ d) f)
      ∙ sum_ext K (2 ^ d) _ _ (λ k h. ap (λ (a : R). a * pow K x k) (get_or_row (2 ^ d) f k 𝟘 h))

  -- the halves of the message are the coefficients at even and at odd places
  value_halves : (d : ℕ) (m : List R) (x : R)
      → value K (reversed K (suc d) m) x ≡ value K (reversed K d (take (2 ^ d) m)) (x * x) + x * value K (reversed K d (drop (2 ^ d) m)) (x * x)
  value_halves d m x =
      value_reversed (suc d) m x
      ∙ ap (λ (n : ℕ). sum K n term) (pow-succ' 2 d)
      ∙ sum_double K (2 ^ d) term
      ∙ ap₂ ◌+◌ (sum_ext K (2 ^ d) _ _ (λ j h. even j) ∙ sym (value_reversed d (take (2 ^ d) m) (x * x)))
      (sum_ext K (2 ^ d) _ _ (λ j h. odd j) ∙ sum_scale K (2 ^ d) x _ ∙ ap (λ (a : R). x * a) (sym (value_reversed d (drop (2 ^ d) m) (x * x))))
    where
      term : ℕ → R
      term k = get_or m (reverse_bits (suc d) k) 𝟘 * pow K x k

      even : (j : ℕ) → term (2 *ℕ j) ≡ get_or (take (2 ^ d) m) (reverse_bits d j) 𝟘 * pow K (x * x) j
      even j =
          ap₂ ◌*◌ (ap (λ (i : ℕ). get_or m i 𝟘) (reverse_even d j) ∙ sym (get_or-take (2 ^ d) m (reverse_bits d j) 𝟘 (reverse_below d j))) (pow_even F x j)

      odd : (j : ℕ) → term (1 +ℕ 2 *ℕ j) ≡ x * (get_or (drop (2 ^ d) m) (reverse_bits d j) 𝟘 * pow K (x * x) j)
      odd j =
          ap₂ ◌*◌ (ap (λ (i : ℕ). get_or m i 𝟘) (reverse_odd d j) ∙ sym (get_or-drop (2 ^ d) m (reverse_bits d j) 𝟘)) (pow_odd F x j)
          ∙ mul_left_comm K (get_or (drop (2 ^ d) m) (reverse_bits d j) 𝟘) x (pow K (x * x) j)

  -- l + t r
  row_butterfly : (n : ℕ) (l t r : ℕ → R) → row n l ⊕ row n t ⊙ row n r ≡ row n (λ j. l j + t j * r j)
  row_butterfly n l t r = ap (λ (v : List R). row n l ⊕ v) (zip_row ◌*◌ n t r) ∙ zip_row ◌+◌ n l (λ j. t j * r j)

  neg_square : (y : R) → y * y ≡ neg y * neg y
  neg_square y = algebra K (y ∷ []) (search quote depth 20) refl

  ones : (n : ℕ) (x : R) → x ⊛ replicate n 𝟙 ≡ row n (λ j. x)
  unfolding row
  ones zero x = refl
  ones (suc n) x = ap₂ ◌∷◌ (K.mul-one x) (ones n x)

  module _ (c : ℕ) (ω : ℕ → R) where
    abbrev C : Code F
    C = root_code F c ω

    -- the list of values, place by place
    abbrev evaluations : ℕ → List R → List R
    evaluations d m = row (c *ℕ 2 ^ d) (λ j. value K (reversed K d m) (pow K (ω d) j))

    half_order : (d i : ℕ) → Roots F c d ω → i < d → Order K (ω (suc i)) (2 *ℕ (c *ℕ 2 ^ i))
    half_order d i 𝓡 h = subst (Order K (ω (suc i))) (omega (arith, double c i)) (𝓡.order (suc i) h)

    -- the lengths are exact, and no power is its own negative
    pub legal_roots : (d : ℕ) → Roots F c d ω → Legal F (root_code F c ω) d
    legal_roots d 𝓡 =
        record {
          base = (length-replicate c 𝟙, tt);
          first = λ i h. length_row (c *ℕ 2 ^ i) (pow K (ω (suc i)));
          second = λ i h. length-map (powers K (ω (suc i)) (c *ℕ 2 ^ i)) neg ∙ length_row (c *ℕ 2 ^ i) (pow K (ω (suc i)));
          apart = λ i h. rw (map_row neg) (differ_row (c *ℕ 2 ^ i) _ _ (opposite F (ω (suc i)) (c *ℕ 2 ^ i) (half_order d i 𝓡 h)));
        }

    values_base : (m : List R) → length m ≡ 1 → encode F C 0 m ≡ evaluations 0 m
    unfolding sum pow reverse_bits
    values_base [] e = absurd (omega arith)
    values_base (x ∷ []) e =
        encode_word F c (replicate c 𝟙) _ _ (length-replicate c 𝟙) x ∙ ones c x ∙ ap (λ (n : ℕ). row n (λ j. x)) (sym (mul-one c))
        ∙ row_ext (c *ℕ 1) _ _ (λ j h. sym (value_reversed 0 (x ∷ []) (pow K (ω 0) j) ∙ algebra K (x ∷ []) (search quote depth 20) refl))
    values_base (x ∷ y ∷ m) e = absurd (omega arith)

    -- half a codeword of level d + 1: the points of level d are the squares of the diagonal's places
    values_half : (d : ℕ) (m : List R) (t : ℕ → R) → ((j : ℕ) → pow K (ω d) j ≡ t j * t j)
        → evaluations d (take (2 ^ d) m) ⊕ row (c *ℕ 2 ^ d) t ⊙ evaluations d (drop (2 ^ d) m) ≡ row (c *ℕ 2 ^ d) (λ j. value K (reversed K (suc d) m) (t j))
    values_half d m t e =
        row_butterfly (c *ℕ 2 ^ d) _ t _
        ∙ row_ext (c *ℕ 2 ^ d) _ _
        (λ j h. ap (λ (s : R). value K (reversed K d (take (2 ^ d) m)) s + t j * value K (reversed K d (drop (2 ^ d) m)) s) (e j) ∙ sym (value_halves d m (t j)))

    values_row : (d : ℕ) → Roots F c d ω → (m : List R) → length m ≡ 2 ^ d → encode F C d m ≡ evaluations d m
    values_row zero 𝓡 m e = values_base m e
    values_row (suc d) 𝓡 m e =
        let n = c *ℕ 2 ^ d in
        let w = ω (suc d) in
        let fewer : Roots F c d ω = record { order = λ i h. 𝓡.order i (omega arith); square = λ i h. 𝓡.square i (omega arith) } in
        let left = values_row d fewer (take (2 ^ d) m) (length-take (2 ^ d) m ∙ omega (arith, two-pow-succ d)) in
        let right = values_row d fewer (drop (2 ^ d) m) (length-drop (2 ^ d) m ∙ omega (arith, two-pow-succ d)) in
        let squared : (j : ℕ) → pow K (ω d) j ≡ pow K w j * pow K w j = λ j. ap (λ (y : R). pow K y j) (sym (𝓡.square d (omega arith))) ∙ pow_square F w j in
        encode_split F C d (legal_roots (suc d) 𝓡) m (e ∙ sym (one-mul (2 ^ suc d)))
        ∙ ap (λ (k : ℕ). butterfly F C d (encode F C d (take k m)) (encode F C d (drop k m))) (one-mul (2 ^ d))
        ∙ ap₂ (butterfly F C d) left right
        ∙ ap₂ ◌++◌ (values_half d m (pow K w) squared)
        (ap (λ (t : List R). evaluations d (take (2 ^ d) m) ⊕ t ⊙ evaluations d (drop (2 ^ d) m)) (map_row neg n (pow K w))
        ∙ values_half d m (λ j. neg (pow K w j)) (λ j. squared j ∙ neg_square (pow K w j))
        ∙ row_ext n _ _ (λ j h. ap (value K (reversed K (suc d) m)) (sym (power_past F w n (omega arith) (half_order (suc d) d 𝓡 (omega arith)) j))))
        ∙ sym (row_append n n (λ j. value K (reversed K (suc d) m) (pow K w j)))
        ∙ ap (λ (k : ℕ). row k (λ j. value K (reversed K (suc d) m) (pow K w j))) (sym (double c d))

    -- a codeword is the list of values of one polynomial, its coefficients the message in bit-reversed order, at the powers 0 .. n_d - 1 of the root of order n_d
    pub values : (d : ℕ) → Roots F c d ω → (m : List R) → length m ≡ 2 ^ d
        → encode F (root_code F c ω) d m ≡ map (value K (reversed K d m)) (powers K (ω d) (c *ℕ 2 ^ d))
    values d 𝓡 m e = values_row d 𝓡 m e ∙ sym (map_row (value K (reversed K d m)) (c *ℕ 2 ^ d) (pow K (ω d)))

  -- with the roots of a table, at the rate 2^e: ω_i is entry e + i
  module _ (two : num K 2 ≡ 𝟘 → ⊥) (b : ℕ) (root : ℕ → R) (t : Table F b root) (e d : ℕ) (within : e +ℕ d ≤ b) where
    pub table_roots : Roots F (2 ^ e) d (λ i. root (e +ℕ i))
    table_roots =
        record {
          order = λ i h. subst (Order K (root (e +ℕ i))) (pow-add 2 e i) (table_order F two b root t (e +ℕ i) (omega arith));
          square = λ i h. ap (λ (k : ℕ). root k * root k) (add-suc e i) ∙ t.square (e +ℕ i) (omega arith);
        }

    pub values_table : (m : List R) → length m ≡ 2 ^ d
        → encode F (root_code F (2 ^ e) (λ i. root (e +ℕ i))) d m ≡ map (value K (reversed K d m)) (powers K (root (e +ℕ d)) (2 ^ e *ℕ 2 ^ d))
    values_table = values (2 ^ e) (λ i. root (e +ℕ i)) d table_roots
