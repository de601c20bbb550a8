-- A code is undone column by column: each place of a base block by itself, and then the base blocks that their words make are decoded. Assumes nothing.
use Rattle.std.specs.Prelude.{◌≡◌, take, drop}
use Rattle.std.proofs.Math.Path.{refl, sym, ap, ap₂}
use Rattle.std.proofs.Common.{◌∙◌, zero-mul, one-mul, arith, length-take, length-drop, take-append-drop, take_at, drop_at, get_or-append-add}
use mathlib.Core.List.{List, [], ◌∷◌, ◌++◌, flat_map, append-nil}
use Prim.Native.Nat.{ℕ, zero, suc, ◌+◌, ◌*◌, ◌^◌, ◌<◌}
use Rattle.std.proofs.Math.Nat.{mul-one, add-zero, two-pow-succ}
use Rattle.std.proofs.Math.ListN.{length, get_or, length-append, get_or-append}
use Rattle.algebra.specs.Field.{Field}
use Rattle.algebra.specs.Lists.{row, length_row, row_ext, row_append, row_get_or, zip₄, flat_map_append}
use Rattle.foldable.specs.Code.{Code, size, slope, line}
use Rattle.foldable.specs.Decode.{undo}
use Rattle.foldable.specs.Encode.{double}
use Rattle.foldable.specs.Every.{every, place_within, every_append}
use Rattle.foldable.specs.OneColumn.{one_column}

module _ {A : Type 0} (f : A → A → A → A → A) where
  length_zip₄ : (n : ℕ) (xs ys zs ws : List A) → length xs ≡ n → length ys ≡ n → length zs ≡ n → length ws ≡ n → length (zip₄ f xs ys zs ws) ≡ n
  unfolding zip₄
  length_zip₄ n [] ys zs ws p q r s = p
  length_zip₄ n (x ∷ xs) [] zs ws p q r s = q
  length_zip₄ n (x ∷ xs) (y ∷ ys) [] ws p q r s = r
  length_zip₄ n (x ∷ xs) (y ∷ ys) (z ∷ zs) [] p q r s = s
  length_zip₄ n (x ∷ xs) (y ∷ ys) (z ∷ zs) (w ∷ ws) p q r s =
      ap suc (length_zip₄ (length xs) xs ys zs ws refl (omega arith) (omega arith) (omega arith)) ∙ p

  get_or_zip₄ : (d : A) (xs ys zs ws : List A) (j : ℕ) → j < length xs → j < length ys → j < length zs → j < length ws
      → get_or (zip₄ f xs ys zs ws) j d ≡ f (get_or xs j d) (get_or ys j d) (get_or zs j d) (get_or ws j d)
  unfolding zip₄
  get_or_zip₄ d [] ys zs ws j p q r s = absurd (omega arith)
  get_or_zip₄ d (x ∷ xs) [] zs ws j p q r s = absurd (omega arith)
  get_or_zip₄ d (x ∷ xs) (y ∷ ys) [] ws j p q r s = absurd (omega arith)
  get_or_zip₄ d (x ∷ xs) (y ∷ ys) (z ∷ zs) [] j p q r s = absurd (omega arith)
  get_or_zip₄ d (x ∷ xs) (y ∷ ys) (z ∷ zs) (w ∷ ws) zero p q r s = refl
  get_or_zip₄ d (x ∷ xs) (y ∷ ys) (z ∷ zs) (w ∷ ws) (suc j) p q r s = get_or_zip₄ d xs ys zs ws j (omega arith) (omega arith) (omega arith) (omega arith)

  zip₄_row : (n : ℕ) (a b c e : ℕ → A) → zip₄ f (row n a) (row n b) (row n c) (row n e) ≡ row n (λ j. f (a j) (b j) (c j) (e j))
  unfolding zip₄ row
  zip₄_row zero a b c e = refl
  zip₄_row (suc n) a b c e = ap (λ (l : List A). f (a 0) (b 0) (c 0) (e 0) ∷ l) (zip₄_row n (λ j. a (suc j)) (λ j. b (suc j)) (λ j. c (suc j)) (λ j. e (suc j)))

  every_zip₄ : (d : A) (c a b : ℕ) (xs ys zs ws : List A) → a < c → length xs ≡ c * b → length ys ≡ c * b → length zs ≡ c * b → length ws ≡ c * b
      → zip₄ f (every d c a b xs) (every d c a b ys) (every d c a b zs) (every d c a b ws) ≡ every d c a b (zip₄ f xs ys zs ws)
  every_zip₄ d c a b xs ys zs ws h p q r s =
      zip₄_row b _ _ _ _
      ∙ row_ext b _ _ (λ i l. let within = place_within c b a i h l in sym (get_or_zip₄ d xs ys zs ws (a + i * c) (omega arith) (omega arith) (omega arith) (omega arith)))

module _ (F : Field) (C : Code F) (D : ℕ → Code F) where
  open F use {ring as K}
  open K use {R, 𝟘}
  open C use {n₀, T, T'}

  -- the diagonals of C below level d are as long as they must be, and D b has those of column b alone
  pub record ColumnsOf (d : ℕ) : Type 0 where
    pub one : (b : ℕ) → b < n₀ → (D b).n₀ ≡ 1
    pub first : (b i : ℕ) → b < n₀ → i < d → (D b).T i ≡ one_column F C b i (T i)
    pub second : (b i : ℕ) → b < n₀ → i < d → (D b).T' i ≡ one_column F C b i (T' i)
    pub sized : (i : ℕ) → i < d → length (T i) ≡ size F C i
    pub sized' : (i : ℕ) → i < d → length (T' i) ≡ size F C i

  columns_below : (d : ℕ) → ColumnsOf (suc d) → ColumnsOf d
  columns_below d 𝓒 =
      record {
        one = 𝓒.one;
        first = λ b i h l. 𝓒.first b i h (omega arith);
        second = λ b i h l. 𝓒.second b i h (omega arith);
        sized = λ i l. 𝓒.sized i (omega arith);
        sized' = λ i l. 𝓒.sized' i (omega arith);
      }

  -- column b of a block of level d, with its levels undone
  abbrev pub undone_column : ℕ → ℕ → List R → List R
  undone_column d b w = undo F (D b) (λ v. v) d (one_column F C b d w)

  -- the words that stand at j in the columns
  abbrev pub across : ℕ → List R → ℕ → List R
  across d w j = row n₀ (λ b. get_or (undone_column d b w) j 𝟘)

  -- a level: its two halves, with the lines or the slopes through them
  module _ (i : ℕ) (𝓒 : ColumnsOf (suc i)) (w : List R) (e : length w ≡ size F C (suc i)) where
    abbrev us : List R
    us = take (size F C i) w

    abbrev vs : List R
    vs = drop (size F C i) w

    length_us : length us ≡ size F C i
    length_us = length-take (size F C i) w ∙ omega (arith, e, double n₀ i)

    length_vs : length vs ≡ size F C i
    length_vs = length-drop (size F C i) w ∙ omega (arith, e, double n₀ i)

    abbrev through : (R → R → R → R → R) → List R
    through f = zip₄ f (T i) (T' i) us vs

    length_through : (f : R → R → R → R → R) → length (through f) ≡ size F C i
    length_through f = length_zip₄ f (size F C i) (T i) (T' i) us vs (𝓒.sized i (omega arith)) (𝓒.sized' i (omega arith)) length_us length_vs

    module _ (b : ℕ) (h : b < n₀) where
      abbrev cs : List R
      cs = one_column F C b i us

      abbrev es : List R
      es = one_column F C b i vs

      halves : one_column F C b (suc i) w ≡ cs ++ es
      halves =
          ap₂ (λ m v. every 𝟘 n₀ b m v) (two-pow-succ i) (sym (take-append-drop (size F C i) w))
          ∙ every_append 𝟘 n₀ b (2 ^ i) (2 ^ i) us vs h length_us

      half : (D b).n₀ * 2 ^ i ≡ 2 ^ i
      half = ap (λ m. m * 2 ^ i) (𝓒.one b h) ∙ one-mul (2 ^ i)

      left : take ((D b).n₀ * 2 ^ i) (one_column F C b (suc i) w) ≡ cs
      left = ap₂ take half halves ∙ take_at cs es (2 ^ i) (length_row (2 ^ i) _)

      right : drop ((D b).n₀ * 2 ^ i) (one_column F C b (suc i) w) ≡ es
      right = ap₂ drop half halves ∙ drop_at cs es (2 ^ i) (length_row (2 ^ i) _)

      through_column : (f : R → R → R → R → R)
          → zip₄ f ((D b).T i) ((D b).T' i) (take ((D b).n₀ * 2 ^ i) (one_column F C b (suc i) w)) (drop ((D b).n₀ * 2 ^ i) (one_column F C b (suc i) w)) ≡ one_column F C b i (through f)
      through_column f =
          (λ k. zip₄ f (𝓒.first b i h (omega arith) k) (𝓒.second b i h (omega arith) k) (left k) (right k))
          ∙ every_zip₄ f 𝟘 n₀ b (2 ^ i) (T i) (T' i) us vs h (𝓒.sized i (omega arith)) (𝓒.sized' i (omega arith)) length_us length_vs

      -- a column of a level by those of its halves
      column_step : undone_column (suc i) b w ≡ undone_column i b (through (line F 𝟘)) ++ undone_column i b (through (slope F))
      unfolding undo
      column_step = ap₂ (λ u v. undo F (D b) (λ v. v) i u ++ undo F (D b) (λ v. v) i v) (through_column (line F 𝟘)) (through_column (slope F))

  pub length_undone : (d : ℕ) → ColumnsOf d → (w : List R) → length w ≡ size F C d → (b : ℕ) → b < n₀ → length (undone_column d b w) ≡ 2 ^ d
  unfolding undo
  length_undone zero 𝓒 w e b h = length_row 1 _
  length_undone (suc i) 𝓒 w e b h =
      let l = through i 𝓒 w e (line F 𝟘) in
      let s = through i 𝓒 w e (slope F) in
      ap length (column_step i 𝓒 w e b h)
      ∙ length-append (undone_column i b l) (undone_column i b s)
      ∙ omega (arith, length_undone i (columns_below i 𝓒) l (length_through i 𝓒 w e (line F 𝟘)) b h, length_undone i (columns_below i 𝓒) s (length_through i 𝓒 w e (slope F)) b h, two-pow-succ i)

  -- what stands at j in the columns of a level: it comes from the lines, or from the slopes
  module _ (i : ℕ) (𝓒 : ColumnsOf (suc i)) (w : List R) (e : length w ≡ size F C (suc i)) where
    abbrev ls : List R
    ls = through i 𝓒 w e (line F 𝟘)

    abbrev ss : List R
    ss = through i 𝓒 w e (slope F)

    length_half : (b : ℕ) → b < n₀ → length (undone_column i b ls) ≡ 2 ^ i
    length_half = length_undone i (columns_below i 𝓒) ls (length_through i 𝓒 w e (line F 𝟘))

    across_lines : (j : ℕ) → j < 2 ^ i → across (suc i) w j ≡ across i ls j
    across_lines j l =
        row_ext n₀ _ _
        (λ b h. ap (λ v. get_or v j 𝟘) (column_step i 𝓒 w e b h) ∙ get_or-append (undone_column i b ls) (undone_column i b ss) 𝟘 j (omega (arith, length_half b h)))

    across_slopes : (j : ℕ) → j < 2 ^ i → across (suc i) w (2 ^ i + j) ≡ across i ss j
    across_slopes j l =
        row_ext n₀ _ _
        (λ b h. ap₂ (λ m v. get_or v (m + j) 𝟘) (sym (length_half b h)) (column_step i 𝓒 w e b h) ∙ get_or-append-add (undone_column i b ls) (undone_column i b ss) j 𝟘)

  -- undoing with a decoder of base blocks decodes what stands at each place of the columns
  pub undo_columns : (base : List R → List R) (d : ℕ) → ColumnsOf d → (w : List R) → length w ≡ size F C d → undo F C base d w ≡ flat_map base (row (2 ^ d) (across d w))
  unfolding undo row flat_map
  undo_columns base zero 𝓒 w e =
      ap base
      (sym (row_get_or w 𝟘) ∙ ap (λ m. row m (λ b. get_or w b 𝟘)) (e ∙ mul-one n₀)
      ∙ row_ext n₀ _ _ (λ b h. ap (λ p. get_or w p 𝟘) (sym (ap (λ m. b + m) (zero-mul n₀) ∙ add-zero b))))
      ∙ sym (append-nil _)
  undo_columns base (suc i) 𝓒 w e =
      let l = ls i 𝓒 w e in
      let s = ss i 𝓒 w e in
      ap₂ ◌++◌ (undo_columns base i (columns_below i 𝓒) l (length_through i 𝓒 w e (line F 𝟘))) (undo_columns base i (columns_below i 𝓒) s (length_through i 𝓒 w e (slope F)))
      ∙ sym (flat_map_append base (row (2 ^ i) (across i l)) (row (2 ^ i) (across i s)))
      ∙ ap (flat_map base)
      (sym (ap (λ m. row m (across (suc i) w)) (two-pow-succ i) ∙ row_append (2 ^ i) (2 ^ i) (across (suc i) w)
      ∙ ap₂ ◌++◌ (row_ext (2 ^ i) _ _ (across_lines i 𝓒 w e)) (row_ext (2 ^ i) _ _ (across_slopes i 𝓒 w e))))
