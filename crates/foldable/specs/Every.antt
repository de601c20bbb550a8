-- Every c-th place of a list: the columns of a list of blocks of c places. Assumes nothing.
use Rattle.std.specs.Prelude.{◌≡◌, refl, Bool, true, false, List, ◌++◌, ℕ, ◌+◌, ◌*◌, ◌/◌, ◌%◌, ◌<◌, length, get_or}
use Rattle.std.proofs.Common.{sym, ap, ap₂, ◌∙◌, zero-add, one-mul, mul_comm, add-mul, suc-mul, mul-le-mul_right, div-add-mod', div-lt_iff_lt-mul, mod-lt, arith, get_or-append-add, ext_get_or}
use Rattle.std.proofs.lemmas.Bool.{false≢true}
use Rattle.std.proofs.Math.ListN.{get_or-append}
use Rattle.algebra.specs.Lists.{row, length_row, get_or_row, row_ext, row_append, zip, get_or_zip, zip_row}
use Rattle.algebra.specs.Tests.{all₂, all₂_at, all₂_of}
use Rattle.foldable.specs.Columns.{pick, length_pick, get_or_pick}

-- place a of block i lies within b blocks of c places
pub place_within : (c b a i : ℕ) → a < c → i < b → a + i * c < c * b
place_within c b a i h l = omega (arith, mul-le-mul_right c l, suc-mul i c, mul_comm c b)

module _ {A : Type 0} (d : A) where
  -- b places: a, a + c, a + 2 c, ...
  abbrev pub every : ℕ → ℕ → ℕ → List A → List A
  every c a b w = row b (λ i. get_or w (a + i * c) d)

  pub every_append : (c a b k : ℕ) (v w : List A) → a < c → length v ≡ c * b → every c a (b + k) (v ++ w) ≡ every c a b v ++ every c a k w
  every_append c a b k v w h e =
      row_append b k (λ i. get_or (v ++ w) (a + i * c) d)
      ∙ ap₂ ◌++◌ (row_ext b _ _ (λ i l. get_or-append v w d (a + i * c) (omega (arith, place_within c b a i h l))))
      (row_ext k _ _ (λ i l. let place : a + (b + i) * c ≡ length v + (a + i * c) = omega (arith, add-mul b i c, mul_comm c b) in
      ap (λ p. get_or (v ++ w) p d) place ∙ get_or-append-add v w (a + i * c) d))

  pub every_zip : (f : A → A → A) (c a b : ℕ) (v w : List A) → a < c → length v ≡ c * b → length w ≡ c * b → every c a b (zip f v w) ≡ zip f (every c a b v) (every c a b w)
  every_zip f c a b v w h p q =
      row_ext b _ _ (λ i l. let within = place_within c b a i h l in get_or_zip f v w d d d (a + i * c) (omega arith) (omega arith))
      ∙ sym (zip_row f b (λ i. get_or v (a + i * c) d) (λ i. get_or w (a + i * c) d))

  -- the first column, by its blocks
  pub every_pick : (c b : ℕ) (w : List A) → 0 < c → length w ≡ c * b → pick c 1 b w ≡ every c 0 b w
  every_pick c b w some e =
      let n : length (pick c 1 b w) ≡ b = length_pick c 1 b w some e ∙ one-mul b in
      ext_get_or d (pick c 1 b w) (every c 0 b w) (n ∙ sym (length_row b _))
      (λ i h. let below : i < b = omega arith in
      get_or_pick d c b w e some i below ∙ ap (λ p. get_or w p d) (sym (zero-add (i * c))) ∙ sym (get_or_row b (λ i. get_or w (0 + i * c) d) i d below))

-- a test of all places of two lists, column by column
module _ {A : Type 0} (f : A → A → Bool) (d : A) where
  module _ (c b : ℕ) (v w : List A) (lv : length v ≡ c * b) (lw : length w ≡ c * b) where
    -- it holds where it holds of each column
    pub columns_all : 0 < c → ((a : ℕ) → a < c → all₂ f (every d c a b v) (every d c a b w) ≡ true) → all₂ f v w ≡ true
    columns_all some h = all₂_of f v w d (λ k l m. at k (omega arith))
      where
        at : (k : ℕ) → k < c * b → f (get_or v k d) (get_or w k d) ≡ true
        at k l =
            let a = k % c in
            let i = k / c in
            let below : i < b = (div-lt_iff_lt-mul some).1 (omega (arith, mul_comm c b)) in
            let place : a + i * c ≡ k = omega (arith, div-add-mod' k c) in
            let n : (u : List A) → length (every d c a b u) ≡ b = λ u. length_row b _ in
            let x : (u : List A) → get_or u k d ≡ get_or (every d c a b u) i d = λ u. ap (λ p. get_or u p d) (sym place) ∙ sym (get_or_row b (λ i. get_or u (a + i * c) d) i d below) in
            ap₂ f (x v) (x w) ∙ all₂_at f (every d c a b v) (every d c a b w) d (h a (mod-lt k some)) i (omega (arith, n v)) (omega (arith, n w))

    -- and fails where it fails of one
    pub columns_one : (a : ℕ) → a < c → all₂ f (every d c a b v) (every d c a b w) ≡ false → all₂ f v w ≡ false
    columns_one a h e = other (all₂ f v w) refl
      where
        other : (x : Bool) → all₂ f v w ≡ x → all₂ f v w ≡ false
        other false q = q
        other true q =
            let n : (u : List A) → length (every d c a b u) ≡ b = λ u. length_row b _ in
            absurd
            (false≢true
            (sym e
            ∙ all₂_of f (every d c a b v) (every d c a b w) d
            (λ i l m. let below : i < b = omega (arith, n v) in
            let within = place_within c b a i h below in
            let x : (u : List A) → get_or (every d c a b u) i d ≡ get_or u (a + i * c) d = λ u. get_or_row b (λ i. get_or u (a + i * c) d) i d below in
            ap₂ f (x v) (x w) ∙ all₂_at f v w d q (a + i * c) (omega arith) (omega arith))))
