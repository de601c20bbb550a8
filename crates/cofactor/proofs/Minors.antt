-- What a minor of the first columns is, and its determinant from what was read. Assumes nothing.
use mathlib.Core.Path.{◌≡◌, refl, sym, ap, ap₂, ◌∙◌}
use mathlib.Core.List.{List, ◌∷◌, map}
use Prim.Native.Nat.{ℕ, zero, suc, ◌+◌, ◌*◌, ◌/◌, ◌%◌, ◌<◌, ◌≤◌}
use native.Mathlib.Numerals.{add-one}
use native.Mathlib.Omega.{arith}
use lib.ListN.{length, get_or}
use Rattle.algebra.specs.Lists.{row, row_ext, map_row}
use Rattle.algebra.specs.Words.{PrimeField}
use Rattle.algebra.specs.WordLists.{Low}
use Rattle.residue.specs.ResidueLaws.{stands}
use Rattle.determinant.specs.Determinant.{without, minor, sign, det}
use Rattle.determinant.specs.Sizes.{det₃, det_one, det_three, plus, minus}
use Rattle.cofactor.specs.declared.three.RowOfThree.{RowOfThree}
use Rattle.job.specs.Sizes.{Size, one, two, four}
use Rattle.cofactor.specs.Rows.{first_columns}
use Rattle.cofactor.specs.RowLaws.{table, first_columns_lem, row_within}
use Rattle.cofactor.specs.Cofactors.{skip, minor_at, cofactor_at, PlaceLent, RowOf, three_rows}

pub skip_below : (i r : ℕ) → r < i → skip i r ≡ r
unfolding skip
skip_below zero r h = absurd (omega arith)
skip_below (suc i) zero h = refl
skip_below (suc i) (suc r) h = ap suc (skip_below i r (omega arith))

pub skip_above : (i r : ℕ) → i ≤ r → skip i r ≡ r + 1
unfolding skip
skip_above zero r h = sym (add-one r)
skip_above (suc i) zero h = absurd (omega arith)
skip_above (suc i) (suc r) h = ap suc (skip_above i r (omega arith)) ∙ omega arith

pub skip_most : (i r : ℕ) → skip i r ≤ r + 1
unfolding skip
skip_most zero r = omega arith
skip_most (suc i) zero = omega arith
skip_most (suc i) (suc r) = omega (arith, skip_most i r)

-- a row without its place i
without_row : {E : Type 0} (k i : ℕ) (f : ℕ → E) → i < suc k → without i (row (suc k) f) ≡ row k (λ r. f (skip i r))
unfolding without row skip
without_row k zero f h = refl
without_row zero (suc i) f h = absurd (omega arith)
without_row (suc k) (suc i) f h = ap (λ l. f 0 ∷ l) (without_row k i (λ j. f (suc j)) (omega arith))

-- a table without row i and column j
minor_table : {E : Type 0} (k i j : ℕ) (f : ℕ → ℕ → E) → i < suc k → j < suc k → minor i j (table (suc k) f) ≡ table k (λ r c. f (skip i r) (skip j c))
minor_table k i j f h l =
    ap (map (without j)) (without_row k i (λ r. row (suc k) (f r)) h)
    ∙ map_row (without j) k (λ r. row (suc k) (f (skip i r)))
    ∙ row_ext k _ _ (λ r b. without_row k j (f (skip i r)) l)

-- 1, 2 or 4 rows, by what the code asks
size_one : {k : ℕ} → Size k → (k ≡ 4 → ⊥) → (k ≡ 2 → ⊥) → k ≡ 1
size_one one p q = refl
size_one two p q = absurd (q refl)
size_one four p q = absurd (p refl)

-- a row of four words that begins at b, read without its place j
pub place_within : (g : List ℕ) (b j : ℕ) → b + 4 ≤ length g → {r s : ℕ} → r < 3 → s ≡ skip j r → b + s < length g
place_within g b j within {r} h e = omega (arith, skip_most j r)

pub row_read : (𝓕 : PrimeField) (n : ℕ) (g : List ℕ) (i j : ℕ) → i * n + 4 ≤ length g → Low 𝓕.modulus g → {a b c : ℕ} {t : RowOfThree}
    → a ≡ skip j 0 → b ≡ skip j 1 → c ≡ skip j 2
    → t.a.0 ≡ get_or g (i * n + a) 0 → t.b.0 ≡ get_or g (i * n + b) 0 → t.c.0 ≡ get_or g (i * n + c) 0 → RowOf 𝓕 n g i j t
row_read 𝓕 n g i j within l p q s x y z = record {
  first = x ∙ ap (λ o. get_or g (i * n + o) 0) p;
  second = y ∙ ap (λ o. get_or g (i * n + o) 0) q;
  third = z ∙ ap (λ o. get_or g (i * n + o) 0) s;
  low = record {
    low_a = rw x (l.low _ (place_within g (i * n) j within (omega arith) p));
    low_b = rw y (l.low _ (place_within g (i * n) j within (omega arith) q));
    low_c = rw z (l.low _ (place_within g (i * n) j within (omega arith) s));
  };
}

-- row s of k
pub rows_within : (k n i r : ℕ) (g : List ℕ) {s : ℕ} → length g ≡ k * n → k ≤ n → s ≡ skip i r → r + 1 < k → s * n + k ≤ length g
rows_within k n i r g {s} l h e b = omega (arith, skip_most i r, row_within k n s (omega (arith, skip_most i r)))

module _ (𝓕 : PrimeField) where
  infixl 65 ◌⊞◌
  infixl 65 ◌⊟◌
  infixl 70 ◌⊠◌
  open 𝓕 use {modulus as P, field as F, words as W}
  open F use {ring as K}
  open K use {R as Element, ◌+◌ as ◌⊞◌, ◌*◌ as ◌⊠◌, ◌-◌ as ◌⊟◌, neg, 𝟙}
  open W use {el, val as word}

  -- two and three rows, from the products on the way
  pub two_value : {a d b c p q r : ℕ} → p ≡ word (el a ⊠ el d) → q ≡ word (el b ⊠ el c) → r ≡ word (el p ⊟ el q) → r ≡ word (el a ⊠ el d ⊟ el b ⊠ el c)
  two_value e f h = h ∙ ap₂ (λ x y. word (x ⊟ y)) (stands 𝓕 _ e) (stands 𝓕 _ f)

  pub three_value : (a b c : Element) {u v w : Element} {p q r s t m o : ℕ} → p ≡ word u → q ≡ word v → r ≡ word w
      → s ≡ word (a ⊠ el p) → t ≡ word (b ⊠ el q) → m ≡ word (el s ⊟ el t) → o ≡ word (el m ⊞ c ⊠ el r) → o ≡ word (a ⊠ u ⊟ b ⊠ v ⊞ c ⊠ w)
  three_value a b c {u} {v} {w} e f h x y z k =
      let first = stands 𝓕 _ x ∙ ap (λ i. a ⊠ i) (stands 𝓕 u e) in
      let second = stands 𝓕 _ y ∙ ap (λ i. b ⊠ i) (stands 𝓕 v f) in
      k ∙ ap₂ (λ i j. word (i ⊞ c ⊠ j)) (stands 𝓕 _ z ∙ ap₂ ◌⊟◌ first second) (stands 𝓕 w h)

  module _ (n : ℕ) (g : List ℕ) where
    -- what stands in row i and column j
    abbrev at : ℕ → ℕ → Element
    at i j = el (get_or g (i * n + j) 0)

    minor_is : (k i j : ℕ) → suc k ≤ n → length g ≡ suc k * n → i < suc k → j < suc k
        → minor i j (first_columns 𝓕 (suc k) n g) ≡ table k (λ r c. at (skip i r) (skip j c))
    minor_is k i j few long h l = ap (minor i j) (first_columns_lem 𝓕 (suc k) n g few (omega arith)) ∙ minor_table k i j at h l

    pub one_is : (i j : ℕ) → minor_at 𝓕 1 n g i j ≡ 𝟙
    unfolding minor_at det
    one_is i j = refl

    pub two_is : (i j : ℕ) → PlaceLent 𝓕 2 n g i j → minor_at 𝓕 2 n g i j ≡ at (skip i 0) (skip j 0)
    unfolding minor_at row
    two_is i j 𝓟 = ap (det K 1) (minor_is 1 i j 𝓟.lent.few 𝓟.lent.long 𝓟.row 𝓟.column) ∙ det_one K _

    pub four_is : (i j : ℕ) → PlaceLent 𝓕 4 n g i j
        → minor_at 𝓕 4 n g i j
        ≡ det₃ K (at (skip i 0) (skip j 0)) (at (skip i 0) (skip j 1)) (at (skip i 0) (skip j 2)) (at (skip i 1) (skip j 0)) (at (skip i 1) (skip j 1))
        (at (skip i 1) (skip j 2)) (at (skip i 2) (skip j 0)) (at (skip i 2) (skip j 1)) (at (skip i 2) (skip j 2))
    unfolding minor_at row
    four_is i j 𝓟 = ap (det K 3) (minor_is 3 i j 𝓟.lent.few 𝓟.lent.long 𝓟.row 𝓟.column) ∙ det_three K _ _ _ _ _ _ _ _ _

    read_at : (r o : ℕ) {u w : ℕ} → u ≡ r → w ≡ get_or g (u * n + o) 0 → el w ≡ at r o
    read_at r o h f = ap el (f ∙ ap (λ v. get_or g (v * n + o) 0) h)

    -- the word that is left of two rows
    pub two_left : (i j : ℕ) → PlaceLent 𝓕 2 n g i j → {a b w : ℕ} → a ≡ skip i 0 → b ≡ skip j 0 → w ≡ get_or g (a * n + b) 0 → w ≡ word (minor_at 𝓕 2 n g i j)
    two_left i j 𝓟 p q e =
        let h : skip i 0 * n + 2 ≤ length g = rows_within 2 n i 0 g 𝓟.lent.long 𝓟.lent.few refl (omega arith) in
        let k = skip_most j 0 in
        let f = e ∙ ap₂ (λ u v. get_or g (u * n + v) 0) p q in
        sym (W.val_el _ (rw f (𝓟.lent.low.low (skip i 0 * n + skip j 0) (omega arith)))) ∙ ap word (ap el f ∙ sym (two_is i j 𝓟))

    -- the three rows of four, as they were read
    pub four_value : (i j : ℕ) → PlaceLent 𝓕 4 n g i j → {a b c : ℕ} {x y z : RowOfThree} {r : ℕ} → a ≡ skip i 0 → b ≡ skip i 1 → c ≡ skip i 2
        → RowOf 𝓕 n g a j x → RowOf 𝓕 n g b j y → RowOf 𝓕 n g c j z → r ≡ word (three_rows 𝓕 x y z) → r ≡ word (minor_at 𝓕 4 n g i j)
    four_value i j 𝓟 p q s x y z e =
        let a = read_at (skip i 0) (skip j 0) p x.first in
        let b = read_at (skip i 0) (skip j 1) p x.second in
        let c = read_at (skip i 0) (skip j 2) p x.third in
        let d = read_at (skip i 1) (skip j 0) q y.first in
        let f = read_at (skip i 1) (skip j 1) q y.second in
        let h = read_at (skip i 1) (skip j 2) q y.third in
        let k = read_at (skip i 2) (skip j 0) s z.first in
        let l = read_at (skip i 2) (skip j 1) s z.second in
        let m = read_at (skip i 2) (skip j 2) s z.third in
        e ∙ (λ o. word (det₃ K (a o) (b o) (c o) (d o) (f o) (h o) (k o) (l o) (m o))) ∙ ap word (sym (four_is i j 𝓟))

  -- the minor with its sign
  module _ (k n : ℕ) (g : List ℕ) (i j : ℕ) {d : ℕ} (e : d ≡ word (minor_at 𝓕 k n g i j)) where
    pub even_value : (i + j) % 2 ≡ 0 → d ≡ word (cofactor_at 𝓕 k n g i j)
    unfolding cofactor_at
    even_value h =
        let half : i + j ≡ 2 * ((i + j) / 2) = omega arith in
        e ∙ ap word (sym (ap (λ m. sign K m ⊠ minor_at 𝓕 k n g i j) half ∙ plus K ((i + j) / 2) refl))

    pub odd_value : ((i + j) % 2 ≡ 0 → ⊥) → {r : ℕ} → r ≡ word (neg (el d)) → r ≡ word (cofactor_at 𝓕 k n g i j)
    unfolding cofactor_at
    odd_value h f =
        let half : i + j ≡ suc (2 * ((i + j) / 2)) = omega arith in
        f ∙ ap (λ x. word (neg x)) (stands 𝓕 _ e) ∙ ap word (sym (ap (λ m. sign K m ⊠ minor_at 𝓕 k n g i j) half ∙ minus K ((i + j) / 2) refl))

  -- the cases of k
  module _ {k : ℕ} (n : ℕ) (g : List ℕ) (i j : ℕ) where
    pub place_at_lem : (m : ℕ) → PlaceLent 𝓕 k n g i j → k ≡ m → PlaceLent 𝓕 m n g i j
    place_at_lem m 𝓟 e = rw e at 𝓟

    pub minor_at_lem : (m : ℕ) {r : ℕ} → k ≡ m → r ≡ word (minor_at 𝓕 m n g i j) → r ≡ word (minor_at 𝓕 k n g i j)
    minor_at_lem m e f = f ∙ ap (λ k. word (minor_at 𝓕 k n g i j)) (sym e)

    pub minor_one : PlaceLent 𝓕 k n g i j → (k ≡ 4 → ⊥) → (k ≡ 2 → ⊥) → 1 ≡ word (minor_at 𝓕 k n g i j)
    minor_one 𝓟 p q = minor_at_lem 1 (size_one 𝓟.lent.size p q) (sym (W.val_el 1 (omega (arith, 𝓕.above))) ∙ ap word (W.el_one ∙ sym (one_is n g i j)))
