-- Sums that come out divided by scale, and factors that are multiplied by it before. Assumes nothing.
use mathlib.Core.Path.{◌≡◌, sym, ap, ap₂, ◌∙◌}
use mathlib.Core.List.{List, map}
use Prim.Native.Nat.{ℕ, ◌<◌}
use native.Mathlib.Omega.{arith}
use lib.ListN.{length, get_or, length-map, get_or-map}
use lib.Seq.{ext_get_or}
use Rattle.algebra.specs.Ring.{add-mul, zero-add, zero-mul}
use Rattle.algebra.specs.WordLists.{low_words, modulus_pos}
use Rattle.residue.specs.declared.Field.{Field as Choice}
use Rattle.residue.specs.Elements.{P, product, sum_product}
use Rattle.residue.specs.Chosen.{chosen}
use Rattle.residue.specs.Scale.{scale, lowered}
use Rattle.residue.specs.ScaleLaws.{share, scale_unit}
use Rattle.row_sums.specs.Sums.{added_scaled, sum_of_two, two_scaled, TwoLent, MoreLent}
use Rattle.row_sums.proofs.Adding.{length_two, two_at}

module _ (f : Choice) where
  infixl 65 ◌⊞◌
  infixl 70 ◌⊠◌
  open chosen f use {field as F, words as W}
  open F use {ring as K}
  open K use {R as Element, 𝟘, ◌+◌ as ◌⊞◌, ◌*◌ as ◌⊠◌, mul_assoc, mul_comm, mul-one}
  open W use {el, val as word, val_lt, el_val, val_el, el_zero}

  abbrev s : Element
  s = el (scale f)

  abbrev u : Element
  u = share f

  undo : (a : Element) → a ⊠ s ⊠ u ≡ a
  undo a = mul_assoc a s u ∙ ap (λ x. a ⊠ x) (scale_unit f) ∙ mul-one a

  pub lowered_low : (a : ℕ) → lowered f a < P (chosen f)
  lowered_low a = val_lt (el a ⊠ u)

  -- multiplied by scale and divided by it
  pub lowered_raised : (a r : ℕ) → a < P (chosen f) → r ≡ product (chosen f) a (scale f) → lowered f r ≡ a
  lowered_raised a r h e = ap (λ x. word (x ⊠ u)) (ap el e ∙ el_val (el a ⊠ s)) ∙ ap word (undo (el a)) ∙ val_el a h

  turn : (a x : Element) → a ⊠ x ⊠ u ≡ a ⊠ u ⊠ x
  turn a x = mul_assoc a x u ∙ ap (λ y. a ⊠ y) (mul_comm x u) ∙ sym (mul_assoc a u x)

  -- what is divided is the sum of what is divided
  divided : (w l a x b y : ℕ) → product (chosen f) w (scale f) ≡ sum_product (chosen f) (sum_product (chosen f) l a x) b y
      → el w ≡ el l ⊠ u ⊞ el (lowered f a) ⊠ el x ⊞ el (lowered f b) ⊠ el y
  divided w l a x b y e =
      let times : el w ⊠ s ≡ el l ⊞ el a ⊠ el x ⊞ el b ⊠ el y = sym (el_val (el w ⊠ s)) ∙ ap el e ∙ el_val _ ∙ ap (λ z. z ⊞ el b ⊠ el y) (el_val (el l ⊞ el a ⊠ el x)) in
      let part : (c z : ℕ) → el c ⊠ el z ⊠ u ≡ el (lowered f c) ⊠ el z = λ c z. turn (el c) (el z) ∙ ap (λ q. q ⊠ el z) (sym (el_val (el c ⊠ u))) in
      sym (undo (el w)) ∙ ap (λ z. z ⊠ u) times ∙ add-mul K (el l ⊞ el a ⊠ el x) (el b ⊠ el y) u
      ∙ ap₂ ◌⊞◌ (add-mul K (el l) (el a ⊠ el x) u ∙ ap (λ z. el l ⊠ u ⊞ z) (part a x)) (part b y)

  -- the word of a loose sum
  pub settled_sum : (w r l a x b y : ℕ) → product (chosen f) w (scale f) ≡ sum_product (chosen f) (sum_product (chosen f) l a x) b y → r ≡ word (el w)
      → r ≡ sum_product (chosen f) (sum_product (chosen f) (lowered f l) (lowered f a) x) (lowered f b) y
  settled_sum w r l a x b y e q =
      q ∙ ap word (divided w l a x b y e ∙ ap (λ z. z ⊞ el (lowered f b) ⊠ el y) (ap (λ z. z ⊞ el (lowered f a) ⊠ el x) (sym (el_val (el l ⊠ u))) ∙ sym (el_val _)))

  -- nothing is divided into nothing
  none : el (lowered f 0) ≡ 𝟘
  none = el_val (el 0 ⊠ u) ∙ ap (λ q. q ⊠ u) el_zero ∙ zero-mul K u

  pub lowered_none : lowered f 0 ≡ 0
  lowered_none = ap word (ap (λ q. q ⊠ u) el_zero ∙ zero-mul K u ∙ sym el_zero) ∙ val_el 0 (modulus_pos (chosen f))

  pub from_none : (a x b y : ℕ) → sum_product (chosen f) (sum_product (chosen f) (lowered f 0) a x) b y ≡ sum_of_two (chosen f) a x b y
  from_none a x b y = ap (λ z. word (z ⊞ el b ⊠ el y)) (el_val _ ∙ ap (λ z. z ⊞ el a ⊠ el x) none ∙ zero-add K (el a ⊠ el x))

  -- a sum divided is the sum of factors divided
  lowered_sum : (a x b y : ℕ) → lowered f (sum_of_two (chosen f) a x b y) ≡ sum_of_two (chosen f) (lowered f a) x (lowered f b) y
  lowered_sum a x b y =
      let part : (c z : ℕ) → el c ⊠ el z ⊠ u ≡ el (lowered f c) ⊠ el z = λ c z. turn (el c) (el z) ∙ ap (λ q. q ⊠ el z) (sym (el_val (el c ⊠ u))) in
      ap word (ap (λ z. z ⊠ u) (el_val _) ∙ add-mul K (el a ⊠ el x) (el b ⊠ el y) u ∙ ap₂ ◌⊞◌ (part a x) (part b y))

  -- what rows are lent
  pub low_two : {a b : ℕ} {g h w : List ℕ} → TwoLent (chosen f) a b g h w → TwoLent (chosen f) (lowered f a) (lowered f b) g h w
  low_two {a} {b} 𝓣 = record { factor = lowered_low a; factor' = lowered_low b; row = 𝓣.row; row' = 𝓣.row'; size = 𝓣.size; size' = 𝓣.size' }

  pub lowered_rows : {a b : ℕ} {g h w : List ℕ} → TwoLent (chosen f) a b g h w → map (lowered f) (two_scaled (chosen f) a b g h) ≡ two_scaled (chosen f) (lowered f a) (lowered f b) g h
  lowered_rows {a} {b} {g} {h} {w} 𝓣 =
      let l = length_two (chosen f) 𝓣 in
      ext_get_or 0 _ _ (length-map (two_scaled (chosen f) a b g h) (lowered f) ∙ l ∙ sym (length_two (chosen f) (low_two 𝓣)))
      (λ i q. let q' : i < length w = omega (arith, length-map (two_scaled (chosen f) a b g h) (lowered f), l) in
      ap (get_or (map (lowered f) (two_scaled (chosen f) a b g h)) i) (sym lowered_none) ∙ get_or-map (lowered f) (two_scaled (chosen f) a b g h) i 0
      ∙ ap (lowered f) (two_at (chosen f) 𝓣 i q') ∙ lowered_sum a (get_or g i 0) b (get_or h i 0) ∙ sym (two_at (chosen f) (low_two 𝓣) i q'))

  -- a block whose words are divided
  pub low_more : {a b : ℕ} {g h w : List ℕ} → TwoLent (chosen f) a b g h w → TwoLent (chosen f) (lowered f a) (lowered f b) g h (map (lowered f) w)
  low_more {a} {b} {w = w} 𝓣 =
      let l = sym (length-map w (lowered f)) in
      record { factor = lowered_low a; factor' = lowered_low b; row = 𝓣.row; row' = 𝓣.row'; size = 𝓣.size ∙ l; size' = 𝓣.size' ∙ l }

  pub lowered_at : (w : List ℕ) (i : ℕ) → get_or (map (lowered f) w) i 0 ≡ lowered f (get_or w i 0)
  lowered_at w i = ap (get_or (map (lowered f) w) i) (sym lowered_none) ∙ get_or-map (lowered f) w i 0

  -- with factors that are raised
  product_low : (a r : ℕ) → r ≡ product (chosen f) a (scale f) → r < P (chosen f)
  product_low a r e = rw e (val_lt (el a ⊠ s))

  pub lowered_twice : (a r t : ℕ) → a < P (chosen f) → r ≡ product (chosen f) a (scale f) → t ≡ product (chosen f) r (scale f) → lowered f (lowered f t) ≡ a
  lowered_twice a r t h e d = ap (lowered f) (lowered_raised r t (product_low a r e) d) ∙ lowered_raised a r h e

  pub raise_two : (a b p q : ℕ) {g h w : List ℕ} → p ≡ product (chosen f) a (scale f) → q ≡ product (chosen f) b (scale f) → TwoLent (chosen f) a b g h w → TwoLent (chosen f) p q g h w
  raise_two a b p q e d 𝓣 = record { factor = product_low a p e; factor' = product_low b q d; row = 𝓣.row; row' = 𝓣.row'; size = 𝓣.size; size' = 𝓣.size' }

  -- two rows more, behind two
  module _ {a b c d : ℕ} {g h p q w : List ℕ} (𝓣 : TwoLent (chosen f) a b g h w) (𝓑 : TwoLent (chosen f) c d p q w) (o : List ℕ) (e : o ≡ two_scaled (chosen f) a b g h) where
    pub next_lent : MoreLent (chosen f) c d p q o
    unfolding added_scaled
    next_lent =
        let l : length w ≡ length o = sym (ap length e ∙ length_two (chosen f) 𝓣) in
        record {
          rows = record { factor = 𝓑.factor; factor' = 𝓑.factor'; row = 𝓑.row; row' = 𝓑.row'; size = 𝓑.size ∙ l; size' = 𝓑.size' ∙ l };
          low = rw e (low_words (chosen f) _);
        }
