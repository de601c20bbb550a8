-- A list taken block by block, and passes over it. Assumes nothing.
use mathlib.Core.Path.{◌≡◌, refl, sym, ap, ap₂, ◌∙◌}
use mathlib.Core.List.{List, [], ◌∷◌, ◌++◌, append_assoc, append-nil}
use Prim.Native.Nat.{ℕ, zero, suc, ◌+◌, ◌*◌, ◌-◌, ◌^◌, ◌<◌, ◌≤◌}
use native.Mathlib.Nat.{suc-mul, mul-le-mul_right, pow-suc, zero-mul, suc_inj}
use native.Mathlib.Omega.{arith}
use lib.ListN.{length, take, drop, length-append, length-drop}
use lib.Pow.{pow-add}
use lib.Seq.{take_at, drop_at, take_all, take-add, drop-drop, length-take-le}
use borrow.Rule.Slice.PartMut.{put_mid}
use Rattle.algebra.specs.Lists.{zip, length_zip}
use Rattle.transform.specs.Passes.{crossed, blocks, passes}

-- block i starts at i n, and ends within the list
pub block_room : (c n i : ℕ) → i < c → i * n + n ≤ c * n
block_room c n i h = omega (arith, mul-le-mul_right n h, suc-mul i n)

-- half as many blocks, twice as long
pub halves : (k d : ℕ) → k < d → 2 ^ (d - k) ≡ 2 ^ (d - suc k) + 2 ^ (d - suc k)
halves k d h = let e : d - k ≡ suc (d - suc k) = omega arith in ap (λ n. 2 ^ n) e ∙ pow-suc 2 (d - suc k) ∙ omega arith

-- and together they have all elements
pub parts : (d k : ℕ) → k ≤ d → 2 ^ (d - k) * 2 ^ k ≡ 2 ^ d
parts d k h = let e : d - k + k ≡ d = omega arith in sym (pow-add 2 (d - k) k) ∙ ap (λ n. 2 ^ n) e

pub doubles : (k : ℕ) → 2 ^ suc k ≡ 2 ^ k + 2 ^ k
doubles k = pow-suc 2 k ∙ omega arith

pub parts_joined : (d k : ℕ) → k < d → 2 ^ (d - suc k) * (2 ^ k + 2 ^ k) ≡ 2 ^ d
parts_joined d k h = ap (λ n. 2 ^ (d - suc k) * n) (sym (doubles k)) ∙ parts d (suc k) h

module _ {A : Type 0} where
  -- a list whose first elements are those of new, where the next k are written
  pub part_written : (a k end : ℕ) (new old out r : List A) → end ≡ a + k → end ≤ length old → length new ≡ length old
      → out ≡ take a new ++ drop a old → r ≡ take k (drop a new) → put_mid a k out r ≡ take end new ++ drop end old
  part_written a k end new old out r e h n p q =
      let l : length (take a new) ≡ a = length-take-le a new (omega arith) in
      let front : take a out ≡ take a new = ap (take a) p ∙ take_at (take a new) (drop a old) a l in
      let back : drop a out ≡ drop a old = ap (drop a) p ∙ drop_at (take a new) (drop a old) a l in
      ap₂ ◌++◌ front (ap₂ ◌++◌ q (ap (drop k) back ∙ drop-drop k a old))
      ∙ sym (append_assoc (take a new) (take k (drop a new)) (drop (a + k) old))
      ∙ ap (λ l. l ++ drop (a + k) old) (sym (take-add a k new))
      ∙ ap (λ m. take m new ++ drop m old) (sym e)

  module _ (g : List A → List A) (n : ℕ) (keeps : (u : List A) → length u ≡ n → length (g u) ≡ n) where
    first : (c : ℕ) (t : List A) → length t ≡ suc c * n → length (take n t) ≡ n
    first c t e = length-take-le n t (omega (arith, suc-mul c n))

    rest : (c : ℕ) (t : List A) → length t ≡ suc c * n → length (drop n t) ≡ c * n
    rest c t e = length-drop n t ∙ omega (arith, suc-mul c n)

    pub length_blocks : (c : ℕ) (t : List A) → length t ≡ c * n → length (blocks g n c t) ≡ c * n
    unfolding blocks
    length_blocks zero t e = sym (zero-mul n)
    length_blocks (suc c) t e =
        length-append (g (take n t)) (blocks g n c (drop n t))
        ∙ omega (arith, suc-mul c n, keeps (take n t) (first c t e), length_blocks c (drop n t) (rest c t e))

    pub block_at : (c i : ℕ) (t : List A) → length t ≡ c * n → i < c → take n (drop (i * n) (blocks g n c t)) ≡ g (take n (drop (i * n) t))
    unfolding blocks
    block_at zero i t e h = absurd (omega arith)
    block_at (suc c) zero t e h =
        rw zero-mul (take_at (g (take n t)) (blocks g n c (drop n t)) n (keeps (take n t) (first c t e)))
    block_at (suc c) (suc i) t e h =
        let m : suc i * n ≡ n + i * n = omega (arith, suc-mul i n) in
        let d : drop (suc i * n) (blocks g n (suc c) t) ≡ drop (i * n) (blocks g n c (drop n t)) =
        ap (λ k. drop k (blocks g n (suc c) t)) m ∙ sym (drop-drop (i * n) n (blocks g n (suc c) t))
        ∙ ap (drop (i * n)) (drop_at (g (take n t)) (blocks g n c (drop n t)) n (keeps (take n t) (first c t e))) in
        ap (take n) d ∙ block_at c i (drop n t) (rest c t e) (omega arith)
        ∙ ap (λ l. g (take n l)) (drop-drop (i * n) n t ∙ ap (λ k. drop k t) (sym m))

  module _ (f : A → A → A) where
    crossed_append : (h : ℕ) (l r : List A) → length l ≡ h → crossed f h (l ++ r) ≡ l ++ zip f l r
    unfolding crossed
    crossed_append h l r e = ap₂ (λ a b. a ++ zip f a b) (take_at l r h e) (drop_at l r h e)

    pub length_crossed : (h : ℕ) (u : List A) → length u ≡ h + h → length (crossed f h u) ≡ h + h
    unfolding crossed
    length_crossed h u e =
        let p : length (take h u) ≡ h = length-take-le h u (omega arith) in
        let q : length (drop h u) ≡ h = length-drop h u ∙ omega arith in
        length-append (take h u) (zip f (take h u) (drop h u)) ∙ omega (arith, p, length_zip f (take h u) (drop h u) h p q)

    -- both halves of a block by g, then its right half by its left half
    joined : (List A → List A) → ℕ → List A → List A
    joined g n u = g (take n u) ++ zip f (g (take n u)) (g (drop n u))

    module _ (g : List A → List A) (n : ℕ) (keeps : (u : List A) → length u ≡ n → length (g u) ≡ n) where
      -- g of each block, and then a pass over blocks of twice that length
      blocks_joined : (c : ℕ) (t : List A) → length t ≡ c * (n + n)
          → blocks (crossed f n) (n + n) c (blocks g n (c + c) t) ≡ blocks (joined g n) (n + n) c t
      unfolding blocks joined
      blocks_joined zero t e = refl
      blocks_joined (suc c) t e =
          let size : n + n ≤ length t = omega (arith, suc-mul c (n + n)) in
          let two : suc c + suc c ≡ suc (suc (c + c)) = omega arith in
          let a = g (take n t) in
          let b = g (take n (drop n t)) in
          let z = blocks g n (c + c) (drop n (drop n t)) in
          let la : length a ≡ n = keeps (take n t) (length-take-le n t (omega arith)) in
          let lb : length b ≡ n = keeps (take n (drop n t)) (length-take-le n (drop n t) (simp length-drop (omega arith))) in
          let lab : length (a ++ b) ≡ n + n = length-append a b ∙ omega arith in
          let whole : blocks g n (suc c + suc c) t ≡ (a ++ b) ++ z = ap (λ k. blocks g n k t) two ∙ sym (append_assoc a b z) in
          let u : take (n + n) t ≡ take n t ++ take n (drop n t) = take-add n n t in
          let lt : length (take n t) ≡ n = length-take-le n t (omega arith) in
          ap₂ (λ x y. crossed f n x ++ blocks (crossed f n) (n + n) c y)
          (ap (take (n + n)) whole ∙ take_at (a ++ b) z (n + n) lab)
          (ap (drop (n + n)) whole ∙ drop_at (a ++ b) z (n + n) lab ∙ ap (blocks g n (c + c)) (drop-drop n n t))
          ∙ ap₂ ◌++◌
          (crossed_append n a b la
          ∙ ap₂ (λ x y. g x ++ zip f (g x) (g y)) (sym (ap (take n) u ∙ take_at (take n t) _ n lt)) (sym (ap (drop n) u ∙ drop_at (take n t) _ n lt)))
          (blocks_joined c (drop (n + n) t) (length-drop (n + n) t ∙ omega (arith, suc-mul c (n + n))))

    pub length_passes : (d : ℕ) (t : List A) → length t ≡ 2 ^ d → length (passes f d t) ≡ 2 ^ d
    unfolding passes
    length_passes zero t e = e
    length_passes (suc d) t e =
        let l = passes f d (take (2 ^ d) t) in
        let r = passes f d (drop (2 ^ d) t) in
        let p : length l ≡ 2 ^ d = length_passes d (take (2 ^ d) t) (length-take-le (2 ^ d) t (omega (arith, doubles d))) in
        let q : length r ≡ 2 ^ d = length_passes d (drop (2 ^ d) t) (length-drop (2 ^ d) t ∙ omega (arith, doubles d)) in
        length-append l (zip f l r) ∙ omega (arith, doubles d, p, length_zip f l r (2 ^ d) p q)

    -- the list after the passes of k variables, of d: before the first, after one more, and after the last
    pub after : ℕ → ℕ → List A → List A
    after d k t = blocks (passes f k) (2 ^ k) (2 ^ (d - k)) t

    pub length_after : (d k : ℕ) (t : List A) → k ≤ d → length t ≡ 2 ^ d → length (after d k t) ≡ 2 ^ d
    unfolding after
    length_after d k t h e =
        length_blocks (passes f k) (2 ^ k) (length_passes k) (2 ^ (d - k)) t (e ∙ sym (parts d k h)) ∙ parts d k h

    ones : (c : ℕ) (t : List A) → length t ≡ c → blocks (passes f 0) 1 c t ≡ t
    unfolding blocks passes
    ones zero [] e = refl
    ones zero (x ∷ t) e = absurd (omega arith)
    ones (suc c) [] e = absurd (omega arith)
    ones (suc c) (x ∷ t) e = ap (λ l. x ∷ l) (ones c t (suc_inj e))

    pub after_none : (d : ℕ) (t : List A) → length t ≡ 2 ^ d → after d 0 t ≡ t
    unfolding after
    after_none d t e = let z : d - 0 ≡ d = omega arith in ap (λ n. blocks (passes f 0) 1 (2 ^ n) t) z ∙ ones (2 ^ d) t e

    pub after_turn : (d k : ℕ) (t : List A) → k < d → length t ≡ 2 ^ d
        → blocks (crossed f (2 ^ k)) (2 ^ k + 2 ^ k) (2 ^ (d - suc k)) (after d k t) ≡ after d (suc k) t
    unfolding after passes joined
    after_turn d k t h e =
        ap (λ c. blocks (crossed f (2 ^ k)) (2 ^ k + 2 ^ k) (2 ^ (d - suc k)) (blocks (passes f k) (2 ^ k) c t)) (halves k d h)
        ∙ blocks_joined (passes f k) (2 ^ k) (length_passes k) (2 ^ (d - suc k)) t (e ∙ sym (parts_joined d k h))
        ∙ ap (λ n. blocks (passes f (suc k)) n (2 ^ (d - suc k)) t) (sym (doubles k))

    pub after_all : (d : ℕ) (t : List A) → length t ≡ 2 ^ d → after d d t ≡ passes f d t
    unfolding after blocks
    after_all d t e =
        let z : d - d ≡ 0 = omega arith in
        ap (λ n. blocks (passes f d) (2 ^ d) (2 ^ n) t) z ∙ append-nil (passes f d (take (2 ^ d) t)) ∙ ap (passes f d) (take_all (2 ^ d) t (omega arith))
