-- Encoding in place level by level: each level over all blocks, one behind the other. Assumes nothing.
use Rattle.std.specs.Prelude.{◌≡◌}
use Rattle.std.proofs.Math.Path.{refl, sym, ap, ap₂}
use Rattle.std.proofs.Common.{◌∙◌, drop_of_length-le, take_all, take-add, drop-drop}
use mathlib.Core.List.{List, [], ◌∷◌, ◌++◌, map, map-append, append_assoc, append-nil}
use Prim.Native.Nat.{ℕ, zero, suc, ◌+◌, ◌*◌, ◌<◌}
use Rattle.std.proofs.Math.Nat.{suc-mul, zero-mul}
use native.Mathlib.Omega.{arith}
use Rattle.std.proofs.Math.ListN.{length, take, drop, length-append, length-drop, take-append-drop}
use Rattle.std.proofs.Math.Seq.{take_at, drop_at, length-take-le}
use Rattle.algebra.specs.Field.{Field}
use Rattle.algebra.specs.Lists.{map_take, map_drop}
use Rattle.algebra.specs.Vector.{length_butterfly, diagonal_multiple, multiple_sum, multiple_multiple, vectors}
use Rattle.foldable.specs.Code.{Code, size, Legal}
use Rattle.foldable.specs.Encode.{double, below}
use Rattle.foldable.specs.Lift.{spread, lift, lift_suc, length_lift}

module _ {A : Type 0} where
  -- f of each of the first n parts of k places
  unfoldable pub each : (List A → List A) → ℕ → ℕ → List A → List A
  each f k zero w = w
  each f k (suc n) w = f (take k w) ++ each f k n (drop k w)

  each_same : (k n : ℕ) (w : List A) → each (λ v. v) k n w ≡ w
  unfolding each
  each_same k zero w = refl
  each_same k (suc n) w = ap (λ v. take k w ++ v) (each_same k n (drop k w)) ∙ take-append-drop k w

  each_one : (f : List A → List A) (k : ℕ) (w : List A) → length w ≡ k → each f k 1 w ≡ f w
  unfolding each
  each_one f k w e =
      ap₂ (λ u v. f u ++ v) (take_all k w (omega arith)) (drop_of_length-le w {i = k} (omega arith)) ∙ append-nil (f w)

  -- what f does not mind each part does not mind
  pub each_map : (g : A → A) (f : List A → List A) (k : ℕ) → ((u : List A) → f (map g u) ≡ map g (f u)) → (n : ℕ) (w : List A) → each f k n (map g w) ≡ map g (each f k n w)
  unfolding each
  each_map g f k law zero w = refl
  each_map g f k law (suc n) w =
      ap₂ (λ u v. f u ++ each f k n v) (sym (map_take g k w)) (sym (map_drop g k w))
      ∙ ap₂ ◌++◌ (law (take k w)) (each_map g f k law n (drop k w))
      ∙ sym (map-append g (f (take k w)) (each f k n (drop k w)))

  module _ (f : List A → List A) (k : ℕ) (keeps : (u : List A) → length u ≡ k → length (f u) ≡ k) where
    first : (n : ℕ) (w : List A) → length w ≡ suc n * k → length (f (take k w)) ≡ k
    first n w e = keeps (take k w) (length-take-le k w (omega (arith, suc-mul n k)))

    rest : (n : ℕ) (w : List A) → length w ≡ suc n * k → length (drop k w) ≡ n * k
    rest n w e = length-drop k w ∙ omega (arith, suc-mul n k)

    pub length_each : (n : ℕ) (w : List A) → length w ≡ n * k → length (each f k n w) ≡ length w
    unfolding each
    length_each zero w e = refl
    length_each (suc n) w e =
        length-append (f (take k w)) (each f k n (drop k w))
        ∙ omega (arith, suc-mul n k, first n w e, rest n w e, length_each n (drop k w) (rest n w e))

    -- part i
    pub each_at : (n i : ℕ) (w : List A) → length w ≡ n * k → i < n → take k (drop (i * k) (each f k n w)) ≡ f (take k (drop (i * k) w))
    unfolding each
    each_at zero i w e h = absurd (omega arith)
    each_at (suc n) zero w e h = rw zero-mul (take_at (f (take k w)) (each f k n (drop k w)) k (first n w e))
    each_at (suc n) (suc i) w e h =
        let m : suc i * k ≡ k + i * k = omega (arith, suc-mul i k) in
        let d : drop (suc i * k) (each f k (suc n) w) ≡ drop (i * k) (each f k n (drop k w)) =
        ap (λ x. drop x (each f k (suc n) w)) m ∙ sym (drop-drop (i * k) k (each f k (suc n) w))
        ∙ ap (drop (i * k)) (drop_at (f (take k w)) (each f k n (drop k w)) k (first n w e)) in
        ap (take k) d ∙ each_at n i (drop k w) (rest n w e) (omega arith)
        ∙ ap (λ v. f (take k v)) (drop-drop (i * k) k w ∙ ap (λ x. drop x w) (sym m))

    -- f of each part, and then h of each two of them: g of each two, if that is so of any two
    each_two : (h g : List A → List A) → ((u v : List A) → length u ≡ k → length v ≡ k → h (f u ++ f v) ≡ g (u ++ v))
        → (n : ℕ) (w : List A) → length w ≡ n * (k + k) → each h (k + k) n (each f k (n + n) w) ≡ each g (k + k) n w
    unfolding each
    each_two h g law zero w e = refl
    each_two h g law (suc n) w e =
        let long : k + k + n * (k + k) ≡ length w = omega (arith, suc-mul n (k + k)) in
        let two : suc n + suc n ≡ suc (suc (n + n)) = omega arith in
        let u = take k w in
        let v = take k (drop k w) in
        let z = each f k (n + n) (drop k (drop k w)) in
        let lu : length u ≡ k = length-take-le k w (omega arith) in
        let lv : length v ≡ k = length-take-le k (drop k w) (omega (arith, length-drop k w)) in
        let both : length (f u ++ f v) ≡ k + k = length-append (f u) (f v) ∙ ap₂ ◌+◌ (keeps u lu) (keeps v lv) in
        let whole : each f k (suc n + suc n) w ≡ (f u ++ f v) ++ z = ap (λ x. each f k x w) two ∙ sym (append_assoc (f u) (f v) z) in
        ap₂ (λ x y. h x ++ each h (k + k) n y)
        (ap (take (k + k)) whole ∙ take_at (f u ++ f v) z (k + k) both)
        (ap (drop (k + k)) whole ∙ drop_at (f u ++ f v) z (k + k) both ∙ ap (each f k (n + n)) (drop-drop k k w))
        ∙ ap₂ ◌++◌ (law u v lu lv ∙ ap g (sym (take-add k k w)))
        (each_two h g law n (drop (k + k) w) (length-drop (k + k) w ∙ omega arith))

module _ (F : Field) where
  infixl 66 ◌⊕◌
  infixl 70 ◌⊙◌
  infixr 71 ◌⊛◌
  open F use {ring as K}
  open K use {R}
  open vectors K use {◌⊕◌, ◌⊙◌, ◌⊛◌}

  -- the halves l and r of a block become l + t r and l + t' r
  unfoldable pub across : List R → List R → List R → List R
  across t t' w =
      let l = take (length t) w in
      let r = drop (length t) w in
      (l ⊕ t ⊙ r) ++ (l ⊕ t' ⊙ r)

  pub length_across : (t t' w : List R) → length t' ≡ length t → length w ≡ length t + length t → length (across t t' w) ≡ length t + length t
  unfolding across
  length_across t t' w s e =
      let l = take (length t) w in
      let r = drop (length t) w in
      let ll : length l ≡ length t = length-take-le (length t) w (omega arith) in
      let lr : length r ≡ length t = length-drop (length t) w ∙ omega arith in
      length-append (l ⊕ t ⊙ r) (l ⊕ t' ⊙ r) ∙ ap₂ ◌+◌ (length_butterfly K _ l t r ll refl lr) (length_butterfly K _ l t' r ll s lr)

  -- a multiple of a block becomes that multiple of what becomes of the block
  pub across_multiple : (t t' : List R) (a : R) (w : List R) → across t t' (a ⊛ w) ≡ a ⊛ across t t' w
  unfolding across
  across_multiple t t' a w =
      let l = take (length t) w in
      let r = drop (length t) w in
      let half : (s : List R) → a ⊛ l ⊕ s ⊙ (a ⊛ r) ≡ a ⊛ (l ⊕ s ⊙ r) = λ s. ap (λ v. a ⊛ l ⊕ v) (diagonal_multiple K s a r) ∙ sym (multiple_sum K a l (s ⊙ r)) in
      ap₂ (λ u v. (u ⊕ t ⊙ v) ++ (u ⊕ t' ⊙ v)) (sym (map_take (K.◌*◌ a) (length t) w)) (sym (map_drop (K.◌*◌ a) (length t) w))
      ∙ ap₂ ◌++◌ (half t) (half t') ∙ sym (map-append (K.◌*◌ a) (l ⊕ t ⊙ r) (l ⊕ t' ⊙ r))

  -- a multiple of the row makes that multiple of the base blocks
  pub spread_multiple : (a : R) (g m : List R) → spread F (a ⊛ g) m ≡ a ⊛ spread F g m
  unfolding spread
  spread_multiple a g [] = refl
  spread_multiple a g (x ∷ m) =
      ap₂ ◌++◌ (sym (multiple_multiple K x a g) ∙ ap (λ y. y ⊛ g) (K.mul_comm x a) ∙ multiple_multiple K a x g) (spread_multiple a g m)
      ∙ sym (map-append (K.◌*◌ a) (x ⊛ g) (spread F g m))

  -- that of each of n blocks
  abbrev pub sweep : List R → List R → ℕ → List R → List R
  sweep t t' n w = each (across t t') (length t + length t) n w

  pub sweep_multiple : (t t' : List R) (n : ℕ) (a : R) (w : List R) → sweep t t' n (a ⊛ w) ≡ a ⊛ sweep t t' n w
  sweep_multiple t t' n a w = each_map (K.◌*◌ a) (across t t') (length t + length t) (across_multiple t t' a) n w

  module _ (C : Code F) where
    open C use {T, T'}

    -- a multiple of base blocks becomes that multiple of what becomes of them
    pub lift_multiple : (i : ℕ) (a : R) (w : List R) → lift F C i (a ⊛ w) ≡ a ⊛ lift F C i w
    unfolding lift
    lift_multiple zero a w = refl
    lift_multiple (suc i) a w =
        let k = size F C i in
        let l = lift F C i (take k w) in
        let r = lift F C i (drop k w) in
        let half : (s : List R) → a ⊛ l ⊕ s ⊙ (a ⊛ r) ≡ a ⊛ (l ⊕ s ⊙ r) = λ s. ap (λ v. a ⊛ l ⊕ v) (diagonal_multiple K s a r) ∙ sym (multiple_sum K a l (s ⊙ r)) in
        ap₂ (λ u v. (lift F C i u ⊕ T i ⊙ lift F C i v) ++ (lift F C i u ⊕ T' i ⊙ lift F C i v)) (sym (map_take (K.◌*◌ a) k w)) (sym (map_drop (K.◌*◌ a) k w))
        ∙ ap₂ (λ u v. (u ⊕ T i ⊙ v) ++ (u ⊕ T' i ⊙ v)) (lift_multiple i a (take k w)) (lift_multiple i a (drop k w))
        ∙ ap₂ ◌++◌ (half (T i)) (half (T' i)) ∙ sym (map-append (K.◌*◌ a) (l ⊕ T i ⊙ r) (l ⊕ T' i ⊙ r))

    -- each of n parts of level i lifted
    abbrev pub lifts : ℕ → ℕ → List R → List R
    lifts i n w = each (lift F C i) (size F C i) n w

    -- base blocks are lifted
    pub lifts_none : (n : ℕ) (w : List R) → lifts 0 n w ≡ w
    unfolding lift
    lifts_none n w = each_same (size F C 0) n w

    -- one part
    pub lifts_one : (i : ℕ) (w : List R) → length w ≡ size F C i → lifts i 1 w ≡ lift F C i w
    lifts_one i w e = each_one (lift F C i) (size F C i) w e

    pub length_lifts : (i n : ℕ) → Legal F C i → (w : List R) → length w ≡ n * size F C i → length (lifts i n w) ≡ length w
    length_lifts i n 𝓛 w e = length_each (lift F C i) (size F C i) (length_lift F C i 𝓛) n w e

    -- a level over n blocks, whose two halves are lifted
    pub lifts_suc : (i n : ℕ) → Legal F C (suc i) → (w : List R) → length w ≡ n * size F C (suc i) → sweep (T i) (T' i) n (lifts i (n + n) w) ≡ lifts (suc i) n w
    unfolding across
    lifts_suc i n 𝓛 w e =
        let k = size F C i in
        let s : length (T i) ≡ k = 𝓛.first i (omega arith) in
        let d : size F C (suc i) ≡ k + k = double C.n₀ i in
        let keeps = length_lift F C i (below F C i 𝓛) in
        ap (λ x. each (across (T i) (T' i)) x n (lifts i (n + n) w)) (ap₂ ◌+◌ s s)
        ∙ each_two (lift F C i) k keeps (across (T i) (T' i)) (lift F C (suc i))
        (λ u v p q. let L = lift F C i u in
        let S = lift F C i v in
        ap₂ (λ l r. (l ⊕ T i ⊙ r) ++ (l ⊕ T' i ⊙ r)) (take_at L S (length (T i)) (keeps u p ∙ sym s)) (drop_at L S (length (T i)) (keeps u p ∙ sym s))
        ∙ ap₂ (λ x y. (lift F C i x ⊕ T i ⊙ lift F C i y) ++ (lift F C i x ⊕ T' i ⊙ lift F C i y)) (sym (take_at u v k p)) (sym (drop_at u v k p))
        ∙ sym (lift_suc F C i (u ++ v)))
        n w (e ∙ ap (λ x. n * x) d)
        ∙ ap (λ x. each (lift F C (suc i)) x n w) (sym d)
