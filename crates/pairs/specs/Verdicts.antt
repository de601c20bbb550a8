-- A homomorphism keeps the outcome of every check: with the code taken into the larger field, and all that is checked taken there. Assumes nothing.
use Rattle.std.specs.Prelude.{◌≡◌, Bool, true, false, cond, ltb, length, take, drop}
use Rattle.std.proofs.Math.Path.{refl, ap, ap₂}
use Rattle.std.proofs.Common.{sym, ◌∙◌, arith}
use mathlib.Core.List.{List, [], ◌∷◌, ◌++◌, map}
use Prim.Native.Nat.{ℕ, zero, suc, ◌+◌ as ◌+ℕ◌, ◌*◌ as ◌*ℕ◌, ◌^◌, ◌<◌}
use Rattle.std.proofs.Math.ListN.{get_or}
use Rattle.std.proofs.lemmas.List.{length-map}
use Rattle.algebra.specs.Field.{Field}
use Rattle.algebra.specs.Numerals.{num}
use Rattle.algebra.specs.Lists.{row_ext, map_take, map_drop, differ_at}
use Rattle.foldable.specs.Code.{Code, size, line, encode, Legal}
use Rattle.multilinear.specs.Quadratic.{through}
use Rattle.multilinear.specs.Rounds.{final_sum}
use Rattle.basefold.specs.Layout.{final_at, block_at, block_of, sent, carried}
use Rattle.basefold.specs.Checks.{Check, final_check, sum_check, base_check, fold_check, first_failure, next, places, same, sums_from, bases, fold_holds, folds_at, folds_from, checks}
use Rattle.basefold.specs.CheckLaws.{same_true, same_false}
use Rattle.basefold.specs.Honest.{next_within, Queries}
use Rattle.pairs.specs.Pair.{extend}
use Rattle.pairs.specs.Homomorphism.{Homomorphism, inverse_image, num_image, get_or_image, injective, line_image, encode_image}
use Rattle.pairs.specs.Polynomials.{through_image, final_sum_image}

map_part : {A B : Type 0} (f : A → B) (n k : ℕ) (l : List A) → map f (take n (drop k l)) ≡ take n (drop k (map f l))
map_part f n k l = map_take f n (drop k l) ∙ ap (take n) (map_drop f k l)

map_block : {A B : Type 0} (f : A → B) (n low d : ℕ) (w o : List A) (i : ℕ) → map f (block_of n low d w o i) ≡ block_of n low d (map f w) (map f o) i
unfolding block_of
map_block f n low d w o i = go (ltb i d)
  where
    go : (b : Bool) → map f (cond b (take (n *ℕ 2 ^ i) (drop (block_at n low d i) o)) w) ≡ cond b (take (n *ℕ 2 ^ i) (drop (block_at n low d i) (map f o))) (map f w)
    go true = map_part f (n *ℕ 2 ^ i) (block_at n low d i) o
    go false = refl

module _ (F E : Field) (ι : F.ring.R → E.ring.R) (𝓗 : Homomorphism F E ι) where
  infixl 65 ◌⊞◌
  open F use {ring as K, inv, eq?}
  open E use {ring as L}
  open K use {R, 𝟘}
  open L use {R as S, ◌+◌ as ◌⊞◌, 𝟘 as 𝟘ᴱ}

  -- images are equal exactly when the elements are
  same_image : {a b : R} {x y : S} → ι a ≡ x → ι b ≡ y → same E x y ≡ same F a b
  same_image {a} {b} {x} {y} p q = go (eq? a b)
    where
      go : Dec (a ≡ b) → same E x y ≡ same F a b
      go (yes e) = same_true E x y (sym p ∙ ap ι e ∙ q) ∙ sym (same_true F a b e)
      go (no n) = same_false E x y (λ e. n (injective F E ι 𝓗 a b (p ∙ e ∙ sym q))) ∙ sym (same_false F a b n)

  module _ (low : ℕ) (r o : List R) where
    carried_image : map ι (carried F low o (length r)) ≡ carried E low (map ι o) (length (map ι r))
    carried_image = map_part ι (2 ^ low) (final_at (length r)) o ∙ ap (carried E low (map ι o)) (sym (length-map r ι))

    sent_image : (i k : ℕ) → ι (sent F o (length r) i k) ≡ sent E (map ι o) (length (map ι r)) i k
    sent_image i k = get_or_image F E ι 𝓗 o _ ∙ ap (λ d. sent E (map ι o) d i k) (sym (length-map r ι))

    -- where 2 has an inverse
    module _ (two : num K 2 ≡ 𝟘 → ⊥) (z : List R) where
      sums_image : (i : ℕ) (c : R) (x : S) → ι c ≡ x → sums_from E low (map ι o) (map ι z) (map ι r) i x ≡ sums_from F low o z r i c
      unfolding sums_from
      sums_image zero c x e =
          ap (λ (b : Bool). (final_check, b) ∷ [])
          (same_image (final_sum_image F E ι 𝓗 low (carried F low o (length r)) z r ∙ ap (λ v. final_sum L low v (map ι z) (map ι r)) carried_image) e)
      sums_image (suc i) c x e =
          let at : (k : ℕ) → ι (sent F o (length r) (suc i) k) ≡ sent E (map ι o) (length (map ι r)) (suc i) k = sent_image (suc i) in
          let half : ι (inv (num K 2)) ≡ E.inv (num L 2) = inverse_image F E ι 𝓗 (num K 2) two ∙ ap E.inv (num_image F E ι 𝓗 2) in
          ap₂ (λ (b : Bool) (cs : List (Check × Bool)). (sum_check (suc i), b) ∷ cs)
          (same_image (𝓗.sum _ _ ∙ ap₂ ◌⊞◌ (at 0) (at 1)) e)
          (sums_image i _ _ (through_image F E ι 𝓗 _ _ _ _ _ ∙ λ k. through L (half k) (at 0 k) (at 1 k) (at 2 k) (get_or_image F E ι 𝓗 r i k)))

    module _ (C : Code F) (w : List R) where
      abbrev D : Code E
      D = extend F E ι C

      abbrev block : ℕ → List R
      block i = block_of C.n₀ low (length r) w o i

      abbrev blockᴱ : ℕ → List S
      blockᴱ i = block_of C.n₀ low (length (map ι r)) (map ι w) (map ι o) i

      word_image : (i u : ℕ) → ι (get_or (block i) u 𝟘) ≡ get_or (blockᴱ i) u 𝟘ᴱ
      word_image i u =
          get_or_image F E ι 𝓗 (block i) u
          ∙ ap (λ b. get_or b u 𝟘ᴱ) (map_block ι C.n₀ low (length r) w o i ∙ ap (λ d. block_of C.n₀ low d (map ι w) (map ι o) i) (sym (length-map r ι)))

      bases_image : bases E low D (map ι w) (map ι r) (map ι o) ≡ bases F low C w r o
      bases_image =
          let v = carried F low o (length r) in
          row_ext C.n₀ _ _
          (λ j l. ap (λ (b : Bool). (base_check j, b))
          (same_image (word_image 0 j) (get_or_image F E ι 𝓗 (encode F C 0 v) j ∙ ap (λ c. get_or c j 𝟘ᴱ) (encode_image F E ι 𝓗 C 0 v ∙ ap (encode E D 0) carried_image))))

      -- the places of a query are within the diagonals, which differ there
      module _ (𝓛 : Legal F C (length r)) where
        holds_image : (i u : ℕ) → i < length r → u < size F C i → fold_holds E low D (map ι w) (map ι r) (map ι o) i u ≡ fold_holds F low C w r o i u
        unfolding fold_holds
        holds_image i u l h =
            let apart : get_or (C.T i) u 𝟘 ≡ get_or (C.T' i) u 𝟘 → ⊥ =
            differ_at 𝟘 (C.T i) (C.T' i) (𝓛.apart i l) u (omega (arith, 𝓛.first i l)) (omega (arith, 𝓛.second i l)) in
            same_image
            (line_image F E ι 𝓗 _ _ _ _ _ apart
            ∙ λ k. line E (get_or_image F E ι 𝓗 r i k) (get_or_image F E ι 𝓗 (C.T i) u k) (get_or_image F E ι 𝓗 (C.T' i) u k) (word_image (suc i) u k) (word_image (suc i) (size F C i +ℕ u) k))
            (word_image i u)

        walk_image : (q i u : ℕ) → i < length r → u < size F C i
            → folds_at E low D (map ι w) (map ι r) (map ι o) q (places C.n₀ (suc i) u) ≡ folds_at F low C w r o q (places C.n₀ (suc i) u)
        unfolding folds_at places
        walk_image q zero u l h = ap (λ (b : Bool). (fold_check q 0, b) ∷ []) (holds_image 0 u l h)
        walk_image q (suc i) u l h =
            ap₂ (λ (b : Bool) (cs : List (Check × Bool)). (fold_check q (suc i), b) ∷ cs)
            (holds_image (suc i) u l h) (walk_image q i (next C.n₀ (suc i) u) (omega arith) (next_within C.n₀ i u h))

        folds_image : (q : ℕ) (us : List ℕ) (d : ℕ) → length r ≡ d → Queries C.n₀ d us
            → folds_from E low D (map ι w) (map ι r) (map ι o) q us ≡ folds_from F low C w r o q us
        unfolding folds_from
        folds_image q [] d e h = refl
        folds_image q (u ∷ us) zero e h = absurd h
        folds_image q (u ∷ us) (suc i) e h =
            ap₂ ◌++◌
            (ap (λ d. folds_at E low D (map ι w) (map ι r) (map ι o) q (places C.n₀ d u)) (length-map r ι ∙ e)
            ∙ walk_image q i u (omega arith) h.0
            ∙ ap (λ d. folds_at F low C w r o q (places C.n₀ d u)) (sym e))
            (folds_image (suc q) us (suc i) e h.1)

  module _ (two : num K 2 ≡ 𝟘 → ⊥) (low : ℕ) (C : Code F) (w z : List R) (y : R) (r : List R) (us : List ℕ) (o : List R) where
    -- each check with whether it holds, and so the first that fails
    pub checks_image : Legal F C (length r) → Queries C.n₀ (length r) us
        → checks E low (extend F E ι C) (map ι w) (map ι z) (ι y) (map ι r) us (map ι o) ≡ checks F low C w z y r us o
    unfolding checks
    checks_image 𝓛 𝓠 =
        ap₂ ◌++◌
        (ap (λ d. sums_from E low (map ι o) (map ι z) (map ι r) d (ι y)) (length-map r ι) ∙ sums_image low r o two z (length r) y (ι y) refl)
        (ap₂ ◌++◌ (bases_image low r o C w) (folds_image low r o C w 𝓛 0 us (length r) refl 𝓠))

    pub verdict_image : Legal F C (length r) → Queries C.n₀ (length r) us
        → first_failure (checks E low (extend F E ι C) (map ι w) (map ι z) (ι y) (map ι r) us (map ι o)) ≡ first_failure (checks F low C w z y r us o)
    verdict_image 𝓛 𝓠 = ap first_failure (checks_image 𝓛 𝓠)
