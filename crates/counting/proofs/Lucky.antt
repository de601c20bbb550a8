-- A block that is no codeword is folded into a codeword by at most p^d - (p-1)^d of the p^d lists of d challenges from p elements. Assumes nothing.
use Rattle.std.specs.Prelude.{◌≡◌, get_or}
use Rattle.std.proofs.Math.Path.{refl, ap, subst}
use Rattle.std.proofs.Common.{sym, ◌∙◌, arith}
use Rattle.std.proofs.Math.Logic.{ite}
use Rattle.std.proofs.Math.Logic.Dec
use mathlib.Core.List.{List, [], ◌∷◌, ◌++◌, filter_congr, Nodup}
use Prim.Native.Nat.{ℕ, zero, suc, ◌+◌, ◌-◌, ◌^◌, ◌≤◌}
use Rattle.std.proofs.Math.Decide.{map_dec}
use Rattle.std.proofs.Math.Nat.{pow-zero, pow-succ'}
use Rattle.std.proofs.Math.ListN.{length, get_or-append}
use Rattle.std.proofs.lemmas.List.{get_or_at}
use Rattle.algebra.specs.Field.{Field}
use Rattle.foldable.specs.Code.{Code, size, Codeword, fold, Legal}
use Rattle.foldable.specs.Encode.{below}
use Rattle.foldable.specs.Fold.{length_fold, unfold_codeword, two_challenges}
use Rattle.counting.specs.Challenges.{lists, folds, lucky}
use Rattle.counting.proofs.Every.{ending, length_lists, sized_lists}
use Rattle.counting.specs.Count.{count_most, count_map, count_but_one}

module _ (F : Field) (C : Code F) where
  open F use {ring as K, eq?, apart}
  open K use {R, 𝟘, 𝟙}

  -- at most one challenge folds a block that is no codeword into a codeword
  pub one_challenge : (i : ℕ) → Legal F C (suc i) → (w : List R) → length w ≡ size F C (suc i) → (Codeword F C (suc i) w → ⊥)
      → (a b : R) → Codeword F C i (fold F C i a w) → Codeword F C i (fold F C i b w) → a ≡ b
  one_challenge i 𝓛 w e n a b p q = go (eq? a b)
    where
      go : Dec (a ≡ b) → a ≡ b
      go (yes h) = h
      go (no h) = absurd (n (unfold_codeword F C i 𝓛 a b h w e p q))

  -- only the first i challenges count
  folds_append : (i : ℕ) (r s w : List R) → i ≤ length r → folds F C i (r ++ s) w ≡ folds F C i r w
  unfolding folds
  folds_append zero r s w h = refl
  folds_append (suc i) r s w h =
      ap (λ a. folds F C i (r ++ s) (fold F C i a w)) (get_or-append r s 𝟘 i h) ∙ folds_append i r s (fold F C i (get_or r i 𝟘) w) (omega arith)

  -- the last challenge folds first
  folds_last : (i : ℕ) (r : List R) (a : R) (w : List R) → length r ≡ i → folds F C (suc i) (r ++ (a ∷ [])) w ≡ folds F C i r (fold F C i a w)
  unfolding folds
  folds_last i r a w e =
      ap (λ x. folds F C i (r ++ (a ∷ [])) (fold F C i x w)) (get_or_at r a [] 𝟘 i e) ∙ folds_append i r (a ∷ []) (fold F C i a w) (omega arith)

  module _ (base? : (v : List R) → Dec (Codeword F C 0 v)) where
    -- a block is a codeword exactly when its folds by 0 and by 1 are
    codeword_test : (i : ℕ) → Legal F C i → (w : List R) → length w ≡ size F C i → Dec (Codeword F C i w)
    codeword_test zero 𝓛 w e = base? w
    codeword_test (suc i) 𝓛 w e =
        let both = two_challenges F C i 𝓛 𝟘 𝟙 apart w e in
        let folded : (a : R) → Dec (Codeword F C i (fold F C i a w)) = λ a. codeword_test i (below F C i 𝓛) (fold F C i a w) (length_fold F C i 𝓛 a w e) in
        map_dec both.1 both.0 (Dec.and (folded 𝟘) (folded 𝟙))

    module _ (xs : List R) where
      -- the lists that end with a
      lucky_last : (d : ℕ) (w : List R) (a : R) → lucky F C base? (suc d) w (ending xs d a) ≡ lucky F C base? d (fold F C d a w) (lists xs d)
      unfolding lucky
      lucky_last d w a =
          count_map (λ r. base? (folds F C (suc d) r w)) (λ r. r ++ (a ∷ [])) (lists xs d)
          ∙ ap length (filter_congr (λ r. base? (folds F C (suc d) (r ++ (a ∷ [])) w)) (λ r. base? (folds F C d r (fold F C d a w))) (lists xs d)
          (λ r m. let e = folds_last d r a w (sized_lists xs d r m) in (subst (Codeword F C 0) e, subst (Codeword F C 0) (sym e))))

      lucky_most : (d : ℕ) (w : List R) → lucky F C base? d w (lists xs d) ≤ length xs ^ d
      unfolding lucky
      lucky_most d w = omega (arith, count_most (λ r. base? (folds F C d r w)) (lists xs d), length_lists xs d)

      -- at level 0 there is nothing to fold
      pub lucky_none : (w : List R) → (Codeword F C 0 w → ⊥) → lucky F C base? 0 w (lists xs 0) ≡ 0
      unfolding lucky lists folds
      lucky_none w n = step (base? w)
        where
          step : (t : Dec (Codeword F C 0 w)) → length (ite {C = List (List R)} t ([] ∷ []) []) ≡ 0
          step (yes c) = absurd (n c)
          step (no c) = refl

      -- challenges from any list without repetition
      pub lucky_among : Nodup xs → (d : ℕ) → Legal F C d → (w : List R) → length w ≡ size F C d → (Codeword F C d w → ⊥)
          → lucky F C base? d w (lists xs d) + (length xs - 1) ^ d ≤ length xs ^ d
      unfolding lucky lists
      lucky_among u zero 𝓛 w e n = rw (pow-zero (length xs), pow-zero (length xs - 1)) (omega (arith, lucky_none w n))
      lucky_among u (suc d) 𝓛 w e n =
          let p = length xs in
          let last = lucky_last d w in
          let sized : (a : R) → length (fold F C d a w) ≡ size F C d = λ a. length_fold F C d 𝓛 a w e in
          rw (pow-succ' p d, pow-succ' (p - 1) d)
          (count_but_one (λ r. base? (folds F C (suc d) r w)) (ending xs d) (p ^ d) ((p - 1) ^ d)
          (one_challenge d 𝓛 w e n)
          (λ a. omega (arith, last a, lucky_most d (fold F C d a w)))
          (λ a k. omega (arith, last a, lucky_among u d (below F C d 𝓛) (fold F C d a w) (sized a) k))
          (λ a. codeword_test d (below F C d 𝓛) (fold F C d a w) (sized a)) xs u)
