-- How many elements of a list pass a test, and of lists that are put together. Assumes nothing.
use Rattle.std.specs.Prelude.{◌≡◌}
use Rattle.std.proofs.Common.{ap, ◌∙◌, length-append}
use Rattle.std.proofs.Math.Logic.{ite}
use mathlib.Core.List.{List, [], ◌∷◌, ◌++◌, map, flat_map, filter, filter-map, filter-append, Mem, Nodup, mem-cast, mem-cons_self, mem-cons_of_mem, Nodup-cons}
use Prim.Native.Nat.{ℕ, zero, suc, ◌+◌, ◌*◌, ◌-◌, ◌≤◌}
use Rattle.std.proofs.Math.Nat.{zero-mul, suc-mul}
use native.Mathlib.Omega.{arith}
use Rattle.std.proofs.Math.ListN.{length}
use Rattle.std.proofs.lemmas.List.{length-map}
use Rattle.counting.specs.Challenges.{count}

pred_mul : (n b : ℕ) → n * b ≤ (n - 1) * b + b
pred_mul zero b = omega (arith, zero-mul b)
pred_mul (suc n) b = let e : suc n - 1 ≡ n = omega arith in rw e (omega (arith, suc-mul n b))

module _ {B : Type 0} {P : B → Type 0} (test : (b : B) → Dec (P b)) where
  pub count_most : (ys : List B) → count test ys ≤ length ys
  count_most [] = omega arith
  count_most (y ∷ ys) = step (test y) (count_most ys)
    where
      step : (e : Dec (P y)) → count test ys ≤ length ys → length (ite {C = List B} e (y ∷ filter test ys) (filter test ys)) ≤ suc (length ys)
      step (yes p) h = omega arith
      step (no n) h = omega arith

  count_append : (xs ys : List B) → count test (xs ++ ys) ≡ count test xs + count test ys
  count_append xs ys = ap length (filter-append test xs ys) ∙ length-append (filter test xs) (filter test ys)

  pub count_map : {A : Type 0} (f : A → B) (xs : List A) → count test (map f xs) ≡ count (λ a. test (f a)) xs
  count_map f xs = ap length (filter-map test f xs) ∙ length-map (filter (λ a. test (f a)) xs) f

  module _ {A : Type 0} (f : A → List B) (a b : ℕ) where
    -- in each f x at most a - b pass
    count_each : (xs : List A) → ((x : A) → Mem x xs → count test (f x) + b ≤ a) → count test (flat_map f xs) + length xs * b ≤ length xs * a
    unfolding flat_map
    count_each [] h = omega (arith, zero-mul a, zero-mul b)
    count_each (x ∷ xs) h =
        omega (arith, count_append (f x) (flat_map f xs), h x mem-cons_self, count_each xs (λ y m. h y (mem-cons_of_mem x m)), suc-mul (length xs) a, suc-mul (length xs) b)

    -- in each f x at most a - b pass, but for one x, where at most a pass
    module _ {Q : A → Type 0} (one : (x y : A) → Q x → Q y → x ≡ y) (most : (x : A) → count test (f x) ≤ a) (few : (x : A) → (Q x → ⊥) → count test (f x) + b ≤ a) where
      pub count_but_one : ((x : A) → Dec (Q x)) → (xs : List A) → Nodup xs → count test (flat_map f xs) + (length xs - 1) * b ≤ length xs * a
      unfolding flat_map
      count_but_one q? [] n = omega (arith, zero-mul a, zero-mul b)
      count_but_one q? (x ∷ xs) n = step (q? x) (count_but_one q? xs (Nodup-cons.0 n).1)
        where
          step : Dec (Q x) → count test (flat_map f xs) + (length xs - 1) * b ≤ length xs * a
              → count test (f x ++ flat_map f xs) + (suc (length xs) - 1) * b ≤ suc (length xs) * a
          step (yes q) h =
              let e : suc (length xs) - 1 ≡ length xs = omega arith in
              rw e (omega (
                arith,
                count_append (f x) (flat_map f xs),
                most x,
                suc-mul (length xs) a,
                count_each xs (λ y m. few y (λ k. (Nodup-cons.0 n).0 (mem-cast (one x y q k) m))),
              ))
          step (no q) h =
              let e : suc (length xs) - 1 ≡ length xs = omega arith in
              rw e (omega (arith, count_append (f x) (flat_map f xs), few x q, suc-mul (length xs) a, pred_mul (length xs) b))
