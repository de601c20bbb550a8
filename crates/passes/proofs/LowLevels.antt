-- The loop over the low levels, each over the whole block. Assumes nothing.
use mathlib.Core.Path.{◌≡◌, sym, ap, ap₂, ◌∙◌}
use mathlib.Core.List.{List}
use Prim.Native.Nat.{ℕ, suc, ◌+◌, ◌*◌, ◌-◌, ◌/◌, ◌^◌, ◌<◌, ◌≤◌}
use native.Mathlib.Nat.{mul-one, mul_comm, mul_assoc, zero-mul, mul-le-mul_left, two-pow-succ}
use native.Mathlib.Numerals.{add-one}
use native.Mathlib.Omega.{arith}
use lib.ListN.{length, take, drop, length-map}
use lib.Pow.{pow-add, pow_mono}
use Rattle.algebra.specs.Sums.{prod}
use Rattle.algebra.specs.UnitLaws.{power_none, power_suc}
use Rattle.algebra.specs.Vector.{vectors}
use Rattle.algebra.specs.Words.{PrimeField}
use Rattle.algebra.specs.WordLists.{low_take, low_drop, elements, length_elements}
use Rattle.foldable.specs.Code.{Code, size, Legal}
use Rattle.foldable.specs.Encode.{double}
use Rattle.foldable.specs.Lift.{lift}
use Rattle.foldable.specs.Sweep.{sweep, sweep_multiple, lifts, lifts_none, lifts_one, length_lifts, lifts_suc}
use Rattle.job.specs.Limits.{block_size, diagonals_size}
use Rattle.parameters.specs.Lent.{lent, diagonal}
use Rattle.parameters.specs.LentLaws.{length_diagonal, level_end, level_within}
use Rattle.passes.specs.Steps.{Scaled, SweepInput, LooseInput}

-- half as many blocks of the level above
halves : (k d : ℕ) → k < d → 2 ^ (d - k) ≡ 2 ^ (d - suc k) + 2 ^ (d - suc k)
halves k d h = let e : d - k ≡ suc (d - suc k) = omega arith in ap (λ n. 2 ^ n) e ∙ two-pow-succ (d - suc k)

-- and together they have all words
parts : (c d k : ℕ) → k ≤ d → c * 2 ^ d ≡ 2 ^ (d - k) * (c * 2 ^ k)
parts c d k h =
    let e : d ≡ k + (d - k) = omega arith in
    ap (λ n. c * 2 ^ n) e ∙ ap (λ n. c * n) (pow-add 2 k (d - k)) ∙ sym (mul_assoc c (2 ^ k) (2 ^ (d - k))) ∙ mul_comm (c * 2 ^ k) (2 ^ (d - k))

module _ (𝓕 : PrimeField) (s : 𝓕.field.ring.R) (d : ℕ) (g t t' o : List ℕ) where
  infixr 71 ◌⊛◌
  open 𝓕 use {field as F}
  open F use {ring as K}
  open vectors K use {◌⊛◌}

  abbrev C : Code F
  C = lent 𝓕 g t t'

  -- before level k: n and off are the words and the place of its diagonals, and count parts are lifted
  pub record Reached (k count n off : ℕ) (out : List ℕ) : Type 0 where
    pub most : k ≤ d
    pub many : count ≡ 2 ^ (d - k)
    pub wide : n ≡ block_size (length g) k
    pub place : off ≡ diagonals_size (length g) k
    pub lifted : Scaled 𝓕 (prod K k (λ i. s)) (lifts F C k count (elements 𝓕 o)) out

  module _ (𝓛 : LooseInput 𝓕 d g t t' o) where
    pub reached_none : (count : ℕ) → count ≡ 2 ^ d → Reached 0 count (length g) 0 o
    reached_none count e =
        let z : d - 0 ≡ d = omega arith in
        record {
          most = omega arith;
          many = e ∙ ap (λ n. 2 ^ n) (sym z);
          wide = sym (mul-one (length g));
          place = sym (mul_comm (length g) 0 ∙ zero-mul (length g));
          lifted = record { loose = 𝓛.block; stands = power_none K s (elements 𝓕 o) ∙ sym (lifts_none F C count (elements 𝓕 o)) };
        }

    legal : (k : ℕ) → k ≤ d → Legal F C k
    legal k h =
        let 𝓒 = 𝓛.coding.legal in
        record {
          base = 𝓒.base;
          first = λ i l. 𝓒.first i (omega arith);
          second = λ i l. 𝓒.second i (omega arith);
          apart = λ i l. 𝓒.apart i (omega arith);
        }

    sized : (k : ℕ) → k ≤ d → length (elements 𝓕 o) ≡ 2 ^ (d - k) * size F C k
    sized k h = length_elements 𝓕 o ∙ 𝓛.size ∙ ap (λ c. c * 2 ^ d) (sym (length_elements 𝓕 g)) ∙ parts (length (elements 𝓕 g)) d k h

    module _ (k count n off : ℕ) (out : List ℕ) (x : Reached k count n off out) where
      pub reached_length : length out ≡ length o
      reached_length =
          sym (length-map (elements 𝓕 out) (K.◌*◌ (prod K k (λ i. s))) ∙ length_elements 𝓕 out) ∙ ap length x.lifted.stands
          ∙ length_lifts F C k count (legal k x.most) (elements 𝓕 o) (sized k x.most ∙ ap (λ m. m * size F C k) (sym x.many))
          ∙ length_elements 𝓕 o

      pub reached_end : d ≤ k → Scaled 𝓕 (prod K d (λ i. s)) (lift F C d (elements 𝓕 o)) out
      reached_end h =
          let same : k ≡ d = omega (arith, x.most) in
          let none : d - k ≡ 0 = omega arith in
          let one : count ≡ 1 = x.many ∙ ap (λ m. 2 ^ m) none in
          record {
            loose = x.lifted.loose;
            stands =
                ap (λ n. prod K n (λ i. s) ⊛ elements 𝓕 out) (sym same) ∙ x.lifted.stands ∙ ap₂ (λ i m. lifts F C i m (elements 𝓕 o)) same one
                ∙ lifts_one F C d (elements 𝓕 o) (length_elements 𝓕 o ∙ 𝓛.size ∙ ap (λ c. c * 2 ^ d) (sym (length_elements 𝓕 g)));
          }

      module _ (h : k < d) where
        -- the level's diagonals
        abbrev part : List ℕ → List ℕ
        part s = take (off + n - off) (drop off s)

        part_is : (s : List ℕ) → part s ≡ diagonal (length g) s k
        unfolding diagonal
        part_is s = let m : off + n - off ≡ n = omega arith in ap₂ (λ i j. take i (drop j s)) (m ∙ x.wide) x.place

        length_part : (s : List ℕ) → diagonals_size (length g) d ≤ length s → length (part s) ≡ block_size (length g) k
        length_part s l = ap length (part_is s) ∙ length_diagonal (length g) d k s h l

        within : off + n ≤ diagonals_size (length g) d
        within = omega (arith, x.place, x.wide, level_within (length g) k d h)

        pub reached_first : off + n ≤ length t
        reached_first = omega (arith, within, 𝓛.coding.first)

        pub reached_second : off + n ≤ length t'
        reached_second = omega (arith, within, 𝓛.coding.second)

        pub reached_fits : n + n ≤ length o
        reached_fits = omega (arith, x.wide, double (length g) k, mul-le-mul_left (length g) (pow_mono h), 𝓛.size)

        fewer : count / 2 ≡ 2 ^ (d - suc k)
        fewer = omega (arith, x.many, halves k d h)

        pub reached_asks : SweepInput 𝓕 (count / 2) (part t) (part t') out
        reached_asks =
            let a = length_part t 𝓛.coding.first in
            let b = length_part t' 𝓛.coding.second in
            record {
              second = b ∙ sym a;
              size =
                  reached_length ∙ 𝓛.size ∙ parts (length g) d (suc k) h
                  ∙ ap₂ ◌*◌ (sym fewer) (double (length g) k ∙ sym (ap₂ ◌+◌ a a));
              low = low_take (off + n - off) (low_drop off 𝓛.coding.low);
              low' = low_take (off + n - off) (low_drop off 𝓛.coding.low');
              block = x.lifted.loose;
            }

        pub reached_turn : (r : List ℕ) → Scaled 𝓕 s (sweep F (elements 𝓕 (part t)) (elements 𝓕 (part t')) (count / 2) (elements 𝓕 out)) r
            → Reached (k + 1) (count / 2) (n + n) (off + n) r
        reached_turn r q =
            let half = 2 ^ (d - suc k) in
            rw (add-one k)
            (record {
              most = h;
              many = fewer;
              wide = ap₂ ◌+◌ x.wide x.wide ∙ sym (double (length g) k);
              place = ap₂ ◌+◌ x.place x.wide ∙ level_end (length g) k;
              lifted =
                  record {
                    loose = q.loose;
                    stands =
                        power_suc K s k (elements 𝓕 r) ∙ ap (λ v. prod K k (λ i. s) ⊛ v) q.stands
                        ∙ sym (sweep_multiple F (elements 𝓕 (part t)) (elements 𝓕 (part t')) (count / 2) (prod K k (λ i. s)) (elements 𝓕 out))
                        ∙ ap (sweep F (elements 𝓕 (part t)) (elements 𝓕 (part t')) (count / 2)) (x.lifted.stands ∙ ap (λ m. lifts F C k m (elements 𝓕 o)) (x.many ∙ halves k d h))
                        ∙ (λ i. sweep F (elements 𝓕 (part_is t i)) (elements 𝓕 (part_is t' i)) (fewer i) (lifts F C k (half + half) (elements 𝓕 o)))
                        ∙ lifts_suc F C k half (legal (suc k) h) (elements 𝓕 o) (sized (suc k) h)
                        ∙ ap (λ m. lifts F C (suc k) m (elements 𝓕 o)) (sym fewer);
                  };
            })
