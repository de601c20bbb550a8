-- How many rows and words there are, and what a round lends to its parts. Assumes nothing.
use Rattle.std.specs.Prelude.{◌≡◌, List, ℕ, zero, suc, ◌+◌, ◌*◌, ◌-◌, ◌^◌, ◌<◌, ◌≤◌, length}
use Rattle.std.proofs.Common.{sym, ap, ◌∙◌, mul-le-mul_left, mul-one, arith, pow-add, pow_mono, pow_pos}
use Rattle.std.proofs.Math.Nat.{two-pow-succ}
use Rattle.algebra.specs.Words.{PrimeField}
use Rattle.basefold.specs.Layout.{round_at, final_at, opening_size}
use Rattle.foldable.specs.Code.{dim}
use Rattle.residue.specs.declared.Residue.{Residue}
use Rattle.steps.specs.Steps.{GiveRoundInput}
use Rattle.cofactor.specs.RowLaws.{rows_count}
use Rattle.base_spread.specs.LentRows.{lent_rows, RowCoding}
use Rattle.base_rounds.specs.RowRounds.{RoundInput}

three_low : (low : ℕ) → 3 * low ≤ 2 ^ low + 2 ^ low
three_low zero = omega arith
three_low (suc zero) = omega (arith, two-pow-succ 0)
three_low (suc (suc low)) = omega (arith, three_low (suc low), two-pow-succ (suc low), two-pow-succ low, pow_pos low)

-- below the top level the opening has words enough for three of each variable, the low ones too
pub rounds_fit : (d low k n : ℕ) → 0 < d → k ≤ n → 2 ^ low ≡ k → final_at (low + d) ≤ opening_size n low d
rounds_fit d low k n h few e =
    let some : 1 ≤ 2 ^ d - 1 = omega (arith, pow_mono {i = 1} {j = d} h) in
    omega (arith, three_low low, mul-le-mul_left n some, mul-one n)

pub round_at_lem : (d low i : ℕ) → i < d → round_at (low + d) (suc (low + i)) ≡ round_at d (suc i)
round_at_lem d low i h = let e : low + d - suc (low + i) ≡ d - suc i = omega arith in ap (λ n. 3 * n) e

module _ (𝓕 : PrimeField) where
  open 𝓕 use {field as F}

  -- the rows are as many as the low variables say, and so are the words of a message
  module _ {d k n : ℕ} (low : ℕ) {g t t' : List ℕ} (𝓒 : RowCoding 𝓕 d k n g t t') (rows : 2 ^ low ≡ k) where
    pub rows_are : length (lent_rows 𝓕 k n g t t').G₀ ≡ 2 ^ low
    rows_are = rows_count 𝓕 k n g 𝓒.lent.few (omega (arith, 𝓒.lent.long)) ∙ sym rows

    pub dim_is : (i : ℕ) → dim F (lent_rows 𝓕 k n g t t') i ≡ 2 ^ (low + i)
    dim_is i = ap (λ b. b * 2 ^ i) rows_are ∙ sym (pow-add 2 low i)

  module _ {d low i k n : ℕ} {w : Residue} {g t t' z r o s : List ℕ} (𝓡 : RoundInput 𝓕 d low i k n w g t t' z r o s) where
    -- the round is that of the variable low + i among low + d
    pub give_input : GiveRoundInput 𝓕 (low + d) (low + i) w z (length o) s
    give_input =
        record {
          level = omega (arith, 𝓡.level);
          deep = 𝓡.deep;
          weight = 𝓡.weight;
          point = 𝓡.point;
          low = 𝓡.point_low;
          size = omega (arith, 𝓡.size, rounds_fit d low k n (omega (arith, 𝓡.level)) 𝓡.coding.lent.few 𝓡.rows);
          above = 𝓡.above;
        }
