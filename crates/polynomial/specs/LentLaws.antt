-- What evaluation is lent, by its halves: both are lent all of it but the top variable. Assumes nothing.
use Rattle.std.specs.Prelude.{◌≡◌, List, ℕ, suc, ◌+◌, ◌-◌, ◌/◌, ◌^◌, ◌<◌, length, take, drop}
use Rattle.std.proofs.Common.{sym, ap, ◌∙◌, arith, length-take, length-drop, take_all}
use Rattle.std.proofs.Math.Nat.{two-pow-succ}
use Rattle.algebra.specs.Words.{PrimeField}
use Rattle.algebra.specs.WordLists.{Low, low_take, low_drop}
use Rattle.polynomial.specs.Lent.{EvaluateInput}

-- the variables below the top one
abbrev pub lower : List ℕ → List ℕ
lower z = take (length z - 1) z

module _ (𝓕 : PrimeField) where
  open 𝓕 use {modulus as P}

  module _ (m z : List ℕ) (𝓔 : EvaluateInput 𝓕 m z) (lo : 0 < length z) where
    twice : length m ≡ 2 ^ (length z - 1) + 2 ^ (length z - 1)
    twice = let q : length z ≡ suc (length z - 1) = omega arith in 𝓔.size ∙ ap (λ k. 2 ^ k) q ∙ two-pow-succ (length z - 1)

    pub half_is : length m / 2 ≡ 2 ^ (length z - 1)
    half_is = omega (arith, twice)

    pub length_lower : length (lower z) ≡ length z - 1
    length_lower = length-take (length z - 1) z ∙ omega arith

    lower_low : Low P (lower z)
    lower_low = low_take (length z - 1) 𝓔.point

    pub rest : take (length m - length m / 2) (drop (length m / 2) m) ≡ drop (length m / 2) m
    rest = take_all (length m - length m / 2) (drop (length m / 2) m) (omega (arith, length-drop (length m / 2) m))

    pub left_input : EvaluateInput 𝓕 (take (length m / 2) m) (lower z)
    left_input =
        record {
          size = length-take (length m / 2) m ∙ omega (arith, half_is, twice) ∙ half_is ∙ ap (λ k. 2 ^ k) (sym length_lower);
          message = low_take (length m / 2) 𝓔.message;
          point = lower_low;
        }

    pub right_input : EvaluateInput 𝓕 (take (length m - length m / 2) (drop (length m / 2) m)) (lower z)
    right_input =
        record {
          size = ap length rest ∙ length-drop (length m / 2) m ∙ omega (arith, half_is, twice) ∙ half_is ∙ ap (λ k. 2 ^ k) (sym length_lower);
          message = low_take (length m - length m / 2) (low_drop (length m / 2) 𝓔.message);
          point = lower_low;
        }
