-- A block that is no codeword is folded into a codeword by at most p^d - (p-1)^d of the p^d lists of challenges. Assumes nothing.
use mathlib.Core.List.{List}
use Prim.Native.Nat.{ℕ, ◌+◌, ◌-◌, ◌^◌, ◌≤◌}
use Rattle.std.specs.Prelude.{◌≡◌}
use Rattle.std.proofs.Math.ListN.{length}
use Rattle.algebra.specs.Words.{PrimeField}
use Rattle.foldable.specs.Code.{Code, size, Codeword, Legal}
use Rattle.counting.specs.Challenges.{all_elements, challenges, lucky}
use Rattle.counting.proofs.Every.{all_once, length_all}
use Rattle.counting.proofs.Lucky.{lucky_among}

-- challenges from the whole field
module _ (𝓕 : PrimeField) (C : Code 𝓕.field) where
  open 𝓕 use {modulus, field}
  open field use {ring}
  open ring use {R}

  pub lucky_bound : (base? : (v : List R) → Dec (Codeword field C 0 v)) (d : ℕ) → Legal field C d → (w : List R) → length w ≡ size field C d → (Codeword field C d w → ⊥)
      → lucky field C base? d w (challenges 𝓕 d) + (modulus - 1) ^ d ≤ modulus ^ d
  lucky_bound base? d 𝓛 w e n = rw (length_all 𝓕) at (lucky_among field C base? (all_elements 𝓕) (all_once 𝓕) d 𝓛 w e n)
