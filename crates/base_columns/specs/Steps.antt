-- What decoding base blocks is lent, and what it leaves. Definitions only. Assumes nothing.
use Rattle.std.specs.Prelude.{◌≡◌, ℕ, ◌*◌, ◌/◌, ◌<◌, ◌≤◌, length}
use mathlib.Core.List.{List, flat_map}
use Rattle.algebra.specs.Words.{PrimeField}
use Rattle.algebra.specs.WordLists.{Low}
use Rattle.blocks.specs.Base.{base_messages}
use Rattle.base_matrix.specs.Inverting.{solved}

module _ (𝓕 : PrimeField) where
  open 𝓕 use {modulus as P}

  -- each k words of w times the matrix in m, one behind the other
  unfoldable pub solved_blocks : ℕ → List ℕ → List ℕ → List ℕ
  solved_blocks k m w = flat_map (solved 𝓕 m) (base_messages k (length w / k) w)

  -- whole parts of at most four words, and a matrix in sixteen
  pub record BlocksLent (k : ℕ) (m w : List ℕ) : Type 0 where
    pub some : 0 < k
    pub few : k ≤ 4
    pub whole : length w ≡ k * (length w / k)
    pub sixteen : length m ≡ 16
    pub low_matrix : Low P m
    pub low : Low P w
