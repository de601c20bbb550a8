-- What all checks over base messages of several words are lent, once nothing is refused. Definitions only. Assumes nothing.
use Rattle.std.specs.Prelude.{◌≡◌, List, ℕ, ◌+◌, ◌^◌, ◌≤◌, length}
use Rattle.algebra.specs.Words.{PrimeField}
use Rattle.algebra.specs.WordLists.{Low as LowWords}
use Rattle.basefold.specs.Layout.{final_at}
use Rattle.residue.specs.Elements.{Low}
use Rattle.residue.specs.declared.Residue.{Residue}
use Rattle.claims.specs.Steps.{SumsInput}
use Rattle.walks.specs.Steps.{QueryPlaces}
use Rattle.base_walks.specs.Steps.{RowsInput}

module _ (𝓕 : PrimeField) where
  open 𝓕 use {modulus as P}

  -- a claim, challenges, an opening with all rounds and the k words of v, and a point with `low` variables more than there are challenges
  pub record ClaimsInput (d low k : ℕ) (y : Residue) (z r o : List ℕ) : Type 0 where
    pub sums : SumsInput 𝓕 d y r o
    pub words : k ≡ 2 ^ low
    pub value : final_at d + k ≤ length o
    pub point : length z ≡ d + low
    pub below : LowWords P z

  -- what base and fold checks are lent, a point, a claimed value and queries
  pub record ChecksInput (d low k n : ℕ) (g t t' w z : List ℕ) (y : Residue) (r us o : List ℕ) : Type 0 where
    pub blocks : RowsInput 𝓕 d low k n g t t' w r o
    pub point : length z ≡ d + low
    pub below : LowWords P z
    pub claim : Low 𝓕 y
    pub queries : QueryPlaces n d us
