-- What the steps of the sums are lent, and what the sums leave. Definitions only. Assumes nothing.
use Rattle.std.specs.Prelude.{◌≡◌, List, ℕ, ◌≤◌, ◌<◌, length, Result, Ok, Err}
use Rattle.std.proofs.Math.Option.{Option, some}
use Rattle.algebra.specs.Words.{PrimeField}
use Rattle.algebra.specs.WordLists.{Low as LowWords, elements}
use Rattle.basefold.specs.Layout.{final_at, sent}
use Rattle.basefold.specs.Checks.{Check, first_failure, sums_from}
use Rattle.residue.specs.Elements.{Low, elem}
use Rattle.residue.specs.declared.Residue.{Residue}
use Rattle.verdict.specs.declared.Failure.{Failure}
use Rattle.verdict.specs.declared.Failure.TheVariants.{Sum, Final, Base, Fold}
use Rattle.verdict.specs.Verdicts.{check}

module _ (𝓕 : PrimeField) where
  infixl 65 ◌⊞◌
  open 𝓕 use {modulus as P, field as F}
  open F use {ring as K}
  open K use {R as Element, ◌+◌ as ◌⊞◌}

  -- an opening that holds h_i
  pub record RoundSent (d i : ℕ) (o : List ℕ) : Type 0 where
    pub positive : 0 < i
    pub level : i ≤ d
    pub long : final_at d < length o
    pub low : LowWords P o

  -- h_i at 0 and at 1, summed
  abbrev pub round_sum : ℕ → ℕ → List ℕ → Element
  round_sum d i o = sent F (elements 𝓕 o) d i 0 ⊞ sent F (elements 𝓕 o) d i 1

  -- challenges with r_(i-1) among them
  pub record ChallengeSent (i : ℕ) (r : List ℕ) : Type 0 where
    pub long : i ≤ length r
    pub low : LowWords P r

  -- a claim, challenges, and an opening with all rounds and v
  pub record SumsInput (d : ℕ) (y : Residue) (r o : List ℕ) : Type 0 where
    pub claim : Low 𝓕 y
    pub challenges : length r ≡ d
    pub low : LowWords P r
    pub long : final_at d < length o
    pub opening : LowWords P o

  -- the first failure by the answer of the sums: sum i failed, or the final check decides
  abbrev pub after_sums : (low : ℕ) (o z r : List Element) → Result Residue Failure → Option Check
  after_sums low o z r (Ok w) = first_failure (sums_from F low o z r 0 (elem 𝓕 w))
  after_sums low o z r (Err f) = some (check f)

  -- the claim that is left is below the modulus; what fails is a sum
  abbrev pub LowClaim : Result Residue Failure → Type 0
  LowClaim (Ok w) = Low 𝓕 w
  LowClaim (Err (Sum i)) = Unit {0}
  LowClaim (Err Final) = ⊥
  LowClaim (Err (Base j)) = ⊥
  LowClaim (Err (Fold q i)) = ⊥

  -- the answer s of the sums from the top one on, with any number of low variables and at every point
  pub record SumsResult (d : ℕ) (y : Residue) (r o : List ℕ) (s : Result Residue Failure) : Type 0 where
    pub low : LowClaim s
    pub first : (low : ℕ) (z : List Element) → first_failure (sums_from F low (elements 𝓕 o) z (elements 𝓕 r) d (elem 𝓕 y)) ≡ after_sums low (elements 𝓕 o) z (elements 𝓕 r) s
