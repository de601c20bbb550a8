-- What the tests of base matrix and diagonals say where they hold. Assumes nothing.
use Rattle.std.specs.Prelude.{◌≡◌, refl, Bool, true, ◌&&◌, List, [], ◌∷◌, ◌++◌, ℕ}
use Rattle.std.proofs.Math.Path.{sym}
use Rattle.std.proofs.Common.{◌∙◌}
use Rattle.algebra.specs.Words.{PrimeField}
use Rattle.algebra.specs.Tests.{and_both}
use Rattle.algebra.specs.WordLists.{Low}
use Rattle.job.specs.declared.Input.{Input}
use Rattle.job.specs.Outcome.{done}
use Rattle.job.specs.OutcomeLaws.{pass_demand}
use Rattle.words.specs.Scans.{all_below}
use Rattle.words.specs.ScanLaws.{all_below_lem}
use Rattle.places.specs.Inputs.{Lent, judge_words}
use Rattle.parameters.specs.Parameters.{row_inputs, row_words}

module _ (𝓕 : PrimeField) where
  open 𝓕 use {modulus as P}

  -- words that pass, one input after another
  pub row_below : (g t t' : List ℕ) (xs : List Lent) → row_words 𝓕 g t t' ≡ true → judge_words 𝓕 xs ≡ done tt → judge_words 𝓕 (row_inputs g t t' ++ xs) ≡ done tt
  unfolding row_words
  row_below g t t' xs e f =
      let a = and_both (all_below 𝓕 g) _ e in
      let b = and_both (all_below 𝓕 t) _ a.1 in
      sym (pass_demand _ a.0 (pass_demand _ b.0 (pass_demand _ b.1 (sym f))))

  -- one input behind them
  pub one_below : (i : Input) (m : List ℕ) {row words : Bool} → words ≡ (row && all_below 𝓕 m) → words ≡ true → (row ≡ true) × (judge_words 𝓕 ((i, m) ∷ []) ≡ done tt)
  one_below i m {row} e q = let a = and_both row (all_below 𝓕 m) (sym e ∙ q) in (a.0, sym (pass_demand _ a.1 refl))

  pub record RowWords (g t t' : List ℕ) : Type 0 where
    pub row : Low P g
    pub first : Low P t
    pub second : Low P t'

  pub row_words_lem : (g t t' : List ℕ) → row_words 𝓕 g t t' ≡ true → RowWords g t t'
  unfolding row_words
  row_words_lem g t t' e =
      let a = and_both (all_below 𝓕 g) _ e in
      let b = and_both (all_below 𝓕 t) _ a.1 in
      record { row = all_below_lem 𝓕 g a.0; first = all_below_lem 𝓕 t b.0; second = all_below_lem 𝓕 t' b.1 }
