-- What the flags of a call promise. Assumes nothing.
use mathlib.Core.Path.{◌≡◌, refl, sym, ap, ◌∙◌}
use mathlib.Core.Bool.{Bool, true, ◌&&◌}
use mathlib.Core.List.{List, [], ◌∷◌}
use Prim.Native.Nat.{ℕ}
use native.Mathlib.Omega.{arith}
use lib.Dec.{ltb}
use lib.ListN.{length}
use Rattle.algebra.specs.Tests.{all, and_both}
use Rattle.algebra.specs.Words.{PrimeField}
use Rattle.job.specs.Outcome.{done}
use Rattle.job.specs.OutcomeLaws.{pass_demand}
use Rattle.job.specs.Sizes.{in_limits}
use Rattle.job.specs.SizeLaws.{within, block_most, diagonals_most, size_most, low_most}
use Rattle.words.specs.Scans.{all_below}
use Rattle.places.specs.Inputs.{judge_words}
use Rattle.parameters.specs.Parameters.{Sized, RowScanned}
use Rattle.base_parameters.specs.Parameters.{Flagged}
use Rattle.base_parameters.specs.ParameterLaws.{row_short, flagged}
use Rattle.opened.specs.Opened.{opened_lengths, claim_inputs, claim_words}
use Rattle.opened.specs.OpenedLaws.{opened_lengths_lem}

module _ (𝓕 : PrimeField) where
  open 𝓕 use {modulus as P}

  -- the flag of all words, where it is set
  pub claim_below : (w z : List ℕ) (y : ℕ) (r o : List ℕ) {row words : Bool} → words ≡ (row && claim_words 𝓕 w z y r o) → words ≡ true
      → (row ≡ true) × (judge_words 𝓕 (claim_inputs w z y r o) ≡ done tt)
  unfolding all
  claim_below w z y r o {row} e f =
      let k₁ = and_both row _ (sym e ∙ f) in
      let k₂ = and_both (all_below 𝓕 w) _ k₁.1 in
      let k₃ = and_both (all_below 𝓕 z) _ k₂.1 in
      let k₄ = and_both (ltb y P) _ k₃.1 in
      let k₅ = and_both (all_below 𝓕 r) _ k₄.1 in
      let one : all_below 𝓕 (y ∷ []) ≡ true = ap (λ b. b && true) k₄.0 in
      (k₁.0, sym (pass_demand _ k₂.0 (pass_demand _ k₃.0 (pass_demand _ one (pass_demand _ k₅.0 (pass_demand _ k₅.1 refl))))))

  -- where the lengths are right, each word has an index and the base matrix its length; where the words are, so are those of the base matrix
  pub opened_flagged : (d c k : ℕ) (g t t' w z : List ℕ) (y : ℕ) (r o : List ℕ) {l row apart words : Bool}
      → l ≡ (in_limits d c k && opened_lengths d c k (length g) (length t) (length t') (length w) (length z) (length r) (length o)) → RowScanned 𝓕 l g t t' row apart
      → words ≡ (row && claim_words 𝓕 w z y r o) → Sized l g t t' w z (y ∷ []) r o × Flagged 𝓕 c k g l words
  opened_flagged d c k g t t' w z y r o {l} {row} e 𝓢 h = (
    λ f. let a = and_both (in_limits d c k) _ (sym e ∙ f) in
        let p = (opened_lengths_lem d c k (length g) (length t) (length t') (length w) (length z) (length r) (length o)).0 a.1 in
        let 𝓛 = p.1 in
        let 𝓦 = within d c k a.0 in
        row_short d c k g t t' w z (y ∷ []) r o a.0 p.0
        (omega (arith, 𝓛.block, block_most 𝓦 d (omega arith))) (omega (arith, 𝓛.point, 𝓦.depth, low_most k)) (omega arith) (omega (arith, 𝓛.challenges, 𝓦.depth))
        (omega (arith, 𝓛.opening, 𝓦.depth, size_most 𝓦.size, diagonals_most 𝓦 d (omega arith))),
    flagged 𝓕 d c k g t t' (λ f. ((opened_lengths_lem d c k (length g) (length t) (length t') (length w) (length z) (length r) (length o)).0 (and_both (in_limits d c k) _ (sym e ∙ f)).1).0) 𝓢
        (λ f. (and_both row _ (sym h ∙ f)).0),
  )
