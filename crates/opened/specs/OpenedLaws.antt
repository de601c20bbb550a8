-- What the tests of lengths and words say. Assumes nothing.
use Rattle.std.specs.Prelude.{◌≡◌, refl, ◌↔◌, List, [], ◌∷◌, ℕ, ◌<◌, eqb, ltb}
use Rattle.std.proofs.Math.Path.{sym}
use Rattle.std.proofs.Math.Bool.{true}
use borrow.Author.Tests.{eqb-true, eq-eqb, ltb-true}
use Rattle.algebra.specs.Tests.{all, and_both}
use Rattle.algebra.specs.Words.{PrimeField}
use Rattle.algebra.specs.WordLists.{Low, low_none, low_cons}
use Rattle.job.specs.Outcome.{done}
use Rattle.job.specs.OutcomeLaws.{pass_demand, demand_done}
use Rattle.job.specs.Limits.{block_size}
use Rattle.job.specs.Sizes.{base_size, point_size, opening_size}
use Rattle.words.specs.Scans.{all_below}
use Rattle.words.specs.ScanLaws.{all_below_lem, below_all}
use Rattle.places.specs.Inputs.{judge_words}
use Rattle.base_parameters.specs.Parameters.{row_lengths}
use Rattle.opened.specs.Opened.{opened_lengths, claim_inputs}

-- the lengths of block, z, r and opening
pub record ClaimLengths (d c k w z r o : ℕ) : Type 0 where
  pub block : w ≡ block_size (base_size c k) d
  pub point : z ≡ point_size d k
  pub challenges : r ≡ d
  pub opening : o ≡ opening_size d c k

-- what the test of all lengths says
pub opened_lengths_lem : (d c k g t t' w z r o : ℕ) → (opened_lengths d c k g t t' w z r o ≡ true) ↔ ((row_lengths d c k g t t' ≡ true) × ClaimLengths d c k w z r o)
unfolding opened_lengths
opened_lengths_lem d c k g t t' w z r o = (
  λ e. let a = and_both (row_lengths d c k g t t') _ e in
      let b = and_both (eqb w (block_size (base_size c k) d)) _ a.1 in
      let h = and_both (eqb z (point_size d k)) _ b.1 in
      let i = and_both (eqb r d) _ h.1 in
      (a.0, record { block = eqb-true _ _ b.0; point = eqb-true _ _ h.0; challenges = eqb-true _ _ i.0; opening = eqb-true _ _ i.1 }),
  λ p. let 𝓛 = p.1 in rw (p.0, eq-eqb _ _ 𝓛.block, eq-eqb _ _ 𝓛.point, eq-eqb _ _ 𝓛.challenges, eq-eqb _ _ 𝓛.opening) refl,
)

module _ (𝓕 : PrimeField) where
  open 𝓕 use {modulus as P}

  -- the words of block, z, y, r and opening
  pub record ClaimLow (w z : List ℕ) (y : ℕ) (r o : List ℕ) : Type 0 where
    pub block : Low P w
    pub point : Low P z
    pub value : y < P
    pub challenges : Low P r
    pub opening : Low P o

  pub claim_low : (w z : List ℕ) (y : ℕ) (r o : List ℕ) → (judge_words 𝓕 (claim_inputs w z y r o) ≡ done tt) ↔ ClaimLow w z y r o
  unfolding all
  claim_low w z y r o = (
    λ e. let a = demand_done (all_below 𝓕 w) _ e in
        let b = demand_done (all_below 𝓕 z) _ a.1 in
        let h = demand_done (all_below 𝓕 (y ∷ [])) _ b.1 in
        let i = demand_done (all_below 𝓕 r) _ h.1 in
        record {
          block = all_below_lem 𝓕 w a.0;
          point = all_below_lem 𝓕 z b.0;
          value = ltb-true _ _ (and_both (ltb y P) true h.0).0;
          challenges = all_below_lem 𝓕 r i.0;
          opening = all_below_lem 𝓕 o (demand_done (all_below 𝓕 o) _ i.1).0;
        },
    λ 𝓛. sym
        (pass_demand _ (below_all 𝓕 w 𝓛.block)
        (pass_demand _ (below_all 𝓕 z 𝓛.point)
        (pass_demand _ (below_all 𝓕 (y ∷ []) (low_cons 𝓛.value (low_none P)))
        (pass_demand _ (below_all 𝓕 r 𝓛.challenges) (pass_demand _ (below_all 𝓕 o 𝓛.opening) refl))))),
  )
